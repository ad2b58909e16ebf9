use Rattle.std.proofs.Common.{◌≡◌, ◌++◌, drop, map}
use Rattle.ccr_service.specs.Expansion.{request}
use Rattle.ccr_service.proofs.expanding.script.Given as goal

-- the posts so far and those still to come are all
abbrev pub invariant-loop-ask : goal.invariant-loop-ask
invariant-loop-ask l = l.posts.items ++ map (request l.client) (drop l.ask-index l.asks) ≡ map (request l.client) l.asks
