use Rattle.std.proofs.Common.{◌≡◌, true, take}
use Rattle.ccr_engine.specs.Parts.{are_done_in}
use Rattle.ccr_engine.proofs.parts.first_post.Given as goal

abbrev pub invariant-loop-number : goal.invariant-loop-number
invariant-loop-number l = (l.poster ≡ l.number) × (are_done_in l.ledger 0 (take l.number l.wiring.posters) ≡ true)
