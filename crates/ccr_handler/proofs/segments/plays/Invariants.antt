use Rattle.std.specs.List.{slice_get}
use Rattle.ccr_handler.proofs.PlaysLeft.{PlaysLeft}
use Rattle.ccr_handler.proofs.segments.plays.Given as goal

-- the posts so far, and what the actions still to come play
abbrev pub invariant-actions : goal.invariant-actions
invariant-actions l = PlaysLeft (slice_get l.exception_ports) l.values l.segment l.causes l.actions l.action-index l.posts.items l.now
