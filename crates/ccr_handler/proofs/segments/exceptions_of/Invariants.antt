use Rattle.std.proofs.Common.{◌≡◌, take}
use Rattle.std.specs.List.{slice_get}
use Rattle.ccr_handler.specs.Playing.{exceptions}
use Rattle.ccr_handler.proofs.segments.exceptions_of.Given as goal

abbrev pub invariant-loop-cause : goal.invariant-loop-cause
invariant-loop-cause l = l.posts.items ≡ exceptions (slice_get l.exception_ports) l.value (take l.cause-index l.causes)
