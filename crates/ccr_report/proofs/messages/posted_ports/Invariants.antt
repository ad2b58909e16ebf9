use Rattle.std.proofs.Common.{◌≡◌, take}
use Rattle.ccr_model.specs.Posts.{posts}
use Rattle.ccr_report.specs.Counting.{ports_of}
use Rattle.ccr_report.proofs.messages.posted_ports.Given as goal

abbrev pub invariant-loop-event : goal.invariant-loop-event
invariant-loop-event l = l.ports.items ≡ ports_of (posts (take l.event-index l.events))
