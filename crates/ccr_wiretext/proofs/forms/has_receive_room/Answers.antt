use Rattle.std.proofs.Common.{length, map, ◌∙◌}
use Rattle.std.specs.Prelude.{sum}
use Rattle.ccr_wiring.specs.declared.parts.ArbiterPart.{ArbiterPart}
use Rattle.ccr_wiretext.proofs.Rooms.{room_alone}
use Rattle.ccr_wiretext.proofs.forms.has_receive_room.Goals as goal

pub returns : goal.returns
returns c = c.has_branch_room.ensures ∙ room_alone (sum (map (λ (arbiter : ArbiterPart). length arbiter.branches) c.args.arbiters.now)) 256
