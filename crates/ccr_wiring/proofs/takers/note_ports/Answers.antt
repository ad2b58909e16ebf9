use Rattle.std.proofs.Common.{sym, ap, ◌∙◌}
use Rattle.std.specs.Option.{option_map}
use Rattle.ccr_wiring.specs.Placements.{placement_seen}
use Rattle.ccr_wiring.proofs.Soundness.{sound}
use Rattle.ccr_wiring.proofs.takers.note_ports.Goals as goal

pub note_pattern-requires : goal.note_pattern-requires
note_pattern-requires c = (sound c.args.parts.now c.requires.valid).apart c.in-Branch.branch (placement_seen c.in-Some.placement) (sym c.placement_of.ensures ∙ ap (option_map placement_seen) c.in-Some.is)
