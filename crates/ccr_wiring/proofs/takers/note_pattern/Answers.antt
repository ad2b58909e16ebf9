use Rattle.std.proofs.Common.{sym, ap, ◌∙◌}
use Rattle.ccr_wiring.specs.Repeats.{names_ports_once}
use Rattle.ccr_wiring.proofs.Noted.{gather_noted}
use Rattle.ccr_wiring.proofs.takers.note_pattern.Goals as goal

pub returns-in_ok-note-in-Gather-2 : goal.returns-in_ok-note-in-Gather-2
returns-in_ok-note-in-Gather-2 c =
    rw c.in-Gather.is (gather_noted c.in-Gather.first c.in-Gather.second c.args.spot c.args.lists.now c.note.new.lists c.note-in-Gather.new.lists (ap names_ports_once (sym c.in-Gather.is) ∙ c.requires) c.in_ok-note-in-Gather.ensures c.in_ok-note-in-Gather-2.ensures)
