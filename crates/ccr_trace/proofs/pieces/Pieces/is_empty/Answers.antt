use Rattle.std.proofs.Common.{◌∙◌, ap, length}
use Rattle.std.specs.Prelude.{◌==◌}
use Rattle.ccr_trace.proofs.Splitting.{none_left}
use Rattle.ccr_trace.proofs.pieces.Pieces.is_empty.Goals as goal

pub returns : goal.returns
returns c = none_left c.self.inside.separator c.self.inside.rest c.is_none.result c.is_none.ensures ∙ ap (λ left. length left == 0) c.self.view_is
