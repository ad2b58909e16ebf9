use Rattle.std.proofs.Common.{◌∙◌, ap}
use Rattle.ccr_wiring.specs.declared.parts.Parts.{Parts}
use Rattle.ccr_report.specs.Rows.{counted_text}
use Rattle.ccr_report.proofs.RowsTold.{text_told}
use Rattle.ccr_report.proofs.lines.counted_text.Goals as goal

pub returns : goal.returns
returns c = λ history is.
    c.in_ok-text.ensures
    ∙ ap (λ (parts : Parts). counted_text parts c.args.counts.now) c.parts-2.ensures.parts
    ∙ text_told c.args.wiring.now c.args.counts.now history is
