use Rattle.std.proofs.Common.{◌∙◌, sym, ap, append-nil}
use Rattle.ccr_ledger.specs.Rows.{row}
use Rattle.ccr_ledger.proofs.GrowingRows.{taken-one}
use Rattle.ccr_ledger.proofs.asked.row_of.Goals as goal
use Rattle.ccr_ledger.proofs.asked.row_of.Goals.{in-Some+in_ok-push, in_default}

pub loop-index-preserved : goal.loop-index-preserved
loop-index-preserved c = elim c.match-at.branch [
  | in-Some+in_ok-push w ↦ ap (λ v. v.items) w.tasks-is ∙ (w.in_ok-push.ensures.items ∙ taken-one c.loop-index.index (row c.args.rows.now c.args.number) c.loop-index.tasks.items _ w.in-Some.ensures c.loop-index.invariant)
  | in_default w ↦ ap (λ v. v.items) w.tasks-is ∙ (sym (append-nil c.loop-index.tasks.items) ∙ taken-one c.loop-index.index (row c.args.rows.now c.args.number) c.loop-index.tasks.items _ w.in_default.ensures c.loop-index.invariant)
]
