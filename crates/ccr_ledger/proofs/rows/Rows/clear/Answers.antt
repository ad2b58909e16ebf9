use Rattle.ccr_ledger.proofs.Views.{changed}
use Rattle.ccr_ledger.proofs.rows.Rows.clear.Goals as goal

pub returns-then-number-len : goal.returns-then-number-len
returns-then-number-len g c = changed _ _ _ _ c.index_mut-row.result.now c.clear.new.self c.self.view_is _ c.clear.ensures.items
