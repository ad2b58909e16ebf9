use Rattle.std.proofs.Common.{arith}
use Rattle.ccr_ledger.proofs.Views.{changed, looked_up}
use Rattle.ccr_ledger.proofs.rows.Rows.leave.Goals as goal

pub returns-clause-rest : goal.returns-clause-rest
returns-clause-rest g c =
    let was = looked_up _ _ _ _ c.index_mut-row.result.now c.pop_front.new.self c.self.view_is (omega arith) c.index_mut-row.ensures.value in
    changed _ _ _ _ c.index_mut-row.result.now c.pop_front.new.self c.self.view_is _ (rw was c.pop_front.ensures.rest)
