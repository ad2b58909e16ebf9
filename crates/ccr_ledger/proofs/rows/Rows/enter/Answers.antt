use Rattle.std.proofs.Common.{arith}
use Rattle.std.proofs.lemmas.Result.{err_from_is_err_and}
use Rattle.ccr_ledger.proofs.Views.{changed, unchanged, looked_up}
use Rattle.ccr_ledger.proofs.rows.Rows.enter.Goals as goal

pub returns-in_err-push_back-clause-err : goal.returns-in_err-push_back-clause-err
returns-in_err-push_back-clause-err g c =
    let p = err_from_is_err_and c.from_residual.result c.from_residual.ensures.1 in
    rw p.1 (unchanged _ _ _ _ c.index_mut-row.result.now c.push_back.new.self c.self.view_is c.index_mut-row.ensures.value c.in_err-push_back.ensures.items)

pub returns-in_ok-push_back-clause-ok : goal.returns-in_ok-push_back-clause-ok
returns-in_ok-push_back-clause-ok g c =
    let was = looked_up _ _ _ _ c.index_mut-row.result.now c.push_back.new.self c.self.view_is (omega arith) c.index_mut-row.ensures.value in
    changed _ _ _ _ c.index_mut-row.result.now c.push_back.new.self c.self.view_is _ (rw was c.in_ok-push_back.ensures.items)
