use Rattle.std.proofs.Common.{◌≡◌, ◌∙◌, length, sym, arith}
use Rattle.std.proofs.lemmas.Result.{err_from_is_err_and}
use Rattle.std.proofs.lemmas.List.{nil_from_length}
use Rattle.ccr_ledger.proofs.Views.{changed, unchanged}
use Rattle.ccr_ledger.proofs.rows.Rows.enter_alone.Goals as goal

pub returns-in_err-push_back-clause-err : goal.returns-in_err-push_back-clause-err
returns-in_err-push_back-clause-err g c =
    let p = err_from_is_err_and c.from_residual.result c.from_residual.ensures.1 in
    let was = c.index_mut-emptied.result.now in
    let none : length was.items ≡ 0 = omega (arith, was.ok.0, was.small.1, c.clear.ensures.capacity, c.clear.ensures.len, c.in_err-push_back.ensures.full) in
    rw p.1 (unchanged _ _ _ _ was c.push_back.new.self c.self.view_is c.index_mut-emptied.ensures.value (c.in_err-push_back.ensures.items ∙ (c.clear.ensures.items ∙ sym (nil_from_length was.items none))))

pub returns-in_ok-push_back-clause-ok : goal.returns-in_ok-push_back-clause-ok
returns-in_ok-push_back-clause-ok g c = changed _ _ _ _ c.index_mut-emptied.result.now c.push_back.new.self c.self.view_is _ (rw c.clear.ensures.items at c.in_ok-push_back.ensures.items)
