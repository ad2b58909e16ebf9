use Rattle.std.proofs.Common.{arith, sym, true, ◌≡◌, ◌<◌, ◌^◌}
use Rattle.ccr_words.specs.Table.{is_number}
use Rattle.ccr_words.proofs.Numbers.{read_err}
use Rattle.ccr_words.proofs.table.number.Goals as goal

pub returns-in-Err-clause-number : goal.returns-in-Err-clause-number
returns-in-Err-clause-number c =
    let is : is_number c.args.text.now ≡ true = cc in
    let fits : c.args.high < 2 ^ 32 = omega arith in
    sym (read_err c.in-Err.field-0 c.args.low c.args.high c.args.text.now is fits c.in-Err.ensures.value.0)
