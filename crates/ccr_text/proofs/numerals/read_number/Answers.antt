use Rattle.std.proofs.Common.{◌≡◌, Some, arith}
use Rattle.std.proofs.lemmas.Grind.{common_steps}
use Rattle.ccr_text.specs.Words.{number_of}
use Rattle.ccr_text.proofs.Digits.{read_word, read_after}
use Rattle.ccr_text.proofs.numerals.read_number.Goals as goal

pub returns-in_err-number : goal.returns-in_err-number
returns-in_err-number c =
    let whole : read_after (Some 0) c.args.word.now ≡ number_of c.args.word.now = read_word c.args.word.now (grind (arith, common_steps)) in
    grind (arith, common_steps, whole)

pub returns : goal.returns
returns c =
    let whole : read_after (Some 0) c.args.word.now ≡ number_of c.args.word.now = read_word c.args.word.now (grind (arith, common_steps)) in
    grind (arith, common_steps, whole)
