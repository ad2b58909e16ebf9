-- The numbers of the codes of refusal.
use Rattle.std.specs.Prelude.{ℕ}
use Rattle.ccr_text.specs.declared.code.Code.{Code}
use Rattle.ccr_text.specs.declared.code.Code.TheVariants as refusals

-- the number by which a code is told
abbrev pub code_number : Code → ℕ
code_number refusals.Unclean = 1
code_number refusals.Version = 2
code_number refusals.Keyword = 3
code_number refusals.WordCount = 4
code_number refusals.Number = 5
code_number refusals.Declared = 6
code_number refusals.Reference = 7
code_number refusals.Repeat = 8
code_number refusals.OpenBlock = 9
code_number refusals.Limit = 10
code_number refusals.Empty = 11
code_number refusals.Crowded = 12
code_number refusals.Second = 13
code_number refusals.NameForm = 14
