use Rattle.std.proofs.Common.{Err, subst, sym}
use Rattle.ccr_service.specs.Grammar.{IsText}
use Rattle.ccr_service.proofs.Keeping.{read_so}
use Rattle.ccr_service.proofs.ReadingIsExact.{said_of, says_nothing}
use Rattle.ccr_service.proofs.reading.read_service.Goals as goal

pub of-requires : goal.of-requires
of-requires c = read_so c.args.text.now c.in-Ok.parts c.in-Ok.ensures

pub returns-in-Ok-clause-grammar : goal.returns-in-Ok-clause-grammar
returns-in-Ok-clause-grammar c = subst (IsText c.args.text.now) (sym c.of.ensures) (said_of c.args.text.now c.in-Ok.parts c.in-Ok.ensures)

pub returns-in-Err-clause-refused : goal.returns-in-Err-clause-refused
returns-in-Err-clause-refused c = says_nothing c.args.text.now (Err c.in-Err.refused) c.in-Err.ensures
