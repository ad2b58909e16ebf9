use Rattle.ccr_cli.proofs.Endings.{never_rises}
use Rattle.ccr_cli.proofs.surely.run_surely.Goals as goal

pub returns-clause-read : goal.returns-clause-read
returns-clause-read g c = λ is. never_rises (c.run_ccr.ensures.read_fault is)

pub returns-clause-written : goal.returns-clause-written
returns-clause-written g c = λ is. never_rises (c.run_ccr.ensures.write_fault is)

pub returns-clause-complete : goal.returns-clause-complete
returns-clause-complete g c = λ command json is accepted. c.run_ccr.ensures.complete command json is accepted never_rises never_rises

pub returns-clause-load_complete : goal.returns-clause-load_complete
returns-clause-load_complete g c = λ size workers json is. c.run_ccr.ensures.load_complete size workers json is never_rises
