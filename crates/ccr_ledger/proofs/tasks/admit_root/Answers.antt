use Rattle.std.proofs.Common.{◌∙◌, sym, ap}
use Rattle.ccr_ledger.specs.Events.{admit_root}
use Rattle.ccr_ledger.proofs.Tables.{written, unwritten}
use Rattle.ccr_ledger.proofs.tasks.admit_root.Goals as goal

pub returns-in-Some : goal.returns-in-Some
returns-in-Some c = (c.get_mut.follows.holds _).0 ∙ written admit_root c.args.tasks.now.entries c.args.task c.in-Some.card.now (sym c.in-Some.ensures.value)

pub returns-in_default : goal.returns-in_default
returns-in_default c = ap (λ m. m.entries) c.get_mut.follows.holds-at-none ∙ unwritten admit_root c.args.tasks.now.entries c.args.task (sym c.in_default.ensures.value)
