use Rattle.std.proofs.Common.{arith, ◌∙◌, sym, ap}
use Rattle.ccr_ledger.specs.Posting.{with_post}
use Rattle.ccr_ledger.specs.declared.cards.Card.{Card}
use Rattle.ccr_ledger.proofs.Tables.{written, unwritten}
use Rattle.ccr_ledger.proofs.ChangedBack.{changed-same}
use Rattle.ccr_ledger.proofs.tasks.count_post.Goals as goal

pub returns-in-Some-checked_add-clause-ok : goal.returns-in-Some-checked_add-clause-ok
returns-in-Some-checked_add-clause-ok c = ap (λ n. (c.get_mut.follows.lender (record c.in-Some.card.now { made = n })).entries) (grind arith) ∙ ((c.get_mut.follows.holds _).0 ∙ written with_post c.args.tasks.now.entries c.args.task c.in-Some.card.now (sym c.in-Some.ensures.value))

pub returns-in_default-clause-ok : goal.returns-in_default-clause-ok
returns-in_default-clause-ok c = ap (λ m. m.entries) c.get_mut.follows.holds-at-none ∙ unwritten with_post c.args.tasks.now.entries c.args.task (sym c.in_default.ensures.value)

pub returns-in_default-checked_add-clause-err : goal.returns-in_default-checked_add-clause-err
returns-in_default-checked_add-clause-err c = (c.get_mut.follows.holds c.in-Some.card.now).0 ∙ (written (λ (card : Card). card) c.args.tasks.now.entries c.args.task c.in-Some.card.now (sym c.in-Some.ensures.value) ∙ changed-same c.args.tasks.now.entries c.args.task)
