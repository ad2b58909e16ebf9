use Rattle.std.proofs.Common.{◌∙◌, sym, ap}
use Rattle.ccr_ledger.specs.Posting.{without_post}
use Rattle.ccr_ledger.proofs.Tables.{written, unwritten}
use Rattle.ccr_ledger.proofs.tasks.uncount_post.Goals as goal

pub returns-in-Some : goal.returns-in-Some
returns-in-Some c = ap (λ n. (c.get_mut.follows.lender (record c.in-Some.card.now { made = n })).entries) c.saturating_sub-card.ensures ∙ ((c.get_mut.follows.holds _).0 ∙ written without_post c.args.tasks.now.entries c.args.task c.in-Some.card.now (sym c.in-Some.ensures.value))

pub returns-in_default : goal.returns-in_default
returns-in_default c = ap (λ m. m.entries) c.get_mut.follows.holds-at-none ∙ unwritten without_post c.args.tasks.now.entries c.args.task (sym c.in_default.ensures.value)
