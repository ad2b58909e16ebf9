use Rattle.std.proofs.Common.{◌≡◌, ◌∙◌, ap, length, arith, take}
use Rattle.std.proofs.lemmas.Bool.Decides.{nat_tests}
use Rattle.ccr_ledger.specs.Rows.{row}
use Rattle.ccr_model.specs.Selection.{names_of}
use Rattle.ccr_ledger.proofs.Prefixes.{gather-told}
use Rattle.ccr_ledger.proofs.named_selections.are_gather.Goals as goal

pub returns-clause-are : goal.returns-clause-are
returns-clause-are c =
    let rows = c.args.ports.now.items in
    let many : length c.args.names.now ≡ c.args.total = grind (arith, nat_tests, c.if-names-total.false) in
    let second = c.in_ok-of_second.ensures.names ∙ ap (λ ports. names_of (take c.args.total (row ports c.args.second))) c.in_ok-of_first.ensures.kept in
    c.are_prefixes.ensures ∙ gather-told c.args.total (row rows c.args.first) (row rows c.args.second) c.args.names.now _ _ many (c.deref.ensures.value ∙ c.in_ok-of_first.ensures.names) (c.deref-2.ensures.value ∙ second)
