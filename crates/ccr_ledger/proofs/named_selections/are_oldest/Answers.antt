use Rattle.std.proofs.Common.{◌≡◌, ◌∙◌, length, arith}
use Rattle.std.proofs.lemmas.Bool.Decides.{nat_tests}
use Rattle.ccr_ledger.specs.Rows.{row}
use Rattle.ccr_ledger.proofs.Prefixes.{oldest-told}
use Rattle.ccr_ledger.proofs.named_selections.are_oldest.Goals as goal

pub returns-clause-are : goal.returns-clause-are
returns-clause-are c =
    let many : length c.args.names.now ≡ 1 = grind (arith, nat_tests, c.if-names-ne1.false) in
    c.are_prefix.ensures ∙ oldest-told (row c.args.ports.now.items c.args.port) c.args.names.now _ many (c.deref.ensures.value ∙ c.in_ok-oldest.ensures.names)
