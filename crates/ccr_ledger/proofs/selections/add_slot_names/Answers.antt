use Rattle.std.proofs.Common.{◌≡◌, [], ap, sym, ◌∙◌, ◌++◌, append-nil, arith}
use Rattle.ccr_ledger.specs.Rows.{row}
use Rattle.ccr_ledger.proofs.Lacking.{none_taken}
use Rattle.ccr_ledger.proofs.selections.add_slot_names.Goals as goal
use Rattle.ccr_ledger.proofs.GrowingRows.{row-past}

pub returns-else-number-len-clause-names : goal.returns-else-number-len-clause-names
returns-else-number-len-clause-names c =
    let empty : row c.args.ports.now.items c.args.slot.now.port ≡ [] = row-past c.args.ports.now.items c.args.slot.now.port (omega arith) in
    sym (append-nil c.args.names.now.items) ∙ ap (λ ns. c.args.names.now.items ++ ns) (sym (none_taken (row c.args.ports.now.items) c.args.slot.now empty))
