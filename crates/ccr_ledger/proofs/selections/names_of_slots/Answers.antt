use Rattle.std.proofs.Common.{◌≡◌, Some, ap, refl, sym, ◌∙◌, arith, flat_map, append-nil}
use Rattle.std.proofs.lemmas.List.{drop_all}
use Rattle.ccr_ledger.specs.Rows.{row}
use Rattle.ccr_model.specs.Selection.{names_of}
use Rattle.ccr_ledger.specs.Taking.{slot_takes}
use Rattle.ccr_ledger.proofs.Lacking.{no_selection_of_slots, names_of_whole_selection}
use Rattle.ccr_ledger.proofs.selections.names_of_slots.Goals as goal

pub returns-then-not-branch-clause-names : goal.returns-then-not-branch-clause-names
returns-then-not-branch-clause-names c =
    let none = no_selection_of_slots (row c.args.ports.now.items) c.args.slots.now (sym c.in_ok-slots_have_enough.ensures.enough ∙ c.if-not-branch.true) in
    rw none refl

pub returns-clause-names : goal.returns-clause-names
returns-clause-names c =
    let whole = sym c.in_ok-slots_have_enough.ensures.enough ∙ c.if-not-branch.false in
    let asked = c.slots_have_enough.new.ports.items in
    let names : c.loop-slot.names.items ≡ flat_map (λ slot. names_of (slot_takes (row asked) slot)) c.args.slots.now =
    rw (drop_all c.loop-slot.slot-index c.args.slots.now (omega arith), append-nil c.loop-slot.names.items) at c.loop-slot.invariant.names in
    ap Some (names ∙ ap (λ rows. flat_map (λ slot. names_of (slot_takes (row rows) slot)) c.args.slots.now) c.in_ok-slots_have_enough.ensures.kept)
    ∙ sym (names_of_whole_selection (row c.args.ports.now.items) c.args.slots.now whole)
