use Rattle.std.proofs.Common.{◌≡◌, ℕ, ◌+◌, ◌<◌, ◌≤◌, length, List, false, ◌∙◌, sym, ap, subst, arith, set, get_or, get_or-set_other, get_or-set_same, Some}
use Rattle.std.specs.Slots.{slots_items, slots_filled, slots_counts}
use Rattle.std.proofs.lemmas.Option.{same_Some}
use Rattle.ccr_base.proofs.Options.{no_some}
use mathlib.Core.Logic.{dite}
use mathlib.Core.Option.{some, some-injective}
use native.Mathlib.Decide.{ℕ_discrete}
use lib.ListN.{get_elem?}
use Rattle.atomic_table.proofs.Lists.{at_last, at_longer}
use Rattle.ccr_turns.specs.declared.history.Cell.{Cell}
use Rattle.ccr_turns.proofs.Rows.{within}
use Rattle.ccr_turns.proofs.turns.close.lift.Goals as goal

pub unreachable-requires : goal.unreachable-requires
unreachable-requires g c =
    let inv = c.loop-place.invariant in
    let at = c.loop-place.place in
    let row = c.loop-place.closed.slots in
    let inside : at < length (slots_items c.args.closed.slots) = let a = (slots_counts c.args.closed.slots).0 in let b = c.slot_count-place-end.ensures in let d = c.loop-place-test.true in omega arith in
    let cell = c.requires.cells at inside in
    let found : get_elem? (slots_items c.args.closed.slots) at ≡ some c.take-slot.result = subst (λ (l : List _). get_elem? l at ≡ some c.take-slot.result) inv.2 c.take-slot.ensures.value in
    no_some c.take-slot.result cell.0 c.in_default.is (some-injective c.take-slot.result (Some cell.0) (sym found ∙ cell.1))

pub loop-place-preserved : goal.loop-place-preserved
loop-place-preserved g c =
    let inv = c.loop-place.invariant in
    let others = c.take-slot.ensures.others in
    let at : ℕ = c.loop-place.place in
    let row = c.loop-place.closed.slots in
    let here : Cell _ _ = c.in-Some.field-0 in
    let inside : at < length (slots_filled row) = let a = (slots_counts row).1 in let b = inv.3 in let d = c.loop-place-test.true in omega arith in
    let found : get_elem? (slots_items c.args.closed.slots) at ≡ some c.take-slot.result = subst (λ (l : List _). get_elem? l at ≡ some c.take-slot.result) inv.2 c.take-slot.ensures.value in
    let long : length c.loop-place.kept.items ≡ at = sym c.loop-place.kept.ok.0 ∙ inv.4 in (
      (λ k ge lt. let len = others.2 in ap (λ f. get_or f k false) others.1 ∙ (get_or-set_other (slots_filled row) at k false false (λ e. omega arith) ∙ inv.0 k (omega arith) (omega arith))),
      (λ k lt. ap (λ f. get_or f k false) others.1 ∙ dite (ℕ_discrete k at)
          (λ e. ap (λ j. get_or (set (slots_filled row) at false) j false) e ∙ get_or-set_same (slots_filled row) at false false inside)
          (λ ne. get_or-set_other (slots_filled row) at k false false ne ∙ inv.1 k (omega arith))),
      others.0 ∙ inv.2,
      others.2 ∙ inv.3,
      c.push_reserved.ensures.len ∙ ap (λ n. n + 1) inv.4,
      subst (λ n. c.slot_count-place-end.result ≤ n) (sym c.push_reserved.ensures.capacity) inv.5,
      (λ i cell below there. subst (λ (l : List _). get_elem? l i ≡ some (cell.object, cell.seen.items)) (sym c.push_reserved.ensures.items) (dite (ℕ_discrete i at)
          (λ e. let is : here ≡ cell = same_Some here cell (sym c.in-Some.is ∙ some-injective c.take-slot.result (Some cell) (sym found ∙ (ap (get_elem? (slots_items c.args.closed.slots)) (sym e) ∙ there))) in
          at_last c.loop-place.kept.items _ i (long ∙ sym e) ∙ (ap (λ (h : List _). some (here.object, h)) c.from_vec.ensures ∙ (λ d. some ((is d).object, (is d).seen.items))))
          (λ ne. at_longer c.loop-place.kept.items _ i _ (inv.6 i cell (omega arith) there)))),
    )

pub returns : goal.returns
returns g c =
    let inv = c.loop-place.invariant in
    let a = (slots_counts c.args.closed.slots).0 in
    let b = c.slot_count-place-end.ensures in
    let d = c.loop-place-test.false in
    let e = c.loop-place.auto.place-end in
    let done : c.loop-place.place ≡ length (slots_items c.args.closed.slots) = omega arith in
    (sym c.loop-place.kept.ok.0 ∙ (inv.4 ∙ done), (λ i cell there. inv.6 i cell (let inside = within _ i _ there in omega arith) there))
