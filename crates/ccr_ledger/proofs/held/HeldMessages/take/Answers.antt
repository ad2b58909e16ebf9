use Rattle.std.proofs.Common.{Some, sym, ap, ◌∙◌, arith}
use Rattle.std.proofs.lemmas.Option.{slice_get_within, get_or_from_slice_get}
use Rattle.ccr_ledger.proofs.Lanes.{found_in, first_taken, none_taken, taken}
use Rattle.ccr_ledger.proofs.Taking.{one_fewer}
use Rattle.ccr_ledger.proofs.held.HeldMessages.take.Goals as goal

pub returns-in_default-clause-message : goal.returns-in_default-clause-message
returns-in_default-clause-message c =
    rw (← c.self.view_is) (sym (none_taken c.args.pred c.self.inside.items.items (found_in c.args.pred _ c.self.inside.items.items _ _ c.deref.ensures.value c.in_ok-index.ensures.index c.in_default.is)).0)

pub returns-in_default-clause-rest : goal.returns-in_default-clause-rest
returns-in_default-clause-rest c =
    rw (← c.self.view_is) (none_taken c.args.pred c.self.inside.items.items (found_in c.args.pred _ c.self.inside.items.items _ _ c.deref.ensures.value c.in_ok-index.ensures.index c.in_default.is)).1

pub index_mut-requires : goal.index_mut-requires
index_mut-requires c =
    let at = found_in c.args.pred _ c.self.inside.items.items _ _ c.deref.ensures.value c.in_ok-index.ensures.index c.in-Some.is in
    let low = slice_get_within c.self.inside.items.items c.in-Some.index _ (first_taken c.args.pred c.self.inside.items.items c.in-Some.index at).1.at in
    omega (arith, low)

pub returns-in_default-take-clause-message : goal.returns-in_default-take-clause-message
returns-in_default-take-clause-message c =
    let at = found_in c.args.pred _ c.self.inside.items.items _ _ c.deref.ensures.value c.in_ok-index.ensures.index c.in-Some.is in
    let first = (first_taken c.args.pred c.self.inside.items.items c.in-Some.index at).1 in
    let here = c.take.ensures.message ∙ c.index_mut.ensures.value ∙ get_or_from_slice_get c.self.inside.items.items c.in-Some.index _ c.index_mut.result.now first.at in
    absurd (cc (here, c.in_default-take.is))

pub returns-in_default-take-clause-rest : goal.returns-in_default-take-clause-rest
returns-in_default-take-clause-rest c =
    let at = found_in c.args.pred _ c.self.inside.items.items _ _ c.deref.ensures.value c.in_ok-index.ensures.index c.in-Some.is in
    let first = (first_taken c.args.pred c.self.inside.items.items c.in-Some.index at).1 in
    let here = c.take.ensures.message ∙ c.index_mut.ensures.value ∙ get_or_from_slice_get c.self.inside.items.items c.in-Some.index _ c.index_mut.result.now first.at in
    absurd (cc (here, c.in_default-take.is))

pub invariant_of-self-2 : goal.invariant_of-self-2
invariant_of-self-2 c =
    let at = found_in c.args.pred _ c.self.inside.items.items _ _ c.deref.ensures.value c.in_ok-index.ensures.index c.in-Some.is in
    let first = first_taken c.args.pred c.self.inside.items.items c.in-Some.index at in
    let here = c.take.ensures.message ∙ c.index_mut.ensures.value ∙ get_or_from_slice_get c.self.inside.items.items c.in-Some.index _ c.index_mut.result.now first.1.at in
    let same = first.1.at ∙ ap (λ o. Some o) (sym (sym c.in-Some-take.is ∙ here)) in
    rw (c.take.ensures.gone, c.lose_all.ensures) (
      taken c.self.inside.items.items c.in-Some.index c.in-Some-take.message _ same (rw c.deref.ensures.value at c.in_ok-index.ensures.lanes),
      one_fewer c.args.pred _ _ first.0 first.1 c.self.inside.left _ c.self.invariant.1 c.saturating_sub-self-inside.ensures,
    )

pub returns-clause-message : goal.returns-clause-message
returns-clause-message c =
    let at = found_in c.args.pred _ c.self.inside.items.items _ _ c.deref.ensures.value c.in_ok-index.ensures.index c.in-Some.is in
    let first = (first_taken c.args.pred c.self.inside.items.items c.in-Some.index at).1 in
    let here = get_or_from_slice_get c.self.inside.items.items c.in-Some.index _ c.index_mut.result.now first.at in
    rw (← c.self.view_is, first.first) (sym c.in-Some-take.is ∙ (c.take.ensures.message ∙ c.index_mut.ensures.value ∙ here))

pub returns-clause-rest : goal.returns-clause-rest
returns-clause-rest c =
    let at = found_in c.args.pred _ c.self.inside.items.items _ _ c.deref.ensures.value c.in_ok-index.ensures.index c.in-Some.is in
    let first = (first_taken c.args.pred c.self.inside.items.items c.in-Some.index at).1 in
    rw (← c.self.view_is, c.take.ensures.gone) first.rest
