use Rattle.std.proofs.Common.{◌≡◌, ◌∙◌, sym, ap, subst, List, length, arith}
use Rattle.std.proofs.lemmas.List.{length-replicate}
use Rattle.std.specs.List.{AllZip}
use Rattle.ccr_turns.specs.Seated.{IsLaid}
use Rattle.ccr_turns.proofs.Rows.{zip_length}
use Rattle.ccr_turns.proofs.Ends.{starts_free}
use Rattle.ccr_turns.proofs.turns.Turns.make.Goals as goal

pub new-requires : goal.new-requires
new-requires g c =
    let same : c.into_vec-objects.result.items ≡ c.of.result.value = c.into_vec-objects.ensures ∙ sym c.of.ensures in
    let laid = subst (λ (l : List _). AllZip (IsLaid c.args.keep) l c.in_ok-slots.slots.items) same c.in_ok-slots.ensures in
    starts_free g.O.Kept.value g.O.Kept.after g.O.Kept.may g.O.Kept.seen c.args.keep c.of.result.value c.args.seats c.len.result _ _ (c.as_slice.ensures.value ∙ c.in_ok-words.ensures) (c.len.ensures ∙ (c.into_vec-objects.result.ok.0 ∙ ap length same)) laid

pub invariant_of-turns : goal.invariant_of-turns
invariant_of-turns g c =
    let ok = c.in-Ok.ensures.ok in
    let words = ok.0 ∙ (ap length (c.as_slice.ensures.value ∙ c.in_ok-words.ensures) ∙ (length-replicate c.len.result 0 ∙ (c.len.ensures ∙ c.into_vec-objects.result.ok.0))) in
    let objects = zip_length (IsLaid c.args.keep) c.into_vec-objects.result.items c.in_ok-slots.slots.items c.in_ok-slots.ensures in
    let slots = ok.1 ∙ sym objects in
    let same = ap length c.into_vec-objects.ensures in
    let seats = ap (λ key. key.seats) ok.5 in
    let few = c.requires.places in
    let some_seats = c.requires.seats in
    record { places = (words ∙ sym slots, omega arith, omega arith); seats = omega arith }
