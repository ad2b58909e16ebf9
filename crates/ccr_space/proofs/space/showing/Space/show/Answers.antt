use Rattle.std.proofs.Common.{◌∙◌, sym, ap, subst, refl, List, map, length, arith}
use Rattle.std.specs.Prelude.{All}
use Rattle.std.proofs.Math.ListN.{get_or}
use Rattle.std.proofs.lemmas.List.{length-map}
use Rattle.std.proofs.lemmas.List.Elements.{All-map}
use Rattle.ccr_turns.specs.Histories.{history_stamps, keeps}
use Rattle.ccr_turns.specs.Lists.{Rises}
use Rattle.ccr_turns.specs.Locks.{IsSeatOf, keep_of, sifted_of}
use Rattle.ccr_object.specs.Events.{has_event}
use Rattle.ccr_runs.specs.Orders.{merged}
use Rattle.ccr_space.specs.Closes.{PlaceAndHistory, told}
use Rattle.ccr_space.specs.Shows.{acts_shown}
use Rattle.ccr_space.specs.Spaces.{Pass, wiring_of}
use Rattle.ccr_space.proofs.Closing.{closed_by}
use Rattle.ccr_space.proofs.Histories.{history_is, sifted_rises}
use Rattle.ccr_space.proofs.space.showing.Space.show.Goals as goal

pub unlock-requires-clause-seats : goal.unlock-requires-clause-seats
unlock-requires-clause-seats c =
    let these = c.from_vec.ensures ∙ (c.seats_of-seats.ensures.seats ∙ ap (map (λ (pass : Pass). pass.seat)) c.into_vec-passes.ensures) in
    subst (λ (seats : List _). All (λ seat. IsSeatOf c.args.self.turns seat) seats) (sym these)
    (All-map (λ seat. IsSeatOf c.args.self.turns seat) (λ (pass : Pass). pass.seat) c.args.passes (λ k d l. (c.requires.passes k d l).seat))

pub of-requires-clause-few : goal.of-requires-clause-few
of-requires-clause-few c =
    let its = c.in_ok-kept.ensures.locks in
    let few = its.few in
    let count = ap length its.part ∙ length-map its.whole (sifted_of (keeps (keep_of c.args.self.turns) has_event)) in
    omega (arith, few, count)

pub of-requires-clause-rising : goal.of-requires-clause-rising
of-requires-clause-rising c =
    let its = c.in_ok-kept.ensures.locks in
    let keep = keep_of c.args.self.turns in
    subst (λ (kept : List PlaceAndHistory). All (λ (left : PlaceAndHistory). Rises 0 (history_stamps left.1)) kept) (sym its.part)
    (All-map (λ (left : PlaceAndHistory). Rises 0 (history_stamps left.1)) (sifted_of (keeps keep has_event)) its.whole (λ k d l. sifted_rises keep 0 (get_or its.whole k d).1 (its.rising k d l)))

pub returns-clause-run : goal.returns-clause-run
returns-clause-run c =
    let w = wiring_of c.args.self in
    let these = c.from_vec.ensures ∙ (c.seats_of-seats.ensures.seats ∙ ap (map (λ (pass : Pass). pass.seat)) c.into_vec-passes.ensures) in
    let its = c.in_ok-kept.ensures.locks in
    record {
      entries = told w its.whole;
      closed = closed_by c.args.self c.args.passes c.from_vec.result (merged its.whole) (told w its.whole) c.requires.space c.requires.passes these its.locks c.in_ok-kept.ensures.numbers refl;
      shown = c.in_ok-history.ensures ∙ (ap acts_shown (c.in_ok-acts.ensures ∙ ap merged its.part) ∙ history_is (keep_of c.args.self.turns) w its.whole);
    }
