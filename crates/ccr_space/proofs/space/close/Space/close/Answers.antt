use Rattle.std.proofs.Common.{◌∙◌, ◌^◌, ◌<◌, length, sym, ap, subst, List, map}
use Rattle.std.specs.Prelude.{All}
use Rattle.std.proofs.lemmas.List.Elements.{All-map}
use Rattle.ccr_turns.specs.Histories.{history_stamps}
use Rattle.ccr_turns.specs.Lists.{Rises}
use Rattle.ccr_turns.specs.Locks.{IsSeatOf}
use Rattle.ccr_runs.specs.Played.{entries_of}
use Rattle.ccr_runs.specs.Orders.{merged}
use Rattle.ccr_space.specs.Closes.{PlaceAndHistory, IsOfLocks}
use Rattle.ccr_space.specs.Spaces.{Pass, wiring_of}
use Rattle.ccr_space.proofs.Closing.{closed_by, is_whole}
use Rattle.ccr_space.proofs.space.close.Space.close.Goals as goal

pub unlock-requires-clause-seats : goal.unlock-requires-clause-seats
unlock-requires-clause-seats c =
    let these = c.from_vec.ensures ∙ (c.seats_of-seats.ensures.seats ∙ ap (map (λ (pass : Pass). pass.seat)) c.into_vec-passes.ensures) in
    subst (λ (seats : List _). All (λ seat. IsSeatOf c.args.self.turns seat) seats) (sym these)
    (All-map (λ seat. IsSeatOf c.args.self.turns seat) (λ (pass : Pass). pass.seat) c.args.passes (λ k d l. (c.requires.passes k d l).seat))

pub merge-requires : goal.merge-requires
merge-requires c =
    let its = c.in_ok-kept.ensures.locks in
    let whole = is_whole c.args.self c.from_vec.result c.in_ok-kept.kept its c.requires.space.every in
    record {
      few = subst (λ (kept : List PlaceAndHistory). length kept < 2 ^ 32) whole its.few;
      rising = subst (λ (kept : List PlaceAndHistory). All (λ left. Rises 0 (history_stamps left.1)) kept) whole its.rising;
    }

pub returns-clause-run : goal.returns-clause-run
returns-clause-run c =
    let these = c.from_vec.ensures ∙ (c.seats_of-seats.ensures.seats ∙ ap (map (λ (pass : Pass). pass.seat)) c.into_vec-passes.ensures) in
    let kept = c.in_ok-kept.kept in
    let its = c.in_ok-kept.ensures.locks in
    let whole = is_whole c.args.self c.from_vec.result kept its c.requires.space.every in
    let locks = subst (λ (k : List PlaceAndHistory). IsOfLocks c.args.self c.from_vec.result (merged k)) whole its.locks in
    closed_by c.args.self c.args.passes c.from_vec.result (merged kept) c.in_ok-full.full.entries c.requires.space.has_places c.requires.passes these locks c.in_ok-kept.ensures.numbers
    (c.in_ok-full.ensures ∙ ap (entries_of (wiring_of c.args.self)) c.in_ok-acts.ensures.exact)
