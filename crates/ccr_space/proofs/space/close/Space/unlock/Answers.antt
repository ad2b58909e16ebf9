use Rattle.std.proofs.Common.{◌∙◌, sym, ap, length, map, arith}
use Rattle.std.proofs.lemmas.List.{length-map}
use Rattle.ccr_turns.specs.Histories.{history_stamps}
use Rattle.ccr_turns.specs.Lists.{Rises}
use Rattle.ccr_turns.specs.Locks.{starts, seat_count, full_log, Agrees, IsLeft, number_of}
use Rattle.ccr_turns.proofs.Rows.{all_at, all_from, there_by_slice, zip_length}
use Rattle.ccr_object.specs.Objects.{after_deed, placed, IsGiven}
use Rattle.ccr_object.specs.Starts.{placed_at, places_of}
use Rattle.ccr_runs.proofs.InOrder.{merged_by_place, merged_climbs, merged_inside, merged_parts}
use Rattle.ccr_space.specs.Spaces.{wiring_of}
use Rattle.ccr_space.proofs.Closing.{all_rising, map_at, numbered, read_slice}
use Rattle.ccr_space.proofs.space.close.Space.unlock.Goals as goal

pub returns-in-Ok-clause-locks : goal.returns-in-Ok-clause-locks
returns-in-Ok-clause-locks c =
    let w = wiring_of c.args.self in
    let objects = starts c.args.self.turns in
    let its = c.in-Ok.ensures.whole in
    let whole = its.whole in
    let long = zip_length (IsLeft placed after_deed IsGiven (seat_count c.args.self.turns)) objects whole its.objects in
    let there = sym (length-map objects placed) ∙ (ap length c.requires.space.objects ∙ length-map (places_of w) (placed_at w)) in
    let few = c.requires.space.few in
    let rising = all_rising (seat_count c.args.self.turns) objects whole its.objects in
    record {
      whole = whole;
      part = its.part;
      few = omega arith;
      rising = rising;
      locks = record {
        kept = whole;
        left = its.objects;
        parts = λ place left at. merged_parts whole place left at (all_at (λ l. Rises 0 (history_stamps l.1)) whole place left rising (there_by_slice whole place left at));
        inside = merged_inside whole;
        sorted = merged_climbs whole;
        by_place = merged_by_place whole;
        agrees = all_from (λ seat. Agrees placed after_deed objects whole (full_log seat)) c.args.seats
            (λ i seat at. all_at (Agrees placed after_deed objects whole) (map full_log c.args.seats) i (full_log seat) its.agree (map_at full_log c.args.seats i seat at));
      };
    }

pub returns-in-Ok-clause-numbers : goal.returns-in-Ok-clause-numbers
returns-in-Ok-clause-numbers c = λ k low.
    let (i, seat, at, is) = numbered number_of k c.args.seats (c.in-Ok.ensures.numbers k low) in
    (i, seat, read_slice c.args.seats i seat at, is)
