-- No event makes a number grow by more than one, but for the messages that a firing takes.
use Rattle.std.proofs.Common.{◌≡◌, ℕ, zero, suc, ◌+◌, ◌-◌, ◌≤◌, ◌<◌, [], ◌∷◌, List, length, take, Option, Some, None, arith}
use Rattle.std.specs.Prelude.{◌^◌, option_to_list}
use Rattle.std.specs.List.{slice_get}
use Rattle.std.proofs.lemmas.Grind.{common_steps}
use Rattle.ccr_base.specs.declared.names.TaskId.{TaskId}
use Rattle.ccr_model.specs.declared.history.Event.{Event}
use Rattle.ccr_model.specs.declared.history.Event.TheVariants as events
use Rattle.ccr_model.specs.declared.history.EndHow.TheVariants as ends
use Rattle.ccr_model.specs.Posts.{taken}
use Rattle.ccr_model.specs.Firings.{cut}
use Rattle.ccr_ledger.specs.Books.{Books, number}
use Rattle.ccr_ledger.proofs.Empty.{number-none}
use Rattle.ccr_telling.specs.Tallies.{AreFew, AreTallies, EventFits, Tallies, after_event, no_tallies, index_of}
use Rattle.ccr_telling.proofs.Numbers.{more-few, more_at-few, more_for-few, more_if_some-few}

pub few-none : (ports indices queues : ℕ) → AreFew 0 (no_tallies ports indices queues)
few-none ports indices queues = record {
  posted = λ k. omega (arith, number-none ports k);
  fired = λ k. omega (arith, number-none indices k);
  put = λ k. omega (arith, number-none queues k);
  dropped = λ k. omega (arith, number-none queues k);
  posts = omega arith;
  firings = omega arith;
  drops = omega arith;
  done = omega arith;
  failed = omega arith;
  shed = omega arith;
  yielded = omega arith;
}

-- numbers that grew by one at most
within : (n : ℕ) (t u : Tallies) → AreFew n t → ((k : ℕ) → number u.posted k ≤ number t.posted k + 1) → ((k : ℕ) → number u.fired k ≤ number t.fired k + 1) → ((k : ℕ) → number u.put k ≤ number t.put k + 1) → ((k : ℕ) → number u.dropped k ≤ number t.dropped k + 1) → u.posts ≤ t.posts + 1 → u.firings ≤ t.firings + 1 → u.drops ≤ t.drops + 1 → u.done ≤ t.done + 1 → u.failed ≤ t.failed + 1 → u.shed ≤ t.shed + 1 → u.yielded ≤ t.yielded + 1 → AreFew (n + 1) u
within n t u few posted_so fired_so put_so dropped_so posts_so firings_so drops_so done_so failed_so shed_so yielded_so = record {
  posted = λ k. omega (arith, few.posted k, posted_so k);
  fired = λ k. omega (arith, few.fired k, fired_so k);
  put = λ k. omega (arith, few.put k, put_so k);
  dropped = λ k. omega (arith, few.dropped k, dropped_so k);
  posts = omega (arith, few.posts, posts_so);
  firings = omega (arith, few.firings, firings_so);
  drops = omega (arith, few.drops, drops_so);
  done = omega (arith, few.done, done_so);
  failed = omega (arith, few.failed, failed_so);
  shed = omega (arith, few.shed, shed_so);
  yielded = omega (arith, few.yielded, yielded_so);
}

kept : (numbers : List ℕ) (k : ℕ) → number numbers k ≤ number numbers k + 1
kept numbers k = omega arith

same : (n : ℕ) → n ≤ n + 1
same n = omega arith

one : (n : ℕ) → n + 1 ≤ n + 1
one n = omega arith

one_dropped : (d : Option TaskId) → length (option_to_list d) ≤ 1
one_dropped None = omega arith
one_dropped (Some t) = omega arith

pub few-event : (n : ℕ) (b : Books) (e : Event) (t : Tallies) → AreFew n t → AreFew (n + 1) (after_event b e t)
few-event n b (events.Post m) t few = within n t (after_event b (events.Post m) t) few (more-few m.port t.posted) (kept t.fired) (kept t.put) (kept t.dropped) (one t.posts) (same t.firings) (same t.drops) (same t.done) (same t.failed) (same t.shed) (same t.yielded)
few-event n b (events.Fire task spot messages cuts) t few = within n t (after_event b (events.Fire task spot messages cuts) t) few (kept t.posted) (more_at-few (index_of spot) t.fired) (kept t.put) (kept t.dropped) (same t.posts) (one t.firings) (same t.drops) (same t.done) (same t.failed) (same t.shed) (same t.yielded)
few-event n b (events.Put task gone) t few = within n t (after_event b (events.Put task gone) t) few (kept t.posted) (kept t.fired) (more_for-few b task t.put) (more_if_some-few b gone t.dropped) (same t.posts) (same t.firings) (omega (arith, one_dropped gone)) (same t.done) (same t.failed) (same t.shed) (same t.yielded)
few-event n b (events.End task ends.Done) t few = within n t (after_event b (events.End task ends.Done) t) few (kept t.posted) (kept t.fired) (kept t.put) (kept t.dropped) (same t.posts) (same t.firings) (same t.drops) (one t.done) (same t.failed) (same t.shed) (same t.yielded)
few-event n b (events.End task (ends.Failed value)) t few = within n t (after_event b (events.End task (ends.Failed value)) t) few (kept t.posted) (kept t.fired) (kept t.put) (kept t.dropped) (same t.posts) (same t.firings) (same t.drops) (same t.done) (one t.failed) (same t.shed) (same t.yielded)
few-event n b (events.End task ends.Yield) t few = within n t (after_event b (events.End task ends.Yield) t) few (kept t.posted) (kept t.fired) (kept t.put) (kept t.dropped) (same t.posts) (same t.firings) (same t.drops) (same t.done) (same t.failed) (same t.shed) (one t.yielded)
few-event n b (events.End task ends.Shed) t few = within n t (after_event b (events.End task ends.Shed) t) few (kept t.posted) (kept t.fired) (kept t.put) (kept t.dropped) (same t.posts) (same t.firings) (same t.drops) (same t.done) (same t.failed) (one t.shed) (same t.yielded)
few-event n b (events.Admit task) t few = within n t (after_event b (events.Admit task) t) few (kept t.posted) (kept t.fired) (kept t.put) (kept t.dropped) (same t.posts) (same t.firings) (same t.drops) (same t.done) (same t.failed) (same t.shed) (same t.yielded)
few-event n b (events.Start task actor) t few = within n t (after_event b (events.Start task actor) t) few (kept t.posted) (kept t.fired) (kept t.put) (kept t.dropped) (same t.posts) (same t.firings) (same t.drops) (same t.done) (same t.failed) (same t.shed) (same t.yielded)

-- what an event takes is taken in all
taken_within : (es : List Event) (i : ℕ) (e : Event) → slice_get es i ≡ Some e → length (taken (take i es)) + length (taken (e ∷ [])) ≤ length (taken es)
taken_within [] i e at = absurd (cc)
taken_within (x ∷ es) zero e at = let one : x ≡ e = cc in grind (arith, common_steps, one)
taken_within (x ∷ es) (suc i) e at = let rest = taken_within es i e at in grind (arith, common_steps, rest)

-- what an event cuts is cut in all
cut_within : (es : List Event) (i : ℕ) (e : Event) → slice_get es i ≡ Some e → length (cut (take i es)) + length (cut (e ∷ [])) ≤ length (cut es)
cut_within [] i e at = absurd (cc)
cut_within (x ∷ es) zero e at = let one : x ≡ e = cc in grind (arith, common_steps, one)
cut_within (x ∷ es) (suc i) e at = let rest = cut_within es i e at in grind (arith, common_steps, rest)

-- the next event of a list fits the numbers
pub event_fits : (ports indices queues : ℕ) (b : Books) (es : List Event) (i : ℕ) (e : Event) (t : Tallies) → slice_get es i ≡ Some e → i < 2 ^ 64 - 1 → length es < 2 ^ 64 → length (taken es) ≤ length es → length (cut es) ≤ length es → AreTallies ports indices queues b (take i es) t → AreFew i t → EventFits e t
event_fits ports indices queues b es i e t at low short takes cuts so few = record {
  posted = λ k. omega (arith, few.posted k, low);
  fired = λ k. omega (arith, few.fired k, low);
  put = λ k. omega (arith, few.put k, low);
  dropped = λ k. omega (arith, few.dropped k, low);
  posts = omega (arith, few.posts, low);
  taken = omega (arith, so.taken, taken_within es i e at, takes, short);
  firings = omega (arith, few.firings, low);
  cut = omega (arith, so.cut, cut_within es i e at, cuts, short);
  drops = omega (arith, few.drops, low);
  done = omega (arith, few.done, low);
  failed = omega (arith, few.failed, low);
  shed = omega (arith, few.shed, low);
  yielded = omega (arith, few.yielded, low);
}
