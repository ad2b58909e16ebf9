-- A step of a pass.
use Rattle.std.proofs.Common.{Bool, true, false, ◌≡◌, ℕ, List, [], ◌∷◌, ◌++◌, sym, refl, ap, ◌∙◌, subst, Option, Some, None}
use Rattle.std.specs.Option.{is_some, option_map}
use Rattle.std.proofs.lemmas.List.{map-append}
use Rattle.ccr_wiring.specs.declared.parts.Parts.{Parts}
use Rattle.ccr_turns.specs.Logs.{log_entry}
use Rattle.ccr_turns.specs.Locks.{Acts}
use Rattle.ccr_turns.specs.declared.history.LogEntry.{LogEntry}
use Rattle.ccr_runs.specs.Runs.{IsProper, state_after}
use Rattle.ccr_runs.proofs.Telling.{proper_more, state_more}
use Rattle.ccr_places.specs.declared.notes.Note.{Note}
use Rattle.ccr_claim.specs.declared.asks.Ask.{Ask}
use Rattle.ccr_claim.specs.declared.asks.Asked.{Asked}
use Rattle.ccr_claim.specs.declared.asks.Reply.{Reply}
use Rattle.ccr_object.specs.declared.deed.PlaceAnswer.{PlaceAnswer}
use Rattle.ccr_object.specs.declared.deed.PlaceAnswer.TheVariants.{Replied, Unmet}
use Rattle.ccr_object.specs.declared.deed.Deed.{Deed}
use Rattle.ccr_object.specs.declared.object.Placed.{Placed}
use Rattle.ccr_object.specs.Objects.{IsGiven, is_due, note_of, reply_of, answered, noted, answer_at}
use Rattle.ccr_actor.specs.Acting.{Acting, next as next_of, sent}
use Rattle.ccr_actor.specs.Actors.{next}
use Rattle.ccr_actor.specs.Nets.{Step}
use Rattle.ccr_actor.proofs.ActorsFollowTheirSteps.{follows_long, follows_next, follows_reply}
use Rattle.ccr_runs.specs.Played.{Heard, heard, numbered, number_at, protocol}
use Rattle.ccr_runs.specs.EntryRuns.{never}
use Rattle.ccr_space.specs.declared.space.step.Step.{Step as Came}
use Rattle.ccr_space.specs.declared.space.step.Step.TheVariants as came
use Rattle.ccr_space.specs.Spaces.{IsGoing, IsHeard, IsTaught, heard_in}

abbrev pub is_met : PlaceAnswer → Bool
is_met Unmet = false
is_met (Replied reply) = true

-- a reply goes with a note, Unmet with none
with_note : (given : Option (Reply × Note)) → is_some (noted given) ≡ is_met (answered given)
with_note None = refl
with_note (Some given) = refl

-- what an actor hears leaves its number
heard_actor : (s : Heard) (answer : PlaceAnswer) → (heard s answer).actor ≡ s.actor
heard_actor s Unmet = refl
heard_actor s (Replied reply) = refl

still_actor : (wiring : Parts) (s : Heard) (logged : List (LogEntry Deed Placed)) → (state_after (protocol wiring never) s logged).actor ≡ s.actor
still_actor wiring s [] = refl
still_actor wiring s (m ∷ ms) = still_actor wiring (heard s (reply_of m.before m.note.ask.value)) ms ∙ heard_actor s (reply_of m.before m.note.ask.value)

-- what comes next in the log's state
pub next_at : (wiring : Parts) (k : ℕ) (logged : List (LogEntry Deed Placed)) (o : Option Asked) → next wiring k None (heard_in wiring k logged).given ≡ o → (protocol wiring never).next (heard_in wiring k logged) ≡ option_map (numbered wiring) o
next_at wiring k logged o is =
    let its = still_actor wiring (record { actor = k; given = [] }) logged in
    ap (λ n. option_map (numbered wiring) (next wiring n None (heard_in wiring k logged).given)) its ∙ ap (option_map (numbered wiring)) is

-- what a step adds to the log
pub record Stepped (wiring : Parts) (k : ℕ) (old new : List (LogEntry Deed Placed)) (reply : PlaceAnswer) : Type 0 where
  pub added : LogEntry Deed Placed
  pub more : new ≡ old ++ added ∷ []
  pub met : is_some added.note.note ≡ is_met reply
  pub gave : added.note.note ≡ note_of added.before added.note.ask.value
  pub proper : IsProper (protocol wiring never) (record { actor = k; given = [] }) 0 new
  pub state : heard_in wiring k new ≡ heard (heard_in wiring k old) reply

pub stepped : (wiring : Parts) (k place : ℕ) (one : Asked) (reply : PlaceAnswer) (old new : List (LogEntry Deed Placed)) → IsProper (protocol wiring never) (record { actor = k; given = [] }) 0 old
    → next wiring k None (heard_in wiring k old).given ≡ Some one → place ≡ number_at wiring one.place → Acts IsGiven place one.ask reply old new → Stepped wiring k old new reply
stepped wiring k place one reply old new proper asks there (stamp, note, before, earlier, more, high, given) =
    let asked : note.ask.value ≡ one.ask = given.2 in
    let m = log_entry place stamp note before earlier in
    let theirs : reply_of before note.ask.value ≡ reply = ap (reply_of before) asked ∙ sym given.0 in
    let s : Heard = record { actor = k; given = [] } in
    let comes : (protocol wiring never).next (heard_in wiring k old) ≡ Some (place, note.ask.value) = next_at wiring k old (Some one) asks ∙ (λ i. Some (sym there i, sym asked i)) in
    record {
      added = m;
      more = more;
      met = ap is_some given.1 ∙ (with_note (answer_at before one.ask) ∙ ap is_met (sym given.0));
      gave = given.1 ∙ ap (note_of before) (sym asked);
      proper = subst (IsProper (protocol wiring never) s 0) (sym more) (proper_more (protocol wiring never) s 0 old m proper comes high);
      state = ap (state_after (protocol wiring never) s) more ∙ (state_more (protocol wiring never) s old m ∙ ap (heard (heard_in wiring k old)) theirs);
    }

-- an actor that goes on asks what comes next
pub comes_next : (wiring : Parts) (k : ℕ) (logged : List (LogEntry Deed Placed)) (a : Acting) (one : Asked) → IsGoing wiring k logged a → next_of a ≡ Some one → next wiring k None (heard_in wiring k logged).given ≡ Some one
comes_next wiring k logged a one going asks =
    let is = follows_long wiring k going.steps a going.follows going.long in
    subst (λ given. next wiring k None given ≡ Some one) going.replies (follows_next wiring k None going.steps a one is.1 asks)

-- and goes on once it took in the reply
pub goes_on : (wiring : Parts) (k : ℕ) (old new : List (LogEntry Deed Placed)) (a b : Acting) (one : Asked) (reply : Reply) → IsGoing wiring k old a → next_of a ≡ Some one → IsTaught (sent a) reply b
    → heard_in wiring k new ≡ heard (heard_in wiring k old) (Replied reply) → IsGoing wiring k new b
goes_on wiring k old new a b one reply going asks taught state =
    let step : Step = record { asked = one; reply = reply } in
    record {
      steps = going.steps ++ step ∷ [];
      follows = follows_reply wiring k going.steps a b one reply going.follows asks taught.0;
      replies = map-append (λ (s : Step). s.reply) going.steps (step ∷ []) ∙ (ap (λ (given : List Reply). given ++ reply ∷ []) going.replies ∙ sym (ap (λ (s : Heard). s.given) state));
      long = taught.1;
    }

-- ---- what a step came to

-- what was handed to the actor tells what the step came to
pub made_met : (answer : PlaceAnswer) (result : Came × Bool) (short : Bool) → ((reply : Reply) → answer ≡ Replied reply → result ≡ (came.Made, short)) → (answer ≡ Unmet → result ≡ (came.Unmet, true)) → result.0 ≡ came.Made → (is_met answer ≡ true) × (result.1 ≡ short)
made_met (Replied reply) result short replied unmet is = (refl, ap (λ (r : Came × Bool). r.1) (replied reply refl))
made_met Unmet result short replied unmet is = absurd (let none = ap (λ (r : Came × Bool). r.0) (unmet refl) in cc)

pub unmet_not : (answer : PlaceAnswer) (result : Came × Bool) (short : Bool) → ((reply : Reply) → answer ≡ Replied reply → result ≡ (came.Made, short)) → (answer ≡ Unmet → result ≡ (came.Unmet, true)) → result.0 ≡ came.Unmet → (is_met answer ≡ false) × (result.1 ≡ true)
unmet_not (Replied reply) result short replied unmet is = absurd (let made = ap (λ (r : Came × Bool). r.0) (replied reply refl) in cc)
unmet_not Unmet result short replied unmet is = (refl, ap (λ (r : Came × Bool). r.1) (unmet refl))

-- the actor goes on where the pass does
pub heard_on : (wiring : Parts) (k : ℕ) (old new : List (LogEntry Deed Placed)) (a b : Acting) (one : Asked) (answer : PlaceAnswer) → IsGoing wiring k old a → next_of a ≡ Some one → IsHeard (sent a) answer b
    → heard_in wiring k new ≡ heard (heard_in wiring k old) answer → IsGoing wiring k new b
heard_on wiring k old new a b one Unmet going asks taught state = absurd taught
heard_on wiring k old new a b one (Replied reply) going asks taught state = goes_on wiring k old new a b one reply going asks taught state

-- ---- what is answered is due

-- an act's answer is one that its ask may have
pub acts_due : (place : ℕ) (ask : Ask) (answer : PlaceAnswer) (old new : List (LogEntry Deed Placed)) → Acts IsGiven place ask answer old new → is_due ask answer ≡ true
acts_due place ask answer old new (stamp, note, before, earlier, more, high, given) = given.3
