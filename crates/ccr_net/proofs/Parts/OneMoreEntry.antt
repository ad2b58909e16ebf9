-- What one more entry adds, and the induction over runs.
use Rattle.std.proofs.Common.{◌≡◌, ◌⊎◌, inl, inr, ◌<◌, ◌≤◌, ℕ, ◌+◌, Bool, true, false, List, [], ◌∷◌, ◌++◌, length, take, drop, Option, Some, None, refl, sym, arith, ap, ◌∙◌, subst, append_assoc, append-nil, length-append}
use Rattle.std.specs.Prelude.{◌==◌, if◌then◌else◌, nat_le}
use Rattle.std.specs.Option.{option_map, option_and_then}
use Rattle.std.proofs.lemmas.Grind.{common_steps}
use Rattle.std.proofs.lemmas.Bool.Decides.{nat_tests}
use Rattle.std.proofs.lemmas.List.{drop-append-le, take-append-le, take_all, drop_all}
use Rattle.ccr_base.specs.declared.names.Place.{Place}
use Rattle.ccr_base.specs.declared.names.Place.TheVariants as places
use Rattle.ccr_wiring.specs.declared.parts.Parts.{Parts}
use Rattle.ccr_base.proofs.Options.{some_is}
use Rattle.ccr_places.specs.declared.notes.Note.{Note}
use Rattle.ccr_places.specs.Ports as ports
use Rattle.ccr_places.specs.Queues as queues
use Rattle.ccr_claim.specs.declared.asks.Reply.{Reply}
use Rattle.ccr_claim.specs.declared.asks.Asked.{Asked}
use Rattle.ccr_actor.specs.Actors.{State, asked, after, after_all, shorten, start, state_after}
use Rattle.ccr_actor.proofs.ActorsFollowTheirSteps.{after-more}
use Rattle.ccr_runs.specs.declared.entries.Entry.{Entry}
use Rattle.ccr_runs.specs.Visible.{visible, event_of}
use Rattle.ccr_runs.specs.Places.{note_of}
use Rattle.ccr_runs.specs.EntryRuns.{Lacks, IsRunAfter, made_by, entry_for, next_stamp, notes_at, note_at, port_at, replies_from, replies_of, reply_of, reply_for, state_of, same_place, queue_at}

pub visible-push : (es : List Entry) (e : Entry) → visible (es ++ e ∷ []) ≡ visible es ++ event_of e
visible-push es e = grind (arith, common_steps)

pub notes_at-push : (es : List Entry) (e : Entry) (p : Place) → notes_at (es ++ e ∷ []) p ≡ notes_at es p ++ note_at p e
notes_at-push es e p = grind (arith, common_steps)

pub port_at-push : (es : List Entry) (e : Entry) (p : ℕ) → port_at (es ++ e ∷ []) p ≡ (if same_place e.place (places.Port p) then ports.after (port_at es p) e.note else port_at es p)
port_at-push es e p = grind (arith, common_steps)

pub queue_at-push : (w : Parts) (es : List Entry) (e : Entry) (q : ℕ) → queue_at w (es ++ e ∷ []) q ≡ (if same_place e.place (places.Queue q) then queues.after (queue_at w es q) e.note else queue_at w es q)
queue_at-push w es e q = grind (arith, common_steps)

replies_from-push : (w : Parts) (a : ℕ) (past es : List Entry) (e : Entry) → replies_from w a past (es ++ e ∷ []) ≡ replies_from w a past es ++ reply_for w a (past ++ es) e
replies_from-push w a past [] e = rw (append-nil past) (append-nil _)
replies_from-push w a past (x ∷ es) e = rw (replies_from-push w a (past ++ x ∷ []) es e, append_assoc past (x ∷ []) es) (sym (append_assoc (reply_for w a past x) (replies_from w a (past ++ x ∷ []) es) (reply_for w a (past ++ x ∷ es) e)))

pub replies_of-push : (w : Parts) (a : ℕ) (es : List Entry) (e : Entry) → replies_of w (es ++ e ∷ []) a ≡ replies_of w es a ++ reply_for w a es e
replies_of-push w a es e = replies_from-push w a [] es e

-- the actor of the entry goes on, and may find no memory then; the others stay
abbrev pub IsNextState : Parts → ℕ → State → Reply → State → Type 0
IsNextState w a st r next = (next ≡ after w a st r) ⊎ (next ≡ shorten w a (after w a st r))

pub state_after-push : (w : Parts) (a : ℕ) (lack : Option ℕ) (rs : List Reply) (r : Reply) → IsNextState w a (state_after w a lack rs) r (state_after w a lack (rs ++ r ∷ []))
state_after-push w a None rs r = inl (after-more w a (start w a) rs r)
state_after-push w a (Some n) rs r = by (nat_le n (length rs)) (nat_le n (length (rs ++ r ∷ []))) refl refl
  where
    longer : length (rs ++ r ∷ []) ≡ length rs + 1
    longer = length-append rs (r ∷ [])

    begun : State
    begun = start w a

    short_at : List Reply → State
    short_at given = after_all w a (shorten w a (after_all w a begun (take n given))) (drop n given)

    by : (b c : Bool) → nat_le n (length rs) ≡ b → nat_le n (length (rs ++ r ∷ [])) ≡ c → IsNextState w a (if b then short_at rs else after_all w a begun rs) r (if c then short_at (rs ++ r ∷ []) else after_all w a begun (rs ++ r ∷ []))
    by true true before now = inl (let low : n ≤ length rs = grind (arith, nat_tests, before) in rw (take-append-le n rs (r ∷ []) low, drop-append-le n rs (r ∷ []) low) (after-more w a (shorten w a (after_all w a begun (take n rs))) (drop n rs) r))
    by true false before now = absurd (let low : n ≤ length rs = grind (arith, nat_tests, before) in let high : length (rs ++ r ∷ []) < n = grind (arith, nat_tests, now) in omega (arith, low, high, longer))
    by false false before now = inl (after-more w a begun rs r)
    by false true before now = inr (let all : length (rs ++ r ∷ []) ≤ n = (let high : length rs < n = grind (arith, nat_tests, before) in omega (arith, high, longer)) in rw (take_all n (rs ++ r ∷ []) all, drop_all n (rs ++ r ∷ []) all) (ap (shorten w a) (after-more w a begun rs r)))

pub state_of-own : (w : Parts) (lacks : Lacks) (es : List Entry) (e : Entry) (a : ℕ) → (e.actor == a) ≡ true → IsNextState w a (state_of w lacks es a) (reply_of w es e) (state_of w lacks (es ++ e ∷ []) a)
state_of-own w lacks es e a is = rw (replies_of-push w a es e, is) (state_after-push w a (lacks a) (replies_of w es a) (reply_of w es e))

pub state_of-other : (w : Parts) (lacks : Lacks) (es : List Entry) (e : Entry) (a : ℕ) → (e.actor == a) ≡ false → state_of w lacks (es ++ e ∷ []) a ≡ state_of w lacks es a
state_of-other w lacks es e a is = rw (replies_of-push w a es e, is, append-nil (replies_of w es a)) refl

-- what the empty list has and each step keeps, each run has
along_run_after : (w : Parts) (n : ℕ) (lacks : Lacks) (P : List Entry → Type 0) → ((es : List Entry) (e : Entry) → P es → e.actor < length w.posters + n → made_by w lacks es e.actor ≡ Some e → P (es ++ e ∷ [])) → (past es : List Entry) → P past → IsRunAfter w n lacks past es → P (past ++ es)
along_run_after w n lacks P keeps past [] p steps = rw (append-nil past) p
along_run_after w n lacks P keeps past (e ∷ es) p steps = subst P (append_assoc past (e ∷ []) es) (along_run_after w n lacks P keeps (past ++ e ∷ []) es (keeps past e p steps.0 steps.1) steps.2)

pub along_run : (w : Parts) (n : ℕ) (lacks : Lacks) (P : List Entry → Type 0) → ((es : List Entry) (e : Entry) → P es → e.actor < length w.posters + n → made_by w lacks es e.actor ≡ Some e → P (es ++ e ∷ [])) → P [] → (es : List Entry) → IsRunAfter w n lacks [] es → P es
along_run w n lacks P keeps begins es steps = along_run_after w n lacks P keeps [] es begins steps

-- what a step is: the actor's ask, and the note that its place gives
pub record Step (w : Parts) (lacks : Lacks) (es : List Entry) (e : Entry) : Type 0 where
  pub asking : Asked
  pub asks : asked w e.actor (state_of w lacks es e.actor) ≡ Some asking
  pub there : e.place ≡ asking.place
  pub gives : note_of w asking.place (notes_at es asking.place) asking.ask ≡ Some e.note

pub Step-made : (w : Parts) (lacks : Lacks) (es : List Entry) (e : Entry) → made_by w lacks es e.actor ≡ Some e → Step w lacks es e
Step-made w lacks es e is = of_asked (asked w e.actor (state_of w lacks es e.actor)) refl is
  where
    of_note : (a : Asked) → asked w e.actor (state_of w lacks es e.actor) ≡ Some a → (o : Option Note) → note_of w a.place (notes_at es a.place) a.ask ≡ o → option_map (λ note. record { actor = e.actor; place = a.place; stamp = next_stamp es a.place e.actor; note = note }) o ≡ Some e → Step w lacks es e
    of_note a asks None gives is = absurd (cc)
    of_note a asks (Some note) gives is =
        let same = some_is is in
        record { asking = a; asks = asks; there = ap (λ (x : Entry). x.place) (sym same); gives = gives ∙ ap (λ (x : Entry). Some x.note) same }

    of_asked : (o : Option Asked) → asked w e.actor (state_of w lacks es e.actor) ≡ o → option_and_then (entry_for w es e.actor) o ≡ Some e → Step w lacks es e
    of_asked None asks is = absurd (cc)
    of_asked (Some a) asks is = of_note a asks (note_of w a.place (notes_at es a.place) a.ask) refl is
