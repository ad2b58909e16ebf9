-- The run of the schedule of a run of next steps is that run, and only of such runs.
use Rattle.std.proofs.Common.{◌≡◌, ◌<◌, ℕ, suc, ◌+◌, List, [], ◌∷◌, ◌++◌, length, Option, Some, None, refl, sym, ap, ◌∙◌, subst, arith, append_assoc, append-nil}
use Rattle.std.specs.Option.{option_map, option_and_then}
use Rattle.std.specs.List.{All}
use Rattle.std.proofs.lemmas.List.Elements.{All-cons}
use Rattle.ccr_wiring.specs.declared.parts.Parts.{Parts}
use Rattle.ccr_places.specs.declared.notes.Note.{Note}
use Rattle.ccr_claim.specs.declared.asks.Asked.{Asked}
use Rattle.ccr_actor.specs.Actors.{next}
use Rattle.ccr_runs.specs.declared.entries.Entry.{Entry}
use Rattle.ccr_runs.specs.Places.{note_of}
use Rattle.ccr_runs.specs.EntryRuns.{Lacks, entry_for, made_by, never, next_stamp, notes_at, replies_of, scheduled, scheduled_from, with_made, IsRunAfter}
use Rattle.ccr_replay.specs.Schedules.{schedule, AskAlways, IsOfNextSteps}

-- ---- a run of next steps is that of its schedule

again_from : (w : Parts) (n : ℕ) (past es : List Entry) → IsRunAfter w n never past es → scheduled_from w past (schedule es) ≡ past ++ es
again_from w n past [] run = sym (append-nil past)
again_from w n past (e ∷ es) run =
    ap (λ (made : Option Entry). scheduled_from w (with_made past made) (schedule es)) run.1
    ∙ again_from w n (past ++ e ∷ []) es run.2
    ∙ append_assoc past (e ∷ []) es

pub again : (w : Parts) (n : ℕ) (es : List Entry) → IsOfNextSteps w n es → scheduled w (schedule es) ≡ es
again w n es run = again_from w n [] es run

-- ---- its actors are those of the run

actors_from : (w : Parts) (n : ℕ) (past es : List Entry) → IsRunAfter w n never past es → All (λ a. a < length w.posters + n) (schedule es)
actors_from w n past [] run = λ k d below. absurd (omega arith)
actors_from w n past (e ∷ es) run = All-cons (λ (a : ℕ). a < length w.posters + n) e.actor (schedule es) run.0 (actors_from w n (past ++ e ∷ []) es run.2)

pub actors : (w : Parts) (n : ℕ) (es : List Entry) → IsOfNextSteps w n es → All (λ a. a < length w.posters + n) (schedule es)
actors w n es run = actors_from w n [] es run

-- ---- each run of a schedule is one of next steps

-- the same with no word of who the actors are
abbrev AreMade : Parts → List Entry → List Entry → Type 0
AreMade w past [] = Unit {0}
AreMade w past (e ∷ es) = (made_by w never past e.actor ≡ Some e) × AreMade w (past ++ e ∷ []) es

made_more : (w : Parts) (past es : List Entry) (e : Entry) → AreMade w past es → made_by w never (past ++ es) e.actor ≡ Some e → AreMade w past (es ++ e ∷ [])
made_more w past [] e made next = (subst (λ p. made_by w never p e.actor ≡ Some e) (append-nil past) next, tt)
made_more w past (x ∷ es) e made next =
    (made.0, made_more w (past ++ x ∷ []) es e made.1 (subst (λ p. made_by w never p e.actor ≡ Some e) (sym (append_assoc past (x ∷ []) es)) next))

-- an entry that an actor makes is that actor's
by_actor : (w : Parts) (es : List Entry) (actor : ℕ) (e : Entry) → made_by w never es actor ≡ Some e → e.actor ≡ actor
by_actor w es actor e made = asked (next w actor None (replies_of w es actor)) made
  where
    noted : (a : Asked) (o : Option Note) → option_map (λ (note : Note). record { actor = actor; place = a.place; stamp = next_stamp es a.place actor; note = note }) o ≡ Some e → e.actor ≡ actor
    noted a None is = absurd (cc)
    noted a (Some note) is = let same : record { actor = actor; place = a.place; stamp = next_stamp es a.place actor; note = note } ≡ e = cc in ap (λ (x : Entry). x.actor) (sym same)

    asked : (o : Option Asked) → option_and_then (entry_for w es actor) o ≡ Some e → e.actor ≡ actor
    asked None is = absurd (cc)
    asked (Some a) is = noted a (note_of w a.place (notes_at es a.place) a.ask) is

made_on : (w : Parts) (es : List Entry) (actor : ℕ) (o : Option Entry) → made_by w never es actor ≡ o → AreMade w [] es → AreMade w [] (with_made es o)
made_on w es actor None is made = made
made_on w es actor (Some e) is made = made_more w [] es e made (subst (λ (a : ℕ). made_by w never es a ≡ Some e) (sym (by_actor w es actor e is)) is)

made_all : (w : Parts) (es : List Entry) (turns : List ℕ) → AreMade w [] es → AreMade w [] (scheduled_from w es turns)
made_all w es [] made = made
made_all w es (actor ∷ turns) made = made_all w (with_made es (made_by w never es actor)) turns (made_on w es actor (made_by w never es actor) refl made)

again_made : (w : Parts) (past es : List Entry) → AreMade w past es → scheduled_from w past (schedule es) ≡ past ++ es
again_made w past [] made = sym (append-nil past)
again_made w past (e ∷ es) made =
    ap (λ (one : Option Entry). scheduled_from w (with_made past one) (schedule es)) made.0
    ∙ again_made w (past ++ e ∷ []) es made.1
    ∙ append_assoc past (e ∷ []) es

pub of_turns : (w : Parts) (turns : List ℕ) → scheduled w (schedule (scheduled w turns)) ≡ scheduled w turns
of_turns w turns = again_made w [] (scheduled w turns) (made_all w [] turns tt)

run_of : (w : Parts) (n : ℕ) (past es : List Entry) → AreMade w past es → All (λ a. a < length w.posters + n) (schedule es) → IsRunAfter w n never past es
run_of w n past [] made low = tt
run_of w n past (e ∷ es) made low =
    (low 0 0 (omega arith), made.0, run_of w n (past ++ e ∷ []) es made.1 (λ k d below. low (suc k) d (omega arith)))

pub only : (w : Parts) (n : ℕ) (es : List Entry) → All (λ a. a < length w.posters + n) (schedule es) → scheduled w (schedule es) ≡ es → IsOfNextSteps w n es
only w n es low same = run_of w n [] es (subst (AreMade w []) same (made_all w [] (schedule es) tt)) low

-- ---- where nobody asks anything else out of memory

next_from : (w : Parts) (n : ℕ) (lacks : Lacks) (past es : List Entry) → IsRunAfter w n lacks past es → AskAlways w lacks past es → IsRunAfter w n never past es
next_from w n lacks past [] run asks = tt
next_from w n lacks past (e ∷ es) run asks =
    (run.0, ap (option_and_then (entry_for w past e.actor)) (sym asks.0) ∙ run.1, next_from w n lacks (past ++ e ∷ []) es run.2 asks.1)

pub of_next : (w : Parts) (n : ℕ) (lacks : Lacks) (es : List Entry) → IsRunAfter w n lacks [] es → AskAlways w lacks [] es → IsOfNextSteps w n es
of_next w n lacks es run asks = next_from w n lacks [] es run asks
