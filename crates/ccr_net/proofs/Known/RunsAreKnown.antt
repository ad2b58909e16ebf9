-- Along a run each entry is at a place of the wiring, and each next ask names what the wiring has.
use Rattle.std.proofs.Common.{◌⊎◌, inl, inr, ◌≡◌, ◌<◌, ◌≤◌, ◌+◌, ℕ, Bool, true, false, List, [], ◌∷◌, ◌++◌, length, Some, refl, sym, ap, ◌∙◌, subst}
use Rattle.std.specs.Prelude.{◌==◌}
use Rattle.ccr_base.specs.declared.names.TaskId.{TaskId}
use Rattle.ccr_wiring.specs.declared.parts.Parts.{Parts}
use Rattle.ccr_wiring.specs.Valid.{IsValid}
use Rattle.ccr_wiring.proofs.Soundness.{sound}
use Rattle.ccr_model.specs.declared.history.Event.{Event}
use Rattle.ccr_model.specs.declared.history.Event.TheVariants as events
use Rattle.ccr_model.specs.Legal.{IsLegal}
use Rattle.ccr_base.proofs.Booleans.{eq-self, same_number}
use Rattle.ccr_model.proofs.Members.{Among, Among-either}
use Rattle.ccr_places.specs.declared.notes.Note.{Note}
use Rattle.ccr_places.specs.declared.notes.Note.TheVariants as notes
use Rattle.ccr_claim.specs.declared.asks.Asked.{Asked}
use Rattle.ccr_actor.specs.Actors.{State, after_in, next, turn}
use Rattle.ccr_runs.specs.declared.entries.Entry.{Entry}
use Rattle.ccr_runs.specs.Places.{note_of}
use Rattle.ccr_runs.specs.EntryRuns.{IsRunAfter, Lacks, made_by, notes_at, replies_of, reply_of, state_of}
use Rattle.ccr_runs.specs.Views.{view}
use Rattle.ccr_runs.specs.Visible.{shown, visible}
use Rattle.ccr_net.proofs.Kept.WholeInvariant.{IsBegun, begins}
use Rattle.ccr_net.proofs.Known.AsksAreKnown.{ArePlaced, IsNamed, ask_named}
use Rattle.ccr_net.proofs.Known.PlacesAreKnown.{IsPlaceOf}
use Rattle.ccr_net.proofs.Known.StatesAreKnown.{DropReaches, Reaches, after_reaches, begin_reaches, drop_reaches, dropped_domain, short_reaches}
use Rattle.ccr_net.proofs.Known.TasksAreKnown.{IsDomain}
use Rattle.ccr_net.proofs.Kept.ValidWiringsArePlain.{plain_facts}
use Rattle.ccr_net.proofs.Played.HoldersOfTasksAnswer.{HoldsWhole, run_holds}
use Rattle.ccr_net.proofs.Played.PlayedRunsAreRuns.{run_on}
use Rattle.ccr_net.proofs.Parts.OneMoreEntry.{IsNextState, Step, Step-made, along_run, state_of-other, state_of-own, visible-push}

-- what holds of the places and the actors after some entries of a run
record Known (w : Parts) (workers : ℕ) (lacks : Lacks) (es : List Entry) : Type 0 where
  run : IsRunAfter w workers lacks [] es
  placed : ArePlaced w es
  reach : (a : ℕ) → Reaches w (state_of w lacks es a)

begins_known : (w : Parts) (workers : ℕ) (lacks : Lacks) → Known w workers lacks []
begins_known w workers lacks = record { run = tt; placed = λ x none. absurd none; reach = λ a. by a (state_of w lacks [] a) (begins w lacks a) }
  where
    by : (a : ℕ) (st : State) → IsBegun w a st → Reaches w st
    by a st (inl is) = subst (Reaches w) (sym is) (begin_reaches w a)
    by a st (inr is) = subst (Reaches w) (sym is) (short_reaches w a _ (begin_reaches w a))

module _ (w : Parts) (workers : ℕ) (lacks : Lacks) (valid : IsValid w) (few : workers ≤ 16) where
  known_kept : (es : List Entry) (e : Entry) → Known w workers lacks es → e.actor < length w.posters + workers → made_by w lacks es e.actor ≡ Some e → Known w workers lacks (es ++ e ∷ [])
  known_kept es e known low made = record {
    run = on;
    placed = λ x is. at x (Among-either x es (e ∷ []) is);
    reach = λ a. of_actor a (e.actor == a) refl;
  }
    where
      on : IsRunAfter w workers lacks [] (es ++ e ∷ [])
      on = run_on w workers lacks [] es e known.run low made

      whole : HoldsWhole w (length w.posters + workers) lacks es
      whole = run_holds w workers lacks es valid few known.run

      later : HoldsWhole w (length w.posters + workers) lacks (es ++ e ∷ [])
      later = run_holds w workers lacks (es ++ e ∷ []) valid few on

      step : Step w lacks es e
      step = Step-made w lacks es e made

      named : IsNamed w step.asking
      named = ask_named w valid (plain_facts w valid) (length w.posters + workers) lacks es whole.holds whole.handed known.placed e.actor (known.reach e.actor) step.asking e.note step.asks step.gives

      at : (x : Entry) → Among x es ⊎ Among x (e ∷ []) → IsPlaceOf w x.place
      at x (inl old) = known.placed x old
      at x (inr (inl same)) = subst (λ (y : Entry). IsPlaceOf w y.place) (sym same) (subst (IsPlaceOf w) (sym step.there) named.place)
      at x (inr (inr none)) = absurd none

      drops : DropReaches w (reply_of w es e)
      drops = drop_reaches w (visible (es ++ e ∷ [])) (notes_at es e.place) e.note dropped_at
        where
          dropped_at : (t d : TaskId) → e.note ≡ notes.Put t (Some d) → IsDomain w (view w (visible (es ++ e ∷ [])) d).arbiter
          dropped_at t d note =
              let shows : visible (es ++ e ∷ []) ≡ visible es ++ events.Put t (Some d) ∷ [] = visible-push es e ∙ ap (λ m. visible es ++ shown e.actor m) note in
              subst (λ (g : List Event). IsDomain w (view w g d).arbiter) (sym shows) (dropped_domain w (sound w valid) (visible es) t d (subst (IsLegal w) shows later.holds.legal))

      own : (new : State) → IsNextState w e.actor (state_of w lacks es e.actor) (reply_of w es e) new → Reaches w new
      own new is = by is
        where
          after : Reaches w (after_in w e.actor (state_of w lacks es e.actor) (turn (state_of w lacks es e.actor)) (reply_of w es e))
          after = after_reaches w (sound w valid) (visible es) whole.holds.legal e.actor (state_of w lacks es e.actor) (whole.holds.actors e.actor).fits.spots_so (whole.holds.actors e.actor).work (known.reach e.actor) (reply_of w es e) drops

          by : IsNextState w e.actor (state_of w lacks es e.actor) (reply_of w es e) new → Reaches w new
          by (inl same) = subst (Reaches w) (sym same) after
          by (inr same) = subst (Reaches w) (sym same) (short_reaches w e.actor _ after)

      of_actor : (a : ℕ) (c : Bool) → (e.actor == a) ≡ c → Reaches w (state_of w lacks (es ++ e ∷ []) a)
      of_actor a true is = subst (λ b. Reaches w (state_of w lacks (es ++ e ∷ []) b)) (same_number e.actor a is) (own (state_of w lacks (es ++ e ∷ []) e.actor) (state_of-own w lacks es e e.actor (eq-self e.actor)))
      of_actor a false is = subst (Reaches w) (sym (state_of-other w lacks es e a is)) (known.reach a)

  -- each next ask to which its place gives a note
  pub next_named : (es : List Entry) (a : ℕ) (x : Asked) (note : Note) → IsRunAfter w workers lacks [] es → next w a (lacks a) (replies_of w es a) ≡ Some x → note_of w x.place (notes_at es x.place) x.ask ≡ Some note → IsNamed w x
  next_named es a x note run asks gives =
      let whole = run_holds w workers lacks es valid few run in
      let known = along_run w workers lacks (Known w workers lacks) known_kept (begins_known w workers lacks) es run in
      ask_named w valid (plain_facts w valid) (length w.posters + workers) lacks es whole.holds whole.handed known.placed a (known.reach a) x note asks gives
