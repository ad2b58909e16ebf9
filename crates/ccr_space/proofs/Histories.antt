-- The history that the histories of the locks show is that of the merged entries.
use Rattle.std.proofs.Common.{Bool, true, false, ◌≡◌, ◌≤◌, ◌∙◌, ℕ, suc, cond, List, [], ◌∷◌, ◌++◌, map, refl, ap, sym, arith, Option, Some, None}
use Rattle.std.specs.Prelude.{flat_map, drop, slice_get, unwrap_or}
use Rattle.std.proofs.lemmas.List.{append_assoc}
use Rattle.std.specs.List.{cons_option}
use Rattle.std.specs.Option.{option_map}
use Rattle.std.proofs.lemmas.List.Concat.{flat_map-append}
use Rattle.ccr_wiring.specs.declared.parts.Parts.{Parts}
use Rattle.ccr_base.specs.declared.tasks.How.TheVariants as hows
use Rattle.ccr_places.specs.declared.notes.Note.{Note}
use Rattle.ccr_places.specs.declared.notes.Note.TheVariants as notes
use Rattle.ccr_model.specs.declared.history.Event.{Event}
use Rattle.ccr_object.specs.declared.deed.Deed.{Deed}
use Rattle.ccr_object.specs.Events.{has_event, is_event}
use Rattle.ccr_turns.specs.Histories.{history_stamps, keeps, sifted}
use Rattle.ccr_turns.specs.Locks.{sifted_of}
use Rattle.ccr_turns.specs.declared.kept.Keep.{Keep}
use Rattle.ccr_turns.specs.declared.kept.Keep.TheVariants.{Every, Seen}
use Rattle.ccr_turns.specs.Lists.{Rises}
use Rattle.ccr_base.specs.Lists.{Each}
use Rattle.ccr_turns.specs.declared.history.Held.{Held}
use Rattle.ccr_runs.specs.declared.acts.Act.{Act}
use Rattle.ccr_runs.specs.Merges.{tag, tagged}
use Rattle.ccr_runs.specs.Orders.{in_order, merged}
use Rattle.ccr_runs.proofs.InOrder.{shown_in_order}
use Rattle.ccr_runs.specs.declared.entries.Entry.{Entry}
use Rattle.ccr_runs.specs.Played.{entries_of, place_at}
use Rattle.ccr_runs.specs.Visible.{shown, visible}
use Rattle.ccr_space.specs.Closes.{PlaceAndHistory}
use Rattle.ccr_space.specs.Shows.{act_shown, acts_shown, note_shown}

-- the entry of an act shows what its note shows
one_shown : (wiring : Parts) (act : Act Deed) (note : Option Note) (more : List Entry)
    → note_shown act.seat note ++ visible more ≡ visible (cons_option (option_map (λ (n : Note). record { actor = act.seat; place = place_at wiring act.place; stamp = act.stamp; note = n }) note) more)
one_shown wiring act None more = refl
one_shown wiring act (Some note) more = refl

-- the acts show what their entries show
pub visible_acts : (wiring : Parts) (acts : List (Act Deed)) → acts_shown acts ≡ visible (entries_of wiring acts)
visible_acts wiring [] = refl
visible_acts wiring (act ∷ acts) = ap (λ l. act_shown act ++ l) (visible_acts wiring acts) ∙ one_shown wiring act act.note.note (entries_of wiring acts)

-- the first of the acts, and the others
first_of : (acts : List (Act Deed)) (act : Act Deed) → Some act ≡ slice_get acts 0 → acts ≡ act ∷ drop 1 acts
first_of [] act is = absurd (cc)
first_of (other ∷ acts) act is = ap (λ a. a ∷ acts) (ap (λ o. unwrap_or o act) (sym is))

-- what an act shows is added, and the others are left
pub one_added : (history more : List Event) (acts left : List (Act Deed)) (act : Act Deed) → more ≡ history ++ act_shown act → Some act ≡ slice_get acts 0 → left ≡ drop 1 acts → more ++ acts_shown left ≡ history ++ acts_shown acts
one_added history more acts left act added first rest =
    ap (λ h. h ++ acts_shown left) added
    ∙ (append_assoc history (act_shown act) (acts_shown left)
    ∙ ap (λ l. history ++ l) (ap (λ l. act_shown act ++ acts_shown l) rest ∙ sym (ap acts_shown (first_of acts act first))))

-- ---- what isn't kept in memory shows nothing

no_event : (actor : ℕ) (note : Note) → is_event note ≡ false → shown actor note ≡ []
no_event actor (notes.Post message) none = absurd (cc)
no_event actor (notes.Claim task slot reply) none = refl
no_event actor (notes.Consume task) none = refl
no_event actor (notes.Free task) none = refl
no_event actor (notes.Fired task spot messages cuts) none = absurd (cc)
no_event actor (notes.Dead task spot by) none = refl
no_event actor (notes.Admit None) none = refl
no_event actor (notes.Admit (Some task)) none = absurd (cc)
no_event actor (notes.Over task root hows.Done) none = absurd (cc)
no_event actor (notes.Over task root (hows.Failed value)) none = absurd (cc)
no_event actor (notes.Over task root hows.Shed) none = absurd (cc)
no_event actor (notes.Over task root hows.Dropped) none = refl
no_event actor (notes.Suspend task) none = absurd (cc)
no_event actor (notes.Book task resumes full) none = refl
no_event actor (notes.Unbook task) none = refl
no_event actor (notes.Put task dropped) none = absurd (cc)
no_event actor (notes.Take None) none = refl
no_event actor (notes.Take (Some task)) none = absurd (cc)
no_event actor (notes.Draw given) none = refl
no_event actor notes.Leave none = refl
no_event actor (notes.Left count) none = refl

shows_nothing : (keep : Keep) (act : Act Deed) → keeps keep has_event act.note ≡ false → act_shown act ≡ []
shows_nothing Every act none = absurd (cc)
shows_nothing Seen act none = by act.note.note none
  where
    by : (note : Option Note) → has_event (record act.note { note = note }) ≡ false → note_shown act.seat note ≡ []
    by None none = refl
    by (Some note) none = no_event act.seat note none

-- ---- of the merged entries those are merged that are kept

module _ (keep : Keep) where
  abbrev sees : Deed → Bool
  sees deed = keeps keep has_event deed

  abbrev kept_one : Act Deed → List (Act Deed)
  kept_one act = cond (sees act.note) (act ∷ []) []

  one_stamped : (act : Act Deed) → Each (λ (a : Act Deed). a.stamp ≡ act.stamp) (kept_one act)
  one_stamped act = by (sees act.note)
    where
      by : (b : Bool) → Each (λ (a : Act Deed). a.stamp ≡ act.stamp) (cond b (act ∷ []) [])
      by true = (refl, tt)
      by false = tt

  tagged_sifted : (place : ℕ) (history : List (Held Deed)) → map (tag place) (sifted sees history) ≡ flat_map kept_one (map (tag place) history)
  tagged_sifted place [] = refl
  tagged_sifted place (h ∷ history) = by (sees h.note) (tagged_sifted place history)
    where
      by : (b : Bool) → map (tag place) (sifted sees history) ≡ flat_map kept_one (map (tag place) history)
          → map (tag place) (cond b (h ∷ sifted sees history) (sifted sees history)) ≡ cond b (tag place h ∷ []) [] ++ flat_map kept_one (map (tag place) history)
      by true again = ap (λ l. tag place h ∷ l) again
      by false again = again

  all_sifted : (place : ℕ) (whole : List PlaceAndHistory) → tagged place (map (sifted_of sees) whole) ≡ flat_map kept_one (tagged place whole)
  all_sifted place [] = refl
  all_sifted place (left ∷ whole) =
      (λ i. tagged_sifted place left.1 i ++ all_sifted (suc place) whole i) ∙ sym (flat_map-append kept_one (map (tag place) left.1) (tagged (suc place) whole))

  merged_sifted : (whole : List PlaceAndHistory) → merged (map (sifted_of sees) whole) ≡ flat_map kept_one (merged whole)
  merged_sifted whole =
      ap (in_order (λ (act : Act Deed). act.stamp)) (all_sifted 0 whole)
      ∙ sym (shown_in_order (λ (act : Act Deed). act.stamp) (λ (act : Act Deed). act.stamp) kept_one one_stamped (tagged 0 whole))

  kept_show : (acts : List (Act Deed)) → acts_shown (flat_map kept_one acts) ≡ acts_shown acts
  kept_show [] = refl
  kept_show (act ∷ acts) = by (sees act.note) refl (kept_show acts)
    where
      by : (b : Bool) → sees act.note ≡ b → acts_shown (flat_map kept_one acts) ≡ acts_shown acts → acts_shown (cond b (act ∷ []) [] ++ flat_map kept_one acts) ≡ act_shown act ++ acts_shown acts
      by true is again = ap (λ l. act_shown act ++ l) again
      by false is again = again ∙ sym (ap (λ l. l ++ acts_shown acts) (shows_nothing keep act is))

  -- so what is kept shows what the whole histories show
  pub history_is : (wiring : Parts) (whole : List PlaceAndHistory) → acts_shown (merged (map (sifted_of sees) whole)) ≡ visible (entries_of wiring (merged whole))
  history_is wiring whole = ap acts_shown (merged_sifted whole) ∙ (kept_show (merged whole) ∙ visible_acts wiring (merged whole))

  rises_from : (a b : ℕ) (stamps : List ℕ) → a ≤ b → Rises b stamps → Rises a stamps
  rises_from a b [] low rises = tt
  rises_from a b (stamp ∷ stamps) low rises = (let first = rises.0 in omega (arith, first, low), rises.1)

  -- the stamps of what is kept rise
  pub sifted_rises : (a : ℕ) (history : List (Held Deed)) → Rises a (history_stamps history) → Rises a (history_stamps (sifted sees history))
  sifted_rises a [] rises = tt
  sifted_rises a (h ∷ history) rises = by (sees h.note) (sifted_rises h.stamp history rises.1)
    where
      by : (b : Bool) → Rises h.stamp (history_stamps (sifted sees history)) → Rises a (history_stamps (cond b (h ∷ sifted sees history) (sifted sees history)))
      by true again = (rises.0, again)
      by false again = let first = rises.0 in rises_from a h.stamp (history_stamps (sifted sees history)) (omega (arith, first)) again
