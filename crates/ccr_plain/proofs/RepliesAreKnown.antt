-- What the objects of a wiring's places reply, after any acts, names only what the wiring has.
use Rattle.std.proofs.Common.{◌≡◌, ◌⊎◌, inl, inr, ℕ, Bool, true, false, List, [], ◌∷◌, Option, Some, None, refl, subst}
use Rattle.std.specs.Prelude.{◌==◌, cond, slice_get}
use Rattle.std.specs.Option.{option_map_or}
use Rattle.ccr_base.specs.declared.names.Place.{Place}
use Rattle.ccr_wiring.specs.declared.parts.Parts.{Parts}
use Rattle.ccr_claim.specs.declared.asks.Ask.{Ask}
use Rattle.ccr_claim.specs.declared.asks.Reply.{Reply}
use Rattle.ccr_claim.specs.Wired.{IsReplyOf}
use Rattle.ccr_object.specs.declared.deed.PlaceAnswer.TheVariants.{Replied}
use Rattle.ccr_object.specs.declared.deed.Deed.{Deed}
use Rattle.ccr_object.specs.declared.object.Placed.{Placed}
use Rattle.ccr_object.specs.Keeping.{answers_known, keeps_own}
use Rattle.ccr_object.specs.Numbers.{Numbers, names_known, no_numbers, numbers_of}
use Rattle.ccr_object.specs.Objects.{after_deed, nothing, reply_of}
use Rattle.ccr_object.specs.Starts.{placed_at, places_of}
use Rattle.ccr_object.proofs.PlacesKeepKnownNames.{place_keeps, place_named, start_keeps}
use Rattle.ccr_object.proofs.Numbering.{reply_none, reply_to}
use Rattle.ccr_runs.specs.declared.acts.Act.{Act}
use Rattle.ccr_runs.specs.Stories.{Scene, moved}
use Rattle.ccr_net.specs.Acted.{scene_after, scene_from}
use Rattle.ccr_runs.specs.Played.{scene}

-- the place keeps only what its numbers have, and these are the wiring's, or none
record IsOwn (w : Parts) (place : Placed) : Type 0 where
  keeps : keeps_own place ≡ true
  numbers : (place.numbers ≡ numbers_of w) ⊎ (place.numbers ≡ no_numbers)

own_start : (w : Parts) (number : ℕ) → IsOwn w (scene w number).0
own_start w number = by (slice_get (places_of w) number)
  where
    by : (o : Option Place) → IsOwn w (option_map_or (placed_at w) o nothing)
    by None = record { keeps = refl; numbers = inr refl }
    by (Some place) = record { keeps = start_keeps w place; numbers = inl refl }

own_moved : (w : Parts) (v : Scene Placed) (act : Act Deed) → ((number : ℕ) → IsOwn w (v number).0) → (number : ℕ) → IsOwn w (moved after_deed v act number).0
own_moved w v act own number = by (act.place == number)
  where
    by : (b : Bool) → IsOwn w (cond b (after_deed (v number).0 act.note, act.stamp) (v number)).0
    by true = record { keeps = place_keeps (v number).0 act.note.ask.value (own number).keeps; numbers = (own number).numbers }
    by false = own number

own_from : (w : Parts) (v : Scene Placed) (acts : List (Act Deed)) → ((number : ℕ) → IsOwn w (v number).0) → (number : ℕ) → IsOwn w (scene_from v acts number).0
own_from w v [] own number = own number
own_from w v (act ∷ acts) own number = own_from w (moved after_deed v act) acts (own_moved w v act own) number

named_by : (w : Parts) (known : Numbers) (reply : Reply) → (known ≡ numbers_of w) ⊎ (known ≡ no_numbers) → names_known known reply ≡ true → IsReplyOf w reply
named_by w known reply (inl all) is = reply_to w reply (subst (λ k. names_known k reply ≡ true) all is)
named_by w known reply (inr none) is = reply_none w reply (subst (λ k. names_known k reply ≡ true) none is)

pub reply_named : (w : Parts) (acts : List (Act Deed)) (number : ℕ) (ask : Ask) (reply : Reply) → reply_of (scene_after w acts number).0 ask ≡ Replied reply → IsReplyOf w reply
reply_named w acts number ask reply replied =
    let own = own_from w (scene w) acts (own_start w) number in
    named_by w (scene_after w acts number).0.numbers reply own.numbers (subst (λ a. answers_known (scene_after w acts number).0.numbers a ≡ true) replied (place_named (scene_after w acts number).0 ask own.keeps))
