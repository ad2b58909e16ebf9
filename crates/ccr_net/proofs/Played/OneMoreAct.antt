-- What one more act leaves.
use Rattle.std.proofs.Common.{◌≡◌, ◌≢◌, ◌<◌, ◌≤◌, ℕ, zero, suc, max, Bool, true, false, List, [], ◌∷◌, ◌++◌, map, length, length-append, get_or, Option, Result, Ok, Err, IfOk, OnOk, refl, sym, arith, ap, ◌∙◌, subst}
use Rattle.std.specs.Prelude.{◌==◌, cond, slice_get, slice_index, slice_set}
use Rattle.std.specs.Option.{option_map_or}
use Rattle.std.proofs.lemmas.Option.{slice_get-get_or}
use Rattle.std.proofs.lemmas.List.{get_or-set_same, get_or-set_other, length-map, map-append}
use Rattle.std.proofs.Math.ListN.{length-set}
use Rattle.std.specs.declared.snapshot.Snapshot.{Snapshot}
use Rattle.ccr_base.specs.declared.list.OutOfMemory.{OutOfMemory}
use Rattle.ccr_base.specs.declared.names.Place.{Place}
use Rattle.ccr_wiring.specs.declared.parts.Parts.{Parts}
use Rattle.ccr_base.proofs.Booleans.{same_number, differ}
use Rattle.ccr_base.proofs.Options.{get-set_same, get-set_other}
use Rattle.ccr_claim.specs.declared.asks.Ask.{Ask}
use Rattle.ccr_object.specs.declared.deed.PlaceAnswer.{PlaceAnswer}
use Rattle.ccr_object.specs.declared.deed.Deed.{Deed}
use Rattle.ccr_object.specs.declared.object.PlaceObject.{PlaceObject}
use Rattle.ccr_object.specs.declared.object.Placed.{Placed}
use Rattle.ccr_object.specs.Objects.{after_at, after_deed, note_of, nothing, placed}
use Rattle.ccr_object.specs.Starts.{placed_at, places_of}
use Rattle.ccr_runs.specs.declared.acts.Act.{Act}
use Rattle.ccr_runs.specs.Stories.{Scene, moved}
use Rattle.ccr_runs.specs.Played.{scene}
use Rattle.ccr_net.specs.Acted.{scene_from, scene_after, stamp_from, stamp_of, deed_at, act_at, placed_in, seen_acts, IsLeft}

-- ---- outcomes

pub on_ok : {X E : Type 0} {P Q : Type 0} (r : Result X E) → (P → Q) → IfOk r (λ (x : X). P) → OnOk r Q
on_ok (Ok x) f p = f p
on_ok (Err e) f p = tt

pub ok_both : {X E : Type 0} {P Q R : Type 0} (r : Result X E) → (P → Q → R) → OnOk r P → OnOk r Q → OnOk r R
ok_both (Ok x) f p q = f p q
ok_both (Err e) f p q = tt

pub deed_given : (x : Placed) (ask : Ask) (r : Result (PlaceAnswer × Deed) OutOfMemory) → IfOk r (λ (given : PlaceAnswer × Deed). given.1.note ≡ note_of x ask) → IfOk r (λ (given : PlaceAnswer × Deed). given.1.ask.value ≡ ask) → IfOk r (λ (given : PlaceAnswer × Deed). given.1 ≡ deed_at x ask)
deed_given x ask (Ok given) note asks = λ j. record { note = note j; ask = record { marker = record {}; value = asks j } }
deed_given x ask (Err e) note asks = tt

-- ---- objects by number

pub placed_in-here : (objects : List PlaceObject) (n : ℕ) (d : PlaceObject) → n < length objects → placed_in objects n ≡ placed (get_or objects n d)
placed_in-here objects n d low = ap (λ (o : Option PlaceObject). option_map_or placed o nothing) (slice_get-get_or objects n d low)

pub placed_in-set : (objects : List PlaceObject) (n : ℕ) (y : PlaceObject) → n < length objects → placed_in (slice_set objects n y) n ≡ placed y
placed_in-set objects n y low = ap (λ (o : Option PlaceObject). option_map_or placed o nothing) (get-set_same objects n y low)

pub placed_in-other : (objects : List PlaceObject) (n : ℕ) (y : PlaceObject) (k : ℕ) → k ≢ n → placed_in (slice_set objects n y) k ≡ placed_in objects k
placed_in-other objects n y k other = ap (λ (o : Option PlaceObject). option_map_or placed o nothing) (get-set_other objects n y k other)

-- ---- one more act

pub scene-push : (v : Scene Placed) (acts : List (Act Deed)) (act : Act Deed) → scene_from v (acts ++ act ∷ []) ≡ moved after_deed (scene_from v acts) act
scene-push v [] act = refl
scene-push v (first ∷ acts) act = scene-push (moved after_deed v first) acts act

pub stamp-push : (actor last : ℕ) (acts : List (Act Deed)) (act : Act Deed) → stamp_from actor last (acts ++ act ∷ []) ≡ cond (act.seat == actor) act.stamp (stamp_from actor last acts)
stamp-push actor last [] act = refl
stamp-push actor last (first ∷ acts) act = stamp-push actor (cond (first.seat == actor) first.stamp last) acts act

module _ (w : Parts) (places : List Place) (objects later : List PlaceObject) (ps qs : List ℕ) (acts : List (Act Deed)) (number actor stamp : ℕ) (ask : Ask) (left : IsLeft w places objects ps qs acts) (low : number < length places) (seat : actor < 32) (is_stamp : stamp ≡ suc (max (slice_index ps number) (slice_index qs actor))) (same : length later ≡ length objects) (here : placed_in later number ≡ after_at (placed_in objects number) ask) (others : (k : ℕ) → k ≢ number → placed_in later k ≡ placed_in objects k) where
  abbrev act : Act Deed
  act = act_at (scene_after w acts) (stamp_of actor acts) number actor ask

  pub stamp_so : stamp ≡ suc (max (scene_after w acts number).1 (stamp_of actor acts))
  stamp_so = is_stamp ∙ ap (λ n. suc (max n (slice_index qs actor))) (left.place_last number) ∙ ap (λ n. suc (max (scene_after w acts number).1 n)) (left.actor_last actor)

  objects_so : (k : ℕ) → placed_in later k ≡ (scene_after w (acts ++ act ∷ []) k).0
  objects_so k = by (number == k) refl ∙ ap (λ (v : Scene Placed). (v k).0) (sym (scene-push (scene w) acts act))
    where
      by : (b : Bool) → (number == k) ≡ b → placed_in later k ≡ (cond b (after_deed (scene_after w acts k).0 act.note, act.stamp) (scene_after w acts k)).0
      by true is = subst (λ n. placed_in later n ≡ after_at (scene_after w acts n).0 ask) (same_number number k is) (here ∙ ap (λ x. after_at x ask) (left.stand number))
      by false is = others k (λ same. differ number k is (sym same)) ∙ left.stand k

  place_last_so : (k : ℕ) → slice_index (slice_set ps number stamp) k ≡ (scene_after w (acts ++ act ∷ []) k).1
  place_last_so k = by (number == k) refl ∙ ap (λ (v : Scene Placed). (v k).1) (sym (scene-push (scene w) acts act))
    where
      by : (b : Bool) → (number == k) ≡ b → slice_index (slice_set ps number stamp) k ≡ (cond b (after_deed (scene_after w acts k).0 act.note, act.stamp) (scene_after w acts k)).1
      by true is = subst (λ n. slice_index (slice_set ps number stamp) n ≡ act.stamp) (same_number number k is) (get_or-set_same ps number stamp 0 (omega (arith, left.place_count)) ∙ stamp_so)
      by false is = get_or-set_other ps number k stamp 0 (λ same. differ number k is (sym same)) ∙ left.place_last k

  actor_last_so : (k : ℕ) → slice_index (slice_set qs actor stamp) k ≡ stamp_of k (acts ++ act ∷ [])
  actor_last_so k = by (actor == k) refl ∙ sym (stamp-push k 0 acts act)
    where
      by : (b : Bool) → (actor == k) ≡ b → slice_index (slice_set qs actor stamp) k ≡ cond b act.stamp (stamp_of k acts)
      by true is = subst (λ n. slice_index (slice_set qs actor stamp) n ≡ act.stamp) (same_number actor k is) (get_or-set_same qs actor stamp 0 (omega (arith, left.actor_count)) ∙ stamp_so)
      by false is = get_or-set_other qs actor k stamp 0 (λ same. differ actor k is (sym same)) ∙ left.actor_last k

  few : stamp ≤ length (acts ++ act ∷ [])
  few = omega (arith, is_stamp, left.place_few number, left.actor_few actor, length-append acts (act ∷ []))

  few_set : (ns : List ℕ) (n : ℕ) → n < length ns → ((k : ℕ) → slice_index ns k ≤ length acts) → (k : ℕ) → slice_index (slice_set ns n stamp) k ≤ length (acts ++ act ∷ [])
  few_set ns n inside all k = by (n == k) refl
    where
      by : (b : Bool) → (n == k) ≡ b → slice_index (slice_set ns n stamp) k ≤ length (acts ++ act ∷ [])
      by true is = subst (λ m. slice_index (slice_set ns n stamp) m ≤ length (acts ++ act ∷ [])) (same_number n k is) (omega (arith, get_or-set_same ns n stamp 0 inside, few))
      by false is = omega (arith, get_or-set_other ns n k stamp 0 (λ same. differ n k is (sym same)), all k, length-append acts (act ∷ []))

  pub IsLeft-act : IsLeft w places later (slice_set ps number stamp) (slice_set qs actor stamp) (acts ++ act ∷ [])
  IsLeft-act = record {
    all = left.all;
    count = same ∙ left.count;
    place_count = length-set ps number stamp ∙ left.place_count;
    actor_count = length-set qs actor stamp ∙ left.actor_count;
    stand = objects_so;
    place_last = place_last_so;
    actor_last = actor_last_so;
    place_few = few_set ps number (omega (arith, left.place_count)) left.place_few;
    actor_few = few_set qs actor (omega (arith, left.actor_count)) left.actor_few;
  }

-- ---- the start

pub placed_in-map : (objects : List PlaceObject) (n : ℕ) → placed_in objects n ≡ option_map_or (λ (x : Placed). x) (slice_get (map placed objects) n) nothing
placed_in-map [] n = refl
placed_in-map (o ∷ os) zero = refl
placed_in-map (o ∷ os) (suc n) = placed_in-map os n

pub scene-map : (w : Parts) (places : List Place) (n : ℕ) → option_map_or (λ (x : Placed). x) (slice_get (map (placed_at w) places) n) nothing ≡ option_map_or (placed_at w) (slice_get places n) nothing
scene-map w [] n = refl
scene-map w (p ∷ ps) zero = refl
scene-map w (p ∷ ps) (suc n) = scene-map w ps n

pub IsLeft-start : (w : Parts) (places : List Place) (objects : List PlaceObject) (ps qs : List ℕ) → places ≡ places_of w → map placed objects ≡ map (placed_at w) (places_of w) → length ps ≡ length objects → length qs ≡ 32 → ((k : ℕ) → slice_index ps k ≡ 0) → ((k : ℕ) → slice_index qs k ≡ 0) → IsLeft w places objects ps qs []
IsLeft-start w places objects ps qs all stand count seats none nobody = record {
  all = all;
  count = count_so;
  place_count = count ∙ count_so;
  actor_count = seats;
  stand = λ n. placed_in-map objects n ∙ ap (λ xs. option_map_or (λ (x : Placed). x) (slice_get xs n) nothing) stand ∙ scene-map w (places_of w) n;
  place_last = none;
  actor_last = nobody;
  place_few = λ k. omega (arith, none k);
  actor_few = λ k. omega (arith, nobody k);
}
  where
    count_so : length objects ≡ length places
    count_so = (simp length-map at (ap length stand)) ∙ ap length (sym all)

-- ---- the act

pub act_here : (w : Parts) (acts : List (Act Deed)) (number actor : ℕ) (ask : Ask) (stamp : ℕ) (deed : Deed) → stamp ≡ suc (max (scene_after w acts number).1 (stamp_of actor acts)) → deed ≡ deed_at (scene_after w acts number).0 ask → ◌≡◌ {A = Act Deed} (record { place = number; seat = actor; stamp = stamp; note = deed }) (act_at (scene_after w acts) (stamp_of actor acts) number actor ask)
act_here w acts number actor ask stamp deed stamps gives = λ j. record { place = number; seat = actor; stamp = stamps j; note = gives j }

pub seen-push : (items : List (Snapshot (Act Deed))) (seen : Snapshot (Act Deed)) (done : Act Deed) → seen.value ≡ done → seen_acts (items ++ seen ∷ []) ≡ seen_acts items ++ done ∷ []
seen-push items seen done is = map-append (λ (s : Snapshot (Act Deed)). s.value) items (seen ∷ []) ∙ ap (λ a. seen_acts items ++ a ∷ []) is
