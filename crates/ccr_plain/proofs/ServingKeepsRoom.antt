-- A net on one thread goes on by an actor's next ask, and keeps the room for what is owed.
use Rattle.std.proofs.Common.{◌≡◌, ◌≢◌, ◌<◌, ◌≤◌, ℕ, zero, suc, ◌+◌, ◌-◌, Bool, true, false, List, [], ◌∷◌, ◌++◌, length, Some, refl, sym, arith, ap, ◌∙◌, subst, append-nil}
use Rattle.std.specs.Prelude.{◌==◌, cond, filter_map, nat_lt}
use Rattle.std.specs.List.{cons_option}
use Rattle.std.specs.Option.{is_some, option_map, option_and_then}
use Rattle.std.proofs.lemmas.Bool.Decides.{nat_tests}
use Rattle.std.proofs.lemmas.Grind.{fold-append}
use Rattle.std.proofs.lemmas.List.Elements.{filter_map-append}
use Rattle.ccr_base.specs.declared.names.Place.{Place}
use Rattle.ccr_wiring.specs.declared.parts.Parts.{Parts}
use Rattle.ccr_wiring.specs.Valid.{IsValid}
use Rattle.ccr_wiring.proofs.Soundness.{sound}
use Rattle.ccr_wiring.specs.Openness.{is_closed}
use Rattle.ccr_base.proofs.Booleans.{eq-self, same_number, above_differs}
use Rattle.ccr_claim.specs.declared.asks.Ask.{Ask}
use Rattle.ccr_claim.specs.declared.asks.Asked.{Asked}
use Rattle.ccr_claim.specs.declared.asks.Reply.{Reply}
use Rattle.ccr_claim.specs.Asks.{due_of, fits, is_settling}
use Rattle.ccr_actor.specs.Actors.{next}
use Rattle.ccr_actor.specs.Nets.{AreFitting, AreNext, IsProper, Step}
use Rattle.ccr_actor.specs.Nets as nets
use Rattle.ccr_actor.proofs.ActorsFollowTheirSteps.{next_more, replies-more, fitting-both}
use Rattle.ccr_object.specs.declared.deed.PlaceAnswer.{PlaceAnswer}
use Rattle.ccr_object.specs.declared.deed.PlaceAnswer.TheVariants.{Replied}
use Rattle.ccr_object.specs.declared.deed.Deed.{Deed}
use Rattle.ccr_object.specs.declared.object.Placed.{Placed}
use Rattle.ccr_object.specs.Objects.{after_deed, note_of, reply_of}
use Rattle.ccr_turns.specs.Logs.{log_entry}
use Rattle.ccr_runs.specs.declared.acts.Act.{Act}
use Rattle.ccr_runs.specs.Runs.{IsRunFrom, cast}
use Rattle.ccr_runs.specs.Stories.{Scene, moved, story}
use Rattle.ccr_runs.specs.declared.entries.Entry.{Entry}
use Rattle.ccr_net.specs.Acted.{act_after, scene_from, scene_after, PlainState}
use Rattle.ccr_plain.specs.Owed.{cost, gain, most, owed_after, owed_by, owed_to}
use Rattle.ccr_runs.specs.Played.{entries_of, entry_of, number_at, place_at, reply_in, protocol, scene, step_of, steps_in}
use Rattle.ccr_runs.specs.EntryRuns.{Lacks, IsRun, entry_for, never, replies_of, with_made}
use Rattle.ccr_plain.specs.Served.{seats, IsRoomy, IsServing, Served}
use Rattle.ccr_plain.proofs.CutsAreFew.{cuts_within}
use Rattle.ccr_plain.proofs.CostsAreOwed.{gains_within, owed_enough, settling_costs, settling_some}
use Rattle.ccr_net.proofs.Played.NextAsksAreMet.{ask_facts}
use Rattle.ccr_net.proofs.Played.EachPlaceAnswers.{step_facts}
use Rattle.ccr_net.proofs.Played.RunsFollowTheirSteps.{played_too}
use Rattle.ccr_net.proofs.Played.PlacesByNumber.{stands, place_at-stands}
use Rattle.ccr_net.proofs.Played.PlayedRunsAreRuns.{Adds}
use Rattle.ccr_net.proofs.Played.PlayedRunsGoOn.{adds_so, cast_from, entries-push, heard_other, heard_own, made_so, match_so, run_so}

-- ---- the steps behind one more act

story-push : (k : ℕ) (v : Scene Placed) (acts : List (Act Deed)) (act : Act Deed) → story after_deed k v (acts ++ act ∷ []) ≡ story after_deed k v acts ++ story after_deed k (scene_from v acts) (act ∷ [])
story-push k v [] act = refl
story-push k v (first ∷ acts) act =
    let rest = story-push k (moved after_deed v first) acts act in
    elim (first.seat == k) as (λ b. cond b (log_entry first.place first.stamp first.note (v first.place).0 (v first.place).1 ∷ story after_deed k (moved after_deed v first) (acts ++ act ∷ [])) (story after_deed k (moved after_deed v first) (acts ++ act ∷ [])) ≡ cond b (log_entry first.place first.stamp first.note (v first.place).0 (v first.place).1 ∷ story after_deed k (moved after_deed v first) acts) (story after_deed k (moved after_deed v first) acts) ++ story after_deed k (scene_from (moved after_deed v first) acts) (act ∷ []))
    [ true ↦ ap (λ ms. log_entry first.place first.stamp first.note (v first.place).0 (v first.place).1 ∷ ms) rest | false ↦ rest ]

steps-push : (w : Parts) (acts : List (Act Deed)) (act : Act Deed) (k : ℕ) → steps_in w (acts ++ act ∷ []) k ≡ steps_in w acts k ++ filter_map (step_of w) (story after_deed k (scene_after w acts) (act ∷ []))
steps-push w acts act k = ap (filter_map (step_of w)) (story-push k (scene w) acts act) ∙ filter_map-append (step_of w) (story after_deed k (scene w) acts) (story after_deed k (scene_after w acts) (act ∷ []))

-- ---- sums over actors

sum-same : (w : Parts) (acts more : List (Act Deed)) (n : ℕ) → ((j : ℕ) → j < n → steps_in w more j ≡ steps_in w acts j) → owed_to w more n ≡ owed_to w acts n
sum-same w acts more zero same = refl
sum-same w acts more (suc n) same = λ i. sum-same w acts more n (λ j low. same j (omega (arith, low))) i + owed_by (same n (omega arith) i)

sum-step : (w : Parts) (acts more : List (Act Deed)) (k n c g : ℕ) → k < n → ((j : ℕ) → (k == j) ≡ false → steps_in w more j ≡ steps_in w acts j) → owed_by (steps_in w more k) + c ≡ owed_by (steps_in w acts k) + g → owed_to w more n + c ≡ owed_to w acts n + g
sum-step w acts more k zero c g low same own = absurd (omega (arith, low))
sum-step w acts more k (suc n) c g low same own = by (λ less. sum-step w acts more k n c g less same own) (k == n) refl
  where
    by : (k < n → owed_to w more n + c ≡ owed_to w acts n + g) → (b : Bool) → (k == n) ≡ b → owed_to w more (suc n) + c ≡ owed_to w acts (suc n) + g
    by rest true is =
        let here = same_number k n is in
        let below = sum-same w acts more n (λ j less. same j (above_differs k j (subst (λ m. j < m) (sym here) less))) in
        let last : owed_by (steps_in w more n) + c ≡ owed_by (steps_in w acts n) + g = subst (λ m. owed_by (steps_in w more m) + c ≡ owed_by (steps_in w acts m) + g) here own in
        omega (arith, below, last)
    by rest false is =
        let less : k < n = grind (arith, nat_tests, is, low) in
        let below = rest less in
        let last = ap owed_by (same n is) in
        omega (arith, below, last)

-- each of them is within the sum
sum-has : (w : Parts) (acts : List (Act Deed)) (k n : ℕ) → k < n → owed_by (steps_in w acts k) ≤ owed_to w acts n
sum-has w acts k zero low = absurd (omega (arith, low))
sum-has w acts k (suc n) low = by (λ less. sum-has w acts k n less) (k == n) refl
  where
    by : (k < n → owed_by (steps_in w acts k) ≤ owed_to w acts n) → (b : Bool) → (k == n) ≡ b → owed_by (steps_in w acts k) ≤ owed_to w acts (suc n)
    by rest true is = let same = ap (λ j. owed_by (steps_in w acts j)) (same_number k n is) in omega (arith, same)
    by rest false is =
        let less : k < n = grind (arith, nat_tests, is, low) in
        let below = rest less in
        omega (arith, below)

sum-none : (w : Parts) (n : ℕ) → owed_to w [] n ≡ 0
sum-none w zero = refl
sum-none w (suc n) = let below = sum-none w n in omega (arith, below)

-- ---- one more step

owed-push : (steps : List Step) (step : Step) → owed_by (steps ++ step ∷ []) ≡ owed_after (owed_by steps) step
owed-push steps step = fold-append owed_after 0 steps (step ∷ [])

-- ---- the start

pub serving_start : (w : Parts) → IsValid w → is_closed w ≡ true → IsServing w []
serving_start w valid closed = record {
  valid = valid;
  closed = closed;
  lacks = never;
  run = tt;
  next = λ k low. tt;
  heard = λ k. refl;
  fitting = λ k. tt;
  others = λ k high. refl;
}

pub owed_none : (w : Parts) → owed_to w [] (seats w) ≡ 0
owed_none w = sum-none w (seats w)

-- what the net did is a run
pub serving_run : (w : Parts) (acts : List (Act Deed)) → IsServing w acts → IsRun w 16 (entries_of w acts)
serving_run w acts serving = record { lacks = serving.lacks; steps = (match_so w 16 serving.lacks serving.valid serving.closed (omega arith) acts serving.run).run }

-- ---- an ask

module _ (w : Parts) (acts : List (Act Deed)) (serving : IsServing w acts) (k : ℕ) (one : Asked) (proper : IsProper w k (steps_in w acts k) one) where
  -- what it costs is owed
  pub enough : cost one.ask ≤ owed_by (steps_in w acts k)
  enough = owed_enough w k proper.0 (steps_in w acts k) one proper.1 (serving.fitting k) proper.2

  -- only an actor that is served settles
  pub seated : is_settling one.ask ≡ true → k < seats w
  seated settles = by (nat_lt k (seats w)) refl
    where
      some : 1 ≤ cost one.ask
      some = settling_some one.ask settles

      by : (b : Bool) → nat_lt k (seats w) ≡ b → k < seats w
      by true is = grind (arith, nat_tests, is)
      by false is =
          let high : seats w ≤ k = grind (arith, nat_tests, is) in
          let none = ap owed_by (serving.others k high) in
          let costs = enough in
          absurd (omega (arith, none, costs, some))

  module _ (low : k < seats w) where
    pub seat_few : k < 32
    seat_few = let small = (sound w serving.valid).small.posters in omega (arith, low, small)

    -- the lack of memory that the actor's steps are next under
    abbrev own_lacks : Lacks
    own_lacks j = cond (k == j) proper.0 (serving.lacks j)

    here : own_lacks k ≡ proper.0
    here = ap (λ b. cond b proper.0 (serving.lacks k)) (eq-self k)

    next_so : (j : ℕ) → j < seats w → AreNext w j (own_lacks j) [] (steps_in w acts j)
    next_so j less = by (k == j) refl
      where
        by : (b : Bool) → (k == j) ≡ b → AreNext w j (cond b proper.0 (serving.lacks j)) [] (steps_in w acts j)
        by true is = subst (λ i. AreNext w i proper.0 [] (steps_in w acts i)) (same_number k j is) proper.1
        by false is = serving.next j less

    few_workers : 16 ≤ 16
    few_workers = omega arith

    run_now : IsRunFrom (protocol w own_lacks) (length w.posters + 16) (scene w) (cast (protocol w own_lacks)) acts
    run_now = played_too w 16 serving.lacks own_lacks (step_facts w 16 serving.lacks serving.valid serving.closed few_workers) acts serving.run next_so

    asks_now : next w k (own_lacks k) (replies_of w (entries_of w acts) k) ≡ Some one
    asks_now = ap (λ lack. next w k lack (replies_of w (entries_of w acts) k)) here ∙ ap (next w k proper.0) (sym (serving.heard k)) ∙ proper.2

    abbrev act : Act Deed
    act = act_after w acts k one.place one.ask

    adds : Adds w 16 own_lacks (entries_of w acts) (scene_after w acts) (cast_from w own_lacks (scene w) (cast (protocol w own_lacks)) acts) (act_after w acts k one.place one.ask)
    adds = adds_so w 16 own_lacks serving.valid serving.closed few_workers acts run_now k low one asks_now

    pub met_now : is_some (note_of (scene_after w acts (number_at w one.place)).0 one.ask) ≡ true
    met_now = adds.met

    there : place_at w (number_at w one.place) ≡ one.place
    there =
        let at = (ask_facts w 16 own_lacks serving.valid serving.closed few_workers).there (entries_of w acts) k one (record { run = (match_so w 16 own_lacks serving.valid serving.closed few_workers acts run_now).run; low = low; asks = asks_now }) in
        place_at-stands w one.place (stands w one.place at.0 at.1)

    module _ (entry : Entry) (reply : Reply) (is_entry : entry_of w (act_after w acts k one.place one.ask) ≡ Some entry) (replied : reply_of (scene_after w acts (number_at w one.place)).0 one.ask ≡ Replied reply) (fit : fits (due_of one.ask) reply ≡ true) where
      abbrev step : Step
      step = record { asked = one; reply = reply }

      pub steps_own : steps_in w (acts ++ act_after w acts k one.place one.ask ∷ []) k ≡ steps_in w acts k ++ (record { asked = one; reply = reply }) ∷ []
      steps_own = steps-push w acts act k ∙ ap (λ steps. steps_in w acts k ++ steps) last
        where
          last : filter_map (step_of w) (story after_deed k (scene_after w acts) (act ∷ [])) ≡ step ∷ []
          last = ap (λ b. filter_map (step_of w) (cond b ((record { place = act.place; stamp = act.stamp; note = act.note; before = (scene_after w acts act.place).0; earlier = (scene_after w acts act.place).1 }) ∷ []) [])) (eq-self k)
              ∙ ap (λ (p : Place). cons_option (option_map (λ (r : Reply). record { asked = record { place = p; ask = one.ask }; reply = r }) (reply_in (reply_of (scene_after w acts (number_at w one.place)).0 one.ask))) []) there
              ∙ ap (λ (a : PlaceAnswer). cons_option (option_map (λ (r : Reply). record { asked = one; reply = r }) (reply_in a)) []) replied

      pub steps_other : (j : ℕ) → (k == j) ≡ false → steps_in w (acts ++ act_after w acts k one.place one.ask ∷ []) j ≡ steps_in w acts j
      steps_other j other = steps-push w acts act j ∙ ap (λ b. steps_in w acts j ++ filter_map (step_of w) (cond b ((record { place = act.place; stamp = act.stamp; note = act.note; before = (scene_after w acts act.place).0; earlier = (scene_after w acts act.place).1 }) ∷ []) [])) other ∙ append-nil (steps_in w acts j)

      entries_so : entries_of w (acts ++ act_after w acts k one.place one.ask ∷ []) ≡ entries_of w acts ++ entry ∷ []
      entries_so = entries-push w acts act entry is_entry

      pub replies_own : replies_of w (entries_of w acts ++ entry ∷ []) k ≡ replies_of w (entries_of w acts) k ++ reply ∷ []
      replies_own = heard_own w 16 own_lacks serving.valid serving.closed few_workers acts run_now k low one asks_now entry reply is_entry replied

      pub entry_made : entry_for w (entries_of w acts) k one ≡ Some entry
      entry_made =
          ap (option_and_then (entry_for w (entries_of w acts) k)) (sym asks_now)
          ∙ made_so w 16 own_lacks serving.valid serving.closed few_workers acts run_now k low one asks_now entry is_entry

      -- by the other actors as well
      each : (P : ℕ → Type 0) → P k → ((j : ℕ) → (k == j) ≡ false → P j) → (j : ℕ) → P j
      each P own other j = by (k == j) refl
        where
          by : (b : Bool) → (k == j) ≡ b → P j
          by true is = subst P (same_number k j is) own
          by false is = other j is

      pub serving_next : IsServing w (acts ++ act_after w acts k one.place one.ask ∷ [])
      serving_next = record {
        valid = serving.valid;
        closed = serving.closed;
        lacks = own_lacks;
        run = run_so w 16 own_lacks serving.valid serving.closed few_workers acts run_now k low one asks_now;
        next = each (λ j. j < seats w → AreNext w j (own_lacks j) [] (steps_in w (acts ++ act ∷ []) j))
            (λ less. subst (AreNext w k (own_lacks k) []) (sym steps_own) (next_more w k (own_lacks k) [] (steps_in w acts k) step (next_so k less) (ap (λ lack. next w k lack (nets.replies_of (steps_in w acts k))) here ∙ proper.2)))
            (λ j other less. subst (AreNext w j (own_lacks j) []) (sym (steps_other j other)) (next_so j less));
        heard = each (λ j. nets.replies_of (steps_in w (acts ++ act ∷ []) j) ≡ replies_of w (entries_of w (acts ++ act ∷ [])) j)
            (ap nets.replies_of steps_own ∙ replies-more (steps_in w acts k) step ∙ ap (λ given. given ++ reply ∷ []) (serving.heard k) ∙ sym replies_own ∙ ap (λ es. replies_of w es k) (sym entries_so))
            (λ j other. ap nets.replies_of (steps_other j other) ∙ serving.heard j ∙ sym (heard_other w 16 own_lacks serving.valid serving.closed few_workers acts run_now k low one asks_now entry is_entry j other) ∙ ap (λ es. replies_of w es j) (sym entries_so));
        fitting = each (λ j. AreFitting (steps_in w (acts ++ act ∷ []) j))
            (subst AreFitting (sym steps_own) (fitting-both (steps_in w acts k) (step ∷ []) (serving.fitting k) (fit, tt)))
            (λ j other. subst AreFitting (sym (steps_other j other)) (serving.fitting j));
        others = each (λ j. seats w ≤ j → steps_in w (acts ++ act ∷ []) j ≡ [])
            (λ high. absurd (omega (arith, low, high)))
            (λ j other high. steps_other j other ∙ serving.others j high);
      }

      -- what is owed then
      pub owes_next : owed_to w (acts ++ act_after w acts k one.place one.ask ∷ []) (seats w) + cost one.ask ≡ owed_to w acts (seats w) + gain reply
      owes_next = sum-step w acts (acts ++ act ∷ []) k (seats w) (cost one.ask) (gain reply) low steps_other
          (let own = ap owed_by steps_own ∙ owed-push (steps_in w acts k) step in let costs = enough in omega (arith, own, costs))

      -- and no more than was made room for
      pub gains : gain reply ≤ most (length acts) one.ask
      gains = gains_within (length acts) one.ask reply fit (cuts_within w acts (number_at w one.place) one.ask reply fit replied)

    pub owed_here : cost one.ask ≤ owed_to w acts (seats w)
    owed_here = let costs = enough in let has = sum-has w acts k (seats w) low in omega (arith, costs, has)

-- ---- the room

-- an ask that was made room for, or settles, is one of an actor that is served
pub low_so : (w : Parts) (acts : List (Act Deed)) (serving : IsServing w acts) (k : ℕ) (one : Asked) (proper : IsProper w k (steps_in w acts k) one) (count : ℕ) → count ≡ seats w → (is_settling one.ask ≡ false → nat_lt k count ≡ true) → k < seats w
low_so w acts serving k one proper count all is_seated = by (is_settling one.ask) refl
  where
    by : (b : Bool) → is_settling one.ask ≡ b → k < seats w
    by true settles = seated w acts serving k one proper settles
    by false other = let test = is_seated other in let less : k < count = grind (arith, nat_tests, test) in omega (arith, less, all)

-- room for the entry, and then for what is owed
pub room_so : (ask : Ask) (reply : Reply) (owed mid extra : ℕ) → fits (due_of ask) reply ≡ true → gain reply ≤ extra → cost ask ≤ owed → owed ≤ mid → (is_settling ask ≡ false → owed + (1 + extra) ≤ mid) → owed - cost ask + gain reply + 1 ≤ mid
room_so ask reply owed mid extra fit within costs kept made = by (is_settling ask) refl
  where
    by : (b : Bool) → is_settling ask ≡ b → owed - cost ask + gain reply + 1 ≤ mid
    by true settles = let less = settling_costs ask reply settles fit in omega (arith, less, costs, kept)
    by false other = let room = made other in omega (arith, within, room)

-- room for one entry at least
pub some_so : (ask : Ask) (owed mid extra : ℕ) → cost ask ≤ owed → owed ≤ mid → (is_settling ask ≡ false → owed + (1 + extra) ≤ mid) → 1 ≤ mid
some_so ask owed mid extra costs kept made = by (is_settling ask) refl
  where
    by : (b : Bool) → is_settling ask ≡ b → 1 ≤ mid
    by true settles = let some = settling_some ask settles in omega (arith, some, costs, kept)
    by false other = let room = made other in omega (arith, room)

-- so in a vector: room for one more element
pub push_so : (ask : Ask) (owed len capacity mid_len mid extra : ℕ) → cost ask ≤ owed → owed ≤ capacity - len → mid_len ≡ len → capacity ≤ mid → (is_settling ask ≡ false → len + (owed + (1 + extra)) ≤ mid) → mid_len < mid
push_so ask owed len capacity mid_len mid extra costs has same kept made = by (is_settling ask) refl
  where
    by : (b : Bool) → is_settling ask ≡ b → mid_len < mid
    by true settles = let some = settling_some ask settles in omega (arith, some, costs, has, same, kept)
    by false other = let room = made other in omega (arith, room, same)

-- and then for what is owed
pub free_so : (ask : Ask) (reply : Reply) (owed len capacity mid_len mid new_len new extra left : ℕ) → fits (due_of ask) reply ≡ true → gain reply ≤ extra → cost ask ≤ owed → owed ≤ capacity - len → mid_len ≡ len → capacity ≤ mid → (is_settling ask ≡ false → len + (owed + (1 + extra)) ≤ mid) → new_len ≡ mid_len + 1 → new ≡ mid → left ≡ owed - cost ask + gain reply → left ≤ new - new_len
free_so ask reply owed len capacity mid_len mid new_len new extra left fit within costs has same kept made longer as_wide is = by (is_settling ask) refl
  where
    by : (b : Bool) → is_settling ask ≡ b → left ≤ new - new_len
    by true settles = let less = settling_costs ask reply settles fit in omega (arith, less, costs, has, same, kept, longer, as_wide, is)
    by false other = let room = made other in omega (arith, within, room, same, longer, as_wide, is)

-- what of the net contracts see
abbrev pub seen : PlainState → List Entry → Served
seen state entries = record { wiring = state.wiring; acts = state.acts; entries = entries }

-- one call of the net: what it began with, what it made room for, and what it did
pub record Acts (old : PlainState) (es : List Entry) (room owed count : ℕ) (k : ℕ) (one : Asked) : Type 0 where
  pub roomy : IsRoomy old es room owed count
  pub proper : IsProper old.wiring k (steps_in old.wiring old.acts k) one
  pub is_seated : is_settling one.ask ≡ false → nat_lt k count ≡ true

pub acts_from : (old : PlainState) (es : List Entry) (room owed count k : ℕ) (one : Asked) (served : Served) → IsRoomy old es room owed count → seen old es ≡ served → IsProper served.wiring k (steps_in served.wiring served.acts k) one → (is_settling one.ask ≡ false → nat_lt k count ≡ true) → Acts old es room owed count k one
acts_from old es room owed count k one served roomy view proper is_seated = record {
  roomy = roomy;
  proper = subst (λ (x : Served). IsProper x.wiring k (steps_in x.wiring x.acts k) one) (sym view) proper;
  is_seated = is_seated;
}

module _ (old : PlainState) (es : List Entry) (room owed count k : ℕ) (one : Asked) (a : Acts old es room owed count k one) where
  abbrev w : Parts
  w = old.wiring

  serving : IsServing old.wiring old.acts
  serving = a.roomy.serving

  low : k < seats old.wiring
  low = low_so old.wiring old.acts a.roomy.serving k one a.proper count a.roomy.seated a.is_seated

  pub act_seat : k < 32
  act_seat = seat_few old.wiring old.acts a.roomy.serving k one a.proper low

  pub act_met : is_some (note_of (scene_after old.wiring old.acts (number_at old.wiring one.place)).0 one.ask) ≡ true
  act_met = met_now old.wiring old.acts a.roomy.serving k one a.proper low

  pub act_costs : cost one.ask ≤ owed
  act_costs = let here = owed_here old.wiring old.acts a.roomy.serving k one a.proper low in let same = a.roomy.owes in omega (arith, here, same)

  module _ (later : PlainState) (more : List Entry) (entry : Entry) (reply : Reply) (wiring_so : later.wiring ≡ old.wiring) (acts_so : later.acts ≡ old.acts ++ act_after old.wiring old.acts k one.place one.ask ∷ []) (is_entry : entry_of old.wiring (act_after old.wiring old.acts k one.place one.ask) ≡ Some entry) (replied : reply_of (scene_after old.wiring old.acts (number_at old.wiring one.place)).0 one.ask ≡ Replied reply) (fit : fits (due_of one.ask) reply ≡ true) (more_so : more ≡ es ++ entry ∷ []) where
    pub act_gains : gain reply ≤ most (length old.acts) one.ask
    act_gains = gains old.wiring old.acts a.roomy.serving k one a.proper low entry reply is_entry replied fit

    steps_at : (j : ℕ) → steps_in later.wiring later.acts j ≡ steps_in old.wiring (old.acts ++ act_after old.wiring old.acts k one.place one.ask ∷ []) j
    steps_at j = λ i. steps_in (wiring_so i) (acts_so i) j

    pub act_added : steps_in later.wiring later.acts k ≡ steps_in old.wiring old.acts k ++ (record { asked = one; reply = reply }) ∷ []
    act_added = steps_at k ∙ steps_own old.wiring old.acts a.roomy.serving k one a.proper low entry reply is_entry replied fit

    pub act_others : (j : ℕ) → j ≢ k → steps_in later.wiring later.acts j ≡ steps_in old.wiring old.acts j
    act_others j other = by (k == j) refl
      where
        by : (b : Bool) → (k == j) ≡ b → steps_in later.wiring later.acts j ≡ steps_in old.wiring old.acts j
        by true is = absurd (other (sym (same_number k j is)))
        by false is = steps_at j ∙ steps_other old.wiring old.acts a.roomy.serving k one a.proper low entry reply is_entry replied fit j is

    entries_now : more ≡ entries_of old.wiring old.acts ++ entry ∷ []
    entries_now = more_so ∙ ap (λ xs. xs ++ entry ∷ []) a.roomy.same

    pub act_made : more ≡ with_made es (entry_for old.wiring es k one)
    act_made = more_so ∙ ap (with_made es) (sym (ap (λ xs. entry_for old.wiring xs k one) a.roomy.same ∙ entry_made old.wiring old.acts a.roomy.serving k one a.proper low entry reply is_entry replied fit))

    pub act_heard : replies_of later.wiring more k ≡ replies_of old.wiring es k ++ reply ∷ []
    act_heard = (λ i. replies_of (wiring_so i) (entries_now i) k) ∙ replies_own old.wiring old.acts a.roomy.serving k one a.proper low entry reply is_entry replied fit ∙ ap (λ xs. replies_of old.wiring xs k ++ reply ∷ []) (sym a.roomy.same)

    pub act_roomy : (free left : ℕ) → left ≡ owed - cost one.ask + gain reply → left ≤ later.room → left ≤ free → IsRoomy later more free left count
    act_roomy free left left_so acts_room entries_room =
        let P : Parts → List (Act Deed) → Type 0 = λ x done. IsRoomy (record { wiring = x; acts = done; room = later.room }) more free left count in
        let owes = owes_next old.wiring old.acts a.roomy.serving k one a.proper low entry reply is_entry replied fit in
        let was = a.roomy.owes in
        let costs = act_costs in
        subst (λ x. P x later.acts) (sym wiring_so) (subst (P old.wiring) (sym acts_so) (record {
          serving = serving_next old.wiring old.acts a.roomy.serving k one a.proper low entry reply is_entry replied fit;
          same = entries_now ∙ sym (entries-push old.wiring old.acts (act_after old.wiring old.acts k one.place one.ask) entry is_entry);
          owes = omega (arith, left_so, owes, was, costs);
          acts_room = acts_room;
          entries_room = entries_room;
          seated = a.roomy.seated;
        }))

-- the start
pub roomy_start : (state : PlainState) (es : List Entry) (room count : ℕ) → IsValid state.wiring → is_closed state.wiring ≡ true → state.acts ≡ [] → es ≡ [] → count ≡ seats state.wiring → IsRoomy state es room 0 count
roomy_start state es room count valid closed none empty all =
    let P : List (Act Deed) → Type 0 = λ done. IsRoomy (record { wiring = state.wiring; acts = done; room = state.room }) es room 0 count in
    subst P (sym none) (record {
      serving = serving_start state.wiring valid closed;
      same = empty;
      owes = sym (owed_none state.wiring);
      acts_room = omega arith;
      entries_room = omega arith;
      seated = all;
    })

pub roomy_run : (state : PlainState) (es : List Entry) (room owed count : ℕ) → IsRoomy state es room owed count → IsRun state.wiring 16 es
roomy_run state es room owed count roomy = subst (IsRun state.wiring 16) (sym roomy.same) (serving_run state.wiring state.acts roomy.serving)
