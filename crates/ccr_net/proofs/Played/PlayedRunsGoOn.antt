-- A played run goes on by the next ask of an actor, and the actors go on with it.
use Rattle.std.proofs.Common.{◌≡◌, ◌<◌, ◌≤◌, ℕ, zero, suc, ◌+◌, max, Bool, true, false, ◌⊎◌, List, [], ◌∷◌, ◌++◌, length, length-append, get_or, drop, Option, Some, None, Ok, refl, sym, arith, ap, ◌∙◌, subst, inl, inr, append_assoc, append-nil}
use Rattle.std.specs.Prelude.{◌==◌, cond, slice_get, slice_set}
use Rattle.std.specs.List.{cons_option}
use Rattle.std.specs.Option.{is_some, option_map, option_and_then}
use Rattle.std.proofs.lemmas.List.Elements.{filter_map-append}
use Rattle.std.proofs.lemmas.Option.{same_Some}
use Rattle.std.proofs.Math.ListN.{length-set}
use native.Mathlib.Numerals.{unary_clauses}
use Rattle.ccr_base.specs.declared.names.Place.{Place}
use Rattle.ccr_wiring.specs.declared.parts.Parts.{Parts}
use Rattle.ccr_wiring.specs.Valid.{IsValid}
use Rattle.ccr_wiring.proofs.Soundness.{sound}
use Rattle.ccr_wiring.specs.Openness.{is_closed}
use Rattle.ccr_base.proofs.Booleans.{eq-self, same_number, differ}
use Rattle.ccr_base.proofs.Options.{get-push, get-set_same, get-set_other}
use Rattle.ccr_places.specs.declared.notes.Note.{Note}
use Rattle.ccr_claim.specs.declared.asks.Ask.{Ask}
use Rattle.ccr_claim.specs.declared.asks.Asked.{Asked}
use Rattle.ccr_claim.specs.declared.asks.Reply.{Reply}
use Rattle.ccr_actor.specs.Actors.{State, after, state_after}
use Rattle.ccr_actor.specs.Actors as actors
use Rattle.ccr_actor.specs.Acting.{Acting, quiet, answered, at_state, is_at_rest, kept, next, rests_by, sent, shortened, started, IsAfter}
use Rattle.ccr_actor.proofs.ActorsFollowTheirSteps.{state_more, step_is, no-ask as resting}
use Rattle.ccr_actor.proofs.WhatCountsIsKept.{after_short, kept_after, kept_asked, kept_short}
use Rattle.ccr_object.specs.declared.deed.PlaceAnswer.TheVariants.{Replied}
use Rattle.ccr_object.specs.declared.deed.Deed.{Deed}
use Rattle.ccr_object.specs.declared.object.Placed.{Placed}
use Rattle.ccr_object.specs.Objects.{after_deed, reply_of}
use Rattle.ccr_runs.specs.declared.acts.Act.{Act}
use Rattle.ccr_runs.specs.Runs.{Cast, IsGiven, IsRunFrom, cast, taught}
use Rattle.ccr_runs.specs.Stories.{Scene, moved}
use Rattle.ccr_runs.specs.declared.entries.Entry.{Entry}
use Rattle.ccr_net.specs.Acted.{PlainState, act_after, scene_from, scene_after, stamp_from}
use Rattle.ccr_runs.specs.Played.{entries_of, entry_of, heard, next_of, number_at, numbered, place_at, protocol, scene}
use Rattle.ccr_runs.specs.EntryRuns.{Lacks, IsRunAfter, entry_for, made_by, never, replies_of, scheduled_from, with_made}
use Rattle.ccr_net.specs.Schedules.{AreStarted, IsActing, IsAnswered, IsMet, IsPlayed, IsShortAfter, IsStep}
use Rattle.ccr_net.proofs.Played.EachPlaceAnswers.{step_facts}
use Rattle.ccr_net.proofs.Played.PlayedRunsAreRuns.{Adds, Matches, Matches-begins, act_adds}
use Rattle.ccr_net.proofs.Played.NextAsksAreAnswered.{StepFacts}

-- ---- one more act of a run

abbrev pub cast_from : (w : Parts) (lacks : Lacks) → Scene Placed → Cast (protocol w lacks) → List (Act Deed) → Cast (protocol w lacks)
cast_from w lacks v l [] = l
cast_from w lacks v l (act ∷ acts) = cast_from w lacks (moved after_deed v act) (taught (protocol w lacks) l v act) acts

-- each actor's last stamp
pub cast_stamp : (w : Parts) (lacks : Lacks) (v : Scene Placed) (l : Cast (protocol w lacks)) (acts : List (Act Deed)) (k : ℕ) → (cast_from w lacks v l acts k).1 ≡ stamp_from k (l k).1 acts
cast_stamp w lacks v l [] k = refl
cast_stamp w lacks v l (act ∷ acts) k =
    cast_stamp w lacks (moved after_deed v act) (taught (protocol w lacks) l v act) acts k
    ∙ ap (λ n. stamp_from k n acts) (elim (act.seat == k) as (λ b. (cond b (heard (l k).0 (reply_of (v act.place).0 act.note.ask.value), act.stamp) (l k)).1 ≡ cond b act.stamp (l k).1) [ true ↦ refl | false ↦ refl ])

pub run_push : (w : Parts) (lacks : Lacks) (n : ℕ) (v : Scene Placed) (l : Cast (protocol w lacks)) (acts : List (Act Deed)) (act : Act Deed) → IsRunFrom (protocol w lacks) n v l acts → act.seat < n → next_of w lacks (cast_from w lacks v l acts act.seat).0 ≡ Some (act.place, act.note.ask.value) → IsGiven (protocol w lacks) (scene_from v acts act.place).0 act.note → act.stamp ≡ max (scene_from v acts act.place).1 (cast_from w lacks v l acts act.seat).1 + 1 → IsRunFrom (protocol w lacks) n v l (acts ++ act ∷ [])
run_push w lacks n v l [] act run low asks gives stamp = (low, asks, gives, stamp, tt)
run_push w lacks n v l (first ∷ acts) act run low asks gives stamp = (run.0, run.1, run.2, run.3, run_push w lacks n (moved after_deed v first) (taught (protocol w lacks) l v first) acts act run.4 low asks gives stamp)

-- the last entry of a run is the one that its actor makes
pub run_last : (w : Parts) (n : ℕ) (lacks : Lacks) (past es : List Entry) (e : Entry) → IsRunAfter w n lacks past (es ++ e ∷ []) → made_by w lacks (past ++ es) e.actor ≡ Some e
run_last w n lacks past [] e run = subst (λ p. made_by w lacks p e.actor ≡ Some e) (sym (append-nil past)) run.1
run_last w n lacks past (x ∷ es) e run = subst (λ p. made_by w lacks p e.actor ≡ Some e) (append_assoc past (x ∷ []) es) (run_last w n lacks (past ++ x ∷ []) es e run.2)

pub matches_after : (w : Parts) (workers : ℕ) (lacks : Lacks) (facts : StepFacts w workers lacks) (past : List Entry) (v : Scene Placed) (l : Cast (protocol w lacks)) (acts : List (Act Deed)) → Matches w workers lacks past v l → IsRunFrom (protocol w lacks) (length w.posters + workers) v l acts → Matches w workers lacks (past ++ entries_of w acts) (scene_from v acts) (cast_from w lacks v l acts)
matches_after w workers lacks facts past v l [] m run = subst (λ es. Matches w workers lacks es v l) (sym (append-nil past)) m
matches_after w workers lacks facts past v l (act ∷ acts) m run =
    let adds = act_adds w workers lacks facts past v l act m run.0 run.1 run.2 run.3 in
    let rest = matches_after w workers lacks facts (past ++ adds.entry ∷ []) (moved after_deed v act) (taught (protocol w lacks) l v act) acts adds.matches run.4 in
    let all : (past ++ adds.entry ∷ []) ++ entries_of w acts ≡ past ++ entries_of w (act ∷ acts) = append_assoc past (adds.entry ∷ []) (entries_of w acts) ∙ ap (λ o. past ++ cons_option o (entries_of w acts)) (sym adds.is_entry) in
    subst (λ es. Matches w workers lacks es (scene_from (moved after_deed v act) acts) (cast_from w lacks (moved after_deed v act) (taught (protocol w lacks) l v act) acts)) all rest

pub entries-push : (w : Parts) (acts : List (Act Deed)) (act : Act Deed) (entry : Entry) → entry_of w act ≡ Some entry → entries_of w (acts ++ act ∷ []) ≡ entries_of w acts ++ entry ∷ []
entries-push w acts act entry is = filter_map-append (entry_of w) acts (act ∷ []) ∙ ap (λ o. entries_of w acts ++ cons_option o []) is

by_actor : (w : Parts) (act : Act Deed) (entry : Entry) → entry_of w act ≡ Some entry → entry.actor ≡ act.seat
by_actor w act entry = by act.note.note
  where
    by : (o : Option Note) → option_map (λ (note : Note). record { actor = act.seat; place = place_at w act.place; stamp = act.stamp; note = note }) o ≡ Some entry → entry.actor ≡ act.seat
    by None is = absurd (cc)
    by (Some note) is = ap (λ (e : Entry). e.actor) (sym (same_Some _ entry is))

-- ---- the next ask of an actor of a played run

module _ (w : Parts) (workers : ℕ) (lacks : Lacks) (valid : IsValid w) (closed : is_closed w ≡ true) (few : workers ≤ 16) (acts : List (Act Deed)) (run : IsRunFrom (protocol w lacks) (length w.posters + workers) (scene w) (cast (protocol w lacks)) acts) where
  abbrev so_far : List Entry
  so_far = entries_of w acts

  pub match_so : Matches w workers lacks (entries_of w acts) (scene_after w acts) (cast_from w lacks (scene w) (cast (protocol w lacks)) acts)
  match_so = matches_after w workers lacks (step_facts w workers lacks valid closed few) [] (scene w) (cast (protocol w lacks)) acts (Matches-begins w workers lacks) run

  module _ (k : ℕ) (low : k < length w.posters + workers) (one : Asked) (asks : actors.next w k (lacks k) (replies_of w (entries_of w acts) k) ≡ Some one) where
    abbrev act : Act Deed
    act = act_after w acts k one.place one.ask

    asks_so : next_of w lacks (cast_from w lacks (scene w) (cast (protocol w lacks)) acts k).0 ≡ Some (number_at w one.place, one.ask)
    asks_so = ap (λ s. next_of w lacks s.0) (match_so.actors k) ∙ ap (option_map (numbered w)) asks

    stamp_so : act.stamp ≡ max (scene_after w acts (number_at w one.place)).1 (cast_from w lacks (scene w) (cast (protocol w lacks)) acts k).1 + 1
    stamp_so = let same = cast_stamp w lacks (scene w) (cast (protocol w lacks)) acts k in rw same (omega arith)

    pub adds_so : Adds w workers lacks (entries_of w acts) (scene_after w acts) (cast_from w lacks (scene w) (cast (protocol w lacks)) acts) (act_after w acts k one.place one.ask)
    adds_so = act_adds w workers lacks (step_facts w workers lacks valid closed few) (entries_of w acts) (scene_after w acts) (cast_from w lacks (scene w) (cast (protocol w lacks)) acts) act match_so low asks_so refl stamp_so

    pub run_so : IsRunFrom (protocol w lacks) (length w.posters + workers) (scene w) (cast (protocol w lacks)) (acts ++ act_after w acts k one.place one.ask ∷ [])
    run_so = run_push w lacks (length w.posters + workers) (scene w) (cast (protocol w lacks)) acts act run low asks_so refl stamp_so

    -- what the actor was replied then
    pub heard_own : (entry : Entry) (reply : Reply) → entry_of w (act_after w acts k one.place one.ask) ≡ Some entry → reply_of (scene_after w acts (number_at w one.place)).0 one.ask ≡ Replied reply → replies_of w (entries_of w acts ++ entry ∷ []) k ≡ replies_of w (entries_of w acts) k ++ reply ∷ []
    heard_own entry reply is replied =
        ap (λ e. replies_of w (entries_of w acts ++ e ∷ []) k) (same_Some entry adds_so.entry (sym is ∙ adds_so.is_entry))
        ∙ sym (ap (λ s. s.0.given) (adds_so.matches.actors k))
        ∙ ap (λ b. (cond b (heard (cast_from w lacks (scene w) (cast (protocol w lacks)) acts k).0 (reply_of (scene_after w acts (number_at w one.place)).0 one.ask), act.stamp) (cast_from w lacks (scene w) (cast (protocol w lacks)) acts k)).0.given) (eq-self k)
        ∙ ap (λ a. (heard (cast_from w lacks (scene w) (cast (protocol w lacks)) acts k).0 a).given) replied
        ∙ ap (λ s. s.0.given ++ reply ∷ []) (match_so.actors k)

    -- and the others as before
    pub heard_other : (entry : Entry) → entry_of w (act_after w acts k one.place one.ask) ≡ Some entry → (j : ℕ) → (k == j) ≡ false → replies_of w (entries_of w acts ++ entry ∷ []) j ≡ replies_of w (entries_of w acts) j
    heard_other entry is j other =
        ap (λ e. replies_of w (entries_of w acts ++ e ∷ []) j) (same_Some entry adds_so.entry (sym is ∙ adds_so.is_entry))
        ∙ sym (ap (λ s. s.0.given) (adds_so.matches.actors j))
        ∙ ap (λ b. (cond b (heard (cast_from w lacks (scene w) (cast (protocol w lacks)) acts j).0 (reply_of (scene_after w acts (number_at w one.place)).0 one.ask), act.stamp) (cast_from w lacks (scene w) (cast (protocol w lacks)) acts j)).0.given) other
        ∙ ap (λ s. s.0.given) (match_so.actors j)

    -- the entry is the one that the actor makes
    pub made_so : (entry : Entry) → entry_of w (act_after w acts k one.place one.ask) ≡ Some entry → made_by w lacks (entries_of w acts) k ≡ Some entry
    made_so entry is =
        let same = same_Some entry adds_so.entry (sym is ∙ adds_so.is_entry) in
        let made = run_last w workers lacks [] (entries_of w acts) adds_so.entry adds_so.matches.run in
        let own = by_actor w act adds_so.entry adds_so.is_entry in
        subst (λ e. made_by w lacks (entries_of w acts) k ≡ Some e) (sym same) (subst (λ a. made_by w lacks (entries_of w acts) a ≡ Some adds_so.entry) own made)

-- ---- actors

-- an actor asks what comes next after what it was replied
pub next_same : (w : Parts) (lacks : Lacks) (es : List Entry) (k : ℕ) (a : Acting) → IsActing w lacks es k a → next a ≡ actors.next w k (lacks k) (replies_of w es k)
next_same w lacks es k a acting = ap next acting.stands ∙ kept_asked w k (state_after w k (lacks k) (replies_of w es k))

pub acting_quiet : (w : Parts) (lacks : Lacks) (es : List Entry) (k : ℕ) (a : Acting) → IsActing w lacks es k a → a.asking ≡ quiet
acting_quiet w lacks es k a acting = ap (λ (x : Acting). x.asking) acting.stands

pub acting_number : (w : Parts) (lacks : Lacks) (es : List Entry) (k : ℕ) (a : Acting) → IsActing w lacks es k a → a.actor ≡ k
acting_number w lacks es k a acting = ap (λ (x : Acting). x.actor) acting.stands

pub acting_heard : (w : Parts) (lacks : Lacks) (es more : List Entry) (k : ℕ) (a : Acting) → replies_of w more k ≡ replies_of w es k → IsActing w lacks es k a → IsActing w lacks more k a
acting_heard w lacks es more k a same acting = record {
  stands = acting.stands ∙ ap (λ given. at_state w k (state_after w k (lacks k) given)) (sym same);
  short = subst (λ given. IsShortAfter (lacks k) given a.state.is_short) (sym same) acting.short;
}

pub acting_started : (w : Parts) (lacks : Lacks) (k : ℕ) → lacks k ≡ None → IsActing w lacks [] k (started w k)
acting_started w lacks k none = record {
  stands = ap (λ lack. at_state w k (state_after w k lack [])) (sym none);
  short = subst (λ lack. IsShortAfter lack [] false) (sym none) refl;
}

-- the actor in this state, as far as it counts, with no ask unanswered
abbrev pub acting_of : Parts → ℕ → State → Acting
acting_of w k state = record { wiring = w; actor = k; state = state; asking = quiet }

-- the state that the reply to its next ask leads to
module _ (w : Parts) (k : ℕ) (lack : Option ℕ) (given : List Reply) (one : Asked) (reply : Reply) (asks : actors.next w k lack given ≡ Some one) where
  abbrev was : State
  was = state_after w k lack given

  first_reply : answered (sent (at_state w k (state_after w k lack given))) reply ≡ at_state w k (after w k (kept (state_after w k lack given)) reply)
  first_reply = ap (at_state w k) (step_is w k (kept was) one reply (kept_asked w k was ∙ asks))

  reply_short : (answered (sent (at_state w k (state_after w k lack given))) reply).state.is_short ≡ (kept (state_after w k lack given)).is_short
  reply_short = ap (λ (x : Acting). x.state.is_short) first_reply ∙ kept_short (after w k (kept was) reply) ∙ after_short w k (kept was) reply

  reply_stands : (short : Bool) → IsShortAfter lack given short → answered (sent (at_state w k (state_after w k lack given))) reply ≡ at_state w k (state_after w k lack (given ++ reply ∷ []))
  reply_stands short is =
      first_reply
      ∙ ap (acting_of w k) (kept_after w k was reply)
      ∙ ap (at_state w k) (sym (more_replies lack short is))
    where
      more_replies : (l : Option ℕ) (short : Bool) → IsShortAfter l given short → state_after w k l (given ++ reply ∷ []) ≡ after w k (state_after w k l given) reply
      more_replies None short is = state_more w k None given reply tt
      more_replies (Some n) short is = state_more w k (Some n) given reply is.0

still_short : (lack : Option ℕ) (given : List Reply) (reply : Reply) (short other : Bool) → other ≡ short → IsShortAfter lack given short → IsShortAfter lack (given ++ reply ∷ []) other
still_short None given reply short other same is = same ∙ is
still_short (Some n) given reply short other same is = (omega (arith, is.0, length-append given (reply ∷ [])), same ∙ is.1)

-- an actor that has memory after a reply has had it throughout
plainly : (a b : Acting) (reply : Reply) → (b ≡ answered a reply) ⊎ ((a.state.is_short ≡ false) × (b ≡ shortened (answered a reply))) → (a.state.is_short ≡ false → b.state.is_short ≡ false) → b ≡ answered a reply
plainly a b reply (inl so) long = so
plainly a b reply (inr short) long = let is : b.state.is_short ≡ true = ap (λ (x : Acting). x.state.is_short) short.1 in cc (sym is ∙ long short.0)

pub acting_reply : (w : Parts) (lacks : Lacks) (es more : List Entry) (k : ℕ) (a b : Acting) (one : Asked) (reply : Reply) → IsActing w lacks es k a → next a ≡ Some one → IsAfter (sent a) (Ok reply) b → ((sent a).state.is_short ≡ false → b.state.is_short ≡ false) → replies_of w more k ≡ replies_of w es k ++ reply ∷ [] → IsActing w lacks more k b
acting_reply w lacks es more k a b one reply acting asks so long heard =
    let given = replies_of w es k in
    let at : actors.next w k (lacks k) (replies_of w es k) ≡ Some one = sym (next_same w lacks es k a acting) ∙ asks in
    let is : b ≡ answered (sent (at_state w k (state_after w k (lacks k) (replies_of w es k)))) reply = plainly (sent a) b reply so long ∙ ap (λ x. answered (sent x) reply) acting.stands in
    let still : b.state.is_short ≡ a.state.is_short = ap (λ (x : Acting). x.state.is_short) is ∙ reply_short w k (lacks k) given one reply at ∙ ap (λ (x : Acting). x.state.is_short) (sym acting.stands) in
    record {
      stands = is ∙ reply_stands w k (lacks k) given one reply at a.state.is_short acting.short ∙ ap (λ g. at_state w k (state_after w k (lacks k) g)) (sym heard);
      short = subst (λ g. IsShortAfter (lacks k) g b.state.is_short) (sym heard) (still_short (lacks k) given reply a.state.is_short b.state.is_short still acting.short);
    }

-- ---- at rest

pub rests : (a : Acting) → is_at_rest a ≡ true → next a ≡ None
rests a rest = resting a.asking (next a) rest

asking_one : (o : Option Asked) → rests_by quiet o ≡ false → is_some o ≡ true
asking_one None goes = absurd (cc)
asking_one (Some one) goes = refl

pub asks_one : (a : Acting) → a.asking ≡ quiet → is_at_rest a ≡ false → is_some (next a) ≡ true
asks_one a silent goes = asking_one (next a) (subst (λ q. rests_by q (next a) ≡ false) silent goes)

-- ---- actors by number

pub started_push : (w : Parts) (n : ℕ) (team : List Acting) (a : Acting) → AreStarted w n team → a ≡ started w n → AreStarted w (n + 1) (team ++ a ∷ [])
started_push w n team a so_far is = (omega (arith, so_far.0, length-append team (a ∷ [])), λ k x at. elim (get-push team a x k at) [ inl old ↦ so_far.1 k x old | inr new ↦ sym new.1 ∙ is ∙ ap (started w) (sym so_far.0 ∙ sym new.0) ])

-- ---- one turn

pub played_start : (workers : ℕ) (state : PlainState) (team : List Acting) → IsValid state.wiring → is_closed state.wiring ≡ true → state.acts ≡ [] → AreStarted state.wiring (length state.wiring.posters + workers) team → IsPlayed workers never state team []
played_start workers state team valid closed none begun = record {
  valid = valid;
  closed = closed;
  run = subst (λ acts. IsRunFrom (protocol state.wiring never) (length state.wiring.posters + workers) (scene state.wiring) (cast (protocol state.wiring never)) acts) (sym none) tt;
  same = ap (entries_of state.wiring) (sym none);
  count = begun.0;
  acting = λ k a at. subst (IsActing state.wiring never [] k) (sym (begun.1 k a at)) (acting_started state.wiring never k refl);
}

pub played_run : (workers : ℕ) (lacks : Lacks) (state : PlainState) (team : List Acting) (entries : List Entry) → workers ≤ 16 → IsPlayed workers lacks state team entries → IsRunAfter state.wiring workers lacks [] entries
played_run workers lacks state team entries few played = subst (IsRunAfter state.wiring workers lacks []) (sym played.same) (match_so state.wiring workers lacks played.valid played.closed few state.acts played.run).run

module _ (workers : ℕ) (lacks : Lacks) (state : PlainState) (team : List Acting) (entries : List Entry) (few : workers ≤ 16) (played : IsPlayed workers lacks state team entries) (k : ℕ) (low : k < length team) (a : Acting) (there : slice_get team k ≡ Some a) where
  abbrev w : Parts
  w = state.wiring

  pub acting_so : IsActing state.wiring lacks entries k a
  acting_so = played.acting k a there

  seat_so : k < length w.posters + workers
  seat_so = subst (λ n. k < n) played.count low

  pub seat_few : a.actor < 32
  seat_few = let small = (sound w played.valid).small.posters in let number = acting_number w lacks entries k a acting_so in rw number (omega (arith, seat_so, small))

  asks_next : (one : Asked) → next a ≡ Some one → actors.next w k (lacks k) (replies_of w (entries_of w state.acts) k) ≡ Some one
  asks_next one asks = ap (λ es. actors.next w k (lacks k) (replies_of w es k)) (sym played.same) ∙ sym (next_same w lacks entries k a acting_so) ∙ asks

  pub met_so : IsMet state a
  met_so one asks = (adds_so w workers lacks played.valid played.closed few state.acts played.run k seat_so one (asks_next one asks)).met

  pub rest_made : next a ≡ None → entries ≡ with_made entries (made_by state.wiring lacks entries k)
  rest_made none = ap (λ o. with_made entries (option_and_then (entry_for w entries k) o)) (sym none ∙ next_same w lacks entries k a acting_so)

  module _ (later : PlainState) (b : Acting) (more : List Entry) (step : IsStep state a entries later b more) where
    number : a.actor ≡ k
    number = acting_number w lacks entries k a acting_so

    entry_so : entry_of w (act_after w state.acts k step.one.place step.one.ask) ≡ Some step.made.entry
    entry_so = ap (λ n. entry_of w (act_after w state.acts n step.one.place step.one.ask)) (sym number) ∙ step.made.is_entry

    acts_so : later.acts ≡ state.acts ++ act_after w state.acts k step.one.place step.one.ask ∷ []
    acts_so = step.made.acts ∙ ap (λ n. state.acts ++ act_after w state.acts n step.one.place step.one.ask ∷ []) number

    more_so : more ≡ entries_of w state.acts ++ step.made.entry ∷ []
    more_so = step.made.added ∙ ap (λ es. es ++ step.made.entry ∷ []) played.same

    pub step_made : more ≡ with_made entries (made_by state.wiring lacks entries k)
    step_made = step.made.added ∙ ap (with_made entries) (sym (ap (λ es. made_by w lacks es k) played.same ∙ made_so w workers lacks played.valid played.closed few state.acts played.run k seat_so step.one (asks_next step.one step.asks) step.made.entry entry_so))

    own_heard : replies_of w more k ≡ replies_of w entries k ++ step.made.reply ∷ []
    own_heard = ap (λ es. replies_of w es k) more_so ∙ heard_own w workers lacks played.valid played.closed few state.acts played.run k seat_so step.one (asks_next step.one step.asks) step.made.entry step.made.reply entry_so step.made.replied ∙ ap (λ es. replies_of w es k ++ step.made.reply ∷ []) (sym played.same)

    others_heard : (j : ℕ) → (k == j) ≡ false → replies_of w more j ≡ replies_of w entries j
    others_heard j other = ap (λ es. replies_of w es j) more_so ∙ heard_other w workers lacks played.valid played.closed few state.acts played.run k seat_so step.one (asks_next step.one step.asks) step.made.entry entry_so j other ∙ ap (λ es. replies_of w es j) (sym played.same)

    each_acts : (j : ℕ) (x : Acting) → slice_get (slice_set team k b) j ≡ Some x → IsActing w lacks more j x
    each_acts j x at = by (k == j) refl
      where
        by : (t : Bool) → (k == j) ≡ t → IsActing w lacks more j x
        by true is =
            let j_is : k ≡ j = same_number k j is in
            let x_is : x ≡ b = (let there = sym (subst (λ i. slice_get (slice_set team k b) i ≡ Some x) (sym j_is) at) ∙ get-set_same team k b low in cc) in
            subst (λ i. IsActing w lacks more i x) j_is (subst (IsActing w lacks more k) (sym x_is) (acting_reply w lacks entries more k a b step.one step.made.reply acting_so step.asks step.made.heard step.made.long own_heard))
        by false is = acting_heard w lacks entries more j x (others_heard j is) (played.acting j x (sym (get-set_other team k b j (λ same. differ k j is (sym same))) ∙ at))

    pub step_played : IsPlayed workers lacks later (slice_set team k b) more
    step_played =
        let P : Parts → Type 0 = λ x. IsPlayed workers lacks (record { wiring = x; acts = later.acts; room = later.room }) (slice_set team k b) more in
        subst P (sym step.made.wiring) (record {
          valid = played.valid;
          closed = played.closed;
          run = subst (λ acts. IsRunFrom (protocol w lacks) (length w.posters + workers) (scene w) (cast (protocol w lacks)) acts) (sym acts_so) (run_so w workers lacks played.valid played.closed few state.acts played.run k seat_so step.one (asks_next step.one step.asks));
          same = more_so ∙ sym (entries-push w state.acts (act_after w state.acts k step.one.place step.one.ask) step.made.entry entry_so) ∙ ap (entries_of w) (sym acts_so);
          count = length-set team k b ∙ played.count;
          acting = each_acts;
        })

    pub wiring_so : later.wiring ≡ state.wiring
    wiring_so = step.made.wiring

-- ---- what was asked

-- a step, once what was asked is answered
pub step_of : (state later : PlainState) (a before b : Acting) (entries more : List Entry) (place : Place) (ask : Ask) → next a ≡ Some (record { place = place; ask = ask }) → before ≡ sent a → IsAnswered state before entries place ask later b more → IsStep state a entries later b more
step_of state later a before b entries more place ask asks sends made = record {
  one = record { place = place; ask = ask };
  asks = asks;
  made = subst (λ (x : Acting). IsAnswered state x entries place ask later b more) sends made;
}

-- what is answered, where room was made before it
pub answer_of : (state mid later : PlainState) (a b : Acting) (entries old more : List Entry) (seat : ℕ) (place : Place) (ask : Ask) (entry : Entry) (reply : Reply)
    → mid.wiring ≡ state.wiring → mid.acts ≡ state.acts → seat ≡ a.actor → old ≡ entries
    → later.wiring ≡ mid.wiring → later.acts ≡ mid.acts ++ act_after mid.wiring mid.acts seat place ask ∷ [] → entry_of mid.wiring (act_after mid.wiring mid.acts seat place ask) ≡ Some entry → more ≡ old ++ entry ∷ [] → reply_of (scene_after mid.wiring mid.acts (number_at mid.wiring place)).0 ask ≡ Replied reply
    → IsAfter a (Ok reply) b → (a.state.is_short ≡ false → b.state.is_short ≡ false) → IsAnswered state a entries place ask later b more
answer_of state mid later a b entries old more seat place ask entry reply wiring acts own kept stays done is_entry added replied heard long = record {
  wiring = stays ∙ wiring;
  acts = done ∙ (λ j. acts j ++ act_after (wiring j) (acts j) (own j) place ask ∷ []);
  entry = entry;
  is_entry = sym (λ j. entry_of (wiring j) (act_after (wiring j) (acts j) (own j) place ask)) ∙ is_entry;
  added = added ∙ ap (λ es. es ++ entry ∷ []) kept;
  reply = reply;
  replied = sym (λ j. reply_of (scene_after (wiring j) (acts j) (number_at (wiring j) place)).0 ask) ∙ replied;
  heard = heard;
  long = long;
}

pub same_read : {X : Type 0} (xs : List X) (k : ℕ) (d e : X) → k < length xs → get_or xs k d ≡ get_or xs k e
same_read [] k d e low = absurd (omega arith)
same_read (x ∷ xs) zero d e low = refl
same_read (x ∷ xs) (suc k) d e low = same_read xs k d e (omega arith)

-- ---- all turns

pub drop_here : (turns : List ℕ) (i : ℕ) → i < length turns → drop i turns ≡ get_or turns i 0 ∷ drop (i + 1) turns
drop_here [] i low = absurd (omega arith)
drop_here (t ∷ ts) zero low = refl
drop_here (t ∷ ts) (suc i) low = simp unary_clauses (simp unary_clauses at (drop_here ts i (omega arith)))

pub ahead_so : (w : Parts) (es more : List Entry) (turns : List ℕ) (i : ℕ) → i < length turns → more ≡ with_made es (made_by w never es (get_or turns i 0)) → scheduled_from w more (drop (i + 1) turns) ≡ scheduled_from w es (drop i turns)
ahead_so w es more turns i low made = ap (λ x. scheduled_from w x (drop (i + 1) turns)) made ∙ ap (scheduled_from w es) (sym (drop_here turns i low))
