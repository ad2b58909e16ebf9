-- An actor that is refused memory: what it asks from then on, and that the run so far is one in which it lacks memory from here on.
use Rattle.std.proofs.Common.{◌≡◌, ◌<◌, ◌≤◌, ℕ, ◌+◌, Bool, true, false, List, [], ◌∷◌, ◌++◌, length, length-append, drop, get_or, Option, Some, None, refl, sym, arith, ap, ◌∙◌, subst, cond}
use Rattle.std.specs.Prelude.{◌==◌, if◌then◌else◌, slice_get, slice_set}
use Rattle.std.specs.Option.{option_map, option_and_then}
use Rattle.std.proofs.Math.ListN.{length-set}
use Rattle.ccr_wiring.specs.declared.parts.Parts.{Parts}
use Rattle.ccr_wiring.specs.Valid.{IsValid}
use Rattle.ccr_wiring.specs.Openness.{is_closed}
use Rattle.ccr_base.proofs.Booleans.{eq-self, same_number, differ}
use Rattle.ccr_base.specs.Lists.{has_number}
use Rattle.ccr_base.proofs.Options.{get-set_same, get-set_other}
use Rattle.ccr_claim.specs.declared.asks.Ask.{Ask}
use Rattle.ccr_claim.specs.declared.asks.Ask.TheVariants as asks
use Rattle.ccr_claim.specs.declared.asks.Asked.{Asked}
use Rattle.ccr_claim.specs.declared.asks.Reply.{Reply}
use Rattle.ccr_claim.specs.Asks.{AreSettling, due_of, is_refusable, is_settling}
use Rattle.ccr_actor.specs.Actors.{State, Turn, settle, admit, drive, go_on, stop, ask_in, asked, shorten, state_after, turn}
use Rattle.ccr_actor.specs.Actors as actors
use Rattle.ccr_actor.specs.Acting.{Acting, at_state, kept, next, sent, sent_state, shortened}
use Rattle.ccr_actor.proofs.ActorsFollowTheirSteps.{state_short, later}
use Rattle.ccr_actor.proofs.WhatCountsIsKept.{kept_asked, kept_short, kept_whole}
use Rattle.ccr_actor.proofs.HandsSettle.{all_settle, short_settles}
use Rattle.ccr_actor.proofs.TurnsTellStates.{IsTurnOf, turn_is}
use Rattle.ccr_object.specs.declared.deed.PlaceAnswer.{PlaceAnswer}
use Rattle.ccr_object.specs.declared.deed.PlaceAnswer.TheVariants.{Replied, Unmet}
use Rattle.ccr_object.specs.declared.deed.Deed.{Deed}
use Rattle.ccr_object.specs.declared.object.Placed.{Placed}
use Rattle.ccr_object.specs.Objects.{after_deed, reply_of}
use Rattle.ccr_runs.specs.declared.acts.Act.{Act}
use Rattle.ccr_runs.specs.Runs.{Cast, IsRunFrom, cast, taught}
use Rattle.ccr_runs.specs.Stories.{Scene, moved}
use Rattle.ccr_runs.specs.declared.entries.Entry.{Entry}
use Rattle.ccr_net.specs.Acted.{PlainState}
use Rattle.ccr_runs.specs.Played.{Heard, entries_of, heard, next_of, numbered, protocol, scene}
use Rattle.ccr_runs.specs.EntryRuns.{Lacks, entry_for, made_by, never, replies_of, scheduled, scheduled_from, with_made, IsRun, IsRunAfter}
use Rattle.ccr_net.specs.Schedules.{IsActing, IsPlayed, IsShortAfter, IsStep}
use Rattle.ccr_plain.specs.Shortages.{SoFar, counted, lacking, make, refuse, shortened as run_shortened, turned, turned_by, turned_from, HasRun, IsTaken, IsTurn}
use Rattle.ccr_net.proofs.Played.EachPlaceAnswers.{step_facts}
use Rattle.ccr_net.proofs.Played.PlayedRunsAreRuns.{Matches, Matches-begins, act_adds}
use Rattle.ccr_net.proofs.Played.NextAsksAreAnswered.{StepFacts}
use Rattle.ccr_net.proofs.Played.PlayedRunsGoOn.{cast_from, drop_here, match_so, next_same, played_run, acting_of, step_made, step_played}

same_length : (n : ℕ) → n ≤ n
same_length n = omega arith

longer : {X : Type 0} (xs ys : List X) → length xs ≤ length (xs ++ ys)
longer xs ys = omega (arith, length-append xs ys)

-- ---- the actor

-- an ask that doesn't settle may be refused
pub refusable : (ask : Ask) → is_settling ask ≡ false → is_refusable (due_of ask) ≡ true
refusable (asks.Post m) goes = refl
refusable (asks.Claim t slot) goes = refl
refusable (asks.Consume t) goes = cc goes
refusable (asks.Free t) goes = cc goes
refusable (asks.Commit t m) goes = refl
refusable asks.Admit goes = refl
refusable (asks.Over t r how) goes = cc goes
refusable (asks.Suspend t) goes = refl
refusable (asks.Book t r) goes = refl
refusable (asks.Unbook t) goes = cc goes
refusable (asks.Put t) goes = cc goes
refusable asks.Take goes = refl
refusable asks.Draw goes = refl
refusable asks.Leave goes = refl
refusable asks.Left goes = refl

-- once short it is the same whether it had asked or not
short_same : (w : Parts) (k : ℕ) (state : State) (t : Turn) (one : Asked) → IsTurnOf state t → AreSettling state.hand → ask_in w k state t ≡ Some one → is_settling one.ask ≡ false → kept (shorten w k (sent_state state t)) ≡ kept (shorten w k state)
short_same w k state (settle first more) one at all is goes = let same : first ≡ one = cc is in cc (sym (subst AreSettling at all).0 ∙ (ap (λ (x : Asked). is_settling x.ask) same ∙ goes))
short_same w k state (admit domain more) one at all is goes = refl
short_same w k state (drive spot more) one at all is goes = refl
short_same w k state go_on one at all is goes = refl
short_same w k state stop one at all is goes = cc is

refusal_stands : (w : Parts) (k : ℕ) (given : List Reply) (a b : Acting) (one : Asked) → a ≡ at_state w k (state_after w k None given) → a.state.is_short ≡ false → next a ≡ Some one → is_settling one.ask ≡ false → b ≡ shortened (sent a) → b ≡ at_state w k (state_after w k (Some (length given)) given)
refusal_stands w k given a b one stands long asks goes so =
    let state = state_after w k None given in
    let whole : kept state ≡ state = kept_whole state (sym (kept_short state) ∙ (sym (ap (λ (x : Acting). x.state.is_short) stands) ∙ long)) in
    let at : asked w k state ≡ Some one = sym (kept_asked w k state) ∙ (sym (ap next stands) ∙ asks) in
    let same : kept (shorten w k (sent_state state (turn state))) ≡ kept (shorten w k state) = short_same w k state (turn state) one (turn_is state) (all_settle w k None given) at goes in
    so
    ∙ ap (λ (x : Acting). shortened (sent x)) stands
    ∙ ap (λ (s : State). at_state w k (shorten w k (sent_state s (turn s)))) whole
    ∙ ap (acting_of w k) same
    ∙ ap (at_state w k) (sym (state_short w k given))

-- an actor whose ask doesn't settle has had memory throughout
memory : (w : Parts) (k : ℕ) (lack : Option ℕ) (given : List Reply) (short : Bool) (one : Asked) → IsShortAfter lack given short → actors.next w k lack given ≡ Some one → is_settling one.ask ≡ false → lack ≡ None
memory w k None given short one is asks goes = refl
memory w k (Some n) given short one is asks goes = cc (sym (short_settles w k n given one is.0 asks) ∙ goes)

-- it lacks memory from here on
own_lack : (lacks : Lacks) (k n j : ℕ) → (k == j) ≡ true → lacking lacks k n j ≡ Some n
own_lack lacks k n j is = ap (λ b. if b then Some n else lacks j) is

-- and the others as before
other_lack : (lacks : Lacks) (k n j : ℕ) → (k == j) ≡ false → lacking lacks k n j ≡ lacks j
other_lack lacks k n j is = ap (λ b. if b then Some n else lacks j) is

module _ (w : Parts) (lacks : Lacks) (es : List Entry) (k : ℕ) (a b : Acting) (one : Asked) (acting : IsActing w lacks es k a) (asks : next a ≡ Some one) (goes : is_settling one.ask ≡ false) (so : b ≡ shortened (sent a)) where
  pub memory_so : lacks k ≡ None
  memory_so = memory w k (lacks k) (replies_of w es k) a.state.is_short one acting.short (sym (next_same w lacks es k a acting) ∙ asks) goes

  pub acting_refused : IsActing w (lacking lacks k (length (replies_of w es k))) es k b
  acting_refused =
      let given = replies_of w es k in
      let own = own_lack lacks k (length (replies_of w es k)) k (eq-self k) in
      let long : a.state.is_short ≡ false = subst (λ lack. IsShortAfter lack (replies_of w es k) a.state.is_short) memory_so acting.short in
      let stood : a ≡ at_state w k (state_after w k None (replies_of w es k)) = acting.stands ∙ ap (λ lack. at_state w k (state_after w k lack (replies_of w es k))) memory_so in
      let short : b.state.is_short ≡ true = ap (λ (x : Acting). x.state.is_short) so in
      record {
        stands = refusal_stands w k given a b one stood long asks goes so ∙ ap (λ lack. at_state w k (state_after w k lack (replies_of w es k))) (sym own);
        short = subst (λ lack. IsShortAfter lack (replies_of w es k) b.state.is_short) (sym own) (same_length (length (replies_of w es k)), short);
      }

acting_beside : (w : Parts) (lacks : Lacks) (es : List Entry) (k n j : ℕ) (x : Acting) → (k == j) ≡ false → IsActing w lacks es j x → IsActing w (lacking lacks k n) es j x
acting_beside w lacks es k n j x other acting = record {
  stands = acting.stands ∙ ap (λ lack. at_state w j (state_after w j lack (replies_of w es j))) (sym (other_lack lacks k n j other));
  short = subst (λ lack. IsShortAfter lack (replies_of w es j) x.state.is_short) (sym (other_lack lacks k n j other)) acting.short;
}

-- ---- the run so far

-- running out of memory behind these replies changes nothing yet
fewer : (w : Parts) (k n : ℕ) (given : List Reply) → length given < n → actors.next w k (Some n) given ≡ actors.next w k None given
fewer w k n given less = ap (asked w k) (later w k n given less)

heard_more : (s : Heard) (answer : PlaceAnswer) → length s.given ≤ length (heard s answer).given
heard_more s (Replied reply) = longer s.given (reply ∷ [])
heard_more s Unmet = same_length (length s.given)

taught_more : (w : Parts) (lacks : Lacks) (v : Scene Placed) (l : Cast (protocol w lacks)) (act : Act Deed) (k : ℕ) → length (l k).0.given ≤ length (taught (protocol w lacks) l v act k).0.given
taught_more w lacks v l act k = by (act.seat == k)
  where
    by : (b : Bool) → length (l k).0.given ≤ length (cond b (heard (l k).0 (reply_of (v act.place).0 act.note.ask.value), act.stamp) (l k)).0.given
    by true = heard_more (l k).0 (reply_of (v act.place).0 act.note.ask.value)
    by false = same_length (length (l k).0.given)

cast_more : (w : Parts) (lacks : Lacks) (v : Scene Placed) (l : Cast (protocol w lacks)) (acts : List (Act Deed)) (k : ℕ) → length (l k).0.given ≤ length (cast_from w lacks v l acts k).0.given
cast_more w lacks v l [] k = same_length (length (l k).0.given)
cast_more w lacks v l (act ∷ acts) k =
    let first = taught_more w lacks v l act k in
    let rest : length (taught (protocol w lacks) l v act k).0.given ≤ length (cast_from w lacks v l (act ∷ acts) k).0.given = cast_more w lacks (moved after_deed v act) (taught (protocol w lacks) l v act) acts k in
    omega (arith, first, rest)

-- a run is one that runs out of memory elsewhere too, where each actor asks alike after fewer replies than it gets there
module _ (w : Parts) (workers : ℕ) (lacks others : Lacks) (facts : StepFacts w workers lacks) where
  run_alike : (past : List Entry) (v : Scene Placed) (l : Cast (protocol w lacks)) (acts : List (Act Deed)) → Matches w workers lacks past v l → IsRunFrom (protocol w lacks) (length w.posters + workers) v l acts
      → ((k : ℕ) (given : List Reply) → length given < length (cast_from w lacks v l acts k).0.given → actors.next w k (others k) given ≡ actors.next w k (lacks k) given) → IsRunFrom (protocol w others) (length w.posters + workers) v l acts
  run_alike past v l [] m run alike = tt
  run_alike past v l (act ∷ acts) m run alike =
      let adds = act_adds w workers lacks facts past v l act m run.0 run.1 run.2 run.3 in
      let actor_is : (l act.seat).0.actor ≡ act.seat = ap (λ s. s.0.actor) (m.actors act.seat) in
      let own : (taught (protocol w lacks) l v act act.seat).0.given ≡ (l act.seat).0.given ++ adds.reply ∷ [] =
      ap (λ b. (cond b (heard (l act.seat).0 (reply_of (v act.place).0 act.note.ask.value), act.stamp) (l act.seat)).0.given) (eq-self act.seat) ∙ ap (λ a. (heard (l act.seat).0 a).given) adds.replied_so in
      let one_more : length (taught (protocol w lacks) l v act act.seat).0.given ≡ length (l act.seat).0.given + 1 = ap length own ∙ length-append (l act.seat).0.given (adds.reply ∷ []) in
      let rest : length (taught (protocol w lacks) l v act act.seat).0.given ≤ length (cast_from w lacks v l (act ∷ acts) act.seat).0.given = cast_more w lacks (moved after_deed v act) (taught (protocol w lacks) l v act) acts act.seat in
      let same = alike act.seat (l act.seat).0.given (omega (arith, one_more, rest)) in
      let asks : next_of w others (l act.seat).0 ≡ next_of w lacks (l act.seat).0 =
      ap (λ k. option_map (numbered w) (actors.next w k (others k) (l act.seat).0.given)) actor_is ∙ ap (option_map (numbered w)) same ∙ ap (λ k. option_map (numbered w) (actors.next w k (lacks k) (l act.seat).0.given)) (sym actor_is) in
      (run.0, asks ∙ run.1, run.2, run.3, run_alike (past ++ adds.entry ∷ []) (moved after_deed v act) (taught (protocol w lacks) l v act) acts adds.matches run.4 alike)

module _ (w : Parts) (workers : ℕ) (lacks : Lacks) (valid : IsValid w) (closed : is_closed w ≡ true) (few : workers ≤ 16) (acts : List (Act Deed)) (run : IsRunFrom (protocol w lacks) (length w.posters + workers) (scene w) (cast (protocol w lacks)) acts) (k : ℕ) (none : lacks k ≡ None) where
  alike_so : (j : ℕ) (given : List Reply) → length given < length (cast_from w lacks (scene w) (cast (protocol w lacks)) acts j).0.given → actors.next w j (lacking lacks k (length (replies_of w (entries_of w acts) k)) j) given ≡ actors.next w j (lacks j) given
  alike_so j given less = by (k == j) refl
    where
      here : length given < length (replies_of w (entries_of w acts) j)
      here = subst (λ s. length given < length s.0.given) ((match_so w workers lacks valid closed few acts run).actors j) less

      by : (t : Bool) → (k == j) ≡ t → actors.next w j (lacking lacks k (length (replies_of w (entries_of w acts) k)) j) given ≡ actors.next w j (lacks j) given
      by true is =
          let j_is : k ≡ j = same_number k j is in
          let less_so : length given < length (replies_of w (entries_of w acts) k) = subst (λ i. length given < length (replies_of w (entries_of w acts) i)) (sym j_is) here in
          let none_so : lacks j ≡ None = subst (λ i. lacks i ≡ None) j_is none in
          ap (λ lack. actors.next w j lack given) (own_lack lacks k (length (replies_of w (entries_of w acts) k)) j is) ∙ fewer w j (length (replies_of w (entries_of w acts) k)) given less_so ∙ ap (λ lack. actors.next w j lack given) (sym none_so)
      by false is = ap (λ lack. actors.next w j lack given) (other_lack lacks k (length (replies_of w (entries_of w acts) k)) j is)

  pub run_refused : IsRunFrom (protocol w (lacking lacks k (length (replies_of w (entries_of w acts) k)))) (length w.posters + workers) (scene w) (cast (protocol w (lacking lacks k (length (replies_of w (entries_of w acts) k))))) acts
  run_refused = run_alike w workers lacks (lacking lacks k (length (replies_of w (entries_of w acts) k))) (step_facts w workers lacks valid closed few) [] (scene w) (cast (protocol w lacks)) acts (Matches-begins w workers lacks) run alike_so

-- ---- one turn

module _ (workers : ℕ) (lacks : Lacks) (state : PlainState) (team : List Acting) (entries : List Entry) (few : workers ≤ 16) (played : IsPlayed workers lacks state team entries) (k : ℕ) (low : k < length team) (a : Acting) (there : slice_get team k ≡ Some a) where
  abbrev w : Parts
  w = state.wiring

  abbrev count : ℕ
  count = length (replies_of state.wiring entries k)

  module _ (b : Acting) (one : Asked) (asks : next a ≡ Some one) (goes : is_settling one.ask ≡ false) (so : b ≡ shortened (sent a)) where
    acting_so : IsActing w lacks entries k a
    acting_so = played.acting k a there

    each_acts : (j : ℕ) (x : Acting) → slice_get (slice_set team k b) j ≡ Some x → IsActing w (lacking lacks k count) entries j x
    each_acts j x at = by (k == j) refl
      where
        by : (t : Bool) → (k == j) ≡ t → IsActing w (lacking lacks k count) entries j x
        by true is =
            let j_is : k ≡ j = same_number k j is in
            let x_is : x ≡ b = (let there = sym (subst (λ i. slice_get (slice_set team k b) i ≡ Some x) (sym j_is) at) ∙ get-set_same team k b low in cc) in
            subst (λ i. IsActing w (lacking lacks k count) entries i x) j_is (subst (IsActing w (lacking lacks k count) entries k) (sym x_is) (acting_refused w lacks entries k a b one acting_so asks goes so))
        by false is = acting_beside w lacks entries k count j x is (played.acting j x (sym (get-set_other team k b j (λ same. differ k j is (sym same))) ∙ at))

    run_so : IsRunFrom (protocol w (lacking lacks k count)) (length w.posters + workers) (scene w) (cast (protocol w (lacking lacks k count))) state.acts
    run_so =
        let P : List Entry → Type 0 = λ es. IsRunFrom (protocol w (lacking lacks k (length (replies_of w es k)))) (length w.posters + workers) (scene w) (cast (protocol w (lacking lacks k (length (replies_of w es k))))) state.acts in
        subst P (sym played.same) (run_refused w workers lacks played.valid played.closed few state.acts played.run k (memory_so w lacks entries k a b one acting_so asks goes so))

    pub played_refused : IsPlayed workers (lacking lacks k (length (replies_of state.wiring entries k))) state (slice_set team k b) entries
    played_refused = record {
      valid = played.valid;
      closed = played.closed;
      run = run_so;
      same = played.same;
      count = length-set team k b ∙ played.count;
      acting = each_acts;
    }

  module _ (refused : List ℕ) (asks : ℕ) where
    abbrev run : SoFar
    run = record { lacks = lacks; asks = asks; entries = entries }

    pub rest_turned : next a ≡ None → HasRun workers (turned state.wiring refused (record { lacks = lacks; asks = asks; entries = entries }) k) state team entries asks
    rest_turned none =
        let is : actors.next w k (lacks k) (replies_of w entries k) ≡ None = sym (next_same w lacks entries k a (played.acting k a there)) ∙ none in
        subst (λ r. HasRun workers r state team entries asks) (sym (ap (turned_by w refused run k) is)) (record { played = played; number = refl; same = refl })

    module _ (later : PlainState) (b : Acting) (more : List Entry) (number : ℕ) (turn : IsTurn refused asks state a entries later b more number) where
      by_turn : (s r : Bool) → is_settling turn.one.ask ≡ s → IsTaken s r turn.one asks state a entries later b more number → HasRun workers (if s then make w run k else (if r then refuse w (counted run) k else make w (counted run) k)) later (slice_set team k b) more number
      by_turn true r is taken =
          let step : IsStep state a entries later b more = record { one = turn.one; asks = turn.is; made = taken.0 } in
          record {
            played = step_played workers lacks state team entries few played k low a there later b more step;
            number = taken.1;
            same = step_made workers lacks state team entries few played k low a there later b more step;
          }
      by_turn false true is taken =
          let here = played_refused b turn.one turn.is is taken.0 in
          let after = subst (λ (s : PlainState). IsPlayed workers (lacking lacks k count) s (slice_set team k b) entries) (sym taken.1.0) here in
          record {
            played = subst (IsPlayed workers (lacking lacks k count) later (slice_set team k b)) (sym taken.1.1.0) after;
            number = taken.1.1.1;
            same = taken.1.1.0;
          }
      by_turn false false is taken =
          let step : IsStep state a entries later b more = record { one = turn.one; asks = turn.is; made = taken.0 } in
          record {
            played = step_played workers lacks state team entries few played k low a there later b more step;
            number = taken.1;
            same = step_made workers lacks state team entries few played k low a there later b more step;
          }

      pub turn_turned : HasRun workers (turned state.wiring refused (record { lacks = lacks; asks = asks; entries = entries }) k) later (slice_set team k b) more number
      turn_turned =
          let is : actors.next w k (lacks k) (replies_of w entries k) ≡ Some turn.one = sym (next_same w lacks entries k a (played.acting k a there)) ∙ turn.is in
          subst (λ r. HasRun workers r later (slice_set team k b) more number) (sym (ap (turned_by w refused run k) is)) (by_turn (is_settling turn.one.ask) (has_number refused asks) refl turn.taken)

-- what a turn leaves in any case: the wiring, and at most one ask more
module _ (refused : List ℕ) (asks : ℕ) (state : PlainState) (a : Acting) (entries : List Entry) (later : PlainState) (b : Acting) (more : List Entry) (number : ℕ) where
  wiring_by : (s r : Bool) (one : Asked) → IsTaken s r one asks state a entries later b more number → later.wiring ≡ state.wiring
  wiring_by true r one taken = taken.0.wiring
  wiring_by false true one taken = ap (λ (s : PlainState). s.wiring) taken.1.0
  wiring_by false false one taken = taken.0.wiring

  few_by : (s r : Bool) (one : Asked) → IsTaken s r one asks state a entries later b more number → number ≤ asks + 1
  few_by true r one taken = let same = taken.1 in omega (arith, same)
  few_by false true one taken = let same = taken.1.1.1 in omega (arith, same)
  few_by false false one taken = let same = taken.1 in omega (arith, same)

  pub turn_wiring : IsTurn refused asks state a entries later b more number → later.wiring ≡ state.wiring
  turn_wiring turn = wiring_by (is_settling turn.one.ask) (has_number refused asks) turn.one turn.taken

  pub turn_few : IsTurn refused asks state a entries later b more number → number ≤ asks + 1
  turn_few turn = few_by (is_settling turn.one.ask) (has_number refused asks) turn.one turn.taken

-- a turn, by what became of its ask
pub taken_turn : (s r : Bool) (refused : List ℕ) (asks : ℕ) (state : PlainState) (a : Acting) (entries : List Entry) (later : PlainState) (b : Acting) (more : List Entry) (number : ℕ) (one : Asked) → next a ≡ Some one → is_settling one.ask ≡ s → has_number refused asks ≡ r → IsTaken s r one asks state a entries later b more number → IsTurn refused asks state a entries later b more number
taken_turn s r refused asks state a entries later b more number one is settles refuses taken =
    let P : Bool → Bool → Type 0 = λ s r. IsTaken s r one asks state a entries later b more number in
    record { one = one; is = is; taken = subst (λ x. P x (has_number refused asks)) (sym settles) (subst (P s) (sym refuses) taken) }

-- ---- all turns

-- the turns so far, and those still to come, give the whole run
pub record IsAhead (workers : ℕ) (w : Parts) (refused turns : List ℕ) (i : ℕ) (state : PlainState) (team : List Acting) (entries : List Entry) (asks : ℕ) : Type 0 where
  pub run : SoFar
  pub has : HasRun workers run state team entries asks
  pub wiring : state.wiring ≡ w
  pub few : asks ≤ i
  pub ahead : (turned_from w refused run (drop i turns)).entries ≡ run_shortened w refused turns

pub turned_on : (w : Parts) (refused turns : List ℕ) (i : ℕ) (run : SoFar) → i < length turns → turned_from w refused (turned w refused run (get_or turns i 0)) (drop (i + 1) turns) ≡ turned_from w refused run (drop i turns)
turned_on w refused turns i run low = ap (turned_from w refused run) (sym (drop_here turns i low))

-- one turn more
pub ahead_on : (workers : ℕ) (w : Parts) (refused turns : List ℕ) (i : ℕ) (state : PlainState) (team : List Acting) (entries : List Entry) (asks : ℕ) (later : PlainState) (after : List Acting) (more : List Entry) (number : ℕ)
    → IsAhead workers w refused turns i state team entries asks → i < length turns → later.wiring ≡ state.wiring → number ≤ asks + 1
    → ((lacks : Lacks) → IsPlayed workers lacks state team entries → HasRun workers (turned state.wiring refused (record { lacks = lacks; asks = asks; entries = entries }) (get_or turns i 0)) later after more number)
    → IsAhead workers w refused turns (i + 1) later after more number
ahead_on workers w refused turns i state team entries asks later after more number ahead low wiring few next =
    let run = ahead.run in
    let P : Parts → ℕ → List Entry → Type 0 = λ x n es. HasRun workers (turned x refused (record { lacks = ahead.run.lacks; asks = n; entries = es }) (get_or turns i 0)) later after more number in
    let before = ahead.few in
    record {
      run = turned w refused run (get_or turns i 0);
      has = subst (P w ahead.run.asks) ahead.has.same (subst (λ n. P w n entries) ahead.has.number (subst (λ x. P x asks entries) ahead.wiring (next ahead.run.lacks ahead.has.played)));
      wiring = wiring ∙ ahead.wiring;
      few = omega (arith, few, before);
      ahead = ap (λ (r : SoFar). r.entries) (turned_on w refused turns i run low) ∙ ahead.ahead;
    }

module _ (workers : ℕ) (w : Parts) (refused turns : List ℕ) (i : ℕ) (state : PlainState) (team : List Acting) (entries : List Entry) (asks : ℕ) (ahead : IsAhead workers w refused turns i state team entries asks) where
  -- the end of the turns
  pub ahead_ends : drop i turns ≡ [] → entries ≡ run_shortened w refused turns
  ahead_ends none = ahead.has.same ∙ ap (λ (ts : List ℕ). (turned_from w refused ahead.run ts).entries) (sym none) ∙ ahead.ahead

  pub ahead_run : workers ≤ 16 → IsRun w workers entries
  ahead_run few = record { lacks = ahead.run.lacks; steps = subst (λ (x : Parts). IsRunAfter x workers ahead.run.lacks [] entries) ahead.wiring (played_run workers ahead.run.lacks state team entries few ahead.has.played) }

-- a run so far in which no actor lacks memory
abbrev pub unrefused : ℕ → List Entry → SoFar
unrefused asks es = record { lacks = never; asks = asks; entries = es }

-- from one turn on
abbrev SameFrom : Parts → List ℕ → Type 0
SameFrom w turns = (asks : ℕ) (es : List Entry) → (turned_from w [] (unrefused asks es) turns).entries ≡ scheduled_from w es turns

made_on : (w : Parts) (asks : ℕ) (es : List Entry) (k : ℕ) (turns : List ℕ) → SameFrom w turns → (s : Bool) → (turned_from w [] (if s then make w (unrefused asks es) k else make w (counted (unrefused asks es)) k) turns).entries ≡ scheduled_from w (with_made es (made_by w never es k)) turns
made_on w asks es k turns rest true = rest asks (with_made es (made_by w never es k))
made_on w asks es k turns rest false = rest (asks + 1) (with_made es (made_by w never es k))

turn_on : (w : Parts) (asks : ℕ) (es : List Entry) (k : ℕ) (turns : List ℕ) → SameFrom w turns → (o : Option Asked) → actors.next w k None (replies_of w es k) ≡ o → (turned_from w [] (turned w [] (unrefused asks es) k) turns).entries ≡ scheduled_from w (with_made es (made_by w never es k)) turns
turn_on w asks es k turns rest None is = ap (λ o. (turned_from w [] (turned_by w [] (unrefused asks es) k o) turns).entries) is ∙ rest asks es ∙ ap (λ o. scheduled_from w (with_made es (option_and_then (entry_for w es k) o)) turns) (sym is)
turn_on w asks es k turns rest (Some one) is = ap (λ o. (turned_from w [] (turned_by w [] (unrefused asks es) k o) turns).entries) is ∙ made_on w asks es k turns rest (is_settling one.ask)

-- where no ask is refused it is the run of the turns
pub none_refused : (w : Parts) (turns : List ℕ) → SameFrom w turns
none_refused w [] asks es = refl
none_refused w (k ∷ turns) asks es = turn_on w asks es k turns (none_refused w turns) (actors.next w k None (replies_of w es k)) refl

pub shortened_none : (w : Parts) (refused turns : List ℕ) → refused ≡ [] → run_shortened w refused turns ≡ scheduled w turns
shortened_none w refused turns none = ap (λ r. run_shortened w r turns) none ∙ none_refused w turns 0 []
