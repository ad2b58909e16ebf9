-- A run as the objects play it is a run: what the scene and the cast are follows from the entries so far.
use Rattle.std.proofs.Common.{◌≡◌, ◌<◌, ℕ, ◌+◌, max, Bool, true, false, List, [], ◌∷◌, ◌++◌, length, Option, Some, None, refl, sym, arith, ap, ◌∙◌, subst, append_assoc, append-nil}
use Rattle.std.specs.Prelude.{◌==◌, if◌then◌else◌, All, cond, is_some}
use Rattle.std.specs.List.{cons_option}
use Rattle.std.specs.Option.{option_map, option_map_or, option_and_then}
use Rattle.std.proofs.lemmas.Grind.{common_steps}
use Rattle.std.proofs.lemmas.List.Elements.{All-nil, All-cons}
use Rattle.ccr_base.specs.declared.names.Place.{Place}
use Rattle.ccr_base.specs.declared.names.Place.TheVariants as places
use Rattle.ccr_base.proofs.Options.{is_there, some_is}
use Rattle.ccr_wiring.specs.declared.parts.Kind.{Kind}
use Rattle.ccr_wiring.specs.declared.parts.Kind.TheVariants as kinds
use Rattle.ccr_wiring.specs.declared.parts.Parts.{Parts}
use Rattle.ccr_places.specs.declared.notes.Note.{Note}
use Rattle.ccr_claim.specs.declared.asks.Ask.{Ask}
use Rattle.ccr_claim.specs.declared.asks.Asked.{Asked}
use Rattle.ccr_claim.specs.declared.asks.Reply.{Reply}
use Rattle.ccr_actor.specs.Actors.{next}
use Rattle.ccr_object.specs.declared.deed.PlaceAnswer.TheVariants.{Replied}
use Rattle.ccr_object.specs.declared.deed.Deed.{Deed}
use Rattle.ccr_object.specs.declared.object.Object.{Object}
use Rattle.ccr_object.specs.declared.object.Placed.{Placed}
use Rattle.ccr_object.specs.Numbers.{numbers_of, is_known}
use Rattle.ccr_object.specs.Objects.{answer, after, answer_at, after_at, after_deed, answered, noted, nothing}
use Rattle.ccr_object.specs.Objects as objects
use Rattle.ccr_wiring.specs.Wirings.{kind_of}
use Rattle.ccr_object.specs.Starts.{start_at, placed_at, fresh_arbiter, members}
use Rattle.ccr_object.proofs.Numbering.{known_from}
use Rattle.ccr_runs.specs.declared.acts.Act.{Act}
use Rattle.ccr_runs.specs.Runs.{Cast, IsGiven, IsRunFrom, cast, state_after, taught}
use Rattle.ccr_runs.specs.Stories.{Scene, moved, story}
use Rattle.ccr_runs.specs.declared.entries.Entry.{Entry}
use Rattle.ccr_runs.specs.Places.{note_of}
use Rattle.ccr_runs.specs.Played.{protocol, scene, next_of, numbered, number_at, place_at, heard, entry_of, entries_of}
use Rattle.ccr_runs.specs.EntryRuns.{Lacks, IsRunAfter, entry_for, last_stamp, made_by, next_stamp, notes_at, replies_of, reply_for, reply_of, same_place}
use Rattle.ccr_net.proofs.Played.ObjectsFollowNotes.{AnswersAs, object_of, told_object}
use Rattle.ccr_net.proofs.Played.PlacesByNumber.{Stands, stands, place_at-stands, number_test, same_place-is}
use Rattle.ccr_net.proofs.Played.NextAsksAreAnswered.{IsNextAsk, StepFacts}
use Rattle.ccr_net.proofs.Parts.OneMoreEntry.{Step, replies_of-push}

-- ---- one more entry

pub run_on : (w : Parts) (n : ℕ) (lacks : Lacks) (past es : List Entry) (e : Entry) → IsRunAfter w n lacks past es → e.actor < length w.posters + n → made_by w lacks (past ++ es) e.actor ≡ Some e → IsRunAfter w n lacks past (es ++ e ∷ [])
run_on w n lacks past [] e steps low made = (low, subst (λ p. made_by w lacks p e.actor ≡ Some e) (append-nil past) made, tt)
run_on w n lacks past (x ∷ es) e steps low made = (steps.0, steps.1, run_on w n lacks (past ++ x ∷ []) es e steps.2 low (subst (λ p. made_by w lacks p e.actor ≡ Some e) (sym (append_assoc past (x ∷ []) es)) made))

pub last_stamp-push : (test : Entry → Bool) (es : List Entry) (e : Entry) → last_stamp test (es ++ e ∷ []) ≡ (if test e then e.stamp else last_stamp test es)
last_stamp-push test es e = grind (arith, common_steps)

-- ---- the start

pub object-begins : (w : Parts) (place : Place) → object_of w [] place ≡ start_at w place
object-begins w (places.Port p) = refl
object-begins w (places.Arbiter i) = by (kind_of w i)
  where
    by : (kind : Kind) → told_object w [] [] (fresh_arbiter kind (members w i)) ≡ fresh_arbiter kind (members w i)
    by kinds.Receive = refl
    by kinds.Choice = refl
    by kinds.Interleave = refl
object-begins w (places.Site b k) = refl
object-begins w (places.Queue q) = refl
object-begins w places.Meter = refl

abbrev pub of_actor : ℕ → Entry → Bool
of_actor a e = e.actor == a

abbrev pub of_place : Place → Entry → Bool
of_place place e = same_place e.place place

-- the scene and the cast are what the entries so far make them
pub record Matches (w : Parts) (workers : ℕ) (lacks : Lacks) (past : List Entry) (v : Scene Placed) (l : Cast (protocol w lacks)) : Type 0 where
  pub run : IsRunAfter w workers lacks [] past
  pub actors : (k : ℕ) → l k ≡ (record { actor = k; given = replies_of w past k }, last_stamp (of_actor k) past)
  pub places : (place : Place) → Stands w place → v (number_at w place) ≡ (record { numbers = numbers_of w; object = object_of w past place }, last_stamp (of_place place) past)

pub Matches-begins : (w : Parts) (workers : ℕ) (lacks : Lacks) → Matches w workers lacks [] (scene w) (cast (protocol w lacks))
Matches-begins w workers lacks = record {
  run = tt;
  actors = λ k. refl;
  places = λ place there. ap (λ o. (option_map_or (placed_at w) o nothing, 0)) there ∙ ap (λ (x : Object). (record { numbers = numbers_of w; object = x }, 0)) (sym (object-begins w place));
}

-- ---- one act

-- the ask behind a numbered one
record Found (w : Parts) (o : Option Asked) (number : ℕ) (ask : Ask) : Type 0 where
  one : Asked
  is : o ≡ Some one
  place : number_at w one.place ≡ number
  same : one.ask ≡ ask

found_in : (w : Parts) (o : Option Asked) (number : ℕ) (ask : Ask) → option_map (numbered w) o ≡ Some (number, ask) → Found w o number ask
found_in w None number ask is = absurd (cc)
found_in w (Some one) number ask is = let same : (number_at w one.place, one.ask) ≡ (number, ask) = some_is is in record { one = one; is = refl; place = ap (λ p. p.0) same; same = ap (λ p. p.1) same }

-- the place answers with this reply and this note, and is then this object
record Acts (w : Parts) (placed : Placed) (ask : Ask) (reply : Reply) (note : Note) (next : Object) : Type 0 where
  answers : answer_at placed ask ≡ Some (reply, note)
  goes : after_at placed ask ≡ record { numbers = numbers_of w; object = next }

acts_as : (w : Parts) (placed : Placed) (object : Object) (ask : Ask) (reply : Reply) (note : Note) (next : Object) → placed ≡ record { numbers = numbers_of w; object = object } → is_known (numbers_of w) ask ≡ true → answer object ask ≡ Some (reply, note) → after object ask ≡ next → Acts w placed ask reply note next
acts_as w placed object ask reply note next is known answers goes = record {
  answers = ap (λ p. answer_at p ask) is ∙ ap (λ b. if b then answer object ask else None) known ∙ answers;
  goes = ap (λ p. after_at p ask) is ∙ ap (λ b. record { numbers = numbers_of w; object = if b then after object ask else object }) known ∙ ap (λ (x : Object). record { numbers = numbers_of w; object = x }) goes;
}

-- the act adds an entry
pub record Adds (w : Parts) (workers : ℕ) (lacks : Lacks) (past : List Entry) (v : Scene Placed) (l : Cast (protocol w lacks)) (act : Act Deed) : Type 0 where
  pub entry : Entry
  pub is_entry : entry_of w act ≡ Some entry
  pub met : is_some act.note.note ≡ true
  pub asking : Asked
  pub numbered_so : numbered w asking ≡ (act.place, act.note.ask.value)
  pub placed_so : place_at w act.place ≡ asking.place
  pub reply : Reply
  pub replied_so : objects.reply_of (v act.place).0 act.note.ask.value ≡ Replied reply
  pub matches : Matches w workers lacks (past ++ entry ∷ []) (moved after_deed v act) (taught (protocol w lacks) l v act)

module _ (w : Parts) (workers : ℕ) (lacks : Lacks) (facts : StepFacts w workers lacks) (past : List Entry) (v : Scene Placed) (l : Cast (protocol w lacks)) (act : Act Deed) (m : Matches w workers lacks past v l) (low : act.seat < length w.posters + workers) (asks : next_of w lacks (l act.seat).0 ≡ Some (act.place, act.note.ask.value)) (gives : IsGiven (protocol w lacks) (v act.place).0 act.note) (stamp : act.stamp ≡ max (v act.place).1 (l act.seat).1 + 1) where
  a : ℕ
  a = act.seat

  found : Found w (next w act.seat (lacks act.seat) (replies_of w past act.seat)) act.place act.note.ask.value
  found = found_in w (next w act.seat (lacks act.seat) (replies_of w past act.seat)) act.place act.note.ask.value (ap (λ s. next_of w lacks s.0) (sym (m.actors act.seat)) ∙ asks)

  one : Asked
  one = found.one

  is_next : IsNextAsk w workers lacks past act.seat found.one
  is_next = record { run = m.run; low = low; asks = found.is }

  there : Stands w found.one.place
  there = let at = facts.asks.there past act.seat found.one is_next in stands w found.one.place at.0 at.1

  noting : (note : Note) × (note_of w found.one.place (notes_at past found.one.place) found.one.ask ≡ Some note)
  noting = is_there (note_of w found.one.place (notes_at past found.one.place) found.one.ask) (facts.asks.met past act.seat found.one is_next)

  abbrev e : Entry
  e = record { actor = act.seat; place = found.one.place; stamp = next_stamp past found.one.place act.seat; note = noting.0 }

  made : made_by w lacks past act.seat ≡ Some e
  made = ap (option_and_then (entry_for w past act.seat)) found.is ∙ ap (option_map (λ (note : Note). record { actor = act.seat; place = found.one.place; stamp = next_stamp past found.one.place act.seat; note = note })) noting.1

  step : Step w lacks past e
  step = record { asking = found.one; asks = found.is; there = refl; gives = noting.1 }

  as_run : AnswersAs w past found.one e
  unfolding step
  as_run = facts.answers past e m.run step

  here : v act.place ≡ (record { numbers = numbers_of w; object = object_of w past found.one.place }, last_stamp (of_place found.one.place) past)
  here = ap v (sym found.place) ∙ m.places found.one.place there

  acts_so : Acts w (v act.place).0 act.note.ask.value (reply_of w past e) noting.0 (object_of w (past ++ e ∷ []) found.one.place)
  acts_so = subst (λ ask. Acts w (v act.place).0 ask (reply_of w past e) noting.0 (object_of w (past ++ e ∷ []) found.one.place)) found.same
      (acts_as w (v act.place).0 (object_of w past found.one.place) found.one.ask (reply_of w past e) noting.0 (object_of w (past ++ e ∷ []) found.one.place) (ap (λ p. p.0) here) (known_from w found.one.ask (facts.asks.known past act.seat found.one is_next)) as_run.answers as_run.goes)

  noted_so : act.note.note ≡ Some noting.0
  noted_so = ap (λ (deed : Deed). deed.note) gives ∙ ap noted acts_so.answers

  stamp_so : act.stamp ≡ next_stamp past found.one.place act.seat
  stamp_so =
      let at_place : (v act.place).1 ≡ last_stamp (of_place found.one.place) past = ap (λ p. p.1) here in
      let at_actor : (l act.seat).1 ≡ last_stamp (of_actor act.seat) past = ap (λ p. p.1) (m.actors act.seat) in
      stamp ∙ (rw (at_place, at_actor) (omega arith))

  placed_so : place_at w act.place ≡ found.one.place
  placed_so = ap (place_at w) (sym found.place) ∙ place_at-stands w found.one.place there

  is_entry : entry_of w act ≡ Some e
  is_entry = ap (option_map (λ (note : Note). record { actor = act.seat; place = place_at w act.place; stamp = act.stamp; note = note })) noted_so
      ∙ ap (λ place. Some (record { actor = act.seat; place = place; stamp = act.stamp; note = noting.0 })) placed_so
      ∙ ap (λ n. Some (record { actor = act.seat; place = found.one.place; stamp = n; note = noting.0 })) stamp_so

  actors_so : (k : ℕ) → taught (protocol w lacks) l v act k ≡ (record { actor = k; given = replies_of w (past ++ e ∷ []) k }, last_stamp (of_actor k) (past ++ e ∷ []))
  actors_so k = by (act.seat == k) refl ∙ (λ j. (record { actor = k; given = sym (replies_of-push w k past e) j }, sym (last_stamp-push (of_actor k) past e) j))
    where
      by : (b : Bool) → (act.seat == k) ≡ b → cond b (heard (l k).0 (objects.reply_of (v act.place).0 act.note.ask.value), act.stamp) (l k) ≡ (record { actor = k; given = replies_of w past k ++ reply_for w k past e }, if act.seat == k then e.stamp else last_stamp (of_actor k) past)
      by true is = rw is (λ j. (heard (m.actors k j).0 (answered (acts_so.answers j)), stamp_so j))
      by false is = rw (is, append-nil (replies_of w past k)) (m.actors k)

  places_so : (place : Place) → Stands w place → moved after_deed v act (number_at w place) ≡ (record { numbers = numbers_of w; object = object_of w (past ++ e ∷ []) place }, last_stamp (of_place place) (past ++ e ∷ []))
  places_so place stand = ap (λ b. cond b (after_deed (v (number_at w place)).0 act.note, act.stamp) (v (number_at w place))) (ap (λ p. p == number_at w place) (sym found.place) ∙ number_test w found.one.place place there stand)
      ∙ by (same_place found.one.place place) refl
      ∙ ap (λ n. (record { numbers = numbers_of w; object = object_of w (past ++ e ∷ []) place }, n)) (sym (last_stamp-push (of_place place) past e))
    where
      own : ◌≡◌ {A = Placed × ℕ} (after_deed (v (number_at w found.one.place)).0 act.note, act.stamp) (record { numbers = numbers_of w; object = object_of w (past ++ e ∷ []) found.one.place }, next_stamp past found.one.place act.seat)
      own = ap (λ p. (after_deed (v p).0 act.note, act.stamp)) found.place ∙ (λ j. (acts_so.goes j, stamp_so j))

      by : (b : Bool) → same_place found.one.place place ≡ b → cond b (after_deed (v (number_at w place)).0 act.note, act.stamp) (v (number_at w place)) ≡ (record { numbers = numbers_of w; object = object_of w (past ++ e ∷ []) place }, if b then e.stamp else last_stamp (of_place place) past)
      by true is = subst (λ p. ◌≡◌ {A = Placed × ℕ} (after_deed (v (number_at w p)).0 act.note, act.stamp) (record { numbers = numbers_of w; object = object_of w (past ++ e ∷ []) p }, e.stamp)) (same_place-is found.one.place place is) own
      by false is = m.places place stand ∙ ap (λ (x : Object). (record { numbers = numbers_of w; object = x }, last_stamp (of_place place) past)) (sym (facts.stays past e m.run place is))

  pub act_adds : Adds w workers lacks past v l act
  act_adds = record {
    entry = e;
    is_entry = is_entry;
    met = ap is_some noted_so;
    asking = found.one;
    numbered_so = λ j. (found.place j, found.same j);
    placed_so = placed_so;
    reply = reply_of w past e;
    replied_so = ap answered acts_so.answers;
    matches = record { run = run_on w workers lacks [] past e m.run low made; actors = actors_so; places = places_so };
  }

-- ---- all acts

-- what the acts come to, behind these entries
pub record ComesTo (w : Parts) (workers : ℕ) (lacks : Lacks) (past : List Entry) (v : Scene Placed) (l : Cast (protocol w lacks)) (acts : List (Act Deed)) : Type 0 where
  pub run : IsRunAfter w workers lacks [] (past ++ entries_of w acts)
  pub met : All (λ (act : Act Deed). is_some act.note.note ≡ true) acts
  pub replies : (actor : ℕ) → (state_after (protocol w lacks) (l actor).0 (story after_deed actor v acts)).given ≡ replies_of w (past ++ entries_of w acts) actor

-- the state after the first act is that of the cast then
state_first : (w : Parts) (lacks : Lacks) (v : Scene Placed) (l : Cast (protocol w lacks)) (act : Act Deed) (acts : List (Act Deed)) (k : ℕ) → state_after (protocol w lacks) (l k).0 (story after_deed k v (act ∷ acts)) ≡ state_after (protocol w lacks) (taught (protocol w lacks) l v act k).0 (story after_deed k (moved after_deed v act) acts)
state_first w lacks v l act acts k = elim (act.seat == k) as (λ b. state_after (protocol w lacks) (l k).0 (cond b (record { place = act.place; stamp = act.stamp; note = act.note; before = (v act.place).0; earlier = (v act.place).1 } ∷ story after_deed k (moved after_deed v act) acts) (story after_deed k (moved after_deed v act) acts)) ≡ state_after (protocol w lacks) (cond b (heard (l k).0 (objects.reply_of (v act.place).0 act.note.ask.value), act.stamp) (l k)).0 (story after_deed k (moved after_deed v act) acts)) [ true ↦ refl | false ↦ refl ]

module _ (w : Parts) (workers : ℕ) (lacks : Lacks) (facts : StepFacts w workers lacks) where
  pub comes_to : (past : List Entry) (v : Scene Placed) (l : Cast (protocol w lacks)) (acts : List (Act Deed)) → Matches w workers lacks past v l → IsRunFrom (protocol w lacks) (length w.posters + workers) v l acts → ComesTo w workers lacks past v l acts
  comes_to past v l [] m run = record {
    run = subst (IsRunAfter w workers lacks []) (sym (append-nil past)) m.run;
    met = All-nil (λ (act : Act Deed). is_some act.note.note ≡ true);
    replies = λ a. ap (λ s. s.0.given) (m.actors a) ∙ ap (λ es. replies_of w es a) (sym (append-nil past));
  }
  comes_to past v l (act ∷ acts) m run =
      let adds = act_adds w workers lacks facts past v l act m run.0 run.1 run.2 run.3 in
      let rest = comes_to (past ++ adds.entry ∷ []) (moved after_deed v act) (taught (protocol w lacks) l v act) acts adds.matches run.4 in
      let all : (past ++ adds.entry ∷ []) ++ entries_of w acts ≡ past ++ entries_of w (act ∷ acts) = append_assoc past (adds.entry ∷ []) (entries_of w acts) ∙ ap (λ o. past ++ cons_option o (entries_of w acts)) (sym adds.is_entry) in
      record {
        run = subst (IsRunAfter w workers lacks []) all rest.run;
        met = All-cons (λ (act : Act Deed). is_some act.note.note ≡ true) act acts adds.met rest.met;
        replies = λ a. ap (λ s. s.given) (state_first w lacks v l act acts a) ∙ rest.replies a ∙ ap (λ es. replies_of w es a) all;
      }

  pub played : (acts : List (Act Deed)) → IsRunFrom (protocol w lacks) (length w.posters + workers) (scene w) (cast (protocol w lacks)) acts → ComesTo w workers lacks [] (scene w) (cast (protocol w lacks)) acts
  played acts run = comes_to [] (scene w) (cast (protocol w lacks)) acts (Matches-begins w workers lacks) run
