-- What the closed locks tell is a run.
use Rattle.std.proofs.Common.{◌≡◌, ℕ, zero, suc, ◌<◌, ◌≤◌, cond, eqb, eq-eqb, ne_eqb, inl, inr, ◌⊎◌, List, [], ◌∷◌, map, length, sym, refl, ap, ◌∙◌, subst, arith, Some}
use mathlib.Core.Logic.{dite}
use mathlib.Core.Option.{some, some-injective, some-ne-none}
use native.Mathlib.Decide.{ℕ_discrete}
use Rattle.std.proofs.lemmas.Bool.{cases_lt}
use Rattle.std.proofs.lemmas.List.Elements.{All-nil, All-cons}
use lib.ListN.{get_elem?}
use Rattle.std.specs.Prelude.{All, slice_get}
use Rattle.std.specs.List.{AllZip, count_by}
use Rattle.std.specs.Option.{option_map_or}
use Rattle.std.proofs.lemmas.List.{map-id}
use Rattle.ccr_wiring.specs.declared.parts.Parts.{Parts}
use Rattle.ccr_turns.specs.Histories.{Given, history_stamps, keeps}
use Rattle.ccr_turns.specs.Logs.{at_place, told}
use Rattle.ccr_turns.specs.Lists.{Rises, total}
use Rattle.ccr_base.specs.Lists.{Each}
use Rattle.ccr_base.proofs.Lists.{each_all}
use Rattle.ccr_turns.specs.Locks.{IsLeft, Agrees, full_log, keep_of, log_of, number_of, sifted_of, starts}
use Rattle.ccr_turns.specs.declared.kept.Keep.{Keep}
use Rattle.ccr_turns.specs.declared.kept.Keep.TheVariants.{Every}
use Rattle.ccr_turns.proofs.Ends.{sifts_nothing, at-map}
use Rattle.ccr_turns.specs.declared.turns.Seat.{Seat}
use Rattle.ccr_turns.specs.declared.history.Held.{Held}
use Rattle.ccr_turns.specs.declared.history.LogEntry.{LogEntry}
use Rattle.ccr_turns.specs.declared.history.Log.{Log}
use Rattle.ccr_turns.proofs.Rows.{all_at, all_from, there, there_by_slice, zip_at, zip_length, only, count-map}
use Rattle.ccr_runs.specs.declared.acts.Act.{Act}
use Rattle.ccr_runs.specs.Merges.{Climbs, act_stamps, history_at, held}
use Rattle.ccr_runs.specs.Runs.{Gives, IsLog, IsMerged, IsProper}
use Rattle.ccr_runs.specs.Stories.{story}
use Rattle.ccr_runs.proofs.Telling.{run_of_logs, story_is}
use Rattle.ccr_claim.specs.declared.asks.Ask.{Ask}
use Rattle.ccr_object.specs.declared.deed.PlaceAnswer.{PlaceAnswer}
use Rattle.ccr_object.specs.contracts.object.PlaceObjectKept.TheImpl.{ghosts}
use Rattle.ccr_object.specs.declared.deed.Deed.{Deed}
use Rattle.ccr_object.specs.declared.object.Placed.{Placed}
use Rattle.ccr_object.specs.declared.object.PlaceObject.{PlaceObject}
use Rattle.ccr_object.specs.Events.{has_event}
use Rattle.ccr_object.specs.Objects.{IsGiven, after_deed, note_of, nothing, placed}
use Rattle.ccr_object.specs.Starts.{placed_at, places_of}
use Rattle.ccr_runs.specs.declared.entries.Entry.{Entry}
use Rattle.ccr_runs.specs.Played.{entries_of, protocol, scene}
use Rattle.ccr_runs.specs.EntryRuns.{never}
use Rattle.ccr_space.specs.Spaces.{HasPlaces, HasSeat, IsPassOf, Pass, Space, pass_count, log, number, wiring_of}
use Rattle.ccr_space.specs.Closes.{IsClosed, IsKeptOf, IsOfLocks, PlaceAndHistory}

by_side : {C : Type 0} (p n : ℕ) → (p < n → C) → (n ≤ p → C) → C
by_side {C = C} p n f g = side (cases_lt p n)
  where
    side : (p < n) ⊎ (n ≤ p) → C
    side (inl l) = f l
    side (inr l) = g l

pub read_slice : {X : Type 0} (xs : List X) (i : ℕ) (x : X) → get_elem? xs i ≡ some x → slice_get xs i ≡ Some x
read_slice [] i x e = absurd (some-ne-none x (sym e))
read_slice (y ∷ ys) zero x e = ap Some (some-injective y x e)
read_slice (y ∷ ys) (suc i) x e = read_slice ys i x e

pub map_at : {P S : Type 0} (f : P → S) (xs : List P) (i : ℕ) (x : P) → get_elem? xs i ≡ some x → get_elem? (map f xs) i ≡ some (f x)
map_at f [] i x at = absurd (some-ne-none x (sym at))
map_at f (y ∷ ys) zero x at = ap (λ z. some (f z)) (some-injective y x at)
map_at f (y ∷ ys) (suc i) x at = map_at f ys i x at

-- lists that look the same have the same at each place
alike_at : {A B X : Type 0} (f : A → X) (g : B → X) (z : X) (xs : List A) (ys : List B) (p : ℕ) (x : A) → map f xs ≡ map g ys → slice_get xs p ≡ Some x → option_map_or g (slice_get ys p) z ≡ f x
alike_at f g z [] ys p x same at = cc at
alike_at f g z (a ∷ xs) [] p x same at = absurd (cc)
alike_at f g z (a ∷ xs) (b ∷ ys) zero x same at = let first : f a ≡ g b = cc in let is : a ≡ x = cc in sym first ∙ ap f is
alike_at f g z (a ∷ xs) (b ∷ ys) (suc p) x same at = let rest : map f xs ≡ map g ys = cc in alike_at f g z xs ys p x rest at

-- the scene has the objects that the locks began with
pub stands : (wiring : Parts) (objects : List PlaceObject) (p : ℕ) (start : PlaceObject) → map placed objects ≡ map (placed_at wiring) (places_of wiring) → slice_get objects p ≡ Some start → (scene wiring p).0 ≡ placed start
stands wiring objects p start same at = alike_at placed (placed_at wiring) nothing objects (places_of wiring) p start same at

module _ {N : Type 0} where
  -- no entry has a place past the last
  no_history : (n p : ℕ) (es : List (Act N)) → Each (λ e. e.place < n) es → n ≤ p → history_at p es ≡ []
  no_history n p [] few l = refl
  no_history n p (e ∷ es) few l = let h = few.0 in ap (λ b. cond b (held e ∷ history_at p es) (history_at p es)) (ne_eqb e.place p (λ z. omega arith)) ∙ no_history n p es few.1 l

  -- what holds of each place's entries holds of all
  each_seat : (n : ℕ) (es : List (Act N)) → ((p : ℕ) → Each (λ h. h.seat < n) (history_at p es)) → Each (λ e. e.seat < n) es
  each_seat n [] h = tt
  each_seat n (e ∷ es) h =
      let first = subst (λ b. Each (λ (d : Held N). d.seat < n) (cond b (held e ∷ history_at e.place es) (history_at e.place es))) (eq-eqb e.place e.place refl) (h e.place) in (
        first.0,
        each_seat n es (λ p. dite (ℕ_discrete e.place p)
            (λ y. (subst (λ b. Each (λ (d : Held N). d.seat < n) (cond b (held e ∷ history_at p es) (history_at p es))) (eq-eqb e.place p y) (h p)).1)
            (λ y. subst (λ b. Each (λ (d : Held N). d.seat < n) (cond b (held e ∷ history_at p es) (history_at p es))) (ne_eqb e.place p y) (h p))),
      )

module _ {N X : Type 0} where
  none_logged : (n p : ℕ) (ms : List (LogEntry N X)) → Each (λ m. m.place < n) ms → n ≤ p → at_place p ms ≡ []
  none_logged n p [] few l = refl
  none_logged n p (m ∷ ms) few l = let h = few.0 in ap (λ b. cond b (m ∷ at_place p ms) (at_place p ms)) (ne_eqb m.place p (λ z. omega arith)) ∙ none_logged n p ms few.1 l

-- the start and the end of one place
record Whole (objects : List PlaceObject) (kept : List (PlaceObject × List (Held Deed))) (n p : ℕ) : Type 0 where
  start : PlaceObject
  left : PlaceObject × List (Held Deed)
  began : slice_get objects p ≡ Some start
  ended : slice_get kept p ≡ Some left
  is : IsLeft placed after_deed IsGiven n start left

whole : (objects : List PlaceObject) (kept : List (PlaceObject × List (Held Deed))) (n p : ℕ) → AllZip (IsLeft placed after_deed IsGiven n) objects kept → p < length objects → Whole objects kept n p
whole objects kept n p all few =
    let s = there objects p few in
    let k = zip_at (IsLeft placed after_deed IsGiven n) objects kept p s.0 all s.1 in
    record { start = s.0; left = k.0; began = read_slice objects p s.0 s.1; ended = read_slice kept p k.0 k.1; is = k.2 }

module _ (wiring : Parts) where
  gives : (x : Placed) (hs : List (Held Deed)) → Given after_deed IsGiven x hs → Gives (protocol wiring never) x hs
  gives x [] g = tt
  gives x (h ∷ hs) g =
      let (ask, reply, given) = g.0 in
      let note : h.note.note ≡ note_of x h.note.ask.value = given.1 ∙ ap (note_of x) (sym given.2) in
      (ap (λ n. record { note = n; ask = h.note.ask }) note, gives (after_deed x h.note) hs g.1)

  module _ (objects : List PlaceObject) (kept : List (PlaceObject × List (Held Deed))) (n : ℕ) (es : List (Act Deed))
      (same : map placed objects ≡ map (placed_at wiring) (places_of wiring))
      (all : AllZip (IsLeft placed after_deed IsGiven n) objects kept)
      (parts : (p : ℕ) (left : PlaceObject × List (Held Deed)) → slice_get kept p ≡ Some left → history_at p es ≡ left.1)
      (few : Each (λ (e : Act Deed). e.place < length objects) es)
      (sorted : Climbs 0 (act_stamps es)) where
    -- each place gave its entries
    given_at : (p : ℕ) → Gives (protocol wiring never) (scene wiring p).0 (history_at p es)
    given_at p = by_side p (length objects)
        (λ l.
        let w = whole objects kept n p all l in
        let from = stands wiring objects p w.start same w.began in
        subst (Gives (protocol wiring never) (scene wiring p).0) (sym (parts p w.left w.ended)) (subst (λ x. Gives (protocol wiring never) x w.left.1) (sym from) (gives (placed w.start) w.left.1 w.is.given)))
        (λ l. subst (Gives (protocol wiring never) (scene wiring p).0) (sym (no_history (length objects) p es few (omega arith))) tt)

    seated_at : (p : ℕ) → Each (λ (h : Held Deed). h.seat < n) (history_at p es)
    seated_at p = by_side p (length objects)
        (λ l. let w = whole objects kept n p all l in subst (Each (λ (h : Held Deed). h.seat < n)) (sym (parts p w.left w.ended)) (each_all (λ (h : Held Deed). h.seat < n) w.left.1 w.is.seated))
        (λ l. subst (Each (λ (h : Held Deed). h.seat < n)) (sym (no_history (length objects) p es few (omega arith))) tt)

    pub merged : IsMerged (protocol wiring never) n (scene wiring) es
    merged = record { sorted = sorted; seated = each_seat n es seated_at; given = given_at }

    -- a seat's log has its part of each place
    pub log_is : (l : Log Deed Placed) → Agrees placed after_deed objects kept l → IsLog after_deed (scene wiring) l.number es l.logged
    log_is l agrees = record {
      rising = agrees.rising;
      same = λ p. by_side p (length objects)
          (λ low.
          let w = whole objects kept n p all low in
          let from = stands wiring objects p w.start same w.began in
          agrees.same p w.start w.left w.began w.ended ∙ (λ i. told after_deed p l.number (sym from i) 0 (sym (parts p w.left w.ended) i)))
          (λ high.
          none_logged (length objects) p l.logged (each_all (λ (m : LogEntry Deed Placed). m.place < length objects) l.logged agrees.inside) (omega arith)
          ∙ ap (told after_deed p l.number (scene wiring p).0 0) (sym (no_history (length objects) p es few (omega arith))));
    }

-- where so many have the number, one is found
found : {S : Type 0} (f : S → ℕ) (k : ℕ) (xs : List S) → total (λ x. only k (f x)) xs ≡ 1 → (i : ℕ) × (x : S) × (get_elem? xs i ≡ some x) × (f x ≡ k)
found f k [] one = absurd (omega arith)
found f k (x ∷ xs) one = dite (ℕ_discrete (f x) k)
    (λ e. (0, x, refl, e))
    (λ n.
    let zero_here : only k (f x) ≡ 0 = ap (λ b. cond b 1 0) (ne_eqb (f x) k n) in
    let (i, y, at, is) = found f k xs (omega arith) in
    (suc i, y, at, is))

pub numbered : {S : Type 0} (f : S → ℕ) (k : ℕ) (xs : List S) → count_by (λ x. eqb (f x) k) xs ≡ 1 → (i : ℕ) × (x : S) × (get_elem? xs i ≡ some x) × (f x ≡ k)
numbered f k xs one = found f k xs (sym (ap (total (λ x. only k (f x))) (map-id xs)) ∙ (count-map (λ x. x) f k xs ∙ one))

pub all_rising : (n : ℕ) (objects : List PlaceObject) (kept : List (PlaceObject × List (Held Deed))) → AllZip (IsLeft placed after_deed IsGiven n) objects kept → All (λ (left : PlaceObject × List (Held Deed)). Rises 0 (history_stamps left.1)) kept
all_rising n [] [] all = All-nil (λ (left : PlaceObject × List (Held Deed)). Rises 0 (history_stamps left.1))
all_rising n [] (k ∷ ks) all = absurd all
all_rising n (o ∷ os) [] all = absurd all
all_rising n (o ∷ os) (k ∷ ks) all = All-cons (λ (left : PlaceObject × List (Held Deed)). Rises 0 (history_stamps left.1)) k ks all.0.rising (all_rising n os ks all.1)

-- what locks kept that keep every entry is the whole histories
pub is_whole : (space : Space) (seats : List (Seat PlaceObject Ask PlaceAnswer Deed Placed ghosts)) (kept : List PlaceAndHistory) (its : IsKeptOf space seats kept) → keep_of space.turns ≡ Every → its.whole ≡ kept
is_whole space seats kept its every = sym (its.part ∙ (ap (λ (k : Keep). map (sifted_of (keeps k has_event)) its.whole) every ∙ sifts_nothing has_event its.whole))

-- so the entries of the closed locks are those of a run
pub closed_by : (space : Space) (passes : List Pass) (seats : List (Seat PlaceObject Ask PlaceAnswer Deed Placed ghosts)) (acts : List (Act Deed)) (entries : List Entry)
    → HasPlaces space → All (λ (pass : Pass). IsPassOf space pass) passes → seats ≡ map (λ (pass : Pass). pass.seat) passes
    → IsOfLocks space seats acts → ((actor : ℕ) → actor < pass_count space → HasSeat seats actor) → entries ≡ entries_of (wiring_of space) acts → IsClosed space passes entries
closed_by space passes seats acts entries stands passed these locks numbers told =
    let w = wiring_of space in
    let objects = starts space.turns in
    let n = pass_count space in
    let long = zip_length (IsLeft placed after_deed IsGiven n) objects locks.kept locks.left in
    let few = each_all (λ (e : Act Deed). e.place < length objects) acts (subst (λ k. All (λ (e : Act Deed). e.place < k) acts) (sym long) locks.inside) in
    let whole_run = merged w objects locks.kept n acts stands.objects locks.left locks.parts few locks.sorted in
    let its : (i : ℕ) (seat : Seat PlaceObject Ask PlaceAnswer Deed Placed ghosts) → get_elem? seats i ≡ some seat → IsLog after_deed (scene w) (number_of seat) acts (log_of seat)
    = λ i seat at. log_is w objects locks.kept n acts stands.objects locks.left locks.parts few locks.sorted (full_log seat) (all_at (λ seat. Agrees placed after_deed objects locks.kept (full_log seat)) seats i seat locks.agrees at) in
    record {
      acts = acts;
      entries_are = told;
      played = run_of_logs (protocol w never) n (scene w) _ acts whole_run (λ k low.
          let (i, seat, at, is) = numbers k low in
          let at' = there_by_slice seats i seat at in
          let (pass, here, same) = at-map (λ (pass : Pass). pass.seat) passes i seat (ap (λ (l : List _). get_elem? l i) (sym these) ∙ at') in
          let one = all_at (λ pass. IsPassOf space pass) passes i pass passed here in (
            log_of seat,
            subst (λ n. IsLog after_deed (scene w) n acts (log_of seat)) is (its i seat at'),
            subst (λ s. IsProper (protocol w never) (record { actor = k; given = [] }) 0 (log_of s)) same (subst (λ n. IsProper (protocol w never) (record { actor = n; given = [] }) 0 (log pass)) (ap number_of same ∙ is) one.proper),
          ));
      locks = subst (λ (seats : List _). IsOfLocks space seats acts) these locks;
      logs = all_from (λ (pass : Pass). story after_deed (number pass) (scene w) acts ≡ log pass) passes (λ i pass at.
          let there = ap (λ (l : List _). get_elem? l i) these ∙ map_at (λ (pass : Pass). pass.seat) passes i pass at in
          let l = its i pass.seat there in
          story_is after_deed (number pass) (scene w) acts (log pass) whole_run.sorted l.rising l.same);
      actors = λ k low.
          let (i, seat, at, is) = numbers k low in
          let (pass, here, same) = at-map (λ (pass : Pass). pass.seat) passes i seat (ap (λ (l : List _). get_elem? l i) (sym these) ∙ there_by_slice seats i seat at) in
          (i, pass, read_slice passes i pass here, ap number_of same ∙ is);
    }
