-- Seats are made and joined, and the table is opened and closed.
use Rattle.std.proofs.Common.{Bool, replicate, ◌≡◌, ◌≢◌, ℕ, zero, suc, ◌+◌, ◌<◌, List, [], ◌∷◌, ◌++◌, map, length, get_or, set, sym, refl, ap, ◌∙◌, subst, ⊎_elim, arith, Option, Some, None}
use Rattle.std.specs.List.{AllZip}
use Rattle.std.specs.Prelude.{All}
use Rattle.std.proofs.lemmas.List.{length-map, length-replicate}
use Rattle.ccr_base.proofs.Options.{no_some}
use mathlib.Core.Logic.{dite}
use mathlib.Core.Option.{some, some-injective, some-ne-none}
use native.Mathlib.Decide.{ℕ_discrete}
use lib.ListN.{get_elem?}
use Rattle.atomic_table.specs.Table.{State, Splits, Joins, opening, Final, Seen}
use Rattle.atomic_table.proofs.Lists.{at_set, set_else, at_longer, at_snoc, at_map}
use Rattle.ccr_turns.specs.Locks.{IsLeft, Agrees, sifted_of, HasWhole}
use Rattle.ccr_turns.specs.Seated.{IsLaid, HasCells, Lifted}
use Rattle.ccr_turns.specs.Lists.{total, below, last_of}
use Rattle.ccr_base.specs.Lists.{Each}
use Rattle.ccr_base.proofs.Lists.{zeros_in, all_from_each}
use Rattle.ccr_turns.specs.Logs.{log, fresh, told, FitsLog}
use Rattle.ccr_turns.specs.Views.{Sat, view, weight, opening_view, first_logs, later_logs, split_left, split_right, joined, spent}
use Rattle.ccr_turns.specs.Histories.{left_by, Place, entries, history_stamps, keeps, sifted, past, IsRight}
use Rattle.ccr_turns.specs.Rule.{Orderly, Settled}
use Rattle.ccr_turns.specs.declared.history.Held.{Held}
use Rattle.ccr_turns.specs.declared.history.Cell.{Cell}
use Rattle.ccr_turns.specs.declared.history.LogEntry.{LogEntry}
use Rattle.ccr_turns.specs.declared.history.Log.{Log}
use Rattle.ccr_turns.specs.declared.history.Hold.{Hold}
use Rattle.ccr_turns.specs.declared.history.View.{View}
use Rattle.ccr_turns.specs.declared.kept.Keep.{Keep}
use Rattle.ccr_turns.specs.declared.kept.Keep.TheVariants.{Every}
use Rattle.ccr_turns.proofs.Rows.{all_from, there_by_slice, stamps_rise, zip_from, zip_at, zip_length, below-only-one, only, total-set, total-append, total-one, below-one, there, within, Some-at, terms_le, at_append, one-counts, no-total, only-one}

module _ {N X : Type 0} where
  cut-total : (f : Log N X → ℕ) (ls : List (Log N X)) → total f (later_logs ls) + total f (first_logs ls) ≡ total f ls
  cut-total f [] = refl
  cut-total f (l ∷ ls) = omega arith

  in-first : (ls : List (Log N X)) (k : ℕ) (l : Log N X) → get_elem? (first_logs ls) k ≡ some l → (i : ℕ) × (get_elem? ls i ≡ some l)
  in-first [] k l e = (k, e)
  in-first (x ∷ xs) zero l e = (0, e)
  in-first (x ∷ xs) (suc k) l e = absurd (some-ne-none l (sym e))

  in-later : (ls : List (Log N X)) (k : ℕ) (l : Log N X) → get_elem? (later_logs ls) k ≡ some l → (i : ℕ) × (get_elem? ls i ≡ some l)
  in-later [] k l e = (k, e)
  in-later (x ∷ xs) k l e = (suc k, e)

  in-fresh : (k n i : ℕ) (l : Log N X) → get_elem? (fresh k n) i ≡ some l → l.logged ≡ []
  in-fresh k zero i l e = absurd (some-ne-none l (sym e))
  in-fresh k (suc n) zero l e = ap (λ (y : Log N X). y.logged) (sym (some-injective (log k []) l e))
  in-fresh k (suc n) (suc i) l e = in-fresh (suc k) n i l e

module _ {O N X : Type 0} where
  -- the first of the logs that are left has the next number
  pub next_fresh : (k left n : ℕ) (m : Sat O N X) → left + k ≡ n → k < n → m ≡ (view (fresh k left) None, []) → (ls : List (Log N X)) × (m ≡ (view (log k [] ∷ ls) None, []))
  next_fresh k zero n m sum few is = absurd (omega arith)
  next_fresh k (suc left) n m sum few is = (fresh (suc k) left, is)

  pub after_cut : (k left n : ℕ) (m m' : Sat O N X) → left + k ≡ n → k < n → m ≡ (view (fresh k left) None, []) → m' ≡ (split_left m.0, []) → (some-left : ℕ) × (some-left + (k + 1) ≡ n) × (m' ≡ (view (fresh (k + 1) some-left) None, []))
  after_cut k zero n m m' sum few is cut = absurd (omega arith)
  after_cut k (suc left) n m m' sum few is cut =
      let next : suc k ≡ k + 1 = omega arith in
      (left, omega arith, cut ∙ (ap (λ (y : Sat O N X). (split_left y.0, [])) is ∙ ap (λ j. (view (fresh j left) None, [])) next))

fresh-total : (N X : Type 0) (f : ℕ → ℕ) (k n : ℕ) → total (λ (l : Log N X). f l.number) (fresh k n) + below f k ≡ below f (k + n)
fresh-total N X f k zero = let e : k ≡ k + 0 = omega arith in let a = ap (below f) e in omega arith
fresh-total N X f k (suc n) = let a = fresh-total N X f (suc k) n in let e : suc k + n ≡ k + suc n = omega arith in let b = ap (below f) e in omega arith

map-pair : (N : Type 0) {O X : Type 0} (value : O → X) (objects : List O) → map (λ (p : Place N X). p.0) (map (λ x. (value x, [])) objects) ≡ map value objects
map-pair N value [] = refl
map-pair N value (x ∷ xs) = ap (λ l. value x ∷ l) (map-pair N value xs)

pub at-map : {A B : Type 0} (f : A → B) (l : List A) (i : ℕ) (b : B) → get_elem? (map f l) i ≡ some b → (a : A) × (get_elem? l i ≡ some a) × (f a ≡ b)
at-map f [] i b e = absurd (some-ne-none b (sym e))
at-map f (x ∷ xs) zero b e = (x, refl, some-injective (f x) b e)
at-map f (x ∷ xs) (suc i) b e = at-map f xs i b e

-- the closed objects, each with the history of its place
abbrev histories_of : {O N X : Type 0} → List (Place N X) → List (O × List (Held N)) → List (O × List (Held N))
histories_of [] ks = []
histories_of (p ∷ ps) [] = []
histories_of (p ∷ ps) (k ∷ ks) = (k.0, p.1) ∷ histories_of ps ks

module _ {O N X : Type 0} where
  histories_count : (ps : List (Place N X)) (ks : List (O × List (Held N))) → length ps ≡ length ks → length (histories_of ps ks) ≡ length ps
  histories_count [] ks same = refl
  histories_count (p ∷ ps) [] same = absurd (omega arith)
  histories_count (p ∷ ps) (k ∷ ks) same = ap suc (histories_count ps ks (omega arith))

  history_here : (ps : List (Place N X)) (ks : List (O × List (Held N))) (i : ℕ) (p : Place N X) (k : O × List (Held N)) → get_elem? ps i ≡ some p → get_elem? ks i ≡ some k → get_elem? (histories_of ps ks) i ≡ some (k.0, p.1)
  history_here [] ks i p k at at' = absurd (some-ne-none p (sym at))
  history_here (q ∷ ps) [] i p k at at' = absurd (some-ne-none k (sym at'))
  history_here (q ∷ ps) (j ∷ ks) zero p k at at' = let a = some-injective q p at in let b = some-injective j k at' in λ d. some ((b d).0, (a d).1)
  history_here (q ∷ ps) (j ∷ ks) (suc i) p k at at' = history_here ps ks i p k at at'

same_lists : {A : Type 0} (xs ys : List A) → length xs ≡ length ys → ((i : ℕ) (a : A) → get_elem? xs i ≡ some a → get_elem? ys i ≡ some a) → xs ≡ ys
same_lists [] [] long h = refl
same_lists [] (y ∷ ys) long h = absurd (omega arith)
same_lists (x ∷ xs) [] long h = absurd (omega arith)
same_lists (x ∷ xs) (y ∷ ys) long h = let first = some-injective y x (h 0 x refl) in let others = same_lists xs ys (omega arith) (λ i a at. h (suc i) a at) in λ d. sym first d ∷ others d

module _ {O N X A R : Type 0} (value : O → X) (after : X → N → X) (may : X → A → R → N → Type 0) (seen : N → Bool) (keep : Keep) (objects : List O) (seats : ℕ) where
  abbrev S : Type 0
  S = Option (Cell O N)

  abbrev V : Type 0
  V = View N X

  abbrev St : Type 0
  St = State S V

  abbrev Rule : St → Type 0
  Rule = Orderly value after may seen keep objects seats

  abbrev sees : N → Bool
  sees = keeps keep seen

  -- only views that hold no turn change
  reseated : (s : St) (o : Rule s) (vs : List V)
      → ((j : ℕ) (u : V) (h : Hold N X) → get_elem? vs j ≡ some u → u.hold ≡ Some h → get_elem? s.views j ≡ some u)
      → ((j : ℕ) (u : V) (h : Hold N X) → get_elem? s.views j ≡ some u → u.hold ≡ Some h → get_elem? vs j ≡ some u)
      → ((j : ℕ) (u : V) (k : ℕ) (l : Log N X) → get_elem? vs j ≡ some u → get_elem? u.logs k ≡ some l → (i : ℕ) × (w : V) × (n : ℕ) × (get_elem? s.views i ≡ some w) × (get_elem? w.logs n ≡ some l))
      → ((f : ℕ → ℕ) → total (weight f) vs ≡ total (weight f) s.views)
      → Rule record { words = s.words; homes = s.homes; views = vs }
  reseated s o vs down up logs weigh = record {
    places = o.places;
    same = o.same;
    many = o.many;
    begun = o.begun;
    free = o.free;
    held = λ i inside busy. let x = o.held i inside busy in (x.0, x.1, x.2, up x.0 x.1 x.2 x.3 x.4, x.4, x.5);
    holds = λ j u h at is. o.holds j u h (down j u h at is) is;
    one = λ j k u w h g at1 at2 is1 is2 e. o.one j k u w h g (down j u h at1 is1) (down k w g at2 is2) is1 is2 e;
    right = o.right;
    logs = λ j u k l at in-log. let t = logs j u k l at in-log in o.logs t.0 t.1 t.2 l t.3 t.4;
    numbers = λ f. weigh f ∙ o.numbers f;
  }

  idle-hold : (v : V) (u : V) (h : Hold N X) → v ≡ u → v.hold ≡ None → u.hold ≡ Some h → ⊥
  idle-hold v u h e free is = no_some v.hold h free (ap (λ (y : V). y.hold) e ∙ is)

  pub splits : (id : ℕ) (v : V) → v.hold ≡ None → Splits Rule id v (split_left v) (split_right v)
  splits id v free s o me = let w : V = split_left v in let x : V = split_right v in let vs : List V = set s.views id w in
      reseated s o (vs ++ x ∷ [])
      (λ j u h at is. ⊎_elim
      (λ (q : get_elem? vs j ≡ some u). ⊎_elim (λ (r : (j ≡ id) × (w ≡ u)). absurd (idle-hold w u h r.1 refl is)) (λ (r : (j ≢ id) × (get_elem? s.views j ≡ some u)). r.1) (at_set s.views id j w u q))
      (λ (q : x ≡ u). absurd (idle-hold x u h q refl is))
      (at_snoc vs x u j at))
      (λ j u h at is. at_longer vs (x ∷ []) j u (set_else s.views id j w (λ e. idle-hold v u h (Some-at s.views id j v u me e at) free is) ∙ at))
      (λ j u k l at in-log. ⊎_elim
      (λ (q : get_elem? vs j ≡ some u). ⊎_elim
      (λ (r : (j ≡ id) × (w ≡ u)). let t = in-later v.logs k l (ap (λ (y : V). get_elem? y.logs k) r.1 ∙ in-log) in (id, v, t.0, me, t.1))
      (λ (r : (j ≢ id) × (get_elem? s.views j ≡ some u)). (j, u, k, r.1, in-log))
      (at_set s.views id j w u q))
      (λ (q : x ≡ u). let t = in-first v.logs k l (ap (λ (y : V). get_elem? y.logs k) q ∙ in-log) in (id, v, t.0, me, t.1))
      (at_snoc vs x u j at))
      (λ f. let a = total-append (weight f) vs (x ∷ []) in let b = total-set (weight f) s.views id v w me in let d = cut-total (λ (l : Log N X). f l.number) v.logs in omega arith)

  pub joins : (id : ℕ) (v : V) (other : ℕ) (w : V) → v.hold ≡ None → w.hold ≡ None → Joins Rule id v other w (joined v w) spent
  joins id v other w free free' s o me apart them = let b : V = joined v w in let vs : List V = set s.views id b in
      let there : get_elem? s.views other ≡ some w = sym (set_else s.views id other b apart) ∙ them in
      reseated s o (set vs other spent)
      (λ j u h at is. ⊎_elim
      (λ (q : (j ≡ other) × (spent ≡ u)). absurd (idle-hold spent u h q.1 refl is))
      (λ (q : (j ≢ other) × (get_elem? vs j ≡ some u)). ⊎_elim (λ (r : (j ≡ id) × (b ≡ u)). absurd (idle-hold b u h r.1 refl is)) (λ (r : (j ≢ id) × (get_elem? s.views j ≡ some u)). r.1) (at_set s.views id j b u q.1))
      (at_set vs other j spent u at))
      (λ j u h at is. set_else vs other j spent (λ e. idle-hold w u h (Some-at s.views other j w u there e at) free' is)
      ∙ (set_else s.views id j b (λ e. idle-hold v u h (Some-at s.views id j v u me e at) free is) ∙ at))
      (λ j u k l at in-log. ⊎_elim
      (λ (q : (j ≡ other) × (spent ≡ u)). absurd (some-ne-none l (sym (ap (λ (y : V). get_elem? y.logs k) q.1 ∙ in-log))))
      (λ (q : (j ≢ other) × (get_elem? vs j ≡ some u)). ⊎_elim
      (λ (r : (j ≡ id) × (b ≡ u)). ⊎_elim (λ (z : get_elem? w.logs k ≡ some l). (other, w, k, there, z)) (λ (z : (i : ℕ) × (get_elem? v.logs i ≡ some l)). (id, v, z.0, me, z.1))
      (at_append w.logs v.logs k l (ap (λ (y : V). get_elem? y.logs k) r.1 ∙ in-log)))
      (λ (r : (j ≢ id) × (get_elem? s.views j ≡ some u)). (j, u, k, r.1, in-log))
      (at_set s.views id j b u q.1))
      (at_set vs other j spent u at))
      (λ f. let a = total-set (weight f) s.views id v b me in let d = total-set (weight f) vs other w spent them in let e = total-append (λ (l : Log N X). f l.number) w.logs v.logs in omega arith)

  pub closes : (id : ℕ) (v : V) (ws : List ℕ) (xs : List S) → v.hold ≡ None → length v.logs ≡ seats → Final (Seen Rule id v) ws xs → Settled value after may sees objects seats xs v.logs
  closes id v ws xs free all t = let s : St = t.0 in let o : Rule s = t.1.0 in let me : get_elem? s.views id ≡ some v = t.1.1 in
      let mine : weight (λ _. 1) v ≡ seats = total-one v.logs ∙ all in
      let whole : total (weight (λ _. 1)) s.views ≡ seats = o.numbers (λ _. 1) ∙ below-one seats in
      let alone : (j : ℕ) (u : V) → j ≢ id → get_elem? s.views j ≡ some u → length u.logs ≡ 0 = λ j u ne at. let a = terms_le (weight (λ _. 1)) s.views id j v u ne me at in let b = total-one u.logs in omega arith in
      let idle : (i : ℕ) → i < length s.homes → get_or s.words i 0 ≡ 0 = λ i inside. dite (ℕ_discrete (get_or s.words i 0) 0) (λ z. z)
      (λ busy. let x = o.held i inside busy in let y = o.holds x.0 x.1 x.2 x.3 x.4 in dite (ℕ_discrete x.0 id)
      (λ e. absurd (idle-hold v x.1 x.2 (Some-at s.views id x.0 v x.1 me e x.3) free x.4))
      (λ ne. let a = alone x.0 x.1 ne x.3 in let b = y.seated in absurd (omega arith))) in
      record {
        places = o.places;
        most = entries o.places;
        many = o.many ∙ t.3;
        begun = o.begun;
        cells = λ i p at. let inside = within o.places i p at in let long = o.many in let home = o.free i p at (idle i (omega arith)) in (home.cell, t.4 i (Some home.cell) home.at, home.sifted.0 ∙ (λ d. sifted (keeps (home.kept d) seen) (home.history d)), home.now);
        right = o.right;
        fits = λ k l at. o.logs id v k l me at;
        numbers = λ f. sym (one-counts (weight f) s.views id v me (λ j u ne at. no-total (λ (l : Log N X). f l.number) u.logs (alone j u ne at))) ∙ o.numbers f;
      }

  pub starts : (ws : List ℕ) (xs : List S) → length ws ≡ length xs → ((i : ℕ) → get_or ws i 0 ≡ 0) → length objects ≡ length xs
      → ((i : ℕ) (x : O) → get_elem? objects i ≡ some x → (c : Cell O N) × (get_elem? xs i ≡ some (Some c)) × (c.object ≡ x) × (past c ≡ []) × (c.seen.items ≡ []) × (c.last ≡ 0) × (c.count ≡ 0) × (c.keep ≡ keep))
      → Rule (opening ws xs (opening_view seats))
  starts ws xs wide quiet long each = let places : List (Place N X) = map (λ x. (value x, [])) objects in
      let wide' : length (map some xs) ≡ length xs = length-map xs some in
      let many : length places ≡ length xs = length-map objects (λ x. (value x, [])) ∙ long in
      let empty : (p : Place N X) → p.1 ≡ [] → (most : ℕ) → IsRight after may seats most p = λ p is most. subst (λ (es : List (Held N)). IsRight after may seats most (p.0, es)) (sym is) record { rising = tt; low = omega arith; fits = omega arith; given = tt; known = tt } in
      let at : (i : ℕ) (p : Place N X) → get_elem? places i ≡ some p → (x : O) × (get_elem? objects i ≡ some x) × ((value x, []) ≡ p) = λ i p e. at-map (λ x. (value x, [])) objects i p e in
      record {
        places = places;
        same = wide ∙ sym wide';
        many = many ∙ sym wide';
        begun = map-pair N value objects;
        free = λ i p e z. let t = at i p e in let c = each i t.0 t.1 in let none-past : past c.0 ≡ [] = c.3 in record {
          cell = c.0;
          at = at_map (λ (y : S). some y) xs i (Some c.0) c.1;
          history = none-past ∙ ap (λ (y : Place N X). y.1) t.2;
          now = ap value c.2 ∙ ap (λ (y : Place N X). left_by after y.0 y.1) t.2;
          kept = c.7;
          sifted = (c.4 ∙ sym (ap (sifted (keeps c.0.keep seen)) none-past), c.5 ∙ sym (ap (λ (l : List (Held N)). last_of 0 (history_stamps l)) none-past), ap length none-past ∙ sym c.6);
        };
        held = λ i inside busy. absurd (busy (quiet i));
        holds = λ j u h e is. absurd (no_some None h refl (ap (λ (y : V). y.hold) (only-one (opening_view seats) j u e) ∙ is));
        one = λ j k u w h g at1 at2 is1 is2 e. absurd (no_some None h refl (ap (λ (y : V). y.hold) (only-one (opening_view seats) j u at1) ∙ is1));
        right = λ i p e. empty p (sym (ap (λ (y : Place N X). y.1) (at i p e).2)) (entries places);
        logs = λ j u k l e in-log. let blank : l.logged ≡ [] = in-fresh 0 seats k l (ap (λ (y : V). get_elem? y.logs k) (only-one (opening_view seats) j u e) ∙ in-log) in
            subst (λ (ms : List (LogEntry N X)). FitsLog after places (entries places) (log l.number ms)) (sym blank) record {
              stamped = tt;
              low = omega arith;
              same = λ i p e'. ap (λ (y : Place N X). told after i l.number y.0 0 y.1) (at i p e').2;
              inside = tt;
            };
        numbers = λ f. let a = fresh-total N X f 0 seats in let e : 0 + seats ≡ seats = omega arith in let b = ap (below f) e in omega arith;
      }

  -- the table with the objects, each under a free lock
  pub starts_free : (n : ℕ) (ws : List ℕ) (xs : List S) → ws ≡ replicate n zero → n ≡ length objects → AllZip (IsLaid keep) objects xs → Rule (opening ws xs (opening_view seats))
  starts_free n ws xs zeros count laid =
      let long = zip_length (IsLaid {O = O} {N = N} keep) objects xs laid in
      starts ws xs (ap length zeros ∙ (length-replicate n zero ∙ (count ∙ long))) (λ i. ap (λ (l : List ℕ). get_or l i 0) zeros ∙ zeros_in n i) long
      (λ i x at. let t = zip_at (IsLaid {O = O} {N = N} keep) objects xs i x laid at in let c = t.2.0 in (c, t.1 ∙ ap some t.2.1, t.2.2, t.2.3, t.2.4, t.2.5, t.2.6, t.2.7))

  -- what the closed places and logs come to
  module _ (slots : List S) (logs : List (Log N X)) (kept : List (O × List (Held N))) (t : Settled value after may sees objects seats slots logs) (lifted : Lifted slots kept) where
    as_many : length objects ≡ length t.places
    as_many = sym (length-map objects value) ∙ (sym (ap length t.begun) ∙ length-map t.places (λ (p : Place N X). p.0))

    -- each closed object, with the whole history of its place
    abbrev whole : List (O × List (Held N))
    whole = histories_of t.places kept

    as_whole : length t.places ≡ length kept
    as_whole = t.many ∙ sym lifted.0

    -- the place of an object, and what was lifted out there
    left_at : (i : ℕ) (x : O) → get_elem? objects i ≡ some x → (p : Place N X) × (c : Cell O N) × (get_elem? t.places i ≡ some p) × (p.0 ≡ value x) × (value c.object ≡ left_by after p.0 p.1) × (get_elem? kept i ≡ some (c.object, sifted sees p.1)) × (get_elem? whole i ≡ some (c.object, p.1))
    left_at i x at =
        let found = at-map (λ (p : Place N X). p.0) t.places i (value x) (ap (λ (l : List X). get_elem? l i) t.begun ∙ at_map value objects i x at) in
        let p = found.0 in
        let cell = t.cells i p found.1 in
        let c = cell.0 in
        let there-now : get_elem? kept i ≡ some (c.object, sifted sees p.1) = lifted.1 i c cell.1 ∙ ap (λ (l : List (Held N)). some (c.object, l)) cell.2 in
        (p, c, found.1, found.2, cell.3, there-now, history_here t.places kept i p (c.object, sifted sees p.1) found.1 there-now)

    left_over : AllZip (IsLeft value after may seats) objects whole
    left_over = zip_from (IsLeft value after may seats) objects whole (as_many ∙ sym (histories_count t.places kept as_whole))
        (λ i x k at at'. let l = left_at i x at in let p = l.0 in let c = l.1 in let start = l.3 in let right = subst (λ (y : X). IsRight after may seats t.most (y, p.1)) start (t.right i p l.2) in
        subst (IsLeft value after may seats x) (some-injective (c.object, p.1) k (sym l.6 ∙ at')) record {
          object = l.4 ∙ ap (λ (y : X). left_by after y p.1) start;
          rising = right.rising;
          given = right.given;
          seated = all_from_each (λ (e : Held N). e.seat < seats) p.1 right.known;
        })

    agrees : (j : ℕ) (l : Log N X) → get_elem? logs j ≡ some l → Agrees value after objects whole l
    agrees j l at = let fits = t.fits j l at in record {
      rising = stamps_rise 0 l.logged fits.stamped;
      stamped = fits.stamped;
      same = λ i x k at-x at-k. let here = left_at i x (there_by_slice objects i x at-x) in let p = here.0 in let c = here.1 in
          let same-k : (c.object, p.1) ≡ k = some-injective (c.object, p.1) k (sym here.6 ∙ there_by_slice whole i k at-k) in
          fits.same i p here.2 ∙ (ap (λ (y : X). told after i l.number y 0 p.1) here.3 ∙ ap (λ (q : O × List (Held N)). told after i l.number (value x) 0 q.1) same-k);
      inside = all_from_each (λ (m : LogEntry N X). m.place < length objects) l.logged (subst (λ n. Each (λ (m : LogEntry N X). m.place < n) l.logged) (sym as_many) fits.inside);
    }

    -- what was lifted out is of each history what is kept
    kept_whole : kept ≡ map (sifted_of sees) whole
    kept_whole = same_lists kept (map (sifted_of sees) whole) (sym (length-map whole (sifted_of sees) ∙ (histories_count t.places kept as_whole ∙ as_whole)))
        (λ i k at. let inside = within kept i k at in let few = as_many in let wide = as_whole in let x = there objects i (omega arith) in let l = left_at i x.0 x.1 in
        at_map (sifted_of sees) whole i (l.1.object, l.0.1) l.6 ∙ (sym l.5 ∙ at))

    pub has_whole : HasWhole value after may sees seats objects logs kept
    has_whole = record { whole = whole; objects = left_over; agree = all_from (Agrees value after objects whole) logs agrees; part = kept_whole }

  module _ (slots : List S) (logs : List (Log N X)) (t : Settled value after may sees objects seats slots logs) where
    pub has_cells : HasCells slots
    has_cells i inside = let p = there t.places i (subst (λ n. i < n) (sym t.many) inside) in let cell = t.cells i p.0 p.1 in (cell.0, cell.1)

    pub borne : (n : ℕ) → n < seats → total (λ (l : Log N X). only n l.number) logs ≡ 1
    borne n few = t.numbers (only n) ∙ below-only-one n seats few

-- a lock that keeps each entry has the whole history
all_sifted : {N : Type 0} (seen : N → Bool) (es : List (Held N)) → sifted (keeps Every seen) es ≡ es
all_sifted seen [] = refl
all_sifted seen (e ∷ es) = ap (λ (l : List (Held _)). e ∷ l) (all_sifted seen es)

pub sifts_nothing : {O N : Type 0} (seen : N → Bool) (whole : List (O × List (Held N))) → map (sifted_of (keeps Every seen)) whole ≡ whole
sifts_nothing seen [] = refl
sifts_nothing seen (k ∷ ks) = λ d. (k.0, all_sifted seen k.1 d) ∷ sifts_nothing seen ks d

module _ {O N X A R : Type 0} (value : O → X) (after : X → N → X) (may : X → A → R → N → Type 0) (seen : N → Bool) (keep : Keep) (seats : ℕ) (starts : List O) (logs : List (Log N X)) (kept : List (O × List (Held N))) (h : HasWhole value after may (keeps keep seen) seats starts logs kept) (every : keep ≡ Every) where
  nothing_lost : h.whole ≡ kept
  nothing_lost = sym (h.part ∙ (ap (λ k. map (sifted_of (keeps k seen)) h.whole) every ∙ sifts_nothing seen h.whole))

  pub every_left : AllZip (IsLeft value after may seats) starts kept
  every_left = subst (AllZip (IsLeft value after may seats) starts) nothing_lost h.objects

  pub every_agrees : All (Agrees value after starts kept) logs
  every_agrees = subst (λ (l : List (O × List (Held N))). All (Agrees value after starts l) logs) nothing_lost h.agree
