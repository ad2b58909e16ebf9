-- Each step keeps the rule.
use Rattle.std.proofs.Common.{Bool, ◌≡◌, ◌≢◌, ℕ, ◌+◌, ◌*◌, ◌^◌, ◌<◌, ◌≤◌, max, eqb, List, [], ◌∷◌, ◌++◌, map, length, length-append, get_or, set, sym, refl, ap, ◌∙◌, subst, ⊎_elim, arith, length-set, get_or-set_other, get_or-set_same, Option, Some, None}
use mathlib.Core.Logic.{dite}
use mathlib.Core.Option.{some, none}
use native.Mathlib.Decide.{ℕ_discrete, dec_le}
use lib.ListN.{get_elem?}
use lib.Seq.{map-set}
use Rattle.std.proofs.lemmas.List.{map-append}
use Rattle.std.proofs.lemmas.Option.{same_Some}
use Rattle.ccr_base.proofs.Options.{no_some}
use prog.Atomic.{either}
use Rattle.atomic_table.specs.Table.{State, step, Act, keeps, takes, gives, Valid, carried_after, stepped, Allows, rest}
use Rattle.atomic_table.proofs.Lists.{at_set, set_here, set_else, set_again, at_map, exchanged}
use Rattle.ccr_turns.specs.Lists.{Rises, last_of}
use Rattle.ccr_base.specs.Lists.{Each}
use Rattle.ccr_turns.specs.Logs.{at_place, told, log_stamps, log_entry, log, FitsLog}
use Rattle.ccr_turns.specs.Histories.{history_stamps, left_by, Place, entries, past, IsSifted, IsRight}
use Rattle.ccr_turns.specs.Views.{view, hold, weight, Sat}
use Rattle.ccr_turns.specs.Rule.{Holds, Orderly}
use Rattle.ccr_turns.specs.Steps.{won, left, entered}
use Rattle.ccr_turns.specs.declared.history.Held.{Held}
use Rattle.ccr_turns.specs.declared.history.Cell.{Cell}
use Rattle.ccr_turns.specs.declared.history.LogEntry.{LogEntry}
use Rattle.ccr_turns.specs.declared.history.Log.{Log}
use Rattle.ccr_turns.specs.declared.history.Hold.{Hold}
use Rattle.ccr_turns.specs.declared.history.View.{View}
use Rattle.ccr_turns.specs.declared.kept.Keep.{Keep}
use Rattle.ccr_turns.proofs.Rows.{total-set, there, within, few_entries, Some-at, term_le, terms_le, only, only-same, below-only, rises_more, last_more, stamped_more, at_place_here, at_place_else, left_by_more, told_here, told_else, given_more, only-one, first_of, last_same}
use Rattle.ccr_base.proofs.Lists.{each_push}

module _ {O N X A R : Type 0} (value : O → X) (after : X → N → X) (may : X → A → R → N → Type 0) (seen : N → Bool) (keep : Keep) (objects : List O) (seats : ℕ) where
  abbrev S : Type 0
  S = Option (Cell O N)

  abbrev V : Type 0
  V = View N X

  abbrev St : Type 0
  St = State S V

  abbrev M : Type 0
  M = Sat O N X

  abbrev Rule : St → Type 0
  Rule = Orderly value after may seen keep objects seats

  abbrev Goes : St → ℕ → ℕ → M → (ℕ → M → Type 0) → ℕ → Type 0
  Goes s i id m then k = (w : V) × (a : Act S) × Valid s.homes m.1 a × Rule (stepped s i k id m.1 w a) × then (get_or s.words i 0) (w, carried_after m.1 a)

  -- a held lock stays held, and nothing else changes
  stays : (id : ℕ) (m : M) (place b : ℕ) → b ≢ 0 → (s : St) → Rule s → place < length s.words → get_elem? s.views id ≡ some m.0 → get_or s.words place 0 ≢ 0 → Rule (stepped s place b id m.1 m.0 keeps)
  stays id m place b some-word s o here me miss =
      let seen = set_again s.views id m.0 me in
      let one : get_or (set s.words place b) place 0 ≡ b = get_or-set_same s.words place b 0 here in
      let path : record { words = set s.words place b; homes = s.homes; views = s.views } ≡ stepped s place b id m.1 m.0 keeps = λ k. record { words = set s.words place b; homes = s.homes; views = sym seen k } in
      let quiet : (i : ℕ) → get_or (set s.words place b) i 0 ≡ 0 → get_or s.words i 0 ≡ 0 = λ i z. dite (ℕ_discrete i place)
      (λ e. absurd (some-word (sym one ∙ (ap (λ j. get_or (set s.words place b) j 0) (sym e) ∙ z))))
      (λ ne. sym (get_or-set_other s.words place i b 0 ne) ∙ z) in
      let busy : (i : ℕ) → get_or (set s.words place b) i 0 ≢ 0 → get_or s.words i 0 ≢ 0 = λ i z y. dite (ℕ_discrete i place)
      (λ e. miss (ap (λ j. get_or s.words j 0) (sym e) ∙ y))
      (λ ne. z (get_or-set_other s.words place i b 0 ne ∙ y)) in
      subst Rule path record {
        places = o.places;
        same = length-set s.words place b ∙ o.same;
        many = o.many;
        begun = o.begun;
        free = λ i p at z. o.free i p at (quiet i z);
        held = λ i inside z. o.held i inside (busy i z);
        holds = λ j v h at is. let old = o.holds j v h at is in record { place = old.place; at = old.at; locked = λ z. old.locked (quiet h.place z); history = old.history; now = old.now; kept = old.kept; seated = old.seated };
        one = o.one;
        right = o.right;
        logs = o.logs;
        numbers = o.numbers;
      }

  low_stamps : (s : St) (o : Rule s) (slots : ℕ) → length s.homes ≡ slots → entries o.places ≤ slots * 2 ^ 64
  low_stamps s o slots wide = let a = few_entries o.places (λ i p e. (o.right i p e).fits) in let b = o.many in
      subst (λ n. entries o.places ≤ n * 2 ^ 64) (b ∙ wide) a

  -- a free lock is taken, and the place's cell goes out with the seat
  taken : (slots id : ℕ) (m : M) (place b x y : ℕ) → b ≢ 0 → place < slots → m.0.hold ≡ None → 0 < length m.0.logs
      → (s : St) → Rule s → length s.homes ≡ slots → get_elem? s.views id ≡ some m.0 → get_or s.words place 0 ≡ 0 → Goes s place id m (won value seen (step slots place x y none) m) b
  taken slots id m place b x' y' some-word inside free seated s o wide me hit =
      let near : place < length o.places = let a = o.many in omega arith in
      let here : place < length s.words = let a = o.same in omega arith in
      let t = there o.places place near in let home = o.free place t.0 t.1 hit in let c = home.cell in
      let h : Hold N X = hold place (past c) (value c.object) c.keep in
      let w : V = view m.0.logs (Some h) in
      let low = low_stamps s o slots wide in
      let right = o.right place t.0 t.1 in
      let one : get_or (set s.words place b) place 0 ≡ b = get_or-set_same s.words place b 0 here in
      let theirs : (j : ℕ) (v : V) (g : Hold N X) → get_elem? s.views j ≡ some v → v.hold ≡ Some g → g.place ≡ place → ⊥ = λ j v g at is e. (o.holds j v g at is).locked (ap (λ i. get_or s.words i 0) e ∙ hit) in (
        w,
        takes place (Some c),
        home.at,
        record {
          places = o.places;
          same = length-set s.words place b ∙ (o.same ∙ sym (length-set s.homes place none));
          many = o.many ∙ sym (length-set s.homes place none);
          begun = o.begun;
          free = λ i p at z. dite (ℕ_discrete i place)
              (λ e. absurd (some-word (sym one ∙ (ap (λ k. get_or (set s.words place b) k 0) (sym e) ∙ z))))
              (λ ne. let old = o.free i p at (sym (get_or-set_other s.words place i b 0 ne) ∙ z) in
              record { cell = old.cell; at = set_else s.homes place i none ne ∙ old.at; history = old.history; now = old.now; kept = old.kept; sifted = old.sifted });
          held = λ i inside-i busy. dite (ℕ_discrete i place)
              (λ e. (id, w, h, set_here s.views id w (within s.views id m.0 me), refl, sym e))
              (λ ne. let x = o.held i (let l = length-set s.homes place none in omega arith) (λ z. busy (get_or-set_other s.words place i b 0 ne ∙ z)) in
              (x.0, x.1, x.2, set_else s.views id x.0 w (λ same. no_some m.0.hold x.2 free (ap (λ (v : V). v.hold) (Some-at s.views id x.0 m.0 x.1 me same x.3) ∙ x.4)) ∙ x.3, x.4, x.5));
          holds = λ j v g at is. ⊎_elim
              (λ (q : (j ≡ id) × (w ≡ v)). let e : h ≡ g = same_Some h g (ap (λ (u : V). u.hold) q.1 ∙ is) in
              subst (λ (z : V × Hold N X). Holds after keep o.places (set s.words place b) z.0 z.1) (λ k. (q.1 k, e k)) record {
                place = t.0;
                at = t.1;
                locked = λ z. some-word (sym one ∙ z);
                history = home.history;
                now = home.now;
                kept = home.kept;
                seated = seated;
              })
              (λ (q : (j ≢ id) × (get_elem? s.views j ≡ some v)). let old = o.holds j v g q.1 is in
              record { place = old.place; at = old.at; locked = λ z. old.locked (sym (get_or-set_other s.words place g.place b 0 (λ e. theirs j v g q.1 is e)) ∙ z); history = old.history; now = old.now; kept = old.kept; seated = old.seated })
              (at_set s.views id j w v at);
          one = λ j k v u g f at1 at2 is1 is2 e. ⊎_elim
              (λ (q : (j ≡ id) × (w ≡ v)). let mine : h ≡ g = same_Some h g (ap (λ (u : V). u.hold) q.1 ∙ is1) in ⊎_elim
              (λ (r : (k ≡ id) × (w ≡ u)). q.0 ∙ sym r.0)
              (λ (r : (k ≢ id) × (get_elem? s.views k ≡ some u)). absurd (theirs k u f r.1 is2 (sym e ∙ sym (ap (λ (x : Hold N X). x.place) mine))))
              (at_set s.views id k w u at2))
              (λ (q : (j ≢ id) × (get_elem? s.views j ≡ some v)). ⊎_elim
              (λ (r : (k ≡ id) × (w ≡ u)). let mine : h ≡ f = same_Some h f (ap (λ (u : V). u.hold) r.1 ∙ is2) in absurd (theirs j v g q.1 is1 (e ∙ sym (ap (λ (x : Hold N X). x.place) mine))))
              (λ (r : (k ≢ id) × (get_elem? s.views k ≡ some u)). o.one j k v u g f q.1 r.1 is1 is2 e)
              (at_set s.views id k w u at2))
              (at_set s.views id j w v at1);
          right = o.right;
          logs = λ j v k l at in-log. ⊎_elim
              (λ (q : (j ≡ id) × (w ≡ v)). o.logs id m.0 k l me (ap (λ (u : V). get_elem? u.logs k) q.1 ∙ in-log))
              (λ (q : (j ≢ id) × (get_elem? s.views j ≡ some v)). o.logs j v k l q.1 in-log)
              (at_set s.views id j w v at);
          numbers = λ f. let a = total-set (weight f) s.views id m.0 w me in let b = o.numbers f in omega arith;
        },
        (
          (λ _. (
            c,
            refl,
            subst (λ (es : List (Held N)). last_of 0 (history_stamps es) ≤ slots * 2 ^ 64) (sym home.history) (let a = right.low in omega arith),
            λ k l at. let a = (o.logs id m.0 k l me at).low in omega arith,
            home.sifted,
          )),
          λ miss. absurd (miss hit),
        ),
      )

  -- the free lock is taken, and a held one stays as it is
  pub wins : (slots id : ℕ) (m : M) (place : ℕ) → place < slots → m.0.hold ≡ None → 0 < length m.0.logs
      → Allows Rule slots id m place (λ n. either (eqb n 0) 1 n) (won value seen (step slots place 0 1 none) m)
  wins slots id m place inside free seated s o wide me _ =
      let here : place < length s.words = let a = o.same in omega arith in
      exchanged (get_or s.words place 0) 0 1 (Goes s place id m (won value seen (step slots place 0 1 none) m))
      (λ hit. taken slots id m place 1 0 1 (λ z. omega arith) inside free seated s o wide me hit)
      (λ miss. (m.0, keeps, tt, stays id m place (get_or s.words place 0) miss s o here me miss, ((λ hit. absurd (miss hit)), λ _. refl)))

  -- the free lock is taken, and a held one stays held
  pub waits : (slots id : ℕ) (m : M) (place : ℕ) → place < slots → m.0.hold ≡ None → 0 < length m.0.logs
      → Allows Rule slots id m place (λ _. 2) (won value seen (step slots place 2 0 none) m)
  waits slots id m place inside free seated s o wide me _ =
      let here : place < length s.words = let a = o.same in omega arith in
      dite (ℕ_discrete (get_or s.words place 0) 0)
      (λ hit. taken slots id m place 2 2 0 (λ z. omega arith) inside free seated s o wide me hit)
      (λ miss. (m.0, keeps, tt, stays id m place 2 (λ z. omega arith) s o here me miss, ((λ hit. absurd (miss hit)), λ _. refl)))

  -- the holder's turn is over, and its place has the history that lies in its slot
  released : (s : St) (o : Rule s) (id place : ℕ) (v w : V) (h : Hold N X) (c : Cell O N) (places : List (Place N X)) (p : Place N X)
      → get_elem? s.views id ≡ some v → v.hold ≡ Some h → h.place ≡ place → w.hold ≡ None → ((f : ℕ → ℕ) → weight f w ≡ weight f v)
      → get_elem? places place ≡ some p → ((i : ℕ) → i ≢ place → get_elem? places i ≡ get_elem? o.places i) → length places ≡ length o.places
      → map (λ (q : Place N X). q.0) places ≡ map (λ (q : Place N X). q.0) o.places
      → past c ≡ p.1 → value c.object ≡ left_by after p.0 p.1 → c.keep ≡ keep → IsSifted seen c
      → ((i : ℕ) (q : Place N X) → get_elem? places i ≡ some q → IsRight after may seats (entries places) q)
      → ((k : ℕ) (l : Log N X) → get_elem? w.logs k ≡ some l → FitsLog after places (entries places) l)
      → ((j : ℕ) (u : V) (k : ℕ) (l : Log N X) → j ≢ id → get_elem? s.views j ≡ some u → get_elem? u.logs k ≡ some l → FitsLog after places (entries places) l)
      → Rule (stepped s place 0 id ((place, Some c) ∷ []) w gives)
  released s o id place v w h c places p me mine is over weigh at others long begun history now kept sifted right logs logs' =
      let near : place < length s.homes = let a = within places place p at in let b = o.many in omega arith in
      let here : place < length s.words = let a = o.same in omega arith in
      let zero-now : get_or (set s.words place 0) place 0 ≡ 0 = get_or-set_same s.words place 0 0 here in
      let idle : (j : ℕ) (u : V) (g : Hold N X) → get_elem? (set s.views id w) j ≡ some u → u.hold ≡ Some g → (j ≢ id) × (get_elem? s.views j ≡ some u) × (g.place ≢ place) = λ j u g at' is'. ⊎_elim
      (λ (q : (j ≡ id) × (w ≡ u)). absurd (no_some w.hold g over (ap (λ (x : V). x.hold) q.1 ∙ is')))
      (λ (q : (j ≢ id) × (get_elem? s.views j ≡ some u)). (q.0, q.1, λ e. q.0 (o.one j id u v g h q.1 me is' mine (e ∙ sym is))))
      (at_set s.views id j w u at') in
      record {
        places = places;
        same = length-set s.words place 0 ∙ (o.same ∙ sym (length-set s.homes place (some (Some c))));
        many = long ∙ (o.many ∙ sym (length-set s.homes place (some (Some c))));
        begun = begun ∙ o.begun;
        free = λ i q at-i z. dite (ℕ_discrete i place)
            (λ e. let same-p : p ≡ q = Some-at places place i p q at e at-i in
            record { cell = c; at = ap (get_elem? (set s.homes place (some (Some c)))) e ∙ set_here s.homes place (some (Some c)) near; history = history ∙ ap (λ (y : Place N X). y.1) same-p; now = now ∙ ap (λ (y : Place N X). left_by after y.0 y.1) same-p; kept = kept; sifted = sifted })
            (λ ne. let old = o.free i q (sym (others i ne) ∙ at-i) (sym (get_or-set_other s.words place i 0 0 ne) ∙ z) in
            record { cell = old.cell; at = set_else s.homes place i (some (Some c)) ne ∙ old.at; history = old.history; now = old.now; kept = old.kept; sifted = old.sifted });
        held = λ i inside-i busy. dite (ℕ_discrete i place)
            (λ e. absurd (busy (ap (λ k. get_or (set s.words place 0) k 0) e ∙ zero-now)))
            (λ ne. let x = o.held i (let l = length-set s.homes place (some (Some c)) in omega arith) (λ z. busy (get_or-set_other s.words place i 0 0 ne ∙ z)) in
            (x.0, x.1, x.2, set_else s.views id x.0 w (λ same. ne (sym x.5 ∙ (ap (λ (y : Hold N X). y.place) (same_Some x.2 h (sym x.4 ∙ (sym (ap (λ (u : V). u.hold) (Some-at s.views id x.0 v x.1 me same x.3)) ∙ mine))) ∙ is))) ∙ x.3, x.4, x.5));
        holds = λ j u g at' is'. let t = idle j u g at' is' in let old = o.holds j u g t.1 is' in
            record { place = old.place; at = others g.place t.2 ∙ old.at; locked = λ z. old.locked (sym (get_or-set_other s.words place g.place 0 0 t.2) ∙ z); history = old.history; now = old.now; kept = old.kept; seated = old.seated };
        one = λ j k u x g f at1 at2 is1 is2 e. o.one j k u x g f (idle j u g at1 is1).1 (idle k x f at2 is2).1 is1 is2 e;
        right = right;
        logs = λ j u k l at' in-log. ⊎_elim
            (λ (q : (j ≡ id) × (w ≡ u)). logs k l (ap (λ (x : V). get_elem? x.logs k) q.1 ∙ in-log))
            (λ (q : (j ≢ id) × (get_elem? s.views j ≡ some u)). logs' j u k l q.0 q.1 in-log)
            (at_set s.views id j w u at');
        numbers = λ f. let a = total-set (weight f) s.views id v w me in let b = o.numbers f in let d = weigh f in omega arith;
      }

  abbrev holding : List (Log N X) → ℕ → List (Held N) → X → Keep → S → M
  holding ls place es x k c = (view ls (Some (hold place es x k)), (place, c) ∷ [])

  pub leaves : (slots id : ℕ) (ls : List (Log N X)) (place : ℕ) (es : List (Held N)) (x : X) (c : Cell O N) → past c ≡ es → value c.object ≡ x → IsSifted seen c
      → Allows Rule slots id (holding ls place es x c.keep (Some c)) place (λ _. 0) (λ _. left (step slots place 0 0 none) (holding ls place es x c.keep (Some c)) 0)
  leaves slots id ls place es x c is now sifted s o wide me _ =
      let h : Hold N X = hold place es x c.keep in let v : V = view ls (Some h) in let w : V = view ls None in
      let t = o.holds id v h me refl in (
        w,
        gives,
        tt,
        released s o id place v w h c o.places t.place me refl refl refl (λ f. refl) t.at (λ i ne. refl) refl refl (is ∙ t.history) (now ∙ t.now) t.kept sifted o.right
            (λ k l at. o.logs id v k l me at) (λ j u k l ne at in-log. o.logs j u k l at in-log),
        refl,
      )

  pub leaves_at : (slots id : ℕ) (m old : M) (ls : List (Log N X)) (place : ℕ) (c : Cell O N)
      → old ≡ holding ls place (past c) (value c.object) c.keep None → m ≡ (old.0, (place, Some c) ∷ rest old.1) → IsSifted seen c
      → Allows Rule slots id m place (λ _. 0) (λ _. left (step slots place 0 0 none) m 0)
  leaves_at slots id m old ls place c was is sifted =
      let e : holding ls place (past c) (value c.object) c.keep (Some c) ≡ m = sym (is ∙ ap (λ (y : M). (y.0, (place, Some c) ∷ rest y.1)) was) in
      subst (λ (y : M). Allows Rule slots id y place (λ _. 0) (λ _. left (step slots place 0 0 none) y 0)) e (leaves slots id ls place (past c) (value c.object) c refl refl sifted)

  -- the numbers of a view are below the count of seats, and no other view has one of them
  known_number : (s : St) (o : Rule s) (id k : ℕ) (v : V) → get_elem? s.views id ≡ some v → 0 < weight (only k) v → k < seats
  known_number s o id k v me has = dite (dec_le seats k)
      (λ le. let a = (below-only k seats).1 le in let b = o.numbers (only k) in let d = term_le (weight (only k)) s.views id v me in absurd (omega arith))
      (λ ne. omega arith)

  other_number : (s : St) (o : Rule s) (id j k : ℕ) (v u : V) → j ≢ id → get_elem? s.views id ≡ some v → get_elem? s.views j ≡ some u → 0 < weight (only k) v → 0 < weight (only k) u → ⊥
  other_number s o id j k v u apart me them has has' =
      let a = (below-only k seats).0 in let b = o.numbers (only k) in let d = terms_le (weight (only k)) s.views id j v u apart me them in omega arith

  pub enters : (slots id number : ℕ) (logged : List (LogEntry N X)) (place : ℕ) (es : List (Held N)) (x : X) (c : Cell O N) (e : Held N) → past c ≡ es ++ e ∷ [] → value c.object ≡ after x e.note → IsSifted seen c
      → ((ask : A) × (reply : R) × may x ask reply e.note) → e.seat ≡ number → e.stamp ≡ max (last_of 0 (history_stamps es)) (last_of 0 (log_stamps logged)) + 1 → length (past c) < 2 ^ 64
      → Allows Rule slots id (holding (log number logged ∷ []) place es x c.keep (Some c)) place (λ _. 0) (λ _. entered (step slots place 0 0 none) (holding (log number logged ∷ []) place es x c.keep (Some c)) 0)
  enters slots id number logged place es x c e is now sifted given mine stamp small s o wide me _ =
      let h : Hold N X = hold place es x c.keep in
      let v : V = view (log number logged ∷ []) (Some h) in
      let m : LogEntry N X = log_entry place e.stamp e.note x (last_of 0 (history_stamps es)) in
      let w : V = view (log number (logged ++ m ∷ []) ∷ []) None in
      let t = o.holds id v h me refl in
      let p : Place N X = t.place in
      let p' : Place N X = (p.0, p.1 ++ e ∷ []) in
      let places : List (Place N X) = set o.places place p' in
      let near : place < length o.places = within o.places place p t.at in
      let long : length places ≡ length o.places = length-set o.places place p' in
      let my-log = o.logs id v 0 (log number logged) me refl in
      let right = o.right place p t.at in
      let one-more : length (p.1 ++ e ∷ []) ≡ length p.1 + 1 = length-append p.1 (e ∷ []) in
      let more : entries places ≡ entries o.places + 1 = let a = total-set (λ (q : Place N X). length q.1) o.places place p p' t.at in omega arith in
      let last-es : last_of 0 (history_stamps p.1) ≡ last_of 0 (history_stamps es) = ap (λ (l : List (Held N)). last_of 0 (history_stamps l)) (sym t.history) in
      let low-es = right.low in
      let low-ms = my-log.low in
      let low : e.stamp ≤ entries places = omega arith in
      let whole : past c ≡ p.1 ++ e ∷ [] = is ∙ ap (λ (l : List (Held N)). l ++ e ∷ []) t.history in
      let has : 0 < weight (only number) v = let a = only-same number number refl in omega arith in
      let stamps-more : history_stamps (p.1 ++ e ∷ []) ≡ history_stamps p.1 ++ e.stamp ∷ [] = map-append (λ (d : Held N). d.stamp) p.1 (e ∷ []) in
      let logged-more : log_stamps (logged ++ m ∷ []) ≡ log_stamps logged ++ e.stamp ∷ [] = map-append (λ (d : LogEntry N X). d.stamp) logged (m ∷ []) in
      let after-e : value c.object ≡ left_by after p.0 (p.1 ++ e ∷ []) = now ∙ (ap (λ (y : X). after y e.note) t.now ∙ sym (left_by_more after p.0 p.1 e)) in
      let given' : (ask : A) × (reply : R) × may (left_by after p.0 p.1) ask reply e.note = subst (λ (y : X). (ask : A) × (reply : R) × may y ask reply e.note) t.now given in
      let mine-same : at_place place (logged ++ m ∷ []) ≡ told after place number p.0 0 (p.1 ++ e ∷ []) =
      at_place_here place logged m refl ∙ (ap (λ (l : List (LogEntry N X)). l ++ m ∷ []) (my-log.same place p t.at) ∙ ((λ d. told after place number p.0 0 p.1 ++ log_entry place e.stamp e.note (t.now d) (sym last-es d) ∷ []) ∙ sym (told_here after place number p.0 0 p.1 e mine))) in (
        w,
        gives,
        tt,
        released s o id place v w h c places p' me refl refl refl (λ f. refl) (set_here o.places place p' near) (λ i ne. set_else o.places place i p' ne) long
            (map-set (λ (q : Place N X). q.0) o.places place p' ∙ set_again (map (λ (q : Place N X). q.0) o.places) place p.0 (at_map (λ (q : Place N X). q.0) o.places place p t.at))
            whole after-e t.kept sifted
            (λ i q at. ⊎_elim
            (λ (y : (i ≡ place) × (p' ≡ q)). subst (IsRight after may seats (entries places)) y.1 record {
              rising = subst (Rises 0) (sym stamps-more) (rises_more 0 (history_stamps p.1) e.stamp right.rising (omega arith));
              low = subst (λ (l : List ℕ). last_of 0 l ≤ entries places) (sym stamps-more) (let a = last_more 0 (history_stamps p.1) e.stamp in omega arith);
              fits = subst (λ (l : List (Held N)). length l < 2 ^ 64) whole small;
              given = given_more after may p.0 p.1 e right.given given';
              known = each_push (λ (d : Held N). d.seat < seats) p.1 e right.known (let a = known_number s o id number v me has in omega arith);
            })
            (λ (y : (i ≢ place) × (get_elem? o.places i ≡ some q)). let old = o.right i q y.1 in
            record { rising = old.rising; low = let a = old.low in omega arith; fits = old.fits; given = old.given; known = old.known })
            (at_set o.places place i p' q at))
            (λ k l at. subst (FitsLog after places (entries places)) (only-one (log number (logged ++ m ∷ [])) k l at) record {
              stamped = stamped_more 0 logged m my-log.stamped stamp;
              low = subst (λ (l : List ℕ). last_of 0 l ≤ entries places) (sym logged-more) (let a = last_more 0 (log_stamps logged) e.stamp in omega arith);
              same = λ i q at-i. ⊎_elim
                  (λ (y : (i ≡ place) × (p' ≡ q)). subst (λ (z : ℕ × Place N X). at_place z.0 (logged ++ m ∷ []) ≡ told after z.0 number z.1.0 0 z.1.1) (λ d. (sym y.0 d, y.1 d)) mine-same)
                  (λ (y : (i ≢ place) × (get_elem? o.places i ≡ some q)). at_place_else i logged m (λ z. y.0 (sym z)) ∙ my-log.same i q y.1)
                  (at_set o.places place i p' q at-i);
              inside = subst (λ n. Each (λ (d : LogEntry N X). d.place < n) (logged ++ m ∷ [])) (sym long) (each_push (λ (d : LogEntry N X). d.place < length o.places) logged m my-log.inside near);
            })
            (λ j u k l apart them in-log. let old = o.logs j u k l them in-log in
            let other : e.seat ≢ l.number = λ z. other_number s o id j number v u apart me them has
            (let a = term_le (λ (b : Log N X). only number b.number) u.logs k l in-log in let b = only-same number l.number (sym z ∙ mine) in omega arith) in
            record {
              stamped = old.stamped;
              low = let a = old.low in omega arith;
              same = λ i q at-i. ⊎_elim
                  (λ (y : (i ≡ place) × (p' ≡ q)). subst (λ (z : ℕ × Place N X). at_place z.0 l.logged ≡ told after z.0 l.number z.1.0 0 z.1.1) (λ d. (sym y.0 d, y.1 d))
                  (old.same place p t.at ∙ sym (told_else after place l.number p.0 0 p.1 e other)))
                  (λ (y : (i ≢ place) × (get_elem? o.places i ≡ some q)). old.same i q y.1)
                  (at_set o.places place i p' q at-i);
              inside = subst (λ n. Each (λ (d : LogEntry N X). d.place < n) l.logged) (sym long) old.inside;
            }),
        (
          refl,
          λ c' e' h' is-h is-c is-e.
              let same-h : h ≡ h' = same_Some h h' is-h in
              let same-c : c ≡ c' = same_Some c c' (ap (λ (l : List (ℕ × S)). (first_of (Some c) l)) is-c) in
              let same-e : e ≡ e' = last_same es e e' (sym is ∙ (ap (λ (y : Cell O N). past y) same-c ∙ (is-e ∙ ap (λ (y : Hold N X). y.history ++ e' ∷ []) (sym same-h)))) in
              λ d. view (log number (logged ++ log_entry ((same-h d).place) ((same-e d).stamp) ((same-e d).note) ((same-h d).now) (last_of 0 (history_stamps ((same-h d).history))) ∷ []) ∷ []) None,
        ),
      )

  pub enters_at : (slots id : ℕ) (m old : M) (number : ℕ) (logged : List (LogEntry N X)) (place : ℕ) (es : List (Held N)) (x : X) (c : Cell O N) (e : Held N)
      → old ≡ holding (log number logged ∷ []) place es x c.keep None → m ≡ (old.0, (place, Some c) ∷ rest old.1) → past c ≡ es ++ e ∷ [] → value c.object ≡ after x e.note → IsSifted seen c
      → ((ask : A) × (reply : R) × may x ask reply e.note) → e.seat ≡ number → e.stamp ≡ max (last_of 0 (history_stamps es)) (last_of 0 (log_stamps logged)) + 1 → length (past c) < 2 ^ 64
      → Allows Rule slots id m place (λ _. 0) (λ _. entered (step slots place 0 0 none) m 0)
  enters_at slots id m old number logged place es x c e was is-m is now sifted given mine stamp small =
      let path : holding (log number logged ∷ []) place es x c.keep (Some c) ≡ m = sym (is-m ∙ ap (λ (y : M). (y.0, (place, Some c) ∷ rest y.1)) was) in
      subst (λ (y : M). Allows Rule slots id y place (λ _. 0) (λ _. entered (step slots place 0 0 none) y 0)) path (enters slots id number logged place es x c e is now sifted given mine stamp small)
