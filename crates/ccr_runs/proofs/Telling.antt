-- Each seat's part of the acts is its log, and so the acts are a run.
use Rattle.std.proofs.Common.{◌≡◌, ◌≢◌, ℕ, ◌+◌, ◌<◌, ◌≤◌, max, cond, eq-eqb, ne_eqb, List, [], ◌∷◌, ◌++◌, sym, refl, ap, ◌∙◌, subst, arith, Some}
use mathlib.Core.Logic.{dite}
use native.Mathlib.Decide.{ℕ_discrete}
use Rattle.ccr_turns.specs.Logs.{log_stamps, log_entry, at_place, told}
use Rattle.ccr_turns.specs.Lists.{Rises, last_of}
use Rattle.ccr_base.specs.Lists.{Each}
use Rattle.ccr_turns.specs.declared.history.LogEntry.{LogEntry}
use Rattle.ccr_runs.specs.declared.acts.Act.{Act}
use Rattle.ccr_runs.specs.Merges.{Climbs, act_stamps, history_at, held}
use Rattle.ccr_runs.specs.Stories.{Scene, moved, story}
use Rattle.ccr_runs.specs.Runs.{Protocol, Gives, IsProper, state_after, Cast, taught, IsRunFrom, IsMerged, HasProperLog}

pub climbs_from : (a b : ℕ) (xs : List ℕ) → b ≤ a → Climbs a xs → Climbs b xs
climbs_from a b [] low c = tt
climbs_from a b (x ∷ xs) low c = (let h = c.0 in omega arith, c.1)

module _ {N X : Type 0} where
  -- the first that stands at a place is not below
  low : (a p : ℕ) (ms : List (LogEntry N X)) (m : LogEntry N X) (rest : List (LogEntry N X)) → Climbs a (log_stamps ms) → at_place p ms ≡ m ∷ rest → a ≤ m.stamp
  low a p [] m rest c e = absurd (cc)
  low a p (x ∷ xs) m rest c e = dite (ℕ_discrete x.place p)
      (λ y. let t = eq-eqb x.place p y in let is : x ∷ at_place p xs ≡ m ∷ rest = ap (λ b. cond b (x ∷ at_place p xs) (at_place p xs)) (sym t) ∙ e in let same : x ≡ m = cc in let h = c.0 in let g = ap (λ (d : LogEntry N X). d.stamp) same in omega arith)
      (λ n. let t = ne_eqb x.place p n in let is : at_place p xs ≡ m ∷ rest = ap (λ b. cond b (x ∷ at_place p xs) (at_place p xs)) (sym t) ∙ e in let h = c.0 in let g = low x.stamp p xs m rest c.1 is in omega arith)

  above : (a p : ℕ) (ms : List (LogEntry N X)) (m : LogEntry N X) (rest : List (LogEntry N X)) → Rises a (log_stamps ms) → at_place p ms ≡ m ∷ rest → a < m.stamp
  above a p [] m rest c e = absurd (cc)
  above a p (x ∷ xs) m rest c e = dite (ℕ_discrete x.place p)
      (λ y. let t = eq-eqb x.place p y in let is : x ∷ at_place p xs ≡ m ∷ rest = ap (λ b. cond b (x ∷ at_place p xs) (at_place p xs)) (sym t) ∙ e in let same : x ≡ m = cc in let h = c.0 in let g = ap (λ (d : LogEntry N X). d.stamp) same in omega arith)
      (λ n. let t = ne_eqb x.place p n in let is : at_place p xs ≡ m ∷ rest = ap (λ b. cond b (x ∷ at_place p xs) (at_place p xs)) (sym t) ∙ e in let h = c.0 in let g = above x.stamp p xs m rest c.1 is in omega arith)

  here : (p : ℕ) (m : LogEntry N X) (ms : List (LogEntry N X)) → m.place ≡ p → at_place p (m ∷ ms) ≡ m ∷ at_place p ms
  here p m ms e = ap (λ b. cond b (m ∷ at_place p ms) (at_place p ms)) (eq-eqb m.place p e)

  elsewhere : (p : ℕ) (m : LogEntry N X) (ms : List (LogEntry N X)) → m.place ≢ p → at_place p (m ∷ ms) ≡ at_place p ms
  elsewhere p m ms n = ap (λ b. cond b (m ∷ at_place p ms) (at_place p ms)) (ne_eqb m.place p n)

  -- two logs that don't fall, one of which rises, are the same where they are so at each place
  pub same_logs : (a b : ℕ) (ms ns : List (LogEntry N X)) → Climbs a (log_stamps ms) → Rises b (log_stamps ns) → ((p : ℕ) → at_place p ms ≡ at_place p ns) → ms ≡ ns
  same_logs a b [] [] c r h = refl
  same_logs a b [] (n ∷ ns) c r h = let e = h n.place ∙ here n.place n ns refl in absurd (cc)
  same_logs a b (m ∷ ms) [] c r h = let e = sym (here m.place m ms refl) ∙ h m.place in absurd (cc)
  same_logs a b (m ∷ ms) (n ∷ ns) c r h = dite (ℕ_discrete m.place n.place)
      (λ y.
      let both : m ∷ at_place n.place ms ≡ n ∷ at_place n.place ns = sym (here n.place m ms y) ∙ (h n.place ∙ here n.place n ns refl) in
      let first : m ≡ n = cc in
      let rest : at_place n.place ms ≡ at_place n.place ns = cc in
      let tails : (p : ℕ) → at_place p ms ≡ at_place p ns = λ p. dite (ℕ_discrete n.place p)
      (λ z. subst (λ q. at_place q ms ≡ at_place q ns) z rest)
      (λ z. sym (elsewhere p m ms (λ w. z (sym y ∙ w))) ∙ (h p ∙ elsewhere p n ns z)) in
      let after = same_logs m.stamp n.stamp ms ns c.1 r.1 tails in
      λ i. first i ∷ after i)
      (λ z.
      let theirs : at_place n.place ms ≡ n ∷ at_place n.place ns = sym (elsewhere n.place m ms z) ∙ (h n.place ∙ here n.place n ns refl) in
      let ours : at_place m.place ns ≡ m ∷ at_place m.place ms = sym (elsewhere m.place n ns (λ w. z (sym w))) ∙ (sym (h m.place) ∙ here m.place m ms refl) in
      let x = low m.stamp n.place ms n (at_place n.place ns) c.1 theirs in
      let y = above n.stamp m.place ns m (at_place m.place ms) r.1 ours in
      absurd (omega arith))

module _ {N X : Type 0} (after : X → N → X) where
  -- a seat's story at a place is what the place's part tells of the seat
  pub story_at : (p k : ℕ) (v : Scene X) (es : List (Act N)) → at_place p (story after k v es) ≡ told after p k (v p).0 (v p).1 (history_at p es)
  story_at p k v [] = refl
  story_at p k v (e ∷ es) = dite (ℕ_discrete e.place p)
      (λ y. let t = eq-eqb e.place p y in let again = story_at p k (moved after v e) es in
      let next : told after p k (moved after v e p).0 (moved after v e p).1 (history_at p es) ≡ told after p k (after (v p).0 e.note) e.stamp (history_at p es) = ap (λ b. told after p k (cond b (after (v p).0 e.note, e.stamp) (v p)).0 (cond b (after (v p).0 e.note, e.stamp) (v p)).1 (history_at p es)) t in
      let there : history_at p (e ∷ es) ≡ held e ∷ history_at p es = ap (λ b. cond b (held e ∷ history_at p es) (history_at p es)) t in
      dite (ℕ_discrete e.seat k)
      (λ z. let s = eq-eqb e.seat k z in
      let mine : story after k v (e ∷ es) ≡ log_entry e.place e.stamp e.note (v e.place).0 (v e.place).1 ∷ story after k (moved after v e) es = ap (λ b. cond b (log_entry e.place e.stamp e.note (v e.place).0 (v e.place).1 ∷ story after k (moved after v e) es) (story after k (moved after v e) es)) s in
      let moved_entry : log_entry e.place e.stamp e.note (v e.place).0 (v e.place).1 ≡ log_entry p e.stamp e.note (v p).0 (v p).1 = λ i. log_entry (y i) e.stamp e.note (v (y i)).0 (v (y i)).1 in
      let its : told after p k (v p).0 (v p).1 (held e ∷ history_at p es) ≡ log_entry p e.stamp e.note (v p).0 (v p).1 ∷ told after p k (after (v p).0 e.note) e.stamp (history_at p es) = ap (λ b. cond b (log_entry p e.stamp e.note (v p).0 (v p).1 ∷ told after p k (after (v p).0 e.note) e.stamp (history_at p es)) (told after p k (after (v p).0 e.note) e.stamp (history_at p es))) s in
      ap (at_place p) mine ∙ (here p _ _ y ∙ ((λ i. moved_entry i ∷ (again ∙ next) i) ∙ (sym its ∙ ap (told after p k (v p).0 (v p).1) (sym there)))))
      (λ z. let s = ne_eqb e.seat k z in
      let mine : story after k v (e ∷ es) ≡ story after k (moved after v e) es = ap (λ b. cond b (log_entry e.place e.stamp e.note (v e.place).0 (v e.place).1 ∷ story after k (moved after v e) es) (story after k (moved after v e) es)) s in
      let its : told after p k (v p).0 (v p).1 (held e ∷ history_at p es) ≡ told after p k (after (v p).0 e.note) e.stamp (history_at p es) = ap (λ b. cond b (log_entry p e.stamp e.note (v p).0 (v p).1 ∷ told after p k (after (v p).0 e.note) e.stamp (history_at p es)) (told after p k (after (v p).0 e.note) e.stamp (history_at p es))) s in
      ap (at_place p) mine ∙ ((again ∙ next) ∙ (sym its ∙ ap (told after p k (v p).0 (v p).1) (sym there)))))
      (λ n. let t = ne_eqb e.place p n in let again = story_at p k (moved after v e) es in
      let next : told after p k (moved after v e p).0 (moved after v e p).1 (history_at p es) ≡ told after p k (v p).0 (v p).1 (history_at p es) = ap (λ b. told after p k (cond b (after (v p).0 e.note, e.stamp) (v p)).0 (cond b (after (v p).0 e.note, e.stamp) (v p)).1 (history_at p es)) t in
      let there : history_at p (e ∷ es) ≡ history_at p es = ap (λ b. cond b (held e ∷ history_at p es) (history_at p es)) t in
      dite (ℕ_discrete e.seat k)
      (λ z. let s = eq-eqb e.seat k z in
      let mine : story after k v (e ∷ es) ≡ log_entry e.place e.stamp e.note (v e.place).0 (v e.place).1 ∷ story after k (moved after v e) es = ap (λ b. cond b (log_entry e.place e.stamp e.note (v e.place).0 (v e.place).1 ∷ story after k (moved after v e) es) (story after k (moved after v e) es)) s in
      ap (at_place p) mine ∙ (elsewhere p _ _ n ∙ ((again ∙ next) ∙ ap (told after p k (v p).0 (v p).1) (sym there))))
      (λ z. let s = ne_eqb e.seat k z in
      let mine : story after k v (e ∷ es) ≡ story after k (moved after v e) es = ap (λ b. cond b (log_entry e.place e.stamp e.note (v e.place).0 (v e.place).1 ∷ story after k (moved after v e) es) (story after k (moved after v e) es)) s in
      ap (at_place p) mine ∙ ((again ∙ next) ∙ ap (told after p k (v p).0 (v p).1) (sym there))))

  pub story_climbs : (a k : ℕ) (v : Scene X) (es : List (Act N)) → Climbs a (act_stamps es) → Climbs a (log_stamps (story after k v es))
  story_climbs a k v [] c = tt
  story_climbs a k v (e ∷ es) c = dite (ℕ_discrete e.seat k)
      (λ z. let s = eq-eqb e.seat k z in subst (λ b. Climbs a (log_stamps (cond b (log_entry e.place e.stamp e.note (v e.place).0 (v e.place).1 ∷ story after k (moved after v e) es) (story after k (moved after v e) es)))) (sym s) (c.0, story_climbs e.stamp k (moved after v e) es c.1))
      (λ z. let s = ne_eqb e.seat k z in subst (λ b. Climbs a (log_stamps (cond b (log_entry e.place e.stamp e.note (v e.place).0 (v e.place).1 ∷ story after k (moved after v e) es) (story after k (moved after v e) es)))) (sym s) (climbs_from e.stamp a _ c.0 (story_climbs e.stamp k (moved after v e) es c.1)))

  -- the log that has at each place what the place's part tells of the seat is the seat's story
  pub story_is : (k : ℕ) (v : Scene X) (es : List (Act N)) (ms : List (LogEntry N X)) → Climbs 0 (act_stamps es) → Rises 0 (log_stamps ms) → ((p : ℕ) → at_place p ms ≡ told after p k (v p).0 (v p).1 (history_at p es)) → story after k v es ≡ ms
  story_is k v es ms c r h = same_logs 0 0 (story after k v es) ms (story_climbs 0 k v es c) r (λ p. story_at p k v es ∙ sym (h p))

module _ {N X A R S : Type 0} (r : Protocol N X A R S) where
  -- what each place gave and each actor asked is a run
  pub run_of : (n : ℕ) (v : Scene X) (l : Cast r) (es : List (Act N)) → Each (λ e. e.seat < n) es → ((p : ℕ) → Gives r (v p).0 (history_at p es)) → ((k : ℕ) → k < n → IsProper r (l k).0 (l k).1 (story r.after k v es)) → IsRunFrom r n v l es
  run_of n v l [] few gives proper = tt
  run_of n v l (e ∷ es) few gives proper =
      let same = eq-eqb e.seat e.seat refl in
      let at = eq-eqb e.place e.place refl in
      let mine = subst (λ b. IsProper r (l e.seat).0 (l e.seat).1 (cond b (log_entry e.place e.stamp e.note (v e.place).0 (v e.place).1 ∷ story r.after e.seat (moved r.after v e) es) (story r.after e.seat (moved r.after v e) es))) same (proper e.seat few.0) in
      let its = subst (λ b. Gives r (v e.place).0 (cond b (held e ∷ history_at e.place es) (history_at e.place es))) at (gives e.place) in
      let places : (p : ℕ) → Gives r (moved r.after v e p).0 (history_at p es) = λ p. dite (ℕ_discrete e.place p)
      (λ y. let t = eq-eqb e.place p y in
      let g = subst (λ b. Gives r (v p).0 (cond b (held e ∷ history_at p es) (history_at p es))) t (gives p) in
      subst (λ b. Gives r (cond b (r.after (v p).0 e.note, e.stamp) (v p)).0 (history_at p es)) (sym t) g.1)
      (λ y. let t = ne_eqb e.place p y in
      let g = subst (λ b. Gives r (v p).0 (cond b (held e ∷ history_at p es) (history_at p es))) t (gives p) in
      subst (λ b. Gives r (cond b (r.after (v p).0 e.note, e.stamp) (v p)).0 (history_at p es)) (sym t) g) in
      let actors : (k : ℕ) → k < n → IsProper r (taught r l v e k).0 (taught r l v e k).1 (story r.after k (moved r.after v e) es) = λ k few_k. dite (ℕ_discrete e.seat k)
      (λ y. let t = eq-eqb e.seat k y in
      let g = subst (λ b. IsProper r (l k).0 (l k).1 (cond b (log_entry e.place e.stamp e.note (v e.place).0 (v e.place).1 ∷ story r.after k (moved r.after v e) es) (story r.after k (moved r.after v e) es))) t (proper k few_k) in
      subst (λ b. IsProper r (cond b (r.got (l k).0 (r.replied (v e.place).0 e.note), e.stamp) (l k)).0 (cond b (r.got (l k).0 (r.replied (v e.place).0 e.note), e.stamp) (l k)).1 (story r.after k (moved r.after v e) es)) (sym t) g.2)
      (λ y. let t = ne_eqb e.seat k y in
      let g = subst (λ b. IsProper r (l k).0 (l k).1 (cond b (log_entry e.place e.stamp e.note (v e.place).0 (v e.place).1 ∷ story r.after k (moved r.after v e) es) (story r.after k (moved r.after v e) es))) t (proper k few_k) in
      subst (λ b. IsProper r (cond b (r.got (l k).0 (r.replied (v e.place).0 e.note), e.stamp) (l k)).0 (cond b (r.got (l k).0 (r.replied (v e.place).0 e.note), e.stamp) (l k)).1 (story r.after k (moved r.after v e) es)) (sym t) g) in
      (few.0, mine.0, its.0, mine.1, run_of n (moved r.after v e) (taught r l v e) es few.1 places actors)

module _ {N X A R S : Type 0} (r : Protocol N X A R S) where
  -- a log goes on by the actor's next ask
  pub proper_more : (s : S) (a : ℕ) (ms : List (LogEntry N X)) (m : LogEntry N X) → IsProper r s a ms → r.next (state_after r s ms) ≡ Some (m.place, r.asked m.note) → m.stamp ≡ max m.earlier (last_of a (log_stamps ms)) + 1 → IsProper r s a (ms ++ m ∷ [])
  proper_more s a [] m p next stamp = (next, stamp, tt)
  proper_more s a (x ∷ xs) m p next stamp = (p.0, p.1, proper_more (r.got s (r.replied x.before x.note)) x.stamp xs m p.2 next stamp)

  pub state_more : (s : S) (ms : List (LogEntry N X)) (m : LogEntry N X) → state_after r s (ms ++ m ∷ []) ≡ r.got (state_after r s ms) (r.replied m.before m.note)
  state_more s [] m = refl
  state_more s (x ∷ xs) m = state_more (r.got s (r.replied x.before x.note)) xs m

  -- so it is of merged acts, where each seat has a proper log
  pub run_of_logs : (n : ℕ) (v : Scene X) (l : Cast r) (es : List (Act N)) → IsMerged r n v es → ((k : ℕ) → k < n → HasProperLog r v l k es) → IsRunFrom r n v l es
  run_of_logs n v l es merged logs = run_of r n v l es merged.seated merged.given (λ k low.
      let (logged, its, proper) = logs k low in
      subst (IsProper r (l k).0 (l k).1) (sym (story_is r.after k v es logged merged.sorted its.rising its.same)) proper)
