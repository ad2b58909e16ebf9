-- What the steps of one act come to.
use Rattle.std.proofs.Common.{Bool, subst, length, eqb, eq-eqb, ne_eqb, ◌≡◌, ℕ, ◌<◌, List, [], ◌∷◌, ◌++◌, Option, Some, None, sym, ap, ◌∙◌, arith}
use Rattle.std.proofs.lemmas.List.{map-append}
use Rattle.ccr_turns.specs.Steps.{won}
use Rattle.ccr_turns.specs.Views.{Sat, view, hold}
use Rattle.ccr_turns.specs.Logs.{numbers_of, log, log_entry, noted, log_stamps, logged_of}
use Rattle.ccr_turns.specs.Lists.{last_of}
use Rattle.ccr_turns.specs.Histories.{history_stamps, past}
use Rattle.ccr_turns.specs.Seated.{IsAtRest, Ready, Won, HasTurn, Entered}
use Rattle.std.proofs.lemmas.List.{nil_from_length}
use Rattle.std.specs.Option.{is_some}
use Rattle.std.specs.Bool.{MatchBool}
use mathlib.Core.Logic.{dite}
use native.Mathlib.Decide.{ℕ_discrete}
use mathlib.Core.Option.{none}
use Rattle.atomic_table.specs.Table.{step}
use Rattle.ccr_turns.specs.declared.history.Held.{Held}
use Rattle.ccr_turns.specs.declared.history.Cell.{Cell}
use Rattle.ccr_turns.specs.declared.history.LogEntry.{LogEntry}
use Rattle.ccr_turns.specs.declared.history.Log.{Log}
use Rattle.ccr_turns.specs.declared.kept.Keep.{Keep}
use Rattle.ccr_turns.proofs.Rows.{last_more}
use Rattle.ccr_base.proofs.Options.{not_some}

module _ {N X : Type 0} where
  pub last_logged : (logged : List (LogEntry N X)) (m : LogEntry N X) → last_of 0 (log_stamps (logged ++ m ∷ [])) ≡ m.stamp
  last_logged logged m = ap (last_of 0) (map-append (λ (d : LogEntry N X). d.stamp) logged (m ∷ [])) ∙ last_more 0 (log_stamps logged) m.stamp

pub last_stamp : {N : Type 0} (es : List (Held N)) (e : Held N) → last_of 0 (history_stamps (es ++ e ∷ [])) ≡ e.stamp
last_stamp es e = ap (last_of 0) (map-append (λ (d : Held _). d.stamp) es (e ∷ [])) ∙ last_more 0 (history_stamps es) e.stamp

module _ {O N X : Type 0} where
  pub turn_of : (number : ℕ) (logged : List (LogEntry N X)) (place : ℕ) (before : List (Held N)) (now : X) (keep : Keep) (m₀ m : Sat O N X) → m₀ ≡ (view (log number logged ∷ []) None, [])
      → HasTurn place m before now keep → m.0.logs ≡ m₀.0.logs → m ≡ (view (log number logged ∷ []) (Some (hold place before now keep)), (place, None) ∷ [])
  turn_of number logged place before now keep m₀ m is turn logs =
      let a : m.0.logs ≡ log number logged ∷ [] = logs ∙ ap (λ (y : Sat O N X). y.0.logs) is in
      turn ∙ (λ d. (view (a d) (Some (hold place before now keep)), (place, None) ∷ []))

  pub after_entry : (number : ℕ) (logged : List (LogEntry N X)) (place : ℕ) (before : List (Held N)) (now : X) (keep : Keep) (e : Held N) (m n : Sat O N X) (c : Cell O N)
      → m ≡ (view (log number logged ∷ []) (Some (hold place before now keep)), (place, None) ∷ []) → past c ≡ before ++ e ∷ [] → Entered place m c n
      → n ≡ (view (log number (logged ++ log_entry place e.stamp e.note now (last_of 0 (history_stamps before)) ∷ []) ∷ []) None, [])
  after_entry number logged place before now keep e m n c is more told =
      let first = told.1 e (hold place before now keep) (ap (λ (y : Sat O N X). y.0.hold) is) more ∙ ap (λ (y : Sat O N X). view (noted y.0.logs (log_entry place e.stamp e.note now (last_of 0 (history_stamps before)))) None) is in
      let second = told.0 in λ d. (first d, second d)

  -- a seat that took a lock
  pub won_lock : (value : O → X) (seen : N → Bool) (slots place x y : ℕ) (m n : Sat O N X) (r : ℕ) → m.1 ≡ [] → r ≡ 0 → won value seen (step slots place x y none) m r n → Won value seen slots place m n
  won_lock value seen slots place x y m n r empty hit told =
      let t = told.0 hit in
      (t.0, t.1 ∙ ap (λ (l : List (ℕ × Option (Cell O N))). (view m.0.logs (Some (hold place (past t.0) (value t.0.object) t.0.keep)), (place, Some t.0) ∷ l)) empty, t.2, t.3, t.4)

  -- an exchange tells whether the lock was free
  pub tried : (value : O → X) (seen : N → Bool) (slots place x y : ℕ) (m n : Sat O N X) (r : ℕ) → m.1 ≡ [] → won value seen (step slots place x y none) m r n → MatchBool (eqb r 0) (Won value seen slots place m n) (n ≡ m)
  tried value seen slots place x y m n r empty told = dite (ℕ_discrete r 0)
      (λ hit. subst (λ b. MatchBool b (Won value seen slots place m n) (n ≡ m)) (sym (eq-eqb r 0 hit)) (won_lock value seen slots place x y m n r empty hit told))
      (λ miss. subst (λ b. MatchBool b (Won value seen slots place m n) (n ≡ m)) (sym (ne_eqb r 0 miss)) (told.1 miss))

  pub ready_again : (m n : Sat O N X) → n ≡ m → Ready m → Ready n
  ready_again m n same ready = subst Ready (sym same) ready

module _ {N X : Type 0} where
  pub one_log : (number : ℕ) (ls : List (Log N X)) → numbers_of ls ≡ number ∷ [] → ls ≡ log number (logged_of ls) ∷ []
  one_log number [] e = absurd (let a = ap length e in omega arith)
  one_log number (l ∷ []) e = let is : l.number ≡ number = cc in λ d. log (is d) l.logged ∷ []
  one_log number (l ∷ k ∷ ls) e = absurd (let a = ap length e in omega arith)

module _ {O N X : Type 0} where
  -- a seat at rest has one log and nothing else
  pub at_rest : (number last : ℕ) (m : Sat O N X) → IsAtRest number last m → m ≡ (view (log number (logged_of m.0.logs) ∷ []) None, [])
  at_rest number last m resting =
      let logs = one_log number m.0.logs resting.2 in
      let free = not_some m.0.hold resting.0 in
      let empty = nil_from_length m.1 resting.1 in
      λ d. (view (logs d) (free d), empty d)

  -- and a seat with that is at rest
  pub rests : (number last : ℕ) (logged : List (LogEntry N X)) (m : Sat O N X) → m ≡ (view (log number logged ∷ []) None, []) → last_of 0 (log_stamps logged) ≡ last → IsAtRest number last m
  rests number last logged m is e =
      (ap (λ (y : Sat O N X). is_some y.0.hold) is, ap (λ (y : Sat O N X). length y.1) is, ap (λ (y : Sat O N X). numbers_of y.0.logs) is, ap (λ (y : Sat O N X). last_of 0 (log_stamps (logged_of y.0.logs))) is ∙ e)

  pub ready : (number last : ℕ) (m : Sat O N X) → IsAtRest number last m → Ready m
  ready number last m resting =
      let is = at_rest number last m resting in
      (ap (λ (y : Sat O N X). y.0.hold) is, ap (λ (y : Sat O N X). y.1) is, subst (λ (ls : List (Log N X)). 0 < length ls) (sym (ap (λ (y : Sat O N X). y.0.logs) is)) (omega arith))
