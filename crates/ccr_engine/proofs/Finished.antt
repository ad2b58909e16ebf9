-- The one-thread order ends, at one history.
use Rattle.std.proofs.Common.{◌≡◌, ℕ, zero, suc, ◌<◌, ◌≤◌, true, List, [], ◌∷◌, ◌++◌, length, Option, Some, None, refl, sym, arith, ap, ◌∙◌, subst, append_assoc, append-nil}
use Rattle.std.specs.Prelude.{IfSome}
use Rattle.ccr_wiring.specs.declared.parts.Parts.{Parts}
use Rattle.ccr_wiring.specs.Openness.{is_closed}
use Rattle.ccr_model.specs.declared.history.Event.{Event}
use Rattle.ccr_model.specs.Legal.{IsLegal}
use Rattle.ccr_model.specs.Order.{first, IsOrderedAfter, IsFinished}
use Rattle.ccr_laws.specs.Potential.{TakesSome, potential}
use Rattle.ccr_engine.proofs.Runs.{IsLegal-first, potential-push}

if_some : (P : Event → Type 0) (o : Option Event) → ((e : Event) → o ≡ Some e → P e) → IfSome o P
if_some P None each = tt
if_some P (Some e) each = each e refl

-- after each event that one thread puts first fewer events are to come
pub nearer-first : (w : Parts) (c : ℕ) (h : List Event) → TakesSome w → is_closed w ≡ true → length w.posters ≤ c → c ≤ 32 → IsLegal w h → IfSome (first w c h) (λ e. potential w (h ++ e ∷ []) < potential w h)
nearer-first w c h some closed high low legal = if_some (λ e. potential w (h ++ e ∷ []) < potential w h) (first w c h) (λ e is. potential-push w some closed h e (IsLegal-first w c h e high low legal is))

-- one event more at the head of a finished run
later_finished : (w : Parts) (c : ℕ) (h f : List Event) (e : Event) → first w c h ≡ Some e → IsFinished w c (h ++ e ∷ []) f → IsFinished w c h f
later_finished w c h f e is finished = record { more = e ∷ finished.more; begins = finished.begins ∙ append_assoc h (e ∷ []) finished.more; ordered = (is, finished.ordered); ended = finished.ended }

finished_within : (w : Parts) (c : ℕ) → TakesSome w → is_closed w ≡ true → length w.posters ≤ c → c ≤ 32 → (n : ℕ) (h : List Event) → potential w h < n → IsLegal w h → (f : List Event) × IsFinished w c h f
finished_within w c some closed high low zero h few legal = absurd (omega arith)
finished_within w c some closed high low (suc n) h few legal = of_option (first w c h) refl (λ e less next. finished_within w c some closed high low n (h ++ e ∷ []) less next)
  where
    of_option : (o : Option Event) → first w c h ≡ o → ((e : Event) → potential w (h ++ e ∷ []) < n → IsLegal w (h ++ e ∷ []) → (f : List Event) × IsFinished w c (h ++ e ∷ []) f) → (f : List Event) × IsFinished w c h f
    of_option None is rest = (h, record { more = []; begins = sym (append-nil h); ordered = tt; ended = is })
    of_option (Some e) is rest =
        let next = IsLegal-first w c h e high low legal is in
        let less = potential-push w some closed h e next in
        let found = rest e (omega (arith, few, less)) next in
        (found.0, later_finished w c h found.0 e is found.1)

-- the one-thread order ends from each legal history
pub some_finished : (w : Parts) (c : ℕ) (h : List Event) → TakesSome w → is_closed w ≡ true → length w.posters ≤ c → c ≤ 32 → IsLegal w h → (f : List Event) × IsFinished w c h f
some_finished w c h some closed high low legal = finished_within w c some closed high low (suc (potential w h)) h (omega arith) legal

-- two runs from one history that end are one
same_runs : (w : Parts) (c : ℕ) (past one other : List Event) → IsOrderedAfter w c past one → IsOrderedAfter w c past other → first w c (past ++ one) ≡ None → first w c (past ++ other) ≡ None → one ≡ other
same_runs w c past [] [] ordered ordered' ended ended' = refl
same_runs w c past [] (y ∷ other) ordered ordered' ended ended' = let none : first w c past ≡ None = subst (λ h. first w c h ≡ None) (append-nil past) ended in let some = ordered'.0 in absurd (cc)
same_runs w c past (x ∷ one) [] ordered ordered' ended ended' = let none : first w c past ≡ None = subst (λ h. first w c h ≡ None) (append-nil past) ended' in let some = ordered.0 in absurd (cc)
same_runs w c past (x ∷ one) (y ∷ other) ordered ordered' ended ended' =
    let here = ordered.0 in
    let there = ordered'.0 in
    let same : y ≡ x = cc in
    let rest' : IsOrderedAfter w c (past ++ x ∷ []) other = subst (λ z. IsOrderedAfter w c (past ++ z ∷ []) other) same ordered'.1 in
    let end : first w c ((past ++ x ∷ []) ++ one) ≡ None = rw (append_assoc past (x ∷ []) one) ended in
    let end' : first w c ((past ++ x ∷ []) ++ other) ≡ None = rw (append_assoc past (x ∷ []) other) (subst (λ z. first w c (past ++ z ∷ other) ≡ None) same ended') in
    let rest = same_runs w c (past ++ x ∷ []) one other ordered.1 rest' end end' in
    rw (same, rest) refl

-- it ends at one history alone
pub one_finished : (w : Parts) (c : ℕ) (h one other : List Event) → IsFinished w c h one → IsFinished w c h other → one ≡ other
one_finished w c h one other a b =
    let ended_a : first w c (h ++ a.more) ≡ None = subst (λ g. first w c g ≡ None) a.begins a.ended in
    let ended_b : first w c (h ++ b.more) ≡ None = subst (λ g. first w c g ≡ None) b.begins b.ended in
    a.begins ∙ (ap (λ more. h ++ more) (same_runs w c h a.more b.more a.ordered b.ordered ended_a ended_b) ∙ sym b.begins)

-- each run in the order from a legal history is legal
legal_run : (w : Parts) (c : ℕ) (past more : List Event) → length w.posters ≤ c → c ≤ 32 → IsLegal w past → IsOrderedAfter w c past more → IsLegal w (past ++ more)
legal_run w c past [] high low legal ordered = rw (append-nil past) legal
legal_run w c past (e ∷ more) high low legal ordered = subst (IsLegal w) (append_assoc past (e ∷ []) more) (legal_run w c (past ++ e ∷ []) more high low (IsLegal-first w c past e high low legal ordered.0) ordered.1)

-- what it ends at is legal
pub IsLegal-finished : (w : Parts) (c : ℕ) (h f : List Event) → length w.posters ≤ c → c ≤ 32 → IsLegal w h → IsFinished w c h f → IsLegal w f
IsLegal-finished w c h f high low legal finished = rw finished.begins (legal_run w c h finished.more high low legal finished.ordered)
