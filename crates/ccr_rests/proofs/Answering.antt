-- One more answer to an attempt: its state, its steps, and that its answers are such as may come.
use Rattle.std.proofs.Common.{◌≡◌, ◌≤◌, ℕ, true, List, [], ◌∷◌, ◌++◌, length, take, drop, Option, Some, None, sym, ap, subst, cond, arith, ◌∙◌, append_assoc, append-nil}
use Rattle.std.proofs.lemmas.Bool.{le-leb}
use Rattle.std.proofs.lemmas.List.{length-append, take-append-le, drop-append-le, take_all, drop_all}
use Rattle.std.proofs.lemmas.Grind.{fold-append}
use Rattle.ccr_base.specs.declared.names.TaskId.{TaskId}
use Rattle.ccr_claim.specs.declared.plan.ClaimPlan.{ClaimPlan}
use Rattle.ccr_claim.specs.Asks.{MaybeReply, may_come}
use Rattle.ccr_claim.specs.Attempts.{AttemptState, begun, sent, after, after_all, out_of_memory, attempt_after}
use Rattle.ccr_claim.specs.Settling.{step_of, steps_from, MayFollow, AreAnswers, AreSplit, short_after, steps}

-- where it lacks memory, it does so within its answers
abbrev pub IsWithin : Option ℕ → List MaybeReply → Type 0
IsWithin None answers = Unit {0}
IsWithin (Some n) answers = n ≤ length answers

steps-more : (state : AttemptState) (answers : List MaybeReply) (answer : MaybeReply) → steps_from state (answers ++ answer ∷ []) ≡ steps_from state answers ++ step_of (after_all state answers) answer
steps-more state [] answer = append-nil (step_of state answer)
steps-more state (first ∷ answers) answer =
    ap (λ more. step_of state first ++ more) (steps-more (after state first) answers answer)
    ∙ sym (append_assoc (step_of state first) (steps_from (after state first) answers) (step_of (after_all (after state first) answers) answer))

all-more : (state : AttemptState) (answers : List MaybeReply) (answer : MaybeReply) → after_all state (answers ++ answer ∷ []) ≡ after (after_all state answers) answer
all-more state answers answer = fold-append after state answers (answer ∷ [])

follow-more : (state : AttemptState) (answers : List MaybeReply) (answer : MaybeReply) → MayFollow state answers → may_come (sent (after_all state answers)).due answer ≡ true → MayFollow state (answers ++ answer ∷ [])
follow-more state [] answer may now = (now, tt)
follow-more state (first ∷ answers) answer may now = (may.0, follow-more (after state first) answers answer may.1 now)

module _ (plan : ClaimPlan) (task : TaskId) where
  longer : (n : ℕ) (answers : List MaybeReply) (answer : MaybeReply) → n ≤ length answers → n ≤ length (answers ++ answer ∷ [])
  longer n answers answer within = let same = length-append answers (answer ∷ []) in omega (arith, within, same)

  -- ---- where it lacks memory after so many answers

  lacking-state : (n : ℕ) (answers : List MaybeReply) → n ≤ length answers → attempt_after plan task (Some n) answers ≡ after_all (short_after plan task n answers) (drop n answers)
  lacking-state n answers within = ap (λ b. cond b (after_all (short_after plan task n answers) (drop n answers)) (after_all (begun plan task) answers)) (le-leb n (length answers) within)

  lacking-steps : (n : ℕ) (answers : List MaybeReply) → n ≤ length answers → steps plan task (Some n) answers ≡ steps_from (begun plan task) (take n answers) ++ steps_from (short_after plan task n answers) (drop n answers)
  lacking-steps n answers within = ap (λ b. cond b (steps_from (begun plan task) (take n answers) ++ steps_from (short_after plan task n answers) (drop n answers)) (steps_from (begun plan task) answers)) (le-leb n (length answers) within)

  short-more : (n : ℕ) (answers : List MaybeReply) (answer : MaybeReply) → n ≤ length answers → short_after plan task n (answers ++ answer ∷ []) ≡ short_after plan task n answers
  short-more n answers answer within = ap (λ front. out_of_memory (after_all (begun plan task) front)) (take-append-le n answers (answer ∷ []) within)

  -- ---- one more answer

  pub state_more : (lack : Option ℕ) (answers : List MaybeReply) (answer : MaybeReply) → IsWithin lack answers → attempt_after plan task lack (answers ++ answer ∷ []) ≡ after (attempt_after plan task lack answers) answer
  state_more None answers answer within = all-more (begun plan task) answers answer
  state_more (Some n) answers answer within =
      lacking-state n (answers ++ answer ∷ []) (longer n answers answer within)
      ∙ (ap (λ from. after_all from (drop n (answers ++ answer ∷ []))) (short-more n answers answer within)
      ∙ (ap (λ back. after_all (short_after plan task n answers) back) (drop-append-le n answers (answer ∷ []) within)
      ∙ (all-more (short_after plan task n answers) (drop n answers) answer
      ∙ ap (λ state. after state answer) (sym (lacking-state n answers within)))))

  pub steps_more : (lack : Option ℕ) (answers : List MaybeReply) (answer : MaybeReply) → IsWithin lack answers → steps plan task lack (answers ++ answer ∷ []) ≡ steps plan task lack answers ++ step_of (attempt_after plan task lack answers) answer
  steps_more None answers answer within = steps-more (begun plan task) answers answer
  steps_more (Some n) answers answer within =
      lacking-steps n (answers ++ answer ∷ []) (longer n answers answer within)
      ∙ (ap (λ front. steps_from (begun plan task) front ++ steps_from (short_after plan task n (answers ++ answer ∷ [])) (drop n (answers ++ answer ∷ []))) (take-append-le n answers (answer ∷ []) within)
      ∙ (ap (λ from. steps_from (begun plan task) (take n answers) ++ steps_from from (drop n (answers ++ answer ∷ []))) (short-more n answers answer within)
      ∙ (ap (λ back. steps_from (begun plan task) (take n answers) ++ steps_from (short_after plan task n answers) back) (drop-append-le n answers (answer ∷ []) within)
      ∙ (ap (λ more. steps_from (begun plan task) (take n answers) ++ more) (steps-more (short_after plan task n answers) (drop n answers) answer)
      ∙ (sym (append_assoc (steps_from (begun plan task) (take n answers)) (steps_from (short_after plan task n answers) (drop n answers)) (step_of (after_all (short_after plan task n answers) (drop n answers)) answer))
      ∙ (ap (λ front. front ++ step_of (after_all (short_after plan task n answers) (drop n answers)) answer) (sym (lacking-steps n answers within))
      ∙ ap (λ state. steps plan task (Some n) answers ++ step_of state answer) (sym (lacking-state n answers within))))))))

  pub may_more : (lack : Option ℕ) (answers : List MaybeReply) (answer : MaybeReply) → IsWithin lack answers → AreAnswers plan task lack answers → may_come (sent (attempt_after plan task lack answers)).due answer ≡ true → AreAnswers plan task lack (answers ++ answer ∷ [])
  may_more None answers answer within may now = follow-more (begun plan task) answers answer may now
  may_more (Some n) answers answer within may now =
      let parts : AreSplit true plan task n answers = subst (λ b. AreSplit b plan task n answers) (le-leb n (length answers) within) may in
      let last : may_come (sent (after_all (short_after plan task n answers) (drop n answers))).due answer ≡ true = subst (λ (s : AttemptState). may_come (sent s).due answer ≡ true) (lacking-state n answers within) now in
      let back : MayFollow (short_after plan task n answers) (drop n answers ++ answer ∷ []) = follow-more (short_after plan task n answers) (drop n answers) answer parts.1 last in
      let front : MayFollow (begun plan task) (take n (answers ++ answer ∷ [])) = subst (MayFollow (begun plan task)) (sym (take-append-le n answers (answer ∷ []) within)) parts.0 in
      let behind : MayFollow (short_after plan task n (answers ++ answer ∷ [])) (drop n (answers ++ answer ∷ [])) =
      subst (λ (s : AttemptState). MayFollow s (drop n (answers ++ answer ∷ []))) (sym (short-more n answers answer within)) (subst (MayFollow (short_after plan task n answers)) (sym (drop-append-le n answers (answer ∷ []) within)) back) in
      subst (λ b. AreSplit b plan task n (answers ++ answer ∷ [])) (sym (le-leb n (length (answers ++ answer ∷ [])) (longer n answers answer within))) (front, behind)

  -- ---- running out of memory now

  all-taken : (answers : List MaybeReply) → take (length answers) answers ≡ answers
  all-taken answers = take_all (length answers) answers (omega arith)

  none-dropped : (answers : List MaybeReply) → drop (length answers) answers ≡ []
  none-dropped answers = drop_all (length answers) answers (omega arith)

  short-now : (answers : List MaybeReply) → short_after plan task (length answers) answers ≡ out_of_memory (after_all (begun plan task) answers)
  short-now answers = ap (λ front. out_of_memory (after_all (begun plan task) front)) (all-taken answers)

  pub state_lacking : (answers : List MaybeReply) → attempt_after plan task (Some (length answers)) answers ≡ out_of_memory (attempt_after plan task None answers)
  state_lacking answers =
      lacking-state (length answers) answers (omega arith)
      ∙ (ap (λ back. after_all (short_after plan task (length answers) answers) back) (none-dropped answers)
      ∙ short-now answers)

  pub steps_lacking : (answers : List MaybeReply) → steps plan task (Some (length answers)) answers ≡ steps plan task None answers
  steps_lacking answers =
      lacking-steps (length answers) answers (omega arith)
      ∙ (ap (λ back. steps_from (begun plan task) (take (length answers) answers) ++ steps_from (short_after plan task (length answers) answers) back) (none-dropped answers)
      ∙ (append-nil (steps_from (begun plan task) (take (length answers) answers))
      ∙ ap (steps_from (begun plan task)) (all-taken answers)))

  pub may_lacking : (answers : List MaybeReply) → AreAnswers plan task None answers → AreAnswers plan task (Some (length answers)) answers
  may_lacking answers may =
      subst (λ b. AreSplit b plan task (length answers) answers) (sym (le-leb (length answers) (length answers) (omega arith)))
      (subst (MayFollow (begun plan task)) (sym (all-taken answers)) may, subst (MayFollow (short_after plan task (length answers) answers)) (sym (none-dropped answers)) tt)
