-- The scripts of a generated wiring, post by post.
use Rattle.std.proofs.Common.{◌≡◌, ℕ, suc, ◌+◌, ◌<◌, Bool, true, false, cond, List, [], ◌∷◌, ◌++◌, map, filter, refl, ap, ◌∙◌, arith, zero}
use Rattle.std.specs.Prelude.{◌==◌, ◌%◌}
use Rattle.std.specs.List.{range_with_len}
use Rattle.std.proofs.lemmas.List.{map-append}
use Rattle.std.proofs.lemmas.List.Elements.{filter-append}
use Rattle.ccr_base.specs.declared.messages.Sent.{Sent}
use Rattle.ccr_gen.specs.Posters.{sent, script}
use Rattle.ccr_gen.specs.Lines.{lines}
use Rattle.ccr_base.proofs.Lists.{range_more}

sent_or_none : (b : Bool) (k : ℕ) → map sent (cond b (k ∷ []) []) ≡ cond b (sent k ∷ []) []
sent_or_none true k = refl
sent_or_none false k = refl

pub script_more : (size number : ℕ) → script (size + 1) number ≡ script size number ++ cond (size % 4 == number) (sent size ∷ []) []
script_more size number =
    let on : size + 1 ≡ suc size = omega arith in
    let keep : ℕ → Bool = λ k. k % 4 == number in
    ap (λ n. script n number) on
    ∙ ap (λ ks. map sent (filter keep ks)) (range_more 0 size size (omega arith))
    ∙ ap (map sent) (filter-append keep (range_with_len 0 size) (size ∷ []))
    ∙ map-append sent (filter keep (range_with_len 0 size)) (cond (size % 4 == number) (size ∷ []) [])
    ∙ ap (λ back. script size number ++ back) (sent_or_none (size % 4 == number) size)

-- ---- what the lines weigh

lines-append : (weight : ℕ → ℕ) (xs ys : List Sent) → lines weight (xs ++ ys) ≡ lines weight xs + lines weight ys
lines-append weight [] ys = omega arith
lines-append weight (x ∷ xs) ys = omega (arith, lines-append weight xs ys)

pub script_lines : (weight : ℕ → ℕ) (size number : ℕ) → lines weight (script (size + 1) number) ≡ lines weight (script size number) + lines weight (cond (size % 4 == number) (sent size ∷ []) [])
script_lines weight size number = ap (lines weight) (script_more size number) ∙ lines-append weight (script size number) (cond (size % 4 == number) (sent size ∷ []) [])

pub one_of_four : (weight : ℕ → ℕ) (k : ℕ) → lines weight (cond (k % 4 == 0) (sent k ∷ []) []) + lines weight (cond (k % 4 == 1) (sent k ∷ []) []) + lines weight (cond (k % 4 == 2) (sent k ∷ []) []) + lines weight (cond (k % 4 == 3) (sent k ∷ []) []) ≡ weight (k % 3)
one_of_four weight k = by (k % 4) (grind arith)
  where
    by : (r : ℕ) → r < 4 → lines weight (cond (r == 0) (sent k ∷ []) []) + lines weight (cond (r == 1) (sent k ∷ []) []) + lines weight (cond (r == 2) (sent k ∷ []) []) + lines weight (cond (r == 3) (sent k ∷ []) []) ≡ weight (k % 3)
    by zero lt = omega arith
    by (suc zero) lt = omega arith
    by (suc (suc zero)) lt = omega arith
    by (suc (suc (suc zero))) lt = omega arith
    by (suc (suc (suc (suc r)))) lt = absurd (omega arith)
