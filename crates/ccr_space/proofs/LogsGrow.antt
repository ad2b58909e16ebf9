-- How many entries the log of a pass has more.
use Rattle.std.proofs.Common.{◌≡◌, ◌∙◌, ℕ, ◌+◌, Bool, true, false, [], ◌∷◌, ◌++◌, length, min, inl, inr, sym, ap, arith, append_assoc}
use Rattle.std.specs.Prelude.{◌⊎◌}
use Rattle.std.proofs.lemmas.Bool.Decides.{nat_tests}
use Rattle.std.proofs.lemmas.List.{length-append}
use Rattle.ccr_actor.specs.Nets.{counted}
use Rattle.ccr_space.specs.declared.space.step.Step.{Step as Came}
use Rattle.ccr_space.specs.declared.space.step.Step.TheVariants.{Made, Unmet}
use Rattle.ccr_space.specs.Spaces.{Pass, IsLonger, IsMore, log}

-- one more, up to the last number of 64 bits
counted_more : (n : ℕ) → min (counted n + 1) 18446744073709551615 ≡ counted (n + 1)
counted_more n = grind (arith, nat_tests)

longer_more : (old mid new : Pass) (n m : ℕ) (noted : Bool) → IsLonger old mid n → IsMore noted mid new → m ≡ min (n + 1) 18446744073709551615 → IsLonger old new m
longer_more old mid new n m noted longer more is =
    let one : length (longer.0 ++ more.0 ∷ []) ≡ length longer.0 + 1 = length-append longer.0 (more.0 ∷ []) in
    (longer.0 ++ more.0 ∷ [], (more.1.0 ∙ (ap (λ logged. logged ++ more.0 ∷ []) longer.1.0 ∙ append_assoc (log old) longer.0 (more.0 ∷ [])), is ∙ (ap (λ k. min (k + 1) 18446744073709551615) longer.1.1 ∙ (counted_more (length longer.0) ∙ ap counted (sym one)))))

-- a step with an entry
pub step_more : (old mid new : Pass) (n m : ℕ) (step : Came) → IsLonger old mid n → (step ≡ Made) ⊎ (step ≡ Unmet) → (step ≡ Made → IsMore true mid new) → (step ≡ Unmet → IsMore false mid new × (new.stopped ≡ true)) → m ≡ min (n + 1) 18446744073709551615 → IsLonger old new m
step_more old mid new n m step longer (inl made) noted unmet is = longer_more old mid new n m true longer (noted made) is
step_more old mid new n m step longer (inr not) noted unmet is = longer_more old mid new n m false longer (unmet not).0 is
