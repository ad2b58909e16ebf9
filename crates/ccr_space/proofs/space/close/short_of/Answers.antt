use Rattle.std.proofs.Common.{◌∙◌, ◌++◌, ◌∷◌, [], ℕ, List, sym, ap}
use Rattle.std.specs.Prelude.{if◌then◌else◌}
use Rattle.ccr_space.specs.Spaces.{is_stopped_in}
use Rattle.ccr_space.proofs.Resting.{stopped_more}
use Rattle.ccr_space.proofs.space.close.short_of.Goals as goal

pub loop-number-preserved : goal.loop-number-preserved
loop-number-preserved c =
    let n = c.loop-number.number in
    let more : List ℕ = if is_stopped_in c.args.passes.now n then n ∷ [] else [] in
    c.in_ok-add_if.ensures
    ∙ (ap (λ s. c.loop-number.short.items ++ (if s then n ∷ [] else [])) c.is_stopped_in.ensures
    ∙ (ap (λ (l : List ℕ). l ++ more) c.loop-number.invariant ∙ sym (stopped_more c.args.passes.now n)))
