use Rattle.std.proofs.Common.{◌∙◌, sym, ap, subst, length, List}
use Rattle.std.specs.Prelude.{All}
use Rattle.ccr_space.specs.Spaces.{IsAtRest, IsPassOf, number}
use Rattle.ccr_space.proofs.Dealing.{length_by_number}
use Rattle.ccr_space.proofs.space.threads.rested_space.Goals as goal

pub returns-clause-rested : goal.returns-clause-rested
returns-clause-rested g c =
    let made = c.in_ok-space.ensures in
    let passes = c.from_vec.ensures in
    record {
      has_places = made.space;
      serves = made.wiring;
      count_is = made.count;
      all = ap length passes ∙ (c.in_ok-passes.ensures.len ∙ (ap length c.into_vec.ensures ∙ (length_by_number number _ _ made.numbers ∙ sym made.count)));
      passes_are = subst (λ (l : List _). All (λ pass. IsPassOf c.in_ok-space.space pass) l) (sym passes) c.in_ok-passes.ensures.passes;
      resting = subst (λ (l : List _). All (λ pass. IsAtRest pass) l) (sym passes) c.in_ok-passes.ensures.rest;
    }
