use Rattle.std.proofs.Common.{◌≡◌, ◌≢◌, ℕ, ◌<◌, get_or, arith}
use Rattle.std.proofs.lemmas.Bool.Decides.{nat_tests}
use Rattle.std.proofs.lemmas.Grind.{common_steps}
use Rattle.ccr_text.proofs.Parts.{part_at, part_whole}
use Rattle.ccr_trace.proofs.pieces.split_piece.Goals as goal

pub returns-in-Some-clause-parts : goal.returns-in-Some-clause-parts
returns-in-Some-clause-parts c =
    let none : (k : ℕ) → k < c.in-Some.index → get_or c.args.bytes.now k 0 ≢ c.args.separator = λ k below same. c.in-Some.ensures.0.before k (omega arith) below (grind (arith, nat_tests, same)) in
    let here : get_or c.args.bytes.now c.in-Some.index 0 ≡ c.args.separator = grind (arith, nat_tests, c.in-Some.ensures.1) in
    grind (arith, common_steps, part_at c.args.separator c.args.bytes.now c.in-Some.index none c.in-Some.ensures.0.high here)

pub returns-in-None-clause-last : goal.returns-in-None-clause-last
returns-in-None-clause-last c = part_whole c.args.separator c.args.bytes.now (λ k below same. c.in-None.ensures k (omega arith) below (grind (arith, nat_tests, same)))
