use Rattle.std.proofs.Common.{◌≡◌, Err, subst, arith}
use Rattle.ccr_trace.specs.declared.refused.HistoryRefused.{HistoryRefused}
use Rattle.ccr_trace.specs.Answers.{IsReading}
use Rattle.ccr_trace.specs.Reading.{reading}
use Rattle.ccr_commands.proofs.Bounds.{refusal_within}
use Rattle.ccr_commands.proofs.judging.finding_of.Goals as goal

pub overflow_add-result : goal.overflow_add-result
overflow_add-result c =
    let is : reading c.args.wiring.now c.args.output.now ≡ Err (c.in-Err-At.line, c.in-Err-At.code) = subst (λ (refused : HistoryRefused). IsReading (Err refused) (reading c.args.wiring.now c.args.output.now)) c.in-Err-At.field-0-is c.in-Err-At.ensures.refused in
    omega (arith, refusal_within c.args.wiring.now c.args.output.now c.in-Err-At.line c.in-Err-At.code is, c.requires.length, c.requires.before)
