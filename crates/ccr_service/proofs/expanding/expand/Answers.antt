use Rattle.std.proofs.Common.{◌≡◌, None, Some, subst, ap, ◌∙◌}
use Rattle.ccr_wiring.specs.Answers.{IsCause}
use Rattle.ccr_wiring.specs.Codes.{code_of}
use Rattle.ccr_service.specs.Expansion.{expansion}
use Rattle.ccr_service.proofs.Fitting.{valid}
use Rattle.ccr_service.proofs.expanding.expand.Goals as goal

pub unreachable-requires : goal.unreachable-requires
unreachable-requires c =
    let none : code_of c.in_ok-parts.field-0 ≡ None = ap code_of c.in_ok-parts.ensures ∙ ap (λ s. code_of (expansion s)) c.parts.ensures.parts ∙ valid c.args.service.now c.parts.ensures.service in
    let code : code_of c.in_ok-parts.field-0 ≡ Some c.in-Err-Code.field-0-0 = subst (IsCause c.in_ok-parts.field-0) c.in-Err-Code.field-0-is c.in-Err-Code.ensures.cause in
    absurd cc
