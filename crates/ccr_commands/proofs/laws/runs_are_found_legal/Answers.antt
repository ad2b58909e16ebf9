use Rattle.std.proofs.Common.{true, sym, subst}
use Rattle.ccr_commands.specs.declared.findings.Finding.TheVariants.{Legal}
use Rattle.ccr_commands.specs.Findings.{IsFound}
use Rattle.ccr_commands.proofs.FoundLegal.{text_is_found, written_is_due}
use Rattle.ccr_commands.proofs.KnownEvents.{legal_are_known, legal_have_messages}
use Rattle.ccr_commands.proofs.laws.runs_are_found_legal.Goals as goal

pub returns : goal.returns
returns c = λ wiring workers turns shed text before valid run.
    let known = legal_are_known wiring valid run.history run.run.legal run.run.small in
    let some = legal_have_messages wiring valid run.history run.run.legal in
    subst (λ t. IsFound wiring before t (Legal true true)) (sym (written_is_due wiring run.history shed text run.run.sheds run.written))
    (text_is_found wiring run.history before (λ more. c.what_is_written_is_read.ensures wiring run.history more valid known some run.run.short) run.run.legal run.run.complete run.run.quiet)
