use Rattle.std.proofs.Common.{◌≡◌, ◌∙◌, ℕ, List, length, ap, subst}
use Rattle.ccr_wiring.specs.declared.parts.Parts.{Parts}
use Rattle.ccr_wiring.specs.declared.parts.QueuePart.{QueuePart}
use Rattle.ccr_telling.specs.Tallies.{AreTallies, all_indices}
use Rattle.ccr_telling.proofs.Heard.{counting_of}
use Rattle.ccr_telling.proofs.CountsTold.{few_cuts, few_taken}
use Rattle.ccr_telling.proofs.tally.Tally.of.Goals as goal

pub tally_of-requires-clause-taken : goal.tally_of-requires-clause-taken
tally_of-requires-clause-taken c = few_taken c.args.wiring.now c.parts-parts.ensures.valid c.args.events.now c.requires.legal

pub tally_of-requires-clause-cut : goal.tally_of-requires-clause-cut
tally_of-requires-clause-cut c = few_cuts c.args.wiring.now c.args.events.now c.requires.legal

pub returns : goal.returns
returns c =
    let w = c.args.wiring.now in
    let b = c.args.ledger.now in
    let t = c.in_ok-tally.tally in
    let ports : c.as_slice-ports.result.now ≡ w.ports = c.as_slice-ports.ensures ∙ ap (λ (p : Parts). p.ports) c.parts-parts.ensures.parts in
    let queues : c.as_slice-queues.result.now ≡ w.queues = c.as_slice-queues.ensures ∙ ap (λ (p : Parts). p.queues) c.parts-parts.ensures.parts in
    let of_ports = subst (λ (ps : List (List ℕ)). AreTallies (length ps) all_indices (length c.as_slice-queues.result.now) b c.args.events.now t) ports c.in_ok-tally.ensures.counted in
    let so = subst (λ (qs : List QueuePart). AreTallies (length w.ports) all_indices (length qs) b c.args.events.now t) queues of_ports in
    counting_of w c.args.events.now b t c.requires.legal c.requires.tables so c.in_ok-tally.ensures.few
