use Rattle.std.proofs.Common.{◌≡◌, ℕ, List, sym, ap, ◌∙◌, subst}
use Rattle.std.specs.Prelude.{IfSome}
use Rattle.ccr_runs.specs.declared.entries.Entry.{Entry}
use Rattle.ccr_replay.specs.Schedules.{schedule, IsOfNextSteps}
use Rattle.ccr_commands.proofs.TurnsToRest.{turns_rest}
use Rattle.ccr_commands.proofs.recording.threaded_turns.Goals as goal

pub returns : goal.returns
returns g c =
    let w = c.args.wiring.now in
    let closed = c.in_ok-closed.closed in
    let its = c.in_ok-closed.ensures in
    let full = c.in_ok-full.full in
    let full_is : full.entries ≡ closed.full.entries = ap (λ f. f.entries) c.in_ok-full.ensures.entries in
    let are : c.in-Some.turns ≡ schedule full.entries = subst (λ found. IfSome found (λ (turns : List ℕ). turns ≡ schedule full.entries)) c.in-Some.is c.in_ok-turns.ensures.schedule in
    let next : IsOfNextSteps w c.args.workers full.entries = subst (λ (found : _). IfSome found (λ (turns : List ℕ). IsOfNextSteps w c.args.workers full.entries)) c.in-Some.is c.in_ok-turns.ensures.some in
    turns_rest w c.args.workers closed.full.entries closed.short c.in-Some.turns c.requires.some (sym c.in_ok-full.ensures.short) its.run its.rest its.threads
    (are ∙ ap schedule full_is)
    (c.schedules_give_runs_again.ensures.again w c.args.workers closed.full.entries (subst (λ (es : List Entry). IsOfNextSteps w c.args.workers es) full_is next))
