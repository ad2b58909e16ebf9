use Rattle.std.proofs.Common.{◌≡◌, [], List, ◌⊎◌, sym, subst, true, None}
use Rattle.std.specs.Prelude.{◌==◌}
use Rattle.std.specs.List.{list_any}
use Rattle.ccr_model.specs.Legal.{IsLegal, is_covered}
use Rattle.ccr_actor.specs.Actors.{next}
use Rattle.ccr_runs.specs.declared.entries.Entry.{Entry}
use Rattle.ccr_runs.specs.EntryRuns.{IsRun, IsRunAfter, never}
use Rattle.ccr_space.specs.Closes.{IsAtEnd}
use Rattle.ccr_opening.proofs.threads.run_threads_in_full.Goals as goal

pub returns-clause-run : goal.returns-clause-run
returns-clause-run g c =
    let w = c.args.wiring.now in
    let done = c.in_ok-closed.ensures.done in
    subst (λ (es : List Entry). IsRunAfter w c.args.workers never [] es) (sym done.entries_are) (c.played_runs_are_runs.ensures.run w c.args.workers never done.acts c.parts-valid.ensures.valid c.requires.closed c.requires.workers done.played)

pub returns-clause-rest : goal.returns-clause-rest
returns-clause-rest g c = λ actor low.
    let w = c.args.wiring.now in
    let short = c.in_ok-closed.closed.short in
    let done = c.in_ok-closed.ensures.done in
    let same = c.played_runs_are_runs.ensures.replies w c.args.workers never done.acts c.parts-valid.ensures.valid c.requires.closed c.requires.workers done.played actor in
    subst (λ (es : List Entry). IsAtEnd w es short actor) (sym done.entries_are)
    (subst (λ given. (list_any (λ n. n == actor) short ≡ true) ⊎ (next w actor None given ≡ None)) same (done.through actor low))

pub returns-clause-legal : goal.returns-clause-legal
returns-clause-legal g c =
    let w = c.args.wiring.now in
    let its = c.in_ok-closed.ensures in
    let done = its.done in
    let entries = c.in_ok-closed.closed.full.entries in
    let run : IsRun w c.args.workers entries = record { lacks = never; steps = subst (λ (es : List Entry). IsRunAfter w c.args.workers never [] es) (sym done.entries_are) (c.played_runs_are_runs.ensures.run w c.args.workers never done.acts c.parts-valid.ensures.valid c.requires.closed c.requires.workers done.played) } in
    subst (IsLegal w) (sym its.history) (c.visible_runs_are_legal_and_covered.ensures.legal w c.args.workers entries c.parts-valid.ensures.valid c.requires.workers run)

pub returns-clause-covered : goal.returns-clause-covered
returns-clause-covered g c =
    let w = c.args.wiring.now in
    let its = c.in_ok-closed.ensures in
    let done = its.done in
    let entries = c.in_ok-closed.closed.full.entries in
    let run : IsRun w c.args.workers entries = record { lacks = never; steps = subst (λ (es : List Entry). IsRunAfter w c.args.workers never [] es) (sym done.entries_are) (c.played_runs_are_runs.ensures.run w c.args.workers never done.acts c.parts-valid.ensures.valid c.requires.closed c.requires.workers done.played) } in
    subst (λ h. is_covered w h ≡ true) (sym its.history) (c.visible_runs_are_legal_and_covered.ensures.covered w c.args.workers entries c.parts-valid.ensures.valid c.requires.workers run)
