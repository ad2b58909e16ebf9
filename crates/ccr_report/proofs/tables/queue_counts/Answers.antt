use Rattle.std.proofs.Common.{◌∙◌, ap, List, filter, length}
use Rattle.std.specs.HashMap.{get}
use Rattle.ccr_base.specs.declared.names.TaskId.{TaskId}
use Rattle.ccr_base.specs.Names.{same_task}
use Rattle.ccr_model.specs.Tasks.{is_for_queue}
use Rattle.ccr_report.proofs.Tallies.{times-queue}
use Rattle.ccr_report.proofs.tables.queue_counts.Goals as goal

pub returns-clause-put : goal.returns-clause-put
returns-clause-put c = λ k below.
    c.in_ok-queue_tally.ensures.counts k below
    ∙ times-queue c.args.parts.now c.args.events.now k (λ task. get same_task c.in_ok-spots.spots task) c.in_ok-spots.ensures _
    ∙ ap (λ (tasks : List TaskId). length (filter (is_for_queue c.args.parts.now c.args.events.now k) tasks)) (c.deref.ensures.value ∙ c.in_ok-put.ensures)

pub returns-clause-dropped : goal.returns-clause-dropped
returns-clause-dropped c = λ k below.
    c.in_ok-queue_tally-2.ensures.counts k below
    ∙ times-queue c.args.parts.now c.args.events.now k (λ task. get same_task c.in_ok-spots.spots task) c.in_ok-spots.ensures _
    ∙ ap (λ (tasks : List TaskId). length (filter (is_for_queue c.args.parts.now c.args.events.now k) tasks)) (c.deref-2.ensures.value ∙ c.in_ok-dropped.ensures)
