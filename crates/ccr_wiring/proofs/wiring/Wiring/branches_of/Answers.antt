use Rattle.std.proofs.Common.{[], length, ap, ◌∙◌}
use Rattle.std.specs.Prelude.{filter, unwrap_or}
use Rattle.std.specs.List.{slice_get}
use Rattle.ccr_wiring.specs.Takers.{is_for, branches_of}
use Rattle.ccr_wiring.proofs.Untaken.{listed_at, unqueued}
use Rattle.ccr_wiring.proofs.wiring.Wiring.branches_of.Goals as goal

pub returns : goal.returns
returns c =
    let parts = c.self.inside.known.value.parts in
    let queue = c.args.queue in
    let kept = c.self.invariant in
    let spots = ap (filter (is_for parts queue)) kept.1 in
    record { branches = c.list_of.ensures ∙ (ap (λ lists. unwrap_or (slice_get lists queue) []) c.deref-2.ensures.value ∙ (ap (λ known. unwrap_or (slice_get known.takers.queues.items queue) []) c.deref.ensures ∙ (listed_at (is_for parts) (length parts.queues) c.self.inside.known.value.spots.items c.self.inside.known.value.takers.queues.items queue kept.3.by_queue (λ past. spots ∙ unqueued parts queue kept.0 past) ∙ (spots ∙ ap (λ w. branches_of w queue) c.self.view_is)))) }
