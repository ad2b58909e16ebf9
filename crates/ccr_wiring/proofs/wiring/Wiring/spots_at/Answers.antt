use Rattle.std.proofs.Common.{[], length, ap, ◌∙◌}
use Rattle.std.specs.Prelude.{filter, unwrap_or}
use Rattle.std.specs.List.{slice_get}
use Rattle.ccr_wiring.specs.Takers.{takes_from, spots_at}
use Rattle.ccr_wiring.proofs.Untaken.{listed_at, untaken}
use Rattle.ccr_wiring.proofs.wiring.Wiring.spots_at.Goals as goal

pub returns : goal.returns
returns c =
    let parts = c.self.inside.known.value.parts in
    let port = c.args.port in
    let kept = c.self.invariant in
    let spots = ap (filter (takes_from parts port)) kept.1 in
    record { spots = c.list_of.ensures ∙ (ap (λ lists. unwrap_or (slice_get lists port) []) c.deref-2.ensures.value ∙ (ap (λ known. unwrap_or (slice_get known.takers.ports.items port) []) c.deref.ensures ∙ (listed_at (takes_from parts) (length parts.ports) c.self.inside.known.value.spots.items c.self.inside.known.value.takers.ports.items port kept.3.by_port (λ past. spots ∙ untaken parts port kept.0 past) ∙ (spots ∙ ap (λ w. spots_at w port) c.self.view_is)))) }
