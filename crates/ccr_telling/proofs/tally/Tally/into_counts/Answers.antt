use Rattle.std.proofs.Common.{◌≡◌, ◌∙◌, ◌<◌, ℕ, List, length, map, ap, subst}
use Rattle.std.specs.Prelude.{slice_index}
use Rattle.std.specs.Option.{option_map_or}
use Rattle.ccr_base.specs.declared.names.Spot.{Spot}
use Rattle.ccr_wiring.specs.declared.parts.Parts.{Parts}
use Rattle.ccr_ledger.specs.Rows.{row}
use Rattle.ccr_ledger.specs.Books.{number}
use Rattle.ccr_telling.specs.Tallies.{index_of}
use Rattle.ccr_telling.proofs.CountsTold.{counted_told}
use Rattle.ccr_telling.proofs.tally.Tally.into_counts.Goals as goal

pub returns : goal.returns
returns c = λ h legal keeps told.
    let w = c.args.wiring.now in
    let b = c.args.ledger.now in
    let t = c.args.self in
    let ports : c.as_slice.result.now ≡ w.ports = c.as_slice.ensures ∙ ap (λ (p : Parts). p.ports) c.parts-parts.ensures.parts in
    counted_told w c.parts-parts.ensures.valid h legal b keeps t (told.counted b keeps) _
    c.into_lists-posted.ensures.posted
    (c.in_ok-held.ensures.len ∙ ap length ports)
    (subst (λ (ps : List (List ℕ)). (k : ℕ) → k < length ps → slice_index c.in_ok-held.held.items k ≡ length (row b.ports k)) ports c.in_ok-held.ensures.counts)
    (c.in_ok-fired.ensures ∙ ap (λ (ss : List Spot). map (λ (spot : Spot). option_map_or (number t.fired) (index_of spot) 0) ss) c.spots.ensures.spots)
    c.into_lists-posted.ensures.put
    c.into_lists-posted.ensures.dropped
    c.totals_of-totals.ensures
