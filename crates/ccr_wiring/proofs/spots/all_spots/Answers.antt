use Rattle.std.proofs.Common.{sym, ◌∙◌, arith}
use Rattle.ccr_wiring.proofs.SpotsAreListed.{spots_listed}
use Rattle.ccr_wiring.proofs.Validity.{few_branches}
use Rattle.ccr_wiring.proofs.spots.all_spots.Goals as goal

pub add_all_spots-requires-clause-fits : goal.add_all_spots-requires-clause-fits
add_all_spots-requires-clause-fits c =
    let few = few_branches c.args.parts.now c.requires in
    rw c.as_slice.ensures (omega arith)

pub returns : goal.returns
returns c = c.in_ok-add_all_spots.ensures ∙ rw (c.new-listed.ensures.items, c.as_slice.ensures) (sym (spots_listed c.args.parts.now))
