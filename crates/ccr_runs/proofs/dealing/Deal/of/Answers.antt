use Rattle.ccr_runs.proofs.Deals.{dealt_merged, has_merged}
use Rattle.ccr_runs.proofs.dealing.Deal.of.Goals as goal

pub invariant_of-result : goal.invariant_of-result
invariant_of-result g c = rw (c.from_vec.ensures.items, c.in_ok-order.ensures, c.in_ok-histories.ensures, c.as_slice.ensures, c.into_vec.ensures) (has_merged _ c.requires.rising)

pub returns : goal.returns
returns g c = rw (c.from_vec.ensures.items, c.in_ok-order.ensures, c.in_ok-histories.ensures, c.as_slice.ensures, c.into_vec.ensures) (dealt_merged _ c.requires.rising)
