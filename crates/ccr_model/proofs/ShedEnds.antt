-- A task was shed where an end as shed is counted.
use Rattle.std.proofs.Common.{◌≡◌, List, length, filter, not}
use Rattle.std.specs.Prelude.{◌==◌}
use Rattle.ccr_model.specs.declared.history.Event.{Event}
use Rattle.ccr_model.specs.Counts.{is_shed}
use Rattle.ccr_model.specs.Legal.{has_shed}
use Rattle.ccr_base.proofs.Filters.{some_counted}

pub shed_is_counted : (h : List Event) → not (length (filter is_shed h) == 0) ≡ has_shed h
shed_is_counted h = some_counted is_shed h
