-- The totals, by the numbers that grew.
use Rattle.std.specs.Prelude.{◌+◌, ◌-◌}
use Rattle.ccr_model.specs.declared.history.Totals.{Totals}
use Rattle.ccr_telling.specs.Tallies.{Tallies}

-- what was posted and not taken is held; what fired and neither ended nor was cut or dropped is left
abbrev pub totals_by : Tallies → Totals
totals_by tallies = record {
  posted = tallies.posts;
  taken = tallies.taken;
  held = tallies.posts - tallies.taken;
  fired = tallies.firings;
  done = tallies.done;
  failed = tallies.failed;
  shed = tallies.shed;
  yielded = tallies.yielded;
  cut = tallies.cut;
  dropped = tallies.drops;
  unended = tallies.firings - (tallies.done + tallies.failed + tallies.shed + tallies.yielded + tallies.cut + tallies.drops);
}
