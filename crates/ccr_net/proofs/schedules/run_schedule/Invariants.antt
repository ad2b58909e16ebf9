use Rattle.std.proofs.Common.{◌≡◌, drop}
use Rattle.ccr_runs.specs.EntryRuns.{never, scheduled, scheduled_from}
use Rattle.ccr_net.specs.Schedules.{IsPlayed}
use Rattle.ccr_net.proofs.schedules.run_schedule.Given as goal

-- the turns so far, and those still to come, give the whole run
abbrev pub invariant-loop-turn : goal.invariant-loop-turn
invariant-loop-turn l = record {
  played : IsPlayed l.workers never l.places l.actors.items l.entries.items;
  wiring : l.places.wiring ≡ l.wiring;
  ahead : scheduled_from l.wiring l.entries.items (drop l.turn-index l.turns) ≡ scheduled l.wiring l.turns;
}
