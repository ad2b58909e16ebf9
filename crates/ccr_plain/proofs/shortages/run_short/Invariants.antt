use Rattle.ccr_plain.proofs.RefusedActorsGoOn.{IsAhead}
use Rattle.ccr_plain.proofs.shortages.run_short.Given as goal

-- the turns so far, and those still to come, give the whole run
abbrev pub invariant-loop-turn : goal.invariant-loop-turn
invariant-loop-turn l = IsAhead l.workers l.wiring l.refused l.turns l.turn-index l.places l.actors.items l.entries.items l.asks
