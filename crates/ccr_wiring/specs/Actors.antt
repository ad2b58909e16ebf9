-- The actors of a run: the posters of its wiring, and workers behind them.
use Rattle.std.specs.Prelude.{ℕ, ◌+◌, Bool, nat_le, length}
use Rattle.ccr_wiring.specs.declared.parts.Parts.{Parts}

-- how many there are, with so many workers
abbrev pub actor_count : Parts → ℕ → ℕ
actor_count wiring workers = length wiring.posters + workers

-- whether the actor of this number is no poster: it comes behind them
abbrev pub is_behind_posters : Parts → ℕ → Bool
is_behind_posters wiring actor = nat_le (length wiring.posters) actor
