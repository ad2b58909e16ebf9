-- The schedule of a run.
use Rattle.std.specs.Prelude.{◌≡◌, ◌<◌, ℕ, List, [], ◌∷◌, ◌++◌, map, All, None}
use Rattle.ccr_wiring.specs.Actors.{actor_count}
use Rattle.ccr_wiring.specs.declared.parts.Parts.{Parts}
use Rattle.ccr_actor.specs.Actors.{next}
use Rattle.ccr_runs.specs.declared.entries.Entry.{Entry}
use Rattle.ccr_runs.specs.EntryRuns.{IsRunAfter, Lacks, never, replies_of}

-- whose step each entry is
abbrev pub schedule : List Entry → List ℕ
schedule entries = map (λ (e : Entry). e.actor) entries

-- each turn is that of a poster or of one of so many workers
abbrev pub AreActors : Parts → ℕ → List ℕ → Type 0
AreActors wiring workers turns = All (λ actor. actor < actor_count wiring workers) turns

-- a run of the posters and so many workers in which each step of each actor is its next one
abbrev pub IsOfNextSteps : Parts → ℕ → List Entry → Type 0
IsOfNextSteps wiring workers entries = IsRunAfter wiring workers never [] entries

-- each actor asks at each of its entries what it would ask if it never lacked memory
abbrev pub AskAlways : Parts → Lacks → List Entry → List Entry → Type 0
AskAlways wiring lacks past [] = Unit {0}
AskAlways wiring lacks past (entry ∷ entries) =
    (next wiring entry.actor (lacks entry.actor) (replies_of wiring past entry.actor) ≡ next wiring entry.actor None (replies_of wiring past entry.actor))
    × AskAlways wiring lacks (past ++ entry ∷ []) entries
