-- What a law is about: runs of a valid wiring.
use Rattle.std.specs.Prelude.{◌≡◌, ◌<◌, ◌≤◌, ℕ, true, List, [], Some}
use Rattle.ccr_base.specs.Bounds.{most_workers}
use Rattle.ccr_wiring.specs.Actors.{actor_count}
use Rattle.ccr_wiring.specs.declared.parts.Parts.{Parts}
use Rattle.ccr_wiring.specs.Valid.{IsValid}
use Rattle.ccr_wiring.specs.Openness.{is_closed}
use Rattle.ccr_claim.specs.declared.asks.Asked.{Asked}
use Rattle.ccr_actor.specs.Actors.{next}
use Rattle.ccr_actor.specs.Nets.{AreNext}
use Rattle.ccr_object.specs.declared.deed.Deed.{Deed}
use Rattle.ccr_runs.specs.declared.acts.Act.{Act}
use Rattle.ccr_runs.specs.Runs.{IsRunFrom, cast}
use Rattle.ccr_runs.specs.declared.entries.Entry.{Entry}
use Rattle.ccr_runs.specs.Played.{protocol, scene, steps_in}
use Rattle.ccr_runs.specs.EntryRuns.{Lacks, IsRun, IsRunAfter, replies_of}

-- the law holds of each run, by its entries
abbrev pub OfRuns : (Parts → ℕ → List Entry → Type 0) → Type 0
OfRuns law = (wiring : Parts) (workers : ℕ) (entries : List Entry) → IsValid wiring → workers ≤ most_workers → IsRun wiring workers entries → law wiring workers entries

-- where the actor of a run asks this next
abbrev pub WhereAskedNext : Parts → ℕ → Lacks → List Entry → ℕ → Asked → Type 0 → Type 0
WhereAskedNext wiring workers lacks entries actor one law =
    IsRunAfter wiring workers lacks [] entries →
    actor < actor_count wiring workers →
    next wiring actor (lacks actor) (replies_of wiring entries actor) ≡ Some one →
    law

-- the law holds of each next ask of an actor of a run of a closed wiring, wherever the actors lack memory
abbrev pub OfNextAsks : (Parts → List Entry → Asked → Type 0) → Type 0
OfNextAsks law =
    (wiring : Parts) (workers : ℕ) (lacks : Lacks) (entries : List Entry) (actor : ℕ) (one : Asked) →
    IsValid wiring →
    is_closed wiring ≡ true →
    workers ≤ most_workers →
    WhereAskedNext wiring workers lacks entries actor one (law wiring entries one)

-- the acts are a run as the objects of the places play it
abbrev pub IsPlayedRun : Parts → ℕ → Lacks → List (Act Deed) → Type 0
IsPlayedRun wiring workers lacks acts = IsRunFrom (protocol wiring lacks) (actor_count wiring workers) (scene wiring) (cast (protocol wiring lacks)) acts

-- the law holds of each such run
abbrev pub OfPlayedRuns : (Parts → ℕ → Lacks → List (Act Deed) → Type 0) → Type 0
OfPlayedRuns law =
    (wiring : Parts) (workers : ℕ) (lacks : Lacks) (acts : List (Act Deed))
    → IsValid wiring
    → is_closed wiring ≡ true
    → workers ≤ most_workers
    → IsPlayedRun wiring workers lacks acts
    → law wiring workers lacks acts

-- each actor's steps are what it asks next where the actors lack memory so
abbrev pub AreNextToo : Parts → ℕ → Lacks → List (Act Deed) → Type 0
AreNextToo wiring workers lacks acts = (actor : ℕ) → actor < actor_count wiring workers → AreNext wiring actor (lacks actor) [] (steps_in wiring acts actor)
