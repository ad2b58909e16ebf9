-- The names that a wiring declares. They share one space.
use Rattle.std.specs.Prelude.{ℕ, Bool, false, not, ◌||◌, List, [], ◌∷◌, ◌++◌, map, flat_map, if◌then◌else◌}
use Rattle.std.specs.List.{list_any}
use Rattle.std.specs.Str.{bytes_eq}
use Rattle.ccr_text.specs.Words.{is_name_of}
use Rattle.ccr_wiring.specs.declared.parts.ArbiterPart.{ArbiterPart}
use Rattle.ccr_wiring.specs.declared.parts.BranchPart.{BranchPart}
use Rattle.ccr_wiring.specs.declared.parts.CausePart.{CausePart}
use Rattle.ccr_wiring.specs.declared.parts.HandlerPart.{HandlerPart}
use Rattle.ccr_wiring.specs.declared.parts.PosterPart.{PosterPart}
use Rattle.ccr_wiring.specs.declared.parts.QueuePart.{QueuePart}
use Rattle.ccr_wiring.specs.declared.parts.SetPart.{SetPart}
use Rattle.ccr_wiring.specs.declared.parts.Parts.{Parts}
use Rattle.ccr_wiring.specs.Groups.{is_receive}

-- the names of branches
abbrev pub branch_names : List BranchPart → List (List ℕ)
branch_names branches = map (λ (branch : BranchPart). branch.name) branches

-- an arbiter's name and those of its branches. A receive and its one branch share a name, which counts once
abbrev pub arbiter_names : ArbiterPart → List (List ℕ)
arbiter_names arbiter = arbiter.name ∷ (if is_receive arbiter.kind then [] else branch_names arbiter.branches)

-- the names of queues
abbrev pub queue_names : List QueuePart → List (List ℕ)
queue_names parts = map (λ (part : QueuePart). part.name) parts

-- the names of port sets
abbrev pub set_names : List SetPart → List (List ℕ)
set_names parts = map (λ (part : SetPart). part.name) parts

-- the names of causes
abbrev pub cause_names : List CausePart → List (List ℕ)
cause_names parts = map (λ (part : CausePart). part.name) parts

-- the names of handlers
abbrev pub handler_names : List HandlerPart → List (List ℕ)
handler_names parts = map (λ (part : HandlerPart). part.name) parts

-- the names of posters
abbrev pub poster_names : List PosterPart → List (List ℕ)
poster_names parts = map (λ (part : PosterPart). part.name) parts

-- every name that the parts declare
abbrev pub declared_names : Parts → List (List ℕ)
declared_names parts =
    queue_names parts.queues ++ parts.ports ++ set_names parts.sets ++ cause_names parts.causes
    ++ handler_names parts.handlers ++ flat_map arbiter_names parts.arbiters ++ poster_names parts.posters

-- whether the name is among the names
abbrev pub has_name : List (List ℕ) → List ℕ → Bool
has_name names name = list_any (λ other. bytes_eq other name) names

-- whether some name stands twice
abbrev pub has_repeated : List (List ℕ) → Bool
has_repeated [] = false
has_repeated (name ∷ names) = has_name names name || has_repeated names

-- a declared name is declared already
abbrev pub has_repeated_name : Parts → Bool
has_repeated_name parts = has_repeated (declared_names parts)

-- whether some name isn't of the form of a name
abbrev pub has_malformed : List (List ℕ) → Bool
has_malformed names = list_any (λ name. not (is_name_of name)) names

-- a declared name isn't of the form of a name
abbrev pub has_malformed_name : Parts → Bool
has_malformed_name parts = has_malformed (declared_names parts)
