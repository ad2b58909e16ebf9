-- A port twice in one pattern, set or open part, a cause twice in one post, an Interleave twice in the domains, a part twice among the open ones.
use Rattle.std.specs.Prelude.{ℕ, Bool, not, ◌==◌, ◌||◌, List, map, flat_map}
use Rattle.std.specs.List.{list_any}
use Rattle.ccr_base.specs.declared.messages.Sent.{Sent}
use Rattle.ccr_base.specs.declared.patterns.Pattern.{Pattern}
use Rattle.ccr_base.specs.declared.patterns.Pattern.TheVariants.{Slots, Gather}
use Rattle.ccr_base.specs.declared.patterns.Slot.{Slot}
use Rattle.ccr_base.specs.Lists.{are_apart}
use Rattle.ccr_wiring.specs.declared.parts.ArbiterPart.{ArbiterPart}
use Rattle.ccr_wiring.specs.declared.parts.BranchPart.{BranchPart}
use Rattle.ccr_wiring.specs.declared.parts.OpenPart.{OpenPart}
use Rattle.ccr_wiring.specs.declared.parts.PosterPart.{PosterPart}
use Rattle.ccr_wiring.specs.declared.parts.SetPart.{SetPart}
use Rattle.ccr_wiring.specs.declared.parts.DomainPart.{DomainPart}
use Rattle.ccr_wiring.specs.declared.parts.Parts.{Parts}

-- the ports of slots
abbrev pub slot_ports : List Slot → List ℕ
slot_ports slots = map (λ (s : Slot). s.port) slots

-- whether no slot's port stands in a later slot
abbrev pub are_slots_apart : List Slot → Bool
are_slots_apart slots = are_apart (slot_ports slots)

-- whether a pattern names no port twice
abbrev pub names_ports_once : Pattern → Bool
names_ports_once (Slots slots) = are_slots_apart slots
names_ports_once (Gather total first second) = not (first == second)

-- a pattern names a port twice
abbrev pub branch_repeats : BranchPart → Bool
branch_repeats branch = not (names_ports_once branch.pattern)

-- some branch of the arbiter names a port twice
abbrev pub arbiter_repeats : ArbiterPart → Bool
arbiter_repeats arbiter = list_any branch_repeats arbiter.branches

-- a port stands twice in the set
abbrev pub set_repeats : SetPart → Bool
set_repeats set = not (are_apart set.ports)

-- a cause stands twice in the post
abbrev pub post_repeats : Sent → Bool
post_repeats post = not (are_apart post.causes)

-- some post of the script has a cause twice
abbrev pub poster_repeats : PosterPart → Bool
poster_repeats poster = list_any post_repeats poster.posts

-- some set has a port twice
abbrev pub has_repeating_set : Parts → Bool
has_repeating_set parts = list_any set_repeats parts.sets

-- some pattern names a port twice
abbrev pub has_repeating_arbiter : Parts → Bool
has_repeating_arbiter parts = list_any arbiter_repeats parts.arbiters

-- some post has a cause twice
abbrev pub has_repeating_poster : Parts → Bool
has_repeating_poster parts = list_any poster_repeats parts.posters

-- the members of all domains
abbrev pub members_in_all : List DomainPart → List ℕ
members_in_all domains = flat_map (λ (domain : DomainPart). domain.members) domains

-- an Interleave stands twice in the domains
abbrev pub has_repeating_domain : Parts → Bool
has_repeating_domain parts = not (are_apart (members_in_all parts.domains))

-- the numbers of open parts
abbrev pub open_numbers : List OpenPart → List ℕ
open_numbers parts = map (λ (part : OpenPart). part.part) parts

-- a port stands twice in the open part
abbrev pub open_repeats : OpenPart → Bool
open_repeats part = not (are_apart part.ports)

-- a part stands twice in the list, or a port twice in a part
abbrev pub open_parts_repeat : List OpenPart → Bool
open_parts_repeat parts = not (are_apart (open_numbers parts)) || list_any open_repeats parts

-- some open part stands twice, or has a port twice
abbrev pub has_repeating_open : Parts → Bool
has_repeating_open parts = open_parts_repeat parts.open_posters || open_parts_repeat parts.open_handlers

-- a port stands twice in one pattern, set or open part, a cause twice in one post, an Interleave twice in the domains, or a part twice among the open ones
abbrev pub has_repeat : Parts → Bool
has_repeat parts = has_repeating_set parts || has_repeating_arbiter parts || has_repeating_poster parts || has_repeating_domain parts || has_repeating_open parts
