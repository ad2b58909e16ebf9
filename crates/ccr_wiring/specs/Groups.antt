-- Which groups the branches of an arbiter may have, and how many branches it has.
use Rattle.std.specs.Prelude.{ℕ, Bool, true, false, not, ◌==◌, ◌&&◌, ◌||◌, List, [], ◌∷◌, length}
use Rattle.std.specs.List.{list_any, slice_get}
use Rattle.std.specs.Option.{option_map_or}
use Rattle.std.specs.Str.{bytes_eq}
use Rattle.ccr_base.specs.declared.handlers.Action.{Action}
use Rattle.ccr_base.specs.declared.handlers.Action.TheVariants.{Await}
use Rattle.ccr_base.specs.declared.policies.Group.{Group}
use Rattle.ccr_base.specs.declared.policies.Group.TheVariants as groups
use Rattle.ccr_wiring.specs.declared.parts.Kind.{Kind}
use Rattle.ccr_wiring.specs.declared.parts.Kind.TheVariants as kinds
use Rattle.ccr_wiring.specs.declared.parts.ArbiterPart.{ArbiterPart}
use Rattle.ccr_wiring.specs.declared.parts.BranchPart.{BranchPart}
use Rattle.ccr_wiring.specs.declared.parts.HandlerPart.{HandlerPart}
use Rattle.ccr_wiring.specs.declared.parts.OpenPart.{OpenPart}
use Rattle.ccr_wiring.specs.declared.parts.PosterPart.{PosterPart}
use Rattle.ccr_wiring.specs.declared.parts.Parts.{Parts}

-- whether an arbiter of this kind may have a branch of this group
abbrev pub may_have : Kind → Group → Bool
may_have kinds.Receive groups.Once = true
may_have kinds.Receive groups.Always = true
may_have kinds.Choice groups.Choice = true
may_have kinds.Interleave groups.Teardown = true
may_have kinds.Interleave groups.Exclusive = true
may_have kinds.Interleave groups.Concurrent = true
may_have _ _ = false

-- whether the group fires once at most
abbrev pub is_once : Group → Bool
is_once groups.Once = true
is_once groups.Always = false
is_once groups.Choice = false
is_once groups.Teardown = false
is_once groups.Exclusive = false
is_once groups.Concurrent = false

-- whether the kind is that of a receive
abbrev pub is_receive : Kind → Bool
is_receive kinds.Receive = true
is_receive _ = false

-- whether the kind is that of an Interleave
abbrev pub is_interleave : Kind → Bool
is_interleave kinds.Interleave = true
is_interleave _ = false

-- whether this is exactly one branch, and it bears the name
abbrev pub is_one_named : List ℕ → List BranchPart → Bool
is_one_named name [] = false
is_one_named name (branch ∷ others) = (length others == 0) && bytes_eq branch.name name

-- a branch of a group that the arbiter's kind doesn't have
abbrev pub has_strange_group : ArbiterPart → Bool
has_strange_group arbiter = list_any (λ (branch : BranchPart). not (may_have arbiter.kind branch.group)) arbiter.branches

-- a branch of a group that the arbiter's kind doesn't have, or a receive without exactly one branch of its own name
abbrev pub is_misgrouped : ArbiterPart → Bool
is_misgrouped arbiter = has_strange_group arbiter || (is_receive arbiter.kind && not (is_one_named arbiter.name arbiter.branches))

-- the poster has a script
abbrev pub has_script : PosterPart → Bool
has_script poster = not (length poster.posts == 0)

-- the action is no await
abbrev pub is_no_await : Action → Bool
is_no_await (Await port) = false
is_no_await _ = true

-- the handler has another action than an await
abbrev pub acts : HandlerPart → Bool
acts part = list_any is_no_await part.handler.actions

-- the open poster has a script
abbrev pub poster_is_scripted : Parts → OpenPart → Bool
poster_is_scripted parts part = option_map_or has_script (slice_get parts.posters part.part) false

-- the open handler has another action than an await
abbrev pub handler_is_scripted : Parts → OpenPart → Bool
handler_is_scripted parts part = option_map_or acts (slice_get parts.handlers part.part) false

-- an open poster has a script, or an open handler another action than an await
abbrev pub has_scripted : Parts → Bool
has_scripted parts = list_any (poster_is_scripted parts) parts.open_posters || list_any (handler_is_scripted parts) parts.open_handlers

-- some arbiter is misgrouped, or an open part has what somebody outside does
abbrev pub has_misgrouped : Parts → Bool
has_misgrouped parts = list_any is_misgrouped parts.arbiters || has_scripted parts

-- a choice or an Interleave without a branch
abbrev pub is_branchless : ArbiterPart → Bool
is_branchless arbiter = not (is_receive arbiter.kind) && (length arbiter.branches == 0)

-- some choice or Interleave has no branch
abbrev pub has_branchless : Parts → Bool
has_branchless parts = list_any is_branchless parts.arbiters
