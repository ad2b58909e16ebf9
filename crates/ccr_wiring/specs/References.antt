-- Numbers that name nothing.
use Rattle.std.specs.Prelude.{ℕ, Bool, true, false, not, ◌||◌, nat_le, List, length}
use Rattle.std.specs.List.{list_any, slice_get}
use Rattle.std.specs.Option.{option_map_or}
use Rattle.ccr_base.specs.declared.messages.Sent.{Sent}
use Rattle.ccr_base.specs.declared.handlers.Action.{Action}
use Rattle.ccr_base.specs.declared.handlers.Action.TheVariants.{Post, Fail, Add, Remove, Await}
use Rattle.ccr_base.specs.declared.patterns.Pattern.{Pattern}
use Rattle.ccr_base.specs.declared.patterns.Pattern.TheVariants.{Slots, Gather}
use Rattle.ccr_base.specs.declared.patterns.Slot.{Slot}
use Rattle.ccr_wiring.specs.declared.parts.ArbiterPart.{ArbiterPart}
use Rattle.ccr_wiring.specs.declared.parts.BranchPart.{BranchPart}
use Rattle.ccr_wiring.specs.declared.parts.CausePart.{CausePart}
use Rattle.ccr_wiring.specs.declared.parts.HandlerPart.{HandlerPart}
use Rattle.ccr_wiring.specs.declared.parts.OpenPart.{OpenPart}
use Rattle.ccr_wiring.specs.declared.parts.PosterPart.{PosterPart}
use Rattle.ccr_wiring.specs.declared.parts.SetPart.{SetPart}
use Rattle.ccr_wiring.specs.declared.parts.DomainPart.{DomainPart}
use Rattle.ccr_wiring.specs.Groups.{is_interleave}
use Rattle.ccr_wiring.specs.declared.parts.Parts.{Parts}

-- whether the number names none of so many
abbrev pub is_beyond : ℕ → ℕ → Bool
is_beyond count number = nat_le count number

-- whether one of the numbers names none of so many
abbrev pub has_beyond : ℕ → List ℕ → Bool
has_beyond count numbers = list_any (is_beyond count) numbers

-- the number is no port's
abbrev pub no_port : Parts → ℕ → Bool
no_port parts port = is_beyond (length parts.ports) port

-- the number is no cause's
abbrev pub no_cause : Parts → ℕ → Bool
no_cause parts cause = is_beyond (length parts.causes) cause

-- the action names a port or a cause that isn't there
abbrev pub action_is_dangling : Parts → Action → Bool
action_is_dangling parts (Post port expr) = no_port parts port
action_is_dangling parts (Await port) = no_port parts port
action_is_dangling parts (Add cause) = no_cause parts cause
action_is_dangling parts (Remove cause) = no_cause parts cause
action_is_dangling parts (Fail expr) = false

-- some slot's port isn't there
abbrev pub slots_are_dangling : Parts → List Slot → Bool
slots_are_dangling parts slots = list_any (λ (slot : Slot). no_port parts slot.port) slots

-- some port of the pattern isn't there
abbrev pub pattern_is_dangling : Parts → Pattern → Bool
pattern_is_dangling parts (Slots slots) = slots_are_dangling parts slots
pattern_is_dangling parts (Gather total first second) = no_port parts first || no_port parts second

-- the branch's queue, handler or a port isn't there
abbrev pub branch_is_dangling : Parts → BranchPart → Bool
branch_is_dangling parts branch = is_beyond (length parts.queues) branch.queue || is_beyond (length parts.handlers) branch.handler || pattern_is_dangling parts branch.pattern

-- the post's port or one of its causes isn't there
abbrev pub post_is_dangling : Parts → Sent → Bool
post_is_dangling parts post = no_port parts post.port || has_beyond (length parts.causes) post.causes

-- a member of the set isn't there
abbrev pub set_is_dangling : Parts → SetPart → Bool
set_is_dangling parts set = has_beyond (length parts.ports) set.ports

-- some action of the handler is dangling
abbrev pub handler_is_dangling : Parts → HandlerPart → Bool
handler_is_dangling parts part = list_any (action_is_dangling parts) part.handler.actions

-- some branch of the arbiter is dangling
abbrev pub arbiter_is_dangling : Parts → ArbiterPart → Bool
arbiter_is_dangling parts arbiter = list_any (branch_is_dangling parts) arbiter.branches

-- some post of the script is dangling
abbrev pub poster_is_dangling : Parts → PosterPart → Bool
poster_is_dangling parts poster = list_any (post_is_dangling parts) poster.posts

-- the exception port isn't there
abbrev pub cause_is_dangling : Parts → CausePart → Bool
cause_is_dangling parts cause = no_port parts cause.port

-- some port set is dangling
abbrev pub has_dangling_set : Parts → Bool
has_dangling_set parts = list_any (set_is_dangling parts) parts.sets

-- some cause is dangling
abbrev pub has_dangling_cause : Parts → Bool
has_dangling_cause parts = list_any (cause_is_dangling parts) parts.causes

-- some handler is dangling
abbrev pub has_dangling_handler : Parts → Bool
has_dangling_handler parts = list_any (handler_is_dangling parts) parts.handlers

-- some arbiter is dangling
abbrev pub has_dangling_arbiter : Parts → Bool
has_dangling_arbiter parts = list_any (arbiter_is_dangling parts) parts.arbiters

-- some poster is dangling
abbrev pub has_dangling_poster : Parts → Bool
has_dangling_poster parts = list_any (poster_is_dangling parts) parts.posters

-- the number is no Interleave's
abbrev pub no_interleave : Parts → ℕ → Bool
no_interleave parts number = option_map_or (λ (arbiter : ArbiterPart). not (is_interleave arbiter.kind)) (slice_get parts.arbiters number) true

-- a member of the domain isn't an Interleave
abbrev pub domain_is_dangling : Parts → DomainPart → Bool
domain_is_dangling parts domain = list_any (no_interleave parts) domain.members

-- some domain is dangling
abbrev pub has_dangling_domain : Parts → Bool
has_dangling_domain parts = list_any (domain_is_dangling parts) parts.domains

-- the open part's number names none of so many, or one of its ports isn't there
abbrev pub open_is_dangling : Parts → ℕ → OpenPart → Bool
open_is_dangling parts count part = is_beyond count part.part || has_beyond (length parts.ports) part.ports

-- some open part is dangling
abbrev pub has_dangling_open : Parts → Bool
has_dangling_open parts = list_any (open_is_dangling parts (length parts.posters)) parts.open_posters || list_any (open_is_dangling parts (length parts.handlers)) parts.open_handlers

-- a port, queue, poster, handler, cause or Interleave is named that the parts don't have
abbrev pub has_dangling : Parts → Bool
has_dangling parts = has_dangling_set parts || has_dangling_cause parts || has_dangling_handler parts || has_dangling_arbiter parts || has_dangling_poster parts || has_dangling_domain parts || has_dangling_open parts
