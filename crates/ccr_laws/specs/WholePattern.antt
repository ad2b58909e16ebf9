-- What a firing takes: the whole of its pattern, from what its ports held before it.
use Rattle.std.specs.Prelude.{◌≡◌, ℕ, ◌+◌, true, List, [], ◌∷◌, ◌++◌, length, take, flat_map, Some, All, Contains}
use Rattle.std.specs.List.{slice_get, AllZip}
use Rattle.ccr_base.specs.declared.names.MsgId.{MsgId}
use Rattle.ccr_base.specs.declared.names.Spot.{Spot}
use Rattle.ccr_base.specs.declared.names.Spot.TheVariants.{Branch, Site}
use Rattle.ccr_base.specs.declared.messages.Msg.{Msg}
use Rattle.ccr_base.specs.declared.patterns.Slot.{Slot}
use Rattle.ccr_base.specs.declared.patterns.Pattern.{Pattern}
use Rattle.ccr_base.specs.declared.patterns.Pattern.TheVariants.{Slots, Gather}
use Rattle.ccr_wiring.specs.declared.parts.Parts.{Parts}
use Rattle.ccr_model.specs.declared.history.Event.{Event}
use Rattle.ccr_base.specs.Selection.{holds, fitting}
use Rattle.ccr_wiring.specs.Wirings.{Placement, placement, site_port}
use Rattle.ccr_model.specs.Posts.{held}
use Rattle.ccr_model.specs.Selection.{names_of}

-- the messages are the first of the list
abbrev pub AreFirst : List Msg → List Msg → Type 0
AreFirst messages list = messages ≡ take (length messages) list

-- the messages fill the slot: as many as its count, each held at its port and satisfying its predicate, and the oldest that do
pub record FillsSlot (past : List Event) (slot : Slot) (messages : List Msg) : Type 0 where
  pub counted : length messages ≡ slot.least
  pub were_held : All (Contains (held past slot.port)) messages
  pub satisfy : All (λ (m : Msg). holds slot.pred m.value ≡ true) messages
  pub oldest : AreFirst messages (fitting slot.pred (held past slot.port))

-- the names are those of parts, one for each slot in its order, and each part fills its slot
pub record FillsSlots (past : List Event) (slots : List Slot) (names : List MsgId) : Type 0 where
  pub parts : List (List Msg)
  pub filled : AllZip (FillsSlot past) slots parts
  pub named : names ≡ flat_map names_of parts

-- the names are those of messages of the first port and of the second, as many as the total, each held and the oldest of its port
pub record FillsGather (past : List Event) (total first second : ℕ) (names : List MsgId) : Type 0 where
  pub of_first : List Msg
  pub of_second : List Msg
  pub named : names ≡ names_of of_first ++ names_of of_second
  pub counted : length of_first + length of_second ≡ total
  pub first_held : All (Contains (held past first)) of_first
  pub second_held : All (Contains (held past second)) of_second
  pub first_oldest : AreFirst of_first (held past first)
  pub second_oldest : AreFirst of_second (held past second)

-- slots take their counts, a gather its total
abbrev pub FillsPattern : List Event → Pattern → List MsgId → Type 0
FillsPattern past (Slots slots) names = FillsSlots past slots names
FillsPattern past (Gather total first second) names = FillsGather past total first second names

-- the one name is that of the oldest message that the port held
pub record IsOldest (past : List Event) (port : ℕ) (names : List MsgId) : Type 0 where
  pub message : Msg
  pub named : names ≡ message.id ∷ []
  pub oldest : slice_get (held past port) 0 ≡ Some message

-- the firing of a branch fills its pattern
pub record FillsBranch (wiring : Parts) (past : List Event) (branch : ℕ) (names : List MsgId) : Type 0 where
  pub its : Placement
  pub known : placement wiring branch ≡ Some its
  pub filled : FillsPattern past its.branch.pattern names

-- the firing of a site takes the oldest message of the awaited port
pub record FillsSite (wiring : Parts) (past : List Event) (branch site : ℕ) (names : List MsgId) : Type 0 where
  pub port : ℕ
  pub awaited : site_port wiring branch site ≡ Some port
  pub taken : IsOldest past port names

-- a firing at the spot, after this past, that names these messages takes its whole pattern
abbrev pub TakesWhole : Parts → List Event → Spot → List MsgId → Type 0
TakesWhole wiring past (Branch branch) names = FillsBranch wiring past branch names
TakesWhole wiring past (Site branch site) names = FillsSite wiring past branch site names
