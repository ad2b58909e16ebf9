-- What a run accounts for: each post of each poster, and each message that a port accepted.
use Rattle.std.specs.Prelude.{◌≡◌, ℕ, ◌≤◌, List, Some, map, None}
use Rattle.std.specs.List.{slice_get}
use Rattle.ccr_base.specs.declared.names.MsgId.{MsgId}
use Rattle.ccr_base.specs.declared.names.TaskId.{TaskId}
use Rattle.ccr_base.specs.declared.names.Spot.{Spot}
use Rattle.ccr_base.specs.declared.messages.Msg.{Msg}
use Rattle.ccr_wiring.specs.declared.parts.Parts.{Parts}
use Rattle.ccr_wiring.specs.declared.parts.PosterPart.{PosterPart}
use Rattle.ccr_wiring.specs.Valid.{IsValid}
use Rattle.ccr_wiring.specs.Openness.{open_poster}
use Rattle.ccr_model.specs.declared.history.Event.{Event}
use Rattle.ccr_model.specs.declared.history.Event.TheVariants.{Post, Fire}
use Rattle.ccr_model.specs.Laws.{times_taken}
use Rattle.ccr_laws.specs.Occurring.{Occurs}
use Rattle.ccr_laws.specs.Scripts.{posts_by, sent_of, FollowsScript}
use Rattle.ccr_laws.specs.OneFate.{HasOneFate}
use Rattle.ccr_laws.specs.WholePattern.{TakesWhole}

-- the posts of every poster that isn't open stand once and in order, and are its whole script
abbrev pub ScriptsStand : Parts → List Event → Type 0
ScriptsStand wiring history =
    (number : ℕ) (poster : PosterPart)
    → slice_get wiring.posters number ≡ Some poster
    → open_poster wiring number ≡ None
    → FollowsScript history number poster.posts × (map sent_of (posts_by history number) ≡ poster.posts)

-- every posted message is held by its port, or taken by one task that stands in one state
abbrev pub MessagesHaveOneFate : Parts → List Event → Type 0
MessagesHaveOneFate wiring history = (past : List Event) (message : Msg) → Occurs history past (Post message) → HasOneFate wiring history message.id

-- no message is taken twice
abbrev pub MessagesAreTakenOnce : List Event → Type 0
MessagesAreTakenOnce history = (name : MsgId) → times_taken history name ≤ 1

-- every firing takes its whole pattern from what its ports held
abbrev pub FiringsTakeWholePatterns : Parts → List Event → Type 0
FiringsTakeWholePatterns wiring history =
    (past : List Event) (task : TaskId) (spot : Spot) (messages : List MsgId) (cuts : List TaskId)
    → Occurs history past (Fire task spot messages cuts)
    → TakesWhole wiring past spot messages

-- the wiring is valid, each poster posted its script, and each message that was accepted is held or taken by exactly one firing, which took its whole pattern
pub record AccountsForAll (wiring : Parts) (history : List Event) : Type 0 where
  pub valid : IsValid wiring
  pub scripts : ScriptsStand wiring history
  pub fates : MessagesHaveOneFate wiring history
  pub once : MessagesAreTakenOnce history
  pub patterns : FiringsTakeWholePatterns wiring history
