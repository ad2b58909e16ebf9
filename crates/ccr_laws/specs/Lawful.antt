-- What a law is about: each legal history of a wiring.
use Rattle.std.specs.Prelude.{◌≡◌, ℕ, true, false, List, [], ◌∷◌, Some, None}
use Rattle.std.specs.List.{slice_get}
use Rattle.ccr_base.specs.declared.names.MsgId.{MsgId}
use Rattle.ccr_base.specs.declared.names.Spot.{Spot}
use Rattle.ccr_base.specs.declared.names.TaskId.{TaskId}
use Rattle.ccr_base.specs.Names.{has_task}
use Rattle.ccr_wiring.specs.declared.parts.Parts.{Parts}
use Rattle.ccr_wiring.specs.declared.parts.ArbiterPart.{ArbiterPart}
use Rattle.ccr_wiring.specs.declared.parts.PosterPart.{PosterPart}
use Rattle.ccr_wiring.specs.Openness.{open_poster}
use Rattle.ccr_wiring.specs.Valid.{IsValid, HasGroups}
use Rattle.ccr_model.specs.declared.history.Event.{Event}
use Rattle.ccr_model.specs.declared.history.Event.TheVariants.{Fire}
use Rattle.ccr_model.specs.Legal.{IsLegal}
use Rattle.ccr_model.specs.AtWork.{is_at_work}
use Rattle.ccr_model.specs.Firings.{started}
use Rattle.ccr_model.specs.Interleaves.{fired_in, is_of_exclusive, is_of_interleave, is_of_teardown, tears_down}
use Rattle.ccr_model.specs.Sites.{root_of}
use Rattle.ccr_model.specs.Tasks.{admitted, is_over}
use Rattle.ccr_laws.specs.Occurring.{Occurs}

-- the law holds of each legal history of a wiring
abbrev pub OfLegal : (Parts → List Event → Type 0) → Type 0
OfLegal law = (wiring : Parts) (history : List Event) → IsLegal wiring history → law wiring history

-- it holds of each legal history of a valid wiring
abbrev pub OfValid : (Parts → List Event → Type 0) → Type 0
OfValid law = (wiring : Parts) → IsValid wiring → (history : List Event) → IsLegal wiring history → law wiring history

-- it holds of each firing of the history, which stands behind this past
abbrev pub OfFirings : List Event → (List Event → Spot → List MsgId → Type 0) → Type 0
OfFirings history law = (past : List Event) (task : TaskId) (spot : Spot) (messages : List MsgId) (cuts : List TaskId) → Occurs history past (Fire task spot messages cuts) → law past spot messages

-- it holds of each arbiter of the wiring and its number
abbrev pub OfArbiters : Parts → (ℕ → ArbiterPart → Type 0) → Type 0
OfArbiters wiring law = (number : ℕ) (arbiter : ArbiterPart) → slice_get wiring.arbiters number ≡ Some arbiter → law number arbiter

-- it holds of each poster of the wiring that posts its script, and its number
abbrev pub OfScripted : Parts → (ℕ → PosterPart → Type 0) → Type 0
OfScripted wiring law = (number : ℕ) (poster : PosterPart) → slice_get wiring.posters number ≡ Some poster → open_poster wiring number ≡ None → law number poster

-- it holds of each wiring whose branches have the groups that their arbiters may have
abbrev pub OfGrouped : (Parts → Type 0) → Type 0
OfGrouped law = (wiring : Parts) → HasGroups wiring → law wiring

-- the task is one of the domain
abbrev pub IsOfDomain : Parts → List Event → ℕ → TaskId → Type 0
IsOfDomain wiring history domain task = is_of_interleave wiring history domain task ≡ true

-- it is one of an exclusive or teardown branch of it
abbrev pub IsExclusive : Parts → List Event → ℕ → TaskId → Type 0
IsExclusive wiring history domain task = is_of_exclusive wiring history domain task ≡ true

-- it is queued, runs or is suspended
abbrev pub IsAtWork : Parts → List Event → TaskId → Type 0
IsAtWork wiring history task = is_at_work wiring history task ≡ true

-- the root was admitted, and isn't over
abbrev pub IsLive : Parts → List Event → ℕ → TaskId → Type 0
IsLive wiring history domain root = has_task (admitted wiring history domain) root ≡ true

-- the root of the task is such a one
abbrev pub HasLiveRoot : Parts → List Event → ℕ → TaskId → Type 0
HasLiveRoot wiring history domain task = IsLive wiring history domain (root_of history task)

-- from the admission of an exclusive or teardown root until it is over
abbrev pub UntilOver : Parts → List Event → ℕ → TaskId → Type 0 → Type 0
UntilOver wiring history domain root law = IsExclusive wiring history domain root → IsLive wiring history domain root → law

-- while a task of such a root is at work
abbrev pub Meanwhile : Parts → List Event → ℕ → TaskId → Type 0 → Type 0
Meanwhile wiring history domain task law = IsExclusive wiring history domain task → IsAtWork wiring history task → law

-- no task of another root of the domain is queued, runs or is suspended
abbrev pub WorksAlone : Parts → List Event → ℕ → TaskId → TaskId → Type 0
WorksAlone wiring history domain root other = IsOfDomain wiring history domain other → IsAtWork wiring history other → root_of history other ≡ root

-- nor is any other task of it
abbrev pub IsOnlyOne : Parts → List Event → ℕ → TaskId → TaskId → Type 0
IsOnlyOne wiring history domain task other = IsOfDomain wiring history domain other → IsAtWork wiring history other → other ≡ task

-- the tasks in the first list are not in the second
abbrev pub AreOutside : List TaskId → List TaskId → Type 0
AreOutside ones others = (task : TaskId) → has_task ones task ≡ true → has_task others task ≡ false

-- the law holds of each firing, at its spot
abbrev pub OfFiringsThere : (Spot → Event → Type 0) → Type 0
OfFiringsThere law = (task : TaskId) (spot : Spot) (messages : List MsgId) (cuts : List TaskId) → law spot (Fire task spot messages cuts)

-- nothing of the domain fires in what comes after a firing of its teardown branch, if the history is legal
abbrev pub FiresNoMore : Parts → ℕ → Spot → List Event → List Event → Type 0
FiresNoMore wiring domain spot history after = IsLegal wiring history → tears_down wiring domain spot ≡ true → fired_in wiring after domain ≡ []

-- the root of an exclusive or teardown branch that isn't over is the only one of its domain that was admitted and isn't over, if the history is legal
abbrev pub StaysAlone : Parts → ℕ → List Event → TaskId → Type 0
StaysAlone wiring domain history root = IsLegal wiring history → IsExclusive wiring history domain root → is_over history root ≡ false → admitted wiring history domain ≡ root ∷ []

-- the other task, which starts in what comes after, is of the root of a teardown task, if the history is legal
abbrev pub StartsNoOther : Parts → ℕ → List Event → List Event → TaskId → TaskId → Type 0
StartsNoOther wiring domain history after task other =
    IsLegal wiring history →
    is_of_teardown wiring history domain task ≡ true →
    IsOfDomain wiring history domain other →
    has_task (started after) other ≡ true →
    root_of history other ≡ root_of history task
