-- Valid wirings, and what they promise.
use Rattle.std.specs.Prelude.{◌≡◌, ◌<◌, ◌≤◌, ℕ, true, false, List, [], length, Some, None, IsSomeAnd}
use Rattle.std.specs.List.{list_any, slice_get}
use Rattle.ccr_base.specs.Bounds.{most_actions, most_arbiters, most_branches, most_causes, most_count, most_handlers, most_ports, most_posters, most_queues, most_script_posts, most_sets, most_slots, most_spots, most_task_posts}
use Rattle.ccr_base.specs.declared.handlers.Action.{Action}
use Rattle.ccr_base.specs.declared.handlers.Action.TheVariants.{Post, Fail, Add, Remove, Await}
use Rattle.ccr_base.specs.declared.messages.Sent.{Sent}
use Rattle.ccr_base.specs.declared.patterns.Pattern.{Pattern}
use Rattle.ccr_base.specs.declared.patterns.Pattern.TheVariants.{Slots, Gather}
use Rattle.ccr_base.specs.declared.patterns.Slot.{Slot}
use Rattle.ccr_base.specs.Lists.{are_apart}
use Rattle.ccr_wiring.specs.declared.parts.Parts.{Parts}
use Rattle.ccr_wiring.specs.declared.parts.PosterPart.{PosterPart}
use Rattle.ccr_wiring.specs.declared.parts.ArbiterPart.{ArbiterPart}
use Rattle.ccr_wiring.specs.Wirings.{Placement, placement, placements, actions_of, exception_port, site_port}
use Rattle.ccr_wiring.specs.Codes.{code_of}
use Rattle.ccr_wiring.specs.Groups.{may_have, is_no_await}
use Rattle.ccr_wiring.specs.Openness.{open_poster, open_handler, is_closed}
use Rattle.ccr_wiring.specs.Limits.{posts_in_all}
use Rattle.ccr_wiring.specs.Spots.{pattern_ports, times, named_ports}
pub use Rattle.ccr_wiring.specs.Repeats.{slot_ports, names_ports_once}

-- no code stands in the parts
abbrev pub IsValid : Parts → Type 0
IsValid parts = code_of parts ≡ None

-- no pattern names one port twice
abbrev pub HasPortsApart : Parts → Type 0
HasPortsApart wiring = (branch : ℕ) (s : Placement) → placement wiring branch ≡ Some s → names_ports_once s.branch.pattern ≡ true

-- each branch's queue is one of the wiring's
abbrev pub HasQueues : Parts → Type 0
HasQueues wiring = (branch : ℕ) (s : Placement) → placement wiring branch ≡ Some s → s.branch.queue < length wiring.queues

-- each branch's handler is one of the wiring's
abbrev pub HasHandlers : Parts → Type 0
HasHandlers wiring = (branch : ℕ) (s : Placement) → placement wiring branch ≡ Some s → s.branch.handler < length wiring.handlers

-- each branch's group is one that its arbiter's kind has
abbrev pub HasGroups : Parts → Type 0
HasGroups wiring = (branch : ℕ) (s : Placement) → placement wiring branch ≡ Some s → may_have s.kind s.branch.group ≡ true

-- each port of a pattern is one of the wiring's
abbrev pub HasPatternPorts : Parts → Type 0
HasPatternPorts wiring = (branch : ℕ) (s : Placement) (index port : ℕ) → placement wiring branch ≡ Some s → slice_get (pattern_ports s.branch.pattern) index ≡ Some port → port < length wiring.ports

-- a slot takes 1 to 1,000 messages, no more and no fewer
abbrev pub IsSlotFilled : Slot → Type 0
IsSlotFilled slot = (slot.least ≡ slot.most) × (0 < slot.least) × (slot.least ≤ most_count)

-- a pattern takes at least one message: it has 1 to 8 slots, or is a gather of 1 to 1,000
abbrev pub IsPatternFilled : Pattern → Type 0
IsPatternFilled (Slots slots) = (0 < length slots) × (length slots ≤ most_slots) × ((index : ℕ) (slot : Slot) → slice_get slots index ≡ Some slot → IsSlotFilled slot)
IsPatternFilled (Gather total first second) = (0 < total) × (total ≤ most_count)

-- each branch takes at least one message
abbrev pub HasPatternsFilled : Parts → Type 0
HasPatternsFilled wiring = (branch : ℕ) (s : Placement) → placement wiring branch ≡ Some s → IsPatternFilled s.branch.pattern

-- the port or cause of an action is one of the wiring's
abbrev pub IsActionNamed : Parts → Action → Type 0
IsActionNamed wiring (Post port expr) = port < length wiring.ports
IsActionNamed wiring (Await port) = port < length wiring.ports
IsActionNamed wiring (Add cause) = cause < length wiring.causes
IsActionNamed wiring (Remove cause) = cause < length wiring.causes
IsActionNamed wiring (Fail expr) = Unit {0}

-- each port and each cause of a handler is one of the wiring's
abbrev pub HasActionsNamed : Parts → Type 0
HasActionsNamed wiring = (handler index : ℕ) (action : Action) → slice_get (actions_of wiring handler) index ≡ Some action → IsActionNamed wiring action

-- the port that a site awaits is one of the wiring's
abbrev pub HasSitePorts : Parts → Type 0
HasSitePorts wiring = (branch site port : ℕ) → site_port wiring branch site ≡ Some port → port < length wiring.ports

-- a handler has at most 16 actions
abbrev pub HasFewActions : Parts → Type 0
HasFewActions wiring = (handler : ℕ) → length (actions_of wiring handler) ≤ most_actions

-- each exception port is one of the wiring's
abbrev pub HasExceptionPorts : Parts → Type 0
HasExceptionPorts wiring = (cause port : ℕ) → exception_port wiring cause ≡ Some port → port < length wiring.ports

-- a post's port and causes are the wiring's, and no cause stands twice
pub record IsPostNamed (wiring : Parts) (post : Sent) : Type 0 where
  pub port : post.port < length wiring.ports
  pub causes : (index cause : ℕ) → slice_get post.causes index ≡ Some cause → cause < length wiring.causes
  pub apart : are_apart post.causes ≡ true

-- the posts of each script
abbrev pub HasScriptsNamed : Parts → Type 0
HasScriptsNamed wiring = (poster index : ℕ) (part : PosterPart) (post : Sent) → slice_get wiring.posters poster ≡ Some part → slice_get part.posts index ≡ Some post → IsPostNamed wiring post

-- at most 16 spots name one port
abbrev pub HasFewSpots : Parts → Type 0
HasFewSpots wiring = (port : ℕ) → times port (named_ports wiring) ≤ most_spots

-- each branch's domain is the number of an arbiter of the kind of its own
abbrev pub HasDomains : Parts → Type 0
HasDomains wiring = (branch : ℕ) (s : Placement) → placement wiring branch ≡ Some s → IsSomeAnd (slice_get wiring.arbiters s.domain) (λ (arbiter : ArbiterPart). arbiter.kind ≡ s.kind)

-- an open poster is one of the wiring's and has no script, and its ports are the wiring's
pub record IsOpenPoster (wiring : Parts) (poster : ℕ) (listed : List ℕ) : Type 0 where
  pub named : poster < length wiring.posters
  pub ports : (index port : ℕ) → slice_get listed index ≡ Some port → port < length wiring.ports
  pub silent : (part : PosterPart) → slice_get wiring.posters poster ≡ Some part → part.posts ≡ []

-- each open poster
abbrev pub HasOpenPosters : Parts → Type 0
HasOpenPosters wiring = (poster : ℕ) (ports : List ℕ) → open_poster wiring poster ≡ Some ports → IsOpenPoster wiring poster ports

-- an open handler is one of the wiring's and has awaits alone, and its ports are the wiring's
pub record IsOpenHandler (wiring : Parts) (handler : ℕ) (listed : List ℕ) : Type 0 where
  pub named : handler < length wiring.handlers
  pub ports : (index port : ℕ) → slice_get listed index ≡ Some port → port < length wiring.ports
  pub silent : list_any is_no_await (actions_of wiring handler) ≡ false

-- each open handler
abbrev pub HasOpenHandlers : Parts → Type 0
HasOpenHandlers wiring = (handler : ℕ) (ports : List ℕ) → open_handler wiring handler ≡ Some ports → IsOpenHandler wiring handler ports

-- how many of each kind there are at most
pub record IsSmall (wiring : Parts) : Type 0 where
  pub budget : is_closed wiring ≡ true → wiring.budget ≤ most_task_posts
  pub queues : length wiring.queues ≤ most_queues
  pub ports : length wiring.ports ≤ most_ports
  pub sets : length wiring.sets ≤ most_sets
  pub causes : length wiring.causes ≤ most_causes
  pub handlers : length wiring.handlers ≤ most_handlers
  pub arbiters : length wiring.arbiters ≤ most_arbiters
  pub branches : length (placements wiring) ≤ most_branches
  pub posters : length wiring.posters ≤ most_posters
  pub posts : posts_in_all wiring.posters ≤ most_script_posts

-- what every valid wiring promises
pub record IsSound (wiring : Parts) : Type 0 where
  pub apart : HasPortsApart wiring
  pub queues : HasQueues wiring
  pub handlers : HasHandlers wiring
  pub groups : HasGroups wiring
  pub pattern_ports : HasPatternPorts wiring
  pub patterns : HasPatternsFilled wiring
  pub actions : HasActionsNamed wiring
  pub few_actions : HasFewActions wiring
  pub site_ports : HasSitePorts wiring
  pub exception_ports : HasExceptionPorts wiring
  pub scripts : HasScriptsNamed wiring
  pub few_spots : HasFewSpots wiring
  pub small : IsSmall wiring
  pub domains : HasDomains wiring
  pub open_posters : HasOpenPosters wiring
  pub open_handlers : HasOpenHandlers wiring
