-- The parts of the order, by the tables.
use Rattle.std.specs.Prelude.{◌≡◌, ℕ, ◌+◌, ◌&&◌, ◌||◌, true, false, nat_le, length, is_some, List, [], ◌∷◌, Option, Some, None, option_map, if◌then◌else◌}
use Rattle.std.specs.List.{slice_get, list_any}
use Rattle.std.specs.Option.{option_or, option_map_or}
use Rattle.std.specs.Prelude.{◌==◌, Bool}
use Rattle.ccr_base.specs.declared.names.TaskId.{TaskId}
use Rattle.ccr_base.specs.declared.messages.Sent.{Sent}
use Rattle.ccr_base.specs.declared.names.Spot.{Spot}
use Rattle.ccr_base.specs.declared.names.Spot.TheVariants.{Branch, Site}
use Rattle.ccr_base.specs.Names.{same_spot}
use Rattle.ccr_base.specs.Lists.{has_number}
use Rattle.ccr_handler.specs.declared.segments.Play.{Play}
use Rattle.ccr_wiring.specs.declared.parts.Parts.{Parts}
use Rattle.ccr_wiring.specs.declared.parts.PosterPart.{PosterPart}
use Rattle.ccr_wiring.specs.declared.parts.ArbiterPart.{ArbiterPart}
use Rattle.ccr_wiring.specs.declared.parts.QueuePart.{QueuePart}
use Rattle.ccr_wiring.specs.Wirings.{placement, site_port, next_site, spots}
use Rattle.ccr_model.specs.declared.history.Event.{Event}
use Rattle.ccr_model.specs.declared.history.Event.TheVariants.{Fire, Admit, Put, Start, End}
use Rattle.ccr_model.specs.declared.history.EndHow.TheVariants as ends
use Rattle.ccr_model.specs.Selection.{names_of}
use Rattle.ccr_model.specs.Firings.{yielded_by, last_by, put_by}
use Rattle.ccr_model.specs.Order.{script_post, task_post, how_of}
use Rattle.ccr_ledger.specs.Rows.{row}
use Rattle.ccr_ledger.specs.declared.cards.Card.{Card}
use Rattle.ccr_ledger.specs.Books.{Books, number, card_at}
use Rattle.ccr_ledger.specs.Asked.{lives, room, selection_at, cuts, may_admit_task, drops, play_in, made_in, budget_lasts}
use Rattle.ccr_engine.specs.Touched.{posts_to, touches_branch, fires_for}
use Rattle.ccr_engine.specs.Numbered.{passes_at}
use Rattle.ccr_engine.specs.Blocked.{is_blocked}

-- the next line of the poster of this number
abbrev pub line_in : Books → ℕ → PosterPart → Option Event
line_in books actor poster = option_map (script_post actor (number books.script_posts actor)) (slice_get poster.posts (number books.script_posts actor))

-- of the posters, of which the first has this number, the next line of the first that has one left
abbrev pub post_in : Books → ℕ → List PosterPart → Option Event
post_in books actor [] = None
post_in books actor (poster ∷ posters) = option_or (line_in books actor poster) (post_in books (actor + 1) posters)

-- the firing of the task at the spot, where it has a selection
abbrev pub choose_in : Parts → TaskId → Books → Spot → Option Event
choose_in wiring task books spot = option_map (λ messages. Fire task spot (names_of messages) (cuts wiring books spot)) (selection_at wiring books spot)

-- the firing of the task at the spot, where it is live, has room and has a selection
abbrev pub fire_in : Parts → TaskId → Books → Spot → Option Event
fire_in wiring task books spot = if lives wiring books spot && room wiring books spot then choose_in wiring task books spot else None

-- at the first of the spots that can fire
abbrev pub first_fire_in : Parts → TaskId → Books → List Spot → Option Event
first_fire_in wiring task books [] = None
first_fire_in wiring task books (spot ∷ more) = option_or (fire_in wiring task books spot) (first_fire_in wiring task books more)

-- the admission of the first task, where it may enter
abbrev pub admit_in : Books → Option TaskId → Option Event
admit_in books None = None
admit_in books (Some task) = if may_admit_task books task then Some (Admit task) else None

-- the admission of the domain's oldest waiting task, where it may enter
abbrev pub admission_in : Books → ℕ → Option Event
admission_in books domain = admit_in books (slice_get (row books.waiting domain) 0)

-- of the domains, of which the first has this number, the first that has a task to admit
abbrev pub first_admit_in : Books → ℕ → List ArbiterPart → Option Event
first_admit_in books domain [] = None
first_admit_in books domain (arbiter ∷ arbiters) = option_or (admit_in books (slice_get (row books.waiting domain) 0)) (first_admit_in books (domain + 1) arbiters)

-- the put of the task of the firing of this number
abbrev pub put_in : Parts → Books → ℕ → Option Event
put_in wiring books index = option_map (λ entry. Put entry.0 (drops wiring books entry.0)) (slice_get books.tasks index)

-- the next post while the budget lasts, else shed; the end of the play where no post is left
abbrev pub run_with_in : Parts → Books → TaskId → Play → Option Sent → Event
run_with_in wiring books task play None = End task (how_of play.end)
run_with_in wiring books task play (Some sent) = if budget_lasts wiring books then task_post task (made_in books task) sent else End task ends.Shed

-- the next event of a running task
abbrev pub run_in : Parts → Books → TaskId → Event
run_in wiring books task = run_with_in wiring books task (play_in books task) (slice_get (play_in books task).posts (made_in books task))

-- the start of the queue's oldest task, by the closer
abbrev pub start_at_in : ℕ → Books → ℕ → Option Event
start_at_in closer books queue = option_map (λ task. Start task closer) (slice_get (row books.queued queue) 0)

-- of the queues, of which the first has this number, the oldest task of the first that has one
abbrev pub start_in : ℕ → Books → ℕ → List QueuePart → Option Event
start_in closer books queue [] = None
start_in closer books queue (part ∷ parts) = option_or (option_map (λ task. Start task closer) (slice_get (row books.queued queue) 0)) (start_in closer books (queue + 1) parts)

-- whether a yield of the task suspends it at the site
abbrev pub yields_in : Books → Spot → TaskId → Bool
yields_in books site task = option_map_or (λ (card : Card). same_spot (next_site card.spot) site) (card_at books.tasks task) false

-- whether the event may let the spot fire, room aside
abbrev pub touches_in : Parts → Books → Event → Spot → Bool
touches_in wiring books event (Branch branch) = option_map_or (touches_branch event) (placement wiring branch) false
touches_in wiring books event (Site branch site) = option_map_or (posts_to event) (site_port wiring branch site) false || list_any (yields_in books (Site branch site)) (yielded_by event)

-- whether the task is of the domain
abbrev pub is_in_domain : Books → ℕ → TaskId → Bool
is_in_domain books domain task = option_map_or (λ (card : Card). domain == card.domain) (card_at books.tasks task) false

-- whether the event may let the domain admit a task
abbrev pub touches_domain_in : Parts → Books → Event → ℕ → Bool
touches_domain_in wiring books event domain = fires_for wiring event domain || list_any (is_in_domain books domain) (last_by event)

-- whether the task is for the queue
abbrev pub is_for_queue_in : Books → ℕ → TaskId → Bool
is_for_queue_in books queue task = option_map_or (λ (card : Card). queue == card.queue) (card_at books.tasks task) false

-- whether the event puts a task into the queue
abbrev pub touches_queue_in : Books → Event → ℕ → Bool
touches_queue_in books event queue = list_any (is_for_queue_in books queue) (put_by event)

-- of the posters, of which the first has this number, none has a line left
abbrev pub are_done_in : Books → ℕ → List PosterPart → Bool
are_done_in books actor [] = true
are_done_in books actor (poster ∷ posters) = nat_le (length poster.posts) (number books.script_posts actor) && are_done_in books (actor + 1) posters

-- whether the spot can fire
abbrev pub fires_in : Parts → TaskId → Books → Spot → Bool
fires_in wiring task books spot = is_some (fire_in wiring task books spot)

-- whether the spot can fire, room aside
abbrev pub could_fire_in : Parts → Books → Spot → Bool
could_fire_in wiring books spot = lives wiring books spot && is_some (selection_at wiring books spot)

-- no spot can fire, room aside, but those at the touched indices and those at the blocked ones
abbrev pub IsStillIn : Parts → Books → List ℕ → List (List ℕ) → Type 0
IsStillIn wiring books touched blocked = (index : ℕ) → has_number touched index ≡ false → is_blocked blocked index ≡ false → passes_at (could_fire_in wiring books) (spots wiring) index ≡ false
