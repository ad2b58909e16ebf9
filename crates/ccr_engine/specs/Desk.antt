-- All that the order is read from: the tables and what is kept beside them.
use Rattle.std.specs.Prelude.{◌≡◌, ℕ, ◌+◌, max, ◌==◌, ◌<◌, ◌&&◌, ◌||◌, Bool, true, false, not, List, [], length, take, Option, option_map, option_and_then, if◌then◌else◌}
use Rattle.std.specs.List.{slice_get}
use Rattle.std.specs.Option.{option_map_or, option_or}
use Rattle.ccr_base.specs.declared.names.TaskId.{TaskId}
use Rattle.ccr_base.specs.declared.names.Spot.{Spot}
use Rattle.ccr_base.specs.Names.{has_task}
use Rattle.ccr_base.specs.Lists.{has_number}
use Rattle.ccr_wiring.specs.declared.parts.Parts.{Parts}
use Rattle.ccr_wiring.specs.Wirings.{spots as spots_of}
use Rattle.ccr_model.specs.declared.history.Event.{Event}
use Rattle.ccr_model.specs.declared.history.Event.TheVariants.{Fire, Admit, Put}
use Rattle.ccr_model.specs.Firings.{fired}
use Rattle.ccr_model.specs.Posts.{posts_of_poster, posts_of_task}
use Rattle.ccr_model.specs.Sites.{yields_at}
use Rattle.ccr_model.specs.TaskData.{play_of}
use Rattle.ccr_model.specs.Tasks.{waiting, queued, running, is_of_domain, is_for_queue}
use Rattle.ccr_model.specs.Live.{is_live, has_room}
use Rattle.ccr_model.specs.Selection.{engine_selection}
use Rattle.ccr_model.specs.Rules.{cuts_at, may_admit, drop_at, has_budget, needs_no_admission}
use Rattle.ccr_model.specs.Order.{next_attempt}
use Rattle.ccr_ledger.specs.Rows.{row, empty_rows}
use Rattle.ccr_ledger.specs.Books.{Books, number, card_at, runners}
use Rattle.ccr_ledger.specs.Asked.{lives, room, selection_at, cuts, may_admit_task, drops, play_in, made_in, budget_lasts}
use Rattle.ccr_ledger.specs.declared.cards.Card.{Card}
use Rattle.ccr_ledger.specs.Events.{after_event, empty_books}
use Rattle.ccr_ledger.specs.Kept.{Keeps}
use Rattle.ccr_engine.specs.Ready.{AreReady, IsLeastFirst}
use Rattle.ccr_engine.specs.Numbered.{Gains, IsNoneBut, passes_at}
use Rattle.ccr_engine.specs.Cursor.{IsStill, admission, start_at, are_done}
use Rattle.ccr_engine.specs.Blocked.{AreBlocked}
use Rattle.ccr_engine.specs.Candidates.{AreCandidates}
use Rattle.ccr_engine.specs.Engine.{Engine, IsSound}
use Rattle.ccr_engine.specs.Parts.{post_in, first_fire_in, first_admit_in, put_in, run_in, start_in, are_done_in, admission_in, start_at_in, touches_in, touches_domain_in, touches_queue_in, is_in_domain, is_for_queue_in, yields_in}

-- the tables; the closer's next attempt; no poster before this one has a line left; no spots can fire, room aside, but the touched ones and those blocked at their queues; no domains can admit a task but these; the numbers of the tasks that may be put; no queues have a task but these
pub record Desk : Type 0 where
  pub books : Books
  pub attempt : ℕ
  pub poster : ℕ
  pub touched : List ℕ
  pub blocked : List (List ℕ)
  pub domains : List ℕ
  pub ready : List ℕ
  pub queues : List ℕ

-- the desk of the empty history
abbrev pub empty_desk : Parts → Desk
empty_desk wiring = record { books = empty_books wiring; attempt = 0; poster = 0; touched = []; blocked = empty_rows (length wiring.queues); domains = []; ready = []; queues = [] }

-- each says what the model says
pub record Stands (wiring : Parts) (closer : ℕ) (history : List Event) (desk : Desk) : Type 0 where
  pub books : Keeps wiring history desk.books
  pub attempt : desk.attempt ≡ next_attempt closer (fired history)
  pub poster : are_done history 0 (take desk.poster wiring.posters) ≡ true
  pub touched : IsStill wiring history desk.touched desk.blocked
  pub lowest : IsLeastFirst desk.touched
  pub blocked : AreBlocked wiring desk.blocked
  pub domains : IsNoneBut (admission wiring history) (length wiring.arbiters) desk.domains
  pub lowest_domain : IsLeastFirst desk.domains
  pub ready : AreReady wiring history desk.ready
  pub least : IsLeastFirst desk.ready
  pub queues : IsNoneBut (start_at wiring closer history) (length wiring.queues) desk.queues
  pub lowest_queue : IsLeastFirst desk.queues

-- the engine is sound, and the desk says what the model says of its history, where it is current
pub record IsRead (engine : Engine) (desk : Desk) (current : Bool) : Type 0 where
  pub sound : IsSound engine
  pub stands : current ≡ true → Stands engine.wiring engine.closer engine.history desk

-- no poster before the desk's has a line left, no spot can fire, room aside, but those that it holds as touched or blocked, no domain but its own can admit a task, and no queue but its own has one, by the tables
pub record IsIdle (wiring : Parts) (closer : ℕ) (desk : Desk) : Type 0 where
  pub posters : are_done_in desk.books 0 (take desk.poster wiring.posters) ≡ true
  pub spots : AreCandidates wiring desk.books desk.touched desk.blocked
  pub domains : IsNoneBut (admission_in desk.books) (length wiring.arbiters) desk.domains
  pub lowest_domain : IsLeastFirst desk.domains
  pub queues : IsNoneBut (start_at_in closer desk.books) (length wiring.queues) desk.queues
  pub lowest_queue : IsLeastFirst desk.queues

-- the desk past posters, and without spots, domains and queues, that were asked in vain
pub record IsAhead (wiring : Parts) (closer : ℕ) (old new : Desk) : Type 0 where
  pub books : new.books ≡ old.books
  pub attempt : new.attempt ≡ old.attempt
  pub ready : new.ready ≡ old.ready
  pub idle : IsIdle wiring closer new

-- the event that one thread puts first, by the desk
abbrev pub first_in : Parts → ℕ → Desk → Option Event
first_in wiring closer desk =
    option_or (post_in desk.books 0 wiring.posters)
    (option_or (first_fire_in wiring (record { actor = closer; attempt = desk.attempt }) desk.books (spots_of wiring))
    (option_or (first_admit_in desk.books 0 wiring.arbiters)
    (option_or (option_and_then (put_in wiring desk.books) (slice_get desk.ready 0))
    (option_or (option_map (run_in wiring desk.books) (slice_get (runners desk.books.running) 0))
    (start_in closer desk.books 0 wiring.queues)))))

-- what the order asks of the tables is what the model says
pub record TablesTell (wiring : Parts) (history : List Event) (books : Books) : Type 0 where
  pub script_posts : (poster : ℕ) → poster < length wiring.posters → number books.script_posts poster ≡ posts_of_poster history poster
  pub lives_so : (spot : Spot) → lives wiring books spot ≡ is_live wiring history spot
  pub room_so : (spot : Spot) → room wiring books spot ≡ has_room wiring history spot
  pub selection_so : (spot : Spot) → selection_at wiring books spot ≡ engine_selection wiring history spot
  pub cuts_so : (spot : Spot) → cuts wiring books spot ≡ cuts_at wiring history spot
  pub waits_so : (domain : ℕ) → domain < length wiring.arbiters → row books.waiting domain ≡ waiting wiring history domain
  pub may_admit_task_so : (task : TaskId) → may_admit_task books task ≡ may_admit wiring history task
  pub names : (index : ℕ) → option_map (λ entry. entry.0) (slice_get books.tasks index) ≡ slice_get (fired history) index
  pub drops_so : (task : TaskId) → drops wiring books task ≡ drop_at wiring history task
  pub runs_so : runners books.running ≡ running history
  pub play_so : (task : TaskId) → play_in books task ≡ play_of wiring history task
  pub made_so : (task : TaskId) → has_task (running history) task ≡ true → made_in books task ≡ posts_of_task history task
  pub budget_so : budget_lasts wiring books ≡ has_budget wiring history
  pub queued_so : (queue : ℕ) → queue < length wiring.queues → row books.queued queue ≡ queued wiring history queue
  pub yields_so : (site : Spot) (task : TaskId) → yields_in books site task ≡ yields_at history site task
  pub domain_so : (domain : ℕ) (task : TaskId) → is_of_domain wiring history domain task ≡ true → is_in_domain books domain task ≡ true
  pub for_queue_so : (queue : ℕ) (task : TaskId) → is_for_queue wiring history queue task ≡ true → is_for_queue_in books queue task ≡ true

-- the closer's next attempt after the event
abbrev pub after_attempt : ℕ → Event → ℕ → ℕ
after_attempt closer (Fire task spot messages cuts) attempt = if task.actor == closer then max (task.attempt + 1) attempt else attempt
after_attempt closer _ attempt = attempt

-- whether the number is that of the task's firing
abbrev pub is_number_of : Books → TaskId → ℕ → Bool
is_number_of books task index = option_map_or (λ (card : Card). index == card.number) (card_at books.tasks task) false

-- whether the task of the firing of this number may be put after the event
abbrev pub after_ready : Parts → Books → Event → List ℕ → ℕ → Bool
after_ready wiring books (Fire task spot messages cuts) ready index = if needs_no_admission wiring spot then (index == length books.tasks) || has_number ready index else has_number ready index
after_ready wiring books (Admit task) ready index = is_number_of books task index || has_number ready index
after_ready wiring books (Put task dropped) ready index = not (is_number_of books task index) && has_number ready index
after_ready wiring books _ ready index = has_number ready index

-- what the event makes of the desk
pub record Follows (wiring : Parts) (closer : ℕ) (event : Event) (old new : Desk) : Type 0 where
  pub books : new.books ≡ after_event wiring event old.books
  pub attempt : new.attempt ≡ after_attempt closer event old.attempt
  pub poster : new.poster ≡ old.poster
  pub touched : Gains (passes_at (touches_in wiring old.books event) (spots_of wiring)) old.touched new.touched
  pub blocked : new.blocked ≡ old.blocked
  pub domains : Gains (touches_domain_in wiring old.books event) old.domains new.domains
  pub ready : (number : ℕ) → has_number new.ready number ≡ after_ready wiring old.books event old.ready number
  pub least : IsLeastFirst old.ready → IsLeastFirst new.ready
  pub queues : Gains (touches_queue_in old.books event) old.queues new.queues
