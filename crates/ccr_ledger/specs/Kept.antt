-- When the tables say of a history what the model says of it.
use Rattle.std.specs.Prelude.{◌≡◌, ℕ, ◌<◌, ◌*◌, ◌==◌, ◌&&◌, ◌||◌, Bool, false, not, List, length, map, filter, option_map, if◌then◌else◌}
use Rattle.std.specs.Option.{option_map_or}
use Rattle.ccr_base.specs.declared.names.TaskId.{TaskId}
use Rattle.ccr_base.specs.declared.names.Spot.{Spot}
use Rattle.ccr_base.specs.declared.names.Spot.TheVariants.{Branch, Site}
use Rattle.ccr_base.specs.Names.{has_task}
use Rattle.ccr_wiring.specs.declared.parts.Parts.{Parts}
use Rattle.ccr_wiring.specs.Wirings.{Placement, placement, placements, branch_of, queue_of_spot, domain_of_spot}
use Rattle.ccr_model.specs.declared.history.Event.{Event}
use Rattle.ccr_model.specs.Posts.{held, posts_of_poster, posts_of_task, posts_of_tasks}
use Rattle.ccr_model.specs.Firings.{Firing, firings, firing_named, fired, fired_at, cut, ever_admitted, put, dropped, started, ended}
use Rattle.ccr_model.specs.Sites.{before, root_of, suspended}
use Rattle.ccr_model.specs.TaskData.{load_of, play_of}
use Rattle.ccr_model.specs.Tasks.{is_teardown, is_concurrent, fired_by, waiting, queued, running, running_by, is_over, admitted as admitted_to, coming as coming_to}
use Rattle.ccr_model.specs.Live.{is_none_of}
use Rattle.ccr_model.specs.Rules.{needs_no_admission, is_concurrent_task}
use Rattle.ccr_ledger.specs.Rows.{row}
use Rattle.ccr_ledger.specs.declared.cards.Card.{Card}
use Rattle.ccr_ledger.specs.declared.cards.TaskStage.{TaskStage}
use Rattle.ccr_ledger.specs.declared.cards.TaskStage.TheVariants as stages
use Rattle.ccr_ledger.specs.Books.{Books, number, flag, card_at, suspended_at, runners, runners_of, sites_each}

-- how far a task that fired at the spot has come
abbrev pub stage_of : Parts → List Event → TaskId → Spot → TaskStage
stage_of wiring history task spot =
    if has_task (ended history) task then stages.Ended else
    if has_task (started history) task then stages.Running else
    if has_task (dropped history) task then stages.Dropped else
    if has_task (put history) task then stages.Queued else
    if has_task (cut history) task then stages.Cut else
    if needs_no_admission wiring spot || has_task (ever_admitted history) task then stages.Ready else stages.Waiting

-- whether the task was admitted and is no root that is over
abbrev pub is_admitted : List Event → TaskId → Bool
is_admitted history task = has_task (ever_admitted history) task && not (is_over history task)

-- whether tasks of the spot's branch run beside others
abbrev pub is_concurrent_at : Parts → Spot → Bool
is_concurrent_at wiring spot = option_map_or (λ (s : Placement). is_concurrent s.branch.group) (placement wiring (branch_of spot)) false

-- what is to be kept of a task that fired so
abbrev pub card_of : Parts → List Event → TaskId → Firing → Card
card_of wiring history task f = record {
  spot = f.spot;
  queue = queue_of_spot wiring f.spot;
  domain = domain_of_spot wiring f.spot;
  concurrent = is_concurrent_at wiring f.spot;
  root = root_of history task;
  number = length (firings (before task history));
  values = (load_of wiring history task).values;
  play = play_of wiring history task;
  stage = stage_of wiring history task f.spot;
  admitted = is_admitted history task;
  made = posts_of_task history task;
}

-- each table has a row for each of its kind
pub record HasSizes (wiring : Parts) (books : Books) : Type 0 where
  pub ports : length books.ports ≡ length wiring.ports
  pub queued : length books.queued ≡ length wiring.queues
  pub waiting : length books.waiting ≡ length wiring.arbiters
  pub suspended : length books.suspended ≡ length (placements wiring) * sites_each
  pub script_posts : length books.script_posts ≡ length wiring.posters
  pub spent : length books.spent ≡ length (placements wiring)
  pub chosen : length books.chosen ≡ length wiring.arbiters
  pub torn : length books.torn ≡ length wiring.arbiters
  pub admitted : length books.admitted ≡ length wiring.arbiters
  pub alone : length books.alone ≡ length wiring.arbiters
  pub coming : length books.coming ≡ length wiring.queues

-- how many posts of its script each poster has made, and how many tasks have made
pub record KeepsScriptPosts (wiring : Parts) (history : List Event) (books : Books) : Type 0 where
  pub script_posts : (poster : ℕ) → poster < length wiring.posters → number books.script_posts poster ≡ posts_of_poster history poster
  pub task_posts : books.task_posts ≡ posts_of_tasks history

-- what each port holds
pub record KeepsPorts (wiring : Parts) (history : List Event) (books : Books) : Type 0 where
  pub ports : (port : ℕ) → port < length wiring.ports → row books.ports port ≡ held history port

-- tasks by their names
pub record KeepsTasks (wiring : Parts) (history : List Event) (books : Books) : Type 0 where
  pub names : map (λ entry. entry.0) books.tasks ≡ fired history
  pub cards : (task : TaskId) → card_at books.tasks task ≡ option_map (card_of wiring history task) (firing_named history task)

-- tasks by their rows
pub record KeepsRows (wiring : Parts) (history : List Event) (books : Books) : Type 0 where
  pub queued : (queue : ℕ) → queue < length wiring.queues → row books.queued queue ≡ queued wiring history queue
  pub waiting : (domain : ℕ) → domain < length wiring.arbiters → row books.waiting domain ≡ waiting wiring history domain
  pub suspended : (branch site : ℕ) → suspended_at books.suspended branch site ≡ suspended history (Site branch site)
  pub running : runners books.running ≡ running history
  pub running_by : (actor : ℕ) → runners_of actor books.running ≡ running_by history actor

-- which branches and domains fired
pub record KeepsFlags (wiring : Parts) (history : List Event) (books : Books) : Type 0 where
  pub spent : (branch : ℕ) → branch < length (placements wiring) → flag books.spent branch ≡ not (is_none_of (fired_at history (Branch branch)))
  pub chosen : (domain : ℕ) → domain < length wiring.arbiters → flag books.chosen domain ≡ not (is_none_of (fired_by wiring (λ s. s.domain == domain) history))
  pub torn : (domain : ℕ) → domain < length wiring.arbiters → flag books.torn domain ≡ not (is_none_of (fired_by wiring (λ s. (s.domain == domain) && is_teardown s.branch.group) history))

-- how many are on their way to each queue, and admitted to each domain
pub record KeepsCounts (wiring : Parts) (history : List Event) (books : Books) : Type 0 where
  pub coming : (queue : ℕ) → queue < length wiring.queues → number books.coming queue ≡ length (coming_to wiring history queue)
  pub admitted : (domain : ℕ) → domain < length wiring.arbiters → number books.admitted domain ≡ length (admitted_to wiring history domain)
  pub alone : (domain : ℕ) → domain < length wiring.arbiters → number books.alone domain ≡ length (filter (λ task. not (is_concurrent_task wiring history task)) (admitted_to wiring history domain))

-- each table says what the model says
pub record Keeps (wiring : Parts) (history : List Event) (books : Books) : Type 0 where
  pub sizes : HasSizes wiring books
  pub script_posts : KeepsScriptPosts wiring history books
  pub ports : KeepsPorts wiring history books
  pub tasks : KeepsTasks wiring history books
  pub rows : KeepsRows wiring history books
  pub flags : KeepsFlags wiring history books
  pub counts : KeepsCounts wiring history books
