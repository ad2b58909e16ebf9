-- What the tables say.
use Rattle.std.specs.Prelude.{ℕ, ◌+◌, ◌-◌, ◌*◌, Bool, true, false, ◌==◌, nat_lt, List, [], ◌∷◌, map, filter, Option, slice_set, if◌then◌else◌}
use Rattle.std.specs.List.{slice_get}
use Rattle.std.specs.Map.{lookup}
use Rattle.std.specs.Option.{option_map_or}
use Rattle.ccr_base.specs.Bounds.{most_sites}
use Rattle.ccr_base.specs.declared.names.TaskId.{TaskId}
use Rattle.ccr_base.specs.declared.messages.Msg.{Msg}
use Rattle.ccr_base.specs.Names.{same_task}
use Rattle.ccr_ledger.specs.Rows.{row, with_row}
use Rattle.ccr_ledger.specs.declared.cards.Card.{Card}
use Rattle.ccr_ledger.specs.declared.cards.Runner.{Runner}
use Rattle.ccr_ledger.specs.declared.cards.TaskStage.{TaskStage}

-- what stands where after a history
pub record Books : Type 0 where
  -- of each port the messages that it holds, oldest first
  pub ports : List (List Msg)
  -- the tasks that fired, in order
  pub tasks : List (TaskId × Card)
  -- of each queue the tasks that are queued, oldest first
  pub queued : List (List TaskId)
  -- of each domain the tasks that wait for their admission, oldest first
  pub waiting : List (List TaskId)
  -- of each site the tasks that are suspended, by their ends
  pub suspended : List (List TaskId)
  -- the tasks that run, by their starts
  pub running : List Runner
  -- of each poster how many posts of its script it has made
  pub script_posts : List ℕ
  -- how many posts all tasks have made
  pub task_posts : ℕ
  -- of each branch whether it fired
  pub spent : List Bool
  -- of each domain whether some branch of it fired
  pub chosen : List Bool
  -- of each domain whether a teardown branch of it fired
  pub torn : List Bool
  -- of each domain how many roots were admitted and aren't over
  pub admitted : List ℕ
  -- of each domain how many of those no concurrent branch fired
  pub alone : List ℕ
  -- of each queue how many tasks of branches are on their way to it or queued
  pub coming : List ℕ

-- the number at this index; 0 past the last
abbrev pub number : List ℕ → ℕ → ℕ
number numbers index = option_map_or (λ n. n) (slice_get numbers index) 0

-- the numbers with one more, and one less, at this index
abbrev pub more : ℕ → List ℕ → List ℕ
more index numbers = slice_set numbers index (number numbers index + 1)

-- one less at this index
abbrev pub less : ℕ → List ℕ → List ℕ
less index numbers = slice_set numbers index (number numbers index - 1)

-- the flag at this index; down past the last
abbrev pub flag : List Bool → ℕ → Bool
flag flags index = option_map_or (λ b. b) (slice_get flags index) false

-- the flags with the one at this index up
abbrev pub raised : ℕ → List Bool → List Bool
raised index flags = slice_set flags index true

-- each branch has this many rows for its sites, as no handler has more actions
abbrev pub sites_each : ℕ
sites_each = most_sites

-- the row of the site
abbrev pub suspended_at : List (List TaskId) → ℕ → ℕ → List TaskId
suspended_at rows branch site = if nat_lt site sites_each then row rows (branch * sites_each + site) else []

-- the rows with these tasks in the site's row
abbrev pub with_suspended : List (List TaskId) → ℕ → ℕ → List TaskId → List (List TaskId)
with_suspended rows branch site tasks = if nat_lt site sites_each then with_row rows (branch * sites_each + site) tasks else rows

-- the card of the task, where it fired
abbrev pub card_at : List (TaskId × Card) → TaskId → Option Card
card_at cards task = lookup (same_task task) cards

-- the cards with that of the task changed
abbrev pub changed : (Card → Card) → TaskId → List (TaskId × Card) → List (TaskId × Card)
changed change task [] = []
changed change task (entry ∷ cards) = if same_task task entry.0 then (entry.0, change entry.1) ∷ cards else entry ∷ changed change task cards

-- the card in this stage
abbrev pub in_stage : TaskStage → Card → Card
in_stage stage card = record card { stage = stage }

-- the cards with that of the task in this stage
abbrev pub moved : TaskStage → TaskId → List (TaskId × Card) → List (TaskId × Card)
moved stage task cards = changed (in_stage stage) task cards

-- the cards with those of the tasks in this stage
abbrev pub all_moved : TaskStage → List TaskId → List (TaskId × Card) → List (TaskId × Card)
all_moved stage [] cards = cards
all_moved stage (task ∷ tasks) cards = all_moved stage tasks (moved stage task cards)

-- the tasks that run
abbrev pub runners : List Runner → List TaskId
runners running = map (λ (r : Runner). r.task) running

-- the tasks that the actor started and that run
abbrev pub runners_of : ℕ → List Runner → List TaskId
runners_of actor running = runners (filter (λ (r : Runner). r.actor == actor) running)
