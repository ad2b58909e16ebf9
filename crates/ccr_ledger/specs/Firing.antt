-- What a firing makes of the tables.
use Rattle.std.specs.Prelude.{ℕ, suc, false, List, [], ◌∷◌, ◌++◌, length, drop, Option, option_and_then, if◌then◌else◌}
use Rattle.std.specs.List.{slice_get}
use Rattle.std.specs.Option.{option_map_or}
use Rattle.indexmap.specs.IndexMap.{insert_entry}
use Rattle.ccr_base.specs.declared.names.TaskId.{TaskId}
use Rattle.ccr_base.specs.declared.messages.Msg.{Msg}
use Rattle.ccr_base.specs.declared.names.MsgId.{MsgId}
use Rattle.ccr_base.specs.declared.names.Spot.{Spot}
use Rattle.ccr_base.specs.declared.names.Spot.TheVariants.{Branch, Site}
use Rattle.ccr_base.specs.Names.{same_task}
use Rattle.ccr_wiring.specs.declared.parts.Parts.{Parts}
use Rattle.ccr_wiring.specs.Wirings.{Placement, placement, site_port, is_branch}
use Rattle.ccr_model.specs.TaskData.{Load, no_load, play_at, with_messages}
use Rattle.ccr_model.specs.Tasks.{is_interleave, is_teardown, is_concurrent}
use Rattle.ccr_ledger.specs.Rows.{row, with_row}
use Rattle.ccr_ledger.specs.declared.cards.Card.{Card}
use Rattle.ccr_ledger.specs.declared.cards.TaskStage.{TaskStage}
use Rattle.ccr_ledger.specs.declared.cards.TaskStage.TheVariants.{Waiting, Ready, Cut}
use Rattle.ccr_ledger.specs.Books.{Books, card_at, moved, more, less, raised, suspended_at, with_suspended}
use Rattle.ccr_ledger.specs.Taking.{Takes, take_pattern, take_site}

-- the cards with this one for the task, which has none
abbrev pub with_card : TaskId → Card → List (TaskId × Card) → List (TaskId × Card)
with_card task card cards = insert_entry same_task cards task card

-- the counts of those that are on their way, without one that a branch fired
abbrev pub without_coming : Card → List ℕ → List ℕ
without_coming card coming = if is_branch card.spot then less card.queue coming else coming

-- the task of the card is cut: it comes to no queue
abbrev pub cut_card : TaskId → Card → Books → Books
cut_card task card books = record books { tasks = moved Cut task books.tasks; coming = without_coming card books.coming }

-- the task is cut
abbrev pub after_cut : TaskId → Books → Books
after_cut task books = option_map_or (λ card. cut_card task card books) (card_at books.tasks task) books

-- one after the other
abbrev pub after_cuts : List TaskId → Books → Books
after_cuts [] books = books
after_cuts (task ∷ tasks) books = after_cuts tasks (after_cut task books)

-- the rows without those that a firing of the branch cuts
abbrev pub after_clear : Placement → List (List TaskId) → List (List TaskId)
after_clear s waiting = if is_teardown s.branch.group then with_row waiting s.domain [] else waiting

-- a task that a branch of the Interleave fired waits; one of a teardown branch alone, as those before it are cut
abbrev pub after_wait : Placement → TaskId → List (List TaskId) → List (List TaskId)
after_wait s task waiting = if is_interleave s.kind then with_row (after_clear s waiting) s.domain (row (after_clear s waiting) s.domain ++ task ∷ []) else waiting

-- where the task of a firing at the branch stands first
abbrev pub first_stage : Placement → TaskStage
first_stage s = if is_interleave s.kind then Waiting else Ready

-- the card of a task that the branch fires, which so many fired before, with what it starts with
abbrev pub branch_card : Parts → TaskId → ℕ → Placement → ℕ → Load → Card
branch_card wiring task branch s fired_before load = record {
  spot = Branch branch;
  queue = s.branch.queue;
  domain = s.domain;
  concurrent = is_concurrent s.branch.group;
  root = task;
  number = fired_before;
  values = load.values;
  play = play_at wiring branch 0 load;
  stage = first_stage s;
  admitted = false;
  made = 0;
}

-- the same card where the task starts with what it takes from the ports, the messages of these names
abbrev pub first_card : Parts → TaskId → ℕ → Placement → ℕ → List MsgId → List (List Msg) → Card
first_card wiring task branch s fired_before names ports = branch_card wiring task branch s fired_before (with_messages no_load (take_pattern s.branch.pattern names ports).messages)

-- the tables of the arbiter's and the branch's firings
abbrev pub after_flags : ℕ → Placement → Books → Books
after_flags branch s books = record books {
  spent = raised branch books.spent;
  chosen = raised s.domain books.chosen;
  torn = if is_teardown s.branch.group then raised s.domain books.torn else books.torn;
}

-- the task of the card, which the branch fired, stands in the tables
abbrev pub after_new : TaskId → Card → Placement → Books → Books
after_new task card s books = record books {
  tasks = with_card task card books.tasks;
  waiting = after_wait s task books.waiting;
  coming = more s.branch.queue books.coming;
}

-- the branch fires the task, which takes these messages and leaves these ports
abbrev pub after_branch : Parts → TaskId → ℕ → Placement → Takes → Books → Books
after_branch wiring task branch s takes books =
    after_flags branch s (after_new task (branch_card wiring task branch s (length books.tasks) (with_messages no_load takes.messages)) s (record books { ports = takes.ports }))

-- the branch fires the task, which takes the messages of these names, after the cuts
abbrev pub after_taking : Parts → TaskId → ℕ → List MsgId → Books → Placement → Books
after_taking wiring task branch messages books s = after_branch wiring task branch s (take_pattern s.branch.pattern messages books.ports) books

-- the card of a task that the site fires, which goes on for the task of the card
abbrev pub site_card : Parts → ℕ → ℕ → Card → ℕ → Load → Card
site_card wiring branch site card fired_before load = record card {
  spot = Site branch site;
  number = fired_before;
  values = load.values;
  play = play_at wiring branch (suc site) load;
  stage = Ready;
  admitted = false;
  made = 0;
}

-- what the task of the card leaves to the next
abbrev pub load_left : Card → Load
load_left card = record { values = card.values; causes = card.play.causes }

-- the card of a task that the site fires, with what it takes from the ports and what the task of the card left to it
abbrev pub next_card : Parts → ℕ → ℕ → Card → ℕ → List (List Msg) → Card
next_card wiring branch site card fired_before ports = site_card wiring branch site card fired_before (with_messages (load_left card) (take_site (site_port wiring branch site) ports).messages)

-- the site fires the task, which goes on for the task of the card
abbrev pub after_site : Parts → TaskId → ℕ → ℕ → Card → Takes → Books → Books
after_site wiring task branch site card takes books = record books {
  ports = takes.ports;
  tasks = with_card task (site_card wiring branch site card (length books.tasks) (with_messages (load_left card) takes.messages)) books.tasks;
  suspended = with_suspended books.suspended branch site (drop 1 (suspended_at books.suspended branch site));
}

-- the card of the first task that is suspended at the site
abbrev pub resumed_card : Books → ℕ → ℕ → Option Card
resumed_card books branch site = option_and_then (card_at books.tasks) (slice_get (suspended_at books.suspended branch site) 0)

-- the site fires the task, which goes on for the first that is suspended there
abbrev pub after_next : Parts → TaskId → ℕ → ℕ → Books → Books
after_next wiring task branch site books =
    option_map_or (λ card. after_site wiring task branch site card (take_site (site_port wiring branch site) books.ports) books) (resumed_card books branch site) books

-- after a firing at the spot
abbrev pub after_fire : Parts → TaskId → Spot → List MsgId → List TaskId → Books → Books
after_fire wiring task (Branch branch) messages cuts books =
    option_map_or (after_taking wiring task branch messages (after_cuts cuts books)) (placement wiring branch) books
after_fire wiring task (Site branch site) messages cuts books = after_next wiring task branch site books
