-- What each event makes of the tables.
use Rattle.std.specs.Prelude.{ℕ, Bool, true, false, not, List, [], ◌∷◌, ◌++◌, filter, drop, Option, Some, None, replicate, length, ◌*◌, if◌then◌else◌}
use Rattle.std.specs.Option.{option_map_or}
use Rattle.ccr_base.specs.declared.names.TaskId.{TaskId}
use Rattle.ccr_base.specs.Names.{same_task}
use Rattle.ccr_wiring.specs.declared.parts.Parts.{Parts}
use Rattle.ccr_base.specs.declared.names.Spot.{Spot}
use Rattle.ccr_wiring.specs.Wirings.{placements, branch_of, is_branch, segment_of}
use Rattle.ccr_model.specs.declared.history.Event.{Event}
use Rattle.ccr_model.specs.declared.history.Event.TheVariants.{Post, Fire, Admit, Put, Start, End}
use Rattle.ccr_model.specs.declared.history.EndHow.{EndHow}
use Rattle.ccr_model.specs.declared.history.EndHow.TheVariants.{Yield}
use Rattle.ccr_ledger.specs.Rows.{row, with_row, empty_rows}
use Rattle.ccr_ledger.specs.declared.cards.Card.{Card}
use Rattle.ccr_ledger.specs.declared.cards.Runner.{Runner}
use Rattle.ccr_ledger.specs.declared.cards.TaskStage.TheVariants as stages
use Rattle.ccr_ledger.specs.Books.{Books, card_at, changed, moved, more, less, sites_each, suspended_at, with_suspended}
use Rattle.ccr_ledger.specs.Posting.{after_post}
use Rattle.ccr_ledger.specs.Firing.{without_coming, after_fire}

-- the tables of the empty history
abbrev pub empty_books : Parts → Books
empty_books wiring = record {
  ports = empty_rows (length wiring.ports);
  tasks = [];
  queued = empty_rows (length wiring.queues);
  waiting = empty_rows (length wiring.arbiters);
  suspended = empty_rows (length (placements wiring) * sites_each);
  running = [];
  script_posts = replicate (length wiring.posters) 0;
  task_posts = 0;
  spent = replicate (length (placements wiring)) false;
  chosen = replicate (length wiring.arbiters) false;
  torn = replicate (length wiring.arbiters) false;
  admitted = replicate (length wiring.arbiters) 0;
  alone = replicate (length wiring.arbiters) 0;
  coming = replicate (length wiring.queues) 0;
}

-- the card of an admitted root that isn't over
abbrev pub admit_root : Card → Card
admit_root card = record card { stage = stages.Ready; admitted = true }

-- the task of the card is admitted
abbrev pub after_admit : TaskId → Card → Books → Books
after_admit task card books = record books {
  tasks = changed admit_root task books.tasks;
  waiting = with_row books.waiting card.domain (drop 1 (row books.waiting card.domain));
  admitted = more card.domain books.admitted;
  alone = if card.concurrent then books.alone else more card.domain books.alone;
}

-- the card of a root that is over
abbrev pub not_admitted : Card → Card
not_admitted card = record card { admitted = false }

-- the root of the card is over
abbrev pub after_over : TaskId → Card → Books → Books
after_over root card books =
    if card.admitted then record books {
      tasks = changed not_admitted root books.tasks;
      admitted = less card.domain books.admitted;
      alone = if card.concurrent then books.alone else less card.domain books.alone;
    } else books

-- a last segment of the root has ended or was dropped
abbrev pub after_last : TaskId → Books → Books
after_last root books = option_map_or (λ card. after_over root card books) (card_at books.tasks root) books

-- the task, which is the oldest of this queue, leaves it
abbrev pub after_discard : TaskId → Spot → ℕ → Books → Books
after_discard task spot queue books = record books {
  tasks = moved stages.Dropped task books.tasks;
  queued = with_row books.queued queue (drop 1 (row books.queued queue));
  coming = if is_branch spot then less queue books.coming else books.coming;
}

-- the task of the card, which is the oldest of its queue, is dropped
abbrev pub after_drop : TaskId → Card → Books → Books
after_drop task card books = after_last card.root (after_discard task card.spot card.queue books)

-- the dropped one, if any, goes
abbrev pub after_dropped : Option TaskId → Books → Books
after_dropped None books = books
after_dropped (Some task) books = option_map_or (λ card. after_drop task card books) (card_at books.tasks task) books

-- the task of the card becomes the youngest of its queue
abbrev pub after_enter : TaskId → Card → Books → Books
after_enter task card books = record books {
  tasks = moved stages.Queued task books.tasks;
  queued = with_row books.queued card.queue (row books.queued card.queue ++ task ∷ []);
}

-- the task of the card, which is the oldest of its queue, starts
abbrev pub after_start : TaskId → ℕ → Card → Books → Books
after_start task actor card books = record books {
  tasks = moved stages.Running task books.tasks;
  queued = with_row books.queued card.queue (drop 1 (row books.queued card.queue));
  running = books.running ++ record { task = task; actor = actor } ∷ [];
  coming = without_coming card books.coming;
}

-- the task stands no more among those that run
abbrev pub stopped : TaskId → List Runner → List Runner
stopped task running = filter (λ (r : Runner). not (same_task r.task task)) running

-- whether the end is a yield
abbrev pub is_yield : EndHow → Bool
is_yield Yield = true
is_yield _ = false

-- the task of the card runs no more
abbrev pub after_stop : TaskId → Books → Books
after_stop task books = record books { tasks = moved stages.Ended task books.tasks; running = stopped task books.running }

-- the task of the card is suspended
abbrev pub after_yield : TaskId → Card → Books → Books
after_yield task card books = record (after_stop task books) {
  suspended = with_suspended books.suspended (branch_of card.spot) (segment_of card.spot) (suspended_at books.suspended (branch_of card.spot) (segment_of card.spot) ++ task ∷ []);
}

-- the task of the card has ended: it is suspended, or its root is over
abbrev pub after_end : TaskId → EndHow → Card → Books → Books
after_end task how card books = if is_yield how then after_yield task card books else after_last card.root (after_stop task books)

-- after the event
abbrev pub after_event : Parts → Event → Books → Books
after_event wiring (Post message) books = after_post message books
after_event wiring (Fire task spot messages cuts) books = after_fire wiring task spot messages cuts books
after_event wiring (Admit task) books = option_map_or (λ card. after_admit task card books) (card_at books.tasks task) books
after_event wiring (Put task dropped) books = option_map_or (λ card. after_enter task card (after_dropped dropped books)) (card_at books.tasks task) books
after_event wiring (Start task actor) books = option_map_or (λ card. after_start task actor card books) (card_at books.tasks task) books
after_event wiring (End task how) books = option_map_or (λ card. after_end task how card books) (card_at books.tasks task) books
