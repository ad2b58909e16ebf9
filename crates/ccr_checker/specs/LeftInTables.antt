-- What is left to do by the tables, and whether every post was made.
use Rattle.std.specs.Prelude.{ℕ, ◌+◌, Bool, true, false, not, ◌==◌, ◌&&◌, ◌||◌, nat_lt, List, [], ◌∷◌, length}
use Rattle.std.specs.List.{slice_get, list_any}
use Rattle.std.specs.Option.{is_some, option_map_or}
use Rattle.ccr_base.specs.declared.names.TaskId.{TaskId}
use Rattle.ccr_base.specs.declared.names.Spot.{Spot}
use Rattle.ccr_wiring.specs.declared.parts.Parts.{Parts}
use Rattle.ccr_wiring.specs.declared.parts.PosterPart.{PosterPart}
use Rattle.ccr_wiring.specs.declared.parts.ArbiterPart.{ArbiterPart}
use Rattle.ccr_wiring.specs.declared.parts.QueuePart.{QueuePart}
use Rattle.ccr_wiring.specs.Openness.{open_poster}
use Rattle.ccr_wiring.specs.Wirings.{spots}
use Rattle.ccr_model.specs.Live.{is_none_of}
use Rattle.ccr_ledger.specs.Rows.{row}
use Rattle.ccr_ledger.specs.declared.cards.Card.{Card}
use Rattle.ccr_ledger.specs.Books.{Books, number}
use Rattle.ccr_ledger.specs.Asked.{lives, can_choose, room, may_admit_task, is_ready}

-- whether one of the posters, of which the first has this number, has a line of its script left
abbrev pub has_line_left_in : Books → ℕ → List PosterPart → Bool
has_line_left_in books poster [] = false
has_line_left_in books poster (part ∷ parts) = nat_lt (number books.script_posts poster) (length part.posts) || has_line_left_in books (poster + 1) parts

-- whether the spot can fire
abbrev pub can_fire_in : Parts → Books → Spot → Bool
can_fire_in wiring books spot = lives wiring books spot && room wiring books spot && can_choose wiring books spot

-- whether the oldest task that waits in the domain may be admitted
abbrev pub can_admit_in : Books → ℕ → Bool
can_admit_in books domain = option_map_or (may_admit_task books) (slice_get (row books.waiting domain) 0) false

-- whether one of the domains, by the numbers of the arbiters, of which the first has this one, can admit a task
abbrev pub has_admission_in : Books → ℕ → List ArbiterPart → Bool
has_admission_in books domain [] = false
has_admission_in books domain (arbiter ∷ arbiters) = can_admit_in books domain || has_admission_in books (domain + 1) arbiters

-- whether the task that fired after so many others may be put
abbrev pub is_ready_at : Books → ℕ → Bool
is_ready_at books index = option_map_or (λ (entry : TaskId × Card). is_ready books entry.0) (slice_get books.tasks index) false

-- whether some task may be put
abbrev pub has_ready : Books → Bool
has_ready books = list_any (λ (entry : TaskId × Card). is_ready books entry.0) books.tasks

-- whether one of the queues, of which the first has this number, has a queued task
abbrev pub has_queued_in : Books → ℕ → List QueuePart → Bool
has_queued_in books queue [] = false
has_queued_in books queue (part ∷ parts) = not (is_none_of (row books.queued queue)) || has_queued_in books (queue + 1) parts

-- whether nothing is left: no poster has a line left, no spot can fire, no domain can admit, no task may be put, none runs, and none is queued
unfoldable pub is_still_in : Parts → Books → Bool
is_still_in wiring books =
    not (has_line_left_in books 0 wiring.posters)
    && not (list_any (can_fire_in wiring books) (spots wiring))
    && not (has_admission_in books 0 wiring.arbiters)
    && not (has_ready books)
    && (length books.running == 0)
    && not (has_queued_in books 0 wiring.queues)

-- each of the posters, of which the first has this number, has made as many posts as its script has, or is open
abbrev pub are_whole_in : Parts → Books → ℕ → List PosterPart → Bool
are_whole_in wiring books poster [] = true
are_whole_in wiring books poster (part ∷ parts) =
    ((number books.script_posts poster == length part.posts) || is_some (open_poster wiring poster)) && are_whole_in wiring books (poster + 1) parts

-- each poster that isn't open has made its whole script; and where a task was shed, tasks have made exactly as many posts as the budget
abbrev pub is_complete_in : Parts → Books → Bool → Bool
is_complete_in wiring books shed = are_whole_in wiring books 0 wiring.posters && (not shed || (books.task_posts == wiring.budget))
