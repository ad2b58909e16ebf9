-- Numbers that grow event by event.
use Rattle.std.specs.Prelude.{true, ◌≡◌, ◌≤◌, ◌<◌, ◌-◌, ◌^◌, ℕ, ◌+◌, ◌*◌, ◌==◌, Bool, false, nat_lt, List, [], ◌∷◌, ◌++◌, length, filter, replicate, Option, Some, None, option_to_list, if◌then◌else◌}
use Rattle.std.specs.Option.{option_map_or}
use Rattle.ccr_base.specs.Bounds.{most_sites}
use Rattle.ccr_base.specs.declared.names.TaskId.{TaskId}
use Rattle.ccr_base.specs.declared.names.MsgId.{MsgId}
use Rattle.ccr_base.specs.declared.names.Spot.{Spot}
use Rattle.ccr_base.specs.declared.names.Spot.TheVariants.{Branch, Site}
use Rattle.ccr_wiring.specs.declared.parts.Parts.{Parts}
use Rattle.ccr_wiring.specs.Valid.{IsValid}
use Rattle.ccr_wiring.specs.Openness.{is_closed}
use Rattle.ccr_model.specs.declared.history.Event.{Event}
use Rattle.ccr_model.specs.declared.history.Event.TheVariants.{Post, Fire, Put, End}
use Rattle.ccr_model.specs.declared.history.EndHow.{EndHow}
use Rattle.ccr_model.specs.declared.history.EndHow.TheVariants.{Done, Failed, Yield, Shed}
use Rattle.ccr_model.specs.Legal.{IsLegal}
use Rattle.ccr_model.specs.Posts.{posts, posted, taken}
use Rattle.ccr_model.specs.Firings.{firings, fired_at, cut, put, dropped}
use Rattle.ccr_model.specs.Counts.{is_done, is_failed, is_shed, is_yield}
use Rattle.ccr_ledger.specs.declared.cards.Card.{Card}
use Rattle.ccr_ledger.specs.Books.{Books, card_at, more, number}
use Rattle.ccr_ledger.specs.Kept.{Keeps}
use Rattle.ccr_report.specs.declared.counted.Counts.{Counts}
use Rattle.ccr_report.specs.Counted.{IsCounted}

-- what happened how often
pub record Tallies : Type 0 where
  -- at each port how many messages were posted
  pub posted : List ℕ
  -- at the index of each spot how many tasks fired
  pub fired : List ℕ
  -- of each queue how many tasks were put, and how many it dropped
  pub put : List ℕ
  pub dropped : List ℕ
  -- in all: posts, messages that firings took, firings, tasks that they cut, dropped tasks, and ends of each kind
  pub posts : ℕ
  pub taken : ℕ
  pub firings : ℕ
  pub cut : ℕ
  pub drops : ℕ
  pub done : ℕ
  pub failed : ℕ
  pub shed : ℕ
  pub yielded : ℕ

-- each branch has this many indices: its own, and one for each site that it can have
abbrev pub indices_each : ℕ
indices_each = 17

-- as many indices as 256 branches have
abbrev pub all_indices : ℕ
all_indices = 4352

-- the index of a spot; none for a site past the sixteenth
abbrev pub index_of : Spot → Option ℕ
index_of (Branch branch) = Some (branch * indices_each)
index_of (Site branch site) = if nat_lt site most_sites then Some (branch * indices_each + (site + 1)) else None

-- nothing was counted yet
abbrev pub no_tallies : ℕ → ℕ → ℕ → Tallies
no_tallies ports indices queues = record {
  posted = replicate ports 0;
  fired = replicate indices 0;
  put = replicate queues 0;
  dropped = replicate queues 0;
  posts = 0;
  taken = 0;
  firings = 0;
  cut = 0;
  drops = 0;
  done = 0;
  failed = 0;
  shed = 0;
  yielded = 0;
}

-- one more at the index, if there is one
abbrev pub more_at : Option ℕ → List ℕ → List ℕ
more_at None numbers = numbers
more_at (Some index) numbers = more index numbers

-- one more for the queue of the task, by its card
abbrev pub more_for : Books → TaskId → List ℕ → List ℕ
more_for books task numbers = option_map_or (λ (card : Card). more card.queue numbers) (card_at books.tasks task) numbers

-- the same of a task, if there is one
abbrev pub more_if_some : Books → Option TaskId → List ℕ → List ℕ
more_if_some books None numbers = numbers
more_if_some books (Some task) numbers = more_for books task numbers

-- one message more, at this port
abbrev pub after_post : ℕ → Tallies → Tallies
after_post port tallies = record tallies { posted = more port tallies.posted; posts = tallies.posts + 1 }

-- one firing more at the spot, with the messages that it took and the tasks that it cut
abbrev pub after_fire : Spot → List MsgId → List TaskId → Tallies → Tallies
after_fire spot messages cuts tallies = record tallies {
  fired = more_at (index_of spot) tallies.fired;
  taken = tallies.taken + length messages;
  firings = tallies.firings + 1;
  cut = tallies.cut + length cuts;
}

-- one task more at its queue, and one task more that its queue dropped, where it dropped one
abbrev pub after_put : Books → TaskId → Option TaskId → Tallies → Tallies
after_put books task dropped tallies = record tallies {
  put = more_for books task tallies.put;
  dropped = more_if_some books dropped tallies.dropped;
  drops = tallies.drops + length (option_to_list dropped);
}

-- one segment more that ended so
abbrev pub after_end : EndHow → Tallies → Tallies
after_end Done tallies = record tallies { done = tallies.done + 1 }
after_end (Failed value) tallies = record tallies { failed = tallies.failed + 1 }
after_end Yield tallies = record tallies { yielded = tallies.yielded + 1 }
after_end Shed tallies = record tallies { shed = tallies.shed + 1 }

-- what an event makes of the numbers; the queues of its tasks are told by the tables
abbrev pub after_event : Books → Event → Tallies → Tallies
after_event books (Post message) tallies = after_post message.port tallies
after_event books (Fire task spot messages cuts) tallies = after_fire spot messages cuts tallies
after_event books (Put task dropped) tallies = after_put books task dropped tallies
after_event books (End task how) tallies = after_end how tallies
after_event books _ tallies = tallies

-- one more fits each of the numbers
abbrev pub FitOneMore : List ℕ → Type 0
FitOneMore numbers = (k : ℕ) → number numbers k < 2 ^ 64 - 1

-- the law holds where a firing with these messages and cuts fits the numbers
abbrev pub WhereFireFits : List MsgId → List TaskId → Tallies → Type 0 → Type 0
WhereFireFits messages cuts tallies law =
    FitOneMore tallies.fired →
    tallies.taken + length messages < 2 ^ 64 →
    tallies.firings < 2 ^ 64 - 1 →
    tallies.cut + length cuts < 2 ^ 64 →
    law

-- one more event fits all numbers
pub record EventFits (event : Event) (tallies : Tallies) : Type 0 where
  pub posted : FitOneMore tallies.posted
  pub fired : FitOneMore tallies.fired
  pub put : FitOneMore tallies.put
  pub dropped : FitOneMore tallies.dropped
  pub posts : tallies.posts < 2 ^ 64 - 1
  pub taken : tallies.taken + length (taken (event ∷ [])) < 2 ^ 64
  pub firings : tallies.firings < 2 ^ 64 - 1
  pub cut : tallies.cut + length (cut (event ∷ [])) < 2 ^ 64
  pub drops : tallies.drops < 2 ^ 64 - 1
  pub done : tallies.done < 2 ^ 64 - 1
  pub failed : tallies.failed < 2 ^ 64 - 1
  pub shed : tallies.shed < 2 ^ 64 - 1
  pub yielded : tallies.yielded < 2 ^ 64 - 1

-- whether the task's card is on the queue
abbrev pub is_on : Books → ℕ → TaskId → Bool
is_on books queue task = option_map_or (λ (card : Card). card.queue == queue) (card_at books.tasks task) false

-- the numbers are those of the history, where the tables tell the queues of its tasks
pub record AreTallies (ports indices queues : ℕ) (books : Books) (history : List Event) (tallies : Tallies) : Type 0 where
  pub posted_len : length tallies.posted ≡ ports
  pub fired_len : length tallies.fired ≡ indices
  pub put_len : length tallies.put ≡ queues
  pub dropped_len : length tallies.dropped ≡ queues
  pub posted : (k : ℕ) → k < ports → number tallies.posted k ≡ length (posted history k)
  pub fired : (spot : Spot) (index : ℕ) → index_of spot ≡ Some index → index < indices → number tallies.fired index ≡ length (fired_at history spot)
  pub put : (k : ℕ) → k < queues → number tallies.put k ≡ length (filter (is_on books k) (put history))
  pub drops : tallies.drops ≡ length (dropped history)
  pub dropped : (k : ℕ) → k < queues → number tallies.dropped k ≡ length (filter (is_on books k) (dropped history))
  pub posts : tallies.posts ≡ length (posts history)
  pub taken : tallies.taken ≡ length (taken history)
  pub firings : tallies.firings ≡ length (firings history)
  pub cut : tallies.cut ≡ length (cut history)
  pub done : tallies.done ≡ length (filter is_done history)
  pub failed : tallies.failed ≡ length (filter is_failed history)
  pub shed : tallies.shed ≡ length (filter is_shed history)
  pub yielded : tallies.yielded ≡ length (filter is_yield history)

-- no number is greater, but for those of taken messages and cut tasks
pub record AreFew (most : ℕ) (tallies : Tallies) : Type 0 where
  pub posted : (k : ℕ) → number tallies.posted k ≤ most
  pub fired : (k : ℕ) → number tallies.fired k ≤ most
  pub put : (k : ℕ) → number tallies.put k ≤ most
  pub dropped : (k : ℕ) → number tallies.dropped k ≤ most
  pub posts : tallies.posts ≤ most
  pub firings : tallies.firings ≤ most
  pub drops : tallies.drops ≤ most
  pub done : tallies.done ≤ most
  pub failed : tallies.failed ≤ most
  pub shed : tallies.shed ≤ most
  pub yielded : tallies.yielded ≤ most

-- the numbers are those of the history, whichever tables of it tell the queues of its tasks, and none but two is greater than it is long
pub record IsCounting (wiring : Parts) (history : List Event) (tallies : Tallies) : Type 0 where
  pub counted : (books : Books) → Keeps wiring history books → AreTallies (length wiring.ports) all_indices (length wiring.queues) books history tallies
  pub few : AreFew (length history) tallies

-- where the tables and the old numbers are those of a history of a valid closed wiring, and the event may come behind it, the new numbers are those of the history with the event
abbrev pub CountsNext : Parts → List Event → Books → Event → Tallies → Tallies → Type 0
CountsNext wiring history books event old new =
    IsValid wiring →
    is_closed wiring ≡ true →
    Keeps wiring history books →
    IsLegal wiring (history ++ event ∷ []) →
    IsCounting wiring history old →
    IsCounting wiring (history ++ event ∷ []) new

-- the counts are those of each legal history of which the tables and the numbers are
abbrev pub AreCountsBy : Parts → Books → Tallies → Counts → Type 0
AreCountsBy wiring books tallies counts = (history : List Event) → IsLegal wiring history → Keeps wiring history books → IsCounting wiring history tallies → IsCounted wiring history counts
