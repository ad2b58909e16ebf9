-- What each event makes of the rows of tasks alone.
use Rattle.std.proofs.Common.{◌≡◌, ℕ, Bool, true, false, List, [], ◌∷◌, ◌++◌, drop, Option, Some, None, refl, ap, ◌∙◌}
use Rattle.std.specs.Prelude.{if◌then◌else◌}
use Rattle.std.specs.Option.{option_map_or}
use Rattle.ccr_base.specs.declared.names.TaskId.{TaskId}
use Rattle.ccr_base.specs.declared.names.MsgId.{MsgId}
use Rattle.ccr_base.specs.declared.names.MsgId.TheVariants.{Script, Task}
use Rattle.ccr_base.specs.declared.names.Spot.TheVariants.{Branch, Site}
use Rattle.ccr_base.specs.declared.messages.Msg.{Msg}
use Rattle.ccr_wiring.specs.declared.parts.Parts.{Parts}
use Rattle.ccr_wiring.specs.Wirings.{Placement, placement, branch_of, segment_of}
use Rattle.ccr_model.specs.declared.history.Event.TheVariants.{Fire, Admit, Put, Start, End}
use Rattle.ccr_model.specs.declared.history.EndHow.{EndHow}
use Rattle.ccr_model.specs.declared.history.EndHow.TheVariants.{Yield}
use Rattle.ccr_ledger.specs.Rows.{row, with_row}
use Rattle.ccr_ledger.specs.declared.cards.Card.{Card}
use Rattle.ccr_ledger.specs.declared.cards.Runner.{Runner}
use Rattle.ccr_ledger.specs.Books.{Books, card_at, suspended_at, with_suspended}
use Rattle.ccr_ledger.specs.Posting.{after_post, counted}
use Rattle.ccr_ledger.specs.Firing.{after_cut, after_cuts, after_wait, after_taking, resumed_card}
use Rattle.ccr_ledger.specs.Events.{after_last, after_discard, after_dropped, after_stop, after_yield, after_event, is_yield, stopped}

-- the rows of tasks alone
pub record Rows : Type 0 where
  pub queued : List (List TaskId)
  pub waiting : List (List TaskId)
  pub suspended : List (List TaskId)
  pub running : List Runner

abbrev pub rows_of : Books → Rows
rows_of b = record { queued = b.queued; waiting = b.waiting; suspended = b.suspended; running = b.running }

by_card : (b : Books) (o : Option Card) (f : Card → Books) → ((c : Card) → rows_of (f c) ≡ rows_of b) → rows_of (option_map_or f o b) ≡ rows_of b
by_card b None f same = refl
by_card b (Some c) f same = same c

by_cards : (seen : Rows → Rows) (b : Books) (o : Option Card) (f : Card → Books) → seen (rows_of b) ≡ rows_of b → ((c : Card) → seen (rows_of (f c)) ≡ rows_of b) → seen (rows_of (option_map_or f o b)) ≡ rows_of b
by_cards seen b None f none some = none
by_cards seen b (Some c) f none some = some c

same-cuts : (ts : List TaskId) (b : Books) → rows_of (after_cuts ts b) ≡ rows_of b
same-cuts [] b = refl
same-cuts (t ∷ ts) b = same-cuts ts (after_cut t b) ∙ by_card b (card_at b.tasks t) _ (λ c. refl)

same-last : (r : TaskId) (b : Books) → rows_of (after_last r b) ≡ rows_of b
same-last r b = by_card b (card_at b.tasks r) _ (λ c. of_test b (record b { tasks = _; admitted = _; alone = _ }) c.admitted refl)
  where
    of_test : (b d : Books) (is : Bool) → rows_of d ≡ rows_of b → rows_of (if is then d else b) ≡ rows_of b
    of_test b d true same = same
    of_test b d false same = refl

pub rows-post : (m : Msg) (b : Books) → rows_of (after_post m b) ≡ rows_of b
rows-post m b = of_name m.id
  where
    of_name : (name : MsgId) → rows_of (counted name b) ≡ rows_of b
    of_name (Script actor index) = refl
    of_name (Task task index) = refl

-- a branch's task may wait
pub rows-branch : (w : Parts) (t : TaskId) (n : ℕ) (ms : List MsgId) (cs : List TaskId) (b : Books) (s : Placement) → placement w n ≡ Some s → rows_of (after_event w (Fire t (Branch n) ms cs) b) ≡ record (rows_of b) { waiting = after_wait s t b.waiting }
rows-branch w t n ms cs b s at = rw at (ap (λ (r : Rows). record r { waiting = after_wait s t r.waiting }) (same-cuts cs b))

-- a site's task resumes the first
pub rows-site : (w : Parts) (t : TaskId) (n k : ℕ) (ms : List MsgId) (cs : List TaskId) (b : Books) (c : Card) → resumed_card b n k ≡ Some c → rows_of (after_event w (Fire t (Site n k) ms cs) b) ≡ record (rows_of b) { suspended = with_suspended b.suspended n k (drop 1 (suspended_at b.suspended n k)) }
rows-site w t n k ms cs b c at = rw at refl

pub rows-admit : (w : Parts) (t : TaskId) (b : Books) (c : Card) → card_at b.tasks t ≡ Some c → rows_of (after_event w (Admit t) b) ≡ record (rows_of b) { waiting = with_row b.waiting c.domain (drop 1 (row b.waiting c.domain)) }
rows-admit w t b c at = rw at refl

-- who is dropped leaves his queue
pub rows-dropped : (t : TaskId) (b : Books) (c : Card) → card_at b.tasks t ≡ Some c → rows_of (after_dropped (Some t) b) ≡ record (rows_of b) { queued = with_row b.queued c.queue (drop 1 (row b.queued c.queue)) }
rows-dropped t b c at = rw at (same-last c.root (after_discard t c.spot c.queue b))

-- who is put enters his queue, which the dropped one has left
pub rows-put : (w : Parts) (t : TaskId) (d : Option TaskId) (b : Books) (c : Card) → card_at b.tasks t ≡ Some c → rows_of (after_event w (Put t d) b) ≡ record (rows_of (after_dropped d b)) { queued = with_row (after_dropped d b).queued c.queue (row (after_dropped d b).queued c.queue ++ t ∷ []) }
rows-put w t d b c at = rw at refl

pub rows-start : (w : Parts) (t : TaskId) (a : ℕ) (b : Books) (c : Card) → card_at b.tasks t ≡ Some c → rows_of (after_event w (Start t a) b) ≡ record (rows_of b) { queued = with_row b.queued c.queue (drop 1 (row b.queued c.queue)); running = b.running ++ record { task = t; actor = a } ∷ [] }
rows-start w t a b c at = rw at refl

-- who ends runs no more, and is suspended by a yield
pub rows-yield : (w : Parts) (t : TaskId) (b : Books) (c : Card) → card_at b.tasks t ≡ Some c
    → rows_of (after_event w (End t Yield) b) ≡ record (rows_of b) { running = stopped t b.running; suspended = with_suspended b.suspended (branch_of c.spot) (segment_of c.spot) (suspended_at b.suspended (branch_of c.spot) (segment_of c.spot) ++ t ∷ []) }
rows-yield w t b c at = rw at refl

pub rows-end : (w : Parts) (t : TaskId) (how : EndHow) (b : Books) (c : Card) → card_at b.tasks t ≡ Some c → is_yield how ≡ false → rows_of (after_event w (End t how) b) ≡ record (rows_of b) { running = stopped t b.running }
rows-end w t how b c at not_so = rw (at, not_so) (same-last c.root (after_stop t b))

-- the rows that an event doesn't move
pub rest-branch : (w : Parts) (t : TaskId) (n : ℕ) (ms : List MsgId) (cs : List TaskId) (b : Books) → record (rows_of (after_event w (Fire t (Branch n) ms cs) b)) { waiting = b.waiting } ≡ rows_of b
rest-branch w t n ms cs b = of_placement (placement w n)
  where
    of_placement : (o : Option Placement) → record (rows_of (option_map_or (after_taking w t n ms (after_cuts cs b)) o b)) { waiting = b.waiting } ≡ rows_of b
    of_placement None = refl
    of_placement (Some s) = ap (λ (r : Rows). record r { waiting = b.waiting }) (same-cuts cs b)

pub rest-site : (w : Parts) (t : TaskId) (n k : ℕ) (ms : List MsgId) (cs : List TaskId) (b : Books) → record (rows_of (after_event w (Fire t (Site n k) ms cs) b)) { suspended = b.suspended } ≡ rows_of b
rest-site w t n k ms cs b = by_cards (λ r. record r { suspended = b.suspended }) b (resumed_card b n k) _ refl (λ c. refl)

pub rest-admit : (w : Parts) (t : TaskId) (b : Books) → record (rows_of (after_event w (Admit t) b)) { waiting = b.waiting } ≡ rows_of b
rest-admit w t b = by_cards (λ r. record r { waiting = b.waiting }) b (card_at b.tasks t) _ refl (λ c. refl)

rest-dropped : (d : Option TaskId) (b : Books) → record (rows_of (after_dropped d b)) { queued = b.queued } ≡ rows_of b
rest-dropped None b = refl
rest-dropped (Some t) b = by_cards (λ r. record r { queued = b.queued }) b (card_at b.tasks t) _ refl (λ c. ap (λ (r : Rows). record r { queued = b.queued }) (same-last c.root (after_discard t c.spot c.queue b)))

pub rest-put : (w : Parts) (t : TaskId) (d : Option TaskId) (b : Books) → record (rows_of (after_event w (Put t d) b)) { queued = b.queued } ≡ rows_of b
rest-put w t d b = by_cards (λ r. record r { queued = b.queued }) b (card_at b.tasks t) _ refl (λ c. rest-dropped d b)

pub rest-start : (w : Parts) (t : TaskId) (a : ℕ) (b : Books) → record (rows_of (after_event w (Start t a) b)) { queued = b.queued; running = b.running } ≡ rows_of b
rest-start w t a b = by_cards (λ r. record r { queued = b.queued; running = b.running }) b (card_at b.tasks t) _ refl (λ c. refl)

pub rest-end : (w : Parts) (t : TaskId) (how : EndHow) (b : Books) → record (rows_of (after_event w (End t how) b)) { running = b.running; suspended = b.suspended } ≡ rows_of b
rest-end w t how b = by_cards (λ r. record r { running = b.running; suspended = b.suspended }) b (card_at b.tasks t) _ refl (λ c. of_test c (is_yield how))
  where
    of_test : (c : Card) (is : Bool) → record (rows_of (if is then after_yield t c b else after_last c.root (after_stop t b))) { running = b.running; suspended = b.suspended } ≡ rows_of b
    of_test c true = refl
    of_test c false = ap (λ (r : Rows). record r { running = b.running; suspended = b.suspended }) (same-last c.root (after_stop t b))
