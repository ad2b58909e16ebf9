-- No event changes how many rows a table has.
use Rattle.std.proofs.Common.{◌≡◌, ℕ, ◌+◌, Bool, true, false, List, [], ◌∷◌, ◌++◌, length, Option, Some, None, drop, ◌-◌, refl, ap, ◌∙◌, length-set, ◌*◌}
use Rattle.std.specs.Prelude.{if◌then◌else◌, nat_lt}
use Rattle.std.specs.Option.{option_map_or}
use Rattle.ccr_base.specs.declared.names.TaskId.{TaskId}
use Rattle.ccr_base.specs.declared.names.MsgId.{MsgId}
use Rattle.ccr_base.specs.declared.names.MsgId.TheVariants.{Script, Task}
use Rattle.ccr_base.specs.declared.names.Spot.{Spot}
use Rattle.ccr_base.specs.declared.names.Spot.TheVariants.{Branch, Site}
use Rattle.ccr_base.specs.declared.messages.Msg.{Msg}
use Rattle.ccr_base.specs.declared.patterns.Slot.{Slot}
use Rattle.ccr_base.specs.declared.patterns.Pattern.{Pattern}
use Rattle.ccr_base.specs.declared.patterns.Pattern.TheVariants.{Slots, Gather}
use Rattle.ccr_wiring.specs.declared.parts.Parts.{Parts}
use Rattle.ccr_wiring.specs.Wirings.{Placement, placement, site_port, branch_of, is_branch, segment_of}
use Rattle.ccr_model.specs.declared.history.Event.{Event}
use Rattle.ccr_model.specs.declared.history.Event.TheVariants.{Post, Fire, Admit, Put, Start, End}
use Rattle.ccr_model.specs.declared.history.EndHow.{EndHow}
use Rattle.ccr_model.specs.Tasks.{is_interleave, is_teardown}
use Rattle.ccr_ledger.specs.Rows.{row, with_row}
use Rattle.ccr_ledger.specs.declared.cards.Card.{Card}
use Rattle.ccr_ledger.specs.Books.{Books, card_at, more, less, number, raised, sites_each, suspended_at, with_suspended, changed}
use Rattle.ccr_ledger.specs.Posting.{after_post, counted}
use Rattle.ccr_ledger.specs.Taking.{take_slot, take_slots, take_pattern, take_site}
use Rattle.ccr_ledger.specs.Firing.{after_cut, after_cuts, after_wait, after_taking, after_fire, resumed_card}
use Rattle.ccr_ledger.specs.Events.{after_last, after_discard, after_dropped, after_enter, after_stop, after_yield, after_end, after_event, is_yield, not_admitted}
use Rattle.ccr_ledger.specs.Kept.{HasSizes}
use Rattle.ccr_ledger.proofs.Tables.{length-with_row}

-- how many rows each table has
record Sizes : Type 0 where
  ports : ℕ
  queued : ℕ
  waiting : ℕ
  suspended : ℕ
  script_posts : ℕ
  spent : ℕ
  chosen : ℕ
  torn : ℕ
  admitted : ℕ
  alone : ℕ
  coming : ℕ

abbrev sizes_of : Books → Sizes
sizes_of b = record {
  ports = length b.ports;
  queued = length b.queued;
  waiting = length b.waiting;
  suspended = length b.suspended;
  script_posts = length b.script_posts;
  spent = length b.spent;
  chosen = length b.chosen;
  torn = length b.torn;
  admitted = length b.admitted;
  alone = length b.alone;
  coming = length b.coming;
}

-- the second has tables of the sizes of the first
abbrev AreAlike : Books → Books → Type 0
AreAlike b c = sizes_of c ≡ sizes_of b

numbers_if : (b : Bool) (index : ℕ) (numbers : List ℕ) → length (if b then less index numbers else numbers) ≡ length numbers
numbers_if true index numbers = length-set numbers index _
numbers_if false index numbers = refl

numbers_unless : (b : Bool) (index : ℕ) (numbers : List ℕ) → length (if b then numbers else less index numbers) ≡ length numbers
numbers_unless true index numbers = refl
numbers_unless false index numbers = length-set numbers index _

more_unless : (b : Bool) (index : ℕ) (numbers : List ℕ) → length (if b then numbers else more index numbers) ≡ length numbers
more_unless true index numbers = refl
more_unless false index numbers = length-set numbers index _

flags_if : (b : Bool) (index : ℕ) (flags : List Bool) → length (if b then raised index flags else flags) ≡ length flags
flags_if true index flags = length-set flags index true
flags_if false index flags = refl

length-suspended : (rows : List (List TaskId)) (n k : ℕ) (ts : List TaskId) → length (with_suspended rows n k ts) ≡ length rows
length-suspended rows n k ts = of_test (nat_lt k sites_each)
  where
    of_test : (b : Bool) → length (if b then with_row rows (n * sites_each + k) ts else rows) ≡ length rows
    of_test true = length-with_row rows (n * sites_each + k) ts
    of_test false = refl

length-wait : (s : Placement) (t : TaskId) (rows : List (List TaskId)) → length (after_wait s t rows) ≡ length rows
length-wait s t rows = of_tests (is_interleave s.kind) (is_teardown s.branch.group)
  where
    of_tests : (a b : Bool) → length (if a then with_row (if b then with_row rows s.domain [] else rows) s.domain (row (if b then with_row rows s.domain [] else rows) s.domain ++ t ∷ []) else rows) ≡ length rows
    of_tests false b = refl
    of_tests true true = length-with_row (with_row rows s.domain []) s.domain _ ∙ length-with_row rows s.domain []
    of_tests true false = length-with_row rows s.domain _

pub length-take_slots : (slots : List Slot) (ports : List (List Msg)) → length (take_slots slots ports).ports ≡ length ports
length-take_slots [] ports = refl
length-take_slots (slot ∷ slots) ports = length-take_slots slots (take_slot slot ports).ports ∙ length-with_row ports slot.port _

pub length-take_pattern : (p : Pattern) (ms : List MsgId) (ports : List (List Msg)) → length (take_pattern p ms ports).ports ≡ length ports
length-take_pattern (Slots slots) ms ports = length-take_slots slots ports
length-take_pattern (Gather total first second) ms ports = length-with_row _ second _ ∙ length-with_row ports first _

pub length-take_site : (p : Option ℕ) (ports : List (List Msg)) → length (take_site p ports).ports ≡ length ports
length-take_site None ports = refl
length-take_site (Some p) ports = length-with_row ports p _

-- where there is a card, and where there is none
by_card : (b : Books) (o : Option Card) (f : Card → Books) → ((c : Card) → AreAlike b (f c)) → AreAlike b (option_map_or f o b)
by_card b None f alike = refl
by_card b (Some c) f alike = alike c

alike-post : (m : Msg) (b : Books) → AreAlike b (after_post m b)
alike-post m b = of_name m.id
  where
    of_name : (name : MsgId) → AreAlike b (record (counted name b) { ports = with_row b.ports m.port (row b.ports m.port ++ m ∷ []) })
    of_name (Script actor index) i = record (sizes_of b) { ports = length-with_row b.ports m.port (row b.ports m.port ++ m ∷ []) i; script_posts = length-set b.script_posts actor (number b.script_posts actor + 1) i }
    of_name (Task task index) i = record (sizes_of b) { ports = length-with_row b.ports m.port (row b.ports m.port ++ m ∷ []) i }

alike-cut : (t : TaskId) (b : Books) → AreAlike b (after_cut t b)
alike-cut t b = by_card b (card_at b.tasks t) _ (λ c i. record (sizes_of b) { coming = numbers_if (is_branch c.spot) c.queue b.coming i })

alike-cuts : (ts : List TaskId) (b : Books) → AreAlike b (after_cuts ts b)
alike-cuts [] b = refl
alike-cuts (t ∷ ts) b = alike-cuts ts (after_cut t b) ∙ alike-cut t b

alike-taking : (w : Parts) (t : TaskId) (n : ℕ) (ms : List MsgId) (b : Books) (s : Placement) → AreAlike b (after_taking w t n ms b s)
alike-taking w t n ms b s i = record (sizes_of b) {
  ports = length-take_pattern s.branch.pattern ms b.ports i;
  waiting = length-wait s t b.waiting i;
  spent = length-set b.spent n true i;
  chosen = length-set b.chosen s.domain true i;
  torn = flags_if (is_teardown s.branch.group) s.domain b.torn i;
  coming = length-set b.coming s.branch.queue (number b.coming s.branch.queue + 1) i;
}

alike-fire : (w : Parts) (t : TaskId) (s : Spot) (ms : List MsgId) (cs : List TaskId) (b : Books) → AreAlike b (after_fire w t s ms cs b)
alike-fire w t (Branch n) ms cs b = of_placement (placement w n)
  where
    of_placement : (o : Option Placement) → AreAlike b (option_map_or (after_taking w t n ms (after_cuts cs b)) o b)
    of_placement None = refl
    of_placement (Some s) = alike-taking w t n ms (after_cuts cs b) s ∙ alike-cuts cs b
alike-fire w t (Site n k) ms cs b = by_card b (resumed_card b n k) _ (λ c i. record (sizes_of b) { ports = length-take_site (site_port w n k) b.ports i; suspended = length-suspended b.suspended n k (drop 1 (suspended_at b.suspended n k)) i })

alike-last : (r : TaskId) (b : Books) → AreAlike b (after_last r b)
alike-last r b = by_card b (card_at b.tasks r) _ (λ c. of_test c c.admitted)
  where
    of_test : (c : Card) (is : Bool) → AreAlike b (if is then record b { tasks = changed not_admitted r b.tasks; admitted = less c.domain b.admitted; alone = if c.concurrent then b.alone else less c.domain b.alone } else b)
    of_test c true i = record (sizes_of b) { admitted = length-set b.admitted c.domain (number b.admitted c.domain - 1) i; alone = numbers_unless c.concurrent c.domain b.alone i }
    of_test c false i = sizes_of b

alike-discard : (t : TaskId) (s : Spot) (q : ℕ) (b : Books) → AreAlike b (after_discard t s q b)
alike-discard t s q b i = record (sizes_of b) { queued = length-with_row b.queued q (drop 1 (row b.queued q)) i; coming = numbers_if (is_branch s) q b.coming i }

alike-dropped : (d : Option TaskId) (b : Books) → AreAlike b (after_dropped d b)
alike-dropped None b = refl
alike-dropped (Some t) b = by_card b (card_at b.tasks t) _ (λ c. alike-last c.root (after_discard t c.spot c.queue b) ∙ alike-discard t c.spot c.queue b)

alike-end : (t : TaskId) (how : EndHow) (c : Card) (b : Books) → AreAlike b (after_end t how c b)
alike-end t how c b = of_test (is_yield how)
  where
    of_test : (is : Bool) → AreAlike b (if is then after_yield t c b else after_last c.root (after_stop t b))
    of_test true i = record (sizes_of b) { suspended = length-suspended b.suspended (branch_of c.spot) (segment_of c.spot) (suspended_at b.suspended (branch_of c.spot) (segment_of c.spot) ++ t ∷ []) i }
    of_test false i = alike-last c.root (after_stop t b) i

alike-enter : (t : TaskId) (c : Card) (b : Books) → AreAlike b (after_enter t c b)
alike-enter t c b i = record (sizes_of b) { queued = length-with_row b.queued c.queue (row b.queued c.queue ++ t ∷ []) i }

alike-event : (w : Parts) (e : Event) (b : Books) → AreAlike b (after_event w e b)
alike-event w (Post m) b = alike-post m b
alike-event w (Fire t s ms cs) b = alike-fire w t s ms cs b
alike-event w (Admit t) b = by_card b (card_at b.tasks t) _ (λ c i. record (sizes_of b) { waiting = length-with_row b.waiting c.domain (drop 1 (row b.waiting c.domain)) i; admitted = length-set b.admitted c.domain (number b.admitted c.domain + 1) i; alone = more_unless c.concurrent c.domain b.alone i })
alike-event w (Put t d) b = by_card b (card_at b.tasks t) _ (λ c. alike-enter t c (after_dropped d b) ∙ alike-dropped d b)
alike-event w (Start t a) b = by_card b (card_at b.tasks t) _ (λ c i. record (sizes_of b) { queued = length-with_row b.queued c.queue (drop 1 (row b.queued c.queue)) i; coming = numbers_if (is_branch c.spot) c.queue b.coming i })
alike-event w (End t how) b = by_card b (card_at b.tasks t) _ (λ c. alike-end t how c b)

-- no event changes how many rows a table has
pub sizes-event : (w : Parts) (e : Event) (b : Books) → HasSizes w b → HasSizes w (after_event w e b)
sizes-event w e b sizes =
    let alike = alike-event w e b in
    record {
      ports = ap (λ (s : Sizes). s.ports) alike ∙ sizes.ports;
      queued = ap (λ (s : Sizes). s.queued) alike ∙ sizes.queued;
      waiting = ap (λ (s : Sizes). s.waiting) alike ∙ sizes.waiting;
      suspended = ap (λ (s : Sizes). s.suspended) alike ∙ sizes.suspended;
      script_posts = ap (λ (s : Sizes). s.script_posts) alike ∙ sizes.script_posts;
      spent = ap (λ (s : Sizes). s.spent) alike ∙ sizes.spent;
      chosen = ap (λ (s : Sizes). s.chosen) alike ∙ sizes.chosen;
      torn = ap (λ (s : Sizes). s.torn) alike ∙ sizes.torn;
      admitted = ap (λ (s : Sizes). s.admitted) alike ∙ sizes.admitted;
      alone = ap (λ (s : Sizes). s.alone) alike ∙ sizes.alone;
      coming = ap (λ (s : Sizes). s.coming) alike ∙ sizes.coming;
    }
