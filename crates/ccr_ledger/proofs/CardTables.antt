-- Over plain cards: the names that stand there, and what is found after several changes.
use Rattle.std.proofs.Common.{◌≡◌, Bool, true, false, ◌||◌, List, [], ◌∷◌, ◌++◌, map, Option, Some, None, refl, sym, ap, ◌∙◌}
use Rattle.std.specs.Prelude.{if◌then◌else◌, option_map}
use Rattle.std.specs.Option.{option_map_or}
use Rattle.ccr_base.specs.declared.names.TaskId.{TaskId}
use Rattle.ccr_base.specs.Names.{same_task, has_task}
use Rattle.ccr_base.proofs.SameNames.{same_task-is, same_task-self, same_task-sym}
use Rattle.ccr_base.proofs.Booleans.{neither}
use Rattle.ccr_base.proofs.Options.{map_map}
use Rattle.ccr_ledger.specs.declared.cards.Card.{Card}
use Rattle.ccr_ledger.specs.declared.cards.TaskStage.{TaskStage}
use Rattle.ccr_ledger.specs.declared.cards.TaskStage.TheVariants as stages
use Rattle.ccr_ledger.specs.Books.{Books, card_at, changed, in_stage, moved, all_moved}
use Rattle.ccr_ledger.specs.Firing.{with_card, cut_card, after_cut, after_cuts}
use Rattle.ccr_ledger.specs.Events.{not_admitted, after_over, after_last}
use Rattle.ccr_ledger.proofs.Tables.{card-changed, unwritten}

-- the names on the cards
abbrev pub names : List (TaskId × Card) → List TaskId
names cards = map (λ (entry : TaskId × Card). entry.0) cards

pub names-changed : (change : Card → Card) (t : TaskId) (cards : List (TaskId × Card)) → names (changed change t cards) ≡ names cards
names-changed change t [] = refl
names-changed change t (e ∷ cards) = of_test (same_task t e.0) (names-changed change t cards)
  where
    of_test : (b : Bool) → names (changed change t cards) ≡ names cards → names (if b then (e.0, change e.1) ∷ cards else e ∷ changed change t cards) ≡ e.0 ∷ names cards
    of_test true rest = refl
    of_test false rest = ap (λ (ts : List TaskId). e.0 ∷ ts) rest

pub names-all_moved : (stage : TaskStage) (ts : List TaskId) (cards : List (TaskId × Card)) → names (all_moved stage ts cards) ≡ names cards
names-all_moved stage [] cards = refl
names-all_moved stage (t ∷ ts) cards = names-all_moved stage ts (moved stage t cards) ∙ names-changed (in_stage stage) t cards

-- a card of a new task stands behind the others
pub names-new : (t : TaskId) (c : Card) (cards : List (TaskId × Card)) → has_task (names cards) t ≡ false → names (with_card t c cards) ≡ names cards ++ t ∷ []
names-new t c [] new = refl
names-new t c (e ∷ cards) new = let parts = neither (same_task t e.0) (has_task (names cards) t) new in rw parts.0 (ap (λ (ts : List TaskId). e.0 ∷ ts) (names-new t c cards parts.1))

pub card-new : (t u : TaskId) (c : Card) (cards : List (TaskId × Card)) → card_at (with_card t c cards) u ≡ (if same_task t u then Some c else card_at cards u)
card-new t u c [] = ap (λ b. if b then Some c else None) (same_task-sym u t)
card-new t u c (e ∷ cards) = of_tests (same_task t e.0) (same_task u e.0) refl refl (card-new t u c cards)
  where
    of_tests : (a b : Bool) → same_task t e.0 ≡ a → same_task u e.0 ≡ b → card_at (with_card t c cards) u ≡ (if same_task t u then Some c else card_at cards u)
        → card_at (if a then (e.0, c) ∷ cards else e ∷ with_card t c cards) u ≡ (if same_task t u then Some c else (if b then Some e.1 else card_at cards u))
    of_tests true true here other rest = let one : t ≡ e.0 = same_task-is t e.0 here in rw (one, same_task-sym e.0 u, other) refl
    of_tests true false here other rest = let one : t ≡ e.0 = same_task-is t e.0 here in rw (one, same_task-sym e.0 u, other) refl
    of_tests false true here other rest = let one : u ≡ e.0 = same_task-is u e.0 other in rw (one, here, same_task-self e.0) refl
    of_tests false false here other rest = rw other rest

-- the change, where it is made to the card of this task
abbrev pub on : TaskId → (Card → Card) → TaskId → Card → Card
on t change u card = if same_task t u then change card else card

pub card-on : (change : Card → Card) (cards : List (TaskId × Card)) (t u : TaskId) → card_at (changed change t cards) u ≡ option_map (on t change u) (card_at cards u)
card-on change cards t u = card-changed change cards t u ∙ of_test (same_task t u) (card_at cards u)
  where
    of_test : (b : Bool) (o : Option Card) → (if b then option_map change o else o) ≡ option_map (λ (card : Card). if b then change card else card) o
    of_test true None = refl
    of_test true (Some c) = refl
    of_test false None = refl
    of_test false (Some c) = refl

pub card-twice : (f g : Card → Card) (cards : List (TaskId × Card)) (t s u : TaskId) → card_at (changed f t (changed g s cards)) u ≡ option_map (λ (card : Card). on t f u (on s g u card)) (card_at cards u)
card-twice f g cards t s u = card-on f (changed g s cards) t u ∙ (ap (option_map (on t f u)) (card-on g cards s u) ∙ map_map (on t f u) (on s g u) (card_at cards u))

-- the card, in the stage where the task is one of these
abbrev pub among : List TaskId → TaskStage → TaskId → Card → Card
among ts stage u card = if has_task ts u then in_stage stage card else card

pub card-all_moved : (stage : TaskStage) (ts : List TaskId) (cards : List (TaskId × Card)) (u : TaskId) → card_at (all_moved stage ts cards) u ≡ option_map (among ts stage u) (card_at cards u)
card-all_moved stage [] cards u = of_card (card_at cards u)
  where
    of_card : (o : Option Card) → o ≡ option_map (λ (card : Card). card) o
    of_card None = refl
    of_card (Some c) = refl
card-all_moved stage (t ∷ ts) cards u =
    card-all_moved stage ts (moved stage t cards) u ∙ (ap (option_map (among ts stage u)) (card-on (in_stage stage) cards t u) ∙ (ap (λ b. option_map (among ts stage u) (option_map (λ (card : Card). if b then in_stage stage card else card) (card_at cards u))) (same_task-sym t u) ∙ of_tests (same_task u t) (has_task ts u) (card_at cards u)))
  where
    of_tests : (a b : Bool) (o : Option Card) → option_map (λ (card : Card). if b then in_stage stage card else card) (option_map (λ (card : Card). if a then in_stage stage card else card) o) ≡ option_map (λ (card : Card). if a || b then in_stage stage card else card) o
    of_tests a b None = refl
    of_tests true true (Some c) = refl
    of_tests true false (Some c) = refl
    of_tests false b (Some c) = refl

-- a change that changes nothing on the card
changed-same : (change : Card → Card) (cards : List (TaskId × Card)) (t : TaskId) (c : Card) → card_at cards t ≡ Some c → change c ≡ c → changed change t cards ≡ cards
changed-same change [] t c at same = refl
changed-same change (e ∷ cards) t c at same = of_test (same_task t e.0) at (changed-same change cards t c)
  where
    of_test : (b : Bool) → (if b then Some e.1 else card_at cards t) ≡ Some c → (card_at cards t ≡ Some c → change c ≡ c → changed change t cards ≡ cards)
        → (if b then (e.0, change e.1) ∷ cards else e ∷ changed change t cards) ≡ e ∷ cards
    of_test true here rest = let one : e.1 ≡ c = cc in ap (λ (card : Card). (e.0, card) ∷ cards) (ap change one ∙ (same ∙ sym one))
    of_test false here rest = ap (λ (es : List (TaskId × Card)). e ∷ es) (rest here same)

-- a root that is over is admitted no more, whether it was or not
pub tasks-last : (r : TaskId) (b : Books) → (after_last r b).tasks ≡ changed not_admitted r b.tasks
tasks-last r b = of_card (card_at b.tasks r) refl
  where
    of_test : (c : Card) (d : Books) (is : Bool) → card_at b.tasks r ≡ Some c → c.admitted ≡ is → d.tasks ≡ changed not_admitted r b.tasks → (if is then d else b).tasks ≡ changed not_admitted r b.tasks
    of_test c d true at is done = done
    of_test c d false at is done = sym (changed-same not_admitted b.tasks r c at (ap (λ a. record c { admitted = a }) (sym is)))

    of_card : (o : Option Card) → card_at b.tasks r ≡ o → (option_map_or (λ card. after_over r card b) o b).tasks ≡ changed not_admitted r b.tasks
    of_card None at = unwritten not_admitted b.tasks r at
    of_card (Some c) at = of_test c (record b { tasks = _; admitted = _; alone = _ }) c.admitted at refl refl

-- the cut ones are moved, whether they have a card or not
tasks-cut : (t : TaskId) (b : Books) → (after_cut t b).tasks ≡ moved stages.Cut t b.tasks
tasks-cut t b = of_card (card_at b.tasks t) refl
  where
    of_card : (o : Option Card) → card_at b.tasks t ≡ o → (option_map_or (λ card. cut_card t card b) o b).tasks ≡ moved stages.Cut t b.tasks
    of_card None at = unwritten (in_stage stages.Cut) b.tasks t at
    of_card (Some c) at = refl

pub tasks-cuts : (ts : List TaskId) (b : Books) → (after_cuts ts b).tasks ≡ all_moved stages.Cut ts b.tasks
tasks-cuts [] b = refl
tasks-cuts (t ∷ ts) b = tasks-cuts ts (after_cut t b) ∙ ap (all_moved stages.Cut ts) (tasks-cut t b)

ports-cut : (t : TaskId) (b : Books) → (after_cut t b).ports ≡ b.ports
ports-cut t b = of_card (card_at b.tasks t)
  where
    of_card : (o : Option Card) → (option_map_or (λ card. cut_card t card b) o b).ports ≡ b.ports
    of_card None = refl
    of_card (Some c) = refl

pub ports-cuts : (ts : List TaskId) (b : Books) → (after_cuts ts b).ports ≡ b.ports
ports-cuts [] b = refl
ports-cuts (t ∷ ts) b = ports-cuts ts (after_cut t b) ∙ ports-cut t b
