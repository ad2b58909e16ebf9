-- The card of a task that fired, and the placement of its branch.
use Rattle.std.proofs.Common.{◌≡◌, ℕ, Bool, true, false, List, Option, Some, refl, sym, ap, ◌∙◌}
use Rattle.std.specs.Prelude.{◌==◌, if◌then◌else◌, option_map}
use Rattle.std.specs.Option.{option_map_or}
use Rattle.ccr_base.specs.declared.names.TaskId.{TaskId}
use Rattle.ccr_base.specs.Names.{same_task}
use Rattle.ccr_wiring.specs.declared.parts.Parts.{Parts}
use Rattle.ccr_wiring.specs.Wirings.{Placement, placement, branch_of}
use Rattle.ccr_wiring.specs.Wirings as wirings
use Rattle.ccr_model.specs.declared.history.Event.{Event}
use Rattle.ccr_model.specs.Firings.{Firing, firings, firing_named}
use Rattle.ccr_model.specs.TaskData.{placement_of}
use Rattle.ccr_model.specs.Sites.{root_of}
use Rattle.ccr_model.specs.Tasks.{is_for_queue, is_concurrent}
use Rattle.ccr_model.specs.Legal.{IsLegal}
use Rattle.ccr_model.proofs.Members.{found_among}
use Rattle.ccr_model.proofs.FiringPlacements.{firing_with_placement}
use Rattle.ccr_model.proofs.FiredTasks.{IsFired}
use Rattle.ccr_model.proofs.WhoWasPut.{placement_by}
use Rattle.ccr_ledger.specs.declared.cards.Card.{Card}
use Rattle.ccr_ledger.specs.declared.cards.TaskStage.{TaskStage}
use Rattle.ccr_ledger.specs.Books.{Books, card_at, in_stage, moved}
use Rattle.ccr_ledger.specs.Kept.{KeepsTasks, card_of, is_admitted}
use Rattle.ccr_ledger.proofs.Tables.{card-changed}

-- what stands on the card of a task that fired
pub record CardFacts (w : Parts) (h : List Event) (t : TaskId) (b : Books) : Type 0 where
  pub card : Card
  pub is_card : card_at b.tasks t ≡ Some card
  pub firing : Firing
  pub is_firing : firing_named h t ≡ Some firing
  pub placement : Placement
  pub sits : wirings.placement w (branch_of firing.spot) ≡ Some placement
  pub is_placement : placement_of w h t ≡ Some placement
  pub spot : card.spot ≡ firing.spot
  pub queue : card.queue ≡ placement.branch.queue
  pub domain : card.domain ≡ placement.domain
  pub concurrent : card.concurrent ≡ is_concurrent placement.branch.group
  pub root : card.root ≡ root_of h t
  pub admitted : card.admitted ≡ is_admitted h t

pub CardFacts-fired : (w : Parts) (h : List Event) (t : TaskId) (b : Books) → IsLegal w h → KeepsTasks w h b → IsFired h t → CardFacts w h t b
CardFacts-fired w h t b legal tasks fired =
    let f = fired.0 in
    let with_placement = firing_with_placement w h legal f (found_among (λ (g : Firing). same_task g.task t) (firings h) f fired.1) in
    record {
      card = card_of w h t f;
      is_card = tasks.cards t ∙ ap (option_map (card_of w h t)) fired.1;
      firing = f;
      is_firing = fired.1;
      placement = with_placement.0;
      sits = with_placement.1;
      is_placement = placement_by w h t f fired.1 ∙ with_placement.1;
      spot = refl;
      queue = ap (λ o. option_map_or (λ (s : Placement). s.branch.queue) o 0) with_placement.1;
      domain = ap (λ o. option_map_or (λ (s : Placement). s.domain) o 0) with_placement.1;
      concurrent = ap (λ o. option_map_or (λ (s : Placement). is_concurrent s.branch.group) o false) with_placement.1;
      root = refl;
      admitted = refl;
    }

-- another stage of a card changes nothing of this
pub card_moved : (w : Parts) (h : List Event) (stage : TaskStage) (x : TaskId) (b d : Books) (t : TaskId) → d.tasks ≡ moved stage x b.tasks → CardFacts w h t b → CardFacts w h t d
card_moved w h stage x b d t same facts = of_test (same_task x t) refl
  where
    at : card_at d.tasks t ≡ (if same_task x t then option_map (in_stage stage) (card_at b.tasks t) else card_at b.tasks t)
    at = ap (λ cards. card_at cards t) same ∙ card-changed (in_stage stage) b.tasks x t

    of_test : (is : Bool) → same_task x t ≡ is → CardFacts w h t d
    of_test false other = record {
      card = facts.card;
      is_card = at ∙ rw other facts.is_card;
      firing = facts.firing;
      is_firing = facts.is_firing;
      placement = facts.placement;
      sits = facts.sits;
      is_placement = facts.is_placement;
      spot = facts.spot;
      queue = facts.queue;
      domain = facts.domain;
      concurrent = facts.concurrent;
      root = facts.root;
      admitted = facts.admitted;
    }
    of_test true here = record {
      card = in_stage stage facts.card;
      is_card = at ∙ rw (here, facts.is_card) refl;
      firing = facts.firing;
      is_firing = facts.is_firing;
      placement = facts.placement;
      sits = facts.sits;
      is_placement = facts.is_placement;
      spot = facts.spot;
      queue = facts.queue;
      domain = facts.domain;
      concurrent = facts.concurrent;
      root = facts.root;
      admitted = facts.admitted;
    }

-- one task has one placement
pub same_placement : (s r : Placement) (o : Option Placement) → o ≡ Some s → o ≡ Some r → s ≡ r
same_placement s r o one other = let same : Some s ≡ Some r = sym one ∙ other in cc

-- whether the task is for the queue, by its card
pub for_queue : (w : Parts) (h : List Event) (t : TaskId) (b : Books) (facts : CardFacts w h t b) (q : ℕ) → is_for_queue w h q t ≡ (facts.card.queue == q)
for_queue w h t b facts q = ap (λ o. option_map_or (λ (s : Placement). s.branch.queue == q) o false) facts.is_placement ∙ ap (λ n. n == q) (sym facts.queue)
