-- What the order asks of the tables is what the model says, where they keep what it says.
use Rattle.std.proofs.Common.{◌≡◌, ◌∙◌, ℕ, true, false, List, Option, None, Some, refl, ap}
use Rattle.std.specs.Prelude.{◌==◌, option_map}
use Rattle.std.specs.List.{slice_get}
use Rattle.std.specs.Option.{option_map_or}
use Rattle.std.proofs.lemmas.Option.{slice_get-map}
use Rattle.std.proofs.Common.{sym}
use Rattle.ccr_base.specs.declared.names.TaskId.{TaskId}
use Rattle.ccr_base.specs.declared.names.Spot.{Spot}
use Rattle.ccr_base.specs.Names.{same_spot}
use Rattle.ccr_wiring.specs.declared.parts.Parts.{Parts}
use Rattle.ccr_wiring.specs.Wirings.{Placement, next_site}
use Rattle.ccr_wiring.specs.Valid.{IsValid}
use Rattle.ccr_model.specs.declared.history.Event.{Event}
use Rattle.ccr_model.specs.Firings.{Firing, firing_named}
use Rattle.ccr_model.specs.Tasks.{is_of_domain, is_for_queue}
use Rattle.ccr_model.specs.Sites.{yields_at}
use Rattle.ccr_model.specs.TaskData.{placement_of}
use Rattle.ccr_model.specs.Legal.{IsLegal}
use Rattle.ccr_base.proofs.Booleans.{same_number, eq-self}
use Rattle.ccr_model.proofs.FiredTasks.{placement_fired}
use Rattle.ccr_base.proofs.Options.{some_of}
use Rattle.ccr_ledger.specs.declared.cards.Card.{Card}
use Rattle.ccr_ledger.specs.Books.{Books}
use Rattle.ccr_ledger.specs.Kept.{Keeps, card_of}
use Rattle.ccr_ledger.proofs.TaskCards.{CardFacts-fired}
use Rattle.ccr_ledger.proofs.Telling.{lives_told, room_told, selection_told, cuts_told, may_admit_task_told, drops_told, play_told, made_told, budget_told}
use Rattle.ccr_engine.specs.Parts.{is_in_domain, is_for_queue_in, yields_in}
use Rattle.ccr_engine.specs.Desk.{TablesTell}

module _ (w : Parts) (valid : IsValid w) (h : List Event) (legal : IsLegal w h) (b : Books) (keeps : Keeps w h b) where
  yields_told : (site : Spot) (t : TaskId) → yields_in b site t ≡ yields_at h site t
  yields_told site t = rw (keeps.tasks.cards t) (of_firing (firing_named h t) refl)
    where
      of_firing : (o : Option Firing) → firing_named h t ≡ o → option_map_or (λ (card : Card). same_spot (next_site card.spot) site) (option_map (card_of w h t) o) false ≡ yields_at h site t
      of_firing None at = rw at refl
      of_firing (Some f) at = rw at refl

  domain_told : (domain : ℕ) (t : TaskId) → is_of_domain w h domain t ≡ true → is_in_domain b domain t ≡ true
  domain_told domain t within =
      let found = some_of (λ (s : Placement). s.domain == domain) (placement_of w h t) within in
      let facts = CardFacts-fired w h t b legal keeps.tasks (placement_fired w h t found.0 found.1) in
      let own : facts.card.domain ≡ domain = facts.domain ∙ same_number facts.placement.domain domain (sym (ap (λ o. option_map_or (λ (s : Placement). s.domain == domain) o false) facts.is_placement) ∙ within) in
      rw (facts.is_card, own) (eq-self domain)

  for_queue_told : (queue : ℕ) (t : TaskId) → is_for_queue w h queue t ≡ true → is_for_queue_in b queue t ≡ true
  for_queue_told queue t goes =
      let found = some_of (λ (s : Placement). s.branch.queue == queue) (placement_of w h t) goes in
      let facts = CardFacts-fired w h t b legal keeps.tasks (placement_fired w h t found.0 found.1) in
      let own : facts.card.queue ≡ queue = facts.queue ∙ same_number facts.placement.branch.queue queue (sym (ap (λ o. option_map_or (λ (s : Placement). s.branch.queue == queue) o false) facts.is_placement) ∙ goes) in
      rw (facts.is_card, own) (eq-self queue)

  -- what the order asks of the tables is what the model says, where they keep what it says
  pub TablesTell-keeps : TablesTell w h b
  TablesTell-keeps = record {
    script_posts = keeps.script_posts.script_posts;
    lives_so = lives_told w valid h legal b keeps;
    room_so = room_told w valid h legal b keeps;
    selection_so = selection_told w valid h legal b keeps;
    cuts_so = cuts_told w valid h legal b keeps;
    waits_so = keeps.rows.waiting;
    may_admit_task_so = may_admit_task_told w valid h legal b keeps;
    names = λ index. sym (slice_get-map (λ (entry : TaskId × Card). entry.0) b.tasks index) ∙ ap (λ ts. slice_get ts index) keeps.tasks.names;
    drops_so = drops_told w valid h legal b keeps;
    runs_so = keeps.rows.running;
    play_so = play_told w valid h legal b keeps;
    made_so = made_told w valid h legal b keeps;
    budget_so = budget_told w valid h legal b keeps;
    queued_so = keeps.rows.queued;
    yields_so = yields_told;
    domain_so = domain_told;
    for_queue_so = for_queue_told;
  }
