-- Which spots come in after an event, by the indices of what it touches.
use Rattle.std.proofs.Common.{◌≡◌, ◌∙◌, ℕ, Bool, false, List, [], ◌∷◌, Option, None, Some, refl, ap, sym}
use Rattle.std.specs.Prelude.{◌==◌}
use Rattle.std.specs.Option.{option_map_or}
use Rattle.ccr_base.specs.declared.messages.Msg.{Msg}
use Rattle.ccr_base.specs.declared.names.TaskId.{TaskId}
use Rattle.ccr_base.specs.declared.names.Spot.{Spot}
use Rattle.ccr_base.specs.declared.names.Spot.TheVariants.{Branch, Site}
use Rattle.ccr_base.specs.Names.{same_spot}
use Rattle.ccr_wiring.specs.declared.parts.Parts.{Parts}
use Rattle.ccr_wiring.specs.Spots.{pattern_ports}
use Rattle.ccr_wiring.specs.Takers.{takes_from}
use Rattle.ccr_wiring.specs.Wirings.{Placement, placement, site_port, spots, next_site}
use Rattle.ccr_wiring.proofs.Lists.{any_none}
use Rattle.ccr_model.specs.declared.history.Event.{Event}
use Rattle.ccr_model.specs.declared.history.Event.TheVariants.{Post, Fire, Admit, Put, Start, End}
use Rattle.ccr_model.specs.declared.history.EndHow.{EndHow}
use Rattle.ccr_model.specs.declared.history.EndHow.TheVariants.{Done, Failed, Yield, Shed}
use Rattle.ccr_model.specs.Firings.{yielded_by}
use Rattle.ccr_ledger.specs.declared.cards.Card.{Card}
use Rattle.ccr_ledger.specs.Books.{Books, card_at}
use Rattle.ccr_engine.specs.Touched.{posts_to, touches_branch}
use Rattle.ccr_engine.specs.Numbered.{Gains, passes_at}
use Rattle.ccr_engine.specs.Indices.{first_index}
use Rattle.ccr_engine.specs.Parts.{yields_in, touches_in}
use Rattle.ccr_engine.proofs.Gaining.{gains-same, gains-none, passes-same, passes-never}
use Rattle.ccr_engine.proofs.SpotIndices.{spot_once}
use Rattle.std.proofs.Math.Bool.{or-false}

module _ (w : Parts) (b : Books) where
  -- a post touches the spots that take from its port
  posted : (m : Msg) (s : Spot) → touches_in w b (Post m) s ≡ takes_from w m.port s
  posted m (Branch n) = refl
  posted m (Site n k) = or-false _

  -- an event that is no post touches the sites of what it suspends, and no branch
  silent_branch : (e : Event) → ((port : ℕ) → posts_to e port ≡ false) → (n : ℕ) → touches_in w b e (Branch n) ≡ false
  silent_branch e silent n = of_placement (placement w n)
    where
      of_placement : (o : Option Placement) → option_map_or (touches_branch e) o false ≡ false
      of_placement None = refl
      of_placement (Some s) = any_none (posts_to e) (pattern_ports s.branch.pattern) silent

  silent_port : (e : Event) → ((port : ℕ) → posts_to e port ≡ false) → (o : Option ℕ) → option_map_or (posts_to e) o false ≡ false
  silent_port e silent None = refl
  silent_port e silent (Some port) = silent port

  untouched : (e : Event) → ((port : ℕ) → posts_to e port ≡ false) → yielded_by e ≡ [] → (s : Spot) → touches_in w b e s ≡ false
  untouched e silent stays (Branch n) = silent_branch e silent n
  untouched e silent stays (Site n k) = rw (silent_port e silent (site_port w n k), stays) refl

  -- a yield touches its site
  yielded : (t : TaskId) (s : Spot) → touches_in w b (End t Yield) s ≡ yields_in b s t
  yielded t (Site n k) = rw (silent_port (End t Yield) (λ port. refl) (site_port w n k)) (or-false _)
  yielded t (Branch n) = silent_branch (End t Yield) (λ port. refl) n ∙ of_card (card_at b.tasks t)
    where
      of_card : (o : Option Card) → false ≡ option_map_or (λ (card : Card). same_spot (next_site card.spot) (Branch n)) o false
      of_card None = refl
      of_card (Some c) = refl

  -- what a test of spots gains, where another says the same of each spot
  spots_same : (p q : Spot → Bool) (old new : List ℕ) → ((s : Spot) → p s ≡ q s) → Gains (passes_at p (spots w)) old new → Gains (passes_at q (spots w)) old new
  spots_same p q old new same = gains-same (passes_at p (spots w)) (passes_at q (spots w)) old new (passes-same p q (spots w) same)

  spots_none : (p : Spot → Bool) (old : List ℕ) → ((s : Spot) → p s ≡ false) → Gains (passes_at p (spots w)) old old
  spots_none p old never = gains-none (passes_at p (spots w)) old (passes-never p (spots w) never)

  -- after a yield of a task that fired, or of one that never did
  pub yield_known : (t : TaskId) (c : Card) (index : Option ℕ) (old new : List ℕ) → card_at b.tasks t ≡ Some c → index ≡ first_index (same_spot (next_site c.spot)) (spots w) → Gains (λ n. option_map_or (λ one. n == one) index false) old new → Gains (passes_at (λ s. yields_in b s t) (spots w)) old new
  yield_known t c index old new at is gains =
      gains-same (λ n. option_map_or (λ one. n == one) index false) (passes_at (λ s. yields_in b s t) (spots w)) old new
      (λ n. ap (λ o. option_map_or (λ one. n == one) o false) is ∙ (sym (spot_once w (next_site c.spot) n) ∙ passes-same (same_spot (next_site c.spot)) (λ s. yields_in b s t) (spots w) (λ s. rw at refl) n))
      gains

  pub yield_unknown : (t : TaskId) (old : List ℕ) → card_at b.tasks t ≡ None → Gains (passes_at (λ s. yields_in b s t) (spots w)) old old
  yield_unknown t old at = spots_none (λ s. yields_in b s t) old (λ s. rw at refl)

  -- after each event
  pub post_touched : (m : Msg) (old new : List ℕ) → Gains (passes_at (takes_from w m.port) (spots w)) old new → Gains (passes_at (touches_in w b (Post m)) (spots w)) old new
  post_touched m old new = spots_same (takes_from w m.port) (touches_in w b (Post m)) old new (λ s. sym (posted m s))

  none_touched : (e : Event) (old : List ℕ) → ((port : ℕ) → posts_to e port ≡ false) → yielded_by e ≡ [] → Gains (passes_at (touches_in w b e) (spots w)) old old
  none_touched e old silent stays = spots_none (touches_in w b e) old (untouched e silent stays)

  pub end_touched : (t : TaskId) (how : EndHow) (old : List ℕ) → (how ≡ Yield → ⊥) → Gains (passes_at (touches_in w b (End t how)) (spots w)) old old
  end_touched t Done old other = none_touched (End t Done) old (λ port. refl) refl
  end_touched t (Failed value) old other = none_touched (End t (Failed value)) old (λ port. refl) refl
  end_touched t Shed old other = none_touched (End t Shed) old (λ port. refl) refl
  end_touched t Yield old other = absurd (other refl)

  pub other_touched : (e : Event) (old : List ℕ) → ((m : Msg) → e ≡ Post m → ⊥) → ((t : TaskId) (how : EndHow) → e ≡ End t how → ⊥) → Gains (passes_at (touches_in w b e) (spots w)) old old
  other_touched (Post m) old no_post no_end = absurd (no_post m refl)
  other_touched (End t how) old no_post no_end = absurd (no_end t how refl)
  other_touched (Fire t s ms cs) old no_post no_end = none_touched (Fire t s ms cs) old (λ port. refl) refl
  other_touched (Admit t) old no_post no_end = none_touched (Admit t) old (λ port. refl) refl
  other_touched (Put t d) old no_post no_end = none_touched (Put t d) old (λ port. refl) refl
  other_touched (Start t a) old no_post no_end = none_touched (Start t a) old (λ port. refl) refl

  pub yield_touched : (t : TaskId) (old new : List ℕ) → Gains (passes_at (λ s. yields_in b s t) (spots w)) old new → Gains (passes_at (touches_in w b (End t Yield)) (spots w)) old new
  yield_touched t old new = spots_same (λ s. yields_in b s t) (touches_in w b (End t Yield)) old new (λ s. sym (yielded t s))
