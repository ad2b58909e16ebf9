-- Each firing's branch has a placement.
use Rattle.std.proofs.Common.{◌≡◌, ℕ, inl, inr, true, List, [], ◌∷◌, ◌++◌, Option, Some, None, ap, ◌∙◌, refl, subst}
use Rattle.std.specs.List.{slice_get}
use Rattle.std.specs.Option.{option_map_or}
use Rattle.ccr_base.specs.declared.names.MsgId.{MsgId}
use Rattle.ccr_base.specs.declared.names.Spot.{Spot}
use Rattle.ccr_base.specs.declared.names.Spot.TheVariants.{Branch, Site}
use Rattle.ccr_wiring.specs.declared.parts.Parts.{Parts}
use Rattle.ccr_model.specs.declared.history.Event.{Event}
use Rattle.ccr_model.specs.declared.history.Event.TheVariants.{Post, Fire, Admit, Put, Start, End}
use Rattle.ccr_wiring.specs.Wirings.{Placement, placement, branch_of, site_port, awaited, actions_of}
use Rattle.ccr_model.specs.Firings.{Firing, firings, firing_of}
use Rattle.ccr_model.specs.Live.{is_live}
use Rattle.ccr_model.specs.Posts.{held}
use Rattle.ccr_model.specs.Selection.{is_selection, are_oldest}
use Rattle.ccr_model.specs.Legal.{IsAllowed, IsLegal}
use Rattle.ccr_model.proofs.TakenOnce.{FireFacts-allowed}
use Rattle.ccr_model.proofs.OneMoreEvent.{firings-push}
use Rattle.ccr_model.proofs.LegalParts.{along_legal}
use Rattle.ccr_base.proofs.Options.{some_of}
use Rattle.ccr_model.proofs.Members.{Among, Among-either}

-- a site with a port is of a branch with a placement
pub site_placement : (w : Parts) (b k port : ℕ) → site_port w b k ≡ Some port → (r : Placement) × (placement w b ≡ Some r)
site_placement w b k port is = of_option (placement w b) refl is
  where
    of_option : (o : Option Placement) → placement w b ≡ o → option_map_or (λ (r : Placement). slice_get (awaited (actions_of w r.branch.handler)) k) o None ≡ Some port → (r : Placement) × (placement w b ≡ Some r)
    of_option None at found = absurd (cc)
    of_option (Some r) at found = (r, at)

spot_with_placement : (w : Parts) (h : List Event) (s : Spot) (ms : List MsgId) → is_live w h s ≡ true → is_selection w h s ms ≡ true → (r : Placement) × (placement w (branch_of s) ≡ Some r)
spot_with_placement w h (Branch b) ms live is = let found = some_of _ (placement w b) live in (found.0, found.1)
spot_with_placement w h (Site b k) ms live is = let found = some_of (λ port. are_oldest (held h port) ms) (site_port w b k) is in site_placement w b k found.0 found.1

new_placement : (w : Parts) (h : List Event) (e : Event) (f : Firing) → IsAllowed w h e → Among f (firing_of e) → (r : Placement) × (placement w (branch_of f.spot) ≡ Some r)
new_placement w h (Fire t s ms cs) f allowed (inl same) =
    let facts = FireFacts-allowed w h t s ms cs allowed in
    let found = spot_with_placement w h s ms facts.live facts.selection_made in
    (found.0, ap (λ (g : Firing). placement w (branch_of g.spot)) same ∙ found.1)
new_placement w h (Fire t s ms cs) f allowed (inr more) = absurd more
new_placement w h (Post m) f allowed among = absurd among
new_placement w h (Admit t) f allowed among = absurd among
new_placement w h (Put t d) f allowed among = absurd among
new_placement w h (Start t a) f allowed among = absurd among
new_placement w h (End t how) f allowed among = absurd among

pub firing_with_placement : (w : Parts) (h : List Event) → IsLegal w h → (f : Firing) → Among f (firings h) → (r : Placement) × (placement w (branch_of f.spot) ≡ Some r)
firing_with_placement w = along_legal w (λ g. (f : Firing) → Among f (firings g) → (r : Placement) × (placement w (branch_of f.spot) ≡ Some r)) kept (λ f among. absurd among)
  where
    kept : (h : List Event) (e : Event) → IsLegal w h → IsAllowed w h e → ((f : Firing) → Among f (firings h) → (r : Placement) × (placement w (branch_of f.spot) ≡ Some r)) → (f : Firing) → Among f (firings (h ++ e ∷ [])) → (r : Placement) × (placement w (branch_of f.spot) ≡ Some r)
    kept h e legal allowed all f among = elim (Among-either f (firings h) (firing_of e) (subst (λ fs. Among f fs) (firings-push h e) among)) [ inl old ↦ all f old | inr new ↦ new_placement w h e f allowed new ]
