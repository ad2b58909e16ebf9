-- Without awaits every task fires at a branch, and none is suspended.
use Rattle.std.proofs.Common.{◌≡◌, ◌⊎◌, inl, inr, ℕ, true, false, not, List, [], ◌∷◌, ◌++◌, Option, Some, None, refl, ap}
use Rattle.std.specs.List.{slice_get}
use Rattle.std.specs.Option.{option_map_or}
use Rattle.ccr_base.specs.declared.names.TaskId.{TaskId}
use Rattle.ccr_base.specs.declared.names.MsgId.{MsgId}
use Rattle.ccr_base.specs.declared.names.Spot.TheVariants.{Branch, Site}
use Rattle.ccr_base.specs.declared.handlers.Action.{Action}
use Rattle.ccr_base.specs.declared.handlers.Action.TheVariants as actions
use Rattle.ccr_base.specs.Names.{has_task}
use Rattle.ccr_handler.specs.Playing.{play}
use Rattle.ccr_cause.specs.Causes.{with_cause, without_cause}
use Rattle.ccr_wiring.specs.declared.parts.Parts.{Parts}
use Rattle.ccr_wiring.specs.Wirings.{Placement, placement, actions_of, awaited, site_port, exception_port, actions_at}
use Rattle.ccr_model.proofs.Closed.{yield_end}
use Rattle.ccr_model.specs.declared.history.Event.{Event}
use Rattle.ccr_model.specs.declared.history.Event.TheVariants.{Post, Fire, Admit, Put, Start, End}
use Rattle.ccr_model.specs.declared.history.EndHow.TheVariants as ends
use Rattle.ccr_model.specs.Selection.{is_selection, are_oldest}
use Rattle.ccr_model.specs.Posts.{held}
use Rattle.ccr_model.specs.Firings.{Firing, firing_named, yielded, ended, dropped, last_segments}
use Rattle.ccr_model.specs.TaskData.{play_of, load_at}
use Rattle.ccr_model.specs.Tasks.{running, has_post_left}
use Rattle.ccr_model.specs.Rules.{is_new, may_end, ends_so}
use Rattle.ccr_model.specs.Live.{is_live}
use Rattle.ccr_model.specs.Legal.{IsAllowed, IsLegal}
use Rattle.ccr_base.proofs.Booleans.{both, no_both, or_left, or_right, either}
use Rattle.ccr_base.proofs.Options.{some_of}
use Rattle.ccr_model.proofs.PostNames.{along, refused_not}
use Rattle.ccr_model.proofs.OneMoreEvent.{yielded-push}
use Rattle.ccr_model.proofs.AllowedFirings.{FiresSo-allowed}
use Rattle.ccr_model.proofs.Roots.{of_firing, other_firing}
use Rattle.ccr_service.specs.Stillness.{HasNoAwaits}

-- no site is awaited
no_port : (w : Parts) → HasNoAwaits w → (b k port : ℕ) → site_port w b k ≡ Some port → ⊥
no_port w none b k port is = by_placement (placement w b) refl is
  where
    by_placement : (o : Option Placement) → placement w b ≡ o → option_map_or (λ (s : Placement). slice_get (awaited (actions_of w s.branch.handler)) k) o None ≡ Some port → ⊥
    by_placement None at gone = absurd (cc)
    by_placement (Some s) at found = let e = none b s at in absurd (cc (found, ap (λ ps. slice_get ps k) e))

pub no_site_fires : (w : Parts) → HasNoAwaits w → (h : List Event) (t : TaskId) (b k : ℕ) (ms : List MsgId) (cs : List TaskId) → IsAllowed w h (Fire t (Site b k) ms cs) → ⊥
no_site_fires w none h t b k ms cs allowed =
    let a = refused_not (is_new h t) _ _ allowed in
    let c = refused_not (is_live w h (Site b k)) _ _ a.1 in
    let d = refused_not (is_selection w h (Site b k) ms) _ _ c.1 in
    let found = some_of (λ port. are_oldest (held h port) ms) (site_port w b k) d.0 in
    no_port w none b k found.0 found.1

-- each task fired at a branch
abbrev IsAtBranch : Firing → Type 0
IsAtBranch f = (b : ℕ) × (f.spot ≡ Branch b)

abbrev FireAtBranches : List Event → Type 0
FireAtBranches h = (t : TaskId) (f : Firing) → firing_named h t ≡ Some f → IsAtBranch f

at_branches_kept : (w : Parts) → HasNoAwaits w → (h : List Event) (e : Event) → FireAtBranches h → IsAllowed w h e → FireAtBranches (h ++ e ∷ [])
at_branches_kept w none h (Fire x (Branch b) ms cs) known allowed t f is = old_or_new (of_firing h x (Branch b) ms cs t f (FiresSo-allowed w h x (Branch b) ms cs allowed).new_name is)
  where
    old_or_new : (firing_named h t ≡ Some f) ⊎ ((t ≡ x) × (f ≡ record { task = x; spot = Branch b; messages = ms; cuts = cs })) → IsAtBranch f
    old_or_new (inl old) = known t f old
    old_or_new (inr new) = (b, ap (λ (g : Firing). g.spot) new.1)
at_branches_kept w none h (Fire x (Site b k) ms cs) known allowed t f is = absurd (no_site_fires w none h x b k ms cs allowed)
at_branches_kept w none h (Post m) known allowed t f is = known t f (other_firing h (Post m) t f refl is)
at_branches_kept w none h (Admit x) known allowed t f is = known t f (other_firing h (Admit x) t f refl is)
at_branches_kept w none h (Put x d) known allowed t f is = known t f (other_firing h (Put x d) t f refl is)
at_branches_kept w none h (Start x a) known allowed t f is = known t f (other_firing h (Start x a) t f refl is)
at_branches_kept w none h (End x how) known allowed t f is = known t f (other_firing h (End x how) t f refl is)

pub at_branches : (w : Parts) → HasNoAwaits w → (h : List Event) → IsLegal w h → (t : TaskId) (f : Firing) → firing_named h t ≡ Some f → (b : ℕ) × (f.spot ≡ Branch b)
at_branches w none h legal = along w FireAtBranches (at_branches_kept w none) (λ t f is. absurd (cc)) h legal

-- a play without awaits doesn't yield
plays_on : (port_of : ℕ → Option ℕ) (values : List (List ℕ)) (site : ℕ) (causes : List ℕ) (acts : List Action) → awaited acts ≡ [] → ends_so ends.Yield (play port_of values site causes acts).end ≡ false
plays_on port_of values site causes [] none = refl
plays_on port_of values site causes (actions.Post port expr ∷ acts) none = plays_on port_of values site causes acts none
plays_on port_of values site causes (actions.Fail expr ∷ acts) none = refl
plays_on port_of values site causes (actions.Add cause ∷ acts) none = plays_on port_of values site (with_cause causes cause) acts none
plays_on port_of values site causes (actions.Remove cause ∷ acts) none = plays_on port_of values site (without_cause causes cause) acts none
plays_on port_of values site causes (actions.Await port ∷ acts) none = absurd (cc)

no_awaits_at : (w : Parts) → HasNoAwaits w → (b : ℕ) → awaited (actions_at w b) ≡ []
no_awaits_at w none b = by_placement (placement w b) refl
  where
    by_placement : (o : Option Placement) → placement w b ≡ o → awaited (option_map_or (λ (s : Placement). actions_of w s.branch.handler) o []) ≡ []
    by_placement None at = refl
    by_placement (Some s) at = none b s at

no_yield : (w : Parts) → HasNoAwaits w → (h : List Event) → FireAtBranches h → (t : TaskId) → ends_so ends.Yield (play_of w h t).end ≡ false
no_yield w none h known t = by_firing (firing_named h t) refl
  where
    by_firing : (o : Option Firing) → firing_named h t ≡ o → ends_so ends.Yield (play_of w h t).end ≡ false
    by_firing None at = rw at refl
    by_firing (Some f) at = let place = known t f at in rw (at, place.1) (plays_on (exception_port w) (load_at w h place.0 0 t).values 0 (load_at w h place.0 0 t).causes (actions_at w place.0) (no_awaits_at w none place.0))

record Goes (h : List Event) : Type 0 where
  branches : FireAtBranches h
  none_yielded : yielded h ≡ []

yield_refused : (w : Parts) → HasNoAwaits w → (h : List Event) (t : TaskId) → FireAtBranches h → IsAllowed w h (End t ends.Yield) → ⊥
yield_refused w none h t known allowed =
    let a = refused_not (has_task (running h) t) _ _ allowed in
    let b = (refused_not (may_end w h t ends.Yield) _ None a.1).0 in
    let parts = both (not (has_post_left w h t)) (ends_so ends.Yield (play_of w h t).end) (yield_end w h t b) in
    no_both parts.1 (no_yield w none h known t)

yields_kept : (w : Parts) → HasNoAwaits w → (h : List Event) (e : Event) → Goes h → IsAllowed w h e → yielded (h ++ e ∷ []) ≡ []
yields_kept w none h (End t ends.Yield) known allowed = absurd (yield_refused w none h t known.branches allowed)
yields_kept w none h (End t ends.Done) known allowed = rw (yielded-push, known.none_yielded) refl
yields_kept w none h (End t (ends.Failed v)) known allowed = rw (yielded-push, known.none_yielded) refl
yields_kept w none h (End t ends.Shed) known allowed = rw (yielded-push, known.none_yielded) refl
yields_kept w none h (Fire x s ms cs) known allowed = rw (yielded-push, known.none_yielded) refl
yields_kept w none h (Post m) known allowed = rw (yielded-push, known.none_yielded) refl
yields_kept w none h (Admit x) known allowed = rw (yielded-push, known.none_yielded) refl
yields_kept w none h (Put x d) known allowed = rw (yielded-push, known.none_yielded) refl
yields_kept w none h (Start x a) known allowed = rw (yielded-push, known.none_yielded) refl

pub none_yields : (w : Parts) → HasNoAwaits w → (h : List Event) → IsLegal w h → yielded h ≡ []
none_yields w none h legal = (along w Goes (λ g e known allowed. record { branches = at_branches_kept w none g e known.branches allowed; none_yielded = yields_kept w none g e known allowed }) (record { branches = λ t f is. absurd (cc); none_yielded = refl }) h legal).none_yielded

-- who ended was suspended or was its root's last segment
pub ended_last : (h : List Event) (t : TaskId) → yielded h ≡ [] → has_task (ended h) t ≡ true → has_task (last_segments h) t ≡ true
ended_last [] t none is = absurd (cc)
ended_last (End u ends.Yield ∷ h) t none is = absurd (cc)
ended_last (End u ends.Done ∷ h) t none is = either _ _ is _ (λ here. or_left _ _ here) (λ later. or_right _ _ (ended_last h t none later))
ended_last (End u (ends.Failed v) ∷ h) t none is = either _ _ is _ (λ here. or_left _ _ here) (λ later. or_right _ _ (ended_last h t none later))
ended_last (End u ends.Shed ∷ h) t none is = either _ _ is _ (λ here. or_left _ _ here) (λ later. or_right _ _ (ended_last h t none later))
ended_last (Fire x s ms cs ∷ h) t none is = ended_last h t none is
ended_last (Post m ∷ h) t none is = ended_last h t none is
ended_last (Admit x ∷ h) t none is = ended_last h t none is
ended_last (Put x None ∷ h) t none is = ended_last h t none is
ended_last (Put x (Some y) ∷ h) t none is = or_right _ _ (ended_last h t none is)
ended_last (Start x a ∷ h) t none is = ended_last h t none is

pub dropped_last : (h : List Event) (t : TaskId) → has_task (dropped h) t ≡ true → has_task (last_segments h) t ≡ true
dropped_last [] t is = absurd (cc)
dropped_last (End u ends.Yield ∷ h) t is = dropped_last h t is
dropped_last (End u ends.Done ∷ h) t is = or_right _ _ (dropped_last h t is)
dropped_last (End u (ends.Failed v) ∷ h) t is = or_right _ _ (dropped_last h t is)
dropped_last (End u ends.Shed ∷ h) t is = or_right _ _ (dropped_last h t is)
dropped_last (Fire x s ms cs ∷ h) t is = dropped_last h t is
dropped_last (Post m ∷ h) t is = dropped_last h t is
dropped_last (Admit x ∷ h) t is = dropped_last h t is
dropped_last (Put x None ∷ h) t is = dropped_last h t is
dropped_last (Put x (Some y) ∷ h) t is = either _ _ is _ (λ here. or_left _ _ here) (λ later. or_right _ _ (dropped_last h t later))
dropped_last (Start x a ∷ h) t is = dropped_last h t is
