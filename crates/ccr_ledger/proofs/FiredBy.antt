-- Who fired by branches of a kind: by his spot, and after one more firing.
use Rattle.std.proofs.Common.{◌≡◌, Bool, true, false, ◌&&◌, List, Some, refl, sym, ◌∙◌, subst}
use Rattle.ccr_base.specs.declared.names.TaskId.{TaskId}
use Rattle.ccr_base.specs.declared.names.Spot.{Spot}
use Rattle.ccr_base.specs.declared.names.Spot.TheVariants.{Branch, Site}
use Rattle.ccr_base.specs.Names.{has_task}
use Rattle.ccr_wiring.specs.declared.parts.Parts.{Parts}
use Rattle.ccr_wiring.specs.Wirings.{Placement, placement, branch_of, is_branch}
use Rattle.ccr_model.specs.declared.history.Event.{Event}
use Rattle.ccr_model.specs.Firings.{Firing, firing_named}
use Rattle.ccr_model.specs.Tasks.{is_branch_where, fired_by}
use Rattle.ccr_model.specs.Legal.{IsLegal}
use Rattle.ccr_model.proofs.Allowing.{OneName-legal}
use Rattle.ccr_base.proofs.Booleans.{refuted, no_both}
use Rattle.ccr_model.proofs.AllowedFirings.{fired_by_has, fired_by_named}

-- a task that fired is one of those of a kind of branches where its spot is one of theirs
pub fired_by-is : (w : Parts) (test : Placement → Bool) (h : List Event) (t : TaskId) (f : Firing) → IsLegal w h → firing_named h t ≡ Some f → has_task (fired_by w test h) t ≡ is_branch_where w test f.spot
fired_by-is w test h t f legal is = of_test (is_branch_where w test f.spot) refl
  where
    never : is_branch_where w test f.spot ≡ false → has_task (fired_by w test h) t ≡ true → ⊥
    never fails among =
        let found = fired_by_named w test h t (OneName-legal w h legal) among in
        let same : Some found.0 ≡ Some f = sym found.1 ∙ is in
        let one : found.0 ≡ f = cc in
        no_both (subst (λ g. is_branch_where w test g.spot ≡ true) one found.2) fails

    of_test : (b : Bool) → is_branch_where w test f.spot ≡ b → has_task (fired_by w test h) t ≡ b
    of_test true passes = fired_by_has w test h t f is passes
    of_test false fails = refuted (has_task (fired_by w test h) t) (never fails)

-- a spot is of a kind of branches where it is a branch of that kind
pub branch-is : (w : Parts) (test : Placement → Bool) (s : Spot) (z : Placement) → placement w (branch_of s) ≡ Some z → is_branch_where w test s ≡ is_branch s && test z
branch-is w test (Branch n) z at = rw at refl
branch-is w test (Site n k) z at = refl
