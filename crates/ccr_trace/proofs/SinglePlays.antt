-- What a handler of version 1 posts, and with what it fails, is single where the values that it reads are.
use Rattle.std.proofs.Common.{inl, inr, ◌≡◌, ℕ, false, List, [], ◌∷◌, Option, Some, None, refl, sym, subst}
use Rattle.std.specs.Prelude.{option_map, option_to_list}
use Rattle.std.specs.List.{list_any}
use Rattle.ccr_base.specs.declared.handlers.Action.{Action}
use Rattle.ccr_base.specs.declared.handlers.Action.TheVariants as actions
use Rattle.ccr_base.specs.declared.messages.Sent.{Sent}
use Rattle.ccr_cause.specs.Causes.{with_cause, without_cause}
use Rattle.ccr_handler.specs.declared.segments.Play.{Play}
use Rattle.ccr_handler.specs.declared.segments.PlayEnd.{PlayEnd}
use Rattle.ccr_handler.specs.declared.segments.PlayEnd.TheVariants as plays
use Rattle.ccr_handler.specs.Evaluating.{value_of}
use Rattle.ccr_handler.specs.Playing.{exceptions, play}
use Rattle.ccr_wiring.specs.Versions.{action_is_newer, expr_is_newer}
use Rattle.ccr_model.specs.TaskData.{no_play}
use Rattle.ccr_base.proofs.Booleans.{neither}
use Rattle.ccr_model.proofs.Members.{Among, spread_some}
use Rattle.ccr_trace.specs.Values.{IsSingle}
use Rattle.ccr_trace.proofs.SingleValues.{AreSingle, value_single}

-- each value that the play posts, and the one with which it fails
pub record IsPlaySingle (p : Play) : Type 0 where
  pub posts : (sent : Sent) → Among sent p.posts → IsSingle sent.value
  pub end : (value : List ℕ) → p.end ≡ plays.Failed value → IsSingle value

no_failure : (end : PlayEnd) (value : List ℕ) → end ≡ plays.Done → end ≡ plays.Failed value → ⊥
no_failure end value done failed = cc

no_failure_at : (end : PlayEnd) (site : ℕ) (value : List ℕ) → end ≡ plays.Yield site → end ≡ plays.Failed value → ⊥
no_failure_at end site value yields failed = cc

failed_with : (value other : List ℕ) → plays.Failed value ≡ plays.Failed other → value ≡ other
failed_with value other is = cc

pub no_play_single : IsPlaySingle no_play
no_play_single = record { posts = λ sent is. absurd is; end = λ value is. absurd (no_failure plays.Done value refl is) }

module _ (port_of : ℕ → Option ℕ) where
  exceptions_single : (value : List ℕ) (causes : List ℕ) → IsSingle value → (sent : Sent) → Among sent (exceptions port_of value causes) → IsSingle sent.value
  exceptions_single value causes single sent is = let it = spread_some _ causes sent is in one (port_of it.0) it.2
    where
      one : (o : Option ℕ) → Among sent (option_to_list (option_map (λ port. record { port = port; value = value; causes = [] }) o)) → IsSingle sent.value
      one None there = absurd there
      one (Some port) (inl e) = subst (λ (s : Sent). IsSingle s.value) (sym e) single
      one (Some port) (inr there) = absurd there

  pub play_single : (values : List (List ℕ)) (site : ℕ) (causes : List ℕ) (acts : List Action) → list_any action_is_newer acts ≡ false → AreSingle values → IsPlaySingle (play port_of values site causes acts)
  play_single values site causes [] old single = record { posts = λ sent is. absurd is; end = λ value is. absurd (no_failure plays.Done value refl is) }
  play_single values site causes (actions.Post port expr ∷ acts) old single =
      let two = neither (expr_is_newer expr) (list_any action_is_newer acts) old in
      let rest = play_single values site causes acts two.1 single in
      record { posts = λ sent is. of sent rest (value_single expr values two.0 single) is; end = rest.end }
    where
      of : (sent : Sent) → IsPlaySingle (play port_of values site causes acts) → IsSingle (value_of expr values) → Among sent (record { port = port; value = value_of expr values; causes = causes } ∷ (play port_of values site causes acts).posts) → IsSingle sent.value
      of sent rest first (inl e) = subst (λ (s : Sent). IsSingle s.value) (sym e) first
      of sent rest first (inr is) = rest.posts sent is
  play_single values site causes (actions.Fail expr ∷ acts) old single =
      let first = value_single expr values (neither (expr_is_newer expr) (list_any action_is_newer acts) old).0 single in
      record { posts = exceptions_single (value_of expr values) causes first; end = λ value is. subst IsSingle (failed_with (value_of expr values) value is) first }
  play_single values site causes (actions.Add cause ∷ acts) old single = play_single values site (with_cause causes cause) acts old single
  play_single values site causes (actions.Remove cause ∷ acts) old single = play_single values site (without_cause causes cause) acts old single
  play_single values site causes (actions.Await port ∷ acts) old single = record { posts = λ sent is. absurd is; end = λ value is. absurd (no_failure_at (plays.Yield site) site value refl is) }
