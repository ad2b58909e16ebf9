-- What a task of a generated wiring posts: one message, and its firing was worth it.
use Rattle.std.proofs.Common.{◌≡◌, ℕ, zero, suc, ◌+◌, ◌≤◌, List, [], length, Option, Some, None, refl, sym, ap, ◌∙◌, subst, arith}
use Rattle.std.specs.List.{slice_get}
use Rattle.std.specs.Option.{option_map_or, option_map}
use Rattle.ccr_base.specs.declared.names.Spot.{Spot}
use Rattle.ccr_base.specs.declared.names.Spot.TheVariants.{Branch, Site}
use Rattle.ccr_base.specs.declared.names.TaskId.{TaskId}
use Rattle.ccr_base.specs.declared.messages.Sent.{Sent}
use Rattle.ccr_base.specs.declared.handlers.Action.{Action}
use Rattle.ccr_handler.specs.Playing.{play, actions_from}
use Rattle.ccr_handler.proofs.LaterSegments.{actions_from-past}
use Rattle.ccr_wiring.specs.Wirings.{branch_of, segment_of, exception_port, actions_at}
use Rattle.ccr_model.specs.declared.history.Event.{Event}
use Rattle.ccr_model.specs.Firings.{Firing, firing_named}
use Rattle.ccr_model.specs.TaskData.{Load, play_at, load_at, play_of, no_play}
use Rattle.ccr_gen.specs.Generated.{generated}
use Rattle.ccr_gen.specs.Weights.{weight, value}

record Pays (spot : Spot) (index : ℕ) (sent : Sent) : Type 0 where
  first : index ≡ 0
  worth : 2 + weight sent.port ≤ value spot

-- in an empty list nothing stands
pub none_at : {X : Type 0} (index : ℕ) (x : X) (C : Type 0) → slice_get {X = X} [] index ≡ Some x → C
none_at index x C is = absurd cc

worth_of : (port worth : ℕ) (x sent : Sent) → Some x ≡ Some sent → x.port ≡ port → 2 + weight port ≤ worth → 2 + weight sent.port ≤ worth
worth_of port worth x sent is at less =
    let same : x ≡ sent = cc in
    let there : sent.port ≡ port = ap (λ (s : Sent). s.port) (sym same) ∙ at in
    rw there less

few_actions : (size branch : ℕ) → length (actions_at (generated size) branch) ≤ 1
few_actions size zero = omega arith
few_actions size (suc zero) = omega arith
few_actions size (suc (suc zero)) = omega arith
few_actions size (suc (suc (suc branch))) = omega arith

pays : (size : ℕ) (spot : Spot) (load : Load) (index : ℕ) (sent : Sent) → slice_get (play_at (generated size) (branch_of spot) (segment_of spot) load).posts index ≡ Some sent → Pays spot index sent
pays size (Site branch site) load index sent is =
    let past : actions_from (suc site) (actions_at (generated size) branch) ≡ [] = actions_from-past (suc site) (actions_at (generated size) branch) (omega (arith, few_actions size branch)) in
    let none : slice_get (play (exception_port (generated size)) load.values (suc site) load.causes []).posts index ≡ Some sent = subst (λ (actions : List Action). slice_get (play (exception_port (generated size)) load.values (suc site) load.causes actions).posts index ≡ Some sent) past is in
    none_at index sent _ none
pays size (Branch zero) load zero sent is = record { first = refl; worth = worth_of 3 4 _ sent is refl (omega arith) }
pays size (Branch zero) load (suc index) sent is = none_at index sent _ is
pays size (Branch (suc zero)) load zero sent is = record { first = refl; worth = worth_of 3 4 _ sent is refl (omega arith) }
pays size (Branch (suc zero)) load (suc index) sent is = none_at index sent _ is
pays size (Branch (suc (suc zero))) load zero sent is = record { first = refl; worth = worth_of 4 2 _ sent is refl (omega arith) }
pays size (Branch (suc (suc zero))) load (suc index) sent is = none_at index sent _ is
pays size (Branch (suc (suc (suc branch)))) load index sent is = none_at index sent _ is

-- a task that has a post to make fired, at a spot that is worth it
pub post_pays : (size : ℕ) (h : List Event) (t : TaskId) (index : ℕ) (sent : Sent) → slice_get (play_of (generated size) h t).posts index ≡ Some sent
    → (f : Firing) × (firing_named h t ≡ Some f) × (index ≡ 0) × (2 + weight sent.port ≤ value f.spot)
post_pays size h t index sent is = by (firing_named h t) refl is
  where
    by : (o : Option Firing) → firing_named h t ≡ o → slice_get (option_map_or (λ spot. play_at (generated size) (branch_of spot) (segment_of spot) (load_at (generated size) h (branch_of spot) (segment_of spot) t)) (option_map (λ (f : Firing). f.spot) o) no_play).posts index ≡ Some sent
        → (f : Firing) × (firing_named h t ≡ Some f) × (index ≡ 0) × (2 + weight sent.port ≤ value f.spot)
    by None e is = none_at index sent _ is
    by (Some f) e is = let paid = pays size f.spot (load_at (generated size) h (branch_of f.spot) (segment_of f.spot) t) index sent is in (f, e, paid.first, paid.worth)
