-- At the end of an expansion's history every task is settled, and what is held is held after a teardown.
use Rattle.std.proofs.Common.{◌≡◌, ℕ, ◌<◌, Bool, true, false, not, ◌&&◌, List, [], ◌∷◌, ◌++◌, length, Some, refl, sym, ap, ◌∙◌, arith, subst}
use Rattle.std.specs.Prelude.{◌==◌, nat_le}
use Rattle.std.specs.List.{slice_get}
use Rattle.std.specs.Option.{option_map_or, is_some}
use Rattle.std.proofs.lemmas.Bool.Decides.{nat_tests}
use Rattle.ccr_base.specs.declared.names.TaskId.{TaskId}
use Rattle.ccr_base.specs.declared.names.Spot.TheVariants.{Branch}
use Rattle.ccr_base.specs.declared.messages.Msg.{Msg}
use Rattle.ccr_base.specs.declared.policies.Policy.{Policy}
use Rattle.ccr_base.specs.declared.policies.Policy.TheVariants.{Unbounded, Discard, Throttle}
use Rattle.ccr_base.specs.declared.policies.Group.{Group}
use Rattle.ccr_base.specs.declared.policies.Group.TheVariants as groups
use Rattle.ccr_base.specs.declared.patterns.Pred.{Pred}
use Rattle.ccr_base.specs.Selection.{holds, fitting}
use Rattle.ccr_base.specs.Names.{has_task}
use Rattle.ccr_wiring.specs.declared.parts.Parts.{Parts}
use Rattle.ccr_wiring.specs.declared.parts.Kind.TheVariants as kinds
use Rattle.ccr_wiring.specs.Wirings.{Placement, placement, placements, branch_of, spots, policy_of}
use Rattle.ccr_wiring.specs.Groups.{may_have}
use Rattle.ccr_wiring.specs.Limits.{policy_is_outside}
use Rattle.ccr_wiring.specs.Valid.{HasGroups}
use Rattle.ccr_model.specs.declared.history.Event.{Event}
use Rattle.ccr_model.specs.declared.history.TaskState.{TaskState}
use Rattle.ccr_model.specs.declared.history.TaskState.TheVariants as states
use Rattle.ccr_model.specs.Posts.{held}
use Rattle.ccr_model.specs.Firings.{cut, dropped, started}
use Rattle.ccr_model.specs.Tasks.{fired_by, coming, waiting, running, is_teardown}
use Rattle.ccr_model.specs.Live.{is_live, is_live_in, has_room, has_room_in, is_none_of}
use Rattle.ccr_model.specs.Enough.{can_take, can_fire, has_enough}
use Rattle.ccr_model.specs.Fates.{state_of}
use Rattle.ccr_model.specs.Legal.{IsLegal}
use Rattle.ccr_model.proofs.Allowing.{OneName-legal}
use Rattle.ccr_base.proofs.Booleans.{no_both}
use Rattle.ccr_model.proofs.QuietAllowsNone.{fire_none, branch_among}
use Rattle.ccr_base.proofs.Options.{none_or}
use Rattle.ccr_model.proofs.Members.{Among, some_kept}
use Rattle.ccr_model.proofs.CanFire.{some_fire_at}
use Rattle.ccr_model.proofs.TasksLeft.{of_without, out_left}
use Rattle.ccr_laws.specs.OneFate.{IsIn}
use Rattle.ccr_model.proofs.TaskLists.{out_right, no_members}
use Rattle.ccr_model.proofs.AllowedFirings.{fired_by_named, BranchFacts-where}
use Rattle.ccr_model.proofs.Ending.{AreEnded-legal}
use Rattle.ccr_laws.proofs.States.{is_in, has_ended}
use Rattle.ccr_service.specs.declared.parts.OpPart.{OpPart}
use Rattle.ccr_service.specs.declared.parts.ServiceParts.{ServiceParts}
use Rattle.ccr_service.specs.Expansion.{request_port, expansion}
use Rattle.ccr_service.specs.Served.{is_torn_down}
use Rattle.ccr_service.specs.Services.{IsService}
use Rattle.ccr_service.specs.Stillness.{IsStill}
use Rattle.ccr_service.proofs.QuietIsStill.{AtEnd}
use Rattle.ccr_service.proofs.Shape.{PlacementFacts-placement, TakesIt, TakesIt-op}

-- once still, whoever fired was cut, dropped or started
went_on : (w : Parts) (h : List Event) → IsLegal w h → IsStill w h → (t : TaskId) → has_task (cut h) t ≡ false → has_task (dropped h) t ≡ false → has_task (started h) t ≡ false → (state : TaskState) → IsIn w h t state → ⊥
went_on w h legal still t uncut undropped unstarted states.Waiting is = let none = still.waits is.interleave in let out : has_task (waiting w h is.interleave) t ≡ false = rw none refl in no_both is.among out
went_on w h legal still t uncut undropped unstarted states.Cut is = no_both is uncut
went_on w h legal still t uncut undropped unstarted states.Ready is = no_both is (still.ready t)
went_on w h legal still t uncut undropped unstarted states.Queued is = no_both is.among (still.in_queues is.queue t)
went_on w h legal still t uncut undropped unstarted states.Dropped is = no_both is undropped
went_on w h legal still t uncut undropped unstarted states.Running is = let none = still.runs in let out : has_task (running h) t ≡ false = rw none refl in no_both is out
went_on w h legal still t uncut undropped unstarted (states.Ended how) is = no_both ((AreEnded-legal w h legal).started_ended t (has_ended h t how is)) unstarted

none_coming : (w : Parts) (h : List Event) → IsLegal w h → IsStill w h → (q : ℕ) → coming w h q ≡ []
none_coming w h legal still q = no_members (coming w h q) gone
  where
    gone : (t : TaskId) → has_task (coming w h q) t ≡ true → ⊥
    gone t is =
        let parts = of_without (fired_by w (λ (s : Placement). s.branch.queue == q) h) (started h ++ dropped h ++ cut h) t is in
        let found = fired_by_named w (λ (s : Placement). s.branch.queue == q) h t (OneName-legal w h legal) parts.0 in
        let branch = BranchFacts-where w (λ (s : Placement). s.branch.queue == q) found.0.spot found.2 in
        let seated : placement w (branch_of found.0.spot) ≡ Some branch.placement = ap (λ s. placement w (branch_of s)) branch.is_branch ∙ branch.is_placement in
        let rest = out_left (started h ++ dropped h) (cut h) t parts.1 in
        went_on w h legal still t (out_right (started h ++ dropped h) (cut h) t parts.1) (out_right (started h) (dropped h) t rest) (out_left (started h) (dropped h) t rest) (state_of w h t) (is_in w h t found.0 branch.placement found.1 seated)

-- ---- no branch can fire

pub no_branch : (w : Parts) (h : List Event) → AtEnd w h → (b : ℕ) (s : Placement) → placement w b ≡ Some s → can_fire w h (Branch b) ≡ false
no_branch w h end b s is =
    let none = fire_none w (length w.posters) h (spots w) (Branch b) end.fires (branch_among w 0 b b (placements w) s (omega arith) is) in
    sym (some_fire_at w (length w.posters) h (Branch b)) ∙ ap is_some none

-- ---- held

live_by : (w : Parts) (h : List Event) (n : ℕ) (g : Group) → may_have kinds.Interleave g ≡ true → is_live_in w h n 0 g ≡ is_none_of (fired_by w (λ (s : Placement). (s.domain == 0) && is_teardown s.branch.group) h)
live_by w h n groups.Teardown is = refl
live_by w h n groups.Exclusive is = refl
live_by w h n groups.Concurrent is = refl
live_by w h n groups.Once is = absurd (cc)
live_by w h n groups.Always is = absurd (cc)
live_by w h n groups.Choice is = absurd (cc)

room_by : (w : Parts) (h : List Event) (p : Policy) → ((most : ℕ) → p ≡ Throttle most → 0 < most) → coming w h 0 ≡ [] → has_room_in w h 0 p ≡ true
room_by w h Unbounded some none = refl
room_by w h (Discard n) some none = refl
room_by w h (Throttle n) some none = let least = some n refl in rw none (grind (arith, nat_tests, least))

some_fits : (pred : Pred) (ms : List Msg) (m : Msg) → Among m ms → holds pred m.value ≡ true → nat_le 1 (length (fitting pred ms)) ≡ true
some_fits pred ms m among is = let some = some_kept (λ (x : Msg). holds pred x.value) ms m among is in grind (arith, nat_tests, some)

abbrev no_teardown : ServiceParts → List Event → Bool
no_teardown s h = is_none_of (fired_by (expansion s) (λ (r : Placement). (r.domain == 0) && is_teardown r.branch.group) h)

-- a throttle queue has room for one
room_so : (s : ServiceParts) → IsService s → (most : ℕ) → s.policy ≡ Throttle most → 0 < most
room_so s is most e = let inside : policy_is_outside (Throttle most) ≡ false = subst (λ p. policy_is_outside p ≡ false) e is.policy in grind (arith, nat_tests, inside)

-- before a teardown has fired, a held request could be taken
could_fire : (s : ServiceParts) → IsService s → HasGroups (expansion s) → (h : List Event) → coming (expansion s) h 0 ≡ [] → no_teardown s h ≡ true → (op value : ℕ) (m : Msg) → m.value ≡ value ∷ [] → (takes : TakesIt s op value) → Among m (held h (request_port op)) → can_fire (expansion s) h (Branch takes.number) ≡ true
could_fire s served fit h none_coming unturned op value m is takes among =
    let facts = PlacementFacts-placement s takes.number takes.placement takes.is_placement in
    let grouped : may_have kinds.Interleave takes.placement.branch.group ≡ true = subst (λ k. may_have k takes.placement.branch.group ≡ true) facts.kind (fit takes.number takes.placement takes.is_placement) in
    let live : is_live (expansion s) h (Branch takes.number) ≡ true = ap (λ o. option_map_or (λ (r : Placement). is_live_in (expansion s) h takes.number r.domain r.branch.group) o false) takes.is_placement ∙ ap (λ a. is_live_in (expansion s) h takes.number a takes.placement.branch.group) facts.domain ∙ live_by (expansion s) h takes.number takes.placement.branch.group grouped ∙ unturned in
    let room : has_room (expansion s) h (Branch takes.number) ≡ true = ap (λ o. option_map_or (λ (r : Placement). has_room_in (expansion s) h r.branch.queue (policy_of (expansion s) r.branch.queue)) o true) takes.is_placement ∙ ap (λ q. has_room_in (expansion s) h q (policy_of (expansion s) q)) takes.serves.queue ∙ room_by (expansion s) h s.policy (room_so s served) none_coming in
    let fits = some_fits takes.pred (held h (request_port op)) m among (subst (λ v. holds takes.pred v ≡ true) (sym is) takes.holds_so) in
    let enough : has_enough (held h) takes.placement.branch.pattern ≡ true = ap (has_enough (held h)) takes.serves.pattern ∙ rw fits refl in
    let take : can_take (expansion s) h (Branch takes.number) ≡ true = ap (λ o. option_map_or (λ (r : Placement). has_enough (held h) r.branch.pattern) o false) takes.is_placement ∙ enough in
    rw (live, room, take) refl

-- a request is held only where a teardown has fired
pub held_torn : (s : ServiceParts) → IsService s → HasGroups (expansion s) → (h : List Event) → IsLegal (expansion s) h → IsStill (expansion s) h → AtEnd (expansion s) h → (op : ℕ) (part : OpPart) → slice_get s.ops op ≡ Some part → (value : ℕ) (m : Msg) → m.value ≡ value ∷ [] → Among m (held h (request_port op)) → is_torn_down s h ≡ true
held_torn s served fit h legal still end op part at value m is among = by_test (no_teardown s h) refl
  where
    by_test : (b : Bool) → no_teardown s h ≡ b → not b ≡ true
    by_test false e = refl
    by_test true e =
        let takes = TakesIt-op s op value part at in
        absurd (no_both (could_fire s served fit h (none_coming (expansion s) h legal still 0) e op value m is takes among) (no_branch (expansion s) h end takes.number takes.placement takes.is_placement))
