-- The play of a request's task.
use Rattle.std.proofs.Common.{◌≡◌, ◌⊎◌, inl, inr, ℕ, zero, suc, ◌+◌, Bool, true, false, not, List, [], ◌∷◌, length, Option, Some, None, refl, sym, ap, ◌∙◌, arith, subst}
use Rattle.std.specs.Prelude.{option_map, nat_lt, nat_le}
use Rattle.std.specs.List.{slice_get}
use Rattle.std.specs.Option.{option_map_or}
use Rattle.std.proofs.lemmas.Bool.Decides.{nat_tests}
use Rattle.ccr_base.specs.declared.names.TaskId.{TaskId}
use Rattle.ccr_base.specs.declared.names.MsgId.{MsgId}
use Rattle.ccr_base.specs.declared.names.MsgId.TheVariants.{Script, Task}
use Rattle.ccr_base.specs.declared.messages.Msg.{Msg}
use Rattle.ccr_base.specs.declared.messages.Sent.{Sent}
use Rattle.ccr_base.specs.declared.handlers.Action.TheVariants as actions
use Rattle.ccr_base.specs.declared.handlers.Expr.TheVariants.{Arg}
use Rattle.ccr_base.specs.declared.patterns.Pred.{Pred}
use Rattle.ccr_base.specs.declared.patterns.Pred.TheVariants.{Any, Lt}
use Rattle.ccr_base.specs.Selection.{holds}
use Rattle.ccr_handler.specs.Playing.{play}
use Rattle.ccr_wiring.specs.declared.parts.CausePart.{CausePart}
use Rattle.ccr_wiring.specs.Wirings.{Placement, branch_of, segment_of, actions_of, exception_port}
use Rattle.ccr_model.specs.declared.history.Event.{Event}
use Rattle.ccr_model.specs.Firings.{Firing, firing_named}
use Rattle.ccr_model.specs.TaskData.{play_of, play_at, load_at, with_messages, no_load, messages_of}
use Rattle.ccr_model.specs.Legal.{IsLegal}
use Rattle.ccr_base.proofs.Options.{some-below}
use Rattle.ccr_service.specs.declared.parts.ClientPart.{ClientPart}
use Rattle.ccr_service.specs.declared.parts.OpPart.{OpPart}
use Rattle.ccr_service.specs.declared.parts.ServiceParts.{ServiceParts}
use Rattle.ccr_service.specs.Expansion.{fault_port, causes_from, expansion}
use Rattle.ccr_service.specs.Replies.{is_past, reply, reply_by, fault, success}
use Rattle.ccr_service.proofs.Shape.{Role, PlacementFacts, op_actions, fault_actions}
use Rattle.ccr_service.proofs.WhatExpansionsPost.{IsAsked, IsKnown, all_known}
use Rattle.ccr_service.proofs.Takings.{Takes, all_take}

-- ---- the request that a task took

pub record TakesAsk (s : ServiceParts) (h : List Event) (t : TaskId) (f : Firing) : Type 0 where
  pub takes : Takes s h t f
  pub client : ℕ
  pub place : ℕ
  pub id : takes.message.id ≡ Script client place
  pub asked : IsAsked s takes.message client place

pub TakesAsk-legal : (s : ServiceParts) (h : List Event) → IsLegal (expansion s) h → (t : TaskId) (f : Firing) → firing_named h t ≡ Some f → TakesAsk s h t f
TakesAsk-legal s h legal t f is = by_id takes.message.id refl (all_known s h legal takes.message takes.among)
  where
    takes : Takes s h t f
    takes = all_take s h legal t f is

    by_id : (name : MsgId) → takes.message.id ≡ name → IsKnown s takes.message name → TakesAsk s h t f
    by_id (Script client place) e known = record { takes = takes; client = client; place = place; id = e; asked = known }
    by_id (Task u place) e known = absurd (known takes.facts.op (some-below s.ops takes.facts.op takes.facts.part takes.facts.at) takes.port)

-- ---- its play

exception_here : (n k : ℕ) (cs : List ClientPart) (c : ClientPart) → slice_get cs k ≡ Some c → option_map (λ (part : CausePart). part.port) (slice_get (causes_from n cs) k) ≡ Some (n + k)
exception_here n k [] c is = absurd (cc)
exception_here n zero (x ∷ cs) c is = let e : n ≡ n + 0 = omega arith in ap Some e
exception_here n (suc k) (x ∷ cs) c is = let e : (n + 1) + k ≡ n + suc k = omega arith in exception_here (n + 1) k cs c is ∙ ap Some e

-- what the play of the branch's handler is
own_play : (s : ServiceParts) (op client value : ℕ) (part : OpPart) → slice_get s.ops op ≡ Some part → is_past part.below value ≡ false → play (exception_port (expansion s)) ((value ∷ []) ∷ []) 0 (client ∷ []) (actions_of (expansion s) op) ≡ reply s op part client value
own_play s op client value part at below = rw (op_actions s op part at, below) refl

fault_play : (s : ServiceParts) (op client value bound : ℕ) (part : OpPart) (c : ClientPart) → slice_get s.ops op ≡ Some part → slice_get s.clients client ≡ Some c → part.below ≡ Some bound → is_past part.below value ≡ true → play (exception_port (expansion s)) ((value ∷ []) ∷ []) 0 (client ∷ []) (actions_of (expansion s) (length s.ops)) ≡ reply s op part client value
fault_play s op client value bound part c at is_client bounded past =
    let port : exception_port (expansion s) client ≡ Some (fault_port s client) = exception_here (length s.ops + length s.ops) client s.clients c is_client in
    let acts = fault_actions s op bound part at bounded in
    let played : play (exception_port (expansion s)) ((value ∷ []) ∷ []) 0 (client ∷ []) (actions.Fail (Arg 0) ∷ []) ≡ reply_by true s op part client value = rw port refl in
    ap (play (exception_port (expansion s)) ((value ∷ []) ∷ []) 0 (client ∷ [])) acts ∙ played ∙ ap (λ b. reply_by b s op part client value) (sym past)

below_so : (o : Option ℕ) (pred : Pred) (value : ℕ) → ((o ≡ None) × (pred ≡ Any)) ⊎ ((n : ℕ) × (o ≡ Some n) × (pred ≡ Lt n)) → holds pred (value ∷ []) ≡ true → is_past o value ≡ false
below_so o pred value (inl any) is = ap (λ x. is_past x value) any.0
below_so o pred value (inr lt) is = let here : nat_lt value lt.0 ≡ true = ap (λ p. holds p (value ∷ [])) (sym lt.2) ∙ is in ap (λ x. is_past x value) lt.1 ∙ ap not here

past_so : (n value : ℕ) → nat_le n value ≡ true → not (nat_lt value n) ≡ true
past_so n value is = grind (arith, nat_tests, is)

play_by_role : (s : ServiceParts) (r : Placement) (facts : PlacementFacts s r) (client value : ℕ) (c : ClientPart) → slice_get s.clients client ≡ Some c → holds facts.pred (value ∷ []) ≡ true → Role (length s.ops) facts.op facts.part r.branch.handler facts.pred → play (exception_port (expansion s)) ((value ∷ []) ∷ []) 0 (client ∷ []) (actions_of (expansion s) r.branch.handler) ≡ reply s facts.op facts.part client value
play_by_role s r facts client value c is_client is (inl own) =
    ap (λ n. play (exception_port (expansion s)) ((value ∷ []) ∷ []) 0 (client ∷ []) (actions_of (expansion s) n)) own.0 ∙ own_play s facts.op client value facts.part facts.at (below_so facts.part.below facts.pred value own.1 is)
play_by_role s r facts client value c is_client is (inr past) =
    let bound : ℕ = past.1.0 in
    let here : nat_le past.1.0 value ≡ true = ap (λ p. holds p (value ∷ [])) (sym past.1.2) ∙ is in
    let out : is_past facts.part.below value ≡ true = ap (λ x. is_past x value) past.1.1 ∙ past_so past.1.0 value here in
    ap (λ n. play (exception_port (expansion s)) ((value ∷ []) ∷ []) 0 (client ∷ []) (actions_of (expansion s) n)) past.0 ∙ fault_play s facts.op client value past.1.0 facts.part c facts.at is_client past.1.1 out

-- the load of a task that took one message
load_one : (m : Msg) (client value : ℕ) → m.value ≡ value ∷ [] → m.causes ≡ client ∷ [] → with_messages no_load (m ∷ []) ≡ record { values = (value ∷ []) ∷ []; causes = client ∷ [] }
load_one m client value v e = rw (e, v) refl

-- the play of a request's task is its reply
pub play_is : (s : ServiceParts) (h : List Event) (t : TaskId) (f : Firing) → firing_named h t ≡ Some f → (its : TakesAsk s h t f) → play_of (expansion s) h t ≡ reply s its.takes.facts.op its.takes.facts.part its.client its.asked.ask.value
play_is s h t f found its =
    let w = expansion s in
    let takes = its.takes in
    let at_spot : play_of w h t ≡ play_at w (branch_of f.spot) (segment_of f.spot) (load_at w h (branch_of f.spot) (segment_of f.spot) t) = rw found refl in
    let at_branch : play_at w (branch_of f.spot) (segment_of f.spot) (load_at w h (branch_of f.spot) (segment_of f.spot) t) ≡ play_at w takes.number 0 (with_messages no_load (messages_of h t)) = ap (λ spot. play_at w (branch_of spot) (segment_of spot) (load_at w h (branch_of spot) (segment_of spot) t)) takes.spot in
    let one : play_at w takes.number 0 (with_messages no_load (messages_of h t)) ≡ play_at w takes.number 0 (with_messages no_load (takes.message ∷ [])) = ap (λ ms. play_at w takes.number 0 (with_messages no_load ms)) takes.its in
    let loaded : play_at w takes.number 0 (with_messages no_load (takes.message ∷ [])) ≡ play_at w takes.number 0 (record { values = (its.asked.ask.value ∷ []) ∷ []; causes = its.client ∷ [] }) = ap (play_at w takes.number 0) (load_one takes.message its.client its.asked.ask.value its.asked.value its.asked.causes) in
    let placed : play_at w takes.number 0 (record { values = (its.asked.ask.value ∷ []) ∷ []; causes = its.client ∷ [] }) ≡ play (exception_port w) ((its.asked.ask.value ∷ []) ∷ []) 0 (its.client ∷ []) (actions_of w takes.placement.branch.handler) = ap (λ o. play (exception_port w) ((its.asked.ask.value ∷ []) ∷ []) 0 (its.client ∷ []) (option_map_or (λ (r : Placement). actions_of w r.branch.handler) o [])) takes.is_placement in
    at_spot ∙ at_branch ∙ one ∙ loaded ∙ placed ∙ play_by_role s takes.placement takes.facts its.client its.asked.ask.value its.asked.part its.asked.is_part (subst (λ v. holds takes.facts.pred v ≡ true) its.asked.value takes.holds_so) takes.facts.serves.role

-- it has one post
pub one_post : (s : ServiceParts) (op : ℕ) (part : OpPart) (client value : ℕ) → (x : Sent) × ((reply s op part client value).posts ≡ x ∷ [])
one_post s op part client value = by_test (is_past part.below value)
  where
    by_test : (b : Bool) → (x : Sent) × ((reply_by b s op part client value).posts ≡ x ∷ [])
    by_test true = (fault s client value, refl)
    by_test false = (success op part client value, refl)
