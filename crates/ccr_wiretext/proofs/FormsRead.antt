-- The line forms: what is read is in the grammar, and what is in the grammar is read.
use Rattle.std.proofs.Common.{◌≡◌, ℕ, ◌+◌, ◌<◌, false, List, [], ◌∷◌, length, Ok, refl, sym, ap, subst, ◌∙◌, append-nil}
use Rattle.std.specs.Prelude.{not, ◌==◌}
use Rattle.ccr_base.specs.declared.handlers.Action.{Action}
use Rattle.ccr_base.specs.declared.handlers.Action.TheVariants as actions
use Rattle.ccr_base.specs.declared.handlers.Expr.{Expr}
use Rattle.ccr_base.specs.declared.messages.Sent.{Sent}
use Rattle.ccr_base.specs.declared.policies.Group.{Group}
use Rattle.ccr_base.proofs.Booleans.{not_true}
use Rattle.ccr_text.specs.Fields.{Words, unless, limited, no_more, number_within, policy}
use Rattle.ccr_wiring.specs.declared.parts.QueuePart.{QueuePart}
use Rattle.ccr_wiring.specs.declared.parts.SetPart.{SetPart}
use Rattle.ccr_wiring.specs.declared.parts.CausePart.{CausePart}
use Rattle.ccr_wiring.specs.declared.parts.BranchPart.{BranchPart}
use Rattle.ccr_wiring.specs.declared.parts.ArbiterPart.{ArbiterPart}
use Rattle.ccr_wiring.specs.declared.parts.HandlerPart.{HandlerPart}
use Rattle.ccr_wiring.specs.declared.parts.PosterPart.{PosterPart}
use Rattle.ccr_wiring.specs.declared.parts.DomainPart.{DomainPart}
use Rattle.ccr_wiretext.specs.declared.keyword.Keyword.TheVariants as keywords
use Rattle.ccr_wiretext.specs.Names.{as_queue, as_cause, as_handler}
use Rattle.ccr_wiretext.specs.Drafts.{Declared, branch_count, script_count}
use Rattle.ccr_wiretext.specs.Fields.{new_name, reference, port, group, value, expr}
use Rattle.ccr_wiretext.specs.Patterns.{pattern, all_members, combined, causes}
use Rattle.ccr_wiretext.specs.Forms.{crowds, budget_form, queue_form, name_form, set_form, cause_form, combine_form, branch_tail, receive_room, receive_form, branch_form, post_form, fail_form, caused_form, await_form, script_form, arbiter_end_form}
use Rattle.ccr_wiretext.specs.Grammar.{IsNew, IsGroup, IsExpr, AreCauses}
use Rattle.ccr_wiretext.specs.Lines.{IsBudget, IsQueue, IsName, IsSet, IsCause, IsCombine, IsBranchTail, IsReceive, IsBranch, IsAction, IsPost}
use Rattle.ccr_wiretext.proofs.ReadTellsSteps.{bind_ok, ok_is, unless_ok, no_more_ok, limit_ok, limit_read}
use Rattle.ccr_wiretext.proofs.FieldsRead.{new_name_said, new_name_read, reference_said, reference_read, within_said, within_read, policy_said, policy_read, group_said, group_read, value_said, value_read, expr_said, expr_read}
use Rattle.ccr_wiretext.proofs.PortsRead.{port_said, port_read}
use Rattle.ccr_wiretext.proofs.PatternsRead.{pattern_said, pattern_read, all_members_said, all_members_read, combined_said, combined_read, causes_said, causes_read}

-- budget N
pub budget_said : (draft : Declared) (words : Words) (n : ℕ) → budget_form draft words ≡ Ok n → IsBudget draft words n
unfolding budget_form
budget_said draft words n e =
    let once = bind_ok (unless (not draft.budgeted) 13) _ n e in
    let value = bind_ok (number_within 0 10000 words) _ n once.2 in
    let none = bind_ok (no_more value.0.1) _ n value.2 in
    let said = within_said 0 10000 words value.0 value.1 in
    subst (IsBudget draft words) (ok_is value.0.0 n none.2) (record {
      once = not_true _ (unless_ok _ 13 once.0 once.1);
      digits = said.0;
      spelled = said.1 ∙ ap (λ (v : Words). said.0 ∷ v) (no_more_ok value.0.1 none.0 none.1);
      within = said.2;
    })

pub budget_read : (draft : Declared) (words : Words) (n : ℕ) → IsBudget draft words n → budget_form draft words ≡ Ok n
unfolding budget_form
budget_read draft words n said = rw (said.spelled, said.once, within_read 0 10000 said.digits n [] said.within) refl

-- queue NAME POLICY
pub queue_said : (draft : Declared) (words : Words) (part : QueuePart) → queue_form draft words ≡ Ok part → IsQueue draft words part
unfolding queue_form
queue_said draft words part e =
    let room = bind_ok (limited 16 (length draft.parts.queues)) _ part e in
    let name = bind_ok (new_name draft.names words) _ part room.2 in
    let rule = bind_ok (policy 1000 name.0.1) _ part name.2 in
    let none = bind_ok (no_more rule.0.1) _ part rule.2 in
    let named_so = new_name_said draft.names words name.0 name.1 in
    let ruled_so = policy_said name.0.1 rule.0 rule.1 in
    let made : QueuePart = record { name = name.0.0; policy = rule.0.0 } in
    subst (IsQueue draft words) (ok_is made part none.2) (record {
      room = limit_ok 16 (length draft.parts.queues) room.0 room.1;
      rule = ruled_so.0;
      spelled = named_so.0 ∙ ap (λ (v : Words). name.0.0 ∷ v) (ruled_so.1 ∙ rw (no_more_ok rule.0.1 none.0 none.1) (append-nil ruled_so.0));
      name = named_so.1;
      policy = ruled_so.2;
    })

pub queue_read : (draft : Declared) (words : Words) (part : QueuePart) → IsQueue draft words part → queue_form draft words ≡ Ok part
unfolding queue_form
queue_read draft words part said =
    let rule : policy 1000 said.rule ≡ Ok (part.policy, []) = ap (policy 1000) (sym (append-nil said.rule)) ∙ policy_read said.rule part.policy [] said.policy in
    rw (said.spelled, limit_read 16 (length draft.parts.queues) said.room, new_name_read draft.names part.name said.rule said.name, rule) refl

-- NAME alone
pub name_said : (limit count : ℕ) (draft : Declared) (words : Words) (name : List ℕ) → name_form limit count draft words ≡ Ok name → IsName limit count draft words name
unfolding name_form
name_said limit count draft words name e =
    let room = bind_ok (limited limit count) _ name e in
    let first = bind_ok (new_name draft.names words) _ name room.2 in
    let none = bind_ok (no_more first.0.1) _ name first.2 in
    let said = new_name_said draft.names words first.0 first.1 in
    subst (IsName limit count draft words) (ok_is first.0.0 name none.2) (record {
      room = limit_ok limit count room.0 room.1;
      spelled = said.0 ∙ ap (λ (v : Words). first.0.0 ∷ v) (no_more_ok first.0.1 none.0 none.1);
      new = said.1;
    })

pub name_read : (limit count : ℕ) (draft : Declared) (words : Words) (name : List ℕ) → IsName limit count draft words name → name_form limit count draft words ≡ Ok name
unfolding name_form
name_read limit count draft words name said = rw (said.spelled, limit_read limit count said.room, new_name_read draft.names name [] said.new) refl

-- portset NAME PORT ..
pub set_said : (draft : Declared) (words : Words) (part : SetPart) → set_form draft words ≡ Ok part → IsSet draft words part
unfolding set_form
set_said draft words part e =
    let room = bind_ok (limited 64 (length draft.parts.sets)) _ part e in
    let name = bind_ok (new_name draft.names words) _ part room.2 in
    let ports = bind_ok (all_members draft name.0.1) _ part name.2 in
    let named_so = new_name_said draft.names words name.0 name.1 in
    let said = all_members_said draft name.0.1 ports.0 ports.1 in
    let made : SetPart = record { name = name.0.0; ports = ports.0 } in
    subst (IsSet draft words) (ok_is made part ports.2) (record {
      room = limit_ok 64 (length draft.parts.sets) room.0 room.1;
      rest = name.0.1;
      spelled = named_so.0;
      name = named_so.1;
      ports = said.0;
      some = said.1;
      few = said.2;
    })

pub set_read : (draft : Declared) (words : Words) (part : SetPart) → IsSet draft words part → set_form draft words ≡ Ok part
unfolding set_form
set_read draft words part said =
    rw (said.spelled, limit_read 64 (length draft.parts.sets) said.room, new_name_read draft.names part.name said.rest said.name, all_members_read draft said.rest part.ports said.ports said.some said.few) refl

-- cause NAME PORT
pub cause_said : (draft : Declared) (words : Words) (part : CausePart) → cause_form draft words ≡ Ok part → IsCause draft words part
unfolding cause_form
cause_said draft words part e =
    let room = bind_ok (limited 32 (length draft.parts.causes)) _ part e in
    let name = bind_ok (new_name draft.names words) _ part room.2 in
    let to = bind_ok (port draft name.0.1) _ part name.2 in
    let none = bind_ok (no_more to.0.1) _ part to.2 in
    let named_so = new_name_said draft.names words name.0 name.1 in
    let said = port_said draft name.0.1 to.0 to.1 in
    let made : CausePart = record { name = name.0.0; port = to.0.0 } in
    subst (IsCause draft words) (ok_is made part none.2) (record {
      room = limit_ok 32 (length draft.parts.causes) room.0 room.1;
      port = said.0;
      spelled = named_so.0 ∙ ap (λ (v : Words). name.0.0 ∷ v) (said.1 ∙ ap (λ (v : Words). said.0 ∷ v) (no_more_ok to.0.1 none.0 none.1));
      name = named_so.1;
      refers = said.2;
    })

pub cause_read : (draft : Declared) (words : Words) (part : CausePart) → IsCause draft words part → cause_form draft words ≡ Ok part
unfolding cause_form
cause_read draft words part said =
    rw (said.spelled, limit_read 32 (length draft.parts.causes) said.room, new_name_read draft.names part.name (said.port ∷ []) said.name, port_read draft said.port part.port [] said.refers) refl

-- combine INTERLEAVE INTERLEAVE ..
pub combine_said : (draft : Declared) (words : Words) (part : DomainPart) → combine_form draft words ≡ Ok part → IsCombine draft words part
unfolding combine_form
combine_said draft words part e =
    let room = bind_ok (limited 128 (length draft.parts.domains)) _ part e in
    let members = bind_ok (combined draft words) _ part room.2 in
    let said = combined_said draft words members.0 members.1 in
    let made : DomainPart = record { members = members.0 } in
    subst (IsCombine draft words) (ok_is made part members.2) (record { room = limit_ok 128 (length draft.parts.domains) room.0 room.1; members = said.0; some = said.1; few = said.2 })

pub combine_read : (draft : Declared) (words : Words) (part : DomainPart) → IsCombine draft words part → combine_form draft words ≡ Ok part
unfolding combine_form
combine_read draft words part said = rw (limit_read 128 (length draft.parts.domains) said.room, combined_read draft words part.members said.members said.some said.few) refl

-- QUEUE HANDLER PATTERN
tail_said : (draft : Declared) (name : List ℕ) (g : Group) (words : Words) (branch : BranchPart) → branch_tail draft name g words ≡ Ok branch → (name ≡ branch.name) × (g ≡ branch.group) × IsBranchTail draft words branch
unfolding branch_tail
tail_said draft name g words branch e =
    let queue = bind_ok (reference as_queue draft.names words) _ branch e in
    let handler = bind_ok (reference as_handler draft.names queue.0.1) _ branch queue.2 in
    let shape = bind_ok (pattern draft handler.0.1) _ branch handler.2 in
    let made : BranchPart = record { name = name; group = g; queue = queue.0.0; handler = handler.0.0; pattern = shape.0 } in
    let room = bind_ok (unless (not (crowds draft made)) 12) _ branch shape.2 in
    let queued = reference_said as_queue draft.names words queue.0 queue.1 in
    let handled = reference_said as_handler draft.names queue.0.1 handler.0 handler.1 in
    subst (λ (b : BranchPart). (name ≡ b.name) × (g ≡ b.group) × IsBranchTail draft words b) (ok_is made branch room.2) (
      refl,
      refl,
      record {
        queue = queued.0;
        handler = handled.0;
        shape = handler.0.1;
        spelled = queued.1 ∙ ap (λ (v : Words). queued.0 ∷ v) handled.1;
        queued = queued.2;
        handled = handled.2;
        pattern = pattern_said draft handler.0.1 shape.0 shape.1;
        uncrowded = not_true _ (unless_ok _ 12 room.0 room.1);
      },
    )

tail_read : (draft : Declared) (words : Words) (branch : BranchPart) → IsBranchTail draft words branch → branch_tail draft branch.name branch.group words ≡ Ok branch
unfolding branch_tail
tail_read draft words branch said =
    rw (said.spelled, reference_read as_queue draft.names said.queue branch.queue (said.handler ∷ said.shape) said.queued, reference_read as_handler draft.names said.handler branch.handler said.shape said.handled, pattern_read draft said.shape branch.pattern said.pattern, said.uncrowded) refl

-- room for a receive
room_said : (draft : Declared) (y : Unit {0}) → receive_room draft ≡ Ok y → (length draft.parts.arbiters < 256) × (branch_count draft.parts < 256)
unfolding receive_room
room_said draft y e =
    let room = bind_ok (limited 256 (length draft.parts.arbiters)) (λ room. limited 256 (branch_count draft.parts)) y e in
    (limit_ok 256 (length draft.parts.arbiters) room.0 room.1, limit_ok 256 (branch_count draft.parts) y room.2)

room_read : (draft : Declared) → length draft.parts.arbiters < 256 → branch_count draft.parts < 256 → receive_room draft ≡ Ok tt
unfolding receive_room
room_read draft room branches = rw (limit_read 256 (length draft.parts.arbiters) room, limit_read 256 (branch_count draft.parts) branches) refl

-- receive NAME GROUP QUEUE HANDLER PATTERN
pub receive_said : (draft : Declared) (words : Words) (branch : BranchPart) → receive_form draft words ≡ Ok branch → IsReceive draft words branch
unfolding receive_form
receive_said draft words branch e =
    let room = bind_ok (receive_room draft) _ branch e in
    let name = bind_ok (new_name draft.names words) _ branch room.2 in
    let kind = bind_ok (group name.0.1) _ branch name.2 in
    let rooms = room_said draft room.0 room.1 in
    let named_so = new_name_said draft.names words name.0 name.1 in
    let grouped_so = group_said name.0.1 kind.0 kind.1 in
    let tail = tail_said draft name.0.0 kind.0.0 kind.0.1 branch kind.2 in
    record {
      room = rooms.0;
      branch_room = rooms.1;
      group = grouped_so.0;
      rest = kind.0.1;
      spelled = named_so.0 ∙ ap (λ (v : Words). name.0.0 ∷ v) grouped_so.1 ∙ ap (λ (n : List ℕ). n ∷ grouped_so.0 ∷ kind.0.1) tail.0;
      name = subst (IsNew draft.names) tail.0 named_so.1;
      grouped = subst (IsGroup grouped_so.0) tail.1 grouped_so.2;
      tail = tail.2;
    }

pub receive_read : (draft : Declared) (words : Words) (branch : BranchPart) → IsReceive draft words branch → receive_form draft words ≡ Ok branch
unfolding receive_form
receive_read draft words branch said =
    rw (said.spelled, room_read draft said.room said.branch_room, new_name_read draft.names branch.name (said.group ∷ said.rest) said.name, group_read said.group branch.group said.rest said.grouped)
    (tail_read draft said.rest branch said.tail)

-- NAME QUEUE HANDLER PATTERN
pub branch_said : (draft : Declared) (part : ArbiterPart) (g : Group) (words : Words) (branch : BranchPart) → branch_form draft part g words ≡ Ok branch → IsBranch draft part g words branch
unfolding branch_form
branch_said draft part g words branch e =
    let branches = bind_ok (limited 256 (branch_count draft.parts + length part.branches)) _ branch e in
    let name = bind_ok (new_name draft.names words) _ branch branches.2 in
    let named_so = new_name_said draft.names words name.0 name.1 in
    let tail = tail_said draft name.0.0 g name.0.1 branch name.2 in
    record {
      branch_room = limit_ok 256 (branch_count draft.parts + length part.branches) branches.0 branches.1;
      rest = name.0.1;
      spelled = named_so.0 ∙ ap (λ (n : List ℕ). n ∷ name.0.1) tail.0;
      name = subst (IsNew draft.names) tail.0 named_so.1;
      grouped = sym tail.1;
      tail = tail.2;
    }

pub branch_read : (draft : Declared) (part : ArbiterPart) (g : Group) (words : Words) (branch : BranchPart) → IsBranch draft part g words branch → branch_form draft part g words ≡ Ok branch
unfolding branch_form
branch_read draft part g words branch said =
    rw (said.spelled, limit_read 256 (branch_count draft.parts + length part.branches) said.branch_room, new_name_read draft.names branch.name said.rest said.name)
    (ap (λ h. branch_tail draft branch.name h said.rest) (sym said.grouped) ∙ tail_read draft said.rest branch said.tail)

-- post PORT EXPR, in a handler
pub post_said : (draft : Declared) (part : HandlerPart) (words : Words) (action : Action) → post_form draft part words ≡ Ok action → (length part.handler.actions < 16) × IsAction draft keywords.Post words action
unfolding post_form
post_said draft part words action e =
    let room = bind_ok (limited 16 (length part.handler.actions)) _ action e in
    let to = bind_ok (port draft words) _ action room.2 in
    let value = bind_ok (expr draft.parts.version to.0.1) _ action to.2 in
    let none = bind_ok (no_more value.0.1) _ action value.2 in
    let referred = port_said draft words to.0 to.1 in
    let valued = expr_said draft.parts.version to.0.1 value.0 value.1 in
    subst (λ (a : Action). (length part.handler.actions < 16) × IsAction draft keywords.Post words a) (ok_is (actions.Post to.0.0 value.0.0) action none.2) (
      limit_ok 16 (length part.handler.actions) room.0 room.1,
      (
        referred.0,
        valued.0,
        referred.1 ∙ ap (λ (v : Words). referred.0 ∷ v) (valued.1 ∙ rw (no_more_ok value.0.1 none.0 none.1) (append-nil valued.0)),
        referred.2,
        valued.2,
      ),
    )

pub post_read : (draft : Declared) (part : HandlerPart) (words : Words) (action : Action) → length part.handler.actions < 16 → IsAction draft keywords.Post words action → post_form draft part words ≡ Ok action
unfolding post_form
post_read draft part words (actions.Post to value) room said =
    let valued : expr draft.parts.version said.1 ≡ Ok (value, []) = ap (expr draft.parts.version) (sym (append-nil said.1)) ∙ expr_read draft.parts.version said.1 value [] said.4 in
    rw (said.2, limit_read 16 (length part.handler.actions) room, port_read draft said.0 to said.1 said.3, valued) refl
post_read draft part words (actions.Fail value) room said = absurd said
post_read draft part words (actions.Add cause) room said = absurd said
post_read draft part words (actions.Remove cause) room said = absurd said
post_read draft part words (actions.Await from) room said = absurd said

-- fail EXPR
pub fail_said : (draft : Declared) (part : HandlerPart) (words : Words) (v : Expr) → fail_form draft part words ≡ Ok v → (length part.handler.actions < 16) × IsAction draft keywords.Fail words (actions.Fail v)
unfolding fail_form
fail_said draft part words v e =
    let room = bind_ok (limited 16 (length part.handler.actions)) _ v e in
    let value = bind_ok (expr draft.parts.version words) _ v room.2 in
    let none = bind_ok (no_more value.0.1) _ v value.2 in
    let valued = expr_said draft.parts.version words value.0 value.1 in
    let whole : valued.0 ≡ words = sym (append-nil valued.0) ∙ rw (← (no_more_ok value.0.1 none.0 none.1)) (sym valued.1) in
    subst (λ (x : Expr). (length part.handler.actions < 16) × IsAction draft keywords.Fail words (actions.Fail x)) (ok_is value.0.0 v none.2)
    (limit_ok 16 (length part.handler.actions) room.0 room.1, subst (λ v. IsExpr draft.parts.version v value.0.0) whole valued.2)

pub fail_read : (draft : Declared) (part : HandlerPart) (words : Words) (v : Expr) → length part.handler.actions < 16 → IsAction draft keywords.Fail words (actions.Fail v) → fail_form draft part words ≡ Ok v
unfolding fail_form
fail_read draft part words v room said =
    let valued : expr draft.parts.version words ≡ Ok (v, []) = ap (expr draft.parts.version) (sym (append-nil words)) ∙ expr_read draft.parts.version words v [] said in
    rw (limit_read 16 (length part.handler.actions) room, valued) refl

-- add CAUSE and remove CAUSE
pub caused_said : (draft : Declared) (part : HandlerPart) (words : Words) (cause : ℕ) → caused_form draft part words ≡ Ok cause → (length part.handler.actions < 16) × IsAction draft keywords.Add words (actions.Add cause)
unfolding caused_form
caused_said draft part words cause e =
    let room = bind_ok (limited 16 (length part.handler.actions)) _ cause e in
    let name = bind_ok (reference as_cause draft.names words) _ cause room.2 in
    let none = bind_ok (no_more name.0.1) _ cause name.2 in
    let said = reference_said as_cause draft.names words name.0 name.1 in
    subst (λ (n : ℕ). (length part.handler.actions < 16) × IsAction draft keywords.Add words (actions.Add n)) (ok_is name.0.0 cause none.2)
    (limit_ok 16 (length part.handler.actions) room.0 room.1, (said.0, said.1 ∙ ap (λ (v : Words). said.0 ∷ v) (no_more_ok name.0.1 none.0 none.1), said.2))

pub caused_read : (draft : Declared) (part : HandlerPart) (words : Words) (cause : ℕ) → length part.handler.actions < 16 → IsAction draft keywords.Add words (actions.Add cause) → caused_form draft part words ≡ Ok cause
unfolding caused_form
caused_read draft part words cause room said = rw (said.1, limit_read 16 (length part.handler.actions) room, reference_read as_cause draft.names said.0 cause [] said.2) refl

-- await PORT
pub await_said : (draft : Declared) (part : HandlerPart) (words : Words) (action : Action) → await_form draft part words ≡ Ok action → (length part.handler.actions < 16) × IsAction draft keywords.Await words action
unfolding await_form
await_said draft part words action e =
    let room = bind_ok (limited 16 (length part.handler.actions)) _ action e in
    let from = bind_ok (port draft words) _ action room.2 in
    let none = bind_ok (no_more from.0.1) _ action from.2 in
    let said = port_said draft words from.0 from.1 in
    subst (λ (a : Action). (length part.handler.actions < 16) × IsAction draft keywords.Await words a) (ok_is (actions.Await from.0.0) action none.2)
    (limit_ok 16 (length part.handler.actions) room.0 room.1, (said.0, said.1 ∙ ap (λ (v : Words). said.0 ∷ v) (no_more_ok from.0.1 none.0 none.1), said.2))

pub await_read : (draft : Declared) (part : HandlerPart) (words : Words) (action : Action) → length part.handler.actions < 16 → IsAction draft keywords.Await words action → await_form draft part words ≡ Ok action
unfolding await_form
await_read draft part words (actions.Await from) room said = rw (said.1, limit_read 16 (length part.handler.actions) room, port_read draft said.0 from [] said.2) refl
await_read draft part words (actions.Post to value) room said = absurd said
await_read draft part words (actions.Fail value) room said = absurd said
await_read draft part words (actions.Add cause) room said = absurd said
await_read draft part words (actions.Remove cause) room said = absurd said

-- post PORT VALUE CAUSE .., in a poster
pub script_said : (draft : Declared) (part : PosterPart) (words : Words) (post : Sent) → script_form draft part words ≡ Ok post → IsPost draft part words post
unfolding script_form
script_said draft part words post e =
    let room = bind_ok (limited 10000 (script_count draft.parts + length part.posts)) _ post e in
    let to = bind_ok (port draft words) _ post room.2 in
    let value = bind_ok (value draft.parts.version to.0.1) _ post to.2 in
    let all = bind_ok (causes draft.names [] value.0.1) _ post value.2 in
    let referred = port_said draft words to.0 to.1 in
    let valued = value_said draft.parts.version to.0.1 value.0 value.1 in
    let caused = causes_said draft.names [] value.0.1 all.0 all.1 in
    let made : Sent = record { port = to.0.0; value = value.0.0; causes = all.0 } in
    subst (IsPost draft part words) (ok_is made post all.2) (record {
      room = limit_ok 10000 (script_count draft.parts + length part.posts) room.0 room.1;
      to = referred.0;
      value = valued.0;
      rest = value.0.1;
      spelled = referred.1 ∙ ap (λ (v : Words). referred.0 ∷ v) valued.1;
      refers = referred.2;
      numbers = valued.2;
      causes = subst (λ v. AreCauses draft.names [] v value.0.1) (sym caused.1) caused.2;
    })

pub script_read : (draft : Declared) (part : PosterPart) (words : Words) (post : Sent) → IsPost draft part words post → script_form draft part words ≡ Ok post
unfolding script_form
script_read draft part words post said =
    rw (said.spelled, limit_read 10000 (script_count draft.parts + length part.posts) said.room, port_read draft said.to post.port (said.value ∷ said.rest) said.refers, value_read draft.parts.version said.value post.value said.rest said.numbers, causes_read draft.names [] post.causes said.rest said.causes) refl

-- end of a choice or Interleave
pub arbiter_end_said : (part : ArbiterPart) (words : Words) (y : Unit {0}) → arbiter_end_form part words ≡ Ok y → (words ≡ []) × ((length part.branches == 0) ≡ false)
unfolding arbiter_end_form
arbiter_end_said part words y e =
    let some = bind_ok (unless (not (length part.branches == 0)) 11) (λ some. no_more words) y e in
    (no_more_ok words y some.2, not_true _ (unless_ok _ 11 some.0 some.1))

pub arbiter_end_read : (part : ArbiterPart) (words : Words) → words ≡ [] → (length part.branches == 0) ≡ false → arbiter_end_form part words ≡ Ok tt
unfolding arbiter_end_form
arbiter_end_read part words none some = rw (none, some) refl
