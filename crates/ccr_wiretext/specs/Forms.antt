-- The forms of a line: what stands behind its first word, and what it says.
use Rattle.std.specs.Prelude.{ℕ, Bool, not, List, [], ◌++◌, ◌+◌, ◌==◌, length, nat_lt, Result, Ok}
use Rattle.std.specs.List.{list_any}
use Rattle.ccr_base.specs.Bounds.{most_actions, most_arbiters, most_branches, most_causes, most_domains, most_policy, most_queues, most_script_posts, most_sets, most_spots, most_task_posts}
use Rattle.ccr_base.specs.declared.handlers.Action.{Action}
use Rattle.ccr_base.specs.declared.handlers.Action.TheVariants as actions
use Rattle.ccr_base.specs.declared.handlers.Expr.{Expr}
use Rattle.ccr_base.specs.declared.messages.Sent.{Sent}
use Rattle.ccr_base.specs.declared.policies.Group.{Group}
use Rattle.ccr_text.specs.Fields.{Words, ◌>>=◌, unless, limited, no_more, number_within, policy}
use Rattle.ccr_wiring.specs.declared.parts.QueuePart.{QueuePart}
use Rattle.ccr_wiring.specs.declared.parts.SetPart.{SetPart}
use Rattle.ccr_wiring.specs.declared.parts.CausePart.{CausePart}
use Rattle.ccr_wiring.specs.declared.parts.BranchPart.{BranchPart}
use Rattle.ccr_wiring.specs.declared.parts.ArbiterPart.{ArbiterPart}
use Rattle.ccr_wiring.specs.declared.parts.HandlerPart.{HandlerPart}
use Rattle.ccr_wiring.specs.declared.parts.PosterPart.{PosterPart}
use Rattle.ccr_wiring.specs.declared.parts.DomainPart.{DomainPart}
use Rattle.ccr_wiring.specs.Spots.{branch_named, times}
use Rattle.ccr_wiretext.specs.Names.{as_queue, as_cause, as_handler}
use Rattle.ccr_wiretext.specs.Drafts.{Declared, branch_count, script_count}
use Rattle.ccr_wiretext.specs.Fields.{new_name, reference, port, group, value, expr}
use Rattle.ccr_wiretext.specs.Patterns.{pattern, all_members, combined, causes}

-- budget N. A second one is code 13
unfoldable pub budget_form : Declared → Words → Result ℕ ℕ
budget_form draft words = do
  once ← unless (not draft.budgeted) 13
  value ← number_within 0 most_task_posts words
  done ← no_more value.1
  Ok value.0

-- queue NAME POLICY
unfoldable pub queue_form : Declared → Words → Result QueuePart ℕ
queue_form draft words = do
  room ← limited most_queues (length draft.parts.queues)
  name ← new_name draft.names words
  rule ← policy most_policy name.1
  done ← no_more rule.1
  Ok (record { name = name.0; policy = rule.0 })

-- port NAME, handler NAME, choice NAME, interleave NAME and poster NAME
unfoldable pub name_form : ℕ → ℕ → Declared → Words → Result (List ℕ) ℕ
name_form limit count draft words = do
  room ← limited limit count
  name ← new_name draft.names words
  done ← no_more name.1
  Ok name.0

-- portset NAME PORT ..
unfoldable pub set_form : Declared → Words → Result SetPart ℕ
set_form draft words = do
  room ← limited most_sets (length draft.parts.sets)
  name ← new_name draft.names words
  ports ← all_members draft name.1
  Ok (record { name = name.0; ports = ports })

-- cause NAME PORT
unfoldable pub cause_form : Declared → Words → Result CausePart ℕ
cause_form draft words = do
  room ← limited most_causes (length draft.parts.causes)
  name ← new_name draft.names words
  to ← port draft name.1
  done ← no_more to.1
  Ok (record { name = name.0; port = to.0 })

-- combine INTERLEAVE INTERLEAVE ..
unfoldable pub combine_form : Declared → Words → Result DomainPart ℕ
combine_form draft words = do
  room ← limited most_domains (length draft.parts.domains)
  members ← combined draft words
  Ok (record { members = members })

-- with this branch more than 16 spots name one of the ports that it and its sites name: code 12
unfoldable pub crowds : Declared → BranchPart → Bool
crowds draft branch = list_any (λ port. nat_lt most_spots (times port (draft.spotted ++ branch_named draft.parts branch))) (branch_named draft.parts branch)

-- QUEUE HANDLER PATTERN, of a branch whose name and group are known
unfoldable pub branch_tail : Declared → List ℕ → Group → Words → Result BranchPart ℕ
branch_tail draft name group words = do
  queue ← reference as_queue draft.names words
  handler ← reference as_handler draft.names queue.1
  shape ← pattern draft handler.1
  room ← unless (not (crowds draft (record { name = name; group = group; queue = queue.0; handler = handler.0; pattern = shape }))) 12
  Ok (record { name = name; group = group; queue = queue.0; handler = handler.0; pattern = shape })

-- room for a receive, which counts as an arbiter and as a branch
unfoldable pub receive_room : Declared → Result (Unit {0}) ℕ
receive_room draft = do
  room ← limited most_arbiters (length draft.parts.arbiters)
  limited most_branches (branch_count draft.parts)

-- receive NAME GROUP QUEUE HANDLER PATTERN
unfoldable pub receive_form : Declared → Words → Result BranchPart ℕ
receive_form draft words = do
  room ← receive_room draft
  name ← new_name draft.names words
  kind ← group name.1
  branch_tail draft name.0 kind.0 kind.1

-- branch NAME QUEUE HANDLER PATTERN in a choice, and the three groups in an Interleave
unfoldable pub branch_form : Declared → ArbiterPart → Group → Words → Result BranchPart ℕ
branch_form draft part group words = do
  room ← limited most_branches (branch_count draft.parts + length part.branches)
  name ← new_name draft.names words
  branch_tail draft name.0 group name.1

-- post PORT EXPR, in a handler
unfoldable pub post_form : Declared → HandlerPart → Words → Result Action ℕ
post_form draft part words = do
  room ← limited most_actions (length part.handler.actions)
  to ← port draft words
  value ← expr draft.parts.version to.1
  done ← no_more value.1
  Ok (actions.Post to.0 value.0)

-- fail EXPR
unfoldable pub fail_form : Declared → HandlerPart → Words → Result Expr ℕ
fail_form draft part words = do
  room ← limited most_actions (length part.handler.actions)
  value ← expr draft.parts.version words
  done ← no_more value.1
  Ok value.0

-- add CAUSE and remove CAUSE
unfoldable pub caused_form : Declared → HandlerPart → Words → Result ℕ ℕ
caused_form draft part words = do
  room ← limited most_actions (length part.handler.actions)
  cause ← reference as_cause draft.names words
  done ← no_more cause.1
  Ok cause.0

-- await PORT
unfoldable pub await_form : Declared → HandlerPart → Words → Result Action ℕ
await_form draft part words = do
  room ← limited most_actions (length part.handler.actions)
  from ← port draft words
  done ← no_more from.1
  Ok (actions.Await from.0)

-- post PORT VALUE CAUSE .., in a poster
unfoldable pub script_form : Declared → PosterPart → Words → Result Sent ℕ
script_form draft part words = do
  room ← limited most_script_posts (script_count draft.parts + length part.posts)
  to ← port draft words
  value ← value draft.parts.version to.1
  all ← causes draft.names [] value.1
  Ok (record { port = to.0; value = value.0; causes = all })

-- end
unfoldable pub end_form : Words → Result (Unit {0}) ℕ
end_form words = no_more words

-- end of a choice or Interleave, which has a branch
unfoldable pub arbiter_end_form : ArbiterPart → Words → Result (Unit {0}) ℕ
arbiter_end_form part words = do
  some ← unless (not (length part.branches == 0)) 11
  no_more words
