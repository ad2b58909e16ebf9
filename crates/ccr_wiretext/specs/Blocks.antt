-- Which first words may stand in which block, and what is declared after such a line. Another first word is code 3.
use Rattle.std.specs.Prelude.{ℕ, length, Option, Some, None, Result, Ok, Err}
use Rattle.ccr_base.specs.Bounds.{most_arbiters, most_handlers, most_ports, most_posters}
use Rattle.ccr_base.specs.declared.policies.Group.{Group}
use Rattle.ccr_base.specs.declared.policies.Group.TheVariants as groups
use Rattle.ccr_base.specs.declared.handlers.Action.TheVariants as actions
use Rattle.ccr_text.specs.Fields.{Words, ◌>>=◌}
use Rattle.ccr_wiring.specs.declared.parts.ArbiterPart.{ArbiterPart}
use Rattle.ccr_wiring.specs.declared.parts.HandlerPart.{HandlerPart}
use Rattle.ccr_wiring.specs.declared.parts.PosterPart.{PosterPart}
use Rattle.ccr_wiring.specs.declared.parts.Kind.{Kind}
use Rattle.ccr_wiring.specs.declared.parts.Kind.TheVariants as arbiters
use Rattle.ccr_wiretext.specs.declared.keyword.Keyword.{Keyword}
use Rattle.ccr_wiretext.specs.declared.keyword.Keyword.TheVariants as keywords
use Rattle.ccr_wiretext.specs.declared.draft.Block.{Block}
use Rattle.ccr_wiretext.specs.declared.draft.Block.TheVariants as blocks
use Rattle.ccr_wiretext.specs.Drafts.{Declared, with_budget, with_queue, with_port, with_set, with_cause, with_receive, with_handler, with_arbiter, with_poster, with_domain, with_action, with_branch, with_post, end_handler, end_arbiter, end_poster}
use Rattle.ccr_wiretext.specs.Forms.{budget_form, queue_form, name_form, set_form, cause_form, combine_form, receive_form, branch_form, post_form, fail_form, caused_form, await_form, script_form, end_form, arbiter_end_form}

unfoldable pub outside_line : Declared → Keyword → Words → Result Declared ℕ
outside_line draft keywords.Budget words = budget_form draft words >>= λ budget. Ok (with_budget draft budget)
outside_line draft keywords.Queue words = queue_form draft words >>= λ part. Ok (with_queue draft part)
outside_line draft keywords.Port words = name_form most_ports (length draft.parts.ports) draft words >>= λ name. Ok (with_port draft name)
outside_line draft keywords.Portset words = set_form draft words >>= λ part. Ok (with_set draft part)
outside_line draft keywords.Cause words = cause_form draft words >>= λ part. Ok (with_cause draft part)
outside_line draft keywords.Handler words = name_form most_handlers (length draft.parts.handlers) draft words >>= λ name. Ok (with_handler draft name)
outside_line draft keywords.Receive words = receive_form draft words >>= λ branch. Ok (with_receive draft branch)
outside_line draft keywords.Choice words = name_form most_arbiters (length draft.parts.arbiters) draft words >>= λ name. Ok (with_arbiter draft arbiters.Choice name)
outside_line draft keywords.Interleave words = name_form most_arbiters (length draft.parts.arbiters) draft words >>= λ name. Ok (with_arbiter draft arbiters.Interleave name)
outside_line draft keywords.Combine words = combine_form draft words >>= λ part. Ok (with_domain draft part)
outside_line draft keywords.Poster words = name_form most_posters (length draft.parts.posters) draft words >>= λ name. Ok (with_poster draft name)
outside_line draft _ words = Err 3

unfoldable pub handler_line : Declared → HandlerPart → Keyword → Words → Result Declared ℕ
handler_line draft part keywords.Post words = post_form draft part words >>= λ action. Ok (with_action draft part action)
handler_line draft part keywords.Fail words = fail_form draft part words >>= λ value. Ok (with_action draft part (actions.Fail value))
handler_line draft part keywords.Add words = caused_form draft part words >>= λ cause. Ok (with_action draft part (actions.Add cause))
handler_line draft part keywords.Remove words = caused_form draft part words >>= λ cause. Ok (with_action draft part (actions.Remove cause))
handler_line draft part keywords.Await words = await_form draft part words >>= λ action. Ok (with_action draft part action)
handler_line draft part keywords.End words = end_form words >>= λ done. Ok (end_handler draft part)
handler_line draft part _ words = Err 3

-- the group of a branch that begins so, by the kind of its arbiter
abbrev pub group_of : Kind → Keyword → Option Group
group_of arbiters.Choice keywords.Branch = Some groups.Choice
group_of arbiters.Interleave keywords.Teardown = Some groups.Teardown
group_of arbiters.Interleave keywords.Exclusive = Some groups.Exclusive
group_of arbiters.Interleave keywords.Concurrent = Some groups.Concurrent
group_of _ _ = None

-- a line of a branch, where the first word begins one
abbrev pub branch_line : Declared → ArbiterPart → Option Group → Words → Result Declared ℕ
branch_line draft part (Some group) words = branch_form draft part group words >>= λ branch. Ok (with_branch draft part branch)
branch_line draft part None words = Err 3

unfoldable pub arbiter_line : Declared → ArbiterPart → Keyword → Words → Result Declared ℕ
arbiter_line draft part keywords.End words = arbiter_end_form part words >>= λ done. Ok (end_arbiter draft part)
arbiter_line draft part first words = branch_line draft part (group_of part.kind first) words

unfoldable pub poster_line : Declared → PosterPart → Keyword → Words → Result Declared ℕ
poster_line draft part keywords.Post words = script_form draft part words >>= λ post. Ok (with_post draft part post)
poster_line draft part keywords.End words = end_form words >>= λ done. Ok (end_poster draft part)
poster_line draft part _ words = Err 3

-- while a line of a block is read, the block is apart
abbrev pub apart : Declared → Declared
apart draft = record draft { block = blocks.Outside }

-- by the block in which the line stands
unfoldable pub line_in : Block → Declared → Keyword → Words → Result Declared ℕ
line_in blocks.Outside draft first words = outside_line draft first words
line_in (blocks.Handler part) draft first words = handler_line (apart draft) part first words
line_in (blocks.Arbiter part) draft first words = arbiter_line (apart draft) part first words
line_in (blocks.Poster part) draft first words = poster_line (apart draft) part first words
