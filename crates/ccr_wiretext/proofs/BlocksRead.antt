-- A line by its block: what is read is in the grammar, and what is in the grammar is read.
use Rattle.std.proofs.Common.{◌≡◌, length, Option, Some, None, Ok, inl, inr, refl, sym}
use Rattle.ccr_base.specs.declared.handlers.Action.TheVariants as actions
use Rattle.ccr_base.specs.declared.policies.Group.{Group}
use Rattle.ccr_text.specs.Fields.{Words, no_more}
use Rattle.ccr_wiring.specs.declared.parts.BranchPart.{BranchPart}
use Rattle.ccr_wiring.specs.declared.parts.ArbiterPart.{ArbiterPart}
use Rattle.ccr_wiring.specs.declared.parts.HandlerPart.{HandlerPart}
use Rattle.ccr_wiring.specs.declared.parts.PosterPart.{PosterPart}
use Rattle.ccr_wiring.specs.declared.parts.Kind.{Kind}
use Rattle.ccr_wiring.specs.declared.parts.Kind.TheVariants as arbiters
use Rattle.ccr_wiretext.specs.declared.keyword.Keyword.{Keyword}
use Rattle.ccr_wiretext.specs.declared.keyword.Keyword.TheVariants as keywords
use Rattle.ccr_wiretext.specs.declared.draft.Block.{Block}
use Rattle.ccr_wiretext.specs.declared.draft.Block.TheVariants as blocks
use Rattle.ccr_wiretext.specs.Drafts.{Declared, with_budget, with_queue, with_port, with_set, with_cause, with_receive, with_handler, with_arbiter, with_poster, with_domain, with_action, with_branch, with_post, end_handler, end_arbiter, end_poster}
use Rattle.ccr_wiretext.specs.Forms.{budget_form, queue_form, name_form, set_form, cause_form, combine_form, receive_form, branch_form, post_form, fail_form, caused_form, await_form, script_form, end_form, arbiter_end_form}
use Rattle.ccr_wiretext.specs.Blocks.{group_of, branch_line, apart, outside_line, handler_line, arbiter_line, poster_line, line_in}
use Rattle.ccr_wiretext.specs.Lines.{IsBranch, SaysOutside, SaysInHandler, SaysInArbiter, SaysInPoster, Says}
use Rattle.ccr_wiretext.proofs.ReadTellsSteps.{bind_ok, ok_is, no_more_ok}
use Rattle.ccr_wiretext.proofs.FormsRead.{budget_said, budget_read, queue_said, queue_read, name_said, name_read, set_said, set_read, cause_said, cause_read, combine_said, combine_read, receive_said, receive_read, branch_said, branch_read, post_said, post_read, fail_said, fail_read, caused_said, caused_read, await_said, await_read, script_said, script_read, arbiter_end_said, arbiter_end_read}

outside_said : (draft : Declared) (first : Keyword) (words : Words) (new : Declared) → outside_line draft first words ≡ Ok new → SaysOutside draft first words new
unfolding outside_line
outside_said draft keywords.Budget words new e =
    let a = bind_ok (budget_form draft words) (λ budget. Ok (with_budget draft budget)) new e in
    (a.0, budget_said draft words a.0 a.1, sym (ok_is (with_budget draft a.0) new a.2))
outside_said draft keywords.Queue words new e =
    let a = bind_ok (queue_form draft words) (λ part. Ok (with_queue draft part)) new e in
    (a.0, queue_said draft words a.0 a.1, sym (ok_is (with_queue draft a.0) new a.2))
outside_said draft keywords.Port words new e =
    let a = bind_ok (name_form 256 (length draft.parts.ports) draft words) (λ name. Ok (with_port draft name)) new e in
    (a.0, name_said 256 (length draft.parts.ports) draft words a.0 a.1, sym (ok_is (with_port draft a.0) new a.2))
outside_said draft keywords.Portset words new e =
    let a = bind_ok (set_form draft words) (λ part. Ok (with_set draft part)) new e in
    (a.0, set_said draft words a.0 a.1, sym (ok_is (with_set draft a.0) new a.2))
outside_said draft keywords.Cause words new e =
    let a = bind_ok (cause_form draft words) (λ part. Ok (with_cause draft part)) new e in
    (a.0, cause_said draft words a.0 a.1, sym (ok_is (with_cause draft a.0) new a.2))
outside_said draft keywords.Handler words new e =
    let a = bind_ok (name_form 256 (length draft.parts.handlers) draft words) (λ name. Ok (with_handler draft name)) new e in
    (a.0, name_said 256 (length draft.parts.handlers) draft words a.0 a.1, sym (ok_is (with_handler draft a.0) new a.2))
outside_said draft keywords.Receive words new e =
    let a = bind_ok (receive_form draft words) (λ branch. Ok (with_receive draft branch)) new e in
    (a.0, receive_said draft words a.0 a.1, sym (ok_is (with_receive draft a.0) new a.2))
outside_said draft keywords.Choice words new e =
    let a = bind_ok (name_form 256 (length draft.parts.arbiters) draft words) (λ name. Ok (with_arbiter draft arbiters.Choice name)) new e in
    (a.0, name_said 256 (length draft.parts.arbiters) draft words a.0 a.1, sym (ok_is (with_arbiter draft arbiters.Choice a.0) new a.2))
outside_said draft keywords.Interleave words new e =
    let a = bind_ok (name_form 256 (length draft.parts.arbiters) draft words) (λ name. Ok (with_arbiter draft arbiters.Interleave name)) new e in
    (a.0, name_said 256 (length draft.parts.arbiters) draft words a.0 a.1, sym (ok_is (with_arbiter draft arbiters.Interleave a.0) new a.2))
outside_said draft keywords.Combine words new e =
    let a = bind_ok (combine_form draft words) (λ part. Ok (with_domain draft part)) new e in
    (a.0, combine_said draft words a.0 a.1, sym (ok_is (with_domain draft a.0) new a.2))
outside_said draft keywords.Poster words new e =
    let a = bind_ok (name_form 16 (length draft.parts.posters) draft words) (λ name. Ok (with_poster draft name)) new e in
    (a.0, name_said 16 (length draft.parts.posters) draft words a.0 a.1, sym (ok_is (with_poster draft a.0) new a.2))
outside_said draft keywords.Post words new e = absurd cc
outside_said draft keywords.Fail words new e = absurd cc
outside_said draft keywords.Add words new e = absurd cc
outside_said draft keywords.Remove words new e = absurd cc
outside_said draft keywords.Await words new e = absurd cc
outside_said draft keywords.Branch words new e = absurd cc
outside_said draft keywords.Teardown words new e = absurd cc
outside_said draft keywords.Exclusive words new e = absurd cc
outside_said draft keywords.Concurrent words new e = absurd cc
outside_said draft keywords.End words new e = absurd cc
outside_said draft keywords.Other words new e = absurd cc

outside_read : (draft : Declared) (first : Keyword) (words : Words) (new : Declared) → SaysOutside draft first words new → outside_line draft first words ≡ Ok new
unfolding outside_line
outside_read draft keywords.Budget words new said = rw (budget_read draft words said.0 said.1, said.2) refl
outside_read draft keywords.Queue words new said = rw (queue_read draft words said.0 said.1, said.2) refl
outside_read draft keywords.Port words new said = rw (name_read 256 (length draft.parts.ports) draft words said.0 said.1, said.2) refl
outside_read draft keywords.Portset words new said = rw (set_read draft words said.0 said.1, said.2) refl
outside_read draft keywords.Cause words new said = rw (cause_read draft words said.0 said.1, said.2) refl
outside_read draft keywords.Handler words new said = rw (name_read 256 (length draft.parts.handlers) draft words said.0 said.1, said.2) refl
outside_read draft keywords.Receive words new said = rw (receive_read draft words said.0 said.1, said.2) refl
outside_read draft keywords.Choice words new said = rw (name_read 256 (length draft.parts.arbiters) draft words said.0 said.1, said.2) refl
outside_read draft keywords.Interleave words new said = rw (name_read 256 (length draft.parts.arbiters) draft words said.0 said.1, said.2) refl
outside_read draft keywords.Combine words new said = rw (combine_read draft words said.0 said.1, said.2) refl
outside_read draft keywords.Poster words new said = rw (name_read 16 (length draft.parts.posters) draft words said.0 said.1, said.2) refl
outside_read draft keywords.Post words new said = absurd said
outside_read draft keywords.Fail words new said = absurd said
outside_read draft keywords.Add words new said = absurd said
outside_read draft keywords.Remove words new said = absurd said
outside_read draft keywords.Await words new said = absurd said
outside_read draft keywords.Branch words new said = absurd said
outside_read draft keywords.Teardown words new said = absurd said
outside_read draft keywords.Exclusive words new said = absurd said
outside_read draft keywords.Concurrent words new said = absurd said
outside_read draft keywords.End words new said = absurd said
outside_read draft keywords.Other words new said = absurd said

handler_said : (draft : Declared) (part : HandlerPart) (first : Keyword) (words : Words) (new : Declared) → handler_line draft part first words ≡ Ok new → SaysInHandler draft part first words new
unfolding handler_line end_form
handler_said draft part keywords.Budget words new e = absurd cc
handler_said draft part keywords.Queue words new e = absurd cc
handler_said draft part keywords.Port words new e = absurd cc
handler_said draft part keywords.Portset words new e = absurd cc
handler_said draft part keywords.Cause words new e = absurd cc
handler_said draft part keywords.Handler words new e = absurd cc
handler_said draft part keywords.Receive words new e = absurd cc
handler_said draft part keywords.Choice words new e = absurd cc
handler_said draft part keywords.Interleave words new e = absurd cc
handler_said draft part keywords.Combine words new e = absurd cc
handler_said draft part keywords.Poster words new e = absurd cc
handler_said draft part keywords.Post words new e =
    let a = bind_ok (post_form draft part words) (λ action. Ok (with_action draft part action)) new e in
    let said = post_said draft part words a.0 a.1 in
    inr (a.0, said.0, said.1, sym (ok_is (with_action draft part a.0) new a.2))
handler_said draft part keywords.Fail words new e =
    let a = bind_ok (fail_form draft part words) (λ value. Ok (with_action draft part (actions.Fail value))) new e in
    let said = fail_said draft part words a.0 a.1 in
    inr (actions.Fail a.0, said.0, said.1, sym (ok_is (with_action draft part (actions.Fail a.0)) new a.2))
handler_said draft part keywords.Add words new e =
    let a = bind_ok (caused_form draft part words) (λ cause. Ok (with_action draft part (actions.Add cause))) new e in
    let said = caused_said draft part words a.0 a.1 in
    inr (actions.Add a.0, said.0, said.1, sym (ok_is (with_action draft part (actions.Add a.0)) new a.2))
handler_said draft part keywords.Remove words new e =
    let a = bind_ok (caused_form draft part words) (λ cause. Ok (with_action draft part (actions.Remove cause))) new e in
    let said = caused_said draft part words a.0 a.1 in
    inr (actions.Remove a.0, said.0, said.1, sym (ok_is (with_action draft part (actions.Remove a.0)) new a.2))
handler_said draft part keywords.Await words new e =
    let a = bind_ok (await_form draft part words) (λ action. Ok (with_action draft part action)) new e in
    let said = await_said draft part words a.0 a.1 in
    inr (a.0, said.0, said.1, sym (ok_is (with_action draft part a.0) new a.2))
handler_said draft part keywords.Branch words new e = absurd cc
handler_said draft part keywords.Teardown words new e = absurd cc
handler_said draft part keywords.Exclusive words new e = absurd cc
handler_said draft part keywords.Concurrent words new e = absurd cc
handler_said draft part keywords.End words new e =
    let a = bind_ok (no_more words) (λ done. Ok (end_handler draft part)) new e in
    inl (refl, no_more_ok words a.0 a.1, sym (ok_is (end_handler draft part) new a.2))
handler_said draft part keywords.Other words new e = absurd cc

handler_read : (draft : Declared) (part : HandlerPart) (first : Keyword) (words : Words) (new : Declared) → SaysInHandler draft part first words new → handler_line draft part first words ≡ Ok new
unfolding handler_line end_form
handler_read draft part first words new (inl said) = rw (said.0, said.1, said.2) refl
handler_read draft part keywords.Budget words new (inr said) = absurd said.2
handler_read draft part keywords.Queue words new (inr said) = absurd said.2
handler_read draft part keywords.Port words new (inr said) = absurd said.2
handler_read draft part keywords.Portset words new (inr said) = absurd said.2
handler_read draft part keywords.Cause words new (inr said) = absurd said.2
handler_read draft part keywords.Handler words new (inr said) = absurd said.2
handler_read draft part keywords.Receive words new (inr said) = absurd said.2
handler_read draft part keywords.Choice words new (inr said) = absurd said.2
handler_read draft part keywords.Interleave words new (inr said) = absurd said.2
handler_read draft part keywords.Combine words new (inr said) = absurd said.2
handler_read draft part keywords.Poster words new (inr said) = absurd said.2
handler_read draft part keywords.Post words new (inr said) = rw (post_read draft part words said.0 said.1 said.2, said.3) refl
handler_read draft part keywords.Fail words new (inr (actions.Post to value, room, said, is)) = absurd said
handler_read draft part keywords.Fail words new (inr (actions.Fail value, room, said, is)) = rw (fail_read draft part words value room said, is) refl
handler_read draft part keywords.Fail words new (inr (actions.Add cause, room, said, is)) = absurd said
handler_read draft part keywords.Fail words new (inr (actions.Remove cause, room, said, is)) = absurd said
handler_read draft part keywords.Fail words new (inr (actions.Await from, room, said, is)) = absurd said
handler_read draft part keywords.Add words new (inr (actions.Post to value, room, said, is)) = absurd said
handler_read draft part keywords.Add words new (inr (actions.Fail value, room, said, is)) = absurd said
handler_read draft part keywords.Add words new (inr (actions.Add cause, room, said, is)) = rw (caused_read draft part words cause room said, is) refl
handler_read draft part keywords.Add words new (inr (actions.Remove cause, room, said, is)) = absurd said
handler_read draft part keywords.Add words new (inr (actions.Await from, room, said, is)) = absurd said
handler_read draft part keywords.Remove words new (inr (actions.Post to value, room, said, is)) = absurd said
handler_read draft part keywords.Remove words new (inr (actions.Fail value, room, said, is)) = absurd said
handler_read draft part keywords.Remove words new (inr (actions.Add cause, room, said, is)) = absurd said
handler_read draft part keywords.Remove words new (inr (actions.Remove cause, room, said, is)) = rw (caused_read draft part words cause room said, is) refl
handler_read draft part keywords.Remove words new (inr (actions.Await from, room, said, is)) = absurd said
handler_read draft part keywords.Await words new (inr said) = rw (await_read draft part words said.0 said.1 said.2, said.3) refl
handler_read draft part keywords.Branch words new (inr said) = absurd said.2
handler_read draft part keywords.Teardown words new (inr said) = absurd said.2
handler_read draft part keywords.Exclusive words new (inr said) = absurd said.2
handler_read draft part keywords.Concurrent words new (inr said) = absurd said.2
handler_read draft part keywords.End words new (inr said) = absurd said.2
handler_read draft part keywords.Other words new (inr said) = absurd said.2

branch_line_said : (draft : Declared) (part : ArbiterPart) (o : Option Group) (words : Words) (new : Declared) → branch_line draft part o words ≡ Ok new
    → (group : Group) × (o ≡ Some group) × (branch : BranchPart) × IsBranch draft part group words branch × (new ≡ with_branch draft part branch)
branch_line_said draft part None words new e = absurd cc
branch_line_said draft part (Some group) words new e =
    let a = bind_ok (branch_form draft part group words) (λ branch. Ok (with_branch draft part branch)) new e in
    (group, refl, a.0, branch_said draft part group words a.0 a.1, sym (ok_is (with_branch draft part a.0) new a.2))

no_group_ends : (kind : Kind) (group : Group) → group_of kind keywords.End ≡ Some group → ⊥
no_group_ends arbiters.Receive group e = absurd cc
no_group_ends arbiters.Choice group e = absurd cc
no_group_ends arbiters.Interleave group e = absurd cc

arbiter_said : (draft : Declared) (part : ArbiterPart) (first : Keyword) (words : Words) (new : Declared) → arbiter_line draft part first words ≡ Ok new → SaysInArbiter draft part first words new
unfolding arbiter_line
arbiter_said draft part keywords.Budget words new e = inr (branch_line_said draft part (group_of part.kind keywords.Budget) words new e)
arbiter_said draft part keywords.Queue words new e = inr (branch_line_said draft part (group_of part.kind keywords.Queue) words new e)
arbiter_said draft part keywords.Port words new e = inr (branch_line_said draft part (group_of part.kind keywords.Port) words new e)
arbiter_said draft part keywords.Portset words new e = inr (branch_line_said draft part (group_of part.kind keywords.Portset) words new e)
arbiter_said draft part keywords.Cause words new e = inr (branch_line_said draft part (group_of part.kind keywords.Cause) words new e)
arbiter_said draft part keywords.Handler words new e = inr (branch_line_said draft part (group_of part.kind keywords.Handler) words new e)
arbiter_said draft part keywords.Receive words new e = inr (branch_line_said draft part (group_of part.kind keywords.Receive) words new e)
arbiter_said draft part keywords.Choice words new e = inr (branch_line_said draft part (group_of part.kind keywords.Choice) words new e)
arbiter_said draft part keywords.Interleave words new e = inr (branch_line_said draft part (group_of part.kind keywords.Interleave) words new e)
arbiter_said draft part keywords.Combine words new e = inr (branch_line_said draft part (group_of part.kind keywords.Combine) words new e)
arbiter_said draft part keywords.Poster words new e = inr (branch_line_said draft part (group_of part.kind keywords.Poster) words new e)
arbiter_said draft part keywords.Post words new e = inr (branch_line_said draft part (group_of part.kind keywords.Post) words new e)
arbiter_said draft part keywords.Fail words new e = inr (branch_line_said draft part (group_of part.kind keywords.Fail) words new e)
arbiter_said draft part keywords.Add words new e = inr (branch_line_said draft part (group_of part.kind keywords.Add) words new e)
arbiter_said draft part keywords.Remove words new e = inr (branch_line_said draft part (group_of part.kind keywords.Remove) words new e)
arbiter_said draft part keywords.Await words new e = inr (branch_line_said draft part (group_of part.kind keywords.Await) words new e)
arbiter_said draft part keywords.Branch words new e = inr (branch_line_said draft part (group_of part.kind keywords.Branch) words new e)
arbiter_said draft part keywords.Teardown words new e = inr (branch_line_said draft part (group_of part.kind keywords.Teardown) words new e)
arbiter_said draft part keywords.Exclusive words new e = inr (branch_line_said draft part (group_of part.kind keywords.Exclusive) words new e)
arbiter_said draft part keywords.Concurrent words new e = inr (branch_line_said draft part (group_of part.kind keywords.Concurrent) words new e)
arbiter_said draft part keywords.End words new e =
    let a = bind_ok (arbiter_end_form part words) (λ done. Ok (end_arbiter draft part)) new e in
    let said = arbiter_end_said part words a.0 a.1 in
    inl (refl, said.0, said.1, sym (ok_is (end_arbiter draft part) new a.2))
arbiter_said draft part keywords.Other words new e = inr (branch_line_said draft part (group_of part.kind keywords.Other) words new e)

arbiter_read : (draft : Declared) (part : ArbiterPart) (first : Keyword) (words : Words) (new : Declared) → SaysInArbiter draft part first words new → arbiter_line draft part first words ≡ Ok new
unfolding arbiter_line
arbiter_read draft part first words new (inl said) = rw (said.0, arbiter_end_read part words said.1 said.2, said.3) refl
arbiter_read draft part keywords.Budget words new (inr said) = rw (said.1, branch_read draft part said.0 words said.2 said.3, said.4) refl
arbiter_read draft part keywords.Queue words new (inr said) = rw (said.1, branch_read draft part said.0 words said.2 said.3, said.4) refl
arbiter_read draft part keywords.Port words new (inr said) = rw (said.1, branch_read draft part said.0 words said.2 said.3, said.4) refl
arbiter_read draft part keywords.Portset words new (inr said) = rw (said.1, branch_read draft part said.0 words said.2 said.3, said.4) refl
arbiter_read draft part keywords.Cause words new (inr said) = rw (said.1, branch_read draft part said.0 words said.2 said.3, said.4) refl
arbiter_read draft part keywords.Handler words new (inr said) = rw (said.1, branch_read draft part said.0 words said.2 said.3, said.4) refl
arbiter_read draft part keywords.Receive words new (inr said) = rw (said.1, branch_read draft part said.0 words said.2 said.3, said.4) refl
arbiter_read draft part keywords.Choice words new (inr said) = rw (said.1, branch_read draft part said.0 words said.2 said.3, said.4) refl
arbiter_read draft part keywords.Interleave words new (inr said) = rw (said.1, branch_read draft part said.0 words said.2 said.3, said.4) refl
arbiter_read draft part keywords.Combine words new (inr said) = rw (said.1, branch_read draft part said.0 words said.2 said.3, said.4) refl
arbiter_read draft part keywords.Poster words new (inr said) = rw (said.1, branch_read draft part said.0 words said.2 said.3, said.4) refl
arbiter_read draft part keywords.Post words new (inr said) = rw (said.1, branch_read draft part said.0 words said.2 said.3, said.4) refl
arbiter_read draft part keywords.Fail words new (inr said) = rw (said.1, branch_read draft part said.0 words said.2 said.3, said.4) refl
arbiter_read draft part keywords.Add words new (inr said) = rw (said.1, branch_read draft part said.0 words said.2 said.3, said.4) refl
arbiter_read draft part keywords.Remove words new (inr said) = rw (said.1, branch_read draft part said.0 words said.2 said.3, said.4) refl
arbiter_read draft part keywords.Await words new (inr said) = rw (said.1, branch_read draft part said.0 words said.2 said.3, said.4) refl
arbiter_read draft part keywords.Branch words new (inr said) = rw (said.1, branch_read draft part said.0 words said.2 said.3, said.4) refl
arbiter_read draft part keywords.Teardown words new (inr said) = rw (said.1, branch_read draft part said.0 words said.2 said.3, said.4) refl
arbiter_read draft part keywords.Exclusive words new (inr said) = rw (said.1, branch_read draft part said.0 words said.2 said.3, said.4) refl
arbiter_read draft part keywords.Concurrent words new (inr said) = rw (said.1, branch_read draft part said.0 words said.2 said.3, said.4) refl
arbiter_read draft part keywords.End words new (inr said) = absurd (no_group_ends part.kind said.0 said.1)
arbiter_read draft part keywords.Other words new (inr said) = rw (said.1, branch_read draft part said.0 words said.2 said.3, said.4) refl

poster_said : (draft : Declared) (part : PosterPart) (first : Keyword) (words : Words) (new : Declared) → poster_line draft part first words ≡ Ok new → SaysInPoster draft part first words new
unfolding poster_line end_form
poster_said draft part keywords.Budget words new e = absurd cc
poster_said draft part keywords.Queue words new e = absurd cc
poster_said draft part keywords.Port words new e = absurd cc
poster_said draft part keywords.Portset words new e = absurd cc
poster_said draft part keywords.Cause words new e = absurd cc
poster_said draft part keywords.Handler words new e = absurd cc
poster_said draft part keywords.Receive words new e = absurd cc
poster_said draft part keywords.Choice words new e = absurd cc
poster_said draft part keywords.Interleave words new e = absurd cc
poster_said draft part keywords.Combine words new e = absurd cc
poster_said draft part keywords.Poster words new e = absurd cc
poster_said draft part keywords.Post words new e =
    let a = bind_ok (script_form draft part words) (λ post. Ok (with_post draft part post)) new e in
    (a.0, script_said draft part words a.0 a.1, sym (ok_is (with_post draft part a.0) new a.2))
poster_said draft part keywords.Fail words new e = absurd cc
poster_said draft part keywords.Add words new e = absurd cc
poster_said draft part keywords.Remove words new e = absurd cc
poster_said draft part keywords.Await words new e = absurd cc
poster_said draft part keywords.Branch words new e = absurd cc
poster_said draft part keywords.Teardown words new e = absurd cc
poster_said draft part keywords.Exclusive words new e = absurd cc
poster_said draft part keywords.Concurrent words new e = absurd cc
poster_said draft part keywords.End words new e =
    let a = bind_ok (no_more words) (λ done. Ok (end_poster draft part)) new e in
    (no_more_ok words a.0 a.1, sym (ok_is (end_poster draft part) new a.2))
poster_said draft part keywords.Other words new e = absurd cc

poster_read : (draft : Declared) (part : PosterPart) (first : Keyword) (words : Words) (new : Declared) → SaysInPoster draft part first words new → poster_line draft part first words ≡ Ok new
unfolding poster_line end_form
poster_read draft part keywords.Budget words new said = absurd said
poster_read draft part keywords.Queue words new said = absurd said
poster_read draft part keywords.Port words new said = absurd said
poster_read draft part keywords.Portset words new said = absurd said
poster_read draft part keywords.Cause words new said = absurd said
poster_read draft part keywords.Handler words new said = absurd said
poster_read draft part keywords.Receive words new said = absurd said
poster_read draft part keywords.Choice words new said = absurd said
poster_read draft part keywords.Interleave words new said = absurd said
poster_read draft part keywords.Combine words new said = absurd said
poster_read draft part keywords.Poster words new said = absurd said
poster_read draft part keywords.Post words new said = rw (script_read draft part words said.0 said.1, said.2) refl
poster_read draft part keywords.Fail words new said = absurd said
poster_read draft part keywords.Add words new said = absurd said
poster_read draft part keywords.Remove words new said = absurd said
poster_read draft part keywords.Await words new said = absurd said
poster_read draft part keywords.Branch words new said = absurd said
poster_read draft part keywords.Teardown words new said = absurd said
poster_read draft part keywords.Exclusive words new said = absurd said
poster_read draft part keywords.Concurrent words new said = absurd said
poster_read draft part keywords.End words new said = rw (said.0, said.1) refl
poster_read draft part keywords.Other words new said = absurd said

-- a line in its block
pub line_said : (block : Block) (draft : Declared) (first : Keyword) (words : Words) (new : Declared) → line_in block draft first words ≡ Ok new → Says block draft first words new
unfolding line_in
line_said blocks.Outside draft first words new e = outside_said draft first words new e
line_said (blocks.Handler part) draft first words new e = handler_said (apart draft) part first words new e
line_said (blocks.Arbiter part) draft first words new e = arbiter_said (apart draft) part first words new e
line_said (blocks.Poster part) draft first words new e = poster_said (apart draft) part first words new e

pub line_read : (block : Block) (draft : Declared) (first : Keyword) (words : Words) (new : Declared) → Says block draft first words new → line_in block draft first words ≡ Ok new
unfolding line_in
line_read blocks.Outside draft first words new said = outside_read draft first words new said
line_read (blocks.Handler part) draft first words new said = handler_read (apart draft) part first words new said
line_read (blocks.Arbiter part) draft first words new said = arbiter_read (apart draft) part first words new said
line_read (blocks.Poster part) draft first words new said = poster_read (apart draft) part first words new said
