-- The note of a firing is one that the Interleave may give.
use Rattle.std.proofs.Common.{◌≡◌, Bool, true, false, List, [], ◌∷◌, map, None, refl, sym, ap, ◌∙◌, if◌then◌else◌}
use Rattle.ccr_base.specs.declared.names.MsgId.{MsgId}
use Rattle.ccr_base.specs.declared.tasks.Task.{Task}
use Rattle.ccr_base.specs.declared.tasks.Commit.{Commit}
use Rattle.ccr_places.specs.Commits.{cut_tasks, commit_note}
use Rattle.ccr_places.specs.Interleaves.{InterleaveTasks, Waiting, group_at, is_teardown, IsGiven}
use Rattle.ccr_interleave.specs.Replies.{waiting_of, cut_of, commit_reply}

cut_names : (tasks : List Task) → cut_tasks (map cut_of tasks) ≡ map (λ (w : Waiting). w.task) (map waiting_of tasks)
cut_names [] = refl
cut_names (task ∷ tasks) = ap (λ names. task.id ∷ names) (cut_names tasks)

cuts_noted : (teardown : Bool) (tasks : List Task) (waiting : List Waiting) → waiting ≡ map waiting_of tasks
    → cut_tasks (if teardown then map cut_of tasks else []) ≡ (if teardown then map (λ (w : Waiting). w.task) waiting else [])
cuts_noted true tasks waiting same = cut_names tasks ∙ ap (map (λ (w : Waiting). w.task)) (sym same)
cuts_noted false tasks waiting same = refl

pub given-fired : (kept : InterleaveTasks) (task : Task) → kept.state.waiting ≡ map waiting_of kept.tasks → kept.state.teardown ≡ None
    → (reply : Commit) → reply ≡ commit_reply kept task → (messages : List MsgId) → IsGiven kept.state (commit_note task messages reply)
given-fired kept task same none reply is messages =
    rw (is, none) (refl, cuts_noted (is_teardown (group_at kept.state task.spot)) kept.tasks kept.state.waiting same)
