use Rattle.std.proofs.Common.{◌≡◌, List, None, map, refl}
use Rattle.std.proofs.lemmas.Result.{IfOk-weaker}
use Rattle.ccr_base.specs.declared.names.MsgId.{MsgId}
use Rattle.ccr_base.specs.declared.tasks.Commit.{Commit}
use Rattle.ccr_places.specs.Commits.{commit_note}
use Rattle.ccr_places.specs.Interleaves.{IsGiven}
use Rattle.ccr_interleave.specs.Replies.{waiting_of, commit_reply}
use Rattle.ccr_interleave.proofs.FiringsMayBeGiven.{given-fired}
use Rattle.ccr_interleave.proofs.interleave.InterleaveObject.commit.Goals as goal

pub returns-then-is_teardown-clause-given : goal.returns-then-is_teardown-clause-given
returns-then-is_teardown-clause-given c =
    let names : c.args.self.now.state.waiting ≡ map waiting_of c.args.self.now.tasks = rw (← c.self.view_is) refl in
    let live : c.args.self.now.state.teardown ≡ None = rw (← c.self.view_is) c.in_default.is in
    IfOk-weaker c.tear_down.result (λ (reply : Commit). reply ≡ commit_reply c.args.self.now c.args.task)
    (λ (reply : Commit). (messages : List MsgId) → IsGiven c.args.self.now.state (commit_note c.args.task messages reply))
    (λ reply is. given-fired c.args.self.now c.args.task names live reply is) c.tear_down.ensures.reply
