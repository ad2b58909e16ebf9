-- What a site answers.
use Rattle.std.specs.Prelude.{Option, Some, None, if◌then◌else◌}
use Rattle.ccr_claim.specs.declared.asks.Ask.{Ask}
use Rattle.ccr_claim.specs.declared.asks.Ask.TheVariants as asks
use Rattle.ccr_claim.specs.declared.asks.Reply.{Reply}
use Rattle.ccr_claim.specs.declared.asks.Reply.TheVariants as replies
use Rattle.ccr_places.specs.declared.notes.Note.{Note}
use Rattle.ccr_places.specs.declared.notes.Note.TheVariants as notes
use Rattle.ccr_await.specs.Resuming.{SiteTasks, site_state, commit_reply, after_commit, after_suspend}
use Rattle.ccr_places.specs.Sites.{may_commit}
use Rattle.ccr_object.specs.Commits.{committed}

-- the reply to an ask, with its note; nothing where the ask isn't for an await site or its condition isn't met
abbrev pub answer : SiteTasks → Ask → Option (Reply × Note)
answer site (asks.Commit task messages) = if may_commit (site_state site) task then Some (committed task messages (commit_reply site task)) else None
answer site (asks.Suspend task) = Some (replies.Done, notes.Suspend task.id)
answer site _ = None

-- the await site after the ask
abbrev pub after : SiteTasks → Ask → SiteTasks
after site (asks.Commit task messages) = if may_commit (site_state site) task then after_commit site task else site
after site (asks.Suspend task) = after_suspend site task
after site _ = site
