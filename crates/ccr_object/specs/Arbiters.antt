-- What a receiver or a choice answers.
use Rattle.std.specs.Prelude.{Option, Some, None, if◌then◌else◌}
use Rattle.ccr_claim.specs.declared.asks.Ask.{Ask}
use Rattle.ccr_claim.specs.declared.asks.Ask.TheVariants as asks
use Rattle.ccr_claim.specs.declared.asks.Reply.{Reply}
use Rattle.ccr_claim.specs.declared.asks.Reply.TheVariants as replies
use Rattle.ccr_places.specs.declared.notes.Note.{Note}
use Rattle.ccr_places.specs.declared.notes.Note.TheVariants as notes
use Rattle.ccr_arbiter.specs.Replies.{commit_reply, after_commit}
use Rattle.ccr_places.specs.Arbiters.{ArbiterState, may_commit, may_over, after_over}
use Rattle.ccr_object.specs.Commits.{committed}

-- the reply to an ask, with its note; nothing where the ask isn't for an arbiter or its condition isn't met
abbrev pub answer : ArbiterState → Ask → Option (Reply × Note)
answer arbiter (asks.Commit task messages) = if may_commit arbiter task then Some (committed task messages (commit_reply arbiter task)) else None
answer arbiter (asks.Over task root how) = if may_over arbiter root then Some (replies.Done, notes.Over task root how) else None
answer arbiter _ = None

-- the arbiter after the ask
abbrev pub after : ArbiterState → Ask → ArbiterState
after arbiter (asks.Commit task messages) = if may_commit arbiter task then after_commit arbiter task else arbiter
after arbiter (asks.Over task root how) = if may_over arbiter root then after_over arbiter root else arbiter
after arbiter _ = arbiter
