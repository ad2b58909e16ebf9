-- What an Interleave answers.
use Rattle.std.specs.Prelude.{Option, Some, None, if◌then◌else◌}
use Rattle.ccr_claim.specs.declared.asks.Ask.{Ask}
use Rattle.ccr_claim.specs.declared.asks.Ask.TheVariants as asks
use Rattle.ccr_claim.specs.declared.asks.Reply.{Reply}
use Rattle.ccr_claim.specs.declared.asks.Reply.TheVariants as replies
use Rattle.ccr_places.specs.declared.notes.Note.{Note}
use Rattle.ccr_places.specs.declared.notes.Note.TheVariants as notes
use Rattle.ccr_interleave.specs.Replies.{commit_reply, after_commit, next_task, after_next}
use Rattle.ccr_places.specs.Interleaves.{InterleaveTasks, may_commit, may_over, admit_note, after_over}
use Rattle.ccr_object.specs.Commits.{committed}

-- the reply to an ask, with its note; nothing where the ask isn't for an Interleave or its condition isn't met
abbrev pub answer : InterleaveTasks → Ask → Option (Reply × Note)
answer place (asks.Commit task messages) = if may_commit place.state task then Some (committed task messages (commit_reply place task)) else None
answer place asks.Admit = Some (replies.Admitted (next_task place), notes.Admit (admit_note place.state))
answer place (asks.Over task root how) = if may_over place.state root then Some (replies.Done, notes.Over task root how) else None
answer place _ = None

-- the Interleave after the ask
abbrev pub after : InterleaveTasks → Ask → InterleaveTasks
after place (asks.Commit task messages) = if may_commit place.state task then after_commit place task else place
after place asks.Admit = after_next place
after place (asks.Over task root how) = if may_over place.state root then record place { state = after_over place.state root } else place
after place _ = place
