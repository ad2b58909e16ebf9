use Rattle.ccr_rests.proofs.EntryCounts.{parted}
use Rattle.ccr_rests.proofs.RepliesKnown.{reply_known}
use Rattle.ccr_rests.proofs.replies.replies_name_what_the_wiring_has.Goals as goal

pub returns : goal.returns
returns c = λ here.
    let parts = parted here.wiring here.workers here.lacks here.past here.entry here.more here.steps in
    reply_known here.wiring here.workers here.lacks here.valid here.few here.past here.entry parts.run parts.low parts.made
