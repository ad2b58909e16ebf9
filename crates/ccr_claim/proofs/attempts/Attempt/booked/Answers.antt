use Rattle.ccr_claim.proofs.Replies.{booked}
use Rattle.ccr_claim.proofs.attempts.Attempt.booked.Goals as goal

pub returns : goal.returns
returns c =
    let fields = c.self.inside in
    rw (← c.self.view_is) (booked fields.plan fields.task fields.stage fields.unanswered fields.left.items fields.had.items fields.booked fields.cuts.items fields.put fields.dropped _ c.self.invariant.unclaimed (rw (← c.self.view_is) at c.requires) c.prepare.ensures)
