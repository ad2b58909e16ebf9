-- The steps of an attempt after a booking and after a claim that got its messages.
use Rattle.std.proofs.Common.{◌≡◌, ◌⊎◌, Bool, true, List, [], ◌∷◌, reverse, Option, None, refl, sym, inl, inr, ◌∙◌}
use Rattle.std.proofs.lemmas.List.{reverse-reverse}
use Rattle.ccr_base.specs.declared.names.TaskId.{TaskId}
use Rattle.ccr_base.specs.declared.patterns.Slot.{Slot}
use Rattle.ccr_base.specs.declared.tasks.Cut.{Cut}
use Rattle.ccr_base.specs.declared.tasks.Task.{Task}
use Rattle.ccr_claim.specs.declared.asks.Due.TheVariants as dues
use Rattle.ccr_claim.specs.declared.asks.Reply.{Reply}
use Rattle.ccr_claim.specs.declared.asks.Reply.TheVariants as replies
use Rattle.ccr_claim.specs.declared.outcomes.Why.TheVariants as whys
use Rattle.ccr_claim.specs.declared.plan.ClaimPlan.{ClaimPlan}
use Rattle.ccr_claim.specs.declared.plan.Had.{Had}
use Rattle.ccr_claim.specs.declared.stages.Stage.{Stage}
use Rattle.ccr_claim.specs.declared.stages.Stage.TheVariants as stages
use Rattle.ccr_claim.specs.declared.stages.Unanswered.{Unanswered}
use Rattle.ccr_claim.specs.declared.stages.Unanswered.TheVariants as waits
use Rattle.ccr_claim.specs.Asks.{fits}
use Rattle.ccr_claim.specs.Plans.{slots_in}
use Rattle.ccr_claim.specs.Attempts.{AttemptState, replied, given_up, IsAfterReply}
use Rattle.ccr_claim.specs.Inside.{seen, claim_due, due_in, IsUnclaimed}

-- no claim and no commit is answered by a booking
no_booking : (slots : List Slot) → fits (claim_due slots) replies.Booked ≡ true → stages.Claiming ≡ stages.Booking
no_booking [] is = cc
no_booking (slot ∷ slots) is = cc

-- only a booking is answered by one
pub booking_only : (stage : Stage) (waiting : Unanswered) (left : List Slot) → fits (due_in stage waiting left) replies.Booked ≡ true → stage ≡ stages.Booking
booking_only stages.Booking waiting left is = refl
booking_only stages.Claiming waits.Nothing left is = cc
booking_only stages.Claiming waits.Ask left is = no_booking (reverse left) is
booking_only stages.Claiming waits.Put left is = no_booking (reverse left) is
booking_only (stages.Fired w) waits.Nothing left is = cc
booking_only (stages.Fired w) waits.Ask left is = cc
booking_only (stages.Fired w) waits.Put left is = cc
booking_only (stages.GaveUp why) waits.Nothing left is = cc
booking_only (stages.GaveUp why) waits.Ask left is = cc
booking_only (stages.GaveUp why) waits.Put left is = cc

-- made ready, or given up out of memory
pub prepared : (state : AttemptState) (reply : Reply) (mid new : AttemptState) → mid.ended ≡ None → replied state reply ≡ record mid { due = dues.Nothing } → (new ≡ record mid { due = dues.Nothing }) ⊎ (new ≡ given_up whys.Memory mid) → IsAfterReply state reply new
prepared state reply mid new none is (inl e) = inl (e ∙ sym is)
prepared state reply mid new none is (inr e) = inr (e ∙ rw (is, none) refl)

-- once the queue booked the task
pub booked : (plan : ClaimPlan) (task : TaskId) (stage : Stage) (waiting : Unanswered) (left : List Slot) (had : List Had) (at : Bool) (cuts : List Cut) (put dropped : Option Task) (new : AttemptState) → IsUnclaimed stage left had (slots_in plan.pattern) → fits (due_in stage waiting left) replies.Booked ≡ true → (new ≡ record (seen plan task stages.Claiming waiting left had at cuts put dropped) { due = dues.Nothing }) ⊎ (new ≡ given_up whys.Memory (seen plan task stages.Claiming waiting left had at cuts put dropped)) → IsAfterReply (seen plan task stage waiting left had at cuts put dropped) replies.Booked new
booked plan task stages.Booking waiting left had at cuts put dropped new none is after =
    prepared (seen plan task stages.Booking waiting left had at cuts put dropped) replies.Booked (seen plan task stages.Claiming waiting left had at cuts put dropped) new refl (rw (none.0, none.1, reverse-reverse) refl) after
booked plan task stages.Claiming waiting left had at cuts put dropped new none is after = cc (booking_only stages.Claiming waiting left is)
booked plan task (stages.Fired w) waiting left had at cuts put dropped new none is after = cc (booking_only (stages.Fired w) waiting left is)
booked plan task (stages.GaveUp why) waiting left had at cuts put dropped new none is after = cc (booking_only (stages.GaveUp why) waiting left is)
