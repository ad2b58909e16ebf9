-- A join of two ports, worked out: it gives up where the second port has nothing, or where it finds no memory; and it fires.
use Rattle.std.proofs.Common.{◌≡◌, ℕ, [], ◌∷◌, Some, None, Ok, false, refl}
use Rattle.ccr_base.specs.declared.messages.Msg.{Msg}
use Rattle.ccr_base.specs.declared.names.MsgId.TheVariants.{Script}
use Rattle.ccr_base.specs.declared.names.Place.TheVariants as places
use Rattle.ccr_base.specs.declared.names.Spot.TheVariants.{Branch}
use Rattle.ccr_base.specs.declared.names.TaskId.{TaskId}
use Rattle.ccr_base.specs.declared.patterns.Pattern.TheVariants.{Slots}
use Rattle.ccr_base.specs.declared.patterns.Pred.TheVariants.{Any}
use Rattle.ccr_base.specs.declared.patterns.Slot.{Slot}
use Rattle.ccr_base.specs.declared.tasks.Task.{Task}
use Rattle.ccr_claim.specs.declared.asks.Ask.TheVariants as asks
use Rattle.ccr_claim.specs.declared.asks.Reply.TheVariants as replies
use Rattle.ccr_claim.specs.declared.outcomes.Why.TheVariants as whys
use Rattle.ccr_claim.specs.declared.plan.ClaimPlan.{ClaimPlan}
use Rattle.ccr_claim.specs.Attempts.{at_place}
use Rattle.ccr_claim.specs.Settling.{asks_of}
use Rattle.ccr_rests.specs.Trials.{Fired, GaveUp, Trial, steps_of}

abbrev one_of : ℕ → Slot
one_of port = record { port = port; least = 1; most = 1; pred = Any }

abbrev join : ClaimPlan
join = record { spot = Branch 0; pattern = Slots (one_of 0 ∷ one_of 1 ∷ []); queue = 0; arbiter = 0 }

abbrev name : TaskId
name = record { actor = 3; attempt = 1 }

abbrev message : ℕ → Msg
message port = record { id = Script port 0; port = port; value = 5 ∷ []; causes = [] }

abbrev fired_task : Task
fired_task = record { id = name; root = name; spot = Branch 0; arbiter = 0; queue = 0; values = (5 ∷ []) ∷ (5 ∷ []) ∷ []; causes = [] }

-- ---- the second port has nothing

abbrev lost : Trial
lost = record { plan = join; task = name; lack = None; answers = Ok replies.Booked ∷ Ok (replies.Got (message 0 ∷ [])) ∷ Ok (replies.Short 0) ∷ Ok replies.Done ∷ Ok replies.Done ∷ [] }

lost_asks : asks_of (steps_of lost) ≡ at_place (places.Queue 0) (asks.Book name false) ∷ at_place (places.Port 0) (asks.Claim name (one_of 0)) ∷ at_place (places.Port 1) (asks.Claim name (one_of 1)) ∷ at_place (places.Port 0) (asks.Free name) ∷ at_place (places.Queue 0) (asks.Unbook name) ∷ []
lost_asks = refl

lost_gave_up : GaveUp lost
lost_gave_up = (whys.Short 1 0, refl, refl, refl)

-- ---- no memory is found after the first claim

abbrev lacking : Trial
lacking = record { plan = join; task = name; lack = Some 2; answers = Ok replies.Booked ∷ Ok (replies.Got (message 0 ∷ [])) ∷ Ok replies.Done ∷ Ok replies.Done ∷ [] }

lacking_gave_up : GaveUp lacking
lacking_gave_up = (whys.Memory, refl, refl, refl)

-- ---- both ports give

abbrev won : Trial
won = record { plan = join; task = name; lack = None; answers = Ok replies.Booked ∷ Ok (replies.Got (message 0 ∷ [])) ∷ Ok (replies.Got (message 1 ∷ [])) ∷ Ok (replies.Fired (Some fired_task) []) ∷ Ok replies.Done ∷ Ok replies.Done ∷ Ok (replies.Dropped None) ∷ [] }

won_fired : Fired won
won_fired = (record { task = Some fired_task; cuts = [] }, None, refl, refl, refl)
