-- What is committed, and what is gathered of messages on the way.
use Rattle.std.specs.Prelude.{◌≡◌, List, [], ◌∷◌, Option, Some, None}
use Rattle.ccr_base.specs.declared.messages.Msg.{Msg}
use Rattle.ccr_base.specs.declared.names.TaskId.{TaskId}
use Rattle.ccr_base.specs.declared.patterns.Slot.{Slot}
use Rattle.ccr_claim.specs.declared.firing.Firing.{Firing}
use Rattle.ccr_claim.specs.declared.firing.Gathered.{Gathered}
use Rattle.ccr_claim.specs.declared.plan.ClaimPlan.{ClaimPlan}
use Rattle.ccr_claim.specs.declared.plan.Had.{Had}
use Rattle.ccr_claim.specs.Plans.{in_pattern, names_of, values_of, causes_of, firing_task}

-- the names, the values and the causes of these messages
pub record IsOf (messages : List Msg) (all : Gathered) : Type 0 where
  pub names : all.names.items ≡ names_of messages
  pub values : all.values.items ≡ values_of messages
  pub causes : all.causes ≡ causes_of messages

-- the task of what the ports gave, and the names of its messages
abbrev pub firing_of : ClaimPlan → TaskId → List Had → Firing
firing_of plan task had = record { task = firing_task plan task (in_pattern plan.pattern had); names = names_of (in_pattern plan.pattern had) }

-- the firing, once no slot is left
abbrev pub ready_of : List Slot → ClaimPlan → TaskId → List Had → Option Firing
ready_of [] plan task had = Some (firing_of plan task had)
ready_of (slot ∷ left) plan task had = None
