use Rattle.ccr_wiring.proofs.Soundness.{sound}
use Rattle.ccr_model.proofs.TakenOnce.{taken_once}
use Rattle.ccr_laws.proofs.HeldBefore.{held_before}
use Rattle.ccr_laws.proofs.OneFates.{one_fate}
use Rattle.ccr_laws.proofs.firings.messages_have_one_fate.Goals as goal

pub returns-clause-fate : goal.returns-clause-fate
returns-clause-fate c = one_fate

pub returns-clause-once : goal.returns-clause-once
returns-clause-once c = λ w valid. taken_once w (sound w valid).apart

pub returns-clause-held_before : goal.returns-clause-held_before
returns-clause-held_before c = held_before
