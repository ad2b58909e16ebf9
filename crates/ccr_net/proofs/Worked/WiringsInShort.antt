-- The words of the worked runs: wirings, messages and entries in short.
use Rattle.std.proofs.Common.{◌≡◌, ℕ, List, [], ◌∷◌, map, not, ◌&&◌}
use Rattle.std.specs.FinSet as set
use Rattle.std.specs.Ordering.{eq_by_cmp}
use Rattle.ccr_base.specs.declared.names.TaskId.{TaskId}
use Rattle.ccr_base.specs.declared.names.MsgId.{MsgId}
use Rattle.ccr_base.specs.declared.names.Place.{Place}
use Rattle.ccr_base.specs.declared.messages.Msg.{Msg}
use Rattle.ccr_base.specs.declared.messages.Sent.{Sent}
use Rattle.ccr_base.specs.declared.patterns.Slot.{Slot}
use Rattle.ccr_base.specs.declared.patterns.Pred.TheVariants.{Any}
use Rattle.ccr_base.specs.declared.patterns.Pattern.{Pattern}
use Rattle.ccr_base.specs.declared.policies.Group.{Group}
use Rattle.ccr_base.specs.declared.policies.Policy.{Policy}
use Rattle.ccr_base.specs.declared.handlers.Action.{Action}
use Rattle.ccr_wiring.specs.declared.parts.Parts.{Parts}
use Rattle.ccr_wiring.specs.declared.parts.QueuePart.{QueuePart}
use Rattle.ccr_wiring.specs.declared.parts.HandlerPart.{HandlerPart}
use Rattle.ccr_wiring.specs.declared.parts.PosterPart.{PosterPart}
use Rattle.ccr_wiring.specs.declared.parts.ArbiterPart.{ArbiterPart}
use Rattle.ccr_wiring.specs.declared.parts.Kind.{Kind}
use Rattle.ccr_places.specs.declared.notes.Note.{Note}
use Rattle.ccr_places.specs.TaskSets.{TaskSet, task_cmp, task_cmp_total}
use Rattle.ccr_runs.specs.declared.entries.Entry.{Entry}
pub use Rattle.ccr_places.proofs.Worked.{in-none}
pub use Rattle.ccr_places.proofs.Worked.{in-more}
pub use Rattle.ccr_places.proofs.Worked.{len-none}
pub use Rattle.ccr_places.proofs.Worked.{len-more}
pub use Rattle.ccr_places.proofs.Worked.{len-less}

pub in-less : (tasks : TaskSet) (t u : TaskId) → set.contains (set.remove tasks t) u ≡ (not (eq_by_cmp task_cmp u t) && set.contains tasks u)
in-less = set.contains-remove task_cmp_total

abbrev pub task : ℕ → ℕ → TaskId
task a k = record { actor = a; attempt = k }

abbrev pub message : MsgId → ℕ → ℕ → Msg
message i p v = record { id = i; port = p; value = v ∷ []; causes = [] }

abbrev pub sent : ℕ → ℕ → Sent
sent p v = record { port = p; value = v ∷ []; causes = [] }

-- one message of the port
abbrev pub one_of : ℕ → Slot
one_of p = record { port = p; least = 1; most = 1; pred = Any }

-- names of one byte
abbrev pub queue : ℕ → Policy → QueuePart
queue name p = record { name = name ∷ []; policy = p }

-- an arbiter of one branch, on the first queue and with the first handler
abbrev pub arbiter : ℕ → Kind → Group → Pattern → ArbiterPart
arbiter name k g p = record { name = name ∷ []; kind = k; branches = (record { name = name ∷ []; group = g; queue = 0; handler = 0; pattern = p }) ∷ [] }

abbrev pub handler_part : ℕ → List Action → HandlerPart
handler_part name acts = record { name = name ∷ []; handler = record { actions = acts } }

abbrev pub poster_part : ℕ → List Sent → PosterPart
poster_part name ss = record { name = name ∷ []; posts = ss }

abbrev pub parts : List QueuePart → List ℕ → List HandlerPart → List ArbiterPart → List PosterPart → Parts
parts qs names hs xs ps = record { version = 1; budget = 10000; queues = qs; ports = map (λ name. name ∷ []) names; sets = []; causes = []; handlers = hs; arbiters = xs; domains = []; posters = ps; open_posters = []; open_handlers = [] }

abbrev pub entry : ℕ → Place → ℕ → Note → Entry
entry a p s n = record { actor = a; place = p; stamp = s; note = n }
