-- A worked history of an Interleave and a discard queue: what the words of the laws say of it, checked by computation.
use Rattle.std.proofs.Common.{◌≡◌, ℕ, true, false, List, [], ◌∷◌, ◌++◌, take, Some, None, refl}
use Rattle.ccr_base.specs.declared.names.TaskId.{TaskId}
use Rattle.ccr_base.specs.declared.names.MsgId.TheVariants.{Script}
use Rattle.ccr_base.specs.declared.names.Spot.TheVariants.{Branch, Site}
use Rattle.ccr_base.specs.declared.messages.Sent.{Sent}
use Rattle.ccr_base.specs.declared.patterns.Pred.TheVariants.{Any}
use Rattle.ccr_base.specs.declared.patterns.Pattern.TheVariants.{Slots}
use Rattle.ccr_base.specs.declared.handlers.Action.TheVariants.{Await}
use Rattle.ccr_base.specs.declared.policies.Group.{Group}
use Rattle.ccr_base.specs.declared.policies.Group.TheVariants as groups
use Rattle.ccr_base.specs.declared.policies.Policy.TheVariants.{Unbounded, Discard}
use Rattle.ccr_wiring.specs.declared.parts.Parts.{Parts}
use Rattle.ccr_wiring.specs.declared.parts.ArbiterPart.{ArbiterPart}
use Rattle.ccr_wiring.specs.declared.parts.BranchPart.{BranchPart}
use Rattle.ccr_wiring.specs.declared.parts.Kind.TheVariants as kinds
use Rattle.ccr_model.specs.declared.history.Event.{Event}
use Rattle.ccr_model.specs.declared.history.Event.TheVariants.{Post, Fire, Admit, Put, Start, End}
use Rattle.ccr_model.specs.declared.history.EndHow.TheVariants.{Done, Yield}
use Rattle.ccr_model.specs.Firings.{cut, dropped}
use Rattle.ccr_model.specs.Sites.{root_of}
use Rattle.ccr_model.specs.Tasks.{admitted, is_over, queued, put_into}
use Rattle.ccr_model.specs.Legal.{first_refusal}
use Rattle.ccr_model.specs.AtWork.{is_at_work, is_queued, is_suspended}
use Rattle.ccr_model.specs.Interleaves.{fired_in, is_of_exclusive, is_of_interleave, is_of_teardown, tears_down}
use Rattle.ccr_laws.specs.Queues.{started_from, stands_before}

abbrev task : ℕ → TaskId
task k = record { actor = 1; attempt = k }

abbrev post : ℕ → ℕ → Event
post k port = Post (record { id = Script 0 k; port = port; value = 0 ∷ []; causes = [] })

-- takes one message of the port
abbrev branch : Group → ℕ → ℕ → ℕ → BranchPart
branch group queue handler port = record { name = []; group = group; queue = queue; handler = handler; pattern = Slots (record { port = port; least = 1; most = 1; pred = Any } ∷ []) }

abbrev arbiters : List ArbiterPart
arbiters =
    record { name = []; kind = kinds.Interleave; branches = branch groups.Teardown 0 0 0 ∷ branch groups.Exclusive 0 1 1 ∷ branch groups.Concurrent 0 0 2 ∷ [] }
    ∷ record { name = []; kind = kinds.Receive; branches = branch groups.Always 1 0 4 ∷ [] } ∷ []

abbrev scripts : List Sent
scripts = sent 1 ∷ sent 2 ∷ sent 0 ∷ sent 3 ∷ sent 4 ∷ sent 4 ∷ []
  where
    sent : ℕ → Sent
    sent port = record { port = port; value = 0 ∷ []; causes = [] }

-- an Interleave, whose exclusive branch awaits port 3, and a receive on a queue that holds one task
abbrev wiring : Parts
wiring = record {
  version = 1;
  budget = 0;
  queues = record { name = []; policy = Unbounded } ∷ record { name = []; policy = Discard 1 } ∷ [];
  ports = [];
  sets = [];
  causes = [];
  handlers = record { name = []; handler = record { actions = [] } } ∷ record { name = []; handler = record { actions = Await 3 ∷ [] } } ∷ [];
  arbiters = arbiters;
  domains = [];
  posters = record { name = []; posts = scripts } ∷ [];
  open_posters = [];
  open_handlers = [];
}

-- an exclusive task is suspended while a concurrent one waits, which a teardown cuts
abbrev to_teardown : List Event
to_teardown =
    post 0 1 ∷ post 1 2 ∷ post 2 0 ∷ Fire (task 0) (Branch 1) (Script 0 0 ∷ []) [] ∷ Fire (task 1) (Branch 2) (Script 0 1 ∷ []) []
    ∷ Admit (task 0) ∷ Put (task 0) None ∷ Start (task 0) 1 ∷ End (task 0) Yield ∷ Fire (task 2) (Branch 0) (Script 0 2 ∷ []) (task 1 ∷ []) ∷ []

-- it is resumed and ends; then the teardown's task runs
abbrev to_end : List Event
to_end =
    post 3 3 ∷ Fire (task 3) (Site 1 0) (Script 0 3 ∷ []) [] ∷ Put (task 3) None ∷ Start (task 3) 1 ∷ End (task 3) Done
    ∷ Admit (task 2) ∷ Put (task 2) None ∷ Start (task 2) 1 ∷ []

-- the second of two tasks drops the first from its queue
abbrev to_drop : List Event
to_drop =
    post 4 4 ∷ post 5 4 ∷ Fire (task 4) (Branch 3) (Script 0 4 ∷ []) [] ∷ Fire (task 5) (Branch 3) (Script 0 5 ∷ []) []
    ∷ Put (task 4) None ∷ Put (task 5) (Some (task 4)) ∷ Start (task 5) 2 ∷ []

abbrev history : List Event
history = to_teardown ++ to_end ++ to_drop

is_legal : first_refusal wiring [] 0 history ≡ None
is_legal = refl

-- while the exclusive task is suspended
its_branches : (tears_down wiring 0 (Branch 0) ≡ true) × (tears_down wiring 0 (Branch 1) ≡ false) × (fired_in wiring to_teardown 0 ≡ task 0 ∷ task 1 ∷ task 2 ∷ []) × (fired_in wiring (to_end ++ to_drop) 0 ≡ [])
its_branches = (refl, refl, refl, refl)

one_cut : cut history ≡ task 1 ∷ []
one_cut = refl

one_suspended : (is_suspended to_teardown (task 0) ≡ true) × (is_at_work wiring to_teardown (task 0) ≡ true) × (is_at_work wiring to_teardown (task 1) ≡ false) × (is_at_work wiring to_teardown (task 2) ≡ false)
one_suspended = (refl, refl, refl, refl)

one_admitted : (admitted wiring to_teardown 0 ≡ task 0 ∷ []) × (is_of_exclusive wiring to_teardown 0 (task 0) ≡ true) × (is_of_exclusive wiring to_teardown 0 (task 1) ≡ false) × (is_of_interleave wiring to_teardown 0 (task 1) ≡ true)
one_admitted = (refl, refl, refl, refl)

-- the resumed task has its root
its_root : (root_of history (task 3) ≡ task 0) × (is_of_exclusive wiring history 0 (task 3) ≡ true) × (is_of_teardown wiring history 0 (task 3) ≡ false) × (is_over history (task 0) ≡ true) × (is_suspended history (task 0) ≡ false)
its_root = (refl, refl, refl, refl, refl)

-- at the end the teardown's task runs alone
teardown_runs : (is_of_teardown wiring history 0 (task 2) ≡ true) × (is_at_work wiring history (task 2) ≡ true) × (admitted wiring history 0 ≡ task 2 ∷ []) × (is_of_interleave wiring history 0 (task 5) ≡ false)
teardown_runs = (refl, refl, refl, refl)

-- the queues
its_queues : (put_into wiring history 0 ≡ task 0 ∷ task 3 ∷ task 2 ∷ []) × (started_from wiring history 0 ≡ task 0 ∷ task 3 ∷ task 2 ∷ []) × (put_into wiring history 1 ≡ task 4 ∷ task 5 ∷ []) × (dropped history ≡ task 4 ∷ []) × (started_from wiring history 1 ≡ task 5 ∷ [])
its_queues = (refl, refl, refl, refl, refl)

one_queued : (is_queued wiring (to_teardown ++ take 3 to_end) (task 3) ≡ true) × (queued wiring (to_teardown ++ take 3 to_end) 0 ≡ task 3 ∷ []) × (is_queued wiring history (task 4) ≡ false)
one_queued = (refl, refl, refl)

who_before : (stands_before (task 0) (task 2) (put_into wiring history 0) ≡ true) × (stands_before (task 2) (task 0) (put_into wiring history 0) ≡ false)
who_before = (refl, refl)
