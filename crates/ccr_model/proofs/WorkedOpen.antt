-- Worked histories of open wirings. The names say what each shows.
use Rattle.std.proofs.Common.{◌≡◌, ℕ, true, false, List, [], ◌∷◌, Some, None, refl}
use Rattle.ccr_base.specs.declared.names.MsgId.TheVariants.{Script, Task}
use Rattle.ccr_base.specs.declared.names.Spot.TheVariants.{Branch}
use Rattle.ccr_base.specs.declared.handlers.Action.{Action}
use Rattle.ccr_base.specs.declared.handlers.Action.TheVariants.{Await}
use Rattle.ccr_base.specs.declared.patterns.Pred.TheVariants.{Any}
use Rattle.ccr_base.specs.declared.patterns.Pattern.TheVariants.{Slots}
use Rattle.ccr_base.specs.declared.policies.Policy.TheVariants.{Unbounded}
use Rattle.ccr_base.specs.declared.policies.Group.TheVariants as groups
use Rattle.ccr_wiring.specs.declared.parts.Kind.TheVariants as kinds
use Rattle.ccr_wiring.specs.declared.parts.Parts.{Parts}
use Rattle.ccr_wiring.specs.Openness.{is_closed}
use Rattle.ccr_model.specs.declared.history.Event.{Event}
use Rattle.ccr_model.specs.declared.history.Event.TheVariants.{Post, Fire, Put, Start, End}
use Rattle.ccr_model.specs.declared.history.EndHow.TheVariants as ends
use Rattle.ccr_model.specs.declared.rule.Rule.TheVariants as rules
use Rattle.ccr_model.specs.Legal.{first_refusal, is_complete}
use Rattle.ccr_model.proofs.WorkedParts.{task, message, sent, slot, queue, branch, arbiter, parts}

-- an open poster of port 0 and a poster of one line; a receive of port 0 whose handler is open to port 1; a cause whose exceptions go to port 2
abbrev with_actions : ℕ → List Action → Parts
with_actions budget actions = record (parts budget (queue Unbounded ∷ []) (2 ∷ []) (actions ∷ []) (arbiter kinds.Receive (branch groups.Always 0 0 (Slots (slot 0 1 Any ∷ [])) ∷ []) ∷ []) (([]) ∷ (sent 0 7 ([]) ∷ []) ∷ [])) {
  version = 2;
  open_posters = (record { part = 0; ports = 0 ∷ [] }) ∷ [];
  open_handlers = (record { part = 0; ports = 1 ∷ [] }) ∷ [];
}

abbrev gateway : Parts
gateway = with_actions 10000 []

abbrev suspended : Parts
suspended = with_actions 10000 (Await 3 ∷ [])

abbrev spent : Parts
spent = with_actions 0 []

gateway-open : is_closed gateway ≡ false
gateway-open = refl

whole : first_refusal gateway [] 0 (Post (message (Script 0 0) 0 5 (0 ∷ [])) ∷ Fire (task 2 0) (Branch 0) ((Script 0 0) ∷ []) ([]) ∷ Put (task 2 0) None ∷ Start (task 2 0) 2 ∷ Post (message (Task (task 2 0) 0) 1 9 (0 ∷ [])) ∷ End (task 2 0) ends.Done ∷ []) ≡ None
whole = refl

posts_beside_its_list : first_refusal gateway [] 0 (Post (message (Script 0 0) 1 5 ([])) ∷ []) ≡ Some (0, rules.ScriptLine)
posts_beside_its_list = refl

posts_out_of_turn : first_refusal gateway [] 0 (Post (message (Script 0 1) 0 5 ([])) ∷ []) ≡ Some (0, rules.ScriptLine)
posts_out_of_turn = refl

cause_that_is_none : first_refusal gateway [] 0 (Post (message (Script 0 0) 0 5 (1 ∷ [])) ∷ []) ≡ Some (0, rules.ScriptLine)
cause_that_is_none = refl

cause_twice : first_refusal gateway [] 0 (Post (message (Script 0 0) 0 5 (0 ∷ 0 ∷ [])) ∷ []) ≡ Some (0, rules.ScriptLine)
cause_twice = refl

no_number : first_refusal gateway [] 0 (Post (record { id = Script 0 0; port = 0; value = []; causes = [] }) ∷ []) ≡ Some (0, rules.ScriptLine)
no_number = refl

nine_numbers : first_refusal gateway [] 0 (Post (record { id = Script 0 0; port = 0; value = 1 ∷ 2 ∷ 3 ∷ 4 ∷ 5 ∷ 6 ∷ 7 ∷ 8 ∷ 9 ∷ []; causes = [] }) ∷ []) ≡ Some (0, rules.ScriptLine)
nine_numbers = refl

scripted_beside_its_script : first_refusal gateway [] 0 (Post (message (Script 1 0) 0 8 ([])) ∷ []) ≡ Some (0, rules.ScriptLine)
scripted_beside_its_script = refl

task_posts_beside_its_list : first_refusal gateway [] 0 (Post (message (Script 0 0) 0 5 (0 ∷ [])) ∷ Fire (task 2 0) (Branch 0) ((Script 0 0) ∷ []) ([]) ∷ Put (task 2 0) None ∷ Start (task 2 0) 2 ∷ Post (message (Task (task 2 0) 0) 0 9 (0 ∷ [])) ∷ []) ≡ Some (4, rules.PlayPost)
task_posts_beside_its_list = refl

task_posts_without_its_causes : first_refusal gateway [] 0 (Post (message (Script 0 0) 0 5 (0 ∷ [])) ∷ Fire (task 2 0) (Branch 0) ((Script 0 0) ∷ []) ([]) ∷ Put (task 2 0) None ∷ Start (task 2 0) 2 ∷ Post (message (Task (task 2 0) 0) 1 9 ([])) ∷ []) ≡ Some (4, rules.PlayPost)
task_posts_without_its_causes = refl

task_tells_a_failure : first_refusal gateway [] 0 (Post (message (Script 0 0) 0 5 (0 ∷ [])) ∷ Fire (task 2 0) (Branch 0) ((Script 0 0) ∷ []) ([]) ∷ Put (task 2 0) None ∷ Start (task 2 0) 2 ∷ Post (message (Task (task 2 0) 0) 2 9 ([])) ∷ End (task 2 0) (ends.Failed (9 ∷ [])) ∷ []) ≡ None
task_tells_a_failure = refl

exception_with_causes : first_refusal gateway [] 0 (Post (message (Script 0 0) 0 5 (0 ∷ [])) ∷ Fire (task 2 0) (Branch 0) ((Script 0 0) ∷ []) ([]) ∷ Put (task 2 0) None ∷ Start (task 2 0) 2 ∷ Post (message (Task (task 2 0) 0) 2 9 (0 ∷ [])) ∷ []) ≡ Some (4, rules.PlayPost)
exception_with_causes = refl

task_posts_after_its_end : first_refusal gateway [] 0 (Post (message (Script 0 0) 0 5 (0 ∷ [])) ∷ Fire (task 2 0) (Branch 0) ((Script 0 0) ∷ []) ([]) ∷ Put (task 2 0) None ∷ Start (task 2 0) 2 ∷ End (task 2 0) ends.Done ∷ Post (message (Task (task 2 0) 0) 1 9 (0 ∷ [])) ∷ []) ≡ Some (5, rules.PlayPost)
task_posts_after_its_end = refl

yield_without_await : first_refusal gateway [] 0 (Post (message (Script 0 0) 0 5 (0 ∷ [])) ∷ Fire (task 2 0) (Branch 0) ((Script 0 0) ∷ []) ([]) ∷ Put (task 2 0) None ∷ Start (task 2 0) 2 ∷ End (task 2 0) ends.Yield ∷ []) ≡ Some (4, rules.Ending)
yield_without_await = refl

shed : first_refusal gateway [] 0 (Post (message (Script 0 0) 0 5 (0 ∷ [])) ∷ Fire (task 2 0) (Branch 0) ((Script 0 0) ∷ []) ([]) ∷ Put (task 2 0) None ∷ Start (task 2 0) 2 ∷ End (task 2 0) ends.Shed ∷ []) ≡ Some (4, rules.Ending)
shed = refl

yields_at_its_await : first_refusal suspended [] 0 (Post (message (Script 0 0) 0 5 (0 ∷ [])) ∷ Fire (task 2 0) (Branch 0) ((Script 0 0) ∷ []) ([]) ∷ Put (task 2 0) None ∷ Start (task 2 0) 2 ∷ Post (message (Task (task 2 0) 0) 1 9 (0 ∷ [])) ∷ End (task 2 0) ends.Yield ∷ []) ≡ None
yields_at_its_await = refl

ends_before_its_await : first_refusal suspended [] 0 (Post (message (Script 0 0) 0 5 (0 ∷ [])) ∷ Fire (task 2 0) (Branch 0) ((Script 0 0) ∷ []) ([]) ∷ Put (task 2 0) None ∷ Start (task 2 0) 2 ∷ End (task 2 0) ends.Done ∷ []) ≡ None
ends_before_its_await = refl

spent_budget : first_refusal spent [] 0 (Post (message (Script 0 0) 0 5 (0 ∷ [])) ∷ Fire (task 2 0) (Branch 0) ((Script 0 0) ∷ []) ([]) ∷ Put (task 2 0) None ∷ Start (task 2 0) 2 ∷ Post (message (Task (task 2 0) 0) 1 9 (0 ∷ [])) ∷ []) ≡ Some (4, rules.Budget)
spent_budget = refl

script_left : is_complete gateway (Post (message (Script 0 0) 0 5 ([])) ∷ []) ≡ false
script_left = refl

script_whole : is_complete gateway (Post (message (Script 1 0) 0 7 ([])) ∷ []) ≡ true
script_whole = refl
