-- Where tasks fired, after one event more.
use Rattle.std.proofs.Common.{◌≡◌, ◌+◌, ◌<◌, ℕ, List, [], ◌∷◌, length, take, get_or, ap, ◌∙◌}
use Rattle.std.specs.Option.{option_or}
use Rattle.std.proofs.lemmas.List.{take_more}
use Rattle.ccr_base.specs.declared.names.TaskId.{TaskId}
use Rattle.ccr_model.specs.declared.history.Event.{Event}
use Rattle.ccr_model.specs.Firings.{spot_of}
use Rattle.ccr_model.proofs.Stable.{spot_of-append}

pub spot_of-more : (events : List Event) (i : ℕ) (d : Event) (task : TaskId) → i < length events → spot_of (take (i + 1) events) task ≡ option_or (spot_of (take i events) task) (spot_of (get_or events i d ∷ []) task)
spot_of-more events i d task l = ap (λ (es : List Event). spot_of es task) (take_more events i d l) ∙ spot_of-append (take i events) (get_or events i d ∷ []) task
