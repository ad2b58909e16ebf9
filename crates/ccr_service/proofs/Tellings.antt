-- What the tables tell, case by case.
use Rattle.std.proofs.Common.{◌≡◌, ℕ, true, false, Option, Some, refl, sym, ap, ◌∙◌}
use Rattle.std.specs.Prelude.{option_map}
use Rattle.std.specs.Option.{option_map_or}
use Rattle.std.specs.Borrow.{Bor}
use Rattle.indexmap.specs.IndexMap.{get}
use Rattle.indexmap.specs.IndexSet.{contains}
use Rattle.ccr_base.specs.declared.names.TaskId.{TaskId}
use Rattle.ccr_base.specs.declared.messages.Msg.{Msg}
use Rattle.ccr_base.specs.Names.{same_task}
use Rattle.ccr_service.specs.declared.answer.Answer.TheVariants as told
use Rattle.ccr_service.specs.declared.tables.RequestId.{RequestId}
use Rattle.ccr_service.specs.declared.tables.Tables.{Tables}
use Rattle.ccr_service.specs.Telling.{same_request, told_by, told_from}

taken_so : (t : Tables) (faults : ℕ) (name : RequestId) (task : TaskId) → get same_request t.takers name ≡ Some task → told_from t faults name ≡ told_by faults (contains same_task t.cuts task) (contains same_task t.drops task) (option_map (λ (m : Bor Msg). m.now) (get same_task t.posts task))
taken_so t faults name task is = ap (λ o. option_map_or (λ u. told_by faults (contains same_task t.cuts u) (contains same_task t.drops u) (option_map (λ (m : Bor Msg). m.now) (get same_task t.posts u))) o told.Held) is

pub cut_so : (t : Tables) (faults : ℕ) (name : RequestId) (task : TaskId) → get same_request t.takers name ≡ Some task → contains same_task t.cuts task ≡ true → told.Cut ≡ told_from t faults name
cut_so t faults name task is cut = sym (taken_so t faults name task is ∙ rw cut refl)

pub dropped_so : (t : Tables) (faults : ℕ) (name : RequestId) (task : TaskId) → get same_request t.takers name ≡ Some task → contains same_task t.cuts task ≡ false → contains same_task t.drops task ≡ true → told.Dropped ≡ told_from t faults name
dropped_so t faults name task is uncut dropped = sym (taken_so t faults name task is ∙ rw (uncut, dropped) refl)

pub post_so : (t : Tables) (faults : ℕ) (name : RequestId) (task : TaskId) (post : Option Msg) → get same_request t.takers name ≡ Some task → contains same_task t.cuts task ≡ false → contains same_task t.drops task ≡ false → option_map (λ (m : Bor Msg). m.now) (get same_task t.posts task) ≡ post → told_by faults false false post ≡ told_from t faults name
post_so t faults name task post is uncut undropped posted = sym (taken_so t faults name task is ∙ rw (uncut, undropped, posted) refl)
