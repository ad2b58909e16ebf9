-- Where counts are told of a wiring, the totals of its quiet histories are those that are told.
use Rattle.std.proofs.Common.{◌≡◌, ℕ, true, List}
use Rattle.ccr_wiring.specs.declared.parts.Parts.{Parts}
use Rattle.ccr_model.specs.declared.history.Event.{Event}
use Rattle.ccr_model.specs.declared.history.Totals.{Totals}
use Rattle.ccr_model.specs.Counts.{totals}
use Rattle.ccr_steady.specs.declared.agreement.Agreed.{Agreed}
use Rattle.ccr_steady.specs.declared.agreement.Agreed.TheVariants.{Unsteady, Spent, Counts}
use Rattle.ccr_steady.specs.Agreement.{Agrees, is_counts}
use Rattle.ccr_commands.specs.Loads.{AreTotalsOf}

pub told_totals : (wiring : Parts) (history : List Event) (told : Agreed) → ((fired : List ℕ) (found : Totals) → Agrees wiring (Counts fired found) → totals history ≡ found)
    → Agrees wiring told → is_counts told ≡ true → AreTotalsOf told (totals history)
told_totals wiring history (Counts fired found) law agrees is = law fired found agrees
told_totals wiring history (Unsteady rule) law agrees is = absurd (cc)
told_totals wiring history Spent law agrees is = absurd (cc)
