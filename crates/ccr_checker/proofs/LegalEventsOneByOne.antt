-- The events of a legal history, one by one.
use Rattle.std.proofs.Common.{◌≡◌, ℕ, ◌+◌, ◌<◌, List, length, take, drop, get_or, refl, subst}
use Rattle.std.proofs.lemmas.Option.{slice_get_read}
use Rattle.ccr_base.proofs.Options.{parted}
use Rattle.ccr_wiring.specs.declared.parts.Parts.{Parts}
use Rattle.ccr_model.specs.declared.history.Event.{Event}
use Rattle.ccr_model.specs.Legal.{IsAllowed, IsLegal}
use Rattle.ccr_model.proofs.LegalParts.{Parted-legal}

-- each event of a legal history is allowed after those before it
pub allowed_at : (w : Parts) (es : List Event) (i : ℕ) (e : Event) → IsLegal w es → i < length es → e ≡ get_or es i e → IsAllowed w (take i es) e
allowed_at w es i e legal low at = (Parted-legal w (take i es) e (drop (i + 1) es) (subst (IsLegal w) (parted es i e (slice_get_read es (length es) i e refl low at)) legal)).allowed
