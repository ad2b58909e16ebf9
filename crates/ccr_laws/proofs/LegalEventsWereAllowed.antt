-- What stands in a legal history was allowed after its past.
use Rattle.std.proofs.Common.{List, subst}
use Rattle.ccr_wiring.specs.declared.parts.Parts.{Parts}
use Rattle.ccr_model.specs.declared.history.Event.{Event}
use Rattle.ccr_model.specs.Legal.{IsAllowed, IsLegal}
use Rattle.ccr_model.proofs.LegalParts.{Parted, Parted-legal}
use Rattle.ccr_laws.specs.Occurring.{Occurs}

Parted-standing : (w : Parts) (h past : List Event) (e : Event) → IsLegal w h → (stands : Occurs h past e) → Parted w past e stands.more
Parted-standing w h past e legal stands = Parted-legal w past e stands.more (subst (IsLegal w) stands.whole legal)

pub allowed_at : (w : Parts) (h past : List Event) (e : Event) → IsLegal w h → Occurs h past e → IsAllowed w past e
allowed_at w h past e legal stands = (Parted-standing w h past e legal stands).allowed

-- the past is legal too
pub legal_past : (w : Parts) (h past : List Event) (e : Event) → IsLegal w h → Occurs h past e → IsLegal w past
legal_past w h past e legal stands = (Parted-standing w h past e legal stands).legal_before
