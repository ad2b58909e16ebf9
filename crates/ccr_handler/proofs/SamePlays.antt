-- Plays by a list of the exception ports, and of no actions.
use Rattle.std.proofs.Common.{◌≡◌, ℕ, List, [], ◌∷◌, map, Option, refl, ap}
use Rattle.std.specs.List.{slice_get}
use Rattle.std.proofs.lemmas.Option.{slice_get-map}
use Rattle.ccr_wiring.specs.declared.parts.Parts.{Parts}
use Rattle.ccr_wiring.specs.declared.parts.CausePart.{CausePart}
use Rattle.ccr_wiring.specs.Wirings.{exception_port}
use Rattle.ccr_base.specs.declared.handlers.Action.{Action}
use Rattle.ccr_base.specs.declared.handlers.Action.TheVariants.{Post, Fail, Add, Remove, Await}
use Rattle.ccr_cause.specs.Causes.{with_cause, without_cause}
use Rattle.ccr_handler.specs.Playing.{exceptions, play, with_post}
use Rattle.ccr_handler.specs.Evaluating.{value_of}

exceptions-same : (f g : ℕ → Option ℕ) → ((k : ℕ) → f k ≡ g k) → (value : List ℕ) (causes : List ℕ) → exceptions f value causes ≡ exceptions g value causes
exceptions-same f g same value [] = refl
exceptions-same f g same value (cause ∷ causes) = rw (same cause, exceptions-same f g same value causes) refl

-- a play depends on the exception ports alone
play-same : (f g : ℕ → Option ℕ) → ((k : ℕ) → f k ≡ g k) → (values : List (List ℕ)) (site : ℕ) (causes : List ℕ) (actions : List Action) → play f values site causes actions ≡ play g values site causes actions
play-same f g same values site causes [] = refl
play-same f g same values site causes (Post port expr ∷ actions) = ap (with_post _) (play-same f g same values site causes actions)
play-same f g same values site causes (Fail expr ∷ actions) = rw (exceptions-same f g same (value_of expr values) causes) refl
play-same f g same values site causes (Add cause ∷ actions) = play-same f g same values site (with_cause causes cause) actions
play-same f g same values site causes (Remove cause ∷ actions) = play-same f g same values site (without_cause causes cause) actions
play-same f g same values site causes (Await port ∷ actions) = refl

-- the ports by a list of them, or by the wiring
pub play-ports : (wiring : Parts) (ports : List ℕ) → ports ≡ map (λ (part : CausePart). part.port) wiring.causes → (values : List (List ℕ)) (site : ℕ) (causes : List ℕ) (actions : List Action) → play (slice_get ports) values site causes actions ≡ play (exception_port wiring) values site causes actions
play-ports wiring ports are values site causes actions = play-same (slice_get ports) (exception_port wiring) (λ k. rw (are, slice_get-map _ wiring.causes k) refl) values site causes actions
