-- Joined lists of causes.
use Rattle.std.proofs.Common.{◌≡◌, ℕ, List, [], ◌∷◌, ◌++◌, refl}
use Rattle.ccr_cause.specs.Causes.{with_cause, union}

-- causes are joined from left to right
pub union-append : (causes more others : List ℕ) → union causes (more ++ others) ≡ union (union causes more) others
union-append causes [] others = refl
union-append causes (cause ∷ more) others = union-append (with_cause causes cause) more others
