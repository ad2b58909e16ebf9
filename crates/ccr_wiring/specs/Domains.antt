-- Domains: the Interleaves that share one protection.
use Rattle.std.specs.Prelude.{ℕ, min, List, [], ◌∷◌, if◌then◌else◌}
use Rattle.ccr_base.specs.Lists.{has_number}
use Rattle.ccr_wiring.specs.declared.parts.DomainPart.{DomainPart}

-- the least of the number and these
abbrev pub least_with : ℕ → List ℕ → ℕ
least_with least [] = least
least_with least (number ∷ numbers) = least_with (min least number) numbers

-- the number of the arbiter's domain: the least of the Interleaves that are combined with it; its own where none is
abbrev pub domain_of : List DomainPart → ℕ → ℕ
domain_of [] arbiter = arbiter
domain_of (part ∷ parts) arbiter = if has_number part.members arbiter then least_with arbiter part.members else domain_of parts arbiter
