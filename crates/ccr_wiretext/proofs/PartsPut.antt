-- Writing parts one by one.
use Rattle.std.proofs.Common.{◌≡◌, ℕ, List, ◌++◌, take}
use Rattle.std.specs.List.{AllWithin}
use Rattle.ccr_text.specs.Fields.{Words}
use Rattle.ccr_text.specs.Spelling.{text_of}

-- so many of the parts stand behind what was there, and these are of the form
abbrev pub ArePut : {A : Type 0} → (List A → List ℕ) → (A → Type 0) → List A → ℕ → List ℕ → List ℕ → Type 0
ArePut text_for IsOfForm all count before now = record { text : now ≡ before ++ text_for (take count all); valued : AllWithin IsOfForm all 0 count }

-- the same of parts that are written as lines
abbrev pub AreLinesPut : {A : Type 0} → (List A → List Words) → (A → Type 0) → List A → ℕ → List ℕ → List ℕ → Type 0
AreLinesPut lines_of IsOfForm all count before now = record { text : now ≡ before ++ text_of (lines_of (take count all)); valued : AllWithin IsOfForm all 0 count }
