-- What a check of parts may answer.
use Rattle.std.specs.Prelude.{◌≡◌, Some}
use Rattle.ccr_wiring.specs.declared.parts.Parts.{Parts}
use Rattle.ccr_wiring.specs.declared.unfit.Unfit.{Unfit}
use Rattle.ccr_wiring.specs.declared.unfit.Unfit.TheVariants.{Code, Memory}
use Rattle.ccr_wiring.specs.Codes.{code_of}

-- a code is the least that stands in the parts; running out of memory may come always
abbrev pub IsCause : Parts → Unfit → Type 0
IsCause parts (Code code) = code_of parts ≡ Some code
IsCause parts Memory = Unit {0}
