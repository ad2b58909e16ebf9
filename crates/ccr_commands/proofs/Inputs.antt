-- A text says a wiring or is refused; a load reads nothing.
use Rattle.std.proofs.Common.{◌≡◌, ℕ, Bool, true, false, List, Option, Some, None, Result, Ok, Err, ap, refl}
use Rattle.std.specs.Prelude.{IsSome}
use Rattle.ccr_wiring.specs.declared.parts.Parts.{Parts}
use Rattle.ccr_words.specs.declared.requests.Request.{Request}
use Rattle.ccr_words.specs.declared.requests.Request.TheVariants.{Load}
use Rattle.ccr_words.specs.AskedFor.{asked_for}
use Rattle.ccr_commands.specs.Answers.{reads}

pub apart : (read : Result Parts (ℕ × ℕ)) (wiring : Parts) (refusal : ℕ × ℕ) → read ≡ Ok wiring → read ≡ Err refusal → ⊥
apart read wiring refusal ok err = cc

-- words that ask for a load ask for nothing to be read
pub load_reads_nothing : (words : List (List ℕ)) (size workers : ℕ) (json : Bool) → asked_for words ≡ Some (Load size workers json) → reads (asked_for words) ≡ false
load_reads_nothing words size workers json is = ap reads is

-- a load meets no fault of the source
pub load_has_no_fault : (words : List (List ℕ)) (size workers : ℕ) (json : Bool) → asked_for words ≡ Some (Load size workers json) → reads (asked_for words) ≡ true → ⊥
load_has_no_fault words size workers json is reads_it = let none = load_reads_nothing words size workers json is in absurd cc

-- who reads asked for something
pub reads_some : (request : Option Request) → reads request ≡ true → IsSome request
reads_some None reads_it = absurd (cc)
reads_some (Some request) reads_it = refl
