-- What a function returned is what reading gives, unless memory ran out.
use Rattle.std.specs.Prelude.{◌≡◌, ℕ, Result, Ok, Err}
use Rattle.ccr_text.specs.declared.code.Code.{Code}
use Rattle.ccr_text.specs.declared.stop.Stop.{Stop}
use Rattle.ccr_text.specs.declared.stop.Stop.TheVariants as stops
use Rattle.ccr_text.specs.Codes.{code_number}
use Rattle.ccr_text.specs.Fields.{Words}

-- running out of memory promises nothing; a refusal is the reader's, with this code's number
abbrev pub Fails : {Y : Type 0} → Stop Code → Result Y ℕ → Type 0
Fails stops.Memory read = Unit {0}
Fails (stops.Refused code) read = read ≡ Err (code_number code)

-- the reader's answer is this value, or the refusal
abbrev pub Gives : {X : Type 0} → Result X (Stop Code) → Result X ℕ → Type 0
Gives (Ok x) read = read ≡ Ok x
Gives (Err stop) read = Fails stop read

-- the same where the value is seen by view
abbrev pub GivesBy : {X Y : Type 0} → (X → Y) → Result X (Stop Code) → Result Y ℕ → Type 0
GivesBy view (Ok x) read = read ≡ Ok (view x)
GivesBy view (Err stop) read = Fails stop read

-- the same of a method that leaves the value in its object. After an Err nothing is said of the object
abbrev pub GivesState : {X : Type 0} → X → Result (Unit {0}) (Stop Code) → Result X ℕ → Type 0
GivesState new (Ok done) read = read ≡ Ok new
GivesState new (Err stop) read = Fails stop read

-- the same of a field, which leaves the words behind it
abbrev pub LeavesBy : {X Y : Type 0} → (X → Y) → Words → Result X (Stop Code) → Result (Y × Words) ℕ → Type 0
LeavesBy view rest (Ok x) read = read ≡ Ok (view x, rest)
LeavesBy view rest (Err stop) read = Fails stop read

-- the reader's answer is this value with the words that are left, or the refusal
abbrev pub Leaves : {X : Type 0} → Words → Result X (Stop Code) → Result (X × Words) ℕ → Type 0
Leaves rest result read = LeavesBy (λ x. x) rest result read
