-- The grammar of the fields and lines, apart from reading: which words say what. No codes, and no order of looking.
use Rattle.std.specs.Prelude.{◌≡◌, ℕ, ◌≤◌, true, false, ◌==◌, List, [], ◌∷◌, ◌++◌, length, Option, Some, None, ◌⊎◌, codes}
use Rattle.std.specs.Option.{option_and_then}
use Rattle.std.specs.List.{list_any, join_with_byte}
use Rattle.ccr_base.specs.Bounds.{last_index, most_arg, most_count, most_policy, most_slots, most_value_numbers}
use Rattle.ccr_base.specs.declared.policies.Policy.{Policy}
use Rattle.ccr_base.specs.declared.policies.Policy.TheVariants as policies
use Rattle.ccr_base.specs.declared.policies.Group.{Group}
use Rattle.ccr_base.specs.declared.policies.Group.TheVariants as groups
use Rattle.ccr_base.specs.declared.handlers.Expr.{Expr}
use Rattle.ccr_base.specs.declared.handlers.Expr.TheVariants as exprs
use Rattle.ccr_base.specs.declared.patterns.Pred.{Pred}
use Rattle.ccr_base.specs.declared.patterns.Pred.TheVariants as preds
use Rattle.ccr_base.specs.declared.patterns.Slot.{Slot}
use Rattle.ccr_base.specs.declared.patterns.Pattern.{Pattern}
use Rattle.ccr_base.specs.Lists.{has_number}
use Rattle.ccr_base.specs.declared.patterns.Pattern.TheVariants as patterns
use Rattle.ccr_text.specs.Words.{number_of, is_name_of}
use Rattle.ccr_text.specs.Names.{meaning_of}
use Rattle.ccr_text.specs.Fields.{Words}
use Rattle.ccr_wiring.specs.References.{no_interleave}
use Rattle.ccr_wiring.specs.Repeats.{slot_ports}
use Rattle.ccr_wiretext.specs.declared.named.Named.{Named}
use Rattle.ccr_wiretext.specs.Names.{Naming, as_port, as_set, as_cause, as_arbiter}
use Rattle.ccr_wiretext.specs.Drafts.{Declared, members_of}
use Rattle.ccr_wiretext.specs.Patterns.{is_combined}

-- a name that may be declared here
pub record IsNew (names : Naming) (name : List ℕ) : Type 0 where
  pub formed : is_name_of name ≡ true
  pub new : meaning_of names name ≡ None

-- the name of something of a kind, with its number
abbrev pub Refers : (Named → Option ℕ) → Naming → List ℕ → ℕ → Type 0
Refers as_kind names name number = option_and_then as_kind (meaning_of names name) ≡ Some number

-- no slash stands in the word
abbrev pub IsPlain : List ℕ → Type 0
IsPlain word = list_any (λ b. b == 47) word ≡ false

-- SET/PORT, where the port is a member of the set
pub record IsMember (draft : Declared) (word : List ℕ) (port : ℕ) : Type 0 where
  pub set : List ℕ
  pub name : List ℕ
  pub spelled : word ≡ set ++ 47 ∷ name
  pub plain : IsPlain set
  pub number : ℕ
  pub in_set : Refers as_set draft.names set number
  pub in_names : Refers as_port draft.names name port
  pub member : has_number (members_of draft number) port ≡ true

-- PORT or SET/PORT
abbrev pub IsPort : Declared → List ℕ → ℕ → Type 0
IsPort draft word port = (IsPlain word × Refers as_port draft.names word port) ⊎ IsMember draft word port

-- digits of a number
abbrev pub IsNumber : List ℕ → ℕ → Type 0
IsNumber digits n = number_of digits ≡ Some n

-- digits of a number between two bounds
pub record IsWithin (low high : ℕ) (digits : List ℕ) (n : ℕ) : Type 0 where
  pub value : IsNumber digits n
  pub above : low ≤ n
  pub below : n ≤ high

-- the words say this policy
abbrev pub IsPolicy : Words → Policy → Type 0
IsPolicy words policies.Unbounded = words ≡ codes "unbounded" ∷ []
IsPolicy words (policies.Discard n) = (digits : List ℕ) × (words ≡ codes "discard" ∷ digits ∷ []) × IsWithin 1 most_policy digits n
IsPolicy words (policies.Throttle n) = (digits : List ℕ) × (words ≡ codes "throttle" ∷ digits ∷ []) × IsWithin 1 most_policy digits n

-- the word that gives the group of a receive
abbrev pub IsGroup : List ℕ → Group → Type 0
IsGroup word groups.Once = word ≡ codes "once"
IsGroup word groups.Always = word ≡ codes "always"
IsGroup word _ = ⊥

-- digits of numbers
abbrev pub AreNumbers : List (List ℕ) → List ℕ → Type 0
AreNumbers [] [] = Unit {0}
AreNumbers (digits ∷ more) (n ∷ numbers) = IsNumber digits n × AreNumbers more numbers
AreNumbers _ _ = ⊥

-- digits of 1 to 8 numbers, with commas between them
pub record IsList (word value : List ℕ) : Type 0 where
  pub digits : List (List ℕ)
  pub spelled : word ≡ join_with_byte 44 digits
  pub numbers : AreNumbers digits value
  pub some : 1 ≤ length value
  pub few : length value ≤ most_value_numbers

-- digits of one number
pub record IsOne (word value : List ℕ) : Type 0 where
  pub one : ℕ
  pub alone : value ≡ one ∷ []
  pub number : IsNumber word one

-- the word of a value: one number, in version 2 a list of them
abbrev pub IsValueWord : ℕ → List ℕ → List ℕ → Type 0
IsValueWord version word value = (((version == 2) ≡ false) × IsOne word value) ⊎ (((version == 2) ≡ true) × IsList word value)

-- part, and which number of which message's value. Only in version 2
pub record IsPart (version : ℕ) (words : Words) (message index : ℕ) : Type 0 where
  pub newer : (version == 2) ≡ true
  pub first : List ℕ
  pub second : List ℕ
  pub spelled : words ≡ codes "part" ∷ first ∷ second ∷ []
  pub counted : IsWithin 0 most_arg first message
  pub within : IsWithin 0 last_index second index

-- the words say this expression, in a text of this version
abbrev pub IsExpr : ℕ → Words → Expr → Type 0
IsExpr version words (exprs.Number value) = (word : List ℕ) × (words ≡ word ∷ []) × IsValueWord version word value
IsExpr version words (exprs.Part message index) = IsPart version words message index
IsExpr version words (exprs.Arg k) = (digits : List ℕ) × (words ≡ codes "arg" ∷ digits ∷ []) × IsWithin 0 most_arg digits k
IsExpr version words exprs.Sum = words ≡ codes "sum" ∷ []
IsExpr version words exprs.Count = words ≡ codes "count" ∷ []

-- the words say this predicate
abbrev pub IsPred : Words → Pred → Type 0
IsPred words preds.Any = words ≡ codes "any" ∷ []
IsPred words (preds.Eq n) = (digits : List ℕ) × (words ≡ codes "eq" ∷ digits ∷ []) × IsNumber digits n
IsPred words (preds.Lt n) = (digits : List ℕ) × (words ≡ codes "lt" ∷ digits ∷ []) × IsNumber digits n
IsPred words (preds.Ge n) = (digits : List ℕ) × (words ≡ codes "ge" ∷ digits ∷ []) × IsNumber digits n

-- PORT N PREDICATE
pub record IsSlot (draft : Declared) (words : Words) (slot : Slot) : Type 0 where
  pub port : List ℕ
  pub count : List ℕ
  pub test : Words
  pub spelled : words ≡ port ∷ count ∷ test
  pub refers : IsPort draft port slot.port
  pub counted : IsWithin 1 most_count count slot.least
  pub exact : slot.most ≡ slot.least
  pub tests : IsPred test slot.pred

-- slots one behind the other; found are those before, whose ports don't come again
abbrev pub IsSlots : Declared → List Slot → List Slot → Words → Type 0
IsSlots draft found [] words = words ≡ []
IsSlots draft found (slot ∷ slots) words =
    (front : Words) × (rest : Words) × (words ≡ front ++ rest) × IsSlot draft front slot
    × (has_number (slot_ports found) slot.port ≡ false) × IsSlots draft (found ++ slot ∷ []) slots rest

-- N PORT PORT
pub record IsGather (draft : Declared) (words : Words) (total first second : ℕ) : Type 0 where
  pub count : List ℕ
  pub one : List ℕ
  pub other : List ℕ
  pub spelled : words ≡ count ∷ one ∷ other ∷ []
  pub counted : IsWithin 1 most_count count total
  pub refers : IsPort draft one first
  pub other_refers : IsPort draft other second
  pub apart : (first == second) ≡ false

-- take and 1 to 8 slots, or gather and two ports
abbrev pub IsPattern : Declared → Words → Pattern → Type 0
IsPattern draft words (patterns.Slots slots) = (rest : Words) × (words ≡ codes "take" ∷ rest) × IsSlots draft [] slots rest × (1 ≤ length slots) × (length slots ≤ most_slots)
IsPattern draft words (patterns.Gather total first second) = (rest : Words) × (words ≡ codes "gather" ∷ rest) × IsGather draft rest total first second

-- ports of which each is none of those found before it
abbrev pub ArePorts : Declared → List ℕ → List ℕ → Words → Type 0
ArePorts draft found [] words = words ≡ []
ArePorts draft found (port ∷ ports) words =
    (word : List ℕ) × (rest : Words) × (words ≡ word ∷ rest) × IsPort draft word port
    × (has_number found port ≡ false) × ArePorts draft (found ++ port ∷ []) ports rest

-- the name of an Interleave
abbrev pub IsInterleave : Declared → List ℕ → ℕ → Type 0
IsInterleave draft word number = Refers as_arbiter draft.names word number × (no_interleave draft.parts number ≡ false)

-- Interleaves of which each is none of those found before it, and stands in no line before
abbrev pub AreInterleaves : Declared → List ℕ → List ℕ → Words → Type 0
AreInterleaves draft found [] words = words ≡ []
AreInterleaves draft found (number ∷ numbers) words =
    (word : List ℕ) × (rest : Words) × (words ≡ word ∷ rest) × IsInterleave draft word number
    × (is_combined draft.parts.domains number ≡ false) × (has_number found number ≡ false) × AreInterleaves draft (found ++ number ∷ []) numbers rest

-- causes of which each is none of those found before it
abbrev pub AreCauses : Naming → List ℕ → List ℕ → Words → Type 0
AreCauses names found [] words = words ≡ []
AreCauses names found (cause ∷ causes) words =
    (word : List ℕ) × (rest : Words) × (words ≡ word ∷ rest) × Refers as_cause names word cause
    × (has_number found cause ≡ false) × AreCauses names (found ++ cause ∷ []) causes rest
