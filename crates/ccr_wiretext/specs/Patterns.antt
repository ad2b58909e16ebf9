-- The fields of a line that go on up to its end: patterns, the members of a set, combined Interleaves, the causes of a post.
use Rattle.std.specs.Prelude.{ℕ, Bool, zero, suc, List, [], ◌∷◌, ◌++◌, Result, Ok, Err, ◌||◌, not, if◌then◌else◌, codes}
use Rattle.std.specs.Option.{option_and_then}
use Rattle.std.specs.List.{list_any}
use Rattle.std.specs.Str.{bytes_eq}
use Rattle.ccr_base.specs.Bounds.{most_count}
use Rattle.ccr_base.specs.declared.patterns.Pred.{Pred}
use Rattle.ccr_base.specs.declared.patterns.Pred.TheVariants as preds
use Rattle.ccr_base.specs.declared.patterns.Slot.{Slot}
use Rattle.ccr_base.specs.declared.patterns.Pattern.{Pattern}
use Rattle.ccr_base.specs.Lists.{has_number}
use Rattle.ccr_base.specs.declared.patterns.Pattern.TheVariants as patterns
use Rattle.ccr_text.specs.Names.{meaning_of}
use Rattle.ccr_text.specs.Fields.{Words, ◌>>=◌, unless, or_code, word, no_more, number, number_within}
use Rattle.ccr_wiring.specs.declared.parts.DomainPart.{DomainPart}
use Rattle.ccr_wiring.specs.Repeats.{slot_ports}
use Rattle.ccr_wiretext.specs.Names.{Naming, as_cause}
use Rattle.ccr_wiretext.specs.Drafts.{Declared}
use Rattle.ccr_wiretext.specs.Fields.{port, interleave}

-- any, eq N, lt N or ge N
unfoldable pub pred : Words → Result (Pred × Words) ℕ
pred words = do
  name ← word words
  if bytes_eq name.0 (codes "any") then Ok (preds.Any, name.1) else
      if bytes_eq name.0 (codes "eq") then (number name.1 >>= λ value. Ok (preds.Eq value.0, value.1)) else
      if bytes_eq name.0 (codes "lt") then (number name.1 >>= λ value. Ok (preds.Lt value.0, value.1)) else
      if bytes_eq name.0 (codes "ge") then (number name.1 >>= λ value. Ok (preds.Ge value.0, value.1)) else
      Err 3

-- a port that isn't among those found before it
unfoldable pub new_port : Declared → List ℕ → Words → Result (ℕ × Words) ℕ
new_port draft found words = do
  next ← port draft words
  apart ← unless (not (has_number found next.0)) 8
  Ok next

-- PORT N PREDICATE, where the port stands in no slot before it
unfoldable pub slot : Declared → List Slot → Words → Result (Slot × Words) ℕ
slot draft found words = do
  port ← port draft words
  apart ← unless (not (has_number (slot_ports found) port.0)) 8
  count ← number_within 1 most_count port.1
  test ← pred count.1
  Ok (record { port = port.0; least = count.0; most = count.0; pred = test.0 }, test.1)

-- further slots behind those that were found, as long as words are left and there is room
unfoldable pub slots : Declared → ℕ → List Slot → Words → Result (List Slot) ℕ
slots draft room found [] = Ok found
slots draft zero found (first ∷ words) = Err 10
slots draft (suc room) found (first ∷ words) = do
  next ← slot draft found (first ∷ words)
  slots draft room (found ++ next.0 ∷ []) next.1

-- 1 to 8 slots
unfoldable pub taken : Declared → Words → Result Pattern ℕ
taken draft words = do
  first ← slot draft [] words
  all ← slots draft 7 (first.0 ∷ []) first.1
  Ok (patterns.Slots all)

-- N PORT PORT
unfoldable pub gathered : Declared → Words → Result Pattern ℕ
gathered draft words = do
  total ← number_within 1 most_count words
  first ← port draft total.1
  second ← new_port draft (first.0 ∷ []) first.1
  done ← no_more second.1
  Ok (patterns.Gather total.0 first.0 second.0)

-- take and its slots, or gather and its ports, up to the end of the line
unfoldable pub pattern : Declared → Words → Result Pattern ℕ
pattern draft words = do
  name ← word words
  if bytes_eq name.0 (codes "take") then taken draft name.1 else
      if bytes_eq name.0 (codes "gather") then gathered draft name.1 else
      Err 3

-- further members of a set behind those that were found, as long as words are left and there is room
unfoldable pub members : Declared → ℕ → List ℕ → Words → Result (List ℕ) ℕ
members draft room found [] = Ok found
members draft zero found (first ∷ words) = Err 10
members draft (suc room) found (first ∷ words) = do
  next ← new_port draft found (first ∷ words)
  members draft room (found ++ next.0 ∷ []) next.1

-- 1 to 8 members
unfoldable pub all_members : Declared → Words → Result (List ℕ) ℕ
all_members draft words = do
  first ← port draft words
  members draft 7 (first.0 ∷ []) first.1

-- the Interleave stands in one of these domains
abbrev pub is_combined : List DomainPart → ℕ → Bool
is_combined domains number = list_any (λ (domain : DomainPart). has_number domain.members number) domains

-- an Interleave that no line before combines, and that isn't among those found before it
unfoldable pub new_member : Declared → List ℕ → Words → Result (ℕ × Words) ℕ
new_member draft found words = do
  next ← interleave draft words
  apart ← unless (not (is_combined draft.parts.domains next.0 || has_number found next.0)) 8
  Ok next

-- further Interleaves behind those that were found, as long as words are left and there is room
unfoldable pub further : Declared → ℕ → List ℕ → Words → Result (List ℕ) ℕ
further draft room found [] = Ok found
further draft zero found (first ∷ words) = Err 10
further draft (suc room) found (first ∷ words) = do
  next ← new_member draft found (first ∷ words)
  further draft room (found ++ next.0 ∷ []) next.1

-- 2 to 8 Interleaves
unfoldable pub combined : Declared → Words → Result (List ℕ) ℕ
combined draft words = do
  first ← new_member draft [] words
  second ← new_member draft (first.0 ∷ []) first.1
  further draft 6 (first.0 ∷ second.0 ∷ []) second.1

-- causes behind those that were found, up to the end of the line
unfoldable pub causes : Naming → List ℕ → Words → Result (List ℕ) ℕ
causes names found [] = Ok found
causes names found (first ∷ words) = do
  cause ← or_code (option_and_then as_cause (meaning_of names first)) 7
  apart ← unless (not (has_number found cause)) 8
  causes names (found ++ cause ∷ []) words
