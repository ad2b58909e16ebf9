-- What a firing leaves in each port: the messages that don't have the names that it takes.
use Rattle.std.proofs.Common.{◌≡◌, ℕ, ◌+◌, ◌-◌, ◌<◌, ◌≤◌, Bool, true, false, not, List, [], ◌∷◌, ◌++◌, length, take, drop, Some, refl, sym, ap, ◌∙◌, arith, subst}
use Rattle.std.specs.Prelude.{◌==◌, if◌then◌else◌}
use Rattle.std.specs.List.{slice_get}
use Rattle.ccr_base.specs.declared.names.MsgId.{MsgId}
use Rattle.ccr_base.specs.declared.messages.Msg.{Msg}
use Rattle.ccr_base.specs.declared.patterns.Slot.{Slot}
use Rattle.ccr_base.specs.declared.patterns.Pattern.{Pattern}
use Rattle.ccr_base.specs.declared.patterns.Pattern.TheVariants.{Slots, Gather}
use Rattle.ccr_base.specs.Selection.{holds, fitting, selection}
use Rattle.ccr_base.specs.Names.{same_message, same_lists}
use Rattle.ccr_wiring.specs.Repeats.{slot_ports, names_ports_once}
use Rattle.ccr_wiring.specs.Spots.{pattern_ports}
use Rattle.ccr_ledger.specs.Rows.{row, with_row}
use Rattle.ccr_ledger.specs.Taken.{without_some, shared}
use Rattle.ccr_model.specs.Selection.{names_of, selection_of_slots, are_first, are_split, is_selection_of, are_oldest}
use Rattle.ccr_model.proofs.PostNames.{times}
use Rattle.ccr_model.proofs.TakenOnce.{joined_some, selection_some, times-filter, times-take}
use Rattle.ccr_model.proofs.FirstNames.{same_names, first-names}
use Rattle.ccr_model.proofs.MessageNames.{left_by, none_left, left_both}
use Rattle.ccr_base.proofs.Options.{some_of}
use Rattle.ccr_base.proofs.Booleans.{both, neither, not_true, same_number, eq_turned}
use Rattle.ccr_base.specs.Lists.{has_number, are_apart}
use Rattle.ccr_base.proofs.SameNames.{names_of-append}
use Rattle.ccr_ledger.specs.Taking.{take_slot, take_slots, take_oldest, take_gather, take_pattern}
use Rattle.ccr_ledger.proofs.Tables.{length-with_row, row-with_row}
use Rattle.ccr_ledger.proofs.Fitting.{times-left, apart_left, some-named, oldest-named, split-names}

-- the rows are what the ports hold, and no two messages of these have one name
pub record AreHeld (ports : List (List Msg)) (held_at : ℕ → List Msg) : Type 0 where
  pub told : (port : ℕ) → port < length ports → row ports port ≡ held_at port
  pub apart : (port : ℕ) (name : MsgId) → times name (held_at port) ≤ 1
  pub alone : (p q : ℕ) (name : MsgId) → (p == q) ≡ false → times name (held_at p) + times name (held_at q) ≤ 1

-- some messages of one port go
module _ (ports : List (List Msg)) (held_at : ℕ → List Msg) (are : AreHeld ports held_at) (port : ℕ) (gone : List Msg) (leave : List Msg → List Msg)
    (few : (name : MsgId) → times name gone ≤ times name (held_at port)) (named : leave (held_at port) ≡ left_by (names_of gone) (held_at port)) where
  -- the other ports keep all
  other_kept : (p : ℕ) → (port == p) ≡ false → left_by (names_of gone) (held_at p) ≡ held_at p
  other_kept p other = apart_left gone (held_at p) (λ name. omega (arith, few name, are.alone port p name other))

  row_left : (p : ℕ) → p < length ports → row (with_row ports port (leave (row ports port))) p ≡ left_by (names_of gone) (held_at p)
  row_left p low = row-with_row ports port p (leave (row ports port)) low ∙ of_test (port == p) refl
    where
      of_test : (b : Bool) → (port == p) ≡ b → (if b then leave (row ports port) else row ports p) ≡ left_by (names_of gone) (held_at p)
      of_test true is =
          let same : port ≡ p = same_number port p is in
          subst (λ q. row ports q ≡ held_at q → leave (row ports port) ≡ left_by (names_of gone) (held_at q)) same (λ here. ap leave here ∙ named) (are.told p low)
      of_test false is = are.told p low ∙ sym (other_kept p is)

  are_left : AreHeld (with_row ports port (leave (row ports port))) (λ p. left_by (names_of gone) (held_at p))
  are_left = record {
    told = λ p low. row_left p (rw length-with_row at low);
    apart = λ p name. omega (arith, are.apart p name, times-left name (names_of gone) (held_at p));
    alone = λ p q name other. omega (arith, are.alone p q name other, times-left name (names_of gone) (held_at p), times-left name (names_of gone) (held_at q));
  }

-- ---- slots

module _ (ports : List (List Msg)) (held_at : ℕ → List Msg) (are : AreHeld ports held_at) (slot : Slot) where
  abbrev chosen : List Msg
  chosen = take slot.most (fitting slot.pred (held_at slot.port))

  few_chosen : (name : MsgId) → times name chosen ≤ times name (held_at slot.port)
  few_chosen name = omega (arith, times-take name slot.most (fitting slot.pred (held_at slot.port)), times-filter name (λ (m : Msg). holds slot.pred m.value) (held_at slot.port))

  named_chosen : without_some slot.most slot.pred (held_at slot.port) ≡ left_by (names_of chosen) (held_at slot.port)
  named_chosen = some-named slot.most slot.pred (held_at slot.port) (are.apart slot.port)

  slot_left : AreHeld (take_slot slot ports).ports (λ p. left_by (names_of chosen) (held_at p))
  slot_left = are_left ports held_at are slot.port chosen (without_some slot.most slot.pred) few_chosen named_chosen

  -- slots of other ports choose as before
  selection_kept : (slots : List Slot) → has_number (slot_ports slots) slot.port ≡ false → selection_of_slots (λ p. left_by (names_of chosen) (held_at p)) slots ≡ selection_of_slots held_at slots
  selection_kept [] out = refl
  selection_kept (other ∷ slots) out =
      let parts = neither (other.port == slot.port) (has_number (slot_ports slots) slot.port) out in
      let kept = other_kept ports held_at are slot.port chosen (without_some slot.most slot.pred) few_chosen named_chosen other.port (eq_turned other.port slot.port parts.0) in
      rw (kept, selection_kept slots parts.1) refl

-- slot by slot
slots_left : (slots : List Slot) (ports : List (List Msg)) (held_at : ℕ → List Msg) (ms : List Msg) → AreHeld ports held_at → are_apart (slot_ports slots) ≡ true → selection_of_slots held_at slots ≡ Some ms
    → (p : ℕ) → p < length ports → row (take_slots slots ports).ports p ≡ left_by (names_of ms) (held_at p)
slots_left [] ports held_at ms are once is p low = let none : ms ≡ [] = cc in rw none (are.told p low ∙ sym (none_left (held_at p)))
slots_left (slot ∷ slots) ports held_at ms are once is p low =
    let parts = joined_some (selection slot (held_at slot.port)) (selection_of_slots held_at slots) ms is in
    let ports_apart = both (not (has_number (slot_ports slots) slot.port)) (are_apart (slot_ports slots)) once in
    let out = not_true (has_number (slot_ports slots) slot.port) ports_apart.0 in
    let front = names_of (chosen ports held_at are slot) in
    let rest = slots_left slots (take_slot slot ports).ports (λ q. left_by front (held_at q)) parts.1 (slot_left ports held_at are slot) ports_apart.1 (selection_kept ports held_at are slot slots out ∙ parts.3) p (rw length-with_row low) in
    let names : names_of ms ≡ front ++ names_of parts.1 = ap names_of (sym parts.4) ∙ (names_of-append parts.0 parts.1 ∙ ap (λ ms. names_of ms ++ names_of parts.1) (selection_some slot (held_at slot.port) parts.0 parts.2)) in
    rest ∙ (sym (left_both front (names_of parts.1) (held_at p)) ∙ ap (λ ns. left_by ns (held_at p)) (sym names))

-- ---- the oldest of a port

module _ (ports : List (List Msg)) (held_at : ℕ → List Msg) (are : AreHeld ports held_at) (port count : ℕ) where
  few_oldest : (name : MsgId) → times name (take count (held_at port)) ≤ times name (held_at port)
  few_oldest name = times-take name count (held_at port)

  named_oldest : drop count (held_at port) ≡ left_by (names_of (take count (held_at port))) (held_at port)
  named_oldest = oldest-named count (held_at port) (are.apart port)

  oldest_left : AreHeld (take_oldest port count ports).ports (λ p. left_by (names_of (take count (held_at port))) (held_at p))
  oldest_left = are_left ports held_at are port (take count (held_at port)) (drop count) few_oldest named_oldest

  oldest_kept : (p : ℕ) → (port == p) ≡ false → left_by (names_of (take count (held_at port))) (held_at p) ≡ held_at p
  oldest_kept = other_kept ports held_at are port (take count (held_at port)) (drop count) few_oldest named_oldest

-- of two ports
gather_left : (first second : ℕ) (names : List MsgId) (ports : List (List Msg)) (held_at : ℕ → List Msg) → AreHeld ports held_at → (first == second) ≡ false → first < length ports → are_split (held_at first) (held_at second) names ≡ true
    → (p : ℕ) → p < length ports → row (take_gather first second names ports).ports p ≡ left_by names (held_at p)
gather_left first second names ports held_at are other low_first split p low =
    let count : ℕ = shared (held_at first) names in
    let later : ℕ = length names - count in
    let front = names_of (take count (held_at first)) in
    let back = names_of (take later (held_at second)) in
    let kept : left_by front (held_at second) ≡ held_at second = oldest_kept ports held_at are first count second other in
    let both_left = oldest_left _ _ (oldest_left ports held_at are first count) second later in
    let named : names ≡ front ++ back = split-names (held_at first) (held_at second) names (λ name. are.alone first second name other) split in
    let of_row : List Msg → List (List Msg) = λ ms. (take_oldest second (length names - shared ms names) (take_oldest first (shared ms names) ports).ports).ports in
    ap (λ ms. row (of_row ms) p) (are.told first low_first) ∙ (both_left.told p (rw (length-with_row, length-with_row) low)
    ∙ (ap (λ ms. left_by (names_of (take later ms)) (left_by front (held_at p))) kept
    ∙ (sym (left_both front back (held_at p)) ∙ ap (λ ns. left_by ns (held_at p)) (sym named))))

-- ---- what a pattern takes, and what a site takes

pub pattern_left : (pattern : Pattern) (names : List MsgId) (ports : List (List Msg)) (held_at : ℕ → List Msg) → AreHeld ports held_at → names_ports_once pattern ≡ true
    → ((index port : ℕ) → slice_get (pattern_ports pattern) index ≡ Some port → port < length ports) → is_selection_of held_at pattern names ≡ true
    → (p : ℕ) → p < length ports → row (take_pattern pattern names ports).ports p ≡ left_by names (held_at p)
pattern_left (Slots slots) names ports held_at are once low_ports is p low =
    let made = some_of (λ (messages : List Msg). same_lists same_message (names_of messages) names) (selection_of_slots held_at slots) is in
    slots_left slots ports held_at made.0 are once made.1 p low ∙ ap (λ ns. left_by ns (held_at p)) (sym (same_names made.0 names made.2))
pattern_left (Gather total first second) names ports held_at are once low_ports is p low =
    gather_left first second names ports held_at are (not_true (first == second) once) (low_ports 0 first refl) (both (length names == total) (are_split (held_at first) (held_at second) names) is).1 p low

pub site_left : (port : ℕ) (names : List MsgId) (ports : List (List Msg)) (held_at : ℕ → List Msg) → AreHeld ports held_at → are_oldest (held_at port) names ≡ true
    → (p : ℕ) → p < length ports → row (take_oldest port 1 ports).ports p ≡ left_by names (held_at p)
site_left port names ports held_at are is p low =
    let parts = both (length names == 1) (are_first (held_at port) names) is in
    let named : names ≡ names_of (take (length names) (held_at port)) = first-names (held_at port) names parts.1 in
    let one : length names ≡ 1 = same_number (length names) 1 parts.0 in
    (oldest_left ports held_at are port 1).told p (rw length-with_row low) ∙ ap (λ ns. left_by ns (held_at p)) (ap (λ n. names_of (take n (held_at port))) (sym one) ∙ sym named)
