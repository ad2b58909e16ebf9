-- What a firing names was held before it, and so untaken.
use Rattle.std.proofs.Common.{◌≡◌, ℕ, ◌⊎◌, inl, inr, Bool, true, false, not, ◌||◌, List, [], ◌∷◌, ◌++◌, flat_map, Some, refl, sym, arith, ◌∙◌, subst}
use Rattle.std.specs.Prelude.{◌==◌, All, Contains}
use Rattle.std.specs.List.{slice_get, AllZip}
use Rattle.std.proofs.lemmas.List.Elements.{All-head, All-tail, All-filter, All-contains, filter_passes}
use Rattle.ccr_base.specs.declared.names.MsgId.{MsgId}
use Rattle.ccr_base.specs.declared.names.TaskId.{TaskId}
use Rattle.ccr_base.specs.declared.names.Spot.{Spot}
use Rattle.ccr_base.specs.declared.names.Spot.TheVariants.{Branch, Site}
use Rattle.ccr_base.specs.declared.messages.Msg.{Msg}
use Rattle.ccr_base.specs.declared.patterns.Slot.{Slot}
use Rattle.ccr_base.specs.declared.patterns.Pattern.{Pattern}
use Rattle.ccr_base.specs.declared.patterns.Pattern.TheVariants.{Slots, Gather}
use Rattle.ccr_wiring.specs.declared.parts.Parts.{Parts}
use Rattle.ccr_model.specs.declared.history.Event.{Event}
use Rattle.ccr_model.specs.declared.history.Event.TheVariants.{Fire}
use Rattle.ccr_base.specs.Names.{same_message, has_message}
use Rattle.ccr_wiring.specs.Valid.{IsValid}
use Rattle.ccr_model.specs.Posts.{posts, posted, taken, held}
use Rattle.ccr_model.specs.Selection.{names_of}
use Rattle.ccr_model.specs.Legal.{IsLegal}
use Rattle.ccr_base.proofs.SameNames.{same_message-is}
use Rattle.ccr_base.proofs.Booleans.{either, or_assoc, same_number}
use Rattle.ccr_model.proofs.MessageNames.{has_message-append}
use Rattle.ccr_model.proofs.Members.{Contains-among, Among-at}
use Rattle.ccr_laws.specs.Occurring.{Occurs}
use Rattle.ccr_laws.specs.WholePattern.{FillsSlot, FillsPattern, TakesWhole}
use Rattle.ccr_laws.specs.OneFate.{IsHeld}
use Rattle.ccr_laws.proofs.WholePatterns.{whole_pattern}

name_in_either : (names others : List MsgId) (name : MsgId) → has_message (names ++ others) name ≡ true → (has_message names name ≡ true) ⊎ (has_message others name ≡ true)
name_in_either names others name is = either (has_message names name) (has_message others name) (sym (has_message-append names others name) ∙ is) ((has_message names name ≡ true) ⊎ (has_message others name ≡ true)) (λ one. inl one) (λ other. inr other)

-- what a port holds was posted to it, and is untaken
port_of_held : (h : List Event) (port : ℕ) (m : Msg) → Contains (held h port) m → m.port ≡ port
port_of_held h port m among =
    let untaken : Msg → Bool = λ m. not (has_message (taken h) m.id) in
    let of_port : Msg → Bool = λ m. m.port == port in
    let passes : (m.port == port) ≡ true = All-contains (λ m. of_port m ≡ true) (held h port) m (All-filter untaken (λ m. of_port m ≡ true) (posted h port) (filter_passes of_port (posts h))) among in
    same_number m.port port passes

pub untaken_of_held : (h : List Event) (port : ℕ) (m : Msg) → Contains (held h port) m → has_message (taken h) m.id ≡ false
untaken_of_held h port m among =
    let untaken : Msg → Bool = λ m. not (has_message (taken h) m.id) in
    let passes : not (has_message (taken h) m.id) ≡ true = All-contains (λ m. untaken m ≡ true) (held h port) m (filter_passes untaken (posted h port)) among in
    grind (arith, passes)

held_at : (past : List Event) (port : ℕ) (m : Msg) → Contains (held past port) m → IsHeld past m.id
held_at past port m among = record { message = m; named = refl; among = subst (λ p. Contains (held past p) m) (sym (port_of_held past port m among)) among }

-- a name of held messages
named_held : (past : List Event) (port : ℕ) (ms : List Msg) → All (Contains (held past port)) ms → (name : MsgId) → has_message (names_of ms) name ≡ true → IsHeld past name
named_held past port [] all name is = absurd (cc)
named_held past port (m ∷ ms) all name is = of_test (same_message name m.id) refl is (named_held past port ms (All-tail (Contains (held past port)) m ms all) name)
  where
    of_test : (b : Bool) → same_message name m.id ≡ b → b || has_message (names_of ms) name ≡ true → (has_message (names_of ms) name ≡ true → IsHeld past name) → IsHeld past name
    of_test true same at rest = subst (IsHeld past) (sym (same_message-is name m.id same)) (held_at past port m (All-head (Contains (held past port)) m ms all))
    of_test false same at rest = rest at

of_parts : (past : List Event) (slots : List Slot) (parts : List (List Msg)) → AllZip (FillsSlot past) slots parts → (name : MsgId) → has_message (flat_map names_of parts) name ≡ true → IsHeld past name
of_parts past [] [] filled name is = absurd (cc)
of_parts past [] (part ∷ parts) filled name is = absurd filled
of_parts past (slot ∷ slots) [] filled name is = absurd filled
of_parts past (slot ∷ slots) (part ∷ parts) filled name is =
    elim (name_in_either (names_of part) (flat_map names_of parts) name is) [
      | inl here ↦ named_held past slot.port part filled.0.were_held name here
      | inr there ↦ of_parts past slots parts filled.1 name there
    ]

of_pattern : (past : List Event) (p : Pattern) (names : List MsgId) → FillsPattern past p names → (name : MsgId) → has_message names name ≡ true → IsHeld past name
of_pattern past (Slots slots) names fills name is = of_parts past slots fills.parts fills.filled name (subst (λ ns. has_message ns name ≡ true) fills.named is)
of_pattern past (Gather total first second) names fills name is =
    elim (name_in_either (names_of fills.of_first) (names_of fills.of_second) name (subst (λ ns. has_message ns name ≡ true) fills.named is)) [
      | inl here ↦ named_held past first fills.of_first fills.first_held name here
      | inr there ↦ named_held past second fills.of_second fills.second_held name there
    ]

Contains-get : (ms : List Msg) (m : Msg) → slice_get ms 0 ≡ Some m → Contains ms m
Contains-get ms m is = Contains-among ms m (Among-at ms 0 m is)

of_whole : (w : Parts) (past : List Event) (s : Spot) (names : List MsgId) → TakesWhole w past s names → (name : MsgId) → has_message names name ≡ true → IsHeld past name
of_whole w past (Branch b) names takes name is = of_pattern past takes.its.branch.pattern names takes.filled name is
of_whole w past (Site b k) names takes name is =
    let m = takes.taken.message in
    let among = Contains-get (held past takes.port) m takes.taken.oldest in
    let one : has_message (m.id ∷ []) name ≡ true = subst (λ ns. has_message ns name ≡ true) takes.taken.named is in
    let same : name ≡ m.id = same_message-is name m.id (grind (arith, one)) in
    subst (IsHeld past) (sym same) (held_at past takes.port m among)

-- each message that a firing names was held before it
pub held_before : (w : Parts) → IsValid w → (h : List Event) → IsLegal w h → (past : List Event) (t : TaskId) (s : Spot) (ms : List MsgId) (cs : List TaskId) → Occurs h past (Fire t s ms cs) → (name : MsgId) → has_message ms name ≡ true → IsHeld past name
held_before w valid h legal past t s ms cs stands name is = of_whole w past s ms (whole_pattern w valid h legal past t s ms cs stands) name is

pub untaken_before : (w : Parts) → IsValid w → (h : List Event) → IsLegal w h → (past : List Event) (t : TaskId) (s : Spot) (ms : List MsgId) (cs : List TaskId) → Occurs h past (Fire t s ms cs) → (name : MsgId) → has_message ms name ≡ true → has_message (taken past) name ≡ false
untaken_before w valid h legal past t s ms cs stands name is =
    let there = held_before w valid h legal past t s ms cs stands name is in
    subst (λ n. has_message (taken past) n ≡ false) there.named (untaken_of_held past there.message.port there.message there.among)
