-- Patterns, members of a set, combined Interleaves and causes of a post: what is read is in the grammar, and what is in the grammar is read.
use Rattle.std.proofs.Common.{◌≡◌, ℕ, zero, suc, ◌≤◌, Bool, true, false, List, [], ◌∷◌, ◌++◌, length, Result, Ok, Err, inl, inr, refl, sym, ap, subst, ◌∙◌, append_assoc, append-nil, arith}
use Rattle.std.specs.Prelude.{◌==◌, ◌||◌, not, codes}
use Rattle.std.specs.Str.{bytes_eq}
use Rattle.std.specs.Option.{option_and_then}
use Rattle.std.specs.List.{list_any}
use Rattle.ccr_base.specs.declared.patterns.Slot.{Slot}
use Rattle.ccr_base.specs.declared.patterns.Pred.{Pred}
use Rattle.ccr_base.specs.declared.patterns.Pred.TheVariants as preds
use Rattle.ccr_base.specs.declared.patterns.Pattern.{Pattern}
use Rattle.ccr_base.specs.declared.patterns.Pattern.TheVariants as patterns
use Rattle.ccr_base.proofs.Texts.{same_word}
use Rattle.ccr_base.proofs.Booleans.{not_true, chosen}
use Rattle.ccr_base.specs.Lists.{has_number}
use Rattle.ccr_text.specs.Names.{meaning_of}
use Rattle.ccr_text.specs.Fields.{Words, ◌>>=◌, unless, or_code, no_more, number, number_within}
use Rattle.ccr_wiring.specs.Repeats.{slot_ports}
use Rattle.ccr_wiretext.specs.Names.{Naming, as_cause}
use Rattle.ccr_wiretext.specs.Drafts.{Declared}
use Rattle.ccr_wiretext.specs.Fields.{port, interleave}
use Rattle.ccr_wiretext.specs.Patterns.{pred, new_port, slot, slots, taken, gathered, pattern, members, all_members, is_combined, new_member, further, combined, causes}
use Rattle.ccr_wiretext.specs.Grammar.{IsPort, IsPred, IsSlot, IsSlots, IsGather, IsPattern, ArePorts, IsInterleave, AreInterleaves, AreCauses}
use Rattle.ccr_wiretext.proofs.ReadTellsSteps.{bind_ok, ok_is, unless_ok, or_code_ok, no_more_ok}
use Rattle.ccr_wiretext.proofs.FieldsRead.{within_said, within_read, number_read, limit_as, numbered_said, keyed, interleave_said, interleave_read}
use Rattle.ccr_wiretext.proofs.Each.{neither}
use Rattle.ccr_wiretext.proofs.PortsRead.{port_said, port_read}

-- PREDICATE
pub pred_said : (words : Words) (x : Pred × Words) → pred words ≡ Ok x → (front : Words) × (words ≡ front ++ x.1) × IsPred front x.0
unfolding pred
pred_said [] x e = absurd cc
pred_said (w ∷ words) x e = elim (chosen (bytes_eq w (codes "any")) (Ok (preds.Any, words)) _ (Ok x) e) [
  | inl here ↦
      subst (λ (y : Pred × Words). (front : Words) × (w ∷ words ≡ front ++ y.1) × IsPred front y.0) (ok_is (preds.Any, words) x here.1)
      (w ∷ [], refl, ap (λ (v : List ℕ). v ∷ []) (same_word w (codes "any") here.0))
  | inr other1 ↦ elim (chosen (bytes_eq w (codes "eq")) (number words >>= limit_as preds.Eq) _ (Ok x) other1.1) [
    | inl here ↦
        let said = numbered_said preds.Eq words x here.1 in
        (w ∷ said.1 ∷ [], ap (λ (v : Words). w ∷ v) said.2, subst (IsPred (w ∷ said.1 ∷ [])) said.4 (said.1, keyed w (codes "eq") said.1 here.0, said.3))
    | inr other2 ↦ elim (chosen (bytes_eq w (codes "lt")) (number words >>= limit_as preds.Lt) _ (Ok x) other2.1) [
      | inl here ↦
          let said = numbered_said preds.Lt words x here.1 in
          (w ∷ said.1 ∷ [], ap (λ (v : Words). w ∷ v) said.2, subst (IsPred (w ∷ said.1 ∷ [])) said.4 (said.1, keyed w (codes "lt") said.1 here.0, said.3))
      | inr other3 ↦ elim (chosen (bytes_eq w (codes "ge")) (number words >>= limit_as preds.Ge) _ (Ok x) other3.1) [
        | inl here ↦
            let said = numbered_said preds.Ge words x here.1 in
            (w ∷ said.1 ∷ [], ap (λ (v : Words). w ∷ v) said.2, subst (IsPred (w ∷ said.1 ∷ [])) said.4 (said.1, keyed w (codes "ge") said.1 here.0, said.3))
        | inr other4 ↦ absurd (let h : Err 3 ≡ Ok x = other4.1 in cc)
      ]
    ]
  ]
]

pub pred_read : (front : Words) (p : Pred) (rest : Words) → IsPred front p → pred (front ++ rest) ≡ Ok (p, rest)
unfolding pred
pred_read front preds.Any rest said = rw said refl
pred_read front (preds.Eq n) rest said = rw (said.1, number_read said.0 n rest said.2) refl
pred_read front (preds.Lt n) rest said = rw (said.1, number_read said.0 n rest said.2) refl
pred_read front (preds.Ge n) rest said = rw (said.1, number_read said.0 n rest said.2) refl

-- one slot
pub slot_said : (draft : Declared) (found : List Slot) (words : Words) (x : Slot × Words) → slot draft found words ≡ Ok x
    → (front : Words) × (words ≡ front ++ x.1) × IsSlot draft front x.0 × (has_number (slot_ports found) x.0.port ≡ false)
unfolding slot
slot_said draft found words x e =
    let to = bind_ok (port draft words) _ x e in
    let apart = bind_ok (unless (not (has_number (slot_ports found) to.0.0)) 8) _ x to.2 in
    let count = bind_ok (number_within 1 1000 to.0.1) _ x apart.2 in
    let test = bind_ok (pred count.0.1) _ x count.2 in
    let referred = port_said draft words to.0 to.1 in
    let counted = within_said 1 1000 to.0.1 count.0 count.1 in
    let tested = pred_said count.0.1 test.0 test.1 in
    let made : Slot = record { port = to.0.0; least = count.0.0; most = count.0.0; pred = test.0.0 } in
    subst (λ (y : Slot × Words). (front : Words) × (words ≡ front ++ y.1) × IsSlot draft front y.0 × (has_number (slot_ports found) y.0.port ≡ false)) (ok_is (made, test.0.1) x test.2) (
      referred.0 ∷ counted.0 ∷ tested.0,
      referred.1 ∙ ap (λ (v : Words). referred.0 ∷ v) (counted.1 ∙ ap (λ (v : Words). counted.0 ∷ v) tested.1),
      record { port = referred.0; count = counted.0; test = tested.0; spelled = refl; refers = referred.2; counted = counted.2; exact = refl; tests = tested.2 },
      not_true _ (unless_ok _ 8 apart.0 apart.1),
    )

slot_is : (s : Slot) → s.most ≡ s.least → record { port = s.port; least = s.least; most = s.least; pred = s.pred } ≡ s
slot_is s e = ap (λ (m : ℕ). record { port = s.port; least = s.least; most = m; pred = s.pred }) (sym e)

pub slot_read : (draft : Declared) (found : List Slot) (front : Words) (s : Slot) (rest : Words) → IsSlot draft front s → has_number (slot_ports found) s.port ≡ false
    → slot draft found (front ++ rest) ≡ Ok (s, rest)
unfolding slot
slot_read draft found front s rest said apart =
    rw (said.spelled, port_read draft said.port s.port (said.count ∷ said.test ++ rest) said.refers, apart, within_read 1 1000 said.count s.least (said.test ++ rest) said.counted, pred_read said.test s.pred rest said.tests)
    (ap (λ (t : Slot). done (t, rest)) (slot_is s said.exact))
  where
    done : Slot × Words → Result (Slot × Words) ℕ
    done x = Ok x

-- further slots
pub slots_said : (draft : Declared) (room : ℕ) (found : List Slot) (words : Words) (all : List Slot) → slots draft room found words ≡ Ok all
    → (more : List Slot) × (all ≡ found ++ more) × IsSlots draft found more words × (length more ≤ room)
unfolding slots
slots_said draft room found [] all e = ([], sym (ok_is found all e) ∙ sym (append-nil found), refl, omega arith)
slots_said draft zero found (w ∷ words) all e = absurd cc
slots_said draft (suc room) found (w ∷ words) all e =
    let next = bind_ok (slot draft found (w ∷ words)) (λ next. slots draft room (found ++ next.0 ∷ []) next.1) all e in
    let one = slot_said draft found (w ∷ words) next.0 next.1 in
    let rest = slots_said draft room (found ++ next.0.0 ∷ []) next.0.1 all next.2 in
    (next.0.0 ∷ rest.0, rest.1 ∙ append_assoc found (next.0.0 ∷ []) rest.0, (one.0, next.0.1, one.1, one.2, one.3, rest.2), omega (arith, rest.3))

-- a step is taken where words are left
slots_next : (draft : Declared) (room : ℕ) (found : List Slot) (front : Words) (words : Words) (next : Slot) (rest : Words) → IsSlot draft front next → words ≡ front ++ rest → slot draft found words ≡ Ok (next, rest)
    → slots draft (suc room) found words ≡ slots draft room (found ++ next ∷ []) rest
unfolding slots
slots_next draft room found front [] next rest said spelled e = absurd (let h : [] ≡ said.port ∷ said.count ∷ said.test ++ rest = spelled ∙ ap (λ (v : Words). v ++ rest) said.spelled in cc)
slots_next draft room found front (w ∷ words) next rest said spelled e = rw e refl

pub slots_read : (draft : Declared) (room : ℕ) (found more : List Slot) (words : Words) → IsSlots draft found more words → length more ≤ room → slots draft room found words ≡ Ok (found ++ more)
unfolding slots
slots_read draft room found [] words said few = rw (said, append-nil found) refl
slots_read draft zero found (s ∷ more) words said few = absurd (omega arith)
slots_read draft (suc room) found (s ∷ more) words said few =
    let one = slot_read draft found said.0 s said.1 said.3 said.4 in
    let here : slot draft found words ≡ Ok (s, said.1) = ap (slot draft found) said.2 ∙ one in
    slots_next draft room found said.0 words s said.1 said.3 said.2 here
    ∙ slots_read draft room (found ++ s ∷ []) more said.1 said.5 (omega arith) ∙ ap (λ (v : List Slot). Ok v) (append_assoc found (s ∷ []) more)

-- one port more
pub new_port_said : (draft : Declared) (found : List ℕ) (words : Words) (x : ℕ × Words) → new_port draft found words ≡ Ok x
    → (word : List ℕ) × (words ≡ word ∷ x.1) × IsPort draft word x.0 × (has_number found x.0 ≡ false)
unfolding new_port
new_port_said draft found words x e =
    let to = bind_ok (port draft words) (λ next. unless (not (has_number found next.0)) 8 >>= λ apart. Ok next) x e in
    let apart = bind_ok (unless (not (has_number found to.0.0)) 8) (λ apart. Ok to.0) x to.2 in
    let said = port_said draft words to.0 to.1 in
    subst (λ (y : ℕ × Words). (word : List ℕ) × (words ≡ word ∷ y.1) × IsPort draft word y.0 × (has_number found y.0 ≡ false)) (ok_is to.0 x apart.2)
    (said.0, said.1, said.2, not_true _ (unless_ok _ 8 apart.0 apart.1))

pub new_port_read : (draft : Declared) (found : List ℕ) (word : List ℕ) (n : ℕ) (rest : Words) → IsPort draft word n → has_number found n ≡ false → new_port draft found (word ∷ rest) ≡ Ok (n, rest)
unfolding new_port
new_port_read draft found word n rest said apart = rw (port_read draft word n rest said, apart) refl

-- take and its slots
taken_said : (draft : Declared) (words : Words) (p : Pattern) → taken draft words ≡ Ok p → (all : List Slot) × (p ≡ patterns.Slots all) × IsSlots draft [] all words × (1 ≤ length all) × (length all ≤ 8)
unfolding taken
taken_said draft words p e =
    let first = bind_ok (slot draft [] words) (λ first. slots draft 7 (first.0 ∷ []) first.1 >>= λ all. Ok (patterns.Slots all)) p e in
    let all = bind_ok (slots draft 7 (first.0.0 ∷ []) first.0.1) (λ all. Ok (patterns.Slots all)) p first.2 in
    let one = slot_said draft [] words first.0 first.1 in
    let more = slots_said draft 7 (first.0.0 ∷ []) first.0.1 all.0 all.1 in
    let said : IsSlots draft [] (first.0.0 ∷ more.0) words = (one.0, first.0.1, one.1, one.2, one.3, more.2) in
    (first.0.0 ∷ more.0, sym (ok_is (patterns.Slots all.0) p all.2) ∙ ap patterns.Slots more.1, said, omega arith, omega (arith, more.3))

taken_read : (draft : Declared) (words : Words) (all : List Slot) → IsSlots draft [] all words → 1 ≤ length all → length all ≤ 8 → taken draft words ≡ Ok (patterns.Slots all)
unfolding taken
taken_read draft words [] said some few = absurd (omega arith)
taken_read draft words (s ∷ more) said some few =
    let here : slot draft [] words ≡ Ok (s, said.1) = ap (slot draft []) said.2 ∙ slot_read draft [] said.0 s said.1 said.3 said.4 in
    rw (here, slots_read draft 7 (s ∷ []) more said.1 said.5 (omega arith)) refl

-- gather and its ports
gathered_said : (draft : Declared) (words : Words) (p : Pattern) → gathered draft words ≡ Ok p
    → (total first second : ℕ) × (p ≡ patterns.Gather total first second) × IsGather draft words total first second
unfolding gathered
gathered_said draft words p e =
    let total = bind_ok (number_within 1 1000 words) _ p e in
    let first = bind_ok (port draft total.0.1) _ p total.2 in
    let second = bind_ok (new_port draft (first.0.0 ∷ []) first.0.1) _ p first.2 in
    let none = bind_ok (no_more second.0.1) _ p second.2 in
    let counted = within_said 1 1000 words total.0 total.1 in
    let one = port_said draft total.0.1 first.0 first.1 in
    let other = new_port_said draft (first.0.0 ∷ []) first.0.1 second.0 second.1 in (
      total.0.0,
      first.0.0,
      second.0.0,
      sym (ok_is (patterns.Gather total.0.0 first.0.0 second.0.0) p none.2),
      record {
        count = counted.0;
        one = one.0;
        other = other.0;
        spelled = counted.1 ∙ ap (λ (v : Words). counted.0 ∷ v) (one.1 ∙ ap (λ (v : Words). one.0 ∷ v) (other.1 ∙ ap (λ (v : Words). other.0 ∷ v) (no_more_ok second.0.1 none.0 none.1)));
        counted = counted.2;
        refers = one.2;
        other_refers = other.2;
        apart = not_either (first.0.0 == second.0.0) other.3;
      },
    )
  where
    not_either : (b : Bool) → list_any (λ (t : Bool). t) (b ∷ []) ≡ false → b ≡ false
    not_either true h = absurd cc
    not_either false h = refl

gathered_read : (draft : Declared) (words : Words) (total first second : ℕ) → IsGather draft words total first second → gathered draft words ≡ Ok (patterns.Gather total first second)
unfolding gathered
gathered_read draft words total first second said =
    let apart : has_number (first ∷ []) second ≡ false = rw said.apart refl in
    rw (said.spelled, within_read 1 1000 said.count total (said.one ∷ said.other ∷ []) said.counted, port_read draft said.one first (said.other ∷ []) said.refers, new_port_read draft (first ∷ []) said.other second [] said.other_refers apart) refl

-- PATTERN
pub pattern_said : (draft : Declared) (words : Words) (p : Pattern) → pattern draft words ≡ Ok p → IsPattern draft words p
unfolding pattern
pattern_said draft [] p e = absurd cc
pattern_said draft (w ∷ words) p e = elim (chosen (bytes_eq w (codes "take")) (taken draft words) _ (Ok p) e) [
  | inl here ↦
      let said = taken_said draft words p here.1 in
      subst (IsPattern draft (w ∷ words)) (sym said.1) (words, ap (λ (v : List ℕ). v ∷ words) (same_word w (codes "take") here.0), said.2, said.3, said.4)
  | inr other1 ↦ elim (chosen (bytes_eq w (codes "gather")) (gathered draft words) _ (Ok p) other1.1) [
    | inl here ↦
        let said = gathered_said draft words p here.1 in
        subst (IsPattern draft (w ∷ words)) (sym said.3) (words, ap (λ (v : List ℕ). v ∷ words) (same_word w (codes "gather") here.0), said.4)
    | inr other2 ↦ absurd (let h : Err 3 ≡ Ok p = other2.1 in cc)
  ]
]

pub pattern_read : (draft : Declared) (words : Words) (p : Pattern) → IsPattern draft words p → pattern draft words ≡ Ok p
unfolding pattern
pattern_read draft words (patterns.Slots all) said = rw (said.1, taken_read draft said.0 all said.2 said.3 said.4) refl
pattern_read draft words (patterns.Gather total first second) said = rw (said.1, gathered_read draft said.0 total first second said.2) refl

-- further members of a set
members_said : (draft : Declared) (room : ℕ) (found : List ℕ) (words : Words) (all : List ℕ) → members draft room found words ≡ Ok all
    → (more : List ℕ) × (all ≡ found ++ more) × ArePorts draft found more words × (length more ≤ room)
unfolding members
members_said draft room found [] all e = ([], sym (ok_is found all e) ∙ sym (append-nil found), refl, omega arith)
members_said draft zero found (w ∷ words) all e = absurd cc
members_said draft (suc room) found (w ∷ words) all e =
    let next = bind_ok (new_port draft found (w ∷ words)) (λ next. members draft room (found ++ next.0 ∷ []) next.1) all e in
    let one = new_port_said draft found (w ∷ words) next.0 next.1 in
    let rest = members_said draft room (found ++ next.0.0 ∷ []) next.0.1 all next.2 in
    (next.0.0 ∷ rest.0, rest.1 ∙ append_assoc found (next.0.0 ∷ []) rest.0, (one.0, next.0.1, one.1, one.2, one.3, rest.2), omega (arith, rest.3))

members_read : (draft : Declared) (room : ℕ) (found more : List ℕ) (words : Words) → ArePorts draft found more words → length more ≤ room → members draft room found words ≡ Ok (found ++ more)
unfolding members
members_read draft room found [] words said few = rw (said, append-nil found) refl
members_read draft zero found (n ∷ more) words said few = absurd (omega arith)
members_read draft (suc room) found (n ∷ more) words said few =
    rw (said.2, new_port_read draft found said.0 n said.1 said.3 said.4, members_read draft room (found ++ n ∷ []) more said.1 said.5 (omega arith), append_assoc found (n ∷ []) more) refl

-- the members of a set
pub all_members_said : (draft : Declared) (words : Words) (all : List ℕ) → all_members draft words ≡ Ok all → ArePorts draft [] all words × (1 ≤ length all) × (length all ≤ 8)
unfolding all_members
all_members_said draft words all e =
    let first = bind_ok (port draft words) (λ first. members draft 7 (first.0 ∷ []) first.1) all e in
    let one = port_said draft words first.0 first.1 in
    let more = members_said draft 7 (first.0.0 ∷ []) first.0.1 all first.2 in
    let said : ArePorts draft [] (first.0.0 ∷ more.0) words = (one.0, first.0.1, one.1, one.2, refl, more.2) in
    subst (λ (v : List ℕ). ArePorts draft [] v words × (1 ≤ length v) × (length v ≤ 8)) (sym more.1) (said, omega arith, omega (arith, more.3))

pub all_members_read : (draft : Declared) (words : Words) (all : List ℕ) → ArePorts draft [] all words → 1 ≤ length all → length all ≤ 8 → all_members draft words ≡ Ok all
unfolding all_members
all_members_read draft words [] said some few = absurd (omega arith)
all_members_read draft words (n ∷ more) said some few =
    rw (said.2, port_read draft said.0 n said.1 said.3, members_read draft 7 (n ∷ []) more said.1 said.5 (omega arith)) refl

-- one Interleave more
new_member_said : (draft : Declared) (found : List ℕ) (words : Words) (x : ℕ × Words) → new_member draft found words ≡ Ok x
    → (word : List ℕ) × (words ≡ word ∷ x.1) × IsInterleave draft word x.0 × (is_combined draft.parts.domains x.0 ≡ false) × (has_number found x.0 ≡ false)
unfolding new_member
new_member_said draft found words x e =
    let to = bind_ok (interleave draft words) (λ next. unless (not (is_combined draft.parts.domains next.0 || has_number found next.0)) 8 >>= λ apart. Ok next) x e in
    let apart = bind_ok (unless (not (is_combined draft.parts.domains to.0.0 || has_number found to.0.0)) 8) (λ apart. Ok to.0) x to.2 in
    let said = interleave_said draft words to.0 to.1 in
    let new = neither (is_combined draft.parts.domains to.0.0) (has_number found to.0.0) (not_true _ (unless_ok _ 8 apart.0 apart.1)) in
    subst (λ (y : ℕ × Words). (word : List ℕ) × (words ≡ word ∷ y.1) × IsInterleave draft word y.0 × (is_combined draft.parts.domains y.0 ≡ false) × (has_number found y.0 ≡ false)) (ok_is to.0 x apart.2)
    (said.0, said.1, said.2, new.0, new.1)

new_member_read : (draft : Declared) (found : List ℕ) (word : List ℕ) (n : ℕ) (rest : Words) → IsInterleave draft word n → is_combined draft.parts.domains n ≡ false → has_number found n ≡ false
    → new_member draft found (word ∷ rest) ≡ Ok (n, rest)
unfolding new_member
new_member_read draft found word n rest said free new = rw (interleave_read draft word n rest said, free, new) refl

-- further Interleaves
further_said : (draft : Declared) (room : ℕ) (found : List ℕ) (words : Words) (all : List ℕ) → further draft room found words ≡ Ok all
    → (more : List ℕ) × (all ≡ found ++ more) × AreInterleaves draft found more words × (length more ≤ room)
unfolding further
further_said draft room found [] all e = ([], sym (ok_is found all e) ∙ sym (append-nil found), refl, omega arith)
further_said draft zero found (w ∷ words) all e = absurd cc
further_said draft (suc room) found (w ∷ words) all e =
    let next = bind_ok (new_member draft found (w ∷ words)) (λ next. further draft room (found ++ next.0 ∷ []) next.1) all e in
    let one = new_member_said draft found (w ∷ words) next.0 next.1 in
    let rest = further_said draft room (found ++ next.0.0 ∷ []) next.0.1 all next.2 in
    (next.0.0 ∷ rest.0, rest.1 ∙ append_assoc found (next.0.0 ∷ []) rest.0, (one.0, next.0.1, one.1, one.2, one.3, one.4, rest.2), omega (arith, rest.3))

further_read : (draft : Declared) (room : ℕ) (found more : List ℕ) (words : Words) → AreInterleaves draft found more words → length more ≤ room → further draft room found words ≡ Ok (found ++ more)
unfolding further
further_read draft room found [] words said few = rw (said, append-nil found) refl
further_read draft zero found (n ∷ more) words said few = absurd (omega arith)
further_read draft (suc room) found (n ∷ more) words said few =
    rw (said.2, new_member_read draft found said.0 n said.1 said.3 said.4 said.5, further_read draft room (found ++ n ∷ []) more said.1 said.6 (omega arith), append_assoc found (n ∷ []) more) refl

-- combined Interleaves
pub combined_said : (draft : Declared) (words : Words) (all : List ℕ) → combined draft words ≡ Ok all → AreInterleaves draft [] all words × (2 ≤ length all) × (length all ≤ 8)
unfolding combined
combined_said draft words all e =
    let first = bind_ok (new_member draft [] words) (λ first. new_member draft (first.0 ∷ []) first.1 >>= λ second. further draft 6 (first.0 ∷ second.0 ∷ []) second.1) all e in
    let second = bind_ok (new_member draft (first.0.0 ∷ []) first.0.1) (λ second. further draft 6 (first.0.0 ∷ second.0 ∷ []) second.1) all first.2 in
    let one = new_member_said draft [] words first.0 first.1 in
    let two = new_member_said draft (first.0.0 ∷ []) first.0.1 second.0 second.1 in
    let more = further_said draft 6 (first.0.0 ∷ second.0.0 ∷ []) second.0.1 all second.2 in
    let behind : AreInterleaves draft (first.0.0 ∷ []) (second.0.0 ∷ more.0) first.0.1 = (two.0, second.0.1, two.1, two.2, two.3, two.4, more.2) in
    let said : AreInterleaves draft [] (first.0.0 ∷ second.0.0 ∷ more.0) words = (one.0, first.0.1, one.1, one.2, one.3, one.4, behind) in
    subst (λ (v : List ℕ). AreInterleaves draft [] v words × (2 ≤ length v) × (length v ≤ 8)) (sym more.1) (said, omega arith, omega (arith, more.3))

pub combined_read : (draft : Declared) (words : Words) (all : List ℕ) → AreInterleaves draft [] all words → 2 ≤ length all → length all ≤ 8 → combined draft words ≡ Ok all
unfolding combined
combined_read draft words [] said some few = absurd (omega arith)
combined_read draft words (n ∷ []) said some few = absurd (omega arith)
combined_read draft words (n ∷ m ∷ more) said some few =
    let next = said.6 in
    let first : new_member draft [] words ≡ Ok (n, said.1) = ap (new_member draft []) said.2 ∙ new_member_read draft [] said.0 n said.1 said.3 said.4 said.5 in
    let second : new_member draft (n ∷ []) said.1 ≡ Ok (m, next.1) = ap (new_member draft (n ∷ [])) next.2 ∙ new_member_read draft (n ∷ []) next.0 m next.1 next.3 next.4 next.5 in
    rw (first, second, further_read draft 6 (n ∷ m ∷ []) more next.1 next.6 (omega arith)) refl

-- the causes of a post
pub causes_said : (names : Naming) (found : List ℕ) (words : Words) (all : List ℕ) → causes names found words ≡ Ok all
    → (more : List ℕ) × (all ≡ found ++ more) × AreCauses names found more words
unfolding causes
causes_said names found [] all e = ([], sym (ok_is found all e) ∙ sym (append-nil found), refl)
causes_said names found (w ∷ words) all e =
    let cause = bind_ok (or_code (option_and_then as_cause (meaning_of names w)) 7) (λ cause. unless (not (has_number found cause)) 8 >>= λ apart. causes names (found ++ cause ∷ []) words) all e in
    let apart = bind_ok (unless (not (has_number found cause.0)) 8) (λ apart. causes names (found ++ cause.0 ∷ []) words) all cause.2 in
    let rest = causes_said names (found ++ cause.0 ∷ []) words all apart.2 in (
      cause.0 ∷ rest.0,
      rest.1 ∙ append_assoc found (cause.0 ∷ []) rest.0,
      (w, words, refl, or_code_ok _ 7 cause.0 cause.1, not_true _ (unless_ok _ 8 apart.0 apart.1), rest.2),
    )

pub causes_read : (names : Naming) (found more : List ℕ) (words : Words) → AreCauses names found more words → causes names found words ≡ Ok (found ++ more)
unfolding causes
causes_read names found [] words said = rw (said, append-nil found) refl
causes_read names found (n ∷ more) words said =
    rw (said.2, said.3, said.4, causes_read names (found ++ n ∷ []) more said.1 said.5, append_assoc found (n ∷ []) more) refl
