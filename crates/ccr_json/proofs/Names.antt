-- A valid wiring's names are ASCII.
use Rattle.std.proofs.Common.{◌≡◌, ℕ, Bool, true, false, List, [], ◌∷◌, ◌++◌, map, flat_map, length, refl, sym, ◌∙◌, arith}
use Rattle.std.specs.Prelude.{◌&&◌, ◌==◌, not, nat_lt, if◌then◌else◌}
use Rattle.std.specs.List.{list_any, list_all}
use Rattle.std.specs.Char.{is_ascii, is_ascii_alphabetic}
use Rattle.std.specs.Str.{bytes_eq}
use Rattle.std.proofs.lemmas.Bool.Decides.{nat_tests}
use Rattle.std.proofs.lemmas.List.Folds.{list_all-append, list_all-map}
use Rattle.ccr_text.specs.Words.{may_be_in_name, is_name_of}
use Rattle.ccr_wiring.specs.declared.parts.Parts.{Parts}
use Rattle.ccr_wiring.specs.declared.parts.ArbiterPart.{ArbiterPart}
use Rattle.ccr_wiring.specs.declared.parts.BranchPart.{BranchPart}
use Rattle.ccr_wiring.specs.declared.parts.QueuePart.{QueuePart}
use Rattle.ccr_wiring.specs.declared.parts.SetPart.{SetPart}
use Rattle.ccr_wiring.specs.declared.parts.CausePart.{CausePart}
use Rattle.ccr_wiring.specs.declared.parts.HandlerPart.{HandlerPart}
use Rattle.ccr_wiring.specs.declared.parts.PosterPart.{PosterPart}
use Rattle.ccr_wiring.specs.Groups.{is_receive, is_one_named, has_strange_group, is_misgrouped, has_scripted}
use Rattle.ccr_wiring.specs.Names as names
use Rattle.ccr_wiring.specs.Valid.{IsValid}
use Rattle.ccr_wiring.proofs.Lists.{neither}
use Rattle.ccr_wiring.proofs.Validity.{no_codes}
use Rattle.ccr_wiring.specs.SpotWords.{branch_names_of}
use Rattle.ccr_json.specs.Lines.{is_plain}
use Rattle.ccr_json.specs.Names.{is_plain_arbiter, HasPlainNames}
use Rattle.std.proofs.lemmas.Bool.{and_parts as both}
use Rattle.ccr_base.proofs.Booleans.{not_refuted}
use Rattle.ccr_base.proofs.Texts.{same_word}
use Rattle.ccr_base.proofs.Lists.{any_parts, all_weaker}

letters_plain : (others : List ℕ) → list_all may_be_in_name others ≡ true → is_plain others ≡ true
letters_plain others all = all_weaker may_be_in_name is_ascii (λ b is. grind (arith, nat_tests, is)) others all

plain_name : (name : List ℕ) → is_name_of name ≡ true → is_plain name ≡ true
plain_name [] named = absurd cc
plain_name (b ∷ others) named =
    let parts = both (is_ascii_alphabetic b && nat_lt (length others) 16) (list_all may_be_in_name others) named in
    let letter = (both (is_ascii_alphabetic b) (nat_lt (length others) 16) parts.0).0 in
    let small : is_ascii b ≡ true = grind (arith, nat_tests, letter) in
    rw (small, letters_plain others parts.1) refl

all_plain : (given : List (List ℕ)) → names.has_malformed given ≡ false → list_all is_plain given ≡ true
all_plain [] formed = refl
all_plain (name ∷ given) formed =
    let parts = neither (not (is_name_of name)) (names.has_malformed given) formed in
    rw (plain_name name (not_refuted (is_name_of name) parts.0), all_plain given parts.1) refl

-- names of parts
of_parts : {X : Type 0} (f : X → List ℕ) (xs : List X) → names.has_malformed (map f xs) ≡ false → list_all (λ x. is_plain (f x)) xs ≡ true
of_parts f xs formed = sym (list_all-map is_plain f xs) ∙ all_plain (map f xs) formed

halves : (xs ys : List (List ℕ)) → names.has_malformed (xs ++ ys) ≡ false → (names.has_malformed xs ≡ false) × (names.has_malformed ys ≡ false)
halves xs ys formed = any_parts (λ name. not (is_name_of name)) xs ys formed

one_plain : (name : List ℕ) (branches : List BranchPart) → is_plain name ≡ true → is_one_named name branches ≡ true → list_all (λ (branch : BranchPart). is_plain branch.name) branches ≡ true
one_plain name [] plain one = absurd cc
one_plain name (branch ∷ []) plain one = let e = same_word branch.name name one in rw e (rw plain refl)
one_plain name (branch ∷ next ∷ more) plain one = let none = (both (length (next ∷ more) == 0) (bytes_eq branch.name name) one).0 in absurd (grind (arith, nat_tests, none))

arbiter_plain : (arbiter : ArbiterPart) → is_misgrouped arbiter ≡ false → names.has_malformed (names.arbiter_names arbiter) ≡ false → is_plain_arbiter arbiter ≡ true
arbiter_plain arbiter grouped formed = by (is_receive arbiter.kind) (neither (has_strange_group arbiter) (is_receive arbiter.kind && not (is_one_named arbiter.name arbiter.branches)) grouped).1 formed
  where
    by : (r : Bool) → (r && not (is_one_named arbiter.name arbiter.branches)) ≡ false → names.has_malformed (arbiter.name ∷ (if r then [] else names.branch_names arbiter.branches)) ≡ false → is_plain_arbiter arbiter ≡ true
    by true one formed =
        let plain = plain_name arbiter.name (not_refuted (is_name_of arbiter.name) (neither (not (is_name_of arbiter.name)) false formed).0) in
        rw (plain, one_plain arbiter.name arbiter.branches plain (not_refuted _ one)) refl
    by false one formed =
        let parts = neither (not (is_name_of arbiter.name)) (names.has_malformed (names.branch_names arbiter.branches)) formed in
        rw (plain_name arbiter.name (not_refuted _ parts.0), of_parts (λ (branch : BranchPart). branch.name) arbiter.branches parts.1) refl

arbiters_plain : (arbiters : List ArbiterPart) → list_any is_misgrouped arbiters ≡ false → names.has_malformed (flat_map names.arbiter_names arbiters) ≡ false → list_all is_plain_arbiter arbiters ≡ true
arbiters_plain [] grouped formed = refl
arbiters_plain (arbiter ∷ arbiters) grouped formed =
    let groups = neither (is_misgrouped arbiter) (list_any is_misgrouped arbiters) grouped in
    let forms = halves (names.arbiter_names arbiter) (flat_map names.arbiter_names arbiters) formed in
    rw (arbiter_plain arbiter groups.0 forms.0, arbiters_plain arbiters groups.1 forms.1) refl

branches_plain : (arbiters : List ArbiterPart) → list_all is_plain_arbiter arbiters ≡ true → list_all is_plain (flat_map branch_names_of arbiters) ≡ true
branches_plain [] all = refl
branches_plain (arbiter ∷ arbiters) all =
    let parts = both (is_plain_arbiter arbiter) (list_all is_plain_arbiter arbiters) all in
    let first = (both (is_plain arbiter.name) _ parts.0).1 in
    list_all-append is_plain (branch_names_of arbiter) (flat_map branch_names_of arbiters)
    ∙ rw (list_all-map is_plain (λ (branch : BranchPart). branch.name) arbiter.branches, first, branches_plain arbiters parts.1) refl

pub plain_names : (parts : Parts) → IsValid parts → HasPlainNames parts
plain_names parts valid =
    let none = no_codes parts valid in
    let two = names.queue_names parts.queues ++ parts.ports in
    let three = two ++ names.set_names parts.sets in
    let four = three ++ names.cause_names parts.causes in
    let five = four ++ names.handler_names parts.handlers in
    let six = five ++ flat_map names.arbiter_names parts.arbiters in
    let posters = halves six (names.poster_names parts.posters) none.forms in
    let arbiters = halves five (flat_map names.arbiter_names parts.arbiters) posters.0 in
    let handlers = halves four (names.handler_names parts.handlers) arbiters.0 in
    let causes = halves three (names.cause_names parts.causes) handlers.0 in
    let sets = halves two (names.set_names parts.sets) causes.0 in
    let ports = halves (names.queue_names parts.queues) parts.ports sets.0 in
    let all = arbiters_plain parts.arbiters (neither (list_any is_misgrouped parts.arbiters) (has_scripted parts) none.groups).0 arbiters.1 in
    record {
      queues = of_parts (λ (part : QueuePart). part.name) parts.queues ports.0;
      ports = all_plain parts.ports ports.1;
      sets = of_parts (λ (part : SetPart). part.name) parts.sets sets.1;
      causes = of_parts (λ (part : CausePart). part.name) parts.causes causes.1;
      handlers = of_parts (λ (part : HandlerPart). part.name) parts.handlers handlers.1;
      arbiters = all;
      posters = of_parts (λ (part : PosterPart). part.name) parts.posters posters.1;
      branches = branches_plain parts.arbiters all;
    }
