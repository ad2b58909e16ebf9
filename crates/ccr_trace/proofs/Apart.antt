-- In a valid wiring no two ports share a name, nor two causes, nor two branches.
use Rattle.std.proofs.Common.{◌≡◌, ℕ, ◌+◌, Bool, true, false, cond, List, [], ◌∷◌, ◌++◌, map, flat_map, length, refl, sym, ap, ◌∙◌, length-append, append_assoc, arith}
use Rattle.std.specs.Prelude.{◌&&◌, ◌==◌, not}
use Rattle.std.specs.List.{list_any}
use Rattle.std.specs.Str.{bytes_eq}
use Rattle.std.proofs.lemmas.Bool.Decides.{nat_tests}
use Rattle.std.proofs.lemmas.List.{length-map}
use Rattle.std.proofs.lemmas.List.Concat.{flat_map-cons}
use Rattle.std.proofs.lemmas.Slice.Eq.{bytes_eq-Decides}
use Rattle.ccr_wiring.specs.declared.parts.ArbiterPart.{ArbiterPart}
use Rattle.ccr_wiring.specs.declared.parts.BranchPart.{BranchPart}
use Rattle.ccr_wiring.specs.declared.parts.Parts.{Parts}
use Rattle.ccr_wiring.specs.Groups.{is_receive, is_one_named, is_misgrouped, has_strange_group, has_scripted}
use Rattle.ccr_wiring.specs.Names.{queue_names, set_names, cause_names as names_of_causes, handler_names, poster_names, arbiter_names, declared_names, has_name, has_repeated}
use Rattle.ccr_text.specs.Words.{is_name_of}
use Rattle.ccr_wiring.specs.Valid.{IsValid}
use Rattle.ccr_wiring.specs.Wirings.{Placement, placements_of, placements_from, placements, in_domain}
use Rattle.ccr_wiring.proofs.RepeatedNames.{apart_left}
use Rattle.ccr_wiring.proofs.Validity.{no_codes}
use Rattle.ccr_trace.specs.Words.{branch_names, branch_names_of, cause_names}
use Rattle.std.proofs.lemmas.Bool.{and_parts as both, or_parts as neither}
use Rattle.ccr_base.proofs.Booleans.{not_refuted}
use Rattle.ccr_base.proofs.Lists.{none_of_both, any_parts}

lacks_left : (xs ys : List (List ℕ)) (name : List ℕ) → has_name (xs ++ ys) name ≡ false → has_name xs name ≡ false
lacks_left xs ys name e = (any_parts (λ other. bytes_eq other name) xs ys e).0

lacks_right : (xs ys : List (List ℕ)) (name : List ℕ) → has_name (xs ++ ys) name ≡ false → has_name ys name ≡ false
lacks_right xs ys name e = (any_parts (λ other. bytes_eq other name) xs ys e).1

lacks_both : (xs ys : List (List ℕ)) (name : List ℕ) → has_name xs name ≡ false → has_name ys name ≡ false → has_name (xs ++ ys) name ≡ false
lacks_both xs ys name e f = none_of_both (λ other. bytes_eq other name) xs ys e f

apart_right : (xs ys : List (List ℕ)) → has_repeated (xs ++ ys) ≡ false → has_repeated ys ≡ false
apart_right [] ys e = e
apart_right (x ∷ xs) ys e = apart_right xs ys (neither (has_name (xs ++ ys) x) (has_repeated (xs ++ ys)) e).1

pub ports_apart : (parts : Parts) → IsValid parts → has_repeated parts.ports ≡ false
ports_apart parts valid =
    let q = queue_names parts.queues in
    let s = set_names parts.sets in
    let c = names_of_causes parts.causes in
    let h = handler_names parts.handlers in
    let a = flat_map arbiter_names parts.arbiters in
    let p = poster_names parts.posters in
    apart_right q parts.ports
    (apart_left (q ++ parts.ports) s
    (apart_left (q ++ parts.ports ++ s) c
    (apart_left (q ++ parts.ports ++ s ++ c) h
    (apart_left (q ++ parts.ports ++ s ++ c ++ h) a
    (apart_left (q ++ parts.ports ++ s ++ c ++ h ++ a) p (no_codes parts valid).names)))))

pub causes_apart : (parts : Parts) → IsValid parts → has_repeated (cause_names parts) ≡ false
causes_apart parts valid =
    let q = queue_names parts.queues in
    let s = set_names parts.sets in
    let c = names_of_causes parts.causes in
    let h = handler_names parts.handlers in
    let a = flat_map arbiter_names parts.arbiters in
    let p = poster_names parts.posters in
    apart_right (q ++ parts.ports ++ s) c
    (apart_left (q ++ parts.ports ++ s ++ c) h
    (apart_left (q ++ parts.ports ++ s ++ c ++ h) a
    (apart_left (q ++ parts.ports ++ s ++ c ++ h ++ a) p (no_codes parts valid).names)))

arbiters_apart : (parts : Parts) → IsValid parts → has_repeated (flat_map arbiter_names parts.arbiters) ≡ false
arbiters_apart parts valid =
    let q = queue_names parts.queues in
    let s = set_names parts.sets in
    let c = names_of_causes parts.causes in
    let h = handler_names parts.handlers in
    let a = flat_map arbiter_names parts.arbiters in
    let p = poster_names parts.posters in
    apart_right (q ++ parts.ports ++ s ++ c ++ h) a
    (apart_left (q ++ parts.ports ++ s ++ c ++ h ++ a) p (no_codes parts valid).names)

-- behind the same names, others of which each is one of those
apart_behind : (xs more fewer : List (List ℕ)) → ((name : List ℕ) → has_name more name ≡ false → has_name fewer name ≡ false) → (has_repeated more ≡ false → has_repeated fewer ≡ false)
    → has_repeated (xs ++ more) ≡ false → has_repeated (xs ++ fewer) ≡ false
apart_behind [] more fewer lacks apart e = apart e
apart_behind (x ∷ xs) more fewer lacks apart e =
    let parts = neither (has_name (xs ++ more) x) (has_repeated (xs ++ more)) e in
    rw (lacks_both xs fewer x (lacks_left xs more x parts.0) (lacks x (lacks_right xs more x parts.0)), apart_behind xs more fewer lacks apart parts.1) refl

-- an arbiter's names are its branches' names, or its own name before these
abbrev NamesItsBranches : ArbiterPart → Type 0
NamesItsBranches arbiter = (front : List (List ℕ)) × (arbiter_names arbiter ≡ front ++ branch_names_of arbiter)

one_named : (name : List ℕ) (branches : List BranchPart) → is_one_named name branches ≡ true → map (λ (part : BranchPart). part.name) branches ≡ name ∷ []
one_named name [] e = absurd cc
one_named name (branch ∷ []) e =
    let parts = both (length {A = BranchPart} [] == 0) (bytes_eq branch.name name) e in
    ap (λ (v : List ℕ). v ∷ []) ((bytes_eq-Decides branch.name name).0 parts.1)
one_named name (branch ∷ next ∷ others) e =
    let parts = both (length (next ∷ others) == 0) (bytes_eq branch.name name) e in
    absurd (grind (arith, nat_tests, parts.0))

named_by : (name : List ℕ) (branches : List BranchPart) (receive : Bool) → (receive && not (is_one_named name branches)) ≡ false
    → (front : List (List ℕ)) × ((name ∷ cond receive [] (map (λ (part : BranchPart). part.name) branches)) ≡ front ++ map (λ (part : BranchPart). part.name) branches)
named_by name branches true e = ([], sym (one_named name branches (not_refuted (is_one_named name branches) e)))
named_by name branches false e = (name ∷ [], refl)

named : (arbiter : ArbiterPart) → is_misgrouped arbiter ≡ false → NamesItsBranches arbiter
named arbiter e = named_by arbiter.name arbiter.branches (is_receive arbiter.kind) (neither (has_strange_group arbiter) (is_receive arbiter.kind && not (is_one_named arbiter.name arbiter.branches)) e).1

-- what no name of an arbiter or a branch passes, no branch's name passes
none_passes : (test : List ℕ → Bool) (arbiters : List ArbiterPart) → list_any is_misgrouped arbiters ≡ false → list_any test (flat_map arbiter_names arbiters) ≡ false → list_any test (flat_map branch_names_of arbiters) ≡ false
none_passes test [] grouped e = refl
none_passes test (arbiter ∷ arbiters) grouped e =
    let parts = neither (is_misgrouped arbiter) (list_any is_misgrouped arbiters) grouped in
    let front = named arbiter parts.0 in
    let whole : list_any test (arbiter_names arbiter ++ flat_map arbiter_names arbiters) ≡ false = ap (list_any test) (sym (flat_map-cons arbiter_names arbiter arbiters)) ∙ e in
    let here : list_any test (front.0 ++ branch_names_of arbiter) ≡ false = ap (list_any test) (sym front.1) ∙ (any_parts test (arbiter_names arbiter) (flat_map arbiter_names arbiters) whole).0 in
    let later = none_passes test arbiters parts.1 (any_parts test (arbiter_names arbiter) (flat_map arbiter_names arbiters) whole).1 in
    ap (list_any test) (flat_map-cons branch_names_of arbiter arbiters) ∙ none_of_both test (branch_names_of arbiter) (flat_map branch_names_of arbiters) (any_parts test front.0 (branch_names_of arbiter) here).1 later

apart : (arbiters : List ArbiterPart) → list_any is_misgrouped arbiters ≡ false → has_repeated (flat_map arbiter_names arbiters) ≡ false → has_repeated (flat_map branch_names_of arbiters) ≡ false
apart [] grouped e = refl
apart (arbiter ∷ arbiters) grouped e =
    let parts = neither (is_misgrouped arbiter) (list_any is_misgrouped arbiters) grouped in
    let front = named arbiter parts.0 in
    let more = flat_map arbiter_names arbiters in
    let whole : has_repeated ((front.0 ++ branch_names_of arbiter) ++ more) ≡ false = ap (λ names. has_repeated (names ++ more)) (sym front.1) ∙ (ap has_repeated (sym (flat_map-cons arbiter_names arbiter arbiters)) ∙ e) in
    let kept : has_repeated ((front.0 ++ branch_names_of arbiter) ++ flat_map branch_names_of arbiters) ≡ false = apart_behind (front.0 ++ branch_names_of arbiter) more (flat_map branch_names_of arbiters) (λ name. none_passes (λ other. bytes_eq other name) arbiters parts.1) (apart arbiters parts.1) whole in
    ap has_repeated (flat_map-cons branch_names_of arbiter arbiters) ∙ apart_right front.0 (branch_names_of arbiter ++ flat_map branch_names_of arbiters) (ap has_repeated (sym (append_assoc front.0 (branch_names_of arbiter) (flat_map branch_names_of arbiters))) ∙ kept)

pub branches_apart : (parts : Parts) → IsValid parts → has_repeated (branch_names parts) ≡ false
branches_apart parts valid = apart parts.arbiters (neither (list_any is_misgrouped parts.arbiters) (has_scripted parts) (no_codes parts valid).groups).0 (arbiters_apart parts valid)

counted : (number : ℕ) (arbiters : List ArbiterPart) → length (flat_map branch_names_of arbiters) ≡ length (placements_from number arbiters)
counted number [] = refl
counted number (arbiter ∷ arbiters) =
    let more = counted (number + 1) arbiters in
    let with_placement : length (placements_of number arbiter) ≡ length arbiter.branches = length-map {B = Placement} arbiter.branches _ in
    ap length (flat_map-cons branch_names_of arbiter arbiters)
    ∙ omega (arith, more, length-append (branch_names_of arbiter) (flat_map branch_names_of arbiters), length-append (placements_of number arbiter) (placements_from (number + 1) arbiters), length-map arbiter.branches (λ (part : BranchPart). part.name), with_placement)

-- a name for each branch
pub length-branch_names : (parts : Parts) → length (branch_names parts) ≡ length (placements parts)
length-branch_names parts = counted 0 parts.arbiters ∙ sym (length-map (placements_from 0 parts.arbiters) (in_domain parts.domains))

formed : (parts : Parts) → IsValid parts → list_any (λ name. not (is_name_of name)) (declared_names parts) ≡ false
formed parts valid = (no_codes parts valid).forms

-- the ports, the causes and the branches have names of the form of names
pub record AreFormed (parts : Parts) : Type 0 where
  pub ports : list_any (λ name. not (is_name_of name)) parts.ports ≡ false
  pub causes : list_any (λ name. not (is_name_of name)) (cause_names parts) ≡ false
  pub branches : list_any (λ name. not (is_name_of name)) (branch_names parts) ≡ false

pub are_formed : (parts : Parts) → IsValid parts → AreFormed parts
are_formed parts valid =
    let q = queue_names parts.queues in
    let s = set_names parts.sets in
    let c = names_of_causes parts.causes in
    let h = handler_names parts.handlers in
    let a = flat_map arbiter_names parts.arbiters in
    let p = poster_names parts.posters in
    let test : List ℕ → Bool = λ name. not (is_name_of name) in
    let five = (any_parts test (q ++ parts.ports ++ s ++ c ++ h ++ a) p (formed parts valid)).0 in
    let last = any_parts test (q ++ parts.ports ++ s ++ c ++ h) a five in
    let three = (any_parts test (q ++ parts.ports ++ s ++ c) h last.0).0 in
    let caused = any_parts test (q ++ parts.ports ++ s) c three in
    let one = (any_parts test (q ++ parts.ports) s caused.0).0 in
    record {
      ports = (any_parts test q parts.ports one).1;
      causes = caused.1;
      branches = none_passes test parts.arbiters (neither (list_any is_misgrouped parts.arbiters) (has_scripted parts) (no_codes parts valid).groups).0 last.1;
    }
