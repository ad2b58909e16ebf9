-- The canonical lines of combined Interleaves.
use Rattle.std.proofs.Common.{◌≡◌, ℕ, zero, suc, ◌+◌, ◌<◌, ◌≤◌, true, false, List, [], ◌∷◌, ◌++◌, length, map, Option, Some, None, refl, sym, ap, subst, ◌∙◌, arith, append_assoc}
use Rattle.std.specs.Prelude.{◌==◌, not, codes}
use Rattle.std.specs.List.{slice_get}
use Rattle.std.specs.Option.{option_map_or}
use Rattle.std.proofs.lemmas.List.Concat.{flat_map-append}
use Rattle.std.proofs.lemmas.Option.{slice_get-map}
use Rattle.ccr_base.proofs.Booleans.{not_true, not_refuted}
use Rattle.ccr_text.specs.Spelling.{AreWords}
use Rattle.ccr_wiring.specs.declared.parts.Parts.{Parts}
use Rattle.ccr_wiring.specs.declared.parts.ArbiterPart.{ArbiterPart}
use Rattle.ccr_wiring.specs.declared.parts.BranchPart.{BranchPart}
use Rattle.ccr_wiring.specs.declared.parts.DomainPart.{DomainPart}
use Rattle.ccr_wiring.specs.declared.parts.Kind.{Kind}
use Rattle.ccr_wiring.specs.declared.parts.Kind.TheVariants as arbiters
use Rattle.ccr_wiring.specs.Groups.{is_interleave}
use Rattle.ccr_wiring.specs.Repeats.{members_in_all}
use Rattle.ccr_wiring.specs.PartNames.{arbiter_name}
use Rattle.ccr_base.proofs.Apart.{not_before}
use Rattle.ccr_wiretext.specs.declared.keyword.Keyword.TheVariants as keywords
use Rattle.ccr_wiretext.specs.declared.named.Named.TheVariants as kinds
use Rattle.ccr_wiretext.specs.Keywords.{keyword}
use Rattle.ccr_wiretext.specs.Names.{Naming, as_arbiter}
use Rattle.ccr_wiretext.specs.Drafts.{Declared, with_domain}
use Rattle.ccr_wiretext.specs.Patterns.{is_combined}
use Rattle.ccr_wiretext.specs.Grammar.{AreInterleaves}
use Rattle.ccr_wiretext.specs.Spelling.{combine_words}
use Rattle.ccr_wiretext.proofs.Each.{both}
use Rattle.ccr_base.specs.Lists.{Each, has_number, are_apart}
use Rattle.ccr_base.proofs.Lists.{any_parts}
use Rattle.ccr_wiretext.proofs.Fit.{InterleaveFit, DomainFit}
use Rattle.ccr_wiretext.proofs.Round.Leads.{outside, IsStep, Leads, walk_lines, room_before, each_at}
use Rattle.ccr_wiretext.proofs.Round.Namings.{Good, IsKnown, names_of, named_at, is_new}
use Rattle.ccr_wiretext.proofs.Round.Terms.{word_more, name_word}
use Rattle.ccr_wiretext.proofs.Round.Firing.{branch_entries, arbiter_entries}
use Rattle.ccr_wiretext.proofs.Round.Arbiters.{firing_entries}

-- ---- the names of Interleaves

block_entries : (number : ℕ) (name : List ℕ) (kind : Kind) (branches : List BranchPart) → is_interleave kind ≡ true
    → arbiter_entries number (record { name = name; kind = kind; branches = branches }) ≡ (name, kinds.Arbiter number) ∷ branch_entries branches
block_entries number name arbiters.Receive branches is = absurd cc
block_entries number name arbiters.Choice branches is = absurd cc
block_entries number name arbiters.Interleave branches is = refl

-- an Interleave's name behind others, before others
known_here : (front : Naming) (number : ℕ) (name : List ℕ) (more : Naming) → Good (names_of (front ++ (name, kinds.Arbiter number) ∷ more)) → IsKnown as_arbiter (front ++ (name, kinds.Arbiter number) ∷ more) name number
known_here front number name more good =
    let new = is_new front name (kinds.Arbiter number) more good in
    record { formed = new.formed; refers = rw (named_at front name (kinds.Arbiter number) more new.new) refl }

interleave_known : (front : Naming) (start : ℕ) (all : List ArbiterPart) (k : ℕ) (part : ArbiterPart) → slice_get all k ≡ Some part → is_interleave part.kind ≡ true → Good (names_of (front ++ firing_entries start all))
    → IsKnown as_arbiter (front ++ firing_entries start all) part.name (start + k)
interleave_known front start [] k part at is good = absurd cc
interleave_known front start (other ∷ all) zero part at is good =
    let same : other ≡ part = cc in
    let kind : is_interleave other.kind ≡ true = ap (λ (p : ArbiterPart). is_interleave p.kind) same ∙ is in
    let split : arbiter_entries start other ≡ (other.name, kinds.Arbiter start) ∷ branch_entries other.branches = block_entries start other.name other.kind other.branches kind in
    let whole : front ++ firing_entries start (other ∷ all) ≡ front ++ (other.name, kinds.Arbiter start) ∷ (branch_entries other.branches ++ firing_entries (start + 1) all) =
    ap (λ (v : Naming). front ++ (v ++ firing_entries (start + 1) all)) split in
    let counted : start + 0 ≡ start = omega arith in
    let here = known_here front start other.name (branch_entries other.branches ++ firing_entries (start + 1) all) (subst (λ (v : Naming). Good (names_of v)) whole good) in
    rw counted (subst (λ (p : ArbiterPart). IsKnown as_arbiter (front ++ firing_entries start (other ∷ all)) p.name start) same (subst (λ (v : Naming). IsKnown as_arbiter v other.name start) (sym whole) here))
interleave_known front start (other ∷ all) (suc k) part at is good =
    let same : (front ++ arbiter_entries start other) ++ firing_entries (start + 1) all ≡ front ++ firing_entries start (other ∷ all) = append_assoc front (arbiter_entries start other) (firing_entries (start + 1) all) in
    let counted : start + suc k ≡ start + 1 + k = omega arith in
    rw counted (subst (λ (v : Naming). IsKnown as_arbiter v part.name (start + 1 + k)) same
    (interleave_known (front ++ arbiter_entries start other) (start + 1) all k part at is (subst (λ (v : Naming). Good (names_of v)) (sym same) good)))

-- the Interleaves of the parts are declared
abbrev pub KnowsInterleaves : Parts → Naming → Type 0
KnowsInterleaves parts names = (n : ℕ) → InterleaveFit parts.arbiters n → IsKnown as_arbiter names (arbiter_name parts n) n

interleave_at : (found : Option ArbiterPart) → option_map_or (λ (arbiter : ArbiterPart). not (is_interleave arbiter.kind)) found true ≡ false → (part : ArbiterPart) × (found ≡ Some part) × (is_interleave part.kind ≡ true)
interleave_at None fit = absurd cc
interleave_at (Some part) fit = (part, refl, not_refuted (is_interleave part.kind) fit)

pub interleaves_known : (parts : Parts) (front : Naming) → Good (names_of (front ++ firing_entries 0 parts.arbiters)) → KnowsInterleaves parts (front ++ firing_entries 0 parts.arbiters)
interleaves_known parts front good n fit =
    let found = interleave_at (slice_get parts.arbiters n) fit in
    let counted : 0 + n ≡ n = omega arith in
    rw (slice_get-map (λ (part : ArbiterPart). part.name) parts.arbiters n)
    (rw found.1 (subst (λ m. IsKnown as_arbiter (front ++ firing_entries 0 parts.arbiters) found.0.name m) counted (interleave_known front 0 parts.arbiters n found.0 found.1 found.2 good)))

-- ---- lists of Interleaves

all_free : (domains : List DomainPart) (n : ℕ) → has_number (members_in_all domains) n ≡ false → is_combined domains n ≡ false
all_free [] n none = refl
all_free (domain ∷ domains) n none =
    let parts = any_parts (λ other. other == n) domain.members (members_in_all domains) none in
    rw (parts.0, all_free domains n parts.1) refl

interleaves_say : (whole : Parts) (draft : Declared) → KnowsInterleaves whole draft.names → (found members : List ℕ) → Each (InterleaveFit whole.arbiters) members → Each (InterleaveFit draft.parts.arbiters) members
    → are_apart (members_in_all draft.parts.domains ++ (found ++ members)) ≡ true → AreInterleaves draft found members (map (arbiter_name whole) members)
interleaves_say whole draft knows found [] fit there apart = refl
interleaves_say whole draft knows found (n ∷ members) fit there apart =
    let earlier : List ℕ = members_in_all draft.parts.domains in
    let behind : are_apart ((earlier ++ found) ++ n ∷ members) ≡ true = ap are_apart (append_assoc earlier found (n ∷ members)) ∙ apart in
    let none = any_parts (λ other. other == n) earlier found (not_before (earlier ++ found) n members behind) in (
      arbiter_name whole n,
      map (arbiter_name whole) members,
      refl,
      ((knows n fit.0).refers, there.0),
      all_free draft.parts.domains n none.0,
      none.1,
      interleaves_say whole draft knows (found ++ n ∷ []) members fit.1 there.1 (ap (λ all. are_apart (earlier ++ all)) (append_assoc found (n ∷ []) members) ∙ apart),
    )

interleaves_clean : (whole : Parts) (names : Naming) → KnowsInterleaves whole names → (members : List ℕ) → Each (InterleaveFit whole.arbiters) members → AreWords (map (arbiter_name whole) members)
interleaves_clean whole names knows [] fit = tt
interleaves_clean whole names knows (n ∷ members) fit = let word = name_word (arbiter_name whole n) (knows n fit.0).formed in (word.0, word.1, interleaves_clean whole names knows members fit.1)

-- ---- the lines

domain_step : (whole parts : Parts) (names : Naming) (spotted : List ℕ) (part : DomainPart) → KnowsInterleaves whole names → DomainFit whole.arbiters part → DomainFit parts.arbiters part
    → are_apart (members_in_all parts.domains ++ part.members) ≡ true → length parts.domains < 128
    → IsStep (outside parts names spotted) (combine_words whole part) (with_domain (outside parts names spotted) part)
unfolding keyword
domain_step whole parts names spotted part knows fit there apart room = record {
  first = codes "combine";
  others = map (arbiter_name whole) part.members;
  word = keywords.Combine;
  spelled = refl;
  keyed = refl;
  plain = refl;
  clean = word_more (codes "combine") (map (arbiter_name whole) part.members) (refl, refl) (interleaves_clean whole names knows part.members fit.0);
  says = (part, record { room = room; members = interleaves_say whole (outside parts names spotted) knows [] part.members fit.0 there.0 apart; some = fit.1; few = fit.2 }, refl);
}

apart_front : (xs ys : List ℕ) → are_apart (xs ++ ys) ≡ true → are_apart xs ≡ true
apart_front [] ys apart = refl
apart_front (x ∷ xs) ys apart =
    let parts = both (not (has_number (xs ++ ys) x)) (are_apart (xs ++ ys)) apart in
    let none = any_parts (λ other. other == x) xs ys (not_true (has_number (xs ++ ys) x) parts.0) in
    rw (none.0, apart_front xs ys parts.1) refl

-- the members up to the next domain, and its own, are apart
next_apart : (done : List DomainPart) (part : DomainPart) (rest all : List DomainPart) → done ++ part ∷ rest ≡ all → are_apart (members_in_all all) ≡ true → are_apart (members_in_all done ++ part.members) ≡ true
next_apart done part rest all e apart =
    let split : members_in_all all ≡ (members_in_all done ++ part.members) ++ members_in_all rest =
    ap members_in_all (sym e) ∙ flat_map-append (λ (domain : DomainPart). domain.members) done (part ∷ rest) ∙ sym (append_assoc (members_in_all done) part.members (members_in_all rest)) in
    apart_front (members_in_all done ++ part.members) (members_in_all rest) (ap are_apart (sym split) ∙ apart)

pub domains_lead : (whole parts : Parts) (names : Naming) (spotted : List ℕ) (domains : List DomainPart) → KnowsInterleaves whole names → Each (DomainFit whole.arbiters) domains → Each (DomainFit parts.arbiters) domains
    → are_apart (members_in_all domains) ≡ true → length domains ≤ 128
    → Leads (outside (record parts { domains = [] }) names spotted) (map (combine_words whole) domains) (outside (record parts { domains = domains }) names spotted)
domains_lead whole parts names spotted domains knows fit there apart room =
    walk_lines (combine_words whole) (λ done. outside (record parts { domains = done }) names spotted) domains
    (λ done part rest e.
    domain_step whole (record parts { domains = done }) names spotted part knows
    (each_at (DomainFit whole.arbiters) done part rest domains e fit)
    (each_at (DomainFit parts.arbiters) done part rest domains e there)
    (next_apart done part rest domains e apart)
    (room_before 128 done part rest domains e room))
