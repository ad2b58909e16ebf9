-- A set of numbers as a list.
use Rattle.std.proofs.Common.{◌≡◌, ◌∙◌, ℕ, ◌<◌, Bool, true, false, not, ◌&&◌, ◌||◌, List, [], ◌∷◌, BTreeSet, if◌then◌else◌, refl, sym, subst, arith}
use Rattle.std.specs.Prelude.{◌==◌}
use Rattle.std.specs.List.{list_any}
use Rattle.std.specs.Ordering.{nat_cmp}
use Rattle.std.specs.declared.cmp.Ordering.TheVariants.{Less}
use Rattle.std.specs.List.{AllByRecursion}
use Rattle.std.specs.List.Sorted.{IsStrictlySortedBy}
use Rattle.std.specs.BTreeMap.{is_at}
use Rattle.std.specs.BTreeSet as sorted
use Rattle.std.proofs.lemmas.Bool.Decides.{nat_tests}
use Rattle.ccr_base.proofs.Booleans.{or_left, eq-self, above_differs}
use Rattle.ccr_base.specs.Lists.{has_number}
use Rattle.ccr_engine.specs.Ready.{IsLeast, IsLeastFirst}

same_number : (q m : ℕ) → is_at (nat_cmp q) m ≡ (m == q)
same_number q m = grind (arith, nat_tests)

has_any : (q : ℕ) (ks : List ℕ) → list_any (is_at (nat_cmp q)) ks ≡ has_number ks q
has_any q [] = refl
has_any q (k ∷ ks) = rw (same_number q k, has_any q ks) refl

put_in : (b x : Bool) → (if b then true else x) ≡ b || x
put_in true x = refl
put_in false x = refl

taken_out : (b x : Bool) → (if b then false else x) ≡ not b && x
taken_out true x = refl
taken_out false x = refl

pub entered : (s n : BTreeSet ℕ) (k : ℕ) → sorted.Updates nat_cmp s n k true → (q : ℕ) → has_number n.keys q ≡ (q == k) || has_number s.keys q
entered s n k updates q =
    let now : has_number n.keys q ≡ (if is_at (nat_cmp k) q then true else list_any (is_at (nat_cmp q)) s.keys) = sym (has_any q n.keys) ∙ updates.0 q in
    now ∙ rw (same_number k q, has_any q s.keys) (put_in (q == k) (has_number s.keys q))

pub left : (s n : BTreeSet ℕ) (k : ℕ) → sorted.Updates nat_cmp s n k false → (q : ℕ) → has_number n.keys q ≡ not (q == k) && has_number s.keys q
left s n k updates q =
    let now : has_number n.keys q ≡ (if is_at (nat_cmp k) q then false else list_any (is_at (nat_cmp q)) s.keys) = sym (has_any q n.keys) ∙ updates.0 q in
    now ∙ rw (same_number k q, has_any q s.keys) (taken_out (q == k) (has_number s.keys q))

less_than : (x y : ℕ) → nat_cmp x y ≡ Less → x < y
less_than x y is = grind (arith, nat_tests, is)

none_below : (x q : ℕ) (ks : List ℕ) → AllByRecursion (λ y. nat_cmp x y ≡ Less) ks → q < x → has_number ks q ≡ false
none_below x q [] above low = refl
none_below x q (y ∷ ks) above low =
    let here : (y == q) ≡ false = above_differs y q (omega (arith, low, less_than x y above.0)) in
    rw here (none_below x q ks above.1 low)

-- where the numbers ascend the first is the least
pub least_first : (ks : List ℕ) → IsStrictlySortedBy nat_cmp ks → IsLeastFirst ks
unfolding IsStrictlySortedBy
least_first [] ascends n at = absurd (cc)
least_first (x ∷ ks) ascends n at =
    let one : x ≡ n = cc in
    subst (IsLeast (x ∷ ks)) one (record {
      among = or_left (x == x) (has_number ks x) (eq-self x);
      low = λ q less. rw (above_differs x q less) (none_below x q ks ascends.0 less);
    })
