-- Where a wiring's spots stand: each at one index alone, and the sites of a branch behind it.
use Rattle.std.proofs.Common.{◌≡◌, ◌∙◌, ℕ, zero, suc, ◌+◌, ◌<◌, ◌≤◌, Bool, true, false, List, [], ◌∷◌, ◌++◌, length, Option, None, Some, refl, ap, sym, subst, arith}
use Rattle.std.specs.Prelude.{◌==◌, ◌^◌, option_map, option_and_then}
use Rattle.std.specs.List.{slice_get, list_any}
use Rattle.std.specs.Option.{option_map_or}
use Rattle.std.proofs.lemmas.Bool.Decides.{nat_tests}
use Rattle.std.proofs.lemmas.List.Folds.{list_any-append}
use Rattle.std.proofs.lemmas.Option.{slice_get_past}
use Rattle.ccr_base.specs.declared.handlers.Action.{Action}
use Rattle.ccr_base.specs.declared.names.Spot.{Spot}
use Rattle.ccr_base.specs.declared.names.Spot.TheVariants.{Branch, Site}
use Rattle.ccr_base.specs.Names.{same_spot}
use Rattle.ccr_wiring.specs.declared.parts.Parts.{Parts}
use Rattle.ccr_wiring.specs.Wirings.{Placement, placement, placements, site_port, branch_of, awaited, actions_of, sites_from, spots, spots_from, await_port}
use Rattle.ccr_wiring.specs.Valid.{IsValid}
use Rattle.ccr_wiring.proofs.Soundness.{sound}
use Rattle.ccr_base.proofs.Booleans.{and_false, eq-self}
use Rattle.ccr_engine.specs.Indices.{first_index, branch_indices}
use Rattle.ccr_engine.proofs.FirstIndices.{IsOnce, first_never, first_behind, first_within, once_never, once_later, once_here, once_behind}
use Rattle.ccr_engine.proofs.BranchIndices.{indices_append}
use Rattle.ccr_base.proofs.Filters.{length-filter_map}

-- among the sites of a branch none passes that passes at no site of it
sites_never : (test : Spot → Bool) (b j : ℕ) (ports : List ℕ) → ((k : ℕ) → test (Site b k) ≡ false) → list_any test (sites_from b j ports) ≡ false
sites_never test b j [] never = refl
sites_never test b j (port ∷ ports) never = rw (never j) (sites_never test b (j + 1) ports never)

-- among the spots of later branches none passes that passes at the spots of one alone
others_never : (w : Parts) (n : ℕ) (test : Spot → Bool) → ((s : Spot) → (n == branch_of s) ≡ false → test s ≡ false) → (m : ℕ) (ss : List Placement) → n < m → list_any test (spots_from w m ss) ≡ false
others_never w n test alone m [] low = refl
others_never w n test alone m (s ∷ ss) low =
    let differs : (n == m) ≡ false = grind (arith, nat_tests, low) in
    let ports = awaited (actions_of w s.branch.handler) in
    rw (alone (Branch m) differs, list_any-append test (sites_from m 0 ports) (spots_from w (m + 1) ss), sites_never test m 0 ports (λ k. alone (Site m k) differs)) (others_never w n test alone (m + 1) ss (omega (arith, low)))

site_alone : (n k : ℕ) (s : Spot) → (n == branch_of s) ≡ false → same_spot (Site n k) s ≡ false
site_alone n k (Branch b) differs = refl
site_alone n k (Site b j) differs = rw differs refl

-- among a branch's own sites
own_site : (n k j i : ℕ) (ports : List ℕ) (rest : List Spot) → k ≡ j + i → first_index (same_spot (Site n k)) rest ≡ None → first_index (same_spot (Site n k)) (sites_from n j ports ++ rest) ≡ option_map (λ port. i) (slice_get ports i)
own_site n k j i [] rest is none = none
own_site n k j zero (port ∷ ports) rest is none =
    let same : (k == j) ≡ true = grind (arith, nat_tests, is) in
    rw (eq-self n, same) refl
own_site n k j (suc i) (port ∷ ports) rest is none =
    let differs : (k == j) ≡ false = grind (arith, nat_tests, is) in
    rw (differs, and_false (n == n), own_site n k (j + 1) i ports rest (omega (arith, is)) none) (of_option (slice_get ports i))
  where
    of_option : (o : Option ℕ) → option_map suc (option_map (λ port. i) o) ≡ option_map (λ port. suc i) o
    of_option None = refl
    of_option (Some port) = refl

-- the port that the branch awaits at the site
abbrev port_at : Parts → ℕ → Placement → Option ℕ
port_at w k s = slice_get (awaited (actions_of w s.branch.handler)) k

-- so far behind the index of the branch
abbrev behind : ℕ → Option ℕ → Option ℕ → Option ℕ
behind k index port = option_and_then (λ p. option_map (λ i. i + 1 + k) index) port

site_from : (w : Parts) (n k m : ℕ) (ss : List Placement) (d : ℕ) → n ≡ m + d → first_index (same_spot (Site n k)) (spots_from w m ss) ≡ option_and_then (λ (s : Placement). behind k (first_index (same_spot (Branch n)) (spots_from w m ss)) (port_at w k s)) (slice_get ss d)
site_from w n k m [] d is = refl
site_from w n k m (s ∷ ss) zero is =
    let same : m ≡ n = omega (arith, is) in
    let rest = first_never (same_spot (Site n k)) (spots_from w (m + 1) ss) (others_never w n (same_spot (Site n k)) (site_alone n k) (m + 1) ss (omega (arith, is))) in
    let here : (n == m) ≡ true = grind (arith, nat_tests, same) in
    rw (here, ap (λ b. first_index (same_spot (Site n k)) (sites_from b 0 (awaited (actions_of w s.branch.handler)) ++ spots_from w (m + 1) ss)) same, own_site n k 0 k (awaited (actions_of w s.branch.handler)) (spots_from w (m + 1) ss) (omega arith) rest) (of_option (port_at w k s))
  where
    of_option : (o : Option ℕ) → option_map suc (option_map (λ port. k) o) ≡ behind k (Some 0) o
    of_option None = refl
    of_option (Some port) = let e : suc k ≡ 0 + 1 + k = omega arith in ap Some e
site_from w n k m (s ∷ ss) (suc d) is =
    let differs : (n == m) ≡ false = grind (arith, nat_tests, is) in
    let ports = awaited (actions_of w s.branch.handler) in
    let site = first_behind (same_spot (Site n k)) (sites_from m 0 ports) (spots_from w (m + 1) ss) (sites_never (same_spot (Site n k)) m 0 ports (λ j. site_alone n k (Site m j) differs)) in
    let branch = first_behind (same_spot (Branch n)) (sites_from m 0 ports) (spots_from w (m + 1) ss) (sites_never (same_spot (Branch n)) m 0 ports (λ j. refl)) in
    rw (differs, site, branch, site_from w n k (m + 1) ss d (omega (arith, is))) (of_placement (slice_get ss d) (first_index (same_spot (Branch n)) (spots_from w (m + 1) ss)) (length (sites_from m 0 ports)))
  where
    of_place : (o p : Option ℕ) (l : ℕ) → option_map suc (option_map (λ i. l + i) (behind k p o)) ≡ behind k (option_map suc (option_map (λ i. l + i) p)) o
    of_place None p l = refl
    of_place (Some port) None l = refl
    of_place (Some port) (Some i) l = let e : suc (l + (i + 1 + k)) ≡ suc (l + i) + 1 + k = omega arith in ap Some e

    of_placement : (o : Option Placement) (p : Option ℕ) (l : ℕ) → option_map suc (option_map (λ i. l + i) (option_and_then (λ (s : Placement). behind k p (port_at w k s)) o)) ≡ option_and_then (λ (s : Placement). behind k (option_map suc (option_map (λ i. l + i) p)) (port_at w k s)) o
    of_placement None p l = refl
    of_placement (Some s) p l = of_place (port_at w k s) p l

-- a site stands behind its branch, by its number
pub site_index : (w : Parts) (n k : ℕ) → first_index (same_spot (Site n k)) (spots w) ≡ option_and_then (λ port. option_map (λ i. i + 1 + k) (first_index (same_spot (Branch n)) (spots w))) (site_port w n k)
site_index w n k = site_from w n k 0 (placements w) n (omega arith) ∙ of_placement (placement w n)
  where
    of_placement : (o : Option Placement) → option_and_then (λ (s : Placement). behind k (first_index (same_spot (Branch n)) (spots w)) (port_at w k s)) o ≡ option_and_then (λ port. option_map (λ i. i + 1 + k) (first_index (same_spot (Branch n)) (spots w))) (option_map_or (λ (s : Placement). slice_get (awaited (actions_of w s.branch.handler)) k) o None)
    of_placement None = refl
    of_placement (Some s) = refl

-- what is awaited is no more than the actions
pub few_awaited : (actions : List Action) → length (awaited actions) ≤ length actions
few_awaited actions = length-filter_map await_port actions

-- no handler has so many sites
pub no_site : (w : Parts) → IsValid w → (n k : ℕ) → 2 ^ 32 ≤ k → first_index (same_spot (Site n k)) (spots w) ≡ None
no_site w valid n k far = site_index w n k ∙ rw (of_placement (placement w n)) refl
  where
    of_placement : (o : Option Placement) → option_map_or (λ (s : Placement). slice_get (awaited (actions_of w s.branch.handler)) k) o None ≡ None
    of_placement None = refl
    of_placement (Some s) = slice_get_past (awaited (actions_of w s.branch.handler)) k (omega (arith, far, few_awaited (actions_of w s.branch.handler), (sound w valid).few_actions s.branch.handler))

-- a branch's index, by its number
sites_placed : (b j p : ℕ) (ports : List ℕ) → branch_indices p (sites_from b j ports) ≡ []
sites_placed b j p [] = refl
sites_placed b j p (port ∷ ports) = sites_placed b (j + 1) (p + 1) ports

branch_from : (w : Parts) (n m p : ℕ) (ss : List Placement) (d : ℕ) → n ≡ m + d → slice_get (branch_indices p (spots_from w m ss)) d ≡ option_map (λ i. p + i) (first_index (same_spot (Branch n)) (spots_from w m ss))
branch_from w n m p [] d is = refl
branch_from w n m p (s ∷ ss) zero is =
    let same : (n == m) ≡ true = grind (arith, nat_tests, is) in
    let e : p ≡ p + 0 = omega arith in
    rw same (ap Some e)
branch_from w n m p (s ∷ ss) (suc d) is =
    let differs : (n == m) ≡ false = grind (arith, nat_tests, is) in
    let ports = awaited (actions_of w s.branch.handler) in
    let count = length (sites_from m 0 ports) in
    let branch = first_behind (same_spot (Branch n)) (sites_from m 0 ports) (spots_from w (m + 1) ss) (sites_never (same_spot (Branch n)) m 0 ports (λ j. refl)) in
    rw (differs, branch, indices_append (sites_from m 0 ports) (spots_from w (m + 1) ss) (p + 1), sites_placed m 0 (p + 1) ports) (branch_from w n (m + 1) (p + 1 + count) ss d (omega (arith, is)) ∙ of_option (first_index (same_spot (Branch n)) (spots_from w (m + 1) ss)) count)
  where
    of_option : (o : Option ℕ) (l : ℕ) → option_map (λ i. p + 1 + l + i) o ≡ option_map (λ i. p + i) (option_map suc (option_map (λ i. l + i) o))
    of_option None l = refl
    of_option (Some i) l = let e : p + 1 + l + i ≡ p + suc (l + i) = omega arith in ap Some e

pub branch_at : (w : Parts) (n : ℕ) → slice_get (branch_indices 0 (spots w)) n ≡ first_index (same_spot (Branch n)) (spots w)
branch_at w n = branch_from w n 0 0 (placements w) n (omega arith) ∙ of_option (first_index (same_spot (Branch n)) (spots w))
  where
    of_option : (o : Option ℕ) → option_map (λ i. 0 + i) o ≡ o
    of_option None = refl
    of_option (Some i) = let e : 0 + i ≡ i = omega arith in ap Some e

-- the index of a site, by that of its branch
pub site_stands : (w : Parts) (n k port i : ℕ) → site_port w n k ≡ Some port → first_index (same_spot (Branch n)) (spots w) ≡ Some i → Some (i + 1 + k) ≡ first_index (same_spot (Site n k)) (spots w)
site_stands w n k port i at index = sym (site_index w n k ∙ rw (at, index) refl)

pub site_fits : (w : Parts) (n k port i : ℕ) → site_port w n k ≡ Some port → first_index (same_spot (Branch n)) (spots w) ≡ Some i → i + 1 + k < length (spots w)
site_fits w n k port i at index = first_within (same_spot (Site n k)) (spots w) (i + 1 + k) (sym (site_stands w n k port i at index))

pub no_such_site : (w : Parts) (n k : ℕ) → site_port w n k ≡ None → None ≡ first_index (same_spot (Site n k)) (spots w)
no_such_site w n k at = sym (site_index w n k ∙ rw at refl)

pub no_such_branch : (w : Parts) (n k : ℕ) → first_index (same_spot (Branch n)) (spots w) ≡ None → None ≡ first_index (same_spot (Site n k)) (spots w)
no_such_branch w n k none = sym (site_index w n k ∙ rw none (of_option (site_port w n k)))
  where
    of_option : (o : Option ℕ) → option_and_then (λ port. option_map (λ i. i + 1 + k) None) o ≡ None
    of_option None = refl
    of_option (Some port) = refl

-- a site stands at one index alone
sites_past : (n k j : ℕ) (ports : List ℕ) → k < j → list_any (same_spot (Site n k)) (sites_from n j ports) ≡ false
sites_past n k j [] past = refl
sites_past n k j (port ∷ ports) past =
    let differs : (k == j) ≡ false = grind (arith, nat_tests, past) in
    rw (differs, and_false (n == n)) (sites_past n k (j + 1) ports (omega (arith, past)))

either_never : (n k j : ℕ) (ports : List ℕ) (rest : List Spot) → k < j → list_any (same_spot (Site n k)) rest ≡ false → list_any (same_spot (Site n k)) (sites_from n j ports ++ rest) ≡ false
either_never n k j ports rest past none = rw (list_any-append (same_spot (Site n k)) (sites_from n j ports) rest, sites_past n k j ports past) none

own_once : (n k j : ℕ) (ports : List ℕ) (rest : List Spot) → list_any (same_spot (Site n k)) rest ≡ false → IsOnce (same_spot (Site n k)) (sites_from n j ports ++ rest)
own_once n k j [] rest none = once_never (same_spot (Site n k)) rest none
own_once n k j (port ∷ ports) rest none = of_test (k == j) refl (own_once n k (j + 1) ports rest none)
  where
    of_test : (b : Bool) → (k == j) ≡ b → IsOnce (same_spot (Site n k)) (sites_from n (j + 1) ports ++ rest) → IsOnce (same_spot (Site n k)) (Site n j ∷ sites_from n (j + 1) ports ++ rest)
    of_test true same more =
        let is : same_spot (Site n k) (Site n j) ≡ true = rw (eq-self n, same) refl in
        once_here (same_spot (Site n k)) (Site n j) (sites_from n (j + 1) ports ++ rest) is (either_never n k (j + 1) ports rest (grind (arith, nat_tests, same)) none)
    of_test false differs more =
        let out : same_spot (Site n k) (Site n j) ≡ false = rw (differs, and_false (n == n)) refl in
        once_later (same_spot (Site n k)) (Site n j) (sites_from n (j + 1) ports ++ rest) out more

site_once_from : (w : Parts) (n k m : ℕ) (ss : List Placement) → IsOnce (same_spot (Site n k)) (spots_from w m ss)
site_once_from w n k m [] = once_never (same_spot (Site n k)) [] refl
site_once_from w n k m (s ∷ ss) = once_later (same_spot (Site n k)) (Branch m) (sites_from m 0 (awaited (actions_of w s.branch.handler)) ++ spots_from w (m + 1) ss) refl (of_test (n == m) refl (site_once_from w n k (m + 1) ss))
  where
    of_test : (b : Bool) → (n == m) ≡ b → IsOnce (same_spot (Site n k)) (spots_from w (m + 1) ss) → IsOnce (same_spot (Site n k)) (sites_from m 0 (awaited (actions_of w s.branch.handler)) ++ spots_from w (m + 1) ss)
    of_test true same rest =
        let one : n ≡ m = grind (arith, nat_tests, same) in
        subst (λ i. IsOnce (same_spot (Site n k)) (sites_from i 0 (awaited (actions_of w s.branch.handler)) ++ spots_from w (m + 1) ss)) one (own_once n k 0 (awaited (actions_of w s.branch.handler)) (spots_from w (m + 1) ss) (others_never w n (same_spot (Site n k)) (site_alone n k) (m + 1) ss (omega (arith, one))))
    of_test false differs rest = once_behind (same_spot (Site n k)) (sites_from m 0 (awaited (actions_of w s.branch.handler))) (spots_from w (m + 1) ss) (sites_never (same_spot (Site n k)) m 0 (awaited (actions_of w s.branch.handler)) (λ j. site_alone n k (Site m j) differs)) rest

-- and so does a branch
branch_alone : (n : ℕ) (s : Spot) → (n == branch_of s) ≡ false → same_spot (Branch n) s ≡ false
branch_alone n (Branch b) differs = differs
branch_alone n (Site b k) differs = refl

branch_once_from : (w : Parts) (n m : ℕ) (ss : List Placement) → IsOnce (same_spot (Branch n)) (spots_from w m ss)
branch_once_from w n m [] = once_never (same_spot (Branch n)) [] refl
branch_once_from w n m (s ∷ ss) = of_test (n == m) refl (branch_once_from w n (m + 1) ss)
  where
    sites : List Spot
    sites = sites_from m 0 (awaited (actions_of w s.branch.handler))

    no_site_is : list_any (same_spot (Branch n)) sites ≡ false
    no_site_is = sites_never (same_spot (Branch n)) m 0 (awaited (actions_of w s.branch.handler)) (λ j. refl)

    of_test : (b : Bool) → (n == m) ≡ b → IsOnce (same_spot (Branch n)) (spots_from w (m + 1) ss) → IsOnce (same_spot (Branch n)) (Branch m ∷ sites ++ spots_from w (m + 1) ss)
    of_test true same rest =
        let low : n < m + 1 = grind (arith, nat_tests, same) in
        let none : list_any (same_spot (Branch n)) (sites ++ spots_from w (m + 1) ss) ≡ false = rw (list_any-append (same_spot (Branch n)) sites (spots_from w (m + 1) ss), no_site_is) (others_never w n (same_spot (Branch n)) (branch_alone n) (m + 1) ss low) in
        once_here (same_spot (Branch n)) (Branch m) (sites ++ spots_from w (m + 1) ss) same none
    of_test false differs rest = once_later (same_spot (Branch n)) (Branch m) (sites ++ spots_from w (m + 1) ss) differs (once_behind (same_spot (Branch n)) sites (spots_from w (m + 1) ss) no_site_is rest)

pub spot_once : (w : Parts) (s : Spot) → IsOnce (same_spot s) (spots w)
spot_once w (Branch n) = branch_once_from w n 0 (placements w)
spot_once w (Site n k) = site_once_from w n k 0 (placements w)
