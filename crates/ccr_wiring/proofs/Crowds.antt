-- Ports that stand too often.
use Rattle.std.proofs.Common.{◌≡◌, ℕ, ◌+◌, ◌<◌, ◌≤◌, Bool, true, false, List, ◌++◌, get_or, length, take, drop, refl, ap, subst, arith}
use Rattle.std.specs.Prelude.{nat_lt, ◌==◌}
use Rattle.std.proofs.lemmas.Bool.Decides.{nat_tests}
use Rattle.std.proofs.lemmas.List.{take-append-drop}
use Rattle.std.proofs.lemmas.List.Sums.{count_by_more_yes, count_by_more_no, sum_by-append}
use Rattle.std.proofs.lemmas.List.Folds.{list_any_at}
use Rattle.ccr_wiring.specs.Spots.{times, has_crowded}
use Rattle.ccr_wiring.proofs.Lists.{any_none}

-- how often a port stands in two lists
pub times_append : (port : ℕ) (xs ys : List ℕ) → times port (xs ++ ys) ≡ times port xs + times port ys
times_append port xs ys = sum_by-append _ xs ys

-- the port at an index stands once more than before it
times_at : (ports : List ℕ) (i : ℕ) → i < length ports → times (get_or ports i 0) (take i ports) + 1 ≤ times (get_or ports i 0) ports
times_at ports i below =
    let port = get_or ports i 0 in
    let same : (port == port) ≡ true = grind (arith, nat_tests) in
    let more : times port (take (i + 1) ports) ≡ times port (take i ports) + 1 = count_by_more_yes (λ other. other == port) ports i 0 below same in
    let whole : times port (take (i + 1) ports ++ drop (i + 1) ports) ≡ times port ports = ap (times port) (take-append-drop (i + 1) ports) in
    let parts = times_append port (take (i + 1) ports) (drop (i + 1) ports) in
    omega arith

-- a port that stood 16 times stands again
pub crowd_found : (ports : List ℕ) (i : ℕ) → i < length ports → 16 ≤ times (get_or ports i 0) (take i ports) → has_crowded ports ≡ true
crowd_found ports i below often =
    let at = times_at ports i below in
    let test : nat_lt 16 (times (get_or ports i 0) ports) ≡ true = grind (arith, nat_tests) in
    list_any_at (λ port. nat_lt 16 (times port ports)) ports i 0 below test

-- no port stands more than 16 times
pub crowd_none : (ports : List ℕ) → ((port : ℕ) → times port ports ≤ 16) → has_crowded ports ≡ false
crowd_none ports few = any_none (λ port. nat_lt 16 (times port ports)) ports (λ port. let most = few port in grind (arith, nat_tests))

pub times_next : (ports : List ℕ) (i port : ℕ) → i < length ports → times port (take i ports) ≤ 16 → times (get_or ports i 0) (take i ports) < 16 → times port (take (i + 1) ports) ≤ 16
times_next ports i port below most fewer = by_test (get_or ports i 0 == port) refl
  where
    by_test : (b : Bool) → (get_or ports i 0 == port) ≡ b → times port (take (i + 1) ports) ≤ 16
    by_test true same =
        let e : get_or ports i 0 ≡ port = grind (arith, nat_tests) in
        let here : times port (take i ports) < 16 = subst (λ p. times p (take i ports) < 16) e fewer in
        let more : times port (take (i + 1) ports) ≡ times port (take i ports) + 1 = count_by_more_yes (λ other. other == port) ports i 0 below same in
        omega arith
    by_test false other =
        let more : times port (take (i + 1) ports) ≡ times port (take i ports) = count_by_more_no (λ other. other == port) ports i 0 below other in
        omega arith
