-- A valid wiring has few spots, and few places.
use Rattle.std.proofs.Common.{Bool, true, false, ◌≡◌, ℕ, zero, suc, ◌+◌, ◌*◌, ◌≤◌, ◌==◌, List, [], ◌∷◌, ◌++◌, length, length-append, refl, ap, arith}
use Rattle.std.specs.Prelude.{if◌then◌else◌}
use Rattle.ccr_base.specs.declared.names.Place.TheVariants as places
use Rattle.ccr_wiring.specs.declared.parts.DomainPart.{DomainPart}
use Rattle.ccr_wiring.specs.declared.parts.Parts.{Parts}
use Rattle.ccr_wiring.specs.Domains.{domain_of}
use Rattle.ccr_wiring.specs.Valid.{IsValid, HasFewActions}
use Rattle.ccr_wiring.specs.Wirings.{Placement, placements, actions_of, awaited, await_port, sites_from, spots_from, spots}
use Rattle.ccr_wiring.proofs.Soundness.{sound}
use Rattle.ccr_object.specs.Starts.{port_places, queue_places, arbiter_places, site_place, site_places, places_of, member_at, members}
use Rattle.ccr_base.proofs.Filters.{length-filter_map}

length-sites : (branch site : ℕ) (ports : List ℕ) → length (sites_from branch site ports) ≡ length ports
length-sites branch site [] = refl
length-sites branch site (port ∷ ports) = ap suc (length-sites branch (site + 1) ports)

module _ (wiring : Parts) (few : HasFewActions wiring) where
  -- a branch has at most 16 sites
  few_sites : (branch handler : ℕ) → length (sites_from branch 0 (awaited (actions_of wiring handler))) ≤ 16
  few_sites branch handler =
      let all = length-sites branch 0 (awaited (actions_of wiring handler)) in
      let some = length-filter_map await_port (actions_of wiring handler) in
      let most = few handler in
      omega (arith, all, some, most)

  spots_of_placements : (branch : ℕ) (ss : List Placement) → length (spots_from wiring branch ss) ≤ length ss * 17
  spots_of_placements branch [] = omega arith
  spots_of_placements branch (s ∷ ss) =
      let sites = sites_from branch 0 (awaited (actions_of wiring s.branch.handler)) in
      let here = few_sites branch s.branch.handler in
      let more = spots_of_placements (branch + 1) ss in
      let all = length-append sites (spots_from wiring (branch + 1) ss) in
      omega (arith, here, more, all)

pub few_spots : (wiring : Parts) → IsValid wiring → length (spots wiring) ≤ 4352
few_spots wiring valid =
    let s = sound wiring valid in
    let listed = spots_of_placements wiring s.few_actions 0 (placements wiring) in
    let branches = s.small.branches in
    omega (arith, listed, branches)

pub few_members : (wiring : Parts) (domain : ℕ) → IsValid wiring → length (members wiring domain) ≤ 8192
few_members wiring domain valid =
    let some = length-filter_map (member_at wiring domain) (spots wiring) in
    let all = few_spots wiring valid in
    omega (arith, some, all)

length-ports : (n : ℕ) → length (port_places n) ≡ n
length-ports zero = refl
length-ports (suc n) = let a = length-append (port_places n) (places.Port n ∷ []) in let b = length-ports n in omega (arith, a, b)

length-queues : (n : ℕ) → length (queue_places n) ≡ n
length-queues zero = refl
length-queues (suc n) = let a = length-append (queue_places n) (places.Queue n ∷ []) in let b = length-queues n in omega (arith, a, b)

length-arbiters : (domains : List DomainPart) (n : ℕ) → length (arbiter_places domains n) ≤ n
length-arbiters domains zero = omega arith
length-arbiters domains (suc n) = by (domain_of domains n == n) (length-arbiters domains n)
  where
    by : (b : Bool) → length (arbiter_places domains n) ≤ n → length (if b then arbiter_places domains n ++ places.Arbiter n ∷ [] else arbiter_places domains n) ≤ suc n
    by true le = let a = length-append (arbiter_places domains n) (places.Arbiter n ∷ []) in omega (arith, a, le)
    by false le = omega (arith, le)

-- how many places there are
pub few_places : (wiring : Parts) → IsValid wiring → (1 ≤ length (places_of wiring)) × (length (places_of wiring) ≤ 8192)
few_places wiring valid =
    let s = sound wiring valid in
    let ports = port_places (length wiring.ports) in
    let arbiters = arbiter_places wiring.domains (length wiring.arbiters) in
    let sites = site_places (spots wiring) in
    let queues = queue_places (length wiring.queues) in
    let p = length-ports (length wiring.ports) in
    let a = length-arbiters wiring.domains (length wiring.arbiters) in
    let t = length-filter_map site_place (spots wiring) in
    let q = length-queues (length wiring.queues) in
    let few = few_spots wiring valid in
    let one = length-append (((ports ++ arbiters) ++ sites) ++ queues) (places.Meter ∷ []) in
    let two = length-append ((ports ++ arbiters) ++ sites) queues in
    let three = length-append (ports ++ arbiters) sites in
    let four = length-append ports arbiters in
    let small_ports = s.small.ports in
    let small_arbiters = s.small.arbiters in
    let small_queues = s.small.queues in
    let is : length (places_of wiring) ≡ length ((((ports ++ arbiters) ++ sites) ++ queues) ++ places.Meter ∷ []) = refl in
    (omega (arith, is, one, two, three, four), omega (arith, is, p, a, t, q, few, one, two, three, four, small_ports, small_arbiters, small_queues))
