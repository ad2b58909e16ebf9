-- The places that a wiring has, and where they stand among its places.
use Rattle.std.proofs.Common.{◌⊎◌, inl, inr, ◌≡◌, ◌<◌, ◌+◌, ℕ, zero, suc, Bool, true, false, List, [], ◌∷◌, ◌++◌, length, Some, None, refl, sym, arith, ap, ◌∙◌, subst}
use Rattle.std.specs.Prelude.{◌==◌, if◌then◌else◌, slice_get}
use Rattle.std.specs.Option.{option_map_or}
use Rattle.std.proofs.lemmas.Bool.Decides.{nat_tests}
use Rattle.ccr_base.specs.declared.names.Place.{Place}
use Rattle.ccr_base.specs.declared.names.Place.TheVariants as places
use Rattle.ccr_base.specs.declared.names.Spot.{Spot}
use Rattle.ccr_base.specs.declared.names.Spot.TheVariants.{Branch, Site}
use Rattle.ccr_wiring.specs.declared.parts.DomainPart.{DomainPart}
use Rattle.ccr_wiring.specs.declared.parts.Parts.{Parts}
use Rattle.ccr_wiring.specs.Domains.{domain_of}
use Rattle.ccr_wiring.specs.Wirings.{Placement, actions_of, awaited, placements, spots}
use Rattle.ccr_model.proofs.Members.{Among, Among-left, Among-right, index_of}
use Rattle.ccr_model.proofs.QuietAllowsNone.{site_among}
use Rattle.ccr_object.specs.Starts.{arbiter_places, places_of, port_places, queue_places, site_places}
use Rattle.ccr_net.proofs.Known.TasksAreKnown.{seat_of}
use Rattle.ccr_net.proofs.Parts.PhasesFitPlans.{SpotFits}

-- the place is one of the wiring's: an arbiter under the number of its domain
abbrev pub IsPlaceOf : Parts → Place → Type 0
IsPlaceOf w (places.Port p) = p < length w.ports
IsPlaceOf w (places.Arbiter i) = (i < length w.arbiters) × ((domain_of w.domains i == i) ≡ true)
IsPlaceOf w (places.Site b k) = SpotFits w (Site b k)
IsPlaceOf w (places.Queue q) = q < length w.queues
IsPlaceOf w places.Meter = Unit {0}

-- the last, or below it
last_or : (p n : ℕ) → p < suc n → (p < n) ⊎ (p ≡ n)
last_or p n low = by (p == n) refl
  where
    by : (b : Bool) → (p == n) ≡ b → (p < n) ⊎ (p ≡ n)
    by true e = inr (grind (arith, nat_tests, e))
    by false e = inl (grind (arith, nat_tests, e, low))

port_among : (n p : ℕ) → p < n → Among (places.Port p) (port_places n)
port_among zero p low = absurd (omega arith)
port_among (suc n) p low = by (last_or p n low) (λ less. port_among n p less)
  where
    by : (p < n) ⊎ (p ≡ n) → (p < n → Among (places.Port p) (port_places n)) → Among (places.Port p) (port_places n ++ places.Port n ∷ [])
    by (inl less) rest = Among-left (places.Port p) (port_places n) (places.Port n ∷ []) (rest less)
    by (inr e) rest = Among-right (places.Port p) (port_places n) (places.Port n ∷ []) (inl (ap places.Port e))

queue_among : (n p : ℕ) → p < n → Among (places.Queue p) (queue_places n)
queue_among zero p low = absurd (omega arith)
queue_among (suc n) p low = by (last_or p n low) (λ less. queue_among n p less)
  where
    by : (p < n) ⊎ (p ≡ n) → (p < n → Among (places.Queue p) (queue_places n)) → Among (places.Queue p) (queue_places n ++ places.Queue n ∷ [])
    by (inl less) rest = Among-left (places.Queue p) (queue_places n) (places.Queue n ∷ []) (rest less)
    by (inr e) rest = Among-right (places.Queue p) (queue_places n) (places.Queue n ∷ []) (inl (ap places.Queue e))

arbiter_among : (ds : List DomainPart) (n i : ℕ) → i < n → (domain_of ds i == i) ≡ true → Among (places.Arbiter i) (arbiter_places ds n)
arbiter_among ds zero i low own = absurd (omega arith)
arbiter_among ds (suc n) i low own = by (last_or i n low) (λ less. arbiter_among ds n i less own)
  where
    more : (b : Bool) → Among (places.Arbiter i) (arbiter_places ds n) → Among (places.Arbiter i) (if b then arbiter_places ds n ++ places.Arbiter n ∷ [] else arbiter_places ds n)
    more true there = Among-left (places.Arbiter i) (arbiter_places ds n) (places.Arbiter n ∷ []) there
    more false there = there

    by : (i < n) ⊎ (i ≡ n) → (i < n → Among (places.Arbiter i) (arbiter_places ds n)) → Among (places.Arbiter i) (if domain_of ds n == n then arbiter_places ds n ++ places.Arbiter n ∷ [] else arbiter_places ds n)
    by (inl less) rest = more (domain_of ds n == n) (rest less)
    by (inr e) rest =
        let here : (domain_of ds n == n) ≡ true = subst (λ k. (domain_of ds k == k) ≡ true) e own in
        subst (λ b. Among (places.Arbiter i) (if b then arbiter_places ds n ++ places.Arbiter n ∷ [] else arbiter_places ds n)) (sym here) (Among-right (places.Arbiter i) (arbiter_places ds n) (places.Arbiter n ∷ []) (inl (ap places.Arbiter e)))

-- ---- sites

site_place_among : (ss : List Spot) (b k : ℕ) → Among (Site b k) ss → Among (places.Site b k) (site_places ss)
site_place_among [] b k is = absurd is
site_place_among (x ∷ ss) b k (inl e) = subst (λ (y : Spot). Among (places.Site b k) (site_places (y ∷ ss))) e (inl refl)
site_place_among (Branch c ∷ ss) b k (inr more) = site_place_among ss b k more
site_place_among (Site c l ∷ ss) b k (inr more) = inr (site_place_among ss b k more)

site_place_of : (w : Parts) (b k : ℕ) → SpotFits w (Site b k) → Among (places.Site b k) (site_places (spots w))
site_place_of w b k fits =
    let seat = seat_of w (Site b k) fits in
    let port : slice_get (awaited (actions_of w seat.0.branch.handler)) k ≡ Some fits.0 = sym (ap (λ o. option_map_or (λ (r : Placement). slice_get (awaited (actions_of w r.branch.handler)) k) o None) seat.1) ∙ fits.1 in
    site_place_among (spots w) b k (site_among w 0 b b k fits.0 (placements w) seat.0 (omega arith) seat.1 port)

-- ---- all places

pub place_among : (w : Parts) (place : Place) → IsPlaceOf w place → Among place (places_of w)
place_among w place is = by place is
  where
    ports : List Place
    ports = port_places (length w.ports)

    arbiters : List Place
    arbiters = arbiter_places w.domains (length w.arbiters)

    sites : List Place
    sites = site_places (spots w)

    queues : List Place
    queues = queue_places (length w.queues)

    by : (place : Place) → IsPlaceOf w place → Among place ((((ports ++ arbiters) ++ sites) ++ queues) ++ places.Meter ∷ [])
    by (places.Port p) is = Among-left _ (((ports ++ arbiters) ++ sites) ++ queues) _ (Among-left _ ((ports ++ arbiters) ++ sites) queues (Among-left _ (ports ++ arbiters) sites (Among-left _ ports arbiters (port_among (length w.ports) p is))))
    by (places.Arbiter i) is = Among-left _ (((ports ++ arbiters) ++ sites) ++ queues) _ (Among-left _ ((ports ++ arbiters) ++ sites) queues (Among-left _ (ports ++ arbiters) sites (Among-right _ ports arbiters (arbiter_among w.domains (length w.arbiters) i is.0 is.1))))
    by (places.Site b k) is = Among-left _ (((ports ++ arbiters) ++ sites) ++ queues) _ (Among-left _ ((ports ++ arbiters) ++ sites) queues (Among-right _ (ports ++ arbiters) sites (site_place_of w b k is)))
    by (places.Queue q) is = Among-left _ (((ports ++ arbiters) ++ sites) ++ queues) _ (Among-right _ ((ports ++ arbiters) ++ sites) queues (queue_among (length w.queues) q is))
    by places.Meter is = Among-right _ (((ports ++ arbiters) ++ sites) ++ queues) _ (inl refl)

-- its number
pub place_stands : (w : Parts) (place : Place) → IsPlaceOf w place → (number : ℕ) × (slice_get (places_of w) number ≡ Some place)
place_stands w place is = index_of (places_of w) place (place_among w place is)
