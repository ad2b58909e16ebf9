-- The places of a wiring, and what stands at each of them at the start.
use Rattle.std.specs.Prelude.{ℕ, zero, suc, Bool, false, ◌==◌, List, [], ◌∷◌, ◌++◌, map, filter_map, length, slice_get, Option, Some, None, if◌then◌else◌}
use Rattle.std.specs.Option.{option_map_or, option_and_then}
use Rattle.ccr_base.specs.declared.names.Place.{Place}
use Rattle.ccr_base.specs.declared.names.Place.TheVariants as places
use Rattle.ccr_base.specs.declared.names.Spot.{Spot}
use Rattle.ccr_base.specs.declared.names.Spot.TheVariants.{Branch, Site as SiteOf}
use Rattle.ccr_base.specs.declared.policies.Group.{Group}
use Rattle.ccr_wiring.specs.declared.parts.DomainPart.{DomainPart}
use Rattle.ccr_wiring.specs.declared.parts.Kind.{Kind}
use Rattle.ccr_wiring.specs.declared.parts.Kind.TheVariants as kinds
use Rattle.ccr_wiring.specs.declared.parts.Parts.{Parts}
use Rattle.ccr_wiring.specs.Domains.{domain_of}
use Rattle.ccr_wiring.specs.Groups.{is_once}
use Rattle.ccr_wiring.specs.Wirings.{Placement, kind_of, placement, spots, policy_of}
use Rattle.ccr_places.specs.Ports as port_words
use Rattle.ccr_places.specs.Arbiters as arbiter_words
use Rattle.ccr_places.specs.Interleaves as interleave_words
use Rattle.ccr_places.specs.Queues as queue_words
use Rattle.ccr_places.specs.Meters as meter_words
use Rattle.ccr_await.specs.Resuming as site_words
use Rattle.ccr_object.specs.declared.object.Object.{Object}
use Rattle.ccr_object.specs.declared.object.Object.TheVariants.{Port, Arbiter, Interleave, Site, Queue, Meter}
use Rattle.ccr_object.specs.declared.object.Placed.{Placed}
use Rattle.ccr_object.specs.Numbers.{numbers_of}

-- ---- the places

-- the places of so many ports, queues
abbrev pub port_places : ℕ → List Place
port_places zero = []
port_places (suc number) = port_places number ++ places.Port number ∷ []

-- the places of the queues below this number
abbrev pub queue_places : ℕ → List Place
queue_places zero = []
queue_places (suc number) = queue_places number ++ places.Queue number ∷ []

-- the places of so many arbiters: one for each domain, under its number
abbrev pub arbiter_places : List DomainPart → ℕ → List Place
arbiter_places domains zero = []
arbiter_places domains (suc number) = if domain_of domains number == number then arbiter_places domains number ++ places.Arbiter number ∷ [] else arbiter_places domains number

-- the place of the spot, where it is a site
abbrev pub site_place : Spot → Option Place
site_place (Branch branch) = None
site_place (SiteOf branch site) = Some (places.Site branch site)

-- the places of the await sites among the spots
abbrev pub site_places : List Spot → List Place
site_places spots = filter_map site_place spots

-- all places: ports, arbiters, sites, queues, each by their numbers, and the meter
abbrev pub places_of : Parts → List Place
places_of wiring = port_places (length wiring.ports) ++ arbiter_places wiring.domains (length wiring.arbiters) ++ site_places (spots wiring) ++ queue_places (length wiring.queues) ++ places.Meter ∷ []

-- ---- what stands there

-- the branch's number and group, where it is one of the domain
abbrev pub member_of : ℕ → ℕ → Placement → Option (ℕ × Group)
member_of domain branch s = if s.domain == domain then Some (branch, s.branch.group) else None

-- the branch and its group, where it is one of this domain
abbrev pub member_at : Parts → ℕ → Spot → Option (ℕ × Group)
member_at wiring domain (Branch branch) = option_and_then (member_of domain branch) (placement wiring branch)
member_at wiring domain (SiteOf branch site) = None

-- the branches of the domain, rising, each with its group
abbrev pub members : Parts → ℕ → List (ℕ × Group)
members wiring domain = filter_map (member_at wiring domain) (spots wiring)

-- the branches of the members
abbrev pub branches_of : List (ℕ × Group) → List ℕ
branches_of listed = map (λ (member : ℕ × Group). member.0) listed

-- the groups of the members
abbrev pub groups_of : List (ℕ × Group) → List Group
groups_of listed = map (λ (member : ℕ × Group). member.1) listed

-- the first member's branch; 0 where there is none
abbrev pub first_branch : List (ℕ × Group) → ℕ
first_branch listed = option_map_or (λ (member : ℕ × Group). member.0) (slice_get listed 0) 0

-- whether the first of them fires but once
abbrev pub fires_once : List (ℕ × Group) → Bool
fires_once listed = option_map_or (λ (member : ℕ × Group). is_once member.1) (slice_get listed 0) false

-- an arbiter of this kind with these branches, none of which fired
abbrev pub fresh_arbiter : Kind → List (ℕ × Group) → Object
fresh_arbiter kinds.Receive listed = Arbiter (arbiter_words.receiver (first_branch listed) (fires_once listed))
fresh_arbiter kinds.Choice listed = Arbiter (arbiter_words.choice (first_branch listed) (length listed))
fresh_arbiter kinds.Interleave listed = Interleave (record { state = interleave_words.start (branches_of listed) (groups_of listed); tasks = [] })

-- what stands at the place before all notes
abbrev pub start_at : Parts → Place → Object
start_at wiring (places.Port number) = Port (port_words.start number)
start_at wiring (places.Arbiter number) = fresh_arbiter (kind_of wiring number) (members wiring number)
start_at wiring (places.Site branch site) = Site (site_words.start branch site)
start_at wiring (places.Queue number) = Queue (record { state = queue_words.start number (policy_of wiring number); tasks = [] })
start_at wiring places.Meter = Meter (meter_words.start wiring.budget)

-- and what contracts see of it, with the numbers of the wiring
abbrev pub placed_at : Parts → Place → Placed
placed_at wiring place = record { numbers = numbers_of wiring; object = start_at wiring place }
