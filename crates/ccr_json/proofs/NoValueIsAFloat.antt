-- No value of a report or wiring is a float.
use Rattle.std.proofs.Common.{◌≡◌, ℕ, ◌+◌, false, List, [], ◌∷◌, map, refl}
use Rattle.ccr_base.specs.declared.names.Spot.{Spot}
use Rattle.ccr_wiring.specs.declared.parts.Parts.{Parts}
use Rattle.ccr_wiring.specs.declared.parts.QueuePart.{QueuePart}
use Rattle.ccr_wiring.specs.Wirings.{spots}
use Rattle.ccr_wiring.specs.SpotWords.{branch_names}
use Rattle.ccr_report.specs.declared.counted.Counts.{Counts}
use Rattle.serde_json.specs.Data.{Data}
use Rattle.serde_json.specs.View.{items_of}
use Rattle.serde_json.specs.Written.{has_float, items_have_float}
use Rattle.serde_json.specs.Data.{string}
use Rattle.ccr_json.specs.Wiring.{queue_value, port_value, set_value, cause_value, action_value, handler_value, branch_value, arbiter_value, member_value, domain_value, post_value, poster_value, wiring_value}
use Rattle.ccr_json.specs.Rows.{branch_rows, port_rows, queue_rows, counted_value}

pub mapped_whole : {X : Type 0} (f : X → Data) (xs : List X) → ((x : X) → has_float (f x) ≡ false) → items_have_float (items_of (map f xs)) ≡ false
mapped_whole f [] each = refl
mapped_whole f (x ∷ xs) each = rw (each x, mapped_whole f xs each) refl

branches_whole : (branches : List (List ℕ)) (fired : List ℕ) (index : ℕ) (spots : List Spot) → items_have_float (items_of (branch_rows branches fired index spots)) ≡ false
branches_whole branches fired index [] = refl
branches_whole branches fired index (spot ∷ spots) = branches_whole branches fired (index + 1) spots

ports_whole : (posted held : List ℕ) (port : ℕ) (names : List (List ℕ)) → items_have_float (items_of (port_rows posted held port names)) ≡ false
ports_whole posted held port [] = refl
ports_whole posted held port (name ∷ names) = ports_whole posted held (port + 1) names

queues_whole : (put dropped : List ℕ) (queue : ℕ) (parts : List QueuePart) → items_have_float (items_of (queue_rows put dropped queue parts)) ≡ false
queues_whole put dropped queue [] = refl
queues_whole put dropped queue (part ∷ parts) = queues_whole put dropped (queue + 1) parts

pub counted_whole : (wiring : Parts) (counts : Counts) → has_float (counted_value wiring counts) ≡ false
counted_whole wiring counts =
    rw (
      branches_whole (branch_names wiring) counts.fired.items 0 (spots wiring),
      ports_whole counts.posted.items counts.held.items 0 wiring.ports,
      queues_whole counts.put.items counts.dropped.items 0 wiring.queues,
    ) refl

pub wiring_whole : (parts : Parts) → has_float (wiring_value parts) ≡ false
wiring_whole parts =
    rw (
      mapped_whole (arbiter_value parts) parts.arbiters (λ a. rw (mapped_whole (branch_value parts) a.branches (λ b. refl)) refl),
      mapped_whole (cause_value parts) parts.causes (λ c. refl),
      mapped_whole (domain_value parts) parts.domains (λ d. rw (mapped_whole (member_value parts) d.members (λ m. refl)) refl),
      mapped_whole (handler_value parts) parts.handlers (λ h. rw (mapped_whole (action_value parts) h.handler.actions (λ a. refl)) refl),
      mapped_whole string parts.ports (λ p. refl),
      mapped_whole (poster_value parts) parts.posters (λ p. rw (mapped_whole (post_value parts) p.posts (λ s. refl)) refl),
      mapped_whole queue_value parts.queues (λ q. refl),
      mapped_whole (set_value parts) parts.sets (λ s. rw (mapped_whole (port_value parts) s.ports (λ p. refl)) refl),
    ) refl
