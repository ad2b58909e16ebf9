-- What a claim marks, by the keys of the messages.
use Rattle.std.specs.Prelude.{◌≡◌, true, ⊤, ℕ, ◌^◌, ◌<◌, ◌≤◌, List, length, take, Option, Some, None, option_map}
use Rattle.ccr_base.specs.declared.messages.Msg.{Msg}
use Rattle.ccr_base.specs.Lists.{are_apart}
use Rattle.ccr_places.specs.declared.claims.StandingClaim.{StandingClaim}
use Rattle.ccr_port.specs.declared.claims.MarkedClaim.{MarkedClaim}
use Rattle.ccr_port.specs.Entries.{keys_of, messages_of}
use Rattle.ccr_port.specs.Lanes.{KeyLaneState, fitting_keys, AreLanes}
use Rattle.ccr_port.specs.Replies.{are_at}

-- the claim that stands
abbrev pub standing_claim : Option MarkedClaim → Option StandingClaim
standing_claim claim = option_map (λ (mark : MarkedClaim). mark.standing) claim

-- the keys of a claim are those of the first messages that satisfy its predicate, as many as it marks
abbrev pub IsMarked : List (ℕ × Msg) → Option MarkedClaim → Type 0
IsMarked entries None = ⊤
IsMarked entries (Some mark) = (mark.keys.items ≡ take mark.standing.count (fitting_keys mark.standing.pred entries)) × (mark.standing.count ≤ length (fitting_keys mark.standing.pred entries))

-- a port has fewer than 2^32 messages, all of its own number and under different keys; each of its lanes has the keys that
-- it should, and its claim its marks
pub record IsPort (number : ℕ) (entries : List (ℕ × Msg)) (kept : List KeyLaneState) (claim : Option MarkedClaim) : Type 0 where
  pub few : length entries < 2 ^ 32
  pub own : are_at number (messages_of entries) ≡ true
  pub apart : are_apart (keys_of entries) ≡ true
  pub lanes : AreLanes entries kept
  pub marked : IsMarked entries claim
