-- What a poster asks: the lines of its script, one after the other.
use Rattle.std.specs.Prelude.{◌≡◌, ℕ, List, [], ◌∷◌, Option, Some}
use Rattle.ccr_base.specs.declared.messages.Msg.{Msg}
use Rattle.ccr_base.specs.declared.messages.Sent.{Sent}
use Rattle.ccr_base.specs.declared.names.MsgId.TheVariants as names
use Rattle.ccr_base.specs.declared.names.Place.TheVariants as places
use Rattle.ccr_claim.specs.declared.asks.Ask.TheVariants as asks
use Rattle.ccr_claim.specs.declared.asks.Asked.{Asked}
use Rattle.ccr_claim.specs.Attempts.{at_place}

-- the index of the next line, which is how many are posted, and the lines that are left
pub record LinesLeft : Type 0 where
  pub index : ℕ
  pub left : List Sent

-- the message that a poster's line is
abbrev pub script_message : ℕ → ℕ → Sent → Msg
script_message actor index sent = record { id = names.Script actor index; port = sent.port; value = sent.value; causes = sent.causes }

-- the next line's post; where none is left the poster leaves
abbrev pub line_ask : ℕ → ℕ → List Sent → Asked
line_ask actor index [] = at_place places.Meter asks.Leave
line_ask actor index (sent ∷ sents) = at_place (places.Port sent.port) (asks.Post (script_message actor index sent))

-- the causes are those of the line's first post, if it has one
abbrev pub IsLineOf : List Sent → Option (List ℕ) → Type 0
IsLineOf [] causes = Unit {0}
IsLineOf (sent ∷ more) causes = causes ≡ Some sent.causes
