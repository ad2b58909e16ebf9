-- What is answered fits the ask, and where the condition is met there is a reply.
use Rattle.std.proofs.Common.{◌≡◌, true, Option, Some, None}
use Rattle.std.specs.Option.{is_some}
use Rattle.ccr_claim.specs.declared.asks.Ask.{Ask}
use Rattle.ccr_claim.specs.declared.asks.Reply.{Reply}
use Rattle.ccr_places.specs.declared.notes.Note.{Note}
use Rattle.ccr_object.specs.declared.deed.PlaceAnswer.{PlaceAnswer}
use Rattle.ccr_object.specs.declared.deed.PlaceAnswer.TheVariants.{Replied, Unmet}
use Rattle.ccr_object.specs.declared.object.Placed.{Placed}
use Rattle.ccr_object.specs.Objects.{answer_at, answered, is_due, note_of, noted, reply_of}
use Rattle.ccr_net.specs.Acted.{IsFitting}

pub fitting_answer : (ask : Ask) (answer : PlaceAnswer) → is_due ask answer ≡ true → IsFitting ask answer
fitting_answer ask (Replied reply) due = due
fitting_answer ask Unmet due = tt

-- where the condition is met there is a reply
pub met_replies : (place : Placed) (ask : Ask) → is_some (note_of place ask) ≡ true → Unmet ≡ reply_of place ask → ⊥
met_replies place ask = by (answer_at place ask)
  where
    by : (o : Option (Reply × Note)) → is_some (noted o) ≡ true → Unmet ≡ answered o → ⊥
    by None met unmet = cc
    by (Some g) met unmet = cc
