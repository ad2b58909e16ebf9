-- What a law is about: an actor whose next ask is answered.
use Rattle.std.specs.Prelude.{◌≡◌, false, true, Some}
use Rattle.ccr_claim.specs.declared.asks.Asked.{Asked}
use Rattle.ccr_claim.specs.Asks.{MaybeReply, may_come}
use Rattle.ccr_actor.specs.Acting.{Acting, due_in, next, sent, IsAfter}
use Rattle.ccr_actor.specs.Within.{IsWithin}

-- the law holds of each actor that asks something, of an answer and of the actor behind it
abbrev pub OfAnswers : (Acting → MaybeReply → Acting → Type 0) → Type 0
OfAnswers law = (a new : Acting) (one : Asked) (answer : MaybeReply) → next a ≡ Some one → law a answer new

-- it holds where the answer may come, and the actor takes it in
abbrev pub Behind : Acting → MaybeReply → Acting → Type 0 → Type 0
Behind a answer new law = may_come (due_in (sent a).asking) answer ≡ true → IsAfter (sent a) answer new → law

-- the counts of an actor that isn't short are within their bounds
abbrev pub HasBounds : Acting → Type 0
HasBounds a = a.state.is_short ≡ false → IsWithin a.state
