-- One step over a net.
use Rattle.std.proofs.Common.{◌≡◌, ℕ, true, List, [], ◌∷◌, ◌++◌, Some, Ok, Err, refl, sym, ap, subst}
use Rattle.std.specs.Prelude.{IfOk, OnErr, IsOk}
use Rattle.ccr_wiring.specs.declared.parts.Parts.{Parts}
use Rattle.ccr_claim.specs.declared.asks.Ask.{Ask}
use Rattle.ccr_claim.specs.declared.asks.Ask.TheVariants as kinds
use Rattle.ccr_claim.specs.declared.asks.Asked.{Asked}
use Rattle.ccr_claim.specs.Asks.{MaybeReply, due_of, fits, is_settling, may_come}
use Rattle.ccr_actor.specs.Acting.{Acting, due_in, next, sent, IsAfter}
use Rattle.ccr_actor.specs.Nets.{Step}
use Rattle.ccr_actor.specs.Following.{Follows}
use Rattle.ccr_actor.proofs.ActorsFollowTheirSteps.{follows_reply, follows_refusal}

-- a reply that the ask may have, or running out of memory where it doesn't settle
pub may_answer : (ask : Ask) (answer : MaybeReply) → IfOk answer (λ reply. fits (due_of ask) reply ≡ true) → (is_settling ask ≡ true → IsOk answer) → may_come (due_of ask) answer ≡ true
may_answer ask (Ok reply) fit ok = fit
may_answer (kinds.Post m) (Err refused) fit ok = refl
may_answer (kinds.Claim t slot) (Err refused) fit ok = refl
may_answer (kinds.Consume t) (Err refused) fit ok = cc (ok refl)
may_answer (kinds.Free t) (Err refused) fit ok = cc (ok refl)
may_answer (kinds.Commit t m) (Err refused) fit ok = refl
may_answer kinds.Admit (Err refused) fit ok = refl
may_answer (kinds.Over t r how) (Err refused) fit ok = cc (ok refl)
may_answer (kinds.Suspend t) (Err refused) fit ok = refl
may_answer (kinds.Book t r) (Err refused) fit ok = refl
may_answer (kinds.Unbook t) (Err refused) fit ok = cc (ok refl)
may_answer (kinds.Put t) (Err refused) fit ok = cc (ok refl)
may_answer kinds.Take (Err refused) fit ok = refl
may_answer kinds.Draw (Err refused) fit ok = refl
may_answer kinds.Leave (Err refused) fit ok = refl
may_answer kinds.Left (Err refused) fit ok = refl

-- the actor follows the net's list after the answer
pub stepped : (wiring : Parts) (actor : ℕ) (old new : List Step) (a b : Acting) (one : Asked) (answer : MaybeReply) → Follows wiring actor old a → next a ≡ Some one → may_come (due_in (sent a).asking) answer ≡ true → IsAfter (sent a) answer b
    → IfOk answer (λ reply. new ≡ old ++ (record { asked = one; reply = reply }) ∷ []) → OnErr answer (new ≡ old) → Follows wiring actor new b
stepped wiring actor old new a b one (Ok reply) follows asks may so added refused = subst (λ steps. Follows wiring actor steps b) (sym added) (follows_reply wiring actor old a b one reply follows asks so)
stepped wiring actor old new a b one (Err e) follows asks may so added refused = subst (λ steps. Follows wiring actor steps b) (sym refused) (follows_refusal wiring actor old a b one e follows asks may so)

pub actor_is : (wiring : Parts) (actor : ℕ) (steps : List Step) (a : Acting) → Follows wiring actor steps a → a.actor ≡ actor
actor_is wiring actor steps a (lack, (all, (is, from))) = ap (λ (x : Acting). x.actor) is
