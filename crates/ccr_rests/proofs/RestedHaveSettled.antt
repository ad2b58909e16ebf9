-- An actor that rests has settled all that its attempts got.
use Rattle.std.proofs.Common.{◌≡◌, inl, inr, ℕ, List, [], ◌∷◌, ◌++◌, map, Option, Some, None, refl, sym, ap, subst, ◌∙◌, append_assoc, append-nil}
use Rattle.ccr_wiring.specs.declared.parts.Parts.{Parts}
use Rattle.ccr_claim.specs.declared.asks.Reply.{Reply}
use Rattle.ccr_claim.specs.Settling.{AttemptStep}
use Rattle.ccr_actor.specs.Actors.{State, asked, ask_in, drive, settle, turn, after, start, state_after, next}
use Rattle.ccr_actor.specs.Nets as nets
use Rattle.ccr_actor.specs.Nets.{AreFitting, AreNext, replies_of}
use Rattle.ccr_net.proofs.Kept.WholeInvariant.{IsBegun, begins as state_begins}
use Rattle.ccr_net.proofs.Parts.OneMoreEntry.{IsNextState, state_after-push}
use Rattle.ccr_rests.specs.Trials.{as_answered, AreSettled}
use Rattle.ccr_rests.proofs.AttemptsMoveOn.{Goes}
use Rattle.ccr_rests.proofs.BetweenAttempts.{goes_on, goes_short}

-- ---- along the steps

step-goes : (w : Parts) (a : ℕ) (past : List AttemptStep) (st new : State) (step : nets.Step) → Goes w a past st → asked w a st ≡ Some step.asked → AreFitting (step ∷ []) → IsNextState w a st step.reply new → Goes w a (past ++ as_answered step ∷ []) new
step-goes w a past st new step goes asks fit (inl is) = subst (Goes w a (past ++ as_answered step ∷ [])) (sym is) (goes_on w a past st step.asked step.reply goes asks fit.0)
step-goes w a past st new step goes asks fit (inr is) = subst (Goes w a (past ++ as_answered step ∷ [])) (sym is) (goes_short w a (past ++ as_answered step ∷ []) (after w a st step.reply) (goes_on w a past st step.asked step.reply goes asks fit.0))

along : (w : Parts) (a : ℕ) (lack : Option ℕ) (given : List Reply) (past : List AttemptStep) (steps : List nets.Step) → Goes w a past (state_after w a lack given) → AreNext w a lack given steps → AreFitting steps → Goes w a (past ++ map as_answered steps) (state_after w a lack (given ++ replies_of steps))
along w a lack given past [] goes all fit = subst (λ (g : List Reply). Goes w a (past ++ []) (state_after w a lack g)) (sym (append-nil given)) (subst (λ (p : List AttemptStep). Goes w a p (state_after w a lack given)) (sym (append-nil past)) goes)
along w a lack given past (step ∷ steps) goes all fit =
    let on : Goes w a (past ++ as_answered step ∷ []) (state_after w a lack (given ++ step.reply ∷ [])) = step-goes w a past (state_after w a lack given) (state_after w a lack (given ++ step.reply ∷ [])) step goes all.0 (fit.0, tt) (state_after-push w a lack given step.reply) in
    let whole = along w a lack (given ++ step.reply ∷ []) (past ++ as_answered step ∷ []) steps on all.1 fit.1 in
    subst (λ (g : List Reply). Goes w a (past ++ map as_answered (step ∷ steps)) (state_after w a lack g)) (append_assoc given (step.reply ∷ []) (replies_of steps))
    (subst (λ (p : List AttemptStep). Goes w a p (state_after w a lack ((given ++ step.reply ∷ []) ++ replies_of steps))) (append_assoc past (as_answered step ∷ []) (map as_answered steps)) whole)

begins : (w : Parts) (a : ℕ) → Goes w a [] (start w a)
begins w a = inl (record { all = record { stretches = []; are = refl; done = tt }; phase = refl; hand = tt })

begun : (w : Parts) (a : ℕ) (st : State) → IsBegun w a st → Goes w a [] st
begun w a st (inl is) = subst (Goes w a []) (sym is) (begins w a)
begun w a st (inr is) = subst (Goes w a []) (sym is) (goes_short w a [] (start w a) (begins w a))

-- ---- at rest

at-rest : (w : Parts) (a : ℕ) (steps : List nets.Step) (st : State) → Goes w a (map as_answered steps) st → asked w a st ≡ None → AreSettled w a steps
at-rest w a steps st (inl idle) none = (idle.all.stretches, idle.all.are, idle.all.done)
at-rest w a steps st (inr (inl run)) none = absurd (let turns : turn st ≡ drive run.spot run.more = rw (run.long, run.hand, run.domains, run.low, run.spots) refl in let some = sym (ap (ask_in w a st) turns) ∙ none in cc)
at-rest w a steps st (inr (inr at)) none = absurd (let turns : turn st ≡ settle at.first at.rest = rw at.hand refl in let some = sym (ap (ask_in w a st) turns) ∙ none in cc)

pub all_settled : (w : Parts) (a : ℕ) (lack : Option ℕ) (steps : List nets.Step) → AreNext w a lack [] steps → AreFitting steps → next w a lack (replies_of steps) ≡ None → AreSettled w a steps
all_settled w a lack steps all fit none = at-rest w a steps (state_after w a lack (replies_of steps)) (along w a lack [] [] steps (begun w a (state_after w a lack []) (state_begins w (λ actor. lack) a)) all fit) none
