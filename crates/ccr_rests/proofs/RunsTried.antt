-- In a run each actor that has nothing more to ask has settled its attempts.
use Rattle.std.proofs.Common.{◌≡◌, ℕ, Bool, true, false, List, [], ◌∷◌, ◌++◌, Option, Some, None, refl, sym, ap, subst, ◌∙◌, append-nil}
use Rattle.std.specs.Prelude.{◌==◌, if◌then◌else◌}
use Rattle.std.proofs.lemmas.List.{map-append}
use Rattle.ccr_wiring.specs.declared.parts.Parts.{Parts}
use Rattle.ccr_base.proofs.Booleans.{same_number}
use Rattle.ccr_claim.specs.declared.asks.Reply.{Reply}
use Rattle.ccr_actor.specs.Actors.{next}
use Rattle.ccr_actor.specs.Nets.{Step, AreFitting, AreNext, replies_of}
use Rattle.ccr_actor.proofs.ActorsFollowTheirSteps.{next_more, fitting-both}
use Rattle.ccr_runs.specs.declared.entries.Entry.{Entry}
use Rattle.ccr_runs.specs.EntryRuns.{Lacks, IsRunAfter, reply_of, replies_of as replied}
use Rattle.ccr_net.proofs.Parts.OneMoreEntry as pushes
use Rattle.ccr_net.proofs.Parts.OneMoreEntry.{Step-made, along_run, replies_of-push}
use Rattle.ccr_rests.specs.Trials.{AreSettled}
use Rattle.ccr_rests.specs.RunSteps.{step_to, steps_from, steps_of}
use Rattle.ccr_rests.proofs.OwnItems.{AreOwn, begins_own, own_on}
use Rattle.ccr_rests.proofs.RunReplies.{reply_fits}
use Rattle.ccr_rests.proofs.RestedHaveSettled.{all_settled}

-- steps that the actor asks one after the other, each with a reply that it may have, and the replies are those of the run
record Walks (w : Parts) (lacks : Lacks) (a : ℕ) (es : List Entry) : Type 0 where
  pub steps : List Step
  pub next_so : AreNext w a (lacks a) [] steps
  pub fit : AreFitting steps
  pub replies : replies_of steps ≡ replied w es a

-- one step more of the actor itself
walks-own : (w : Parts) (lacks : Lacks) (es : List Entry) (e : Entry) → AreOwn es → (step : pushes.Step w lacks es e) → Walks w lacks e.actor es → (replied w (es ++ e ∷ []) e.actor ≡ replied w es e.actor ++ reply_of w es e ∷ []) → Walks w lacks e.actor (es ++ e ∷ [])
walks-own w lacks es e own step walk grown = record {
  steps = walk.steps ++ one ∷ [];
  next_so = next_more w e.actor (lacks e.actor) [] walk.steps one walk.next_so (subst (λ (g : List Reply). next w e.actor (lacks e.actor) g ≡ Some step.asking) (sym walk.replies) step.asks);
  fit = fitting-both walk.steps (one ∷ []) walk.fit (reply_fits w lacks es e own step, tt);
  replies = map-append _ walk.steps (one ∷ []) ∙ (ap (λ rs. rs ++ reply_of w es e ∷ []) walk.replies ∙ sym grown);
}
  where
    one : Step
    one = record { asked = step.asking; reply = reply_of w es e }

walks-on : (w : Parts) (lacks : Lacks) (es : List Entry) (e : Entry) → AreOwn es → pushes.Step w lacks es e → (a : ℕ) → Walks w lacks a es → Walks w lacks a (es ++ e ∷ [])
walks-on w lacks es e own step a walk = by (e.actor == a) refl (replies_of-push w a es e)
  where
    by : (b : Bool) → (e.actor == a) ≡ b → replied w (es ++ e ∷ []) a ≡ replied w es a ++ (if b then reply_of w es e ∷ [] else []) → Walks w lacks a (es ++ e ∷ [])
    by true is grown =
        let same : e.actor ≡ a = same_number e.actor a is in
        subst (λ n. Walks w lacks n (es ++ e ∷ [])) same (walks-own w lacks es e own step (subst (λ n. Walks w lacks n es) (sym same) walk) (subst (λ n. replied w (es ++ e ∷ []) n ≡ replied w es n ++ reply_of w es e ∷ []) (sym same) grown))
    by false is grown = record { steps = walk.steps; next_so = walk.next_so; fit = walk.fit; replies = walk.replies ∙ sym (grown ∙ append-nil (replied w es a)) }

-- the ports keep their own, and the actor walks on
record Walked (w : Parts) (lacks : Lacks) (a : ℕ) (es : List Entry) : Type 0 where
  pub own : AreOwn es
  pub walk : Walks w lacks a es

run-walks : (w : Parts) (workers : ℕ) (lacks : Lacks) (a : ℕ) (es : List Entry) → IsRunAfter w workers lacks [] es → Walked w lacks a es
run-walks w workers lacks a es run = along_run w workers lacks (Walked w lacks a)
    (λ past e walked low made. (let step = Step-made w lacks past e made in record { own = own_on w lacks past e walked.own step; walk = walks-on w lacks past e walked.own step a walked.walk }))
    (record { own = begins_own; walk = record { steps = []; next_so = tt; fit = tt; replies = refl } })
    es run

-- the steps are those that the definition reads off the replies
steps-so : (w : Parts) (a : ℕ) (lack : Option ℕ) (given : List Reply) (steps : List Step) → AreNext w a lack given steps → steps_from w a lack given (replies_of steps) ≡ steps
steps-so w a lack given [] all = refl
steps-so w a lack given (step ∷ steps) all = ap (λ o. step_to o step.reply ++ steps_from w a lack (given ++ step.reply ∷ []) (replies_of steps)) all.0 ∙ ap (λ more. step ∷ more) (steps-so w a lack (given ++ step.reply ∷ []) steps all.1)

pub run_settled : (w : Parts) (workers : ℕ) (lacks : Lacks) (es : List Entry) (a : ℕ) → IsRunAfter w workers lacks [] es → next w a (lacks a) (replied w es a) ≡ None → AreSettled w a (steps_of w lacks es a)
run_settled w workers lacks es a run none =
    let walk : Walks w lacks a es = (run-walks w workers lacks a es run).walk in
    let rest : next w a (lacks a) (replies_of walk.steps) ≡ None = subst (λ (g : List Reply). next w a (lacks a) g ≡ None) (sym walk.replies) none in
    let settled : AreSettled w a walk.steps = all_settled w a (lacks a) walk.steps walk.next_so walk.fit rest in
    let same : walk.steps ≡ steps_of w lacks es a = sym (steps-so w a (lacks a) [] walk.steps walk.next_so) ∙ ap (steps_from w a (lacks a) []) walk.replies in
    subst (AreSettled w a) same settled
