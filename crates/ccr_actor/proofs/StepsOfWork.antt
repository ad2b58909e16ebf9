-- Steps of the work: a play, whatever the actor did before.
use Rattle.std.proofs.Common.{◌≡◌, ℕ, List, [], ◌∷◌, Result, Ok, Err, refl, sym, ap, ◌∙◌}
use Rattle.std.specs.Prelude.{OnOk, OnErr}
use Rattle.ccr_base.specs.declared.list.OutOfMemory.{OutOfMemory}
use Rattle.ccr_base.specs.declared.messages.Sent.{Sent}
use Rattle.ccr_base.specs.declared.tasks.Task.{Task}
use Rattle.ccr_handler.specs.declared.segments.Play.{Play}
use Rattle.ccr_handler.specs.declared.segments.PlayEnd.{PlayEnd}
use Rattle.ccr_handler.specs.declared.segments.PlayEnd.TheVariants as plays
use Rattle.ccr_wiring.specs.declared.parts.Parts.{Parts}
use Rattle.ccr_claim.specs.declared.asks.Reply.{Reply}
use Rattle.ccr_claim.specs.declared.asks.Reply.TheVariants as replies
use Rattle.ccr_claim.specs.Attempts.{booking}
use Rattle.ccr_actor.specs.Acting.{kept}
use Rattle.ccr_actor.specs.Actors.{State, Work, after_end, after_play}
use Rattle.ccr_actor.specs.Courses.{IsStep}
use Rattle.ccr_actor.proofs.HandsSettle.{play-same}
use Rattle.ccr_actor.proofs.StepsOfAttempts.{owed-hand}

end-other : (wiring : Parts) (state : State) (work : Work) (task : Task) (end : PlayEnd) → after_end wiring (record state { work = work }) task end ≡ after_end wiring state task end
end-other wiring state work task plays.Done = refl
end-other wiring state work task (plays.Failed value) = refl
end-other wiring state work task (plays.Yield site) = refl

end-phase : (wiring : Parts) (state : State) (task : Task) (end : PlayEnd) → (after_end wiring state task end).phase ≡ state.phase
end-phase wiring state task plays.Done = refl
end-phase wiring state task (plays.Failed value) = refl
end-phase wiring state task (plays.Yield site) = refl

play-other : (wiring : Parts) (state : State) (work : Work) (task : Task) (index : ℕ) (play : Play) (posts : List Sent) (reply : Reply) → after_play wiring (record state { work = work }) task index play posts reply ≡ after_play wiring state task index play posts reply
play-other wiring state work task index play [] reply = end-other wiring state work task play.end
play-other wiring state work task index play (sent ∷ posts) replies.Done = refl
play-other wiring state work task index play (sent ∷ posts) (replies.Got m) = refl
play-other wiring state work task index play (sent ∷ posts) (replies.Busy t) = refl
play-other wiring state work task index play (sent ∷ posts) (replies.Short n) = refl
play-other wiring state work task index play (sent ∷ posts) (replies.Fired t cuts) = refl
play-other wiring state work task index play (sent ∷ posts) (replies.Dead by) = refl
play-other wiring state work task index play (sent ∷ posts) (replies.Admitted t) = refl
play-other wiring state work task index play (sent ∷ posts) replies.Booked = refl
play-other wiring state work task index play (sent ∷ posts) (replies.Full n) = refl
play-other wiring state work task index play (sent ∷ posts) (replies.Dropped t) = refl
play-other wiring state work task index play (sent ∷ posts) (replies.Taken t) = refl
play-other wiring state work task index play (sent ∷ posts) (replies.Drawn n) = refl
play-other wiring state work task index play (sent ∷ posts) replies.Spent = refl
play-other wiring state work task index play (sent ∷ posts) (replies.Left n) = refl

play-phase : (wiring : Parts) (state : State) (task : Task) (index : ℕ) (play : Play) (posts : List Sent) (reply : Reply) → (after_play wiring state task index play posts reply).phase ≡ state.phase
play-phase wiring state task index play [] reply = end-phase wiring state task play.end
play-phase wiring state task index play (sent ∷ posts) replies.Done = refl
play-phase wiring state task index play (sent ∷ posts) (replies.Got m) = refl
play-phase wiring state task index play (sent ∷ posts) (replies.Busy t) = refl
play-phase wiring state task index play (sent ∷ posts) (replies.Short n) = refl
play-phase wiring state task index play (sent ∷ posts) (replies.Fired t cuts) = refl
play-phase wiring state task index play (sent ∷ posts) (replies.Dead by) = refl
play-phase wiring state task index play (sent ∷ posts) (replies.Admitted t) = refl
play-phase wiring state task index play (sent ∷ posts) replies.Booked = refl
play-phase wiring state task index play (sent ∷ posts) (replies.Full n) = refl
play-phase wiring state task index play (sent ∷ posts) (replies.Dropped t) = refl
play-phase wiring state task index play (sent ∷ posts) (replies.Taken t) = refl
play-phase wiring state task index play (sent ∷ posts) (replies.Drawn n) = refl
play-phase wiring state task index play (sent ∷ posts) replies.Spent = refl
play-phase wiring state task index play (sent ∷ posts) (replies.Left n) = refl

-- the play goes on, or ends
pub play_step : {E : Type 0} (result : Result E OutOfMemory) (wiring : Parts) (actor : ℕ) (state : State) (work : Work) (task : Task) (index : ℕ) (play : Play) (reply : Reply) (new : State) → state.phase ≡ booking
    → OnOk result (new ≡ after_play wiring (record state { work = work }) task index play play.posts reply) → OnErr result (new.hand ≡ state.hand) → IsStep result wiring actor (after_play wiring state task index play play.posts reply) new
play_step (Ok done) wiring actor state work task index play reply new phase ok err = ap kept (ok ∙ play-other wiring state work task index play play.posts reply)
play_step (Err refused) wiring actor state work task index play reply new phase ok err =
    err ∙ sym (owed-hand wiring actor (after_play wiring state task index play play.posts reply) (play-phase wiring state task index play play.posts reply ∙ phase) ∙ play-same wiring state task index play play.posts reply)
