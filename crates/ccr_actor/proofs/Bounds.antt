-- A drive has fewer firings than so many, and a run of admissions fewer admissions, whatever is replied.
use Rattle.std.proofs.Common.{◌≡◌, ℕ, ◌+◌, ◌^◌, ◌<◌, Bool, true, false, List, [], ◌∷◌, Some, None, refl, subst, cond, arith}
use Rattle.std.specs.Prelude.{nat_lt}
use Rattle.std.proofs.lemmas.Bool.Decides.{nat_tests}
use Rattle.ccr_base.specs.declared.messages.Sent.{Sent}
use Rattle.ccr_base.specs.declared.names.Spot.{Spot}
use Rattle.ccr_base.specs.declared.tasks.Task.{Task}
use Rattle.ccr_handler.specs.declared.segments.Play.{Play}
use Rattle.ccr_handler.specs.declared.segments.PlayEnd.{PlayEnd}
use Rattle.ccr_handler.specs.declared.segments.PlayEnd.TheVariants as plays
use Rattle.ccr_wiring.specs.declared.parts.Parts.{Parts}
use Rattle.ccr_wiring.specs.declared.parts.QueuePart.{QueuePart}
use Rattle.ccr_claim.specs.declared.asks.Asked.{Asked}
use Rattle.ccr_claim.specs.declared.asks.Reply.{Reply}
use Rattle.ccr_claim.specs.declared.asks.Reply.TheVariants as replies
use Rattle.ccr_wiring.specs.Wirings.{next_site}
use Rattle.ccr_actor.specs.Actors.{State, Work, lines, round, taking, playing, posting, shedding, resting, Turn, settle, admit, drive, go_on, stop, turn, add_domain, settled, after_admit, after_attempt, after_end, after_line, after_play, after_round, after_take, after_work, take_from, after_in, after, most_admitted, most_fired}
use Rattle.ccr_actor.specs.Courses.{AreFew, IsBounded}
use Rattle.ccr_actor.proofs.TurnsTellStates.{IsTurnOf, turn_is}

any : {A : Type 0} {most : ℕ} (xs : List A) (count : ℕ) → count < most → AreFew most xs count
any [] count few = tt
any (x ∷ xs) count few = few

tested : {A : Type 0} (most : ℕ) (b : Bool) (xs ys : List A) (count : ℕ) → nat_lt count most ≡ b → AreFew most ys count → AreFew most (cond b xs ys) count
tested most true xs ys count is rest = any {most = most} xs count (grind (arith, nat_tests, is))
tested most false xs ys count is rest = rest

pub below : {A : Type 0} {most : ℕ} (xs : List A) (x : A) (more : List A) (count : ℕ) → xs ≡ x ∷ more → AreFew most xs count → count < most
below {A} {most} xs x more count is few = subst (λ ys. AreFew most ys count) is few

none-fired : (spots : List Spot) → AreFew most_fired spots 0
none-fired spots = any spots 0 (omega arith)

none-admitted : (arbiters : List ℕ) → AreFew most_admitted arbiters 0
none-admitted arbiters = any arbiters 0 (omega arith)

pub bounded_settled : (wiring : Parts) (state : State) (more : List Asked) (reply : Reply) → IsBounded state → IsBounded (settled wiring state more reply)
bounded_settled wiring state more replies.Done is = record { spots = is.spots; domains = is.domains }
bounded_settled wiring state more (replies.Got m) is = record { spots = is.spots; domains = is.domains }
bounded_settled wiring state more (replies.Busy t) is = record { spots = is.spots; domains = is.domains }
bounded_settled wiring state more (replies.Short n) is = record { spots = is.spots; domains = is.domains }
bounded_settled wiring state more (replies.Fired t cuts) is = record { spots = is.spots; domains = is.domains }
bounded_settled wiring state more (replies.Dead by) is = record { spots = is.spots; domains = is.domains }
bounded_settled wiring state more (replies.Admitted t) is = record { spots = is.spots; domains = is.domains }
bounded_settled wiring state more replies.Booked is = record { spots = is.spots; domains = is.domains }
bounded_settled wiring state more (replies.Full n) is = record { spots = is.spots; domains = is.domains }
bounded_settled wiring state more (replies.Dropped None) is = record { spots = is.spots; domains = is.domains }
bounded_settled wiring state more (replies.Dropped (Some task)) is = record { spots = is.spots; domains = tested most_admitted (nat_lt state.admitted most_admitted) (add_domain wiring task.arbiter state.domains) state.domains state.admitted refl is.domains }
bounded_settled wiring state more (replies.Taken t) is = record { spots = is.spots; domains = is.domains }
bounded_settled wiring state more (replies.Drawn n) is = record { spots = is.spots; domains = is.domains }
bounded_settled wiring state more replies.Spent is = record { spots = is.spots; domains = is.domains }
bounded_settled wiring state more (replies.Left n) is = record { spots = is.spots; domains = is.domains }

bounded_admit : (state : State) (more : List ℕ) (reply : Reply) → state.admitted < most_admitted → IsBounded state → IsBounded (after_admit state more reply)
bounded_admit state more replies.Done few is = record { spots = is.spots; domains = any more state.admitted few }
bounded_admit state more (replies.Got m) few is = record { spots = is.spots; domains = any more state.admitted few }
bounded_admit state more (replies.Busy t) few is = record { spots = is.spots; domains = any more state.admitted few }
bounded_admit state more (replies.Short n) few is = record { spots = is.spots; domains = any more state.admitted few }
bounded_admit state more (replies.Fired t cuts) few is = record { spots = is.spots; domains = any more state.admitted few }
bounded_admit state more (replies.Dead by) few is = record { spots = is.spots; domains = any more state.admitted few }
bounded_admit state more (replies.Admitted None) few is = record { spots = is.spots; domains = any more state.admitted few }
bounded_admit state more (replies.Admitted (Some task)) few is = record { spots = is.spots; domains = tested most_admitted (nat_lt (state.admitted + 1) most_admitted) state.domains [] (state.admitted + 1) refl tt }
bounded_admit state more replies.Booked few is = record { spots = is.spots; domains = any more state.admitted few }
bounded_admit state more (replies.Full n) few is = record { spots = is.spots; domains = any more state.admitted few }
bounded_admit state more (replies.Dropped t) few is = record { spots = is.spots; domains = any more state.admitted few }
bounded_admit state more (replies.Taken t) few is = record { spots = is.spots; domains = any more state.admitted few }
bounded_admit state more (replies.Drawn n) few is = record { spots = is.spots; domains = any more state.admitted few }
bounded_admit state more replies.Spent few is = record { spots = is.spots; domains = any more state.admitted few }
bounded_admit state more (replies.Left n) few is = record { spots = is.spots; domains = any more state.admitted few }

bounded_attempt : (wiring : Parts) (actor : ℕ) (state : State) (spot : Spot) (more : List Spot) (reply : Reply) → state.fired < most_fired → IsBounded state → IsBounded (after_attempt wiring actor state spot more reply)
bounded_attempt wiring actor state spot more replies.Done few is = record { spots = any more state.fired few; domains = is.domains }
bounded_attempt wiring actor state spot more (replies.Got m) few is = record { spots = is.spots; domains = is.domains }
bounded_attempt wiring actor state spot more (replies.Busy t) few is = record { spots = any more state.fired few; domains = is.domains }
bounded_attempt wiring actor state spot more (replies.Short n) few is = record { spots = any more state.fired few; domains = is.domains }
bounded_attempt wiring actor state spot more (replies.Fired t cuts) few is = record { spots = tested most_fired (nat_lt (state.fired + 1) most_fired) (spot ∷ more) [] (state.fired + 1) refl tt; domains = none-admitted _ }
bounded_attempt wiring actor state spot more (replies.Dead by) few is = record { spots = any more state.fired few; domains = is.domains }
bounded_attempt wiring actor state spot more (replies.Admitted t) few is = record { spots = any more state.fired few; domains = is.domains }
bounded_attempt wiring actor state spot more replies.Booked few is = record { spots = is.spots; domains = is.domains }
bounded_attempt wiring actor state spot more (replies.Full n) few is = record { spots = any more state.fired few; domains = is.domains }
bounded_attempt wiring actor state spot more (replies.Dropped t) few is = record { spots = any more state.fired few; domains = is.domains }
bounded_attempt wiring actor state spot more (replies.Taken t) few is = record { spots = any more state.fired few; domains = is.domains }
bounded_attempt wiring actor state spot more (replies.Drawn n) few is = record { spots = any more state.fired few; domains = is.domains }
bounded_attempt wiring actor state spot more replies.Spent few is = record { spots = any more state.fired few; domains = is.domains }
bounded_attempt wiring actor state spot more (replies.Left n) few is = record { spots = any more state.fired few; domains = is.domains }

bounded_from : (wiring : Parts) (state : State) (left queue : ℕ) (parts : List QueuePart) → IsBounded state → IsBounded (take_from wiring state left queue parts)
bounded_from wiring state left queue [] is = record { spots = is.spots; domains = is.domains }
bounded_from wiring state left queue (part ∷ parts) is = record { spots = is.spots; domains = is.domains }

bounded_take : (wiring : Parts) (state : State) (left queue : ℕ) (more : List QueuePart) (reply : Reply) → IsBounded state → IsBounded (after_take wiring state left queue more reply)
bounded_take wiring state left queue more replies.Done is = bounded_from wiring state left (queue + 1) more is
bounded_take wiring state left queue more (replies.Got m) is = bounded_from wiring state left (queue + 1) more is
bounded_take wiring state left queue more (replies.Busy t) is = bounded_from wiring state left (queue + 1) more is
bounded_take wiring state left queue more (replies.Short n) is = bounded_from wiring state left (queue + 1) more is
bounded_take wiring state left queue more (replies.Fired t cuts) is = bounded_from wiring state left (queue + 1) more is
bounded_take wiring state left queue more (replies.Dead by) is = bounded_from wiring state left (queue + 1) more is
bounded_take wiring state left queue more (replies.Admitted t) is = bounded_from wiring state left (queue + 1) more is
bounded_take wiring state left queue more replies.Booked is = bounded_from wiring state left (queue + 1) more is
bounded_take wiring state left queue more (replies.Full n) is = bounded_from wiring state left (queue + 1) more is
bounded_take wiring state left queue more (replies.Dropped t) is = bounded_from wiring state left (queue + 1) more is
bounded_take wiring state left queue more (replies.Taken None) is = bounded_from wiring state left (queue + 1) more is
bounded_take wiring state left queue more (replies.Taken (Some task)) is = record { spots = none-fired _; domains = is.domains }
bounded_take wiring state left queue more (replies.Drawn n) is = bounded_from wiring state left (queue + 1) more is
bounded_take wiring state left queue more replies.Spent is = bounded_from wiring state left (queue + 1) more is
bounded_take wiring state left queue more (replies.Left n) is = bounded_from wiring state left (queue + 1) more is

bounded_end : (wiring : Parts) (state : State) (task : Task) (end : PlayEnd) → IsBounded state → IsBounded (after_end wiring state task end)
bounded_end wiring state task plays.Done is = record { spots = is.spots; domains = none-admitted _ }
bounded_end wiring state task (plays.Failed value) is = record { spots = is.spots; domains = none-admitted _ }
bounded_end wiring state task (plays.Yield site) is = record { spots = none-fired (next_site task.spot ∷ []); domains = is.domains }

bounded_play : (wiring : Parts) (state : State) (task : Task) (index : ℕ) (play : Play) (posts : List Sent) (reply : Reply) → IsBounded state → IsBounded (after_play wiring state task index play posts reply)
bounded_play wiring state task index play [] reply is = bounded_end wiring state task play.end is
bounded_play wiring state task index play (sent ∷ posts) replies.Done is = record { spots = is.spots; domains = is.domains }
bounded_play wiring state task index play (sent ∷ posts) (replies.Got m) is = record { spots = is.spots; domains = is.domains }
bounded_play wiring state task index play (sent ∷ posts) (replies.Busy t) is = record { spots = is.spots; domains = is.domains }
bounded_play wiring state task index play (sent ∷ posts) (replies.Short n) is = record { spots = is.spots; domains = is.domains }
bounded_play wiring state task index play (sent ∷ posts) (replies.Fired t cuts) is = record { spots = is.spots; domains = is.domains }
bounded_play wiring state task index play (sent ∷ posts) (replies.Dead by) is = record { spots = is.spots; domains = is.domains }
bounded_play wiring state task index play (sent ∷ posts) (replies.Admitted t) is = record { spots = is.spots; domains = is.domains }
bounded_play wiring state task index play (sent ∷ posts) replies.Booked is = record { spots = is.spots; domains = is.domains }
bounded_play wiring state task index play (sent ∷ posts) (replies.Full n) is = record { spots = is.spots; domains = is.domains }
bounded_play wiring state task index play (sent ∷ posts) (replies.Dropped t) is = record { spots = is.spots; domains = is.domains }
bounded_play wiring state task index play (sent ∷ posts) (replies.Taken t) is = record { spots = is.spots; domains = is.domains }
bounded_play wiring state task index play (sent ∷ posts) (replies.Drawn n) is = record { spots = is.spots; domains = is.domains }
bounded_play wiring state task index play (sent ∷ posts) replies.Spent is = record { spots = is.spots; domains = is.domains }
bounded_play wiring state task index play (sent ∷ posts) (replies.Left n) is = record { spots = is.spots; domains = is.domains }

bounded_line : (wiring : Parts) (state : State) (index : ℕ) (sents : List Sent) → IsBounded state → IsBounded (after_line wiring state index sents)
bounded_line wiring state index [] is = record { spots = is.spots; domains = is.domains }
bounded_line wiring state index (sent ∷ sents) is = record { spots = none-fired _; domains = is.domains }

bounded_round : (wiring : Parts) (state : State) (reply : Reply) → IsBounded state → IsBounded (after_round wiring state reply)
bounded_round wiring state replies.Done is = is
bounded_round wiring state (replies.Got m) is = is
bounded_round wiring state (replies.Busy t) is = is
bounded_round wiring state (replies.Short n) is = is
bounded_round wiring state (replies.Fired t cuts) is = is
bounded_round wiring state (replies.Dead by) is = is
bounded_round wiring state (replies.Admitted t) is = is
bounded_round wiring state replies.Booked is = is
bounded_round wiring state (replies.Full n) is = is
bounded_round wiring state (replies.Dropped t) is = is
bounded_round wiring state (replies.Taken t) is = is
bounded_round wiring state (replies.Drawn n) is = is
bounded_round wiring state replies.Spent is = is
bounded_round wiring state (replies.Left n) is = bounded_from wiring state n 0 wiring.queues is

bounded_work : (wiring : Parts) (state : State) (work : Work) (reply : Reply) → IsBounded state → IsBounded (after_work wiring state work reply)
bounded_work wiring state (lines index sents) reply is = bounded_line wiring state index sents is
bounded_work wiring state round reply is = bounded_round wiring state reply is
bounded_work wiring state (taking left queue more) reply is = bounded_take wiring state left queue more reply is
bounded_work wiring state (playing task index play) reply is = bounded_play wiring state task index play play.posts reply is
bounded_work wiring state (posting task index play sent) reply is = record { spots = none-fired _; domains = is.domains }
bounded_work wiring state (shedding task) reply is = record { spots = is.spots; domains = none-admitted _ }
bounded_work wiring state resting reply is = is

-- what is left where spots are driven
pub left-few : (b : Bool) (spots : List Spot) (spot : Spot) (more : List Spot) (count : ℕ) → cond b spots [] ≡ spot ∷ more → AreFew most_fired spots count → count < most_fired
left-few true spots spot more count is few = below spots spot more count is few
left-few false spots spot more count is few = cc is

bounded_in : (wiring : Parts) (actor : ℕ) (state : State) (t : Turn) (reply : Reply) → IsTurnOf state t → IsBounded state → IsBounded (after_in wiring actor state t reply)
bounded_in wiring actor state (settle one more) reply goes is = bounded_settled wiring state more reply is
bounded_in wiring actor state (admit domain more) reply goes is = bounded_admit state more reply (below state.domains domain more state.admitted goes.2 is.domains) is
bounded_in wiring actor state (drive spot more) reply goes is = bounded_attempt wiring actor state spot more reply (left-few (nat_lt state.attempt (2 ^ 32)) state.spots spot more state.fired goes.3 is.spots) is
bounded_in wiring actor state go_on reply goes is = bounded_work wiring state state.work reply is
bounded_in wiring actor state stop reply goes is = is

pub bounded_after : (wiring : Parts) (actor : ℕ) (state : State) (reply : Reply) → IsBounded state → IsBounded (after wiring actor state reply)
bounded_after wiring actor state reply is = bounded_in wiring actor state (turn state) reply (turn_is state) is
