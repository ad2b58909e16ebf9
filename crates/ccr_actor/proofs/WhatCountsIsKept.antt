-- What of a state counts, and what a step leaves alone.
use Rattle.std.proofs.Common.{◌≡◌, ℕ, ◌+◌, Bool, true, false, List, [], ◌∷◌, Some, None, refl, sym, ap, ◌∙◌}
use Rattle.ccr_base.specs.declared.messages.Sent.{Sent}
use Rattle.ccr_base.specs.declared.names.Spot.{Spot}
use Rattle.ccr_base.specs.declared.tasks.Task.{Task}
use Rattle.ccr_handler.specs.declared.segments.Play.{Play}
use Rattle.ccr_handler.specs.declared.segments.PlayEnd.{PlayEnd}
use Rattle.ccr_handler.specs.declared.segments.PlayEnd.TheVariants as plays
use Rattle.ccr_wiring.specs.declared.parts.Parts.{Parts}
use Rattle.ccr_wiring.specs.declared.parts.QueuePart.{QueuePart}
use Rattle.ccr_claim.specs.declared.asks.Asked.{Asked}
use Rattle.ccr_claim.specs.declared.asks.Reply.{Reply}
use Rattle.ccr_claim.specs.declared.asks.Reply.TheVariants as replies
use Rattle.ccr_actor.specs.Acting.{bare, kept_if, kept, sent_state, asking_of}
use Rattle.ccr_actor.specs.Actors.{State, Work, lines, round, taking, playing, posting, shedding, resting, Turn, settle, admit, drive, go_on, stop, turn, turn_of, spots_left, asked, ask_in, settled, after_admit, after_attempt, after_work, after_line, after_round, after_take, after_play, after_end, take_from, after_in, after, after_all}

-- a state that isn't short counts whole
pub kept_whole : (state : State) → state.is_short ≡ false → kept state ≡ state
kept_whole state is = ap (λ b. kept_if b state) is

pub kept_bare : (state : State) → state.is_short ≡ true → kept state ≡ bare state.hand
kept_bare state is = ap (λ b. kept_if b state) is

short-when : (b : Bool) (state : State) → state.is_short ≡ b → (kept_if b state).is_short ≡ state.is_short
short-when true state is = sym is
short-when false state is = refl

pub kept_short : (state : State) → (kept state).is_short ≡ state.is_short
kept_short state = short-when state.is_short state refl

hand-when : (b : Bool) (state : State) → (kept_if b state).hand ≡ state.hand
hand-when true state = refl
hand-when false state = refl

pub kept_hand : (state : State) → (kept state).hand ≡ state.hand
kept_hand state = hand-when state.is_short state

-- two states that are short count alike where their hands do
pub both_short : (one two : State) → one.is_short ≡ true → two.is_short ≡ true → one.hand ≡ two.hand → kept one ≡ kept two
both_short one two first second hand = kept_bare one first ∙ (ap bare hand ∙ sym (kept_bare two second))

-- ---- the next ask

bare-asks : (wiring : Parts) (actor : ℕ) (one two : State) (hand : List Asked) (domains others : List ℕ) (spots more : List Spot) → ask_in wiring actor one (turn_of true hand domains spots) ≡ ask_in wiring actor two (turn_of true hand others more)
bare-asks wiring actor one two [] domains others spots more = refl
bare-asks wiring actor one two (first ∷ hand) domains others spots more = refl

asked-when : (b : Bool) (wiring : Parts) (actor : ℕ) (state : State) → state.is_short ≡ b → asked wiring actor (kept_if b state) ≡ asked wiring actor state
asked-when true wiring actor state is = bare-asks wiring actor (bare state.hand) state state.hand [] state.domains (spots_left (bare state.hand)) (spots_left state) ∙ ap (λ b. ask_in wiring actor state (turn_of b state.hand state.domains (spots_left state))) (sym is)
asked-when false wiring actor state is = refl

pub kept_asked : (wiring : Parts) (actor : ℕ) (state : State) → asked wiring actor (kept state) ≡ asked wiring actor state
kept_asked wiring actor state = asked-when state.is_short wiring actor state refl

bare-asking : (wiring : Parts) (actor : ℕ) (one two : State) (hand : List Asked) (domains others : List ℕ) (spots more : List Spot) → asking_of (turn_of true hand domains spots) (ask_in wiring actor one (turn_of true hand domains spots)) ≡ asking_of (turn_of true hand others more) (ask_in wiring actor two (turn_of true hand others more))
bare-asking wiring actor one two [] domains others spots more = refl
bare-asking wiring actor one two (first ∷ hand) domains others spots more = refl

asking-when : (b : Bool) (wiring : Parts) (actor : ℕ) (state : State) → state.is_short ≡ b → asking_of (turn (kept_if b state)) (asked wiring actor (kept_if b state)) ≡ asking_of (turn state) (asked wiring actor state)
asking-when true wiring actor state is = bare-asking wiring actor (bare state.hand) state state.hand [] state.domains (spots_left (bare state.hand)) (spots_left state) ∙ ap (λ b. asking_of (turn_of b state.hand state.domains (spots_left state)) (ask_in wiring actor state (turn_of b state.hand state.domains (spots_left state)))) (sym is)
asking-when false wiring actor state is = refl

pub kept_asking : (wiring : Parts) (actor : ℕ) (state : State) → asking_of (turn (kept state)) (asked wiring actor (kept state)) ≡ asking_of (turn state) (asked wiring actor state)
kept_asking wiring actor state = asking-when state.is_short wiring actor state refl

pub sent_short : (state : State) (t : Turn) → (sent_state state t).is_short ≡ state.is_short
sent_short state (settle one more) = refl
sent_short state (admit domain more) = refl
sent_short state (drive spot more) = refl
sent_short state go_on = refl
sent_short state stop = refl

bare-sent : (state : State) (hand : List Asked) (domains others : List ℕ) (spots more : List Spot) → state.hand ≡ hand → state.is_short ≡ true → kept (sent_state state (turn_of true hand domains spots)) ≡ sent_state (bare hand) (turn_of true hand others more)
bare-sent state [] domains others spots more at is = kept_bare state is ∙ ap bare at
bare-sent state (one ∷ rest) domains others spots more at is = kept_bare (record state { hand = rest }) is

sent-when : (b : Bool) (state : State) → state.is_short ≡ b → kept (sent_state state (turn state)) ≡ sent_state (kept_if b state) (turn (kept_if b state))
sent-when true state is = ap (λ b. kept (sent_state state (turn_of b state.hand state.domains (spots_left state)))) is ∙ bare-sent state state.hand state.domains [] (spots_left state) (spots_left (bare state.hand)) refl is
sent-when false state is = kept_whole (sent_state state (turn state)) (sent_short state (turn state) ∙ is)

pub kept_sent : (state : State) → kept (sent_state state (turn state)) ≡ sent_state (kept state) (turn (kept state))
kept_sent state = sent-when state.is_short state refl

-- ---- whether it is short

pub settled_short : (wiring : Parts) (state : State) (more : List Asked) (reply : Reply) → (settled wiring state more reply).is_short ≡ state.is_short
settled_short wiring state more replies.Done = refl
settled_short wiring state more (replies.Got m) = refl
settled_short wiring state more (replies.Busy t) = refl
settled_short wiring state more (replies.Short n) = refl
settled_short wiring state more (replies.Fired t cuts) = refl
settled_short wiring state more (replies.Dead by) = refl
settled_short wiring state more (replies.Admitted t) = refl
settled_short wiring state more replies.Booked = refl
settled_short wiring state more (replies.Full n) = refl
settled_short wiring state more (replies.Dropped (Some task)) = refl
settled_short wiring state more (replies.Dropped None) = refl
settled_short wiring state more (replies.Taken t) = refl
settled_short wiring state more (replies.Drawn n) = refl
settled_short wiring state more replies.Spent = refl
settled_short wiring state more (replies.Left n) = refl

admit-short : (state : State) (more : List ℕ) (reply : Reply) → (after_admit state more reply).is_short ≡ state.is_short
admit-short state more replies.Done = refl
admit-short state more (replies.Got m) = refl
admit-short state more (replies.Busy t) = refl
admit-short state more (replies.Short n) = refl
admit-short state more (replies.Fired t cuts) = refl
admit-short state more (replies.Dead by) = refl
admit-short state more (replies.Admitted (Some task)) = refl
admit-short state more (replies.Admitted None) = refl
admit-short state more replies.Booked = refl
admit-short state more (replies.Full n) = refl
admit-short state more (replies.Dropped d) = refl
admit-short state more (replies.Taken t) = refl
admit-short state more (replies.Drawn n) = refl
admit-short state more replies.Spent = refl
admit-short state more (replies.Left n) = refl

attempt-short : (wiring : Parts) (actor : ℕ) (state : State) (spot : Spot) (more : List Spot) (reply : Reply) → (after_attempt wiring actor state spot more reply).is_short ≡ state.is_short
attempt-short wiring actor state spot more replies.Done = refl
attempt-short wiring actor state spot more (replies.Got m) = refl
attempt-short wiring actor state spot more (replies.Busy t) = refl
attempt-short wiring actor state spot more (replies.Short n) = refl
attempt-short wiring actor state spot more (replies.Fired t cuts) = refl
attempt-short wiring actor state spot more (replies.Dead by) = refl
attempt-short wiring actor state spot more (replies.Admitted t) = refl
attempt-short wiring actor state spot more replies.Booked = refl
attempt-short wiring actor state spot more (replies.Full n) = refl
attempt-short wiring actor state spot more (replies.Dropped d) = refl
attempt-short wiring actor state spot more (replies.Taken t) = refl
attempt-short wiring actor state spot more (replies.Drawn n) = refl
attempt-short wiring actor state spot more replies.Spent = refl
attempt-short wiring actor state spot more (replies.Left n) = refl

from-short : (wiring : Parts) (state : State) (left queue : ℕ) (parts : List QueuePart) → (take_from wiring state left queue parts).is_short ≡ state.is_short
from-short wiring state left queue [] = refl
from-short wiring state left queue (part ∷ parts) = refl

take-short : (wiring : Parts) (state : State) (left queue : ℕ) (more : List QueuePart) (reply : Reply) → (after_take wiring state left queue more reply).is_short ≡ state.is_short
take-short wiring state left queue more replies.Done = from-short wiring state left (queue + 1) more
take-short wiring state left queue more (replies.Got m) = from-short wiring state left (queue + 1) more
take-short wiring state left queue more (replies.Busy t) = from-short wiring state left (queue + 1) more
take-short wiring state left queue more (replies.Short n) = from-short wiring state left (queue + 1) more
take-short wiring state left queue more (replies.Fired t cuts) = from-short wiring state left (queue + 1) more
take-short wiring state left queue more (replies.Dead by) = from-short wiring state left (queue + 1) more
take-short wiring state left queue more (replies.Admitted t) = from-short wiring state left (queue + 1) more
take-short wiring state left queue more replies.Booked = from-short wiring state left (queue + 1) more
take-short wiring state left queue more (replies.Full n) = from-short wiring state left (queue + 1) more
take-short wiring state left queue more (replies.Dropped d) = from-short wiring state left (queue + 1) more
take-short wiring state left queue more (replies.Taken (Some task)) = refl
take-short wiring state left queue more (replies.Taken None) = from-short wiring state left (queue + 1) more
take-short wiring state left queue more (replies.Drawn n) = from-short wiring state left (queue + 1) more
take-short wiring state left queue more replies.Spent = from-short wiring state left (queue + 1) more
take-short wiring state left queue more (replies.Left n) = from-short wiring state left (queue + 1) more

end-short : (wiring : Parts) (state : State) (task : Task) (end : PlayEnd) → (after_end wiring state task end).is_short ≡ state.is_short
end-short wiring state task plays.Done = refl
end-short wiring state task (plays.Failed value) = refl
end-short wiring state task (plays.Yield site) = refl

play-short : (wiring : Parts) (state : State) (task : Task) (index : ℕ) (play : Play) (posts : List Sent) (reply : Reply) → (after_play wiring state task index play posts reply).is_short ≡ state.is_short
play-short wiring state task index play [] reply = end-short wiring state task play.end
play-short wiring state task index play (sent ∷ posts) replies.Done = refl
play-short wiring state task index play (sent ∷ posts) (replies.Got m) = refl
play-short wiring state task index play (sent ∷ posts) (replies.Busy t) = refl
play-short wiring state task index play (sent ∷ posts) (replies.Short n) = refl
play-short wiring state task index play (sent ∷ posts) (replies.Fired t cuts) = refl
play-short wiring state task index play (sent ∷ posts) (replies.Dead by) = refl
play-short wiring state task index play (sent ∷ posts) (replies.Admitted t) = refl
play-short wiring state task index play (sent ∷ posts) replies.Booked = refl
play-short wiring state task index play (sent ∷ posts) (replies.Full n) = refl
play-short wiring state task index play (sent ∷ posts) (replies.Dropped d) = refl
play-short wiring state task index play (sent ∷ posts) (replies.Taken t) = refl
play-short wiring state task index play (sent ∷ posts) (replies.Drawn n) = refl
play-short wiring state task index play (sent ∷ posts) replies.Spent = refl
play-short wiring state task index play (sent ∷ posts) (replies.Left n) = refl

line-short : (wiring : Parts) (state : State) (index : ℕ) (sents : List Sent) → (after_line wiring state index sents).is_short ≡ state.is_short
line-short wiring state index [] = refl
line-short wiring state index (sent ∷ sents) = refl

round-short : (wiring : Parts) (state : State) (reply : Reply) → (after_round wiring state reply).is_short ≡ state.is_short
round-short wiring state replies.Done = refl
round-short wiring state (replies.Got m) = refl
round-short wiring state (replies.Busy t) = refl
round-short wiring state (replies.Short n) = refl
round-short wiring state (replies.Fired t cuts) = refl
round-short wiring state (replies.Dead by) = refl
round-short wiring state (replies.Admitted t) = refl
round-short wiring state replies.Booked = refl
round-short wiring state (replies.Full n) = refl
round-short wiring state (replies.Dropped d) = refl
round-short wiring state (replies.Taken t) = refl
round-short wiring state (replies.Drawn n) = refl
round-short wiring state replies.Spent = refl
round-short wiring state (replies.Left n) = from-short wiring state n 0 wiring.queues

work-short : (wiring : Parts) (state : State) (work : Work) (reply : Reply) → (after_work wiring state work reply).is_short ≡ state.is_short
work-short wiring state (lines index sents) reply = line-short wiring state index sents
work-short wiring state round reply = round-short wiring state reply
work-short wiring state (taking left queue more) reply = take-short wiring state left queue more reply
work-short wiring state (playing task index play) reply = play-short wiring state task index play play.posts reply
work-short wiring state (posting task index play sent) reply = refl
work-short wiring state (shedding task) reply = refl
work-short wiring state resting reply = refl

in-short : (wiring : Parts) (actor : ℕ) (state : State) (t : Turn) (reply : Reply) → (after_in wiring actor state t reply).is_short ≡ state.is_short
in-short wiring actor state (settle one more) reply = settled_short wiring state more reply
in-short wiring actor state (admit domain more) reply = admit-short state more reply
in-short wiring actor state (drive spot more) reply = attempt-short wiring actor state spot more reply
in-short wiring actor state go_on reply = work-short wiring state state.work reply
in-short wiring actor state stop reply = refl

pub after_short : (wiring : Parts) (actor : ℕ) (state : State) (reply : Reply) → (after wiring actor state reply).is_short ≡ state.is_short
after_short wiring actor state reply = in-short wiring actor state (turn state) reply

-- nor does it change along any replies
pub all_short : (wiring : Parts) (actor : ℕ) (state : State) (given : List Reply) → (after_all wiring actor state given).is_short ≡ state.is_short
all_short wiring actor state [] = refl
all_short wiring actor state (reply ∷ given) = all_short wiring actor (after wiring actor state reply) given ∙ after_short wiring actor state reply

-- ---- after a reply

settled-hand : (wiring : Parts) (one two : State) (more : List Asked) (reply : Reply) → (settled wiring one more reply).hand ≡ (settled wiring two more reply).hand
settled-hand wiring one two more replies.Done = refl
settled-hand wiring one two more (replies.Got m) = refl
settled-hand wiring one two more (replies.Busy t) = refl
settled-hand wiring one two more (replies.Short n) = refl
settled-hand wiring one two more (replies.Fired t cuts) = refl
settled-hand wiring one two more (replies.Dead by) = refl
settled-hand wiring one two more (replies.Admitted t) = refl
settled-hand wiring one two more replies.Booked = refl
settled-hand wiring one two more (replies.Full n) = refl
settled-hand wiring one two more (replies.Dropped (Some task)) = refl
settled-hand wiring one two more (replies.Dropped None) = refl
settled-hand wiring one two more (replies.Taken t) = refl
settled-hand wiring one two more (replies.Drawn n) = refl
settled-hand wiring one two more replies.Spent = refl
settled-hand wiring one two more (replies.Left n) = refl

settled-bare : (wiring : Parts) (one two : State) (more : List Asked) (reply : Reply) → one.is_short ≡ true → two.is_short ≡ true → kept (settled wiring one more reply) ≡ kept (settled wiring two more reply)
settled-bare wiring one two more reply first second = both_short (settled wiring one more reply) (settled wiring two more reply) (settled_short wiring one more reply ∙ first) (settled_short wiring two more reply ∙ second) (settled-hand wiring one two more reply)

settled-when : (b : Bool) (wiring : Parts) (state : State) (reply : Reply) → state.is_short ≡ b → kept (settled wiring (kept_if b state) (kept_if b state).hand reply) ≡ kept (settled wiring state state.hand reply)
settled-when true wiring state reply is = settled-bare wiring (bare state.hand) state state.hand reply refl is
settled-when false wiring state reply is = refl

pub kept_settled : (wiring : Parts) (state : State) (reply : Reply) → kept (settled wiring (kept state) (kept state).hand reply) ≡ kept (settled wiring state state.hand reply)
kept_settled wiring state reply = settled-when state.is_short wiring state reply refl

bare-after : (wiring : Parts) (actor : ℕ) (one two : State) (hand : List Asked) (domains others : List ℕ) (spots more : List Spot) (reply : Reply) → one.is_short ≡ true → two.is_short ≡ true → one.hand ≡ two.hand → kept (after_in wiring actor one (turn_of true hand domains spots) reply) ≡ kept (after_in wiring actor two (turn_of true hand others more) reply)
bare-after wiring actor one two [] domains others spots more reply first second same = both_short one two first second same
bare-after wiring actor one two (ask ∷ hand) domains others spots more reply first second same = settled-bare wiring one two hand reply first second

after-when : (b : Bool) (wiring : Parts) (actor : ℕ) (state : State) (reply : Reply) → state.is_short ≡ b → kept (after wiring actor (kept_if b state) reply) ≡ kept (after wiring actor state reply)
after-when true wiring actor state reply is = bare-after wiring actor (bare state.hand) state state.hand [] state.domains (spots_left (bare state.hand)) (spots_left state) reply refl is refl ∙ ap (λ b. kept (after_in wiring actor state (turn_of b state.hand state.domains (spots_left state)) reply)) (sym is)
after-when false wiring actor state reply is = refl

pub kept_after : (wiring : Parts) (actor : ℕ) (state : State) (reply : Reply) → kept (after wiring actor (kept state) reply) ≡ kept (after wiring actor state reply)
kept_after wiring actor state reply = after-when state.is_short wiring actor state reply refl
