-- An actor follows the list of its steps.
use Rattle.std.proofs.Common.{◌≡◌, ◌⊎◌, ◌≤◌, ◌<◌, ℕ, suc, ◌+◌, Bool, true, false, List, [], ◌∷◌, ◌++◌, length, take, drop, Option, Some, None, Ok, Err, refl, sym, ap, subst, cond, arith, inl, inr, ◌∙◌, append_assoc}
use Rattle.std.specs.Prelude.{◌↔◌}
use Rattle.std.proofs.lemmas.Bool.{le-leb, lt-leb}
use Rattle.std.proofs.lemmas.List.{map-append, take-append-le, drop-append-le, append-nil, length_push, take_all}
use Rattle.std.proofs.lemmas.Grind.{fold-append}
use Rattle.std.proofs.Math.Seq.{drop-length}
use Rattle.ccr_base.specs.declared.list.OutOfMemory.{OutOfMemory}
use Rattle.ccr_base.specs.declared.messages.Sent.{Sent}
use Rattle.ccr_base.specs.declared.tasks.Task.{Task}
use Rattle.ccr_handler.specs.declared.segments.Play.{Play}
use Rattle.ccr_handler.specs.declared.segments.PlayEnd.{PlayEnd}
use Rattle.ccr_handler.specs.declared.segments.PlayEnd.TheVariants as plays
use Rattle.ccr_wiring.specs.declared.parts.Parts.{Parts}
use Rattle.ccr_claim.specs.declared.asks.Asked.{Asked}
use Rattle.ccr_claim.specs.declared.asks.Ask.{Ask}
use Rattle.ccr_claim.specs.declared.asks.Ask.TheVariants as asks
use Rattle.ccr_claim.specs.declared.asks.Reply.{Reply}
use Rattle.ccr_claim.specs.declared.asks.Reply.TheVariants as replies
use Rattle.ccr_claim.specs.Asks.{AreSettling, is_settling, is_refusable, due_of, may_come}
use Rattle.ccr_actor.specs.Acting.{Acting, Asking, quiet, settling, going, asking_of, due_in, is_at_rest, kept, kept_if, rests_by, at_state, started, sent, sent_work, sent_play, sent_state, next as next_of, answered, shortened, state_after_reply, IsAfter}
use Rattle.ccr_actor.specs.Actors.{State, Work, lines, round, taking, playing, posting, shedding, resting, Turn, settle, admit, drive, go_on, stop, turn, asked, ask_in, work_ask, settled, after_in, after, after_all, after_work, after_play, shorten, start, state_after, next}
use Rattle.ccr_actor.specs.Nets.{Step, AreNext, IsProper, replies_of, AreFitting}
use Rattle.ccr_actor.specs.Following.{Follows, IsShortFrom}
use Rattle.ccr_actor.proofs.WhatCountsIsKept.{kept_asked, kept_whole, kept_short, kept_hand, kept_after, after_short, sent_short}
use Rattle.ccr_actor.proofs.HandsSettle.{all_settle, short_settles}
use Rattle.ccr_actor.proofs.TurnsTellStates.{IsTurnOf, turn_is}

-- ---- one step: the ask goes out, and the reply comes in

settled-on : (wiring : Parts) (state : State) (more : List Asked) (reply : Reply) → settled wiring (record state { hand = more }) more reply ≡ settled wiring state more reply
settled-on wiring state more replies.Done = refl
settled-on wiring state more (replies.Got m) = refl
settled-on wiring state more (replies.Busy t) = refl
settled-on wiring state more (replies.Short n) = refl
settled-on wiring state more (replies.Fired t cuts) = refl
settled-on wiring state more (replies.Dead by) = refl
settled-on wiring state more (replies.Admitted t) = refl
settled-on wiring state more replies.Booked = refl
settled-on wiring state more (replies.Full n) = refl
settled-on wiring state more (replies.Dropped (Some task)) = refl
settled-on wiring state more (replies.Dropped None) = refl
settled-on wiring state more (replies.Taken t) = refl
settled-on wiring state more (replies.Drawn n) = refl
settled-on wiring state more replies.Spent = refl
settled-on wiring state more (replies.Left n) = refl

play-on : (wiring : Parts) (state : State) (task : Task) (index : ℕ) (play : Play) (posts : List Sent) (end : PlayEnd) (reply : Reply) → play.posts ≡ posts → play.end ≡ end → state.work ≡ playing task index play
    → after_work wiring (record state { work = sent_play task index play posts end }) (sent_play task index play posts end) reply ≡ after_play wiring state task index play posts reply
play-on wiring state task index play [] plays.Done reply none is at = rw (none) (ap (λ (w : Work). after_play wiring (record state { work = w }) task index play [] reply) (sym at))
play-on wiring state task index play [] (plays.Failed value) reply none is at = rw (none) (ap (λ (w : Work). after_play wiring (record state { work = w }) task index play [] reply) (sym at))
play-on wiring state task index play [] (plays.Yield site) reply none is at = rw (none, is) refl
play-on wiring state task index play (sent ∷ posts) plays.Done reply some is at = rw (some) (ap (λ (w : Work). after_play wiring (record state { work = w }) task index play (sent ∷ posts) reply) (sym at))
play-on wiring state task index play (sent ∷ posts) (plays.Failed value) reply some is at = rw (some) (ap (λ (w : Work). after_play wiring (record state { work = w }) task index play (sent ∷ posts) reply) (sym at))
play-on wiring state task index play (sent ∷ posts) (plays.Yield site) reply some is at = rw (some) (ap (λ (w : Work). after_play wiring (record state { work = w }) task index play (sent ∷ posts) reply) (sym at))

work-on : (wiring : Parts) (state : State) (work : Work) (reply : Reply) → state.work ≡ work → after_work wiring (record state { work = sent_work work }) (sent_work work) reply ≡ after_work wiring state work reply
work-on wiring state (lines index sents) reply at = ap (λ (w : Work). after_work wiring (record state { work = w }) (lines index sents) reply) (sym at)
work-on wiring state round reply at = ap (λ (w : Work). after_work wiring (record state { work = w }) round reply) (sym at)
work-on wiring state (taking left queue more) reply at = ap (λ (w : Work). after_work wiring (record state { work = w }) (taking left queue more) reply) (sym at)
work-on wiring state (playing task index play) reply at = play-on wiring state task index play play.posts play.end reply refl refl at
work-on wiring state (posting task index play sent) reply at = refl
work-on wiring state (shedding task) reply at = ap (λ (w : Work). after_work wiring (record state { work = w }) (shedding task) reply) (sym at)
work-on wiring state resting reply at = ap (λ (w : Work). after_work wiring (record state { work = w }) resting reply) (sym at)

-- the actor in this state, whose ask in this turn is unanswered
abbrev asking-at : Parts → ℕ → State → Turn → Acting
asking-at wiring actor state t = record { wiring = wiring; actor = actor; state = sent_state state t; asking = asking_of t (ask_in wiring actor state t) }

abbrev reached : Acting → Reply → State
reached a reply = state_after_reply a a.asking reply

going-on : (wiring : Parts) (actor : ℕ) (state : State) (work : Work) (one : Asked) (reply : Reply) → state.work ≡ work → turn state ≡ go_on → work_ask actor work ≡ Some one → reached (record { wiring = wiring; actor = actor; state = record state { work = sent_work work }; asking = asking_of go_on (work_ask actor work) }) reply ≡ after_work wiring state work reply
going-on wiring actor state work one reply at goes is =
    let new : State = record state { work = sent_work work } in
    let asks : asking_of go_on (work_ask actor work) ≡ going (due_of one.ask) = ap (asking_of go_on) is in
    subst (λ (asking : Asking). reached (record { wiring = wiring; actor = actor; state = new; asking = asking }) reply ≡ after_work wiring state work reply) (sym asks)
    (ap (λ (t : Turn). after_in wiring actor new t reply) goes ∙ work-on wiring state work reply at)

step-in : (wiring : Parts) (actor : ℕ) (state : State) (t : Turn) (one : Asked) (reply : Reply) → turn state ≡ t → ask_in wiring actor state t ≡ Some one → reached (asking-at wiring actor state t) reply ≡ after_in wiring actor state t reply
step-in wiring actor state (settle first more) one reply goes is = settled-on wiring state more reply
step-in wiring actor state (admit domain more) one reply goes is = ap (λ (t : Turn). after_in wiring actor state t reply) goes
step-in wiring actor state (drive spot more) one reply goes is = ap (λ (t : Turn). after_in wiring actor state t reply) goes
step-in wiring actor state go_on one reply goes is = going-on wiring actor state state.work one reply refl goes is
step-in wiring actor state stop one reply goes is = cc is

-- the state after the reply to the next ask
pub step_is : (wiring : Parts) (actor : ℕ) (state : State) (one : Asked) (reply : Reply) → asked wiring actor state ≡ Some one → reached (asking-at wiring actor state (turn state)) reply ≡ after wiring actor state reply
step_is wiring actor state one reply is = step-in wiring actor state (turn state) one reply refl is

-- ---- running out of memory

-- no ask that settles may be refused
pub never-refused : (ask : Ask) → is_settling ask ≡ true → is_refusable (due_of ask) ≡ true → ⊥
never-refused (asks.Post m) is may = cc is
never-refused (asks.Claim t slot) is may = cc is
never-refused (asks.Consume t) is may = cc may
never-refused (asks.Free t) is may = cc may
never-refused (asks.Commit t m) is may = cc is
never-refused asks.Admit is may = cc is
never-refused (asks.Over t r how) is may = cc may
never-refused (asks.Suspend t) is may = cc is
never-refused (asks.Book t r) is may = cc is
never-refused (asks.Unbook t) is may = cc may
never-refused (asks.Put t) is may = cc may
never-refused asks.Take is may = cc is
never-refused asks.Draw is may = cc is
never-refused asks.Leave is may = cc is
never-refused asks.Left is may = cc is

refused-in : (wiring : Parts) (actor : ℕ) (state : State) (t : Turn) (one : Asked) → IsTurnOf state t → AreSettling state.hand → ask_in wiring actor state t ≡ Some one → is_refusable (due_in (asking_of t (ask_in wiring actor state t))) ≡ true
    → (state.is_short ≡ false) × (kept (shorten wiring actor (sent_state state t)) ≡ kept (shorten wiring actor state))
refused-in wiring actor state (settle first more) one goes all is may = absurd (never-refused first.ask (subst AreSettling goes all).0 may)
refused-in wiring actor state (admit domain more) one goes all is may = (goes.0, refl)
refused-in wiring actor state (drive spot more) one goes all is may = (goes.0, refl)
refused-in wiring actor state go_on one goes all is may = (goes.0, refl)
refused-in wiring actor state stop one goes all is may = cc is

-- ---- the steps

-- a place that lies behind what was replied changes nothing
pub later : (wiring : Parts) (actor n : ℕ) (given : List Reply) → length given < n → state_after wiring actor (Some n) given ≡ state_after wiring actor None given
later wiring actor n given less = ap (λ b. cond b (after_all wiring actor (shorten wiring actor (after_all wiring actor (start wiring actor) (take n given))) (drop n given)) (after_all wiring actor (start wiring actor) given)) (lt-leb n (length given) less)

pub next_later : (wiring : Parts) (actor n : ℕ) (given : List Reply) (steps : List Step) → length given + length steps ≤ n → AreNext wiring actor None given steps → AreNext wiring actor (Some n) given steps
next_later wiring actor n given [] within all = tt
next_later wiring actor n given (step ∷ steps) within all = (
  ap (asked wiring actor) (later wiring actor n given (omega (arith, within))) ∙ all.0,
  next_later wiring actor n (given ++ step.reply ∷ []) steps (let same = length_push given step.reply in omega (arith, within, same)) all.1,
)

pub next_more : (wiring : Parts) (actor : ℕ) (lack : Option ℕ) (given : List Reply) (steps : List Step) (step : Step) → AreNext wiring actor lack given steps → next wiring actor lack (given ++ replies_of steps) ≡ Some step.asked → AreNext wiring actor lack given (steps ++ step ∷ [])
next_more wiring actor lack given [] step all is = (subst (λ (g : List Reply). next wiring actor lack g ≡ Some step.asked) (append-nil given) is, tt)
next_more wiring actor lack given (first ∷ steps) step all is =
    (all.0, next_more wiring actor lack (given ++ first.reply ∷ []) steps step all.1 (subst (λ (g : List Reply). next wiring actor lack g ≡ Some step.asked) (sym (append_assoc given (first.reply ∷ []) (replies_of steps))) is))

-- one more reply
pub after-more : (wiring : Parts) (actor : ℕ) (state : State) (given : List Reply) (reply : Reply) → after_all wiring actor state (given ++ reply ∷ []) ≡ after wiring actor (after_all wiring actor state given) reply
after-more wiring actor state given reply = fold-append (after wiring actor) state given (reply ∷ [])

short-state : (wiring : Parts) (actor n : ℕ) (given : List Reply) → n ≤ length given → state_after wiring actor (Some n) given ≡ after_all wiring actor (shorten wiring actor (after_all wiring actor (start wiring actor) (take n given))) (drop n given)
short-state wiring actor n given within = ap (λ b. cond b (after_all wiring actor (shorten wiring actor (after_all wiring actor (start wiring actor) (take n given))) (drop n given)) (after_all wiring actor (start wiring actor) given)) (le-leb n (length given) within)

-- that the lack, if any, lies within the replies
abbrev IsWithin : Option ℕ → List Reply → Type 0
IsWithin None given = Unit {0}
IsWithin (Some n) given = n ≤ length given

pub state_more : (wiring : Parts) (actor : ℕ) (lack : Option ℕ) (given : List Reply) (reply : Reply) → IsWithin lack given → state_after wiring actor lack (given ++ reply ∷ []) ≡ after wiring actor (state_after wiring actor lack given) reply
state_more wiring actor None given reply within = after-more wiring actor (start wiring actor) given reply
state_more wiring actor (Some n) given reply within =
    let from : List Reply → State = λ g. shorten wiring actor (after_all wiring actor (start wiring actor) g) in
    let longer : n ≤ length (given ++ reply ∷ []) = (let same = length_push given reply in omega (arith, within, same)) in
    short-state wiring actor n (given ++ reply ∷ []) longer
    ∙ (ap (λ (g : List Reply). after_all wiring actor (from g) (drop n (given ++ reply ∷ []))) (take-append-le n given (reply ∷ []) within)
    ∙ (ap (λ (g : List Reply). after_all wiring actor (from (take n given)) g) (drop-append-le n given (reply ∷ []) within)
    ∙ (after-more wiring actor (from (take n given)) (drop n given) reply
    ∙ ap (λ (s : State). after wiring actor s reply) (sym (short-state wiring actor n given within)))))

-- short from here on
pub state_short : (wiring : Parts) (actor : ℕ) (given : List Reply) → state_after wiring actor (Some (length given)) given ≡ shorten wiring actor (state_after wiring actor None given)
state_short wiring actor given =
    short-state wiring actor (length given) given (omega arith)
    ∙ (ap (λ (g : List Reply). after_all wiring actor (shorten wiring actor (after_all wiring actor (start wiring actor) g)) (drop (length given) given)) (take_all (length given) given (omega arith))
    ∙ ap (λ (g : List Reply). after_all wiring actor (shorten wiring actor (after_all wiring actor (start wiring actor) given)) g) (drop-length given))

-- ---- an actor follows

replies-length : (steps : List Step) → length (replies_of steps) ≡ length steps
replies-length [] = refl
replies-length (step ∷ steps) = ap (λ n. suc n) (replies-length steps)

pub replies-more : (steps : List Step) (step : Step) → replies_of (steps ++ step ∷ []) ≡ replies_of steps ++ step.reply ∷ []
replies-more steps step = map-append (λ (s : Step). s.reply) steps (step ∷ [])

within-steps : (lack : Option ℕ) (steps : List Step) (short : Bool) → IsShortFrom lack steps short → IsWithin lack (replies_of steps)
within-steps None steps short is = tt
within-steps (Some n) steps short is = subst (λ m. n ≤ m) (sym (replies-length steps)) is.0

lack-more : (lack : Option ℕ) (steps : List Step) (step : Step) (short other : Bool) → other ≡ short → IsShortFrom lack steps short → IsShortFrom lack (steps ++ step ∷ []) other
lack-more None steps step short other same is = same ∙ is
lack-more (Some n) steps step short other same is = ((let more = length_push steps step in let within = is.0 in omega (arith, within, more)), same ∙ is.1)

-- before its first step
pub follows_started : (wiring : Parts) (actor : ℕ) → Follows wiring actor [] (started wiring actor)
follows_started wiring actor = (None, (tt, (refl, refl)))

-- what it asks next is the next one
pub follows_next : (wiring : Parts) (actor : ℕ) (lack : Option ℕ) (steps : List Step) (a : Acting) (one : Asked) → a ≡ at_state wiring actor (state_after wiring actor lack (replies_of steps)) → next_of a ≡ Some one → next wiring actor lack (replies_of steps) ≡ Some one
follows_next wiring actor lack steps a one is asks = sym (kept_asked wiring actor (state_after wiring actor lack (replies_of steps))) ∙ (sym (ap next_of is) ∙ asks)

pub follows_proper : (wiring : Parts) (actor : ℕ) (steps : List Step) (a : Acting) (one : Asked) → Follows wiring actor steps a → next_of a ≡ Some one → IsProper wiring actor steps one
follows_proper wiring actor steps a one follows asks = (follows.0, follows.1.0, follows_next wiring actor follows.0 steps a one follows.1.1.0 asks)

-- the state that a reply leads to
reached-more : (wiring : Parts) (actor : ℕ) (lack : Option ℕ) (steps : List Step) (step : Step) (a : Acting) → Follows wiring actor steps a → next_of a ≡ Some step.asked → a ≡ at_state wiring actor (state_after wiring actor lack (replies_of steps)) → IsWithin lack (replies_of steps)
    → kept (reached (sent a) step.reply) ≡ kept (state_after wiring actor lack (replies_of (steps ++ step ∷ [])))
reached-more wiring actor lack steps step a follows asks is within =
    let state = state_after wiring actor lack (replies_of steps) in
    let here : asked wiring actor (kept state) ≡ Some step.asked = sym (ap next_of is) ∙ asks in
    ap (λ (x : Acting). kept (reached (sent x) step.reply)) is
    ∙ (ap kept (step_is wiring actor (kept state) step.asked step.reply here)
    ∙ (kept_after wiring actor state step.reply
    ∙ ap kept (sym (ap (state_after wiring actor lack) (replies-more steps step) ∙ state_more wiring actor lack (replies_of steps) step.reply within))))

short-more : (wiring : Parts) (actor : ℕ) (state : State) (one : Asked) (reply : Reply) → asked wiring actor state ≡ Some one → (reached (asking-at wiring actor state (turn state)) reply).is_short ≡ state.is_short
short-more wiring actor state one reply is = ap (λ (s : State). s.is_short) (step_is wiring actor state one reply is) ∙ after_short wiring actor state reply

proper-more : (wiring : Parts) (actor : ℕ) (lack : Option ℕ) (steps : List Step) (step : Step) (a : Acting) → AreNext wiring actor lack [] steps → a ≡ at_state wiring actor (state_after wiring actor lack (replies_of steps)) → next_of a ≡ Some step.asked → AreNext wiring actor lack [] (steps ++ step ∷ [])
proper-more wiring actor lack steps step a all is asks = next_more wiring actor lack [] steps step all (follows_next wiring actor lack steps a step.asked is asks)

answered_is : (wiring : Parts) (actor : ℕ) (lack : Option ℕ) (steps : List Step) (step : Step) (a : Acting) → AreNext wiring actor lack [] steps → a ≡ at_state wiring actor (state_after wiring actor lack (replies_of steps)) → IsShortFrom lack steps a.state.is_short
    → next_of a ≡ Some step.asked → answered (sent a) step.reply ≡ at_state wiring actor (state_after wiring actor lack (replies_of (steps ++ step ∷ [])))
answered_is wiring actor lack steps step a all is from asks =
    let to = reached-more wiring actor lack steps step a (lack, (all, (is, from))) asks is (within-steps lack steps a.state.is_short from) in
    let wiring-is : a.wiring ≡ wiring = ap (λ (x : Acting). x.wiring) is in
    let actor-is : a.actor ≡ actor = ap (λ (x : Acting). x.actor) is in
    let acting : Parts → ℕ → State → Acting = λ w n s. record { wiring = w; actor = n; state = s; asking = quiet } in
    ap (λ (w : Parts). acting w a.actor (kept (reached (sent a) step.reply))) wiring-is
    ∙ (ap (λ (n : ℕ). acting wiring n (kept (reached (sent a) step.reply))) actor-is
    ∙ ap (λ (s : State). acting wiring actor s) to)

-- a reply leaves it as short as it was
still-short : (wiring : Parts) (actor : ℕ) (lack : Option ℕ) (steps : List Step) (step : Step) (a : Acting) → a ≡ at_state wiring actor (state_after wiring actor lack (replies_of steps)) → next_of a ≡ Some step.asked → (answered (sent a) step.reply).state.is_short ≡ a.state.is_short
still-short wiring actor lack steps step a is asks =
    let state = kept (state_after wiring actor lack (replies_of steps)) in
    let here : asked wiring actor state ≡ Some step.asked = sym (ap next_of is) ∙ asks in
    kept_short (reached (sent a) step.reply)
    ∙ (ap (λ (x : Acting). (reached (sent x) step.reply).is_short) is ∙ (short-more wiring actor state step.asked step.reply here ∙ sym (ap (λ (x : Acting). x.state.is_short) is)))

-- short from the last of these steps on
short-from : (wiring : Parts) (actor : ℕ) (steps : List Step) (new : Acting) → AreNext wiring actor None [] steps → new ≡ at_state wiring actor (shorten wiring actor (state_after wiring actor None (replies_of steps))) → Follows wiring actor steps new
short-from wiring actor steps new all is =
    let count = length steps in
    let same : state_after wiring actor (Some count) (replies_of steps) ≡ shorten wiring actor (state_after wiring actor None (replies_of steps)) =
    ap (λ n. state_after wiring actor (Some n) (replies_of steps)) (sym (replies-length steps)) ∙ state_short wiring actor (replies_of steps) in
    (Some count, (next_later wiring actor count [] steps (omega arith) all, (is ∙ ap (at_state wiring actor) (sym same), (omega arith, ap (λ (x : Acting). x.state.is_short) is))))

-- short after a reply
short-then : (wiring : Parts) (actor : ℕ) (lack : Option ℕ) (steps : List Step) (step : Step) (a new : Acting) → AreNext wiring actor lack [] steps → a ≡ at_state wiring actor (state_after wiring actor lack (replies_of steps)) → IsShortFrom lack steps a.state.is_short
    → next_of a ≡ Some step.asked → a.state.is_short ≡ false → new ≡ shortened (answered (sent a) step.reply) → Follows wiring actor (steps ++ step ∷ []) new
short-then wiring actor (Some n) steps step a new all is from asks long so = cc (sym from.1 ∙ long)
short-then wiring actor None steps step a new all is from asks long so =
    let state = state_after wiring actor None (replies_of (steps ++ step ∷ [])) in
    let to : answered (sent a) step.reply ≡ at_state wiring actor state = answered_is wiring actor None steps step a all is from asks in
    let still : state.is_short ≡ false = sym (kept_short state) ∙ (sym (ap (λ (x : Acting). x.state.is_short) to) ∙ (still-short wiring actor None steps step a is asks ∙ long)) in
    short-from wiring actor (steps ++ step ∷ []) new (proper-more wiring actor None steps step a all is asks)
    (so ∙ (ap shortened to ∙ ap (λ (s : State). at_state wiring actor (shorten wiring actor s)) (kept_whole state still)))

by-reply : (wiring : Parts) (actor : ℕ) (steps : List Step) (step : Step) (a new : Acting) → Follows wiring actor steps a → next_of a ≡ Some step.asked
    → (new ≡ answered (sent a) step.reply) ⊎ (((sent a).state.is_short ≡ false) × (new ≡ shortened (answered (sent a) step.reply))) → Follows wiring actor (steps ++ step ∷ []) new
by-reply wiring actor steps step a new (lack, (all, (is, from))) asks (inl so) =
    let same : new.state.is_short ≡ a.state.is_short = ap (λ (x : Acting). x.state.is_short) so ∙ still-short wiring actor lack steps step a is asks in
    (lack, (proper-more wiring actor lack steps step a all is asks, (so ∙ answered_is wiring actor lack steps step a all is from asks, lack-more lack steps step a.state.is_short new.state.is_short same from)))
by-reply wiring actor steps step a new (lack, (all, (is, from))) asks (inr short) =
    short-then wiring actor lack steps step a new all is from asks (sym (sent_short a.state (turn a.state)) ∙ short.0) short.1

-- a reply is one more step
pub follows_reply : (wiring : Parts) (actor : ℕ) (steps : List Step) (a new : Acting) (one : Asked) (reply : Reply) → Follows wiring actor steps a → next_of a ≡ Some one → IsAfter (sent a) (Ok reply) new → Follows wiring actor (steps ++ (record { asked = one; reply = reply }) ∷ []) new
follows_reply wiring actor steps a new one reply follows asks so = by-reply wiring actor steps (record { asked = one; reply = reply }) a new follows asks so

-- ---- a refused ask leaves no step

short-now : (wiring : Parts) (actor : ℕ) (lack : Option ℕ) (steps : List Step) (a new : Acting) → AreNext wiring actor lack [] steps → a ≡ at_state wiring actor (state_after wiring actor lack (replies_of steps)) → IsShortFrom lack steps a.state.is_short → a.state.is_short ≡ false
    → new ≡ at_state wiring actor (shorten wiring actor a.state) → Follows wiring actor steps new
short-now wiring actor (Some n) steps a new all is from long so = cc (sym from.1 ∙ long)
short-now wiring actor None steps a new all is from long so =
    let state = state_after wiring actor None (replies_of steps) in
    let whole : a.state ≡ state = ap (λ (x : Acting). x.state) is ∙ kept_whole state (sym (kept_short state) ∙ (sym (ap (λ (x : Acting). x.state.is_short) is) ∙ long)) in
    short-from wiring actor steps new all (so ∙ ap (λ (s : State). at_state wiring actor (shorten wiring actor s)) whole)

-- an ask that may be refused is no step of the hand
refused-now : (wiring : Parts) (actor : ℕ) (lack : Option ℕ) (steps : List Step) (a : Acting) (one : Asked) → a ≡ at_state wiring actor (state_after wiring actor lack (replies_of steps)) → next_of a ≡ Some one → is_refusable (due_in (sent a).asking) ≡ true
    → (a.state.is_short ≡ false) × (kept (shorten a.wiring a.actor (sent_state a.state (turn a.state))) ≡ kept (shorten a.wiring a.actor a.state))
refused-now wiring actor lack steps a one is asks may =
    let state = state_after wiring actor lack (replies_of steps) in
    let all : AreSettling a.state.hand = subst AreSettling (sym (ap (λ (x : Acting). x.state.hand) is ∙ kept_hand state)) (all_settle wiring actor lack (replies_of steps)) in
    refused-in a.wiring a.actor a.state (turn a.state) one (turn_is a.state) all asks may

by-refusal : (wiring : Parts) (actor : ℕ) (steps : List Step) (a new : Acting) (one : Asked) → Follows wiring actor steps a → next_of a ≡ Some one → is_refusable (due_in (sent a).asking) ≡ true → new ≡ shortened (sent a) → Follows wiring actor steps new
by-refusal wiring actor steps a new one (lack, (all, (is, from))) asks may so =
    let now = refused-now wiring actor lack steps a one is asks may in
    let acting : Parts → ℕ → State → Acting = λ w n s. record { wiring = w; actor = n; state = s; asking = quiet } in
    let same : new ≡ at_state a.wiring a.actor (shorten a.wiring a.actor a.state) = so ∙ ap (λ (s : State). acting a.wiring a.actor s) now.1 in
    let here : new ≡ at_state wiring actor (shorten wiring actor a.state) =
    same ∙ (ap (λ (w : Parts). at_state w a.actor (shorten w a.actor a.state)) (ap (λ (x : Acting). x.wiring) is) ∙ ap (λ (n : ℕ). at_state wiring n (shorten wiring n a.state)) (ap (λ (x : Acting). x.actor) is)) in
    short-now wiring actor lack steps a new all is from now.0 here

pub follows_refusal : (wiring : Parts) (actor : ℕ) (steps : List Step) (a new : Acting) (one : Asked) (refused : OutOfMemory) → Follows wiring actor steps a → next_of a ≡ Some one → may_come (due_in (sent a).asking) (Err refused) ≡ true → IsAfter (sent a) (Err refused) new → Follows wiring actor steps new
follows_refusal wiring actor steps a new one refused follows asks may so = by-refusal wiring actor steps a new one follows asks may so

-- ---- as long as it isn't short, and once it is

pub follows_long : (wiring : Parts) (actor : ℕ) (steps : List Step) (a : Acting) → Follows wiring actor steps a → a.state.is_short ≡ false → AreNext wiring actor None [] steps × (a ≡ at_state wiring actor (state_after wiring actor None (replies_of steps)))
follows_long wiring actor steps a (None, (all, (is, from))) long = (all, is)
follows_long wiring actor steps a (Some n, (all, (is, from))) long = cc (sym from.1 ∙ long)

pub follows_settling : (wiring : Parts) (actor : ℕ) (steps : List Step) (a : Acting) (one : Asked) → Follows wiring actor steps a → a.state.is_short ≡ true → next_of a ≡ Some one → is_settling one.ask ≡ true
follows_settling wiring actor steps a one (None, (all, (is, from))) short asks = cc (sym short ∙ from)
follows_settling wiring actor steps a one (Some n, (all, (is, from))) short asks =
    short_settles wiring actor n (replies_of steps) one (subst (λ m. n ≤ m) (sym (replies-length steps)) from.0) (follows_next wiring actor (Some n) steps a one is asks)

-- ---- rest

pub no-ask : (asking : Asking) (o : Option Asked) → rests_by asking o ≡ true → o ≡ None
no-ask quiet None is = refl
no-ask quiet (Some one) is = absurd cc
no-ask (settling due) None is = refl
no-ask (settling due) (Some one) is = absurd cc
no-ask (going due) None is = refl
no-ask (going due) (Some one) is = absurd cc

-- an actor that isn't short asks what comes next
asks-next : (w : Parts) (k : ℕ) (given : List Reply) (a : Acting) → a ≡ at_state w k (state_after w k None given) → a.state.is_short ≡ false → next_of a ≡ next w k None given
asks-next w k given a is long = by (state_after w k None given).is_short refl
  where
    s : State
    s = state_after w k None given

    by : (b : Bool) → s.is_short ≡ b → next_of a ≡ next w k None given
    by true short = absurd (let lacks : a.state.is_short ≡ true = ap (λ (x : Acting). x.state.is_short) is ∙ ap (λ b. (kept_if b s).is_short) short in cc)
    by false here = let same : kept s ≡ s = ap (λ b. kept_if b s) here in ap next_of is ∙ ap (asked w k) same

-- as long as it isn't short, it is at rest exactly where it has no next step
pub follows_rest : (wiring : Parts) (actor : ℕ) (steps : List Step) (a : Acting) → Follows wiring actor steps a → a.state.is_short ≡ false → (is_at_rest a ≡ true) ↔ (next wiring actor None (replies_of steps) ≡ None)
follows_rest wiring actor steps a follows long =
    let is = (follows_long wiring actor steps a follows long).1 in
    let same = asks-next wiring actor (replies_of steps) a is long in (
      λ rest. sym same ∙ no-ask a.asking (next_of a) rest,
      λ none. ap (λ (x : Acting). rests_by x.asking (next_of a)) is ∙ ap (rests_by quiet) (same ∙ none),
    )

-- steps whose replies fit, and more of them
pub fitting-both : (steps more : List Step) → AreFitting steps → AreFitting more → AreFitting (steps ++ more)
fitting-both [] more all rest = rest
fitting-both (step ∷ steps) more all rest = (all.0, fitting-both steps more all.1 rest)
