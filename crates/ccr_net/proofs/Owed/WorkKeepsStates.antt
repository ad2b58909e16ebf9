-- What stays of a state while its actor goes on with its work.
use Rattle.std.proofs.Common.{inl, inr, ◌⊎◌, ◌≡◌, ℕ, ◌+◌, Bool, true, false, not, ◌&&◌, List, [], ◌∷◌, ◌++◌, length, Some, None, refl, sym, ap, ◌∙◌}
use Rattle.std.specs.Prelude.{if◌then◌else◌, ◌==◌, ◌||◌, nat_le, nat_lt}
use Rattle.std.specs.List.{list_any}
use Rattle.ccr_base.specs.declared.messages.Sent.{Sent}
use Rattle.ccr_base.specs.declared.tasks.Task.{Task}
use Rattle.ccr_handler.specs.declared.segments.Play.{Play}
use Rattle.ccr_handler.specs.declared.segments.PlayEnd.{PlayEnd}
use Rattle.ccr_handler.specs.declared.segments.PlayEnd.TheVariants as plays
use Rattle.ccr_wiring.specs.declared.parts.Parts.{Parts}
use Rattle.ccr_wiring.specs.declared.parts.QueuePart.{QueuePart}
use Rattle.ccr_model.proofs.Members.{Among, Among-either}
use Rattle.ccr_claim.specs.declared.asks.Reply.{Reply}
use Rattle.ccr_claim.specs.declared.asks.Reply.TheVariants as replies
use Rattle.ccr_actor.specs.Plans.{is_interleave_number}
use Rattle.ccr_actor.specs.Actors.{State, Work, lines, round, taking, playing, posting, shedding, resting, after_work, after_round, after_take, after_play, after_end, after_over, take_from, rest_or_round, next_round, add_domain}

-- the numbers are of domains of Interleaves
abbrev pub AreInterleaves : Parts → List ℕ → Type 0
AreInterleaves w numbers = (i : ℕ) → Among i numbers → is_interleave_number w i ≡ true

-- a poster that isn't through
abbrev pub is_scripted : Work → Bool
is_scripted (lines index sents) = true
is_scripted round = false
is_scripted (taking left queue queues) = false
is_scripted (playing task index play) = false
is_scripted (posting task index play sent) = false
is_scripted (shedding task) = false
is_scripted resting = false

-- a poster at the end of its script leaves, and nobody else is through with one
abbrev pub LeavesBy : Work → Work → Type 0
LeavesBy before next = (is_scripted next ≡ is_scripted before) ⊎ ((index : ℕ) × (before ≡ lines index []) × (is_scripted next ≡ false))

pub record Worked (w : Parts) (st next : State) : Type 0 where
  pub hand : next.hand ≡ st.hand
  pub phase : next.phase ≡ st.phase
  pub attempt : next.attempt ≡ st.attempt
  pub numbers : AreInterleaves w st.domains → AreInterleaves w next.domains
  pub leaves : LeavesBy st.work next.work

pub add_interleave : (w : Parts) (i : ℕ) (numbers : List ℕ) → AreInterleaves w numbers → AreInterleaves w (add_domain w i numbers)
add_interleave w i numbers are = by (is_interleave_number w i) refl (list_any (λ other. other == i) numbers)
  where
    by : (b : Bool) → is_interleave_number w i ≡ b → (c : Bool) → AreInterleaves w (if b && not c then numbers ++ i ∷ [] else numbers)
    by false is c = are
    by true is true = are
    by true is false = λ j among. of_split j (Among-either j numbers (i ∷ []) among)
      where
        of_split : (j : ℕ) → Among j numbers ⊎ Among j (i ∷ []) → is_interleave_number w j ≡ true
        of_split j (inl old) = are j old
        of_split j (inr (inl e)) = ap (is_interleave_number w) e ∙ is
        of_split j (inr (inr none)) = absurd none

next_round-unscripted : (taken : ℕ) → is_scripted (next_round taken) ≡ false
next_round-unscripted taken = by (nat_lt taken 32768)
  where
    by : (b : Bool) → is_scripted (if b then round else resting) ≡ false
    by true = refl
    by false = refl

rests : (w : Parts) (st : State) (left : ℕ) → is_scripted st.work ≡ false → Worked w st (rest_or_round w st left)
rests w st left none = record { hand = refl; phase = refl; attempt = refl; numbers = λ are. are; leaves = inl (by ((left == length w.posters) || nat_le 10000 (st.empty + 1)) ∙ sym none) }
  where
    by : (b : Bool) → is_scripted (if b then resting else round) ≡ false
    by true = refl
    by false = refl

takes_from : (w : Parts) (st : State) (left queue : ℕ) (parts : List QueuePart) → is_scripted st.work ≡ false → Worked w st (take_from w st left queue parts)
takes_from w st left queue [] none = rests w st left none
takes_from w st left queue (part ∷ parts) none = record { hand = refl; phase = refl; attempt = refl; numbers = λ are. are; leaves = inl (sym none) }

stays : (w : Parts) (st : State) → Worked w st st
stays w st = record { hand = refl; phase = refl; attempt = refl; numbers = λ are. are; leaves = inl refl }

overs : (w : Parts) (st : State) (task : Task) → is_scripted st.work ≡ false → Worked w st (after_over w st task)
overs w st task none = record { hand = refl; phase = refl; attempt = refl; numbers = add_interleave w task.arbiter st.domains; leaves = inl (next_round-unscripted st.taken ∙ sym none) }

ends : (w : Parts) (st : State) (task : Task) (end : PlayEnd) → is_scripted st.work ≡ false → Worked w st (after_end w st task end)
ends w st task plays.Done none = overs w st task none
ends w st task (plays.Failed value) none = overs w st task none
ends w st task (plays.Yield site) none = record { hand = refl; phase = refl; attempt = refl; numbers = λ are. are; leaves = inl (next_round-unscripted st.taken ∙ sym none) }

rounds : (w : Parts) (st : State) (r : Reply) → is_scripted st.work ≡ false → Worked w st (after_round w st r)
rounds w st replies.Done none = stays w st
rounds w st (replies.Got ms) none = stays w st
rounds w st (replies.Busy u) none = stays w st
rounds w st (replies.Short k) none = stays w st
rounds w st (replies.Fired u cs) none = stays w st
rounds w st (replies.Dead by) none = stays w st
rounds w st (replies.Admitted u) none = stays w st
rounds w st replies.Booked none = stays w st
rounds w st (replies.Full k) none = stays w st
rounds w st (replies.Dropped u) none = stays w st
rounds w st (replies.Taken u) none = stays w st
rounds w st (replies.Drawn k) none = stays w st
rounds w st replies.Spent none = stays w st
rounds w st (replies.Left k) none = takes_from w st k 0 w.queues none

takes : (w : Parts) (st : State) (left queue : ℕ) (more : List QueuePart) (r : Reply) → is_scripted st.work ≡ false → Worked w st (after_take w st left queue more r)
takes w st left queue more replies.Done none = takes_from w st left (queue + 1) more none
takes w st left queue more (replies.Got ms) none = takes_from w st left (queue + 1) more none
takes w st left queue more (replies.Busy u) none = takes_from w st left (queue + 1) more none
takes w st left queue more (replies.Short k) none = takes_from w st left (queue + 1) more none
takes w st left queue more (replies.Fired u cs) none = takes_from w st left (queue + 1) more none
takes w st left queue more (replies.Dead by) none = takes_from w st left (queue + 1) more none
takes w st left queue more (replies.Admitted u) none = takes_from w st left (queue + 1) more none
takes w st left queue more replies.Booked none = takes_from w st left (queue + 1) more none
takes w st left queue more (replies.Full k) none = takes_from w st left (queue + 1) more none
takes w st left queue more (replies.Dropped u) none = takes_from w st left (queue + 1) more none
takes w st left queue more (replies.Taken None) none = takes_from w st left (queue + 1) more none
takes w st left queue more (replies.Taken (Some task)) none = record { hand = refl; phase = refl; attempt = refl; numbers = λ are. are; leaves = inl (sym none) }
takes w st left queue more (replies.Drawn k) none = takes_from w st left (queue + 1) more none
takes w st left queue more replies.Spent none = takes_from w st left (queue + 1) more none
takes w st left queue more (replies.Left k) none = takes_from w st left (queue + 1) more none

plays_on : (w : Parts) (st : State) (task : Task) (index : ℕ) (play : Play) (posts : List Sent) (r : Reply) → is_scripted st.work ≡ false → Worked w st (after_play w st task index play posts r)
plays_on w st task index play [] r none = ends w st task play.end none
plays_on w st task index play (sent ∷ posts) replies.Done none = record { hand = refl; phase = refl; attempt = refl; numbers = λ are. are; leaves = inl (sym none) }
plays_on w st task index play (sent ∷ posts) (replies.Got ms) none = record { hand = refl; phase = refl; attempt = refl; numbers = λ are. are; leaves = inl (sym none) }
plays_on w st task index play (sent ∷ posts) (replies.Busy u) none = record { hand = refl; phase = refl; attempt = refl; numbers = λ are. are; leaves = inl (sym none) }
plays_on w st task index play (sent ∷ posts) (replies.Short k) none = record { hand = refl; phase = refl; attempt = refl; numbers = λ are. are; leaves = inl (sym none) }
plays_on w st task index play (sent ∷ posts) (replies.Fired u cs) none = record { hand = refl; phase = refl; attempt = refl; numbers = λ are. are; leaves = inl (sym none) }
plays_on w st task index play (sent ∷ posts) (replies.Dead by) none = record { hand = refl; phase = refl; attempt = refl; numbers = λ are. are; leaves = inl (sym none) }
plays_on w st task index play (sent ∷ posts) (replies.Admitted u) none = record { hand = refl; phase = refl; attempt = refl; numbers = λ are. are; leaves = inl (sym none) }
plays_on w st task index play (sent ∷ posts) replies.Booked none = record { hand = refl; phase = refl; attempt = refl; numbers = λ are. are; leaves = inl (sym none) }
plays_on w st task index play (sent ∷ posts) (replies.Full k) none = record { hand = refl; phase = refl; attempt = refl; numbers = λ are. are; leaves = inl (sym none) }
plays_on w st task index play (sent ∷ posts) (replies.Dropped u) none = record { hand = refl; phase = refl; attempt = refl; numbers = λ are. are; leaves = inl (sym none) }
plays_on w st task index play (sent ∷ posts) (replies.Taken u) none = record { hand = refl; phase = refl; attempt = refl; numbers = λ are. are; leaves = inl (sym none) }
plays_on w st task index play (sent ∷ posts) (replies.Drawn k) none = record { hand = refl; phase = refl; attempt = refl; numbers = λ are. are; leaves = inl (sym none) }
plays_on w st task index play (sent ∷ posts) replies.Spent none = record { hand = refl; phase = refl; attempt = refl; numbers = λ are. are; leaves = inl (sym none) }
plays_on w st task index play (sent ∷ posts) (replies.Left k) none = record { hand = refl; phase = refl; attempt = refl; numbers = λ are. are; leaves = inl (sym none) }

pub worked : (w : Parts) (st : State) (wk : Work) → st.work ≡ wk → (r : Reply) → Worked w st (after_work w st wk r)
worked w st (lines index []) is r = record { hand = refl; phase = refl; attempt = refl; numbers = λ are. are; leaves = inr (index, is, refl) }
worked w st (lines index (sent ∷ sents)) is r = record { hand = refl; phase = refl; attempt = refl; numbers = λ are. are; leaves = inl (sym (ap is_scripted is)) }
worked w st round is r = rounds w st r (ap is_scripted is)
worked w st (taking left queue more) is r = takes w st left queue more r (ap is_scripted is)
worked w st (playing task index play) is r = plays_on w st task index play play.posts r (ap is_scripted is)
worked w st (posting task index play sent) is r = record { hand = refl; phase = refl; attempt = refl; numbers = λ are. are; leaves = inl (sym (ap is_scripted is)) }
worked w st (shedding task) is r = overs w st task (ap is_scripted is)
worked w st resting is r = stays w st
