-- What an attempt has in hand: asks that are only settled, and a put as the last at most; and which replies come to an ask.
use Rattle.std.proofs.Common.{◌≡◌, ◌⊎◌, inl, inr, true, false, List, [], ◌∷◌, ◌++◌, map, reverse, Option, Some, None, refl}
use Rattle.ccr_base.specs.declared.names.TaskId.{TaskId}
use Rattle.ccr_base.specs.declared.tasks.Cut.{Cut}
use Rattle.ccr_base.specs.declared.tasks.Task.{Task}
use Rattle.ccr_claim.specs.declared.asks.Asked.{Asked}
use Rattle.ccr_claim.specs.declared.asks.Due.TheVariants as dues
use Rattle.ccr_claim.specs.declared.asks.Reply.{Reply}
use Rattle.ccr_claim.specs.declared.asks.Reply.TheVariants as replies
use Rattle.ccr_claim.specs.declared.plan.ClaimPlan.{ClaimPlan}
use Rattle.ccr_claim.specs.declared.plan.Had.{Had}
use Rattle.ccr_claim.specs.Asks.{due_of, fits}
use Rattle.ccr_claim.specs.Attempts.{Phase, booking, claiming, free_ask, consume_ask, unbook_ask, cut_ask, put_asks, release, firing_hand}
use Rattle.ccr_rests.specs.Trials.{is_of_attempt}

-- each but the last is replied that it is done; the last may be a put
abbrev pub IsOrdered : List Asked → Type 0
IsOrdered [] = Unit {0}
IsOrdered (one ∷ []) = (due_of one.ask ≡ dues.Settled) ⊎ (due_of one.ask ≡ dues.Put)
IsOrdered (one ∷ two ∷ more) = (due_of one.ask ≡ dues.Settled) × IsOrdered (two ∷ more)

in-front : (one : Asked) (more : List Asked) → due_of one.ask ≡ dues.Settled → IsOrdered more → IsOrdered (one ∷ more)
in-front one [] is all = inl is
in-front one (two ∷ more) is all = (is, all)

frees : (task : TaskId) (had : List Had) (more : List Asked) → IsOrdered more → IsOrdered (map (free_ask task) had ++ more)
frees task [] more all = all
frees task (one ∷ had) more all = in-front (free_ask task one) (map (free_ask task) had ++ more) refl (frees task had more all)

consumes : (task : TaskId) (had : List Had) (more : List Asked) → IsOrdered more → IsOrdered (map (consume_ask task) had ++ more)
consumes task [] more all = all
consumes task (one ∷ had) more all = in-front (consume_ask task one) (map (consume_ask task) had ++ more) refl (consumes task had more all)

cuts-first : (cuts : List Cut) (more : List Asked) → IsOrdered more → IsOrdered (map cut_ask cuts ++ more)
cuts-first [] more all = all
cuts-first (cut ∷ cuts) more all = in-front (cut_ask cut) (map cut_ask cuts ++ more) refl (cuts-first cuts more all)

put-last : (task : Option Task) → IsOrdered (put_asks task)
put-last None = tt
put-last (Some task) = inr refl

pub release_ordered : (plan : ClaimPlan) (task : TaskId) (phase : Phase) → IsOrdered (release plan task phase)
release_ordered plan task booking = tt
release_ordered plan task (claiming slots had) = frees task (reverse had) (unbook_ask plan.queue task ∷ []) (inl refl)

pub firing_ordered : (name : TaskId) (had : List Had) (task : Option Task) (cuts : List Cut) → IsOrdered (firing_hand name had task cuts)
firing_ordered name had task cuts = consumes name had (map cut_ask cuts ++ put_asks task) (cuts-first cuts (put_asks task) (put-last task))

-- ---- what is in hand between attempts

-- a put, or the end of a dropped task, and nothing else
abbrev pub IsBetween : List Asked → Type 0
IsBetween [] = Unit {0}
IsBetween (one ∷ []) = is_of_attempt one.ask ≡ false
IsBetween (one ∷ two ∷ more) = ⊥

-- ---- replies

pub done_alone : (reply : Reply) → fits dues.Settled reply ≡ true → reply ≡ replies.Done
done_alone replies.Done is = refl
done_alone (replies.Got m) is = cc is
done_alone (replies.Busy t) is = cc is
done_alone (replies.Short n) is = cc is
done_alone (replies.Fired t cuts) is = cc is
done_alone (replies.Dead by) is = cc is
done_alone (replies.Admitted t) is = cc is
done_alone replies.Booked is = cc is
done_alone (replies.Full n) is = cc is
done_alone (replies.Dropped t) is = cc is
done_alone (replies.Taken t) is = cc is
done_alone (replies.Drawn n) is = cc is
done_alone replies.Spent is = cc is
done_alone (replies.Left n) is = cc is

pub dropped_alone : (reply : Reply) → fits dues.Put reply ≡ true → (dropped : Option Task) × (reply ≡ replies.Dropped dropped)
dropped_alone replies.Done is = cc is
dropped_alone (replies.Got m) is = cc is
dropped_alone (replies.Busy t) is = cc is
dropped_alone (replies.Short n) is = cc is
dropped_alone (replies.Fired t cuts) is = cc is
dropped_alone (replies.Dead by) is = cc is
dropped_alone (replies.Admitted t) is = cc is
dropped_alone replies.Booked is = cc is
dropped_alone (replies.Full n) is = cc is
dropped_alone (replies.Dropped t) is = (t, refl)
dropped_alone (replies.Taken t) is = cc is
dropped_alone (replies.Drawn n) is = cc is
dropped_alone replies.Spent is = cc is
dropped_alone (replies.Left n) is = cc is
