-- What an engine keeps, and a run of it from its start to its end.
use Rattle.std.proofs.Common.{◌≡◌, ℕ, ◌+◌, ◌<◌, ◌≤◌, true, false, List, [], ◌∷◌, ◌++◌, length, Option, Some, None, refl, sym, arith, ap, ◌∙◌, subst, append_assoc, append-nil, length-append}
use Rattle.std.specs.Prelude.{IfSome, IfNone, is_some, ◌^◌}
use Rattle.ccr_base.proofs.Options.{not_some}
use Rattle.ccr_wiring.specs.declared.parts.Parts.{Parts}
use Rattle.ccr_wiring.specs.Valid.{IsValid}
use Rattle.ccr_wiring.specs.Openness.{is_closed}
use Rattle.ccr_model.specs.declared.history.Event.{Event}
use Rattle.ccr_model.specs.Firings.{fired}
use Rattle.ccr_model.specs.Legal.{IsAllowed, IsLegal, IsQuiet, is_complete}
use Rattle.ccr_model.specs.Order.{first, next_attempt, with_first, IsOrderedAfter, IsFinished}
use Rattle.ccr_model.proofs.Allowing.{first_allowed}
use Rattle.ccr_model.proofs.QuietAllowsNone.{IsQuiet-first}
use Rattle.ccr_model.proofs.LegalParts.{legal_push}
use Rattle.ccr_laws.specs.Potential.{TakesSome, potential}
use Rattle.ccr_engine.specs.Engine.{Engine, next_event, next_engine, IsSound}
use Rattle.ccr_laws.proofs.Ending.{few_events}
use Rattle.ccr_laws.proofs.Valid.{TakesSome-valid, HasQueues-valid, event_bound-valid}
use Rattle.ccr_engine.proofs.Complete.{is_complete-first}
use Rattle.ccr_engine.proofs.Attempts.{next_attempt-first}

-- a legal history with an event that is allowed is legal
pub IsLegal-push : (w : Parts) (h : List Event) (e : Event) → IsLegal w h → IsAllowed w h e → IsLegal w (h ++ e ∷ [])
IsLegal-push w h e legal allowed = legal_push w [] h e legal allowed

IsOrderedAfter-push : (w : Parts) (c : ℕ) (past es : List Event) (e : Event) → IsOrderedAfter w c past es → first w c (past ++ es) ≡ Some e → IsOrderedAfter w c past (es ++ e ∷ [])
IsOrderedAfter-push w c past [] e ordered is = (subst (λ h. first w c h ≡ Some e) (append-nil past) is, tt)
IsOrderedAfter-push w c past (x ∷ es) e ordered is = (ordered.0, IsOrderedAfter-push w c (past ++ x ∷ []) es e ordered.1 (rw (append_assoc past (x ∷ []) es) is))

some_if : (P : Event → Type 0) (o : Option Event) (e : Event) → o ≡ Some e → IfSome o P → P e
some_if P None e is p = absurd (cc)
some_if P (Some x) e is p = let same : x ≡ e = cc in subst P same p

-- what comes first goes on with a legal history
pub IsLegal-first : (w : Parts) (c : ℕ) (h : List Event) (e : Event) → length w.posters ≤ c → c ≤ 32 → IsLegal w h → first w c h ≡ Some e → IsLegal w (h ++ e ∷ [])
IsLegal-first w c h e high low legal is = IsLegal-push w h e legal (some_if (IsAllowed w h) (first w c h) e is (first_allowed w c h high low legal))

-- fewer events are to come after each that is allowed
pub potential-push : (w : Parts) → TakesSome w → is_closed w ≡ true → (h : List Event) (e : Event) → IsLegal w (h ++ e ∷ []) → potential w (h ++ e ∷ []) < potential w h
potential-push w some closed h e legal = omega (arith, few_events w some closed (h ++ e ∷ []) legal, length-append h (e ∷ []))

-- a sound engine's history is short, and its closer's next attempt fits
pub IsSound-short : (s : Engine) → IsSound s → length s.history ≤ 120000
IsSound-short s sound = omega (arith, few_events s.wiring (TakesSome-valid s.wiring sound.valid) sound.closed s.history sound.legal, event_bound-valid s.wiring sound.valid sound.closed)

pub IsSound-attempts : (s : Engine) → IsSound s → next_attempt s.closer (fired s.history) < 2 ^ 32
IsSound-attempts s sound = omega (arith, sound.attempts, IsSound-short s sound)

pub IsSound-start : (w : Parts) (c : ℕ) → IsValid w → is_closed w ≡ true → length w.posters ≤ c → c ≤ 32 → IsSound (record { wiring = w; closer = c; history = [] })
IsSound-start w c valid closed high low = record { valid = valid; closed = closed; high = high; low = low; legal = tt; attempts = omega arith }

few_attempts : (c : ℕ) (h : List Event) → next_attempt c (fired h) ≤ 2 ^ 31 → next_attempt c (fired h) < 2 ^ 31 + length h
few_attempts c [] few = omega arith
few_attempts c (e ∷ h) few = omega (arith, few)

pub IsSound-resume : (w : Parts) (c : ℕ) (h : List Event) → IsValid w → is_closed w ≡ true → length w.posters ≤ c → c ≤ 32 → IsLegal w h → next_attempt c (fired h) ≤ 2 ^ 31 → IsSound (record { wiring = w; closer = c; history = h })
IsSound-resume w c h valid closed high low legal few = record { valid = valid; closed = closed; high = high; low = low; legal = legal; attempts = few_attempts c h few }

-- the event that comes next leaves an engine sound
pub IsSound-event : (s : Engine) → IsSound s → (e : Event) → next_event s ≡ Some e → IsSound (record s { history = s.history ++ e ∷ [] })
unfolding next_event
IsSound-event s sound e is =
    let attempt = some_if (λ x. next_attempt s.closer (fired (s.history ++ x ∷ [])) ≤ next_attempt s.closer (fired s.history) + 1) (next_event s) e is (next_attempt-first s.wiring s.closer s.history) in
    record {
      valid = sound.valid;
      closed = sound.closed;
      high = sound.high;
      low = sound.low;
      legal = IsLegal-first s.wiring s.closer s.history e sound.high sound.low sound.legal is;
      attempts = omega (arith, sound.attempts, attempt, length-append s.history (e ∷ []));
    }

pub IsSound-pushed : (s : Engine) → IsSound s → (e : Event) → next_event s ≡ Some e → (h : List Event) → h ≡ s.history ++ e ∷ [] → IsSound (record s { history = h })
IsSound-pushed s sound e is h more = rw more (IsSound-event s sound e is)

pub IsSound-fits : (s : Engine) → IsSound s → (e : Event) → next_event s ≡ Some e → next_attempt s.closer (fired (s.history ++ e ∷ [])) < 2 ^ 32
IsSound-fits s sound e is = IsSound-attempts (record s { history = s.history ++ e ∷ [] }) (IsSound-event s sound e is)

-- what comes next is allowed, and where nothing does, nothing is
pub IsAllowed-next : (s : Engine) → IsSound s → (e : Event) → next_event s ≡ Some e → IsAllowed s.wiring s.history e
unfolding next_event
IsAllowed-next s sound e is = some_if (IsAllowed s.wiring s.history) (first s.wiring s.closer s.history) e is (first_allowed s.wiring s.closer s.history sound.high sound.low sound.legal)

pub IsQuiet-next : (s : Engine) → IsSound s → next_event s ≡ None → IsQuiet s.wiring s.history
unfolding next_event
IsQuiet-next s sound is = IsQuiet-first s.wiring s.closer s.history (HasQueues-valid s.wiring sound.valid) sound.closed is

pub IsSound-next : (s n : Engine) → IsSound s → n ≡ next_engine s → IsSound n
IsSound-next s n sound is = rw is (of_next (next_event s) refl)
  where
    of_next : (o : Option Event) → next_event s ≡ o → IsSound (record s { history = with_first s.history o })
    of_next None none = sound
    of_next (Some e) some = IsSound-event s sound e some

-- what comes next stands at the end of the history
pub entered_history : (s x n : Engine) (e : Event) → x ≡ s → n ≡ next_engine x → next_event s ≡ Some e → n.history ≡ s.history ++ e ∷ []
entered_history s x n e same next is = rw (next, same, is) refl

-- the same of what is answered
pub allowed-next : (s : Engine) → IsSound s → (o : Option Event) → o ≡ next_event s → IfSome o (IsAllowed s.wiring s.history)
unfolding next_event
allowed-next s sound o is = subst (λ x. IfSome x (IsAllowed s.wiring s.history)) (sym is) (first_allowed s.wiring s.closer s.history sound.high sound.low sound.legal)

pub quiet-next : (s : Engine) → IsSound s → (o : Option Event) → o ≡ next_event s → IfNone o (IsQuiet s.wiring s.history)
quiet-next s sound None is = IsQuiet-next s sound (sym is)
quiet-next s sound (Some e) is = tt

-- a run in the order has come from the one engine to the other
pub record GoesFrom (start now : Engine) : Type 0 where
  pub wiring : now.wiring ≡ start.wiring
  pub closer : now.closer ≡ start.closer
  pub more : List Event
  pub begins : now.history ≡ start.history ++ more
  pub ordered : IsOrderedAfter start.wiring start.closer start.history more

goes_on : (start s : Engine) → GoesFrom start s → (e : Event) → next_event s ≡ Some e → GoesFrom start (record s { history = s.history ++ e ∷ [] })
unfolding next_event
goes_on start s goes e is =
    let is_so : first start.wiring start.closer s.history ≡ Some e = rw (← goes.wiring, ← goes.closer) is in
    let next : first start.wiring start.closer (start.history ++ goes.more) ≡ Some e = subst (λ h. first start.wiring start.closer h ≡ Some e) goes.begins is_so in
    record {
      wiring = goes.wiring;
      closer = goes.closer;
      more = goes.more ++ e ∷ [];
      begins = ap (λ h. h ++ e ∷ []) goes.begins ∙ append_assoc start.history goes.more (e ∷ []);
      ordered = IsOrderedAfter-push start.wiring start.closer start.history goes.more e goes.ordered next;
    }

with_one : (P : List Event → Type 0) (h : List Event) (o : Option Event) → is_some o ≡ true → ((e : Event) → o ≡ Some e → P (h ++ e ∷ [])) → P (with_first h o)
with_one P h None some each = absurd (cc)
with_one P h (Some e) some each = each e refl

-- a step goes on with the run, with fewer events to come
pub GoesFrom-next : (start s next : Engine) → IsSound next → GoesFrom start s → is_some (next_event s) ≡ true → next ≡ next_engine s → GoesFrom start next × (potential start.wiring next.history < potential start.wiring s.history)
GoesFrom-next start s next sound goes some is = rw is (with_one (λ h. IsSound (record s { history = h }) → GoesFrom start (record s { history = h }) × (potential start.wiring h < potential start.wiring s.history)) s.history (next_event s) some of_event (subst IsSound is sound))
  where
    of_event : (e : Event) → next_event s ≡ Some e → IsSound (record s { history = s.history ++ e ∷ [] }) → GoesFrom start (record s { history = s.history ++ e ∷ [] }) × (potential start.wiring (s.history ++ e ∷ []) < potential start.wiring s.history)
    of_event e some sound = (goes_on start s goes e some, rw (← goes.wiring) (potential-push s.wiring (TakesSome-valid s.wiring sound.valid) sound.closed s.history e sound.legal))

-- what is said of the history where nothing comes next
pub record IsDone (start : Engine) (h : List Event) : Type 0 where
  pub finished : IsFinished start.wiring start.closer start.history h
  pub legal : IsLegal start.wiring h
  pub complete : is_complete start.wiring h ≡ true
  pub quiet : IsQuiet start.wiring h

done : (start s : Engine) → IsSound s → GoesFrom start s → next_event s ≡ None → IsDone start s.history
unfolding next_event
done start s sound goes is = record {
  finished = record { more = goes.more; begins = goes.begins; ordered = goes.ordered; ended = rw (← goes.wiring, ← goes.closer) is };
  legal = rw (← goes.wiring) sound.legal;
  complete = rw (← goes.wiring) (is_complete-first s.wiring sound.closed s.closer s.history sound.legal is);
  quiet = rw (← goes.wiring) (IsQuiet-next s sound is);
}

-- where a step finds nothing, the run is done
pub IsDone-next : (start s next : Engine) → IsSound next → GoesFrom start s → is_some (next_event s) ≡ false → next ≡ next_engine s → IsDone start next.history
IsDone-next start s next sound goes none is =
    let nothing : next_event s ≡ None = not_some (next_event s) none in
    let stays : next ≡ s = is ∙ rw nothing refl in
    rw stays (done start s (subst IsSound stays sound) goes nothing)
