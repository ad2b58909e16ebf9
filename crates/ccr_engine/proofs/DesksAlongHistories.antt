-- The desk along a legal history.
use Rattle.std.proofs.Common.{◌≡◌, ◌∙◌, ℕ, ◌+◌, ◌<◌, ◌≤◌, true, List, [], ◌∷◌, ◌++◌, take, drop, Option, Some, refl, sym, subst, arith, append_assoc}
use Rattle.std.specs.Prelude.{◌^◌}
use Rattle.std.specs.List.{slice_get}
use Rattle.std.proofs.lemmas.Bool.Decides.{nat_tests}
use Rattle.std.proofs.lemmas.List.{map-append}
use Rattle.ccr_base.specs.declared.names.TaskId.{TaskId}
use Rattle.ccr_base.proofs.Lists.{take_more}
use Rattle.ccr_base.proofs.Options.{parted}
use Rattle.ccr_wiring.specs.declared.parts.Parts.{Parts}
use Rattle.ccr_wiring.specs.Wirings.{spots}
use Rattle.ccr_wiring.specs.Valid.{IsValid}
use Rattle.ccr_model.specs.declared.history.Event.{Event}
use Rattle.ccr_model.specs.Firings.{Firing, firings, fired}
use Rattle.ccr_model.specs.Legal.{IsAllowed, IsLegal}
use Rattle.ccr_model.specs.Order.{next_attempt}
use Rattle.ccr_model.proofs.LegalParts.{Parted-legal}
use Rattle.ccr_model.proofs.Stable.{firings-append}
use Rattle.ccr_ledger.proofs.EventsKeepTables.{keeps-none, keeps-event}
use Rattle.ccr_engine.specs.Desk.{Desk, Stands, TablesTell, Follows, IsAhead, IsIdle, after_attempt, empty_desk, first_in}
use Rattle.ccr_engine.specs.Engine.{next_event}
use Rattle.ccr_engine.specs.Cursor.{could_fire}
use Rattle.ccr_engine.proofs.DeskSteps.{attempt_kept, stands-event}
use Rattle.ccr_engine.proofs.Firsts.{first_told, idle_stands, stands_ahead}
use Rattle.ccr_engine.proofs.Telling.{TablesTell-keeps}
use Rattle.ccr_engine.proofs.Gaining.{passes-never}
use Rattle.ccr_engine.proofs.Beginning.{nothing_fires}
use Rattle.ccr_engine.proofs.Blocking.{AreBlocked-none}

told_by : (w : Parts) → IsValid w → (c : ℕ) (h : List Event) (d : Desk) → IsLegal w h → Stands w c h d → TablesTell w h d.books
told_by w valid c h d legal stands = TablesTell-keeps w valid h legal d.books stands.books

pub stands_next : (w : Parts) → IsValid w → (c : ℕ) (h : List Event) (e : Event) (old new : Desk) → IsLegal w h → IsAllowed w h e → Stands w c h old → Follows w c e old new → Stands w c (h ++ e ∷ []) new
stands_next w valid c h e old new legal allowed stands follows = stands-event w c h e old new legal allowed (told_by w valid c h old legal stands) (keeps-event w valid h e old.books legal allowed stands.books) stands follows

pub stands_none : (w : Parts) → IsValid w → (c : ℕ) → Stands w c [] (empty_desk w)
stands_none w valid c = record { books = keeps-none w; attempt = refl; poster = done w.posters; touched = λ n out free. passes-never (could_fire w []) (spots w) (nothing_fires w valid) n; lowest = λ n at. absurd (cc); blocked = AreBlocked-none w; domains = λ n out low. refl; lowest_domain = λ n at. absurd (cc); ready = λ n. refl; least = λ n at. absurd (cc); queues = λ n out low. refl; lowest_queue = λ n at. absurd (cc) }
  where
    done : {X : Type 0} (ps : List X) → true ≡ true
    done ps = refl

pub stands_on : (w : Parts) → IsValid w → (c : ℕ) (es : List Event) (i : ℕ) (e : Event) (old new : Desk) → IsLegal w es → slice_get es i ≡ Some e → Stands w c (take i es) old → Follows w c e old new → Stands w c (take (i + 1) es) new
stands_on w valid c es i e old new legal at stands follows =
    let parts = Parted-legal w (take i es) e (drop (i + 1) es) (subst (IsLegal w) (parted es i e at) legal) in
    subst (λ h. Stands w c h new) (sym (take_more es i e at)) (stands_next w valid c (take i es) e old new parts.legal_before parts.allowed stands follows)

-- those that fired before make the next attempt no greater
next_attempt-more : (c : ℕ) (ts us : List TaskId) → next_attempt c ts ≤ next_attempt c (ts ++ us)
next_attempt-more c [] us = omega arith
next_attempt-more c (t ∷ ts) us = grind (arith, nat_tests, next_attempt-more c ts us)

attempts_before : (c : ℕ) (h rest : List Event) → next_attempt c (fired h) ≤ next_attempt c (fired (h ++ rest))
attempts_before c h rest =
    let whole : fired (h ++ rest) ≡ fired h ++ fired rest = rw (firings-append h rest) (map-append (λ (f : Firing). f.task) (firings h) (firings rest)) in
    rw whole (next_attempt-more c (fired h) (fired rest))

-- the attempt after the event fits, where that of the whole history does
pub attempt_fits : (w : Parts) (c : ℕ) (h : List Event) (e : Event) (d : Desk) → Stands w c h d → next_attempt c (fired (h ++ e ∷ [])) < 2 ^ 32 → after_attempt c e d.attempt < 2 ^ 32
attempt_fits w c h e d stands low = rw (attempt_kept c h e d.attempt stands.attempt) low

pub attempt_fits_on : (w : Parts) (c : ℕ) (es : List Event) (i : ℕ) (e : Event) (d : Desk) → slice_get es i ≡ Some e → Stands w c (take i es) d → next_attempt c (fired es) < 2 ^ 32 → after_attempt c e d.attempt < 2 ^ 32
attempt_fits_on w c es i e d at stands low =
    let whole : es ≡ (take i es ++ e ∷ []) ++ drop (i + 1) es = parted es i e at ∙ sym (append_assoc (take i es) (e ∷ []) (drop (i + 1) es)) in
    let some : next_attempt c (fired (take i es ++ e ∷ [])) ≤ next_attempt c (fired es) = subst (λ h. next_attempt c (fired (take i es ++ e ∷ [])) ≤ next_attempt c (fired h)) (sym whole) (attempts_before c (take i es ++ e ∷ []) (drop (i + 1) es)) in
    attempt_fits w c (take i es) e d stands (omega (arith, some, low))

pub idle_by : (w : Parts) → IsValid w → (c : ℕ) (h : List Event) (d : Desk) → IsLegal w h → Stands w c h d → IsIdle w c d
idle_by w valid c h d legal stands = idle_stands w c h d (told_by w valid c h d legal stands) stands

pub first_by : (w : Parts) → IsValid w → (c : ℕ) (h : List Event) (d : Desk) (o : Option Event) → IsLegal w h → Stands w c h d → o ≡ first_in w c d → o ≡ next_event (record { wiring = w; closer = c; history = h })
unfolding next_event
first_by w valid c h d o legal stands is = is ∙ first_told w c h d (told_by w valid c h d legal stands) stands

pub ahead_by : (w : Parts) → IsValid w → (c : ℕ) (h : List Event) (old new : Desk) → IsLegal w h → Stands w c h old → IsAhead w c old new → Stands w c h new
ahead_by w valid c h old new legal stands ahead = stands_ahead w c h old new (told_by w valid c h old legal stands) stands ahead
