-- What an engine keeps: its desk, which is that of what happened as long as there was memory.
use Rattle.std.proofs.Common.{◌≡◌, ℕ, ◌≤◌, Bool, true, List, [], ◌∷◌, ◌++◌, length, Option, Some, refl, subst}
use Rattle.ccr_wiring.specs.declared.parts.Parts.{Parts}
use Rattle.ccr_wiring.specs.Valid.{IsValid}
use Rattle.ccr_wiring.specs.Openness.{is_closed}
use Rattle.ccr_model.specs.declared.history.Event.{Event}
use Rattle.ccr_ledger.specs.Books.{Books}
use Rattle.ccr_ledger.specs.Kept.{Keeps}
use Rattle.ccr_engine.specs.Desk.{Desk, IsRead, IsAhead, IsIdle, Follows, Stands, empty_desk, first_in}
use Rattle.ccr_engine.specs.Coming.{ComesNext}
use Rattle.ccr_engine.specs.Engine.{Engine, IsSound, next_event}
use Rattle.ccr_engine.proofs.DesksAlongHistories.{ahead_by, first_by, idle_by, stands_next, stands_none}
use Rattle.ccr_engine.proofs.Runs.{IsAllowed-next, IsSound-event, IsSound-start, IsSound-pushed}

pub IsRead-start : (w v : Parts) (c : ℕ) (h : List Event) (d : Desk) → IsValid w → is_closed w ≡ true → length w.posters ≤ c → c ≤ 32 → v ≡ w → h ≡ [] → d ≡ empty_desk w → IsRead (record { wiring = v; closer = c; history = h }) d true
IsRead-start w v c h d valid closed high low same none is = rw (same, none, is) (record { sound = IsSound-start w c valid closed high low; stands = λ current. stands_none w valid c })

pub IsRead-behind : (w v : Parts) (c : ℕ) (es h : List Event) (d : Desk) → IsSound (record { wiring = w; closer = c; history = es }) → v ≡ w → h ≡ es → Stands v c es d → IsRead (record { wiring = v; closer = c; history = h }) d true
IsRead-behind w v c es h d sound same is stands =
    let now : Stands w c es d = subst (λ (p : Parts). Stands p c es d) same stands in
    rw (same, is) (record { sound = sound; stands = λ whole. now })

pub IsRead-entered : (s : Engine) → IsSound s → (e : Event) → next_event s ≡ Some e → (h : List Event) → h ≡ s.history ++ e ∷ [] → (d : Desk) (current : Bool) → (current ≡ true → Stands s.wiring s.closer h d) → IsRead (record s { history = h }) d current
IsRead-entered s sound e is h more d current stands = record { sound = IsSound-pushed s sound e is h more; stands = stands }

-- the desk may be asked
pub IsIdle-read : (s : Engine) (d : Desk) → IsRead s d true → IsIdle s.wiring s.closer d
IsIdle-read s d read = idle_by s.wiring read.sound.valid s.closer s.history d read.sound.legal (read.stands refl)

-- what it answers is what comes next
pub is_next-read : (s : Engine) (d : Desk) (o : Option Event) → IsRead s d true → o ≡ first_in s.wiring s.closer d → o ≡ next_event s
is_next-read s d o read is = first_by s.wiring read.sound.valid s.closer s.history d o read.sound.legal (read.stands refl) is

-- it may go ahead
pub IsRead-ahead : (s : Engine) (old new : Desk) → IsRead s old true → IsAhead s.wiring s.closer old new → IsRead s new true
IsRead-ahead s old new read ahead = record { sound = read.sound; stands = λ whole. ahead_by s.wiring read.sound.valid s.closer s.history old new read.sound.legal (read.stands refl) ahead }

-- what comes next is entered
pub IsRead-next : (s : Engine) (old new : Desk) (e : Event) (h : List Event) → IsRead s old true → next_event s ≡ Some e → Follows s.wiring s.closer e old new → h ≡ s.history ++ e ∷ [] → IsRead (record s { history = h }) new true
IsRead-next s old new e h read is follows more =
    let stands : Stands s.wiring s.closer (s.history ++ e ∷ []) new = stands_next s.wiring read.sound.valid s.closer s.history e old new read.sound.legal (IsAllowed-next s read.sound e is) (read.stands refl) follows in
    IsRead-entered s read.sound e is h more new true (λ whole. rw more stands)

-- what comes next, with the tables before it
pub ComesNext-first : (s : Engine) (b : Books) (e : Event) → IsSound s → Keeps s.wiring s.history b → next_event s ≡ Some e → ComesNext s.wiring s.history b e
ComesNext-first s b e sound keeps is = record { valid = sound.valid; closed = sound.closed; tables = keeps; legal = (IsSound-event s sound e is).legal }
