-- A wiring in which no poster and no handler is open.
use Rattle.std.proofs.Common.{◌≡◌, ℕ, Bool, true, false, List, [], ◌∷◌, length, None, refl, ap, sym, subst, ◌∙◌, arith}
use Rattle.std.specs.List.{list_any}
use Rattle.std.specs.Prelude.{◌==◌, ◌&&◌, ◌||◌, not, nat_lt}
use Rattle.ccr_base.proofs.Booleans.{both, neither, not_refuted, same_number}
use Rattle.ccr_wiring.specs.declared.parts.OpenPart.{OpenPart}
use Rattle.ccr_wiring.specs.declared.parts.Parts.{Parts}
use Rattle.ccr_wiring.specs.Groups.{has_scripted}
use Rattle.ccr_wiring.specs.Limits.{has_outside_budget}
use Rattle.ccr_wiring.specs.Openness.{open_ports_in, open_poster, open_handler, is_closed}
use Rattle.ccr_wiring.specs.References.{has_dangling_open}
use Rattle.ccr_wiring.specs.Repeats.{has_repeating_open}
use Rattle.ccr_wiring.specs.Valid.{IsValid}
use Rattle.ccr_wiring.specs.Versions.{handler_is_newer, poster_is_newer, is_newer}
use Rattle.ccr_wiring.proofs.Validity.{no_codes}

none_listed : (parts : List OpenPart) → (length parts == 0) ≡ true → parts ≡ []
none_listed [] none = refl
none_listed (part ∷ parts) none = let same : length (part ∷ parts) ≡ 0 = same_number (length (part ∷ parts)) 0 none in absurd (omega (arith, same))

-- no poster is open
pub closed_posters : (w : Parts) → is_closed w ≡ true → w.open_posters ≡ []
closed_posters w closed = none_listed w.open_posters (both (length w.open_posters == 0) (length w.open_handlers == 0) closed).0

-- no handler is open
pub closed_handlers : (w : Parts) → is_closed w ≡ true → w.open_handlers ≡ []
closed_handlers w closed = none_listed w.open_handlers (both (length w.open_posters == 0) (length w.open_handlers == 0) closed).1

pub no_open_poster : (w : Parts) (poster : ℕ) → is_closed w ≡ true → open_poster w poster ≡ None
no_open_poster w poster closed = ap (λ parts. open_ports_in parts poster) (closed_posters w closed)

pub no_open_handler : (w : Parts) (handler : ℕ) → is_closed w ≡ true → open_handler w handler ≡ None
no_open_handler w handler closed = ap (λ parts. open_ports_in parts handler) (closed_handlers w closed)

-- no code stands in what isn't there
pub none_scripted : (w : Parts) → is_closed w ≡ true → has_scripted w ≡ false
none_scripted w closed = rw (closed_posters w closed, closed_handlers w closed) refl

pub none_dangle_open : (w : Parts) → is_closed w ≡ true → has_dangling_open w ≡ false
none_dangle_open w closed = rw (closed_posters w closed, closed_handlers w closed) refl

pub none_repeat_open : (w : Parts) → is_closed w ≡ true → has_repeating_open w ≡ false
none_repeat_open w closed = rw (closed_posters w closed, closed_handlers w closed) refl

-- the bound of the budget
pub closed_bound : (w : Parts) → is_closed w ≡ true → has_outside_budget w ≡ nat_lt 10000 w.budget
closed_bound w closed = rw closed refl

-- a closed wiring, as it is without its lists of open parts
pub shut_is : (w : Parts) → is_closed w ≡ true → record w { open_posters = []; open_handlers = [] } ≡ w
shut_is w closed =
    let posters : record w { open_posters = []; open_handlers = [] } ≡ record w { open_handlers = [] } = ap (λ parts. record w { open_posters = parts; open_handlers = [] }) (sym (closed_posters w closed)) in
    let handlers : record w { open_handlers = [] } ≡ w = ap (λ parts. record w { open_handlers = parts }) (sym (closed_handlers w closed)) in
    posters ∙ handlers

-- a wiring of version 1 is closed
pub old_closed : (w : Parts) → IsValid w → w.version ≡ 1 → is_closed w ≡ true
old_closed w valid first =
    let newer : is_newer w ≡ false = subst (λ v. ((v == 1) && is_newer w) ≡ false) first (no_codes w valid).newer in
    not_refuted (is_closed w) (neither (list_any handler_is_newer w.handlers || list_any poster_is_newer w.posters) (not (is_closed w)) newer).1
