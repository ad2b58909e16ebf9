-- A spot that can fire, room aside, after an event that does not touch it could before.
use Rattle.std.proofs.Common.{◌≡◌, ℕ, zero, suc, ◌<◌, true, false, not, ◌&&◌, List, [], ◌∷◌, ◌++◌, length, drop, Option, Some, None, refl, ap, ◌∙◌, arith, append-nil, length-append}
use Rattle.std.specs.Prelude.{nat_lt}
use Rattle.std.specs.List.{list_any}
use Rattle.std.specs.Option.{option_map_or}
use Rattle.std.proofs.lemmas.Bool.Decides.{nat_tests}
use Rattle.std.proofs.lemmas.List.Elements.{filter-append}
use Rattle.ccr_base.specs.declared.names.TaskId.{TaskId}
use Rattle.ccr_base.specs.declared.names.Spot.{Spot}
use Rattle.ccr_base.specs.declared.names.Spot.TheVariants.{Branch, Site}
use Rattle.ccr_base.specs.Names.{same_spot}
use Rattle.ccr_wiring.specs.declared.parts.Parts.{Parts}
use Rattle.ccr_wiring.specs.Wirings.{Placement, placement, site_port}
use Rattle.ccr_model.specs.declared.history.Event.{Event}
use Rattle.ccr_model.specs.declared.history.Event.TheVariants.{Post, Fire, Admit, Put, Start, End}
use Rattle.ccr_model.specs.Firings.{firings, firing_of, fired_at, yielded, yielded_by}
use Rattle.ccr_model.specs.Sites.{yields_at, yielded_at, suspended}
use Rattle.ccr_model.specs.Posts.{held}
use Rattle.ccr_model.specs.Live.{is_none_of, is_live, is_live_in}
use Rattle.ccr_model.specs.Enough.{has_enough, can_take}
use Rattle.ccr_model.specs.Legal.{IsLegal}
use Rattle.ccr_model.proofs.OneMoreEvent.{yielded-push, firings-push}
use Rattle.ccr_model.proofs.TasksLeft.{filter_on}
use Rattle.ccr_base.proofs.Booleans.{both, neither, refuted, no_both}
use Rattle.ccr_base.proofs.Filters.{none_pass}
use Rattle.ccr_engine.specs.Touched.{posts_to, touches_branch, touches}
use Rattle.ccr_engine.specs.Cursor.{could_fire}
use Rattle.ccr_engine.proofs.Lives.{live_before}
use Rattle.ccr_engine.proofs.LessIsThereToTake.{less_before, enough_before, some_before}
use Rattle.ccr_model.proofs.Suspending.{yielded_fired, yields_stays}
use Rattle.ccr_model.proofs.Cutting.{fired_where-append}

-- a branch
placement_before : (w : Parts) (h : List Event) (e : Event) (n : ℕ) (o : Option Placement) → option_map_or (touches_branch e) o false ≡ false
    → option_map_or (λ (s : Placement). is_live_in w (h ++ e ∷ []) n s.domain s.branch.group) o false && option_map_or (λ (s : Placement). has_enough (held (h ++ e ∷ [])) s.branch.pattern) o false ≡ true
    → option_map_or (λ (s : Placement). is_live_in w h n s.domain s.branch.group) o false && option_map_or (λ (s : Placement). has_enough (held h) s.branch.pattern) o false ≡ true
placement_before w h e n None none is = absurd (cc)
placement_before w h e n (Some s) none is =
    let parts = both (is_live_in w (h ++ e ∷ []) n s.domain s.branch.group) (has_enough (held (h ++ e ∷ [])) s.branch.pattern) is in
    rw (live_before w h e n s.domain s.branch.group parts.0) (enough_before (held (h ++ e ∷ [])) (held h) (posts_to e) s.branch.pattern (less_before h e) none parts.1)

-- a site
some_left : (n : ℕ) (ts : List TaskId) → not (is_none_of (drop n ts)) ≡ true → n < length ts
some_left n [] is = absurd (no_drop n is)
  where
    no_drop : (n : ℕ) → not (is_none_of (drop n [])) ≡ true → ⊥
    no_drop zero is = absurd (cc)
    no_drop (suc n) is = absurd (cc)
some_left zero (t ∷ ts) is = omega arith
some_left (suc n) (t ∷ ts) is = omega (arith, some_left n ts is)

left_some : (n : ℕ) (ts : List TaskId) → n < length ts → not (is_none_of (drop n ts)) ≡ true
left_some n [] low = absurd (omega arith)
left_some zero (t ∷ ts) low = grind (arith, nat_tests)
left_some (suc n) (t ∷ ts) low = left_some n ts (omega arith)

-- nobody more is suspended at the site
of_other : (w : Parts) (h : List Event) (e : Event) (site : Spot) → firing_of e ≡ [] → list_any (yields_at h site) (yielded_by e) ≡ false → yielded_at (h ++ e ∷ []) site ≡ yielded_at h site
of_other w h e site other none =
    let same : firings (h ++ e ∷ []) ≡ firings h = rw (firings-push, other) (append-nil (firings h)) in
    rw (yielded-push h e)
    (filter_on (yields_at (h ++ e ∷ []) site) (yields_at h site) (yielded h ++ yielded_by e) (λ u is. rw same refl)
    ∙ (filter-append (yields_at h site) (yielded h) (yielded_by e) ∙ rw (none_pass (yields_at h site) (yielded_by e) none) (append-nil (yielded_at h site))))

yielded_at-same : (w : Parts) (h : List Event) (e : Event) (site : Spot) → IsLegal w h → list_any (yields_at h site) (yielded_by e) ≡ false → yielded_at (h ++ e ∷ []) site ≡ yielded_at h site
yielded_at-same w h (Fire t s ms cs) site legal none = rw (yielded-push h (Fire t s ms cs), append-nil (yielded h)) (filter_on (yields_at (h ++ Fire t s ms cs ∷ []) site) (yields_at h site) (yielded h) (λ u is. yields_stays h (Fire t s ms cs ∷ []) site u (yielded_fired w h legal u is)))
yielded_at-same w h (Post m) site legal none = of_other w h (Post m) site refl none
yielded_at-same w h (Admit t) site legal none = of_other w h (Admit t) site refl none
yielded_at-same w h (Put t d) site legal none = of_other w h (Put t d) site refl none
yielded_at-same w h (Start t a) site legal none = of_other w h (Start t a) site refl none
yielded_at-same w h (End t how) site legal none = of_other w h (End t how) site refl none

site_live_before : (w : Parts) (h : List Event) (e : Event) (site : Spot) → IsLegal w h → list_any (yields_at h site) (yielded_by e) ≡ false → not (is_none_of (suspended (h ++ e ∷ []) site)) ≡ true → not (is_none_of (suspended h site)) ≡ true
site_live_before w h e site legal none is =
    let many : fired_at (h ++ e ∷ []) site ≡ fired_at h site ++ fired_at (e ∷ []) site = fired_where-append (λ f. same_spot f.spot site) h (e ∷ []) in
    let now = some_left (length (fired_at (h ++ e ∷ []) site)) (yielded_at (h ++ e ∷ []) site) is in
    let same = ap length (yielded_at-same w h e site legal none) in
    let more = ap length many in
    left_some (length (fired_at h site)) (yielded_at h site) (omega (arith, now, same, more, length-append (fired_at h site) (fired_at (e ∷ []) site)))

port_before : (h : List Event) (e : Event) (o : Option ℕ) → option_map_or (posts_to e) o false ≡ false → option_map_or (λ port. nat_lt 0 (length (held (h ++ e ∷ []) port))) o false ≡ true → option_map_or (λ port. nat_lt 0 (length (held h port))) o false ≡ true
port_before h e None none is = absurd (cc)
port_before h e (Some p) none is = some_before (held (h ++ e ∷ []) p) (held h p) (less_before h e p none) is

-- the law of the cursor
pub could_before : (w : Parts) (h : List Event) (e : Event) (s : Spot) → IsLegal w h → touches w h e s ≡ false → could_fire w (h ++ e ∷ []) s ≡ true → could_fire w h s ≡ true
could_before w h e (Branch n) legal none is = placement_before w h e n (placement w n) none is
could_before w h e (Site n k) legal none is =
    let outs = neither (option_map_or (posts_to e) (site_port w n k) false) (list_any (yields_at h (Site n k)) (yielded_by e)) none in
    let parts = both (is_live w (h ++ e ∷ []) (Site n k)) (can_take w (h ++ e ∷ []) (Site n k)) is in
    rw (site_live_before w h e (Site n k) legal outs.1 parts.0) (port_before h e (site_port w n k) outs.0 parts.1)

-- a spot that cannot fire, room aside, cannot after an event that does not touch it
pub still : (w : Parts) (h : List Event) (e : Event) (s : Spot) → IsLegal w h → touches w h e s ≡ false → could_fire w h s ≡ false → could_fire w (h ++ e ∷ []) s ≡ false
still w h e s legal none was = refuted (could_fire w (h ++ e ∷ []) s) (λ is. no_both (could_before w h e s legal none is) was)
