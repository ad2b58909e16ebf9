-- How the parts go on over the posters, the spots, the domains and the queues.
use Rattle.std.proofs.Common.{◌≡◌, ◌∙◌, ℕ, zero, suc, ◌+◌, ◌<◌, ◌≤◌, true, false, List, [], ◌∷◌, length, take, Option, None, Some, refl, sym, subst, arith}
use Rattle.std.specs.Prelude.{nat_le, nat_lt, if◌then◌else◌}
use Rattle.std.proofs.Math.ListN.{get_or}
use Rattle.std.proofs.lemmas.Option.{slice_get_past}
use Rattle.std.proofs.lemmas.Bool.Decides.{nat_tests}
use Rattle.std.specs.List.{slice_get, list_any}
use Rattle.ccr_base.specs.declared.names.TaskId.{TaskId}
use Rattle.ccr_base.specs.declared.names.Spot.{Spot}
use Rattle.ccr_wiring.specs.declared.parts.Parts.{Parts}
use Rattle.ccr_wiring.specs.declared.parts.PosterPart.{PosterPart}
use Rattle.ccr_wiring.specs.declared.parts.ArbiterPart.{ArbiterPart}
use Rattle.ccr_wiring.specs.declared.parts.QueuePart.{QueuePart}
use Rattle.ccr_model.specs.declared.history.Event.{Event}
use Rattle.ccr_model.specs.Order.{script_post}
use Rattle.ccr_base.proofs.Booleans.{both, neither}
use Rattle.ccr_base.proofs.Options.{none-above, none_map, not_some}
use Rattle.ccr_ledger.specs.Books.{Books, number}
use Rattle.ccr_engine.specs.Parts.{admission_in, are_done_in, fire_in, first_admit_in, first_fire_in, line_in, post_in, fires_in, start_at_in, start_in}
use Rattle.ccr_engine.specs.Ready.{IsLeast}
use Rattle.ccr_engine.specs.Numbered.{IsNoneBut}
use Rattle.ccr_engine.proofs.Gaining.{read}
use Rattle.ccr_engine.proofs.Asking.{first_of, asked_stops, asked_ends}

-- a poster is done where it has no next line
no_line : (b : Books) (n : ℕ) (p : PosterPart) → nat_le (length p.posts) (number b.script_posts n) ≡ true → line_in b n p ≡ None
no_line b n p full = let none : slice_get p.posts (number b.script_posts n) ≡ None = slice_get_past p.posts (number b.script_posts n) (grind (arith, nat_tests, full)) in rw none refl

line_none : (b : Books) (n : ℕ) (p : PosterPart) → line_in b n p ≡ None → nat_le (length p.posts) (number b.script_posts n) ≡ true
line_none b n p none =
    let out = none-above p.posts (number b.script_posts n) (none_map (script_post n (number b.script_posts n)) (slice_get p.posts (number b.script_posts n)) none) in
    grind (arith, nat_tests, out)

-- the poster there has the first line
post_at : (b : Books) (n k : ℕ) (ps : List PosterPart) (p : PosterPart) (e : Event) → are_done_in b n (take k ps) ≡ true → slice_get ps k ≡ Some p → line_in b (n + k) p ≡ Some e → post_in b n ps ≡ Some e
post_at b n k [] p e done at line = absurd (cc)
post_at b n zero (q ∷ ps) p e done at line =
    let one : q ≡ p = cc in
    let here : n + 0 ≡ n = omega arith in
    let first : line_in b n q ≡ Some e = rw one (subst (λ m. line_in b m p ≡ Some e) here line) in
    rw first refl
post_at b n (suc k) (q ∷ ps) p e done at line =
    let parts = both (nat_le (length q.posts) (number b.script_posts n)) (are_done_in b (n + 1) (take k ps)) done in
    let none : line_in b n q ≡ None = no_line b n q parts.0 in
    let here : n + suc k ≡ (n + 1) + k = omega arith in
    rw none (post_at b (n + 1) k ps p e parts.1 at (subst (λ m. line_in b m p ≡ Some e) here line))

-- the poster there has none: the done ones are one more
done_on : (b : Books) (n k : ℕ) (ps : List PosterPart) (p : PosterPart) → are_done_in b n (take k ps) ≡ true → slice_get ps k ≡ Some p → line_in b (n + k) p ≡ None → are_done_in b n (take (k + 1) ps) ≡ true
done_on b n k [] p done at line = absurd (cc)
done_on b n zero (q ∷ ps) p done at line =
    let one : q ≡ p = cc in
    let here : n + 0 ≡ n = omega arith in
    let full : nat_le (length q.posts) (number b.script_posts n) ≡ true = line_none b n q (rw one (subst (λ m. line_in b m p ≡ None) here line)) in
    rw full (no_more ps)
  where
    no_more : (ps : List PosterPart) → are_done_in b (n + 1) (take 0 ps) ≡ true
    no_more [] = refl
    no_more (x ∷ ps) = refl
done_on b n (suc k) (q ∷ ps) p done at line =
    let parts = both (nat_le (length q.posts) (number b.script_posts n)) (are_done_in b (n + 1) (take k ps)) done in
    let here : n + suc k ≡ (n + 1) + k = omega arith in
    let more : suc k + 1 ≡ suc (k + 1) = omega arith in
    rw (more, parts.0) (done_on b (n + 1) k ps p parts.1 at (subst (λ m. line_in b m p ≡ None) here line))

-- all are done
post_none : (b : Books) (n k : ℕ) (ps : List PosterPart) → are_done_in b n (take k ps) ≡ true → length ps ≤ k → post_in b n ps ≡ None
post_none b n k [] done all = refl
post_none b n zero (q ∷ ps) done all = absurd (omega (arith, all))
post_none b n (suc k) (q ∷ ps) done all =
    let parts = both (nat_le (length q.posts) (number b.script_posts n)) (are_done_in b (n + 1) (take k ps)) done in
    rw (no_line b n q parts.0) (post_none b (n + 1) k ps parts.1 (omega (arith, all)))

pub post_stops : (b : Books) (ss xs : List PosterPart) (i : ℕ) (d p : PosterPart) (r : Option Event) (e : Event) → ss ≡ xs → i < length ss → are_done_in b 0 (take i xs) ≡ true → p ≡ get_or ss i d → r ≡ line_in b i p → r ≡ Some e → Some e ≡ post_in b 0 xs
post_stops b ss xs i d p r e same lt done at asked is = sym (post_at b 0 i xs p e done (rw at (read ss xs i d same lt)) (let here : 0 + i ≡ i = omega arith in subst (λ m. line_in b m p ≡ Some e) (sym here) (sym asked ∙ is)))

pub post_passes : (b : Books) (ss xs : List PosterPart) (i : ℕ) (d p : PosterPart) (r : Option Event) → ss ≡ xs → i < length ss → are_done_in b 0 (take i xs) ≡ true → p ≡ get_or ss i d → r ≡ line_in b i p → r ≡ None → are_done_in b 0 (take (i + 1) xs) ≡ true
post_passes b ss xs i d p r same lt done at asked is = done_on b 0 i xs p done (rw at (read ss xs i d same lt)) (let here : 0 + i ≡ i = omega arith in subst (λ m. line_in b m p ≡ None) (sym here) (sym asked ∙ is))

pub post_ends : (b : Books) (xs : List PosterPart) (i : ℕ) → are_done_in b 0 (take i xs) ≡ true → length xs ≤ i → None ≡ post_in b 0 xs
post_ends b xs i done all = sym (post_none b 0 i xs done all)

-- the spot there is the first that can fire
pub fire_at_index : (w : Parts) (t : TaskId) (b : Books) (k : ℕ) (xs : List Spot) (x : Spot) (e : Event) → list_any (fires_in w t b) (take k xs) ≡ false → slice_get xs k ≡ Some x → fire_in w t b x ≡ Some e → first_fire_in w t b xs ≡ Some e
fire_at_index w t b k [] x e none at fires = absurd (cc)
fire_at_index w t b zero (y ∷ xs) x e none at fires =
    let one : y ≡ x = cc in
    rw (one, fires) refl
fire_at_index w t b (suc k) (y ∷ xs) x e none at fires =
    let outs = neither (fires_in w t b y) (list_any (fires_in w t b) (take k xs)) none in
    rw (not_some (fire_in w t b y) outs.0) (fire_at_index w t b k xs x e outs.1 at fires)

pub fire_none : (w : Parts) (t : TaskId) (b : Books) (k : ℕ) (xs : List Spot) → list_any (fires_in w t b) (take k xs) ≡ false → length xs ≤ k → first_fire_in w t b xs ≡ None
fire_none w t b k [] none all = refl
fire_none w t b zero (y ∷ xs) none all = absurd (omega (arith, all))
fire_none w t b (suc k) (y ∷ xs) none all =
    let outs = neither (fires_in w t b y) (list_any (fires_in w t b) (take k xs)) none in
    rw (not_some (fire_in w t b y) outs.0) (fire_none w t b k xs outs.1 (omega (arith, all)))

-- the domains as numbers that are asked
first_admission : (b : Books) (n : ℕ) (xs : List ArbiterPart) → first_of (admission_in b) n xs ≡ first_admit_in b n xs
first_admission b n [] = refl
first_admission b n (x ∷ xs) = rw (first_admission b (n + 1) xs) refl

pub admit_stops : (w : Parts) (b : Books) (domains : List ℕ) (i : ℕ) (r : Option Event) (e : Event) → IsNoneBut (admission_in b) (length w.arbiters) domains → IsLeast domains i → r ≡ (if nat_lt i (length w.arbiters) then admission_in b i else None) → r ≡ Some e → Some e ≡ first_admit_in b 0 w.arbiters
admit_stops w b domains i r e known least asked is = asked_stops (admission_in b) w.arbiters domains i r e known least asked is ∙ first_admission b 0 w.arbiters

pub admit_ends : (w : Parts) (b : Books) (domains : List ℕ) → IsNoneBut (admission_in b) (length w.arbiters) domains → slice_get domains 0 ≡ None → None ≡ first_admit_in b 0 w.arbiters
admit_ends w b domains known none = asked_ends (admission_in b) w.arbiters domains known none ∙ first_admission b 0 w.arbiters

-- the queues as numbers that are asked
first_start : (c : ℕ) (b : Books) (n : ℕ) (qs : List QueuePart) → first_of (start_at_in c b) n qs ≡ start_in c b n qs
first_start c b n [] = refl
first_start c b n (q ∷ qs) = rw (first_start c b (n + 1) qs) refl

pub start_stops : (w : Parts) (c : ℕ) (b : Books) (queues : List ℕ) (i : ℕ) (r : Option Event) (e : Event) → IsNoneBut (start_at_in c b) (length w.queues) queues → IsLeast queues i → r ≡ (if nat_lt i (length w.queues) then start_at_in c b i else None) → r ≡ Some e → Some e ≡ start_in c b 0 w.queues
start_stops w c b queues i r e known least asked is = asked_stops (start_at_in c b) w.queues queues i r e known least asked is ∙ first_start c b 0 w.queues

pub start_ends : (w : Parts) (c : ℕ) (b : Books) (queues : List ℕ) → IsNoneBut (start_at_in c b) (length w.queues) queues → slice_get queues 0 ≡ None → None ≡ start_in c b 0 w.queues
start_ends w c b queues known none = asked_ends (start_at_in c b) w.queues queues known none ∙ first_start c b 0 w.queues
