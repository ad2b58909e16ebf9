-- Names that stand twice.
use Rattle.std.proofs.Common.{◌≡◌, Bool, true, false, List, [], ◌∷◌, ◌++◌, map, length, get_or, drop, ℕ, suc, ◌+◌, ◌<◌, Bor, refl, ap, sym, ◌∙◌, drop-cons, arith}
use Rattle.std.proofs.lemmas.List.{map-append}
use Rattle.std.specs.Prelude.{◌||◌}
use Rattle.std.specs.List.{list_any}
use Rattle.std.specs.Str.{bytes_eq}
use Rattle.std.proofs.lemmas.List.Folds.{list_any-append}
use Rattle.std.proofs.Math.Bool.{or-false}
use Rattle.std.proofs.lemmas.Bool.{or_parts as neither}
use Rattle.ccr_wiring.specs.Names.{has_name, has_repeated}
use Rattle.ccr_base.proofs.Lists.{list_any-map}

-- whether the name is one of those that were seen
abbrev pub was_seen : List (List ℕ) → List ℕ → Bool
was_seen seen name = list_any (bytes_eq name) seen

-- whether one of the names was seen, or stands twice
abbrev pub repeated_after : List (List ℕ) → List (List ℕ) → Bool
repeated_after seen [] = false
repeated_after seen (name ∷ names) = was_seen seen name || repeated_after (seen ++ name ∷ []) names

abbrev pub any_seen : List (List ℕ) → List (List ℕ) → Bool
any_seen seen names = list_any (was_seen seen) names

or_swap : (a b c d : Bool) → ((a || b) || (c || d)) ≡ ((a || c) || (b || d))
or_swap true b c d = refl
or_swap false true true d = refl
or_swap false true false d = refl
or_swap false false c d = refl

or_regroup : (a b c d : Bool) → (a || ((b || c) || d)) ≡ ((a || b) || (c || d))
or_regroup true b c d = refl
or_regroup false true c d = refl
or_regroup false false c d = refl

seen_push : (seen : List (List ℕ)) (name other : List ℕ) → was_seen (seen ++ name ∷ []) other ≡ (was_seen seen other || bytes_eq other name)
seen_push seen name other = list_any-append (bytes_eq other) seen (name ∷ []) ∙ ap (λ b. was_seen seen other || b) (or-false (bytes_eq other name))

any_seen_push : (seen : List (List ℕ)) (name : List ℕ) (names : List (List ℕ)) → any_seen (seen ++ name ∷ []) names ≡ (any_seen seen names || has_name names name)
any_seen_push seen name [] = refl
any_seen_push seen name (other ∷ names) =
    ap (λ b. b || any_seen (seen ++ name ∷ []) names) (seen_push seen name other)
    ∙ (ap (λ b. (was_seen seen other || bytes_eq other name) || b) (any_seen_push seen name names)
    ∙ or_swap (was_seen seen other) (bytes_eq other name) (any_seen seen names) (has_name names name))

seen_or_twice : (seen names : List (List ℕ)) → repeated_after seen names ≡ (any_seen seen names || has_repeated names)
seen_or_twice seen [] = refl
seen_or_twice seen (name ∷ names) =
    ap (λ b. was_seen seen name || b) (seen_or_twice (seen ++ name ∷ []) names ∙ ap (λ b. b || has_repeated names) (any_seen_push seen name names))
    ∙ or_regroup (was_seen seen name) (any_seen seen names) (has_name names name) (has_repeated names)

none_seen : (names : List (List ℕ)) → any_seen [] names ≡ false
none_seen [] = refl
none_seen (name ∷ names) = none_seen names

-- where none was seen yet, it says whether one stands twice
pub repeated_from_none : (names : List (List ℕ)) → repeated_after [] names ≡ has_repeated names
repeated_from_none names = seen_or_twice [] names ∙ ap (λ b. b || has_repeated names) (none_seen names)

-- of names none of which stands twice, none stands twice in a first part
pub apart_left : (xs ys : List (List ℕ)) → has_repeated (xs ++ ys) ≡ false → has_repeated xs ≡ false
apart_left [] ys e = refl
apart_left (x ∷ xs) ys e =
    let parts = neither (has_name (xs ++ ys) x) (has_repeated (xs ++ ys)) e in
    let lacks = neither (has_name xs x) (has_name ys x) (sym (list_any-append (λ other. bytes_eq other x) xs ys) ∙ parts.0) in
    rw (lacks.0, apart_left xs ys parts.1) refl

module _ (keys names : List (Bor (List ℕ))) (i : ℕ) (d : Bor (List ℕ)) (below : i < length names)
    (so_far : repeated_after (map (λ key. key.now) keys) (map (λ name. name.now) (drop i names)) ≡ has_repeated (map (λ name. name.now) names)) where
  opened : repeated_after (map (λ key. key.now) keys) (map (λ name. name.now) (drop i names))
      ≡ (list_any (λ key. bytes_eq (get_or names i d).now key.now) keys || repeated_after (map (λ key. key.now) keys ++ (get_or names i d).now ∷ []) (map (λ name. name.now) (drop (suc i) names)))
  opened = ap (λ (rest : List (Bor (List ℕ))). repeated_after (map (λ key. key.now) keys) (map (λ name. name.now) rest)) (drop-cons names i d below)
      ∙ ap (λ b. b || repeated_after (map (λ key. key.now) keys ++ (get_or names i d).now ∷ []) (map (λ name. name.now) (drop (suc i) names))) (list_any-map (bytes_eq (get_or names i d).now) (λ (key : Bor (List ℕ)). key.now) keys)

  -- a name that was seen stands twice
  pub seen_again : list_any (λ key. bytes_eq (get_or names i d).now key.now) keys ≡ true → true ≡ has_repeated (map (λ name. name.now) names)
  seen_again hit = sym (sym so_far ∙ (opened ∙ ap (λ b. b || repeated_after (map (λ key. key.now) keys ++ (get_or names i d).now ∷ []) (map (λ name. name.now) (drop (suc i) names))) hit))

  -- a name that wasn't seen is seen from then on
  pub seen_next : list_any (λ key. bytes_eq (get_or names i d).now key.now) keys ≡ false
      → repeated_after (map (λ key. key.now) (keys ++ get_or names i d ∷ [])) (map (λ name. name.now) (drop (i + 1) names)) ≡ has_repeated (map (λ name. name.now) names)
  seen_next miss =
      let e : i + 1 ≡ suc i = omega arith in
      rw e (ap (λ (seen : List (List ℕ)). repeated_after seen (map (λ name. name.now) (drop (suc i) names))) (map-append (λ (key : Bor (List ℕ)). key.now) keys (get_or names i d ∷ []))
      ∙ (sym (opened ∙ ap (λ b. b || repeated_after (map (λ key. key.now) keys ++ (get_or names i d).now ∷ []) (map (λ name. name.now) (drop (suc i) names))) miss) ∙ so_far))
