-- A list without a member twice is no longer than one that has all its members.
use Rattle.std.proofs.Common.{◌≡◌, ◌⊎◌, inl, inr, ◌≤◌, List, [], ◌∷◌, ◌++◌, length, refl, sym, ap, arith, subst}
use Rattle.std.proofs.lemmas.List.{length-append}
use Rattle.ccr_model.proofs.Members.{Among, Among-left, Among-right, Among-either}

-- no member stands twice
abbrev pub Apart : {X : Type 0} → List X → Type 0
Apart [] = Unit {0}
Apart (x ∷ xs) = (Among x xs → ⊥) × Apart xs

-- the list parted at a member
record PartedAt {X : Type 0} (x : X) (xs : List X) : Type 0 where
  front : List X
  back : List X
  whole : xs ≡ front ++ x ∷ back

parted_at : {X : Type 0} (x : X) (xs : List X) → Among x xs → PartedAt x xs
parted_at x [] is = absurd is
parted_at x (y ∷ xs) (inl e) = record { front = []; back = xs; whole = ap (λ z. z ∷ xs) (sym e) }
parted_at x (y ∷ xs) (inr more) = let rest = parted_at x xs more in record { front = y ∷ rest.front; back = rest.back; whole = ap (λ zs. y ∷ zs) rest.whole }

-- another member stands in the rest
in_rest : {X : Type 0} (x y : X) (front back : List X) → Among y (front ++ x ∷ back) → (y ≡ x → ⊥) → Among y (front ++ back)
in_rest x y front back is other = of_side (Among-either y front (x ∷ back) is)
  where
    of_side : Among y front ⊎ Among y (x ∷ back) → Among y (front ++ back)
    of_side (inl here) = Among-left y front back here
    of_side (inr (inl e)) = absurd (other e)
    of_side (inr (inr later)) = Among-right y front back later

pub no_longer : {X : Type 0} (xs ys : List X) → Apart xs → ((x : X) → Among x xs → Among x ys) → length xs ≤ length ys
no_longer [] ys apart all = omega arith
no_longer (x ∷ xs) ys apart all =
    let parts = parted_at x ys (all x (inl refl)) in
    let within : (y : _) → Among y xs → Among y (parts.front ++ parts.back) = λ y is. in_rest x y parts.front parts.back (subst (Among y) parts.whole (all y (inr is))) (λ e. apart.0 (subst (λ z. Among z xs) e is)) in
    let rest = no_longer xs (parts.front ++ parts.back) apart.1 within in
    let short = length-append parts.front parts.back in
    let long : length ys ≡ length (parts.front ++ x ∷ parts.back) = ap length parts.whole in
    let both = length-append parts.front (x ∷ parts.back) in
    omega (arith, rest, short, long, both)
