-- What is seen of rows when one of them is changed.
use Rattle.std.proofs.Common.{◌≡◌, ℕ, zero, suc, ◌+◌, ◌<◌, List, [], ◌∷◌, ◌++◌, length, map, refl, ap, ◌∙◌, add-one}
use Rattle.std.proofs.Math.ListN.{set, get_or}
use Rattle.std.proofs.Math.Seq.{map-set_same}
use Rattle.std.proofs.lemmas.List.{map-set}
use Rattle.std.proofs.lemmas.Option.{slice_get-get_or, slice_get-map}
use Rattle.ccr_ledger.specs.Rows.{row, with_row, empty_rows}

module _ {X T : Type 0} (f : X → List T) (rows : List X) (seen : List (List T)) (number : ℕ) (was now : X) where
  pub changed : map f rows ≡ seen → (items : List T) → f now ≡ items → map f (set rows number now) ≡ with_row seen number items
  changed is items new = map-set f rows number now ∙ (λ i. set (is i) number (new i))

  pub unchanged : map f rows ≡ seen → was ≡ get_or rows number was → f now ≡ f was → map f (set rows number now) ≡ seen
  unchanged is here same = map-set_same f rows number now was (same ∙ ap f here) ∙ is

  pub looked_up : map f rows ≡ seen → number < length rows → was ≡ get_or rows number was → row seen number ≡ f was
  looked_up is within here =
      rw (← is, slice_get-map, slice_get-get_or rows number was within, ← here) refl

-- one more empty row
pub empty-more : {T : Type 0} (count : ℕ) → empty_rows count ++ [] ∷ [] ≡ empty_rows {T = T} (count + 1)
empty-more zero = refl
empty-more {T = T} (suc count) = rw add-one (ap (λ (rows : List (List T)). [] ∷ rows) (empty-more {T = T} count ∙ rw add-one refl))
