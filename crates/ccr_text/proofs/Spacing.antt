-- A line word by word, and what was added to a text.
use Rattle.std.proofs.Common.{◌≡◌, ℕ, List, [], ◌∷◌, ◌++◌, refl, ap, ◌∙◌, append_assoc}
use Rattle.ccr_text.specs.Spelling.{joined, line_text, spaced}

pub line_spaced : (first : List ℕ) (words : List (List ℕ)) → line_text (first ∷ words) ≡ first ++ spaced words
line_spaced first [] = refl
line_spaced first (word ∷ words) = append_assoc first (32 ∷ joined (word ∷ words)) (10 ∷ []) ∙ ap (λ (t : List ℕ). first ++ 32 ∷ t) (line_spaced word words)
