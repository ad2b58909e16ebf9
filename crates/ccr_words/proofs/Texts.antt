-- The words as text.
use Rattle.std.proofs.Common.{◌≡◌, ◌∙◌, ℕ, ◌+◌, ◌<◌, ◌&&◌, true, cond, sym, ap, ap₂, List, [], ◌∷◌, ◌++◌, length, map, take, get_or, Some, None}
use Rattle.std.specs.List.{list_all}
use Rattle.std.specs.Str.{IsUtf8, is_utf8}
use Rattle.std.specs.Borrow.{Bor}
use Rattle.std.proofs.lemmas.List.{map-append, take_more}
use Rattle.std.proofs.lemmas.List.Folds.{list_all_at, list_all_more}
use Rattle.std.proofs.lemmas.Str.{IsUtf8-from_is_utf8, is_utf8-from_IsUtf8}
use Rattle.ccr_words.specs.Parsing.{texts}
use Rattle.ccr_base.proofs.Booleans.{refuted}

pub more_texts : (vs : List (Bor (List ℕ))) (words : List (List ℕ)) (i : ℕ) (w : List ℕ) (t : Bor (List ℕ)) → i < length words → w ≡ get_or words i w → t.now ≡ w
    → map (λ (v : Bor (List ℕ)). v.now) vs ≡ take i words → map (λ (v : Bor (List ℕ)). v.now) (vs ++ t ∷ []) ≡ take (i + 1) words
more_texts vs words i w t lt at same so_far = map-append (λ (v : Bor (List ℕ)). v.now) vs (t ∷ [])
    ∙ ap₂ (λ (xs : List (List ℕ)) (y : List ℕ). xs ++ y ∷ []) so_far (same ∙ at) ∙ sym (take_more words i w lt)

pub more_utf8 : (words : List (List ℕ)) (i : ℕ) (w : List ℕ) → i < length words → w ≡ get_or words i w → IsUtf8 w → list_all is_utf8 (take i words) ≡ true → list_all is_utf8 (take (i + 1) words) ≡ true
more_utf8 words i w lt at utf8 so_far = list_all_more is_utf8 words i w lt ∙ ap₂ ◌&&◌ so_far (ap is_utf8 (sym at) ∙ is_utf8-from_IsUtf8 w utf8)

pub no_texts : (words : List (List ℕ)) (i : ℕ) (w : List ℕ) → i < length words → w ≡ get_or words i w → (IsUtf8 w → ⊥) → texts words ≡ None
no_texts words i w lt at bad = ap (λ b. cond b (Some words) None) (list_all_at is_utf8 words i w lt (ap is_utf8 (sym at) ∙ refuted (is_utf8 w) (λ e. bad (IsUtf8-from_is_utf8 w e))))
