-- What stands behind the first line of a text.
use Rattle.std.proofs.Common.{◌≡◌, ℕ, Bool, true, false, ◌==◌, List, [], ◌∷◌, ◌++◌, Option, Some, None, IfSome, IfNone, refl, sym, ap, ◌∙◌}
use Rattle.std.specs.Prelude.{◌||◌, if◌then◌else◌}
use Rattle.std.specs.Borrow.{Bor}
use Rattle.ccr_text.specs.Lines.{has_feed, behind_line}

pub after_line : (line rest : List ℕ) → has_feed line ≡ false → behind_line (line ++ 10 ∷ rest) ≡ rest
after_line [] rest none = refl
after_line (b ∷ line) rest none = go (b == 10) none (after_line line rest)
  where
    go : (t : Bool) → (t || has_feed line) ≡ false → (has_feed line ≡ false → behind_line (line ++ 10 ∷ rest) ≡ rest) → (if t then (line ++ 10 ∷ rest) else behind_line (line ++ 10 ∷ rest)) ≡ rest
    go true none more = absurd (cc)
    go false none more = more none

pub after_last : (line : List ℕ) → has_feed line ≡ false → behind_line line ≡ []
after_last [] none = refl
after_last (b ∷ line) none = go (b == 10) none (after_last line)
  where
    go : (t : Bool) → (t || has_feed line) ≡ false → (has_feed line ≡ false → behind_line line ≡ []) → (if t then line else behind_line line) ≡ []
    go true none more = absurd (cc)
    go false none more = more none

-- what is behind the first line of a text, by how the line was split off
pub behind_some : (text line : List ℕ) (o : Option (Bor (List ℕ))) (rest : Bor (List ℕ)) → o ≡ Some rest → IfSome o (λ r. text ≡ line ++ 10 ∷ r.now) → has_feed line ≡ false → rest.now ≡ behind_line text
behind_some text line None rest is parts none = absurd (cc)
behind_some text line (Some r) rest is parts none = let same : r ≡ rest = cc in ap (λ (x : Bor (List ℕ)). x.now) (sym same) ∙ sym (after_line line r.now none) ∙ ap behind_line (sym parts)

pub behind_none : (text line : List ℕ) (o : Option (Bor (List ℕ))) → o ≡ None → IfNone o (line ≡ text) → has_feed line ≡ false → [] ≡ behind_line text
behind_none text line None is whole none = sym (after_last line none) ∙ ap behind_line whole
behind_none text line (Some r) is whole none = absurd (cc)
