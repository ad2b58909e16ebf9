-- A text and its lines: where a line ends, and where those behind it begin.
use Rattle.std.proofs.Common.{◌≡◌, ℕ, suc, ◌+◌, Bool, true, false, List, [], ◌∷◌, ◌++◌, length, take, drop, Option, Some, None, refl, sym, ap, ◌∙◌, subst, append_assoc, arith}
use Rattle.std.specs.Prelude.{◌==◌, ◌&&◌, not, if◌then◌else◌}
use Rattle.std.specs.List.{list_all, onto_first}
use Rattle.std.proofs.lemmas.Bool.Decides.{nat_tests}
use Rattle.std.proofs.lemmas.Grind.{common_steps}
use Rattle.ccr_text.specs.Lines.{begin_from, begins_with, split_text, behind_line}
use Rattle.ccr_text.proofs.FirstLine.{split_next}
use Rattle.ccr_text.proofs.Again.{split_off}
use Rattle.ccr_replay.proofs.Splits.{spans}

-- the lines behind the first
pub split_after : (text first : List ℕ) (lines : List (List ℕ)) → split_text text ≡ first ∷ lines → split_text (behind_line text) ≡ lines
split_after [] first lines is = absurd (cc)
split_after (b ∷ text) first lines is = let whole = split_next b text in cc

-- a line has no LF
pub feedless : (text first : List ℕ) (lines : List (List ℕ)) → split_text text ≡ first ∷ lines → list_all (λ b. not (b == 10)) first ≡ true
feedless [] first lines is = absurd (cc)
feedless (b ∷ text) first lines is = go (b == 10) refl is (feedless text)
  where
    Free : List ℕ → Type 0
    Free line = list_all (λ c. not (c == 10)) line ≡ true

    More : Type 0
    More = (f : List ℕ) (ls : List (List ℕ)) → split_text text ≡ f ∷ ls → Free f

    one : (f : List ℕ) → (b == 10) ≡ false → Free f → Free (b ∷ f)
    one f other rest = ap (λ (t : Bool). not t && list_all (λ c. not (c == 10)) f) other ∙ rest

    onto : (ls : List (List ℕ)) → split_text text ≡ ls → (b == 10) ≡ false → onto_first b ls ≡ first ∷ lines → More → Free first
    onto [] splits other is more = let same : b ∷ [] ≡ first = cc in subst Free same (one [] other refl)
    onto (l ∷ ls) splits other is more = let same : b ∷ l ≡ first = cc in subst Free same (one l other (more l ls splits))

    go : (t : Bool) → (b == 10) ≡ t → (if t then ([] ∷ split_text text) else onto_first b (split_text text)) ≡ first ∷ lines → More → Free first
    go true other is more = let same : [] ≡ first = cc in subst Free same refl
    go false other is more = onto (split_text text) refl other is more

-- a line that isn't the last ends with LF
pub one_line : (text first next : List ℕ) (lines : List (List ℕ)) → split_text text ≡ first ∷ (next ∷ lines) → text ≡ first ++ 10 ∷ behind_line text
one_line [] first next lines is = absurd (cc)
one_line (b ∷ text) first next lines is = go (b == 10) refl is (one_line text)
  where
    More : Type 0
    More = (f n : List ℕ) (ls : List (List ℕ)) → split_text text ≡ f ∷ (n ∷ ls) → text ≡ f ++ 10 ∷ behind_line text

    onto : (ls : List (List ℕ)) → split_text text ≡ ls → onto_first b ls ≡ first ∷ (next ∷ lines) → More → b ∷ text ≡ first ++ 10 ∷ behind_line text
    onto [] splits is more = absurd (cc)
    onto (l ∷ ls) splits is more =
        let same : b ∷ l ≡ first = cc in
        let rest : ls ≡ next ∷ lines = cc in
        ap (λ (t : List ℕ). b ∷ t) (more l next lines (splits ∙ ap (λ (xs : List (List ℕ)). l ∷ xs) rest)) ∙ ap (λ (f : List ℕ). f ++ 10 ∷ behind_line text) same

    go : (t : Bool) → (b == 10) ≡ t → (if t then ([] ∷ split_text text) else onto_first b (split_text text)) ≡ first ∷ (next ∷ lines) → More → b ∷ text ≡ first ++ 10 ∷ (if t then text else behind_line text)
    go true feed is more =
        let same : [] ≡ first = cc in
        let ten : b ≡ 10 = grind (arith, nat_tests, feed) in
        ap (λ (c : ℕ). c ∷ text) ten ∙ ap (λ (f : List ℕ). f ++ 10 ∷ text) same
    go false feed is more = onto (split_text text) refl is more

taken_line : (first rest : List ℕ) (n : ℕ) → take ((length first + 1) + n) (first ++ 10 ∷ rest) ≡ first ++ 10 ∷ take n rest
taken_line [] rest n = let e : (0 + 1) + n ≡ suc n = omega arith in ap (λ (k : ℕ). take k (10 ∷ rest)) e
taken_line (b ∷ first) rest n =
    let e : (length (b ∷ first) + 1) + n ≡ suc ((length first + 1) + n) = omega arith in
    ap (λ (k : ℕ). take k (b ∷ (first ++ 10 ∷ rest))) e ∙ ap (λ (t : List ℕ). b ∷ t) (taken_line first rest n)

left_line : (first rest : List ℕ) (n : ℕ) → drop ((length first + 1) + n) (first ++ 10 ∷ rest) ≡ drop n rest
left_line [] rest n = let e : (0 + 1) + n ≡ suc n = omega arith in ap (λ (k : ℕ). drop k (10 ∷ rest)) e
left_line (b ∷ first) rest n =
    let e : (length (b ∷ first) + 1) + n ≡ suc ((length first + 1) + n) = omega arith in
    ap (λ (k : ℕ). drop k (b ∷ (first ++ 10 ∷ rest))) e ∙ left_line first rest n

-- a text parted before one of its lines
pub record Parted (text : List ℕ) (front : List (List ℕ)) (line : List ℕ) (back : List (List ℕ)) : Type 0 where
  pub before : split_text (take (spans front) text) ≡ front
  pub behind : split_text (drop (spans front) text) ≡ line ∷ back

some_next : (front : List (List ℕ)) (line : List ℕ) (back : List (List ℕ)) → (next : List ℕ) × (more : List (List ℕ)) × (front ++ line ∷ back ≡ next ∷ more)
some_next [] line back = (line, back, refl)
some_next (first ∷ front) line back = (first, front ++ line ∷ back, refl)

pub parted : (text : List ℕ) (front : List (List ℕ)) (line : List ℕ) (back : List (List ℕ)) → split_text text ≡ front ++ line ∷ back → Parted text front line back
parted text [] line back is = record { before = refl; behind = is }
parted text (first ∷ front) line back is =
    let next = some_next front line back in
    let rest = behind_line text in
    let whole : text ≡ first ++ 10 ∷ rest = one_line text first next.0 next.1 (is ∙ ap (λ (ls : List (List ℕ)). first ∷ ls) next.2) in
    let more = parted rest front line back (split_after text first (front ++ line ∷ back) is) in
    let free = feedless text first (front ++ line ∷ back) is in
    record {
      before = ap (λ (t : List ℕ). split_text (take ((length first + 1) + spans front) t)) whole ∙ ap split_text (taken_line first rest (spans front)) ∙ split_off first (take (spans front) rest) free ∙ ap (λ (ls : List (List ℕ)). first ∷ ls) more.before;
      behind = ap (λ (t : List ℕ). split_text (drop ((length first + 1) + spans front) t)) whole ∙ ap split_text (left_line first rest (spans front)) ∙ more.behind;
    }

-- what stands before the LF that ends the lines before one
pub record Fronted (text : List ℕ) (bytes : ℕ) : Type 0 where
  pub front : List ℕ
  pub whole : text ≡ front ++ 10 ∷ drop bytes text
  pub long : bytes ≡ length front + 1

pub fronted : (text first : List ℕ) (front : List (List ℕ)) (line : List ℕ) (back : List (List ℕ)) → split_text text ≡ first ∷ (front ++ line ∷ back) → Fronted text (spans (first ∷ front))
fronted text first [] line back is =
    let rest = behind_line text in
    let whole : text ≡ first ++ 10 ∷ rest = one_line text first line back is in
    let left : drop ((length first + 1) + 0) text ≡ rest = ap (drop ((length first + 1) + 0)) whole ∙ left_line first rest 0 in
    record {
      front = first;
      whole = whole ∙ ap (λ (t : List ℕ). first ++ 10 ∷ t) (sym left);
      long = omega arith;
    }
fronted text first (second ∷ front) line back is =
    let rest = behind_line text in
    let whole : text ≡ first ++ 10 ∷ rest = one_line text first second (front ++ line ∷ back) is in
    let more = fronted rest second front line back (split_after text first (second ∷ (front ++ line ∷ back)) is) in
    let n = spans (second ∷ front) in
    let left : drop ((length first + 1) + n) text ≡ drop n rest = ap (drop ((length first + 1) + n)) whole ∙ left_line first rest n in
    let long = more.long in
    let f = more.front in
    let size : length (first ++ 10 ∷ f) ≡ length first + (length f + 1) = grind (arith, common_steps) in
    record {
      front = first ++ 10 ∷ f;
      whole = whole ∙ ap (λ (t : List ℕ). first ++ 10 ∷ t) more.whole ∙ sym (append_assoc first (10 ∷ f) (10 ∷ drop n rest)) ∙ ap (λ (t : List ℕ). (first ++ 10 ∷ f) ++ 10 ∷ t) (sym left);
      long = omega (arith, long, size);
    }

-- the first line that begins with a word, and those before and behind it
pub record Found (word : List ℕ) (lines : List (List ℕ)) (byte number at count : ℕ) : Type 0 where
  pub front : List (List ℕ)
  pub line : List ℕ
  pub back : List (List ℕ)
  pub all : lines ≡ front ++ line ∷ back
  pub index : at ≡ byte + spans front
  pub begins : begins_with word line ≡ true

abbrev first_of : Option (ℕ × ℕ) → ℕ
first_of None = 0
first_of (Some index) = index.0

pub found_at : (word : List ℕ) (lines : List (List ℕ)) (byte number at count : ℕ) → begin_from word byte number lines ≡ Some (at, count) → Found word lines byte number at count
found_at word [] byte number at count is = absurd (cc)
found_at word (line ∷ lines) byte number at count is = go (begins_with word line) refl is (found_at word lines (byte + (length line + 1)) (number + 1) at count)
  where
    go : (t : Bool) → begins_with word line ≡ t → (if t then Some (byte, number) else begin_from word (byte + (length line + 1)) (number + 1) lines) ≡ Some (at, count)
        → (begin_from word (byte + (length line + 1)) (number + 1) lines ≡ Some (at, count) → Found word lines (byte + (length line + 1)) (number + 1) at count)
        → Found word (line ∷ lines) byte number at count
    go true begins is more =
        let same : at ≡ byte = sym (ap first_of is) in
        record { front = []; line = line; back = lines; all = refl; index = omega (arith, same); begins = begins }
    go false begins is more =
        let rest = more is in
        let index = rest.index in
        record { front = line ∷ rest.front; line = rest.line; back = rest.back; all = ap (λ (ls : List (List ℕ)). line ∷ ls) rest.all; index = omega (arith, index); begins = rest.begins }
