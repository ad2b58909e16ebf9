-- The first line of a text, run by run.
use Rattle.std.proofs.Common.{◌≡◌, ◌≢◌, ℕ, ◌≤◌, Bool, true, false, List, [], ◌∷◌, ◌++◌, Bor, Option, Some, None, length, refl, sym, ap, subst, ◌∙◌, append_assoc, append-nil, arith}
use Rattle.std.specs.Prelude.{◌==◌, ◌&&◌, ◌||◌, not, filter, IfSome, IfNone}
use Rattle.std.specs.List.{list_all, onto_first}
use Rattle.std.proofs.lemmas.Bool.Decides.{nat_tests}
use Rattle.ccr_text.specs.Words.{is_blank, is_graphic, is_clean, pieces, words_of}
use Rattle.ccr_text.specs.Lines.{split_text, first_line, behind_line}
use Rattle.std.proofs.lemmas.Bool.{and_parts as both}
use Rattle.std.proofs.Math.Bool.{and-true}
use Rattle.ccr_base.proofs.Lists.{length_behind}

abbrev pub AllGraphic : List ℕ → Type 0
AllGraphic word = list_all is_graphic word ≡ true

-- the word alone, or nothing where it has no byte
abbrev pub alone : List ℕ → List (List ℕ)
alone word = filter (λ piece. not (length piece == 0)) (word ∷ [])

-- the first line and those behind it
split_by : (b : ℕ) (bytes : List ℕ) (t : Bool) → (b == 10) ≡ t → onto_first b (split_text bytes) ≡ (b ∷ first_line bytes) ∷ split_text (behind_line bytes) → split_text (b ∷ bytes) ≡ first_line (b ∷ bytes) ∷ split_text (behind_line (b ∷ bytes))
split_by b bytes true e rest = rw e refl
split_by b bytes false e rest = rw e rest

pub split_next : (b : ℕ) (bytes : List ℕ) → split_text (b ∷ bytes) ≡ first_line (b ∷ bytes) ∷ split_text (behind_line (b ∷ bytes))
split_next b [] = split_by b [] (b == 10) refl refl
split_next b (c ∷ bytes) = split_by b (c ∷ bytes) (b == 10) refl (rw (split_next c bytes) refl)

split_first_line : (text : List ℕ) → text ≢ [] → split_text text ≡ first_line text ∷ split_text (behind_line text)
split_first_line [] some = absurd (some refl)
split_first_line (b ∷ bytes) some = split_next b bytes

no_feed : (b : ℕ) → is_graphic b ≡ true → (b == 10) ≡ false
no_feed b e = grind (arith, nat_tests)

clean_graphic : (b : ℕ) → is_graphic b ≡ true → (is_blank b || is_graphic b) ≡ true
clean_graphic b e = grind (arith, nat_tests)

line_run : (word rest : List ℕ) → AllGraphic word → first_line (word ++ rest) ≡ word ++ first_line rest
line_run [] rest graphic = refl
line_run (b ∷ word) rest graphic =
    let are = both (is_graphic b) (list_all is_graphic word) graphic in
    rw (no_feed b are.0, line_run word rest are.1) refl

behind_run : (word rest : List ℕ) → AllGraphic word → behind_line (word ++ rest) ≡ behind_line rest
behind_run [] rest graphic = refl
behind_run (b ∷ word) rest graphic =
    let are = both (is_graphic b) (list_all is_graphic word) graphic in
    rw (no_feed b are.0) (behind_run word rest are.1)

clean_run : (word line : List ℕ) → AllGraphic word → is_clean (word ++ line) ≡ is_clean line
clean_run [] line graphic = refl
clean_run (b ∷ word) line graphic =
    let are = both (is_graphic b) (list_all is_graphic word) graphic in
    rw (clean_graphic b are.0) (clean_run word line are.1)

pub pieces_run : (word : List ℕ) (c : ℕ) (line : List ℕ) → AllGraphic word → is_graphic c ≡ false → pieces (word ++ c ∷ line) ≡ word ∷ pieces line
pieces_run [] c line graphic other = rw other refl
pieces_run (b ∷ word) c line graphic other =
    let are = both (is_graphic b) (list_all is_graphic word) graphic in
    rw (are.0, pieces_run word c line are.1 other) refl

pub pieces_end : (word : List ℕ) → AllGraphic word → pieces word ≡ word ∷ []
pieces_end [] graphic = refl
pieces_end (b ∷ word) graphic =
    let are = both (is_graphic b) (list_all is_graphic word) graphic in
    rw (are.0, pieces_end word are.1) refl

alone_first : (word : List ℕ) (words : List (List ℕ)) → filter (λ piece. not (length piece == 0)) (word ∷ words) ≡ alone word ++ filter (λ piece. not (length piece == 0)) words
alone_first word words = by (length word == 0) refl
  where
    by : (t : Bool) → (length word == 0) ≡ t → filter (λ piece. not (length piece == 0)) (word ∷ words) ≡ alone word ++ filter (λ piece. not (length piece == 0)) words
    by true e = rw e refl
    by false e = rw e refl

words_run : (word : List ℕ) (c : ℕ) (line : List ℕ) → AllGraphic word → is_graphic c ≡ false → words_of (word ++ c ∷ line) ≡ alone word ++ words_of line
words_run word c line graphic other = rw (pieces_run word c line graphic other) (alone_first word (pieces line))

words_end : (word : List ℕ) → AllGraphic word → words_of word ≡ alone word
words_end word graphic = rw (pieces_end word graphic) refl

-- the words so far, whether all so far is clean, and what is left of the text
abbrev pub IsTaken : List (List ℕ) → Bool → List ℕ → List ℕ → Type 0
IsTaken so clean rest text = record {
  words : so ++ words_of (first_line rest) ≡ words_of (first_line text);
  clean : (clean && is_clean (first_line rest)) ≡ is_clean (first_line text);
  behind : behind_line rest ≡ behind_line text;
  short : length rest ≤ length text;
}

other_feed : (c : ℕ) → c ≢ 10 → (c == 10) ≡ false
other_feed c other = grind (arith, nat_tests, other)

and_last : (clean blank rest : Bool) → (clean && (blank && rest)) ≡ ((clean && blank) && rest)
and_last true blank rest = refl
and_last false blank rest = refl

clean_other : (c : ℕ) (line : List ℕ) → is_graphic c ≡ false → is_clean (c ∷ line) ≡ (is_blank c && is_clean line)
clean_other c line other = rw other (by (is_blank c))
  where
    by : (t : Bool) → ((t || false) && is_clean line) ≡ (t && is_clean line)
    by true = refl
    by false = refl

-- a run of graphic bytes and a byte behind it that is no LF
pub taken_more : (so : List (List ℕ)) (clean : Bool) (rest text word : List ℕ) (c : ℕ) (after : List ℕ) → IsTaken so clean rest text → rest ≡ word ++ c ∷ after → AllGraphic word → is_graphic c ≡ false → c ≢ 10
    → IsTaken (so ++ alone word) (clean && is_blank c) after text
taken_more so clean rest text word c after taken is graphic other line =
    let feed = other_feed c line in
    let first : first_line rest ≡ word ++ c ∷ first_line after = ap first_line is ∙ line_run word (c ∷ after) graphic ∙ rw feed refl in
    let words : words_of (first_line rest) ≡ alone word ++ words_of (first_line after) = ap words_of first ∙ words_run word c (first_line after) graphic other in
    let tidy : is_clean (first_line rest) ≡ (is_blank c && is_clean (first_line after)) = ap is_clean first ∙ clean_run word (c ∷ first_line after) graphic ∙ clean_other c (first_line after) other in
    let behind : behind_line rest ≡ behind_line after = ap behind_line is ∙ behind_run word (c ∷ after) graphic ∙ rw feed refl in
    record {
      words = append_assoc so (alone word) (words_of (first_line after)) ∙ ap (λ (ws : List (List ℕ)). so ++ ws) (sym words) ∙ taken.words;
      clean = sym (and_last clean (is_blank c) (is_clean (first_line after))) ∙ ap (λ t. clean && t) (sym tidy) ∙ taken.clean;
      behind = sym behind ∙ taken.behind;
      short = omega (arith, length_behind word c after, ap (λ (t : List ℕ). length t) is, taken.short);
    }

-- what the first line is, where these bytes of it are left
abbrev pub IsLast : List (List ℕ) → Bool → List ℕ → List ℕ → Type 0
IsLast words clean after text = record {
  words : words ≡ words_of (first_line text);
  clean : clean ≡ is_clean (first_line text);
  lines : split_text text ≡ first_line text ∷ split_text after;
}

last_run : (so : List (List ℕ)) (clean : Bool) (rest text word after : List ℕ) → text ≢ [] → IsTaken so clean rest text → first_line rest ≡ word → behind_line rest ≡ after → AllGraphic word → IsLast (so ++ alone word) clean after text
last_run so clean rest text word after some taken first behind graphic =
    let tidy : is_clean (first_line rest) ≡ true = ap is_clean first ∙ sym (ap is_clean (append-nil word)) ∙ clean_run word [] graphic in
    record {
      words = ap (λ (ws : List (List ℕ)). so ++ ws) (sym (ap words_of first ∙ words_end word graphic)) ∙ taken.words;
      clean = sym (and-true clean) ∙ ap (λ t. clean && t) (sym tidy) ∙ taken.clean;
      lines = split_first_line text some ∙ ap (λ (t : List ℕ). first_line text ∷ split_text t) (sym taken.behind ∙ behind);
    }

-- an LF behind the run
pub taken_feed : (so : List (List ℕ)) (clean : Bool) (rest text word after : List ℕ) → text ≢ [] → IsTaken so clean rest text → rest ≡ word ++ 10 ∷ after → AllGraphic word → IsLast (so ++ alone word) clean after text
taken_feed so clean rest text word after some taken is graphic =
    last_run so clean rest text word after some taken (ap first_line is ∙ line_run word (10 ∷ after) graphic ∙ append-nil word) (ap behind_line is ∙ behind_run word (10 ∷ after) graphic) graphic

-- the text ends with the run
pub taken_end : (so : List (List ℕ)) (clean : Bool) (rest text word : List ℕ) → text ≢ [] → IsTaken so clean rest text → rest ≡ word → AllGraphic word → IsLast (so ++ alone word) clean [] text
taken_end so clean rest text word some taken is graphic =
    let whole : word ≡ word ++ [] = sym (append-nil word) in
    last_run so clean rest text word [] some taken (ap first_line (is ∙ whole) ∙ line_run word [] graphic ∙ append-nil word) (ap behind_line (is ∙ whole) ∙ behind_run word [] graphic) graphic

-- what a run is that ends with this byte
at_byte : (rest word : List ℕ) (behind : Option (ℕ × Bor (List ℕ))) (byte : ℕ) (after : Bor (List ℕ)) → IfSome behind (λ b. rest ≡ word ++ b.0 ∷ b.1.now) → behind ≡ Some (byte, after) → rest ≡ word ++ byte ∷ after.now
at_byte rest word behind byte after parts is = subst (λ o. IfSome o (λ b. rest ≡ word ++ b.0 ∷ b.1.now)) is parts

other_byte : (behind : Option (ℕ × Bor (List ℕ))) (byte : ℕ) (after : Bor (List ℕ)) → IfSome behind (λ b. is_graphic b.0 ≡ false) → behind ≡ Some (byte, after) → is_graphic byte ≡ false
other_byte behind byte after other is = subst (λ o. IfSome o (λ b. is_graphic b.0 ≡ false)) is other

-- a run and the LF behind it
pub feed_at : (so : List (List ℕ)) (clean : Bool) (rest text word : List ℕ) (behind : Option (ℕ × Bor (List ℕ))) (byte : ℕ) (after : Bor (List ℕ)) → text ≢ [] → IsTaken so clean rest text → IfSome behind (λ b. rest ≡ word ++ b.0 ∷ b.1.now)
    → behind ≡ Some (byte, after) → byte ≡ 10 → AllGraphic word → IsLast (so ++ alone word) clean after.now text
feed_at so clean rest text word behind byte after some taken parts is feed graphic =
    taken_feed so clean rest text word after.now some taken (at_byte rest word behind byte after parts is ∙ ap (λ (b : ℕ). word ++ b ∷ after.now) feed) graphic

-- a run and the end of the text behind it
pub end_at : (so : List (List ℕ)) (clean : Bool) (rest text word : List ℕ) (behind : Option (ℕ × Bor (List ℕ))) → text ≢ [] → IsTaken so clean rest text → IfNone behind (rest ≡ word) → behind ≡ None → AllGraphic word
    → IsLast (so ++ alone word) clean [] text
end_at so clean rest text word behind some taken whole is graphic = taken_end so clean rest text word some taken (subst (λ o. IfNone o (rest ≡ word)) is whole) graphic

-- a run and another byte behind it
pub more_at : (so new : List (List ℕ)) (clean next : Bool) (rest text word : List ℕ) (behind : Option (ℕ × Bor (List ℕ))) (byte : ℕ) (after : Bor (List ℕ)) → IsTaken so clean rest text → IfSome behind (λ b. rest ≡ word ++ b.0 ∷ b.1.now)
    → IfSome behind (λ b. is_graphic b.0 ≡ false) → behind ≡ Some (byte, after) → byte ≢ 10 → AllGraphic word → new ≡ so ++ alone word → next ≡ (clean && is_blank byte) → IsTaken new next after.now text
more_at so new clean next rest text word behind byte after taken parts other is line graphic words tidy =
    rw (words, tidy) (taken_more so clean rest text word byte after.now taken (at_byte rest word behind byte after parts is) graphic (other_byte behind byte after other is) line)
