-- Whole texts: what is read is in the grammar, and what is in the grammar is read.
use Rattle.std.proofs.Common.{◌≡◌, ℕ, Bool, true, false, cond, List, [], ◌∷◌, Some, None, Result, Ok, Err, ◌⊎◌, inl, inr, refl, sym, ap, subst, ◌∙◌}
use Rattle.std.specs.Prelude.{max, codes}
use Rattle.std.specs.Str.{bytes_eq}
use Rattle.ccr_base.proofs.Texts.{same_word}
use Rattle.ccr_base.proofs.Booleans.{chosen}
use Rattle.ccr_text.specs.declared.lines.Line.{Line}
use Rattle.ccr_text.specs.Lines.{lines_of}
use Rattle.ccr_text.specs.Fields.{Words, or_code}
use Rattle.ccr_text.specs.Words.{is_comment}
use Rattle.ccr_wiring.specs.declared.parts.Parts.{Parts}
use Rattle.ccr_wiretext.specs.declared.draft.Block.{Block}
use Rattle.ccr_wiretext.specs.declared.draft.Block.TheVariants as blocks
use Rattle.ccr_wiretext.specs.Keywords.{keyword}
use Rattle.ccr_wiretext.specs.Drafts.{Declared, nothing}
use Rattle.ccr_wiretext.specs.Blocks.{line_in}
use Rattle.ccr_wiretext.specs.Reading.{So, version_word, version_of, after_words, after_all, after_line, closed, at_end, at_line, reading_after, reading_text}
use Rattle.ccr_wiretext.specs.Lines.{Says, IsBlank, AreLines, AreHeadedLines, IsText}
use Rattle.ccr_wiretext.proofs.ReadTellsSteps.{bind_ok, ok_is, or_code_ok}
use Rattle.ccr_wiretext.proofs.BlocksRead.{line_said, line_read}

-- a line that is no comment, by its first word
record IsTold (so new : So) (words : Words) : Type 0 where
  first : List ℕ
  others : Words
  spelled : words ≡ first ∷ others
  plain : is_comment first ≡ false
  told : after_words so first others ≡ Ok new

words_after : (so new : So) (words : Words) → after_all so words ≡ Ok new → (IsBlank words × (so ≡ new)) ⊎ IsTold so new words
unfolding after_all
words_after so new [] e = inl (tt, ok_is so new e)
words_after so new (first ∷ words) e = elim (chosen (is_comment first) (Ok so) (after_words so first words) (Ok new) e) [
  | inl blank ↦ inl (blank.0, ok_is so new blank.1)
  | inr told ↦ inr (record { first = first; others = words; spelled = refl; plain = told.0; told = told.1 })
]

line_after : (so new : So) (line : Line) → after_line so line ≡ Ok new → (line.clean ≡ true) × ((IsBlank line.words × (so ≡ new)) ⊎ IsTold so new line.words)
unfolding after_line
line_after so new line e = elim (chosen line.clean (after_all so line.words) (Err 1) (Ok new) e) [
  | inl clean ↦ (clean.0, words_after so new line.words clean.1)
  | inr unclean ↦ absurd (let h : Err 1 ≡ Ok new = unclean.1 in cc)
]

words_blank : (so : So) (words : Words) → IsBlank words → after_all so words ≡ Ok so
unfolding after_all
words_blank so [] blank = refl
words_blank so (first ∷ words) blank = rw blank refl

blank_after : (so : So) (line : Line) → line.clean ≡ true → IsBlank line.words → after_line so line ≡ Ok so
unfolding after_line
blank_after so line clean blank = rw clean (words_blank so line.words blank)

version_first : (first second : List ℕ) (version : ℕ) → version_of (first ∷ second ∷ []) ≡ Some version → bytes_eq first (codes "ccr") ≡ true
version_first first second version e = by (bytes_eq first (codes "ccr")) e
  where
    by : (t : Bool) → cond t (version_word second) None ≡ Some version → t ≡ true
    by true h = refl
    by false h = absurd cc

head_words : (words : Words) (version : ℕ) → version_of words ≡ Some version → after_all None words ≡ Ok (Some (nothing version))
unfolding after_all after_words
head_words [] version e = absurd cc
head_words (first ∷ []) version e = absurd cc
head_words (first ∷ second ∷ []) version e =
    let plain : is_comment first ≡ false = rw (same_word first (codes "ccr") (version_first first second version e)) refl in
    rw (plain, e) refl
head_words (first ∷ second ∷ third ∷ words) version e = absurd cc

head_after : (line : Line) (version : ℕ) → line.clean ≡ true → version_of line.words ≡ Some version → after_line None line ≡ Ok (Some (nothing version))
unfolding after_line
head_after line version clean head = rw clean (head_words line.words version head)

told_after : (so new : So) (line : Line) → line.clean ≡ true → (first : List ℕ) (words : Words) → line.words ≡ first ∷ words → is_comment first ≡ false → after_words so first words ≡ Ok new → after_line so line ≡ Ok new
unfolding after_line after_all
told_after so new line clean first words spelled plain told = rw (clean, spelled, plain) told

-- the step of one line
step_ok : (so : So) (last : ℕ) (line : Line) (lines : List Line) (parts : Parts) → reading_after so last (line ∷ lines) ≡ Ok parts
    → (new : So) × (after_line so line ≡ Ok new) × (reading_after new line.number lines ≡ Ok parts)
unfolding reading_after
step_ok so last line lines parts e = by (after_line so line) refl e
  where
    by : (r : Result So ℕ) → after_line so line ≡ r → ◌≡◌ {A = Result Parts (ℕ × ℕ)} (elim r [ Ok new ↦ reading_after new line.number lines | Err code ↦ Err (line.number, code) ]) (Ok parts)
        → (new : So) × (after_line so line ≡ Ok new) × (reading_after new line.number lines ≡ Ok parts)
    by (Ok new) is h = (new, is, h)
    by (Err code) is h = absurd cc

step_read : (so new : So) (last : ℕ) (line : Line) (lines : List Line) → after_line so line ≡ Ok new → reading_after so last (line ∷ lines) ≡ reading_after new line.number lines
unfolding reading_after
step_read so new last line lines e = rw (e, reading_after) refl

parts_are : (x y : Parts) (last : ℕ) → at_line last (Ok x) ≡ Ok y → x ≡ y
parts_are x y last e = cc

headless : (last : ℕ) (parts : Parts) → reading_after None last [] ≡ Ok parts → ⊥
unfolding reading_after at_end
headless last parts e = absurd cc

-- the end of the text
end_said : (draft : Declared) (last : ℕ) (parts : Parts) → reading_after (Some draft) last [] ≡ Ok parts → (draft.block ≡ blocks.Outside) × (parts ≡ draft.parts)
unfolding reading_after at_end
end_said draft last parts e = by draft.block refl e
  where
    by : (b : Block) → draft.block ≡ b → at_line (max last 1) (closed b draft.parts) ≡ Ok parts → (draft.block ≡ blocks.Outside) × (parts ≡ draft.parts)
    by blocks.Outside is h = (is, sym (parts_are draft.parts parts (max last 1) h))
    by (blocks.Handler part) is h = absurd cc
    by (blocks.Arbiter part) is h = absurd cc
    by (blocks.Poster part) is h = absurd cc

end_read : (draft : Declared) (last : ℕ) (parts : Parts) → draft.block ≡ blocks.Outside → parts ≡ draft.parts → reading_after (Some draft) last [] ≡ Ok parts
unfolding reading_after at_end
end_read draft last parts outside is = rw (outside, is) refl

told_lines : (draft : Declared) (new : So) (first : List ℕ) (words : Words) → after_words (Some draft) first words ≡ Ok new → (next : Declared) × (new ≡ Some next) × Says draft.block draft (keyword first) words next
unfolding after_words
told_lines draft new first words e =
    let a = bind_ok (line_in draft.block draft (keyword first) words) (λ next. Ok (Some next)) new e in
    (a.0, sym (ok_is (Some a.0) new a.2), line_said draft.block draft (keyword first) words a.0 a.1)

says_lines : (draft next : Declared) (first : List ℕ) (words : Words) → Says draft.block draft (keyword first) words next → after_words (Some draft) first words ≡ Ok (Some next)
unfolding after_words
says_lines draft next first words said = rw (line_read draft.block draft (keyword first) words next said) refl

told_head : (new : So) (first : List ℕ) (words : Words) → after_words None first words ≡ Ok new → (version : ℕ) × (version_of (first ∷ words) ≡ Some version) × (new ≡ Some (nothing version))
unfolding after_words
told_head new first words e =
    let a = bind_ok (or_code (version_of (first ∷ words)) 2) (λ version. Ok (Some (nothing version))) new e in
    (a.0, or_code_ok _ 2 a.0 a.1, sym (ok_is (Some (nothing a.0)) new a.2))

lines_said : (draft : Declared) (last : ℕ) (lines : List Line) (parts : Parts) → reading_after (Some draft) last lines ≡ Ok parts → AreLines draft lines parts
lines_said draft last [] parts e = end_said draft last parts e
lines_said draft last (line ∷ lines) parts e =
    let step = step_ok (Some draft) last line lines parts e in
    let after = line_after (Some draft) step.0 line step.1 in (
      after.0,
      elim after.1 [
        | inl blank ↦ inl (blank.0, lines_said draft line.number lines parts (subst (λ so. reading_after so line.number lines ≡ Ok parts) (sym blank.1) step.2))
        | inr told ↦
            let next = told_lines draft step.0 told.first told.others told.told in
            inr (told.first, told.others, next.0, told.spelled, told.plain, next.2, lines_said next.0 line.number lines parts (subst (λ so. reading_after so line.number lines ≡ Ok parts) next.1 step.2))
      ],
    )

lines_read : (draft : Declared) (last : ℕ) (lines : List Line) (parts : Parts) → AreLines draft lines parts → reading_after (Some draft) last lines ≡ Ok parts
lines_read draft last [] parts said = end_read draft last parts said.0 said.1
lines_read draft last (line ∷ lines) parts (clean, inl said) =
    step_read (Some draft) (Some draft) last line lines (blank_after (Some draft) line clean said.0) ∙ lines_read draft line.number lines parts said.1
lines_read draft last (line ∷ lines) parts (clean, inr said) =
    step_read (Some draft) (Some said.2) last line lines (told_after (Some draft) (Some said.2) line clean said.0 said.1 said.3 said.4 (says_lines draft said.2 said.0 said.1 said.5))
    ∙ lines_read said.2 line.number lines parts said.6

headed_said : (last : ℕ) (lines : List Line) (parts : Parts) → reading_after None last lines ≡ Ok parts → AreHeadedLines lines parts
headed_said last [] parts e = headless last parts e
headed_said last (line ∷ lines) parts e =
    let step = step_ok None last line lines parts e in
    let after = line_after None step.0 line step.1 in (
      after.0,
      elim after.1 [
        | inl blank ↦ inl (blank.0, headed_said line.number lines parts (subst (λ so. reading_after so line.number lines ≡ Ok parts) (sym blank.1) step.2))
        | inr told ↦
            let head = told_head step.0 told.first told.others told.told in
            inr (head.0, ap version_of told.spelled ∙ head.1, lines_said (nothing head.0) line.number lines parts (subst (λ so. reading_after so line.number lines ≡ Ok parts) head.2 step.2))
      ],
    )

headed_read : (last : ℕ) (lines : List Line) (parts : Parts) → AreHeadedLines lines parts → reading_after None last lines ≡ Ok parts
headed_read last [] parts said = absurd said
headed_read last (line ∷ lines) parts (clean, inl said) =
    step_read None None last line lines (blank_after None line clean said.0) ∙ headed_read line.number lines parts said.1
headed_read last (line ∷ lines) parts (clean, inr said) =
    step_read None (Some (nothing said.0)) last line lines (head_after line said.0 clean said.1) ∙ lines_read (nothing said.0) line.number lines parts said.2

-- a text that was read is one of these parts
pub text_said : (text : List ℕ) (parts : Parts) → reading_text text ≡ Ok parts → IsText text parts
text_said text parts e = headed_said 0 (lines_of text) parts e

pub text_read : (text : List ℕ) (parts : Parts) → IsText text parts → reading_text text ≡ Ok parts
text_read text parts said = headed_read 0 (lines_of text) parts said
