-- In a text that says a wiring no line begins with `record`.
use Rattle.std.proofs.Common.{◌≡◌, ℕ, ◌+◌, Bool, true, false, List, [], ◌∷◌, Option, Some, None, Result, Ok, Err, refl, sym, ap, ◌∙◌, codes}
use Rattle.std.specs.Prelude.{◌&&◌, not, if◌then◌else◌}
use Rattle.std.specs.Str.{bytes_eq}
use Rattle.std.proofs.lemmas.Slice.Eq.{bytes_eq-Decides}
use Rattle.ccr_text.specs.Lines.{begins_with, split_text, is_first_word, numbered, numbered_line}
use Rattle.ccr_text.specs.Fields.{Words, ◌>>=◌, or_code}
use Rattle.ccr_text.specs.Words.{is_clean, words_of}
use Rattle.ccr_wiring.specs.declared.parts.Kind.{Kind}
use Rattle.ccr_wiring.specs.declared.parts.Kind.TheVariants as arbiters
use Rattle.ccr_wiring.specs.declared.parts.Parts.{Parts}
use Rattle.ccr_wiretext.specs.declared.draft.Block.{Block}
use Rattle.ccr_wiretext.specs.declared.draft.Block.TheVariants as blocks
use Rattle.ccr_wiretext.specs.declared.keyword.Keyword.{Keyword}
use Rattle.ccr_wiretext.specs.declared.keyword.Keyword.TheVariants.{Other}
use Rattle.ccr_wiretext.specs.Blocks.{apart, arbiter_line, branch_line, group_of, handler_line, line_in, outside_line, poster_line}
use Rattle.ccr_wiretext.specs.Drafts.{Declared, nothing}
use Rattle.ccr_wiretext.specs.Keywords.{keyword}
use Rattle.ccr_wiretext.specs.Reading.{So, after_all, after_line, after_words, reading_after, reading_text, version_of}
use Rattle.ccr_wiretext.proofs.ReadTellsSteps.{done}
use Rattle.ccr_replay.proofs.Splits.{none_begins}

is_other : keyword (codes "record") ≡ Other
unfolding keyword
is_other = refl

no_group : (kind : Kind) → group_of kind Other ≡ None
no_group arbiters.Receive = refl
no_group arbiters.Choice = refl
no_group arbiters.Interleave = refl

other_refused : (block : Block) (draft : Declared) (words : Words) → line_in block draft Other words ≡ Err 3
unfolding line_in outside_line handler_line arbiter_line poster_line
other_refused blocks.Outside draft words = refl
other_refused (blocks.Handler part) draft words = refl
other_refused (blocks.Arbiter part) draft words = ap (λ g. branch_line (apart draft) part g words) (no_group part.kind)
other_refused (blocks.Poster part) draft words = refl

no_version : (words : Words) → version_of (codes "record" ∷ words) ≡ None
no_version [] = refl
no_version (word ∷ []) = refl
no_version (word ∷ other ∷ words) = refl

-- such a line is refused
after_refused : (so : So) (words : Words) → (code : ℕ) × (after_all so (codes "record" ∷ words) ≡ Err code)
unfolding after_all after_words
after_refused None words = (2, ap (λ (o : Option ℕ). or_code o 2 >>= λ version. done (Some (nothing version))) (no_version words))
after_refused (Some draft) words = (
  3,
  ap (λ (k : Keyword). line_in draft.block draft k words >>= λ new. done (Some new)) is_other
      ∙ ap (λ (r : Result Declared ℕ). r >>= λ new. done (Some new)) (other_refused draft.block draft words),
)

first_free : (so : So) (words : Words) (new : So) → after_all so words ≡ Ok new → is_first_word (codes "record") words ≡ false
first_free so [] new is = refl
first_free so (first ∷ others) new is = same (bytes_eq first (codes "record")) refl
  where
    same : (t : Bool) → bytes_eq first (codes "record") ≡ t → bytes_eq first (codes "record") ≡ false
    same false e = e
    same true e =
        let is_record : first ≡ codes "record" = (bytes_eq-Decides first (codes "record")).0 e in
        let wrong = after_refused so others in
        let read : after_all so (codes "record" ∷ others) ≡ Ok new = ap (λ (w : List ℕ). after_all so (w ∷ others)) (sym is_record) ∙ is in
        let clash : Err wrong.0 ≡ Ok new = sym wrong.1 ∙ read in
        absurd (cc)

line_free : (so : So) (number : ℕ) (line : List ℕ) (new : So) → after_line so (numbered_line number line) ≡ Ok new → begins_with (codes "record") line ≡ false
unfolding after_line
line_free so number line new is = by_clean (is_clean line) is
  where
    by_clean : (t : Bool) → (if t then after_all so (words_of line) else Err 1) ≡ Ok new → is_first_word (codes "record") (words_of line) ≡ false
    by_clean true is = first_free so (words_of line) new is
    by_clean false is = absurd (cc)

-- how reading goes on behind a line
abbrev rest_of : ℕ → List (List ℕ) → Result So ℕ → Result Parts (ℕ × ℕ)
rest_of number lines r = elim r [ Ok new ↦ reading_after new number (numbered (number + 1) lines) | Err code ↦ Err (number, code) ]

none_in : (so : So) (last number : ℕ) (lines : List (List ℕ)) (parts : Parts) → reading_after so last (numbered number lines) ≡ Ok parts → none_begins (codes "record") lines ≡ true
unfolding reading_after
none_in so last number [] parts is = refl
none_in so last number (line ∷ lines) parts is = go (after_line so (numbered_line number line)) refl is (λ new. none_in new number (number + 1) lines parts)
  where
    go : (r : Result So ℕ) → after_line so (numbered_line number line) ≡ r
        → rest_of number lines r ≡ Ok parts
        → ((new : So) → reading_after new number (numbered (number + 1) lines) ≡ Ok parts → none_begins (codes "record") lines ≡ true)
        → none_begins (codes "record") (line ∷ lines) ≡ true
    go (Err code) at is more = absurd (cc)
    go (Ok new) at is more =
        let free = line_free so number line new at in
        let rest = more new is in
        ap (λ (t : Bool). not t && none_begins (codes "record") lines) free ∙ rest

pub no_record : (text : List ℕ) (parts : Parts) → reading_text text ≡ Ok parts → none_begins (codes "record") (split_text text) ≡ true
no_record text parts is = none_in None 0 1 (split_text text) parts is
