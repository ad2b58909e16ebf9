-- Reading line by line: the first line that offends, and its code.
use Rattle.std.specs.Prelude.{ℕ, Bool, List, [], ◌∷◌, Option, Some, None, Result, Ok, Err, if◌then◌else◌, codes, max}
use Rattle.std.specs.Str.{bytes_eq}
use Rattle.ccr_text.specs.declared.lines.Line.{Line}
use Rattle.ccr_text.specs.Lines.{lines_of}
use Rattle.ccr_text.specs.Fields.{Words, ◌>>=◌, or_code}
use Rattle.ccr_text.specs.Words.{is_comment}
use Rattle.ccr_wiring.specs.declared.parts.Parts.{Parts}
use Rattle.ccr_wiretext.specs.declared.draft.Block.{Block}
use Rattle.ccr_wiretext.specs.declared.draft.Block.TheVariants as blocks
use Rattle.ccr_wiretext.specs.Keywords.{keyword}
use Rattle.ccr_wiretext.specs.Drafts.{Declared, nothing}
use Rattle.ccr_wiretext.specs.Blocks.{line_in}

-- the version that a word gives
abbrev pub version_word : List ℕ → Option ℕ
version_word word = if bytes_eq word (codes "1") then Some 1 else if bytes_eq word (codes "2") then Some 2 else None

-- the version of the line `ccr 1` or `ccr 2`
abbrev pub version_of : Words → Option ℕ
version_of (first ∷ second ∷ []) = if bytes_eq first (codes "ccr") then version_word second else None
version_of _ = None

-- what is declared so far: None before the line that gives the version
abbrev pub So : Type 0
So = Option Declared

-- after a line whose first word is no comment
unfoldable pub after_words : So → List ℕ → Words → Result So ℕ
after_words None first words = or_code (version_of (first ∷ words)) 2 >>= λ version. Ok (Some (nothing version))
after_words (Some draft) first words = line_in draft.block draft (keyword first) words >>= λ new. Ok (Some new)

-- a line without words or with a comment is skipped
unfoldable pub after_all : So → Words → Result So ℕ
after_all so [] = Ok so
after_all so (first ∷ words) = if is_comment first then Ok so else after_words so first words

-- after the words of a line: one that isn't clean is code 1
abbrev pub after_clean : So → Bool → Words → Result So ℕ
after_clean so clean words = if clean then after_all so words else Err 1

-- after a line
unfoldable pub after_line : So → Line → Result So ℕ
after_line so line = after_clean so line.clean line.words

-- the text may not end inside a block
abbrev pub closed : Block → Parts → Result Parts ℕ
closed blocks.Outside parts = Ok parts
closed _ parts = Err 9

-- at the end of the text
unfoldable pub at_end : So → Result Parts ℕ
at_end None = Err 2
at_end (Some draft) = closed draft.block draft.parts

-- a code with the number of its line
abbrev pub at_line : {A : Type 0} → ℕ → Result A ℕ → Result A (ℕ × ℕ)
at_line number (Ok x) = Ok x
at_line number (Err code) = Err (number, code)

-- the lines that are left, where last is the number of the line before
unfoldable pub reading_after : So → ℕ → List Line → Result Parts (ℕ × ℕ)
reading_after so last [] = at_line (max last 1) (at_end so)
reading_after so last (line ∷ lines) = elim (after_line so line) [ Ok new ↦ reading_after new line.number lines | Err code ↦ Err (line.number, code) ]

-- the parts that the lines say, or the first offending line and its code
abbrev pub reading : List Line → Result Parts (ℕ × ℕ)
reading lines = reading_after None 0 lines

-- the parts that a text stands for, or its first offending line and the code
abbrev pub reading_text : List ℕ → Result Parts (ℕ × ℕ)
reading_text text = reading (lines_of text)
