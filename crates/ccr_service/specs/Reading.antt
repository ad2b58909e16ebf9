-- Reading a service text line by line: the first line that offends, and its code.
use Rattle.std.specs.Prelude.{ℕ, Bool, false, not, List, [], ◌∷◌, length, Option, Some, None, Result, Ok, Err, ◌==◌, ◌&&◌, if◌then◌else◌, codes, max}
use Rattle.std.specs.Str.{bytes_eq}
use Rattle.ccr_text.specs.declared.lines.Line.{Line}
use Rattle.ccr_text.specs.Lines.{lines_of}
use Rattle.ccr_text.specs.Fields.{Words, ◌>>=◌, unless}
use Rattle.ccr_text.specs.Words.{is_comment}
use Rattle.ccr_wiretext.specs.Reading.{at_line}
use Rattle.ccr_service.specs.declared.parts.ClientPart.{ClientPart}
use Rattle.ccr_service.specs.declared.parts.ServiceParts.{ServiceParts}
use Rattle.ccr_service.specs.Drafts.{Drafted, nothing, line_in}

-- whether the line is `service 1`
abbrev pub is_version : Words → Bool
is_version (first ∷ second ∷ []) = bytes_eq first (codes "service") && bytes_eq second (codes "1")
is_version _ = false

-- what is declared so far: None before the line that gives the version
abbrev pub So : Type 0
So = Option Drafted

-- after a line whose first word is no comment
unfoldable pub after_words : So → List ℕ → Words → Result So ℕ
after_words None first words = unless (is_version (first ∷ words)) 2 >>= λ version. Ok (Some nothing)
after_words (Some draft) first words = line_in draft.block draft first words >>= λ new. Ok (Some new)

-- a line without words or with a comment is skipped
unfoldable pub after_all : So → Words → Result So ℕ
after_all so [] = Ok so
after_all so (first ∷ words) = if is_comment first then Ok so else after_words so first words

-- after the words of a line: one that isn't clean is code 1
abbrev pub after_clean : So → Bool → Words → Result So ℕ
after_clean so clean words = if clean then after_all so words else Err 1

-- after a line
unfoldable pub after_line : So → Line → Result So ℕ
after_line so line = after_clean so line.clean line.words

-- the text may not end inside a block, and has an operation
abbrev pub closed : Option ClientPart → ServiceParts → Result ServiceParts ℕ
closed (Some part) parts = Err 9
closed None parts = unless (not (length parts.ops == 0)) 11 >>= λ some. Ok parts

-- at the end of the text
unfoldable pub at_end : So → Result ServiceParts ℕ
at_end None = Err 2
at_end (Some draft) = closed draft.block draft.parts

-- the lines that are left, where last is the number of the line before
unfoldable pub reading_after : So → ℕ → List Line → Result ServiceParts (ℕ × ℕ)
reading_after so last [] = at_line (max last 1) (at_end so)
reading_after so last (line ∷ lines) = elim (after_line so line) [ Ok new ↦ reading_after new line.number lines | Err code ↦ Err (line.number, code) ]

-- the service that the lines say, or the first offending line and its code
abbrev pub reading : List Line → Result ServiceParts (ℕ × ℕ)
reading lines = reading_after None 0 lines

-- the service that a text stands for, or its first offending line and the code
abbrev pub reading_text : List ℕ → Result ServiceParts (ℕ × ℕ)
reading_text text = reading (lines_of text)
