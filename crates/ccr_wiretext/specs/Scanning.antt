-- Plain lines of posters, found in one scan.
use Rattle.std.specs.Prelude.{◌≡◌, ◌<◌, ◌+◌, ℕ, true, nat_lt, List, [], ◌∷◌, length, Some, Ok, Err, codes}
use Rattle.ccr_base.specs.Bounds.{most_script_posts}
use Rattle.ccr_text.specs.Words.{is_clean, number_of, words_of}
use Rattle.ccr_text.specs.Lines.{split_text, first_line}
use Rattle.ccr_text.specs.declared.code.Code.{Code}
use Rattle.ccr_text.specs.declared.stop.Stop.{Stop}
use Rattle.ccr_text.specs.declared.stop.Stop.TheVariants as stops
use Rattle.ccr_text.specs.Codes.{code_number}
use Rattle.ccr_wiring.specs.declared.parts.PosterPart.{PosterPart}
use Rattle.ccr_wiretext.specs.declared.draft.Block.TheVariants as blocks
use Rattle.ccr_wiretext.specs.declared.scanning.PlainPost.{PlainPost}
use Rattle.ccr_wiretext.specs.Drafts.{Declared, script_count}
use Rattle.ccr_wiretext.specs.Fields.{port_of}
use Rattle.ccr_wiretext.specs.Reading.{So, after_clean}

-- the text's first line is clean, and these are its words
pub record IsPlainPost (text : List ℕ) (post : PlainPost) : Type 0 where
  pub digits : List ℕ
  pub spelled : number_of digits ≡ Some post.number
  pub words : words_of (first_line text) ≡ codes "post" ∷ post.port.now ∷ digits ∷ []
  pub clean : is_clean (first_line text) ≡ true
  pub lines : split_text text ≡ first_line text ∷ split_text post.behind.now
  pub shorter : length post.behind.now < length text

-- a poster is open, there is room for one post more, and the name means this port
pub record MayPost (draft : Declared) (name : List ℕ) (port : ℕ) : Type 0 where
  pub part : PosterPart
  pub block : draft.block ≡ blocks.Poster part
  pub room : nat_lt (script_count draft.parts + length part.posts) most_script_posts ≡ true
  pub means : port_of draft name ≡ Some port

-- the text's first line is taken in, and this stands behind it
pub record IsLineTaken (so : So) (text : List ℕ) (new : So) (behind : List ℕ) : Type 0 where
  pub lines : split_text text ≡ first_line text ∷ split_text behind
  pub shorter : length behind < length text
  pub taken : after_clean so (is_clean (first_line text)) (words_of (first_line text)) ≡ Ok new

-- the text's first line is refused
abbrev pub IsLineRefused : So → List ℕ → Stop Code → Type 0
IsLineRefused so text stops.Memory = Unit {0}
IsLineRefused so text (stops.Refused code) =
    (behind : List ℕ) × (split_text text ≡ first_line text ∷ split_text behind)
    × (after_clean so (is_clean (first_line text)) (words_of (first_line text)) ≡ Err (code_number code))
