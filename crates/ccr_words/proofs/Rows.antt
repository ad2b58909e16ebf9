-- The rows that clap keeps, as the list of what was given.
use Rattle.std.proofs.Common.{◌≡◌, ◌∙◌, Bool, true, false, cond, codes, refl, sym, ap, List, [], ◌∷◌, ◌++◌, ◌||◌, map, Some, None, append-nil}
use Rattle.std.proofs.lemmas.List.{map-append}
use Rattle.std.specs.Str.{bytes_eq}
use Rattle.clap.specs.Walk.{Row, Text, at_row, has_row, used, reading_by, with_values, without, more_values}
use Rattle.clap.specs.declared.parser.matches.ValueSource.{ValueSource}
use Rattle.clap.specs.declared.parser.matches.ValueSource.TheVariants.{CommandLine}
use Rattle.ccr_words.specs.Parts.{Part, Given, has, word, workers, size, schedule, json, name_of, takes_value, with_part}
use Rattle.ccr_words.proofs.Rules.{rule_for}

-- the row of a part that was given, or has its default
abbrev pub row : ValueSource → Part → Text → Row
row source part text = record { id = name_of part; values = text ∷ []; count = None; source = Some source; reading = reading_by (rule_for part) }

-- the text that clap has for a part
abbrev pub shown : Part → Text → Text
shown part text = cond (takes_value part) text (codes "true")

abbrev pub row_of_given : Part × Text → Row
row_of_given g = row CommandLine g.0 (shown g.0 g.1)

abbrev pub rows_of_given : Given → List Row
rows_of_given = map row_of_given

pub has-rows : (part : Part) (given : Given) → has_row (name_of part) (rows_of_given given) ≡ has part given
has-rows part [] = refl
has-rows part (g ∷ given) = ap (λ b. bytes_eq (name_of g.0) (name_of part) || b) (has-rows part given)

-- a row that is new goes to the end
at_end-new : (id : Text) (change : Row → List Row) (missing rows : List Row) → has_row id rows ≡ false → at_row id change missing rows ≡ rows ++ missing
at_end-new id change missing [] none = refl
at_end-new id change missing (r ∷ rows) none = go (bytes_eq r.id id) refl (at_end-new id change missing rows)
  where
    go : (b : Bool) → bytes_eq r.id id ≡ b → (has_row id rows ≡ false → at_row id change missing rows ≡ rows ++ missing)
        → at_row id change missing (r ∷ rows) ≡ (r ∷ rows) ++ missing
    go true e more = let bad : true ≡ false = rw e at none in absurd (cc)
    go false e more = let rest : has_row id rows ≡ false = rw e at none in rw e (ap (λ rs. r ∷ rs) (more rest))

pub put_row : (part : Part) (source : ValueSource) (text : Text) (rows : List Row) → has_row (name_of part) rows ≡ false
    → with_values (name_of part) (reading_by (rule_for part)) source (text ∷ []) rows ≡ rows ++ row source part text ∷ []
put_row part source text rows none = at_end-new (name_of part) (more_values source (text ∷ [])) _ rows none

pub without-new : (part : Part) (rows : List Row) → has_row (name_of part) rows ≡ false → without (name_of part) rows ≡ rows
without-new part rows none = at_end-new (name_of part) (λ _. []) [] rows none ∙ append-nil rows

-- a use with one value
abbrev pub put : Part → Text → List Row → List Row
put part text rows = with_values (name_of part) (reading_by (rule_for part)) CommandLine (text ∷ []) (without (name_of part) rows)

pub put-new : (part : Part) (text : Text) (given : Given) → has part given ≡ false → put part (shown part text) (rows_of_given given) ≡ rows_of_given (with_part part text given)
put-new part text given new =
    let none : has_row (name_of part) (rows_of_given given) ≡ false = has-rows part given ∙ new in
    ap (with_values (name_of part) (reading_by (rule_for part)) CommandLine (shown part text ∷ [])) (without-new part (rows_of_given given) none)
    ∙ put_row part CommandLine (shown part text) (rows_of_given given) none
    ∙ sym (map-append row_of_given given ((part, text) ∷ []))

used-value : (part : Part) (text : Text) (rows : List Row) → takes_value part ≡ true → used (rule_for part) (text ∷ []) rows ≡ put part (shown part text) rows
used-value word text rows takes = refl
used-value workers text rows takes = refl
used-value size text rows takes = refl
used-value schedule text rows takes = absurd (cc)
used-value json text rows takes = absurd (cc)

used-flag : (part : Part) (rows : List Row) → takes_value part ≡ false → used (rule_for part) [] rows ≡ put part (shown part []) rows
used-flag word rows takes = absurd (cc)
used-flag workers rows takes = absurd (cc)
used-flag size rows takes = absurd (cc)
used-flag schedule rows takes = refl
used-flag json rows takes = refl

-- one part more
pub used-new : (part : Part) (text : Text) (given : Given) → takes_value part ≡ true → has part given ≡ false
    → used (rule_for part) (text ∷ []) (rows_of_given given) ≡ rows_of_given (with_part part text given)
used-new part text given takes new = used-value part text (rows_of_given given) takes ∙ put-new part text given new

pub flag-new : (part : Part) (given : Given) → takes_value part ≡ false → has part given ≡ false
    → used (rule_for part) [] (rows_of_given given) ≡ rows_of_given (with_part part [] given)
flag-new part given takes new = used-flag part (rows_of_given given) takes ∙ put-new part [] given new
