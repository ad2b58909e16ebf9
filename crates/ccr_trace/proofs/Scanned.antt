-- Words that one scan finds are what whole words say.
use Rattle.std.proofs.Common.{◌≡◌, ℕ, true, false, List, [], ◌∷◌, ◌++◌, Some, refl, sym, ap, ◌∙◌, append_assoc}
use Rattle.std.specs.Prelude.{◌==◌, not}
use Rattle.std.specs.List.{list_all}
use Rattle.std.specs.Char.{is_ascii_digit}
use Rattle.ccr_base.specs.declared.names.MsgId.TheVariants as ids
use Rattle.ccr_text.specs.Words.{number_of}
use Rattle.ccr_trace.specs.Pieces.{pieces}
use Rattle.ccr_trace.specs.Fields.{where_spelled, where_short, exact_number, short_number, task_of, message_of}
use Rattle.ccr_trace.specs.Forms.{field}
use Rattle.ccr_text.specs.Fields.{Words}
use Rattle.ccr_text.proofs.Parts.{lacks, lacks_tested, part_before, part_alone, cut_at}
use Rattle.ccr_text.proofs.Decimals.{digits_alone}
use Rattle.ccr_trace.proofs.Parting.{lacks-append}
use Rattle.ccr_trace.proofs.ReadTellsSteps.{bind_some, field_some}
use Rattle.ccr_base.proofs.Booleans.{both, not_true}

-- bytes that lack the separator go into the first piece
pieces_behind : (separator : ℕ) (front bytes word : List ℕ) (words : Words) → lacks separator front ≡ true → pieces separator bytes ≡ word ∷ words → pieces separator (front ++ bytes) ≡ (front ++ word) ∷ words
pieces_behind separator [] bytes word words e is = is
pieces_behind separator (b ∷ front) bytes word words e is =
    let parts = both (not (b == separator)) (lacks separator front) e in
    rw (not_true (b == separator) parts.0, pieces_behind separator front bytes word words parts.1 is) refl

-- a number's word has digits alone
digits_of : (word : List ℕ) (n : ℕ) → short_number word ≡ Some n → list_all is_ascii_digit word ≡ true
unfolding short_number exact_number
digits_of word n e =
    let exact = bind_some (exact_number word) where_short n e in
    let number = bind_some (number_of word) (where_spelled word) exact.0 exact.1 in
    (digits_alone word number.0 number.1).1

number_lacks : (separator : ℕ) (word : List ℕ) (n : ℕ) → is_ascii_digit separator ≡ false → short_number word ≡ Some n → lacks separator word ≡ true
number_lacks separator word n none e = lacks_tested is_ascii_digit separator word none (digits_of word n e)

-- a letter and a number stand before the numbers that are left
letter_number : (letter : ℕ) (numbers rest word next : List ℕ) (n : ℕ) (behind : Words) → (letter == 32) ≡ false → short_number word ≡ Some n → numbers ≡ word ++ 46 ∷ rest → pieces 32 rest ≡ next ∷ behind
    → pieces 32 (letter ∷ numbers) ≡ (letter ∷ (word ++ 46 ∷ next)) ∷ behind
letter_number letter numbers rest word next n behind other e bytes are =
    let words : pieces 32 ((word ++ 46 ∷ []) ++ rest) ≡ ((word ++ 46 ∷ []) ++ next) ∷ behind = pieces_behind 32 (word ++ 46 ∷ []) rest next behind (lacks-append 32 word (46 ∷ []) (number_lacks 32 word n refl e) refl) are in
    let same : pieces 32 numbers ≡ (word ++ 46 ∷ next) ∷ behind = ap (pieces 32) (bytes ∙ sym (append_assoc word (46 ∷ []) rest)) ∙ (words ∙ ap (λ (w : List ℕ). w ∷ behind) (append_assoc word (46 ∷ []) next)) in
    rw (other, same) refl

pub task_scanned : (numbers rest : List ℕ) (a k : ℕ) (behind : Words) → field short_number (pieces 46 numbers) ≡ Some (a, pieces 46 rest) → field short_number (pieces 32 rest) ≡ Some (k, behind)
    → field task_of (pieces 32 (116 ∷ numbers)) ≡ Some (record { actor = a; attempt = k }, behind)
unfolding task_of
task_scanned numbers rest a k behind e f =
    let first = field_some short_number (pieces 46 numbers) (a, pieces 46 rest) e in
    let next = field_some short_number (pieces 32 rest) (k, behind) f in
    let words = letter_number 116 numbers rest first.0 next.0 a behind refl first.2 (cut_at 46 numbers first.0 rest first.1) next.1 in
    rw (words, part_before 46 first.0 next.0 (number_lacks 46 first.0 a refl first.2), part_alone 46 next.0 (number_lacks 46 next.0 k refl next.2), first.2, next.2) refl

pub script_scanned : (numbers rest : List ℕ) (a k : ℕ) (behind : Words) → field short_number (pieces 46 numbers) ≡ Some (a, pieces 46 rest) → field short_number (pieces 32 rest) ≡ Some (k, behind)
    → field message_of (pieces 32 (115 ∷ numbers)) ≡ Some (ids.Script a k, behind)
unfolding message_of
script_scanned numbers rest a k behind e f =
    let first = field_some short_number (pieces 46 numbers) (a, pieces 46 rest) e in
    let next = field_some short_number (pieces 32 rest) (k, behind) f in
    let words = letter_number 115 numbers rest first.0 next.0 a behind refl first.2 (cut_at 46 numbers first.0 rest first.1) next.1 in
    rw (words, part_before 46 first.0 next.0 (number_lacks 46 first.0 a refl first.2), part_alone 46 next.0 (number_lacks 46 next.0 k refl next.2), first.2, next.2) refl

pub task_message_scanned : (numbers second third : List ℕ) (a k i : ℕ) (behind : Words) → field short_number (pieces 46 numbers) ≡ Some (a, pieces 46 second) → field short_number (pieces 46 second) ≡ Some (k, pieces 46 third)
    → field short_number (pieces 32 third) ≡ Some (i, behind) → field message_of (pieces 32 (116 ∷ numbers)) ≡ Some (ids.Task (record { actor = a; attempt = k }) i, behind)
unfolding message_of
task_message_scanned numbers second third a k i behind e f g =
    let first = field_some short_number (pieces 46 numbers) (a, pieces 46 second) e in
    let next = field_some short_number (pieces 46 second) (k, pieces 46 third) f in
    let last = field_some short_number (pieces 32 third) (i, behind) g in
    let inner : pieces 32 second ≡ (next.0 ++ 46 ∷ last.0) ∷ behind =
    ap (pieces 32) (cut_at 46 second next.0 third next.1 ∙ sym (append_assoc next.0 (46 ∷ []) third))
    ∙ (pieces_behind 32 (next.0 ++ 46 ∷ []) third last.0 behind (lacks-append 32 next.0 (46 ∷ []) (number_lacks 32 next.0 k refl next.2) refl) last.1 ∙ ap (λ (w : List ℕ). w ∷ behind) (append_assoc next.0 (46 ∷ []) last.0)) in
    let words = letter_number 116 numbers second first.0 (next.0 ++ 46 ∷ last.0) a behind refl first.2 (cut_at 46 numbers first.0 second first.1) inner in
    rw (words, part_before 46 first.0 (next.0 ++ 46 ∷ last.0) (number_lacks 46 first.0 a refl first.2), part_before 46 next.0 last.0 (number_lacks 46 next.0 k refl next.2), part_alone 46 last.0 (number_lacks 46 last.0 i refl last.2), first.2, next.2, last.2) refl
