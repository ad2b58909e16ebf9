-- Reading finds in lines what the grammar says of them, both ways.
use Rattle.std.proofs.Common.{◌≡◌, ◌<◌, ℕ, ◌+◌, arith, subst, Bool, true, false, cond, refl, sym, ap, ◌∙◌, List, [], ◌∷◌, Option, Some, None, Result, Ok, Err, inl, inr}
use Rattle.std.specs.List.{All}
use Rattle.std.proofs.lemmas.List.Elements.{All-cons}
use Rattle.std.specs.Prelude.{option_to_list}
use Rattle.ccr_text.specs.Lines.{numbered}
use Rattle.ccr_text.specs.Words.{is_clean, words_of}
use Rattle.ccr_replay.specs.Turns.{onto, turn_in, turns_on}
use Rattle.ccr_replay.specs.TurnGrammar.{AreTurns}
use Rattle.ccr_replay.proofs.TurnSaid.{is_turn, reads_none, reads_turn, skipped}

abbrev rest_on : ℕ → ℕ → List (List ℕ) → Result (List ℕ) (ℕ × ℕ)
rest_on actors number lines = turns_on actors (numbered number lines)

-- how reading goes on behind a line that says this
abbrev behind : ℕ → Result (Option ℕ) ℕ → Result (List ℕ) (ℕ × ℕ) → Result (List ℕ) (ℕ × ℕ)
behind number said rest = elim said [ Ok turn ↦ onto (option_to_list turn) rest | Err code ↦ Err (number, code) ]

pub said : (actors number : ℕ) (lines : List (List ℕ)) (turns : List ℕ) → rest_on actors number lines ≡ Ok turns → AreTurns actors lines turns
said actors number [] turns e = cc
said actors number (line ∷ lines) turns e = go (is_clean line) refl e (said actors (number + 1) lines)
  where
    Others : Type 0
    Others = (found : List ℕ) → rest_on actors (number + 1) lines ≡ Ok found → AreTurns actors lines found

    more : (turn : Option ℕ) → is_clean line ≡ true → turn_in actors (words_of line) ≡ Ok turn → (r : Result (List ℕ) (ℕ × ℕ)) → rest_on actors (number + 1) lines ≡ r
        → onto (option_to_list turn) r ≡ Ok turns → Others → AreTurns actors (line ∷ lines) turns
    more turn clean is (Err refusal) rest e others = absurd (cc)
    more None clean is (Ok found) rest e others =
        let same : found ≡ turns = cc in
        (clean, inl (skipped actors (words_of line) is, others turns (rest ∙ ap Ok same)))
    more (Some actor) clean is (Ok found) rest e others =
        let same : turns ≡ actor ∷ found = cc in
        (clean, inr (actor, found, same, is_turn actors (words_of line) actor is, others found rest))

    words : is_clean line ≡ true → (r : Result (Option ℕ) ℕ) → turn_in actors (words_of line) ≡ r → behind number r (rest_on actors (number + 1) lines) ≡ Ok turns → Others → AreTurns actors (line ∷ lines) turns
    words clean (Err code) is e others = absurd (cc)
    words clean (Ok turn) is e others = more turn clean is (rest_on actors (number + 1) lines) refl e others

    go : (t : Bool) → is_clean line ≡ t → behind number (cond t (turn_in actors (words_of line)) (Err 1)) (rest_on actors (number + 1) lines) ≡ Ok turns → Others → AreTurns actors (line ∷ lines) turns
    go true clean e others = words clean (turn_in actors (words_of line)) refl e others
    go false clean e others = absurd (cc)

pub read : (actors number : ℕ) (lines : List (List ℕ)) (turns : List ℕ) → AreTurns actors lines turns → rest_on actors number lines ≡ Ok turns
read actors number [] turns none = ap Ok (sym none)
read actors number (line ∷ lines) turns (clean, inl skip) =
    ap (λ t. behind number (cond t (turn_in actors (words_of line)) (Err 1)) (rest_on actors (number + 1) lines)) clean
    ∙ ap (λ r. behind number r (rest_on actors (number + 1) lines)) (reads_none actors (words_of line) skip.0)
    ∙ ap (onto []) (read actors (number + 1) lines turns skip.1)
read actors number (line ∷ lines) turns (clean, inr next) =
    ap (λ t. behind number (cond t (turn_in actors (words_of line)) (Err 1)) (rest_on actors (number + 1) lines)) clean
    ∙ ap (λ r. behind number r (rest_on actors (number + 1) lines)) (reads_turn actors (words_of line) next.0 next.3)
    ∙ ap (onto (next.0 ∷ [])) (read actors (number + 1) lines next.1 next.4)
    ∙ ap Ok (sym next.2)

pub all_below : (actors : ℕ) (lines : List (List ℕ)) (turns : List ℕ) → AreTurns actors lines turns → All (λ a. a < actors) turns
all_below actors [] turns none = subst (λ (ts : List ℕ). All (λ a. a < actors) ts) (sym none) (λ k d below. absurd (omega arith))
all_below actors (line ∷ lines) turns (clean, inl skip) = all_below actors lines turns skip.1
all_below actors (line ∷ lines) turns (clean, inr next) =
    subst (λ (ts : List ℕ). All (λ a. a < actors) ts) (sym next.2) (All-cons (λ (a : ℕ). a < actors) next.0 next.1 next.3.below (all_below actors lines next.1 next.4))
