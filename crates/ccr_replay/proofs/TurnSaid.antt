-- Reading finds in the words of a line what the grammar says of them, both ways.
use Rattle.std.proofs.Common.{◌≡◌, ◌<◌, ℕ, ◌==◌, Bool, true, false, cond, codes, refl, ap, ◌∙◌, arith, List, [], ◌∷◌, Option, Some, None, Result, Ok, Err, inl, inr, nat_lt}
use Rattle.std.specs.Str.{bytes_eq}
use Rattle.std.proofs.lemmas.Bool.Decides.{nat_tests}
use Rattle.std.proofs.lemmas.Slice.Eq.{bytes_eq-Decides}
use Rattle.ccr_text.specs.Fields.{Words, ◌>>=◌, no_more, unless, or_code}
use Rattle.ccr_text.specs.Words.{number_of, IsSkipped}
use Rattle.ccr_replay.specs.Turns.{actor_in, turn_in, turn_of}
use Rattle.ccr_replay.specs.TurnGrammar.{IsTurn}

-- ---- what is read is said

some_turn : (r : Result ℕ ℕ) (actor : ℕ) → (r >>= λ a. Ok (Some a)) ≡ Ok (Some actor) → r ≡ Ok actor
some_turn (Ok a) actor e = cc
some_turn (Err code) actor e = absurd (cc)

no_turn : (r : Result ℕ ℕ) → (r >>= λ a. Ok (Some a)) ≡ Ok None → ⊥
no_turn (Ok a) e = absurd (cc)
no_turn (Err code) e = absurd (cc)

pub skipped : (actors : ℕ) (words : Words) → turn_in actors words ≡ Ok None → IsSkipped words
skipped actors [] e = inl refl
skipped actors ([] ∷ words) e = absurd (no_turn (turn_of actors [] words) e)
skipped actors ((b ∷ bytes) ∷ words) e = go (b == 35) refl e
  where
    go : (t : Bool) → (b == 35) ≡ t → cond t (Ok None) (turn_of actors (b ∷ bytes) words >>= λ a. Ok (Some a)) ≡ Ok None → IsSkipped ((b ∷ bytes) ∷ words)
    go true is e = let hash : b ≡ 35 = grind (arith, nat_tests) in inr (bytes, words, ap (λ x. (x ∷ bytes) ∷ words) hash)
    go false is e = absurd (no_turn (turn_of actors (b ∷ bytes) words) e)

abbrev HasActor : ℕ → Words → ℕ → Type 0
HasActor actors words actor = (digits : List ℕ) × (words ≡ digits ∷ []) × (number_of digits ≡ Some actor) × (actor < actors)

has_actor : (actors : ℕ) (words : Words) (actor : ℕ) → actor_in actors words ≡ Ok actor → HasActor actors words actor
has_actor actors [] actor e = absurd (cc)
has_actor actors (digits ∷ others) actor e = value (number_of digits) refl e
  where
    whole : (a : ℕ) → number_of digits ≡ Some a → nat_lt a actors ≡ true → (more : Words) → (no_more more >>= λ w. Ok a) ≡ Ok actor → HasActor actors (digits ∷ more) actor
    whole a is below [] e = let same : a ≡ actor = cc in (digits, refl, is ∙ ap Some same, grind (arith, nat_tests))
    whole a is below (word ∷ more) e = absurd (cc)

    within : (a : ℕ) → number_of digits ≡ Some a → (t : Bool) → nat_lt a actors ≡ t → (unless t 10 >>= λ w. no_more others >>= λ v. Ok a) ≡ Ok actor → HasActor actors (digits ∷ others) actor
    within a is true below e = whole a is below others e
    within a is false below e = absurd (cc)

    value : (o : Option ℕ) → number_of digits ≡ o → (or_code o 5 >>= λ a. unless (nat_lt a actors) 10 >>= λ w. no_more others >>= λ v. Ok a) ≡ Ok actor → HasActor actors (digits ∷ others) actor
    value None is e = absurd (cc)
    value (Some a) is e = within a is (nat_lt a actors) refl e

of_turn : (actors : ℕ) (first : List ℕ) (words : Words) (actor : ℕ) → turn_of actors first words ≡ Ok actor → IsTurn actors (first ∷ words) actor
of_turn actors first words actor e = go (bytes_eq first (codes "turn")) refl e
  where
    go : (t : Bool) → bytes_eq first (codes "turn") ≡ t → cond t (actor_in actors words) (Err 3) ≡ Ok actor → IsTurn actors (first ∷ words) actor
    go true is e =
        let found = has_actor actors words actor e in
        let same : first ≡ codes "turn" = (bytes_eq-Decides first (codes "turn")).0 is in
        record { digits = found.0; form = ap (λ w. w ∷ words) same ∙ ap (λ ws. codes "turn" ∷ ws) found.1; value = found.2; below = found.3 }
    go false is e = absurd (cc)

pub is_turn : (actors : ℕ) (words : Words) (actor : ℕ) → turn_in actors words ≡ Ok (Some actor) → IsTurn actors words actor
is_turn actors [] actor e = absurd (cc)
is_turn actors ([] ∷ words) actor e = of_turn actors [] words actor (some_turn (turn_of actors [] words) actor e)
is_turn actors ((b ∷ bytes) ∷ words) actor e = go (b == 35) e
  where
    go : (t : Bool) → cond t (Ok None) (turn_of actors (b ∷ bytes) words >>= λ a. Ok (Some a)) ≡ Ok (Some actor) → IsTurn actors ((b ∷ bytes) ∷ words) actor
    go true e = absurd (cc)
    go false e = of_turn actors (b ∷ bytes) words actor (some_turn (turn_of actors (b ∷ bytes) words) actor e)

-- ---- what is said is read

pub reads_none : (actors : ℕ) (words : Words) → IsSkipped words → turn_in actors words ≡ Ok None
reads_none actors words (inl empty) = ap (turn_in actors) empty
reads_none actors words (inr comment) = ap (turn_in actors) comment.2

pub reads_turn : (actors : ℕ) (words : Words) (actor : ℕ) → IsTurn actors words actor → turn_in actors words ≡ Ok (Some actor)
reads_turn actors words actor turn =
    let below : nat_lt actor actors ≡ true = let h = turn.below in grind (arith, nat_tests) in
    ap (turn_in actors) turn.form
    ∙ ap (λ (o : Option ℕ). (or_code o 5 >>= λ a. unless (nat_lt a actors) 10 >>= λ w. Ok a) >>= λ a. Ok (Some a)) turn.value
    ∙ ap (λ (t : Bool). (unless t 10 >>= λ w. Ok actor) >>= λ a. Ok (Some a)) below
