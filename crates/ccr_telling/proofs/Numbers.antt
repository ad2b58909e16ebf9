-- Over plain lists of numbers: one more at an index.
use Rattle.std.proofs.Common.{◌≡◌, ℕ, zero, suc, ◌+◌, ◌≤◌, Option, Some, None, List, [], ◌∷◌, length, refl, arith, length-set}
use Rattle.std.specs.Prelude.{slice_index}
use Rattle.ccr_base.specs.declared.names.TaskId.{TaskId}
use Rattle.ccr_ledger.specs.declared.cards.Card.{Card}
use Rattle.ccr_ledger.specs.Books.{Books, card_at, number, more}
use Rattle.ccr_telling.specs.Tallies.{more_at, more_for, more_if_some}
use Rattle.std.specs.Option.{option_map_or}

-- the number at an index is what an index reads
pub number_read : (numbers : List ℕ) (k : ℕ) → slice_index numbers k ≡ number numbers k
number_read [] k = refl
number_read (n ∷ numbers) zero = refl
number_read (n ∷ numbers) (suc k) = number_read numbers k

pub length-more : (index : ℕ) (numbers : List ℕ) → length (more index numbers) ≡ length numbers
length-more index numbers = length-set numbers index (number numbers index + 1)

pub length-more_at : (index : Option ℕ) (numbers : List ℕ) → length (more_at index numbers) ≡ length numbers
length-more_at None numbers = refl
length-more_at (Some index) numbers = length-more index numbers

pub length-more_for : (b : Books) (t : TaskId) (numbers : List ℕ) → length (more_for b t numbers) ≡ length numbers
length-more_for b t numbers = by (card_at b.tasks t)
  where
    by : (o : Option Card) → length (option_map_or (λ (card : Card). more card.queue numbers) o numbers) ≡ length numbers
    by None = refl
    by (Some card) = length-more card.queue numbers

pub length-more_if_some : (b : Books) (d : Option TaskId) (numbers : List ℕ) → length (more_if_some b d numbers) ≡ length numbers
length-more_if_some b None numbers = refl
length-more_if_some b (Some t) numbers = length-more_for b t numbers

-- no number grows by more than one
pub more-few : (index : ℕ) (numbers : List ℕ) (k : ℕ) → number (more index numbers) k ≤ number numbers k + 1
more-few index [] k = omega arith
more-few zero (n ∷ numbers) zero = omega arith
more-few zero (n ∷ numbers) (suc k) = omega arith
more-few (suc index) (n ∷ numbers) zero = omega arith
more-few (suc index) (n ∷ numbers) (suc k) = more-few index numbers k

pub more_at-few : (index : Option ℕ) (numbers : List ℕ) (k : ℕ) → number (more_at index numbers) k ≤ number numbers k + 1
more_at-few None numbers k = omega arith
more_at-few (Some index) numbers k = more-few index numbers k

pub more_for-few : (b : Books) (t : TaskId) (numbers : List ℕ) (k : ℕ) → number (more_for b t numbers) k ≤ number numbers k + 1
more_for-few b t numbers k = by (card_at b.tasks t)
  where
    by : (o : Option Card) → number (option_map_or (λ (card : Card). more card.queue numbers) o numbers) k ≤ number numbers k + 1
    by None = omega arith
    by (Some card) = more-few card.queue numbers k

pub more_if_some-few : (b : Books) (d : Option TaskId) (numbers : List ℕ) (k : ℕ) → number (more_if_some b d numbers) k ≤ number numbers k + 1
more_if_some-few b None numbers k = omega arith
more_if_some-few b (Some t) numbers k = more_for-few b t numbers k
