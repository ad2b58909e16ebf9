-- What a field or form that was read tells of its steps.
use Rattle.std.proofs.Common.{◌≡◌, ℕ, ◌<◌, true, Result, Ok, Err, refl}
use Rattle.std.specs.Prelude.{nat_lt}
use Rattle.std.proofs.lemmas.Bool.{lt-ltb}
use Rattle.ccr_text.specs.Fields.{◌>>=◌}
pub use Rattle.ccr_text.proofs.Steps.{unless_ok, or_code_ok, word_ok, no_more_ok, limit_ok, ok_is}

-- the value of a step that did not fail
pub bind_ok : {A B : Type 0} (r : Result A ℕ) (f : A → Result B ℕ) (y : B) → (r >>= f) ≡ Ok y → (x : A) × (r ≡ Ok x) × (f x ≡ Ok y)
bind_ok (Ok x) f y e = (x, refl, e)
bind_ok (Err d) f y e = absurd cc

abbrev pub done : {A : Type 0} → A → Result A ℕ
done x = Ok x

pub limit_read : (limit count : ℕ) → count < limit → nat_lt count limit ≡ true
limit_read limit count room = lt-ltb count limit room
