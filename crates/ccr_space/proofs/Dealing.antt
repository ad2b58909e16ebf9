-- The passes before their first steps.
use Rattle.std.proofs.Common.{◌≡◌, ℕ, List, [], map, length, sym, refl, ap, ◌∙◌, subst}
use Rattle.std.specs.List.{range_with_len}
use Rattle.std.proofs.lemmas.List.{length-map}
use Rattle.std.proofs.lemmas.List.FromFn.{length-range_with_len}
use Rattle.ccr_wiring.specs.declared.parts.Parts.{Parts}
use Rattle.ccr_turns.specs.declared.history.LogEntry.{LogEntry}
use Rattle.ccr_object.specs.declared.deed.Deed.{Deed}
use Rattle.ccr_object.specs.declared.object.Placed.{Placed}
use Rattle.ccr_actor.specs.Acting.{Acting, started}
use Rattle.ccr_actor.proofs.ActorsFollowTheirSteps.{follows_started}
use Rattle.ccr_space.specs.Spaces.{IsGoing}

fresh : (wiring : Parts) (k : ℕ) → IsGoing wiring k [] (started wiring k)
fresh wiring k = record { steps = []; follows = follows_started wiring k; replies = refl; long = refl }

-- an actor that has begun, with no entries
pub begun : (wiring : Parts) (k n : ℕ) (logged : List (LogEntry Deed Placed)) (a : Acting) → logged ≡ [] → a ≡ started wiring n → n ≡ k → IsGoing wiring k logged a
begun wiring k n logged a none is same =
    subst (λ (ms : List (LogEntry Deed Placed)). IsGoing wiring k ms a) (sym none) (subst (IsGoing wiring k []) (sym (is ∙ ap (started wiring) same)) (fresh wiring k))

pub length_by_number : {S : Type 0} (number : S → ℕ) (n : ℕ) (xs : List S) → map number xs ≡ range_with_len 0 n → length xs ≡ n
length_by_number number n xs is = sym (length-map xs number) ∙ (ap length is ∙ length-range_with_len 0 n)
