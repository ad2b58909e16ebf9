-- A run after which each actor is at rest may stand first.
use Rattle.std.proofs.Common.{true, ◌≡◌, ℕ, zero, suc, ◌<◌, inl, inr, List, [], ◌∷◌, length, None, arith}
use Rattle.std.proofs.lemmas.Bool.{eqb-true}
use Rattle.std.specs.Prelude.{◌==◌}
use Rattle.ccr_wiring.specs.Actors.{actor_count}
use Rattle.ccr_wiring.specs.declared.parts.Parts.{Parts}
use Rattle.ccr_model.specs.declared.history.Event.{Event}
use Rattle.ccr_actor.specs.Actors.{next}
use Rattle.ccr_runs.specs.declared.entries.Entry.{Entry}
use Rattle.ccr_runs.specs.EntryRuns.{IsRunAfter, never, replies_of}
use Rattle.ccr_runs.specs.Visible.{visible}
use Rattle.ccr_space.specs.Closes.{IsAtEnd, IsBroughtToRest}
use Rattle.ccr_opening.specs.Begins.{Begins, IsRunToRest}

at_rest : (wiring : Parts) (entries : List Entry) (actor : ℕ) → IsAtEnd wiring entries [] actor → next wiring actor None (replies_of wiring entries actor) ≡ None
at_rest wiring entries actor (inl short) = absurd (cc)
at_rest wiring entries actor (inr rests) = rests

-- where nobody was told that memory ran out, the run is one to rest, and so are its passes
pub comes_to_rest : (wiring : Parts) (workers : ℕ) (entries : List Entry) (short : List ℕ) → (length short == 0) ≡ true
    → IsRunAfter wiring workers never [] entries → ((actor : ℕ) → actor < actor_count wiring workers → IsAtEnd wiring entries short actor) → IsBroughtToRest wiring (actor_count wiring workers) entries short
    → IsRunToRest wiring workers entries × IsBroughtToRest wiring (actor_count wiring workers) entries []
comes_to_rest wiring workers entries [] all run rest closed = (record { steps = run; rest = λ actor low. at_rest wiring entries actor (rest actor low) }, closed)
comes_to_rest wiring workers entries (a ∷ short) all run rest closed = let none : length (a ∷ short) ≡ 0 = eqb-true (length (a ∷ short)) 0 all in absurd (omega arith)

pub begun : (wiring : Parts) (workers : ℕ) (entries : List Entry) (short : List ℕ) (first : List Event) → 0 < workers → (length short == 0) ≡ true
    → IsRunAfter wiring workers never [] entries → ((actor : ℕ) → actor < actor_count wiring workers → IsAtEnd wiring entries short actor) → IsBroughtToRest wiring (actor_count wiring workers) entries short → first ≡ visible entries
    → Begins wiring workers None first
begun wiring zero entries short first some all run rest closed is = absurd (omega arith)
begun wiring (suc n) entries short first some all run rest closed is = let done = comes_to_rest wiring (suc n) entries short all run rest closed in (entries, done.0, done.1, is)
