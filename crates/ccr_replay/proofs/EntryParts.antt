-- An entry is its parts.
use Rattle.std.proofs.Common.{◌≡◌, ℕ, ap, ◌∙◌}
use Rattle.ccr_base.specs.declared.names.Place.{Place}
use Rattle.ccr_places.specs.declared.notes.Note.{Note}
use Rattle.ccr_runs.specs.declared.entries.Entry.{Entry}

pub same_entry : (one other : Entry) → one.actor ≡ other.actor → one.place ≡ other.place → one.stamp ≡ other.stamp → one.note ≡ other.note → one ≡ other
same_entry one other actor place stamp note =
    ap (λ (a : ℕ). record { actor = a; place = one.place; stamp = one.stamp; note = one.note }) actor
    ∙ ap (λ (p : Place). record { actor = other.actor; place = p; stamp = one.stamp; note = one.note }) place
    ∙ ap (λ (s : ℕ). record { actor = other.actor; place = other.place; stamp = s; note = one.note }) stamp
    ∙ ap (λ (n : Note). record { actor = other.actor; place = other.place; stamp = other.stamp; note = n }) note
