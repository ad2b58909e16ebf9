-- Names against those of the oldest messages.
use Rattle.std.specs.Prelude.{Bool, true, false, ◌&&◌, ◌||◌, List, [], ◌∷◌}
use Rattle.ccr_base.specs.declared.names.MsgId.{MsgId}
use Rattle.ccr_base.specs.Names.{same_message}

-- whether the names are a first part of the oldest
abbrev pub are_prefix : List MsgId → List MsgId → Bool
are_prefix oldest [] = true
are_prefix [] (name ∷ names) = false
are_prefix (n ∷ oldest) (name ∷ names) = same_message n name && are_prefix oldest names

-- whether they are a first part of the one list, followed by a first part of the other
abbrev pub are_prefixes : List MsgId → List MsgId → List MsgId → Bool
are_prefixes first second [] = true
are_prefixes [] second (name ∷ names) = are_prefix second (name ∷ names)
are_prefixes (n ∷ first) second (name ∷ names) = are_prefix second (name ∷ names) || (same_message n name && are_prefixes first second names)
