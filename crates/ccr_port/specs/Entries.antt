-- The messages of a port, oldest first, each with the key under which the slab keeps it.
use Rattle.std.specs.Prelude.{◌≡◌, ℕ, Bool, true, ◌==◌, ◌&&◌, List, [], ◌∷◌, length, map, flat_map, option_to_list, Option, Some, None, is_some, option_map, if◌then◌else◌}
use Rattle.std.specs.Option.{option_map_or}
use Rattle.std.specs.List.{list_all}
use Rattle.slab.specs.Slab.{Slab, get}
use Rattle.ccr_base.specs.declared.messages.Msg.{Msg}
use Rattle.ccr_port.specs.declared.links.Link.{Link}
use Rattle.ccr_port.specs.declared.items.LinkedMessage.{LinkedMessage}
use Rattle.ccr_port.specs.Chains.{behind_of, before_of, keys_from, has_key, IsChain}

-- the keys
abbrev pub keys_of : List (ℕ × Msg) → List ℕ
keys_of entries = map (λ (entry : ℕ × Msg). entry.0) entries

-- the messages
abbrev pub messages_of : List (ℕ × Msg) → List Msg
messages_of entries = map (λ (entry : ℕ × Msg). entry.1) entries

-- the message under a key
abbrev pub message_under : ℕ → List (ℕ × Msg) → Option Msg
message_under key [] = None
message_under key (entry ∷ entries) = if entry.0 == key then Some entry.1 else message_under key entries

-- the messages under these keys
abbrev pub messages_under : List ℕ → List (ℕ × Msg) → List Msg
messages_under keys entries = flat_map (λ key. option_to_list (message_under key entries)) keys

-- whether there is a message under each of these keys
abbrev pub are_under : List ℕ → List (ℕ × Msg) → Bool
are_under [] entries = true
are_under (key ∷ keys) entries = has_key key (keys_of entries) && are_under keys entries

-- what is left without the message under a key
abbrev pub without_entry : ℕ → List (ℕ × Msg) → List (ℕ × Msg)
without_entry key [] = []
without_entry key (entry ∷ entries) = if entry.0 == key then entries else entry ∷ without_entry key entries

-- what is left without the messages under these keys
abbrev pub without_entries : List ℕ → List (ℕ × Msg) → List (ℕ × Msg)
without_entries [] entries = entries
without_entries (key ∷ keys) entries = without_entries keys (without_entry key entries)

-- whether these keys can be taken one after another
abbrev pub can_take : List ℕ → List (ℕ × Msg) → Bool
can_take [] entries = true
can_take (key ∷ keys) entries = has_key key (keys_of entries) && can_take keys (without_entry key entries)

-- the neighbours that the slab keeps for a key
abbrev pub link_at : Slab LinkedMessage → ℕ → Option Link
link_at slab key = option_map (λ (entry : LinkedMessage). entry.link) (get slab key)

-- the message that the slab keeps under a key
abbrev pub message_at : Slab LinkedMessage → ℕ → Option Msg
message_at slab key = option_map (λ (entry : LinkedMessage). entry.message) (get slab key)

-- whether the slab has a message under this point, where it is a key
abbrev pub is_kept : Slab LinkedMessage → Option ℕ → Bool
is_kept slab point = option_map_or (λ key. is_some (message_at slab key)) point true

-- whether the slab has a message under each of these keys
abbrev pub are_kept : Slab LinkedMessage → List ℕ → Bool
are_kept slab keys = list_all (λ key. is_some (message_at slab key)) keys

-- the messages under these keys
abbrev pub entries_at : Slab LinkedMessage → List ℕ → List (ℕ × Msg)
entries_at slab [] = []
entries_at slab (key ∷ keys) = option_map_or (λ message. (key, message) ∷ entries_at slab keys) (message_at slab key) (entries_at slab keys)

-- the keys from the first on
abbrev pub linked_keys : Slab LinkedMessage → Option ℕ → ℕ → List ℕ
linked_keys slab first count = keys_from (behind_of (link_at slab) first) count first

-- so many keys are linked from the first to the last, with a message under each
pub record AreLinked (slab : Slab LinkedMessage) (first last : Option ℕ) (count : ℕ) : Type 0 where
  pub chain : IsChain (behind_of (link_at slab) first) (before_of (link_at slab) last) (linked_keys slab first count)
  pub long : length (linked_keys slab first count) ≡ count
  pub kept : are_kept slab (linked_keys slab first count) ≡ true
