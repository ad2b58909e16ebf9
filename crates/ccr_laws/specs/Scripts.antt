-- What posters posted, beside their scripts.
use Rattle.std.specs.Prelude.{◌≡◌, ℕ, List, Some, length, map, filter, take}
use Rattle.std.specs.List.{slice_get}
use Rattle.ccr_base.specs.declared.names.MsgId.TheVariants.{Script}
use Rattle.ccr_base.specs.declared.messages.Msg.{Msg}
use Rattle.ccr_base.specs.declared.messages.Sent.{Sent}
use Rattle.ccr_model.specs.declared.history.Event.{Event}
use Rattle.ccr_model.specs.Posts.{posts, is_script_of}

-- what the poster posted, in the order of its posts
abbrev pub posts_by : List Event → ℕ → List Msg
posts_by history poster = filter (λ (m : Msg). is_script_of poster m.id) (posts history)

-- the message without its name
abbrev pub sent_of : Msg → Sent
sent_of m = record { port = m.port; value = m.value; causes = m.causes }

-- what the poster posted are the first lines of its script, in order, each once: a post's name has the number of its line
pub record FollowsScript (history : List Event) (number : ℕ) (script : List Sent) : Type 0 where
  pub lines : map sent_of (posts_by history number) ≡ take (length (posts_by history number)) script
  pub names : (index : ℕ) (m : Msg) → slice_get (posts_by history number) index ≡ Some m → m.id ≡ Script number index
