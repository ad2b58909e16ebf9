-- The messages that a task took were posted.
use Rattle.std.proofs.Common.{◌⊎◌, inl, inr, ◌≡◌, Bool, true, false, List, [], ◌∷◌, ◌++◌, Option, Some, None, refl, sym, subst}
use Rattle.std.specs.Prelude.{if◌then◌else◌}
use Rattle.std.specs.List.{cons_option}
use Rattle.std.specs.Option.{option_map_or}
use Rattle.ccr_base.specs.declared.messages.Msg.{Msg}
use Rattle.ccr_base.specs.declared.names.MsgId.{MsgId}
use Rattle.ccr_base.specs.declared.names.TaskId.{TaskId}
use Rattle.ccr_base.specs.Names.{same_message}
use Rattle.ccr_model.specs.declared.history.Event.{Event}
use Rattle.ccr_model.specs.Firings.{Firing, firing_named}
use Rattle.ccr_model.specs.Posts.{message_named, messages_named, post_of, posts}
use Rattle.ccr_model.specs.Sites.{before, is_firing_of}
use Rattle.ccr_model.specs.TaskData.{messages_of}
use Rattle.ccr_model.proofs.Members.{Among, Among-either, Among-left, Among-right, found_among}

-- what was posted before a task fired was posted
before_posts : (t : TaskId) (h : List Event) (m : Msg) → Among m (posts (before t h)) → Among m (posts h)
before_posts t [] m is = absurd is
before_posts t (e ∷ h) m is = by (is_firing_of t e) is (before_posts t h m)
  where
    by : (b : Bool) → Among m (posts (if b then [] else e ∷ before t h)) → (Among m (posts (before t h)) → Among m (posts h)) → Among m (post_of e ++ posts h)
    by true none rest = absurd none
    by false there rest = of (Among-either m (post_of e) (posts (before t h)) there)
      where
        of : Among m (post_of e) ⊎ Among m (posts (before t h)) → Among m (post_of e ++ posts h)
        of (inl here) = Among-left m (post_of e) (posts h) here
        of (inr later) = Among-right m (post_of e) (posts h) (rest later)

-- what names stand for was posted
named_among : (h : List Event) (ns : List MsgId) (m : Msg) → Among m (messages_named h ns) → Among m (posts h)
named_among h [] m is = absurd is
named_among h (name ∷ ns) m is = by (message_named h name) refl is (named_among h ns m)
  where
    by : (o : Option Msg) → message_named h name ≡ o → Among m (cons_option o (messages_named h ns)) → (Among m (messages_named h ns) → Among m (posts h)) → Among m (posts h)
    by None at there rest = rest there
    by (Some x) at (inl e) rest = subst (λ y. Among y (posts h)) (sym e) (found_among (λ (y : Msg). same_message y.id name) (posts h) x at)
    by (Some x) at (inr later) rest = rest later

-- what a task took was posted
pub took_among : (h : List Event) (t : TaskId) (m : Msg) → Among m (messages_of h t) → Among m (posts h)
took_among h t m is = by (firing_named h t) is
  where
    by : (o : Option Firing) → Among m (option_map_or (λ (f : Firing). messages_named (before t h) f.messages) o []) → Among m (posts h)
    by None none = absurd none
    by (Some f) there = before_posts t h m (named_among (before t h) f.messages m there)
