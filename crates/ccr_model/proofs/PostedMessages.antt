-- What holds of each message as it is posted holds of all that are posted.
use Rattle.std.proofs.Common.{◌⊎◌, inl, inr, ◌≡◌, ℕ, Bool, true, false, ◌&&◌, ◌||◌, refl, List, [], ◌∷◌, ◌++◌, Some, None, sym, subst}
use Rattle.std.specs.Prelude.{◌==◌, slice_get}
use Rattle.std.specs.Option.{option_and_then, option_map_or}
use Rattle.ccr_base.specs.declared.messages.Msg.{Msg}
use Rattle.ccr_base.specs.declared.messages.Sent.{Sent}
use Rattle.ccr_base.specs.declared.names.MsgId.{MsgId}
use Rattle.ccr_base.specs.declared.names.MsgId.TheVariants as names
use Rattle.ccr_base.specs.declared.names.TaskId.{TaskId}
use Rattle.ccr_base.specs.Names.{has_task}
use Rattle.ccr_wiring.specs.declared.parts.Parts.{Parts}
use Rattle.ccr_wiring.specs.declared.parts.PosterPart.{PosterPart}
use Rattle.ccr_wiring.specs.Openness.{open_poster, is_closed}
use Rattle.ccr_wiring.proofs.Closed.{no_open_poster}
use Rattle.ccr_model.specs.declared.history.Event.{Event}
use Rattle.ccr_model.specs.declared.history.Event.TheVariants as events
use Rattle.ccr_model.specs.Legal.{IsAllowed, IsLegal}
use Rattle.ccr_model.specs.Posts.{post_of, posts, posts_of_poster, posts_of_task}
use Rattle.ccr_model.specs.Rules.{is_play_post, is_post, is_line_of, is_script_line, is_outside_post, is_open_post, open_ports, refusal_of_post}
use Rattle.ccr_model.specs.TaskData.{play_of}
use Rattle.ccr_model.specs.Tasks.{running}
use Rattle.ccr_base.proofs.Booleans.{both}
use Rattle.ccr_base.proofs.Options.{some_of, some_then, no_some}
use Rattle.ccr_model.proofs.Closed.{no_open_ports}
use Rattle.ccr_model.proofs.Members.{Among, Among-at, Among-either}
use Rattle.ccr_model.proofs.PostNames.{IsPost, IsPost-test, refused_not}
use Rattle.ccr_model.proofs.LegalParts.{along_legal}
use Rattle.ccr_model.proofs.OneMoreEvent.{posts-push}

pub each_posted : (w : Parts) (P : Msg → Type 0) → ((h : List Event) (m : Msg) → IsLegal w h → ((x : Msg) → Among x (posts h) → P x) → refusal_of_post w h m m.id ≡ None → P m) → (h : List Event) → IsLegal w h → (m : Msg) → Among m (posts h) → P m
each_posted w P new h legal = along_legal w (λ g. (m : Msg) → Among m (posts g) → P m) kept (λ m is. absurd is) h legal
  where
    kept : (g : List Event) (e : Event) → IsLegal w g → IsAllowed w g e → ((m : Msg) → Among m (posts g) → P m) → (m : Msg) → Among m (posts (g ++ e ∷ [])) → P m
    kept g e lawful allowed old m is = of_either e allowed (Among-either m (posts g) (post_of e) (subst (Among m) (posts-push g e) is))
      where
        of_either : (e : Event) → IsAllowed w g e → Among m (posts g) ⊎ Among m (post_of e) → P m
        of_either e allowed (inl there) = old m there
        of_either (events.Post x) allowed (inr (inl same)) = subst P (sym same) (new g x lawful old allowed)
        of_either (events.Post x) allowed (inr (inr none)) = absurd none
        of_either (events.Fire t s ms cs) allowed (inr none) = absurd none
        of_either (events.Admit t) allowed (inr none) = absurd none
        of_either (events.Put t d) allowed (inr none) = absurd none
        of_either (events.Start t a) allowed (inr none) = absurd none
        of_either (events.End t how) allowed (inr none) = absurd none

-- what somebody outside may post
abbrev pub IsOutside : Parts → List Event → Msg → MsgId → Type 0
IsOutside w h m (names.Script a k) = (ports : List ℕ) × (open_poster w a ≡ Some ports) × (is_outside_post w ports m ≡ true)
IsOutside w h m (names.Task t k) = (ports : List ℕ) × (open_ports w h t ≡ Some ports) × (is_open_post w h t ports m ≡ true)

pub either_of : (b c : Bool) → (b || c) ≡ true → (b ≡ true) ⊎ (c ≡ true)
either_of true c is = inl refl
either_of false c is = inr is

-- an allowed message is a post of a script or of a play, of which holds what holds of all these, or somebody outside posts it
pub post_either : (w : Parts) (h : List Event) (m : Msg) (P : Sent → Type 0) → ((poster : ℕ) (part : PosterPart) (index : ℕ) (sent : Sent) → slice_get w.posters poster ≡ Some part → slice_get part.posts index ≡ Some sent → P sent) → ((t : TaskId) (sent : Sent) → Among sent (play_of w h t).posts → P sent) → (name : MsgId) → refusal_of_post w h m name ≡ None → ((sent : Sent) × IsPost m sent × P sent) ⊎ IsOutside w h m name
post_either w h m P scripts plays (names.Script a k) allowed =
    by (either_of (is_line_of w a k m) (option_map_or (λ ports. is_outside_post w ports m) (open_poster w a) false) (both (k == posts_of_poster h a) _ (refused_not (is_script_line w h a k m) _ None allowed).0).1)
  where
    by : (is_line_of w a k m ≡ true) ⊎ (option_map_or (λ ports. is_outside_post w ports m) (open_poster w a) false ≡ true) → ((sent : Sent) × IsPost m sent × P sent) ⊎ IsOutside w h m (names.Script a k)
    by (inl own) =
        let found = some_of (is_post m) (option_and_then (λ (p : PosterPart). slice_get p.posts k) (slice_get w.posters a)) own in
        let part = some_then (λ (p : PosterPart). slice_get p.posts k) (slice_get w.posters a) found.0 found.1 in
        inl (found.0, IsPost-test m found.0 found.2, scripts a part.0 k found.0 part.1 part.2)
    by (inr outside) = inr (some_of (λ ports. is_outside_post w ports m) (open_poster w a) outside)
post_either w h m P scripts plays (names.Task t k) allowed =
    by (either_of (option_map_or (is_post m) (slice_get (play_of w h t).posts k) false) (option_map_or (λ ports. is_open_post w h t ports m) (open_ports w h t) false) (both (has_task (running h) t && (k == posts_of_task h t)) _ (refused_not (is_play_post w h t k m) _ _ allowed).0).1)
  where
    by : (option_map_or (is_post m) (slice_get (play_of w h t).posts k) false ≡ true) ⊎ (option_map_or (λ ports. is_open_post w h t ports m) (open_ports w h t) false ≡ true) → ((sent : Sent) × IsPost m sent × P sent) ⊎ IsOutside w h m (names.Task t k)
    by (inl own) =
        let found = some_of (is_post m) (slice_get (play_of w h t).posts k) own in
        inl (found.0, IsPost-test m found.0 found.2, plays t found.0 (Among-at (play_of w h t).posts k found.0 found.1))
    by (inr outside) = inr (some_of (λ ports. is_open_post w h t ports m) (open_ports w h t) outside)

-- nobody posts from outside in a closed wiring
pub none_outside : (w : Parts) → is_closed w ≡ true → (h : List Event) (m : Msg) (name : MsgId) → IsOutside w h m name → ⊥
none_outside w closed h m (names.Script a k) found = absurd (no_some (open_poster w a) found.0 (no_open_poster w a closed) found.1)
none_outside w closed h m (names.Task t k) found = absurd (no_some (open_ports w h t) found.0 (no_open_ports w h t closed) found.1)

-- an allowed message of a closed wiring is a post of a script or of a play
pub post_allowed : (w : Parts) → is_closed w ≡ true → (h : List Event) (m : Msg) (P : Sent → Type 0) → ((poster : ℕ) (part : PosterPart) (index : ℕ) (sent : Sent) → slice_get w.posters poster ≡ Some part → slice_get part.posts index ≡ Some sent → P sent) → ((t : TaskId) (sent : Sent) → Among sent (play_of w h t).posts → P sent) → (name : MsgId) → refusal_of_post w h m name ≡ None → (sent : Sent) × IsPost m sent × P sent
post_allowed w closed h m P scripts plays name allowed = by (post_either w h m P scripts plays name allowed)
  where
    by : ((sent : Sent) × IsPost m sent × P sent) ⊎ IsOutside w h m name → (sent : Sent) × IsPost m sent × P sent
    by (inl own) = own
    by (inr outside) = absurd (none_outside w closed h m name outside)
