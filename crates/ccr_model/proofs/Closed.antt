-- In a closed wiring scripts and plays alone are posted, and tasks end as their plays do.
use Rattle.std.proofs.Common.{◌≡◌, ℕ, Bool, true, false, ◌&&◌, ◌||◌, List, Option, Some, None, refl, sym, ap, subst, ◌∙◌}
use Rattle.std.specs.Prelude.{◌==◌, ◌+◌, length, ◌∷◌, not, option_and_then, if◌then◌else◌}
use Rattle.std.specs.List.{slice_get}
use Rattle.std.specs.Option.{option_map_or, is_some}
use Rattle.ccr_base.specs.declared.names.MsgId.{MsgId}
use Rattle.ccr_base.specs.declared.names.MsgId.TheVariants.{Script, Task}
use Rattle.ccr_base.specs.declared.names.TaskId.{TaskId}
use Rattle.ccr_base.specs.declared.messages.Msg.{Msg}
use Rattle.ccr_base.specs.Names.{has_task}
use Rattle.ccr_base.proofs.Booleans.{both}
use Rattle.ccr_wiring.specs.declared.parts.Parts.{Parts}
use Rattle.ccr_wiring.specs.declared.parts.PosterPart.{PosterPart}
use Rattle.ccr_wiring.specs.Openness.{open_poster, open_handler, is_closed}
use Rattle.ccr_wiring.specs.Wirings.{Placement}
use Rattle.ccr_wiring.proofs.Closed.{no_open_poster, no_open_handler}
use Rattle.ccr_model.specs.declared.history.Event.{Event}
use Rattle.ccr_model.specs.declared.history.Event.TheVariants.{Post, Fire, Admit, Put, Start, End}
use Rattle.ccr_model.specs.declared.history.EndHow.{EndHow}
use Rattle.ccr_model.specs.declared.history.EndHow.TheVariants as ends
use Rattle.ccr_model.specs.Legal.{IsIdle, IsQuiet, are_whole_from, is_from_outside, is_posted_outside}
use Rattle.ccr_model.specs.Posts.{posts_of_poster, posts_of_task}
use Rattle.ccr_model.specs.Rules.{is_post, is_script_line, is_play_post, is_outside_post, is_open_post, open_ports, ends_so, is_shed, may_choose, may_shed, may_end}
use Rattle.ccr_model.specs.TaskData.{placement_of, play_of}
use Rattle.ccr_model.specs.Tasks.{running, has_post_left}

-- no task's handler is open
pub no_open_ports : (w : Parts) (h : List Event) (t : TaskId) → is_closed w ≡ true → open_ports w h t ≡ None
no_open_ports w h t closed = by (placement_of w h t)
  where
    by : (o : Option Placement) → option_and_then (λ (s : Placement). open_handler w s.branch.handler) o ≡ None
    by None = refl
    by (Some s) = no_open_handler w s.branch.handler closed

-- what is left of an or
left_alone : (b c : Bool) (d : Bool) → d ≡ false → (b && (c || d)) ≡ true → (b && c) ≡ true
left_alone true true d none is = refl
left_alone true false d none is = sym none ∙ is
left_alone false c d none is = is

-- the message is the poster's next line
abbrev pub is_own_line : Parts → List Event → ℕ → ℕ → Msg → Bool
is_own_line w h a k m = (k == posts_of_poster h a) && option_map_or (is_post m) (option_and_then (λ (p : PosterPart). slice_get p.posts k) (slice_get w.posters a)) false

-- so is each line of a poster that isn't open
pub own_line_at : (w : Parts) (h : List Event) (a k : ℕ) (m : Msg) → open_poster w a ≡ None → is_script_line w h a k m ≡ true → is_own_line w h a k m ≡ true
own_line_at w h a k m shut is = left_alone (k == posts_of_poster h a) _ _ (ap (λ o. option_map_or (λ ports. is_outside_post w ports m) o false) shut) is

pub own_line : (w : Parts) → is_closed w ≡ true → (h : List Event) (a k : ℕ) (m : Msg) → is_script_line w h a k m ≡ true → is_own_line w h a k m ≡ true
own_line w closed h a k m is = own_line_at w h a k m (no_open_poster w a closed) is

-- the message is the next post of the running task's play
abbrev pub is_own_post : Parts → List Event → TaskId → ℕ → Msg → Bool
is_own_post w h t k m = has_task (running h) t && (k == posts_of_task h t) && option_map_or (is_post m) (slice_get (play_of w h t).posts k) false

pub own_post : (w : Parts) → is_closed w ≡ true → (h : List Event) (t : TaskId) (k : ℕ) (m : Msg) → is_play_post w h t k m ≡ true → is_own_post w h t k m ≡ true
own_post w closed h t k m is =
    left_alone (has_task (running h) t && (k == posts_of_task h t)) _ _ (ap (λ o. option_map_or (λ ports. is_open_post w h t ports m) o false) (no_open_ports w h t closed)) is

-- who yields does so where an await comes next, whoever plays it
pub yield_end : (w : Parts) (h : List Event) (t : TaskId) → may_end w h t ends.Yield ≡ true → (not (has_post_left w h t) && ends_so ends.Yield (play_of w h t).end) ≡ true
yield_end w h t is = by (not (has_post_left w h t)) (ends_so ends.Yield (play_of w h t).end) (open_ports w h t) is
  where
    by : (b c : Bool) (o : Option (List ℕ)) → (b && (c || option_map_or (λ ports. c) o false)) ≡ true → (b && c) ≡ true
    by false c o is = is
    by true true o is = refl
    by true false None is = is
    by true false (Some ports) is = is

-- the task ends as its play does, or is shed where it may be
abbrev pub is_own_end : Parts → List Event → TaskId → EndHow → Bool
is_own_end w h t how = if is_shed how then may_shed w h t else not (has_post_left w h t) && ends_so how (play_of w h t).end

pub own_end : (w : Parts) → is_closed w ≡ true → (h : List Event) (t : TaskId) (how : EndHow) → may_end w h t how ≡ true → is_own_end w h t how ≡ true
own_end w closed h t how is = by (is_shed how) is
  where
    by : (b : Bool) → (if b then may_shed w h t else not (has_post_left w h t) && (ends_so how (play_of w h t).end || option_map_or (λ ports. may_choose how (play_of w h t).end) (open_ports w h t) false)) ≡ true → (if b then may_shed w h t else not (has_post_left w h t) && ends_so how (play_of w h t).end) ≡ true
    by true is = is
    by false is = left_alone (not (has_post_left w h t)) _ _ (ap (λ o. option_map_or (λ ports. may_choose how (play_of w h t).end) o false) (no_open_ports w h t closed)) is

-- who isn't shed has no post left, however it ends
pub ends_spent : (w : Parts) (h : List Event) (t : TaskId) (how : EndHow) → is_shed how ≡ false → may_end w h t how ≡ true → not (has_post_left w h t) ≡ true
ends_spent w h t how plain is =
    (both (not (has_post_left w h t)) (ends_so how (play_of w h t).end || option_map_or (λ ports. may_choose how (play_of w h t).end) (open_ports w h t) false)
    (subst (λ b. (if b then may_shed w h t else not (has_post_left w h t) && (ends_so how (play_of w h t).end || option_map_or (λ ports. may_choose how (play_of w h t).end) (open_ports w h t) false)) ≡ true) plain is)).0

-- each poster of a closed wiring has made its whole script, where all have
pub whole_closed : (w : Parts) → is_closed w ≡ true → (h : List Event) (number : ℕ) (p : PosterPart) (ps : List PosterPart) → are_whole_from w h number (p ∷ ps) ≡ true → ((posts_of_poster h number == length p.posts) && are_whole_from w h (number + 1) ps) ≡ true
whole_closed w closed h number p ps is = alone (posts_of_poster h number == length p.posts) _ _ (ap (λ o. is_some o) (no_open_poster w number closed)) is
  where
    alone : (a b c : Bool) → b ≡ false → ((a || b) && c) ≡ true → (a && c) ≡ true
    alone true b c none is = is
    alone false true c none is = absurd cc
    alone false false c none is = is

outside_none : (w : Parts) → is_closed w ≡ true → (h : List Event) (name : MsgId) → is_posted_outside w h name ≡ false
outside_none w closed h (Script a k) = ap (λ o. is_some o) (no_open_poster w a closed)
outside_none w closed h (Task t k) = ap (λ o. is_some o) (no_open_ports w h t closed)

-- nobody outside makes an event of a closed wiring
pub none_from_outside : (w : Parts) → is_closed w ≡ true → (h : List Event) (e : Event) → is_from_outside w h e ≡ false
none_from_outside w closed h (Post m) = outside_none w closed h m.id
none_from_outside w closed h (Fire t s ms cs) = refl
none_from_outside w closed h (Admit t) = refl
none_from_outside w closed h (Put t d) = refl
none_from_outside w closed h (Start t a) = ap (λ o. is_some o) (no_open_ports w h t closed)
none_from_outside w closed h (End t how) = ap (λ o. is_some o) (no_open_ports w h t closed)

-- a closed wiring that is idle is quiet
pub idle_quiet : (w : Parts) → is_closed w ≡ true → (h : List Event) → IsIdle w h → IsQuiet w h
idle_quiet w closed h idle e allowed = idle e (none_from_outside w closed h e) allowed
