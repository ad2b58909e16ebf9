-- Which events are allowed, from the facts of the invariant.
use Rattle.std.proofs.Common.{◌≡◌, ◌≤◌, ◌<◌, ℕ, ◌+◌, ◌-◌, true, false, List, [], ◌∷◌, length, Option, Some, None, refl, sym, ap, ◌∙◌, subst, arith}
use Rattle.std.specs.Prelude.{◌==◌, nat_le}
use Rattle.std.specs.List.{slice_get}
use Rattle.std.specs.Option.{option_map_or}
use Rattle.std.proofs.lemmas.Bool.Decides.{nat_tests}
use Rattle.ccr_base.specs.declared.messages.Sent.{Sent}
use Rattle.ccr_base.specs.declared.names.MsgId.{MsgId}
use Rattle.ccr_base.specs.declared.names.MsgId.TheVariants as names
use Rattle.ccr_base.specs.declared.names.Spot.TheVariants.{Branch, Site}
use Rattle.ccr_base.specs.declared.names.TaskId.{TaskId}
use Rattle.ccr_base.specs.Names.{same_task, has_task, same_lists, same_options}
use Rattle.ccr_wiring.specs.declared.parts.Parts.{Parts}
use Rattle.ccr_wiring.specs.declared.parts.PosterPart.{PosterPart}
use Rattle.ccr_wiring.specs.Wirings.{Placement, placement, policy_of, site_port}
use Rattle.ccr_model.specs.declared.history.Event.{Event}
use Rattle.ccr_model.specs.declared.history.Event.TheVariants as events
use Rattle.ccr_model.specs.declared.history.EndHow.{EndHow}
use Rattle.ccr_model.specs.declared.history.EndHow.TheVariants as ends
use Rattle.ccr_model.specs.Selection.{is_selection, is_selection_of, are_oldest}
use Rattle.ccr_model.specs.Firings.{fired}
use Rattle.ccr_model.specs.Legal.{IsAllowed}
use Rattle.ccr_model.specs.Live.{is_live, has_room, has_room_in}
use Rattle.ccr_model.specs.Posts.{posts_of_poster, posts_of_task, posts_of_tasks, held}
use Rattle.ccr_model.specs.Rules.{is_new, cuts_at, is_script_line, is_play_post, has_budget, may_put, drop_at, is_oldest_queued, may_start, may_end, ends_so, is_shed}
use Rattle.ccr_model.specs.TaskData.{placement_of, play_of}
use Rattle.ccr_model.specs.Tasks.{queued, running, running_by, has_post_left, count_unfinished}
use Rattle.ccr_base.proofs.SameNames.{same_task-self, same_lists-self}
use Rattle.ccr_model.proofs.Allowing.{same_option-self, is_post-self}
use Rattle.ccr_net.proofs.Parts.PortsAndHandsMatch.{IsToPut}
pub use Rattle.ccr_model.proofs.Allowing.{passed as refused_pass}

pub fire_allowed : (w : Parts) (h : List Event) (t : TaskId) (b : ℕ) (s : Placement) (names : List MsgId) (cs : List TaskId) → placement w b ≡ Some s → has_task (fired h) t ≡ false → t.actor ≤ 32 → is_live w h (Branch b) ≡ true → has_room_in w h s.branch.queue (policy_of w s.branch.queue) ≡ true → is_selection_of (held h) s.branch.pattern names ≡ true → cs ≡ cuts_at w h (Branch b) → IsAllowed w h (events.Fire t (Branch b) names cs)
fire_allowed w h t b s names cs sits fresh low live left chosen cut_so =
    let new : is_new h t ≡ true = grind (arith, nat_tests, fresh, low) in
    let selection : is_selection w h (Branch b) names ≡ true = rw sits chosen in
    let room : has_room w h (Branch b) ≡ true = rw sits left in
    let cuts : same_lists same_task cs (cuts_at w h (Branch b)) ≡ true = subst (λ ts. same_lists same_task cs ts ≡ true) cut_so (same_lists-self same_task same_task-self cs) in
    refused_pass (is_new h t) _ _ new (refused_pass (is_live w h (Branch b)) _ _ live (refused_pass (is_selection w h (Branch b) names) _ _ selection (refused_pass (has_room w h (Branch b)) _ _ room (refused_pass (same_lists same_task cs (cuts_at w h (Branch b))) _ None cuts refl))))

pub resume_allowed : (w : Parts) (h : List Event) (t : TaskId) (b k port : ℕ) (names : List MsgId) → site_port w b k ≡ Some port → has_task (fired h) t ≡ false → t.actor ≤ 32 → is_live w h (Site b k) ≡ true → are_oldest (held h port) names ≡ true → IsAllowed w h (events.Fire t (Site b k) names [])
resume_allowed w h t b k port names awaits fresh low live oldest =
    let new : is_new h t ≡ true = grind (arith, nat_tests, fresh, low) in
    let selection : is_selection w h (Site b k) names ≡ true = ap (λ o. option_map_or (λ p. are_oldest (held h p) names) o false) awaits ∙ oldest in
    refused_pass (is_new h t) _ _ new (refused_pass (is_live w h (Site b k)) _ _ live (refused_pass (is_selection w h (Site b k) names) _ _ selection refl))

pub script_allowed : (w : Parts) (h : List Event) (a index : ℕ) (poster : PosterPart) (sent : Sent) → slice_get w.posters a ≡ Some poster → slice_get poster.posts index ≡ Some sent → index ≡ posts_of_poster h a → IsAllowed w h (events.Post (record { id = names.Script a index; port = sent.port; value = sent.value; causes = sent.causes }))
script_allowed w h a index poster sent is line next =
    let same = is_post-self (names.Script a index) sent in
    let counts : (index == posts_of_poster h a) ≡ true = grind (arith, nat_tests, next) in
    refused_pass (is_script_line w h a index (record { id = names.Script a index; port = sent.port; value = sent.value; causes = sent.causes })) _ None (rw (counts, is, line, same) refl) refl

pub play_allowed : (w : Parts) (h : List Event) (t : TaskId) (index : ℕ) (sent : Sent) → has_task (running h) t ≡ true → slice_get (play_of w h t).posts index ≡ Some sent → index ≡ posts_of_task h t → posts_of_tasks h < w.budget → IsAllowed w h (events.Post (record { id = names.Task t index; port = sent.port; value = sent.value; causes = sent.causes }))
play_allowed w h t index sent runs line next room =
    let same = is_post-self (names.Task t index) sent in
    let counts : (index == posts_of_task h t) ≡ true = grind (arith, nat_tests, next) in
    let left : has_budget w h ≡ true = grind (arith, nat_tests, room) in
    refused_pass (is_play_post w h t index (record { id = names.Task t index; port = sent.port; value = sent.value; causes = sent.causes })) _ _ (rw (runs, counts, line, same) refl) (refused_pass (has_budget w h) _ None left refl)

pub put_allowed : (w : Parts) (h : List Event) (t : TaskId) (d : Option TaskId) → IsToPut w h t → drop_at w h t ≡ d → IsAllowed w h (events.Put t d)
put_allowed w h t d is drops =
    let may : may_put w h t ≡ true = rw (is.unput, is.uncut, is.fires.1) is.entered in
    let drop : same_options same_task d (drop_at w h t) ≡ true = subst (λ o. same_options same_task d o ≡ true) (sym drops) (same_option-self d) in
    refused_pass (may_put w h t) _ _ may (refused_pass (same_options same_task d (drop_at w h t)) _ None drop refl)

pub start_allowed : (w : Parts) (h : List Event) (t : TaskId) (a : ℕ) (s : Placement) (rest : List TaskId) → placement_of w h t ≡ Some s → queued w h s.branch.queue ≡ t ∷ rest → length w.posters ≤ a → a ≤ 32 → running_by h a ≡ [] → IsAllowed w h (events.Start t a)
start_allowed w h t a s rest sits head above below idle =
    let oldest : is_oldest_queued w h t ≡ true = rw (sits, head, same_task-self t) refl in
    let may : may_start w h a ≡ true = grind (arith, nat_tests, above, below, idle) in
    refused_pass (is_oldest_queued w h t) _ _ oldest (refused_pass (may_start w h a) _ None may refl)

pub end_allowed : (w : Parts) (h : List Event) (t : TaskId) (how : EndHow) → has_task (running h) t ≡ true → length (play_of w h t).posts ≤ posts_of_task h t → is_shed how ≡ false → ends_so how (play_of w h t).end ≡ true → IsAllowed w h (events.End t how)
end_allowed w h t how runs all unshed so =
    let left : has_post_left w h t ≡ false = grind (arith, nat_tests, all) in
    let may : may_end w h t how ≡ true = rw (unshed, left, so) refl in
    refused_pass (has_task (running h) t) _ _ runs (refused_pass (may_end w h t how) _ None may refl)

pub shed_allowed : (w : Parts) (h : List Event) (t : TaskId) → has_task (running h) t ≡ true → posts_of_task h t < length (play_of w h t).posts → w.budget ≤ posts_of_tasks h + (count_unfinished w h - 1) → IsAllowed w h (events.End t ends.Shed)
shed_allowed w h t runs some full =
    let left : has_post_left w h t ≡ true = grind (arith, nat_tests, some) in
    let paid : nat_le w.budget (posts_of_tasks h + (count_unfinished w h - 1)) ≡ true = grind (arith, nat_tests, full) in
    let may : may_end w h t ends.Shed ≡ true = rw (left, paid) refl in
    refused_pass (has_task (running h) t) _ _ runs (refused_pass (may_end w h t ends.Shed) _ None may refl)
