-- In a wiring of version 1 each value of a legal history is one number at most.
use Rattle.std.proofs.Common.{◌⊎◌, inl, inr, ◌≡◌, ℕ, zero, suc, Bool, true, false, List, [], ◌∷◌, map, Option, Some, None, refl, sym, subst, ◌||◌, not}
use Rattle.std.specs.Prelude.{if◌then◌else◌, slice_get}
use Rattle.std.specs.List.{list_any}
use Rattle.std.specs.Option.{option_map_or}
use Rattle.ccr_base.specs.declared.handlers.Action.{Action}
use Rattle.ccr_base.specs.declared.messages.Msg.{Msg}
use Rattle.ccr_base.specs.declared.messages.Sent.{Sent}
use Rattle.ccr_base.specs.declared.names.Spot.{Spot}
use Rattle.ccr_base.specs.declared.names.Spot.TheVariants.{Site}
use Rattle.ccr_base.specs.declared.names.TaskId.{TaskId}
use Rattle.ccr_handler.specs.declared.segments.PlayEnd.TheVariants as plays
use Rattle.ccr_handler.specs.Playing.{actions_from, after_await, is_await}
use Rattle.ccr_wiring.specs.declared.parts.HandlerPart.{HandlerPart}
use Rattle.ccr_wiring.specs.declared.parts.Parts.{Parts}
use Rattle.ccr_wiring.specs.declared.parts.PosterPart.{PosterPart}
use Rattle.ccr_wiring.specs.Versions.{action_is_newer, handler_is_newer, is_long, is_newer, poster_is_newer}
use Rattle.ccr_wiring.specs.Wirings.{Placement, actions_of, branch_of, exception_port, placement, segment_of, actions_at}
use Rattle.ccr_wiring.specs.Openness.{is_closed}
use Rattle.ccr_model.specs.declared.history.Event.{Event}
use Rattle.ccr_model.specs.Firings.{spot_of}
use Rattle.ccr_model.specs.Legal.{IsLegal}
use Rattle.ccr_model.specs.Posts.{posts}
use Rattle.ccr_model.specs.Sites.{resumed}
use Rattle.ccr_model.specs.TaskData.{Load, load_after, load_at, messages_of, no_load, no_play, play_at, play_of, with_messages}
use Rattle.ccr_base.proofs.Booleans.{neither, not_refuted}
use Rattle.ccr_model.proofs.Members.{Among, Among-either, Among-mapped}
use Rattle.ccr_base.proofs.Lists.{none_at}
use Rattle.ccr_model.proofs.PostedMessages.{each_posted, post_allowed}
use Rattle.ccr_model.proofs.TakenWerePosted.{took_among}
use Rattle.ccr_trace.specs.Values.{IsSingle}
use Rattle.ccr_trace.proofs.SingleValues.{AreSingle, not_long}
use Rattle.ccr_trace.proofs.SinglePlays.{IsPlaySingle, no_play_single, play_single}

-- nothing of version 2 stands in the handlers and scripts
module _ (w : Parts) (none : is_newer w ≡ false) where
  after_old : (acts : List Action) → list_any action_is_newer acts ≡ false → list_any action_is_newer (after_await acts) ≡ false
  after_old [] old = refl
  after_old (a ∷ acts) old = let two = neither (action_is_newer a) (list_any action_is_newer acts) old in by (is_await a) two.1 (after_old acts two.1)
    where
      by : (b : Bool) → list_any action_is_newer acts ≡ false → list_any action_is_newer (after_await acts) ≡ false → list_any action_is_newer (if b then acts else after_await acts) ≡ false
      by true here later = here
      by false here later = later

  from_old : (k : ℕ) (acts : List Action) → list_any action_is_newer acts ≡ false → list_any action_is_newer (actions_from k acts) ≡ false
  from_old zero acts old = old
  from_old (suc k) acts old = after_old (actions_from k acts) (from_old k acts old)

  handlers_old : list_any handler_is_newer w.handlers ≡ false
  handlers_old = (neither (list_any handler_is_newer w.handlers) (list_any poster_is_newer w.posters) (neither (list_any handler_is_newer w.handlers || list_any poster_is_newer w.posters) (not (is_closed w)) none).0).0

  of_old : (handler : ℕ) → list_any action_is_newer (actions_of w handler) ≡ false
  of_old handler = by (slice_get w.handlers handler) refl
    where
      by : (o : Option HandlerPart) → slice_get w.handlers handler ≡ o → list_any action_is_newer (option_map_or (λ (part : HandlerPart). part.handler.actions) o []) ≡ false
      by None at = refl
      by (Some part) at = none_at handler_is_newer w.handlers handler part handlers_old at

  at_old : (branch : ℕ) → list_any action_is_newer (actions_at w branch) ≡ false
  at_old branch = by (placement w branch)
    where
      by : (o : Option Placement) → list_any action_is_newer (option_map_or (λ (s : Placement). actions_of w s.branch.handler) o []) ≡ false
      by None = refl
      by (Some s) = of_old s.branch.handler

  play_at-single : (branch segment : ℕ) (load : Load) → AreSingle load.values → IsPlaySingle (play_at w branch segment load)
  play_at-single branch segment load single = play_single (exception_port w) load.values segment load.causes (actions_from segment (actions_at w branch)) (from_old segment (actions_at w branch) (at_old branch)) single

  -- ---- loads

  abbrev ArePosted : List Event → Type 0
  ArePosted h = (m : Msg) → Among m (posts h) → IsSingle m.value

  values_single : (ms : List Msg) → ((m : Msg) → Among m ms → IsSingle m.value) → AreSingle (map (λ (m : Msg). m.value) ms)
  values_single ms single value is = let found = Among-mapped (λ (m : Msg). m.value) ms value is in subst IsSingle found.2 (single found.0 found.1)

  more_single : (h : List Event) (load : Load) (t : TaskId) → ArePosted h → AreSingle load.values → AreSingle (with_messages load (messages_of h t)).values
  more_single h load t posted single value is = of (Among-either value load.values (map (λ (m : Msg). m.value) (messages_of h t)) is)
    where
      of : Among value load.values ⊎ Among value (map (λ (m : Msg). m.value) (messages_of h t)) → IsSingle value
      of (inl here) = single value here
      of (inr later) = values_single (messages_of h t) (λ m there. posted m (took_among h t m there)) value later

  load_single : (h : List Event) → ArePosted h → (b k : ℕ) (t : TaskId) → AreSingle (load_at w h b k t).values
  load_single h posted b zero t = more_single h no_load t posted (λ value is. absurd is)
  load_single h posted b (suc k) t = more_single h (option_map_or (λ (u : TaskId). load_after w b k (load_at w h b k u)) (resumed h (Site b k) t) no_load) t posted (of_task (resumed h (Site b k) t) (λ u. load_single h posted b k u))
    where
      of_task : (o : Option TaskId) → ((u : TaskId) → AreSingle (load_at w h b k u).values) → AreSingle (option_map_or (λ (u : TaskId). load_after w b k (load_at w h b k u)) o no_load).values
      of_task None rest = λ value is. absurd is
      of_task (Some u) rest = rest u

  play_of-single : (h : List Event) → ArePosted h → (t : TaskId) → IsPlaySingle (play_of w h t)
  play_of-single h posted t = by (spot_of h t)
    where
      by : (o : Option Spot) → IsPlaySingle (option_map_or (λ spot. play_at w (branch_of spot) (segment_of spot) (load_at w h (branch_of spot) (segment_of spot) t)) o no_play)
      by None = no_play_single
      by (Some spot) = play_at-single (branch_of spot) (segment_of spot) (load_at w h (branch_of spot) (segment_of spot) t) (load_single h posted (branch_of spot) (segment_of spot) t)

  -- ---- posts

  script_single : (poster : ℕ) (part : PosterPart) (index : ℕ) (sent : Sent) → slice_get w.posters poster ≡ Some part → slice_get part.posts index ≡ Some sent → IsSingle sent.value
  script_single poster part index sent is line =
      let old : poster_is_newer part ≡ false = none_at poster_is_newer w.posters poster part (neither (list_any handler_is_newer w.handlers) (list_any poster_is_newer w.posters) (neither (list_any handler_is_newer w.handlers || list_any poster_is_newer w.posters) (not (is_closed w)) none).0).1 is in
      not_long sent.value (none_at (λ (post : Sent). is_long post.value) part.posts index sent old line)

  -- nothing is open
  pub old_closed : is_closed w ≡ true
  old_closed = not_refuted (is_closed w) (neither (list_any handler_is_newer w.handlers || list_any poster_is_newer w.posters) (not (is_closed w)) none).1

  pub posted_single : (h : List Event) → IsLegal w h → ArePosted h
  posted_single h legal = each_posted w (λ (m : Msg). IsSingle m.value) (λ g m lawful known allowed. (let it = post_allowed w old_closed g m (λ (sent : Sent). IsSingle sent.value) script_single (λ t. (play_of-single g known t).posts) m.id allowed in subst IsSingle (sym it.1.value) it.2)) h legal

  pub failed_single : (h : List Event) → IsLegal w h → (t : TaskId) (value : List ℕ) → (play_of w h t).end ≡ plays.Failed value → IsSingle value
  failed_single h legal t value is = (play_of-single h (posted_single h legal) t).end value is
