-- The events of a legal history name what the wiring has, their values are of its version, and each firing names a message.
use Rattle.std.proofs.Common.{inl, ◌≡◌, ℕ, true, not, List, [], ◌∷◌, ◌++◌, None, refl, sym, ap, subst, ◌<◌, length, arith}
use Rattle.std.specs.Prelude.{All, is_some}
use Rattle.std.proofs.lemmas.List.Elements.{All-nil, All-push}
use Rattle.ccr_base.specs.declared.messages.Msg.{Msg}
use Rattle.ccr_base.specs.declared.names.MsgId.{MsgId}
use Rattle.ccr_base.specs.declared.names.Spot.{Spot}
use Rattle.ccr_base.specs.declared.names.Spot.TheVariants.{Branch, Site}
use Rattle.ccr_base.specs.declared.names.TaskId.{TaskId}
use Rattle.ccr_base.specs.Names.{has_task, has_message}
use Rattle.ccr_base.specs.Values.{same_value}
use Rattle.ccr_handler.specs.declared.segments.PlayEnd.{PlayEnd}
use Rattle.ccr_handler.specs.declared.segments.PlayEnd.TheVariants as plays
use Rattle.ccr_wiring.specs.declared.parts.Parts.{Parts}
use Rattle.ccr_wiring.specs.Valid.{IsSound, IsValid}
use Rattle.ccr_wiring.specs.Wirings.{Placement, placement, site_port}
use Rattle.ccr_wiring.proofs.Soundness.{sound}
use Rattle.ccr_model.proofs.Closed.{own_end}
use Rattle.ccr_model.specs.declared.history.Event.{Event}
use Rattle.ccr_model.specs.declared.history.Event.TheVariants as events
use Rattle.ccr_model.specs.declared.history.EndHow.{EndHow}
use Rattle.ccr_model.specs.declared.history.EndHow.TheVariants as ends
use Rattle.ccr_model.specs.Selection.{are_oldest, is_selection}
use Rattle.ccr_model.specs.Legal.{IsAllowed, IsLegal}
use Rattle.ccr_model.specs.Live.{is_live, is_live_in}
use Rattle.ccr_model.specs.Posts.{held, post_of, posts}
use Rattle.ccr_model.specs.Rules.{ends_so, may_end}
use Rattle.ccr_model.specs.TaskData.{play_of}
use Rattle.ccr_model.specs.Tasks.{has_post_left, running}
use Rattle.ccr_base.proofs.Booleans.{both}
use Rattle.ccr_model.proofs.LegalParts.{along_legal, legal_push}
use Rattle.ccr_model.proofs.Members.{Among, Among-right}
use Rattle.ccr_base.proofs.Options.{some_of}
use Rattle.ccr_model.proofs.PostNames.{refused_not}
use Rattle.ccr_model.proofs.OneMoreEvent.{posts-push}
use Rattle.ccr_model.proofs.TakenOnce.{FireFacts-allowed}
use Rattle.ccr_net.proofs.Known.CausesAreKnown.{fine_causes, posted_fine}
use Rattle.ccr_trace.specs.Known.{AreKnown, HasMessages, HaveMessages, IsKnown, IsKnownEnd, IsKnownSpot}
use Rattle.ccr_trace.specs.Values.{HasSmallValue, HaveSmallValues, IsSmallEnd, IsSmallValue}
use Rattle.ccr_trace.proofs.SingleValues.{of_version, same_single}
use Rattle.ccr_commands.proofs.SinglePosts.{failed_single, old_closed, posted_single}
use Rattle.ccr_laws.proofs.MessagesAreTakenOnce.{selection_named}
use Rattle.ccr_laws.proofs.Valid.{TakesSome-valid}

-- a task failed with the value with which its play ends
failed_as : (value : List ℕ) (end : PlayEnd) → ends_so (ends.Failed value) end ≡ true → (other : List ℕ) × (end ≡ plays.Failed other) × (same_value value other ≡ true)
failed_as value (plays.Failed other) is = (other, refl, is)
failed_as value plays.Done is = absurd cc
failed_as value (plays.Yield site) is = absurd cc

some_name : (names : List MsgId) (name : MsgId) → has_message names name ≡ true → 0 < length names
some_name [] name is = absurd cc
some_name (n ∷ names) name is = omega arith

module _ (w : Parts) (valid : IsValid w) where
  all : IsSound w
  all = sound w valid

  post_known : (h : List Event) (m : Msg) → IsLegal w (h ++ events.Post m ∷ []) → IsSmallValue m.value → IsKnown w (events.Post m)
  post_known h m legal small =
      let among : Among m (posts (h ++ events.Post m ∷ [])) = subst (Among m) (sym (posts-push h (events.Post m))) (Among-right m (posts h) (post_of (events.Post m)) (inl refl)) in
      let fine = posted_fine w all (h ++ events.Post m ∷ []) legal m among in
      (fine.0, (fine_causes w m.causes fine.1).0, of_version w valid m.value small (λ none. posted_single w none (h ++ events.Post m ∷ []) legal m among))

  spot_known : (h : List Event) (spot : Spot) (names : List MsgId) → is_live w h spot ≡ true → is_selection w h spot names ≡ true → IsKnownSpot w spot
  spot_known h (Branch branch) names live is = let found = some_of (λ (s : Placement). is_live_in w h branch s.domain s.branch.group) (placement w branch) live in ap is_some found.1
  spot_known h (Site branch site) names live is = let found = some_of (λ port. are_oldest (held h port) names) (site_port w branch site) is in ap is_some found.1

  end_known : (h : List Event) (task : TaskId) (how : EndHow) → IsLegal w h → IsAllowed w h (events.End task how) → IsSmallEnd how → IsKnownEnd w how
  end_known h task (ends.Failed value) legal allowed small =
      let running_so = refused_not (has_task (running h) task) _ _ allowed in
      let may = (refused_not (may_end w h task (ends.Failed value)) _ None running_so.1).0 in
      of_version w valid value small (λ none.
      let own = own_end w (old_closed w none) h task (ends.Failed value) may in
      let so = failed_as value (play_of w h task).end (both (not (has_post_left w h task)) (ends_so (ends.Failed value) (play_of w h task).end) own).1 in
      same_single value so.0 so.2 (failed_single w none h legal task so.0 so.1))
  end_known h task ends.Done legal allowed small = tt
  end_known h task ends.Yield legal allowed small = tt
  end_known h task ends.Shed legal allowed small = tt

  event_known : (h : List Event) (e : Event) → IsLegal w h → IsAllowed w h e → HasSmallValue e → IsKnown w e
  event_known h (events.Post m) legal allowed small = post_known h m (legal_push w [] h (events.Post m) legal allowed) small
  event_known h (events.Fire task spot names cuts) legal allowed small = let facts = FireFacts-allowed w h task spot names cuts allowed in spot_known h spot names facts.live facts.selection_made
  event_known h (events.Admit task) legal allowed small = tt
  event_known h (events.Put task dropped) legal allowed small = tt
  event_known h (events.Start task actor) legal allowed small = tt
  event_known h (events.End task how) legal allowed small = end_known h task how legal allowed small

  known_where_small : (h : List Event) → IsLegal w h → All (λ e. HasSmallValue e → IsKnown w e) h
  known_where_small = along_legal w (All (λ e. HasSmallValue e → IsKnown w e)) (λ h e legal allowed known. All-push (λ x. HasSmallValue x → IsKnown w x) h e known (event_known h e legal allowed)) (All-nil (λ e. HasSmallValue e → IsKnown w e))

  pub legal_are_known : (h : List Event) → IsLegal w h → HaveSmallValues h → AreKnown w h
  legal_are_known h legal small = λ k d below. known_where_small h legal k d below (small k d below)

  event_takes : (h : List Event) (e : Event) → IsAllowed w h e → HasMessages e
  event_takes h (events.Fire task spot names cuts) allowed = let one = selection_named w (TakesSome-valid w valid) h spot names (FireFacts-allowed w h task spot names cuts allowed).selection_made in some_name names one.message.id one.named
  event_takes h (events.Post m) allowed = tt
  event_takes h (events.Admit task) allowed = tt
  event_takes h (events.Put task dropped) allowed = tt
  event_takes h (events.Start task actor) allowed = tt
  event_takes h (events.End task how) allowed = tt

  pub legal_have_messages : (h : List Event) → IsLegal w h → HaveMessages h
  legal_have_messages = along_legal w HaveMessages (λ h e legal allowed some. All-push HasMessages h e some (event_takes h e allowed)) (All-nil HasMessages)
