-- The names that firings took were posted, so an allowed post has a new one.
use Rattle.std.proofs.Common.{◌≡◌, ◌+◌, ◌<◌, Bool, true, false, not, ◌||◌, List, [], ◌∷◌, ◌++◌, refl, sym, ◌∙◌, subst, append-nil, arith}
use Rattle.std.proofs.lemmas.Grind.{common_steps}
use Rattle.ccr_base.specs.declared.names.MsgId.{MsgId}
use Rattle.ccr_base.specs.declared.names.TaskId.{TaskId}
use Rattle.ccr_base.specs.declared.names.Spot.{Spot}
use Rattle.ccr_base.specs.declared.messages.Msg.{Msg}
use Rattle.ccr_base.specs.Names.{has_message}
use Rattle.ccr_base.proofs.Booleans.{refuted}
use Rattle.ccr_base.proofs.SameNames.{same_message-self}
use Rattle.ccr_wiring.specs.declared.parts.Parts.{Parts}
use Rattle.ccr_wiring.specs.Valid.{HasPortsApart}
use Rattle.ccr_model.specs.declared.history.Event.{Event}
use Rattle.ccr_model.specs.declared.history.Event.TheVariants as events
use Rattle.ccr_model.specs.Posts.{posts, taken}
use Rattle.ccr_model.specs.Legal.{IsAllowed, IsLegal}
use Rattle.ccr_model.proofs.LegalParts.{legal_push}
use Rattle.ccr_model.proofs.MessageNames.{named_some, has_message-append}
use Rattle.ccr_model.proofs.OneMoreEvent.{posts-push}
use Rattle.ccr_model.proofs.PostNames.{along, times, posted_once, times_more}
use Rattle.ccr_model.proofs.TakenOnce.{FireFacts-allowed, named-selection, taken-push, times-filter}

-- what was taken was posted
abbrev pub WerePosted : List Event → Type 0
WerePosted h = (name : MsgId) → has_message (taken h) name ≡ true → 0 < times name (posts h)

fire_posted : (w : Parts) → HasPortsApart w → (h : List Event) (t : TaskId) (spot : Spot) (names : List MsgId) (cs : List TaskId) → IsAllowed w h (events.Fire t spot names cs) → WerePosted h → (name : MsgId) → has_message (taken h ++ names) name ≡ true → 0 < times name (posts h)
fire_posted w apart h t spot names cs allowed old name is = by (has_message (taken h) name) refl (sym (has_message-append (taken h) names name) ∙ is)
  where
    by : (a : Bool) → has_message (taken h) name ≡ a → has_message (taken h) name || has_message names name ≡ true → 0 < times name (posts h)
    by true e any = old name e
    by false e any =
        let there : has_message names name ≡ true = subst (λ (b : Bool). b || has_message names name ≡ true) e any in
        let some = named_some name names there in
        let among = named-selection w h spot name names apart (FireFacts-allowed w h t spot names cs allowed).selection_made in
        let all = times-filter name (λ (m : Msg). not (has_message (taken h) m.id)) (posts h) in
        omega (arith, some, among, all)

posted_kept : (w : Parts) → HasPortsApart w → (h : List Event) (e : Event) → WerePosted h → IsAllowed w h e → WerePosted (h ++ e ∷ [])
posted_kept w apart h (events.Post m) old allowed = rw (taken-push, posts-push, append-nil) (λ name is. (let a = old name is in let b = times_more name (posts h) m in omega (arith, a, b)))
posted_kept w apart h (events.Fire t spot names cs) old allowed = rw (taken-push, posts-push, append-nil) (fire_posted w apart h t spot names cs allowed old)
posted_kept w apart h (events.Admit t) old allowed = rw (taken-push, posts-push, append-nil, append-nil) old
posted_kept w apart h (events.Put t d) old allowed = rw (taken-push, posts-push, append-nil, append-nil) old
posted_kept w apart h (events.Start t a) old allowed = rw (taken-push, posts-push, append-nil, append-nil) old
posted_kept w apart h (events.End t how) old allowed = rw (taken-push, posts-push, append-nil, append-nil) old

pub are_posted : (w : Parts) → HasPortsApart w → (h : List Event) → IsLegal w h → WerePosted h
are_posted w apart h legal = along w WerePosted (posted_kept w apart) (λ name is. absurd (cc)) h legal

-- the name of an allowed post was never taken
pub fresh_post : (w : Parts) → HasPortsApart w → (h : List Event) (m : Msg) → IsLegal w h → IsAllowed w h (events.Post m) → has_message (taken h) m.id ≡ false
fresh_post w apart h m legal allowed =
    let once = posted_once w (h ++ events.Post m ∷ []) (legal_push w [] h (events.Post m) legal allowed) m.id in
    let one_more : times m.id (posts (h ++ events.Post m ∷ [])) ≡ times m.id (posts h) + 1 = rw posts-push (grind (arith, common_steps, same_message-self m.id)) in
    refuted (has_message (taken h) m.id) (λ is. (let some = are_posted w apart h legal m.id is in omega (arith, once, one_more, some)))
