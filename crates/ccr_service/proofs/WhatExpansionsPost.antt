-- Which messages an expansion's history has: requests, as the clients ask, and what tasks post elsewhere.
use Rattle.std.proofs.Common.{◌≡◌, inl, inr, ℕ, zero, suc, ◌+◌, ◌<◌, false, ◌&&◌, List, [], ◌∷◌, ◌++◌, length, map, Option, Some, None, refl, sym, ap, ◌∙◌, arith, subst, option_to_list}
use Rattle.std.specs.Prelude.{◌==◌, option_map, option_and_then}
use Rattle.std.specs.List.{slice_get}
use Rattle.std.specs.Option.{option_map_or}
use Rattle.ccr_base.specs.declared.names.TaskId.{TaskId}
use Rattle.ccr_base.specs.declared.names.MsgId.{MsgId}
use Rattle.ccr_base.specs.declared.names.MsgId.TheVariants.{Script, Task}
use Rattle.ccr_base.specs.declared.names.Spot.{Spot}
use Rattle.ccr_base.specs.declared.messages.Msg.{Msg}
use Rattle.ccr_base.specs.declared.messages.Sent.{Sent}
use Rattle.ccr_base.specs.declared.handlers.Action.{Action}
use Rattle.ccr_base.specs.declared.handlers.Action.TheVariants as actions
use Rattle.ccr_base.specs.declared.handlers.Expr.TheVariants.{Arg}
use Rattle.ccr_base.specs.Names.{has_task}
use Rattle.ccr_handler.specs.Playing.{play, exceptions}
use Rattle.ccr_handler.specs.Evaluating.{value_of}
use Rattle.ccr_wiring.specs.declared.parts.Parts.{Parts}
use Rattle.ccr_wiring.specs.declared.parts.PosterPart.{PosterPart}
use Rattle.ccr_wiring.specs.declared.parts.CausePart.{CausePart}
use Rattle.ccr_wiring.specs.Wirings.{Placement, placement, branch_of, segment_of, actions_of, exception_port}
use Rattle.ccr_model.proofs.Closed.{own_line, own_post}
use Rattle.ccr_model.specs.declared.history.Event.{Event}
use Rattle.ccr_model.specs.declared.history.Event.TheVariants.{Post}
use Rattle.ccr_model.specs.Posts.{posts, posts_of_poster, posts_of_task, message_named}
use Rattle.ccr_model.specs.Firings.{Firing, firing_named}
use Rattle.ccr_model.specs.TaskData.{Load, play_of, play_at, load_at, no_play}
use Rattle.ccr_model.specs.Tasks.{running}
use Rattle.ccr_model.specs.Rules.{refusal_of_post, is_script_line, is_play_post, is_post}
use Rattle.ccr_model.specs.Legal.{IsLegal}
use Rattle.ccr_base.proofs.Booleans.{both}
use Rattle.ccr_base.proofs.Options.{some_of, some_then}
use Rattle.ccr_model.proofs.Members.{Among}
use Rattle.ccr_model.proofs.PostNames.{IsPost-test, refused_not, posted_once}
use Rattle.ccr_model.proofs.PostedMessages.{each_posted}
use Rattle.ccr_model.proofs.MessageNames.{found_once}
use Rattle.ccr_service.specs.declared.parts.AskPart.{AskPart}
use Rattle.ccr_service.specs.declared.parts.ClientPart.{ClientPart}
use Rattle.ccr_service.specs.declared.parts.ServiceParts.{ServiceParts}
use Rattle.ccr_service.specs.Expansion.{request_port, response_port, request, causes_from, posters_from, expansion}
use Rattle.ccr_service.proofs.NoAwaits.{at_branches}
use Rattle.ccr_service.proofs.Shape.{Role, PlacementFacts, PlacementFacts-placement, awaits_none, op_actions, fault_actions}

-- ---- requests

-- the message is what the client asks, but for its name
pub record IsAsked (s : ServiceParts) (m : Msg) (client index : ℕ) : Type 0 where
  pub part : ClientPart
  pub is_part : slice_get s.clients client ≡ Some part
  pub ask : AskPart
  pub is_ask : slice_get part.asks index ≡ Some ask
  pub port : m.port ≡ request_port ask.op
  pub value : m.value ≡ ask.value ∷ []
  pub causes : m.causes ≡ client ∷ []

poster_at : (n k : ℕ) (cs : List ClientPart) (p : PosterPart) → slice_get (posters_from n cs) k ≡ Some p → (c : ClientPart) × (slice_get cs k ≡ Some c) × (p.posts ≡ map (request (n + k)) c.asks)
poster_at n k [] p is = absurd (cc)
poster_at n zero (c ∷ cs) p is = let e : n + 0 ≡ n = omega arith in let same : record { name = c.name; posts = map (request n) c.asks } ≡ p = cc in (c, refl, rw e (ap (λ (x : PosterPart). x.posts) (sym same)))
poster_at n (suc k) (c ∷ cs) p is =
    let rest = poster_at (n + 1) k cs p is in
    let e : (n + 1) + k ≡ n + suc k = omega arith in
    (rest.0, rest.1, subst (λ i. p.posts ≡ map (request i) rest.0.asks) e rest.2)

ask_at : (client k : ℕ) (asks : List AskPart) (x : Sent) → slice_get (map (request client) asks) k ≡ Some x → (a : AskPart) × (slice_get asks k ≡ Some a) × (x ≡ request client a)
ask_at client k [] x is = absurd (cc)
ask_at client zero (a ∷ asks) x is = (a, refl, cc)
ask_at client (suc k) (a ∷ asks) x is = ask_at client k asks x is

asked_now : (s : ServiceParts) (h : List Event) (m : Msg) (client index : ℕ) → refusal_of_post (expansion s) h m (Script client index) ≡ None → IsAsked s m client index
asked_now s h m client index allowed =
    let line = (refused_not (is_script_line (expansion s) h client index m) _ None allowed).0 in
    let parts = both (index == posts_of_poster h client) (option_map_or (is_post m) (option_and_then (λ (p : PosterPart). slice_get p.posts index) (slice_get (expansion s).posters client)) false) (own_line (expansion s) refl h client index m line) in
    let its = some_of (is_post m) (option_and_then (λ (p : PosterPart). slice_get p.posts index) (slice_get (expansion s).posters client)) parts.1 in
    let poster = some_then (λ (p : PosterPart). slice_get p.posts index) (slice_get (expansion s).posters client) its.0 its.1 in
    let found = poster_at 0 client s.clients poster.0 poster.1 in
    let e : 0 + client ≡ client = omega arith in
    let all : poster.0.posts ≡ map (request client) found.0.asks = subst (λ i. poster.0.posts ≡ map (request i) found.0.asks) e found.2 in
    let line_at : slice_get (map (request client) found.0.asks) index ≡ Some its.0 = ap (λ (xs : List Sent). slice_get xs index) (sym all) ∙ poster.2 in
    let ask = ask_at client index found.0.asks its.0 line_at in
    let post = IsPost-test m its.0 its.2 in
    record { part = found.0; is_part = found.1; ask = ask.0; is_ask = ask.1; port = post.port ∙ ap (λ (x : Sent). x.port) ask.2; value = post.value ∙ ap (λ (x : Sent). x.value) ask.2; causes = post.causes ∙ ap (λ (x : Sent). x.causes) ask.2 }

-- ---- what tasks post

-- no operation's requests go there
abbrev pub NoRequests : ServiceParts → ℕ → Type 0
NoRequests s port = (op : ℕ) → op < length s.ops → port ≡ request_port op → ⊥

exception_at : (n cause port : ℕ) (cs : List ClientPart) → option_map (λ (part : CausePart). part.port) (slice_get (causes_from n cs) cause) ≡ Some port → port ≡ n + cause
exception_at n cause port [] is = absurd (cc)
exception_at n zero port (c ∷ cs) is = let same : n ≡ port = cc in omega (arith, same)
exception_at n (suc cause) port (c ∷ cs) is = let rest = exception_at (n + 1) cause port cs is in omega (arith, rest)

fault_elsewhere : (s : ServiceParts) (v : List ℕ) (causes : List ℕ) (index : ℕ) (x : Sent) → slice_get (exceptions (exception_port (expansion s)) v causes) index ≡ Some x → NoRequests s x.port
fault_elsewhere s v [] index x is op few at = absurd (cc)
fault_elsewhere s v (cause ∷ causes) index x is op few at = by_port (exception_port (expansion s) cause) refl index is (λ k got. fault_elsewhere s v causes k x got op few at)
  where
    by_port : (o : Option ℕ) → exception_port (expansion s) cause ≡ o → (index : ℕ) → slice_get (option_to_list (option_map (λ port. let y : Sent = record { port = port; value = v; causes = [] } in y) o) ++ exceptions (exception_port (expansion s)) v causes) index ≡ Some x → ((k : ℕ) → slice_get (exceptions (exception_port (expansion s)) v causes) k ≡ Some x → ⊥) → ⊥
    by_port None e index got rest = rest index got
    by_port (Some port) e zero got rest =
        let same : port ≡ x.port = cc in
        let far = exception_at (length s.ops + length s.ops) cause port s.clients e in
        omega (arith, same, far, few, at)
    by_port (Some port) e (suc k) got rest = rest k got

-- the play of a branch of an expansion
play_elsewhere : (s : ServiceParts) (b : ℕ) (r : Placement) → placement (expansion s) b ≡ Some r → (load : Load) (index : ℕ) (x : Sent) → slice_get (play (exception_port (expansion s)) load.values 0 load.causes (actions_of (expansion s) r.branch.handler)).posts index ≡ Some x → NoRequests s x.port
play_elsewhere s b r is load index x got op few at = by_role facts.serves.role
  where
    facts : PlacementFacts s r
    facts = PlacementFacts-placement s b r is

    by_role : Role (length s.ops) facts.op facts.part r.branch.handler facts.pred → ⊥
    by_role (inl own) =
        let acts : actions_of (expansion s) r.branch.handler ≡ actions.Post (response_port facts.op) facts.part.expr ∷ [] = ap (actions_of (expansion s)) own.0 ∙ op_actions s facts.op facts.part facts.at in
        let one = subst (λ (as' : List Action). slice_get (play (exception_port (expansion s)) load.values 0 load.causes as').posts index ≡ Some x) acts got in
        odd index one
      where
        odd : (index : ℕ) → slice_get (record { port = response_port facts.op; value = value_of facts.part.expr load.values; causes = load.causes } ∷ []) index ≡ Some x → ⊥
        odd zero is = let same : response_port facts.op ≡ x.port = cc in omega (arith, same, at)
        odd (suc k) is = absurd (cc)
    by_role (inr fault) =
        let acts : actions_of (expansion s) r.branch.handler ≡ actions.Fail (Arg 0) ∷ [] = ap (actions_of (expansion s)) fault.0 ∙ fault_actions s facts.op fault.1.0 facts.part facts.at fault.1.1 in
        let some = subst (λ (as' : List Action). slice_get (play (exception_port (expansion s)) load.values 0 load.causes as').posts index ≡ Some x) acts got in
        fault_elsewhere s (value_of (Arg 0) load.values) load.causes index x some op few at

elsewhere_now : (s : ServiceParts) (h : List Event) → IsLegal (expansion s) h → (m : Msg) (t : TaskId) (index : ℕ) → refusal_of_post (expansion s) h m (Task t index) ≡ None → NoRequests s m.port
elsewhere_now s h legal m t index allowed op few at =
    let line = (refused_not (is_play_post (expansion s) h t index m) _ _ allowed).0 in
    let parts = both (has_task (running h) t && (index == posts_of_task h t)) (option_map_or (is_post m) (slice_get (play_of (expansion s) h t).posts index) false) (own_post (expansion s) refl h t index m line) in
    let its = some_of (is_post m) (slice_get (play_of (expansion s) h t).posts index) parts.1 in
    let post = IsPost-test m its.0 its.2 in
    by_firing its.0 (firing_named h t) refl its.1 (sym post.port ∙ at)
  where
    w : Parts
    w = expansion s

    by_placement : (x : Sent) (b : ℕ) (load : Load) (o : Option Placement) → placement w b ≡ o → slice_get (play (exception_port w) load.values 0 load.causes (option_map_or (λ (r : Placement). actions_of w r.branch.handler) o [])).posts index ≡ Some x → x.port ≡ request_port op → ⊥
    by_placement x b load None e got there = absurd (cc)
    by_placement x b load (Some r) e got there = play_elsewhere s b r e load index x got op few there

    by_firing : (x : Sent) (o : Option Firing) → firing_named h t ≡ o → slice_get (option_map_or (λ spot. play_at w (branch_of spot) (segment_of spot) (load_at w h (branch_of spot) (segment_of spot) t)) (option_map (λ (f : Firing). f.spot) o) no_play).posts index ≡ Some x → x.port ≡ request_port op → ⊥
    by_firing x None e got there = absurd (cc)
    by_firing x (Some f) e got there =
        let place_of_it = at_branches w (awaits_none s) h legal t f e in
        let got_there = subst (λ (spot : Spot). slice_get (play_at w (branch_of spot) (segment_of spot) (load_at w h (branch_of spot) (segment_of spot) t)).posts index ≡ Some x) place_of_it.1 got in
        by_placement x place_of_it.0 (load_at w h place_of_it.0 0 t) (placement w place_of_it.0) refl got_there there

-- ---- all messages

-- a request as asked, or a post of a task that is no request
abbrev pub IsKnown : ServiceParts → Msg → MsgId → Type 0
IsKnown s m (Script client index) = IsAsked s m client index
IsKnown s m (Task t index) = NoRequests s m.port

known_by : (s : ServiceParts) (h : List Event) → IsLegal (expansion s) h → (m : Msg) (name : MsgId) → refusal_of_post (expansion s) h m name ≡ None → IsKnown s m name
known_by s h legal m (Script client index) allowed = asked_now s h m client index allowed
known_by s h legal m (Task t index) allowed = elsewhere_now s h legal m t index allowed

pub all_known : (s : ServiceParts) (h : List Event) → IsLegal (expansion s) h → (m : Msg) → Among m (posts h) → IsKnown s m m.id
all_known s h legal = each_posted (expansion s) (λ (m : Msg). IsKnown s m m.id) (λ g m lawful known allowed. known_by s g lawful m m.id allowed) h legal

-- ---- a message is found by its name

pub named_so : (w : Parts) (h : List Event) → IsLegal w h → (m : Msg) → Among m (posts h) → message_named h m.id ≡ Some m
named_so w h legal m is = found_once (posts h) m is (posted_once w h legal m.id)
