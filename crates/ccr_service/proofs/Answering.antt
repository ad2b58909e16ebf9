-- Each request of an expansion has one answer, once all is still.
use Rattle.std.proofs.Common.{◌≡◌, ◌⊎◌, inl, inr, ℕ, ◌≤◌, Bool, true, false, not, ◌&&◌, List, [], ◌∷◌, ◌++◌, length, filter, Option, Some, None, find, refl, sym, ap, ◌∙◌, arith, subst}
use Rattle.std.specs.Prelude.{◌==◌, if◌then◌else◌, nat_lt, option_map, Contains}
use Rattle.std.specs.List.{slice_get}
use Rattle.std.specs.Option.{option_map_or}
use Rattle.std.proofs.lemmas.Bool.Decides.{nat_tests}
use Rattle.std.proofs.lemmas.Option.{slice_get-get_or}
use Rattle.ccr_base.specs.declared.names.TaskId.{TaskId}
use Rattle.ccr_base.specs.declared.names.MsgId.{MsgId}
use Rattle.ccr_base.specs.declared.names.MsgId.TheVariants.{Script, Task}
use Rattle.ccr_base.specs.declared.messages.Msg.{Msg}
use Rattle.ccr_base.specs.declared.messages.Sent.{Sent}
use Rattle.ccr_base.specs.Names.{same_message, has_task, has_message}
use Rattle.ccr_handler.specs.declared.segments.Play.{Play}
use Rattle.ccr_handler.specs.declared.segments.PlayEnd.TheVariants as plays
use Rattle.ccr_wiring.specs.declared.parts.Parts.{Parts}
use Rattle.ccr_wiring.specs.Valid.{IsValid}
use Rattle.ccr_wiring.proofs.Soundness.{sound}
use Rattle.ccr_model.proofs.Closed.{own_end}
use Rattle.ccr_model.specs.declared.history.Event.{Event}
use Rattle.ccr_model.specs.declared.history.Event.TheVariants.{Fire, End}
use Rattle.ccr_model.specs.declared.history.EndHow.{EndHow}
use Rattle.ccr_model.specs.declared.history.EndHow.TheVariants as ends
use Rattle.ccr_model.specs.declared.history.Fate.{Fate}
use Rattle.ccr_model.specs.declared.history.Fate.TheVariants.{Held, Taken}
use Rattle.ccr_model.specs.declared.history.TaskState.{TaskState}
use Rattle.ccr_model.specs.declared.history.TaskState.TheVariants as states
use Rattle.ccr_model.specs.Posts.{posts, posts_of_task, is_message_of, message_named, held}
use Rattle.ccr_model.specs.Firings.{Firing, firings, firing_named, cut, put, dropped, started}
use Rattle.ccr_model.specs.TaskData.{play_of}
use Rattle.ccr_model.specs.Tasks.{waiting, running, has_post_left}
use Rattle.ccr_model.specs.Rules.{may_end, may_shed, ends_so, is_shed}
use Rattle.ccr_model.specs.Fates.{state_of, taker, fate, fate_of}
use Rattle.ccr_model.specs.Legal.{IsLegal, IsQuiet, is_complete, has_shed}
use Rattle.ccr_model.specs.Counts.{is_shed as is_shed_end}
use Rattle.ccr_model.proofs.Allowing.{OneName-legal}
use Rattle.ccr_base.proofs.Booleans.{both, no_both, or_left, or_right, refuted, eq-self, not_true, same_number, or_none}
use Rattle.ccr_base.proofs.Options.{some-below}
use Rattle.ccr_model.proofs.Members.{Among, Among-right, Among-at, Among-filter, same_filter}
use Rattle.ccr_model.proofs.PostNames.{refused_not}
use Rattle.ccr_base.proofs.SameNames.{same_message-is, same_values}
use Rattle.ccr_base.proofs.Filters.{more_kept}
use Rattle.ccr_model.proofs.Stable.{firings-append, play_of-append}
use Rattle.ccr_model.proofs.Cutting.{cut_not_started, cut_not_put}
use Rattle.ccr_model.proofs.Ending.{AreEnded-legal}
use Rattle.ccr_model.proofs.WhoWasPut.{ArePlaced-legal}
use Rattle.ccr_model.proofs.FiringPlacements.{firing_with_placement}
use Rattle.ccr_model.proofs.OneMoreEvent.{posts-append}
use Rattle.ccr_laws.specs.Occurring.{Occurs}
use Rattle.ccr_laws.specs.OneFate.{IsHeld, IsTakenBy, HasEnded, IsIn, HasFate, HasOneFate}
use Rattle.ccr_laws.proofs.LegalEventsWereAllowed.{allowed_at, legal_past}
use Rattle.ccr_laws.proofs.DroppingPuts.{dropped_unstarted}
use Rattle.ccr_laws.proofs.OneFates.{one_fate}
use Rattle.ccr_laws.proofs.States.{is_in, has_ended}
use Rattle.ccr_service.specs.declared.answer.Answer.{Answer}
use Rattle.ccr_service.specs.declared.answer.Answer.TheVariants as told
use Rattle.ccr_service.specs.declared.parts.AskPart.{AskPart}
use Rattle.ccr_service.specs.declared.parts.ClientPart.{ClientPart}
use Rattle.ccr_service.specs.declared.parts.OpPart.{OpPart}
use Rattle.ccr_service.specs.declared.parts.ServiceParts.{ServiceParts}
use Rattle.ccr_service.specs.Expansion.{request_port, response_port, fault_port, expansion}
use Rattle.ccr_service.specs.Replies.{is_past, success, fault, reply, reply_by, posted_by}
use Rattle.ccr_service.specs.Services.{IsService}
use Rattle.ccr_service.specs.Stillness.{IsStill}
use Rattle.ccr_service.specs.Answered.{message_of, is_response_port, responses_of, responses, HasResponse, IsAnswer, answer_by, answer_of, HasOneAnswer, IsServedWhole}
use Rattle.ccr_service.specs.Telling.{first_post, told_by}
use Rattle.ccr_service.proofs.QuietIsStill.{AtEnd, AtEnd-quiet, still}
use Rattle.ccr_service.proofs.Shape.{awaits_none, one_queue}
use Rattle.ccr_service.proofs.AtEnd.{held_torn}
use Rattle.ccr_service.proofs.OnlyTeardownsCut.{cut_torn, dropped_discards}
use Rattle.ccr_service.proofs.Plays.{TakesAsk, TakesAsk-legal, play_is}
use Rattle.ccr_service.proofs.WhatExpansionsPost.{named_so}
use Rattle.ccr_service.proofs.Replying.{running_fired, one_play, nothing_or_reply, HasReplied, unstarted_nothing, its_name, all_replies}
use Rattle.ccr_service.proofs.NobodyIsShed.{none_shed}
use Rattle.ccr_service.proofs.Fitting.{valid}
use Rattle.ccr_service.proofs.Asking.{asked, ask_posted, ask_named, posted_stands}

-- ---- who took the request

-- a firing of a task that names the message
pub record TakesIt (s : ServiceParts) (h : List Event) (client index : ℕ) (t : TaskId) : Type 0 where
  pub firing : Firing
  pub is_firing : firing_named h t ≡ Some firing
  pub asks : TakesAsk s h t firing
  pub client_so : asks.client ≡ client
  pub place_so : asks.place ≡ index

taken_firing : (h : List Event) (name : MsgId) (t : TaskId) → IsTakenBy h name t → (f : Firing) × Among f (firings h) × (f.task ≡ t) × (has_message f.messages name ≡ true)
taken_firing h name t is =
    let f : Firing = record { task = t; spot = is.spot; messages = is.messages; cuts = is.cuts } in
    let all : firings h ≡ firings is.past ++ f ∷ firings is.stands.more = ap firings is.stands.whole ∙ firings-append is.past (Fire t is.spot is.messages is.cuts ∷ is.stands.more) in
    (f, subst (Among f) (sym all) (Among-right f (firings is.past) (f ∷ firings is.stands.more) (inl refl)), refl, is.named)

takes_it : (s : ServiceParts) (h : List Event) → IsLegal (expansion s) h → (client index : ℕ) (t : TaskId) → IsTakenBy h (Script client index) t → TakesIt s h client index t
takes_it s h legal client index t is =
    let found = taken_firing h (Script client index) t is in
    let f = found.0 in
    let named : firing_named h t ≡ Some f = subst (λ u. firing_named h u ≡ Some f) found.2 (OneName-legal (expansion s) h legal f found.1) in
    let asks = TakesAsk-legal s h legal t f named in
    let has : has_message (Script asks.client asks.place ∷ []) (Script client index) ≡ true = subst (λ n. has_message (n ∷ []) (Script client index) ≡ true) asks.id (subst (λ ns. has_message ns (Script client index) ≡ true) asks.takes.named found.3) in
    let same : Script client index ≡ Script asks.client asks.place = only (Script client index) (Script asks.client asks.place) has in
    record { firing = f; is_firing = named; asks = asks; client_so = cc; place_so = cc }
  where
    only : (m n : MsgId) → has_message (n ∷ []) m ≡ true → m ≡ n
    only m n has = same_message-is m n (or_none (same_message m n) has)

-- what the task of a request plays
pub its_play : (s : ServiceParts) (h : List Event) → IsLegal (expansion s) h → (client index : ℕ) (part : ClientPart) (ask : AskPart) (op : OpPart) → slice_get s.clients client ≡ Some part → slice_get part.asks index ≡ Some ask → slice_get s.ops ask.op ≡ Some op → (t : TaskId) → TakesIt s h client index t → play_of (expansion s) h t ≡ reply s ask.op op client ask.value
its_play s h legal client index part ask op is_client is_ask is_op t its =
    let asks = its.asks in
    let played = play_is s h t its.firing its.is_firing asks in
    let one_part : asks.asked.part ≡ part = both_some (slice_get s.clients client) (subst (λ i. slice_get s.clients i ≡ Some asks.asked.part) its.client_so asks.asked.is_part) is_client in
    let one_ask : asks.asked.ask ≡ ask = both_some (slice_get part.asks index) (subst (λ (p : ClientPart). slice_get p.asks index ≡ Some asks.asked.ask) one_part (subst (λ i. slice_get asks.asked.part.asks i ≡ Some asks.asked.ask) its.place_so asks.asked.is_ask)) is_ask in
    let port : request_port asks.takes.facts.op ≡ request_port ask.op = sym asks.takes.port ∙ asks.asked.port ∙ ap (λ (a : AskPart). request_port a.op) one_ask in
    let one_op : asks.takes.facts.op ≡ ask.op = omega (arith, port) in
    let one_op_part : asks.takes.facts.part ≡ op = both_some (slice_get s.ops ask.op) (subst (λ i. slice_get s.ops i ≡ Some asks.takes.facts.part) one_op asks.takes.facts.at) is_op in
    played ∙ ap (λ i. reply s i asks.takes.facts.part asks.client asks.asked.ask.value) one_op ∙ ap (λ (p : OpPart). reply s ask.op p asks.client asks.asked.ask.value) one_op_part ∙ ap (λ i. reply s ask.op op i asks.asked.ask.value) its.client_so ∙ ap (λ (a : AskPart). reply s ask.op op client a.value) one_ask
  where
    both_some : {X : Type 0} (o : Option X) {x y : X} → o ≡ Some x → o ≡ Some y → x ≡ y
    both_some o a b = cc

-- ---- the responses are what the task posted

-- what the task of a request posts goes to a port of responses
reply_port : (s : ServiceParts) (op : ℕ) (part : OpPart) (client value : ℕ) (x : Sent) → (reply s op part client value).posts ≡ x ∷ [] → is_response_port s client op x.port ≡ true
reply_port s op part client value x is = by_test (is_past part.below value) is
  where
    by_test : (b : Bool) → (reply_by b s op part client value).posts ≡ x ∷ [] → is_response_port s client op x.port ≡ true
    by_test false e = let same : success op part client value ≡ x = cc in subst (λ (y : Sent). is_response_port s client op y.port ≡ true) same (or_left (response_port op == response_port op) _ (eq-self (response_port op)))
    by_test true e = let same : fault s client value ≡ x = cc in subst (λ (y : Sent). is_response_port s client op y.port ≡ true) same (or_right (fault_port s client == response_port op) _ (eq-self (fault_port s client)))

pub responses_are : (s : ServiceParts) (h : List Event) → IsLegal (expansion s) h → (op client value : ℕ) (part : OpPart) (t : TaskId) → play_of (expansion s) h t ≡ reply s op part client value → responses_of s h client op t ≡ posted_by h t
responses_are s h legal op client value part t plays_so = same_filter (λ (m : Msg). is_message_of t m.id && is_response_port s client op m.port) (λ (m : Msg). is_message_of t m.id) (posts h) (λ m among. by_test m among (is_message_of t m.id) refl)
  where
    by_test : (m : Msg) → Among m (posts h) → (b : Bool) → is_message_of t m.id ≡ b → b && is_response_port s client op m.port ≡ b
    by_test m among false e = refl
    by_test m among true e =
        let name = its_name t m.id e in
        let reply_so = all_replies s h legal m among t name.0 name.1 in
        let all : (reply s op part client value).posts ≡ reply_so.sent ∷ [] = sym (ap (λ (p : Play). p.posts) plays_so) ∙ reply_so.plays in
        ap (is_response_port s client op) reply_so.post.port ∙ reply_port s op part client value reply_so.sent all

-- ---- how the task ended

-- what the end of a task that wasn't shed says
pub record EndsWhole (s : ServiceParts) (h : List Event) (t : TaskId) (how : EndHow) : Type 0 where
  pub replied : HasReplied s h t
  pub ends_as : ends_so how (play_of (expansion s) h t).end ≡ true

unshed_how : (h past : List Event) (t : TaskId) (how : EndHow) → has_shed h ≡ false → Occurs h past (End t how) → is_shed how ≡ false
unshed_how h past t ends.Done none stands = refl
unshed_how h past t (ends.Failed v) none stands = refl
unshed_how h past t ends.Yield none stands = refl
unshed_how h past t ends.Shed none stands = absurd (no_both (subst (λ g. has_shed g ≡ true) (sym stands.whole) (behind past)) none)
  where
    behind : (es : List Event) → has_shed (es ++ End t ends.Shed ∷ stands.more) ≡ true
    behind [] = refl
    behind (e ∷ es) = or_right (is_shed_end e) _ (behind es)

posts_more : (h es : List Event) (t : TaskId) → posts_of_task h t ≤ posts_of_task (h ++ es) t
posts_more h es t = rw (posts-append h es) (more_kept (λ (m : Msg). is_message_of t m.id) (posts h) (posts es))

pub ends_whole : (s : ServiceParts) (h : List Event) → IsLegal (expansion s) h → has_shed h ≡ false → (t : TaskId) (how : EndHow) → HasEnded h t how → EndsWhole s h t how
ends_whole s h legal unshed t how has =
    let w = expansion s in
    let past = has.past in
    let before = legal_past w h past (End t how) legal has.stands in
    let allowed = allowed_at w h past (End t how) legal has.stands in
    let a = refused_not (has_task (running past) t) _ _ allowed in
    let b = (refused_not (may_end w past t how) _ None a.1).0 in
    let plain : is_shed how ≡ false = unshed_how h past t how unshed has.stands in
    let c : not (has_post_left w past t) && ends_so how (play_of w past t).end ≡ true = subst (λ x. (if x then may_shed w past t else not (has_post_left w past t) && ends_so how (play_of w past t).end) ≡ true) plain (own_end w refl past t how b) in
    let parts = both (not (has_post_left w past t)) (ends_so how (play_of w past t).end) c in
    let fired = running_fired w past before t a.0 in
    let one = one_play s past before t fired in
    let left : nat_lt (posts_of_task past t) (length (one.0 ∷ [])) ≡ false = subst (λ (xs : List Sent). nat_lt (posts_of_task past t) (length xs) ≡ false) one.1 (not_true (has_post_left w past t) parts.0) in
    let some : 1 ≤ posts_of_task past t = grind (arith, nat_tests, left) in
    let more = posts_more past (End t how ∷ has.stands.more) t in
    let least : 1 ≤ posts_of_task h t = subst (λ g. 1 ≤ posts_of_task g t) (sym has.stands.whole) (omega (arith, some, more)) in
    let play_same : play_of w h t ≡ play_of w past t = ap (λ g. play_of w g t) has.stands.whole ∙ play_of-append w past (End t how ∷ has.stands.more) t fired.0 fired.1 in
    record { replied = of_side least (nothing_or_reply s h legal t); ends_as = subst (λ (p : Play). ends_so how p.end ≡ true) (sym play_same) parts.1 }
  where
    of_side : 1 ≤ posts_of_task h t → (posted_by h t ≡ []) ⊎ HasReplied s h t → HasReplied s h t
    of_side least (inl none) = let zero_posts : posts_of_task h t ≡ 0 = ap length none in absurd (omega (arith, least, zero_posts))
    of_side least (inr replied) = replied

-- ---- the one answer

-- what is known of a request when all is still
pub record Request (s : ServiceParts) (h : List Event) (client index : ℕ) (ask : AskPart) (op : OpPart) : Type 0 where
  pub part : ClientPart
  pub is_client : slice_get s.clients client ≡ Some part
  pub is_ask : slice_get part.asks index ≡ Some ask
  pub is_op : slice_get s.ops ask.op ≡ Some op
  pub served : IsService s
  pub valid : IsValid (expansion s)
  pub legal : IsLegal (expansion s) h
  pub still_so : IsStill (expansion s) h
  pub end : AtEnd (expansion s) h
  pub unshed : has_shed h ≡ false
  pub posted : Among (asked client index ask) (posts h)
  pub fate_so : HasOneFate (expansion s) h (Script client index)

-- the taker that is told
taker_some : (w : Parts) (h : List Event) (t : TaskId) (state : TaskState) (o : Option TaskId) → option_map_or (λ task. Taken task (state_of w h task)) o Held ≡ Taken t state → o ≡ Some t
taker_some w h t state None is = absurd (cc)
taker_some w h t state (Some u) is = let same : u ≡ t = cc in ap Some same

taker_none : (w : Parts) (h : List Event) (o : Option TaskId) → option_map_or (λ task. Taken task (state_of w h task)) o Held ≡ Held → o ≡ None
taker_none w h None is = refl
taker_none w h (Some u) is = absurd (cc)

told_fate : (w : Parts) (h : List Event) (name : MsgId) (its : Fate) → fate w h name ≡ Some its → fate_of w h name ≡ its
told_fate w h name its is = by_named (message_named h name) is
  where
    by_named : (o : Option Msg) → option_map (λ (m : Msg). fate_of w h name) o ≡ Some its → fate_of w h name ≡ its
    by_named None e = absurd (cc)
    by_named (Some m) e = cc

-- a taken request's taker
taken_taker : (s : ServiceParts) (h : List Event) (client index : ℕ) → IsLegal (expansion s) h → HasOneFate (expansion s) h (Script client index) → (t : TaskId) → IsTakenBy h (Script client index) t → taker h (Script client index) ≡ Some t
taken_taker s h client index legal one t is =
    let w = expansion s in
    let found = taken_firing h (Script client index) t is in
    let named : firing_named h t ≡ Some found.0 = subst (λ u. firing_named h u ≡ Some found.0) found.2 (OneName-legal w h legal found.0 found.1) in
    let placed = firing_with_placement w h legal found.0 found.1 in
    let stands = is_in w h t found.0 placed.0 named placed.1 in
    let same : Taken t (state_of w h t) ≡ one.its = one.alone (Taken t (state_of w h t)) (is, stands) in
    taker_some w h t (state_of w h t) (taker h (Script client index)) (told_fate w h (Script client index) one.its one.told ∙ sym same)

held_taker : (s : ServiceParts) (h : List Event) (client index : ℕ) → HasOneFate (expansion s) h (Script client index) → IsHeld h (Script client index) → taker h (Script client index) ≡ None
held_taker s h client index one is =
    let same : Held ≡ one.its = one.alone Held is in
    taker_none (expansion s) h (taker h (Script client index)) (told_fate (expansion s) h (Script client index) one.its one.told ∙ sym same)

-- the responses where the taker is known
responses_taken : (s : ServiceParts) (h : List Event) (client index : ℕ) (ask : AskPart) (op : OpPart) → Request s h client index ask op → (t : TaskId) → IsTakenBy h (Script client index) t → responses s h client index ask.op ≡ posted_by h t
responses_taken s h client index ask op its t is =
    let played = its_play s h its.legal client index its.part ask op its.is_client its.is_ask its.is_op t (takes_it s h its.legal client index t is) in
    ap (λ o. option_map_or (responses_of s h client ask.op) o []) (taken_taker s h client index its.legal its.fate_so t is) ∙ responses_are s h its.legal ask.op client ask.value op t played

-- how a task ends by its play
ended_so : (s : ServiceParts) (h : List Event) (client index : ℕ) (ask : AskPart) (op : OpPart) → Request s h client index ask op → (t : TaskId) → IsTakenBy h (Script client index) t → (how : EndHow) → HasEnded h t how → (a : Answer) × IsAnswer s h client index ask op a
ended_so s h client index ask op its t is how has = by_test (is_past op.below ask.value) refl
  where
    w : Parts
    w = expansion s

    played : play_of w h t ≡ reply s ask.op op client ask.value
    played = its_play s h its.legal client index its.part ask op its.is_client its.is_ask its.is_op t (takes_it s h its.legal client index t is)

    whole_so : EndsWhole s h t how
    whole_so = ends_whole s h its.legal its.unshed t how has

    replied : HasReplied s h t
    replied = whole_so.replied

    alone : responses s h client index ask.op ≡ replied.message ∷ []
    alone = responses_taken s h client index ask op its t is ∙ replied.all

    message_is : (x : Sent) → (play_of w h t).posts ≡ x ∷ [] → replied.message ≡ message_of (Task t 0) x
    message_is x all =
        let same : replied.reply.sent ≡ x = first (sym replied.reply.plays ∙ all) in
        let post = replied.reply.post in
        let named : replied.message ≡ message_of (Task t 0) replied.reply.sent = made replied.message (Task t 0) replied.reply.sent replied.name post.port post.value post.causes in
        named ∙ ap (message_of (Task t 0)) same
      where
        first : {a b : Sent} → a ∷ [] ≡ b ∷ [] → a ≡ b
        first e = cc

        made : (m : Msg) (n : MsgId) (x : Sent) → m.id ≡ n → m.port ≡ x.port → m.value ≡ x.value → m.causes ≡ x.causes → m ≡ message_of n x
        made m n x a b c d = rw (sym a, sym b, sym c, sym d) refl

    by_test : (b : Bool) → is_past op.below ask.value ≡ b → (a : Answer) × IsAnswer s h client index ask op a
    by_test false e =
        let plays_so : play_of w h t ≡ reply_by false s ask.op op client ask.value = played ∙ ap (λ b. reply_by b s ask.op op client ask.value) e in
        let how_so : how ≡ ends.Done = done how (subst (λ (p : Play). ends_so how p.end ≡ true) plays_so whole_so.ends_as) in
        (told.Success replied.message, (record { task = t; taken = is; ended = subst (HasEnded h t) how_so has; alone = alone; is = message_is (success ask.op op client ask.value) (ap (λ (p : Play). p.posts) plays_so) }, e))
      where
        done : (x : EndHow) → ends_so x plays.Done ≡ true → x ≡ ends.Done
        done ends.Done e = refl
        done (ends.Failed v) e = absurd (cc)
        done ends.Yield e = absurd (cc)
        done ends.Shed e = absurd (cc)
    by_test true e =
        let plays_so : play_of w h t ≡ reply_by true s ask.op op client ask.value = played ∙ ap (λ b. reply_by b s ask.op op client ask.value) e in
        let how_so : how ≡ ends.Failed (ask.value ∷ []) = failed how (subst (λ (p : Play). ends_so how p.end ≡ true) plays_so whole_so.ends_as) in
        (told.Fault replied.message, (record { task = t; taken = is; ended = subst (HasEnded h t) how_so has; alone = alone; is = message_is (fault s client ask.value) (ap (λ (p : Play). p.posts) plays_so) }, e))
      where
        failed : (x : EndHow) → ends_so x (plays.Failed (ask.value ∷ [])) ≡ true → x ≡ ends.Failed (ask.value ∷ [])
        failed ends.Done e = absurd (cc)
        failed (ends.Failed v) e = ap ends.Failed (same_values v (ask.value ∷ []) e)
        failed ends.Yield e = absurd (cc)
        failed ends.Shed e = absurd (cc)

-- a task that never started leaves no response
none_so : (s : ServiceParts) (h : List Event) (client index : ℕ) (ask : AskPart) (op : OpPart) → Request s h client index ask op → (t : TaskId) → IsTakenBy h (Script client index) t → has_task (started h) t ≡ false → responses s h client index ask.op ≡ []
none_so s h client index ask op its t is out = responses_taken s h client index ask op its t is ∙ unstarted_nothing s h its.legal t out

by_state : (s : ServiceParts) (h : List Event) (client index : ℕ) (ask : AskPart) (op : OpPart) → Request s h client index ask op → (t : TaskId) → IsTakenBy h (Script client index) t → (state : TaskState) → IsIn (expansion s) h t state → (a : Answer) × IsAnswer s h client index ask op a
by_state s h client index ask op its t is states.Waiting at = let none = its.still_so.waits at.interleave in let out : has_task (waiting (expansion s) h at.interleave) t ≡ false = rw none refl in absurd (no_both at.among out)
by_state s h client index ask op its t is states.Cut at = (told.Cut, (record { task = t; taken = is; among = at; none = none_so s h client index ask op its t is (cut_not_started (expansion s) h its.legal t at) }, cut_torn s h its.legal t at))
by_state s h client index ask op its t is states.Ready at = absurd (no_both at (its.still_so.ready t))
by_state s h client index ask op its t is states.Queued at = absurd (no_both at.among (its.still_so.in_queues at.queue t))
by_state s h client index ask op its t is states.Dropped at = (told.Dropped, (record { task = t; taken = is; among = at; none = none_so s h client index ask op its t is (dropped_unstarted (expansion s) h its.legal t at) }, dropped_discards s h its.legal t at))
by_state s h client index ask op its t is states.Running at = let none = its.still_so.runs in let out : has_task (running h) t ≡ false = rw none refl in absurd (no_both at out)
by_state s h client index ask op its t is (states.Ended how) at = ended_so s h client index ask op its t is how at

-- a held request
by_held : (s : ServiceParts) (h : List Event) (client index : ℕ) (ask : AskPart) (op : OpPart) → Request s h client index ask op → IsHeld h (Script client index) → (a : Answer) × IsAnswer s h client index ask op a
by_held s h client index ask op its is =
    let none = held_taker s h client index its.fate_so is in
    let among = contained (held h is.message.port) is.message is.among in
    let posted_so = (Among-filter (λ (m : Msg). m.port == is.message.port) (posts h) is.message (Among-filter _ _ is.message among).0).0 in
    let named : message_named h (Script client index) ≡ Some is.message = subst (λ n. message_named h n ≡ Some is.message) is.named (named_so (expansion s) h its.legal is.message posted_so) in
    let same : asked client index ask ≡ is.message = both_some (message_named h (Script client index)) (named_so (expansion s) h its.legal (asked client index ask) its.posted) named in
    let here : Among (asked client index ask) (held h (request_port ask.op)) = subst (λ (m : Msg). Among m (held h m.port)) (sym same) among in
    (told.Held, (is, ap (λ o. option_map_or (responses_of s h client ask.op) o []) none, held_torn s its.served (sound (expansion s) its.valid).groups h its.legal its.still_so its.end ask.op op its.is_op ask.value (asked client index ask) refl here))
  where
    both_some : {X : Type 0} (o : Option X) {x y : X} → o ≡ Some x → o ≡ Some y → x ≡ y
    both_some o a b = cc

    contained : (ms : List Msg) (m : Msg) → Contains ms m → Among m ms
    contained ms m has = Among-at ms has.0 m (slice_get-get_or ms has.0 m has.1 ∙ ap Some has.2)

-- ---- no other answer

-- a response is told
responded : (s : ServiceParts) (h : List Event) (client index : ℕ) (ask : AskPart) (op : OpPart) → Request s h client index ask op → (sent : Sent) (how : EndHow) (m : Msg) → HasResponse s h client index ask.op sent how m → answer_of s h client index ask.op ≡ (if m.port == fault_port s client then told.Fault m else told.Success m)
responded s h client index ask op its sent how m has =
    let w = expansion s in
    let t = has.task in
    let took = taken_taker s h client index its.legal its.fate_so t has.taken in
    let ran = (AreEnded-legal w h its.legal).started_ended t (has_ended h t how has.ended) in
    let uncut : has_task (cut h) t ≡ false = refuted (has_task (cut h) t) (λ is. no_both ran (cut_not_started w h its.legal t is)) in
    let undropped : has_task (dropped h) t ≡ false = refuted (has_task (dropped h) t) (λ is. no_both ran (dropped_unstarted w h its.legal t is)) in
    let found : responses_of s h client ask.op t ≡ m ∷ [] = sym (ap (λ o. option_map_or (responses_of s h client ask.op) o []) took) ∙ has.alone in
    let stands : answer_by s client (has_task (cut h) t) (has_task (dropped h) t) (responses_of s h client ask.op t) ≡ (if m.port == fault_port s client then told.Fault m else told.Success m) = rw (uncut, undropped, found) refl in
    by_taker took ∙ stands
  where
    by_taker : {t : TaskId} → taker h (Script client index) ≡ Some t → answer_of s h client index ask.op ≡ answer_by s client (has_task (cut h) t) (has_task (dropped h) t) (responses_of s h client ask.op t)
    by_taker took = ap (λ o. option_map_or (λ task. answer_by s client (has_task (cut h) task) (has_task (dropped h) task) (responses_of s h client ask.op task)) o told.Held) took

apart_ports : (s : ServiceParts) (k client : ℕ) (op : OpPart) → slice_get s.ops k ≡ Some op → (response_port k == fault_port s client) ≡ false
apart_ports s k client op at = refuted (response_port k == fault_port s client) (λ is. let same = same_number (response_port k) (fault_port s client) is in let below = some-below s.ops k op at in omega (arith, same, below))

-- what is told of a request is what is true of it
told_so : (s : ServiceParts) (h : List Event) (client index : ℕ) (ask : AskPart) (op : OpPart) → Request s h client index ask op → (a : Answer) → IsAnswer s h client index ask op a → answer_of s h client index ask.op ≡ a
told_so s h client index ask op its (told.Success m) has =
    let port : (m.port == fault_port s client) ≡ false = ap (λ (x : Msg). x.port == fault_port s client) has.0.is ∙ apart_ports s ask.op client op its.is_op in
    responded s h client index ask op its (success ask.op op client ask.value) ends.Done m has.0 ∙ rw port refl
told_so s h client index ask op its (told.Fault m) has =
    let port : (m.port == fault_port s client) ≡ true = ap (λ (x : Msg). x.port == fault_port s client) has.0.is ∙ eq-self (fault_port s client) in
    responded s h client index ask op its (fault s client ask.value) (ends.Failed (ask.value ∷ [])) m has.0 ∙ rw port refl
told_so s h client index ask op its told.Held has = ap (λ o. option_map_or (λ task. answer_by s client (has_task (cut h) task) (has_task (dropped h) task) (responses_of s h client ask.op task)) o told.Held) (held_taker s h client index its.fate_so has.0)
told_so s h client index ask op its told.Cut has =
    ap (λ o. option_map_or (λ task. answer_by s client (has_task (cut h) task) (has_task (dropped h) task) (responses_of s h client ask.op task)) o told.Held) (taken_taker s h client index its.legal its.fate_so has.0.task has.0.taken) ∙ rw has.0.among refl
told_so s h client index ask op its told.Dropped has =
    let uncut : has_task (cut h) has.0.task ≡ false = refuted (has_task (cut h) has.0.task) (λ is. no_both (put_dropped has.0.task has.0.among) (cut_not_put (expansion s) h its.legal has.0.task is)) in
    ap (λ o. option_map_or (λ task. answer_by s client (has_task (cut h) task) (has_task (dropped h) task) (responses_of s h client ask.op task)) o told.Held) (taken_taker s h client index its.legal its.fate_so has.0.task has.0.taken) ∙ rw (uncut, has.0.among) refl
  where
    put_dropped : (t : TaskId) → has_task (dropped h) t ≡ true → has_task (put h) t ≡ true
    put_dropped t is = (ArePlaced-legal (expansion s) h its.legal).lists.put_dropped t is

-- ---- the law

one_answer : (s : ServiceParts) (h : List Event) (client index : ℕ) (ask : AskPart) (op : OpPart) → (its : Request s h client index ask op) → is_complete (expansion s) h ≡ true → HasOneAnswer s h client index ask op
one_answer s h client index ask op its complete =
    let found = by_fate its.fate_so.its its.fate_so.has in
    let tells = told_so s h client index ask op its found.0 found.1 in
    record {
      posted = ask_named s h its.legal complete client index its.part ask its.is_client its.is_ask;
      its = found.0;
      has = found.1;
      alone = λ other is. sym (told_so s h client index ask op its other is) ∙ tells;
      told = tells;
    }
  where
    by_fate : (f : Fate) → HasFate (expansion s) h (Script client index) f → (a : Answer) × IsAnswer s h client index ask op a
    by_fate Held is = by_held s h client index ask op its is
    by_fate (Taken t state) is = by_state s h client index ask op its t is.0 state is.1

-- what is known of each request
pub request_of : (s : ServiceParts) → IsService s → (h : List Event) → IsLegal (expansion s) h → is_complete (expansion s) h ≡ true → IsQuiet (expansion s) h → (client index : ℕ) (part : ClientPart) (ask : AskPart) (op : OpPart) → slice_get s.clients client ≡ Some part → slice_get part.asks index ≡ Some ask → slice_get s.ops ask.op ≡ Some op → Request s h client index ask op
request_of s served h legal complete quiet client index part ask op is_client is_ask is_op =
    let sound_so = sound (expansion s) (valid s served) in
    let small = sound_so.small.posters in
    let few : length (expansion s).posters ≤ 32 = omega (arith, small) in
    let posted = ask_posted s h legal complete client index part ask is_client is_ask in
    let stands = posted_stands h (asked client index ask) posted in
    record {
      part = part;
      is_client = is_client;
      is_ask = is_ask;
      is_op = is_op;
      served = served;
      valid = valid s served;
      legal = legal;
      still_so = still (expansion s) (one_queue s) (awaits_none s) few h legal quiet;
      end = AtEnd-quiet (expansion s) few h legal quiet;
      unshed = none_shed s sound_so.apart served.few_asks h legal complete;
      posted = posted;
      fate_so = one_fate (expansion s) (valid s served) h legal stands.past (asked client index ask) stands.stands;
    }

pub served_whole : (s : ServiceParts) → IsService s → (h : List Event) → IsLegal (expansion s) h → is_complete (expansion s) h ≡ true → IsQuiet (expansion s) h → IsServedWhole s h
served_whole s served h legal complete quiet =
    let sound_so = sound (expansion s) (valid s served) in
    let small = sound_so.small.posters in
    let few : length (expansion s).posters ≤ 32 = omega (arith, small) in
    record {
      unshed = none_shed s sound_so.apart served.few_asks h legal complete;
      still = still (expansion s) (one_queue s) (awaits_none s) few h legal quiet;
      answered = λ client index part ask op its. one_answer s h client index ask op (request_of s served h legal complete quiet client index part ask op its.0 its.1 its.2) complete;
    }

-- ---- by the first post alone

-- the first post of a list
first_of : (t : TaskId) (ms : List Msg) → find (λ (m : Msg). is_message_of t m.id) ms ≡ slice_get (filter (λ (m : Msg). is_message_of t m.id) ms) 0
first_of t [] = refl
first_of t (m ∷ ms) = by_test (is_message_of t m.id) (first_of t ms)
  where
    by_test : (b : Bool) → find (λ (x : Msg). is_message_of t x.id) ms ≡ slice_get (filter (λ (x : Msg). is_message_of t x.id) ms) 0 → (if b then Some m else find (λ (x : Msg). is_message_of t x.id) ms) ≡ slice_get (if b then m ∷ filter (λ (x : Msg). is_message_of t x.id) ms else filter (λ (x : Msg). is_message_of t x.id) ms) 0
    by_test true rest = refl
    by_test false rest = rest

-- what the taker posted are the responses
taker_responses : (s : ServiceParts) (h : List Event) (client index : ℕ) (ask : AskPart) (op : OpPart) → Request s h client index ask op → (t : TaskId) → taker h (Script client index) ≡ Some t → responses_of s h client ask.op t ≡ posted_by h t
taker_responses s h client index ask op its t is = by_fate its.fate_so.its its.fate_so.has
  where
    by_fate : (f : Fate) → HasFate (expansion s) h (Script client index) f → responses_of s h client ask.op t ≡ posted_by h t
    by_fate Held held_so = let none = held_taker s h client index its.fate_so held_so in absurd (cc (none, is))
    by_fate (Taken u state) taken_so =
        let taker_so = taken_taker s h client index its.legal its.fate_so u taken_so.0 in
        let same : u ≡ t = cc in
        let took : IsTakenBy h (Script client index) t = subst (IsTakenBy h (Script client index)) same taken_so.0 in
        responses_are s h its.legal ask.op client ask.value op t (its_play s h its.legal client index its.part ask op its.is_client its.is_ask its.is_op t (takes_it s h its.legal client index t took))

-- what is told by the taker's first post
abbrev pub told_quickly : ServiceParts → List Event → ℕ → ℕ → Answer
told_quickly s h client index = option_map_or (λ task. told_by (fault_port s client) (has_task (cut h) task) (has_task (dropped h) task) (first_post h task)) (taker h (Script client index)) told.Held

pub told_quickly_so : (s : ServiceParts) (h : List Event) (client index : ℕ) (ask : AskPart) (op : OpPart) → Request s h client index ask op → told_quickly s h client index ≡ answer_of s h client index ask.op
told_quickly_so s h client index ask op its = by_taker (taker h (Script client index)) refl
  where
    by_posts : (t : TaskId) (a b : Bool) (ms : List Msg) → told_by (fault_port s client) a b (slice_get ms 0) ≡ answer_by s client a b ms
    by_posts t true b ms = refl
    by_posts t false true ms = refl
    by_posts t false false [] = refl
    by_posts t false false (m ∷ ms) = refl

    by_taker : (o : Option TaskId) → taker h (Script client index) ≡ o → option_map_or (λ task. told_by (fault_port s client) (has_task (cut h) task) (has_task (dropped h) task) (first_post h task)) o told.Held ≡ option_map_or (λ task. answer_by s client (has_task (cut h) task) (has_task (dropped h) task) (responses_of s h client ask.op task)) o told.Held
    by_taker None is = refl
    by_taker (Some t) is =
        let posted = taker_responses s h client index ask op its t is in
        ap (told_by (fault_port s client) (has_task (cut h) t) (has_task (dropped h) t)) (first_of t (posts h) ∙ ap (λ (ms : List Msg). slice_get ms 0) (sym posted)) ∙ by_posts t (has_task (cut h) t) (has_task (dropped h) t) (responses_of s h client ask.op t)
