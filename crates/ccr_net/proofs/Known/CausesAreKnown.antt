-- Along a legal history each message names a port and causes of the wiring, and so does each play; no cause stands twice.
use Rattle.std.proofs.Common.{◌⊎◌, inl, inr, ◌&&◌, ◌||◌, ◌≡◌, ◌<◌, ℕ, zero, suc, Bool, true, false, not, List, [], ◌∷◌, length, flat_map, Option, Some, None, refl, sym, subst}
use Rattle.std.specs.Prelude.{◌==◌, All, option_and_then, if◌then◌else◌, nat_lt, option_map, option_to_list, slice_get}
use Rattle.std.specs.List.{list_all, list_any}
use Rattle.std.specs.Option.{option_map_or}
use Rattle.std.proofs.lemmas.Bool.{lt-ltb, ltb-true}
use Rattle.std.proofs.lemmas.List.Elements.{All-cons, All-nil}
use Rattle.ccr_base.specs.declared.handlers.Action.{Action}
use Rattle.ccr_base.specs.declared.handlers.Action.TheVariants as actions
use Rattle.ccr_base.specs.declared.messages.Msg.{Msg}
use Rattle.ccr_base.specs.declared.messages.Sent.{Sent}
use Rattle.ccr_base.specs.declared.names.MsgId.{MsgId}
use Rattle.ccr_base.specs.declared.names.MsgId.TheVariants as names
use Rattle.ccr_base.specs.declared.names.Spot.{Spot}
use Rattle.ccr_base.specs.declared.names.Spot.TheVariants.{Site}
use Rattle.ccr_base.specs.declared.names.TaskId.{TaskId}
use Rattle.ccr_cause.specs.Causes.{union, with_cause, without_cause}
use Rattle.ccr_handler.specs.declared.segments.Play.{Play}
use Rattle.ccr_handler.specs.Evaluating.{value_of}
use Rattle.ccr_handler.specs.Playing.{actions_from, after_await, exceptions, is_await, play}
use Rattle.ccr_wiring.specs.declared.parts.Parts.{Parts}
use Rattle.ccr_wiring.specs.declared.parts.PosterPart.{PosterPart}
use Rattle.ccr_wiring.specs.Valid.{IsActionNamed, IsSound}
use Rattle.ccr_wiring.specs.Wirings.{Placement, actions_of, branch_of, exception_port, placement, segment_of, actions_at}
use Rattle.ccr_model.specs.declared.history.Event.{Event}
use Rattle.ccr_model.specs.Firings.{spot_of}
use Rattle.ccr_model.specs.Legal.{IsLegal}
use Rattle.ccr_model.specs.Posts.{posts}
use Rattle.ccr_model.specs.Sites.{resumed}
use Rattle.ccr_model.specs.TaskData.{Load, load_after, load_at, load_of, messages_of, no_load, no_play, placement_of, play_at, play_of, with_messages}
use Rattle.ccr_model.proofs.Members.{Among, Among-kept, index_of, all_from, all_pass, spread_some}
use Rattle.ccr_base.specs.Lists.{are_apart, has_number}
use Rattle.ccr_base.specs.Names.{same_lists}
use Rattle.ccr_base.proofs.Booleans.{both, same_number}
use Rattle.ccr_base.proofs.Options.{some_of, some_then}
use Rattle.ccr_base.proofs.SameNames.{same_numbers-is}
use Rattle.ccr_wiring.specs.Openness.{open_handler}
use Rattle.ccr_model.specs.Rules.{is_value, is_exception}
use Rattle.ccr_base.proofs.Apart.{apart_kept}
use Rattle.ccr_model.proofs.PostNames.{IsPost}
use Rattle.ccr_model.proofs.PostedMessages.{IsOutside, each_posted, either_of, post_either}
use Rattle.ccr_model.proofs.TakenWerePosted.{took_among}
use Rattle.ccr_claim.specs.Wired.{AreCausesOf}
use Rattle.ccr_claim.proofs.CausesStandOnce.{with_apart, with_all, union_apart, union_all}

-- ---- lists of causes

-- each is below the number, and none stands twice
pub record AreFine (n : ℕ) (causes : List ℕ) : Type 0 where
  pub below : (c : ℕ) → Among c causes → c < n
  pub apart : are_apart causes ≡ true

pub all_of : {X : Type 0} (P : X → Type 0) (xs : List X) → ((x : X) → Among x xs → P x) → All P xs
all_of P [] each = All-nil P
all_of P (x ∷ xs) each = All-cons P x xs (each x (inl refl)) (all_of P xs (λ y is. each y (inr is)))

pub fine_causes : (w : Parts) (causes : List ℕ) → AreFine (length w.causes) causes → AreCausesOf w causes
fine_causes w causes fine = (all_of (λ c. c < length w.causes) causes fine.below, fine.apart)

none_fine : (n : ℕ) → AreFine n []
none_fine n = record { below = λ c is. absurd is; apart = refl }

-- what holds of each, as a test that all pass, and back
below_all : (n : ℕ) (xs : List ℕ) → ((c : ℕ) → Among c xs → c < n) → list_all (λ d. nat_lt d n) xs ≡ true
below_all n xs low = all_from (λ d. nat_lt d n) xs (λ c is. lt-ltb c n (low c is))

all_below : (n : ℕ) (xs : List ℕ) → list_all (λ d. nat_lt d n) xs ≡ true → (c : ℕ) → Among c xs → c < n
all_below n xs all c is = ltb-true c n (all_pass (λ d. nat_lt d n) xs c all is)

with_fine : (n : ℕ) (causes : List ℕ) (c : ℕ) → AreFine n causes → c < n → AreFine n (with_cause causes c)
with_fine n causes c fine low = record { below = all_below n (with_cause causes c) (with_all (λ d. nat_lt d n) causes c (below_all n causes fine.below) (lt-ltb c n low)); apart = with_apart causes c fine.apart }

without_fine : (n : ℕ) (causes : List ℕ) (c : ℕ) → AreFine n causes → AreFine n (without_cause causes c)
without_fine n causes c fine = record { below = λ d is. fine.below d (Among-kept (λ other. not (other == c)) causes d is); apart = apart_kept (λ other. not (other == c)) causes fine.apart }

pub union_fine : (n : ℕ) (causes more : List ℕ) → AreFine n causes → ((c : ℕ) → Among c more → c < n) → AreFine n (union causes more)
union_fine n causes more fine low = record { below = all_below n (union causes more) (union_all (λ d. nat_lt d n) causes more (below_all n causes fine.below) (below_all n more low)); apart = union_apart causes more fine.apart }

-- ---- plays

module _ (w : Parts) (all : IsSound w) where
  -- the port and the causes are the wiring's
  pub record IsSentFine (sent : Sent) : Type 0 where
    pub port : sent.port < length w.ports
    pub causes : AreFine (length w.causes) sent.causes

  pub record IsPlayFine (p : Play) : Type 0 where
    pub posts : (sent : Sent) → Among sent p.posts → IsSentFine sent
    pub causes : AreFine (length w.causes) p.causes

  exceptions_fine : (value : List ℕ) (causes : List ℕ) (sent : Sent) → Among sent (exceptions (exception_port w) value causes) → IsSentFine sent
  exceptions_fine value causes sent is = let it = spread_some _ causes sent is in one it.0 (exception_port w it.0) refl it.2
    where
      one : (c : ℕ) (o : Option ℕ) → exception_port w c ≡ o → Among sent (option_to_list (option_map (λ port. record { port = port; value = value; causes = [] }) o)) → IsSentFine sent
      one c None at none = absurd none
      one c (Some port) at (inl e) = subst IsSentFine (sym e) (record { port = all.exception_ports c port at; causes = none_fine (length w.causes) })
      one c (Some port) at (inr none) = absurd none

  pub play_fine : (values : List (List ℕ)) (site : ℕ) (causes : List ℕ) (acts : List Action) → ((a : Action) → Among a acts → IsActionNamed w a) → AreFine (length w.causes) causes → IsPlayFine (play (exception_port w) values site causes acts)
  play_fine values site causes [] named fine = record { posts = λ sent is. absurd is; causes = fine }
  play_fine values site causes (actions.Post port expr ∷ acts) named fine =
      let rest = play_fine values site causes acts (λ a is. named a (inr is)) fine in
      let first : IsSentFine (record { port = port; value = value_of expr values; causes = causes }) = record { port = named (actions.Post port expr) (inl refl); causes = fine } in
      record { posts = λ sent is. of sent rest first is; causes = rest.causes }
    where
      of : (sent : Sent) → IsPlayFine (play (exception_port w) values site causes acts) → IsSentFine (record { port = port; value = value_of expr values; causes = causes }) → Among sent (record { port = port; value = value_of expr values; causes = causes } ∷ (play (exception_port w) values site causes acts).posts) → IsSentFine sent
      of sent rest first (inl e) = subst IsSentFine (sym e) first
      of sent rest first (inr is) = rest.posts sent is
  play_fine values site causes (actions.Fail expr ∷ acts) named fine = record { posts = exceptions_fine (value_of expr values) causes; causes = fine }
  play_fine values site causes (actions.Add cause ∷ acts) named fine = play_fine values site (with_cause causes cause) acts (λ a is. named a (inr is)) (with_fine (length w.causes) causes cause fine (named (actions.Add cause) (inl refl)))
  play_fine values site causes (actions.Remove cause ∷ acts) named fine = play_fine values site (without_cause causes cause) acts (λ a is. named a (inr is)) (without_fine (length w.causes) causes cause fine)
  play_fine values site causes (actions.Await port ∷ acts) named fine = record { posts = λ sent is. absurd is; causes = fine }

  after_among : (acts : List Action) (a : Action) → Among a (after_await acts) → Among a acts
  after_among [] a is = absurd is
  after_among (x ∷ acts) a is = by (is_await x) is (after_among acts a)
    where
      by : (b : Bool) → Among a (if b then acts else after_await acts) → (Among a (after_await acts) → Among a acts) → Among a (x ∷ acts)
      by true there rest = inr there
      by false there rest = inr (rest there)

  from_among : (k : ℕ) (acts : List Action) (a : Action) → Among a (actions_from k acts) → Among a acts
  from_among zero acts a is = is
  from_among (suc k) acts a is = from_among k acts a (after_among (actions_from k acts) a is)

  at_named : (b : ℕ) (a : Action) → Among a (actions_at w b) → IsActionNamed w a
  at_named b a is = of_placement (placement w b) is
    where
      of_placement : (o : Option Placement) → Among a (option_map_or (λ (s : Placement). actions_of w s.branch.handler) o []) → IsActionNamed w a
      of_placement None none = absurd none
      of_placement (Some s) there = let found = index_of (actions_of w s.branch.handler) a there in all.actions s.branch.handler found.0 a found.1

  pub play_at-fine : (b k : ℕ) (load : Load) → AreFine (length w.causes) load.causes → IsPlayFine (play_at w b k load)
  play_at-fine b k load fine = play_fine load.values k load.causes (actions_from k (actions_at w b)) (λ a is. at_named b a (from_among k (actions_at w b) a is)) fine

  -- ---- loads

  -- each posted message names what the wiring has
  abbrev pub ArePosted : List Event → Type 0
  ArePosted h = (m : Msg) → Among m (posts h) → (m.port < length w.ports) × AreFine (length w.causes) m.causes

  pub causes_below : (ms : List Msg) → ((m : Msg) → Among m ms → AreFine (length w.causes) m.causes) → (c : ℕ) → Among c (flat_map (λ (m : Msg). m.causes) ms) → c < length w.causes
  causes_below ms fine c is = let it = spread_some (λ (m : Msg). m.causes) ms c is in (fine it.0 it.1).below c it.2

  more_fine : (h : List Event) (load : Load) (t : TaskId) → ArePosted h → AreFine (length w.causes) load.causes → AreFine (length w.causes) (with_messages load (messages_of h t)).causes
  more_fine h load t known fine = union_fine (length w.causes) load.causes (flat_map (λ (m : Msg). m.causes) (messages_of h t)) fine (causes_below (messages_of h t) (λ m is. (known m (took_among h t m is)).1))

  pub load_fine : (h : List Event) → ArePosted h → (b k : ℕ) (t : TaskId) → AreFine (length w.causes) (load_at w h b k t).causes
  load_fine h known b zero t = more_fine h no_load t known (none_fine (length w.causes))
  load_fine h known b (suc k) t = more_fine h (option_map_or (λ (u : TaskId). load_after w b k (load_at w h b k u)) (resumed h (Site b k) t) no_load) t known (of_task (resumed h (Site b k) t) (λ u. load_fine h known b k u))
    where
      of_task : (o : Option TaskId) → ((u : TaskId) → AreFine (length w.causes) (load_at w h b k u).causes) → AreFine (length w.causes) (option_map_or (λ (u : TaskId). load_after w b k (load_at w h b k u)) o no_load).causes
      of_task None rest = none_fine (length w.causes)
      of_task (Some u) rest = (play_at-fine b k (load_at w h b k u) (rest u)).causes

  pub load_of-fine : (h : List Event) → ArePosted h → (t : TaskId) → AreFine (length w.causes) (load_of w h t).causes
  load_of-fine h known t = by (spot_of h t)
    where
      by : (o : Option Spot) → AreFine (length w.causes) (option_map_or (λ spot. load_at w h (branch_of spot) (segment_of spot) t) o no_load).causes
      by None = none_fine (length w.causes)
      by (Some spot) = load_fine h known (branch_of spot) (segment_of spot) t

  pub play_of-fine : (h : List Event) → ArePosted h → (t : TaskId) → IsPlayFine (play_of w h t)
  play_of-fine h known t = by (spot_of h t)
    where
      by : (o : Option Spot) → IsPlayFine (option_map_or (λ spot. play_at w (branch_of spot) (segment_of spot) (load_at w h (branch_of spot) (segment_of spot) t)) o no_play)
      by None = record { posts = λ sent is. absurd is; causes = none_fine (length w.causes) }
      by (Some spot) = play_at-fine (branch_of spot) (segment_of spot) (load_at w h (branch_of spot) (segment_of spot) t) (load_fine h known (branch_of spot) (segment_of spot) t)

  -- ---- posts

  sent_as : (m : Msg) (sent : Sent) → IsPost m sent → IsSentFine sent → (m.port < length w.ports) × AreFine (length w.causes) m.causes
  sent_as m sent post fine = (subst (λ p. p < length w.ports) (sym post.port) fine.port, subst (AreFine (length w.causes)) (sym post.causes) fine.causes)

  pub script_fine : (poster : ℕ) (part : PosterPart) (index : ℕ) (sent : Sent) → slice_get w.posters poster ≡ Some part → slice_get part.posts index ≡ Some sent → IsSentFine sent
  script_fine poster part index sent is line =
      let named = all.scripts poster index part sent is line in
      record { port = named.port; causes = record { below = λ c there. (let at = index_of sent.causes c there in named.causes at.0 c at.1); apart = named.apart } }

  -- what somebody outside posts
  abbrev IsFinePost : Msg → Type 0
  IsFinePost m = (m.port < length w.ports) × AreFine (length w.causes) m.causes

  named_port : (listed : List ℕ) (port : ℕ) → ((index p : ℕ) → slice_get listed index ≡ Some p → p < length w.ports) → has_number listed port ≡ true → port < length w.ports
  named_port [] port there is = absurd (cc)
  named_port (x ∷ listed) port there is = by (x == port) refl is (named_port listed port (λ index p at. there (suc index) p at))
    where
      by : (b : Bool) → (x == port) ≡ b → (b || has_number listed port) ≡ true → (has_number listed port ≡ true → port < length w.ports) → port < length w.ports
      by true same is rest = subst (λ p. p < length w.ports) (same_number x port same) (there 0 x refl)
      by false same is rest = rest is

  told_port : (m : Msg) (causes : List ℕ) → list_any (λ cause. option_map_or (λ port. port == m.port) (exception_port w cause) false) causes ≡ true → m.port < length w.ports
  told_port m [] is = absurd (cc)
  told_port m (c ∷ causes) is = by (option_map_or (λ port. port == m.port) (exception_port w c) false) refl is (told_port m causes)
    where
      by : (b : Bool) → option_map_or (λ port. port == m.port) (exception_port w c) false ≡ b → (b || list_any (λ cause. option_map_or (λ port. port == m.port) (exception_port w cause) false) causes) ≡ true → (list_any (λ cause. option_map_or (λ port. port == m.port) (exception_port w cause) false) causes ≡ true → m.port < length w.ports) → m.port < length w.ports
      by true here is rest =
          let found = some_of (λ port. port == m.port) (exception_port w c) here in
          subst (λ p. p < length w.ports) (same_number found.0 m.port found.2) (all.exception_ports c found.0 found.1)
      by false here is rest = rest is

  same_causes : (m : Msg) (causes : List ℕ) → same_lists (λ c d. c == d) m.causes causes ≡ true → AreFine (length w.causes) causes → AreFine (length w.causes) m.causes
  same_causes m causes is fine = subst (AreFine (length w.causes)) (sym (same_numbers-is m.causes causes is)) fine

  outside_fine : (h : List Event) → ArePosted h → (m : Msg) (name : MsgId) → IsOutside w h m name → IsFinePost m
  outside_fine h known m (names.Script a k) found =
      let its = all.open_posters a found.0 found.1 in
      let parts = both (has_number found.0 m.port && is_value m.value && list_all (λ cause. nat_lt cause (length w.causes)) m.causes) (are_apart m.causes) found.2 in
      let more = both (has_number found.0 m.port && is_value m.value) (list_all (λ cause. nat_lt cause (length w.causes)) m.causes) parts.0 in (
        named_port found.0 m.port its.ports (both (has_number found.0 m.port) (is_value m.value) more.0).0,
        record { below = all_below (length w.causes) m.causes more.1; apart = parts.1 },
      )
  outside_fine h known m (names.Task t k) found =
      let opened = some_then (λ (s : Placement). open_handler w s.branch.handler) (placement_of w h t) found.0 found.1 in
      let its = all.open_handlers opened.0.branch.handler found.0 opened.2 in
      let load = load_of-fine h known t in
      by (either_of (has_number found.0 m.port && same_lists (λ c d. c == d) m.causes (load_of w h t).causes) (is_exception w (load_of w h t).causes m) (both (is_value m.value) _ found.2).1) its.ports load
    where
      by : ((has_number found.0 m.port && same_lists (λ c d. c == d) m.causes (load_of w h t).causes) ≡ true) ⊎ (is_exception w (load_of w h t).causes m ≡ true) → ((index p : ℕ) → slice_get found.0 index ≡ Some p → p < length w.ports) → AreFine (length w.causes) (load_of w h t).causes → IsFinePost m
      by (inl own) ports load = let parts = both (has_number found.0 m.port) (same_lists (λ c d. c == d) m.causes (load_of w h t).causes) own in (named_port found.0 m.port ports parts.0, same_causes m (load_of w h t).causes parts.1 load)
      by (inr told) ports load = let parts = both (same_lists (λ c d. c == d) m.causes []) _ told in (told_port m (load_of w h t).causes parts.1, same_causes m [] parts.0 (none_fine (length w.causes)))

  pub posted_fine : (h : List Event) → IsLegal w h → ArePosted h
  posted_fine h legal = each_posted w IsFinePost (λ g m lawful known allowed. of_either g known m (post_either w g m IsSentFine script_fine (λ t. (play_of-fine g known t).posts) m.id allowed)) h legal
    where
      of_either : (g : List Event) → ArePosted g → (m : Msg) → ((sent : Sent) × IsPost m sent × IsSentFine sent) ⊎ IsOutside w g m m.id → IsFinePost m
      of_either g known m (inl it) = sent_as m it.0 it.1 it.2
      of_either g known m (inr outside) = outside_fine g known m m.id outside
