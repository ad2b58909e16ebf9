-- What the tables answer is what the model says, where they keep what it says.
use Rattle.std.proofs.Common.{◌≡◌, ◌∙◌, ℕ, suc, ◌<◌, Bool, true, false, not, ◌&&◌, List, [], ◌∷◌, length, filter, Option, None, Some, refl, ap, arith}
use Rattle.std.specs.Prelude.{◌==◌, nat_lt, if◌then◌else◌, option_map, option_and_then}
use Rattle.std.specs.List.{slice_get, list_all}
use Rattle.std.specs.Option.{option_map_or}
use Rattle.std.proofs.lemmas.Bool.Decides.{nat_tests}
use Rattle.ccr_base.specs.declared.names.TaskId.{TaskId}
use Rattle.ccr_base.specs.declared.names.MsgId.{MsgId}
use Rattle.ccr_base.specs.declared.messages.Msg.{Msg}
use Rattle.ccr_base.specs.declared.names.Spot.{Spot}
use Rattle.ccr_base.specs.declared.names.Spot.TheVariants.{Branch, Site}
use Rattle.ccr_base.specs.declared.patterns.Slot.{Slot}
use Rattle.ccr_base.specs.declared.patterns.Pattern.{Pattern}
use Rattle.ccr_base.specs.declared.patterns.Pattern.TheVariants.{Slots, Gather}
use Rattle.ccr_base.specs.declared.policies.Group.{Group}
use Rattle.ccr_base.specs.declared.policies.Group.TheVariants as groups
use Rattle.ccr_base.specs.declared.policies.Policy.{Policy}
use Rattle.ccr_base.specs.declared.policies.Policy.TheVariants as policies
use Rattle.ccr_base.specs.Names.{same_task, same_message, same_lists, has_task}
use Rattle.ccr_base.specs.Selection.{is_choosable}
use Rattle.ccr_wiring.specs.declared.parts.Parts.{Parts}
use Rattle.ccr_wiring.specs.Wirings.{Placement, placement, placements, policy_of, site_port, branch_of}
use Rattle.ccr_wiring.specs.Repeats.{slot_ports}
use Rattle.ccr_wiring.specs.Spots.{pattern_ports}
use Rattle.ccr_wiring.specs.Openness.{open_handler}
use Rattle.ccr_wiring.specs.Valid.{IsValid}
use Rattle.ccr_wiring.proofs.Soundness.{sound}
use Rattle.ccr_model.specs.declared.history.Event.{Event}
use Rattle.ccr_model.specs.Posts.{held, posts_of_task}
use Rattle.ccr_model.specs.Firings.{Firing, firings, firing_named}
use Rattle.ccr_model.specs.TaskData.{placement_of, play_of, no_play}
use Rattle.ccr_model.specs.Tasks.{is_teardown, is_concurrent, waiting, running, admitted}
use Rattle.ccr_model.specs.Live.{is_none_of, is_live, is_live_in, has_room, has_room_in}
use Rattle.ccr_model.specs.Selection.{names_of, selection_of_slots, is_selection, is_selection_of, are_oldest, engine_selection_of, engine_selection, oldest}
use Rattle.ccr_model.specs.Enough.{has_enough, can_take}
use Rattle.ccr_model.specs.Rules.{cuts_at, may_admit, is_concurrent_task, drop_by, drop_at, has_budget, open_ports}
use Rattle.ccr_model.specs.Legal.{IsLegal}
use Rattle.ccr_base.proofs.Options.{some-below}
use Rattle.ccr_model.proofs.Members.{found_among}
use Rattle.ccr_model.proofs.LegalIsCovered.{running_started}
use Rattle.ccr_model.proofs.WhoWasPut.{ArePlaced-legal, placement_by}
use Rattle.ccr_model.proofs.FiringPlacements.{firing_with_placement}
use Rattle.ccr_model.proofs.PlacementDomains.{placement-within}
use Rattle.ccr_base.proofs.Booleans.{not_not}
use Rattle.ccr_ledger.specs.Rows.{row}
use Rattle.ccr_ledger.specs.declared.cards.Card.{Card}
use Rattle.ccr_ledger.specs.Books.{Books, number}
use Rattle.ccr_ledger.specs.Asked.{lives, group_lives, room, queue_has_room, can_choose, selection_at, are_selected, cuts, may_admit_task, may_admit_card, drops, play_in, made_in, budget_lasts, open_ports_kept}
use Rattle.ccr_ledger.specs.Kept.{Keeps, card_of}

-- what is asked of the ports of a pattern is the same where they hold the same
slots_same : (f g : ℕ → List Msg) (slots : List Slot) → ((index port : ℕ) → slice_get (slot_ports slots) index ≡ Some port → f port ≡ g port) → selection_of_slots f slots ≡ selection_of_slots g slots
slots_same f g [] same = refl
slots_same f g (s ∷ slots) same =
    let here : f s.port ≡ g s.port = same 0 s.port refl in
    rw (here, slots_same f g slots (λ index port at. same (suc index) port at)) refl

selection_same : (f g : ℕ → List Msg) (p : Pattern) → ((index port : ℕ) → slice_get (pattern_ports p) index ≡ Some port → f port ≡ g port) → engine_selection_of f p ≡ engine_selection_of g p
selection_same f g (Slots slots) same = slots_same f g slots same
selection_same f g (Gather total a b) same =
    let one : f a ≡ g a = same 0 a refl in
    let two : f b ≡ g b = same 1 b refl in
    rw (one, two) refl

names_same : (f g : ℕ → List Msg) (p : Pattern) (names : List MsgId) → ((index port : ℕ) → slice_get (pattern_ports p) index ≡ Some port → f port ≡ g port) → is_selection_of f p names ≡ is_selection_of g p names
names_same f g (Slots slots) names same = ap (λ o. option_map_or (λ messages. same_lists same_message (names_of messages) names) o false) (slots_same f g slots same)
names_same f g (Gather total a b) names same =
    let one : f a ≡ g a = same 0 a refl in
    let two : f b ≡ g b = same 1 b refl in
    rw (one, two) refl

slots_enough : (f g : ℕ → List Msg) (slots : List Slot) → ((index port : ℕ) → slice_get (slot_ports slots) index ≡ Some port → f port ≡ g port) → list_all (λ (s : Slot). is_choosable s (f s.port)) slots ≡ list_all (λ (s : Slot). is_choosable s (g s.port)) slots
slots_enough f g [] same = refl
slots_enough f g (s ∷ slots) same =
    let here : f s.port ≡ g s.port = same 0 s.port refl in
    rw (here, slots_enough f g slots (λ index port at. same (suc index) port at)) refl

enough_same : (f g : ℕ → List Msg) (p : Pattern) → ((index port : ℕ) → slice_get (pattern_ports p) index ≡ Some port → f port ≡ g port) → has_enough f p ≡ has_enough g p
enough_same f g (Slots slots) same = slots_enough f g slots same
enough_same f g (Gather total a b) same =
    let one : f a ≡ g a = same 0 a refl in
    let two : f b ≡ g b = same 1 b refl in
    rw (one, two) refl

-- nobody fails the test where all pass it
none_fail : (p : TaskId → Bool) (ts : List TaskId) → (length (filter (λ t. not (p t)) ts) == 0) ≡ list_all p ts
none_fail p [] = refl
none_fail p (t ∷ ts) = of_test (p t) (none_fail p ts)
  where
    some : (n : ℕ) → (suc n == 0) ≡ false
    some n = grind (arith, nat_tests)

    of_test : (b : Bool) → (length (filter (λ t. not (p t)) ts) == 0) ≡ list_all p ts → (length (if not b then t ∷ filter (λ t. not (p t)) ts else filter (λ t. not (p t)) ts) == 0) ≡ b && list_all p ts
    of_test true rest = rest
    of_test false rest = some (length (filter (λ t. not (p t)) ts))

module _ (w : Parts) (valid : IsValid w) (h : List Event) (legal : IsLegal w h) (b : Books) (keeps : Keeps w h b) where
  group_told : (n : ℕ) (s : Placement) → placement w n ≡ Some s → (g : Group) → group_lives b n s.domain g ≡ is_live_in w h n s.domain g
  group_told n s at groups.Always = refl
  group_told n s at groups.Once = rw (keeps.flags.spent n (some-below (placements w) n s at)) (not_not _)
  group_told n s at groups.Choice = rw (keeps.flags.chosen s.domain (placement-within w n s at)) (not_not _)
  group_told n s at groups.Concurrent = rw (keeps.flags.torn s.domain (placement-within w n s at)) (not_not _)
  group_told n s at groups.Exclusive = rw (keeps.flags.torn s.domain (placement-within w n s at)) (not_not _)
  group_told n s at groups.Teardown = rw (keeps.flags.torn s.domain (placement-within w n s at)) (not_not _)

  pub lives_told : (s : Spot) → lives w b s ≡ is_live w h s
  lives_told (Site n k) = rw (keeps.rows.suspended n k) refl
  lives_told (Branch n) = of_placement (placement w n) refl
    where
      of_placement : (o : Option Placement) → placement w n ≡ o → option_map_or (λ (s : Placement). group_lives b n s.domain s.branch.group) o false ≡ option_map_or (λ (s : Placement). is_live_in w h n s.domain s.branch.group) o false
      of_placement None at = refl
      of_placement (Some s) at = group_told n s at s.branch.group

  room_policy : (q : ℕ) → q < length w.queues → (p : Policy) → queue_has_room b q p ≡ has_room_in w h q p
  room_policy q low policies.Unbounded = refl
  room_policy q low (policies.Discard n) = refl
  room_policy q low (policies.Throttle n) = rw (keeps.counts.coming q low) refl

  pub room_told : (s : Spot) → room w b s ≡ has_room w h s
  room_told (Site n k) = refl
  room_told (Branch n) = of_placement (placement w n) refl
    where
      of_placement : (o : Option Placement) → placement w n ≡ o → option_map_or (λ (s : Placement). queue_has_room b s.branch.queue (policy_of w s.branch.queue)) o true ≡ option_map_or (λ (s : Placement). has_room_in w h s.branch.queue (policy_of w s.branch.queue)) o true
      of_placement None at = refl
      of_placement (Some s) at = room_policy s.branch.queue ((sound w valid).queues n s at) (policy_of w s.branch.queue)

  -- the ports of a branch's pattern, and that of a site, are the wiring's
  ports_told : (n : ℕ) (s : Placement) → placement w n ≡ Some s → (index port : ℕ) → slice_get (pattern_ports s.branch.pattern) index ≡ Some port → row b.ports port ≡ held h port
  ports_told n s at index port there = keeps.ports.ports port ((sound w valid).pattern_ports n s index port at there)

  port_told : (n k port : ℕ) → site_port w n k ≡ Some port → row b.ports port ≡ held h port
  port_told n k port at = keeps.ports.ports port ((sound w valid).site_ports n k port at)

  pub can_choose_told : (s : Spot) → can_choose w b s ≡ can_take w h s
  can_choose_told (Branch n) = of_placement (placement w n) refl
    where
      of_placement : (o : Option Placement) → placement w n ≡ o → option_map_or (λ (s : Placement). has_enough (row b.ports) s.branch.pattern) o false ≡ option_map_or (λ (s : Placement). has_enough (held h) s.branch.pattern) o false
      of_placement None at = refl
      of_placement (Some s) at = enough_same (row b.ports) (held h) s.branch.pattern (ports_told n s at)
  can_choose_told (Site n k) = of_port (site_port w n k) refl
    where
      of_port : (o : Option ℕ) → site_port w n k ≡ o → option_map_or (λ port. nat_lt 0 (length (row b.ports port))) o false ≡ option_map_or (λ port. nat_lt 0 (length (held h port))) o false
      of_port None at = refl
      of_port (Some port) at = rw (port_told n k port at) refl

  pub selection_told : (s : Spot) → selection_at w b s ≡ engine_selection w h s
  selection_told (Branch n) = of_placement (placement w n) refl
    where
      of_placement : (o : Option Placement) → placement w n ≡ o → option_and_then (λ (s : Placement). engine_selection_of (row b.ports) s.branch.pattern) o ≡ option_and_then (λ (s : Placement). engine_selection_of (held h) s.branch.pattern) o
      of_placement None at = refl
      of_placement (Some s) at = selection_same (row b.ports) (held h) s.branch.pattern (ports_told n s at)
  selection_told (Site n k) = of_port (site_port w n k) refl
    where
      of_port : (o : Option ℕ) → site_port w n k ≡ o → option_and_then (λ port. oldest (row b.ports port)) o ≡ option_and_then (λ port. oldest (held h port)) o
      of_port None at = refl
      of_port (Some port) at = rw (port_told n k port at) refl

  pub are_selected_told : (s : Spot) (names : List MsgId) → are_selected w b s names ≡ is_selection w h s names
  are_selected_told (Branch n) names = of_placement (placement w n) refl
    where
      of_placement : (o : Option Placement) → placement w n ≡ o → option_map_or (λ (s : Placement). is_selection_of (row b.ports) s.branch.pattern names) o false ≡ option_map_or (λ (s : Placement). is_selection_of (held h) s.branch.pattern names) o false
      of_placement None at = refl
      of_placement (Some s) at = names_same (row b.ports) (held h) s.branch.pattern names (ports_told n s at)
  are_selected_told (Site n k) names = of_port (site_port w n k) refl
    where
      of_port : (o : Option ℕ) → site_port w n k ≡ o → option_map_or (λ port. are_oldest (row b.ports port) names) o false ≡ option_map_or (λ port. are_oldest (held h port) names) o false
      of_port None at = refl
      of_port (Some port) at = rw (port_told n k port at) refl

  pub cuts_told : (s : Spot) → cuts w b s ≡ cuts_at w h s
  cuts_told (Site n k) = refl
  cuts_told (Branch n) = of_placement (placement w n) refl
    where
      of_placement : (o : Option Placement) → placement w n ≡ o → option_map_or (λ (s : Placement). if is_teardown s.branch.group then row b.waiting s.domain else []) o [] ≡ option_map_or (λ (s : Placement). if is_teardown s.branch.group then waiting w h s.domain else []) o []
      of_placement None at = refl
      of_placement (Some s) at = rw (keeps.rows.waiting s.domain (placement-within w n s at)) refl

  -- the placement of a task that fired
  pub with_placement : (t : TaskId) (f : Firing) → firing_named h t ≡ Some f → (s : Placement) × (placement w (branch_of f.spot) ≡ Some s) × (placement_of w h t ≡ Some s)
  with_placement t f is =
      let found = firing_with_placement w h legal f (found_among (λ (g : Firing). same_task g.task t) (firings h) f is) in
      (found.0, found.1, placement_by w h t f is ∙ found.1)

  may_admit_card_told : (t : TaskId) (f : Firing) → firing_named h t ≡ Some f → may_admit_card b (card_of w h t f) ≡ may_admit w h t
  may_admit_card_told t f is =
      let found = with_placement t f is in
      rw (found.1, found.2) (of_test (is_concurrent found.0.branch.group) found.0.domain (placement-within w (branch_of f.spot) found.0 found.1))
    where
      of_test : (c : Bool) (d : ℕ) → d < length w.arbiters → (if c then number b.alone d == 0 else number b.admitted d == 0) ≡ (if c then list_all (is_concurrent_task w h) (admitted w h d) else is_none_of (admitted w h d))
      of_test true d low = rw (keeps.counts.alone d low) (none_fail (is_concurrent_task w h) (admitted w h d))
      of_test false d low = rw (keeps.counts.admitted d low) refl

  pub may_admit_task_told : (t : TaskId) → may_admit_task b t ≡ may_admit w h t
  may_admit_task_told t = rw (keeps.tasks.cards t) (of_firing (firing_named h t) refl)
    where
      of_firing : (o : Option Firing) → firing_named h t ≡ o → option_map_or (may_admit_card b) (option_map (card_of w h t) o) false ≡ may_admit w h t
      of_firing None at = rw at refl
      of_firing (Some f) at = may_admit_card_told t f at

  pub drops_told : (t : TaskId) → drops w b t ≡ drop_at w h t
  drops_told t = rw (keeps.tasks.cards t) (of_firing (firing_named h t) refl)
    where
      of_firing : (o : Option Firing) → firing_named h t ≡ o → option_and_then (λ (card : Card). drop_by (policy_of w card.queue) (row b.queued card.queue)) (option_map (card_of w h t) o) ≡ drop_at w h t
      of_firing None at = rw at refl
      of_firing (Some f) at =
          let found = with_placement t f at in
          rw (found.1, found.2, keeps.rows.queued found.0.branch.queue ((sound w valid).queues (branch_of f.spot) found.0 found.1)) refl

  pub play_told : (t : TaskId) → play_in b t ≡ play_of w h t
  play_told t = rw (keeps.tasks.cards t) (of_firing (firing_named h t) refl)
    where
      of_firing : (o : Option Firing) → firing_named h t ≡ o → option_map_or (λ (card : Card). card.play) (option_map (card_of w h t) o) no_play ≡ play_of w h t
      of_firing None at = rw at refl
      of_firing (Some f) at = refl

  pub open_ports_told : (t : TaskId) → open_ports_kept w b t ≡ open_ports w h t
  open_ports_told t = rw (keeps.tasks.cards t) (of_firing (firing_named h t) refl)
    where
      of_firing : (o : Option Firing) → firing_named h t ≡ o → option_and_then (λ (card : Card). option_and_then (λ (s : Placement). open_handler w s.branch.handler) (placement w (branch_of card.spot))) (option_map (card_of w h t) o) ≡ open_ports w h t
      of_firing None at = rw at refl
      of_firing (Some f) at = rw at refl

  pub made_told : (t : TaskId) → has_task (running h) t ≡ true → made_in b t ≡ posts_of_task h t
  made_told t runs =
      let placed = ArePlaced-legal w h legal in
      let fired_so = placed.all_fired t (placed.lists.put_started t (running_started h t runs)) in
      rw (keeps.tasks.cards t, fired_so.1) refl

  pub budget_told : budget_lasts w b ≡ has_budget w h
  budget_told = rw keeps.script_posts.task_posts refl
