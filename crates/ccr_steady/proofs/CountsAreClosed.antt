-- The counts of a quiet, complete history without a shed end are closed.
use Rattle.std.proofs.Common.{◌≡◌, inl, inr, ℕ, zero, suc, ◌+◌, ◌*◌, ◌≤◌, Bool, true, false, not, List, [], ◌∷◌, ◌++◌, length, drop, Option, Some, None, refl, sym, ap, ◌∙◌, subst, append-nil, arith}
use Rattle.std.specs.Prelude.{◌==◌, ◌&&◌, ◌||◌, if◌then◌else◌, nat_lt, is_some}
use Rattle.std.specs.List.{list_any}
use Rattle.std.specs.Option.{option_map_or, option_map}
use Rattle.std.proofs.lemmas.Bool.Decides.{nat_tests}
use Rattle.ccr_base.specs.declared.names.TaskId.{TaskId}
use Rattle.ccr_base.specs.declared.names.Spot.{Spot}
use Rattle.ccr_base.specs.declared.names.Spot.TheVariants.{Branch, Site}
use Rattle.ccr_base.specs.declared.messages.Msg.{Msg}
use Rattle.ccr_base.specs.declared.handlers.Action.{Action}
use Rattle.ccr_base.specs.declared.patterns.Slot.{Slot}
use Rattle.ccr_base.specs.declared.patterns.Pattern.{Pattern}
use Rattle.ccr_base.specs.declared.patterns.Pattern.TheVariants.{Slots, Gather}
use Rattle.ccr_base.specs.declared.patterns.Pred.TheVariants as preds
use Rattle.ccr_base.specs.declared.policies.Group.{Group}
use Rattle.ccr_base.specs.declared.policies.Group.TheVariants as groups
use Rattle.ccr_base.specs.declared.policies.Policy.{Policy}
use Rattle.ccr_base.specs.declared.policies.Policy.TheVariants as policies
use Rattle.ccr_base.specs.Selection.{is_choosable}
use Rattle.ccr_base.specs.Names.{same_task, has_task}
use Rattle.ccr_wiring.specs.declared.parts.Parts.{Parts}
use Rattle.ccr_wiring.specs.Wirings.{Placement, placement, placements, spots, policy_of, exception_port, branch_of, segment_of, actions_at}
use Rattle.ccr_wiring.specs.Valid.{IsValid, IsSound}
use Rattle.ccr_wiring.specs.Limits.{policy_is_outside}
use Rattle.ccr_wiring.proofs.Validity.{policy_inside}
use Rattle.ccr_wiring.proofs.Soundness.{sound}
use Rattle.ccr_model.proofs.Closed.{ends_spent}
use Rattle.ccr_handler.specs.Playing.{play}
use Rattle.ccr_model.specs.declared.history.Event.{Event}
use Rattle.ccr_model.specs.declared.history.Event.TheVariants as events
use Rattle.ccr_model.specs.declared.history.EndHow.{EndHow}
use Rattle.ccr_model.specs.declared.history.EndHow.TheVariants as ends
use Rattle.ccr_model.specs.Posts.{posts, held, posts_of_task, is_message_of}
use Rattle.ccr_model.specs.Firings.{Firing, firings, firing_named, started, ended, dropped, cut}
use Rattle.ccr_model.specs.Tasks.{has_post_left, running, coming, fired_by}
use Rattle.ccr_model.specs.TaskData.{Load, play_at, load_at, play_of, no_play}
use Rattle.ccr_model.specs.Rules.{may_end, is_shed}
use Rattle.ccr_model.specs.Live.{is_live, is_live_in, has_room, has_room_in}
use Rattle.ccr_model.specs.Enough.{can_fire, can_take, has_enough}
use Rattle.ccr_model.specs.Order.{fire_at}
use Rattle.ccr_model.specs.Legal.{IsAllowed, IsLegal, IsQuiet, has_shed, is_complete, are_whole_from}
use Rattle.ccr_model.specs.Counts.{is_shed as is_shed_end}
use Rattle.ccr_model.proofs.Allowing.{OneName-legal}
use Rattle.ccr_base.proofs.Booleans.{both, no_both, not_true, neither, or_none}
use Rattle.ccr_model.proofs.CanFire.{some_fire_at}
use Rattle.ccr_model.proofs.FiredTasks.{IsFired}
use Rattle.ccr_model.proofs.LegalParts.{along_legal}
use Rattle.ccr_model.proofs.Members.{Among, all_from}
use Rattle.ccr_model.proofs.PostNames.{refused_not}
use Rattle.ccr_model.proofs.OneMoreEvent.{posts-push, ended-push, has_shed-push}
use Rattle.ccr_base.proofs.SameNames.{same_task-is, has_task-append}
use Rattle.ccr_base.proofs.Filters.{more_kept}
use Rattle.ccr_model.proofs.Stable.{play_of-append}
use Rattle.ccr_model.proofs.TasksLeft.{of_without, out_left}
use Rattle.ccr_model.proofs.Ending.{AreEnded-legal, RunningFacts-running}
use Rattle.ccr_model.proofs.AllowedFirings.{fired_by_named}
use Rattle.ccr_model.proofs.WhoWasPut.{started_fired}
use Rattle.ccr_steady.specs.Flow.{IsSteady, IsClosed, weigh, at_port, got, lacks, slots_of, is_any, is_open_pattern, is_lasting}
use Rattle.ccr_steady.proofs.Paying.{planned, due, times_at}
use Rattle.ccr_steady.proofs.Tasks.{ports_length, calm_play, calm_at, calm_from}
use Rattle.ccr_steady.proofs.Scripts.{none_left}
use Rattle.ccr_steady.proofs.Balance.{balance, posted_at, slot_facts, one_more}
use Rattle.ccr_steady.proofs.Holds.{holds_rest}
use Rattle.ccr_steady.proofs.Torn.{none_torn}
use Rattle.ccr_model.proofs.QuietAllowsNone.{fire_none, branch_among}
use Rattle.ccr_model.proofs.TaskLists.{no_members}
use Rattle.ccr_steady.proofs.QuietTasksHaveEnded.{quiet_none, all_ended}
use Rattle.ccr_steady.proofs.Takes.{fitting_any}
use Rattle.ccr_steady.proofs.Flowing.{none_any}
use Rattle.ccr_gen.specs.Weights.{by_task}

-- ---- without a shed end, who ended has posted all

kept_front : (t : TaskId) (xs ys : List Msg) → by_task xs t ≤ by_task (xs ++ ys) t
kept_front t xs ys = more_kept (λ (m : Msg). is_message_of t m.id) xs ys

stays_done : (w : Parts) (h : List Event) (e : Event) (t : TaskId) → IsFired h t → has_post_left w h t ≡ false → has_post_left w (h ++ e ∷ []) t ≡ false
stays_done w h e t firing done =
    let same = play_of-append w h (e ∷ []) t firing.0 firing.1 in
    let more : posts_of_task h t ≤ posts_of_task (h ++ e ∷ []) t = rw posts-push (kept_front t (posts h) (Rattle.ccr_model.specs.Posts.post_of e)) in
    rw same (below (posts_of_task h t) (posts_of_task (h ++ e ∷ []) t) (length (play_of w h t).posts) more done)
  where
    below : (a b n : ℕ) → a ≤ b → nat_lt a n ≡ false → nat_lt b n ≡ false
    below a b n less is = grind (arith, nat_tests, less, is)

abbrev AreDone : Parts → List Event → Type 0
AreDone w h = has_shed h ≡ false → (t : TaskId) → has_task (ended h) t ≡ true → has_post_left w h t ≡ false

same_done : (w : Parts) (h : List Event) (e : Event) → IsLegal w h → ended (h ++ e ∷ []) ≡ ended h → AreDone w h → AreDone w (h ++ e ∷ [])
same_done w h e legal same old unshed t is =
    let parts = neither (has_shed h) (is_shed_end e) (sym (has_shed-push h e) ∙ unshed) in
    let before : has_task (ended h) t ≡ true = subst (λ (ts : List TaskId). has_task ts t ≡ true) same is in
    stays_done w h e t (started_fired w h legal t ((AreEnded-legal w h legal).started_ended t before)) (old parts.0 t before)

not_shed : (how : EndHow) (t : TaskId) → is_shed_end (events.End t how) ≡ false → is_shed how ≡ false
not_shed ends.Done t is = refl
not_shed (ends.Failed v) t is = refl
not_shed ends.Yield t is = refl
not_shed ends.Shed t is = absurd cc

end_done : (w : Parts) (h : List Event) (t : TaskId) (how : EndHow) → IsLegal w h → IsAllowed w h (events.End t how) → AreDone w h → AreDone w (h ++ events.End t how ∷ [])
end_done w h t how legal allowed old unshed u is = by (has_task (ended h) u) refl (sym (has_task-append (ended h) (t ∷ []) u) ∙ subst (λ (ts : List TaskId). has_task ts u ≡ true) (ended-push h (events.End t how)) is)
  where
    parts : (has_shed h ≡ false) × (is_shed_end (events.End t how) ≡ false)
    parts = neither (has_shed h) (is_shed_end (events.End t how)) (sym (has_shed-push h (events.End t how)) ∙ unshed)

    by : (b : Bool) → has_task (ended h) u ≡ b → has_task (ended h) u || has_task (t ∷ []) u ≡ true → has_post_left w (h ++ events.End t how ∷ []) u ≡ false
    by true e any = stays_done w h (events.End t how) u (started_fired w h legal u ((AreEnded-legal w h legal).started_ended u e)) (old parts.0 u e)
    by false e any =
        let own : has_task (t ∷ []) u ≡ true = subst (λ (b : Bool). b || has_task (t ∷ []) u ≡ true) e any in
        let mine : same_task u t ≡ true = or_none (same_task u t) own in
        let same : u ≡ t = same_task-is u t mine in
        let a = refused_not (has_task (running h) t) _ _ allowed in
        let may = (refused_not (may_end w h t how) _ None a.1).0 in
        let none = not_true (has_post_left w h t) (ends_spent w h t how (not_shed how t parts.1) may) in
        let runs = RunningFacts-running h t a.0 in
        subst (λ (x : TaskId). has_post_left w (h ++ events.End t how ∷ []) x ≡ false) (sym same) (stays_done w h (events.End t how) t (started_fired w h legal t runs.started_so) none)

done_kept : (w : Parts) (h : List Event) (e : Event) → IsLegal w h → IsAllowed w h e → AreDone w h → AreDone w (h ++ e ∷ [])
done_kept w h (events.End t how) legal allowed old = end_done w h t how legal allowed old
done_kept w h (events.Post m) legal allowed old = same_done w h (events.Post m) legal (rw (ended-push, append-nil) refl) old
done_kept w h (events.Fire t s ms cs) legal allowed old = same_done w h (events.Fire t s ms cs) legal (rw (ended-push, append-nil) refl) old
done_kept w h (events.Admit t) legal allowed old = same_done w h (events.Admit t) legal (rw (ended-push, append-nil) refl) old
done_kept w h (events.Put t d) legal allowed old = same_done w h (events.Put t d) legal (rw (ended-push, append-nil) refl) old
done_kept w h (events.Start t a) legal allowed old = same_done w h (events.Start t a) legal (rw (ended-push, append-nil) refl) old

are_done : (w : Parts) (h : List Event) → IsLegal w h → AreDone w h
are_done w h legal = along_legal w (AreDone w) (done_kept w) (λ unshed t is. absurd (cc)) h legal

-- ---- so nothing is due

spot_length : (w : Parts) → IsSteady w → (spot : Spot) (load : Load) → length (play_at w (branch_of spot) (segment_of spot) load).posts ≡ length (planned w spot)
spot_length w steady (Branch b) load = sym (ports_length (play_at w b 0 load).posts) ∙ ap length (calm_play (exception_port w) load.values 0 load.causes (actions_at w b) (calm_at w steady b))
spot_length w steady (Site b k) load = ap (λ (acts : List Action). length (play (exception_port w) load.values (suc k) load.causes acts).posts) (calm_from k (actions_at w b) (calm_at w steady b))

pub planned_length : (w : Parts) → IsSteady w → (h : List Event) (t : TaskId) (f : Firing) → firing_named h t ≡ Some f → length (play_of w h t).posts ≡ length (planned w f.spot)
planned_length w steady h t f found = ap (λ (o : Option Firing). length (option_map_or (λ spot. play_at w (branch_of spot) (segment_of spot) (load_at w h (branch_of spot) (segment_of spot) t)) (option_map (λ (g : Firing). g.spot) o) no_play).posts) found ∙ spot_length w steady f.spot (load_at w h (branch_of f.spot) (segment_of f.spot) t)

drop_past : (weight : ℕ → ℕ) (n : ℕ) (ports : List ℕ) → length ports ≤ n → weigh weight (drop n ports) ≡ 0
drop_past weight zero [] less = refl
drop_past weight zero (p ∷ ports) less = absurd (omega (arith, less))
drop_past weight (suc n) [] less = refl
drop_past weight (suc n) (p ∷ ports) less = drop_past weight n ports (omega (arith, less))

none_due_of : (w : Parts) (weight : ℕ → ℕ) (ms : List Msg) (fs : List Firing) → ((f : Firing) → Among f fs → length (planned w f.spot) ≤ by_task ms f.task) → due w weight ms fs ≡ 0
none_due_of w weight ms [] all = refl
none_due_of w weight ms (f ∷ fs) all =
    let one = drop_past weight (by_task ms f.task) (planned w f.spot) (all f (inl refl)) in
    let more = none_due_of w weight ms fs (λ g among. all g (inr among)) in
    omega (arith, one, more)

pub none_due : (w : Parts) → IsSound w → IsSteady w → (h : List Event) → IsLegal w h → IsQuiet w h → has_shed h ≡ false → (weight : ℕ → ℕ) → due w weight (posts h) (firings h) ≡ 0
none_due w sound steady h legal quiet unshed weight = none_due_of w weight (posts h) (firings h) all
  where
    all : (f : Firing) → Among f (firings h) → length (planned w f.spot) ≤ by_task (posts h) f.task
    all f among =
        let found = OneName-legal w h legal f among in
        let done = are_done w h legal unshed f.task (all_ended w sound steady h legal quiet f.task f found) in
        let long = planned_length w steady h f.task f found in
        let enough : length (play_of w h f.task).posts ≤ posts_of_task h f.task = grind (arith, nat_tests, done) in
        omega (arith, long, enough)

pub full : (w : Parts) → IsSound w → IsSteady w → (h : List Event) → IsLegal w h → IsQuiet w h → is_complete w h ≡ true → has_shed h ≡ false → (port : ℕ) → posted_at port (posts h) ≡ got w (times_at (firings h)) port
full w sound steady h legal quiet complete unshed port =
    let whole = (both (are_whole_from w h 0 w.posters) _ complete).0 in
    let a = balance w steady h legal port in
    let b = none_due w sound steady h legal quiet unshed (at_port port) in
    let c = none_left w steady.closed (at_port port) h 0 w.posters whole in
    omega (arith, a, b, c)

-- ---- a branch that lacks nothing could fire

live_in : (w : Parts) → IsSteady w → (h : List Event) (b i : ℕ) (group : Group) → is_lasting group ≡ true → is_live_in w h b i group ≡ true
live_in w steady h b i groups.Always lasts = refl
live_in w steady h b i groups.Once lasts = absurd cc
live_in w steady h b i groups.Choice lasts = absurd cc
live_in w steady h b i groups.Teardown lasts = absurd cc
live_in w steady h b i groups.Exclusive lasts = none_torn w steady h i
live_in w steady h b i groups.Concurrent lasts = none_torn w steady h i

some_most : (w : Parts) → IsValid w → (q n : ℕ) → policy_of w q ≡ policies.Throttle n → 1 ≤ n
some_most w valid q n is = let inside : policy_is_outside (policies.Throttle n) ≡ false = subst (λ p. policy_is_outside p ≡ false) is (policy_inside w valid q) in grind (arith, nat_tests, inside)

none_coming : (w : Parts) → IsSound w → IsSteady w → (h : List Event) → IsLegal w h → IsQuiet w h → (q : ℕ) → coming w h q ≡ []
none_coming w sound steady h legal quiet q = no_members (coming w h q) (λ t is. (
    let parts = of_without (fired_by w (λ s. s.branch.queue == q) h) (started h ++ dropped h ++ cut h) t is in
    let found = fired_by_named w (λ s. s.branch.queue == q) h t (OneName-legal w h legal) parts.0 in
    let over = all_ended w sound steady h legal quiet t found.0 found.1 in
    no_both ((AreEnded-legal w h legal).started_ended t over) (out_left (started h) (dropped h) t (out_left (started h ++ dropped h) (cut h) t parts.1))))

room_in : (w : Parts) → IsValid w → IsSteady w → (h : List Event) → IsLegal w h → IsQuiet w h → (q : ℕ) (policy : Policy) → policy_of w q ≡ policy → has_room_in w h q policy ≡ true
room_in w valid steady h legal quiet q policies.Unbounded is = refl
room_in w valid steady h legal quiet q (policies.Discard n) is = refl
room_in w valid steady h legal quiet q (policies.Throttle n) is =
    let some = some_most w valid q n is in
    rw (none_coming w (sound w valid) steady h legal quiet q) (grind (arith, nat_tests, some))

choosable : (slot : Slot) (ms : List Msg) → is_any slot.pred ≡ true → slot.least ≤ length ms → is_choosable slot ms ≡ true
choosable slot ms any enough = rw (fitting_any slot.pred any ms) (grind (arith, nat_tests, enough))

enough_of : (h : List Event) (pattern : Pattern) → is_open_pattern pattern ≡ true → ((slot : Slot) → Among slot (slots_of pattern) → is_choosable slot (held h slot.port) ≡ true) → has_enough (held h) pattern ≡ true
enough_of h (Slots slots) opened all = all_from (λ (slot : Slot). is_choosable slot (held h slot.port)) slots all
enough_of h (Gather total first second) opened all = absurd cc

could_fire : (w : Parts) → IsValid w → IsSteady w → (h : List Event) → IsLegal w h → IsQuiet w h → is_complete w h ≡ true → has_shed h ≡ false → (b : ℕ) (s : Placement) → placement w b ≡ Some s → list_any (lacks w (times_at (firings h)) b) (slots_of s.branch.pattern) ≡ false → can_fire w h (Branch b) ≡ true
could_fire w valid steady h legal quiet complete unshed b s known none =
    let live : is_live w h (Branch b) ≡ true = rw known (live_in w steady h b s.domain s.branch.group (steady.groups b s known)) in
    let room : has_room w h (Branch b) ≡ true = rw known (room_in w valid steady h legal quiet s.branch.queue (policy_of w s.branch.queue) refl) in
    let takes : can_take w h (Branch b) ≡ true = rw known (enough_of h s.branch.pattern (steady.patterns b s known) slot_enough) in
    rw (live, room, takes) refl
  where
    slot_enough : (slot : Slot) → Among slot (slots_of s.branch.pattern) → is_choosable slot (held h slot.port) ≡ true
    slot_enough slot among =
        let facts = slot_facts w steady (sound w valid).patterns b s slot known among in
        let lack = none_any (lacks w (times_at (firings h)) b) (slots_of s.branch.pattern) none slot among in
        let many : slot.least * (times_at (firings h) b + 1) ≤ got w (times_at (firings h)) slot.port = grind (arith, nat_tests, lack) in
        let all = full w (sound w valid) steady h legal quiet complete unshed slot.port in
        let rest = holds_rest w steady (sound w valid).patterns (sound w valid).apart b s slot known among h legal in
        let more = one_more slot.least (times_at (firings h) b) in
        choosable slot (held h slot.port) facts.any (omega (arith, many, all, rest, more))

-- the counts of a quiet, complete history without a shed end are closed
pub closed_at_rest : (w : Parts) → IsValid w → IsSteady w → (h : List Event) → IsLegal w h → IsQuiet w h → is_complete w h ≡ true → has_shed h ≡ false → IsClosed w (times_at (firings h))
closed_at_rest w valid steady h legal quiet complete unshed b s known = by (list_any (lacks w (times_at (firings h)) b) (slots_of s.branch.pattern)) refl
  where
    by : (o : Bool) → list_any (lacks w (times_at (firings h)) b) (slots_of s.branch.pattern) ≡ o → o ≡ true
    by true e = refl
    by false e =
        let can = could_fire w valid steady h legal quiet complete unshed b s known e in
        let nothing = fire_none w (length w.posters) h (spots w) (Branch b) (quiet_none w (sound w valid) h legal quiet).fire (branch_among w 0 b b (placements w) s (omega arith) known) in
        let some = some_fire_at w (length w.posters) h (Branch b) in
        let never : is_some (fire_at w (length w.posters) h (Branch b)) ≡ false = ap is_some nothing in
        absurd (no_both can (sym some ∙ never))
