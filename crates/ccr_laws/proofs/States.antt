-- A task that fired is in exactly one state, the one that is told of it.
use Rattle.std.proofs.Common.{◌≡◌, Bool, true, false, not, ◌&&◌, ◌||◌, List, [], ◌∷◌, ◌++◌, flat_map, Some, refl, sym, ap, ◌∙◌, arith, subst}
use Rattle.std.specs.Prelude.{if◌then◌else◌}
use Rattle.std.specs.Option.{option_map, option_map_or}
use Rattle.std.proofs.lemmas.Grind.{common_steps}
use Rattle.ccr_base.specs.declared.names.TaskId.{TaskId}
use Rattle.ccr_base.specs.declared.names.Spot.{Spot}
use Rattle.ccr_base.specs.declared.names.Spot.TheVariants.{Branch, Site}
use Rattle.ccr_wiring.specs.declared.parts.Parts.{Parts}
use Rattle.ccr_model.specs.declared.history.Event.{Event}
use Rattle.ccr_model.specs.declared.history.Event.TheVariants.{Post, Fire, Admit, Put, Start, End}
use Rattle.ccr_model.specs.declared.history.EndHow.{EndHow}
use Rattle.ccr_model.specs.declared.history.TaskState.{TaskState}
use Rattle.ccr_model.specs.declared.history.TaskState.TheVariants as states
use Rattle.ccr_base.specs.Names.{same_task, has_task, without}
use Rattle.ccr_wiring.specs.Wirings.{Placement, placement, branch_of}
use Rattle.ccr_model.specs.Firings.{Firing, firing_named, spot_of, cut, ever_admitted, put, dropped, started, ended}
use Rattle.ccr_model.specs.Tasks.{is_interleave, is_branch_where, is_for_queue}
use Rattle.ccr_model.specs.Rules.{needs_no_admission, may_put}
use Rattle.ccr_model.specs.Fates.{end_of, state_of_started, state_of}
use Rattle.ccr_model.specs.Legal.{IsLegal}
use Rattle.ccr_model.proofs.Allowing.{OneName-legal}
use Rattle.ccr_base.proofs.SameNames.{same_task-is, same_task-self, same_task-sym}
use Rattle.ccr_base.proofs.Booleans.{neither, or_left, refuted, no_both, eq-self}
use Rattle.ccr_model.specs.Interleaves.{is_placement_in}
use Rattle.ccr_laws.specs.OneFate.{Waits, IsQueued, HasEnded, IsIn}
use Rattle.ccr_laws.proofs.LegalEventsWereAllowed.{allowed_at}
use Rattle.ccr_model.proofs.TaskLists.{to_filter, to_without, among_left, among_right, not_more, not_within}
use Rattle.ccr_model.proofs.WhoWasPut.{ArePlaced-legal, QueuedFacts-queued, PutFacts-may}
use Rattle.ccr_model.proofs.AllowedFirings.{WaitingFacts-waiting, waits_whole, waits_outside, fired_by_has}
use Rattle.ccr_model.proofs.Cutting.{CutFacts-legal, cut_not_put, waits_unput}
use Rattle.ccr_model.proofs.Ending.{RunningFacts, RunningFacts-running, RunningFacts-allowed}

-- the ends of a task
no_end : (h : List Event) (t : TaskId) → has_task (ended h) t ≡ false → flat_map (end_of t) h ≡ []
no_end [] t out = refl
no_end (End u how ∷ h) t out = of_test (same_task t u) refl out (no_end h t)
  where
    of_test : (b : Bool) → same_task t u ≡ b → b || has_task (ended h) t ≡ false → (has_task (ended h) t ≡ false → flat_map (end_of t) h ≡ []) → flat_map (end_of t) (End u how ∷ h) ≡ []
    of_test true e at rest = absurd (cc)
    of_test false e at rest = rw (same_task-sym u t, e) (rest at)
no_end (Post m ∷ h) t out = no_end h t out
no_end (Fire u s ms cs ∷ h) t out = no_end h t out
no_end (Admit u ∷ h) t out = no_end h t out
no_end (Put u d ∷ h) t out = no_end h t out
no_end (Start u a ∷ h) t out = no_end h t out

not_ended : (h : List Event) (t : TaskId) → flat_map (end_of t) h ≡ [] → has_task (ended h) t ≡ false
not_ended [] t none = refl
not_ended (End u how ∷ h) t none = of_test (same_task u t) refl none (not_ended h t)
  where
    of_test : (b : Bool) → same_task u t ≡ b → (if b then how ∷ [] else []) ++ flat_map (end_of t) h ≡ [] → (flat_map (end_of t) h ≡ [] → has_task (ended h) t ≡ false) → has_task (ended (End u how ∷ h)) t ≡ false
    of_test true e at rest = absurd (cc)
    of_test false e at rest = rw (same_task-sym t u, e) (rest at)
not_ended (Post m ∷ h) t none = not_ended h t none
not_ended (Fire u s ms cs ∷ h) t none = not_ended h t none
not_ended (Admit u ∷ h) t none = not_ended h t none
not_ended (Put u d ∷ h) t none = not_ended h t none
not_ended (Start u a ∷ h) t none = not_ended h t none

ended_later : (e : Event) (h : List Event) (t : TaskId) (how : EndHow) → HasEnded h t how → HasEnded (e ∷ h) t how
ended_later e h t how has = record { past = e ∷ has.past; stands = record { more = has.stands.more; whole = ap (λ g. e ∷ g) has.stands.whole } }

some_end : (h : List Event) (t : TaskId) (how : EndHow) (more : List EndHow) → flat_map (end_of t) h ≡ how ∷ more → HasEnded h t how
some_end [] t how more is = absurd (cc)
some_end (End u k ∷ h) t how more is = of_test (same_task u t) refl is (some_end h t how more)
  where
    of_test : (b : Bool) → same_task u t ≡ b → (if b then k ∷ [] else []) ++ flat_map (end_of t) h ≡ how ∷ more → (flat_map (end_of t) h ≡ how ∷ more → HasEnded h t how) → HasEnded (End u k ∷ h) t how
    of_test true e at rest =
        let one : u ≡ t = same_task-is u t e in
        let way : k ≡ how = cc in
        record { past = []; stands = record { more = h; whole = ap (λ v. End v k ∷ h) one ∙ ap (λ x. End t x ∷ h) way } }
    of_test false e at rest = ended_later (End u k) h t how (rest at)
some_end (Post m ∷ h) t how more is = ended_later (Post m) h t how (some_end h t how more is)
some_end (Fire u s ms cs ∷ h) t how more is = ended_later (Fire u s ms cs) h t how (some_end h t how more is)
some_end (Admit u ∷ h) t how more is = ended_later (Admit u) h t how (some_end h t how more is)
some_end (Put u d ∷ h) t how more is = ended_later (Put u d) h t how (some_end h t how more is)
some_end (Start u a ∷ h) t how more is = ended_later (Start u a) h t how (some_end h t how more is)

ends-append : (t : TaskId) (h es : List Event) → flat_map (end_of t) (h ++ es) ≡ flat_map (end_of t) h ++ flat_map (end_of t) es
ends-append t h es = grind (arith, common_steps)

started-append : (h es : List Event) → started (h ++ es) ≡ started h ++ started es
started-append h es = grind (arith, common_steps)

-- an end was that of a running task
end_facts : (w : Parts) (h : List Event) → IsLegal w h → (t : TaskId) (how : EndHow) → (has : HasEnded h t how) → RunningFacts has.past t
end_facts w h legal t how has = RunningFacts-allowed w has.past t how (allowed_at w h has.past (End t how) legal has.stands)

ended-first : (w : Parts) (h : List Event) → IsLegal w h → (t : TaskId) (how : EndHow) → (has : HasEnded h t how) → flat_map (end_of t) h ≡ how ∷ flat_map (end_of t) has.stands.more
ended-first w h legal t how has =
    let first : flat_map (end_of t) (End t how ∷ has.stands.more) ≡ how ∷ flat_map (end_of t) has.stands.more = rw (same_task-self t) refl in
    let before : flat_map (end_of t) has.past ≡ [] = no_end has.past t (end_facts w h legal t how has).not_ended in
    ap (λ g. flat_map (end_of t) g) has.stands.whole ∙ ends-append t has.past (End t how ∷ has.stands.more) ∙ ap (λ xs. xs ++ flat_map (end_of t) (End t how ∷ has.stands.more)) before ∙ first

ended-started : (w : Parts) (h : List Event) → IsLegal w h → (t : TaskId) (how : EndHow) → HasEnded h t how → has_task (started h) t ≡ true
ended-started w h legal t how has =
    subst (λ g. has_task (started g) t ≡ true) (sym has.stands.whole) (subst (λ ts. has_task ts t ≡ true) (sym (started-append has.past (End t how ∷ has.stands.more))) (among_left (started has.past) (started (End t how ∷ has.stands.more)) t (end_facts w h legal t how has).started_so))

ended-append : (h es : List Event) → ended (h ++ es) ≡ ended h ++ ended es
ended-append h es = grind (arith, common_steps)

-- who has an end is among those that ended
pub has_ended : (h : List Event) (t : TaskId) (how : EndHow) → HasEnded h t how → has_task (ended h) t ≡ true
has_ended h t how has =
    let here : has_task (ended (End t how ∷ has.stands.more)) t ≡ true = or_left (same_task t t) _ (same_task-self t) in
    subst (λ g. has_task (ended g) t ≡ true) (sym has.stands.whole) (subst (λ ts. has_task ts t ≡ true) (sym (ended-append has.past (End t how ∷ has.stands.more))) (among_right (ended has.past) (ended (End t how ∷ has.stands.more)) t here))

-- where the task of this firing stands, by the tests in their order
queued_in : (w : Parts) (h : List Event) (t : TaskId) (f : Firing) (r : Placement) → firing_named h t ≡ Some f → placement w (branch_of f.spot) ≡ Some r → has_task (dropped h) t ≡ false → has_task (started h) t ≡ false → has_task (put h) t ≡ true → IsQueued w h t
queued_in w h t f r found with_placement undropped unstarted was_put =
    let inner = to_without (put h) (started h ++ dropped h) t was_put (not_more (started h) (dropped h) t unstarted undropped) in
    let here : is_for_queue w h r.branch.queue t ≡ true = rw (found, with_placement) (eq-self r.branch.queue) in
    record { queue = r.branch.queue; among = to_filter (is_for_queue w h r.branch.queue) (without (put h) (started h ++ dropped h)) t inner here }

waits_in : (w : Parts) (h : List Event) (t : TaskId) (f : Firing) (r : Placement) → firing_named h t ≡ Some f → placement w (branch_of f.spot) ≡ Some r → has_task (cut h) t ≡ false → needs_no_admission w f.spot ≡ false → has_task (ever_admitted h) t ≡ false → (s : Spot) → f.spot ≡ s → Waits w h t
waits_in w h t f r found with_placement uncut bound outside (Site b k) at = let free : needs_no_admission w f.spot ≡ true = rw at refl in absurd (no_both free bound)
waits_in w h t f r found with_placement uncut bound outside (Branch b) at =
    let known : placement w b ≡ Some r = ap (λ s. placement w (branch_of s)) (sym at) ∙ with_placement in
    let tied : not (is_interleave r.kind) ≡ false = ap (λ o. option_map_or (λ (s : Placement). not (is_interleave s.kind)) o false) (sym known) ∙ ap (λ s. needs_no_admission w s) (sym at) ∙ bound in
    let kind : is_interleave r.kind ≡ true = grind (arith, tied) in
    let passes : is_branch_where w (is_placement_in r.domain) f.spot ≡ true = ap (λ s. is_branch_where w (is_placement_in r.domain) s) at ∙ ap (λ o. option_map_or (is_placement_in r.domain) o false) known ∙ rw (kind, eq-self r.domain) refl in
    record { interleave = r.domain; among = waits_whole w h r.domain t (fired_by_has w (is_placement_in r.domain) h t f found passes) outside uncut }

unready : (w : Parts) (h : List Event) (t : TaskId) (f : Firing) → firing_named h t ≡ Some f → has_task (cut h) t ≡ false → has_task (put h) t ≡ false → may_put w h t ≡ false → needs_no_admission w f.spot || has_task (ever_admitted h) t ≡ false
unready w h t f found uncut unput out = sym (by_parts (has_task (put h) t) (has_task (cut h) t) (option_map_or (λ spot. needs_no_admission w spot || has_task (ever_admitted h) t) (spot_of h t) false) unput uncut ∙ ap (λ o. option_map_or (λ spot. needs_no_admission w spot || has_task (ever_admitted h) t) (option_map (λ (g : Firing). g.spot) o) false) found) ∙ out
  where
    by_parts : (a b c : Bool) → a ≡ false → b ≡ false → not a && not b && c ≡ c
    by_parts a b c p q = rw (p, q) refl

started_in : (w : Parts) (h : List Event) (t : TaskId) → has_task (started h) t ≡ true → (xs : List EndHow) → flat_map (end_of t) h ≡ xs → IsIn w h t (state_of_started xs)
started_in w h t was_started [] none = to_without (started h) (ended h) t was_started (not_ended h t none)
started_in w h t was_started (how ∷ more) some = some_end h t how more some

-- the state that is told, by its tests
abbrev state_by : Bool → Bool → Bool → Bool → Bool → List EndHow → TaskState
state_by was_cut was_dropped was_started was_put may ways = if was_cut then states.Cut else if was_dropped then states.Dropped else if was_started then state_of_started ways else if was_put then states.Queued else if may then states.Ready else states.Waiting

in_state : (w : Parts) (h : List Event) (t : TaskId) (f : Firing) (r : Placement) → firing_named h t ≡ Some f → placement w (branch_of f.spot) ≡ Some r → (a b c d e : Bool) → has_task (cut h) t ≡ a → has_task (dropped h) t ≡ b → has_task (started h) t ≡ c → has_task (put h) t ≡ d → may_put w h t ≡ e → IsIn w h t (state_by a b c d e (flat_map (end_of t) h))
in_state w h t f r found with_placement true b c d e is_cut is_dropped is_started is_put is_free = is_cut
in_state w h t f r found with_placement false true c d e is_cut is_dropped is_started is_put is_free = is_dropped
in_state w h t f r found with_placement false false true d e is_cut is_dropped is_started is_put is_free = started_in w h t is_started (flat_map (end_of t) h) refl
in_state w h t f r found with_placement false false false true e is_cut is_dropped is_started is_put is_free = queued_in w h t f r found with_placement is_dropped is_started is_put
in_state w h t f r found with_placement false false false false true is_cut is_dropped is_started is_put is_free = is_free
in_state w h t f r found with_placement false false false false false is_cut is_dropped is_started is_put is_free =
    let tied = neither (needs_no_admission w f.spot) (has_task (ever_admitted h) t) (unready w h t f found is_cut is_put is_free) in
    waits_in w h t f r found with_placement is_cut tied.0 tied.1 f.spot refl

-- a task that fired is in the state that is told
pub is_in : (w : Parts) (h : List Event) (t : TaskId) (f : Firing) (r : Placement) → firing_named h t ≡ Some f → placement w (branch_of f.spot) ≡ Some r → IsIn w h t (state_of w h t)
is_in w h t f r found with_placement = in_state w h t f r found with_placement (has_task (cut h) t) (has_task (dropped h) t) (has_task (started h) t) (has_task (put h) t) (may_put w h t) refl refl refl refl refl

-- what is known of a task that wasn't put
unput_by : (w : Parts) (h : List Event) → IsLegal w h → (t : TaskId) → has_task (put h) t ≡ false → (has_task (dropped h) t ≡ false) × (has_task (started h) t ≡ false)
unput_by w h legal t unput =
    let lists = (ArePlaced-legal w h legal).lists in
    (not_within (dropped h) (put h) t (lists.put_dropped t) unput, not_within (started h) (put h) t (lists.put_started t) unput)

-- and of one that was
put_by_uncut : (w : Parts) (h : List Event) → IsLegal w h → (t : TaskId) → has_task (put h) t ≡ true → has_task (cut h) t ≡ false
put_by_uncut w h legal t was_put = refuted (has_task (cut h) t) (λ is. no_both was_put (cut_not_put w h legal t is))

waiting_is : (a b c d e : Bool) (ways : List EndHow) → a ≡ false → b ≡ false → c ≡ false → d ≡ false → e ≡ false → states.Waiting ≡ state_by a b c d e ways
waiting_is a b c d e ways p q r s t = rw (p, q, r, s, t) refl

ready_is : (a b c d e : Bool) (ways : List EndHow) → a ≡ false → b ≡ false → c ≡ false → d ≡ false → e ≡ true → states.Ready ≡ state_by a b c d e ways
ready_is a b c d e ways p q r s t = rw (p, q, r, s, t) refl

queued_is : (a b c d e : Bool) (ways : List EndHow) → a ≡ false → b ≡ false → c ≡ false → d ≡ true → states.Queued ≡ state_by a b c d e ways
queued_is a b c d e ways p q r s = rw (p, q, r, s) refl

cut_is : (a b c d e : Bool) (ways : List EndHow) → a ≡ true → states.Cut ≡ state_by a b c d e ways
cut_is a b c d e ways p = rw p refl

dropped_is : (a b c d e : Bool) (ways : List EndHow) → a ≡ false → b ≡ true → states.Dropped ≡ state_by a b c d e ways
dropped_is a b c d e ways p q = rw (p, q) refl

running_is : (a b c d e : Bool) (ways : List EndHow) → a ≡ false → b ≡ false → c ≡ true → ways ≡ [] → states.Running ≡ state_by a b c d e ways
running_is a b c d e ways p q r s = rw (p, q, r, s) refl

ended_is : (a b c d e : Bool) (ways : List EndHow) (how : EndHow) (more : List EndHow) → a ≡ false → b ≡ false → c ≡ true → ways ≡ how ∷ more → states.Ended how ≡ state_by a b c d e ways
ended_is a b c d e ways how more p q r s = rw (p, q, r, s) refl

waits-only : (w : Parts) (h : List Event) → IsLegal w h → (t : TaskId) → Waits w h t → states.Waiting ≡ state_of w h t
waits-only w h legal t waits =
    let facts = WaitingFacts-waiting w h waits.interleave t (OneName-legal w h legal) waits.among in
    let unput = waits_unput w h waits.interleave t (CutFacts-legal w h legal) facts in
    let others = unput_by w h legal t unput in
    let outside = waits_outside w h waits.interleave t facts in
    let unready_so : may_put w h t ≡ false = refuted (may_put w h t) (λ is. (let may = PutFacts-may w h t is in contrary facts.firing may.firing facts.is_firing may.is_firing outside may.entered)) in
    waiting_is (has_task (cut h) t) (has_task (dropped h) t) (has_task (started h) t) (has_task (put h) t) (may_put w h t) (flat_map (end_of t) h) facts.not_cut others.0 others.1 unput unready_so
  where
    contrary : (f g : Firing) → firing_named h t ≡ Some f → firing_named h t ≡ Some g → needs_no_admission w f.spot || has_task (ever_admitted h) t ≡ false → needs_no_admission w g.spot || has_task (ever_admitted h) t ≡ true → ⊥
    contrary f g one other tied free =
        let same : g ≡ f = cc in
        no_both (subst (λ (x : Firing). needs_no_admission w x.spot || has_task (ever_admitted h) t ≡ true) same free) tied

-- it is in no other
pub only_in : (w : Parts) (h : List Event) → IsLegal w h → (t : TaskId) (state : TaskState) → IsIn w h t state → state ≡ state_of w h t
only_in w h legal t states.Waiting waits = waits-only w h legal t waits
only_in w h legal t states.Cut was_cut = cut_is (has_task (cut h) t) (has_task (dropped h) t) (has_task (started h) t) (has_task (put h) t) (may_put w h t) (flat_map (end_of t) h) was_cut
only_in w h legal t states.Ready may =
    let facts = PutFacts-may w h t may in
    let others = unput_by w h legal t facts.new_put in
    ready_is (has_task (cut h) t) (has_task (dropped h) t) (has_task (started h) t) (has_task (put h) t) (may_put w h t) (flat_map (end_of t) h) facts.not_cut others.0 others.1 facts.new_put may
only_in w h legal t states.Queued inside =
    let facts = QueuedFacts-queued w h inside.queue t inside.among in
    queued_is (has_task (cut h) t) (has_task (dropped h) t) (has_task (started h) t) (has_task (put h) t) (may_put w h t) (flat_map (end_of t) h) (put_by_uncut w h legal t facts.put_so) facts.not_dropped facts.not_started facts.put_so
only_in w h legal t states.Dropped was_dropped =
    dropped_is (has_task (cut h) t) (has_task (dropped h) t) (has_task (started h) t) (has_task (put h) t) (may_put w h t) (flat_map (end_of t) h) (put_by_uncut w h legal t ((ArePlaced-legal w h legal).lists.put_dropped t was_dropped)) was_dropped
only_in w h legal t states.Running runs =
    let found = RunningFacts-running h t runs in
    let lists = (ArePlaced-legal w h legal).lists in
    running_is (has_task (cut h) t) (has_task (dropped h) t) (has_task (started h) t) (has_task (put h) t) (may_put w h t) (flat_map (end_of t) h) (put_by_uncut w h legal t (lists.put_started t found.started_so)) (lists.not_both t found.started_so) found.started_so (no_end h t found.not_ended)
only_in w h legal t (states.Ended how) has =
    let was_started = ended-started w h legal t how has in
    let lists = (ArePlaced-legal w h legal).lists in
    ended_is (has_task (cut h) t) (has_task (dropped h) t) (has_task (started h) t) (has_task (put h) t) (may_put w h t) (flat_map (end_of t) h) how (flat_map (end_of t) has.stands.more) (put_by_uncut w h legal t (lists.put_started t was_started)) (lists.not_both t was_started) was_started (ended-first w h legal t how has)
