-- What a teardown's firing ends: branches of its Interleave fire no more, and the tasks that it cut go no further.
use Rattle.std.proofs.Common.{◌≡◌, ℕ, Bool, true, false, ◌&&◌, ◌||◌, List, [], ◌∷◌, ◌++◌, map, Option, Some, None, refl, sym, arith, ap, ◌∙◌, subst, append-nil, filter}
use Rattle.std.specs.Prelude.{◌==◌, if◌then◌else◌}
use Rattle.std.specs.Option.{option_map_or}
use Rattle.std.proofs.lemmas.Grind.{common_steps}
use Rattle.std.proofs.lemmas.Bool.Decides.{nat_tests}
use Rattle.ccr_base.specs.declared.names.TaskId.{TaskId}
use Rattle.ccr_base.specs.declared.names.MsgId.{MsgId}
use Rattle.ccr_base.specs.declared.names.Spot.{Spot}
use Rattle.ccr_base.specs.declared.names.Spot.TheVariants.{Branch, Site}
use Rattle.ccr_base.specs.declared.policies.Group.{Group}
use Rattle.ccr_base.specs.declared.policies.Group.TheVariants as groups
use Rattle.ccr_base.specs.Names.{has_task}
use Rattle.ccr_wiring.specs.declared.parts.Kind.{Kind}
use Rattle.ccr_wiring.specs.declared.parts.Kind.TheVariants as kinds
use Rattle.ccr_wiring.specs.declared.parts.Parts.{Parts}
use Rattle.ccr_wiring.specs.Groups.{may_have}
use Rattle.ccr_wiring.specs.Valid.{HasGroups}
use Rattle.ccr_wiring.specs.Wirings.{Placement, placement}
use Rattle.ccr_model.specs.declared.history.Event.{Event}
use Rattle.ccr_model.specs.declared.history.Event.TheVariants.{Post, Fire, Admit, Put, Start, End}
use Rattle.ccr_model.specs.Firings.{Firing, firing_named, cut, ever_admitted, admitted_by, put, put_by, started, fired_where, firing_of, firings}
use Rattle.ccr_model.specs.TaskData.{placement_of}
use Rattle.ccr_model.specs.Tasks.{is_interleave, is_teardown, is_branch_where, fired_by, waiting}
use Rattle.ccr_model.specs.Live.{is_live, is_live_in, is_none_of}
use Rattle.ccr_model.specs.Rules.{is_first, is_oldest_waiting, may_admit, needs_no_admission, cuts_at}
use Rattle.ccr_model.specs.Legal.{IsAllowed, IsLegal}
use Rattle.ccr_model.proofs.PostNames.{refused_not}
use Rattle.ccr_model.proofs.Stable.{firing_named-append}
use Rattle.ccr_model.proofs.Allowing.{OneName, OneName-legal}
use Rattle.ccr_model.proofs.OneMoreEvent.{put-push, ever_admitted-push, cut-push, firings-push}
use Rattle.ccr_model.proofs.LegalParts.{along_legal, onward, Parted-legal}
use Rattle.ccr_base.proofs.Options.{some_of}
use Rattle.ccr_base.proofs.Booleans.{both, refuted, no_both, same_number}
use Rattle.ccr_model.proofs.FiredTasks.{IsFired, AreFired, IsFired-append}
use Rattle.ccr_model.specs.Interleaves.{is_placement_in, is_teardown_in, tears_down, fired_in}
use Rattle.ccr_model.proofs.TaskLists.{first_rest, has_oldest, of_more, among_left, not_more, of_one, not_one, not_within}
use Rattle.ccr_model.proofs.WhoWasPut.{ArePlaced, ArePlaced-legal, PutFacts, PutFacts-allowed}
use Rattle.ccr_model.proofs.AllowedFirings.{FiresSo-allowed, BranchFacts-where, WaitingFacts, WaitingFacts-waiting, fired_by_has, firing_named-new, waits_outside, live_at}

-- an event later, a list longer
pub fired_where-append : (test : Firing → Bool) (h es : List Event) → fired_where test (h ++ es) ≡ fired_where test h ++ fired_where test es
fired_where-append test h es = grind (arith, common_steps)

pub fired_by-append : (w : Parts) (test : Placement → Bool) (h es : List Event) → fired_by w test (h ++ es) ≡ fired_by w test h ++ fired_by w test es
fired_by-append w test h es = fired_where-append (λ (f : Firing). is_branch_where w test f.spot) h es

pub fired_by-fire : (w : Parts) (test : Placement → Bool) (h : List Event) (t : TaskId) (spot : Spot) (ms : List MsgId) (cs : List TaskId) → fired_by w test (h ++ Fire t spot ms cs ∷ []) ≡ fired_by w test h ++ (if is_branch_where w test spot then t ∷ [] else [])
fired_by-fire w test h t spot ms cs = fired_by-append w test h (Fire t spot ms cs ∷ []) ∙ ap (λ ts. fired_by w test h ++ ts) (by (is_branch_where w test spot))
  where
    by : (b : Bool) → map (λ (f : Firing). f.task) (if b then (record { task = t; spot = spot; messages = ms; cuts = cs }) ∷ [] else []) ≡ (if b then t ∷ [] else [])
    by true = refl
    by false = refl

pub fired_by-same : (w : Parts) (test : Placement → Bool) (h : List Event) (e : Event) → firing_of e ≡ [] → fired_by w test (h ++ e ∷ []) ≡ fired_by w test h
fired_by-same w test h e none = ap (λ fs. map (λ (f : Firing). f.task) (filter (λ (f : Firing). is_branch_where w test f.spot) fs)) (firings-push h e ∙ ap (λ fs. firings h ++ fs) none ∙ append-nil (firings h))

-- a branch of an Interleave may fire while no teardown of it fired
ends_live : (w : Parts) (h : List Event) (b i : ℕ) (k : Kind) (g : Group) → may_have k g ≡ true → is_interleave k ≡ true → is_live_in w h b i g ≡ true → is_none_of (fired_by w (λ s. (s.domain == i) && is_teardown s.branch.group) h) ≡ true
ends_live w h b i k groups.Teardown may is live = live
ends_live w h b i k groups.Exclusive may is live = live
ends_live w h b i k groups.Concurrent may is live = live
ends_live w h b i kinds.Receive g may is live = absurd (cc)
ends_live w h b i kinds.Choice g may is live = absurd (cc)
ends_live w h b i kinds.Interleave groups.Once may is live = absurd (cc)
ends_live w h b i kinds.Interleave groups.Always may is live = absurd (cc)
ends_live w h b i kinds.Interleave groups.Choice may is live = absurd (cc)

-- a list with a member isn't empty
none_has : (ts : List TaskId) (t : TaskId) → has_task ts t ≡ true → is_none_of ts ≡ true → ⊥
none_has [] t is none = cc
none_has (x ∷ ts) t is none = grind (arith, nat_tests, none)

-- once a teardown fired, no branch of its Interleave is live
pub dead : (w : Parts) → HasGroups w → (i : ℕ) (h : List Event) (t : TaskId) (f : Firing) (s : Spot) → firing_named h t ≡ Some f → tears_down w i f.spot ≡ true → is_live w h s ≡ true → is_branch_where w (is_placement_in i) s ≡ true → ⊥
dead w groups_fit i h t f s is tears live branch =
    let facts = BranchFacts-where w (is_placement_in i) s branch in
    let parts = both (is_interleave facts.placement.kind) (facts.placement.domain == i) facts.passes in
    let number = same_number facts.placement.domain i parts.1 in
    let live_here : is_live_in w h facts.number facts.placement.domain facts.placement.branch.group ≡ true = live_at w h (is_placement_in i) s facts live in
    let none = ends_live w h facts.number facts.placement.domain facts.placement.kind facts.placement.branch.group (groups_fit facts.number facts.placement facts.is_placement) parts.0 live_here in
    let tore = BranchFacts-where w (is_teardown_in i) f.spot tears in
    let tore_parts = both (is_interleave tore.placement.kind && (tore.placement.domain == i)) (is_teardown tore.placement.branch.group) tore.passes in
    let tore_number = (both (is_interleave tore.placement.kind) (tore.placement.domain == i) tore_parts.0).1 in
    let passes : is_branch_where w (λ z. (z.domain == i) && is_teardown z.branch.group) f.spot ≡ true = rw (tore.is_branch, tore.is_placement, tore_number, tore_parts.1) refl in
    none_has (fired_by w (λ z. (z.domain == i) && is_teardown z.branch.group) h) t (fired_by_has w (λ z. (z.domain == i) && is_teardown z.branch.group) h t f is passes) (subst (λ n. is_none_of (fired_by w (λ z. (z.domain == n) && is_teardown z.branch.group) h) ≡ true) number none)

-- who fired at the teardown
fired_then : (w : Parts) (before : List Event) (t : TaskId) (s : Spot) (ms : List MsgId) (cs : List TaskId) (done : List Event) → IsAllowed w before (Fire t s ms cs) → firing_named ((before ++ Fire t s ms cs ∷ []) ++ done) t ≡ Some (record { task = t; spot = s; messages = ms; cuts = cs })
fired_then w before t s ms cs done allowed =
    let new = (FiresSo-allowed w before t s ms cs allowed).new_name in
    firing_named-append (before ++ Fire t s ms cs ∷ []) done t (record { task = t; spot = s; messages = ms; cuts = cs }) (firing_named-new before t s ms cs new)

-- after teardown, first part: no branch of the Interleave fires
pub no_branch_fires : (w : Parts) → HasGroups w → (i : ℕ) (before after : List Event) (t : TaskId) (s : Spot) (ms : List MsgId) (cs : List TaskId) → IsLegal w (before ++ Fire t s ms cs ∷ after) → tears_down w i s ≡ true → fired_in w after i ≡ []
no_branch_fires w groups_fit i before after t s ms cs legal tears =
    let parts = Parted-legal w before (Fire t s ms cs) after legal in
    onward w (before ++ Fire t s ms cs ∷ []) (λ done. fired_in w done i ≡ []) (λ done e so_far allowed none. rw (fired_by-append w (is_placement_in i) done (e ∷ []), none) (of_event parts.allowed done e allowed)) refl after parts.legal_then parts.legal_after
  where
    of_event : IsAllowed w before (Fire t s ms cs) → (done : List Event) (e : Event) → IsAllowed w ((before ++ Fire t s ms cs ∷ []) ++ done) e → fired_in w (e ∷ []) i ≡ []
    of_event first done (Fire u r ns bs) allowed = of_test (is_branch_where w (is_placement_in i) r) refl
      where
        of_test : (b : Bool) → is_branch_where w (is_placement_in i) r ≡ b → map (λ (f : Firing). f.task) (if b then record { task = u; spot = r; messages = ns; cuts = bs } ∷ [] else []) ≡ []
        of_test false e = refl
        of_test true e = absurd (dead w groups_fit i ((before ++ Fire t s ms cs ∷ []) ++ done) t (record { task = t; spot = s; messages = ms; cuts = cs }) r (fired_then w before t s ms cs done first) tears (FiresSo-allowed w ((before ++ Fire t s ms cs ∷ []) ++ done) u r ns bs allowed).live e)
    of_event first done (Post m) allowed = refl
    of_event first done (Admit u) allowed = refl
    of_event first done (Put u d) allowed = refl
    of_event first done (Start u a) allowed = refl
    of_event first done (End u how) allowed = refl

-- what an allowed admission says
pub record AdmitFacts (w : Parts) (h : List Event) (t : TaskId) : Type 0 where
  pub placement : Placement
  pub is_placement : placement_of w h t ≡ Some placement
  pub waits : has_task (waiting w h placement.domain) t ≡ true
  pub may_be_admitted : may_admit w h t ≡ true

pub AdmitFacts-allowed : (w : Parts) (h : List Event) (t : TaskId) → IsAllowed w h (Admit t) → AdmitFacts w h t
AdmitFacts-allowed w h t allowed =
    let a = refused_not (is_oldest_waiting w h t) _ _ allowed in
    let b = refused_not (may_admit w h t) _ None a.1 in
    let found = some_of (λ (s : Placement). is_first (waiting w h s.domain) t) (placement_of w h t) a.0 in
    let head = first_rest (waiting w h found.0.domain) t found.2 in
    record { placement = found.0; is_placement = found.1; waits = has_oldest (waiting w h found.0.domain) head.0 t head.1; may_be_admitted = b.0 }

-- a cut task is neither admitted nor put; a branch's task of an Interleave was admitted before it was put
pub record CutFacts (w : Parts) (h : List Event) : Type 0 where
  pub not_ever_admitted : (t : TaskId) → has_task (cut h) t ≡ true → has_task (ever_admitted h) t ≡ false
  pub not_put : (t : TaskId) → has_task (cut h) t ≡ true → has_task (put h) t ≡ false
  pub entered : (t : TaskId) (f : Firing) → has_task (put h) t ≡ true → firing_named h t ≡ Some f → needs_no_admission w f.spot || has_task (ever_admitted h) t ≡ true

-- who is cut waited
pub cuts_wait : (w : Parts) (h : List Event) (s : Spot) (t : TaskId) → has_task (cuts_at w h s) t ≡ true → (i : ℕ) × (has_task (waiting w h i) t ≡ true)
cuts_wait w h (Site b k) t among = absurd (cc)
cuts_wait w h (Branch b) t among = of_option (placement w b) among
  where
    of_option : (o : Option Placement) → has_task (option_map_or (λ (z : Placement). if is_teardown z.branch.group then waiting w h z.domain else []) o []) t ≡ true → (i : ℕ) × (has_task (waiting w h i) t ≡ true)
    of_option None is = absurd (cc)
    of_option (Some z) is = of_test (is_teardown z.branch.group) is
      where
        of_test : (b : Bool) → has_task (if b then waiting w h z.domain else []) t ≡ true → (i : ℕ) × (has_task (waiting w h i) t ≡ true)
        of_test true is' = (z.domain, is')
        of_test false is' = absurd (cc)

-- a waiting task wasn't put
pub waits_unput : (w : Parts) (h : List Event) (i : ℕ) (t : TaskId) → CutFacts w h → WaitingFacts w h i t → has_task (put h) t ≡ false
waits_unput w h i t known waits = refuted (has_task (put h) t) (λ is. no_both (known.entered t waits.firing is waits.is_firing) (waits_outside w h i t waits))

-- the firing of a task that fired before
pub firing_back : (h es : List Event) (t : TaskId) (f : Firing) → IsFired h t → firing_named (h ++ es) t ≡ Some f → firing_named h t ≡ Some f
firing_back h es t f fired is =
    let stays = firing_named-append h es t fired.0 fired.1 in
    let one : fired.0 ≡ f = cc in
    subst (λ g. firing_named h t ≡ Some g) one fired.1

pub cut_by : (w : Parts) (h : List Event) (t : TaskId) (s : Spot) (ms : List MsgId) (cs : List TaskId) → OneName h → IsAllowed w h (Fire t s ms cs) → (u : TaskId) → has_task (cs ++ []) u ≡ true → (i : ℕ) × WaitingFacts w h i u
cut_by w h t s ms cs one allowed u among =
    let so = (FiresSo-allowed w h t s ms cs allowed).cuts in
    let there : has_task (cuts_at w h s) u ≡ true = subst (λ ts. has_task ts u ≡ true) (append-nil cs ∙ so) among in
    let waits = cuts_wait w h s u there in
    (waits.0, WaitingFacts-waiting w h waits.0 u one waits.1)

CutFacts-fire : (w : Parts) (h : List Event) (t : TaskId) (s : Spot) (ms : List MsgId) (cs : List TaskId) → OneName h → ArePlaced h → IsAllowed w h (Fire t s ms cs) → CutFacts w h → CutFacts w (h ++ Fire t s ms cs ∷ [])
CutFacts-fire w h t s ms cs one placed allowed known = record {
  not_ever_admitted = λ u among. rw (ever_admitted-push h (Fire t s ms cs), append-nil (ever_admitted h)) (of_more (cut h) (cs ++ []) u (has_task (ever_admitted h) u ≡ false) (cut_more u among) (known.not_ever_admitted u) (λ new. (cut_by w h t s ms cs one allowed u new).1.not_ever_admitted));
  not_put = λ u among. rw (put-push h (Fire t s ms cs), append-nil (put h)) (of_more (cut h) (cs ++ []) u (has_task (put h) u ≡ false) (cut_more u among) (known.not_put u) (λ new. (let waits = cut_by w h t s ms cs one allowed u new in waits_unput w h waits.0 u known waits.1)));
  entered = λ u f among is. rw (ever_admitted-push h (Fire t s ms cs), append-nil (ever_admitted h)) (let there = rw (put-push h (Fire t s ms cs), append-nil (put h)) at among in known.entered u f there (firing_back h (Fire t s ms cs ∷ []) u f (placed.all_fired u there) is));
}
  where
    cut_more : (u : TaskId) → has_task (cut (h ++ Fire t s ms cs ∷ [])) u ≡ true → has_task (cut h ++ (cs ++ [])) u ≡ true
    cut_more u among = subst (λ ts. has_task ts u ≡ true) (cut-push h (Fire t s ms cs)) among

same_cut : (h : List Event) (e : Event) → cut (e ∷ []) ≡ [] → cut (h ++ e ∷ []) ≡ cut h
same_cut h e none = rw (cut-push, none, append-nil) refl

-- entered, by a longer list of those let in
entered_more : (a : Bool) (ts us : List TaskId) (t : TaskId) → a || has_task ts t ≡ true → a || has_task (ts ++ us) t ≡ true
entered_more true ts us t is = refl
entered_more false ts us t is = among_left ts us t is

CutFacts-admit : (w : Parts) (h : List Event) (t : TaskId) → OneName h → ArePlaced h → IsAllowed w h (Admit t) → CutFacts w h → CutFacts w (h ++ Admit t ∷ [])
CutFacts-admit w h t one placed allowed known =
    let facts = AdmitFacts-allowed w h t allowed in
    let waits = WaitingFacts-waiting w h facts.placement.domain t one facts.waits in
    record {
      not_ever_admitted = λ u among. rw (ever_admitted-push h (Admit t)) (let there = subst (λ ts. has_task ts u ≡ true) (same_cut h (Admit t) refl) among in not_more (ever_admitted h) (t ∷ []) u (known.not_ever_admitted u there) (not_one t u (cut h) waits.not_cut there));
      not_put = λ u among. rw (put-push h (Admit t), append-nil (put h)) (known.not_put u (subst (λ ts. has_task ts u ≡ true) (same_cut h (Admit t) refl) among));
      entered = λ u f among is. rw (ever_admitted-push h (Admit t)) (let there = rw (put-push h (Admit t), append-nil (put h)) at among in entered_more (needs_no_admission w f.spot) (ever_admitted h) (t ∷ []) u (known.entered u f there (firing_back h (Admit t ∷ []) u f (placed.all_fired u there) is)));
    }

CutFacts-put : (w : Parts) (h : List Event) (t : TaskId) (d : Option TaskId) → ArePlaced h → IsAllowed w h (Put t d) → CutFacts w h → CutFacts w (h ++ Put t d ∷ [])
CutFacts-put w h t d placed allowed known =
    let facts = PutFacts-allowed w h t d allowed in
    record {
      not_ever_admitted = λ u among. rw (ever_admitted-push h (Put t d), append-nil (ever_admitted h)) (known.not_ever_admitted u (subst (λ ts. has_task ts u ≡ true) (same_cut h (Put t d) refl) among));
      not_put = λ u among. rw (put-push h (Put t d)) (let there = subst (λ ts. has_task ts u ≡ true) (same_cut h (Put t d) refl) among in not_more (put h) (t ∷ []) u (known.not_put u there) (not_one t u (cut h) facts.not_cut there));
      entered = λ u f among is. rw (ever_admitted-push h (Put t d), append-nil (ever_admitted h)) (of_more (put h) (t ∷ []) u (needs_no_admission w f.spot || has_task (ever_admitted h) u ≡ true) (subst (λ ts. has_task ts u ≡ true) (put-push h (Put t d)) among) (λ old. known.entered u f old (firing_back h (Put t d ∷ []) u f (placed.all_fired u old) is)) (λ new. this facts u f new is));
    }
  where
    this : PutFacts w h t → (u : TaskId) (f : Firing) → has_task (t ∷ []) u ≡ true → firing_named (h ++ Put t d ∷ []) u ≡ Some f → needs_no_admission w f.spot || has_task (ever_admitted h) u ≡ true
    this facts u f new is =
        let one : u ≡ t = of_one t u new in
        let found : firing_named h t ≡ Some f = firing_back h (Put t d ∷ []) t f (facts.firing, facts.is_firing) (subst (λ x. firing_named (h ++ Put t d ∷ []) x ≡ Some f) one is) in
        let is_it : Some facts.firing ≡ Some f = sym facts.is_firing ∙ found in
        let same : facts.firing ≡ f = cc in
        rw (one, ← same) facts.entered

CutFacts-other : (w : Parts) (h : List Event) (e : Event) → cut (e ∷ []) ≡ [] → admitted_by e ≡ [] → put_by e ≡ [] → ArePlaced h → CutFacts w h → CutFacts w (h ++ e ∷ [])
CutFacts-other w h e no_cut no_admit no_put placed known = record {
  not_ever_admitted = λ u among. subst (λ ts. has_task ts u ≡ false) (sym same_ever_admitted) (known.not_ever_admitted u (subst (λ ts. has_task ts u ≡ true) (same_cut h e no_cut) among));
  not_put = λ u among. subst (λ ts. has_task ts u ≡ false) (sym same_put) (known.not_put u (subst (λ ts. has_task ts u ≡ true) (same_cut h e no_cut) among));
  entered = λ u f among is. subst (λ ts. needs_no_admission w f.spot || has_task ts u ≡ true) (sym same_ever_admitted) (let there = subst (λ ts. has_task ts u ≡ true) same_put among in known.entered u f there (firing_back h (e ∷ []) u f (placed.all_fired u there) is));
}
  where
    same_ever_admitted : ever_admitted (h ++ e ∷ []) ≡ ever_admitted h
    same_ever_admitted = ever_admitted-push h e ∙ (ap (λ ts. ever_admitted h ++ ts) no_admit ∙ append-nil (ever_admitted h))

    same_put : put (h ++ e ∷ []) ≡ put h
    same_put = put-push h e ∙ (ap (λ ts. put h ++ ts) no_put ∙ append-nil (put h))

CutFacts_kept : (w : Parts) (h : List Event) (e : Event) → IsLegal w h → IsAllowed w h e → CutFacts w h → CutFacts w (h ++ e ∷ [])
CutFacts_kept w h (Fire t s ms cs) legal allowed known = CutFacts-fire w h t s ms cs (OneName-legal w h legal) (ArePlaced-legal w h legal) allowed known
CutFacts_kept w h (Admit t) legal allowed known = CutFacts-admit w h t (OneName-legal w h legal) (ArePlaced-legal w h legal) allowed known
CutFacts_kept w h (Put t d) legal allowed known = CutFacts-put w h t d (ArePlaced-legal w h legal) allowed known
CutFacts_kept w h (Post m) legal allowed known = CutFacts-other w h (Post m) refl refl refl (ArePlaced-legal w h legal) known
CutFacts_kept w h (Start t a) legal allowed known = CutFacts-other w h (Start t a) refl refl refl (ArePlaced-legal w h legal) known
CutFacts_kept w h (End t how) legal allowed known = CutFacts-other w h (End t how) refl refl refl (ArePlaced-legal w h legal) known

pub CutFacts-legal : (w : Parts) (h : List Event) → IsLegal w h → CutFacts w h
CutFacts-legal w h legal = along_legal w (CutFacts w) (CutFacts_kept w) (record { not_ever_admitted = λ t is. absurd (cc); not_put = λ t is. absurd (cc); entered = λ t f is found. absurd (cc) }) h legal

-- after teardown, second part: who was cut is neither admitted nor put, and never starts
pub cut_not_ever_admitted : (w : Parts) (h : List Event) → IsLegal w h → (t : TaskId) → has_task (cut h) t ≡ true → has_task (ever_admitted h) t ≡ false
cut_not_ever_admitted w h legal = (CutFacts-legal w h legal).not_ever_admitted

pub cut_not_put : (w : Parts) (h : List Event) → IsLegal w h → (t : TaskId) → has_task (cut h) t ≡ true → has_task (put h) t ≡ false
cut_not_put w h legal = (CutFacts-legal w h legal).not_put

pub cut_not_started : (w : Parts) (h : List Event) → IsLegal w h → (t : TaskId) → has_task (cut h) t ≡ true → has_task (started h) t ≡ false
cut_not_started w h legal t is = not_within (started h) (put h) t ((ArePlaced-legal w h legal).lists.put_started t) (cut_not_put w h legal t is)

-- whom an allowed event cuts had fired
pub cut_now_fired : (w : Parts) (h : List Event) (e : Event) → IsLegal w h → IsAllowed w h e → AreFired h (cut (e ∷ []))
cut_now_fired w h (Fire t s ms cs) legal allowed u is = let waits = cut_by w h t s ms cs (OneName-legal w h legal) allowed u is in (waits.1.firing, waits.1.is_firing)
cut_now_fired w h (Post m) legal allowed u is = absurd (cc)
cut_now_fired w h (Admit t) legal allowed u is = absurd (cc)
cut_now_fired w h (Put t d) legal allowed u is = absurd (cc)
cut_now_fired w h (Start t a) legal allowed u is = absurd (cc)
cut_now_fired w h (End t how) legal allowed u is = absurd (cc)

-- and so had all who were cut
pub cut_fired : (w : Parts) (h : List Event) → IsLegal w h → AreFired h (cut h)
cut_fired w = along_legal w (λ h. AreFired h (cut h)) kept (λ u is. absurd (cc))
  where
    kept : (h : List Event) (e : Event) → IsLegal w h → IsAllowed w h e → AreFired h (cut h) → AreFired (h ++ e ∷ []) (cut (h ++ e ∷ []))
    kept h e legal allowed known u is = IsFired-append h (e ∷ []) u (of_more (cut h) (cut (e ∷ [])) u _ (subst (λ ts. has_task ts u ≡ true) (cut-push h e) is) (known u) (cut_now_fired w h e legal allowed u))

-- no branch outside Interleaves tears down
pub no_teardown_outside : (k : Kind) (g : Group) → may_have k g ≡ true → is_interleave k ≡ false → is_teardown g ≡ false
no_teardown_outside k groups.Once may is = refl
no_teardown_outside k groups.Always may is = refl
no_teardown_outside k groups.Choice may is = refl
no_teardown_outside k groups.Exclusive may is = refl
no_teardown_outside k groups.Concurrent may is = refl
no_teardown_outside kinds.Receive groups.Teardown may is = absurd (cc)
no_teardown_outside kinds.Choice groups.Teardown may is = absurd (cc)
no_teardown_outside kinds.Interleave groups.Teardown may is = absurd (cc)
