-- exclusion: of the admitted roots of an Interleave that aren't over, all are concurrent or there is one.
use Rattle.std.proofs.Common.{◌≡◌, ℕ, ◌≤◌, ◌⊎◌, inl, inr, Bool, true, false, not, ◌&&◌, ◌||◌, List, [], ◌∷◌, ◌++◌, length, filter, Option, Some, None, option_to_list, refl, sym, arith, ap, ◌∙◌, subst, append-nil}
use Rattle.std.specs.Prelude.{◌==◌, if◌then◌else◌, nat_le}
use Rattle.std.specs.List.{slice_get, list_any, list_all}
use Rattle.std.specs.Option.{option_map_or}
use Rattle.std.proofs.lemmas.Grind.{common_steps}
use Rattle.std.proofs.lemmas.Bool.Decides.{nat_tests}
use Rattle.ccr_base.specs.declared.names.TaskId.{TaskId}
use Rattle.ccr_wiring.specs.declared.parts.Parts.{Parts}
use Rattle.ccr_base.specs.declared.policies.Policy.{Policy}
use Rattle.ccr_base.specs.declared.policies.Policy.TheVariants.{Unbounded, Discard, Throttle}
use Rattle.ccr_model.specs.declared.history.Event.{Event}
use Rattle.ccr_model.specs.declared.history.Event.TheVariants.{Post, Fire, Admit, Put, Start, End}
use Rattle.ccr_model.specs.declared.history.EndHow.{EndHow}
use Rattle.ccr_model.specs.declared.history.EndHow.TheVariants as ends
use Rattle.ccr_base.specs.Names.{same_task, same_options, has_task, without}
use Rattle.ccr_wiring.specs.Wirings.{Placement, policy_of}
use Rattle.ccr_model.specs.Firings.{ever_admitted, admitted_by, last_segments, last_by, started, put, dropped}
use Rattle.ccr_model.specs.Sites.{root_of}
use Rattle.ccr_model.specs.TaskData.{placement_of}
use Rattle.ccr_model.specs.Tasks.{waiting, queued, is_for_queue, running, is_over, is_of_domain, admitted, is_concurrent}
use Rattle.ccr_model.specs.Live.{is_none_of}
use Rattle.ccr_model.specs.Rules.{is_oldest_waiting, is_first, may_admit, may_put, drop_at, drop_by, is_concurrent_task}
use Rattle.ccr_model.specs.Legal.{IsAllowed, IsLegal}
use Rattle.ccr_model.specs.Consequences.{keeps_exclusion}
use Rattle.ccr_model.proofs.PostNames.{along, refused_not}
use Rattle.ccr_model.proofs.Allowing.{head_passes}
use Rattle.ccr_model.proofs.LegalIsCovered.{AreStarted, AreStarted_kept, running_started}
use Rattle.ccr_model.proofs.OneMoreEvent.{last-push, ever_admitted-push}
use Rattle.ccr_base.proofs.Options.{some_of, some_then, head_rest}
use Rattle.ccr_base.proofs.SameNames.{same_task-is, same_task-self}
use Rattle.ccr_base.proofs.Booleans.{both, or_left, or_right}
use Rattle.ccr_model.proofs.FiredTasks.{IsFired, AreFired, IsFired-append, none_fired, placement_fired, placement_stays, root_stays}
use Rattle.ccr_model.proofs.Members.{some_among, any_among}
use Rattle.ccr_model.proofs.TasksLeft.{has_among}
use Rattle.ccr_base.proofs.Lists.{any_left}

AreFired-append : (h es : List Event) (ts : List TaskId) → AreFired h ts → AreFired (h ++ es) ts
AreFired-append h es ts all t is = IsFired-append h es t (all t is)

AreFired-more : (h : List Event) (ts us : List TaskId) → AreFired h ts → AreFired h us → AreFired h (ts ++ us)
AreFired-more h [] us all more = more
AreFired-more h (x ∷ ts) us all more = λ t is. in_either t (same_task t x) refl is (all t) (AreFired-more h ts us (λ u among. all u (or_right (same_task u x) (has_task ts u) among)) more t)
  where
    in_either : (t : TaskId) (b : Bool) → same_task t x ≡ b → b || has_task (ts ++ us) t ≡ true → (has_task (x ∷ ts) t ≡ true → IsFired h t) → (has_task (ts ++ us) t ≡ true → IsFired h t) → IsFired h t
    in_either t true e is one rest = one (or_left (same_task t x) (has_task ts t) e)
    in_either t false e is one rest = rest is

AreFired-one : (h : List Event) (t : TaskId) → IsFired h t → AreFired h (t ∷ [])
AreFired-one h t fired u is = let same : t ≡ u = sym (same_task-is u t (grind (arith, is))) in subst (IsFired h) same fired

-- a dropped task fired
drop_first : (p : Policy) (ts : List TaskId) (t : TaskId) → drop_by p ts ≡ Some t → slice_get ts 0 ≡ Some t
drop_first Unbounded ts t is = absurd (cc)
drop_first (Throttle n) ts t is = absurd (cc)
drop_first (Discard n) ts t is = of_test (nat_le n (length ts)) is
  where
    of_test : (b : Bool) → (if b then slice_get ts 0 else None) ≡ Some t → slice_get ts 0 ≡ Some t
    of_test true e = e
    of_test false e = absurd (cc)

drop_fired : (w : Parts) (h : List Event) (t : TaskId) (d : Option TaskId) → same_options same_task d (drop_at w h t) ≡ true → AreFired h (option_to_list d)
drop_fired w h t None is = λ u among. absurd (cc)
drop_fired w h t (Some x) is = of_option (drop_at w h t) refl is
  where
    of_option : (o : Option TaskId) → drop_at w h t ≡ o → same_options same_task (Some x) o ≡ true → AreFired h (x ∷ [])
    of_option None e same = absurd (cc)
    of_option (Some y) e same =
        let found = some_then (λ (s : Placement). drop_by (policy_of w s.branch.queue) (queued w h s.branch.queue)) (placement_of w h t) y e in
        let head = head_rest (queued w h found.0.branch.queue) y (drop_first (policy_of w found.0.branch.queue) (queued w h found.0.branch.queue) y found.2) in
        let passes = head_passes (is_for_queue w h found.0.branch.queue) (without (put h) (started h ++ dropped h)) y head.0 head.1 in
        let placed = some_of (λ (s : Placement). s.branch.queue == found.0.branch.queue) (placement_of w h y) passes in
        let one : y ≡ x = sym (same_task-is x y same) in
        AreFired-one h x (subst (IsFired h) one (placement_fired w h y placed.0 placed.1))

end_fired : (h : List Event) (t : TaskId) (how : EndHow) → IsFired h t → AreFired h (last_by (End t how))
end_fired h t ends.Done fired = AreFired-one h t fired
end_fired h t (ends.Failed v) fired = AreFired-one h t fired
end_fired h t ends.Shed fired = AreFired-one h t fired
end_fired h t ends.Yield fired = λ u is. absurd (cc)

last_fired : (w : Parts) (h : List Event) (e : Event) → AreStarted h → IsAllowed w h e → AreFired h (last_by e)
last_fired w h (End t how) known allowed = let a = refused_not (has_task (running h) t) _ _ allowed in end_fired h t how (known.named t (running_started h t a.0))
last_fired w h (Put t d) known allowed = let a = refused_not (may_put w h t) _ _ allowed in drop_fired w h t d (refused_not (same_options same_task d (drop_at w h t)) _ None a.1).0
last_fired w h (Post m) known allowed = none_fired h
last_fired w h (Fire t s ms cs) known allowed = none_fired h
last_fired w h (Admit t) known allowed = none_fired h
last_fired w h (Start t a) known allowed = none_fired h

let_fired : (w : Parts) (h : List Event) (e : Event) → IsAllowed w h e → AreFired h (admitted_by e)
let_fired w h (Admit t) allowed =
    let a = refused_not (is_oldest_waiting w h t) _ _ allowed in
    let found = some_of (λ (s : Placement). is_first (waiting w h s.domain) t) (placement_of w h t) a.0 in
    AreFired-one h t (placement_fired w h t found.0 found.1)
let_fired w h (Post m) allowed = none_fired h
let_fired w h (Fire t s ms cs) allowed = none_fired h
let_fired w h (Put t d) allowed = none_fired h
let_fired w h (Start t a) allowed = none_fired h
let_fired w h (End t how) allowed = none_fired h

any_more : (p q : TaskId → Bool) (ts us : List TaskId) → ((t : TaskId) → has_task ts t ≡ true → p t ≡ q t) → list_any p ts ≡ true → list_any q (ts ++ us) ≡ true
any_more p q ts us same is =
    let found = some_among p ts is in
    any_left q ts us (any_among q ts found.0 found.1 (sym (same found.0 (has_among ts found.0 found.1)) ∙ found.2))

-- who is over stays over
pub over_stays : (h : List Event) (e : Event) (t : TaskId) → AreFired h (last_segments h) → is_over h t ≡ true → is_over (h ++ e ∷ []) t ≡ true
over_stays h e t all is = rw last-push (any_more (λ u. same_task (root_of h u) t) (λ u. same_task (root_of (h ++ e ∷ []) u) t) (last_segments h) (last_by e) (λ u among. ap (λ r. same_task r t) (sym (root_stays h (e ∷ []) u (all u among)))) is)

-- over plain lists: a narrower test keeps all-or-one
all_narrower : (c c' p p' : TaskId → Bool) (ts : List TaskId) → ((t : TaskId) → has_task ts t ≡ true → p' t ≡ true → p t ≡ true) → ((t : TaskId) → has_task ts t ≡ true → c' t ≡ c t) → list_all c (filter p ts) ≡ true → list_all c' (filter p' ts) ≡ true
all_narrower c c' p p' [] narrow same is = refl
all_narrower c c' p p' (x ∷ ts) narrow same is =
    let here = or_left (same_task x x) (has_task ts x) (same_task-self x) in
    of_tests (p x) (p' x) refl refl (narrow x here) (same x here) is (all_narrower c c' p p' ts (λ t among. narrow t (or_right (same_task t x) (has_task ts t) among)) (λ t among. same t (or_right (same_task t x) (has_task ts t) among)))
  where
    of_tests : (a b : Bool) → p x ≡ a → p' x ≡ b → (p' x ≡ true → p x ≡ true) → c' x ≡ c x → list_all c (if a then x ∷ filter p ts else filter p ts) ≡ true → (list_all c (filter p ts) ≡ true → list_all c' (filter p' ts) ≡ true) → list_all c' (if b then x ∷ filter p' ts else filter p' ts) ≡ true
    of_tests true true e f wider one all rest = let parts = both (c x) (list_all c (filter p ts)) all in rw (one, parts.0) (rest parts.1)
    of_tests true false e f wider one all rest = rest (both (c x) (list_all c (filter p ts)) all).1
    of_tests false false e f wider one all rest = rest all
    of_tests false true e f wider one all rest = let wide : p x ≡ true = wider f in absurd (cc)

few_narrower : (p p' : TaskId → Bool) (ts : List TaskId) → ((t : TaskId) → has_task ts t ≡ true → p' t ≡ true → p t ≡ true) → length (filter p' ts) ≤ length (filter p ts)
few_narrower p p' [] narrow = omega arith
few_narrower p p' (x ∷ ts) narrow =
    let here = narrow x (or_left (same_task x x) (has_task ts x) (same_task-self x)) in
    grind (arith, here, few_narrower p p' ts (λ t among. narrow t (or_right (same_task t x) (has_task ts t) among)))

alone_narrower : (c c' p p' : TaskId → Bool) (ts : List TaskId) → ((t : TaskId) → has_task ts t ≡ true → p' t ≡ true → p t ≡ true) → ((t : TaskId) → has_task ts t ≡ true → c' t ≡ c t) → list_all c (filter p ts) || nat_le (length (filter p ts)) 1 ≡ true → list_all c' (filter p' ts) || nat_le (length (filter p' ts)) 1 ≡ true
alone_narrower c c' p p' ts narrow same is = of_test (list_all c (filter p ts)) refl is
  where
    of_test : (b : Bool) → list_all c (filter p ts) ≡ b → b || nat_le (length (filter p ts)) 1 ≡ true → list_all c' (filter p' ts) || nat_le (length (filter p' ts)) 1 ≡ true
    of_test true e one = or_left _ (nat_le (length (filter p' ts)) 1) (all_narrower c c' p p' ts narrow same e)
    of_test false e one = or_right (list_all c' (filter p' ts)) _ (grind (arith, nat_tests, few_narrower p p' ts narrow, one))

-- what is known along a history
record Known (w : Parts) (h : List Event) : Type 0 where
  starts : AreStarted h
  lasts : AreFired h (last_segments h)
  lets : AreFired h (ever_admitted h)
  alone : (i : ℕ) → keeps_exclusion w h i ≡ true

-- the test of admitted roots narrows
stays_narrow : (w : Parts) (h : List Event) (e : Event) (i : ℕ) (t : TaskId) → AreFired h (last_segments h) → IsFired h t → is_of_domain w (h ++ e ∷ []) i t && not (is_over (h ++ e ∷ []) t) ≡ true → is_of_domain w h i t && not (is_over h t) ≡ true
stays_narrow w h e i t lasts fired is =
    let placement_so = placement_stays w h (e ∷ []) t fired in
    let parts = both (is_of_domain w (h ++ e ∷ []) i t) (not (is_over (h ++ e ∷ []) t)) is in
    let within : is_of_domain w h i t ≡ true = rw placement_so at parts.0 in
    of_test (is_over h t) refl within (λ over. over_stays h e t lasts over) parts.1
  where
    of_test : (b : Bool) → is_over h t ≡ b → is_of_domain w h i t ≡ true → (is_over h t ≡ true → is_over (h ++ e ∷ []) t ≡ true) → not (is_over (h ++ e ∷ []) t) ≡ true → is_of_domain w h i t && not (is_over h t) ≡ true
    of_test false e' within stays live = rw (within, e') refl
    of_test true e' within stays live = let over = stays e' in absurd (cc (rw over at live))

concurrent_stays : (w : Parts) (h es : List Event) (t : TaskId) → IsFired h t → is_concurrent_task w (h ++ es) t ≡ is_concurrent_task w h t
concurrent_stays w h es t fired = rw (placement_stays w h es t fired) refl

alone_other : (w : Parts) (h : List Event) (e : Event) → ever_admitted (h ++ e ∷ []) ≡ ever_admitted h → Known w h → (i : ℕ) → keeps_exclusion w (h ++ e ∷ []) i ≡ true
alone_other w h e same known i =
    rw same (alone_narrower (is_concurrent_task w h) (is_concurrent_task w (h ++ e ∷ [])) (λ t. is_of_domain w h i t && not (is_over h t)) (λ t. is_of_domain w (h ++ e ∷ []) i t && not (is_over (h ++ e ∷ []) t)) (ever_admitted h)
    (λ t among. stays_narrow w h e i t known.lasts (known.lets t among)) (λ t among. concurrent_stays w h (e ∷ []) t (known.lets t among)) (known.alone i))

-- over plain lists: one more is let in
one_more : (c : TaskId → Bool) (p : TaskId → Bool) (ts : List TaskId) (t : TaskId) → (p t ≡ true → ((c t ≡ true) × (list_all c (filter p ts) ≡ true)) ⊎ (length (filter p ts) ≡ 0)) → list_all c (filter p ts) || nat_le (length (filter p ts)) 1 ≡ true → list_all c (filter p (ts ++ t ∷ [])) || nat_le (length (filter p (ts ++ t ∷ []))) 1 ≡ true
one_more c p ts t may_be_admitted is = of_test (p t) refl may_be_admitted
  where
    of_test : (b : Bool) → p t ≡ b → (p t ≡ true → ((c t ≡ true) × (list_all c (filter p ts) ≡ true)) ⊎ (length (filter p ts) ≡ 0)) → list_all c (filter p (ts ++ t ∷ [])) || nat_le (length (filter p (ts ++ t ∷ []))) 1 ≡ true
    of_test false e enters' = grind (arith, common_steps, e, is)
    of_test true e enters' = by_case (enters' e)
      where
        by_case : ((c t ≡ true) × (list_all c (filter p ts) ≡ true)) ⊎ (length (filter p ts) ≡ 0) → list_all c (filter p (ts ++ t ∷ [])) || nat_le (length (filter p (ts ++ t ∷ []))) 1 ≡ true
        by_case (inl all) = or_left _ (nat_le (length (filter p (ts ++ t ∷ []))) 1) (grind (arith, common_steps, e, all.0, all.1))
        by_case (inr none) = let one : length (filter p (ts ++ t ∷ [])) ≡ 1 = grind (arith, common_steps, e, none) in or_right (list_all c (filter p (ts ++ t ∷ []))) _ (rw one refl)

-- what an allowed admission says of those in its Interleave
may_be_admitted : (w : Parts) (h : List Event) (t : TaskId) (i : ℕ) → may_admit w h t ≡ true → is_of_domain w h i t ≡ true → ((is_concurrent_task w h t ≡ true) × (list_all (is_concurrent_task w h) (admitted w h i) ≡ true)) ⊎ (length (admitted w h i) ≡ 0)
may_be_admitted w h t i may within =
    let test : Placement → Bool = λ s. (if is_concurrent s.branch.group then list_all (is_concurrent_task w h) (admitted w h s.domain) else is_none_of (admitted w h s.domain)) in
    let found = some_of test (placement_of w h t) may in
    let there : (found.0.domain == i) ≡ true = rw found.1 at within in
    let number : found.0.domain ≡ i = grind (arith, nat_tests, there) in
    let group : is_concurrent_task w h t ≡ is_concurrent found.0.branch.group = ap (λ o. option_map_or (λ (s : Placement). is_concurrent s.branch.group) o false) found.1 in
    by_group (is_concurrent found.0.branch.group) group (subst (λ n. (if is_concurrent found.0.branch.group then list_all (is_concurrent_task w h) (admitted w h n) else is_none_of (admitted w h n)) ≡ true) number found.2)
  where
    by_group : (b : Bool) → is_concurrent_task w h t ≡ b → (if b then list_all (is_concurrent_task w h) (admitted w h i) else is_none_of (admitted w h i)) ≡ true → ((is_concurrent_task w h t ≡ true) × (list_all (is_concurrent_task w h) (admitted w h i) ≡ true)) ⊎ (length (admitted w h i) ≡ 0)
    by_group true e all = inl (e, all)
    by_group false e none = inr (grind (arith, nat_tests, none))

alone_admit : (w : Parts) (h : List Event) (t : TaskId) → IsAllowed w h (Admit t) → Known w h → (i : ℕ) → keeps_exclusion w (h ++ Admit t ∷ []) i ≡ true
alone_admit w h t allowed known i =
    let a = refused_not (is_oldest_waiting w h t) _ _ allowed in
    let may = (refused_not (may_admit w h t) _ None a.1).0 in
    let placement_at = some_of (λ (s : Placement). is_first (waiting w h s.domain) t) (placement_of w h t) a.0 in
    let fired = placement_fired w h t placement_at.0 placement_at.1 in
    let g = h ++ Admit t ∷ [] in
    let now : TaskId → Bool = λ u. is_of_domain w g i u && not (is_over g u) in
    let was : TaskId → Bool = λ u. is_of_domain w h i u && not (is_over h u) in
    let narrow : (u : TaskId) → has_task (ever_admitted h) u ≡ true → now u ≡ true → was u ≡ true = λ u among. stays_narrow w h (Admit t) i u known.lasts (known.lets u among) in
    let same : (u : TaskId) → has_task (ever_admitted h) u ≡ true → is_concurrent_task w g u ≡ is_concurrent_task w h u = λ u among. concurrent_stays w h (Admit t ∷ []) u (known.lets u among) in
    rw ever_admitted-push (one_more (is_concurrent_task w g) now (ever_admitted h) t
    (λ passes. by_case (may_be_admitted w h t i may (both (is_of_domain w h i t) (not (is_over h t)) (stays_narrow w h (Admit t) i t known.lasts fired passes)).0) (concurrent_stays w h (Admit t ∷ []) t fired) (all_narrower (is_concurrent_task w h) (is_concurrent_task w g) was now (ever_admitted h) narrow same) (few_narrower was now (ever_admitted h) narrow))
    (alone_narrower (is_concurrent_task w h) (is_concurrent_task w g) was now (ever_admitted h) narrow same (known.alone i)))
  where
    by_case : {A B C D : Bool} {n m : ℕ} → ((A ≡ true) × (B ≡ true)) ⊎ (n ≡ 0) → C ≡ A → (B ≡ true → D ≡ true) → m ≤ n → ((C ≡ true) × (D ≡ true)) ⊎ (m ≡ 0)
    by_case (inl all) is rest few = inl (is ∙ all.0, rest all.1)
    by_case (inr none) is rest few = inr (omega arith)

Known_kept : (w : Parts) (h : List Event) (e : Event) → Known w h → IsAllowed w h e → Known w (h ++ e ∷ [])
Known_kept w h e known allowed = record {
  starts = AreStarted_kept w h e known.starts allowed;
  lasts = rw last-push (AreFired-append h (e ∷ []) (last_segments h ++ last_by e) (AreFired-more h (last_segments h) (last_by e) known.lasts (last_fired w h e known.starts allowed)));
  lets = rw ever_admitted-push (AreFired-append h (e ∷ []) (ever_admitted h ++ admitted_by e) (AreFired-more h (ever_admitted h) (admitted_by e) known.lets (let_fired w h e allowed)));
  alone = alone_kept w h e known allowed;
}
  where
    other : (h : List Event) (e : Event) → admitted_by e ≡ [] → ever_admitted (h ++ e ∷ []) ≡ ever_admitted h
    other h e none = rw (ever_admitted-push, none, append-nil) refl

    alone_kept : (w : Parts) (h : List Event) (e : Event) → Known w h → IsAllowed w h e → (i : ℕ) → keeps_exclusion w (h ++ e ∷ []) i ≡ true
    alone_kept w h (Admit t) known allowed = alone_admit w h t allowed known
    alone_kept w h (Post m) known allowed = alone_other w h (Post m) (other h (Post m) refl) known
    alone_kept w h (Fire t s ms cs) known allowed = alone_other w h (Fire t s ms cs) (other h (Fire t s ms cs) refl) known
    alone_kept w h (Put t d) known allowed = alone_other w h (Put t d) (other h (Put t d) refl) known
    alone_kept w h (Start t a) known allowed = alone_other w h (Start t a) (other h (Start t a) refl) known
    alone_kept w h (End t how) known allowed = alone_other w h (End t how) (other h (End t how) refl) known

Known-legal : (w : Parts) (h : List Event) → IsLegal w h → Known w h
Known-legal w h legal = along w (Known w) (Known_kept w) (record { starts = record { named = λ t is. absurd (cc); once = refl }; lasts = none_fired []; lets = none_fired []; alone = λ i. refl }) h legal

-- the tasks of the last segments fired
pub lasts_fired : (w : Parts) (h : List Event) → IsLegal w h → AreFired h (last_segments h)
lasts_fired w h legal = (Known-legal w h legal).lasts

-- who was admitted fired
pub ever_admitted_fired : (w : Parts) (h : List Event) → IsLegal w h → AreFired h (ever_admitted h)
ever_admitted_fired w h legal = (Known-legal w h legal).lets

-- exclusion, first part
pub is_alone-legal : (w : Parts) (h : List Event) → IsLegal w h → (i : ℕ) → keeps_exclusion w h i ≡ true
is_alone-legal w h legal = (Known-legal w h legal).alone
