-- Nobody is shed: the tasks of all requests together post no more than the budget.
use Rattle.std.proofs.Common.{◌≡◌, inl, inr, ℕ, zero, suc, ◌+◌, ◌≤◌, Bool, true, false, not, ◌&&◌, ◌||◌, List, [], ◌∷◌, ◌++◌, length, filter, flat_map, Some, None, refl, sym, ap, ◌∙◌, arith, subst, append-nil}
use Rattle.std.specs.Prelude.{◌==◌, if◌then◌else◌, nat_lt}
use Rattle.std.specs.List.{slice_get}
use Rattle.std.proofs.lemmas.List.{length-append}
use Rattle.std.proofs.lemmas.Grind.{common_steps}
use Rattle.std.proofs.lemmas.Bool.Decides.{nat_tests}
use Rattle.ccr_base.specs.declared.names.TaskId.{TaskId}
use Rattle.ccr_base.specs.declared.names.MsgId.{MsgId}
use Rattle.ccr_base.specs.declared.names.MsgId.TheVariants.{Script, Task}
use Rattle.ccr_base.specs.declared.messages.Msg.{Msg}
use Rattle.ccr_base.specs.declared.messages.Sent.{Sent}
use Rattle.ccr_base.specs.Names.{same_task, same_message, has_task}
use Rattle.ccr_wiring.specs.declared.parts.Parts.{Parts}
use Rattle.ccr_wiring.specs.Valid.{HasPortsApart}
use Rattle.ccr_model.specs.declared.history.Event.{Event}
use Rattle.ccr_model.specs.declared.history.Event.TheVariants.{Post, Fire, Admit, Put, Start, End}
use Rattle.ccr_model.specs.declared.history.EndHow.TheVariants as ends
use Rattle.ccr_model.specs.Posts.{posts, post_of, posts_of_task, posts_of_tasks, is_message_of, is_task_message, taken}
use Rattle.ccr_model.specs.Firings.{Firing, firings, fired, ended, ended_by}
use Rattle.ccr_model.specs.Tasks.{running, has_post_left}
use Rattle.ccr_model.specs.Rules.{refusal_of_post, is_play_post, may_end}
use Rattle.ccr_model.specs.Legal.{IsAllowed, IsLegal, has_shed, is_complete, are_whole_from}
use Rattle.ccr_model.proofs.Allowing.{OneName-legal}
use Rattle.ccr_base.proofs.Booleans.{both, no_both, or_left, refuted, same_number}
use Rattle.ccr_model.proofs.Members.{Among, Among-left, Among-right, some_kept, spread_some}
use Rattle.ccr_model.proofs.Pigeons.{Apart, no_longer}
use Rattle.ccr_model.proofs.PostNames.{refused_not, times, posted_once}
use Rattle.ccr_model.proofs.LegalParts.{along_legal}
use Rattle.ccr_model.proofs.OneMoreEvent.{posts-push, ended-push}
use Rattle.ccr_base.proofs.SameNames.{same_message-self, same_task-self, has_task-last}
use Rattle.ccr_model.proofs.Stable.{firing_named-append}
use Rattle.ccr_model.proofs.Ending.{RunningFacts-running}
use Rattle.ccr_model.proofs.FiredTasks.{IsFired, fired_has}
use Rattle.ccr_model.proofs.TakenOnce.{times_named, taken_once}
use Rattle.ccr_model.proofs.TaskLists.{of_more, of_one, among_left, task_among}
use Rattle.ccr_model.proofs.MessageNames.{times_some, times_back}
use Rattle.ccr_service.specs.declared.parts.AskPart.{AskPart}
use Rattle.ccr_service.specs.declared.parts.ClientPart.{ClientPart}
use Rattle.ccr_service.specs.declared.parts.ServiceParts.{ServiceParts}
use Rattle.ccr_service.specs.Expansion.{expansion}
use Rattle.ccr_service.specs.Served.{asks_in_all}
use Rattle.ccr_service.proofs.Plays.{TakesAsk-legal}
use Rattle.ccr_service.proofs.Replying.{running_fired, one_play, all_replies, its_name}
use Rattle.ccr_laws.proofs.Ending.{fired-length as fired_length}

-- ---- the shed tasks

abbrev shed_by : Event → List TaskId
shed_by (End t ends.Shed) = t ∷ []
shed_by _ = []

abbrev sheds : List Event → List TaskId
sheds h = flat_map shed_by h

sheds-push : (h : List Event) (e : Event) → sheds (h ++ e ∷ []) ≡ sheds h ++ shed_by e
sheds-push h e = grind (arith, common_steps)

some_shed : (h : List Event) → has_shed h ≡ true → (t : TaskId) × (has_task (sheds h) t ≡ true)
some_shed [] is = absurd (cc)
some_shed (End t ends.Shed ∷ h) is = (t, or_left (same_task t t) (has_task (sheds h) t) (same_task-self t))
some_shed (End t ends.Done ∷ h) is = some_shed h is
some_shed (End t (ends.Failed v) ∷ h) is = some_shed h is
some_shed (End t ends.Yield ∷ h) is = some_shed h is
some_shed (Post m ∷ h) is = some_shed h is
some_shed (Fire x s ms cs ∷ h) is = some_shed h is
some_shed (Admit x ∷ h) is = some_shed h is
some_shed (Put x d ∷ h) is = some_shed h is
some_shed (Start x a ∷ h) is = some_shed h is

-- a shed task fired, has ended, and posted nothing
record IsShed (h : List Event) (t : TaskId) : Type 0 where
  fired : IsFired h t
  ended_so : has_task (ended h) t ≡ true
  silent : posts_of_task h t ≡ 0

abbrev AllShed : List Event → Type 0
AllShed h = (t : TaskId) → has_task (sheds h) t ≡ true → IsShed h t

same_posts : (h : List Event) (e : Event) (t : TaskId) → filter (λ (m : Msg). is_message_of t m.id) (post_of e) ≡ [] → posts_of_task (h ++ e ∷ []) t ≡ posts_of_task h t
same_posts h e t none = rw (posts-push h e) (ap length (split (posts h) (post_of e) ∙ ap (λ ms. filter (λ (m : Msg). is_message_of t m.id) (posts h) ++ ms) none ∙ append-nil (filter (λ (m : Msg). is_message_of t m.id) (posts h))))
  where
    split : (xs ys : List Msg) → filter (λ (m : Msg). is_message_of t m.id) (xs ++ ys) ≡ filter (λ (m : Msg). is_message_of t m.id) xs ++ filter (λ (m : Msg). is_message_of t m.id) ys
    split xs ys = grind (arith, common_steps)

shed_on : (h : List Event) (e : Event) (t : TaskId) → filter (λ (m : Msg). is_message_of t m.id) (post_of e) ≡ [] → IsShed h t → IsShed (h ++ e ∷ []) t
shed_on h e t none old = record { fired = (old.fired.0, firing_named-append h (e ∷ []) t old.fired.0 old.fired.1); ended_so = subst (λ ts. has_task ts t ≡ true) (sym (ended-push h e)) (among_left (ended h) (ended_by e) t old.ended_so); silent = same_posts h e t none ∙ old.silent }

no_more_sheds : (h : List Event) (e : Event) → shed_by e ≡ [] → post_of e ≡ [] → AllShed h → AllShed (h ++ e ∷ [])
no_more_sheds h e none silent known t is =
    let none_posted : filter (λ (m : Msg). is_message_of t m.id) (post_of e) ≡ [] = rw silent refl in
    shed_on h e t none_posted (known t (subst (λ ts. has_task ts t ≡ true) (sheds-push h e ∙ ap (λ ts. sheds h ++ ts) none ∙ append-nil (sheds h)) is))

-- who posts runs
poster_runs : (w : Parts) (h : List Event) (m : Msg) (t : TaskId) → IsAllowed w h (Post m) → is_message_of t m.id ≡ true → has_task (running h) t ≡ true
poster_runs w h m t allowed is =
    let name = its_name t m.id is in
    let so : refusal_of_post w h m (Task t name.0) ≡ None = subst (λ n. refusal_of_post w h m n ≡ None) name.1 allowed in
    let line = (refused_not (is_play_post w h t name.0 m) _ _ so).0 in
    (both (has_task (running h) t) (name.0 == posts_of_task h t) (both (has_task (running h) t && (name.0 == posts_of_task h t)) _ line).0).0

sheds_kept : (s : ServiceParts) (h : List Event) (e : Event) → IsLegal (expansion s) h → IsAllowed (expansion s) h e → AllShed h → AllShed (h ++ e ∷ [])
sheds_kept s h (Post m) legal allowed known t is =
    let old = known t (subst (λ ts. has_task ts t ≡ true) (sheds-push h (Post m) ∙ append-nil (sheds h)) is) in
    let other : is_message_of t m.id ≡ false = refuted (is_message_of t m.id) (λ its. no_both old.ended_so (RunningFacts-running h t (poster_runs (expansion s) h m t allowed its)).not_ended) in
    let none : filter (λ (x : Msg). is_message_of t x.id) (m ∷ []) ≡ [] = rw other refl in
    shed_on h (Post m) t none old
sheds_kept s h (End u ends.Shed) legal allowed known t is =
    let e : Event = End u ends.Shed in
    of_more (sheds h) (u ∷ []) t (IsShed (h ++ e ∷ []) t) (subst (λ ts. has_task ts t ≡ true) (sheds-push h e) is) (λ old. shed_on h e t refl (known t old)) (λ new. subst (IsShed (h ++ e ∷ [])) (sym (of_one u t new)) now)
  where
    now : IsShed (h ++ End u ends.Shed ∷ []) u
    now =
        let a = refused_not (has_task (running h) u) _ _ allowed in
        let b = (refused_not (may_end (expansion s) h u ends.Shed) _ None a.1).0 in
        let left = (both (has_post_left (expansion s) h u) _ b).0 in
        let fired = running_fired (expansion s) h legal u a.0 in
        let one = one_play s h legal u fired in
        let below : nat_lt (posts_of_task h u) (length (one.0 ∷ [])) ≡ true = subst (λ (xs : List Sent). nat_lt (posts_of_task h u) (length xs) ≡ true) one.1 left in
        let none : posts_of_task h u ≡ 0 = grind (arith, nat_tests, below) in
        record {
          fired = (fired.0, firing_named-append h (End u ends.Shed ∷ []) u fired.0 fired.1);
          ended_so = subst (λ ts. has_task ts u ≡ true) (sym (ended-push h (End u ends.Shed))) (has_task-last (ended h) u);
          silent = same_posts h (End u ends.Shed) u refl ∙ none;
        }
sheds_kept s h (End x ends.Done) legal allowed known t is = no_more_sheds h (End x ends.Done) refl refl known t is
sheds_kept s h (End x (ends.Failed v)) legal allowed known t is = no_more_sheds h (End x (ends.Failed v)) refl refl known t is
sheds_kept s h (End x ends.Yield) legal allowed known t is = no_more_sheds h (End x ends.Yield) refl refl known t is
sheds_kept s h (Fire x sp ms cs) legal allowed known t is = no_more_sheds h (Fire x sp ms cs) refl refl known t is
sheds_kept s h (Admit x) legal allowed known t is = no_more_sheds h (Admit x) refl refl known t is
sheds_kept s h (Put x d) legal allowed known t is = no_more_sheds h (Put x d) refl refl known t is
sheds_kept s h (Start x a) legal allowed known t is = no_more_sheds h (Start x a) refl refl known t is

all_shed : (s : ServiceParts) (h : List Event) → IsLegal (expansion s) h → AllShed h
all_shed s h legal = along_legal (expansion s) AllShed (sheds_kept s) (λ t is. absurd (cc)) h legal

-- ---- the tasks that post

abbrev task_of : MsgId → List TaskId
task_of (Script a k) = []
task_of (Task t k) = t ∷ []

abbrev posting : List Msg → List TaskId
posting ms = flat_map (λ (m : Msg). task_of m.id) ms

posting_length : (ms : List Msg) → length (posting ms) ≡ length (filter (λ (m : Msg). is_task_message m.id) ms)
posting_length [] = refl
posting_length (m ∷ ms) = by_name m.id (posting_length ms)
  where
    by_name : (name : MsgId) → length (posting ms) ≡ length (filter (λ (x : Msg). is_task_message x.id) ms) → length (task_of name ++ posting ms) ≡ length (if is_task_message name then m ∷ filter (λ (x : Msg). is_task_message x.id) ms else filter (λ (x : Msg). is_task_message x.id) ms)
    by_name (Script a k) e = e
    by_name (Task t k) e = ap suc e

-- a posting task has a message
posting_some : (ms : List Msg) (t : TaskId) → Among t (posting ms) → (m : Msg) × Among m ms × ((k : ℕ) × (m.id ≡ Task t k))
posting_some [] t is = absurd is
posting_some (m ∷ ms) t is = by_name m.id refl is (posting_some ms t)
  where
    by_name : (name : MsgId) → m.id ≡ name → Among t (task_of name ++ posting ms) → (Among t (posting ms) → (x : Msg) × Among x ms × ((k : ℕ) × (x.id ≡ Task t k))) → (x : Msg) × Among x (m ∷ ms) × ((k : ℕ) × (x.id ≡ Task t k))
    by_name (Script a k) e more rest = let it = rest more in (it.0, inr it.1, it.2)
    by_name (Task u k) e (inl same) rest = (m, inl refl, (k, e ∙ ap (λ (v : TaskId). Task v k) (sym same)))
    by_name (Task u k) e (inr more) rest = let it = rest more in (it.0, inr it.1, it.2)

abbrev AllFirst : List Msg → Type 0
AllFirst ms = (m : Msg) → Among m ms → (t : TaskId) (k : ℕ) → m.id ≡ Task t k → k ≡ 0

posting_apart : (ms : List Msg) → ((name : MsgId) → times name ms ≤ 1) → AllFirst ms → Apart (posting ms)
posting_apart [] once first = tt
posting_apart (m ∷ ms) once first = by_name m.id refl (posting_apart ms (λ name. let few = once name in let less = times_back m ms name in omega (arith, few, less)) (λ x is. first x (inr is)))
  where
    by_name : (name : MsgId) → m.id ≡ name → Apart (posting ms) → Apart (task_of name ++ posting ms)
    by_name (Script a k) e rest = rest
    by_name (Task t k) e rest = (twice, rest)
      where
        twice : Among t (posting ms) → ⊥
        twice is =
            let other = posting_some ms t is in
            let there = first other.0 (inr other.1) t other.2.0 other.2.1 in
            let here = first m (inl refl) t k e in
            let some = subst (λ n. 1 ≤ times n ms) (other.2.1 ∙ ap (Task t) there) (times_some ms other.0 other.1) in
            let one : same_message m.id (Task t 0) ≡ true = ap (λ n. same_message n (Task t 0)) (e ∙ ap (Task t) here) ∙ same_message-self (Task t 0) in
            let two : times (Task t 0) (m ∷ ms) ≡ suc (times (Task t 0) ms) = rw one refl in
            let few = once (Task t 0) in
            omega (arith, some, two, few)

-- ---- the names of all requests

abbrev asks_of : ℕ → ℕ → List AskPart → List MsgId
asks_of client k [] = []
asks_of client k (a ∷ asks) = Script client k ∷ asks_of client (k + 1) asks

abbrev all_asks : ℕ → List ClientPart → List MsgId
all_asks n [] = []
all_asks n (c ∷ cs) = asks_of n 0 c.asks ++ all_asks (n + 1) cs

asks_length : (client k : ℕ) (asks : List AskPart) → length (asks_of client k asks) ≡ length asks
asks_length client k [] = refl
asks_length client k (a ∷ asks) = ap suc (asks_length client (k + 1) asks)

all_length : (n : ℕ) (cs : List ClientPart) → length (all_asks n cs) ≡ asks_in_all cs
all_length n [] = refl
all_length n (c ∷ cs) =
    let here = asks_length n 0 c.asks in
    let rest = all_length (n + 1) cs in
    let all = length-append (asks_of n 0 c.asks) (all_asks (n + 1) cs) in
    omega (arith, here, rest, all)

ask_among : (client k index : ℕ) (asks : List AskPart) (a : AskPart) → slice_get asks index ≡ Some a → Among (Script client (k + index)) (asks_of client k asks)
ask_among client k index [] a at = absurd (cc)
ask_among client k zero (b ∷ asks) a at = let e : k + 0 ≡ k = omega arith in inl (ap (Script client) e)
ask_among client k (suc index) (b ∷ asks) a at = let e : (k + 1) + index ≡ k + suc index = omega arith in inr (subst (λ i. Among (Script client i) (asks_of client (k + 1) asks)) e (ask_among client (k + 1) index asks a at))

all_among : (n client index : ℕ) (cs : List ClientPart) (c : ClientPart) (a : AskPart) → slice_get cs client ≡ Some c → slice_get c.asks index ≡ Some a → Among (Script (n + client) index) (all_asks n cs)
all_among n client index [] c a is at = absurd (cc)
all_among n zero index (x ∷ cs) c a is at =
    let e : n ≡ n + 0 = omega arith in
    let same : c ≡ x = cc in
    let here = ask_among n 0 index x.asks a (subst (λ (y : ClientPart). slice_get y.asks index ≡ Some a) same at) in
    let p : 0 + index ≡ index = omega arith in
    Among-left (Script (n + 0) index) (asks_of n 0 x.asks) (all_asks (n + 1) cs) (subst (λ i. Among (Script i index) (asks_of n 0 x.asks)) e (subst (λ i. Among (Script n i) (asks_of n 0 x.asks)) p here))
all_among n (suc client) index (x ∷ cs) c a is at =
    let e : (n + 1) + client ≡ n + suc client = omega arith in
    Among-right (Script (n + suc client) index) (asks_of n 0 x.asks) (all_asks (n + 1) cs) (subst (λ i. Among (Script i index) (all_asks (n + 1) cs)) e (all_among (n + 1) client index cs c a is at))

-- ---- the firings

abbrev named_by : List Firing → List MsgId
named_by fs = flat_map (λ (f : Firing). f.messages) fs

taken_named : (h : List Event) → taken h ≡ named_by (firings h)
taken_named [] = refl
taken_named (Fire x s ms cs ∷ h) = ap (λ ns. ms ++ ns) (taken_named h)
taken_named (Post m ∷ h) = taken_named h
taken_named (Admit x ∷ h) = taken_named h
taken_named (Put x d ∷ h) = taken_named h
taken_named (Start x a ∷ h) = taken_named h
taken_named (End x how ∷ h) = taken_named h

abbrev TakeOneEach : List Firing → Type 0
TakeOneEach fs = (f : Firing) → Among f fs → (n : MsgId) × (f.messages ≡ n ∷ [])

named_length : (fs : List Firing) → TakeOneEach fs → length (named_by fs) ≡ length fs
named_length [] each = refl
named_length (f ∷ fs) each =
    let one = each f (inl refl) in
    let rest = named_length fs (λ g is. each g (inr is)) in
    let all : length (f.messages ++ named_by fs) ≡ suc (length (named_by fs)) = ap (λ ns. length (ns ++ named_by fs)) one.1 in
    all ∙ ap suc rest

named_some : (fs : List Firing) (n : MsgId) → Among n (named_by fs) → (f : Firing) × Among f fs × Among n f.messages
named_some fs n is = spread_some (λ (f : Firing). f.messages) fs n is

names_apart : (ns : List MsgId) → ((name : MsgId) → times_named name ns ≤ 1) → Apart ns
names_apart [] once = tt
names_apart (n ∷ ns) once = (twice, names_apart ns (λ name. let few = once name in let less = back (same_message name n) name in omega (arith, few, less)))
  where
    back : (b : Bool) (name : MsgId) → length (filter (same_message name) ns) ≤ length (if b then n ∷ filter (same_message name) ns else filter (same_message name) ns)
    back true name = omega arith
    back false name = omega arith

    some : (xs : List MsgId) → Among n xs → 1 ≤ length (filter (same_message n) xs)
    some [] is = absurd is
    some (x ∷ xs) (inl e) = let here : same_message n x ≡ true = ap (same_message n) (sym e) ∙ same_message-self n in rw here (grind arith)
    some (x ∷ xs) (inr more) = by_test (same_message n x) (some xs more)
      where
        by_test : (b : Bool) → 1 ≤ length (filter (same_message n) xs) → 1 ≤ length (if b then x ∷ filter (same_message n) xs else filter (same_message n) xs)
        by_test true rest = grind arith
        by_test false rest = rest

    twice : Among n ns → ⊥
    twice is =
        let one = same_message-self n in
        let two : length (filter (same_message n) (n ∷ ns)) ≡ suc (length (filter (same_message n) ns)) = rw one refl in
        let few = once n in
        let least = some ns is in
        omega (arith, two, few, least)

-- no more firings than requests
few_fired : (s : ServiceParts) → HasPortsApart (expansion s) → (h : List Event) → IsLegal (expansion s) h → length (fired h) ≤ asks_in_all s.clients
few_fired s apart h legal =
    let each = fired_length (firings h) in
    let names : length (taken h) ≡ length (firings h) = ap length (taken_named h) ∙ named_length (firings h) takes_one in
    let few = no_longer (taken h) (all_asks 0 s.clients) (names_apart (taken h) (taken_once (expansion s) apart h legal)) (λ n is. asked n (named_some (firings h) n (subst (Among n) (taken_named h) is))) in
    let all = all_length 0 s.clients in
    omega (arith, each, names, few, all)
  where
    takes_one : TakeOneEach (firings h)
    takes_one f is = let its = TakesAsk-legal s h legal f.task f (OneName-legal (expansion s) h legal f is) in (its.takes.message.id, its.takes.named)

    asked : (n : MsgId) → (f : Firing) × Among f (firings h) × Among n f.messages → Among n (all_asks 0 s.clients)
    asked n found =
        let f = found.0 in
        let its = TakesAsk-legal s h legal f.task f (OneName-legal (expansion s) h legal f found.1) in
        let only : n ≡ its.takes.message.id = one n (subst (Among n) its.takes.named found.2) in
        let e : 0 + its.client ≡ its.client = omega arith in
        let here = all_among 0 its.client its.place s.clients its.asked.part its.asked.ask its.asked.is_part its.asked.is_ask in
        subst (λ x. Among x (all_asks 0 s.clients)) (ap (λ i. Script i its.place) e ∙ sym its.id ∙ sym only) here
      where
        one : {x : MsgId} (n : MsgId) → Among n (x ∷ []) → n ≡ x
        one n (inl e) = e
        one n (inr none) = absurd none

-- nobody is shed
pub none_shed : (s : ServiceParts) → HasPortsApart (expansion s) → asks_in_all s.clients ≤ 10000 → (h : List Event) → IsLegal (expansion s) h → is_complete (expansion s) h ≡ true → has_shed h ≡ false
none_shed s apart small h legal complete = refuted (has_shed h) shed_so
  where
    shed_so : has_shed h ≡ true → ⊥
    shed_so is =
        let some = some_shed h is in
        let t = some.0 in
        let facts = all_shed s h legal t some.1 in
        let spent : posts_of_tasks h ≡ 10000 = same_number (posts_of_tasks h) 10000 (budget (posts_of_tasks h == 10000) is (both (are_whole_from (expansion s) h 0 (expansion s).posters) _ complete).1) in
        let long = posting_length (posts h) in
        let first : AllFirst (posts h) = λ m among u k named. (all_replies s h legal m among u k named).first in
        let apart_tasks = posting_apart (posts h) (posted_once (expansion s) h legal) first in
        let within = no_longer (t ∷ posting (posts h)) (fired h) (silent t facts, apart_tasks) (all_fired t facts) in
        let few = few_fired s apart h legal in
        omega (arith, spent, long, within, few, small)
      where
        budget : (b : Bool) → has_shed h ≡ true → not (has_shed h) || b ≡ true → b ≡ true
        budget b is all = let all_so : not true || b ≡ true = subst (λ x. not x || b ≡ true) is all in all_so

        silent : (t : TaskId) → IsShed h t → Among t (posting (posts h)) → ⊥
        silent t facts among =
            let its = posting_some (posts h) t among in
            let here : is_message_of t its.0.id ≡ true = ap (is_message_of t) its.2.1 ∙ same_task-self t in
            let none = facts.silent in
            let some = some_kept (λ (x : Msg). is_message_of t x.id) (posts h) its.0 its.1 here in
            omega (arith, none, some)

        all_fired : (t : TaskId) → IsShed h t → (u : TaskId) → Among u (t ∷ posting (posts h)) → Among u (fired h)
        all_fired t facts u (inl e) = subst (λ x. Among x (fired h)) (sym e) (task_among (fired h) t (fired_has h t facts.fired))
        all_fired t facts u (inr more) =
            let its = posting_some (posts h) u more in
            let reply = all_replies s h legal its.0 its.1 u its.2.0 its.2.1 in
            task_among (fired h) u (fired_has h u reply.fired)
