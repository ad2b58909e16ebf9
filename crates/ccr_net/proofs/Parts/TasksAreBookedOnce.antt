-- A queue by its notes: a task is booked once, and a throttle queue has no more fresh tasks than its number.
use Rattle.std.proofs.Common.{◌≡◌, ◌⊎◌, inl, inr, ◌≤◌, ℕ, ◌+◌, ◌-◌, Bool, true, false, not, cond, ◌&&◌, ◌||◌, List, [], ◌∷◌, ◌++◌, length, drop, filter, Some, None, refl, sym, arith, ap, ◌∙◌, subst}
use Rattle.std.specs.Prelude.{if◌then◌else◌, count_by, nat_le}
use Rattle.std.specs.FinSet as set
use Rattle.std.proofs.lemmas.Grind.{common_steps}
use Rattle.std.proofs.lemmas.Bool.Decides.{nat_tests}
use Rattle.ccr_base.specs.declared.names.TaskId.{TaskId}
use Rattle.ccr_base.specs.declared.policies.Policy.{Policy}
use Rattle.ccr_base.specs.declared.policies.Policy.TheVariants.{Throttle}
use Rattle.ccr_base.specs.Names.{same_task, has_task}
use Rattle.ccr_model.specs.Consequences.{are_distinct_tasks}
use Rattle.ccr_base.proofs.Booleans.{both, neither, not_true, or_right, and_false}
use Rattle.ccr_model.proofs.Members.{Among, kept_among, fewer_both}
use Rattle.ccr_base.proofs.SameNames.{same_task-is, same_task-self}
use Rattle.ccr_places.specs.Queues.{QueueState, Queued}
use Rattle.ccr_places.specs.Queues as queues
use Rattle.ccr_places.specs.TaskSets.{TaskSet, task_cmp, task_cmp_total, eq_by_cmp-tasks, len-there}
use Rattle.std.proofs.lemmas.List.Sums.{length-filter}

-- ---- sets of tasks

pub in-more : (tasks : TaskSet) (t u : TaskId) → set.contains (set.insert tasks t) u ≡ (same_task u t || set.contains tasks u)
in-more tasks t u = set.contains-insert task_cmp_total tasks t u ∙ ap (λ b. b || set.contains tasks u) (eq_by_cmp-tasks u t)

pub in-less : (tasks : TaskSet) (t u : TaskId) → set.contains (set.remove tasks t) u ≡ (not (same_task u t) && set.contains tasks u)
in-less tasks t u = set.contains-remove task_cmp_total tasks t u ∙ ap (λ b. not b && set.contains tasks u) (eq_by_cmp-tasks u t)

len-less : (tasks : TaskSet) (t : TaskId) → set.len (set.remove tasks t) ≤ set.len tasks
len-less tasks t = rw (set.len-remove task_cmp_total tasks t) (by (set.contains tasks t))
  where
    by : (b : Bool) → cond b (set.len tasks - 1) (set.len tasks) ≤ set.len tasks
    by true = omega arith
    by false = omega arith

len-gone : (tasks : TaskSet) (t : TaskId) → set.contains tasks t ≡ true → set.len (set.remove tasks t) + 1 ≡ set.len tasks
len-gone tasks t there =
    let some = len-there tasks t there in
    let less : set.len (set.remove tasks t) ≡ set.len tasks - 1 = set.len-remove task_cmp_total tasks t ∙ ap (λ b. cond b (set.len tasks - 1) (set.len tasks)) there in
    omega (arith, some, less)

-- ---- what holds of a queue

pub record QueueSound (queue : QueueState) : Type 0 where
  pub apart : (t : TaskId) → set.contains queue.fresh t ≡ true → set.contains queue.resuming t ≡ false
  pub capped : (n : ℕ) → queue.policy ≡ Throttle n → queues.fresh_count queue ≤ n

abbrev pub is_fresh : Queued → Bool
is_fresh x = not x.resumes

pub QueueSound-start : (number : ℕ) (policy : Policy) → QueueSound (queues.start number policy)
QueueSound-start number policy = record {
  apart = λ t is. set.contains-empty task_cmp t;
  capped = λ n is. (let none = set.len-empty task_cmp in omega (arith, none));
}

-- a booking that isn't refused
pub QueueSound-book : (queue : QueueState) (t : TaskId) (resumes : Bool) → queues.may_book queue t ≡ true → queues.book_note queue resumes ≡ None → QueueSound queue → QueueSound (queues.after_book queue t resumes None)
QueueSound-book queue t resumes may room sound = by resumes room
  where
    free : (set.contains queue.fresh t ≡ false) × (set.contains queue.resuming t ≡ false)
    free = neither (set.contains queue.fresh t) (set.contains queue.resuming t) (neither (queues.is_booked queue t) (queues.is_queued queue t) (not_true _ may)).0

    by : (r : Bool) → queues.book_note queue r ≡ None → QueueSound (queues.after_book queue t r None)
    by false fits = record {
      apart = λ u is. of_test u (same_task u t) refl (sym (in-more queue.fresh t u) ∙ is);
      capped = λ n is. below n (rw is at fits);
    }
      where
        of_test : (u : TaskId) (b : Bool) → same_task u t ≡ b → same_task u t || set.contains queue.fresh u ≡ true → set.contains queue.resuming u ≡ false
        of_test u true e now = ap (set.contains queue.resuming) (same_task-is u t e) ∙ free.1
        of_test u false e now = sound.apart u (rw e at now)

        below : (n : ℕ) → (if nat_le n (queues.fresh_count queue) then Some n else None) ≡ None → queues.fresh_count (queues.after_book queue t false None) ≤ n
        below n now = of_room (nat_le n (queues.fresh_count queue)) refl now
          where
            grown : set.len (set.insert queue.fresh t) ≡ set.len queue.fresh + 1
            grown = set.len-insert task_cmp_total queue.fresh t ∙ ap (λ b. cond b (set.len queue.fresh) (set.len queue.fresh + 1)) free.0

            of_room : (b : Bool) → nat_le n (queues.fresh_count queue) ≡ b → (if b then Some n else None) ≡ None → queues.fresh_count (queues.after_book queue t false None) ≤ n
            of_room true e full = absurd (cc)
            of_room false e full = let less : queues.fresh_count queue + 1 ≤ n = grind (arith, nat_tests, e) in omega (arith, less, grown)
    by true fits = record {
      apart = λ u is. in-more queue.resuming t u ∙ of_test u (same_task u t) refl is;
      capped = sound.capped;
    }
      where
        of_test : (u : TaskId) (b : Bool) → same_task u t ≡ b → set.contains queue.fresh u ≡ true → same_task u t || set.contains queue.resuming u ≡ false
        of_test u true e now = absurd (let out : set.contains queue.fresh u ≡ false = ap (set.contains queue.fresh) (same_task-is u t e) ∙ free.0 in cc)
        of_test u false e now = rw e (sound.apart u now)

removed_apart : (queue : QueueState) (t u : TaskId) → QueueSound queue → set.contains (set.remove queue.fresh t) u ≡ true → set.contains (set.remove queue.resuming t) u ≡ false
removed_apart queue t u sound is =
    let parts = both (not (same_task u t)) (set.contains queue.fresh u) (sym (in-less queue.fresh t u) ∙ is) in
    in-less queue.resuming t u ∙ rw (sound.apart u parts.1) (and_false (not (same_task u t)))

pub QueueSound-unbook : (queue : QueueState) (t : TaskId) → QueueSound queue → QueueSound (queues.after_unbook queue t)
QueueSound-unbook queue t sound = record {
  apart = λ u is. removed_apart queue t u sound is;
  capped = λ n is. (let old = sound.capped n is in let less = len-less queue.fresh t in omega (arith, old, less));
}

count-first : (xs : List Queued) (x : Queued) → count_by is_fresh (x ∷ xs) ≡ count_by is_fresh xs + cond (is_fresh x) 1 0
count-first xs x = grind (arith, common_steps)

count-last : (xs : List Queued) (x : Queued) → count_by is_fresh (xs ++ x ∷ []) ≡ count_by is_fresh xs + cond (is_fresh x) 1 0
count-last xs x = grind (arith, common_steps)

-- a put of a booked task
pub QueueSound-put : (queue : QueueState) (t : TaskId) → queues.may_put queue t ≡ true → QueueSound queue → QueueSound (queues.after_put queue t)
QueueSound-put queue t may sound = record {
  apart = λ u is. removed_apart queue t u sound is;
  capped = λ n is. below n is (set.contains queue.fresh t) refl;
}
  where
    below : (n : ℕ) → queue.policy ≡ Throttle n → (b : Bool) → set.contains queue.fresh t ≡ b → queues.fresh_count (queues.after_put queue t) ≤ n
    below n is b e =
        let nothing : drop (queues.drop_count queue) queue.queued ≡ queue.queued = rw is refl in
        let longer : count_by is_fresh (drop (queues.drop_count queue) queue.queued ++ (record { task = t; resumes = set.contains queue.resuming t }) ∷ []) ≡ count_by is_fresh queue.queued + cond (not (set.contains queue.resuming t)) 1 0 = ap (λ xs. count_by is_fresh (xs ++ (record { task = t; resumes = set.contains queue.resuming t }) ∷ [])) nothing ∙ count-last queue.queued _ in
        let old = sound.capped n is in
        of_test b e longer old
      where
        of_test : (c : Bool) → set.contains queue.fresh t ≡ c → count_by is_fresh (drop (queues.drop_count queue) queue.queued ++ (record { task = t; resumes = set.contains queue.resuming t }) ∷ []) ≡ count_by is_fresh queue.queued + cond (not (set.contains queue.resuming t)) 1 0 → queues.fresh_count queue ≤ n → queues.fresh_count (queues.after_put queue t) ≤ n
        of_test true there longer old =
            let gone = len-gone queue.fresh t there in
            let one : count_by is_fresh (drop (queues.drop_count queue) queue.queued ++ (record { task = t; resumes = set.contains queue.resuming t }) ∷ []) ≡ count_by is_fresh queue.queued + 1 = longer ∙ ap (λ c. count_by is_fresh queue.queued + cond (not c) 1 0) (sound.apart t there) in
            omega (arith, gone, one, old)
        of_test false out longer old =
            let resuming : set.contains queue.resuming t ≡ true = rw out at may in
            let none : count_by is_fresh (drop (queues.drop_count queue) queue.queued ++ (record { task = t; resumes = set.contains queue.resuming t }) ∷ []) ≡ count_by is_fresh queue.queued + 0 = longer ∙ ap (λ c. count_by is_fresh queue.queued + cond (not c) 1 0) resuming in
            let less = len-less queue.fresh t in
            omega (arith, less, none, old)

pub QueueSound-take : (queue : QueueState) → QueueSound queue → QueueSound (queues.after_take queue)
QueueSound-take queue sound = record {
  apart = sound.apart;
  capped = λ n is. (let old = sound.capped n is in let less = fewer queue.queued in omega (arith, old, less));
}
  where
    fewer : (xs : List Queued) → count_by is_fresh (drop 1 xs) ≤ count_by is_fresh xs
    fewer [] = omega arith
    fewer (x ∷ xs) = let grown = count-first xs x in omega (arith, grown)

-- ---- as many tasks as there is room for

-- the task is booked as fresh, or queued so
abbrev pub IsKept : TaskSet → List Queued → TaskId → Type 0
IsKept fresh queued t = (set.contains fresh t ≡ true) ⊎ ((x : Queued) × Among x queued × (x.task ≡ t) × (x.resumes ≡ false))

abbrev pub others_of : TaskId → List Queued → List Queued
others_of t queued = filter (λ (x : Queued). not (same_task x.task t)) queued

-- without a task that is queued as fresh there is one less
one_less : (t : TaskId) (queued : List Queued) (x : Queued) → Among x queued → x.task ≡ t → x.resumes ≡ false → count_by is_fresh (others_of t queued) + 1 ≤ count_by is_fresh queued
one_less t queued x is own fresh =
    let less = fewer_both is_fresh (λ (y : Queued). not (same_task y.task t)) queued x is (ap not fresh) (ap not (ap (λ u. same_task u t) own ∙ same_task-self t)) in
    let left = length-filter is_fresh (others_of t queued) in
    let all = length-filter is_fresh queued in
    omega (arith, less, left, all)

stays : (t : TaskId) (queued : List Queued) (x : Queued) → Among x queued → same_task x.task t ≡ false → Among x (others_of t queued)
stays t queued x is other = kept_among (λ (y : Queued). not (same_task y.task t)) queued x is (ap not other)

-- tasks of which each is booked as fresh or queued so are no more than those
pub kept_within : (tasks : List TaskId) (fresh : TaskSet) (queued : List Queued) → are_distinct_tasks tasks ≡ true → ((u : TaskId) → has_task tasks u ≡ true → IsKept fresh queued u) → length tasks ≤ set.len fresh + count_by is_fresh queued
kept_within [] fresh queued distinct all = omega arith
kept_within (t ∷ tasks) fresh queued distinct all = by (all t (ap (λ b. b || has_task tasks t) (same_task-self t))) (λ fresh' queued' rest. kept_within tasks fresh' queued' parts.1 rest)
  where
    parts : (not (has_task tasks t) ≡ true) × (are_distinct_tasks tasks ≡ true)
    parts = both (not (has_task tasks t)) (are_distinct_tasks tasks) distinct

    apart : (u : TaskId) → has_task tasks u ≡ true → same_task u t ≡ false
    apart u is = of_test (same_task u t) refl
      where
        of_test : (b : Bool) → same_task u t ≡ b → same_task u t ≡ false
        of_test false e = e
        of_test true e = absurd (let there : has_task tasks t ≡ true = subst (λ v. has_task tasks v ≡ true) (same_task-is u t e) is in let out = not_true (has_task tasks t) parts.0 in cc)

    later : (u : TaskId) → has_task tasks u ≡ true → IsKept fresh queued u
    later u is = all u (or_right (same_task u t) (has_task tasks u) is)

    by : IsKept fresh queued t → ((fresh' : TaskSet) (queued' : List Queued) → ((u : TaskId) → has_task tasks u ≡ true → IsKept fresh' queued' u) → length tasks ≤ set.len fresh' + count_by is_fresh queued') → length (t ∷ tasks) ≤ set.len fresh + count_by is_fresh queued
    by (inl booked) rest =
        let less = rest (set.remove fresh t) queued (λ u is. still u is (later u is)) in
        let gone = len-gone fresh t booked in
        omega (arith, less, gone)
      where
        still : (u : TaskId) → has_task tasks u ≡ true → IsKept fresh queued u → IsKept (set.remove fresh t) queued u
        still u is (inl there) = inl (in-less fresh t u ∙ rw (apart u is, there) refl)
        still u is (inr one) = inr one
    by (inr one) rest =
        let less = rest fresh (others_of t queued) (λ u is. still u is (later u is)) in
        let fewer = one_less t queued one.0 one.1 one.2 one.3 in
        omega (arith, less, fewer)
      where
        still : (u : TaskId) → has_task tasks u ≡ true → IsKept fresh queued u → IsKept fresh (others_of t queued) u
        still u is (inl there) = inl there
        still u is (inr other) = inr (other.0, stays t queued other.0 other.1 (ap (λ v. same_task v t) other.2 ∙ apart u is), other.2, other.3)
