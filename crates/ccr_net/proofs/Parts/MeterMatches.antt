-- What was drawn from the budget: the posts of tasks, and one for each actor whose post isn't made yet.
use Rattle.std.proofs.Common.{◌≡◌, ◌≢◌, ◌≤◌, ◌<◌, ℕ, zero, suc, ◌+◌, Bool, true, false, List, [], ◌∷◌, length, refl, sym, arith, ap, ◌∙◌, subst}
use Rattle.std.specs.Prelude.{◌==◌}
use Rattle.std.proofs.lemmas.Bool.Decides.{nat_tests}
use Rattle.ccr_base.specs.declared.names.TaskId.{TaskId}
use Rattle.ccr_base.specs.Names.{same_task, has_task, without}
use Rattle.ccr_wiring.specs.declared.parts.Parts.{Parts}
use Rattle.ccr_model.specs.declared.history.Event.{Event}
use Rattle.ccr_model.specs.Posts.{posts_of_tasks}
use Rattle.ccr_base.proofs.Booleans.{same_number, eq-self}
use Rattle.ccr_base.proofs.SameNames.{same_task-is}
use Rattle.ccr_model.proofs.TaskLists.{to_without, none_gone}
use Rattle.ccr_model.proofs.TasksLeft.{less_left}
use Rattle.ccr_actor.specs.Actors.{Work, lines, round, taking, playing, posting, shedding, resting}

-- ---- how many of the first numbers pass

abbrev pub bit : Bool → ℕ
bit true = 1
bit false = 0

abbrev pub count : ℕ → (ℕ → Bool) → ℕ
count zero f = 0
count (suc n) f = count n f + bit (f n)

pub count-same : (n : ℕ) (f g : ℕ → Bool) → ((a : ℕ) → a < n → f a ≡ g a) → count n f ≡ count n g
count-same zero f g same = refl
count-same (suc n) f g same = rw (count-same n f g (λ a low. same a (omega arith)), same n (omega arith)) refl

pub count-one : (n a : ℕ) (f g : ℕ → Bool) → a < n → ((b : ℕ) → a ≢ b → g b ≡ f b) → count n g + bit (f a) ≡ count n f + bit (g a)
count-one zero a f g low same = absurd (omega arith)
count-one (suc n) a f g low same = by (a == n) refl (λ below. count-one n a f g below same)
  where
    by : (b : Bool) → (a == n) ≡ b → (a < n → count n g + bit (f a) ≡ count n f + bit (g a)) → (count n g + bit (g n)) + bit (f a) ≡ (count n f + bit (f n)) + bit (g a)
    by true e rest =
        let here : a ≡ n = same_number a n e in
        let front : count n g ≡ count n f = count-same n g f (λ b less. same b (λ is. absurd (let low' : b < a = subst (λ k. b < k) (sym here) less in omega (arith, low', is)))) in
        let own : f n ≡ f a = ap f (sym here) in
        let new : g n ≡ g a = ap g (sym here) in
        rw (front, own, new) (omega arith)
    by false e rest =
        let apart : a ≢ n = λ is. (let self : (a == n) ≡ true = subst (λ k. (a == k) ≡ true) is (eq-self a) in absurd (cc)) in
        let below : a < n = grind (arith, nat_tests, e, low) in
        let old = rest below in
        let last = same n apart in
        rw last (omega (arith, old))

pub count-some : (n a : ℕ) (f : ℕ → Bool) → a < n → f a ≡ true → 1 ≤ count n f
count-some zero a f low is = absurd (omega arith)
count-some (suc n) a f low is = by (a == n) refl (λ below. count-some n a f below is)
  where
    by : (b : Bool) → (a == n) ≡ b → (a < n → 1 ≤ count n f) → 1 ≤ count n f + bit (f n)
    by true e rest = let here : f n ≡ true = ap f (sym (same_number a n e)) ∙ is in rw here (omega arith)
    by false e rest = let below : a < n = grind (arith, nat_tests, e, low) in let old = rest below in omega (arith, old)

one_less : (ts : List TaskId) (t : TaskId) → has_task ts t ≡ true → length (without ts (t ∷ [])) + 1 ≤ length ts
one_less ts t is = subst (λ us. length (without ts (t ∷ [])) + 1 ≤ length us) (none_gone ts) (less_left ts [] t is refl)

-- different members, one for each number that passes
pub count-within : (n : ℕ) (f : ℕ → Bool) (t : ℕ → TaskId) (ts : List TaskId) → ((a : ℕ) → a < n → f a ≡ true → has_task ts (t a) ≡ true) → ((a b : ℕ) → f a ≡ true → f b ≡ true → t a ≡ t b → a ≡ b) → count n f ≤ length ts
count-within zero f t ts there apart = omega arith
count-within (suc n) f t ts there apart = by (f n) refl (count-within n f t ts (λ a low is. there a (omega arith) is) apart) (λ us inside. count-within n f t us inside apart)
  where
    by : (b : Bool) → f n ≡ b → count n f ≤ length ts → ((us : List TaskId) → ((a : ℕ) → a < n → f a ≡ true → has_task us (t a) ≡ true) → count n f ≤ length us) → count n f + bit b ≤ length ts
    by false e all rest = omega (arith, all)
    by true e all rest =
        let less = one_less ts (t n) (there n (omega arith) e) in
        let few = rest (without ts (t n ∷ [])) (λ a low is. to_without ts (t n ∷ []) (t a) (there a (omega arith) is) (other a low is (same_task (t a) (t n)) refl)) in
        omega (arith, less, few)
      where
        other : (a : ℕ) → a < n → f a ≡ true → (c : Bool) → same_task (t a) (t n) ≡ c → has_task (t n ∷ []) (t a) ≡ false
        other a low is false g = rw g refl
        other a low is true g = let one = apart a n is e (same_task-is (t a) (t n) g) in absurd (omega (arith, low, one))

-- ---- the meter

abbrev pub is_posting : Work → Bool
is_posting (lines index sents) = false
is_posting round = false
is_posting (taking left queue queues) = false
is_posting (playing task index play) = false
is_posting (posting task index play sent) = true
is_posting (shedding task) = false
is_posting resting = false

abbrev pub is_shedding : Work → Bool
is_shedding (lines index sents) = false
is_shedding round = false
is_shedding (taking left queue queues) = false
is_shedding (playing task index play) = false
is_shedding (posting task index play sent) = false
is_shedding (shedding task) = true
is_shedding resting = false

pub record MeterMatches (w : Parts) (n : ℕ) (h : List Event) (drawn : ℕ) (works : ℕ → Work) : Type 0 where
  pub low : drawn ≤ w.budget
  pub drawn_so : drawn ≡ posts_of_tasks h + count n (λ a. is_posting (works a))
  pub spent : (a : ℕ) → is_shedding (works a) ≡ true → w.budget ≤ drawn

-- one actor's work has changed
pub record OneWorks (works works' : ℕ → Work) (a : ℕ) (work : Work) : Type 0 where
  pub own : works' a ≡ work
  pub others : (b : ℕ) → a ≢ b → works' b ≡ works b

posting-one : (n a : ℕ) (works works' : ℕ → Work) (work : Work) → a < n → OneWorks works works' a work → count n (λ b. is_posting (works' b)) + bit (is_posting (works a)) ≡ count n (λ b. is_posting (works b)) + bit (is_posting work)
posting-one n a works works' work low one = count-one n a (λ b. is_posting (works b)) (λ b. is_posting (works' b)) low (λ b other. ap is_posting (one.others b other)) ∙ ap (λ x. count n (λ b. is_posting (works b)) + bit (is_posting x)) one.own

shed-one : (w : Parts) (a : ℕ) (works works' : ℕ → Work) (work : Work) (drawn : ℕ) → OneWorks works works' a work → ((b : ℕ) → is_shedding (works b) ≡ true → w.budget ≤ drawn) → (is_shedding work ≡ true → w.budget ≤ drawn) → (b : ℕ) → is_shedding (works' b) ≡ true → w.budget ≤ drawn
shed-one w a works works' work drawn one old new b is = by (a == b) refl
  where
    by : (c : Bool) → (a == b) ≡ c → w.budget ≤ drawn
    by true e = new (ap is_shedding (sym one.own ∙ ap works' (same_number a b e)) ∙ is)
    by false e = old b (ap is_shedding (sym (one.others b (λ same. (let self : (a == b) ≡ true = subst (λ k. (a == k) ≡ true) same (eq-self a) in absurd (cc))))) ∙ is)

-- nothing is drawn and no task posts
pub MeterMatches-quiet : (w : Parts) (n : ℕ) (h h' : List Event) (drawn : ℕ) (a : ℕ) (works works' : ℕ → Work) (work : Work) → a < n → posts_of_tasks h' ≡ posts_of_tasks h → is_posting work ≡ is_posting (works a) → (is_shedding work ≡ true → is_shedding (works a) ≡ true) → OneWorks works works' a work → MeterMatches w n h drawn works → MeterMatches w n h' drawn works'
MeterMatches-quiet w n h h' drawn a works works' work low posts same shed one match =
    let counts = posting-one n a works works' work low one in
    let equal : count n (λ b. is_posting (works' b)) ≡ count n (λ b. is_posting (works b)) = fewer _ _ _ (counts ∙ ap (λ b. count n (λ b. is_posting (works b)) + bit b) same) in
    record {
      low = match.low;
      drawn_so = rw (posts, equal) match.drawn_so;
      spent = shed-one w a works works' work drawn one match.spent (λ is. match.spent a (shed is));
    }
  where
    fewer : (x y z : ℕ) → x + z ≡ y + z → x ≡ y
    fewer x y z is = omega (arith, is)

-- one more was drawn, for the actor's post
pub MeterMatches-drawn : (w : Parts) (n : ℕ) (h : List Event) (drawn : ℕ) (a : ℕ) (works works' : ℕ → Work) (work : Work) → a < n → drawn < w.budget → is_posting (works a) ≡ false → is_posting work ≡ true → is_shedding work ≡ false → OneWorks works works' a work → MeterMatches w n h drawn works → MeterMatches w n h (drawn + 1) works'
MeterMatches-drawn w n h drawn a works works' work low room before now unshed one match =
    let counts : count n (λ b. is_posting (works' b)) + 0 ≡ count n (λ b. is_posting (works b)) + 1 = rw (before, now) at (posting-one n a works works' work low one) in
    record {
      low = omega (arith, room);
      drawn_so = (let old = match.drawn_so in omega (arith, old, counts));
      spent = shed-one w a works works' work (drawn + 1) one (λ b is. (let full = match.spent b is in omega (arith, full))) (λ is. absurd (cc));
    }

-- none is left, and the actor's task is shed
pub MeterMatches-spent : (w : Parts) (n : ℕ) (h : List Event) (drawn : ℕ) (a : ℕ) (works works' : ℕ → Work) (work : Work) → a < n → w.budget ≤ drawn → is_posting (works a) ≡ false → is_posting work ≡ false → OneWorks works works' a work → MeterMatches w n h drawn works → MeterMatches w n h drawn works'
MeterMatches-spent w n h drawn a works works' work low full before now one match =
    let counts : count n (λ b. is_posting (works' b)) + 0 ≡ count n (λ b. is_posting (works b)) + 0 = rw (before, now) at (posting-one n a works works' work low one) in
    record {
      low = match.low;
      drawn_so = (let old = match.drawn_so in omega (arith, old, counts));
      spent = shed-one w a works works' work drawn one match.spent (λ is. full);
    }

-- the post is made
pub MeterMatches-post : (w : Parts) (n : ℕ) (h h' : List Event) (drawn : ℕ) (a : ℕ) (works works' : ℕ → Work) (work : Work) → a < n → posts_of_tasks h' ≡ posts_of_tasks h + 1 → is_posting (works a) ≡ true → is_posting work ≡ false → is_shedding work ≡ false → OneWorks works works' a work → MeterMatches w n h drawn works → MeterMatches w n h' drawn works'
MeterMatches-post w n h h' drawn a works works' work low posts before now unshed one match =
    let counts : count n (λ b. is_posting (works' b)) + 1 ≡ count n (λ b. is_posting (works b)) + 0 = rw (before, now) at (posting-one n a works works' work low one) in
    record {
      low = match.low;
      drawn_so = (let old = match.drawn_so in omega (arith, old, counts, posts));
      spent = shed-one w a works works' work drawn one match.spent (λ is. absurd (cc));
    }
