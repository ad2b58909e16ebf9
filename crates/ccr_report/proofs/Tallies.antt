-- Counts over lists of numbers, as counts over what the numbers belong to.
use Rattle.std.proofs.Common.{◌≡◌, ◌+◌, ◌-◌, ℕ, suc, Bool, true, false, not, Option, Some, None, List, [], ◌∷◌, ◌++◌, length, filter, map, flat_map, cond, refl, sym, ap, ◌∙◌, arith}
use Rattle.std.specs.Prelude.{◌==◌, option_map, option_and_then, option_to_list}
use Rattle.std.specs.List.{slice_get}
use Rattle.std.specs.Option.{option_map_or}
use Rattle.std.proofs.lemmas.List.Filters.{length-filter_both}
use Rattle.std.proofs.lemmas.List.Sums.{length-filter}
use Rattle.ccr_base.specs.declared.messages.Msg.{Msg}
use Rattle.ccr_base.specs.declared.names.TaskId.{TaskId}
use Rattle.ccr_base.specs.declared.names.Spot.{Spot}
use Rattle.ccr_base.specs.Names.{has_message}
use Rattle.ccr_wiring.specs.declared.parts.Parts.{Parts}
use Rattle.ccr_wiring.specs.declared.parts.ArbiterPart.{ArbiterPart}
use Rattle.ccr_wiring.specs.declared.parts.BranchPart.{BranchPart}
use Rattle.ccr_wiring.specs.declared.parts.DomainPart.{DomainPart}
use Rattle.ccr_wiring.specs.Spots.{times}
use Rattle.ccr_wiring.specs.Wirings.{Placement, placement, placements, placements_of, placements_from, in_domain, branch_of}
use Rattle.ccr_model.specs.declared.history.Event.{Event}
use Rattle.ccr_model.specs.Posts.{posts, posted, taken, held}
use Rattle.ccr_model.specs.Firings.{spot_of}
use Rattle.ccr_model.specs.Tasks.{is_for_queue}
use Rattle.ccr_base.proofs.Filters.{filter_swap}
use Rattle.ccr_base.proofs.Lists.{map_twice}
use Rattle.ccr_report.specs.Counting.{taken_at, ports_of, queues_in, branch_queues}
pub use Rattle.std.proofs.lemmas.List.{map-append as map-both}
use Rattle.std.proofs.lemmas.Option.{slice_get-map}

-- the number's own places in the list
abbrev same : ℕ → List ℕ → List ℕ
same k numbers = filter (λ other. other == k) numbers

times-same : (k : ℕ) (numbers : List ℕ) → times k numbers ≡ length (same k numbers)
times-same k numbers = sym (length-filter (λ other. other == k) numbers)

-- numbers that are counted belong to members that pass a test
same-map : {X : Type 0} (f : X → ℕ) (k : ℕ) (xs : List X) → length (same k (map f xs)) ≡ length (filter (λ x. f x == k) xs)
same-map f k [] = refl
same-map f k (x ∷ xs) = of_test (f x == k) (same-map f k xs)
  where
    of_test : (b : Bool) → length (same k (map f xs)) ≡ length (filter (λ x. f x == k) xs) → length (cond b (f x ∷ filter (λ other. other == k) (map f xs)) (filter (λ other. other == k) (map f xs))) ≡ length (cond b (x ∷ filter (λ x. f x == k) xs) (filter (λ x. f x == k) xs))
    of_test true h = ap suc h
    of_test false h = h

times-map : {X : Type 0} (f : X → ℕ) (k : ℕ) (xs : List X) → times k (map f xs) ≡ length (filter (λ x. f x == k) xs)
times-map f k xs = times-same k (map f xs) ∙ same-map f k xs

pub times-posted : (history : List Event) (k : ℕ) → times k (ports_of (posts history)) ≡ length (posted history k)
times-posted history k = times-map (λ (message : Msg). message.port) k (posts history)

pub times-held : (history : List Event) (k : ℕ) → times k (ports_of (filter (λ (message : Msg). not (has_message (taken history) message.id)) (posts history))) ≡ length (held history k)
times-held history k =
    times-map (λ (message : Msg). message.port) k (filter (λ (message : Msg). not (has_message (taken history) message.id)) (posts history))
    ∙ ap length (filter_swap (λ (message : Msg). message.port == k) (λ (message : Msg). not (has_message (taken history) message.id)) (posts history))

-- the same, where some members have no number
same-some : {X : Type 0} (f : X → Option ℕ) (test : X → Bool) (k : ℕ) → ((x : X) → test x ≡ option_map_or (λ n. n == k) (f x) false) → (xs : List X) → length (same k (flat_map (λ x. option_to_list (f x)) xs)) ≡ length (filter test xs)
same-some f test k says [] = refl
same-some f test k says (x ∷ xs) = of_number (f x) (test x) (says x) (same-some f test k says xs)
  where
    of_number : (o : Option ℕ) (b : Bool) → b ≡ option_map_or (λ n. n == k) o false → length (same k (flat_map (λ x. option_to_list (f x)) xs)) ≡ length (filter test xs) → length (same k (option_to_list o ++ flat_map (λ x. option_to_list (f x)) xs)) ≡ length (cond b (x ∷ filter test xs) (filter test xs))
    of_number None b e h = rw e h
    of_number (Some n) b e h = rw e (of_test (n == k) h)
      where
        of_test : (a : Bool) → length (same k (flat_map (λ x. option_to_list (f x)) xs)) ≡ length (filter test xs) → length (cond a (n ∷ filter (λ other. other == k) (flat_map (λ x. option_to_list (f x)) xs)) (filter (λ other. other == k) (flat_map (λ x. option_to_list (f x)) xs))) ≡ length (cond a (x ∷ filter test xs) (filter test xs))
        of_test true h = ap suc h
        of_test false h = h

times-some : {X : Type 0} (f : X → Option ℕ) (test : X → Bool) (k : ℕ) → ((x : X) → test x ≡ option_map_or (λ n. n == k) (f x) false) → (xs : List X) → times k (flat_map (λ x. option_to_list (f x)) xs) ≡ length (filter test xs)
times-some f test k says xs = times-same k (flat_map (λ x. option_to_list (f x)) xs) ∙ same-some f test k says xs

pub placements_queues : (number : ℕ) (arbiter : ArbiterPart) (branches : List BranchPart) → map (λ (part : BranchPart). part.queue) branches ≡ map (λ (s : Placement). s.branch.queue) (map (λ branch. record { domain = number; kind = arbiter.kind; branch = branch }) branches)
placements_queues number arbiter branches = sym (map_twice (λ (s : Placement). s.branch.queue) (λ branch. record { domain = number; kind = arbiter.kind; branch = branch }) branches)

-- the branches' queues, by their placements
pub branch_queues_placements : (number : ℕ) (arbiters : List ArbiterPart) → flat_map queues_in arbiters ≡ map (λ (s : Placement). s.branch.queue) (placements_from number arbiters)
branch_queues_placements number [] = refl
branch_queues_placements number (arbiter ∷ arbiters) =
    ap (λ (queues : List ℕ). queues ++ flat_map queues_in arbiters) (placements_queues number arbiter arbiter.branches)
    ∙ ap (λ (queues : List ℕ). map (λ (s : Placement). s.branch.queue) (placements_of number arbiter) ++ queues) (branch_queues_placements (number + 1) arbiters)
    ∙ sym (map-both (λ (s : Placement). s.branch.queue) (placements_of number arbiter) (placements_from (number + 1) arbiters))

-- a domain changes no queue
domain_queues : (domains : List DomainPart) (ss : List Placement) → map (λ (s : Placement). s.branch.queue) (map (in_domain domains) ss) ≡ map (λ (s : Placement). s.branch.queue) ss
domain_queues domains ss = map_twice (λ (s : Placement). s.branch.queue) (in_domain domains) ss

pub map_or-map : {X Y : Type 0} (f : X → Y) (g : Y → Bool) (o : Option X) → option_map_or g (option_map f o) false ≡ option_map_or (λ x. g (f x)) o false
map_or-map f g None = refl
map_or-map f g (Some x) = refl

-- whether a task that fired at this spot, if any, belongs to the queue
pub for_queue : (wiring : Parts) (k : ℕ) (fired : Option Spot) → option_map_or (λ (s : Placement). s.branch.queue == k) (option_and_then (λ spot. placement wiring (branch_of spot)) fired) false ≡ option_map_or (λ n. n == k) (option_and_then (λ spot. slice_get (branch_queues wiring) (branch_of spot)) fired) false
for_queue wiring k None = refl
for_queue wiring k (Some spot) =
    sym (map_or-map (λ (s : Placement). s.branch.queue) (λ n. n == k) (placement wiring (branch_of spot)))
    ∙ ap (λ (o : Option ℕ). option_map_or (λ n. n == k) o false)
    (sym (slice_get-map (λ (s : Placement). s.branch.queue) (placements wiring) (branch_of spot))
    ∙ ap (λ (queues : List ℕ). slice_get queues (branch_of spot)) (domain_queues wiring.domains (placements_from 0 wiring.arbiters) ∙ sym (branch_queues_placements 0 wiring.arbiters)))

-- the tasks of a queue, by the spots at which they fired
pub times-queue : (wiring : Parts) (history : List Event) (k : ℕ) (fired : TaskId → Option Spot) → ((task : TaskId) → fired task ≡ spot_of history task) → (tasks : List TaskId) → times k (flat_map (λ task. option_to_list (option_and_then (λ spot. slice_get (branch_queues wiring) (branch_of spot)) (fired task))) tasks) ≡ length (filter (is_for_queue wiring history k) tasks)
times-queue wiring history k fired known tasks =
    times-some (λ task. option_and_then (λ spot. slice_get (branch_queues wiring) (branch_of spot)) (fired task)) (is_for_queue wiring history k) k
    (λ task. for_queue wiring k (spot_of history task) ∙ ap (λ (o : Option Spot). option_map_or (λ n. n == k) (option_and_then (λ spot. slice_get (branch_queues wiring) (branch_of spot)) o) false) (sym (known task)))
    tasks

-- what a port held no longer was taken from it
pub taken_left : (history : List Event) (k : ℕ) → length (taken_at history k) ≡ length (posted history k) - length (held history k)
taken_left history k =
    let both = length-filter_both (λ (message : Msg). has_message (taken history) message.id) (λ (message : Msg). not (has_message (taken history) message.id)) (λ message. refl) (posted history k) in
    omega (arith, both)
