-- The test by numbers is the condition on the wiring.
use Rattle.std.proofs.Common.{Bool, true, false, ◌≡◌, ◌⊎◌, ℕ, zero, suc, ◌+◌, ◌<◌, ◌≤◌, ◌==◌, ◌&&◌, List, [], ◌∷◌, ◌++◌, map, length, sym, refl, ap, ◌∙◌, subst, arith, eq-eqb, inl, inr, None, Some}
use Rattle.std.specs.Prelude.{nat_lt, slice_get, All, flat_map, Option, ◌↔◌}
use Rattle.std.specs.List.{list_all}
use Rattle.std.specs.Option.{is_some, option_map_or}
use Rattle.std.proofs.lemmas.Bool.{cases_lt, eqb-true, lt-ltb, ltb-true, and_parts, and_from}
use Rattle.std.proofs.lemmas.List.{length-append, length-map}
use Rattle.std.proofs.lemmas.List.Concat.{flat_map-cons}
use Rattle.std.proofs.lemmas.List.Elements.{All-nil, All-cons, All-head, All-tail}
use Rattle.std.proofs.lemmas.Option.{slice_get_past}
use Rattle.ccr_base.specs.declared.messages.Msg.{Msg}
use Rattle.ccr_base.specs.declared.names.Spot.{Spot}
use Rattle.ccr_base.specs.declared.names.Spot.TheVariants.{Branch, Site}
use Rattle.ccr_base.specs.declared.tasks.Cut.{Cut}
use Rattle.ccr_base.specs.declared.tasks.Task.{Task}
use Rattle.ccr_base.specs.Lists.{are_apart}
use Rattle.ccr_base.proofs.Options.{is_some-get, get-last, get-left}
use Rattle.ccr_wiring.specs.declared.parts.ArbiterPart.{ArbiterPart}
use Rattle.ccr_wiring.specs.declared.parts.BranchPart.{BranchPart}
use Rattle.ccr_wiring.specs.declared.parts.Kind.{Kind}
use Rattle.ccr_wiring.specs.declared.parts.Parts.{Parts}
use Rattle.ccr_wiring.specs.Domains.{domain_of}
use Rattle.ccr_wiring.specs.Wirings.{Placement, placements, placements_from, in_domain, awaited, actions_of}
use Rattle.ccr_claim.specs.declared.asks.Ask.{Ask}
use Rattle.ccr_claim.specs.declared.asks.Ask.TheVariants as asks
use Rattle.ccr_claim.specs.declared.asks.Reply.{Reply}
use Rattle.ccr_claim.specs.declared.asks.Reply.TheVariants as replies
use Rattle.ccr_claim.specs.Wired.{IsSpotOf, AreCausesOf, IsDomainOf, IsMessageOf, IsTaskOf, HasQueueOf, IsHandedOf, IsKnown, IsReplyOf}
use Rattle.ccr_object.specs.Numbers.{Numbers, numbers_of, no_numbers, domain_tests, has_domain, site_count, site_counts, arbiter_sites, has_spot, has_each, has_causes, knows_message, knows_task, has_handed, has_cut, is_known, names_known}

module _ (wiring : Parts) where
  one_arbiter : (arbiter : ℕ) (kind : Kind) (branches : List BranchPart) (rest : List Placement)
      → map (λ (s : Placement). site_count wiring s.branch) (map (λ branch. record { domain = arbiter; kind = kind; branch = branch }) branches ++ rest) ≡ map (site_count wiring) branches ++ map (λ (s : Placement). site_count wiring s.branch) rest
  one_arbiter arbiter kind [] rest = refl
  one_arbiter arbiter kind (b ∷ bs) rest = ap (λ (l : List ℕ). site_count wiring b ∷ l) (one_arbiter arbiter kind bs rest)

  counted : (number : ℕ) (arbiters : List ArbiterPart) → map (λ (s : Placement). site_count wiring s.branch) (placements_from number arbiters) ≡ flat_map (arbiter_sites wiring) arbiters
  counted number [] = refl
  counted number (a ∷ more) = one_arbiter number a.kind a.branches (placements_from (number + 1) more)
      ∙ (ap (λ (l : List ℕ). map (site_count wiring) a.branches ++ l) (counted (number + 1) more) ∙ sym (flat_map-cons (arbiter_sites wiring) a more))

  -- the domain of a branch doesn't count
  in_domains : (ss : List Placement) → map (λ (s : Placement). site_count wiring s.branch) (map (in_domain wiring.domains) ss) ≡ map (λ (s : Placement). site_count wiring s.branch) ss
  in_domains [] = refl
  in_domains (s ∷ ss) = ap (λ (l : List ℕ). site_count wiring s.branch ∷ l) (in_domains ss)

  -- the counts are those of the branches
  counts_are : site_counts wiring ≡ map (λ (s : Placement). site_count wiring s.branch) (placements wiring)
  counts_are = sym (in_domains (placements_from 0 wiring.arbiters) ∙ counted 0 wiring.arbiters)

  many : length (site_counts wiring) ≡ length (placements wiring)
  many = ap length counts_are ∙ length-map (placements wiring) (λ (s : Placement). site_count wiring s.branch)

  -- a site is counted where it awaits a port
  site_in : (ss : List Placement) (branch site : ℕ) → option_map_or (λ count. nat_lt site count) (slice_get (map (λ (s : Placement). site_count wiring s.branch) ss) branch) false
      ≡ is_some (option_map_or (λ (s : Placement). slice_get (awaited (actions_of wiring s.branch.handler)) site) (slice_get ss branch) None)
  site_in [] branch site = refl
  site_in (s ∷ ss) zero site = sym (is_some-get (awaited (actions_of wiring s.branch.handler)) site)
  site_in (s ∷ ss) (suc branch) site = site_in ss branch site

  spot_to : (spot : Spot) → has_spot (numbers_of wiring) spot ≡ true → IsSpotOf wiring spot
  spot_to (Branch branch) e = subst (λ n. branch < n) many (ltb-true branch (length (site_counts wiring)) e)
  spot_to (Site branch site) e = sym (site_in (placements wiring) branch site) ∙ (ap (λ (l : List ℕ). option_map_or (λ count. nat_lt site count) (slice_get l branch) false) (sym counts_are) ∙ e)

  spot_from : (spot : Spot) → IsSpotOf wiring spot → has_spot (numbers_of wiring) spot ≡ true
  spot_from (Branch branch) l = lt-ltb branch (length (site_counts wiring)) (subst (λ n. branch < n) (sym many) l)
  spot_from (Site branch site) e = ap (λ (l : List ℕ). option_map_or (λ count. nat_lt site count) (slice_get l branch) false) counts_are ∙ (site_in (placements wiring) branch site ∙ e)

  -- the tests of the domains, by number
  tests_long : (n : ℕ) → length (domain_tests wiring.domains n) ≡ n
  tests_long zero = refl
  tests_long (suc n) = length-append (domain_tests wiring.domains n) _ ∙ (let rest = tests_long n in omega arith)

  test_at : (n i : ℕ) → i < n → slice_get (domain_tests wiring.domains n) i ≡ Some (domain_of wiring.domains i == i)
  test_at zero i low = absurd (omega arith)
  test_at (suc n) i low = by (cases_lt i n) (test_at n i)
    where
      by : (i < n) ⊎ (n ≤ i) → (i < n → slice_get (domain_tests wiring.domains n) i ≡ Some (domain_of wiring.domains i == i)) → slice_get (domain_tests wiring.domains n ++ (domain_of wiring.domains n == n) ∷ []) i ≡ Some (domain_of wiring.domains i == i)
      by (inl less) rest = get-left (domain_tests wiring.domains n) _ i (rw (tests_long n) less) ∙ rest less
      by (inr more) rest =
          let last : i ≡ n = omega (arith, low, more) in
          get-last (domain_tests wiring.domains n) _ i (domain_of wiring.domains n == n) (last ∙ sym (tests_long n)) refl ∙ ap (λ k. Some (domain_of wiring.domains k == k)) (sym last)

  domain_to : (i : ℕ) → has_domain (numbers_of wiring) i ≡ true → IsDomainOf wiring i
  domain_to i e = by (cases_lt i (length wiring.arbiters))
    where
      n : ℕ
      n = length wiring.arbiters

      by : (i < n) ⊎ (n ≤ i) → IsDomainOf wiring i
      by (inl less) = (less, eqb-true (domain_of wiring.domains i) i (sym (ap (λ o. option_map_or (λ (own : Bool). own) o false) (test_at n i less)) ∙ e))
      by (inr more) =
          let none : has_domain (numbers_of wiring) i ≡ false = ap (λ o. option_map_or (λ (own : Bool). own) o false) (slice_get_past (domain_tests wiring.domains n) i (rw (tests_long n) more)) in
          absurd (let no = sym none ∙ e in cc)

  domain_from : (i : ℕ) → IsDomainOf wiring i → has_domain (numbers_of wiring) i ≡ true
  domain_from i is = ap (λ o. option_map_or (λ (own : Bool). own) o false) (test_at (length wiring.arbiters) i is.0) ∙ eq-eqb (domain_of wiring.domains i) i is.1

  each_to : (n : ℕ) (causes : List ℕ) → has_each n causes ≡ true → All (λ cause. cause < n) causes
  each_to n [] e = All-nil (λ cause. cause < n)
  each_to n (c ∷ cs) e = let p = and_parts (nat_lt c n) (has_each n cs) e in All-cons (λ cause. cause < n) c cs (ltb-true c n p.0) (each_to n cs p.1)

  each_from : (n : ℕ) (causes : List ℕ) → All (λ cause. cause < n) causes → has_each n causes ≡ true
  each_from n [] all = refl
  each_from n (c ∷ cs) all = and_from (nat_lt c n) (has_each n cs) (lt-ltb c n (all 0 c (omega arith))) (each_from n cs (All-tail (λ cause. cause < n) c cs all))

  causes_to : (causes : List ℕ) → has_causes (numbers_of wiring) causes ≡ true → AreCausesOf wiring causes
  causes_to causes e = let p = and_parts (has_each (length wiring.causes) causes) (are_apart causes) e in (each_to (length wiring.causes) causes p.0, p.1)

  causes_from : (causes : List ℕ) → AreCausesOf wiring causes → has_causes (numbers_of wiring) causes ≡ true
  causes_from causes k = and_from (has_each (length wiring.causes) causes) (are_apart causes) (each_from (length wiring.causes) causes k.0) k.1

  message_to : (m : Msg) → knows_message (numbers_of wiring) m ≡ true → IsMessageOf wiring m
  message_to m e = let p = and_parts (nat_lt m.port (length wiring.ports)) (has_causes (numbers_of wiring) m.causes) e in (ltb-true m.port (length wiring.ports) p.0, causes_to m.causes p.1)

  message_from : (m : Msg) → IsMessageOf wiring m → knows_message (numbers_of wiring) m ≡ true
  message_from m k = and_from (nat_lt m.port (length wiring.ports)) (has_causes (numbers_of wiring) m.causes) (lt-ltb m.port (length wiring.ports) k.0) (causes_from m.causes k.1)

  task_to : (t : Task) → knows_task (numbers_of wiring) t ≡ true → IsTaskOf wiring t
  task_to t e =
      let p = and_parts _ (has_causes (numbers_of wiring) t.causes) e in
      let q = and_parts _ (nat_lt t.queue (length wiring.queues)) p.0 in
      let r = and_parts (has_spot (numbers_of wiring) t.spot) (has_domain (numbers_of wiring) t.arbiter) q.0 in
      (spot_to t.spot r.0, domain_to t.arbiter r.1, ltb-true t.queue (length wiring.queues) q.1, causes_to t.causes p.1)

  task_from : (t : Task) → IsTaskOf wiring t → knows_task (numbers_of wiring) t ≡ true
  task_from t k =
      and_from ((has_spot (numbers_of wiring) t.spot && has_domain (numbers_of wiring) t.arbiter) && nat_lt t.queue (length wiring.queues)) (has_causes (numbers_of wiring) t.causes)
      (and_from (has_spot (numbers_of wiring) t.spot && has_domain (numbers_of wiring) t.arbiter) (nat_lt t.queue (length wiring.queues))
      (and_from (has_spot (numbers_of wiring) t.spot) (has_domain (numbers_of wiring) t.arbiter) (spot_from t.spot k.0) (domain_from t.arbiter k.1))
      (lt-ltb t.queue (length wiring.queues) k.2))
      (causes_from t.causes k.3)

  pub known_to : (ask : Ask) → is_known (numbers_of wiring) ask ≡ true → IsKnown wiring ask
  known_to (asks.Post m) e = message_to m e
  known_to (asks.Claim t s) e = ltb-true s.port (length wiring.ports) e
  known_to (asks.Consume t) e = tt
  known_to (asks.Free t) e = tt
  known_to (asks.Commit t ms) e = task_to t e
  known_to asks.Admit e = tt
  known_to (asks.Over t r h) e = tt
  known_to (asks.Suspend t) e = task_to t e
  known_to (asks.Book t r) e = tt
  known_to (asks.Unbook t) e = tt
  known_to (asks.Put t) e = task_to t e
  known_to asks.Take e = tt
  known_to asks.Draw e = tt
  known_to asks.Leave e = tt
  known_to asks.Left e = tt

  pub known_from : (ask : Ask) → IsKnown wiring ask → is_known (numbers_of wiring) ask ≡ true
  known_from (asks.Post m) k = message_from m k
  known_from (asks.Claim t s) k = lt-ltb s.port (length wiring.ports) k
  known_from (asks.Consume t) k = refl
  known_from (asks.Free t) k = refl
  known_from (asks.Commit t ms) k = task_from t k
  known_from asks.Admit k = refl
  known_from (asks.Over t r h) k = refl
  known_from (asks.Suspend t) k = task_from t k
  known_from (asks.Book t r) k = refl
  known_from (asks.Unbook t) k = refl
  known_from (asks.Put t) k = task_from t k
  known_from asks.Take k = refl
  known_from asks.Draw k = refl
  known_from asks.Leave k = refl
  known_from asks.Left k = refl

  pub exact : (ask : Ask) → (is_known (numbers_of wiring) ask ≡ true) ↔ IsKnown wiring ask
  exact ask = (known_to ask, known_from ask)

-- ---- replies

all_to : {X : Type 0} (p : X → Bool) (P : X → Type 0) → ((x : X) → p x ≡ true → P x) → (xs : List X) → list_all p xs ≡ true → All P xs
all_to p P each [] e = All-nil P
all_to p P each (x ∷ xs) e = let parts = and_parts (p x) (list_all p xs) e in All-cons P x xs (each x parts.0) (all_to p P each xs parts.1)

all_from : {X : Type 0} (p : X → Bool) (P : X → Type 0) → ((x : X) → P x → p x ≡ true) → (xs : List X) → All P xs → list_all p xs ≡ true
all_from p P each [] all = refl
all_from p P each (x ∷ xs) all = and_from (p x) (list_all p xs) (each x (All-head P x xs all)) (all_from p P each xs (All-tail P x xs all))

-- a reply that names only numbers of which each is the wiring's
module _ (wiring : Parts) (known : Numbers) (message_of : (m : Msg) → knows_message known m ≡ true → IsMessageOf wiring m) (task_of : (t : Task) → knows_task known t ≡ true → IsTaskOf wiring t) (cut_of : (c : Cut) → has_cut known c ≡ true → HasQueueOf wiring c) where
  handed_of : (o : Option Task) → has_handed known o ≡ true → IsHandedOf wiring o
  handed_of None e = tt
  handed_of (Some t) e = task_of t e

  reply_of : (reply : Reply) → names_known known reply ≡ true → IsReplyOf wiring reply
  reply_of (replies.Got ms) e = all_to (knows_message known) (IsMessageOf wiring) message_of ms e
  reply_of (replies.Fired o cs) e = let parts = and_parts (has_handed known o) (list_all (has_cut known) cs) e in (handed_of o parts.0, all_to (has_cut known) (HasQueueOf wiring) cut_of cs parts.1)
  reply_of (replies.Admitted o) e = handed_of o e
  reply_of (replies.Dropped o) e = handed_of o e
  reply_of (replies.Taken o) e = handed_of o e
  reply_of replies.Done e = tt
  reply_of (replies.Busy t) e = tt
  reply_of (replies.Short n) e = tt
  reply_of (replies.Dead by) e = tt
  reply_of replies.Booked e = tt
  reply_of (replies.Full n) e = tt
  reply_of (replies.Drawn n) e = tt
  reply_of replies.Spent e = tt
  reply_of (replies.Left n) e = tt

pub reply_to : (wiring : Parts) (reply : Reply) → names_known (numbers_of wiring) reply ≡ true → IsReplyOf wiring reply
reply_to wiring reply e = reply_of wiring (numbers_of wiring) (message_to wiring) (task_to wiring) (λ c is. ltb-true c.queue (length wiring.queues) is) reply e

-- where there are no numbers, a reply names none
none_to : (n : ℕ) → nat_lt n 0 ≡ true → ⊥
none_to n e = let low = ltb-true n 0 e in omega (arith, low)

pub reply_none : (wiring : Parts) (reply : Reply) → names_known no_numbers reply ≡ true → IsReplyOf wiring reply
reply_none wiring reply e = reply_of wiring no_numbers
    (λ m is. absurd (none_to m.port (and_parts (nat_lt m.port 0) (has_causes no_numbers m.causes) is).0))
    (λ t is. absurd (none_to t.queue (and_parts _ (nat_lt t.queue 0) (and_parts _ (has_causes no_numbers t.causes) is).0).1))
    (λ c is. absurd (none_to c.queue is))
    reply e

handed_from : (wiring : Parts) (o : Option Task) → IsHandedOf wiring o → has_handed (numbers_of wiring) o ≡ true
handed_from wiring None k = refl
handed_from wiring (Some t) k = task_from wiring t k

reply_from : (wiring : Parts) (reply : Reply) → IsReplyOf wiring reply → names_known (numbers_of wiring) reply ≡ true
reply_from wiring (replies.Got ms) k = all_from (knows_message (numbers_of wiring)) (IsMessageOf wiring) (message_from wiring) ms k
reply_from wiring (replies.Fired o cs) k = and_from (has_handed (numbers_of wiring) o) (list_all (has_cut (numbers_of wiring)) cs) (handed_from wiring o k.0) (all_from (has_cut (numbers_of wiring)) (HasQueueOf wiring) (λ c low. lt-ltb c.queue (length wiring.queues) low) cs k.1)
reply_from wiring (replies.Admitted o) k = handed_from wiring o k
reply_from wiring (replies.Dropped o) k = handed_from wiring o k
reply_from wiring (replies.Taken o) k = handed_from wiring o k
reply_from wiring replies.Done k = refl
reply_from wiring (replies.Busy t) k = refl
reply_from wiring (replies.Short n) k = refl
reply_from wiring (replies.Dead by) k = refl
reply_from wiring replies.Booked k = refl
reply_from wiring (replies.Full n) k = refl
reply_from wiring (replies.Drawn n) k = refl
reply_from wiring replies.Spent k = refl
reply_from wiring (replies.Left n) k = refl

pub exact_replies : (wiring : Parts) (reply : Reply) → (names_known (numbers_of wiring) reply ≡ true) ↔ IsReplyOf wiring reply
exact_replies wiring reply = (reply_to wiring reply, reply_from wiring reply)
