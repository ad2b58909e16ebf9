-- The tasks of a legal history, and those that attempts build, name what the wiring has.
use Rattle.std.proofs.Common.{◌⊎◌, inl, inr, ◌≡◌, ◌<◌, ◌≤◌, min, ℕ, Bool, true, false, not, ◌||◌, List, [], ◌∷◌, ◌++◌, length, flat_map, Option, Some, None, refl, sym, arith, ap, ◌∙◌, subst}
use Rattle.std.specs.Prelude.{◌==◌, if◌then◌else◌, is_some, option_map, unwrap_or, slice_get, nat_le}
use Rattle.std.specs.Option.{option_and_then, option_map_or}
use Rattle.std.proofs.lemmas.Bool.Decides.{nat_tests}
use Rattle.ccr_base.specs.declared.messages.Msg.{Msg}
use Rattle.ccr_base.specs.declared.names.Spot.{Spot}
use Rattle.ccr_base.specs.declared.names.Spot.TheVariants.{Branch, Site}
use Rattle.ccr_base.specs.declared.names.TaskId.{TaskId}
use Rattle.ccr_base.specs.declared.tasks.Task.{Task}
use Rattle.ccr_base.specs.Names.{same_task}
use Rattle.ccr_wiring.specs.declared.parts.DomainPart.{DomainPart}
use Rattle.ccr_wiring.specs.declared.parts.Parts.{Parts}
use Rattle.ccr_wiring.specs.Domains.{domain_of, least_with}
use Rattle.ccr_wiring.specs.Repeats.{has_repeating_domain, members_in_all}
use Rattle.ccr_wiring.specs.Valid.{IsSound, IsValid}
use Rattle.ccr_wiring.specs.Wirings.{Placement, branch_of, in_domain, placement, placements_from, site_port, queue_of_spot, domain_of_spot}
use Rattle.ccr_wiring.proofs.Lists.{neither}
use Rattle.ccr_wiring.proofs.DomainsOfOwnKind.{least-low}
use Rattle.ccr_wiring.proofs.Positions.{placement-domain}
use Rattle.ccr_wiring.proofs.Validity.{no_codes, none_stand_twice}
use Rattle.ccr_base.proofs.Apart.{apart-split}
use Rattle.ccr_model.specs.declared.history.Event.{Event}
use Rattle.ccr_model.specs.declared.history.Event.TheVariants as events
use Rattle.ccr_model.specs.Selection.{are_oldest}
use Rattle.ccr_model.specs.Firings.{Firing, firing_of, firings}
use Rattle.ccr_model.specs.Legal.{IsAllowed, IsLegal}
use Rattle.ccr_model.specs.Posts.{held}
use Rattle.ccr_model.specs.TaskData.{placement_of}
use Rattle.ccr_base.proofs.Booleans.{both, eq-self, same_number, or_right}
use Rattle.ccr_model.proofs.FiredTasks.{IsFired}
use Rattle.ccr_model.proofs.FiringPlacements.{site_placement}
use Rattle.ccr_model.proofs.Members.{Among, Among-either, found_among}
use Rattle.ccr_base.proofs.Options.{some-below, some_of, some_is}
use Rattle.ccr_base.specs.Lists.{are_apart, has_number}
use Rattle.ccr_base.proofs.Lists.{any_left, any_right}
use Rattle.ccr_model.proofs.PlacementDomains.{placement-within}
use Rattle.ccr_model.proofs.PostNames.{along}
use Rattle.ccr_model.proofs.OneMoreEvent.{firings-push}
use Rattle.ccr_model.proofs.TakenOnce.{FireFacts-allowed}
use Rattle.ccr_claim.specs.Wired.{IsDomainOf, IsSpotOf, IsTaskOf}
use Rattle.ccr_claim.specs.Plans.{firing_task}
use Rattle.ccr_actor.specs.Plans.{plan_of}
use Rattle.ccr_runs.specs.Views.{view, suspended_view}
use Rattle.ccr_net.proofs.Known.CausesAreKnown.{AreFine, causes_below, fine_causes, load_of-fine, play_of-fine, posted_fine, union_fine}
use Rattle.ccr_net.proofs.Parts.PhasesFitPlans.{SpotFits}

-- ---- domains

least-below : (least : ℕ) (xs : List ℕ) (x : ℕ) → has_number xs x ≡ true → least_with least xs ≤ x
least-below least [] x is = absurd (cc)
least-below least (y ∷ xs) x is = by (y == x) refl is (least-below (min least y) xs x)
  where
    by : (b : Bool) → (y == x) ≡ b → b || has_number xs x ≡ true → (has_number xs x ≡ true → least_with (min least y) xs ≤ x) → least_with (min least y) xs ≤ x
    by true same there rest = let e = same_number y x same in let low = least-low (min least y) xs in omega (arith, e, low)
    by false other there rest = rest there

-- the least is the number itself, or stands there
least-either : (least : ℕ) (xs : List ℕ) → (least_with least xs ≡ least) ⊎ (has_number xs (least_with least xs) ≡ true)
least-either least [] = inl refl
least-either least (x ∷ xs) = by (least-either (min least x) xs)
  where
    of_min : (t : Bool) → nat_le least x ≡ t → least_with (min least x) xs ≡ min least x → (least_with (min least x) xs ≡ least) ⊎ ((x == least_with (min least x) xs) || has_number xs (least_with (min least x) xs) ≡ true)
    of_min true le is = inl (is ∙ (let low : least ≤ x = grind (arith, nat_tests, le) in let e : min least x ≡ least = omega arith in e))
    of_min false le is = inr (let high : x ≤ least = grind (arith, nat_tests, le) in let e : min least x ≡ x = omega arith in let same : (x == least_with (min least x) xs) ≡ true = ap (λ k. x == k) (is ∙ e) ∙ eq-self x in ap (λ b. b || has_number xs (least_with (min least x) xs)) same)

    by : (least_with (min least x) xs ≡ min least x) ⊎ (has_number xs (least_with (min least x) xs) ≡ true) → (least_with (min least x) xs ≡ least) ⊎ ((x == least_with (min least x) xs) || has_number xs (least_with (min least x) xs) ≡ true)
    by (inl is) = of_min (nat_le least x) refl is
    by (inr there) = inr (or_right (x == least_with (min least x) xs) (has_number xs (least_with (min least x) xs)) there)

least-there : (least : ℕ) (xs : List ℕ) → has_number xs least ≡ true → has_number xs (least_with least xs) ≡ true
least-there least xs there = by (least-either least xs)
  where
    by : (least_with least xs ≡ least) ⊎ (has_number xs (least_with least xs) ≡ true) → has_number xs (least_with least xs) ≡ true
    by (inl same) = ap (has_number xs) same ∙ there
    by (inr is) = is

least-again : (m : ℕ) (xs : List ℕ) → ((x : ℕ) → has_number xs x ≡ true → m ≤ x) → least_with m xs ≡ m
least-again m xs low = by (least-either m xs)
  where
    by : (least_with m xs ≡ m) ⊎ (has_number xs (least_with m xs) ≡ true) → least_with m xs ≡ m
    by (inl same) = same
    by (inr there) = let up = low (least_with m xs) there in let down = least-low m xs in omega (arith, up, down)

apart-right : (xs ys : List ℕ) → are_apart (xs ++ ys) ≡ true → are_apart ys ≡ true
apart-right [] ys apart = apart
apart-right (x ∷ xs) ys apart = apart-right xs ys (both (not (has_number (xs ++ ys) x)) (are_apart (xs ++ ys)) apart).1

domain-either : (ds : List DomainPart) (j : ℕ) → (domain_of ds j ≡ j) ⊎ (has_number (members_in_all ds) (domain_of ds j) ≡ true)
domain-either [] j = inl refl
domain-either (d ∷ ds) j = by (has_number d.members j) refl (domain-either ds j)
  where
    by : (b : Bool) → has_number d.members j ≡ b → (domain_of ds j ≡ j) ⊎ (has_number (members_in_all ds) (domain_of ds j) ≡ true) → ((if b then least_with j d.members else domain_of ds j) ≡ j) ⊎ (has_number (d.members ++ members_in_all ds) (if b then least_with j d.members else domain_of ds j) ≡ true)
    by true there rest = inr (any_left (λ m. m == least_with j d.members) d.members (members_in_all ds) (least-there j d.members there))
    by false out (inl same) = inl same
    by false out (inr later) = inr (any_right (λ m. m == domain_of ds j) d.members (members_in_all ds) later)

-- the domain of a domain is that domain
domain-again : (ds : List DomainPart) (j : ℕ) → are_apart (members_in_all ds) ≡ true → domain_of ds (domain_of ds j) ≡ domain_of ds j
domain-again [] j apart = refl
domain-again (d ∷ ds) j apart = by (has_number d.members j) refl (domain-again ds j (apart-right d.members (members_in_all ds) apart))
  where
    m : ℕ
    m = least_with j d.members

    outside : has_number d.members j ≡ false → (domain_of ds j ≡ j) ⊎ (has_number (members_in_all ds) (domain_of ds j) ≡ true) → has_number d.members (domain_of ds j) ≡ false
    outside out (inl same) = ap (has_number d.members) same ∙ out
    outside out (inr later) = of_test (has_number d.members (domain_of ds j)) refl
      where
        of_test : (b : Bool) → has_number d.members (domain_of ds j) ≡ b → has_number d.members (domain_of ds j) ≡ false
        of_test false e = e
        of_test true e = absurd (let no = apart-split d.members (members_in_all ds) (domain_of ds j) apart e in cc)

    by : (b : Bool) → has_number d.members j ≡ b → domain_of ds (domain_of ds j) ≡ domain_of ds j → domain_of (d ∷ ds) (if b then least_with j d.members else domain_of ds j) ≡ (if b then least_with j d.members else domain_of ds j)
    by true there rest = ap (λ b. if b then least_with (least_with j d.members) d.members else domain_of ds (least_with j d.members)) (least-there j d.members there) ∙ least-again (least_with j d.members) d.members (λ x is. least-below j d.members x is)
    by false out rest = ap (λ b. if b then least_with (domain_of ds j) d.members else domain_of ds (domain_of ds j)) (outside out (domain-either ds j)) ∙ rest

-- the number is the domain of a branch
abbrev pub IsDomain : Parts → ℕ → Type 0
IsDomain w i = (b : ℕ) × (s : Placement) × (placement w b ≡ Some s) × (s.domain ≡ i)

pub domain_low : (w : Parts) (i : ℕ) → IsDomain w i → i < length w.arbiters
domain_low w i is = subst (λ k. k < length w.arbiters) is.3 (placement-within w is.0 is.1 is.2)

pub domain_own : (w : Parts) → IsValid w → (i : ℕ) → IsDomain w i → (domain_of w.domains i == i) ≡ true
domain_own w valid i is = of_placement (slice_get (placements_from 0 w.arbiters) is.0) (placement-domain w is.0 ∙ is.2)
  where
    of_not : (b : Bool) → not b ≡ false → b ≡ true
    of_not true e = refl
    of_not false e = absurd (cc)

    apart : are_apart (members_in_all w.domains) ≡ true
    apart = of_not (are_apart (members_in_all w.domains)) (none_stand_twice w (no_codes w valid))

    of_placement : (o : Option Placement) → option_map (in_domain w.domains) o ≡ Some is.1 → (domain_of w.domains i == i) ≡ true
    of_placement None at = absurd (cc)
    of_placement (Some r) at =
        let number : domain_of w.domains r.domain ≡ i = ap (λ (s : Placement). s.domain) (some_is at) ∙ is.3 in
        ap (λ k. domain_of w.domains k == i) (sym number) ∙ ap (λ k. k == i) (domain-again w.domains r.domain apart ∙ number) ∙ eq-self i

-- ---- spots

-- the branch of a spot
pub seat_of : (w : Parts) (spot : Spot) → SpotFits w spot → (s : Placement) × (placement w (branch_of spot) ≡ Some s)
seat_of w (Branch b) fits = fits
seat_of w (Site b k) fits = site_placement w b k fits.0 fits.1

pub spot_known : (w : Parts) (spot : Spot) → SpotFits w spot → IsSpotOf w spot
spot_known w (Branch b) fits = some-below _ b fits.0 fits.1
spot_known w (Site b k) fits = ap is_some fits.1

pub spot_domain : (w : Parts) (spot : Spot) → SpotFits w spot → IsDomain w (domain_of_spot w spot)
spot_domain w spot fits = let seat = seat_of w spot fits in (branch_of spot, seat.0, seat.1, sym (ap (λ o. option_map_or (λ (s : Placement). s.domain) o 0) seat.1))

pub spot_queue : (w : Parts) → IsSound w → (spot : Spot) → SpotFits w spot → queue_of_spot w spot < length w.queues
spot_queue w all spot fits = let seat = seat_of w spot fits in subst (λ k. k < length w.queues) (sym (ap (λ o. option_map_or (λ (s : Placement). s.branch.queue) o 0) seat.1)) (all.queues (branch_of spot) seat.0 seat.1)

-- ---- tasks

-- a task of the spot with such causes
pub task_known : (w : Parts) → IsValid w → IsSound w → (spot : Spot) → SpotFits w spot → (task : Task) → task.spot ≡ spot → task.arbiter ≡ domain_of_spot w spot → task.queue ≡ queue_of_spot w spot → AreFine (length w.causes) task.causes → IsTaskOf w task
task_known w valid all spot fits task at arbiter queue fine = (
  subst (IsSpotOf w) (sym at) (spot_known w spot fits),
  subst (IsDomainOf w) (sym arbiter) (domain_low w (domain_of_spot w spot) (spot_domain w spot fits), same_number _ (domain_of_spot w spot) (domain_own w valid (domain_of_spot w spot) (spot_domain w spot fits))),
  subst (λ k. k < length w.queues) (sym queue) (spot_queue w all spot fits),
  fine_causes w task.causes fine,
)

-- a task that an attempt builds
pub built_known : (w : Parts) → IsValid w → IsSound w → (spot : Spot) → SpotFits w spot → (name : TaskId) (messages : List Msg) → ((m : Msg) → Among m messages → AreFine (length w.causes) m.causes) → IsTaskOf w (firing_task (plan_of w spot) name messages)
built_known w valid all spot fits name messages fine = task_known w valid all spot fits (firing_task (plan_of w spot) name messages) refl refl refl (union_fine (length w.causes) [] (flat_map (λ (m : Msg). m.causes) messages) (record { below = λ c is. absurd is; apart = refl }) (causes_below w all messages fine))

-- each firing is at a spot of the wiring
fires_fit : (w : Parts) (h : List Event) → IsLegal w h → (f : Firing) → Among f (firings h) → SpotFits w f.spot
fires_fit w h legal = along w (λ g. (f : Firing) → Among f (firings g) → SpotFits w f.spot) kept (λ f is. absurd is) h legal
  where
    chosen : (g : List Event) (t : TaskId) (spot : Spot) (ms : _) (cs : List TaskId) → IsAllowed w g (events.Fire t spot ms cs) → SpotFits w spot
    chosen g t (Branch b) ms cs allowed = let found = some_of _ (placement w b) (FireFacts-allowed w g t (Branch b) ms cs allowed).selection_made in (found.0, found.1)
    chosen g t (Site b k) ms cs allowed = let found = some_of (λ port. are_oldest (held g port) ms) (site_port w b k) (FireFacts-allowed w g t (Site b k) ms cs allowed).selection_made in (found.0, found.1)

    kept : (g : List Event) (e : Event) → ((f : Firing) → Among f (firings g) → SpotFits w f.spot) → IsAllowed w g e → (f : Firing) → Among f (firings (g ++ e ∷ [])) → SpotFits w f.spot
    kept g e known allowed f is = by e allowed (Among-either f (firings g) (firing_of e) (subst (Among f) (firings-push g e) is))
      where
        by : (e : Event) → IsAllowed w g e → Among f (firings g) ⊎ Among f (firing_of e) → SpotFits w f.spot
        by e allowed (inl old) = known f old
        by (events.Fire t spot ms cs) allowed (inr (inl same)) = subst (λ (x : Firing). SpotFits w x.spot) (sym same) (chosen g t spot ms cs allowed)
        by (events.Fire t spot ms cs) allowed (inr (inr none)) = absurd none
        by (events.Post m) allowed (inr none) = absurd none
        by (events.Admit t) allowed (inr none) = absurd none
        by (events.Put t d) allowed (inr none) = absurd none
        by (events.Start t a) allowed (inr none) = absurd none
        by (events.End t how) allowed (inr none) = absurd none

module _ (w : Parts) (all : IsSound w) (h : List Event) (legal : IsLegal w h) (t : TaskId) (fires : IsFired h t) where
  pub fired_fits : SpotFits w fires.0.spot
  fired_fits = fires_fit w h legal fires.0 (found_among (λ (g : Firing). same_task g.task t) (firings h) fires.0 fires.1)

  spot_so : (view w h t).spot ≡ fires.0.spot
  spot_so = ap (λ o. unwrap_or (option_map (λ (f : Firing). f.spot) o) (Branch 0)) fires.1

  placed_so : placement_of w h t ≡ placement w (branch_of fires.0.spot)
  placed_so = ap (λ o. option_and_then (λ spot. placement w (branch_of spot)) (option_map (λ (f : Firing). f.spot) o)) fires.1

  arbiter_so : (view w h t).arbiter ≡ domain_of_spot w fires.0.spot
  arbiter_so = ap (λ o. option_map_or (λ (s : Placement). s.domain) o 0) placed_so

  queue_so : (view w h t).queue ≡ queue_of_spot w fires.0.spot
  queue_so = ap (λ o. option_map_or (λ (s : Placement). s.branch.queue) o 0) placed_so

  pub view_known : IsValid w → IsTaskOf w (view w h t)
  view_known valid = task_known w valid all fires.0.spot fired_fits (view w h t) spot_so arbiter_so queue_so (load_of-fine w all h (posted_fine w all h legal) t)

  pub suspended_known : IsValid w → IsTaskOf w (suspended_view w h t)
  suspended_known valid = task_known w valid all fires.0.spot fired_fits (suspended_view w h t) spot_so arbiter_so queue_so (play_of-fine w all h (posted_fine w all h legal) t).causes

  pub view_domain : IsDomain w (view w h t).arbiter
  view_domain = subst (IsDomain w) (sym arbiter_so) (spot_domain w fires.0.spot fired_fits)

  pub view_queue : (view w h t).queue < length w.queues
  view_queue = subst (λ k. k < length w.queues) (sym queue_so) (spot_queue w all fires.0.spot fired_fits)
