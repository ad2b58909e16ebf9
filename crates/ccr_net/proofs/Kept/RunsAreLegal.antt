-- What is visible of a run is legal and covered.
use Rattle.std.proofs.Common.{inl, inr, ◌≡◌, ◌≤◌, ℕ, zero, suc, ◌+◌, Bool, true, false, List, [], length, Option, Some, None, refl, arith, ap, ◌∙◌}
use Rattle.std.specs.Prelude.{nat_le}
use Rattle.std.specs.List.{slice_get}
use Rattle.std.proofs.lemmas.Bool.Decides.{nat_tests}
use Rattle.std.specs.Option.{option_map_or}
use Rattle.ccr_base.specs.Names.{has_task}
use Rattle.ccr_wiring.specs.declared.parts.Parts.{Parts}
use Rattle.ccr_wiring.specs.declared.parts.PosterPart.{PosterPart}
use Rattle.ccr_wiring.specs.Valid.{IsValid}
use Rattle.ccr_wiring.specs.Wirings.{policy_of}
use Rattle.ccr_wiring.proofs.Soundness.{sound}
use Rattle.ccr_model.specs.Legal.{IsLegal, has_shed, is_covered}
use Rattle.ccr_model.specs.Posts.{posts_of_tasks}
use Rattle.ccr_model.specs.Tasks.{count_unfinished}
use Rattle.ccr_base.proofs.Options.{none-above}
use Rattle.ccr_model.proofs.LegalIsCovered.{IsCovered-legal}
use Rattle.ccr_actor.specs.Actors.{State, Work, lines, round, work_of, fresh_state}
use Rattle.ccr_runs.specs.declared.entries.Entry.{Entry}
use Rattle.ccr_runs.specs.EntryRuns.{Lacks, IsRun, port_at, state_of, queue_at}
use Rattle.ccr_runs.specs.Visible.{visible}
use Rattle.ccr_net.proofs.Parts.TasksAreBookedOnce.{QueueSound-start}
use Rattle.ccr_net.proofs.Parts.OneMoreEntry.{along_run, Step-made}
use Rattle.ccr_net.proofs.Parts.DomainsMatch.{DomainMatches-begins}
use Rattle.ccr_net.proofs.Parts.PortsAndHandsMatch.{puts_in, ActorMatches}
use Rattle.ccr_net.proofs.Parts.WorkMatches.{WorkMatches}
use Rattle.ccr_net.proofs.Parts.MeterMatches.{count, count-same, is_posting, is_shedding}
use Rattle.ccr_net.proofs.Kept.WholeInvariant.{IsBegun, ActorHolds-begun, IsBooked-begun, begins, begun_work, Holds, works_of}
use Rattle.ccr_net.proofs.Kept.WhatWiringsHave.{PlainFacts}
use Rattle.ccr_net.proofs.Kept.ValidWiringsArePlain.{plain_facts}
use Rattle.ccr_net.proofs.Kept.EachTurnKeepsAll.{step_kept}

fresh_claims : (w : Parts) (a : ℕ) (work : Work) → ActorMatches w [] (port_at []) a (fresh_state work)
fresh_claims w a work = record {
  fired_below = λ t is f. absurd (cc);
  claims_below = λ p c is own. absurd (cc);
  claims_had = λ p c is own. absurd (cc);
  had_claimed = λ d is. absurd is;
  had_marked = λ d is. absurd is;
  had_enough = λ d is. absurd is;
  owed = λ x is. absurd is;
  one_put = omega arith;
}

fresh_work : (w : Parts) (a : ℕ) → WorkMatches w [] a (work_of w a)
fresh_work w a = by (slice_get w.posters a) refl
  where
    by : (o : Option PosterPart) → slice_get w.posters a ≡ o → WorkMatches w [] a (option_map_or (λ (p : PosterPart). lines 0 p.posts) o round)
    by None is = record { worker = none-above w.posters a is; none = refl }
    by (Some p) is = record { poster = p; is_poster = is; index_so = refl; left_so = refl }

no_posting : (w : Parts) (a : ℕ) → is_posting (work_of w a) ≡ false
no_posting w a = by (slice_get w.posters a)
  where
    by : (o : Option PosterPart) → is_posting (option_map_or (λ (p : PosterPart). lines 0 p.posts) o round) ≡ false
    by None = refl
    by (Some p) = refl

no_shedding : (w : Parts) (a : ℕ) → is_shedding (work_of w a) ≡ false
no_shedding w a = by (slice_get w.posters a)
  where
    by : (o : Option PosterPart) → is_shedding (option_map_or (λ (p : PosterPart). lines 0 p.posts) o round) ≡ false
    by None = refl
    by (Some p) = refl

count-none : (n : ℕ) → count n (λ a. false) ≡ 0
count-none zero = refl
count-none (suc n) = let rest = count-none n in omega (arith, rest)

pub Holds-begins : (w : Parts) (n : ℕ) (lacks : Lacks) → Holds w n lacks []
Holds-begins w n lacks = record {
  legal = tt;
  ports = record { holds_so = λ p. refl; enough = λ p c is. absurd (cc); items_posted = λ p name is. absurd (cc); taken_posted = λ name is. absurd (cc) };
  queues = record {
    listed = record { queued_so = λ q. refl; policy_so = λ q. refl };
    booked = record { sound = λ q. QueueSound-start q (policy_of w q); fired_booked = λ q t is. absurd (cc); queued_fresh = λ q x is. absurd is };
  };
  under_way = λ a. IsBooked-begun w (queue_at w []) a (state_of w lacks [] a) (begins w lacks a);
  actors = λ a. ActorHolds-begun w [] (port_at []) a (state_of w lacks [] a) (begins w lacks a) (record { claims = fresh_claims w a (work_of w a); work = fresh_work w a; fits = record { spots_so = λ s is. absurd is; phase_so = tt } });
  meter = record {
    low = omega arith;
    drawn_so = (let none = count-same n (λ a. is_posting (works_of w lacks [] a)) (λ a. false) (λ a less. ap is_posting (works_begin a) ∙ no_posting w a) ∙ count-none n in omega (arith, none));
    spent = λ a is. absurd (let none : is_shedding (works_of w lacks [] a) ≡ false = ap is_shedding (works_begin a) ∙ no_shedding w a in cc);
  };
  budget = refl;
  arbiters = λ i. refl;
  sites = λ b k. refl;
  domains = λ i is. DomainMatches-begins w i;
  apart = λ a b other t is. absurd (let none : has_task (puts_in (state_of w lacks [] a).hand) t ≡ false = ap (λ ts. has_task ts t) (puts_begin a) in cc);
}
  where
    puts_begin : (a : ℕ) → puts_in (state_of w lacks [] a).hand ≡ []
    puts_begin a = by (begins w lacks a)
      where
        by : IsBegun w a (state_of w lacks [] a) → puts_in (state_of w lacks [] a).hand ≡ []
        by (inl is) = ap (λ (s : State). puts_in s.hand) is
        by (inr is) = ap (λ (s : State). puts_in s.hand) is

    works_begin : (a : ℕ) → works_of w lacks [] a ≡ work_of w a
    works_begin a = begun_work w a (state_of w lacks [] a) (begins w lacks a)

pub visible_holds : (w : Parts) (workers : ℕ) → PlainFacts w → length w.posters + workers ≤ 33 → (es : List Entry) (run : IsRun w workers es) → Holds w (length w.posters + workers) run.lacks es
visible_holds w workers first few es run = along_run w workers run.lacks (Holds w (length w.posters + workers) run.lacks)
    (λ past e holds low made. step_kept w (length w.posters + workers) first few run.lacks past e low holds (Step-made w run.lacks past e made))
    (Holds-begins w (length w.posters + workers) run.lacks) es run.steps

-- each visible history of a run is legal
pub visible_legal : (w : Parts) (workers : ℕ) (es : List Entry) → IsValid w → workers ≤ 16 → IsRun w workers es → IsLegal w (visible es)
visible_legal w workers es valid few run = (visible_holds w workers (plain_facts w valid) (let posters = (sound w valid).small.posters in omega (arith, posters, few)) es run).legal

-- and covered
pub visible_covered : (w : Parts) (workers : ℕ) (es : List Entry) → IsValid w → workers ≤ 16 → IsRun w workers es → is_covered w (visible es) ≡ true
visible_covered w workers es valid few run = by (has_shed (visible es)) refl
  where
    by : (b : Bool) → has_shed (visible es) ≡ b → is_covered w (visible es) ≡ true
    by false none = rw none refl
    by true some = let paid = IsCovered-legal w (visible es) (visible_legal w workers es valid few run) some in let le : nat_le w.budget (posts_of_tasks (visible es) + count_unfinished w (visible es)) ≡ true = grind (arith, nat_tests, paid) in rw (some, le) refl
