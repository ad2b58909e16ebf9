-- Queues, Interleaves and sites, which keep whole tasks, answer each step of a run as the run has it.
use Rattle.std.proofs.Common.{◌≡◌, ◌≤◌, ◌<◌, ℕ, ◌+◌, Bool, true, false, List, [], ◌∷◌, ◌++◌, length, Some, refl, sym, arith, ap, ◌∙◌, subst}
use Rattle.ccr_base.specs.declared.names.Place.{Place}
use Rattle.ccr_base.specs.declared.names.Place.TheVariants as places
use Rattle.ccr_wiring.specs.declared.parts.Parts.{Parts}
use Rattle.ccr_wiring.specs.Valid.{IsValid}
use Rattle.ccr_wiring.proofs.Soundness.{sound}
use Rattle.ccr_claim.specs.declared.asks.Ask.{Ask}
use Rattle.ccr_claim.specs.declared.asks.Ask.TheVariants as asks
use Rattle.ccr_claim.specs.Attempts.{at_place}
use Rattle.ccr_actor.specs.Plans.{is_interleave_number}
use Rattle.ccr_runs.specs.declared.entries.Entry.{Entry}
use Rattle.ccr_runs.specs.Places.{note_of}
use Rattle.ccr_runs.specs.EntryRuns.{Lacks, IsRunAfter, made_by, notes_at, same_place}
use Rattle.ccr_net.proofs.Kept.WholeInvariant.{Holds}
use Rattle.ccr_net.proofs.Played.BuiltTasksAreTold.{commit_tells, resume_tells}
use Rattle.ccr_net.proofs.Played.HandedTasksAreTold.{Handed, Handed-begins, Handed-kept, put_tells, suspend_tells}
use Rattle.ccr_net.proofs.Parts.NotesAnswerAsks.{Given}
use Rattle.ccr_net.proofs.Kept.WhatWiringsHave.{PlainFacts}
use Rattle.ccr_net.proofs.Kept.ValidWiringsArePlain.{plain_facts}
use Rattle.ccr_net.proofs.Played.DomainsAnswer.{CommitTells, domain_answers}
use Rattle.ccr_net.proofs.Played.OtherObjectsStay.{object_stays}
use Rattle.ccr_net.proofs.Played.ObjectsFollowNotes.{AnswersAs, object_of}
use Rattle.ccr_net.proofs.Played.QueuesAnswer.{queue_answers}
use Rattle.ccr_net.proofs.Played.SitesAnswer.{SiteTells, site_answers}
use Rattle.ccr_net.proofs.Parts.OneMoreEntry.{Step, Step-made, along_run}
use Rattle.ccr_net.proofs.Kept.RunsAreLegal.{Holds-begins}
use Rattle.ccr_net.proofs.Kept.EachTurnKeepsAll.{step_kept}

-- whether the object of the place keeps whole tasks
abbrev pub keeps_tasks : Parts → Place → Bool
keeps_tasks w (places.Port p) = false
keeps_tasks w (places.Arbiter i) = is_interleave_number w i
keeps_tasks w (places.Site b k) = true
keeps_tasks w (places.Queue q) = true
keeps_tasks w places.Meter = false

module _ (w : Parts) (n : ℕ) (plain : PlainFacts w) (lacks : Lacks) (es : List Entry) (e : Entry) (holds : Holds w n lacks es) (handed : Handed w lacks es) (step : Step w lacks es e) where
  abbrev ask : Ask
  ask = step.asking.ask

  given_at : (place : Place) → step.asking.place ≡ place → Given w es e (at_place place ask)
  given_at place is = record { there = step.there ∙ is; gives = subst (λ p. note_of w p (notes_at es p) ask ≡ Some e.note) is step.gives }

  asked_at : (place : Place) → step.asking.place ≡ place → step.asking ≡ at_place place ask
  asked_at place is = ap (λ p. at_place p ask) is

  -- what a commit hands in
  pub commits : (i : ℕ) → step.asking.place ≡ places.Arbiter i → (x : Ask) → ask ≡ x → CommitTells w es e i x
  commits i at (asks.Commit task ms) is = commit_tells w n lacks es e holds step i task ms (asked_at (places.Arbiter i) at ∙ ap (at_place (places.Arbiter i)) is)
  commits i at (asks.Post m) is = tt
  commits i at (asks.Claim t s) is = tt
  commits i at (asks.Consume t) is = tt
  commits i at (asks.Free t) is = tt
  commits i at asks.Admit is = tt
  commits i at (asks.Over t r how) is = tt
  commits i at (asks.Suspend t) is = tt
  commits i at (asks.Book t r) is = tt
  commits i at (asks.Unbook t) is = tt
  commits i at (asks.Put t) is = tt
  commits i at asks.Take is = tt
  commits i at asks.Draw is = tt
  commits i at asks.Leave is = tt
  commits i at asks.Left is = tt

  at_site : (b k : ℕ) → step.asking.place ≡ places.Site b k → (x : Ask) → ask ≡ x → SiteTells w es e b k x
  at_site b k at (asks.Commit task ms) is = resume_tells w n lacks es e holds step b k task ms (asked_at (places.Site b k) at ∙ ap (at_place (places.Site b k)) is)
  at_site b k at (asks.Suspend task) is = suspend_tells w n lacks es e holds step handed task is
  at_site b k at (asks.Post m) is = tt
  at_site b k at (asks.Claim t s) is = tt
  at_site b k at (asks.Consume t) is = tt
  at_site b k at (asks.Free t) is = tt
  at_site b k at asks.Admit is = tt
  at_site b k at (asks.Over t r how) is = tt
  at_site b k at (asks.Book t r) is = tt
  at_site b k at (asks.Unbook t) is = tt
  at_site b k at (asks.Put t) is = tt
  at_site b k at asks.Take is = tt
  at_site b k at asks.Draw is = tt
  at_site b k at asks.Leave is = tt
  at_site b k at asks.Left is = tt

  -- the object of such a place answers as the run has it
  pub whole_answers : keeps_tasks w step.asking.place ≡ true → AnswersAs w es step.asking e
  whole_answers keeps = by step.asking.place refl keeps
    where
      by : (place : Place) → step.asking.place ≡ place → keeps_tasks w place ≡ true → AnswersAs w es step.asking e
      by (places.Arbiter i) at is = subst (λ x. AnswersAs w es x e) (sym (asked_at (places.Arbiter i) at)) (domain_answers w n lacks es e plain holds i is ask (given_at (places.Arbiter i) at) (commits i at ask refl))
      by (places.Site b k) at is = subst (λ x. AnswersAs w es x e) (sym (asked_at (places.Site b k) at)) (site_answers w n lacks es e holds b k ask (given_at (places.Site b k) at) (at_site b k at ask refl))
      by (places.Queue q) at is = subst (λ x. AnswersAs w es x e) (sym (asked_at (places.Queue q) at)) (queue_answers w n lacks es e holds q ask (given_at (places.Queue q) at) (put_tells w n lacks es e holds step handed))
      by (places.Port p) at is = absurd (cc)
      by places.Meter at is = absurd (cc)

-- ---- along runs

-- the invariant, and what the actors hand in
pub record HoldsWhole (w : Parts) (n : ℕ) (lacks : Lacks) (es : List Entry) : Type 0 where
  pub holds : Holds w n lacks es
  pub handed : Handed w lacks es

pub run_holds : (w : Parts) (workers : ℕ) (lacks : Lacks) (es : List Entry) → IsValid w → workers ≤ 16 → IsRunAfter w workers lacks [] es → HoldsWhole w (length w.posters + workers) lacks es
run_holds w workers lacks es valid few steps = along_run w workers lacks (HoldsWhole w (length w.posters + workers) lacks) kept (record { holds = Holds-begins w (length w.posters + workers) lacks; handed = Handed-begins w lacks }) es steps
  where
    bound : length w.posters + workers ≤ 33
    bound = let posters = (sound w valid).small.posters in omega (arith, posters, few)

    kept : (past : List Entry) (e : Entry) → HoldsWhole w (length w.posters + workers) lacks past → e.actor < length w.posters + workers → made_by w lacks past e.actor ≡ Some e → HoldsWhole w (length w.posters + workers) lacks (past ++ e ∷ [])
    kept past e known low made = record {
      holds = step_kept w (length w.posters + workers) (plain_facts w valid) bound lacks past e low known.holds (Step-made w lacks past e made);
      handed = Handed-kept w (length w.posters + workers) lacks past e known.holds known.handed;
    }

-- each step of a run at such a place
pub run_answers : (w : Parts) (workers : ℕ) (lacks : Lacks) (es : List Entry) (e : Entry) → IsValid w → workers ≤ 16 → IsRunAfter w workers lacks [] es → (step : Step w lacks es e) → keeps_tasks w step.asking.place ≡ true → AnswersAs w es step.asking e
run_answers w workers lacks es e valid few steps step keeps =
    let known = run_holds w workers lacks es valid few steps in
    whole_answers w (length w.posters + workers) (plain_facts w valid) lacks es e known.holds known.handed step keeps

-- and the objects of all other places
pub run_stays : (w : Parts) (workers : ℕ) (lacks : Lacks) (es : List Entry) (e : Entry) → IsValid w → workers ≤ 16 → IsRunAfter w workers lacks [] es → (place : Place) → same_place e.place place ≡ false → object_of w (es ++ e ∷ []) place ≡ object_of w es place
run_stays w workers lacks es e valid few steps place other = object_stays w (length w.posters + workers) lacks es e (run_holds w workers lacks es valid few steps).holds place other
