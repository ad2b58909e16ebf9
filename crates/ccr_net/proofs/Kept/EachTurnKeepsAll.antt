-- What is visible of a run is legal: the case split over the turns.
use Rattle.std.proofs.Common.{◌≡◌, ◌≤◌, ◌<◌, ℕ, List, [], ◌∷◌, ◌++◌, Some, refl, subst}
use Rattle.ccr_base.proofs.Options.{no_some}
use Rattle.ccr_wiring.specs.declared.parts.Parts.{Parts}
use Rattle.ccr_actor.specs.Actors.{State, Turn, settle, admit, drive, go_on, stop, turn, ask_in}
use Rattle.ccr_runs.specs.declared.entries.Entry.{Entry}
use Rattle.ccr_runs.specs.EntryRuns.{Lacks, state_of}
use Rattle.ccr_net.proofs.Parts.OneMoreEntry.{Step}
use Rattle.ccr_net.proofs.Kept.WholeInvariant.{Holds}
use Rattle.ccr_net.proofs.Kept.WhatWiringsHave.{PlainFacts}
use Rattle.ccr_net.proofs.Kept.AttemptsKeepAll.{settle_kept, drive_kept}
use Rattle.ccr_net.proofs.Kept.WorkKeepsAll.{go_on_kept}
use Rattle.ccr_net.proofs.Kept.AdmissionsKeepAll.{admit_kept}

module _ (w : Parts) (n : ℕ) (first : PlainFacts w) (few : n ≤ 33) (lacks : Lacks) (es : List Entry) (e : Entry) (low : e.actor < n) (holds : Holds w n lacks es) (step : Step w lacks es e) where
  abbrev before : State
  before = state_of w lacks es e.actor

  abbrev Done : Type 0
  Done = Holds w n lacks (es ++ e ∷ [])

  pub step_kept : Done
  step_kept = by (turn before) refl
    where
      by : (tu : Turn) → turn before ≡ tu → Done
      by (settle x more) turns = settle_kept w n first few lacks es e low holds step x more turns
      by (admit i more) turns = admit_kept w n lacks es e low holds step i more turns
      by (drive spot more) turns = drive_kept w n first few lacks es e low holds step spot more turns
      by go_on turns = go_on_kept w n first few lacks es e low holds step turns
      by stop turns = absurd (let asks_so = subst (λ u. ask_in w e.actor before u ≡ Some step.asking) turns step.asks in no_some _ step.asking refl asks_so)
