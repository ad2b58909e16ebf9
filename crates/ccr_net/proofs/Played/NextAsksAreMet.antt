-- Each next ask meets its condition, and names what the wiring has.
use Rattle.std.proofs.Common.{◌≡◌, ◌≤◌, ℕ, true, List}
use Rattle.std.specs.Prelude.{is_some}
use Rattle.ccr_wiring.specs.declared.parts.Parts.{Parts}
use Rattle.ccr_wiring.specs.Valid.{IsValid}
use Rattle.ccr_wiring.specs.Openness.{is_closed}
use Rattle.ccr_claim.specs.declared.asks.Asked.{Asked}
use Rattle.ccr_runs.specs.declared.entries.Entry.{Entry}
use Rattle.ccr_runs.specs.Places.{note_of}
use Rattle.ccr_runs.specs.EntryRuns.{Lacks, notes_at}
use Rattle.ccr_net.proofs.Conditions.AsksMeetConditions.{asks_met}
use Rattle.ccr_net.proofs.Known.AsksAreKnown.{IsNamed}
use Rattle.ccr_net.proofs.Known.PlacesAreKnown.{place_stands}
use Rattle.ccr_net.proofs.Known.RunsAreKnown.{next_named}
use Rattle.ccr_net.proofs.Played.NextAsksAreAnswered.{AskFacts, IsNextAsk}
use Rattle.ccr_base.proofs.Options.{is_there}

module _ (w : Parts) (workers : ℕ) (lacks : Lacks) (valid : IsValid w) (closed : is_closed w ≡ true) (few : workers ≤ 16) where
  next_met : (es : List Entry) (a : ℕ) (one : Asked) → IsNextAsk w workers lacks es a one → is_some (note_of w one.place (notes_at es one.place) one.ask) ≡ true
  next_met es a one following = asks_met w workers lacks es a one valid closed few following.run following.low following.asks

  named : (es : List Entry) (a : ℕ) (one : Asked) → IsNextAsk w workers lacks es a one → IsNamed w one
  named es a one following =
      let noting = is_there (note_of w one.place (notes_at es one.place) one.ask) (next_met es a one following) in
      next_named w workers lacks valid few es a one noting.0 following.run following.asks noting.1

  pub ask_facts : AskFacts w workers lacks
  ask_facts = record {
    met = next_met;
    known = λ es a one following. (named es a one following).ask;
    there = λ es a one following. place_stands w one.place (named es a one following).place;
  }
