use Rattle.std.proofs.Common.{◌≡◌, ◌∙◌, ◌∷◌, ◌++◌, ℕ, List, [], true, ap, subst}
use Rattle.std.proofs.lemmas.Result.{IfOk-weaker}
use Rattle.std.specs.Prelude.{codes, decimal}
use Rattle.ccr_wiring.specs.declared.parts.Parts.{Parts}
use Rattle.ccr_wiring.specs.Openness.{is_closed}
use Rattle.ccr_model.specs.declared.history.Totals.{Totals}
use Rattle.ccr_model.specs.Legal.{IsLegal, is_complete}
use Rattle.ccr_model.specs.Order.{IsFinished}
use Rattle.ccr_commands.specs.Loads.{IsLoadOf, totals_of}
use Rattle.ccr_commands.proofs.TotalsAreTold.{told_totals}
use Rattle.ccr_commands.proofs.load.load_text.Goals as goal

pub first_history-requires-clause-closed : goal.first_history-requires-clause-closed
first_history-requires-clause-closed g c = λ κs outlives. ap is_closed c.in_ok-wiring.ensures

pub count_to_end-requires-clause-closed : goal.count_to_end-requires-clause-closed
count_to_end-requires-clause-closed g c = ap is_closed c.in_ok-wiring.ensures

pub returns : goal.returns
returns g c =
    let is = c.in_ok-wiring.ensures in
    let wiring = c.in_ok-wiring.wiring in
    let first = c.in_ok-first.first in
    let counted = c.in_ok-counts.ensures in
    let history = counted.history in
    let end = counted.end in
    let accounts = c.complete_histories_account_for_all.ensures wiring history c.parts-valid.ensures.valid end.legal end.complete in
    let legal = subst (λ (w : Parts). IsLegal w history) is end.legal in
    let complete = subst (λ (w : Parts). is_complete w history ≡ true) is end.complete in
    IfOk-weaker c.sized_text.result _ _ (λ text written. subst (λ (w : Parts). IsLoadOf w c.args.size c.args.workers c.args.json text) is (record {
      first = first;
      begins = c.in_ok-first.ensures.begins;
      history = history;
      finished = subst (λ (n : ℕ). IsFinished wiring n first history) c.actor_count.ensures.count end.finished;
      legal = end.legal;
      complete = end.complete;
      quiet = end.quiet;
      accounts = accounts;
      unshed = c.generated_wirings_never_shed.ensures.unshed c.args.size c.requires.many history legal complete;
      told = c.in_ok-_told._told;
      agrees = c.in_ok-_told.ensures.agrees;
      same = told_totals wiring history c.in_ok-_told._told
          (λ fired found agrees. (c.answers_hold_of_quiet_histories.ensures.counts wiring accounts.valid fired found agrees history (record { legal = end.legal; quiet = end.quiet; complete = end.complete })).totals)
          c.in_ok-_told.ensures.agrees c.in_ok-_told.ensures.counts;
      written = subst (λ (line : List ℕ). text ≡ codes "load " ++ decimal c.args.size ++ 10 ∷ [] ++ line ++ codes "done 0" ++ 10 ∷ []) (c.as_slice.ensures ∙ (c.in_ok-totals.ensures ∙ ap (λ (t : Totals). totals_of c.args.json t) counted.counted.totals)) written;
    })) c.sized_text.ensures
