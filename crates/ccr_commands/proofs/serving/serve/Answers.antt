use Rattle.std.proofs.Common.{◌≡◌, ◌∙◌, ◌∷◌, ◌++◌, List, [], true, false, None, ap, subst}
use Rattle.std.specs.Prelude.{codes}
use Rattle.ccr_wiring.specs.declared.parts.Parts.{Parts}
use Rattle.ccr_wiring.specs.Openness.{is_closed}
use Rattle.ccr_model.specs.Legal.{IsLegal, IsQuiet, is_complete}
use Rattle.ccr_text.specs.Spelling.{text_of}
use Rattle.ccr_trace.specs.HistoryText.{history_text}
use Rattle.ccr_service.specs.declared.answer.Answer.{Answer}
use Rattle.ccr_service.specs.Telling.{answers_of}
use Rattle.ccr_commands.specs.Runs.{IsRunHistory}
use Rattle.ccr_commands.specs.Services.{client_lines}
use Rattle.ccr_commands.proofs.serving.serve.Goals as goal

pub run_history-requires-clause-closed : goal.run_history-requires-clause-closed
run_history-requires-clause-closed g c = λ κs outlives. ap is_closed c.in_ok-wiring.ensures

pub returns : goal.returns
returns g c =
    let is = c.in_ok-wiring.ensures in
    let history = c.in_ok-_first.history in
    let made = c.in_ok-_first.ensures in
    let legal = subst (λ (w : Parts). IsLegal w history) is made.legal in
    let complete = subst (λ (w : Parts). is_complete w history ≡ true) is made.complete in
    let quiet = subst (λ (w : Parts). IsQuiet w history) is made.quiet in
    let whole = c.requests_have_one_answer.ensures c.args.service.now c.parts-kept.ensures.service history legal complete quiet in
    record {
      kept = c.parts-kept.ensures.service;
      history = history;
      run = subst (λ (w : Parts). IsRunHistory w c.args.workers None false history) is (record {
        first = c.in_ok-_first._first.value;
        begins = made.begins;
        finished = made.finished;
        legal = made.legal;
        complete = made.complete;
        quiet = made.quiet;
        accounts = made.accounts;
        short = c.in_ok-served_text.ensures.short;
        small = c.in_ok-served_text.ensures.small;
        sheds = whole.unshed;
      });
      whole = whole;
      written = subst (λ (w : Parts). c.in_ok-served_text.field-0 ≡ history_text w history ++ text_of (client_lines c.args.service.now.clients (answers_of c.args.service.now history)) ++ codes "done 0" ++ 10 ∷ []) is
          (subst (λ (told : List Answer). c.in_ok-served_text.field-0 ≡ history_text c.in_ok-wiring.wiring history ++ text_of (client_lines c.args.service.now.clients told) ++ codes "done 0" ++ 10 ∷ [])
          (c.as_slice.ensures ∙ c.in_ok-told.ensures) c.in_ok-served_text.ensures.text);
    }
