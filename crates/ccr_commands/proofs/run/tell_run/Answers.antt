use Rattle.std.proofs.Common.{ℕ, refl, subst}
use Rattle.ccr_model.specs.Order.{IsFinished}
use Rattle.ccr_commands.proofs.run.tell_run.Goals as goal

pub returns : goal.returns
returns g c =
    let w = c.args.wiring.now in
    let told = c.in_ok-told.ensures in
    record {
      history = told.history;
      run = record {
        first = c.in_ok-first.first;
        begins = c.in_ok-first.ensures.begins;
        finished = subst (λ (n : ℕ). IsFinished w n c.in_ok-first.first told.history) c.actor_count.ensures.count told.end.finished;
        legal = told.end.legal;
        complete = told.end.complete;
        quiet = told.end.quiet;
        accounts = c.complete_histories_account_for_all.ensures w told.history c.parts-valid.ensures.valid told.end.legal told.end.complete;
        short = told.written.short;
        small = told.written.small;
        sheds = refl;
      };
      written = told.written.spelled;
      counted = told.counted;
    }
