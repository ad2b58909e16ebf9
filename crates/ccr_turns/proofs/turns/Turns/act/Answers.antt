use Rattle.std.proofs.Common.{◌+◌, max, [], ◌∷◌, ◌++◌, ◌∙◌, sym, ap, arith, Some, None}
use lib.ListN.{get_elem?}
use Rattle.ccr_turns.specs.Logs.{log, log_entry, logged_of}
use Rattle.ccr_turns.specs.Lists.{last_of}
use Rattle.ccr_turns.specs.Views.{view, hold}
use Rattle.ccr_turns.specs.Histories.{history_stamps, past}
use Rattle.ccr_turns.specs.Locks.{log_of}
use Rattle.ccr_turns.proofs.Acting.{at_rest, rests, ready, turn_of, after_entry, last_logged}
use Rattle.ccr_turns.proofs.turns.Turns.act.Goals as goal

pub win-cell-requires : goal.win-cell-requires
win-cell-requires g c = (c.requires.seat, c.requires.place, ready _ _ _ c.args.seat.now.rests)

pub play-requires-clause-seat : goal.play-requires-clause-seat
play-requires-clause-seat g c =
    let seat = c.args.seat.now in
    let is = at_rest _ _ _ seat.rests in
    let low = c.win-cell.ensures.took.3 0 (log seat.number (log_of seat)) (ap (λ m. get_elem? m.0.logs 0) is) in
    let few = c.args.self.now.places.2 in
    let last = seat.rests.3 in
    omega arith

pub enter-requires-clause-entry : goal.enter-requires-clause-entry
enter-requires-clause-entry g c =
    let seat = c.args.seat.now in
    let is = at_rest _ _ _ seat.rests in
    let took = c.win-cell.ensures.took in
    let acted = c.in-Ok.ensures.acted in
    record {
      number = seat.number;
      logged = log_of seat;
      before = past c.win-cell.result;
      now = g.O.Kept.value c.win-cell.result.object;
      entry = acted.1.0;
      me = turn_of _ (log_of seat) _ _ _ _ _ _ is took.0 took.1 ∙ (λ d. (view (log seat.number (log_of seat) ∷ []) (Some (hold c.args.place (past c.win-cell.result) (g.O.Kept.value c.win-cell.result.object) (sym c.play.ensures.keep d))), (c.args.place, None) ∷ []));
      sifted = c.play.ensures.sifted;
      history = acted.1.1;
      object = acted.1.2;
      given = (c.args.ask, c.in-Ok.reply, acted.1.3);
      seat = acted.1.4;
      stamp = acted.1.5 ∙ (acted.0 ∙ ap (λ n. max (last_of 0 (history_stamps (past c.win-cell.result))) n + 1) (sym seat.rests.3));
    }

pub invariant_of-seat : goal.invariant_of-seat
invariant_of-seat g c =
    let seat = c.args.seat.now in
    let is = at_rest _ _ _ seat.rests in
    let took = c.win-cell.ensures.took in
    let acted = c.in-Ok.ensures.acted in
    let e = acted.1.0 in
    let more = log_entry c.args.place e.stamp e.note (g.O.Kept.value c.win-cell.result.object) (last_of 0 (history_stamps (past c.win-cell.result))) in
    record {
      rests = rests _ _ (log_of seat ++ more ∷ []) _
          (after_entry _ _ _ _ _ _ e _ _ c.play.new.cell (turn_of _ (log_of seat) _ _ _ _ _ _ is took.0 took.1) acted.1.1 c.enter.ensures.entered)
          (last_logged (log_of seat) more ∙ acted.1.5);
    }

pub returns-in-Ok-clause-ok : goal.returns-in-Ok-clause-ok
returns-in-Ok-clause-ok g c =
    let seat = c.args.seat.now in
    let is = at_rest _ _ _ seat.rests in
    let took = c.win-cell.ensures.took in
    let acted = c.in-Ok.ensures.acted in
    let e = acted.1.0 in (
      e.stamp,
      e.note,
      g.O.Kept.value c.win-cell.result.object,
      last_of 0 (history_stamps (past c.win-cell.result)),
      ap (λ m. logged_of m.0.logs) (after_entry _ _ _ _ _ _ e _ _ c.play.new.cell (turn_of _ (log_of seat) _ _ _ _ _ _ is took.0 took.1) acted.1.1 c.enter.ensures.entered),
      acted.1.5 ∙ (acted.0 ∙ ap (λ n. max (last_of 0 (history_stamps (past c.win-cell.result))) n + 1) (sym seat.rests.3)),
      acted.1.3,
    )
