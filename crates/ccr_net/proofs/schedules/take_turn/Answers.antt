use Rattle.std.proofs.Common.{◌≡◌, false, get_or, sym, ap, ◌∙◌}
use Rattle.std.proofs.lemmas.Option.{slice_get-get_or}
use Rattle.std.proofs.lemmas.Result.{on_ok_weaker}
use Rattle.ccr_actor.specs.Acting.{is_at_rest}
use Rattle.ccr_runs.specs.EntryRuns.{never}
use Rattle.ccr_net.proofs.Played.PlayedRunsGoOn.{acting_quiet, acting_so, asks_one, met_so, rest_made, rests, same_read, seat_few, step_made, step_played}
use Rattle.ccr_net.proofs.schedules.take_turn.Goals as goal

pub returns-then-at_rest-clause-made : goal.returns-then-at_rest-clause-made
returns-then-at_rest-clause-made c =
    let d = c.index-actors-turn.result in
    let team = c.args.actors.now in
    rest_made c.args.workers never c.args.places.now team c.args.entries.now.items c.requires.workers c.requires.played c.args.turn c.requires.turn (get_or team c.args.turn d) (slice_get-get_or team c.args.turn d c.requires.turn) (rests (get_or team c.args.turn d) (sym c.at_rest.ensures ∙ c.if-at_rest.true))

pub make_step-requires-clause-seat : goal.make_step-requires-clause-seat
make_step-requires-clause-seat c =
    let d = c.index-actors-turn-2.result in
    let team = c.args.actors.now in
    seat_few c.args.workers never c.args.places.now team c.args.entries.now.items c.requires.workers c.requires.played c.args.turn c.requires.turn (get_or team c.args.turn d) (slice_get-get_or team c.args.turn d c.requires.turn)

pub make_step-requires-clause-quiet : goal.make_step-requires-clause-quiet
make_step-requires-clause-quiet c =
    let d = c.index-actors-turn-2.result in
    let team = c.args.actors.now in
    acting_quiet c.args.places.now.wiring never c.args.entries.now.items c.args.turn (get_or team c.args.turn d) (acting_so c.args.workers never c.args.places.now team c.args.entries.now.items c.requires.workers c.requires.played c.args.turn c.requires.turn (get_or team c.args.turn d) (slice_get-get_or team c.args.turn d c.requires.turn))

pub make_step-requires-clause-asks : goal.make_step-requires-clause-asks
make_step-requires-clause-asks c =
    let d = c.index-actors-turn-2.result in
    let team = c.args.actors.now in
    let goes : is_at_rest (get_or team c.args.turn d) ≡ false = ap is_at_rest (same_read team c.args.turn d c.index-actors-turn.result c.requires.turn) ∙ sym c.at_rest.ensures ∙ c.if-at_rest.false in
    asks_one (get_or team c.args.turn d) (acting_quiet c.args.places.now.wiring never c.args.entries.now.items c.args.turn (get_or team c.args.turn d) (acting_so c.args.workers never c.args.places.now team c.args.entries.now.items c.requires.workers c.requires.played c.args.turn c.requires.turn (get_or team c.args.turn d) (slice_get-get_or team c.args.turn d c.requires.turn))) goes

pub make_step-requires-clause-met : goal.make_step-requires-clause-met
make_step-requires-clause-met c =
    let d = c.index-actors-turn-2.result in
    let team = c.args.actors.now in
    met_so c.args.workers never c.args.places.now team c.args.entries.now.items c.requires.workers c.requires.played c.args.turn c.requires.turn (get_or team c.args.turn d) (slice_get-get_or team c.args.turn d c.requires.turn)

pub returns-clause-played : goal.returns-clause-played
returns-clause-played c =
    let d = c.index-actors-turn-2.result in
    let team = c.args.actors.now in
    on_ok_weaker c.make_step.result (step_played c.args.workers never c.args.places.now team c.args.entries.now.items c.requires.workers c.requires.played c.args.turn c.requires.turn (get_or team c.args.turn d) (slice_get-get_or team c.args.turn d c.requires.turn) c.make_step.new.places c.make_step.new.actor c.make_step.new.entries.items) c.make_step.ensures

pub returns-clause-made : goal.returns-clause-made
returns-clause-made c =
    let d = c.index-actors-turn-2.result in
    let team = c.args.actors.now in
    on_ok_weaker c.make_step.result (step_made c.args.workers never c.args.places.now team c.args.entries.now.items c.requires.workers c.requires.played c.args.turn c.requires.turn (get_or team c.args.turn d) (slice_get-get_or team c.args.turn d c.requires.turn) c.make_step.new.places c.make_step.new.actor c.make_step.new.entries.items) c.make_step.ensures
