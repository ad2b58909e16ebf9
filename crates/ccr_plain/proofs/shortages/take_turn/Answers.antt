use Rattle.std.proofs.Common.{◌≡◌, false, get_or, sym, ap, ◌∙◌}
use Rattle.std.proofs.lemmas.Option.{slice_get-get_or}
use Rattle.std.proofs.lemmas.Result.{IfOk-weaker}
use Rattle.ccr_actor.specs.Acting.{is_at_rest}
use Rattle.ccr_plain.proofs.RefusedActorsGoOn.{rest_turned, turn_few, turn_turned, turn_wiring}
use Rattle.ccr_net.proofs.Played.PlayedRunsGoOn.{acting_quiet, acting_so, asks_one, met_so, rests, same_read, seat_few}
use Rattle.ccr_plain.proofs.shortages.take_turn.Goals as goal

pub returns-then-at_rest-clause-run : goal.returns-then-at_rest-clause-run
returns-then-at_rest-clause-run c lacks played =
    let d = c.index-actors-turn.result in
    let team = c.args.actors.now in
    rest_turned c.args.workers lacks c.args.places.now team c.args.entries.now.items c.requires.workers played c.args.turn c.requires.turn (get_or team c.args.turn d) (slice_get-get_or team c.args.turn d c.requires.turn) c.args.refused.now c.args.asks (rests (get_or team c.args.turn d) (sym c.at_rest.ensures ∙ c.if-at_rest.true))

pub make_ask-requires-clause-seat : goal.make_ask-requires-clause-seat
make_ask-requires-clause-seat c =
    let d = c.index-actors-turn-2.result in
    let team = c.args.actors.now in
    seat_few c.args.workers c.requires.played.0 c.args.places.now team c.args.entries.now.items c.requires.workers c.requires.played.1 c.args.turn c.requires.turn (get_or team c.args.turn d) (slice_get-get_or team c.args.turn d c.requires.turn)

pub make_ask-requires-clause-quiet : goal.make_ask-requires-clause-quiet
make_ask-requires-clause-quiet c =
    let d = c.index-actors-turn-2.result in
    let team = c.args.actors.now in
    acting_quiet c.args.places.now.wiring c.requires.played.0 c.args.entries.now.items c.args.turn (get_or team c.args.turn d) (acting_so c.args.workers c.requires.played.0 c.args.places.now team c.args.entries.now.items c.requires.workers c.requires.played.1 c.args.turn c.requires.turn (get_or team c.args.turn d) (slice_get-get_or team c.args.turn d c.requires.turn))

pub make_ask-requires-clause-asking : goal.make_ask-requires-clause-asking
make_ask-requires-clause-asking c =
    let d = c.index-actors-turn-2.result in
    let team = c.args.actors.now in
    let goes : is_at_rest (get_or team c.args.turn d) ≡ false = ap is_at_rest (same_read team c.args.turn d c.index-actors-turn.result c.requires.turn) ∙ sym c.at_rest.ensures ∙ c.if-at_rest.false in
    asks_one (get_or team c.args.turn d) (acting_quiet c.args.places.now.wiring c.requires.played.0 c.args.entries.now.items c.args.turn (get_or team c.args.turn d) (acting_so c.args.workers c.requires.played.0 c.args.places.now team c.args.entries.now.items c.requires.workers c.requires.played.1 c.args.turn c.requires.turn (get_or team c.args.turn d) (slice_get-get_or team c.args.turn d c.requires.turn))) goes

pub make_ask-requires-clause-met : goal.make_ask-requires-clause-met
make_ask-requires-clause-met c =
    let d = c.index-actors-turn-2.result in
    let team = c.args.actors.now in
    met_so c.args.workers c.requires.played.0 c.args.places.now team c.args.entries.now.items c.requires.workers c.requires.played.1 c.args.turn c.requires.turn (get_or team c.args.turn d) (slice_get-get_or team c.args.turn d c.requires.turn)

pub returns-clause-run : goal.returns-clause-run
returns-clause-run c =
    let d = c.index-actors-turn-2.result in
    let team = c.args.actors.now in
    IfOk-weaker c.make_ask.result _ _ (λ number turn lacks played. turn_turned c.args.workers lacks c.args.places.now team c.args.entries.now.items c.requires.workers played c.args.turn c.requires.turn (get_or team c.args.turn d) (slice_get-get_or team c.args.turn d c.requires.turn) c.args.refused.now c.args.asks c.make_ask.new.places c.make_ask.new.actor c.make_ask.new.entries.items number turn) c.make_ask.ensures

pub returns-clause-wiring : goal.returns-clause-wiring
returns-clause-wiring c =
    IfOk-weaker c.make_ask.result _ _ (λ number turn. turn_wiring c.args.refused.now c.args.asks c.args.places.now (get_or c.args.actors.now c.args.turn c.index-actors-turn-2.result) c.args.entries.now.items c.make_ask.new.places c.make_ask.new.actor c.make_ask.new.entries.items number turn) c.make_ask.ensures

pub returns-clause-few : goal.returns-clause-few
returns-clause-few c =
    IfOk-weaker c.make_ask.result _ _ (λ number turn. turn_few c.args.refused.now c.args.asks c.args.places.now (get_or c.args.actors.now c.args.turn c.index-actors-turn-2.result) c.args.entries.now.items c.make_ask.new.places c.make_ask.new.actor c.make_ask.new.entries.items number turn) c.make_ask.ensures
