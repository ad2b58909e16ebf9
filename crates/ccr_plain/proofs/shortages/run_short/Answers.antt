use Rattle.std.proofs.Common.{◌≡◌, ◌+◌, true, List, length, drop, refl, sym, ap, ◌∙◌, subst, arith}
use Rattle.std.proofs.lemmas.List.{drop_all}
use Rattle.ccr_base.proofs.Lists.{take_front}
use Rattle.ccr_wiring.specs.declared.parts.Parts.{Parts}
use Rattle.ccr_wiring.specs.Valid.{IsValid}
use Rattle.ccr_wiring.specs.Openness.{is_closed}
use Rattle.ccr_actor.specs.Acting.{Acting}
use Rattle.ccr_runs.specs.EntryRuns.{never, IsRun}
use Rattle.ccr_net.specs.Schedules.{AreStarted, IsPlayed}
use Rattle.ccr_plain.specs.Shortages.{nothing_yet}
use Rattle.ccr_plain.proofs.RefusedActorsGoOn.{IsAhead, ahead_ends, ahead_on, ahead_run, shortened_none}
use Rattle.ccr_net.proofs.Played.PlayedRunsGoOn.{played_start}
use Rattle.ccr_plain.proofs.shortages.run_short.Goals as goal

pub loop-turn-init : goal.loop-turn-init
loop-turn-init c =
    let w = c.args.wiring.now in
    let places = c.in_ok-places.places in
    let team = c.in_ok-actors.actors.items in
    let workers = c.args.workers in
    let begun : AreStarted w (length w.posters + workers) team = subst (λ n. AreStarted w n team) c.actor_count-count.ensures.count c.in_ok-actors.ensures in
    let there = sym c.in_ok-places.ensures.wiring in
    record {
      run = nothing_yet;
      has = record {
        played = subst (IsPlayed workers never places team) (sym c.new-entries.ensures.items) (played_start workers places team (subst IsValid there c.actor_count-count.ensures.valid) (subst (λ (x : Parts). is_closed x ≡ true) there c.requires.closed) c.in_ok-places.ensures.acts (subst (λ (x : Parts). AreStarted x (length x.posters + workers) team) there begun));
        number = refl;
        same = c.new-entries.ensures.items;
      };
      wiring = c.in_ok-places.ensures.wiring;
      few = omega arith;
      ahead = refl;
    }

pub loop-turn-preserved : goal.loop-turn-preserved
loop-turn-preserved c =
    let team = c.take_turn.new.actors in
    let same : length team ≡ length c.loop-turn.actors.items = c.take_turn.auto.actors ∙ ap length c.deref_mut.ensures.value in
    let whole = take_front team (drop (length team) c.loop-turn.actors.items) c.loop-turn.actors.len (c.loop-turn.actors.ok.0 ∙ sym same) in
    let next = ahead_on c.args.workers c.args.wiring.now c.args.refused.now c.args.turns.now c.loop-turn.turn-index c.loop-turn.places c.loop-turn.actors.items c.loop-turn.entries.items c.loop-turn.asks c.take_turn.new.places team c.take_turn.new.entries.items c.in_ok-asks.asks c.loop-turn.invariant (omega arith) c.in_ok-asks.ensures.wiring c.in_ok-asks.ensures.few
    (λ lacks played. c.in_ok-asks.ensures.run lacks (subst (λ (all : List Acting). IsPlayed c.args.workers lacks c.loop-turn.places all c.loop-turn.entries.items) (sym c.deref_mut.ensures.value) played)) in
    subst (λ (all : List Acting). IsAhead c.args.workers c.args.wiring.now c.args.refused.now c.args.turns.now (c.loop-turn.turn-index + 1) c.take_turn.new.places all c.take_turn.new.entries.items c.in_ok-asks.asks) (sym whole) next

pub returns-clause-run : goal.returns-clause-run
returns-clause-run c = subst (IsRun c.args.wiring.now c.args.workers) (sym c.from_vec.ensures) (ahead_run c.args.workers c.args.wiring.now c.args.refused.now c.args.turns.now c.loop-turn.turn-index c.loop-turn.places c.loop-turn.actors.items c.loop-turn.entries.items c.loop-turn.asks c.loop-turn.invariant c.requires.workers)

pub returns-clause-same : goal.returns-clause-same
returns-clause-same c none =
    let ends = ahead_ends c.args.workers c.args.wiring.now c.args.refused.now c.args.turns.now c.loop-turn.turn-index c.loop-turn.places c.loop-turn.actors.items c.loop-turn.entries.items c.loop-turn.asks c.loop-turn.invariant (drop_all c.loop-turn.turn-index c.args.turns.now (omega arith)) in
    c.from_vec.ensures ∙ ends ∙ shortened_none c.args.wiring.now c.args.refused.now c.args.turns.now none
