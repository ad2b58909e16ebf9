use Rattle.std.proofs.Common.{◌≡◌, true, ◌+◌, List, [], length, drop, get_or, sym, ap, ◌∙◌, subst, arith}
use Rattle.ccr_base.proofs.Lists.{take_front}
use Rattle.ccr_wiring.specs.declared.parts.Parts.{Parts}
use Rattle.ccr_wiring.specs.Openness.{is_closed}
use Rattle.ccr_wiring.specs.Valid.{IsValid}
use Rattle.ccr_actor.specs.Acting.{Acting}
use Rattle.ccr_runs.specs.EntryRuns.{made_by, never, scheduled_from, with_made, IsRunAfter}
use Rattle.ccr_net.specs.Schedules.{AreStarted, IsPlayed}
use Rattle.ccr_net.proofs.Played.PlayedRunsGoOn.{ahead_so, played_run, played_start}
use Rattle.ccr_net.proofs.schedules.run_schedule.Goals as goal

pub loop-turn-init : goal.loop-turn-init
loop-turn-init c =
    let w = c.args.wiring.now in
    let places = c.in_ok-places.places in
    let team = c.in_ok-actors.actors.items in
    let workers = c.args.workers in
    let begun : AreStarted w (length w.posters + workers) team = subst (λ n. AreStarted w n team) c.actor_count-count.ensures.count c.in_ok-actors.ensures in
    let there = sym c.in_ok-places.ensures.wiring in
    record {
      played = subst (IsPlayed workers never places team) (sym c.new-entries.ensures.items) (played_start workers places team (subst IsValid there c.actor_count-count.ensures.valid) (subst (λ (x : Parts). is_closed x ≡ true) there c.requires.closed) c.in_ok-places.ensures.acts (subst (λ (x : Parts). AreStarted x (length x.posters + workers) team) there begun));
      wiring = c.in_ok-places.ensures.wiring;
      ahead = ap (λ es. scheduled_from w es c.args.turns.now) c.new-entries.ensures.items;
    }

pub loop-turn-preserved : goal.loop-turn-preserved
loop-turn-preserved c =
    let w = c.args.wiring.now in
    let team = c.take_turn.new.actors in
    let same : length team ≡ length c.loop-turn.actors.items = c.take_turn.auto.actors ∙ ap length c.deref_mut.ensures.value in
    let whole = take_front team (drop (length team) c.loop-turn.actors.items) c.loop-turn.actors.len (c.loop-turn.actors.ok.0 ∙ sym same) in
    let made = c.in_ok-take_turn.ensures.made ∙ ap (λ (x : Parts). with_made c.loop-turn.entries.items (made_by x never c.loop-turn.entries.items (get_or c.args.turns.now c.loop-turn.turn-index 0))) c.loop-turn.invariant.wiring in
    record {
      played = subst (λ (all : List Acting). IsPlayed c.args.workers never c.take_turn.new.places all c.take_turn.new.entries.items) (sym whole) c.in_ok-take_turn.ensures.played;
      wiring = c.in_ok-take_turn.ensures.wiring ∙ c.loop-turn.invariant.wiring;
      ahead = ahead_so w c.loop-turn.entries.items c.take_turn.new.entries.items c.args.turns.now c.loop-turn.turn-index (omega arith) made ∙ c.loop-turn.invariant.ahead;
    }

pub returns-clause-run : goal.returns-clause-run
returns-clause-run c =
    let run = played_run c.args.workers never c.loop-turn.places c.loop-turn.actors.items c.loop-turn.entries.items c.requires.workers c.loop-turn.invariant.played in
    let here = subst (λ (x : Parts). IsRunAfter x c.args.workers never [] c.loop-turn.entries.items) c.loop-turn.invariant.wiring run in
    subst (IsRunAfter c.args.wiring.now c.args.workers never []) (sym c.from_vec.ensures) here
