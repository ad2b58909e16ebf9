use Rattle.std.proofs.Common.{◌≡◌, length, rules, arith}
use Rattle.ccr_actor.proofs.actor_counts.actor_count.Goals as goal

pub overflow_cast-result : goal.overflow_cast-result
overflow_cast-result c =
    let sound = c.valid_wirings_are_sound.ensures c.args.wiring.now c.parts.ensures.valid in
    let same : length c.as_slice.result.now ≡ length c.args.wiring.now.posters = search rules in
    omega (arith, same, sound.small.posters)

pub returns-clause-most : goal.returns-clause-most
returns-clause-most c =
    let sound = c.valid_wirings_are_sound.ensures c.args.wiring.now c.parts.ensures.valid in
    let same : length c.as_slice.result.now ≡ length c.args.wiring.now.posters = search rules in
    omega (arith, same, sound.small.posters)
