use Rattle.std.proofs.Common.{◌≤◌, ◌<◌, get_or, take, sym, arith}
use Rattle.std.proofs.lemmas.Grind.{common_steps}
use Rattle.std.proofs.lemmas.List.Sums.{count_by_more_yes, count_by_more_no}
use Rattle.ccr_wiring.specs.Spots.{times}
use Rattle.ccr_wiring.proofs.Crowds.{crowd_found, crowd_none, times_next}
use Rattle.ccr_wiring.proofs.spots.has_crowded.Goals as goal

pub returns-then-count-ge-MAX_SPOTS : goal.returns-then-count-ge-MAX_SPOTS
returns-then-count-ge-MAX_SPOTS c =
    let ports = c.args.ports.now in
    let i = c.loop-port.port-index in
    let seen = c.loop-port.invariant.0 (get_or ports i 0) in
    let often : 16 ≤ times (get_or ports i 0) (take i ports) = grind (arith, common_steps, seen) in
    sym (crowd_found ports i c.loop-port-test.true often)

pub loop-port-preserved : goal.loop-port-preserved
loop-port-preserved c =
    let ports = c.args.ports.now in
    let i = c.loop-port.port-index in
    let seen = c.loop-port.invariant.0 (get_or ports i 0) in
    let fewer : times (get_or ports i 0) (take i ports) < 16 = grind (arith, common_steps, seen) in
    (λ q. grind (arith, common_steps, count_by_more_yes, count_by_more_no, c.loop-port.invariant.0 q), λ q. times_next ports i q c.loop-port-test.true (c.loop-port.invariant.1 q) fewer)

pub returns : goal.returns
returns c = sym (crowd_none c.args.ports.now (λ q. let most = c.loop-port.invariant.1 q in grind (arith, common_steps, most)))
