use Rattle.ccr_net.proofs.Played.NextAsksAreMet.{ask_facts}
use Rattle.ccr_net.proofs.Played.PlacesByNumber.{stands}
use Rattle.ccr_net.proofs.laws.asks_name_what_the_wiring_has.Goals as goal

pub returns-clause-known : goal.returns-clause-known
returns-clause-known c w workers lacks entries actor one valid closed few run low asks = (ask_facts w workers lacks valid closed few).known entries actor one (record { run = run; low = low; asks = asks })

pub returns-clause-place : goal.returns-clause-place
returns-clause-place c w workers lacks entries actor one valid closed few run low asks =
    let there = (ask_facts w workers lacks valid closed few).there entries actor one (record { run = run; low = low; asks = asks }) in
    stands w one.place there.0 there.1
