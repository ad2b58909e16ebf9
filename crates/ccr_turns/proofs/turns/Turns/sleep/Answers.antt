use Rattle.std.proofs.Common.{◌<◌, ◌∙◌, sym, subst}
use Rattle.ccr_turns.specs.Seated.{Won}
use Rattle.ccr_turns.proofs.StepsKeepTheRule.{waits}
use Rattle.ccr_turns.proofs.Acting.{ready_again, won_lock}
use Rattle.ccr_turns.proofs.turns.Turns.sleep.Goals as goal

pub swap-requires : goal.swap-requires
swap-requires g c =
    let key = c.args.self.now.table.shared.key in
    let inv = c.loop.invariant in
    let ready = ready_again _ _ inv.3 c.requires.2 in (
      inv.2 ∙ c.requires.0,
      subst (λ n. c.args.place < n) (sym c.args.self.now.places.0) c.requires.1,
      waits g.O.Kept.value g.O.Kept.after g.O.Kept.may g.O.Kept.seen key.keep key.objects.value key.seats _ _ _ _ c.requires.1 ready.0 ready.2,
    )

pub returns-then-swap-eq-FREE-clause-won : goal.returns-then-swap-eq-FREE-clause-won
returns-then-swap-eq-FREE-clause-won g c =
    let inv = c.loop.invariant in
    let ready = ready_again _ _ inv.3 c.requires.2 in
    subst (λ m. Won g.O.Kept.value g.O.Kept.seen c.args.self.now.table.shared.table_id.slots c.args.place m c.swap.new.seat.me) inv.3
    (won_lock g.O.Kept.value g.O.Kept.seen _ _ 2 0 _ _ _ ready.1 c.if-swap-eq-FREE.true c.swap.ensures.2)
