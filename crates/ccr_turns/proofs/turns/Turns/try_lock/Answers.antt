use Rattle.std.proofs.Common.{◌<◌, sym, subst}
use Rattle.ccr_turns.proofs.StepsKeepTheRule.{wins}
use Rattle.ccr_turns.proofs.Acting.{tried}
use Rattle.ccr_turns.proofs.turns.Turns.try_lock.Goals as goal

pub compare_exchange-found-requires : goal.compare_exchange-found-requires
compare_exchange-found-requires g c =
    let key = c.args.self.now.table.shared.key in
    let ready = c.requires.2 in (
      c.requires.0,
      subst (λ n. c.args.place < n) (sym c.args.self.now.places.0) c.requires.1,
      wins g.O.Kept.value g.O.Kept.after g.O.Kept.may g.O.Kept.seen key.keep key.objects.value key.seats _ _ _ _ c.requires.1 ready.0 ready.2,
    )

pub returns-clause-won : goal.returns-clause-won
returns-clause-won g c = tried g.O.Kept.value g.O.Kept.seen _ _ 0 1 _ _ _ c.requires.2.1 c.compare_exchange-found.ensures.2
