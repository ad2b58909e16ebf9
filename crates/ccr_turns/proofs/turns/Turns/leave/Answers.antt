use Rattle.std.proofs.Common.{◌∙◌}
use Rattle.ccr_turns.proofs.StepsKeepTheRule.{leaves_at}
use Rattle.ccr_turns.proofs.turns.Turns.leave.Goals as goal

pub swap-found-requires : goal.swap-found-requires
swap-found-requires g c =
    let key = c.args.self.now.table.shared.key in (
      c.exchange-out.ensures.0 ∙ c.requires.tied.0,
      rw c.args.self.now.places.0 c.requires.tied.1,
      leaves_at g.O.Kept.value g.O.Kept.after g.O.Kept.may g.O.Kept.seen key.keep key.objects.value key.seats _ _ _ _ _ _ c.args.cell c.requires.holding c.exchange-out.ensures.3 c.requires.sifted,
    )
