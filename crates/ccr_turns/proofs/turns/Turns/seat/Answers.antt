use Rattle.std.proofs.Common.{◌<◌, ap, sym, subst}
use Rattle.ccr_turns.proofs.Ends.{splits}
use Rattle.ccr_turns.proofs.turns.Turns.seat.Goals as goal

pub split_seat-token-requires : goal.split_seat-token-requires
split_seat-token-requires g c =
    let key = c.args.self.now.table.shared.key in
    let sized = c.args.self.now.places in
    (c.requires.tied, subst (λ n. 0 < n) (sym sized.0) sized.1, splits g.O.Kept.value g.O.Kept.after g.O.Kept.may g.O.Kept.seen key.keep key.objects.value key.seats _ _ (ap (λ m. m.0.hold) c.requires.first.1))
