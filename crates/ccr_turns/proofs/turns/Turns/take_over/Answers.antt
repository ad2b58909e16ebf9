use Rattle.std.proofs.Common.{◌<◌, sym, subst}
use Rattle.ccr_turns.proofs.Ends.{joins}
use Rattle.ccr_turns.proofs.turns.Turns.take_over.Goals as goal

pub join_seat-requires : goal.join_seat-requires
join_seat-requires g c =
    let key = c.args.self.now.table.shared.key in
    let sized = c.args.self.now.places in
    (c.requires.mine.0, c.requires.other.0, c.requires.other.2, subst (λ n. 0 < n) (sym sized.0) sized.1, joins g.O.Kept.value g.O.Kept.after g.O.Kept.may g.O.Kept.seen key.keep key.objects.value key.seats _ _ _ _ c.requires.mine.1 c.requires.other.1)
