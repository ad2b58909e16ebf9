use Rattle.std.proofs.Common.{List, ◌∙◌, map, sym, ap, subst}
use Rattle.std.specs.Slots.{slots_items}
use Rattle.atomic_table.proofs.Lists.{at_map}
use Rattle.ccr_turns.specs.Lists.{total}
use Rattle.ccr_turns.specs.Seated.{Lifted}
use Rattle.ccr_turns.specs.Locks.{full_log, Agrees, HasWhole}
use Rattle.ccr_turns.specs.Histories.{keeps}
use Rattle.ccr_turns.proofs.Rows.{all_from, all_at, count-map, only}
use Rattle.ccr_turns.proofs.Ends.{has_cells, has_whole, every_left, every_agrees, borne}
use Rattle.ccr_turns.proofs.turns.Turns.close.Goals as goal

pub lift-requires-clause-cells : goal.lift-requires-clause-cells
lift-requires-clause-cells g c =
    let key = c.args.self.table.shared.key in
    has_cells g.O.Kept.value g.O.Kept.after g.O.Kept.may g.O.Kept.seen key.keep key.objects.value key.seats _ _ c.settle-closed.ensures.settled

pub returns-clause-whole : goal.returns-clause-whole
returns-clause-whole g c =
    let key = c.args.self.table.shared.key in
    let lifted = subst (Lifted (slots_items c.settle-closed.result.slots)) (sym c.from_vec.ensures) c.lift.ensures in
    let logs = ap (map full_log) c.into_vec.ensures in
    subst (λ (l : List _). HasWhole g.O.Kept.value g.O.Kept.after g.O.Kept.may (keeps key.keep g.O.Kept.seen) key.seats key.objects.value l c.from_vec.result) logs
    (has_whole g.O.Kept.value g.O.Kept.after g.O.Kept.may g.O.Kept.seen key.keep key.objects.value key.seats _ _ _ c.settle-closed.ensures.settled lifted)

pub returns-clause-objects : goal.returns-clause-objects
returns-clause-objects g c =
    let key = c.args.self.table.shared.key in
    λ every. every_left g.O.Kept.value g.O.Kept.after g.O.Kept.may g.O.Kept.seen key.keep key.seats _ _ _ (returns-clause-whole g c) every

pub returns-clause-logs : goal.returns-clause-logs
returns-clause-logs g c =
    let key = c.args.self.table.shared.key in
    λ every. all_from (λ seat. Agrees g.O.Kept.value g.O.Kept.after key.objects.value c.from_vec.result (full_log seat)) c.args.seats
    (λ k seat at. all_at (Agrees g.O.Kept.value g.O.Kept.after key.objects.value c.from_vec.result) (map full_log c.args.seats) k (full_log seat)
    (every_agrees g.O.Kept.value g.O.Kept.after g.O.Kept.may g.O.Kept.seen key.keep key.seats _ _ _ (returns-clause-whole g c) every) (at_map full_log c.args.seats k seat at))

pub returns-clause-numbers : goal.returns-clause-numbers
returns-clause-numbers g c =
    let key = c.args.self.table.shared.key in
    λ number few. sym (count-map full_log (λ l. l.number) number c.args.seats)
    ∙ (ap (λ (seats : List _). total (λ l. only number l.number) (map full_log seats)) (sym c.into_vec.ensures)
    ∙ borne g.O.Kept.value g.O.Kept.after g.O.Kept.may g.O.Kept.seen key.keep key.objects.value key.seats _ _ c.settle-closed.ensures.settled number few)
