use Rattle.std.proofs.Common.{arith, sym, ◌∙◌}
use Rattle.ccr_wiretext.proofs.Slots.{members_step}
use Rattle.ccr_wiretext.proofs.patterns.members.Goals as goal

pub members-preserved : goal.members-preserved
members-preserved c =
    let step = members_step c.args.draft.now c.members.found.items c.members.words c.in_ok-next.next c.new_port.new.words (omega arith) (grind arith) (grind arith) in
    record {
      read = rw c.in_ok-push-2.ensures.items (sym step ∙ c.members.invariant.read);
      few = omega (arith, c.in_ok-push-2.ensures.len);
    }
