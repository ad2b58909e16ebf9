use Rattle.std.proofs.Common.{arith, sym, ◌∙◌}
use Rattle.ccr_wiretext.proofs.Slots.{further_step}
use Rattle.ccr_wiretext.proofs.patterns.combined.Goals as goal

pub further-preserved : goal.further-preserved
further-preserved c =
    let step = further_step c.args.draft.now c.further.found.items c.further.words c.in_ok-next.next c.new_member-in-further.new.words (omega arith) (grind arith) (grind arith) in
    record {
      read = rw c.in_ok-push-3.ensures.items (sym step ∙ c.further.invariant.read);
      few = omega (arith, c.in_ok-push-3.ensures.len);
    }
