use Rattle.std.proofs.Common.{arith, sym, ap, ◌∙◌, Ok}
use Rattle.ccr_base.specs.declared.patterns.Pattern.TheVariants as patterns
use Rattle.ccr_text.specs.Fields.{◌>>=◌}
use Rattle.ccr_wiretext.proofs.Slots.{slots_step}
use Rattle.ccr_wiretext.proofs.patterns.taken.Goals as goal

pub slots-preserved : goal.slots-preserved
slots-preserved c =
    let step = slots_step c.args.draft.now c.slots.found.items c.slots.words c.in_ok-next.next c.slot-in-slots.new.words (omega arith) (grind arith) (grind arith) in
    record {
      read = rw c.in_ok-push-2.ensures.items (ap (λ all. all >>= λ found. Ok (patterns.Slots found)) (sym step) ∙ c.slots.invariant.read);
      few = omega (arith, c.in_ok-push-2.ensures.len);
    }
