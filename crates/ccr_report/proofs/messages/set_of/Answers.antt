use Rattle.std.proofs.Common.{sym, ◌∙◌, ap, cond, true, Bool, get_or}
use Rattle.ccr_base.specs.Names.{same_message}
use Rattle.ccr_base.specs.declared.names.MsgId.TheVariants.{Script}
use Rattle.ccr_report.proofs.SameNames.{has_message-more, message_inserted}
use Rattle.ccr_report.proofs.messages.set_of.Goals as goal

pub loop-name-preserved : goal.loop-name-preserved
loop-name-preserved c = λ name.
    message_inserted _ _ _ name (c.in_ok-insert.ensures.updates.0 name)
    ∙ ap (λ (b : Bool). cond (same_message (get_or c.args.names.now c.loop-name.name-index (Script 0 0)) name) true b) (c.loop-name.invariant name)
    ∙ sym (has_message-more c.args.names.now c.loop-name.name-index (Script 0 0) name c.loop-name-test.true)
