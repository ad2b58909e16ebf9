use Rattle.std.proofs.Common.{◌≡◌, ◌∙◌, ap, not, List, length, filter, arith}
use Rattle.std.proofs.lemmas.List.{length-map}
use Rattle.std.proofs.lemmas.Grind.{common_steps}
use Rattle.ccr_base.specs.declared.names.MsgId.{MsgId}
use Rattle.ccr_base.specs.declared.messages.Msg.{Msg}
use Rattle.ccr_base.specs.Names.{has_message}
use Rattle.ccr_model.specs.Posts.{posts, taken}
use Rattle.ccr_report.proofs.counts.totals_of.Goals as goal

pub returns-clause-held : goal.returns-clause-held
returns-clause-held c =
    let held : length c.in_ok-held.held.items ≡ length (filter (λ (message : Msg). not (has_message (taken c.args.events.now) message.id)) (posts c.args.events.now)) =
    ap length c.in_ok-held.ensures
    ∙ length-map _ _
    ∙ ap (λ (names : List MsgId). length (filter (λ (message : Msg). not (has_message names message.id)) (posts c.args.events.now))) (c.deref.ensures.value ∙ c.in_ok-taken.ensures)
    in
    grind (arith, common_steps, held, c.len-3.ensures)
