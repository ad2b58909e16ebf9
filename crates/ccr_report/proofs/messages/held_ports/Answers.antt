use Rattle.std.proofs.Common.{◌∙◌, ap, not, Bool}
use Rattle.std.proofs.lemmas.List.Elements.{filter_agree}
use Rattle.ccr_base.specs.declared.messages.Msg.{Msg}
use Rattle.ccr_model.specs.Posts.{posts}
use Rattle.ccr_report.specs.Counting.{ports_of}
use Rattle.ccr_report.proofs.messages.held_ports.Goals as goal

pub returns : goal.returns
returns c =
    c.in_ok-ports.ensures
    ∙ ap ports_of (filter_agree _ _ (λ (message : Msg). ap (λ (b : Bool). not b) (c.in_ok-taken.ensures message.id)) (posts c.args.events.now))
