use Rattle.std.proofs.Common.{◌≡◌, IfOk, sym, ◌∙◌, ap, subst}
use Rattle.std.proofs.lemmas.Result.{on_err_weaker}
use Rattle.ccr_object.specs.Objects.{after_at}
use Rattle.ccr_net.specs.Acted.{deed_at}
use Rattle.ccr_net.proofs.Played.OneMoreAct.{deed_given, on_ok, placed_in-here, placed_in-set, placed_in-other}
use Rattle.ccr_net.proofs.plain.answer_at.Goals as goal

pub returns-clause-deed : goal.returns-clause-deed
returns-clause-deed c =
    let here = placed_in-here c.args.objects.now c.args.number c.index-objects-number.result c.requires in
    subst (λ x. IfOk c.answer.result (λ given. given.1 ≡ deed_at x c.args.ask)) (sym here) (deed_given _ c.args.ask c.answer.result c.answer.ensures.note c.answer.ensures.ask)

pub returns-clause-after : goal.returns-clause-after
returns-clause-after c =
    let here = placed_in-here c.args.objects.now c.args.number c.index-objects-number.result c.requires in
    let there = placed_in-set c.args.objects.now c.args.number c.answer.new.self c.requires in
    on_ok c.answer.result (λ e. there ∙ e ∙ ap (λ x. after_at x c.args.ask) (sym here)) c.answer.ensures.state

pub returns-clause-refused : goal.returns-clause-refused
returns-clause-refused c =
    let here = placed_in-here c.args.objects.now c.args.number c.index-objects-number.result c.requires in
    let there = placed_in-set c.args.objects.now c.args.number c.answer.new.self c.requires in
    on_err_weaker c.answer.result (λ e. there ∙ e ∙ sym here) c.answer.ensures.refused

pub returns-clause-others : goal.returns-clause-others
returns-clause-others c = λ k other. placed_in-other c.args.objects.now c.args.number c.answer.new.self k other
