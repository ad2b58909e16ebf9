use Rattle.std.proofs.Common.{sym, ap, ◌∙◌}
use Rattle.ccr_runs.specs.Played.{entry_of, number_at}
use Rattle.ccr_net.specs.Acted.{scene_after}
use Rattle.ccr_net.proofs.Played.AnswersFit.{met_replies}
use Rattle.ccr_net.proofs.plain.PlainPlaces.reply.Goals as goal

pub unreachable-requires-in_default-answer : goal.unreachable-requires-in_default-answer
unreachable-requires-in_default-answer c =
    let state = c.args.self.now in
    met_replies (scene_after state.wiring state.acts (number_at state.wiring c.args.place)).0 c.args.ask c.requires.met (sym c.in_default-answer.is ∙ c.in_ok-answer.ensures.answer)

pub returns-clause-entry : goal.returns-clause-entry
returns-clause-entry c =
    ap (entry_of c.args.self.now.wiring) (sym c.in_ok-answer.ensures.act) ∙ ap (λ w. entry_of w c.in_ok-answer.act) (sym c.in_ok-answer.ensures.wiring) ∙ sym c.entry.ensures ∙ c.in-Some.is
