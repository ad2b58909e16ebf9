use Rattle.std.proofs.Common.{ap, ◌∙◌}
use Rattle.ccr_claim.specs.Asks.{fits}
use Rattle.ccr_net.proofs.Played.OneMoreAct.{ok_both}
use Rattle.ccr_net.proofs.Played.PlayedRunsGoOn.{answer_of}
use Rattle.ccr_net.proofs.schedules.answer.Goals as goal

pub reply-requires-clause-met : goal.reply-requires-clause-met
reply-requires-clause-met c = rw (c.reserve.ensures.wiring, c.reserve.ensures.acts) c.requires.met

pub hear-requires : goal.hear-requires
hear-requires c = ap (λ d. fits d c.in_ok-reply.reply) c.requires.due ∙ c.in_ok-reply.ensures.fits

pub returns : goal.returns
returns c =
    ok_both c.hear.result
    (λ heard long. answer_of c.args.places.now c.reserve.new.self c.reply.new.self c.args.actor.now c.hear.new.actor c.args.entries.now.items c.reserve-2.new.self.items c.push_reserved.new.self.items c.number-number.result c.args.place c.args.ask c.in_ok-reply.entry c.in_ok-reply.reply
    c.reserve.ensures.wiring c.reserve.ensures.acts c.number-number.ensures c.reserve-2.ensures.items
    c.in_ok-reply.ensures.wiring c.in_ok-reply.ensures.acts c.in_ok-reply.ensures.entry c.push_reserved.ensures.items c.in_ok-reply.ensures.reply heard long)
    c.hear.ensures.after c.hear.ensures.long
