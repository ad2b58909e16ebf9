use Rattle.std.proofs.Common.{◌<◌, sym, subst}
use Rattle.std.proofs.lemmas.Result.{on_ok_weaker}
use Rattle.ccr_actor.specs.Acting.{Acting}
use Rattle.ccr_net.proofs.Played.PlayedRunsGoOn.{step_of}
use Rattle.ccr_net.proofs.schedules.make_step.Goals as goal

pub answer-requires-clause-seat : goal.answer-requires-clause-seat
answer-requires-clause-seat c = subst (λ (x : Acting). x.actor < 32) (sym c.ask-place.ensures.sent) c.requires.seat

pub answer-requires-clause-met : goal.answer-requires-clause-met
answer-requires-clause-met c = c.requires.met (record { place = c.ask-place.result.0; ask = c.ask-place.result.1 }) c.ask-place.ensures.asked

pub returns : goal.returns
returns c = on_ok_weaker c.answer.result (step_of c.args.places.now c.answer.new.places c.args.actor.now c.ask-place.new.self c.answer.new.actor c.args.entries.now.items c.answer.new.entries.items c.ask-place.result.0 c.ask-place.result.1 c.ask-place.ensures.asked c.ask-place.ensures.sent) c.answer.ensures
