use Rattle.std.proofs.Common.{◌≡◌, ◌∙◌, [], sym, ap, subst}
use Rattle.ccr_turns.specs.Locks.{log_of}
use Rattle.ccr_runs.specs.Runs.{IsProper}
use Rattle.ccr_claim.specs.declared.asks.Asked.{Asked}
use Rattle.ccr_claim.specs.Asks.{fits}
use Rattle.ccr_actor.specs.Acting.{Acting}
use Rattle.ccr_object.specs.Objects.{is_due}
use Rattle.ccr_runs.specs.Played.{number_at, position_of, protocol}
use Rattle.ccr_runs.specs.EntryRuns.{never}
use Rattle.ccr_space.specs.Spaces.{IsGoing, IsHeard, log, number, wiring_of}
use Rattle.ccr_space.proofs.Stepping.{Stepped, acts_due, comes_next, heard_on, made_met, stepped, unmet_not}
use Rattle.ccr_space.proofs.space.step.Space.advance.Goals as goal

abbrev one_of : (g : _) (c : goal.After-pass-1 g) → Asked
one_of g c = record { place = c.ask-place.result.0; ask = c.ask-place.result.1 }

going : (g : _) (c : goal.After-pass-1 g) → IsGoing (wiring_of c.args.self.now) (number c.args.pass.now) (log c.args.pass.now) c.args.pass.now.actor
going g c = c.requires.pass.going c.if-pass.false

step : (g : _) (c : goal.After-pass-1 g) → Stepped (wiring_of c.args.self.now) (number c.args.pass.now) (log c.args.pass.now) (log_of c.act.new.seat) c.in-Ok.answer
step g c =
    let w = wiring_of c.args.self.now in
    let k = number c.args.pass.now in
    let there : c.number-at.result ≡ number_at w c.ask-place.result.0 = c.number-at.ensures.number ∙ ap (position_of c.ask-place.result.0) c.requires.space.numbers in
    stepped w k c.number-at.result (one_of g c) c.in-Ok.answer (log c.args.pass.now) (log_of c.act.new.seat) c.requires.pass.proper (comes_next w k (log c.args.pass.now) c.args.pass.now.actor (one_of g c) (going g c) c.ask-place.ensures.asked) there c.in-Ok.ensures.ok

pub heard-step-requires : goal.heard-step-requires
heard-step-requires g c =
    let due = acts_due c.number-at.result c.ask-place.result.1 c.in-Ok.answer (log c.args.pass.now) (log_of c.act.new.seat) c.in-Ok.ensures.ok in
    record { fits = λ reply is. ap (λ d. fits d reply) c.ask-place.ensures.due ∙ (ap (is_due c.ask-place.result.1) (sym is) ∙ due) }

pub returns-in-Ok-clause-pass : goal.returns-in-Ok-clause-pass
returns-in-Ok-clause-pass g c =
    let w = wiring_of c.args.self.now in
    let k = number c.args.pass.now in
    let s = step g c in
    let same = c.act.ensures.seat.1 in
    record {
      seat = c.act.ensures.seat.0;
      proper = subst (λ n. IsProper (protocol w never) (record { actor = n; given = [] }) 0 (log_of c.act.new.seat)) (sym same) s.proper;
      going = λ on. subst (λ n. IsGoing w n (log_of c.act.new.seat) c.heard-step.new.actor) (sym same)
          (heard_on w k (log c.args.pass.now) (log_of c.act.new.seat) c.args.pass.now.actor c.heard-step.new.actor (one_of g c) c.in-Ok.answer (going g c) c.ask-place.ensures.asked
          (subst (λ (a : Acting). IsHeard a c.in-Ok.answer c.heard-step.new.actor) c.ask-place.ensures.sent (c.heard-step.ensures.going on)) s.state);
    }

pub returns-in-Ok-clause-made : goal.returns-in-Ok-clause-made
returns-in-Ok-clause-made g c = λ is. let s = step g c in (s.added, (s.more, s.met ∙ (made_met c.in-Ok.answer c.heard-step.result c.heard-step.new.actor.state.is_short c.heard-step.ensures.replied c.heard-step.ensures.made is).0, s.gave))

pub returns-in-Ok-clause-short : goal.returns-in-Ok-clause-short
returns-in-Ok-clause-short g c = λ is. (made_met c.in-Ok.answer c.heard-step.result c.heard-step.new.actor.state.is_short c.heard-step.ensures.replied c.heard-step.ensures.made is).1

pub returns-in-Ok-clause-unmet : goal.returns-in-Ok-clause-unmet
returns-in-Ok-clause-unmet g c = λ is.
    let s = step g c in
    let not = unmet_not c.in-Ok.answer c.heard-step.result c.heard-step.new.actor.state.is_short c.heard-step.ensures.replied c.heard-step.ensures.made is in
    ((s.added, (s.more, s.met ∙ not.0, s.gave)), not.1)
