use Rattle.std.proofs.Common.{None, Some, sym, ap, subst, ◌∙◌}
use Rattle.std.specs.Option.{option_map}
use Rattle.ccr_actor.specs.Acting.{Acting, next, pair_of, sent}
use Rattle.ccr_actor.specs.Courses.{IsSound, seen}
use Rattle.ccr_actor.proofs.FieldsAfterAStep.{sound_none, next_asks, next_sound, seen_none, sent_seen, still_none}
use Rattle.ccr_actor.proofs.actor.Actor.next.Goals as goal

pub invariant_of-self : goal.invariant_of-self
invariant_of-self c =
    let old = c.self.inside.course in
    let sound = sound_none old c.self.inside.unanswered c.args.self.now c.self.invariant c.self.view_is c.requires in
    let e = c.in_default.ensures in
    still_none old c.ask.new.self c.self.inside.unanswered c.args.self.now c.self.view_is c.requires (next_sound old c.ask.new.self None sound e.beside.wiring e.beside.short e.state (e.rest, e.due) e.counted)

pub returns-in_default-clause-asked : goal.returns-in_default-clause-asked
returns-in_default-clause-asked c =
    let old = c.self.inside.course in
    next_asks old None c.in_default.ensures.asked ∙ ap (λ (a : Acting). option_map pair_of (next a)) (seen_none old c.self.inside.unanswered c.args.self.now c.self.view_is c.requires)

pub invariant_of-self-2 : goal.invariant_of-self-2
invariant_of-self-2 c =
    let old = c.self.inside.course in
    let sound = sound_none old c.self.inside.unanswered c.args.self.now c.self.invariant c.self.view_is c.requires in
    let e = c.in-Some.ensures in
    subst (λ d. IsSound c.ask.new.self (Some (c.in-Some.part, d))) (sym c.due_of.ensures) (next_sound old c.ask.new.self (Some (c.in-Some.part, c.in-Some.asked)) sound e.beside.wiring e.beside.short e.state (e.part, e.due) e.counted)

pub returns-clause-asked : goal.returns-clause-asked
returns-clause-asked c =
    let old = c.self.inside.course in
    next_asks old (Some c.in-Some.asked) c.in-Some.ensures.asked ∙ ap (λ (a : Acting). option_map pair_of (next a)) (seen_none old c.self.inside.unanswered c.args.self.now c.self.view_is c.requires)

pub returns-clause-sent : goal.returns-clause-sent
returns-clause-sent c =
    let old = c.self.inside.course in
    let e = c.in-Some.ensures in
    ap (λ d. seen c.ask.new.self (Some (c.in-Some.part, d))) c.due_of.ensures ∙ (sent_seen old c.ask.new.self (Some (c.in-Some.part, c.in-Some.asked)) e.beside.wiring e.beside.number e.state e.asking ∙ ap sent (seen_none old c.self.inside.unanswered c.args.self.now c.self.view_is c.requires))
