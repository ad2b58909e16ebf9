use Rattle.std.proofs.Common.{◌≡◌, true, sym, subst}
use Rattle.ccr_claim.specs.declared.asks.Asked.{Asked}
use Rattle.ccr_claim.specs.Asks.{may_come}
use Rattle.ccr_actor.specs.Acting.{Acting, due_in, sent, IsAfter}
use Rattle.ccr_actor.specs.Nets.{IsProper}
use Rattle.ccr_actor.specs.Following.{Follows}
use Rattle.ccr_actor.proofs.ActorsFollowTheirSteps.{follows_proper}
use Rattle.ccr_dispatch.proofs.StepsLeaveLess.{in_hand, less_left, settled_less}
use Rattle.ccr_dispatch.proofs.StepsOverNets.{actor_is, may_answer, stepped}
use Rattle.ccr_dispatch.proofs.to_rest.step.Goals as goal

pub act-answer-requires : goal.act-answer-requires
act-answer-requires g c =
    let a = c.args.actor.now in
    let one : Asked = record { place = c.ask-place.result.0; ask = c.ask-place.result.1 } in
    subst (λ n. IsProper (g.N.Net.wiring c.args.net.now) n (g.N.Net.steps c.args.net.now n) one) (sym c.number-number.ensures) (follows_proper (g.N.Net.wiring c.args.net.now) a.actor (g.N.Net.steps c.args.net.now a.actor) a one c.requires.follows c.ask-place.ensures.asked)

pub hear-requires : goal.hear-requires
hear-requires g c = subst (λ d. may_come d c.act-answer.result ≡ true) (sym c.ask-place.ensures.due) (may_answer c.ask-place.result.1 c.act-answer.result c.act-answer.ensures.reply c.act-answer.ensures.settles)

may : (g : _) (c : goal.After-hear g) → may_come (due_in (sent c.args.actor.now).asking) c.act-answer.result ≡ true
may g c = subst (λ (x : Acting). may_come (due_in x.asking) c.act-answer.result ≡ true) c.ask-place.ensures.sent (subst (λ d. may_come d c.act-answer.result ≡ true) (sym c.ask-place.ensures.due) (may_answer c.ask-place.result.1 c.act-answer.result c.act-answer.ensures.reply c.act-answer.ensures.settles))

so : (g : _) (c : goal.After-hear g) → IsAfter (sent c.args.actor.now) c.act-answer.result c.hear.new.self
so g c = subst (λ (x : Acting). IsAfter x c.act-answer.result c.hear.new.self) c.ask-place.ensures.sent c.hear.ensures.after

pub returns-clause-follows : goal.returns-clause-follows
returns-clause-follows g c =
    let a = c.args.actor.now in
    let b = c.hear.new.self in
    let one : Asked = record { place = c.ask-place.result.0; ask = c.ask-place.result.1 } in
    let w = g.N.Net.wiring c.args.net.now in
    let n = c.number-number.result in
    let old = g.N.Net.steps c.args.net.now in
    let new = g.N.Net.steps c.act-answer.new.self in
    let before : Follows w n (old n) a = subst (λ m. Follows w m (old m) a) (sym c.number-number.ensures) c.requires.follows in
    let after : Follows w n (new n) b = stepped w n (old n) (new n) a b one c.act-answer.result before c.ask-place.ensures.asked (may g c) (so g c) c.act-answer.ensures.added c.act-answer.ensures.refused in
    subst (λ v. Follows v b.actor (new b.actor) b) (sym c.act-answer.ensures.wiring) (subst (λ m. Follows w m (new m) b) (sym (actor_is w n (new n) b after)) after)

pub returns-clause-settled : goal.returns-clause-settled
returns-clause-settled g c = λ some.
    let a = c.args.actor.now in
    let one : Asked = record { place = c.ask-place.result.0; ask = c.ask-place.result.1 } in
    settled_less a c.hear.new.self one c.act-answer.result c.ask-place.ensures.asked some (in_hand (g.N.Net.wiring c.args.net.now) a.actor (g.N.Net.steps c.args.net.now a.actor) a c.requires.follows) (may g c) (so g c)

pub returns-clause-less : goal.returns-clause-less
returns-clause-less g c = λ none.
    let one : Asked = record { place = c.ask-place.result.0; ask = c.ask-place.result.1 } in
    less_left c.args.actor.now c.hear.new.self one c.act-answer.result c.ask-place.ensures.asked none (may g c) (so g c) c.ask-place.ensures.valid c.ask-place.ensures.within c.hear.ensures.within
