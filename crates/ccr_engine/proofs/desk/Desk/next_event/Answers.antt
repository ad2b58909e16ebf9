use Rattle.std.proofs.Common.{length, refl, sym, subst}
use Rattle.ccr_ledger.specs.Books.{Books}
use Rattle.ccr_engine.specs.Desk.{IsIdle}
use Rattle.ccr_engine.specs.Numbered.{IsNoneBut}
use Rattle.ccr_engine.specs.Parts.{admission_in}
use Rattle.ccr_engine.proofs.Firsts.{ahead_so}
use Rattle.ccr_engine.proofs.desk.Desk.next_event.Goals as goal

pub returns-in-Some-clause-ahead : goal.returns-in-Some-clause-ahead
returns-in-Some-clause-ahead c =
    let idle = subst (IsIdle c.args.wiring.now c.args.closer) (sym c.self.view_is) c.requires.idle in
    ahead_so c.args.wiring.now c.args.closer _ c.args.self.now c.self.view_is c.requires.idle c.self.inside.ledger c.first_post.new.poster c.self.inside.touched c.self.inside.blocked c.self.inside.domains refl c.first_post.ensures.done idle.spots idle.domains idle.lowest_domain

pub first_fire-requires : goal.first_fire-requires
first_fire-requires c =
    let idle = subst (IsIdle c.args.wiring.now c.args.closer) (sym c.self.view_is) c.requires.idle in
    idle.spots

pub returns-in-Some-2-clause-ahead : goal.returns-in-Some-2-clause-ahead
returns-in-Some-2-clause-ahead c =
    let idle = subst (IsIdle c.args.wiring.now c.args.closer) (sym c.self.view_is) c.requires.idle in
    ahead_so c.args.wiring.now c.args.closer _ c.args.self.now c.self.view_is c.requires.idle c.first_fire.new.ledger c.first_post.new.poster c.first_fire.new.touched c.first_fire.new.blocked c.self.inside.domains c.in_ok-event-2.ensures.kept c.first_post.ensures.done c.in_ok-event-2.ensures.candidates
    (subst (λ (b : Books). IsNoneBut (admission_in b) (length c.args.wiring.now.arbiters) c.self.inside.domains) (sym c.in_ok-event-2.ensures.kept) idle.domains) idle.lowest_domain

pub first_admit-requires-clause-least : goal.first_admit-requires-clause-least
first_admit-requires-clause-least c =
    let idle = subst (IsIdle c.args.wiring.now c.args.closer) (sym c.self.view_is) c.requires.idle in
    idle.lowest_domain

pub returns-in-Some-first_admit-clause-ahead : goal.returns-in-Some-first_admit-clause-ahead
returns-in-Some-first_admit-clause-ahead c = ahead_so c.args.wiring.now c.args.closer _ c.args.self.now c.self.view_is c.requires.idle c.first_fire.new.ledger c.first_post.new.poster c.first_fire.new.touched c.first_fire.new.blocked c.first_admit.new.domains c.in_ok-event-2.ensures.kept c.first_post.ensures.done c.in_ok-event-2.ensures.candidates c.first_admit.ensures.others c.first_admit.ensures.least

pub returns-in-Some-first_put-clause-ahead : goal.returns-in-Some-first_put-clause-ahead
returns-in-Some-first_put-clause-ahead c = ahead_so c.args.wiring.now c.args.closer _ c.args.self.now c.self.view_is c.requires.idle c.first_fire.new.ledger c.first_post.new.poster c.first_fire.new.touched c.first_fire.new.blocked c.first_admit.new.domains c.in_ok-event-2.ensures.kept c.first_post.ensures.done c.in_ok-event-2.ensures.candidates c.first_admit.ensures.others c.first_admit.ensures.least

pub returns-in-Some-3-clause-ahead : goal.returns-in-Some-3-clause-ahead
returns-in-Some-3-clause-ahead c = ahead_so c.args.wiring.now c.args.closer _ c.args.self.now c.self.view_is c.requires.idle c.first_fire.new.ledger c.first_post.new.poster c.first_fire.new.touched c.first_fire.new.blocked c.first_admit.new.domains c.in_ok-event-2.ensures.kept c.first_post.ensures.done c.in_ok-event-2.ensures.candidates c.first_admit.ensures.others c.first_admit.ensures.least

pub first_start-requires-clause-least : goal.first_start-requires-clause-least
first_start-requires-clause-least c =
    let idle = subst (IsIdle c.args.wiring.now c.args.closer) (sym c.self.view_is) c.requires.idle in
    idle.lowest_queue
