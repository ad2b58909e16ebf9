use Rattle.std.proofs.Common.{refl, subst}
use Rattle.ccr_wiring.specs.declared.parts.Parts.{Parts}
use Rattle.ccr_engine.specs.Desk.{Desk, Follows}
use Rattle.ccr_engine.proofs.desk.Desk.push.Goals as goal

pub returns : goal.returns
returns c =
    let next : Desk = record { books = c.push.new.self; attempt = c.attempt_after-attempt.result; poster = c.self.inside.poster; touched = c.note_touched.new.touched; blocked = c.self.inside.blocked; domains = c.note_domains.new.domains; ready = c.note_ready.new.ready; queues = c.note_queue.new.queues } in
    subst (λ (w : Parts). Follows w c.args.closer c.args.event.now c.args.self.now next) c.wiring-wiring.ensures (subst (λ (d : Desk). Follows c.wiring-wiring.result.now c.args.closer c.args.event.now d next) c.self.view_is (record {
      books = c.in_ok-push.ensures.ok;
      attempt = c.attempt_after-attempt.ensures;
      poster = refl;
      touched = rw c.wiring-wiring.ensures c.in_ok-note_touched.ensures;
      blocked = refl;
      domains = c.in_ok-note_domains.ensures;
      ready = c.in_ok-note_ready.ensures.members;
      least = c.in_ok-note_ready.ensures.least;
      queues = c.in_ok-note_queue.ensures;
    }))
