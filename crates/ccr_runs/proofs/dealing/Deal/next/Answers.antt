use Rattle.std.proofs.Common.{◌≡◌, ◌∙◌, ◌∷◌, ap, sym, map, drop, subst, arith}
use Rattle.std.specs.Prelude.{slice_get}
use Rattle.ccr_runs.specs.Deals.{HasEach, left_at}
use Rattle.ccr_runs.proofs.Deals.{next_dealt, next_has, left_in, set_in, count_in}
use Rattle.ccr_runs.proofs.dealing.Deal.next.Goals as goal

pub invariant_of-self-2 : goal.invariant_of-self-2
invariant_of-self-2 g c =
    let queues = c.self.inside.histories.items in
    let under = (subst (λ o. HasEach o (map (λ queue. queue.items) queues)) c.in_ok-place.ensures.items c.self.invariant).0 in
    let count = count_in queues in
    let there : left_at (map (λ queue. queue.items) queues) c.in_ok-place.place ≡ c.in-Some.field-0 ∷ c.pop_front-2.new.self.items =
    left_in queues c.in_ok-place.place c.index_mut-history.result.now (omega (arith, under, count)) ∙ (ap (λ queue. queue.items) (sym c.index_mut-history.ensures.value) ∙ c.in-Some.ensures.items) in
    next_has c.in_ok-place.place c.pop_front.new.self.items c.self.inside.order.items _ _ c.in-Some.field-0 c.pop_front-2.new.self.items c.in_ok-place.ensures.items there (set_in c.self.inside.histories.items c.in_ok-place.place c.pop_front-2.new.self) c.self.invariant

pub returns-clause-first : goal.returns-clause-first
returns-clause-first g c =
    let queues = c.self.inside.histories.items in
    let under = (subst (λ o. HasEach o (map (λ queue. queue.items) queues)) c.in_ok-place.ensures.items c.self.invariant).0 in
    let count = count_in queues in
    let there : left_at (map (λ queue. queue.items) queues) c.in_ok-place.place ≡ c.in-Some.field-0 ∷ c.pop_front-2.new.self.items =
    left_in queues c.in_ok-place.place c.index_mut-history.result.now (omega (arith, under, count)) ∙ (ap (λ queue. queue.items) (sym c.index_mut-history.ensures.value) ∙ c.in-Some.ensures.items) in
    sym (ap (λ l. slice_get l 0) (sym c.self.view_is ∙ next_dealt c.in_ok-place.place c.pop_front.new.self.items c.self.inside.order.items _ _ c.in-Some.field-0 c.pop_front-2.new.self.items c.in_ok-place.ensures.items there (set_in c.self.inside.histories.items c.in_ok-place.place c.pop_front-2.new.self)))

pub returns-clause-rest : goal.returns-clause-rest
returns-clause-rest g c =
    let queues = c.self.inside.histories.items in
    let under = (subst (λ o. HasEach o (map (λ queue. queue.items) queues)) c.in_ok-place.ensures.items c.self.invariant).0 in
    let count = count_in queues in
    let there : left_at (map (λ queue. queue.items) queues) c.in_ok-place.place ≡ c.in-Some.field-0 ∷ c.pop_front-2.new.self.items =
    left_in queues c.in_ok-place.place c.index_mut-history.result.now (omega (arith, under, count)) ∙ (ap (λ queue. queue.items) (sym c.index_mut-history.ensures.value) ∙ c.in-Some.ensures.items) in
    sym (ap (drop 1) (sym c.self.view_is ∙ next_dealt c.in_ok-place.place c.pop_front.new.self.items c.self.inside.order.items _ _ c.in-Some.field-0 c.pop_front-2.new.self.items c.in_ok-place.ensures.items there (set_in c.self.inside.histories.items c.in_ok-place.place c.pop_front-2.new.self)))
