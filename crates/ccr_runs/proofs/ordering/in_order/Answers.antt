use Rattle.std.proofs.Common.{rules}
use Rattle.std.proofs.lemmas.List.Sorted.{IsNonDecreasingBy-from_sort_by_key, answers_always}
use Rattle.ccr_runs.proofs.InOrder.{climbing, sorted_is}
use Rattle.ccr_runs.proofs.ordering.in_order.Goals as goal

pub returns : goal.returns
returns g c =
    let up = climbing (λ one. one.stamp) c.sort_by_key.new.self.items (IsNonDecreasingBy-from_sort_by_key (λ one. one.stamp) _ c.in_ok-sort_by_key.ensures.sorted (λ a r q k. search rules)) in
    let stable = c.in_ok-sort_by_key.ensures.stable (λ one. one.stamp) (answers_always _ _ _ (λ f a r q k. search rules)) in
    sorted_is (λ one. one.stamp) c.args.items.items c.sort_by_key.new.self.items up stable
