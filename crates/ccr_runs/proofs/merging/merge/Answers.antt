use Rattle.std.proofs.Common.{rules, ◌∙◌, sym, ap, subst, List, length, filter, ◌<◌}
use Rattle.std.specs.Prelude.{All}
use Rattle.ccr_turns.specs.Lists.{Rises}
use Rattle.ccr_turns.specs.Histories.{history_stamps}
use Rattle.std.proofs.lemmas.List.Sorted.{IsNonDecreasingBy-from_sort_by_key, answers_always, All-permutation}
use Rattle.ccr_turns.proofs.Rows.{all_at, there_by_slice}
use Rattle.ccr_runs.specs.Merges.{tagged, history_at, Climbs, act_stamps, IsByPlace}
use Rattle.ccr_runs.proofs.Sorting.{climbs, parts, all_inside, by_places}
use Rattle.ccr_runs.proofs.InOrder.{sorted_is}
use Rattle.ccr_runs.proofs.merging.merge.Goals as goal

pub returns-clause-sorted : goal.returns-clause-sorted
returns-clause-sorted g c =
    let up = climbs c.sort_by_cached_key.new.self.items (IsNonDecreasingBy-from_sort_by_key (λ e. e.stamp) _ c.in_ok-sort_by_cached_key.ensures.sorted (λ a r q k. search rules)) in
    subst (λ (es : List _). Climbs 0 (act_stamps es)) (sym c.from_vec.ensures) up

pub returns-clause-parts : goal.returns-clause-parts
returns-clause-parts g c =
    let up = climbs c.sort_by_cached_key.new.self.items (IsNonDecreasingBy-from_sort_by_key (λ e. e.stamp) _ c.in_ok-sort_by_cached_key.ensures.sorted (λ a r q k. search rules)) in
    let stable = c.in_ok-sort_by_cached_key.ensures.stable (λ e. e.stamp) (answers_always _ _ _ (λ f a r q k. search rules)) in
    λ place left at. ap (history_at place) c.from_vec.ensures
    ∙ parts c.args.kept c.sort_by_cached_key.new.self.items up (λ x. stable x ∙ ap (filter _) (c.in_ok-acts.ensures ∙ ap (tagged 0) c.into_vec.ensures)) place left at (all_at (λ l. Rises 0 (history_stamps l.1)) c.args.kept place left c.requires.rising (there_by_slice c.args.kept place left at))

pub returns-clause-inside : goal.returns-clause-inside
returns-clause-inside g c =
    subst (λ (es : List _). All (λ e. e.place < length c.args.kept) es) (sym c.from_vec.ensures)
    (All-permutation (λ e. e.place < length c.args.kept) _ _ c.in_ok-sort_by_cached_key.ensures.permutation (subst (λ (es : List _). All (λ e. e.place < length c.args.kept) es) (sym (c.in_ok-acts.ensures ∙ ap (tagged 0) c.into_vec.ensures)) (all_inside c.args.kept)))

pub returns-clause-by_place : goal.returns-clause-by_place
returns-clause-by_place g c =
    let stable = c.in_ok-sort_by_cached_key.ensures.stable (λ e. e.stamp) (answers_always _ _ _ (λ f a r q k. search rules)) in
    subst (λ (es : List _). IsByPlace es) (sym c.from_vec.ensures)
    (by_places c.args.kept c.sort_by_cached_key.new.self.items (λ x. stable x ∙ ap (filter _) (c.in_ok-acts.ensures ∙ ap (tagged 0) c.into_vec.ensures)))

pub returns-clause-exact : goal.returns-clause-exact
returns-clause-exact g c =
    let up = climbs c.sort_by_cached_key.new.self.items (IsNonDecreasingBy-from_sort_by_key (λ e. e.stamp) _ c.in_ok-sort_by_cached_key.ensures.sorted (λ a r q k. search rules)) in
    let stable = c.in_ok-sort_by_cached_key.ensures.stable (λ e. e.stamp) (answers_always _ _ _ (λ f a r q k. search rules)) in
    c.from_vec.ensures ∙ sorted_is (λ e. e.stamp) (tagged 0 c.args.kept) c.sort_by_cached_key.new.self.items up (λ x. stable x ∙ ap (filter _) (c.in_ok-acts.ensures ∙ ap (tagged 0) c.into_vec.ensures))
