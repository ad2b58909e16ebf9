use Rattle.std.proofs.Common.{◌≡◌, ℕ, ◌+◌, List, [], ◌∷◌, ◌++◌, map, drop, get_or, Bor, sym, ap, subst, ◌∙◌}
use Rattle.std.specs.Prelude.{if◌then◌else◌}
use Rattle.ccr_wiring.specs.Names.{has_repeated}
use Rattle.ccr_wiring.proofs.RepeatedNames.{repeated_from_none, repeated_after, seen_again, seen_next}
use Rattle.ccr_wiring.proofs.names.has_repeated.Goals as goal
use Rattle.ccr_base.proofs.Booleans.{not_refuted, not_true}

pub loop-name-init : goal.loop-name-init
loop-name-init c =
    let e : c.new-seen.result.keys ≡ [] = c.new-seen.ensures.empty in
    rw e (repeated_from_none (map (λ name. name.now) c.args.names.now))

pub returns-then-not-branch : goal.returns-then-not-branch
returns-then-not-branch c =
    let hit = not_refuted _ (sym c.in_ok-insert.ensures.added ∙ c.if-not-branch.true) in
    seen_again c.loop-name.seen.keys c.args.names.now c.loop-name.name-index _ c.loop-name-test.true c.loop-name.invariant hit

pub loop-name-preserved : goal.loop-name-preserved
loop-name-preserved c =
    let miss = not_true _ (sym c.in_ok-insert.ensures.added ∙ c.if-not-branch.false) in
    let keys = c.loop-name.seen.keys in
    let name = get_or c.args.names.now c.loop-name.name-index (record { ref_ptr = (0, 0); now = [] }) in
    let e : c.insert.new.self.keys ≡ keys ++ name ∷ [] = c.in_ok-insert.ensures.keys ∙ ap (λ b. if b then keys else keys ++ name ∷ []) miss in
    subst (λ (seen : List (Bor (List ℕ))). repeated_after (map (λ key. key.now) seen) (map (λ name. name.now) (drop (c.loop-name.name-index + 1) c.args.names.now)) ≡ has_repeated (map (λ name. name.now) c.args.names.now)) (sym e)
    (seen_next keys c.args.names.now c.loop-name.name-index _ c.loop-name-test.true c.loop-name.invariant miss)
