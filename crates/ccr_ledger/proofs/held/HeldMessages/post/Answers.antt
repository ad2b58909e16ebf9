use Rattle.std.proofs.Common.{◌≡◌, ◌∷◌, ◌++◌, [], ap, ◌∙◌, length, arith}
use Rattle.ccr_ledger.proofs.Lanes.{after_post, present-post}
use Rattle.ccr_ledger.proofs.Taking.{few-present, one_more}
use Rattle.ccr_ledger.proofs.held.HeldMessages.post.Goals as goal

pub invariant_of-self-2 : goal.invariant_of-self-2
invariant_of-self-2 c =
    let last : c.len-index.result ≡ length c.self.inside.items.items = omega arith in
    let pushed = c.in_ok-push.ensures.items ∙ ap (λ i. c.self.inside.items.items ++ i ∷ []) c.gone.ensures in
    rw (c.in_ok-item.ensures) (
      after_post c.self.inside.items.items _ c.self.inside.lanes.items _ c.len-index.result last pushed c.self.invariant.0 c.args.message c.in_default.ensures,
      rw (present-post c.self.inside.items.items _ c.len-index.result c.args.message last pushed) (one_more _ _ c.args.message c.self.invariant.1),
    )

pub returns-clause-ok : goal.returns-clause-ok
returns-clause-ok c =
    let last : c.len-index.result ≡ length c.self.inside.items.items = omega arith in
    let pushed = c.in_ok-push.ensures.items ∙ ap (λ i. c.self.inside.items.items ++ i ∷ []) c.gone.ensures in
    rw (← c.self.view_is, c.in_ok-item.ensures) (present-post c.self.inside.items.items _ c.len-index.result c.args.message last pushed)

pub overflow_add-self : goal.overflow_add-self
overflow_add-self c = omega (arith, few-present c.self.inside.items.items, c.self.invariant.1, c.in_ok-push.ensures.len, c.push.new.self.small)
