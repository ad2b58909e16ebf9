use Rattle.std.proofs.Common.{◌∙◌, ap, map}
use Rattle.ccr_runs.specs.Merges.{tagged}
use Rattle.ccr_runs.specs.Orders.{in_order, merged}
use Rattle.ccr_runs.proofs.Deals.{order_keys, key_places}
use Rattle.ccr_runs.proofs.dealing.order_of.Goals as goal

pub returns : goal.returns
returns g c =
    c.in_ok-places.ensures
    ∙ (ap (map (λ one. one.item)) (c.in_ok-keys.ensures ∙ (ap (in_order (λ one. one.stamp)) c.in_ok-keys_of.ensures ∙ order_keys (tagged 0 c.args.kept.now)))
    ∙ key_places (merged c.args.kept.now))
