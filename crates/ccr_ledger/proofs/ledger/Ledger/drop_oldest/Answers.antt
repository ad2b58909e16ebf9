use Rattle.std.proofs.Common.{◌∙◌, ap}
use Rattle.std.specs.Option.{option_map_or}
use Rattle.ccr_ledger.specs.Events.{after_drop, after_last}
use Rattle.ccr_ledger.proofs.ledger.Ledger.drop_oldest.Goals as goal

pub returns : goal.returns
returns c =
    c.last.ensures ∙ (ap (after_last c.in-Some.card.now.root) c.discard.ensures ∙ ap (λ o. option_map_or (λ card. after_drop c.args.task card c.args.self.now) o c.args.self.now) c.in-Some.ensures)
