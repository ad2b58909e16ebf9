use Rattle.std.proofs.Common.{◌≡◌, ◌∙◌, ap, length}
use Rattle.std.specs.Prelude.{option_and_then}
use Rattle.std.specs.Option.{option_map_or}
use Rattle.ccr_wiring.specs.Wirings.{site_port}
use Rattle.ccr_ledger.specs.Books.{Books, card_at}
use Rattle.ccr_ledger.specs.Taking.{take_site}
use Rattle.ccr_ledger.specs.Firing.{after_site, resumed_card}
use Rattle.ccr_ledger.proofs.ledger.Ledger.fire_site.Goals as goal

pub returns-clause-ok : goal.returns-clause-ok
returns-clause-ok c =
    let at = c.in-Some-get.ensures.value ∙ (ap (option_and_then (card_at c.self.inside.tasks.entries)) c.in-Some.ensures ∙ ap (λ (b : Books). resumed_card b c.args.branch c.args.site) c.self.view_is) in
    let count : c.len-number.result ≡ length c.self.inside.tasks.entries = c.len-number.ensures.len in
    rw (c.in_ok-insert.ensures.entries, c.resume.ensures, c.in_ok-card.ensures.ports, c.in_ok-card.ensures.card, count)
    (ap (λ (b : Books). after_site c.args.wiring.now c.args.task c.args.branch c.args.site c.in-Some-get.card.now (take_site (site_port c.args.wiring.now c.args.branch c.args.site) b.ports) b) c.self.view_is
    ∙ ap (λ o. option_map_or (λ card. after_site c.args.wiring.now c.args.task c.args.branch c.args.site card (take_site (site_port c.args.wiring.now c.args.branch c.args.site) c.args.self.now.ports) c.args.self.now) o c.args.self.now) at)
