use Rattle.std.proofs.Common.{◌∙◌, ap, List, ℕ, not, filter}
use Rattle.ccr_base.specs.declared.names.MsgId.{MsgId}
use Rattle.ccr_base.specs.declared.messages.Msg.{Msg}
use Rattle.ccr_base.specs.Names.{has_message}
use Rattle.ccr_model.specs.Posts.{posts}
use Rattle.ccr_wiring.specs.Spots.{times}
use Rattle.ccr_report.specs.Counting.{ports_of}
use Rattle.ccr_report.proofs.Tallies.{times-posted, times-held}
use Rattle.ccr_report.proofs.tables.port_counts.Goals as goal

pub returns-clause-posted : goal.returns-clause-posted
returns-clause-posted c = λ k below.
    c.in_ok-tally.ensures.counts k below
    ∙ ap (λ (numbers : List ℕ). times k numbers) (c.deref-2.ensures.value ∙ c.in_ok-posted.ensures)
    ∙ times-posted c.args.events.now k

pub returns-clause-held : goal.returns-clause-held
returns-clause-held c = λ k below.
    c.in_ok-tally-2.ensures.counts k below
    ∙ ap (λ (numbers : List ℕ). times k numbers) (c.deref-3.ensures.value ∙ c.in_ok-held.ensures)
    ∙ ap (λ (names : List MsgId). times k (ports_of (filter (λ (message : Msg). not (has_message names message.id)) (posts c.args.events.now)))) (c.deref.ensures.value ∙ c.in_ok-taken.ensures)
    ∙ times-held c.args.events.now k
