use Rattle.std.proofs.Common.{◌≡◌, ◌∙◌, ◌+◌, List, ap, subst, length, arith}
use Rattle.std.specs.List.{slice_get}
use Rattle.std.specs.Prelude.{Some}
use Rattle.ccr_model.specs.declared.history.Event.{Event}
use Rattle.ccr_service.specs.declared.parts.ClientPart.{ClientPart}
use Rattle.ccr_service.specs.declared.parts.ServiceParts.{ServiceParts}
use Rattle.ccr_service.specs.Telling.{Tells, told_clients}
use Rattle.ccr_service.proofs.TellingAll.{asks_short, all_told}
use Rattle.ccr_service.proofs.telling.answers.Goals as goal

pub all_clients-requires-clause-asks : goal.all_clients-requires-clause-asks
all_clients-requires-clause-asks c = λ number client at.
    let clients : c.as_slice.result.now ≡ c.args.service.now.clients = c.as_slice.ensures ∙ ap (λ (s : ServiceParts). s.clients) c.parts-parts.ensures.parts in
    let short = asks_short c.args.service.now.clients number client (subst (λ (cs : List ClientPart). slice_get cs number ≡ Some client) clients at) in
    let few = c.parts-parts.ensures.service.few_asks in
    omega (arith, short, few)

pub returns : goal.returns
returns c =
    let s = c.args.service.now in
    let clients : c.as_slice.result.now ≡ s.clients = c.as_slice.ensures ∙ ap (λ (p : ServiceParts). p.clients) c.parts-parts.ensures.parts in
    let ops : c.len-ops.result ≡ length s.ops = c.len-ops.ensures ∙ ap (λ (p : ServiceParts). length p.ops) c.parts-parts.ensures.parts in
    let tells : Tells c.args.history.now c.in_ok-tables.tables = subst (λ (h : List Event). Tells h c.in_ok-tables.tables) c.events.ensures c.in_ok-tables.ensures in
    c.from_vec.ensures ∙ c.in_ok-answers.ensures
    ∙ ap (λ n. told_clients c.in_ok-tables.tables (n + n) 0 c.as_slice.result.now) ops
    ∙ ap (λ (cs : List ClientPart). told_clients c.in_ok-tables.tables (length s.ops + length s.ops) 0 cs) clients
    ∙ all_told s c.parts-parts.ensures.service c.args.history.now c.requires.legal c.requires.complete c.requires.quiet c.in_ok-tables.tables tells
