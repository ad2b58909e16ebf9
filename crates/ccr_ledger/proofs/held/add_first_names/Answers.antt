use Rattle.std.proofs.Common.{◌∙◌, ◌++◌, ap, sym, append-nil, append_assoc, option_to_list, take}
use Rattle.ccr_ledger.specs.Lanes.{names_at}
use Rattle.ccr_ledger.proofs.Lanes.{names-more}
use Rattle.ccr_ledger.proofs.held.add_first_names.Goals as goal
use Rattle.ccr_ledger.proofs.held.add_first_names.Goals.{in-Some-name_at+in_ok-push, in_default-name_at}

pub loop-number-preserved : goal.loop-number-preserved
loop-number-preserved c =
    let more = names-more c.args.items.now c.args.lane.now.indices c.loop-number.number c.in-Some.index (sym c.at.ensures ∙ c.in-Some.is) in
    let so = ap (λ ns. ns ++ option_to_list c.name_at.result) c.loop-number.invariant
    ∙ (append_assoc c.args.names.now.items (names_at c.args.items.now (take c.loop-number.number c.args.lane.now.indices)) (option_to_list c.name_at.result)
    ∙ ap (λ ns. c.args.names.now.items ++ ns) (rw (c.name_at.ensures) (sym more))) in
    elim c.match-name_at.branch [
      | in-Some-name_at+in_ok-push w ↦ ap (λ v. v.items) w.names-is ∙ (w.in_ok-push.ensures.items ∙ (ap (λ o. c.loop-number.names.items ++ option_to_list o) (sym w.in-Some-name_at.is) ∙ so))
      | in_default-name_at w ↦ ap (λ v. v.items) w.names-is ∙ (sym (append-nil c.loop-number.names.items) ∙ (ap (λ o. c.loop-number.names.items ++ option_to_list o) (sym w.in_default-name_at.is) ∙ so))
    ]
