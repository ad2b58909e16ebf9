use Rattle.std.proofs.Common.{◌≡◌, ◌∙◌, ap, ℕ, List, Option, Some, None, arith}
use Rattle.std.specs.Option.{option_map}
use Rattle.std.proofs.lemmas.Grind.{common_steps}
use Rattle.std.proofs.lemmas.Bool.Decides.{nat_tests}
use Rattle.ccr_base.specs.Selection.{chosen, messages_at}
use Rattle.ccr_base.proofs.Indices.{length-indices_from}
use Rattle.ccr_base.proofs.Chosen.{messages_at-chosen}
use Rattle.ccr_base.proofs.selections.choose.Goals as goal

pub returns-then-len-slot : goal.returns-then-len-slot
returns-then-len-slot g c =
    let slot = c.args.slot.now in
    let items = g.T.Seen.seen c.args.items.now in
    let indices : ◌≡◌ {A = Option (List ℕ)} None (chosen slot items) = grind (arith, nat_tests, common_steps, length-indices_from slot.pred items 0) in
    record { indices = indices; selection = ap (option_map (messages_at items)) indices ∙ messages_at-chosen slot items }

pub returns : goal.returns
returns g c =
    let slot = c.args.slot.now in
    let items = g.T.Seen.seen c.args.items.now in
    let indices : ◌≡◌ {A = Option (List ℕ)} (Some c.from_vec.result) (chosen slot items) = grind (arith, nat_tests, common_steps, length-indices_from slot.pred items 0) in
    record { indices = indices; selection = ap (option_map (messages_at items)) indices ∙ messages_at-chosen slot items }
