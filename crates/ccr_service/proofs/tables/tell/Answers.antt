use Rattle.std.proofs.Common.{◌≡◌, ◌∙◌, sym, ap, Some, None, false, true, refl, arith}
use Rattle.std.specs.Prelude.{◌==◌, if◌then◌else◌, option_map}
use Rattle.std.specs.Borrow.{Bor}
use Rattle.std.proofs.lemmas.Bool.Decides.{nat_tests}
use Rattle.ccr_base.specs.declared.messages.Msg.{Msg}
use Rattle.ccr_service.specs.declared.answer.Answer.TheVariants as told
use Rattle.ccr_service.proofs.Tellings.{cut_so, dropped_so, post_so}
use Rattle.ccr_service.proofs.tables.tell.Goals as goal

pub returns-then-contains : goal.returns-then-contains
returns-then-contains c = cut_so c.args.tables.now c.args.faults c.args.request c.in-Some.task.now (sym c.in-Some.ensures.value) (sym c.contains.ensures ∙ c.if-contains.true)

pub returns-then-contains-2 : goal.returns-then-contains-2
returns-then-contains-2 c = dropped_so c.args.tables.now c.args.faults c.args.request c.in-Some.task.now (sym c.in-Some.ensures.value) (sym c.contains.ensures ∙ c.if-contains.false) (sym c.contains-2.ensures ∙ c.if-contains-2.true)

pub returns-then-response-faults : goal.returns-then-response-faults
returns-then-response-faults c =
    let m = c.in_ok-response-in-Some-get.response in
    let port : (m.port == c.args.faults) ≡ true = grind (arith, nat_tests, c.if-response-faults.true) in
    let posted = ap (option_map (λ (x : Bor Msg). x.now)) (sym c.in-Some-get.ensures.value) in
    let told_so = post_so c.args.tables.now c.args.faults c.args.request c.in-Some.task.now (Some c.in-Some-get.message.now.now) (sym c.in-Some.ensures.value) (sym c.contains.ensures ∙ c.if-contains.false) (sym c.contains-2.ensures ∙ c.if-contains-2.false) posted in
    let here : told.Fault m ≡ (if m.port == c.args.faults then told.Fault m else told.Success m) = rw port refl in
    here ∙ ap (λ (x : Msg). if x.port == c.args.faults then told.Fault x else told.Success x) c.in_ok-response-in-Some-get.ensures ∙ told_so

pub returns-else-response-faults : goal.returns-else-response-faults
returns-else-response-faults c =
    let m = c.in_ok-response-in-Some-get.response in
    let port : (m.port == c.args.faults) ≡ false = grind (arith, nat_tests, c.if-response-faults.false) in
    let posted = ap (option_map (λ (x : Bor Msg). x.now)) (sym c.in-Some-get.ensures.value) in
    let told_so = post_so c.args.tables.now c.args.faults c.args.request c.in-Some.task.now (Some c.in-Some-get.message.now.now) (sym c.in-Some.ensures.value) (sym c.contains.ensures ∙ c.if-contains.false) (sym c.contains-2.ensures ∙ c.if-contains-2.false) posted in
    let here : told.Success m ≡ (if m.port == c.args.faults then told.Fault m else told.Success m) = rw port refl in
    here ∙ ap (λ (x : Msg). if x.port == c.args.faults then told.Fault x else told.Success x) c.in_ok-response-in-Some-get.ensures ∙ told_so

pub returns-in-None : goal.returns-in-None
returns-in-None c = post_so c.args.tables.now c.args.faults c.args.request c.in-Some.task.now None (sym c.in-Some.ensures.value) (sym c.contains.ensures ∙ c.if-contains.false) (sym c.contains-2.ensures ∙ c.if-contains-2.false) (ap (option_map (λ (x : Bor Msg). x.now)) (sym c.in-None.ensures.value))
