use Rattle.std.proofs.Common.{Some, ap, ap₂, codes, true, false, Bool, ◌≡◌, ◌∙◌}
use Rattle.std.proofs.lemmas.Result.{IfOk-weaker}
use Rattle.clap.specs.Words.{Rule, app_of, new_app, rule_of, with_rule}
use Rattle.clap.specs.declared.builder.command.Command.TheViews.{out-Command as fields_of}
use Rattle.clap.specs.declared.builder.action.ArgAction.TheVariants.{Set, SetTrue}
use Rattle.clap.specs.Simple.{Shape, app_of_fields, on_top}
use Rattle.clap.specs.declared.builder.command.Command.{Command}
use Rattle.clap.specs.declared.builder.arg.Arg.{Arg}
use Rattle.ccr_words.specs.Parts.{json, schedule, size, word, workers}
use Rattle.ccr_words.specs.Clap.{bare, raw_rule}
use Rattle.ccr_words.proofs.parsing.clap_command.Goals as goal

settings : (a b c d : Command) → app_of a ≡ new_app (codes "ccr") → fields_of b ≡ record (fields_of a) { no_binary_name = true } → fields_of c ≡ record (fields_of b) { disable_help_flag = true }
    → fields_of d ≡ record (fields_of c) { disable_version_flag = true } → app_of d ≡ bare
settings a b c d start first second third =
    ap app_of_fields third
    ∙ ap (on_top (λ (s : Shape). record s { disable_version_flag = true })) (ap app_of_fields second
    ∙ ap (on_top (λ (s : Shape). record s { disable_help_flag = true })) (ap app_of_fields first
    ∙ ap (on_top (λ (s : Shape). record s { no_binary_name = true })) start))

pub returns : goal.returns
returns c =
    let set : Rule → Rule = λ r. record r { action = Some Set } in
    let set_true : Rule → Rule = λ r. record r { action = Some SetTrue } in
    let word_is : rule_of c.action-word.result ≡ raw_rule word =
    ap rule_of c.action-word.ensures ∙ ap set (ap rule_of c.required.ensures ∙ ap (λ (r : Rule). record r { required = true }) c.new.ensures.rule) in
    let workers_is : rule_of c.action-workers.result ≡ raw_rule workers =
    ap rule_of c.action-workers.ensures ∙ ap set (ap rule_of c.long.ensures ∙ ap (λ (r : Rule). record r { long = Some (codes "workers") }) c.new-2.ensures.rule) in
    let size_is : rule_of c.action-size.result ≡ raw_rule size =
    ap rule_of c.action-size.ensures ∙ ap set (ap rule_of c.long-2.ensures ∙ ap (λ (r : Rule). record r { long = Some (codes "size") }) c.new-3.ensures.rule) in
    let schedule_is : rule_of c.action-schedule.result ≡ raw_rule schedule =
    ap rule_of c.action-schedule.ensures ∙ ap set_true (ap rule_of c.long-3.ensures ∙ ap (λ (r : Rule). record r { long = Some (codes "schedule") }) c.new-4.ensures.rule) in
    let json_is : rule_of c.action-json.result ≡ raw_rule json =
    ap rule_of c.action-json.ensures ∙ ap set_true (ap rule_of c.long-4.ensures ∙ ap (λ (r : Rule). record r { long = Some (codes "json") }) c.new-5.ensures.rule) in
    let local : Arg → Bool = λ a. a.global in
    let word_local : c.action-word.result.global ≡ false = ap local c.action-word.ensures ∙ ap local c.required.ensures ∙ c.new.ensures.optional.1 in
    let workers_local : c.action-workers.result.global ≡ false = ap local c.action-workers.ensures ∙ ap local c.long.ensures ∙ c.new-2.ensures.optional.1 in
    let size_local : c.action-size.result.global ≡ false = ap local c.action-size.ensures ∙ ap local c.long-2.ensures ∙ c.new-3.ensures.optional.1 in
    let schedule_local : c.action-schedule.result.global ≡ false = ap local c.action-schedule.ensures ∙ ap local c.long-3.ensures ∙ c.new-4.ensures.optional.1 in
    let json_local : c.action-json.result.global ≡ false = ap local c.action-json.ensures ∙ ap local c.long-4.ensures ∙ c.new-5.ensures.optional.1 in
    let bare_is : app_of c.disable_version_flag-command.result ≡ bare = settings _ _ _ _ c.new-6.ensures.app c.no_binary_name.ensures c.disable_help_flag.ensures c.disable_version_flag-command.ensures in
    let first = c.in_ok-arg.ensures.shape word_local ∙ ap₂ with_rule bare_is word_is in
    let second = c.in_ok-arg-2.ensures.shape workers_local ∙ ap₂ with_rule first workers_is in
    let third = c.in_ok-arg-3.ensures.shape size_local ∙ ap₂ with_rule second size_is in
    let fourth = c.in_ok-arg-4.ensures.shape schedule_local ∙ ap₂ with_rule third schedule_is in
    IfOk-weaker c.arg-5.result _ _ (λ r h. h.shape json_local ∙ ap₂ with_rule fourth json_is) c.arg-5.ensures
