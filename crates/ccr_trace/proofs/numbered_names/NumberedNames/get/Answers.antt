use Rattle.std.proofs.Common.{◌≡◌, ◌∙◌, ap, arith}
use Rattle.std.proofs.lemmas.Grind.{common_steps}
use Rattle.ccr_trace.specs.Known.{number_in}
use Rattle.ccr_trace.proofs.Numbered.{number-seen}
use Rattle.ccr_trace.proofs.numbered_names.NumberedNames.get.Goals as goal

pub returns-in_err-number : goal.returns-in_err-number
returns-in_err-number c =
    let whole : c.get_index_of.result ≡ number_in c.args.self.now c.args.name.now = c.get_index_of.ensures.index ∙ number-seen c.self.inside.names.keys c.args.name.now ∙ ap (λ names. number_in names c.args.name.now) c.self.view_is in
    grind (arith, common_steps, whole)

pub returns : goal.returns
returns c =
    let whole : c.get_index_of.result ≡ number_in c.args.self.now c.args.name.now = c.get_index_of.ensures.index ∙ number-seen c.self.inside.names.keys c.args.name.now ∙ ap (λ names. number_in names c.args.name.now) c.self.view_is in
    grind (arith, common_steps, whole)
