use Rattle.std.proofs.Common.{ap, ◌∙◌}
use Rattle.ccr_json.specs.Lines.{is_plain}
use Rattle.ccr_json.proofs.Phrases.{arbiter_plain}
use Rattle.ccr_json.proofs.values.member_value.Goals as goal

pub text_value-requires : goal.text_value-requires
text_value-requires c = ap is_plain c.arbiter_name.ensures ∙ arbiter_plain c.args.parts.now c.args.arbiter c.requires
