use Rattle.std.proofs.Common.{◌≡◌, ◌∙◌, [], Some, sym, arith}
use Rattle.std.specs.Option.{option_map_or}
use Rattle.ccr_trace.specs.Pieces.{pieces}
use Rattle.ccr_trace.specs.Fields.{exact_number}
use Rattle.ccr_trace.specs.Forms.{field}
use Rattle.ccr_trace.proofs.Firsts.{number_field, field_short}
use Rattle.ccr_trace.proofs.scanning.short_before.Goals as goal

pub returns : goal.returns
returns c =
    let words = pieces c.args.separator c.args.bytes.now in
    let first : field exact_number words ≡ Some (c.in_ok-number.number, option_map_or (λ rest. pieces c.args.separator rest.now) c.in_ok-number.rest []) = sym (c.in_ok-number.ensures ∙ number_field words) in
    field_short words _ c.in_ok-number.number first (omega arith)
