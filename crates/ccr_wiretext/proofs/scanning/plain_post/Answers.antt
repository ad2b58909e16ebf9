use Rattle.std.proofs.Common.{◌≡◌, ◌∙◌, List, [], Bor, Option, Some, sym, ap}
use Rattle.std.specs.Option.{option_map_or}
use Rattle.std.specs.Prelude.{ℕ}
use Rattle.ccr_text.specs.Exact.{number_first, parts}
use Rattle.ccr_wiretext.proofs.PlainPosts.{post_found}
use Rattle.ccr_wiretext.proofs.scanning.plain_post.Goals as goal

pub returns : goal.returns
returns c =
    let number : number_first (parts 10 c.in_ok-port.numbers.now) ≡ Some (c.in_ok-number.number, parts 10 c.in_ok-behind.field-0.now) = sym c.in_ok-number.ensures ∙ ap (λ (behind : Option (Bor (List ℕ))). Some (c.in_ok-number.number, option_map_or (λ rest. parts 10 rest.now) behind [])) c.in_ok-behind.was in
    let found = post_found c.args.text.now c.unindented.result.now c.in_ok-words.words.now c.in_ok-port.port.now c.in_ok-port.numbers.now c.in_ok-behind.field-0.now c.in_ok-number.number c.unindented.ensures c.in_ok-words.ensures c.in_ok-port.ensures.parts c.in_ok-port.ensures.graphic c.in_ok-port.ensures.some number in
    record { digits = found.0; spelled = found.1; words = found.2; clean = found.3; lines = found.4; shorter = found.5 }
