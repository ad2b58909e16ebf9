use Rattle.std.proofs.Common.{map, arith}
use Rattle.std.proofs.lemmas.Grind.{common_steps}
use Rattle.ccr_text.proofs.Spacing.{line_spaced}
use Rattle.ccr_text.proofs.writing.put_words.Goals as goal

pub returns-in_ok-put_bytes-in-Some-clause-ok : goal.returns-in_ok-put_bytes-in-Some-clause-ok
returns-in_ok-put_bytes-in-Some-clause-ok c =
    let line = line_spaced c.in-Some.first.now.now (map (λ word. word.now) c.in-Some.others.now) in
    grind (arith, common_steps, line)
