use Rattle.std.proofs.Common.{arith, sym, subst, ap, map, List, ℕ, ◌≡◌, ◌<◌, ◌∙◌, length}
use Rattle.std.specs.Borrow.{Bor}
use Rattle.std.specs.Str.{IsUtf8}
use Rattle.ccr_words.proofs.Texts.{more_texts, more_utf8, no_texts}
use Rattle.ccr_words.proofs.parsing.texts_of.Goals as goal

pub returns-in-Err : goal.returns-in-Err
returns-in-Err c = sym (no_texts c.args.words.now c.loop-word.word-index c.word-item.result (omega arith) c.word-item.is (λ u. c.in-Err.ensures.cases.0 (subst IsUtf8 (sym c.as_slice.ensures) u)))

pub loop-word-preserved : goal.loop-word-preserved
loop-word-preserved c =
    let within : c.loop-word.word-index < length c.args.words.now = omega arith in
    let same : c.in-Ok.text.now ≡ c.word-item.result = c.in-Ok.ensures.cases.0 ∙ c.as_slice.ensures in
    let utf8 : IsUtf8 c.word-item.result = subst IsUtf8 c.as_slice.ensures c.in-Ok.ensures.cases.1 in (
      ap (map (λ (t : Bor (List ℕ)). t.now)) c.in_ok-push-in-Ok.ensures.items
          ∙ more_texts c.loop-word.texts.items c.args.words.now c.loop-word.word-index c.word-item.result c.in-Ok.text within c.word-item.is same c.loop-word.invariant.0,
      more_utf8 c.args.words.now c.loop-word.word-index c.word-item.result within c.word-item.is utf8 c.loop-word.invariant.1,
    )
