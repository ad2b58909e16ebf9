use Rattle.std.proofs.Common.{◌≡◌, ◌≤◌, ◌+◌, [], ◌∷◌, ◌++◌, length, take, slice_set, sym, ◌∙◌, arith}
use Rattle.std.proofs.lemmas.Grind.{common_steps}
use Rattle.ccr_trace.proofs.Firsts.{several_more, several_fails, several_full, several_end}
use Rattle.ccr_trace.proofs.fields.several_of.Goals as goal

-- one number more than there may be
pub returns-then-count-eq-MAX_VALUE_NUMBERS : goal.returns-then-count-eq-MAX_VALUE_NUMBERS
returns-then-count-eq-MAX_VALUE_NUMBERS c =
    let found = take c.parts.count c.parts.numbers in
    let full : length found ≡ 8 = grind (arith, common_steps, c.if-count-eq-MAX_VALUE_NUMBERS.true, c.parts.invariant.room) in
    sym (several_full 8 found c.parts.parts c.args.word.now (sym c.is_empty.ensures ∙ c.parts-test.true) full c.parts.invariant.read)

-- a piece that is no number
pub returns-in_err-numbers : goal.returns-in_err-numbers
returns-in_err-numbers c =
    c.from_residual.ensures ∙ sym (several_fails 8 (take c.parts.count c.parts.numbers) c.parts.parts c.args.word.now (sym c.is_empty.ensures ∙ c.parts-test.true) c.in_err-numbers.ensures.none c.parts.invariant.read)

-- one number more
pub parts-preserved : goal.parts-preserved
parts-preserved c =
    let found = take c.parts.count c.parts.numbers in
    let number = c.in_ok-numbers.field-0 in
    let taken : take (c.parts.count + 1) (slice_set c.parts.numbers c.parts.count number) ≡ found ++ number ∷ [] = grind (arith, common_steps, c.if-count-eq-MAX_VALUE_NUMBERS.false, c.parts.invariant.room, c.parts.invariant.few) in
    record {
      read = rw taken (several_more found c.parts.parts c.number.new.self c.args.word.now number c.in_ok-numbers.ensures.some c.parts.invariant.read);
      few = grind (arith, common_steps, c.if-count-eq-MAX_VALUE_NUMBERS.false, c.parts.invariant.few);
      room = grind (arith, common_steps, c.parts.invariant.room);
    }

-- no piece is left
pub returns : goal.returns
returns c =
    let found = take c.parts.count c.parts.numbers in
    let few : length found ≤ 8 = grind (arith, common_steps, c.parts.invariant.few, c.parts.invariant.room) in
    grind (arith, common_steps, c.parts.invariant.few, c.parts.invariant.room, several_end found c.parts.parts c.args.word.now (sym c.is_empty.ensures ∙ c.parts-test.false) few c.parts.invariant.read)
