use Rattle.std.proofs.Common.{◌≡◌, ◌∷◌, [], ◌∙◌, List, ℕ, sym, ap, arith}
use Rattle.ccr_trace.specs.Reading.{ended, reading_lines}
use Rattle.ccr_trace.proofs.LineSteps.{lines_none, lines_last, lines_next, lines_stop, end_answered, bytes_more}
use Rattle.ccr_trace.proofs.event_reader.take_first.Goals as goal

pub returns-in_default-clause-refused : goal.returns-in_default-clause-refused
returns-in_default-clause-refused c =
    end_answered c.ended.result (ended 0 []) (reading_lines c.args.parts.now c.args.lines.now) c.ended.ensures
    (ap (λ (lines : List (List ℕ)). reading_lines c.args.parts.now lines) c.in_default.ensures.none ∙ lines_none c.args.parts.now)

pub returns-then-is_empty-clause-refused : goal.returns-then-is_empty-clause-refused
returns-then-is_empty-clause-refused c =
    let some : c.args.lines.now ≡ c.in-Some.first.now ∷ c.take.new.self = c.in-Some.ensures.some in
    end_answered c.ended-then-is_empty.result (ended 0 c.in-Some.first.now) (reading_lines c.args.parts.now c.args.lines.now) c.ended-then-is_empty.ensures
    (ap (λ (lines : List (List ℕ)). reading_lines c.args.parts.now lines) some ∙ lines_last c.args.parts.now c.in-Some.first.now c.take.new.self (sym c.is_empty.ensures ∙ c.if-is_empty.true))

pub returns-then-not-is_first_line-clause-refused : goal.returns-then-not-is_first_line-clause-refused
returns-then-not-is_first_line-clause-refused c =
    let some : c.args.lines.now ≡ c.in-Some.first.now ∷ c.take.new.self = c.in-Some.ensures.some in
    rw c.refusal_at.ensures (ap (λ (lines : List (List ℕ)). reading_lines c.args.parts.now lines) some ∙ lines_stop c.args.parts.now c.in-Some.first.now c.take.new.self (sym c.is_empty.ensures ∙ c.if-is_empty.false) (sym c.is_first_line.ensures ∙ c.if-not-is_first_line.true))

pub returns-clause-events : goal.returns-clause-events
returns-clause-events c =
    let some : c.args.lines.now ≡ c.in-Some.first.now ∷ c.take.new.self = c.in-Some.ensures.some in
    ap (λ (lines : List (List ℕ)). reading_lines c.args.parts.now lines) some ∙ lines_next c.args.parts.now c.in-Some.first.now c.take.new.self (sym c.is_empty.ensures ∙ c.if-is_empty.false) (sym c.is_first_line.ensures ∙ c.if-not-is_first_line.false)

pub returns-clause-room : goal.returns-clause-room
returns-clause-room c =
    let some : c.args.lines.now ≡ c.in-Some.first.now ∷ c.take.new.self = c.in-Some.ensures.some in
    rw some (omega (arith, bytes_more c.in-Some.first.now c.take.new.self))
