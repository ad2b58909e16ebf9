use Rattle.std.proofs.Common.{◌≡◌, ◌+◌, ◌∷◌, [], ◌∙◌, Err, List, ℕ, length, refl, sym, ap, subst, arith}
use Rattle.ccr_trace.specs.declared.reading.ReadHistory.{ReadHistory}
use Rattle.ccr_trace.specs.Answers.{IsReading}
use Rattle.ccr_trace.specs.EventReaders.{Reader, HasRead, HasReadAll, reading_of}
use Rattle.ccr_trace.specs.Reading.{ended, reading_from}
use Rattle.ccr_trace.proofs.LineSteps.{reading_none, reading_last, reading_done, reading_next, stopped, end_answered}
use Rattle.ccr_trace.proofs.event_reader.EventReader.next.Goals as goal

pub returns-in_default-clause-refused : goal.returns-in_default-clause-refused
returns-in_default-clause-refused c =
    let so_far : ReadHistory = record { history = c.self.inside.read; rest = c.self.inside.rest; lines = c.self.inside.lines } in
    let none : c.self.inside.left ≡ [] = c.in_default.ensures.none in
    let reads = ap (λ (lines : List (List ℕ)). reading_from c.self.inside.known so_far lines) none ∙ reading_none c.self.inside.known so_far in
    subst (λ (r : Reader). IsReading (Err c.ended.result) (reading_of r)) c.self.view_is (end_answered c.ended.result (ended c.self.inside.lines []) _ c.ended.ensures reads)

pub returns-then-is_empty-clause-refused : goal.returns-then-is_empty-clause-refused
returns-then-is_empty-clause-refused c =
    let so_far : ReadHistory = record { history = c.self.inside.read; rest = c.self.inside.rest; lines = c.self.inside.lines } in
    let line = c.in-Some.line.now in
    let some : c.self.inside.left ≡ line ∷ c.take.new.self = c.in-Some.ensures.some in
    let reads = ap (λ (lines : List (List ℕ)). reading_from c.self.inside.known so_far lines) some ∙ reading_last c.self.inside.known so_far line c.take.new.self (sym c.is_empty.ensures ∙ c.if-is_empty.true) in
    subst (λ (r : Reader). IsReading (Err c.ended-then-is_empty.result) (reading_of r)) c.self.view_is (end_answered c.ended-then-is_empty.result (ended c.self.inside.lines line) _ c.ended-then-is_empty.ensures reads)

pub returns-then-is_text-clause-none : goal.returns-then-is_text-clause-none
returns-then-is_text-clause-none c =
    let so_far : ReadHistory = record { history = c.self.inside.read; rest = c.self.inside.rest; lines = c.self.inside.lines } in
    let line = c.in-Some.line.now in
    let some : c.self.inside.left ≡ line ∷ c.take.new.self = c.in-Some.ensures.some in
    let reads = ap (λ (lines : List (List ℕ)). reading_from c.self.inside.known so_far lines) some ∙ reading_done c.self.inside.known so_far line c.take.new.self (sym c.is_empty.ensures ∙ c.if-is_empty.false) (sym c.is_text.ensures ∙ c.if-is_text.true) in
    let new : Reader = record { wiring = c.self.inside.known; so_far = so_far; left = c.take.new.self } in
    subst (λ (r : Reader). HasReadAll r new) c.self.view_is (record { wiring = refl; so_far = refl; reads = reads })

pub returns-in_ok-push-in-Ok-clause-some : goal.returns-in_ok-push-in-Ok-clause-some
returns-in_ok-push-in-Ok-clause-some c =
    let so_far : ReadHistory = record { history = c.self.inside.read; rest = c.self.inside.rest; lines = c.self.inside.lines } in
    let line = c.in-Some.line.now in
    let rest = c.take.new.self in
    let some : c.self.inside.left ≡ line ∷ rest = c.in-Some.ensures.some in
    let step = reading_next c.self.inside.known so_far line rest c.in-Ok.event (sym c.is_empty.ensures ∙ c.if-is_empty.false) (sym c.is_text.ensures ∙ c.if-is_text.false) c.in-Ok.ensures in
    let reads = ap (λ (lines : List (List ℕ)). reading_from c.self.inside.known so_far lines) some ∙ step in
    let more : ReadHistory = record { history = c.push.new.self; rest = c.self.inside.rest + (length line + 1); lines = c.self.inside.lines + 1 } in
    let new : Reader = record { wiring = c.self.inside.known; so_far = more; left = rest } in
    subst (λ (r : Reader). HasRead r c.in-Ok.event new) c.self.view_is (record {
      wiring = refl;
      history = c.in_ok-push-in-Ok.ensures.ok;
      reads = rw c.in_ok-push-in-Ok.ensures.ok (sym reads);
      fewer = rw some (omega arith);
    })

pub returns-in-Err-clause-refused : goal.returns-in-Err-clause-refused
returns-in-Err-clause-refused c =
    let so_far : ReadHistory = record { history = c.self.inside.read; rest = c.self.inside.rest; lines = c.self.inside.lines } in
    let line = c.in-Some.line.now in
    let rest = c.take.new.self in
    let some : c.self.inside.left ≡ line ∷ rest = c.in-Some.ensures.some in
    subst (λ (r : Reader). IsReading (Err c.refused.result) (reading_of r)) c.self.view_is
    (rw c.refused.ensures
    (stopped c.self.inside.known so_far line rest c.in-Err.stop _ (sym c.is_empty.ensures ∙ c.if-is_empty.false) (sym c.is_text.ensures ∙ c.if-is_text.false) c.in-Err.ensures
    (ap (λ (lines : List (List ℕ)). reading_from c.self.inside.known so_far lines) (sym some))))
