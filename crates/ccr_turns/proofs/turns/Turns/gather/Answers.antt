use Rattle.std.proofs.Common.{rules, ◌≡◌, List, [], ◌∷◌, ◌++◌, ◌∙◌, refl, sym, ap, map, Some, append_assoc}
use Rattle.std.proofs.lemmas.List.Elements.{All-pop}
use Rattle.std.proofs.lemmas.List.{nil_from_length}
use Rattle.ccr_turns.specs.Locks.{IsSeatOf, full_log}
use Rattle.ccr_turns.proofs.Acting.{at_rest}
use Rattle.ccr_turns.proofs.turns.Turns.gather.Goals as goal

pub loop-seat-init : goal.loop-seat-init
loop-seat-init g c =
    let last = c.args.last in
    let is = at_rest _ _ _ last.rests in
    (c.requires.last, ap (λ m. m.0.hold) is, ap (λ m. m.1) is, c.requires.seats, (last ∷ [], refl, ap (λ m. m.0.logs) is))

pub take_over-requires-clause-other : goal.take_over-requires-clause-other
take_over-requires-clause-other g c =
    let seat = c.in-Some.seat in
    let is = at_rest _ _ _ seat.rests in
    let good = All-pop (λ s. IsSeatOf c.args.self.now s) _ _ (Some seat) c.in-Some.ensures.items c.loop-seat.invariant.3 in
    (good.1, ap (λ m. m.0.hold) is, ap (λ m. m.1) is)

pub loop-seat-preserved : goal.loop-seat-preserved
loop-seat-preserved g c =
    let seat = c.in-Some.seat in
    let is = at_rest _ _ _ seat.rests in
    let inv = c.loop-seat.invariant in
    let good = All-pop (λ s. IsSeatOf c.args.self.now s) _ _ (Some seat) c.in-Some.ensures.items inv.3 in
    let me = c.take_over.ensures.1 in (
      c.take_over.ensures.0 ∙ inv.0,
      ap (λ m. m.0.hold) me,
      ap (λ m. m.1) me ∙ inv.2,
      good.0,
      (
        seat ∷ inv.4.0,
        inv.4.1 ∙ (ap (λ (l : List _). l ++ inv.4.0) c.in-Some.ensures.items ∙ append_assoc c.pop.new.self.items (seat ∷ []) inv.4.0),
        ap (λ m. m.0.logs) me ∙ (λ d. (is d).0.logs ++ inv.4.2 d),
      ),
    )

pub returns-clause-logs : goal.returns-clause-logs
returns-clause-logs g c =
    let inv = c.loop-seat.invariant in
    let empty : c.loop-seat.seats.items ≡ [] = nil_from_length c.loop-seat.seats.items (let a = c.in_default.ensures.cases.0 in search (rules, a)) in
    inv.4.2 ∙ ap (map full_log) (sym (inv.4.1 ∙ ap (λ (l : List _). l ++ inv.4.0) empty))
