use Rattle.std.proofs.Common.{◌≡◌, ◌+◌, ◌≤◌, [], ◌∷◌, ◌++◌, ◌∙◌, map, sym, ap, subst}
use Rattle.std.proofs.Common.{List}
use Rattle.std.proofs.lemmas.List.{map-append}
use Rattle.std.proofs.lemmas.List.Elements.{All-same, All-push}
use Rattle.ccr_turns.specs.declared.turns.Seat.{Seat}
use Rattle.ccr_turns.specs.Locks.{IsSeatOf, number_of, log_of}
use Rattle.ccr_turns.proofs.Rows.{range-more}
use Rattle.ccr_turns.proofs.Ends.{next_fresh, after_cut}
use Rattle.ccr_turns.proofs.turns.Turns.deal.Goals as goal

pub seat-requires-clause-first : goal.seat-requires-clause-first
seat-requires-clause-first g c =
    let inv = c.loop-number.invariant in
    next_fresh _ inv.1.0 _ _ inv.1.1 c.loop-number-test.true inv.1.2

pub loop-number-preserved : goal.loop-number-preserved
loop-number-preserved g c =
    let inv = c.loop-number.invariant in
    let seat = c.seat.result in
    let new = c.seat.ensures.new in
    let dealt : List (Seat _ _ _ _ _ _) = c.loop-number.dealt.items in
    let items = c.push_reserved.ensures.items in (
      c.seat.ensures.old.0 ∙ inv.0,
      after_cut _ inv.1.0 _ _ _ inv.1.1 c.loop-number-test.true inv.1.2 c.seat.ensures.old.1,
      c.push_reserved.ensures.len ∙ ap (λ n. n + 1) inv.2,
      subst (λ n. c.args.seats ≤ n) (sym c.push_reserved.ensures.capacity) inv.3,
      All-same (λ s. IsSeatOf c.args.self.now s) _ _ items (All-push (λ s. IsSeatOf c.args.self.now s) dealt seat inv.4 new.0),
      ap (map number_of) items ∙ (map-append number_of dealt (seat ∷ []) ∙ ((λ d. inv.5 d ++ new.1 d ∷ []) ∙ sym (range-more c.loop-number.number))),
      All-same (λ s. log_of s ≡ []) _ _ items (All-push (λ s. log_of s ≡ []) dealt seat inv.6 new.2),
    )
