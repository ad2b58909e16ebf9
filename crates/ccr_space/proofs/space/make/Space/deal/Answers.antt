use Rattle.std.proofs.Common.{◌≡◌, ◌∙◌, ◌++◌, ◌∷◌, [], sym, ap, subst, List, map, append_assoc}
use Rattle.std.specs.Prelude.{All}
use Rattle.std.proofs.lemmas.List.{map-append}
use Rattle.std.proofs.lemmas.List.Elements.{All-push, All-tail}
use Rattle.ccr_turns.specs.Locks.{IsSeatOf, log_of, number_of}
use Rattle.ccr_space.specs.Spaces.{Pass, IsPassOf, log, number}
use Rattle.ccr_space.proofs.space.make.Space.deal.Goals as goal

pub loop-seat-preserved : goal.loop-seat-preserved
loop-seat-preserved c =
    let inv = c.loop-seat.invariant in
    let next = c.in-Some.ensures.steps.0 in
    let pushed = c.in_ok-push.ensures.items in
    let made = c.in_ok-pass_of.ensures in
    let old = c.loop-seat.passes.items in
    let pass = c.in_ok-pass_of.field-0 in
    let rest = c.next.new.self.rest.items in (
      All-tail (λ seat. IsSeatOf c.args.self.now.turns seat) c.in-Some.seat rest (subst (λ (l : List _). All (λ seat. IsSeatOf c.args.self.now.turns seat) l) next inv.0),
      All-tail (λ seat. log_of seat ≡ []) c.in-Some.seat rest (subst (λ (l : List _). All (λ seat. log_of seat ≡ []) l) next inv.1),
      ap (λ (l : List Pass). map number l ++ map number_of rest) pushed
          ∙ (ap (λ l. l ++ map number_of rest) (map-append number old (pass ∷ []))
          ∙ (append_assoc (map number old) (number pass ∷ []) (map number_of rest)
          ∙ (ap (λ n. map number old ++ n ∷ map number_of rest) made.number
          ∙ (ap (λ (l : List _). map number old ++ map number_of l) (sym next) ∙ inv.2)))),
      subst (λ (l : List Pass). All (λ pass. IsPassOf c.args.self.now pass) l) (sym pushed) (All-push (λ pass. IsPassOf c.args.self.now pass) old pass inv.3 made.pass),
      subst (λ (l : List Pass). All (λ pass. log pass ≡ []) l) (sym pushed) (All-push (λ pass. log pass ≡ []) old pass inv.4 made.log),
    )
