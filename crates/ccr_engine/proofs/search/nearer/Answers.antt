use Rattle.std.proofs.Common.{◌∙◌, ℕ, Option, ap, sym}
use Rattle.std.proofs.lemmas.Bool.{and_from, and_left, and_right}
use Rattle.ccr_engine.specs.Blocked.{is_before}
use Rattle.ccr_engine.proofs.Searching.{open_none, open_nearer, open_passed}
use Rattle.ccr_engine.proofs.search.nearer.Goals.{else-is_before-via-then-is_before+else-has_room, else-is_before-via-else-is_before}
use Rattle.ccr_engine.proofs.search.nearer.Goals as goal

pub returns-in_default : goal.returns-in_default
returns-in_default c = open_none c.args.wiring.now c.args.ledger.now c.args.blocked.now c.requires.blocked c.args.queue c.args.found c.requires.so_far (sym c.first.ensures ∙ c.in_default.is)

pub returns-then-has_room : goal.returns-then-has_room
returns-then-has_room c = open_nearer c.args.wiring.now c.args.ledger.now c.args.blocked.now c.requires.blocked c.args.queue c.args.found c.requires.so_far c.in-Some.index (sym c.first.ensures ∙ c.in-Some.is) (and_from _ _ (ap (λ (o : Option ℕ). is_before o c.in-Some.index) (sym c.index_of.ensures) ∙ (sym c.is_before.ensures ∙ c.if-is_before.true)) (sym c.has_room.ensures ∙ c.if-has_room.true))

pub returns-else-is_before : goal.returns-else-is_before
returns-else-is_before c = open_passed c.args.wiring.now c.args.ledger.now c.args.blocked.now c.requires.blocked c.args.queue c.args.found c.requires.so_far c.in-Some.index (sym c.first.ensures ∙ c.in-Some.is) (elim c.else-is_before.branch [ else-is_before-via-then-is_before+else-has_room x ↦ and_right _ _ (sym x.has_room.ensures ∙ x.if-has_room.false) | else-is_before-via-else-is_before x ↦ and_left _ _ (ap (λ (o : Option ℕ). is_before o c.in-Some.index) (sym c.index_of.ensures) ∙ (sym c.is_before.ensures ∙ x.if-is_before.false)) ])
