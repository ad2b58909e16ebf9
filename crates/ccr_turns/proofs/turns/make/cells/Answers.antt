use Rattle.std.proofs.Common.{◌+◌, ◌≤◌, ◌++◌, ◌∷◌, [], ◌∙◌, List, length, length-append, append_assoc, ap, sym, subst, refl}
use Rattle.std.proofs.Common.{Some}
use Rattle.std.specs.List.{AllZip}
use Rattle.ccr_turns.specs.Seated.{IsLaid}
use Rattle.ccr_turns.specs.declared.history.Cell.{Cell}
use Rattle.ccr_turns.proofs.Rows.{zip_more}
use Rattle.ccr_turns.proofs.turns.make.cells.Goals as goal

pub loop-object-preserved : goal.loop-object-preserved
loop-object-preserved g c =
    let inv = c.loop-object.invariant in
    let object = c.in-Some.object in
    let cell : Cell _ _ = record { keep = c.args.keep; object = object; seen = c.new.result; last = 0; count = 0; history = c.none.result } in (
      inv.0 ∙ (ap (λ (l : List _). c.loop-object.yielded ++ l) c.in-Some.ensures.steps.0 ∙ sym (append_assoc c.loop-object.yielded (object ∷ []) c.next.new.self.rest.items)),
      c.push_reserved.ensures.len ∙ (ap (λ n. n + 1) inv.1 ∙ sym (length-append c.loop-object.yielded (object ∷ []))),
      subst (λ n. length c.args.objects.items ≤ n) (sym c.push_reserved.ensures.capacity) inv.2,
      subst (λ (l : List _). AllZip (IsLaid c.args.keep) (c.loop-object.yielded ++ object ∷ []) l) (sym c.push_reserved.ensures.items)
          (zip_more (IsLaid c.args.keep) c.loop-object.yielded c.loop-object.slots.items object (Some cell) inv.3 (cell, refl, refl, c.none.ensures, c.new.ensures.items, refl, refl, refl)),
    )
