use Rattle.std.proofs.Common.{◌≡◌, ◌++◌, take}
use Rattle.ccr_base.specs.Selection.{fitting}
use Rattle.ccr_ledger.specs.Taken.{IsLeftOf, without_some}
use Rattle.ccr_ledger.proofs.held.HeldMessages.take_some.Given as goal

abbrev pub invariant-loop : goal.invariant-loop
invariant-loop l = record {
  rest : l.self ≡ without_some l.counter l.pred l.initial.self;
  taken : l.taken.items ≡ l.initial.taken.items ++ take l.counter (fitting l.pred l.initial.self);
  left : IsLeftOf l.initial.self l.self;
}
