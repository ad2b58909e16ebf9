use Rattle.std.proofs.Common.{◌≡◌, ◌∙◌, ap, sym, subst}
use Rattle.ccr_wiring.specs.declared.parts.Parts.{Parts}
use Rattle.ccr_ledger.specs.Kept.{Keeps}
use Rattle.ccr_engine.specs.Engine.{Engine}
use Rattle.ccr_telling.specs.Tallies.{IsCounting}
use Rattle.ccr_telling.proofs.Ends.{end_of}
use Rattle.ccr_telling.proofs.ending.count_to_end.Goals as goal

pub returns : goal.returns
returns c =
    let w = c.args.wiring.now in
    let engine = c.deref_mut.result.now in
    let was = c.deref_mut.ensures.value ∙ c.in_ok-engine.ensures.engine in
    let ran = c.in_ok-finish.ensures in
    let history = c.finish.new.self.history in
    let is : c.finish.new.self.wiring ≡ w = ran.wiring ∙ ap (λ (e : Engine). e.wiring) was in
    let end = end_of w c.args.closer c.args.first history engine was ran.finished ran.legal ran.complete ran.quiet in
    let before = subst (λ (e : Engine). IsCounting e.wiring e.history c.in_ok-engine.counting.tally) (sym was) c.in_ok-engine.ensures.counting in
    let told = subst (λ (e : Engine). IsCounting e.wiring history c.finish.new.listener.tally) was (ran.heard before) in
    let kept = subst (λ (e : Engine). Keeps e.wiring e.history c.in_ok-tables.tables) c.into_inner.ensures c.in_ok-tables.ensures in
    let keeps = subst (λ (p : Parts). Keeps p history c.in_ok-tables.tables) is kept in
    record {
      history = history;
      end = end;
      counted = c.in_ok-counts.ensures history end.legal keeps told;
    }
