use Rattle.std.proofs.Common.{◌++◌, ◌∷◌, [], subst, sym}
use Rattle.ccr_wiring.specs.declared.parts.Parts.{Parts}
use Rattle.ccr_trace.specs.Written.{IsWritten}
use Rattle.ccr_telling.proofs.telling.TellingListener.hear.Goals as goal

pub returns : goal.returns
returns c = λ w h next told. record {
  names = told.names;
  written = subst (λ (p : Parts). IsWritten p (h ++ c.args.event.now ∷ []) c.add_event.new.text) told.names (c.in_ok-add_event.ensures.written h (subst (λ (p : Parts). IsWritten p h c.args.self.now.text) (sym told.names) told.written));
  counting = c.count.ensures w h next.valid next.closed next.tables next.legal told.counting;
}
