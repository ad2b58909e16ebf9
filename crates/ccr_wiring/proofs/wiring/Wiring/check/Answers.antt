use Rattle.std.proofs.Common.{sym, ◌∙◌}
use Rattle.ccr_wiring.proofs.wiring.Wiring.check.Goals as goal

pub of_valid-requires : goal.of_valid-requires
of_valid-requires c = sym c.in_ok-code.ensures ∙ c.in-None.is
