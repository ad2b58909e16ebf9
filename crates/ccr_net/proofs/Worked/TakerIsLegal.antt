-- The history of the run in which a worker takes is legal by the theorem too.
use Rattle.std.proofs.Common.{arith}
use Rattle.ccr_model.specs.Legal.{IsLegal}
use Rattle.ccr_runs.specs.Visible.{visible}
use Rattle.ccr_net.proofs.Kept.RunsAreLegal.{visible_legal}
use Rattle.ccr_net.proofs.Worked.Taker.{net, run, is_run, is_valid}

pub legal_by_theorem : IsLegal net (visible run)
legal_by_theorem = visible_legal net 1 run is_valid (omega arith) is_run
