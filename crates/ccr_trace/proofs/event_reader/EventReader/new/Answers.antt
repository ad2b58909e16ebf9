use Rattle.std.proofs.Common.{◌≤◌, refl, arith}
use Rattle.ccr_trace.specs.Pieces.{pieces, bytes_in}
use Rattle.ccr_trace.proofs.LineSteps.{bytes-pieces}
use Rattle.ccr_trace.proofs.event_reader.EventReader.new.Goals as goal

pub invariant_of-result : goal.invariant_of-result
invariant_of-result c =
    let room : bytes_in c.take_first.new.lines ≤ bytes_in (pieces 10 c.args.text.now) = rw (← c.new-left.ensures) c.in_ok-take_first.ensures.room in
    record {
      room = omega (arith, room, bytes-pieces 10 c.args.text.now, c.requires);
      few = omega arith;
      lines = rw c.new-2.ensures refl;
    }
