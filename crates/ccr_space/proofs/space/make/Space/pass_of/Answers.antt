use Rattle.std.proofs.Common.{[], sym, subst}
use Rattle.ccr_runs.specs.Runs.{IsProper}
use Rattle.ccr_turns.specs.Locks.{number_of}
use Rattle.ccr_runs.specs.Played.{protocol}
use Rattle.ccr_runs.specs.EntryRuns.{never}
use Rattle.ccr_space.specs.Spaces.{wiring_of}
use Rattle.ccr_space.proofs.Dealing.{begun}
use Rattle.ccr_space.proofs.space.make.Space.pass_of.Goals as goal

pub returns-clause-pass : goal.returns-clause-pass
returns-clause-pass c =
    let w = wiring_of c.args.self.now in
    let k = number_of c.args.seat in
    record {
      seat = c.requires.seat;
      proper = subst (IsProper (protocol w never) (record { actor = k; given = [] }) 0) (sym c.requires.log) tt;
      going = λ on. begun w k c.number.result _ c.in_ok-actor.actor c.requires.log c.in_ok-actor.ensures.started c.number.ensures;
    }
