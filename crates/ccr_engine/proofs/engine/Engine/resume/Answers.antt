use Rattle.ccr_engine.proofs.Runs.{IsSound-resume}
use Rattle.ccr_engine.proofs.engine.Engine.resume.Goals as goal

pub behind-requires : goal.behind-requires
behind-requires c = IsSound-resume c.args.wiring.now c.args.closer c.args.events.now c.parts.ensures.valid c.requires.closed c.requires.no_poster c.requires.low c.requires.legal c.requires.attempts
