use Rattle.ccr_try_threads.proofs.script.Script.reply.Goals as goal

pub returns-then-settles-clause-known : goal.returns-then-settles-clause-known
returns-then-settles-clause-known g c = c.settled.ensures.known c.args.self.now.wiring.now
