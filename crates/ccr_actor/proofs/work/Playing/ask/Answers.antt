use Rattle.std.proofs.Common.{arith}
use Rattle.std.proofs.lemmas.Grind.{common_steps}
use Rattle.ccr_actor.specs.Inside.{play_of}
use Rattle.ccr_actor.proofs.Plays.{suspends}
use Rattle.ccr_actor.proofs.work.Playing.ask.Goals as goal

pub returns-in-None-clause-asked : goal.returns-in-None-clause-asked
returns-in-None-clause-asked c = grind (arith, common_steps, suspends c.args.self.now.task (play_of c.args.self.now) c.args.self.now.posts.items c.args.self.now.end)
