-- What the fields of an actor stand for.
use Rattle.std.specs.Prelude.{Option, Some, None}
use Rattle.ccr_base.specs.declared.messages.Sent.{Sent}
use Rattle.ccr_base.specs.declared.tasks.How.{How}
use Rattle.ccr_base.specs.declared.names.Place.TheVariants as places
use Rattle.ccr_base.specs.declared.tasks.Task.{Task}
use Rattle.ccr_base.specs.declared.tasks.How.TheVariants as hows
use Rattle.ccr_handler.specs.declared.segments.Play.{Play}
use Rattle.ccr_handler.specs.declared.segments.PlayEnd.{PlayEnd}
use Rattle.ccr_handler.specs.declared.segments.PlayEnd.TheVariants as plays
use Rattle.ccr_wiring.specs.Wirings.{branch_of, segment_of}
use Rattle.ccr_claim.specs.declared.asks.Ask.TheVariants as asks
use Rattle.ccr_claim.specs.declared.asks.Asked.{Asked}
use Rattle.ccr_claim.specs.declared.asks.Due.{Due}
use Rattle.ccr_claim.specs.declared.asks.Due.TheVariants as dues
use Rattle.ccr_claim.specs.Asks.{due_of}
use Rattle.ccr_claim.specs.Attempts.{at_place}
use Rattle.ccr_actor.specs.declared.work.Playing.{Playing}
use Rattle.ccr_actor.specs.declared.work.Work.{Work as Works}
use Rattle.ccr_actor.specs.declared.work.Work.TheVariants as works
use Rattle.ccr_actor.specs.Actors.{Work, lines, round, taking, playing, posting, shedding, resting}

-- to say that the root of the task is over
abbrev pub over_ask : Task → How → Asked
over_ask task how = at_place (places.Arbiter task.arbiter) (asks.Over task.id task.root how)

-- how a task is over after its play, unless it is suspended
abbrev pub how_over : PlayEnd → Option How
how_over plays.Done = Some hows.Done
how_over (plays.Failed value) = Some (hows.Failed value)
how_over (plays.Yield site) = None

-- the task is suspended with the causes at the end of its play
abbrev pub suspend_ask : Task → Play → Asked
suspend_ask task play = at_place (places.Site (branch_of task.spot) (segment_of task.spot)) (asks.Suspend (record task { causes = play.causes }))

-- what the task still plays
abbrev pub play_of : Playing → Play
play_of p = record { posts = p.posts.items; end = p.end; causes = p.causes }

-- the work of one who plays
abbrev pub playing_of : Playing → Work
playing_of p = playing p.task p.index (play_of p)

-- the work of one who was given budget for this post
abbrev pub posting_of : Playing → Sent → Work
posting_of p sent = posting p.task p.index (play_of p) sent

-- what it does between drives
abbrev pub work_of : Works → Work
work_of (works.Lines l) = lines l.index l.left
work_of works.Round = round
work_of (works.Taking left queue more) = taking left queue more.now
work_of (works.Playing p) = playing_of p
work_of (works.Posting p sent) = posting_of p sent
work_of (works.Shedding task) = shedding task
work_of works.Resting = resting

-- which replies the ask that was taken out may have
abbrev pub due_taken : Option Asked → Due
due_taken None = dues.Nothing
due_taken (Some one) = due_of one.ask
