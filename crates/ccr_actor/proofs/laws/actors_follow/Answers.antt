use Rattle.ccr_actor.proofs.ActorsFollowTheirSteps.{follows_started, follows_proper, follows_reply, follows_refusal, follows_long, follows_rest, follows_settling}
use Rattle.ccr_actor.proofs.laws.actors_follow.Goals as goal

pub returns-clause-start : goal.returns-clause-start
returns-clause-start c = follows_started

pub returns-clause-proper : goal.returns-clause-proper
returns-clause-proper c = follows_proper

pub returns-clause-reply : goal.returns-clause-reply
returns-clause-reply c = follows_reply

pub returns-clause-refusal : goal.returns-clause-refusal
returns-clause-refusal c = follows_refusal

pub returns-clause-long : goal.returns-clause-long
returns-clause-long c = follows_long

pub returns-clause-rest : goal.returns-clause-rest
returns-clause-rest c = follows_rest

pub returns-clause-short : goal.returns-clause-short
returns-clause-short c = follows_settling
