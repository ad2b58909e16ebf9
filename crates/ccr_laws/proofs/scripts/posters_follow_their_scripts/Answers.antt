use Rattle.ccr_laws.proofs.ScriptLines.{follow, whole}
use Rattle.ccr_laws.proofs.scripts.posters_follow_their_scripts.Goals as goal

pub returns-clause-follows : goal.returns-clause-follows
returns-clause-follows c = follow

pub returns-clause-whole : goal.returns-clause-whole
returns-clause-whole c = whole
