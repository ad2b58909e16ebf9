use Rattle.ccr_laws.proofs.OpenPosts.{post_openly}
use Rattle.ccr_laws.proofs.open.open_tasks_post_while_they_run.Goals as goal

pub returns : goal.returns
returns c = post_openly
