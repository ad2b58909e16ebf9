use Rattle.ccr_gen.proofs.PostsNeverGrow.{few_posts, never_shed}
use Rattle.ccr_gen.proofs.laws.generated_wirings_never_shed.Goals as goal

pub returns-clause-posts : goal.returns-clause-posts
returns-clause-posts c = few_posts

pub returns-clause-unshed : goal.returns-clause-unshed
returns-clause-unshed c = never_shed
