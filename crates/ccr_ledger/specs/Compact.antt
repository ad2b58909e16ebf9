-- What few bytes stand for.
use Rattle.std.specs.Prelude.{ℕ, List, [], ◌∷◌}
use Rattle.ccr_base.specs.declared.messages.Sent.{Sent}
use Rattle.ccr_handler.specs.declared.segments.Play.{Play}
use Rattle.ccr_handler.specs.declared.segments.PlayEnd.TheVariants.{Done}
use Rattle.ccr_ledger.specs.declared.kept_values.CompactValues.{CompactValues}
use Rattle.ccr_ledger.specs.declared.kept_values.CompactValues.TheVariants.{One as OneValue, More}
use Rattle.ccr_ledger.specs.declared.kept_plays.CompactPlay.{CompactPlay}
use Rattle.ccr_ledger.specs.declared.kept_plays.CompactPlay.TheVariants.{Idle, One, Full}
use Rattle.ccr_ledger.specs.declared.kept_plays.PostOf.{PostOf}

-- the values that are kept so
abbrev pub values_kept : CompactValues → List (List ℕ)
values_kept (OneValue number) = (number ∷ []) ∷ []
values_kept (More values) = values.value

-- the play that is kept so
abbrev pub play_kept : CompactPlay → Play
play_kept Idle = record { posts = []; end = Done; causes = [] }
play_kept (One number port) = record { posts = record { port = port; value = number ∷ []; causes = [] } ∷ []; end = Done; causes = [] }
play_kept (Full play) = play.value

-- the post as a handler sends it
abbrev pub sent_of : PostOf → Sent
sent_of post = record { port = post.port; value = post.value; causes = post.causes.now }
