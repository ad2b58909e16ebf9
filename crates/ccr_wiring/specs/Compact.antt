-- What few bytes stand for.
use Rattle.std.specs.Prelude.{ℕ, [], ◌∷◌}
use Rattle.ccr_base.specs.declared.messages.Sent.{Sent}
use Rattle.ccr_wiring.specs.declared.script_posts.CompactPost.{CompactPost}
use Rattle.ccr_wiring.specs.declared.script_posts.CompactPost.TheVariants.{One, Full}

-- the post that is kept so
abbrev pub sent_kept : ℕ → CompactPost → Sent
sent_kept port (One number) = record { port = port; value = number ∷ []; causes = [] }
sent_kept port (Full sent) = sent.value
