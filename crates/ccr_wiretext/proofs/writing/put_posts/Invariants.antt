use Rattle.std.proofs.Common.{map}
use Rattle.ccr_wiretext.specs.Spelling.{post_words}
use Rattle.ccr_wiretext.specs.Values.{IsValue}
use Rattle.ccr_wiretext.proofs.PartsPut.{AreLinesPut}
use Rattle.ccr_wiretext.proofs.writing.put_posts.Given as goal

-- the posts so far are written
abbrev pub invariant-loop-post : goal.invariant-loop-post
invariant-loop-post l = AreLinesPut (map (post_words l.parts)) (λ post. IsValue post.value) l.posts l.post-index l.fn.out.items l.out.items
