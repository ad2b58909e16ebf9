use Rattle.std.proofs.Common.{◌≡◌, ◌+◌, length, map, drop}
use Rattle.std.specs.Prelude.{nat_lt, sum}
use Rattle.ccr_wiring.specs.declared.parts.PosterPart.{PosterPart}
use Rattle.ccr_wiretext.proofs.forms.has_post_room.Given as goal

-- the room that is left is for the posters that are left
abbrev pub invariant-loop-poster : goal.invariant-loop-poster
invariant-loop-poster l =
    nat_lt (sum (map (λ (poster : PosterPart). length poster.posts) (drop l.poster-index l.posters)) + l.begun) l.left
    ≡ nat_lt (sum (map (λ (poster : PosterPart). length poster.posts) l.posters) + l.begun) 10000
