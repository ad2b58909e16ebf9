use Rattle.std.proofs.Common.{◌≡◌, ◌+◌, ◌≤◌, length, sum, map, drop}
use Rattle.ccr_wiring.proofs.limits.has_posts_above.Given as goal

-- those counted and those still to come are all
abbrev pub invariant-loop-poster : goal.invariant-loop-poster
invariant-loop-poster l = (l.count + sum (map (λ poster. length poster.posts) (drop l.poster-index l.posters)) ≡ sum (map (λ poster. length poster.posts) l.posters)) × (l.count ≤ l.most)
