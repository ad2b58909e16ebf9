use Rattle.std.proofs.Common.{◌≡◌, ◌≤◌, ℕ, List, length, get_or, Some, None, refl, sym, ap, subst, arith}
use Rattle.std.specs.List.{slice_get}
use Rattle.std.specs.Option.{option_map_or}
use Rattle.std.proofs.lemmas.Grind.{common_steps}
use Rattle.std.proofs.lemmas.List.Sums.{get_or-le-sum_by, sum-map}
use Rattle.std.proofs.lemmas.Option.{get_or_from_slice_get, slice_get_past, slice_get_read, slice_get_within}
use Rattle.ccr_wiring.specs.declared.parts.PosterPart.{PosterPart}
use Rattle.ccr_wiring.specs.Limits.{posts_in_all}
use Rattle.ccr_wiring.proofs.Soundness.{sound}
use Rattle.ccr_claim.specs.Lines.{LinesLeft}
use Rattle.ccr_actor.specs.Actors.{lines, round}
use Rattle.ccr_actor.proofs.actor.first_work.Goals as goal

-- the posts of one script are among all posts
of-all : (posters : List PosterPart) (k : ℕ) (poster : PosterPart) → slice_get posters k ≡ Some poster → length poster.posts ≤ posts_in_all posters
of-all posters k poster at =
    let f : PosterPart → ℕ = λ p. length p.posts in
    let few = get_or-le-sum_by f posters k poster (slice_get_within posters k poster at) in
    let is : get_or posters k poster ≡ poster = get_or_from_slice_get posters k poster poster at in
    let same = ap f is in
    let all = sum-map f posters in
    omega (arith, few, same, all)

pub returns-in-Some-clause-counted : goal.returns-in-Some-clause-counted
returns-in-Some-clause-counted c =
    let w = c.args.wiring.now in
    let are : c.as_slice.result.now ≡ w.posters = grind (arith, common_steps) in
    let there : slice_get c.as_slice.result.now c.args.number ≡ Some c.in-Some.poster.now = slice_get_read c.as_slice.result.now (length c.as_slice.result.now) c.args.number c.in-Some.poster.now refl c.in-Some.ensures.lookup.3.0 c.in-Some.ensures.lookup.1 in
    let few = of-all w.posters c.args.number c.in-Some.poster.now (subst (λ posters. slice_get posters c.args.number ≡ Some c.in-Some.poster.now) are there) in
    let limit : posts_in_all w.posters ≤ 10000 = (sound w c.parts.ensures.valid).small.posts in
    let posts = ap length c.as_slice-in-Some.ensures in
    let index = ap (λ (l : LinesLeft). l.index) c.of.ensures in
    let left = ap (λ (l : LinesLeft). length l.left) c.of.ensures in
    omega (arith, few, limit, posts, index, left)

pub returns-in-None-clause-work : goal.returns-in-None-clause-work
returns-in-None-clause-work c =
    let w = c.args.wiring.now in
    let are : c.as_slice.result.now ≡ w.posters = grind (arith, common_steps) in
    let gone : slice_get c.as_slice.result.now c.args.number ≡ None = slice_get_past c.as_slice.result.now c.args.number c.in-None.ensures.lookup.3 in
    sym (ap (λ o. option_map_or (λ (p : PosterPart). lines 0 p.posts) o round) (subst (λ posters. slice_get posters c.args.number ≡ None) are gone))
