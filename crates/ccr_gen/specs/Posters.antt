-- The posters of a generated wiring.
use Rattle.std.specs.Prelude.{ℕ, ◌%◌, ◌==◌, List, [], ◌∷◌, map, filter, codes}
use Rattle.std.specs.List.{range_with_len}
use Rattle.ccr_base.specs.declared.messages.Sent.{Sent}
use Rattle.ccr_wiring.specs.declared.parts.PosterPart.{PosterPart}

-- post k, of value k: in turn to the ports 0, 1 and 2
abbrev pub sent : ℕ → Sent
sent k = record { port = k % 3; value = k ∷ []; causes = [] }

-- of the posts 0 to size - 1, post k is of the poster k mod 4
abbrev pub script : ℕ → ℕ → List Sent
script size poster = map sent (filter (λ k. k % 4 == poster) (range_with_len 0 size))

-- the poster of this number, with its part of so many posts
abbrev pub poster : ℕ → List ℕ → ℕ → PosterPart
poster size name number = record { name = name; posts = script size number }

-- the four posters
abbrev pub posters : ℕ → List PosterPart
posters size = poster size (codes "w0") 0 ∷ poster size (codes "w1") 1 ∷ poster size (codes "w2") 2 ∷ poster size (codes "w3") 3 ∷ []
