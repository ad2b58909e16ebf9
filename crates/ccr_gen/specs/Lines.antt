-- What the lines of scripts weigh, each by its port.
use Rattle.std.specs.Prelude.{ℕ, ◌+◌, List, [], ◌∷◌, drop}
use Rattle.ccr_base.specs.declared.messages.Msg.{Msg}
use Rattle.ccr_base.specs.declared.messages.Sent.{Sent}
use Rattle.ccr_wiring.specs.declared.parts.PosterPart.{PosterPart}
use Rattle.ccr_model.specs.Posts.{made_by_poster}

-- what the lines of a script weigh
abbrev pub lines : (ℕ → ℕ) → List Sent → ℕ
lines weight [] = 0
lines weight (sent ∷ more) = weight sent.port + lines weight more

-- what the script lines weigh that are left after the messages, where the first poster has this number
abbrev pub left : (ℕ → ℕ) → List Msg → ℕ → List PosterPart → ℕ
left weight ms number [] = 0
left weight ms number (p ∷ ps) = lines weight (drop (made_by_poster ms number) p.posts) + left weight ms (number + 1) ps
