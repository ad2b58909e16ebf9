use Rattle.std.proofs.Common.{◌≡◌, map, take, length}
use Rattle.ccr_object.specs.Objects.{placed}
use Rattle.ccr_object.specs.Starts.{placed_at}
use Rattle.ccr_object.proofs.making.all_objects.Given as goal

-- the objects so far
abbrev pub invariant-loop-place : goal.invariant-loop-place
invariant-loop-place l = (map placed l.objects.items ≡ map (placed_at l.wiring) (take l.place-index l.places)) × (length l.objects.items ≡ l.place-index)
