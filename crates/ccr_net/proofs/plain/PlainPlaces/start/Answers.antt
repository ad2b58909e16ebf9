use Rattle.std.proofs.Common.{map, ap, ◌∙◌}
use Rattle.ccr_object.specs.Objects.{placed}
use Rattle.ccr_net.proofs.Played.OneMoreAct.{IsLeft-start}
use Rattle.ccr_net.proofs.plain.PlainPlaces.start.Goals as goal

pub invariant_of-result : goal.invariant_of-result
invariant_of-result c =
    rw c.new.ensures.items
    (IsLeft-start c.args.wiring.now c.in_ok-directory.directory c.into_vec-objects.result.items c.in_ok-place_stamps.place_stamps.items c.in_ok-actor_stamps.actor_stamps.items
    c.in_ok-directory.ensures.places
    (ap (map placed) c.into_vec-objects.ensures ∙ c.in_ok-place_objects.ensures.objects)
    (c.in_ok-place_stamps.ensures.count ∙ c.len.ensures ∙ c.into_vec-objects.result.ok.0)
    c.in_ok-actor_stamps.ensures.count
    c.in_ok-place_stamps.ensures.zeros
    c.in_ok-actor_stamps.ensures.zeros)
