use Rattle.std.proofs.Common.{◌≡◌, true, not, is_some, sym, ap, ◌∙◌}
use Rattle.std.proofs.lemmas.Map.Made.{is_some-lookup}
use Rattle.ccr_base.specs.Names.{same_task}
use Rattle.ccr_places.specs.Interleaves.{group_among}
use Rattle.ccr_interleave.proofs.interleave.InterleaveObject.may_commit.Goals as goal

pub returns-then-is_some : goal.returns-then-is_some
returns-then-is_some c =
    let here : is_some (group_among c.self.inside.branches c.self.inside.groups c.args.task.now.spot) ≡ true =
    sym (c.is_some.ensures ∙ ap is_some c.group_at.ensures) ∙ c.if-is_some.true in
    rw (← c.self.view_is, here) (ap not (c.contains_key.ensures ∙ is_some-lookup (same_task c.args.task.now.id) c.self.inside.fired.entries))
