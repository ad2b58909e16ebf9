use Rattle.std.proofs.Common.{◌≡◌, ◌++◌, ◌∷◌, [], length, nat_lt, true, ◌∙◌, rules}
use Rattle.std.proofs.lemmas.List.{drop-map}
use Rattle.ccr_base.specs.Names.{same_spot}
use Rattle.ccr_base.specs.declared.names.Spot.TheVariants.{Site}
use Rattle.ccr_await.proofs.NamesAfterCommits.{insert_key-new}
use Rattle.ccr_await.proofs.site.SiteObject.commit.Goals as goal

pub returns-clause-state : goal.returns-clause-state
returns-clause-state c =
    let here = same_spot (Site c.self.inside.branch c.self.inside.site) c.args.task.spot in
    let fired : c.insert.new.self.keys ≡ c.self.inside.fired.keys ++ c.args.task.id ∷ [] = c.in_ok-insert.ensures.keys ∙ insert_key-new here c.self.inside.fired.keys c.args.task.id (rw (← c.self.view_is) at c.requires) in
    let some : nat_lt 0 (length c.self.inside.suspended.items) ≡ true = search rules in
    rw (← c.self.view_is, some, c.pop_front.ensures.rest, fired)

pub returns-clause-step : goal.returns-clause-step
returns-clause-step c = λ messages.
    let here = same_spot (Site c.self.inside.branch c.self.inside.site) c.args.task.spot in
    let fired : c.insert.new.self.keys ≡ c.self.inside.fired.keys ++ c.args.task.id ∷ [] = c.in_ok-insert.ensures.keys ∙ insert_key-new here c.self.inside.fired.keys c.args.task.id (rw (← c.self.view_is) at c.requires) in
    rw (← c.self.view_is, c.pop_front.ensures.rest, fired, ← drop-map)
