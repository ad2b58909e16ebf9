-- Each allowed event keeps which actor runs what.
use Rattle.std.proofs.Common.{◌≡◌, ℕ, Bool, true, false, not, List, [], ◌∷◌, ◌++◌, filter, flat_map, refl, sym, ap, ◌∙◌, append-nil}
use Rattle.std.specs.Prelude.{◌==◌, if◌then◌else◌}
use Rattle.ccr_base.specs.declared.names.TaskId.{TaskId}
use Rattle.ccr_base.specs.declared.names.Spot.TheVariants.{Branch, Site}
use Rattle.ccr_base.specs.Names.{same_task, has_task, without}
use Rattle.ccr_wiring.specs.declared.parts.Parts.{Parts}
use Rattle.ccr_model.specs.declared.history.Event.{Event}
use Rattle.ccr_model.specs.declared.history.Event.TheVariants.{Post, Fire, Admit, Put, Start, End}
use Rattle.ccr_model.specs.Firings.{ended, ended_by}
use Rattle.ccr_model.specs.Tasks.{running_by, started_as}
use Rattle.ccr_model.specs.Legal.{IsAllowed, IsLegal}
use Rattle.ccr_base.proofs.Filters.{filter_swap}
use Rattle.ccr_model.proofs.OneMoreEvent.{ended-push}
use Rattle.ccr_model.proofs.TaskLists.{without-append}
use Rattle.ccr_model.proofs.WhoWasPut.{ArePlaced-legal, StartFacts-allowed}
use Rattle.ccr_model.proofs.Ending.{RunningFacts-allowed}
use Rattle.ccr_model.proofs.FiredTasks.{placement_fired}
use Rattle.ccr_model.proofs.RunningTasks.{starts-push, running_by-end}
use Rattle.ccr_ledger.specs.declared.cards.Runner.{Runner}
use Rattle.ccr_ledger.specs.Books.{Books, runners, runners_of}
use Rattle.ccr_ledger.specs.Events.{after_event, stopped}
use Rattle.ccr_ledger.specs.Kept.{KeepsTasks}
use Rattle.ccr_ledger.proofs.Running.{has_card, unended, after-end, runners-stopped}
use Rattle.ccr_ledger.proofs.TaskRows.{Rows, rows-post, rest-branch, rest-site, rest-admit, rest-put}

-- the rows say which actor runs what
abbrev pub SaysRunners : List Event → List Runner → Type 0
SaysRunners h rs = (a : ℕ) → runners_of a rs ≡ running_by h a

-- who runs for the actor, after one more event
running_by-other : (h : List Event) (e : Event) (a : ℕ) → started_as a e ≡ [] → ended_by e ≡ [] → running_by (h ++ e ∷ []) a ≡ running_by h a
running_by-other h e a no_start no_end = rw (starts-push h e a, ended-push, no_start, no_end, append-nil (flat_map (started_as a) h), append-nil (ended h)) refl

running_by-start : (h : List Event) (t : TaskId) (by a : ℕ) → has_task (ended h) t ≡ false → running_by (h ++ Start t by ∷ []) a ≡ running_by h a ++ (if by == a then t ∷ [] else [])
running_by-start h t by a out = rw (starts-push h (Start t by) a, ended-push, append-nil (ended h)) (without-append (flat_map (started_as a) h) (if by == a then t ∷ [] else []) (ended h) ∙ ap (λ ts. running_by h a ++ ts) (of_test (by == a)))
  where
    of_test : (is : Bool) → without (if is then t ∷ [] else []) (ended h) ≡ (if is then t ∷ [] else [])
    of_test true = rw out refl
    of_test false = refl

-- the actor's runners, with one more and without one
runners-more : (a : ℕ) (rs : List Runner) (t : TaskId) (by : ℕ) → runners_of a (rs ++ record { task = t; actor = by } ∷ []) ≡ runners_of a rs ++ (if by == a then t ∷ [] else [])
runners-more a [] t by = of_test (by == a)
  where
    of_test : (is : Bool) → runners (if is then record { task = t; actor = by } ∷ [] else []) ≡ (if is then t ∷ [] else [])
    of_test true = refl
    of_test false = refl
runners-more a (r ∷ rs) t by = of_test (r.actor == a) (runners-more a rs t by)
  where
    more : List Runner
    more = filter (λ (x : Runner). x.actor == a) (rs ++ record { task = t; actor = by } ∷ [])

    of_test : (is : Bool) → runners more ≡ runners_of a rs ++ (if by == a then t ∷ [] else [])
        → runners (if is then r ∷ more else more) ≡ runners (if is then r ∷ filter (λ (x : Runner). x.actor == a) rs else filter (λ (x : Runner). x.actor == a) rs) ++ (if by == a then t ∷ [] else [])
    of_test true rest = ap (λ (ts : List TaskId). r.task ∷ ts) rest
    of_test false rest = rest

runners-less : (a : ℕ) (rs : List Runner) (t : TaskId) → runners_of a (stopped t rs) ≡ without (runners_of a rs) (t ∷ [])
runners-less a rs t = ap runners (filter_swap (λ (r : Runner). r.actor == a) (λ (r : Runner). not (same_task r.task t)) rs) ∙ runners-stopped t (filter (λ (r : Runner). r.actor == a) rs)

pub running_by-event : (w : Parts) (h : List Event) (e : Event) (b : Books) → IsLegal w h → IsAllowed w h e → KeepsTasks w h b → SaysRunners h b.running → SaysRunners (h ++ e ∷ []) (after_event w e b).running
running_by-event w h (Start t by) b legal allowed tasks known a =
    let facts = StartFacts-allowed w h t by allowed in
    let card = has_card w h t b tasks (placement_fired w h t facts.placement facts.is_placement) in
    rw card.1 (runners-more a b.running t by ∙ (ap (λ ts. ts ++ (if by == a then t ∷ [] else [])) (known a) ∙ sym (running_by-start h t by a (unended w h t by legal allowed))))
running_by-event w h (End t how) b legal allowed tasks known a =
    let placed = ArePlaced-legal w h legal in
    let began = RunningFacts-allowed w h t how allowed in
    let card = has_card w h t b tasks (placed.all_fired t (placed.lists.put_started t began.started_so)) in
    rw card.1 (ap (runners_of a) (after-end t how card.0 b) ∙ (runners-less a b.running t ∙ (ap (λ ts. without ts (t ∷ [])) (known a) ∙ sym (running_by-end h t how a))))
running_by-event w h (Post m) b legal allowed tasks known a = ap (λ (r : Rows). runners_of a r.running) (rows-post m b) ∙ (known a ∙ sym (running_by-other h (Post m) a refl refl))
running_by-event w h (Fire t (Branch n) ms cs) b legal allowed tasks known a = ap (λ (r : Rows). runners_of a r.running) (rest-branch w t n ms cs b) ∙ (known a ∙ sym (running_by-other h (Fire t (Branch n) ms cs) a refl refl))
running_by-event w h (Fire t (Site n k) ms cs) b legal allowed tasks known a = ap (λ (r : Rows). runners_of a r.running) (rest-site w t n k ms cs b) ∙ (known a ∙ sym (running_by-other h (Fire t (Site n k) ms cs) a refl refl))
running_by-event w h (Admit t) b legal allowed tasks known a = ap (λ (r : Rows). runners_of a r.running) (rest-admit w t b) ∙ (known a ∙ sym (running_by-other h (Admit t) a refl refl))
running_by-event w h (Put t d) b legal allowed tasks known a = ap (λ (r : Rows). runners_of a r.running) (rest-put w t d b) ∙ (known a ∙ sym (running_by-other h (Put t d) a refl refl))
