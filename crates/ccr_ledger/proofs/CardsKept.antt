-- Each allowed event keeps what the tables say of tasks by their names.
use Rattle.std.proofs.Common.{◌≡◌, List, [], ◌∷◌, ◌++◌, Some, refl, ap, ◌∙◌}
use Rattle.std.specs.Prelude.{option_and_then}
use Rattle.std.specs.List.{slice_get}
use Rattle.ccr_base.specs.declared.names.Spot.TheVariants.{Branch, Site}
use Rattle.ccr_wiring.specs.declared.parts.Parts.{Parts}
use Rattle.ccr_wiring.specs.Valid.{IsValid}
use Rattle.ccr_wiring.specs.Wirings.{Placement, placement, site_port}
use Rattle.ccr_model.specs.declared.history.Event.{Event}
use Rattle.ccr_model.specs.declared.history.Event.TheVariants.{Post, Fire, Admit, Put, Start, End}
use Rattle.ccr_model.specs.Selection.{is_selection_of}
use Rattle.ccr_model.specs.Posts.{held}
use Rattle.ccr_model.specs.Legal.{IsAllowed, IsLegal}
use Rattle.ccr_base.proofs.Options.{some_of}
use Rattle.ccr_model.proofs.Suspending.{ResumeFacts-allowed}
use Rattle.ccr_model.proofs.TakenOnce.{FireFacts-allowed}
use Rattle.ccr_ledger.specs.Books.{Books, card_at, suspended_at}
use Rattle.ccr_ledger.specs.Taking.{take_site}
use Rattle.ccr_ledger.specs.Firing.{resumed_card}
use Rattle.ccr_ledger.specs.Events.{after_event, empty_books}
use Rattle.ccr_ledger.specs.Kept.{Keeps, KeepsTasks, card_of}
use Rattle.ccr_ledger.proofs.CardSteps.{card_told, tasks-post, tasks-admit, tasks-put, tasks-start, tasks-end}
use Rattle.ccr_ledger.proofs.NewCards.{tasks-branch, tasks-site}
use Rattle.ccr_ledger.proofs.TakenMessages.{branch-takes, site-takes}

-- after each allowed event the cards still say what the model says of each task that fired
pub tasks-event : (w : Parts) → IsValid w → (h : List Event) (e : Event) (b : Books) → IsLegal w h → IsAllowed w h e → Keeps w h b → KeepsTasks w (h ++ e ∷ []) (after_event w e b)
tasks-event w valid h (Post m) b legal allowed keeps = let done = tasks-post w h m m.id b refl legal keeps.tasks in record { names = done.names; cards = done.cards }
tasks-event w valid h (Admit t) b legal allowed keeps = tasks-admit w h t b legal allowed keeps.tasks
tasks-event w valid h (Put t d) b legal allowed keeps = tasks-put w h t d b legal allowed keeps.tasks
tasks-event w valid h (Start t a) b legal allowed keeps = tasks-start w h t a b legal allowed keeps.tasks
tasks-event w valid h (End t how) b legal allowed keeps = tasks-end w h t how b legal allowed keeps.tasks
tasks-event w valid h (Fire t (Branch n) ms cs) b legal allowed keeps =
    let made = (FireFacts-allowed w h t (Branch n) ms cs allowed).selection_made in
    let found = some_of (λ (s : Placement). is_selection_of (held h) s.branch.pattern ms) (placement w n) made in
    rw found.1 (tasks-branch w h t n ms cs legal allowed found.0 b found.1 (branch-takes w valid h legal b keeps.sizes keeps.ports n found.0 ms found.1 made) keeps.tasks)
tasks-event w valid h (Fire t (Site n k) ms cs) b legal allowed keeps =
    let made = (FireFacts-allowed w h t (Site n k) ms cs allowed).selection_made in
    let facts = ResumeFacts-allowed w h t n k ms cs allowed in
    let first : slice_get (suspended_at b.suspended n k) 0 ≡ Some facts.resumes = rw (keeps.rows.suspended n k, facts.is_first) refl in
    let card : resumed_card b n k ≡ Some (card_of w h facts.resumes facts.firing) = ap (option_and_then (card_at b.tasks)) first ∙ card_told w h facts.resumes facts.firing b keeps.tasks facts.is_firing in
    rw card (tasks-site w h t n k ms cs legal allowed facts b (take_site (site_port w n k) b.ports) (site-takes w valid h legal b keeps.sizes keeps.ports n k ms made) keeps.tasks)

pub tasks-none : (w : Parts) → KeepsTasks w [] (empty_books w)
tasks-none w = record { names = refl; cards = λ t. refl }
