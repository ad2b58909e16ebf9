-- Each event keeps how many are on their way to each queue, and admitted to each domain.
use Rattle.std.proofs.Common.{◌≡◌, ℕ, true, false, not, ◌&&◌, List, [], ◌∷◌, ◌++◌, length, filter, sym, ap, ◌∙◌}
use Rattle.std.proofs.Math.Bool.{and-true}
use Rattle.ccr_wiring.specs.declared.parts.Parts.{Parts}
use Rattle.ccr_model.specs.declared.history.Event.{Event}
use Rattle.ccr_model.specs.Firings.{ever_admitted}
use Rattle.ccr_model.specs.Tasks.{is_of_domain, is_over, admitted}
use Rattle.ccr_model.specs.Rules.{is_concurrent_task}
use Rattle.ccr_model.specs.Legal.{IsAllowed, IsLegal}
use Rattle.ccr_model.proofs.LegalIsCovered.{filter_twice}
use Rattle.ccr_model.proofs.TasksLeft.{filter_on}
use Rattle.ccr_ledger.specs.Books.{Books}
use Rattle.ccr_ledger.specs.Events.{after_event, empty_books}
use Rattle.ccr_ledger.specs.Kept.{Keeps, KeepsCounts}
use Rattle.ccr_ledger.proofs.Empty.{number-none}
use Rattle.ccr_ledger.proofs.Coming.{coming-event}
use Rattle.ccr_ledger.proofs.Admitted.{AreCounted, counts_as, counted-event}

-- all admitted roots
filter_all : (w : Parts) (h : List Event) (i : ℕ) → filter (counts_as true w h i) (ever_admitted h) ≡ admitted w h i
filter_all w h i = filter_on (counts_as true w h i) (λ t. is_of_domain w h i t && not (is_over h t)) (ever_admitted h) (λ u among. and-true (is_of_domain w h i u && not (is_over h u)))

-- those of them that no concurrent branch fired
filter_alone : (w : Parts) (h : List Event) (i : ℕ) → filter (counts_as false w h i) (ever_admitted h) ≡ filter (λ t. not (is_concurrent_task w h t)) (admitted w h i)
filter_alone w h i = sym (filter_twice (λ t. not (is_concurrent_task w h t)) (λ t. is_of_domain w h i t && not (is_over h t)) (ever_admitted h))

-- after each allowed event the counts are still those of the tasks on their way to each queue, and of the roots admitted to each domain
pub counts-event : (w : Parts) (h : List Event) (e : Event) (b : Books) → IsLegal w h → IsAllowed w h e → Keeps w h b → KeepsCounts w (h ++ e ∷ []) (after_event w e b)
counts-event w h e b legal allowed keeps =
    let g : List Event = h ++ e ∷ [] in
    let of_all : AreCounted true w g (after_event w e b).admitted = counted-event true w h e b legal allowed keeps.sizes keeps.tasks (λ i low. keeps.counts.admitted i low ∙ ap length (sym (filter_all w h i))) in
    let of_alone : AreCounted false w g (after_event w e b).alone = counted-event false w h e b legal allowed keeps.sizes keeps.tasks (λ i low. keeps.counts.alone i low ∙ ap length (sym (filter_alone w h i))) in
    record {
      coming = coming-event w h e b legal allowed keeps.sizes keeps.tasks keeps.counts.coming;
      admitted = λ i low. of_all i low ∙ ap length (filter_all w g i);
      alone = λ i low. of_alone i low ∙ ap length (filter_alone w g i);
    }

-- nobody is counted at first
pub counts-none : (w : Parts) → KeepsCounts w [] (empty_books w)
counts-none w = record {
  coming = λ q low. number-none (length w.queues) q;
  admitted = λ i low. number-none (length w.arbiters) i;
  alone = λ i low. number-none (length w.arbiters) i;
}
