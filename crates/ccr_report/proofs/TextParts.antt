-- A text by its parts.
use Rattle.std.proofs.Common.{◌≡◌, ℕ, List, [], ◌∷◌, ◌++◌, codes, arith}
use Rattle.std.proofs.lemmas.Grind.{common_steps}
use Rattle.ccr_base.specs.declared.names.Spot.{Spot}
use Rattle.ccr_wiring.specs.declared.parts.Parts.{Parts}
use Rattle.ccr_wiring.specs.Wirings.{spots}
use Rattle.ccr_text.specs.Spelling.{line_text, text_of}
use Rattle.ccr_wiring.specs.SpotWords.{branch_names}
use Rattle.ccr_report.specs.declared.counted.Counts.{Counts}
use Rattle.ccr_report.specs.Report.{total_words}
use Rattle.ccr_report.specs.Rows.{port_rows, spot_rows, queue_rows, counted_text}

pub text_parts : (first last : List (List ℕ)) (ports spots queues : List (List (List ℕ))) → (((line_text first ++ text_of ports) ++ text_of spots) ++ text_of queues) ++ line_text last ≡ text_of (first ∷ (ports ++ spots ++ queues ++ last ∷ []))
text_parts first last ports spots queues = grind (arith, common_steps)

-- the report from counts, written part by part
pub counted_parts : (w : Parts) (counts : Counts) (branches : List (List ℕ)) (places : List Spot) (posted held fired put dropped : List ℕ) → branches ≡ branch_names w → places ≡ spots w → posted ≡ counts.posted.items → held ≡ counts.held.items → fired ≡ counts.fired.items → put ≡ counts.put.items → dropped ≡ counts.dropped.items → (((line_text (codes "report" ∷ codes "1" ∷ []) ++ text_of (port_rows posted held 0 w.ports)) ++ text_of (spot_rows branches fired 0 places)) ++ text_of (queue_rows put dropped 0 w.queues)) ++ line_text (total_words counts.totals) ≡ counted_text w counts
counted_parts w counts branches places posted held fired put dropped b s p h f q d =
    let written = text_parts (codes "report" ∷ codes "1" ∷ []) (total_words counts.totals) (port_rows posted held 0 w.ports) (spot_rows branches fired 0 places) (queue_rows put dropped 0 w.queues) in
    cc

-- the line of the totals, written group by group
pub total_parts : (posted taken held fired done failed shed yielded cut dropped left : List ℕ) → (((codes "total" ++ ((32 ∷ (codes "posted" ++ 32 ∷ posted)) ++ ((32 ∷ (codes "taken" ++ 32 ∷ taken)) ++ ((32 ∷ (codes "held" ++ 32 ∷ held)) ++ (32 ∷ (codes "fired" ++ 32 ∷ fired)))))) ++ ((32 ∷ (codes "done" ++ 32 ∷ done)) ++ ((32 ∷ (codes "failed" ++ 32 ∷ failed)) ++ ((32 ∷ (codes "shed" ++ 32 ∷ shed)) ++ (32 ∷ (codes "yield" ++ 32 ∷ yielded)))))) ++ ((32 ∷ (codes "cut" ++ 32 ∷ cut)) ++ ((32 ∷ (codes "dropped" ++ 32 ∷ dropped)) ++ (32 ∷ (codes "left" ++ 32 ∷ left))))) ++ 10 ∷ [] ≡ line_text (codes "total" ∷ codes "posted" ∷ posted ∷ codes "taken" ∷ taken ∷ codes "held" ∷ held ∷ codes "fired" ∷ fired ∷ codes "done" ∷ done ∷ codes "failed" ∷ failed ∷ codes "shed" ∷ shed ∷ codes "yield" ∷ yielded ∷ codes "cut" ∷ cut ∷ codes "dropped" ∷ dropped ∷ codes "left" ∷ left ∷ [])
total_parts posted taken held fired done failed shed yielded cut dropped left = grind (arith, common_steps)
