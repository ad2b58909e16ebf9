-- A line by its first word and what stands behind it.
use Rattle.std.proofs.Common.{◌≡◌, ℕ, List, [], ◌∷◌, ◌++◌, codes, ap, sym, ◌∙◌, append_assoc, arith}
use Rattle.std.proofs.lemmas.Grind.{common_steps}
use Rattle.ccr_text.specs.Spelling.{joined, line_text}
use Rattle.std.specs.Prelude.{decimal}
use Rattle.ccr_trace.specs.Words.{other_numbers}
use Rattle.ccr_text.specs.Exact.{value_word}
use Rattle.ccr_trace.specs.HistoryText.{behind}

pub joined_behind : (word : List ℕ) (words : List (List ℕ)) → joined (word ∷ words) ≡ word ++ behind words
joined_behind word [] = grind (arith, common_steps)
joined_behind word (next ∷ words) = grind (arith, common_steps, joined_behind next words)

pub behind-append : (words more : List (List ℕ)) → behind (words ++ more) ≡ behind words ++ behind more
behind-append words more = grind (arith, common_steps)

-- a line, written word by word behind a text
pub post_line : (old message port value : List ℕ) (causes : List (List ℕ)) → (((((old ++ codes "post") ++ 32 ∷ message) ++ 32 ∷ port) ++ 32 ∷ value) ++ behind causes) ++ 10 ∷ [] ≡ old ++ line_text (codes "post" ∷ message ∷ port ∷ value ∷ causes)
post_line old message port value causes =
    let apart : (((((old ++ codes "post") ++ 32 ∷ message) ++ 32 ∷ port) ++ 32 ∷ value) ++ behind causes) ++ 10 ∷ [] ≡ old ++ ((codes "post" ++ behind (message ∷ port ∷ value ∷ causes)) ++ 10 ∷ []) = grind (arith, common_steps) in
    apart ∙ ap (λ (text : List ℕ). old ++ (text ++ 10 ∷ [])) (sym (joined_behind (codes "post") (message ∷ port ∷ value ∷ causes)))

pub fire_line : (old task spot : List ℕ) (messages cuts : List (List ℕ)) → (((((old ++ codes "fire") ++ 32 ∷ task) ++ 32 ∷ spot) ++ behind messages) ++ behind cuts) ++ 10 ∷ [] ≡ old ++ line_text (codes "fire" ∷ task ∷ spot ∷ (messages ++ cuts))
fire_line old task spot messages cuts =
    let apart : (((((old ++ codes "fire") ++ 32 ∷ task) ++ 32 ∷ spot) ++ behind messages) ++ behind cuts) ++ 10 ∷ [] ≡ old ++ ((codes "fire" ++ behind (task ∷ spot ∷ (messages ++ cuts))) ++ 10 ∷ []) = rw (behind-append messages cuts) (simp append_assoc) in
    apart ∙ ap (λ (text : List ℕ). old ++ (text ++ 10 ∷ [])) (sym (joined_behind (codes "fire") (task ∷ spot ∷ (messages ++ cuts))))

-- a value by its first number and the others
pub value_first : (first : ℕ) (others : List ℕ) → value_word (first ∷ others) ≡ decimal first ++ other_numbers others
value_first first [] = grind (arith, common_steps)
value_first first (next ∷ others) = grind (arith, common_steps, value_first next others)
