-- Each generated wiring of at most 10,000 posts is valid.
use Rattle.std.proofs.Common.{◌≡◌, ℕ, zero, suc, ◌+◌, ◌<◌, ◌≤◌, Bool, false, cond, List, [], ◌∷◌, map, filter, length, refl, ap, subst, ◌∙◌, length-append, arith}
use Rattle.std.specs.Prelude.{◌||◌, ◌==◌, ◌%◌, nat_lt, nat_le}
use Rattle.std.specs.List.{list_any, range_with_len}
use Rattle.std.proofs.lemmas.Bool.Decides.{nat_tests}
use Rattle.ccr_base.specs.declared.messages.Sent.{Sent}
use Rattle.ccr_base.proofs.Booleans.{none_or_false}
use Rattle.ccr_wiring.specs.Codes.{code_of}
use Rattle.ccr_wiring.specs.Groups.{has_misgrouped, has_branchless}
use Rattle.ccr_wiring.specs.Names.{has_repeated_name, has_malformed_name}
use Rattle.ccr_wiring.specs.References.{has_dangling, post_is_dangling}
use Rattle.ccr_wiring.specs.Repeats.{has_repeat, post_repeats}
use Rattle.ccr_wiring.specs.Limits.{has_outside, posts_in_all}
use Rattle.ccr_wiring.specs.Versions.{has_strange_version, has_newer, is_long}
use Rattle.ccr_wiring.specs.Spots.{has_crowded_port}
use Rattle.ccr_wiring.specs.Valid.{IsValid}
use Rattle.ccr_wiring.proofs.Validity.{no_code}
use Rattle.ccr_gen.specs.Posters.{sent, script, posters}
use Rattle.ccr_gen.specs.Generated.{generated}
use Rattle.ccr_gen.proofs.Lines.{script_more}

-- what no generated post passes, none of a list of them does
sent_none : (test : Sent → Bool) → ((k : ℕ) → test (sent k) ≡ false) → (ks : List ℕ) → list_any test (map sent ks) ≡ false
sent_none test each [] = refl
sent_none test each (k ∷ ks) = rw (each k, sent_none test each ks) refl

script_none : (test : Sent → Bool) (size number : ℕ) → ((k : ℕ) → test (sent k) ≡ false) → list_any test (script size number) ≡ false
script_none test size number each = sent_none test each (filter (λ k. k % 4 == number) (range_with_len 0 size))

four : (a b c d : Bool) → a ≡ false → b ≡ false → c ≡ false → d ≡ false → (a || (b || (c || (d || false)))) ≡ false
four a b c d ea eb ec ed = rw (ea, eb, ec, ed) refl

behind : (b : Bool) → b ≡ false → (((((b || false) || false) || false) || false) || false) ≡ false
behind b e = rw e refl

small_port : (k : ℕ) → nat_le 5 (k % 3) ≡ false
small_port k = grind (arith, nat_tests)

named : (size : ℕ) → has_dangling (generated size) ≡ false
named size =
    let each : (k : ℕ) → post_is_dangling (generated size) (sent k) ≡ false = λ k. rw (small_port k) refl in
    let none : (number : ℕ) → list_any (post_is_dangling (generated size)) (script size number) ≡ false = λ number. script_none (post_is_dangling (generated size)) size number each in
    none_or_false _ (none_or_false _ (four _ _ _ _ (none 0) (none 1) (none 2) (none 3)))

plain : (size : ℕ) → has_newer (generated size) ≡ false
plain size =
    let none : (number : ℕ) → list_any (λ (post : Sent). is_long post.value) (script size number) ≡ false = λ number. script_none (λ (post : Sent). is_long post.value) size number (λ k. refl) in
    none_or_false _ (four _ _ _ _ (none 0) (none 1) (none 2) (none 3))

apart : (size : ℕ) → has_repeat (generated size) ≡ false
apart size =
    let none : (number : ℕ) → list_any post_repeats (script size number) ≡ false = λ number. script_none post_repeats size number (λ k. refl) in
    none_or_false _ (none_or_false _ (four _ _ _ _ (none 0) (none 1) (none 2) (none 3)))

one_of_four : (k : ℕ) → length (cond (k % 4 == 0) (sent k ∷ []) []) + length (cond (k % 4 == 1) (sent k ∷ []) []) + length (cond (k % 4 == 2) (sent k ∷ []) []) + length (cond (k % 4 == 3) (sent k ∷ []) []) ≡ 1
one_of_four k = by (k % 4) (grind arith)
  where
    by : (r : ℕ) → r < 4 → length (cond (r == 0) (sent k ∷ []) []) + length (cond (r == 1) (sent k ∷ []) []) + length (cond (r == 2) (sent k ∷ []) []) + length (cond (r == 3) (sent k ∷ []) []) ≡ 1
    by zero lt = refl
    by (suc zero) lt = refl
    by (suc (suc zero)) lt = refl
    by (suc (suc (suc zero))) lt = refl
    by (suc (suc (suc (suc r)))) lt = absurd (omega arith)

script_length : (size number : ℕ) → length (script (size + 1) number) ≡ length (script size number) + length (cond (size % 4 == number) (sent size ∷ []) [])
script_length size number = ap length (script_more size number) ∙ length-append (script size number) (cond (size % 4 == number) (sent size ∷ []) [])

-- the scripts have all posts together
pub all_posts : (size : ℕ) → length (script size 0) + length (script size 1) + length (script size 2) + length (script size 3) ≡ size
all_posts zero = refl
all_posts (suc size) =
    let one = one_of_four size in
    let before = all_posts size in
    let a = script_length size 0 in
    let b = script_length size 1 in
    let c = script_length size 2 in
    let d = script_length size 3 in
    let on : size + 1 ≡ suc size = omega arith in
    subst (λ (n : ℕ). length (script n 0) + length (script n 1) + length (script n 2) + length (script n 3) ≡ n) on (omega (arith, one, before, a, b, c, d))

inside : (size : ℕ) → size ≤ 10000 → has_outside (generated size) ≡ false
inside size many =
    let all = all_posts size in
    let few : nat_lt 10000 (posts_in_all (posters size)) ≡ false = grind (arith, nat_tests, all, many) in
    behind _ few

pub valid : (size : ℕ) → size ≤ 10000 → IsValid (generated size)
unfolding code_of
valid size many = no_code (has_strange_version (generated size)) (has_misgrouped (generated size)) (has_newer (generated size)) (has_repeated_name (generated size)) (has_dangling (generated size)) (has_repeat (generated size)) (has_outside (generated size)) (has_branchless (generated size)) (has_crowded_port (generated size)) (has_malformed_name (generated size))
    refl refl (plain size) refl (named size) (apart size) (inside size many) refl refl refl
