-- The tables of the empty history: so many rows of nothing, and numbers and flags that count and tell nothing.
use Rattle.std.proofs.Common.{◌≡◌, ℕ, zero, suc, ◌*◌, false, [], length, replicate, refl, ap}
use Rattle.std.proofs.lemmas.List.{length-replicate}
use Rattle.ccr_base.specs.declared.names.TaskId.{TaskId}
use Rattle.ccr_base.specs.declared.messages.Msg.{Msg}
use Rattle.ccr_wiring.specs.declared.parts.Parts.{Parts}
use Rattle.ccr_wiring.specs.Wirings.{placements}
use Rattle.ccr_ledger.specs.Rows.{row, empty_rows}
use Rattle.ccr_ledger.specs.Books.{number, flag, sites_each}
use Rattle.ccr_ledger.specs.Events.{empty_books}
use Rattle.ccr_ledger.specs.Kept.{HasSizes, KeepsScriptPosts, KeepsFlags}

pub length-empty_rows : (T : Type 0) (n : ℕ) → length (empty_rows {T = T} n) ≡ n
length-empty_rows T zero = refl
length-empty_rows T (suc n) = ap suc (length-empty_rows T n)

pub row-none : {T : Type 0} (n k : ℕ) → row (empty_rows {T = T} n) k ≡ []
row-none zero k = refl
row-none (suc n) zero = refl
row-none (suc n) (suc k) = row-none n k

pub number-none : (n k : ℕ) → number (replicate n 0) k ≡ 0
number-none zero k = refl
number-none (suc n) zero = refl
number-none (suc n) (suc k) = number-none n k

flag-none : (n k : ℕ) → flag (replicate n false) k ≡ false
flag-none zero k = refl
flag-none (suc n) zero = refl
flag-none (suc n) (suc k) = flag-none n k

pub sizes-none : (w : Parts) → HasSizes w (empty_books w)
sizes-none w = record {
  ports = length-empty_rows Msg (length w.ports);
  queued = length-empty_rows TaskId (length w.queues);
  waiting = length-empty_rows TaskId (length w.arbiters);
  suspended = length-empty_rows TaskId (length (placements w) * sites_each);
  script_posts = length-replicate (length w.posters) 0;
  spent = length-replicate (length (placements w)) false;
  chosen = length-replicate (length w.arbiters) false;
  torn = length-replicate (length w.arbiters) false;
  admitted = length-replicate (length w.arbiters) 0;
  alone = length-replicate (length w.arbiters) 0;
  coming = length-replicate (length w.queues) 0;
}

pub script_posts-none : (w : Parts) → KeepsScriptPosts w [] (empty_books w)
script_posts-none w = record {
  script_posts = λ poster low. number-none (length w.posters) poster;
  task_posts = refl;
}

pub flags-none : (w : Parts) → KeepsFlags w [] (empty_books w)
flags-none w = record {
  spent = λ branch low. flag-none (length (placements w)) branch;
  chosen = λ domain low. flag-none (length w.arbiters) domain;
  torn = λ domain low. flag-none (length w.arbiters) domain;
}
