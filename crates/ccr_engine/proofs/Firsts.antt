-- The event that comes first, by the desk.
use Rattle.std.proofs.Common.{◌≡◌, ◌∙◌, ℕ, ◌+◌, ◌≤◌, List, [], ◌∷◌, length, take, refl, sym, arith, subst, true, length-take}
use Rattle.std.specs.Prelude.{option_and_then}
use Rattle.std.specs.List.{slice_get}
use Rattle.ccr_wiring.specs.declared.parts.Parts.{Parts}
use Rattle.ccr_wiring.specs.declared.parts.PosterPart.{PosterPart}
use Rattle.ccr_wiring.specs.Wirings.{spots}
use Rattle.ccr_model.specs.declared.history.Event.{Event}
use Rattle.ccr_model.specs.Firings.{fired}
use Rattle.ccr_model.specs.Order.{first, fire_from, next_attempt, put_first}
use Rattle.ccr_ledger.specs.Books.{Books}
use Rattle.ccr_engine.specs.Cursor.{could_fire, admission, start_at, are_done}
use Rattle.ccr_engine.specs.Ready.{AreReady, IsLeastFirst}
use Rattle.ccr_engine.specs.Parts.{admission_in, start_at_in, first_fire_in, put_in, are_done_in, could_fire_in}
use Rattle.ccr_engine.specs.Candidates.{AreCandidates}
use Rattle.ccr_engine.specs.Numbered.{IsNoneBut, passes_at}
use Rattle.ccr_engine.specs.Desk.{Desk, Stands, TablesTell, IsIdle, IsAhead, first_in}
use Rattle.ccr_engine.proofs.Choosing.{could_choose}
use Rattle.ccr_engine.proofs.Gaining.{passes-same}
use Rattle.ccr_engine.proofs.Asking.{none_but-same}
use Rattle.ccr_engine.proofs.PartsAreTold.{post_told, first_fire_told, admission_told, first_admit_told, put_told, none_put_told, first_run_told, start_at_told, start_told}

module _ (w : Parts) (c : ℕ) (h : List Event) (d : Desk) (told : TablesTell w h d.books) where
  done_told : (n : ℕ) (ps : List PosterPart) → n + length ps ≤ length w.posters → are_done_in d.books n ps ≡ are_done h n ps
  done_told n [] low = refl
  done_told n (p ∷ ps) low = rw (told.script_posts n (omega (arith, low)), done_told (n + 1) ps (omega (arith, low))) refl

  done_so : (k : ℕ) → are_done_in d.books 0 (take k w.posters) ≡ are_done h 0 (take k w.posters)
  done_so k = done_told 0 (take k w.posters) (omega (arith, length-take k w.posters))

  could_so : (k : ℕ) → passes_at (could_fire_in w d.books) (spots w) k ≡ passes_at (could_fire w h) (spots w) k
  could_so k = passes-same (could_fire_in w d.books) (could_fire w h) (spots w) (λ s. rw (told.lives_so s, told.selection_so s) (could_choose w h s)) k

  -- before the desk's poster, and but for its touched spots and its blocked ones, nothing is left by the tables too
  pub idle_stands : Stands w c h d → IsIdle w c d
  idle_stands stands = record {
    posters = done_so d.poster ∙ stands.poster;
    spots = record { still = λ k out free. could_so k ∙ stands.touched k out free; lowest = stands.lowest; by_queue = stands.blocked };
    domains = none_but-same (admission_in d.books) (admission w h) (length w.arbiters) d.domains (admission_told w c h d.books told) stands.domains;
    lowest_domain = stands.lowest_domain;
    queues = none_but-same (start_at_in c d.books) (start_at w c h) (length w.queues) d.queues (start_at_told w c h d.books told) stands.queues;
    lowest_queue = stands.lowest_queue;
  }

  put_so : (ns : List ℕ) → AreReady w h ns → IsLeastFirst ns → option_and_then (put_in w d.books) (slice_get ns 0) ≡ put_first w h
  put_so [] ready least = sym (none_put_told w c h d.books told ready)
  put_so (n ∷ ns) ready least = put_told w c h d.books told (n ∷ ns) n ready (least n refl)

  -- the event that comes first is read from the desk
  pub first_told : Stands w c h d → first_in w c d ≡ first w c h
  first_told stands =
      let fires : first_fire_in w (record { actor = c; attempt = d.attempt }) d.books (spots w) ≡ fire_from w c h (spots w) = rw stands.attempt (first_fire_told w c h d.books told (spots w)) in
      rw (post_told w c h d.books told 0 w.posters (omega arith), fires, first_admit_told w c h d.books told 0 w.arbiters (omega arith), put_so d.ready stands.ready stands.least, first_run_told w c h d.books told _ told.runs_so, start_told w c h d.books told 0 w.queues (omega arith)) refl

-- the desk may go on past what was asked in vain
pub stands_ahead : (w : Parts) (c : ℕ) (h : List Event) (old new : Desk) → TablesTell w h old.books → Stands w c h old → IsAhead w c old new → Stands w c h new
stands_ahead w c h old new told stands ahead =
    let told_now : TablesTell w h new.books = rw ahead.books told in
    let attempt : new.attempt ≡ next_attempt c (fired h) = ahead.attempt ∙ stands.attempt in
    record {
      books = rw ahead.books stands.books;
      attempt = attempt;
      poster = sym (done_so w c h new told_now new.poster) ∙ ahead.idle.posters;
      touched = λ k out free. sym (could_so w c h new told_now k) ∙ ahead.idle.spots.still k out free;
      lowest = ahead.idle.spots.lowest;
      blocked = ahead.idle.spots.by_queue;
      domains = none_but-same (admission w h) (admission_in new.books) (length w.arbiters) new.domains (λ domain low. sym (admission_told w c h new.books told_now domain low)) ahead.idle.domains;
      lowest_domain = ahead.idle.lowest_domain;
      queues = none_but-same (start_at w c h) (start_at_in c new.books) (length w.queues) new.queues (λ queue low. sym (start_at_told w c h new.books told_now queue low)) ahead.idle.queues;
      lowest_queue = ahead.idle.lowest_queue;
      ready = rw ahead.ready stands.ready;
      least = rw ahead.ready stands.least;
    }

-- the desk once posters, spots and domains were asked
pub ahead_so : (w : Parts) (c : ℕ) (inside old : Desk) → inside ≡ old → IsIdle w c old → (books : Books) (poster : ℕ) (touched : List ℕ) (blocked : List (List ℕ)) (domains : List ℕ) → books ≡ inside.books → are_done_in inside.books 0 (take poster w.posters) ≡ true → AreCandidates w inside.books touched blocked
    → IsNoneBut (admission_in books) (length w.arbiters) domains → IsLeastFirst domains → IsAhead w c old (record { books = books; attempt = inside.attempt; poster = poster; touched = touched; blocked = blocked; domains = domains; ready = inside.ready; queues = inside.queues })
ahead_so w c inside old view idle books poster touched blocked domains same done candidates others least =
    let seen : IsIdle w c inside = subst (IsIdle w c) (sym view) idle in
    let next : Desk = record { books = books; attempt = inside.attempt; poster = poster; touched = touched; blocked = blocked; domains = domains; ready = inside.ready; queues = inside.queues } in
    subst (λ (d : Desk). IsAhead w c d next) view (record {
      books = same;
      attempt = refl;
      ready = refl;
      idle = record {
        posters = subst (λ (b : Books). are_done_in b 0 (take poster w.posters) ≡ true) (sym same) done;
        spots = subst (λ (b : Books). AreCandidates w b touched blocked) (sym same) candidates;
        domains = others;
        lowest_domain = least;
        queues = subst (λ (b : Books). IsNoneBut (start_at_in c b) (length w.queues) inside.queues) (sym same) seen.queues;
        lowest_queue = seen.lowest_queue;
      };
    })
