-- A quiet, complete history has the totals that its counts give.
use Rattle.std.proofs.Common.{◌≡◌, ℕ, ◌-◌, ◌<◌, ◌≤◌, true, false, List, length, filter, refl, sym, ap, ◌∙◌, arith}
use Rattle.ccr_wiring.specs.declared.parts.Parts.{Parts}
use Rattle.ccr_wiring.specs.Wirings.{placements}
use Rattle.ccr_wiring.specs.Valid.{IsValid}
use Rattle.ccr_wiring.proofs.Soundness.{sound}
use Rattle.ccr_model.specs.declared.history.Event.{Event}
use Rattle.ccr_model.specs.declared.history.Totals.{Totals}
use Rattle.ccr_model.specs.Counts.{totals, is_done, is_failed, is_shed, is_yield}
use Rattle.ccr_model.specs.Firings.{firings, cut, dropped}
use Rattle.ccr_model.specs.Posts.{posts, taken}
use Rattle.ccr_model.specs.Legal.{IsLegal, IsQuiet, has_shed, is_complete}
use Rattle.ccr_steady.specs.Flow.{posts_weigh, IsSteady, IsClosed, IsFlow, each, task_posts}
use Rattle.ccr_model.proofs.TakenOnce.{untaken}
use Rattle.ccr_laws.specs.Times.{times_fired}
use Rattle.ccr_laws.proofs.HeldTaken.{held_or_taken}
use Rattle.ccr_steady.specs.Histories.{IsDone, AreAlike}
use Rattle.ccr_steady.specs.Sums.{one_each, placement_takes, firing_count, taken_count, posted_count, totals_by}
use Rattle.ccr_steady.proofs.Calm.{none_cut, none_dropped}
use Rattle.ccr_steady.proofs.Counts.{flows, fired_times}
use Rattle.ccr_steady.proofs.DoneTotals.{ends_in_all, ends_so_all, none_shed_of, fired_in_all}
use Rattle.ccr_steady.proofs.Flowing.{flow_found}
use Rattle.ccr_steady.proofs.HeldPorts.{same_held}
use Rattle.ccr_steady.proofs.CountsAreClosed.{closed_at_rest}
use Rattle.ccr_steady.proofs.Paying.{times_at}
use Rattle.ccr_steady.proofs.Sums.{summed_within}
use Rattle.ccr_steady.proofs.PostedTaken.{posted_in_all, taken_in_all}
use Rattle.ccr_steady.proofs.NobodyIsShed.{none_shed}
use Rattle.ccr_steady.proofs.ClosedListsBound.{within_closed}

-- totals are the same where each number is
same_fields : (x y : Totals) → x.posted ≡ y.posted → x.taken ≡ y.taken → x.held ≡ y.held → x.fired ≡ y.fired → x.done ≡ y.done → x.failed ≡ y.failed → x.shed ≡ y.shed → x.yielded ≡ y.yielded → x.cut ≡ y.cut → x.dropped ≡ y.dropped → x.unended ≡ y.unended → x ≡ y
same_fields x y a b c d e f g h i j k = numbers x.posted y.posted x.taken y.taken x.held y.held x.fired y.fired x.done y.done x.failed y.failed x.shed y.shed x.yielded y.yielded x.cut y.cut x.dropped y.dropped x.unended y.unended a b c d e f g h i j k
  where
    numbers : (a a' b b' c c' d d' e e' f f' g g' h h' i i' j j' k k' : ℕ) → a ≡ a' → b ≡ b' → c ≡ c' → d ≡ d' → e ≡ e' → f ≡ f' → g ≡ g' → h ≡ h' → i ≡ i' → j ≡ j' → k ≡ k'
        → (let l : Totals = record { posted = a; taken = b; held = c; fired = d; done = e; failed = f; shed = g; yielded = h; cut = i; dropped = j; unended = k } in l) ≡ (let r : Totals = record { posted = a'; taken = b'; held = c'; fired = d'; done = e'; failed = f'; shed = g'; yielded = h'; cut = i'; dropped = j'; unended = k' } in r)
    numbers a a' b b' c c' d d' e e' f f' g g' h h' i i' j j' k k' pa pb pc pd pe pf pg ph pi pj pk = rw (pa, pb, pc, pd, pe, pf, pg, ph, pi, pj, pk) refl

-- of its own counts
own_totals : (w : Parts) → IsValid w → IsSteady w → (h : List Event) → IsLegal w h → IsQuiet w h → is_complete w h ≡ true → has_shed h ≡ false → totals h ≡ totals_by w (times_at (firings h))
own_totals w valid steady h legal quiet complete unshed =
    let p = posted_in_all w valid steady h legal quiet complete unshed in
    let t = taken_in_all w valid steady h legal in
    let kept = held_or_taken w valid h legal in
    let held : length (untaken h) ≡ length (posts h) - length (taken h) = omega (arith, kept) in
    let f = fired_in_all w steady h legal in
    let all = ends_in_all w valid steady h legal quiet in
    let ends = ends_so_all w steady h legal in
    let shed = none_shed_of h unshed in
    let cuts = ap length (none_cut w steady h legal) in
    let drops = ap length (none_dropped w steady h legal) in
    let sum = ends.2 in
    let done : length (filter is_done h) ≡ firing_count w (times_at (firings h)) = omega (arith, sum, all, f, shed) in
    of_parts p t (held ∙ subtracted p t) f done ends.0 shed ends.1 cuts drops
  where
    subtracted : length (posts h) ≡ posted_count w (times_at (firings h)) → length (taken h) ≡ taken_count w (times_at (firings h)) → length (posts h) - length (taken h) ≡ posted_count w (times_at (firings h)) - taken_count w (times_at (firings h))
    subtracted p t = rw (p, t) refl

    of_parts : length (posts h) ≡ posted_count w (times_at (firings h)) → length (taken h) ≡ taken_count w (times_at (firings h)) → (totals h).held ≡ posted_count w (times_at (firings h)) - taken_count w (times_at (firings h)) → length (firings h) ≡ firing_count w (times_at (firings h)) → length (filter is_done h) ≡ firing_count w (times_at (firings h)) → length (filter is_failed h) ≡ 0 → length (filter is_shed h) ≡ 0 → length (filter is_yield h) ≡ 0 → length (cut h) ≡ 0 → length (dropped h) ≡ 0 → totals h ≡ totals_by w (times_at (firings h))
    of_parts p t held f done failed shed yields cuts drops =
        let none : (totals h).unended ≡ 0 = omega (arith, f, done) in
        same_fields (totals h) (totals_by w (times_at (firings h))) p t held f done failed shed yields cuts drops none

-- counts that are the same at each branch give the same totals
pub totals_same : (w : Parts) (n m : ℕ → ℕ) → ((b : ℕ) → b < length (placements w) → n b ≡ m b) → totals_by w n ≡ totals_by w m
totals_same w n m same =
    let a : task_posts w n ≡ task_posts w m = summed_within (posts_weigh w each) n m 0 (placements w) (λ b less. same b (omega (arith, less))) in
    let b : taken_count w n ≡ taken_count w m = summed_within placement_takes n m 0 (placements w) (λ b less. same b (omega (arith, less))) in
    let c : firing_count w n ≡ firing_count w m = summed_within one_each n m 0 (placements w) (λ b less. same b (omega (arith, less))) in
    by a b c
  where
    by : task_posts w n ≡ task_posts w m → taken_count w n ≡ taken_count w m → firing_count w n ≡ firing_count w m → totals_by w n ≡ totals_by w m
    by a b c = rw (a, b, c) refl

-- it has the totals of the flow
pub flow_totals : (w : Parts) → IsValid w → IsSteady w → (n : ℕ → ℕ) → IsFlow w n → task_posts w n ≤ w.budget → (h : List Event) → IsLegal w h → IsQuiet w h → is_complete w h ≡ true → totals h ≡ totals_by w n
flow_totals w valid steady n flow cheap h legal quiet complete =
    let unshed = none_shed w valid steady n flow.closed cheap h legal complete in
    let own = own_totals w valid steady h legal quiet complete unshed in
    own ∙ totals_same w (times_at (firings h)) n (λ b known. sym (fired_times h b) ∙ flows w valid steady n flow h legal quiet complete unshed b known)

-- its own counts are the flow
pub own_flow : (w : Parts) → IsValid w → IsSteady w → (h : List Event) → IsLegal w h → IsQuiet w h → is_complete w h ≡ true → has_shed h ≡ false → IsFlow w (times_at (firings h))
own_flow w valid steady h legal quiet complete unshed = flow_found w (times_at (firings h)) (λ m closed b known. within_closed w steady (sound w valid).patterns m closed h legal b known) (closed_at_rest w valid steady h legal quiet complete unshed)

-- two of them are alike
pub are_alike : (w : Parts) → IsValid w → IsSteady w → (g h : List Event) → IsDone w g → has_shed g ≡ false → IsDone w h → has_shed h ≡ false → AreAlike w g h
are_alike w valid steady g h done_g unshed_g done_h unshed_h =
    let flow = own_flow w valid steady g done_g.legal done_g.quiet done_g.complete unshed_g in
    let fires : (b : ℕ) → b < length (placements w) → times_fired h b ≡ times_at (firings g) b = flows w valid steady (times_at (firings g)) flow h done_h.legal done_h.quiet done_h.complete unshed_h in
    let a = own_totals w valid steady g done_g.legal done_g.quiet done_g.complete unshed_g in
    let b = own_totals w valid steady h done_h.legal done_h.quiet done_h.complete unshed_h in
    let c = totals_same w (times_at (firings h)) (times_at (firings g)) (λ k known. sym (fired_times h k) ∙ fires k known) in
    record {
      fires = λ k known. fired_times g k ∙ sym (fires k known);
      holds = same_held w valid steady g h done_g.legal done_g.quiet done_g.complete unshed_g done_h.legal done_h.quiet done_h.complete unshed_h (λ k known. sym (fires k known) ∙ fired_times h k);
      totals = a ∙ sym (b ∙ c);
    }

-- where some closed list costs no more than the budget, any two are
pub are_alike_cheap : (w : Parts) → IsValid w → IsSteady w → (n : ℕ → ℕ) → IsClosed w n → task_posts w n ≤ w.budget → (g h : List Event) → IsDone w g → IsDone w h → AreAlike w g h
are_alike_cheap w valid steady n closed cheap g h done_g done_h = are_alike w valid steady g h done_g (none_shed w valid steady n closed cheap g done_g.legal done_g.complete) done_h (none_shed w valid steady n closed cheap h done_h.legal done_h.complete)
