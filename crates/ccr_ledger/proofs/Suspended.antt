-- Each allowed event keeps who is suspended at each site.
use Rattle.std.proofs.Common.{◌≡◌, ℕ, ◌+◌, ◌*◌, ◌<◌, Bool, true, false, not, ◌&&◌, List, [], ◌∷◌, ◌++◌, length, drop, Some, None, refl, sym, ap, ◌∙◌, append-nil, arith}
use Rattle.std.specs.Prelude.{◌==◌, if◌then◌else◌, nat_lt, option_and_then, option_map}
use Rattle.std.specs.List.{slice_get}
use Rattle.std.specs.Option.{option_map_or}
use Rattle.std.proofs.lemmas.Bool.{ltb-true, ltb-false, lt-ltb}
use Rattle.ccr_base.specs.declared.names.TaskId.{TaskId}
use Rattle.ccr_base.specs.declared.names.MsgId.{MsgId}
use Rattle.ccr_base.specs.declared.names.Spot.TheVariants.{Branch, Site}
use Rattle.ccr_base.specs.Names.{same_spot, has_task}
use Rattle.ccr_handler.specs.declared.segments.Play.{Play}
use Rattle.ccr_wiring.specs.declared.parts.Parts.{Parts}
use Rattle.ccr_wiring.specs.Valid.{IsValid}
use Rattle.ccr_wiring.specs.Wirings.{placements, branch_of, segment_of, next_site}
use Rattle.ccr_model.specs.declared.history.Event.{Event}
use Rattle.ccr_model.specs.declared.history.Event.TheVariants.{Post, Fire, Admit, Put, Start, End}
use Rattle.ccr_model.specs.declared.history.EndHow.{EndHow}
use Rattle.ccr_model.specs.declared.history.EndHow.TheVariants as ends
use Rattle.ccr_model.specs.Firings.{Firing, firing_named, yielded_by}
use Rattle.ccr_model.specs.Sites.{suspended, yields_at}
use Rattle.ccr_model.specs.TaskData.{load_at, play_of, play_at}
use Rattle.ccr_model.specs.Tasks.{has_post_left, running}
use Rattle.ccr_model.specs.Rules.{ends_so, may_end}
use Rattle.ccr_model.specs.Legal.{IsAllowed, IsLegal}
use Rattle.ccr_base.proofs.Booleans.{both, and_false, refuted, no_both, same_number}
use Rattle.ccr_model.proofs.Ending.{RunningFacts-allowed}
use Rattle.ccr_base.proofs.Options.{some-below}
use Rattle.ccr_base.proofs.TwoDigits.{same_digits}
use Rattle.ccr_model.proofs.PlayPast.{play_at-past}
use Rattle.ccr_model.proofs.Closed.{yield_end}
use Rattle.ccr_model.proofs.PostNames.{refused_not}
use Rattle.ccr_model.proofs.Suspending.{ResumeFacts, ResumeFacts-allowed, suspended-other, suspended-branch, suspended-elsewhere, suspended-here, same_site, end_fired, suspended-same}
use Rattle.ccr_model.proofs.WhoWasPut.{ArePlaced, ArePlaced-legal}
use Rattle.ccr_ledger.specs.Rows.{row, with_row}
use Rattle.ccr_ledger.specs.Books.{Books, card_at, suspended_at, with_suspended}
use Rattle.ccr_ledger.specs.Firing.{resumed_card}
use Rattle.ccr_ledger.specs.Events.{after_event, is_yield}
use Rattle.ccr_ledger.specs.Kept.{HasSizes, KeepsTasks}
use Rattle.ccr_ledger.proofs.GrowingRows.{row-past}
use Rattle.ccr_ledger.proofs.Tables.{length-with_row, row-with_row}
use Rattle.ccr_ledger.proofs.TaskRows.{Rows, rows-post, rows-site, rows-yield, rows-end, rest-branch, rest-admit, rest-put, rest-start}
use Rattle.ccr_ledger.proofs.TaskCards.{CardFacts, CardFacts-fired}

-- the rows say who is suspended
abbrev pub SaysSuspended : List Event → List (List TaskId) → Type 0
SaysSuspended h rows = (b k : ℕ) → suspended_at rows b k ≡ suspended h (Site b k)

-- a row past the last has nobody, and a site without a row neither
row-with_low : (rows : List (List TaskId)) (n k : ℕ) (items : List TaskId) → n < length rows → row (with_row rows n items) k ≡ (if n == k then items else row rows k)
row-with_low rows n k items low = of_test (nat_lt k (length rows)) refl
  where
    of_test : (b : Bool) → nat_lt k (length rows) ≡ b → row (with_row rows n items) k ≡ (if n == k then items else row rows k)
    of_test true is = row-with_row rows n k items (ltb-true k (length rows) is)
    of_test false is =
        let past = ltb-false k (length rows) is in
        let other : (n == k) ≡ false = refuted (n == k) (λ same. absurd (omega (arith, low, past, same_number n k same))) in
        rw other (row-past (with_row rows n items) k (omega (arith, past, length-with_row rows n items)) ∙ sym (row-past rows k past))

suspended-set : (rows : List (List TaskId)) (n k b l : ℕ) (items : List TaskId) → k < 16 → n * 16 + k < length rows → suspended_at (with_suspended rows n k items) b l ≡ (if (n == b) && (k == l) then items else suspended_at rows b l)
suspended-set rows n k b l items low within = ap (λ is. suspended_at (if is then with_row rows (n * 16 + k) items else rows) b l) (lt-ltb k 16 low) ∙ of_site (nat_lt l 16) refl
  where
    of_site : (is : Bool) → nat_lt l 16 ≡ is → (if is then row (with_row rows (n * 16 + k) items) (b * 16 + l) else []) ≡ (if (n == b) && (k == l) then items else if is then row rows (b * 16 + l) else [])
    of_site true is = row-with_low rows (n * 16 + k) (b * 16 + l) items within ∙ ap (λ same. if same then items else row rows (b * 16 + l)) (same_digits 16 n k b l low (ltb-true l 16 is))
    of_site false is =
        let past = ltb-false l 16 is in
        let other : (k == l) ≡ false = refuted (k == l) (λ same. absurd (omega (arith, low, past, same_number k l same))) in
        rw (other, and_false (n == b)) refl

-- a site at which somebody is suspended has a row
has_row : (rows : List (List TaskId)) (n k : ℕ) (t : TaskId) (others : List TaskId) → suspended_at rows n k ≡ t ∷ others → (k < 16) × (n * 16 + k < length rows)
has_row rows n k t others is = of_site (nat_lt k 16) refl is
  where
    of_row : (m : ℕ) → row rows m ≡ t ∷ others → m < length rows
    of_row m found = of_test (nat_lt m (length rows)) refl
      where
        of_test : (b : Bool) → nat_lt m (length rows) ≡ b → m < length rows
        of_test true low = ltb-true m (length rows) low
        of_test false past = let none : row rows m ≡ [] = row-past rows m (ltb-false m (length rows) past) in absurd (cc)

    of_site : (b : Bool) → nat_lt k 16 ≡ b → (if b then row rows (n * 16 + k) else []) ≡ t ∷ others → (k < 16) × (n * 16 + k < length rows)
    of_site true low found = (ltb-true k 16 low, of_row (n * 16 + k) found)
    of_site false past found = absurd (cc)

module _ (w : Parts) (h : List Event) (legal : IsLegal w h) where
  -- a firing at a site resumes the first
  suspended-event-site : (t : TaskId) (n k : ℕ) (ms : List MsgId) (cs : List TaskId) (b : Books) → IsAllowed w h (Fire t (Site n k) ms cs) → KeepsTasks w h b → SaysSuspended h b.suspended → SaysSuspended (h ++ Fire t (Site n k) ms cs ∷ []) (after_event w (Fire t (Site n k) ms cs) b).suspended
  suspended-event-site t n k ms cs b allowed tasks known c l =
      let facts = ResumeFacts-allowed w h t n k ms cs allowed in
      let here : suspended_at b.suspended n k ≡ facts.resumes ∷ facts.others = known n k ∙ facts.is_first in
      let card = CardFacts-fired w h facts.resumes b legal tasks (facts.firing, facts.is_firing) in
      let resumed : resumed_card b n k ≡ Some card.card = ap (λ ts. option_and_then (card_at b.tasks) (slice_get ts 0)) here ∙ card.is_card in
      let has = has_row b.suspended n k facts.resumes facts.others here in
      ap (λ (r : Rows). suspended_at r.suspended c l) (rows-site w t n k ms cs b card.card resumed)
      ∙ (suspended-set b.suspended n k c l (drop 1 (suspended_at b.suspended n k)) has.0 has.1
      ∙ of_test facts here ((n == c) && (k == l)) refl)
    where
      of_test : (facts : ResumeFacts h n k) → suspended_at b.suspended n k ≡ facts.resumes ∷ facts.others → (same : Bool) → (n == c) && (k == l) ≡ same
          → (if same then drop 1 (suspended_at b.suspended n k) else suspended_at b.suspended c l) ≡ suspended (h ++ Fire t (Site n k) ms cs ∷ []) (Site c l)
      of_test facts here true same = ap (drop 1) here ∙ (sym (suspended-here w h t n k ms cs legal facts) ∙ ap (suspended (h ++ Fire t (Site n k) ms cs ∷ [])) (same_site n k c l same))
      of_test facts here false other = known c l ∙ sym (suspended-elsewhere w h t n k ms cs c l legal other)

-- who yields runs one of the first 16 segments
yields_early : (w : Parts) → IsValid w → (h : List Event) (t : TaskId) (f : Firing) → firing_named h t ≡ Some f → IsAllowed w h (End t ends.Yield) → segment_of f.spot < 16
yields_early w valid h t f is allowed = of_test (nat_lt (segment_of f.spot) 16) refl
  where
    play : Play
    play = play_at w (branch_of f.spot) (segment_of f.spot) (load_at w h (branch_of f.spot) (segment_of f.spot) t)

    played : play_of w h t ≡ play
    played = rw is refl

    as_played : ends_so ends.Yield play.end ≡ true
    as_played =
        let a = refused_not (has_task (running h) t) _ _ allowed in
        let b = refused_not (may_end w h t ends.Yield) _ None a.1 in
        ap (λ (p : Play). ends_so ends.Yield p.end) (sym played) ∙ (both (not (has_post_left w h t)) (ends_so ends.Yield (play_of w h t).end) (yield_end w h t b.0)).1

    of_test : (b : Bool) → nat_lt (segment_of f.spot) 16 ≡ b → segment_of f.spot < 16
    of_test true low = ltb-true (segment_of f.spot) 16 low
    of_test false past =
        let done = play_at-past w valid (branch_of f.spot) (segment_of f.spot) (load_at w h (branch_of f.spot) (segment_of f.spot) t) (ltb-false (segment_of f.spot) 16 past) in
        let out : ends_so ends.Yield play.end ≡ false = ap (λ (p : Play). ends_so ends.Yield p.end) done in
        absurd (no_both as_played out)

-- who yields is suspended at the site behind his segment
suspended-event-yield : (w : Parts) → IsValid w → (h : List Event) (t : TaskId) (b : Books) → IsLegal w h → IsAllowed w h (End t ends.Yield) → HasSizes w b → KeepsTasks w h b → SaysSuspended h b.suspended → SaysSuspended (h ++ End t ends.Yield ∷ []) (after_event w (End t ends.Yield) b).suspended
suspended-event-yield w valid h t b legal allowed sizes tasks known c l =
    ap (λ (r : Rows). suspended_at r.suspended c l) (rows-yield w t b facts.card facts.is_card)
    ∙ (ap (λ s. suspended_at (with_suspended b.suspended (branch_of s) (segment_of s) (suspended_at b.suspended (branch_of s) (segment_of s) ++ t ∷ [])) c l) facts.spot
    ∙ (suspended-set b.suspended n k c l (suspended_at b.suspended n k ++ t ∷ []) early (omega (arith, early, sizes.suspended, some-below (placements w) n facts.placement facts.sits))
    ∙ (of_test ((n == c) && (k == l)) refl
    ∙ (ap (λ is. suspended h (Site c l) ++ (if is then t ∷ [] else [])) (sym yields_so)
    ∙ sym (suspended-other w h (End t ends.Yield) c l refl legal (end_fired w h t ends.Yield legal allowed))))))
  where
    placed : ArePlaced h
    placed = ArePlaced-legal w h legal

    facts : CardFacts w h t b
    facts = CardFacts-fired w h t b legal tasks (placed.all_fired t (placed.lists.put_started t (RunningFacts-allowed w h t ends.Yield allowed).started_so))

    n : ℕ
    n = branch_of facts.firing.spot

    k : ℕ
    k = segment_of facts.firing.spot

    early : k < 16
    early = yields_early w valid h t facts.firing facts.is_firing allowed

    yields_so : yields_at h (Site c l) t ≡ (n == c) && (k == l)
    yields_so = ap (λ o. option_map_or (λ spot. same_spot (next_site spot) (Site c l)) (option_map (λ (f : Firing). f.spot) o) false) facts.is_firing

    of_test : (is : Bool) → (n == c) && (k == l) ≡ is → (if is then suspended_at b.suspended n k ++ t ∷ [] else suspended_at b.suspended c l) ≡ suspended h (Site c l) ++ (if is then t ∷ [] else [])
    of_test true same = ap (λ ts. ts ++ t ∷ []) (known n k ∙ ap (suspended h) (same_site n k c l same))
    of_test false other = known c l ∙ sym (append-nil (suspended h (Site c l)))

-- an end in another way suspends nobody
suspended-event-end : (w : Parts) (h : List Event) (t : TaskId) (how : EndHow) (b : Books) → is_yield how ≡ false → yielded_by (End t how) ≡ [] → IsLegal w h → IsAllowed w h (End t how) → KeepsTasks w h b → SaysSuspended h b.suspended → SaysSuspended (h ++ End t how ∷ []) (after_event w (End t how) b).suspended
suspended-event-end w h t how b not_so no_yield legal allowed tasks known c l =
    let placed = ArePlaced-legal w h legal in
    let facts = CardFacts-fired w h t b legal tasks (placed.all_fired t (placed.lists.put_started t (RunningFacts-allowed w h t how allowed).started_so)) in
    ap (λ (r : Rows). suspended_at r.suspended c l) (rows-end w t how b facts.card facts.is_card not_so) ∙ (known c l ∙ sym (suspended-same w h (End t how) legal refl no_yield c l))

pub suspended-event : (w : Parts) → IsValid w → (h : List Event) (e : Event) (b : Books) → IsLegal w h → IsAllowed w h e → HasSizes w b → KeepsTasks w h b → SaysSuspended h b.suspended → SaysSuspended (h ++ e ∷ []) (after_event w e b).suspended
suspended-event w valid h (Fire t (Site n k) ms cs) b legal allowed sizes tasks known c l = suspended-event-site w h legal t n k ms cs b allowed tasks known c l
suspended-event w valid h (End t ends.Yield) b legal allowed sizes tasks known c l = suspended-event-yield w valid h t b legal allowed sizes tasks known c l
suspended-event w valid h (End t ends.Done) b legal allowed sizes tasks known c l = suspended-event-end w h t ends.Done b refl refl legal allowed tasks known c l
suspended-event w valid h (End t (ends.Failed v)) b legal allowed sizes tasks known c l = suspended-event-end w h t (ends.Failed v) b refl refl legal allowed tasks known c l
suspended-event w valid h (End t ends.Shed) b legal allowed sizes tasks known c l = suspended-event-end w h t ends.Shed b refl refl legal allowed tasks known c l
suspended-event w valid h (Fire t (Branch n) ms cs) b legal allowed sizes tasks known c l = ap (λ (r : Rows). suspended_at r.suspended c l) (rest-branch w t n ms cs b) ∙ (known c l ∙ sym (suspended-branch w h t n ms cs c l legal))
suspended-event w valid h (Post m) b legal allowed sizes tasks known c l = ap (λ (r : Rows). suspended_at r.suspended c l) (rows-post m b) ∙ (known c l ∙ sym (suspended-same w h (Post m) legal refl refl c l))
suspended-event w valid h (Admit t) b legal allowed sizes tasks known c l = ap (λ (r : Rows). suspended_at r.suspended c l) (rest-admit w t b) ∙ (known c l ∙ sym (suspended-same w h (Admit t) legal refl refl c l))
suspended-event w valid h (Put t d) b legal allowed sizes tasks known c l = ap (λ (r : Rows). suspended_at r.suspended c l) (rest-put w t d b) ∙ (known c l ∙ sym (suspended-same w h (Put t d) legal refl refl c l))
suspended-event w valid h (Start t a) b legal allowed sizes tasks known c l = ap (λ (r : Rows). suspended_at r.suspended c l) (rest-start w t a b) ∙ (known c l ∙ sym (suspended-same w h (Start t a) legal refl refl c l))
