-- Each allowed event keeps who waits in each domain.
use Rattle.std.proofs.Common.{◌≡◌, ℕ, ◌<◌, Bool, true, false, ◌&&◌, List, [], ◌∷◌, ◌++◌, length, map, Some, refl, sym, ap, ◌∙◌, append-nil, append_assoc, arith}
use Rattle.std.specs.Prelude.{◌==◌, if◌then◌else◌}
use Rattle.std.specs.Option.{option_map_or}
use Rattle.ccr_base.specs.declared.names.TaskId.{TaskId}
use Rattle.ccr_base.specs.declared.names.MsgId.{MsgId}
use Rattle.ccr_base.specs.declared.names.Spot.TheVariants.{Branch, Site}
use Rattle.ccr_base.specs.Names.{has_task, without}
use Rattle.ccr_wiring.specs.declared.parts.Parts.{Parts}
use Rattle.ccr_wiring.specs.Groups.{may_have}
use Rattle.ccr_wiring.specs.Valid.{IsValid}
use Rattle.ccr_wiring.specs.Wirings.{Placement, placement}
use Rattle.ccr_wiring.proofs.Soundness.{sound}
use Rattle.ccr_model.specs.declared.history.Event.{Event}
use Rattle.ccr_model.specs.declared.history.Event.TheVariants.{Post, Fire, Admit, Put, Start, End}
use Rattle.ccr_model.specs.Firings.{Firing, cut, ever_admitted, admitted_by}
use Rattle.ccr_model.specs.Interleaves.{is_placement_in}
use Rattle.ccr_model.specs.TaskData.{placement_of}
use Rattle.ccr_model.specs.Tasks.{is_interleave, is_teardown, fired_by, waiting}
use Rattle.ccr_model.specs.Rules.{is_first, is_oldest_waiting}
use Rattle.ccr_model.specs.Legal.{IsAllowed, IsLegal}
use Rattle.ccr_model.proofs.Allowing.{OneName-legal}
use Rattle.ccr_model.proofs.ExclusiveRootsAreAlone.{ever_admitted_fired}
use Rattle.ccr_base.proofs.Booleans.{refuted, no_both, same_number}
use Rattle.ccr_model.proofs.Cutting.{fired_by-append, cut_fired, no_teardown_outside}
use Rattle.ccr_model.proofs.FiredTasks.{IsFired, fired_has, placement_fired}
use Rattle.ccr_model.proofs.AllowedFirings.{FiresSo-allowed, WaitingFacts-waiting}
use Rattle.ccr_base.proofs.Options.{some_of}
use Rattle.ccr_model.proofs.PostNames.{refused_not}
use Rattle.ccr_model.proofs.OneMoreEvent.{ever_admitted-push, cut-push}
use Rattle.ccr_model.proofs.TasksLeft.{without_both}
use Rattle.ccr_model.proofs.TaskLists.{first_rest, has_oldest, not_more, without-append, none_gone, all_gone}
use Rattle.ccr_model.proofs.TasksOnce.{waiting_once, waiting_apart, waits_elsewhere}
use Rattle.ccr_model.proofs.WaitingTasks.{waiting-admit}
use Rattle.ccr_ledger.specs.Rows.{row, with_row}
use Rattle.ccr_ledger.specs.Books.{Books}
use Rattle.ccr_ledger.specs.Firing.{after_clear}
use Rattle.ccr_ledger.specs.Events.{after_event}
use Rattle.ccr_ledger.specs.Kept.{HasSizes, KeepsTasks}
use Rattle.ccr_ledger.proofs.Tables.{length-with_row, row-with_row}
use Rattle.ccr_ledger.proofs.RowMoves.{row-left, row-entered}
use Rattle.ccr_ledger.proofs.TaskRows.{Rows, rows-post, rows-branch, rows-admit, rest-site, rest-put, rest-start, rest-end}
use Rattle.ccr_ledger.proofs.TaskCards.{CardFacts-fired, same_placement}

-- the rows say who waits
abbrev pub SaysWaiting : Parts → List Event → List (List TaskId) → Type 0
SaysWaiting w h rows = (i : ℕ) → i < length w.arbiters → row rows i ≡ waiting w h i

-- an event that neither fires at a branch, admits nor cuts leaves those that wait
waiting-other : (w : Parts) (h : List Event) (e : Event) (i : ℕ) → fired_by w (is_placement_in i) (e ∷ []) ≡ [] → admitted_by e ≡ [] → cut (e ∷ []) ≡ [] → waiting w (h ++ e ∷ []) i ≡ waiting w h i
waiting-other w h e i no_fire no_admit no_cut =
    rw (fired_by-append w (is_placement_in i) h (e ∷ []), ever_admitted-push h e, cut-push h e, no_fire, no_admit, no_cut, append-nil (fired_by w (is_placement_in i) h), append-nil (ever_admitted h), append-nil (cut h)) refl

-- those that are cut leave, and a new task enters
lists_fire : (fs news ins gone cs : List TaskId) → without news (ins ++ (gone ++ cs)) ≡ news → without (fs ++ news) (ins ++ (gone ++ cs)) ≡ without (without fs (ins ++ gone)) cs ++ news
lists_fire fs news ins gone cs stay =
    without-append fs news (ins ++ (gone ++ cs)) ∙ (ap (λ ts. without fs (ins ++ (gone ++ cs)) ++ ts) stay ∙ ap (λ ts. ts ++ news) (ap (λ all. without fs all) (sym (append_assoc ins gone cs)) ∙ without_both fs (ins ++ gone) cs))

-- who fires anew was neither admitted nor cut, nor is he now
module _ (w : Parts) (h : List Event) (t : TaskId) (n : ℕ) (ms : List MsgId) (cs : List TaskId) (s : Placement) (legal : IsLegal w h) (allowed : IsAllowed w h (Fire t (Branch n) ms cs)) (at : placement w n ≡ Some s) where
  unfired : IsFired h t → ⊥
  unfired fired = no_both (fired_has h t fired) (FiresSo-allowed w h t (Branch n) ms cs allowed).new_name

  cuts_so : cs ≡ (if is_teardown s.branch.group then waiting w h s.domain else [])
  cuts_so = (FiresSo-allowed w h t (Branch n) ms cs allowed).cuts ∙ ap (λ o. option_map_or (λ (r : Placement). if is_teardown r.branch.group then waiting w h r.domain else []) o []) at

  not_cut : (is : Bool) → is_teardown s.branch.group ≡ is → has_task (if is then waiting w h s.domain else []) t ≡ false
  not_cut false e = refl
  not_cut true e = refuted (has_task (waiting w h s.domain) t) (λ waits. (let facts = WaitingFacts-waiting w h s.domain t (OneName-legal w h legal) waits in unfired (facts.firing, facts.is_firing)))

  stays : has_task (ever_admitted h ++ (cut h ++ cs)) t ≡ false
  stays = not_more (ever_admitted h) (cut h ++ cs) t
      (refuted (has_task (ever_admitted h) t) (λ is. unfired (ever_admitted_fired w h legal t is)))
      (not_more (cut h) cs t (refuted (has_task (cut h) t) (λ is. unfired (cut_fired w h legal t is))) (ap (λ ts. has_task ts t) cuts_so ∙ not_cut (is_teardown s.branch.group) refl))

  entering : (i : ℕ) → fired_by w (is_placement_in i) (Fire t (Branch n) ms cs ∷ []) ≡ (if is_placement_in i s then t ∷ [] else [])
  entering i = rw at (of_test (is_placement_in i s))
    where
      of_test : (b : Bool) → map (λ (f : Firing). f.task) (if b then record { task = t; spot = Branch n; messages = ms; cuts = cs } ∷ [] else []) ≡ (if b then t ∷ [] else [])
      of_test true = refl
      of_test false = refl

  entered : (b : Bool) → without (if b then t ∷ [] else []) (ever_admitted h ++ (cut h ++ cs)) ≡ (if b then t ∷ [] else [])
  entered true = rw stays refl
  entered false = refl

  waiting-branch : (i : ℕ) → waiting w (h ++ Fire t (Branch n) ms cs ∷ []) i ≡ without (waiting w h i) cs ++ (if is_placement_in i s then t ∷ [] else [])
  waiting-branch i =
      rw (fired_by-append w (is_placement_in i) h (Fire t (Branch n) ms cs ∷ []), ever_admitted-push h (Fire t (Branch n) ms cs), cut-push h (Fire t (Branch n) ms cs), append-nil (ever_admitted h), append-nil cs, entering i)
      (lists_fire (fired_by w (is_placement_in i) h) (if is_placement_in i s then t ∷ [] else []) (ever_admitted h) (cut h) cs (entered (is_placement_in i s)))

  -- the rows once those that are cut have left
  cleared : (rows : List (List TaskId)) (i : ℕ) → i < length rows → row rows i ≡ waiting w h i → row (after_clear s rows) i ≡ without (waiting w h i) cs
  cleared rows i low known = of_test (is_teardown s.branch.group) refl ∙ ap (λ ts. without (waiting w h i) ts) (sym cuts_so)
    where
      of_place : (b : Bool) → (s.domain == i) ≡ b → (if b then [] else row rows i) ≡ without (waiting w h i) (waiting w h s.domain)
      of_place true is = let one : s.domain ≡ i = same_number s.domain i is in rw one (sym (all_gone (waiting w h i) (waiting w h i) (λ u among. among)))
      of_place false is = known ∙ sym (waiting_apart w h s.domain i legal is)

      of_test : (b : Bool) → is_teardown s.branch.group ≡ b → row (if b then with_row rows s.domain [] else rows) i ≡ without (waiting w h i) (if b then waiting w h s.domain else [])
      of_test true e = row-with_row rows s.domain i [] low ∙ of_place (s.domain == i) refl
      of_test false e = known ∙ sym (none_gone (waiting w h i))

  -- the rows once the new task has entered
  waited : (k : Bool) → is_interleave s.kind ≡ k → may_have s.kind s.branch.group ≡ true → (rows : List (List TaskId)) (i : ℕ) → i < length rows → row rows i ≡ waiting w h i
      → row (if k then with_row (after_clear s rows) s.domain (row (after_clear s rows) s.domain ++ t ∷ []) else rows) i ≡ without (waiting w h i) cs ++ (if k && (s.domain == i) then t ∷ [] else [])
  waited true is may rows i low known =
      row-entered (after_clear s rows) s.domain i t (omega (arith, low, length-cleared (is_teardown s.branch.group))) ∙ ap (λ ts. ts ++ (if s.domain == i then t ∷ [] else [])) (cleared rows i low known)
    where
      length-cleared : (b : Bool) → length (if b then with_row rows s.domain [] else rows) ≡ length rows
      length-cleared true = length-with_row rows s.domain []
      length-cleared false = refl
  waited false is may rows i low known =
      known ∙ (sym (none_gone (waiting w h i)) ∙ (ap (λ ts. without (waiting w h i) ts) (sym none) ∙ sym (append-nil (without (waiting w h i) cs))))
    where
      none : cs ≡ []
      none = cuts_so ∙ ap (λ b. if b then waiting w h s.domain else []) (no_teardown_outside s.kind s.branch.group may is)

  waiting-event-branch : IsValid w → (b : Books) → HasSizes w b → SaysWaiting w h b.waiting → SaysWaiting w (h ++ Fire t (Branch n) ms cs ∷ []) (after_event w (Fire t (Branch n) ms cs) b).waiting
  waiting-event-branch valid b sizes known i low =
      ap (λ (r : Rows). row r.waiting i) (rows-branch w t n ms cs b s at) ∙ (waited (is_interleave s.kind) refl ((sound w valid).groups n s at) b.waiting i (omega (arith, low, sizes.waiting)) (known i low) ∙ sym (waiting-branch i))

-- the oldest of a domain is admitted
waiting-event-admit : (w : Parts) (h : List Event) (t : TaskId) (b : Books) → IsLegal w h → IsAllowed w h (Admit t) → HasSizes w b → KeepsTasks w h b → SaysWaiting w h b.waiting → SaysWaiting w (h ++ Admit t ∷ []) (after_event w (Admit t) b).waiting
waiting-event-admit w h t b legal allowed sizes tasks known i low =
    let first = (refused_not (is_oldest_waiting w h t) _ _ allowed).0 in
    let found = some_of (λ (s : Placement). is_first (waiting w h s.domain) t) (placement_of w h t) first in
    let head = first_rest (waiting w h found.0.domain) t found.2 in
    let facts = CardFacts-fired w h t b legal tasks (placement_fired w h t found.0 found.1) in
    let own : facts.card.domain ≡ found.0.domain = facts.domain ∙ ap (λ (s : Placement). s.domain) (same_placement facts.placement found.0 (placement_of w h t) facts.is_placement found.1) in
    let oldest : waiting w h facts.card.domain ≡ t ∷ head.0 = ap (waiting w h) own ∙ head.1 in
    ap (λ (r : Rows). row r.waiting i) (rows-admit w t b facts.card facts.is_card)
    ∙ (row-left b.waiting (waiting w h) facts.card.domain i t head.0 (omega (arith, low, sizes.waiting)) (known i low) oldest (waiting_once w h facts.card.domain legal)
    (waits_elsewhere w h facts.card.domain i t legal (has_oldest (waiting w h facts.card.domain) head.0 t oldest))
    ∙ sym (waiting-admit w h t i))

-- a firing at a site cuts nobody
site_cuts : (w : Parts) (h : List Event) (t : TaskId) (n k : ℕ) (ms : List MsgId) (cs : List TaskId) → IsAllowed w h (Fire t (Site n k) ms cs) → cs ++ [] ≡ []
site_cuts w h t n k ms cs allowed = append-nil cs ∙ (FiresSo-allowed w h t (Site n k) ms cs allowed).cuts

pub waiting-event : (w : Parts) → IsValid w → (h : List Event) (e : Event) (b : Books) → IsLegal w h → IsAllowed w h e → HasSizes w b → KeepsTasks w h b → SaysWaiting w h b.waiting → SaysWaiting w (h ++ e ∷ []) (after_event w e b).waiting
waiting-event w valid h (Fire t (Branch n) ms cs) b legal allowed sizes tasks known i low =
    let with_placement = some_of _ (placement w n) (FiresSo-allowed w h t (Branch n) ms cs allowed).live in
    waiting-event-branch w h t n ms cs with_placement.0 legal allowed with_placement.1 valid b sizes known i low
waiting-event w valid h (Admit t) b legal allowed sizes tasks known i low = waiting-event-admit w h t b legal allowed sizes tasks known i low
waiting-event w valid h (Fire t (Site n k) ms cs) b legal allowed sizes tasks known i low = ap (λ (r : Rows). row r.waiting i) (rest-site w t n k ms cs b) ∙ (known i low ∙ sym (waiting-other w h (Fire t (Site n k) ms cs) i refl refl (site_cuts w h t n k ms cs allowed)))
waiting-event w valid h (Post m) b legal allowed sizes tasks known i low = ap (λ (r : Rows). row r.waiting i) (rows-post m b) ∙ (known i low ∙ sym (waiting-other w h (Post m) i refl refl refl))
waiting-event w valid h (Put t d) b legal allowed sizes tasks known i low = ap (λ (r : Rows). row r.waiting i) (rest-put w t d b) ∙ (known i low ∙ sym (waiting-other w h (Put t d) i refl refl refl))
waiting-event w valid h (Start t a) b legal allowed sizes tasks known i low = ap (λ (r : Rows). row r.waiting i) (rest-start w t a b) ∙ (known i low ∙ sym (waiting-other w h (Start t a) i refl refl refl))
waiting-event w valid h (End t how) b legal allowed sizes tasks known i low = ap (λ (r : Rows). row r.waiting i) (rest-end w t how b) ∙ (known i low ∙ sym (waiting-other w h (End t how) i refl refl refl))
