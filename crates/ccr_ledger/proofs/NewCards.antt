-- A firing keeps what the cards say: its own is new, and those of the tasks that it cuts are moved.
use Rattle.std.proofs.Common.{◌≡◌, ℕ, suc, Bool, true, false, not, ◌||◌, List, [], ◌∷◌, ◌++◌, length, Some, refl, sym, ap, ◌∙◌, subst, append-nil}
use Rattle.std.specs.Prelude.{if◌then◌else◌, option_map}
use Rattle.std.specs.Option.{option_map_or}
use Rattle.std.proofs.lemmas.List.{length-map}
use Rattle.ccr_base.specs.declared.names.TaskId.{TaskId}
use Rattle.ccr_base.specs.declared.names.MsgId.{MsgId}
use Rattle.ccr_base.specs.declared.names.Spot.{Spot}
use Rattle.ccr_base.specs.declared.names.Spot.TheVariants.{Branch, Site}
use Rattle.ccr_base.specs.declared.messages.Msg.{Msg}
use Rattle.ccr_base.specs.Names.{same_task, has_task}
use Rattle.ccr_wiring.specs.declared.parts.Parts.{Parts}
use Rattle.ccr_wiring.specs.Wirings.{Placement, placement, branch_of, segment_of}
use Rattle.ccr_model.specs.declared.history.Event.{Event}
use Rattle.ccr_model.specs.declared.history.Event.TheVariants.{Fire}
use Rattle.ccr_model.specs.Posts.{messages_named, posts_of_task}
use Rattle.ccr_model.specs.Firings.{Firing, firings, firing_named, fired, cut, ever_admitted, put}
use Rattle.ccr_model.specs.Sites.{before, resumed}
use Rattle.ccr_model.specs.TaskData.{no_load, no_play, with_messages, messages_of, load_at, load_after, load_of, play_at, play_of}
use Rattle.ccr_model.specs.Tasks.{is_interleave}
use Rattle.ccr_model.specs.Rules.{needs_no_admission}
use Rattle.ccr_model.specs.Legal.{IsAllowed, IsLegal}
use Rattle.ccr_model.proofs.ExclusiveRootsAreAlone.{ever_admitted_fired}
use Rattle.ccr_base.proofs.Booleans.{refuted, no_both}
use Rattle.ccr_model.proofs.FiredTasks.{AreFired, fired_has}
use Rattle.ccr_model.proofs.AllowedFirings.{FiresSo-allowed, firing_named-new, before-new}
use Rattle.ccr_model.proofs.OneMoreEvent.{fired-fire}
use Rattle.ccr_model.proofs.Roots.{root_own, root_resumed}
use Rattle.ccr_base.proofs.SameNames.{same_task-is}
use Rattle.ccr_model.proofs.Stable.{load_at-append}
use Rattle.ccr_model.proofs.Suspending.{ResumeFacts}
use Rattle.ccr_model.proofs.WhoWasPut.{ArePlaced-legal}
use Rattle.ccr_model.proofs.TaskSteps.{firing_named-fire}
use Rattle.ccr_model.proofs.Cutting.{cut_now_fired, cut_fired}
use Rattle.ccr_ledger.specs.declared.cards.Card.{Card}
use Rattle.ccr_ledger.specs.declared.cards.TaskStage.TheVariants as stages
use Rattle.ccr_ledger.specs.Books.{Books, card_at, in_stage, all_moved}
use Rattle.ccr_ledger.specs.Taking.{Takes, take_pattern}
use Rattle.ccr_ledger.specs.Firing.{with_card, branch_card, site_card, load_left, first_stage, after_cuts, after_taking, after_site}
use Rattle.ccr_ledger.specs.Kept.{KeepsTasks, card_of, stage_of, is_admitted}
use Rattle.ccr_ledger.proofs.Admissions.{admitted-other, admitted-new, made-other, made-none}
use Rattle.ccr_ledger.proofs.CardSteps.{altered, card-stays, card-step}
use Rattle.ccr_ledger.proofs.CardTables.{names, names-all_moved, names-new, card-new, among, card-all_moved, tasks-cuts, ports-cuts}
use Rattle.ccr_ledger.proofs.Stages.{unput, stage-fire}

-- as many cards as firings
card_count : (h : List Event) (cards : List (TaskId × Card)) → names cards ≡ fired h → length cards ≡ length (firings h)
card_count h cards same = sym (length-map cards (λ (entry : TaskId × Card). entry.0)) ∙ (ap length same ∙ length-map (firings h) (λ (f : Firing). f.task))

-- what a task starts with, and its play, by its firing
load_by : (w : Parts) (h : List Event) (t : TaskId) (f : Firing) → firing_named h t ≡ Some f → load_of w h t ≡ load_at w h (branch_of f.spot) (segment_of f.spot) t
load_by w h t f is = ap (λ o. option_map_or (λ spot. load_at w h (branch_of spot) (segment_of spot) t) (option_map (λ (g : Firing). g.spot) o) no_load) is

play_by : (w : Parts) (h : List Event) (t : TaskId) (f : Firing) → firing_named h t ≡ Some f → play_of w h t ≡ play_at w (branch_of f.spot) (segment_of f.spot) (load_at w h (branch_of f.spot) (segment_of f.spot) t)
play_by w h t f is = ap (λ o. option_map_or (λ spot. play_at w (branch_of spot) (segment_of spot) (load_at w h (branch_of spot) (segment_of spot) t)) (option_map (λ (g : Firing). g.spot) o) no_play) is

-- what is said of a task that fires
module _ (w : Parts) (h : List Event) (t : TaskId) (at : Spot) (ms : List MsgId) (cs : List TaskId) (legal : IsLegal w h) (allowed : IsAllowed w h (Fire t at ms cs)) where
  abbrev event : Event
  event = Fire t at ms cs

  abbrev this : Firing
  this = record { task = t; spot = at; messages = ms; cuts = cs }

  is_new : has_task (fired h) t ≡ false
  is_new = (FiresSo-allowed w h t at ms cs allowed).new_name

  named : firing_named (h ++ event ∷ []) t ≡ Some this
  named = firing_named-new h t at ms cs is_new

  number-new : length (firings (before t (h ++ event ∷ []))) ≡ length (firings h)
  number-new = ap (λ g. length (firings g)) (before-new h t at ms cs is_new)

  messages-new : messages_of (h ++ event ∷ []) t ≡ messages_named h ms
  messages-new = rw (named, before-new h t at ms cs is_new) refl

  -- no list of tasks that fired has it
  out_of : (ts : List TaskId) → AreFired h ts → has_task ts t ≡ false
  out_of ts all = refuted (has_task ts t) (λ is. no_both (fired_has h t (all t is)) is_new)

  not_cut_now : has_task cs t ≡ false
  not_cut_now = out_of cs (λ u is. cut_now_fired w h event legal allowed u (rw (append-nil cs) is))

  stage-new : (s : Spot) → stage_of w (h ++ event ∷ []) t s ≡ (if needs_no_admission w s then stages.Ready else stages.Waiting)
  stage-new s =
      let out = unput w h t legal (out_of (put h) (ArePlaced-legal w h legal).all_fired) in
      stage-fire w h t at ms cs t s legal allowed
      ∙ rw (not_cut_now, out.not_ended, out.not_started, out.not_dropped, out.not_put, out_of (cut h) (cut_fired w h legal), out_of (ever_admitted h) (ever_admitted_fired w h legal)) (of_needs (needs_no_admission w s))
    where
      of_needs : (b : Bool) → (if b || false then stages.Ready else stages.Waiting) ≡ (if b then stages.Ready else stages.Waiting)
      of_needs true = refl
      of_needs false = refl

  made-new : posts_of_task (h ++ event ∷ []) t ≡ 0
  made-new = made-other h event t refl ∙ made-none w h legal t is_new

  -- the tables after a firing that has this card
  keeps-new : (b c : Books) (card : Card) → KeepsTasks w h b → c.tasks ≡ with_card t card (all_moved stages.Cut cs b.tasks) → card ≡ card_of w (h ++ event ∷ []) t this → KeepsTasks w (h ++ event ∷ []) c
  keeps-new b c card keeps are is_card = record {
    names = ap names are ∙ (names-new t card cards_left fresh ∙ (ap (λ ts. ts ++ t ∷ []) names_left ∙ sym (fired-fire h t at ms cs)));
    cards = λ u. ap (λ cards. card_at cards u) are ∙ (card-new t u card cards_left ∙ of_test u (same_task t u) refl);
  }
    where
      cards_left : List (TaskId × Card)
      cards_left = all_moved stages.Cut cs b.tasks

      names_left : names cards_left ≡ fired h
      names_left = names-all_moved stages.Cut cs b.tasks ∙ keeps.names

      fresh : has_task (names cards_left) t ≡ false
      fresh = ap (λ ts. has_task ts t) names_left ∙ is_new

      of_cut : (u : TaskId) (f : Firing) (b : Bool) → altered (if b then stages.Cut else stage_of w h u f.spot) (is_admitted h u) (posts_of_task h u) (card_of w h u f) ≡ (if b then in_stage stages.Cut (card_of w h u f) else card_of w h u f)
      of_cut u f true = refl
      of_cut u f false = refl

      of_test : (u : TaskId) (is : Bool) → same_task t u ≡ is → (if is then Some card else card_at cards_left u) ≡ option_map (card_of w (h ++ event ∷ []) u) (firing_named (h ++ event ∷ []) u)
      of_test u true same =
          subst (λ v. Some card ≡ option_map (card_of w (h ++ event ∷ []) v) (firing_named (h ++ event ∷ []) v)) (same_task-is t u same)
          (ap Some is_card ∙ sym (ap (option_map (card_of w (h ++ event ∷ []) t)) named))
      of_test u false other =
          card-step w h event u (card_at b.tasks u) (card_at cards_left u) (among cs stages.Cut u) (firing_named-fire h t u at ms cs other) (keeps.cards u) (card-all_moved stages.Cut cs b.tasks u)
          (λ f was. (
          card-stays w h event u f _ _ _ was (stage-fire w h t at ms cs u f.spot legal allowed) (admitted-other w h legal event u refl refl) (made-other h event u refl)
          ∙ of_cut u f (has_task cs u)
          ))

-- a firing at a branch
module _ (w : Parts) (h : List Event) (t : TaskId) (n : ℕ) (ms : List MsgId) (cs : List TaskId) (legal : IsLegal w h) (allowed : IsAllowed w h (Fire t (Branch n) ms cs)) where
  abbrev later : List Event
  later = h ++ Fire t (Branch n) ms cs ∷ []

  load-branch : load_of w later t ≡ with_messages no_load (messages_named h ms)
  load-branch = load_by w later t _ (named w h t (Branch n) ms cs legal allowed) ∙ ap (with_messages no_load) (messages-new w h t (Branch n) ms cs legal allowed)

  play-branch : play_of w later t ≡ play_at w n 0 (with_messages no_load (messages_named h ms))
  play-branch = play_by w later t _ (named w h t (Branch n) ms cs legal allowed) ∙ ap (λ messages. play_at w n 0 (with_messages no_load messages)) (messages-new w h t (Branch n) ms cs legal allowed)

  stage-branch : (s : Placement) → placement w n ≡ Some s → stage_of w later t (Branch n) ≡ first_stage s
  stage-branch s at = stage-new w h t (Branch n) ms cs legal allowed (Branch n) ∙ rw at (of_kind (is_interleave s.kind))
    where
      of_kind : (b : Bool) → (if not b then stages.Ready else stages.Waiting) ≡ (if b then stages.Waiting else stages.Ready)
      of_kind true = refl
      of_kind false = refl

  card-branch : (s : Placement) (count : ℕ) (messages : List Msg) → placement w n ≡ Some s → count ≡ length (firings h) → messages ≡ messages_named h ms
      → branch_card w t n s count (with_messages no_load messages) ≡ card_of w later t (record { task = t; spot = Branch n; messages = ms; cuts = cs })
  card-branch s count messages at counted found =
      rw (
        root_own later t (record { task = t; spot = Branch n; messages = ms; cuts = cs }) n (named w h t (Branch n) ms cs legal allowed) refl,
        number-new w h t (Branch n) ms cs legal allowed,
        load-branch,
        play-branch,
        stage-branch s at,
        admitted-new w h legal t (Branch n) ms cs (is_new w h t (Branch n) ms cs legal allowed),
        made-new w h t (Branch n) ms cs legal allowed,
        counted,
        found,
        at,
      ) refl

  pub tasks-branch : (s : Placement) (b : Books) → placement w n ≡ Some s → (take_pattern s.branch.pattern ms b.ports).messages ≡ messages_named h ms → KeepsTasks w h b → KeepsTasks w later (after_taking w t n ms (after_cuts cs b) s)
  tasks-branch s b at found keeps =
      let left : names (after_cuts cs b).tasks ≡ fired h = ap names (tasks-cuts cs b) ∙ (names-all_moved stages.Cut cs b.tasks ∙ keeps.names) in
      let found_left : (take_pattern s.branch.pattern ms (after_cuts cs b).ports).messages ≡ messages_named h ms = ap (λ ports. (take_pattern s.branch.pattern ms ports).messages) (ports-cuts cs b) ∙ found in
      let card = branch_card w t n s (length (after_cuts cs b).tasks) (with_messages no_load (take_pattern s.branch.pattern ms (after_cuts cs b).ports).messages) in
      keeps-new w h t (Branch n) ms cs legal allowed b (after_taking w t n ms (after_cuts cs b) s) card keeps (ap (with_card t card) (tasks-cuts cs b))
      (card-branch s _ _ at (card_count h (after_cuts cs b).tasks left) found_left)

-- a firing at a site, which goes on for the first task that is suspended there
module _ (w : Parts) (h : List Event) (t : TaskId) (b k : ℕ) (ms : List MsgId) (cs : List TaskId) (legal : IsLegal w h) (allowed : IsAllowed w h (Fire t (Site b k) ms cs)) (facts : ResumeFacts h b k) where
  abbrev after : List Event
  after = h ++ Fire t (Site b k) ms cs ∷ []

  goes_on : resumed after (Site b k) t ≡ Some facts.resumes
  goes_on = rw (before-new h t (Site b k) ms cs (is_new w h t (Site b k) ms cs legal allowed), facts.is_first) refl

  load-was : load_of w h facts.resumes ≡ load_at w h b k facts.resumes
  load-was = rw (facts.is_firing, facts.same_branch, facts.same_segment) refl

  play-was : play_of w h facts.resumes ≡ play_at w b k (load_at w h b k facts.resumes)
  play-was = rw (facts.is_firing, facts.same_branch, facts.same_segment) refl

  left-was : load_left (card_of w h facts.resumes facts.firing) ≡ load_after w b k (load_at w h b k facts.resumes)
  left-was = rw (load-was, play-was) refl

  load-site : load_at w after b (suc k) t ≡ with_messages (load_left (card_of w h facts.resumes facts.firing)) (messages_named h ms)
  load-site =
      let taken = messages-new w h t (Site b k) ms cs legal allowed in
      let stays = load_at-append w h (Fire t (Site b k) ms cs ∷ []) b k facts.resumes facts.firing facts.is_firing in
      ap (λ o. with_messages (option_map_or (λ (u : TaskId). load_after w b k (load_at w after b k u)) o no_load) (messages_of after t)) goes_on
      ∙ (ap (λ load. with_messages (load_after w b k load) (messages_of after t)) stays
      ∙ (ap (λ messages. with_messages (load_after w b k (load_at w h b k facts.resumes)) messages) taken ∙ ap (λ load. with_messages load (messages_named h ms)) (sym left-was)))

  load-now : load_of w after t ≡ with_messages (load_left (card_of w h facts.resumes facts.firing)) (messages_named h ms)
  load-now = load_by w after t _ (named w h t (Site b k) ms cs legal allowed) ∙ load-site

  play-now : play_of w after t ≡ play_at w b (suc k) (with_messages (load_left (card_of w h facts.resumes facts.firing)) (messages_named h ms))
  play-now = play_by w after t _ (named w h t (Site b k) ms cs legal allowed) ∙ ap (play_at w b (suc k)) load-site

  card-site : (count : ℕ) (messages : List Msg) → count ≡ length (firings h) → messages ≡ messages_named h ms
      → site_card w b k (card_of w h facts.resumes facts.firing) count (with_messages (load_left (card_of w h facts.resumes facts.firing)) messages) ≡ card_of w after t (record { task = t; spot = Site b k; messages = ms; cuts = cs })
  card-site count messages counted found =
      rw (
        root_resumed w h t b k ms cs allowed facts,
        number-new w h t (Site b k) ms cs legal allowed,
        load-now,
        play-now,
        stage-new w h t (Site b k) ms cs legal allowed (Site b k),
        admitted-new w h legal t (Site b k) ms cs (is_new w h t (Site b k) ms cs legal allowed),
        made-new w h t (Site b k) ms cs legal allowed,
        counted,
        found,
        facts.same_branch,
      ) refl

  pub tasks-site : (books : Books) (takes : Takes) → takes.messages ≡ messages_named h ms → KeepsTasks w h books → KeepsTasks w after (after_site w t b k (card_of w h facts.resumes facts.firing) takes books)
  tasks-site books takes found keeps =
      let none : cs ≡ [] = (FiresSo-allowed w h t (Site b k) ms cs allowed).cuts in
      let card = site_card w b k (card_of w h facts.resumes facts.firing) (length books.tasks) (with_messages (load_left (card_of w h facts.resumes facts.firing)) takes.messages) in
      keeps-new w h t (Site b k) ms cs legal allowed books (after_site w t b k (card_of w h facts.resumes facts.firing) takes books) card keeps (ap (λ ts. with_card t card (all_moved stages.Cut ts books.tasks)) (sym none))
      (card-site _ _ (card_count h books.tasks keeps.names) found)
