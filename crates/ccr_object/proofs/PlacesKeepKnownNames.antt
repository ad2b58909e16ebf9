-- A place keeps only messages and tasks whose numbers it has, and so its replies name no others.
use Rattle.std.proofs.Common.{◌≡◌, ℕ, Bool, true, false, ◌&&◌, List, [], ◌∷◌, ◌++◌, take, drop, filter, map, Option, Some, None, refl, sym, ap, ◌∙◌}
use Rattle.std.specs.Prelude.{if◌then◌else◌, nat_le, nat_lt, slice_get, is_some, length}
use Rattle.std.specs.List.{list_all}
use Rattle.std.specs.Option.{option_map_or}
use Rattle.std.proofs.lemmas.Bool.{and_from, and_parts}
use Rattle.std.proofs.lemmas.List.Sums.{AllPass-from_list_all, list_all-from_AllPass}
use Rattle.ccr_base.specs.declared.messages.Msg.{Msg}
use Rattle.ccr_base.specs.declared.names.Place.{Place}
use Rattle.ccr_base.specs.declared.names.Place.TheVariants as places
use Rattle.ccr_base.specs.declared.names.TaskId.{TaskId}
use Rattle.ccr_base.specs.declared.patterns.Slot.{Slot}
use Rattle.ccr_base.specs.declared.tasks.By.{By}
use Rattle.ccr_base.specs.declared.tasks.By.TheVariants.{Fired as ByFired}
use Rattle.ccr_base.specs.declared.tasks.Commit.TheVariants.{Fired, Dead}
use Rattle.ccr_base.specs.declared.tasks.Task.{Task}
use Rattle.ccr_base.specs.Selection.{holds, fitting, is_choosable}
use Rattle.ccr_base.proofs.Lists.{all_more}
use Rattle.ccr_base.specs.Lists.{are_apart}
use Rattle.ccr_wiring.specs.declared.parts.Kind.{Kind}
use Rattle.ccr_wiring.specs.declared.parts.Kind.TheVariants as kinds
use Rattle.ccr_wiring.specs.declared.parts.Parts.{Parts}
use Rattle.ccr_places.specs.declared.claims.StandingClaim.{StandingClaim}
use Rattle.ccr_places.specs.declared.notes.ClaimNote.{ClaimNote}
use Rattle.ccr_places.specs.declared.notes.ClaimNote.TheVariants as claim_notes
use Rattle.ccr_places.specs.declared.notes.Note.{Note}
use Rattle.ccr_places.specs.declared.notes.Note.TheVariants as notes
use Rattle.ccr_places.specs.Arbiters.{ArbiterState, may_commit as may_fire, may_over as may_end, retired_by}
use Rattle.ccr_places.specs.Interleaves.{InterleaveTasks, dead_by, group_at, is_teardown, admit_note, after_over}
use Rattle.ccr_places.specs.Interleaves as interleaves
use Rattle.ccr_places.specs.Meters.{MeterState, may_leave, draw_note}
use Rattle.ccr_places.specs.Ports.{PortState, may_post, may_claim, may_consume, may_free, claim_note, first_fitting, without_first, after_post, after_claim, after_consume, after_free}
use Rattle.ccr_places.specs.Queues.{QueueTasks, may_book, may_unbook, may_put, book_note, put_note, drop_count, after_book, after_unbook, after_put}
use Rattle.ccr_places.specs.Sites.{may_commit as may_resume}
use Rattle.ccr_base.proofs.FirstFitting.{all_without}
use Rattle.ccr_port.specs.declared.claims.Claimed.TheVariants.{Got, Busy, Short}
use Rattle.ccr_port.specs.Replies.{claim_reply as claimed}
use Rattle.ccr_arbiter.specs.Replies as arbiter_replies
use Rattle.ccr_await.specs.Resuming.{SiteTasks, site_state, resumed}
use Rattle.ccr_await.specs.Resuming as resuming
use Rattle.ccr_interleave.specs.Replies.{cut_of, spared_tasks, after_oldest}
use Rattle.ccr_interleave.specs.Replies as interleave_replies
use Rattle.ccr_claim.specs.declared.asks.Ask.{Ask}
use Rattle.ccr_claim.specs.declared.asks.Ask.TheVariants as asks
use Rattle.ccr_claim.specs.declared.asks.Reply.{Reply}
use Rattle.ccr_claim.specs.declared.asks.Reply.TheVariants as replies
use Rattle.ccr_claim.proofs.CausesStandOnce.{union_all, union_apart}
use Rattle.ccr_object.specs.declared.object.Object.{Object}
use Rattle.ccr_object.specs.declared.object.Object.TheVariants.{Port, Arbiter, Interleave, Site, Queue, Meter}
use Rattle.ccr_object.specs.declared.object.Placed.{Placed}
use Rattle.ccr_object.specs.Arbiters as arbiters
use Rattle.ccr_object.specs.Commits.{commit_reply, committed}
use Rattle.ccr_object.specs.Interleaves as domains
use Rattle.ccr_object.specs.Keeping.{answers_known, keeps_known, keeps_own}
use Rattle.ccr_object.specs.Meters as meters
use Rattle.ccr_object.specs.Numbers.{Numbers, has_causes, has_cut, has_domain, has_each, has_handed, knows_message, has_spot, knows_task, is_known, names_known, numbers_of}
use Rattle.ccr_object.specs.Objects.{after, after_at, answer, answered, reply_of}
use Rattle.ccr_object.specs.Ports as ports
use Rattle.ccr_object.specs.Queues as queues
use Rattle.ccr_object.specs.Sites as sites
use Rattle.ccr_wiring.specs.Wirings.{kind_of}
use Rattle.ccr_object.specs.Starts.{fresh_arbiter, members, placed_at}
use Rattle.std.proofs.lemmas.List.{take-append-drop}
use Rattle.std.proofs.lemmas.List.Folds.{list_all-append}
use Rattle.std.proofs.lemmas.List.Elements.{All-filter}

-- ---- lists

-- what holds of both holds of either
chosen : {X : Type 0} (P : X → Type 0) (b : Bool) (x y : X) → P x → P y → P (if b then x else y)
chosen P true x y one other = one
chosen P false x y one other = other

-- what passes of the first so many, and of the others
all_parted : {X : Type 0} (p : X → Bool) (n : ℕ) (xs : List X) → list_all p xs ≡ true → (list_all p (take n xs) ≡ true) × (list_all p (drop n xs) ≡ true)
all_parted p n xs all = and_parts (list_all p (take n xs)) (list_all p (drop n xs)) (sym (list_all-append p (take n xs) (drop n xs)) ∙ ap (list_all p) (take-append-drop n xs) ∙ all)

all_filter : {X : Type 0} (p q : X → Bool) (xs : List X) → list_all p xs ≡ true → list_all p (filter q xs) ≡ true
all_filter p q xs all = list_all-from_AllPass p (filter q xs) (All-filter q (λ x. p x ≡ true) xs (AllPass-from_list_all p xs all))

module _ (known : Numbers) where
  -- ---- replies

  -- an answer with a condition
  met : (b : Bool) (given : Reply × Note) → names_known known given.0 ≡ true → answers_known known (answered (if b then Some given else None)) ≡ true
  met true given is = is
  met false given is = refl

  first_handed : (ts : List Task) → list_all (knows_task known) ts ≡ true → has_handed known (slice_get ts 0) ≡ true
  first_handed [] all = refl
  first_handed (t ∷ ts) all = (and_parts (knows_task known t) (list_all (knows_task known) ts) all).0

  -- ---- ports

  claim_named : (port : PortState) (slot : Slot) → list_all (knows_message known) port.items ≡ true → names_known known (ports.claim_reply (claimed port slot)) ≡ true
  claim_named port slot all = of_claim port.claim
    where
      of_free : (b : Bool) → names_known known (ports.claim_reply (if b then Got (first_fitting slot.most slot.pred port.items) else Short (length (fitting slot.pred port.items)))) ≡ true
      of_free true = (all_parted (knows_message known) slot.most (fitting slot.pred port.items) (all_filter (knows_message known) (λ (m : Msg). holds slot.pred m.value) port.items all)).0
      of_free false = refl

      of_claim : (o : Option StandingClaim) → names_known known (ports.claim_reply (option_map_or (λ (claim : StandingClaim). Busy claim.task) o (if is_choosable slot port.items then Got (first_fitting slot.most slot.pred port.items) else Short (length (fitting slot.pred port.items))))) ≡ true
      of_claim None = of_free (is_choosable slot port.items)
      of_claim (Some claim) = refl

  port_named : (port : PortState) (ask : Ask) → list_all (knows_message known) port.items ≡ true → answers_known known (answered (ports.answer port ask)) ≡ true
  port_named port (asks.Post m) all = met (may_post port m) (replies.Done, notes.Post m) refl
  port_named port (asks.Claim t slot) all = met (may_claim port t slot) (ports.claim_reply (claimed port slot), notes.Claim t slot (claim_note port slot)) (claim_named port slot all)
  port_named port (asks.Consume t) all = met (may_consume port t) (replies.Done, notes.Consume t) refl
  port_named port (asks.Free t) all = met (may_free port t) (replies.Done, notes.Free t) refl
  port_named port (asks.Commit t ms) all = refl
  port_named port asks.Admit all = refl
  port_named port (asks.Over t r how) all = refl
  port_named port (asks.Suspend t) all = refl
  port_named port (asks.Book t r) all = refl
  port_named port (asks.Unbook t) all = refl
  port_named port (asks.Put t) all = refl
  port_named port asks.Take all = refl
  port_named port asks.Draw all = refl
  port_named port asks.Leave all = refl
  port_named port asks.Left all = refl

  abbrev PortKeeps : PortState → Type 0
  PortKeeps port = list_all (knows_message known) port.items ≡ true

  port_keeps : (port : PortState) (ask : Ask) → is_known known ask ≡ true → PortKeeps port → PortKeeps (ports.after port ask)
  port_keeps port (asks.Post m) is all = chosen PortKeeps (may_post port m) (after_post port m) port (all_more (knows_message known) port.items m all is) all
  port_keeps port (asks.Claim t slot) is all = chosen PortKeeps (may_claim port t slot) (after_claim port t slot (claim_note port slot)) port (by (claim_note port slot)) all
    where
      by : (note : ClaimNote) → PortKeeps (after_claim port t slot note)
      by (claim_notes.Got n) = all
      by (claim_notes.Busy u) = all
      by (claim_notes.Short n) = all
  port_keeps port (asks.Consume t) is all = chosen PortKeeps (may_consume port t) (after_consume port) port (by port.claim) all
    where
      by : (o : Option StandingClaim) → list_all (knows_message known) (option_map_or (λ (claim : StandingClaim). without_first claim.count claim.pred port.items) o port.items) ≡ true
      by None = all
      by (Some claim) = list_all-from_AllPass (knows_message known) (without_first claim.count claim.pred port.items) (all_without (λ (m : Msg). knows_message known m ≡ true) claim.count claim.pred port.items (AllPass-from_list_all (knows_message known) port.items all))
  port_keeps port (asks.Free t) is all = chosen PortKeeps (may_free port t) (after_free port) port all all
  port_keeps port (asks.Commit t ms) is all = all
  port_keeps port asks.Admit is all = all
  port_keeps port (asks.Over t r how) is all = all
  port_keeps port (asks.Suspend t) is all = all
  port_keeps port (asks.Book t r) is all = all
  port_keeps port (asks.Unbook t) is all = all
  port_keeps port (asks.Put t) is all = all
  port_keeps port asks.Take is all = all
  port_keeps port asks.Draw is all = all
  port_keeps port asks.Leave is all = all
  port_keeps port asks.Left is all = all

  -- ---- receivers and choices

  arbiter_named : (arbiter : ArbiterState) (ask : Ask) → is_known known ask ≡ true → answers_known known (answered (arbiters.answer arbiter ask)) ≡ true
  arbiter_named arbiter (asks.Commit t ms) is = met (may_fire arbiter t) (committed t ms (arbiter_replies.commit_reply arbiter t)) (by (retired_by arbiter))
    where
      by : (o : Option TaskId) → names_known known (commit_reply (option_map_or (λ (earlier : TaskId). Dead (ByFired earlier)) o (Fired (Some t) []))) ≡ true
      by None = and_from (knows_task known t) true is refl
      by (Some u) = refl
  arbiter_named arbiter (asks.Over t r how) is = met (may_end arbiter r) (replies.Done, notes.Over t r how) refl
  arbiter_named arbiter (asks.Post m) is = refl
  arbiter_named arbiter (asks.Claim t slot) is = refl
  arbiter_named arbiter (asks.Consume t) is = refl
  arbiter_named arbiter (asks.Free t) is = refl
  arbiter_named arbiter asks.Admit is = refl
  arbiter_named arbiter (asks.Suspend t) is = refl
  arbiter_named arbiter (asks.Book t r) is = refl
  arbiter_named arbiter (asks.Unbook t) is = refl
  arbiter_named arbiter (asks.Put t) is = refl
  arbiter_named arbiter asks.Take is = refl
  arbiter_named arbiter asks.Draw is = refl
  arbiter_named arbiter asks.Leave is = refl
  arbiter_named arbiter asks.Left is = refl

  -- ---- Interleaves

  cuts_named : (ts : List Task) → list_all (knows_task known) ts ≡ true → list_all (has_cut known) (map cut_of ts) ≡ true
  cuts_named [] all = refl
  cuts_named (t ∷ ts) all =
      let parts = and_parts (knows_task known t) (list_all (knows_task known) ts) all in
      and_from (nat_lt t.queue known.queues) (list_all (has_cut known) (map cut_of ts)) (and_parts _ (nat_lt t.queue known.queues) (and_parts _ (has_causes known t.causes) parts.0).0).1 (cuts_named ts parts.1)

  domain_named : (place : InterleaveTasks) (ask : Ask) → list_all (knows_task known) place.tasks ≡ true → answers_known known (answered (domains.answer place ask)) ≡ true
  domain_named place (asks.Commit t ms) all = met (interleaves.may_commit place.state t) (committed t ms (interleave_replies.commit_reply place t)) (by (dead_by place.state) refl)
    where
      by : (o : Option By) → dead_by place.state ≡ o → names_known known (commit_reply (interleave_replies.commit_reply place t)) ≡ true
      by None at = rw at (chosen (λ cuts. list_all (has_cut known) cuts ≡ true) (is_teardown (group_at place.state t.spot)) (map cut_of place.tasks) [] (cuts_named place.tasks all) refl)
      by (Some u) at = rw at refl
  domain_named place asks.Admit all = chosen (λ o. has_handed known o ≡ true) (is_some (admit_note place.state)) (slice_get place.tasks 0) None (first_handed place.tasks all) refl
  domain_named place (asks.Over t r how) all = met (interleaves.may_over place.state r) (replies.Done, notes.Over t r how) refl
  domain_named place (asks.Post m) all = refl
  domain_named place (asks.Claim t slot) all = refl
  domain_named place (asks.Consume t) all = refl
  domain_named place (asks.Free t) all = refl
  domain_named place (asks.Suspend t) all = refl
  domain_named place (asks.Book t r) all = refl
  domain_named place (asks.Unbook t) all = refl
  domain_named place (asks.Put t) all = refl
  domain_named place asks.Take all = refl
  domain_named place asks.Draw all = refl
  domain_named place asks.Leave all = refl
  domain_named place asks.Left all = refl

  abbrev DomainKeeps : InterleaveTasks → Type 0
  DomainKeeps place = list_all (knows_task known) place.tasks ≡ true

  domain_keeps : (place : InterleaveTasks) (ask : Ask) → is_known known ask ≡ true → DomainKeeps place → DomainKeeps (domains.after place ask)
  domain_keeps place (asks.Commit t ms) is all = chosen DomainKeeps (interleaves.may_commit place.state t) (interleave_replies.after_commit place t) place (by (dead_by place.state) refl) all
    where
      spared : list_all (knows_task known) (spared_tasks place t.spot) ≡ true
      spared = chosen (λ ts. list_all (knows_task known) ts ≡ true) (is_teardown (group_at place.state t.spot)) [] place.tasks refl all

      by : (o : Option By) → dead_by place.state ≡ o → DomainKeeps (interleave_replies.after_commit place t)
      by None at = rw at (all_more (knows_task known) (spared_tasks place t.spot) t spared is)
      by (Some u) at = rw at all
  domain_keeps place asks.Admit is all = chosen DomainKeeps (is_some (admit_note place.state)) (after_oldest place) place (all_parted (knows_task known) 1 place.tasks all).1 all
  domain_keeps place (asks.Over t r how) is all = chosen DomainKeeps (interleaves.may_over place.state r) (record place { state = after_over place.state r }) place all all
  domain_keeps place (asks.Post m) is all = all
  domain_keeps place (asks.Claim t slot) is all = all
  domain_keeps place (asks.Consume t) is all = all
  domain_keeps place (asks.Free t) is all = all
  domain_keeps place (asks.Suspend t) is all = all
  domain_keeps place (asks.Book t r) is all = all
  domain_keeps place (asks.Unbook t) is all = all
  domain_keeps place (asks.Put t) is all = all
  domain_keeps place asks.Take is all = all
  domain_keeps place asks.Draw is all = all
  domain_keeps place asks.Leave is all = all
  domain_keeps place asks.Left is all = all

  -- ---- sites

  -- who goes on has the spot of the one, the domain and queue of the other, and the causes of both
  resumed_named : (first t : Task) → knows_task known first ≡ true → knows_task known t ≡ true → knows_task known (resumed first t) ≡ true
  resumed_named first t one other =
      let p = and_parts _ (has_causes known first.causes) one in
      let q = and_parts _ (nat_lt first.queue known.queues) p.0 in
      let r = and_parts (has_spot known first.spot) (has_domain known first.arbiter) q.0 in
      let s = and_parts _ (has_causes known t.causes) other in
      let u = and_parts _ (nat_lt t.queue known.queues) s.0 in
      let v = and_parts (has_spot known t.spot) (has_domain known t.arbiter) u.0 in
      let a = and_parts (has_each known.causes first.causes) (are_apart first.causes) p.1 in
      let b = and_parts (has_each known.causes t.causes) (are_apart t.causes) s.1 in
      and_from ((has_spot known t.spot && has_domain known first.arbiter) && nat_lt first.queue known.queues) (has_causes known (resumed first t).causes)
      (and_from (has_spot known t.spot && has_domain known first.arbiter) (nat_lt first.queue known.queues)
      (and_from (has_spot known t.spot) (has_domain known first.arbiter) v.0 r.1)
      q.1)
      (and_from (has_each known.causes (resumed first t).causes) (are_apart (resumed first t).causes)
      (union_all (λ cause. nat_lt cause known.causes) first.causes t.causes a.0 b.0)
      (union_apart first.causes t.causes a.1))

  site_named : (site : SiteTasks) (ask : Ask) → is_known known ask ≡ true → list_all (knows_task known) site.suspended ≡ true → answers_known known (answered (sites.answer site ask)) ≡ true
  site_named site (asks.Commit t ms) is all = met (may_resume (site_state site) t) (committed t ms (resuming.commit_reply site t)) (by site.suspended all)
    where
      by : (ts : List Task) → list_all (knows_task known) ts ≡ true → names_known known (commit_reply (resuming.reply_of ts t)) ≡ true
      by [] all = refl
      by (first ∷ ts) all = and_from (knows_task known (resumed first t)) true (resumed_named first t (and_parts (knows_task known first) (list_all (knows_task known) ts) all).0 is) refl
  site_named site (asks.Suspend t) is all = refl
  site_named site (asks.Post m) is all = refl
  site_named site (asks.Claim t slot) is all = refl
  site_named site (asks.Consume t) is all = refl
  site_named site (asks.Free t) is all = refl
  site_named site asks.Admit is all = refl
  site_named site (asks.Over t r how) is all = refl
  site_named site (asks.Book t r) is all = refl
  site_named site (asks.Unbook t) is all = refl
  site_named site (asks.Put t) is all = refl
  site_named site asks.Take is all = refl
  site_named site asks.Draw is all = refl
  site_named site asks.Leave is all = refl
  site_named site asks.Left is all = refl

  abbrev SiteKeeps : SiteTasks → Type 0
  SiteKeeps site = list_all (knows_task known) site.suspended ≡ true

  site_keeps : (site : SiteTasks) (ask : Ask) → is_known known ask ≡ true → SiteKeeps site → SiteKeeps (sites.after site ask)
  site_keeps site (asks.Commit t ms) is all = chosen SiteKeeps (may_resume (site_state site) t) (resuming.after_commit site t) site
      (chosen SiteKeeps (nat_lt 0 (length site.suspended)) (record site { suspended = drop 1 site.suspended; fired = site.fired ++ t.id ∷ [] }) site (all_parted (knows_task known) 1 site.suspended all).1 all)
      all
  site_keeps site (asks.Suspend t) is all = all_more (knows_task known) site.suspended t all is
  site_keeps site (asks.Post m) is all = all
  site_keeps site (asks.Claim t slot) is all = all
  site_keeps site (asks.Consume t) is all = all
  site_keeps site (asks.Free t) is all = all
  site_keeps site asks.Admit is all = all
  site_keeps site (asks.Over t r how) is all = all
  site_keeps site (asks.Book t r) is all = all
  site_keeps site (asks.Unbook t) is all = all
  site_keeps site (asks.Put t) is all = all
  site_keeps site asks.Take is all = all
  site_keeps site asks.Draw is all = all
  site_keeps site asks.Leave is all = all
  site_keeps site asks.Left is all = all

  -- ---- queues

  book_named : (full : Option ℕ) → names_known known (queues.book_reply full) ≡ true
  book_named None = refl
  book_named (Some n) = refl

  queue_named : (queue : QueueTasks) (ask : Ask) → list_all (knows_task known) queue.tasks ≡ true → answers_known known (answered (queues.answer queue ask)) ≡ true
  queue_named queue (asks.Book t r) all = met (may_book queue.state t) (queues.book_reply (book_note queue.state r), notes.Book t r (book_note queue.state r)) (book_named (book_note queue.state r))
  queue_named queue (asks.Unbook t) all = met (may_unbook queue.state t) (replies.Done, notes.Unbook t) refl
  queue_named queue (asks.Put t) all = met (may_put queue.state t.id) (replies.Dropped (queues.dropped queue), notes.Put t.id (put_note queue.state))
      (chosen (λ o. has_handed known o ≡ true) (nat_le 1 (drop_count queue.state)) (slice_get queue.tasks 0) None (first_handed queue.tasks all) refl)
  queue_named queue asks.Take all = first_handed queue.tasks all
  queue_named queue (asks.Post m) all = refl
  queue_named queue (asks.Claim t slot) all = refl
  queue_named queue (asks.Consume t) all = refl
  queue_named queue (asks.Free t) all = refl
  queue_named queue (asks.Commit t ms) all = refl
  queue_named queue asks.Admit all = refl
  queue_named queue (asks.Over t r how) all = refl
  queue_named queue (asks.Suspend t) all = refl
  queue_named queue asks.Draw all = refl
  queue_named queue asks.Leave all = refl
  queue_named queue asks.Left all = refl

  abbrev QueueKeeps : QueueTasks → Type 0
  QueueKeeps queue = list_all (knows_task known) queue.tasks ≡ true

  queue_keeps : (queue : QueueTasks) (ask : Ask) → is_known known ask ≡ true → QueueKeeps queue → QueueKeeps (queues.after queue ask)
  queue_keeps queue (asks.Book t r) is all = chosen QueueKeeps (may_book queue.state t) (queues.with_state queue (after_book queue.state t r (book_note queue.state r))) queue all all
  queue_keeps queue (asks.Unbook t) is all = chosen QueueKeeps (may_unbook queue.state t) (queues.with_state queue (after_unbook queue.state t)) queue all all
  queue_keeps queue (asks.Put t) is all = chosen QueueKeeps (may_put queue.state t.id) (record { state = after_put queue.state t.id; tasks = drop (drop_count queue.state) queue.tasks ++ t ∷ [] }) queue
      (all_more (knows_task known) (drop (drop_count queue.state) queue.tasks) t (all_parted (knows_task known) (drop_count queue.state) queue.tasks all).1 is)
      all
  queue_keeps queue asks.Take is all = (all_parted (knows_task known) 1 queue.tasks all).1
  queue_keeps queue (asks.Post m) is all = all
  queue_keeps queue (asks.Claim t slot) is all = all
  queue_keeps queue (asks.Consume t) is all = all
  queue_keeps queue (asks.Free t) is all = all
  queue_keeps queue (asks.Commit t ms) is all = all
  queue_keeps queue asks.Admit is all = all
  queue_keeps queue (asks.Over t r how) is all = all
  queue_keeps queue (asks.Suspend t) is all = all
  queue_keeps queue asks.Draw is all = all
  queue_keeps queue asks.Leave is all = all
  queue_keeps queue asks.Left is all = all

  -- ---- the meter

  draw_named : (drawn : Option ℕ) → names_known known (meters.draw_reply drawn) ≡ true
  draw_named None = refl
  draw_named (Some n) = refl

  meter_named : (meter : MeterState) (ask : Ask) → answers_known known (answered (meters.answer meter ask)) ≡ true
  meter_named meter asks.Draw = draw_named (draw_note meter)
  meter_named meter asks.Leave = met (may_leave meter) (replies.Done, notes.Leave) refl
  meter_named meter asks.Left = refl
  meter_named meter (asks.Post m) = refl
  meter_named meter (asks.Claim t slot) = refl
  meter_named meter (asks.Consume t) = refl
  meter_named meter (asks.Free t) = refl
  meter_named meter (asks.Commit t ms) = refl
  meter_named meter asks.Admit = refl
  meter_named meter (asks.Over t r how) = refl
  meter_named meter (asks.Suspend t) = refl
  meter_named meter (asks.Book t r) = refl
  meter_named meter (asks.Unbook t) = refl
  meter_named meter (asks.Put t) = refl
  meter_named meter asks.Take = refl

  -- ---- any object

  object_named : (object : Object) (ask : Ask) → is_known known ask ≡ true → keeps_known known object ≡ true → answers_known known (answered (answer object ask)) ≡ true
  object_named (Port port) ask is all = port_named port ask all
  object_named (Arbiter arbiter) ask is all = arbiter_named arbiter ask is
  object_named (Interleave place) ask is all = domain_named place ask all
  object_named (Site site) ask is all = site_named site ask is all
  object_named (Queue queue) ask is all = queue_named queue ask all
  object_named (Meter meter) ask is all = meter_named meter ask

  object_keeps : (object : Object) (ask : Ask) → is_known known ask ≡ true → keeps_known known object ≡ true → keeps_known known (after object ask) ≡ true
  object_keeps (Port port) ask is all = port_keeps port ask is all
  object_keeps (Arbiter arbiter) ask is all = refl
  object_keeps (Interleave place) ask is all = domain_keeps place ask is all
  object_keeps (Site site) ask is all = site_keeps site ask is all
  object_keeps (Queue queue) ask is all = queue_keeps queue ask is all
  object_keeps (Meter meter) ask is all = refl

-- ---- a place

pub place_named : (place : Placed) (ask : Ask) → keeps_own place ≡ true → answers_known place.numbers (reply_of place ask) ≡ true
place_named place ask all = by (is_known place.numbers ask) refl
  where
    by : (b : Bool) → is_known place.numbers ask ≡ b → answers_known place.numbers (answered (if b then answer place.object ask else None)) ≡ true
    by true is = object_named place.numbers place.object ask is all
    by false is = refl

pub place_keeps : (place : Placed) (ask : Ask) → keeps_own place ≡ true → keeps_own (after_at place ask) ≡ true
place_keeps place ask all = by (is_known place.numbers ask) refl
  where
    by : (b : Bool) → is_known place.numbers ask ≡ b → keeps_known place.numbers (if b then after place.object ask else place.object) ≡ true
    by true is = object_keeps place.numbers place.object ask is all
    by false is = all

pub start_keeps : (wiring : Parts) (place : Place) → keeps_own (placed_at wiring place) ≡ true
start_keeps wiring (places.Port number) = refl
start_keeps wiring (places.Arbiter number) = by (kind_of wiring number)
  where
    by : (kind : Kind) → keeps_known (numbers_of wiring) (fresh_arbiter kind (members wiring number)) ≡ true
    by kinds.Receive = refl
    by kinds.Choice = refl
    by kinds.Interleave = refl
start_keeps wiring (places.Site branch site) = refl
start_keeps wiring (places.Queue number) = refl
start_keeps wiring places.Meter = refl
