-- A firing cuts no more tasks than there were acts.
use Rattle.std.proofs.Common.{◌≡◌, ◌≤◌, ℕ, ◌+◌, Bool, true, false, List, [], ◌∷◌, length, map, Option, Some, None, refl, arith, subst, length-append}
use Rattle.std.specs.Prelude.{◌==◌, cond, if◌then◌else◌, slice_get, is_some}
use Rattle.std.specs.Option.{option_map_or}
use Rattle.std.proofs.lemmas.List.{length-drop, length-map}
use Rattle.ccr_base.specs.declared.names.Place.{Place}
use Rattle.ccr_base.specs.declared.names.Place.TheVariants as places
use Rattle.ccr_base.specs.declared.names.MsgId.{MsgId}
use Rattle.ccr_base.specs.declared.names.TaskId.{TaskId}
use Rattle.ccr_base.specs.declared.tasks.By.{By}
use Rattle.ccr_base.specs.declared.tasks.By.TheVariants.{Fired as ByFired}
use Rattle.ccr_base.specs.declared.tasks.Cut.{Cut}
use Rattle.ccr_base.specs.declared.tasks.Commit.TheVariants as commits
use Rattle.ccr_base.specs.declared.tasks.Task.{Task}
use Rattle.ccr_wiring.specs.declared.parts.Kind.{Kind}
use Rattle.ccr_wiring.specs.declared.parts.Kind.TheVariants as kinds
use Rattle.ccr_wiring.specs.declared.parts.Parts.{Parts}
use Rattle.ccr_places.specs.declared.notes.Note.{Note}
use Rattle.ccr_places.specs.Interleaves.{InterleaveTasks, admit_note, dead_by, group_at, is_teardown, may_commit, may_over, after_over}
use Rattle.ccr_places.specs.Arbiters.{ArbiterState, retired_by}
use Rattle.ccr_arbiter.specs.Replies.{commit_reply as arbiter_reply}
use Rattle.ccr_await.specs.Resuming.{SiteTasks, commit_reply as site_reply, reply_of as suspended_reply}
use Rattle.ccr_interleave.specs.Replies.{after_commit, after_next, after_oldest, commit_reply, cut_of, cuts_at, spared_tasks}
use Rattle.ccr_claim.specs.declared.asks.Ask.{Ask}
use Rattle.ccr_claim.specs.declared.asks.Ask.TheVariants as asks
use Rattle.ccr_claim.specs.declared.asks.Due.{Due}
use Rattle.ccr_claim.specs.declared.asks.Due.TheVariants as dues
use Rattle.ccr_claim.specs.declared.asks.Reply.{Reply}
use Rattle.ccr_claim.specs.declared.asks.Reply.TheVariants as replies
use Rattle.ccr_claim.specs.Asks.{due_of, fits}
use Rattle.ccr_object.specs.declared.deed.PlaceAnswer.TheVariants.{Replied}
use Rattle.ccr_object.specs.declared.deed.Deed.{Deed}
use Rattle.ccr_object.specs.declared.object.Object.{Object}
use Rattle.ccr_object.specs.declared.object.Object.TheVariants.{Port, Arbiter, Interleave, Site, Queue, Meter}
use Rattle.ccr_object.specs.declared.object.Placed.{Placed}
use Rattle.ccr_object.specs.Commits.{commit_reply as told}
use Rattle.ccr_object.specs.Interleaves as interleaves
use Rattle.ccr_object.specs.Numbers.{is_known}
use Rattle.ccr_object.specs.Objects.{answer, after, answer_at, after_at, after_deed, answered, nothing, reply_of}
use Rattle.ccr_wiring.specs.Wirings.{kind_of}
use Rattle.ccr_object.specs.Starts.{fresh_arbiter, members, placed_at, places_of, start_at}
use Rattle.ccr_runs.specs.declared.acts.Act.{Act}
use Rattle.ccr_runs.specs.Stories.{Scene, moved}
use Rattle.ccr_net.specs.Acted.{scene_from, scene_after}
use Rattle.ccr_runs.specs.Played.{scene}
use Rattle.ccr_plain.proofs.CostsAreOwed.{cuts_in}

-- how many tasks wait at the object
abbrev pub waits_at : Object → ℕ
waits_at (Port port) = 0
waits_at (Arbiter arbiter) = 0
waits_at (Interleave place) = length place.tasks
waits_at (Site site) = 0
waits_at (Queue queue) = 0
waits_at (Meter meter) = 0

-- ---- one more act

spared-waits : (kept : InterleaveTasks) (task : Task) → length (spared_tasks kept task.spot) ≤ length kept.tasks
spared-waits kept task = elim (is_teardown (group_at kept.state task.spot)) as (λ b. length (if b then [] else kept.tasks) ≤ length kept.tasks) [ true ↦ omega arith | false ↦ omega arith ]

commit-waits : (kept : InterleaveTasks) (task : Task) → length (after_commit kept task).tasks ≤ length kept.tasks + 1
commit-waits kept task = by (dead_by kept.state) refl
  where
    by : (o : Option By) → dead_by kept.state ≡ o → length (after_commit kept task).tasks ≤ length kept.tasks + 1
    by None dead = rw dead (let all = length-append (spared_tasks kept task.spot) (task ∷ []) in let less = spared-waits kept task in omega (arith, all, less))
    by (Some x) dead = rw dead (omega arith)

next-waits : (kept : InterleaveTasks) → length (after_next kept).tasks ≤ length kept.tasks
next-waits kept = elim (is_some (admit_note kept.state)) as (λ b. length (if b then after_oldest kept else kept).tasks ≤ length kept.tasks) [ true ↦ (let less = length-drop 1 kept.tasks in omega (arith, less)) | false ↦ omega arith ]

interleave-waits : (place : InterleaveTasks) (ask : Ask) → length (interleaves.after place ask).tasks ≤ length place.tasks + 1
interleave-waits place (asks.Commit task ms) = elim (may_commit place.state task) as (λ b. length (if b then after_commit place task else place).tasks ≤ length place.tasks + 1) [ true ↦ commit-waits place task | false ↦ omega arith ]
interleave-waits place asks.Admit = let less = next-waits place in omega (arith, less)
interleave-waits place (asks.Over task root how) = elim (may_over place.state root) as (λ b. length (if b then record place { state = after_over place.state root } else place).tasks ≤ length place.tasks + 1) [ true ↦ omega arith | false ↦ omega arith ]
interleave-waits place (asks.Post m) = omega arith
interleave-waits place (asks.Claim t s) = omega arith
interleave-waits place (asks.Consume t) = omega arith
interleave-waits place (asks.Free t) = omega arith
interleave-waits place (asks.Suspend t) = omega arith
interleave-waits place (asks.Book t r) = omega arith
interleave-waits place (asks.Unbook t) = omega arith
interleave-waits place (asks.Put t) = omega arith
interleave-waits place asks.Take = omega arith
interleave-waits place asks.Draw = omega arith
interleave-waits place asks.Leave = omega arith
interleave-waits place asks.Left = omega arith

after-waits : (x : Object) (ask : Ask) → waits_at (after x ask) ≤ waits_at x + 1
after-waits (Port port) ask = omega arith
after-waits (Arbiter arbiter) ask = omega arith
after-waits (Interleave place) ask = interleave-waits place ask
after-waits (Site site) ask = omega arith
after-waits (Queue queue) ask = omega arith
after-waits (Meter meter) ask = omega arith

after_at-waits : (place : Placed) (ask : Ask) → waits_at (after_at place ask).object ≤ waits_at place.object + 1
after_at-waits place ask = elim (is_known place.numbers ask) as (λ b. waits_at (if b then after place.object ask else place.object) ≤ waits_at place.object + 1) [ true ↦ after-waits place.object ask | false ↦ omega arith ]

start-waits : (w : Parts) (place : Place) → waits_at (start_at w place) ≡ 0
start-waits w (places.Port p) = refl
start-waits w (places.Arbiter i) = by (kind_of w i)
  where
    by : (kind : Kind) → waits_at (fresh_arbiter kind (members w i)) ≡ 0
    by kinds.Receive = refl
    by kinds.Choice = refl
    by kinds.Interleave = refl
start-waits w (places.Site b k) = refl
start-waits w (places.Queue q) = refl
start-waits w places.Meter = refl

scene-waits : (w : Parts) (o : Option Place) → waits_at (option_map_or (placed_at w) o nothing).object ≡ 0
scene-waits w None = refl
scene-waits w (Some place) = start-waits w place

acts-wait : (v : Scene Placed) (count : ℕ) → ((n : ℕ) → waits_at (v n).0.object ≤ count) → (acts : List (Act Deed)) (n : ℕ) → waits_at (scene_from v acts n).0.object ≤ count + length acts
acts-wait v count few [] n = let less = few n in omega (arith, less)
acts-wait v count few (act ∷ acts) n = let rest = acts-wait (moved after_deed v act) (count + 1) on acts n in omega (arith, rest)
  where
    on : (k : ℕ) → waits_at (moved after_deed v act k).0.object ≤ count + 1
    on k = let less = few k in elim (act.place == k) as (λ b. waits_at (cond b (after_deed (v k).0 act.note, act.stamp) (v k)).0.object ≤ count + 1) [ true ↦ (let one = after_at-waits (v k).0 act.note.ask.value in omega (arith, less, one)) | false ↦ omega (arith, less) ]

-- no more wait anywhere than there were acts
pub scene_after-waits : (w : Parts) (acts : List (Act Deed)) (n : ℕ) → waits_at (scene_after w acts n).0.object ≤ length acts
scene_after-waits w acts n = let few = acts-wait (scene w) 0 (λ k. let none = scene-waits w (slice_get (places_of w) k) in omega (arith, none)) acts n in omega (arith, few)

-- ---- what is replied

told-cuts : (kept : InterleaveTasks) (task : Task) → cuts_in (told (commit_reply kept task)) ≤ length kept.tasks
told-cuts kept task = by (dead_by kept.state) refl
  where
    cuts : length (cuts_at kept task.spot) ≤ length kept.tasks
    cuts = elim (is_teardown (group_at kept.state task.spot)) as (λ b. length (if b then map cut_of kept.tasks else []) ≤ length kept.tasks) [ true ↦ (let same = length-map kept.tasks cut_of in omega (arith, same)) | false ↦ omega arith ]

    by : (o : Option By) → dead_by kept.state ≡ o → cuts_in (told (commit_reply kept task)) ≤ length kept.tasks
    by None dead = rw dead cuts
    by (Some x) dead = rw dead (omega arith)

arbiter-cuts : (arbiter : ArbiterState) (task : Task) → cuts_in (told (arbiter_reply arbiter task)) ≡ 0
arbiter-cuts arbiter task = elim (retired_by arbiter) as (λ o. cuts_in (told (option_map_or (λ (earlier : TaskId). commits.Dead (ByFired earlier)) o (commits.Fired (Some task) []))) ≡ 0) [ None ↦ refl | Some x ↦ refl ]

site-cuts : (site : SiteTasks) (task : Task) → cuts_in (told (site_reply site task)) ≡ 0
site-cuts site task = elim site.suspended as (λ xs. cuts_in (told (suspended_reply xs task)) ≡ 0) [ [] ↦ refl | x ∷ xs ↦ refl ]

-- the answer cuts so many at most, where it is one
abbrev IsFew : ℕ → Option (Reply × Note) → Type 0
IsFew count None = Unit {0}
IsFew count (Some given) = cuts_in given.0 ≤ count

few_if : (count : ℕ) (b : Bool) (given : Reply × Note) → cuts_in given.0 ≤ count → IsFew count (if b then Some given else None)
few_if count true given few = few
few_if count false given few = tt

commit-few : (x : Object) (task : Task) (ms : List MsgId) → IsFew (waits_at x) (answer x (asks.Commit task ms))
commit-few (Port port) task ms = tt
commit-few (Arbiter arbiter) task ms = few_if 0 _ _ (let none = arbiter-cuts arbiter task in omega (arith, none))
commit-few (Interleave place) task ms = few_if (length place.tasks) _ _ (told-cuts place task)
commit-few (Site site) task ms = few_if 0 _ _ (let none = site-cuts site task in omega (arith, none))
commit-few (Queue queue) task ms = tt
commit-few (Meter meter) task ms = tt

at-few : (place : Placed) (task : Task) (ms : List MsgId) → IsFew (waits_at place.object) (answer_at place (asks.Commit task ms))
at-few place task ms = elim (is_known place.numbers (asks.Commit task ms)) as (λ b. IsFew (waits_at place.object) (if b then answer place.object (asks.Commit task ms) else None)) [ true ↦ commit-few place.object task ms | false ↦ tt ]

replied-few : (count : ℕ) (o : Option (Reply × Note)) (r : Reply) → IsFew count o → answered o ≡ Replied r → cuts_in r ≤ count
replied-few count None r few e = absurd (cc)
replied-few count (Some given) r few e = let same : given.0 ≡ r = cc in subst (λ x. cuts_in x ≤ count) same few

abbrev is_commit : Due → Bool
is_commit dues.Commit = true
is_commit dues.Nothing = false
is_commit dues.Settled = false
is_commit dues.Put = false
is_commit dues.Done = false
is_commit dues.Booking = false
is_commit (dues.Claim slot) = false
is_commit dues.Admission = false
is_commit dues.Take = false
is_commit dues.Draw = false
is_commit dues.Left = false

-- nothing but a commit fires
no_firing : (d : Due) (task : Option Task) (cuts : List Cut) → is_commit d ≡ false → fits d (replies.Fired task cuts) ≡ true → length cuts ≡ 0
no_firing dues.Commit task cuts other fit = absurd (cc)
no_firing dues.Nothing task cuts other fit = absurd (cc)
no_firing dues.Settled task cuts other fit = absurd (cc)
no_firing dues.Put task cuts other fit = absurd (cc)
no_firing dues.Done task cuts other fit = absurd (cc)
no_firing dues.Booking task cuts other fit = absurd (cc)
no_firing (dues.Claim slot) task cuts other fit = absurd (cc)
no_firing dues.Admission task cuts other fit = absurd (cc)
no_firing dues.Take task cuts other fit = absurd (cc)
no_firing dues.Draw task cuts other fit = absurd (cc)
no_firing dues.Left task cuts other fit = absurd (cc)

no_cuts : (d : Due) (count : ℕ) (r : Reply) → is_commit d ≡ false → fits d r ≡ true → cuts_in r ≤ count
no_cuts d count (replies.Fired task cuts) other fit = let none = no_firing d task cuts other fit in omega (arith, none)
no_cuts d count replies.Done other fit = omega arith
no_cuts d count (replies.Got m) other fit = omega arith
no_cuts d count (replies.Busy t) other fit = omega arith
no_cuts d count (replies.Short n) other fit = omega arith
no_cuts d count (replies.Dead x) other fit = omega arith
no_cuts d count (replies.Admitted t) other fit = omega arith
no_cuts d count replies.Booked other fit = omega arith
no_cuts d count (replies.Full n) other fit = omega arith
no_cuts d count (replies.Dropped t) other fit = omega arith
no_cuts d count (replies.Taken t) other fit = omega arith
no_cuts d count (replies.Drawn n) other fit = omega arith
no_cuts d count replies.Spent other fit = omega arith
no_cuts d count (replies.Left n) other fit = omega arith

-- a firing that is replied after these acts cuts no more tasks than there were acts
pub cuts_within : (w : Parts) (acts : List (Act Deed)) (n : ℕ) (ask : Ask) (r : Reply) → fits (due_of ask) r ≡ true → reply_of (scene_after w acts n).0 ask ≡ Replied r → cuts_in r ≤ length acts
cuts_within w acts n ask r = by ask
  where
    by : (x : Ask) → fits (due_of x) r ≡ true → reply_of (scene_after w acts n).0 x ≡ Replied r → cuts_in r ≤ length acts
    by (asks.Commit task ms) fit e =
        let one = replied-few (waits_at (scene_after w acts n).0.object) (answer_at (scene_after w acts n).0 (asks.Commit task ms)) r (at-few (scene_after w acts n).0 task ms) e in
        let few = scene_after-waits w acts n in
        omega (arith, one, few)
    by (asks.Post m) fit e = no_cuts dues.Done (length acts) r refl fit
    by (asks.Claim t s) fit e = no_cuts (dues.Claim s) (length acts) r refl fit
    by (asks.Consume t) fit e = no_cuts dues.Settled (length acts) r refl fit
    by (asks.Free t) fit e = no_cuts dues.Settled (length acts) r refl fit
    by asks.Admit fit e = no_cuts dues.Admission (length acts) r refl fit
    by (asks.Over t root how) fit e = no_cuts dues.Settled (length acts) r refl fit
    by (asks.Suspend t) fit e = no_cuts dues.Done (length acts) r refl fit
    by (asks.Book t b) fit e = no_cuts dues.Booking (length acts) r refl fit
    by (asks.Unbook t) fit e = no_cuts dues.Settled (length acts) r refl fit
    by (asks.Put t) fit e = no_cuts dues.Put (length acts) r refl fit
    by asks.Take fit e = no_cuts dues.Take (length acts) r refl fit
    by asks.Draw fit e = no_cuts dues.Draw (length acts) r refl fit
    by asks.Leave fit e = no_cuts dues.Done (length acts) r refl fit
    by asks.Left fit e = no_cuts dues.Left (length acts) r refl fit
