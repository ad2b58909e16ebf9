-- A legal history has at most six events for each message.
use Rattle.std.proofs.Common.{◌≡◌, ℕ, ◌+◌, ◌≤◌, true, false, not, ◌&&◌, List, [], ◌∷◌, ◌++◌, length, map, Option, Some, refl, arith, append-nil}
use Rattle.std.specs.Prelude.{◌==◌}
use Rattle.std.proofs.lemmas.Grind.{common_steps}
use Rattle.std.proofs.lemmas.List.{length-map}
use Rattle.ccr_base.specs.declared.names.TaskId.{TaskId}
use Rattle.ccr_base.specs.declared.names.MsgId.{MsgId}
use Rattle.ccr_base.specs.declared.messages.Msg.{Msg}
use Rattle.ccr_base.specs.declared.names.Spot.{Spot}
use Rattle.ccr_wiring.specs.declared.parts.Parts.{Parts}
use Rattle.ccr_wiring.specs.Openness.{is_closed}
use Rattle.ccr_wiring.specs.Wirings.{Placement}
use Rattle.ccr_model.specs.declared.history.Event.{Event}
use Rattle.ccr_model.specs.declared.history.Event.TheVariants.{Post, Fire, Admit, Put, Start, End}
use Rattle.ccr_model.specs.declared.history.EndHow.{EndHow}
use Rattle.ccr_base.specs.Names.{has_task}
use Rattle.ccr_model.specs.Posts.{posts}
use Rattle.ccr_model.specs.Firings.{Firing, firings, firing_of, firing_named, spot_of, fired, ever_admitted, put, started, ended, cut}
use Rattle.ccr_model.specs.TaskData.{placement_of}
use Rattle.ccr_model.specs.Tasks.{is_interleave, fired_by, waiting, running}
use Rattle.ccr_model.specs.Rules.{is_first, is_oldest_waiting, may_put}
use Rattle.ccr_model.specs.Legal.{IsAllowed, IsLegal}
use Rattle.ccr_model.proofs.PostNames.{along, refused_not}
use Rattle.ccr_model.proofs.QuietAllowsNone.{first_is}
use Rattle.ccr_model.proofs.Allowing.{head_passes}
use Rattle.ccr_model.proofs.TakenOnce.{FireFacts-allowed, untaken}
use Rattle.ccr_model.proofs.OneMoreEvent.{firings-push, fired-fire, put-push, started-push, ended-push, ever_admitted-push}
use Rattle.ccr_base.proofs.Options.{some_of, some_map, head_rest}
use Rattle.ccr_model.proofs.TasksLeft.{of_without, out_left}
use Rattle.ccr_base.proofs.Booleans.{both}
use Rattle.ccr_model.proofs.FiredTasks.{fired_has, placement_fired}
use Rattle.ccr_model.proofs.PostCounts.{few_posts}
use Rattle.ccr_model.proofs.WhoWasPut.{StartFacts-allowed, StartFacts-queued}
use Rattle.ccr_laws.specs.Potential.{TakesSome, event_bound}
use Rattle.ccr_laws.proofs.EachGoesOnOnce.{Fits, Fits-came, Fits-gone}
use Rattle.ccr_laws.proofs.MessagesAreTakenOnce.{untaken_post, untaken_fire}

-- what is known of the numbers of events of each kind
pub record AreFew (h : List Event) : Type 0 where
  pub fires : length (firings h) + length (untaken h) ≤ length (posts h)
  pub admits : Fits (fired h) (ever_admitted h)
  pub puts : Fits (fired h) (put h)
  pub starts : Fits (put h) (started h)
  pub ends : Fits (started h) (ended h)

-- who has a spot has fired
spot_fired : (h : List Event) (t : TaskId) (s : Spot) → spot_of h t ≡ Some s → has_task (fired h) t ≡ true
spot_fired h t s is = fired_has h t (some_map (λ (f : Firing). f.spot) (firing_named h t) s is)

-- who is admitted fired, and wasn't admitted
admit_next : (w : Parts) (h : List Event) (t : TaskId) → is_oldest_waiting w h t ≡ true → (has_task (fired h) t ≡ true) × (has_task (ever_admitted h) t ≡ false)
admit_next w h t is =
    let found = some_of (λ (s : Placement). is_first (waiting w h s.domain) t) (placement_of w h t) is in
    let n = found.0.domain in
    let head = head_rest (waiting w h n) t (first_is (waiting w h n) t found.2) in
    let passes = head_passes (λ u. not (has_task (ever_admitted h ++ cut h) u)) (fired_by w (λ s. is_interleave s.kind && (s.domain == n)) h) t head.0 head.1 in
    let out : has_task (ever_admitted h ++ cut h) t ≡ false = grind (arith, passes) in
    (fired_has h t (placement_fired w h t found.0 found.1), out_left (ever_admitted h) (cut h) t out)

-- who is put fired, and wasn't put
put_next : (w : Parts) (h : List Event) (t : TaskId) → may_put w h t ≡ true → (has_task (fired h) t ≡ true) × (has_task (put h) t ≡ false)
put_next w h t is =
    let parts = both (not (has_task (put h) t) && not (has_task (cut h) t)) _ is in
    let front = both (not (has_task (put h) t)) (not (has_task (cut h) t)) parts.0 in
    let placed = some_of _ (spot_of h t) parts.1 in
    (spot_fired h t placed.0 placed.1, grind (arith, front.0))

few_post : (h : List Event) (m : Msg) → AreFew h → AreFew (h ++ Post m ∷ [])
few_post h m few =
    let posts_so : length (posts (h ++ Post m ∷ [])) ≡ length (posts h) + 1 = grind (arith, common_steps) in
    record {
      fires = rw (firings-push, append-nil) (omega (arith, few.fires, posts_so, untaken_post h m));
      admits = rw (firings-push, ever_admitted-push, append-nil, append-nil) few.admits;
      puts = rw (firings-push, put-push, append-nil, append-nil) few.puts;
      starts = rw (put-push, started-push, append-nil, append-nil) few.starts;
      ends = rw (started-push, ended-push, append-nil, append-nil) few.ends;
    }

few_fire : (w : Parts) → TakesSome w → (h : List Event) (t : TaskId) (s : Spot) (ms : List MsgId) (cs : List TaskId) → IsAllowed w h (Fire t s ms cs) → AreFew h → AreFew (h ++ Fire t s ms cs ∷ [])
few_fire w some h t s ms cs allowed few =
    let less = untaken_fire w some h t s ms cs (FireFacts-allowed w h t s ms cs allowed).selection_made in
    let more : length (firings (h ++ Fire t s ms cs ∷ [])) ≡ length (firings h) + 1 = grind (arith, common_steps) in
    let posts_so : length (posts (h ++ Fire t s ms cs ∷ [])) ≡ length (posts h) = grind (arith, common_steps) in
    record {
      fires = omega (arith, few.fires, less, more, posts_so);
      admits = rw (fired-fire, ever_admitted-push, append-nil) (Fits-came (fired h) (ever_admitted h) t few.admits);
      puts = rw (fired-fire, put-push, append-nil) (Fits-came (fired h) (put h) t few.puts);
      starts = rw (put-push, started-push, append-nil, append-nil) few.starts;
      ends = rw (started-push, ended-push, append-nil, append-nil) few.ends;
    }

-- an event that is no post and no firing
same_fires : (h : List Event) (e : Event) → firing_of e ≡ [] → length (posts (h ++ e ∷ [])) ≡ length (posts h) → length (untaken (h ++ e ∷ [])) ≡ length (untaken h) → AreFew h → length (firings (h ++ e ∷ [])) + length (untaken (h ++ e ∷ [])) ≤ length (posts (h ++ e ∷ []))
same_fires h e none posts_so untaken_so few =
    let same : length (firings (h ++ e ∷ [])) ≡ length (firings h) = rw (firings-push, none, append-nil) refl in
    omega (arith, same, posts_so, untaken_so, few.fires)

few_admit : (w : Parts) (h : List Event) (t : TaskId) → IsAllowed w h (Admit t) → AreFew h → AreFew (h ++ Admit t ∷ [])
few_admit w h t allowed few =
    let next = admit_next w h t (refused_not (is_oldest_waiting w h t) _ _ allowed).0 in
    record {
      fires = same_fires h (Admit t) refl (grind (arith, common_steps)) (grind (arith, common_steps)) few;
      admits = rw (firings-push, ever_admitted-push, append-nil) (Fits-gone (fired h) (ever_admitted h) t few.admits next.0 next.1);
      puts = rw (firings-push, put-push, append-nil, append-nil) few.puts;
      starts = rw (put-push, started-push, append-nil, append-nil) few.starts;
      ends = rw (started-push, ended-push, append-nil, append-nil) few.ends;
    }

few_put : (w : Parts) (h : List Event) (t : TaskId) (d : Option TaskId) → IsAllowed w h (Put t d) → AreFew h → AreFew (h ++ Put t d ∷ [])
few_put w h t d allowed few =
    let next = put_next w h t (refused_not (may_put w h t) _ _ allowed).0 in
    record {
      fires = same_fires h (Put t d) refl (grind (arith, common_steps)) (grind (arith, common_steps)) few;
      admits = rw (firings-push, ever_admitted-push, append-nil, append-nil) few.admits;
      puts = rw (firings-push, put-push, append-nil) (Fits-gone (fired h) (put h) t few.puts next.0 next.1);
      starts = rw (put-push, started-push, append-nil) (Fits-came (put h) (started h) t few.starts);
      ends = rw (started-push, ended-push, append-nil, append-nil) few.ends;
    }

few_start : (w : Parts) (h : List Event) (t : TaskId) (a : ℕ) → IsAllowed w h (Start t a) → AreFew h → AreFew (h ++ Start t a ∷ [])
few_start w h t a allowed few =
    let next = StartFacts-queued w h t (StartFacts-allowed w h t a allowed) in
    record {
      fires = same_fires h (Start t a) refl (grind (arith, common_steps)) (grind (arith, common_steps)) few;
      admits = rw (firings-push, ever_admitted-push, append-nil, append-nil) few.admits;
      puts = rw (firings-push, put-push, append-nil, append-nil) few.puts;
      starts = rw (put-push, started-push, append-nil) (Fits-gone (put h) (started h) t few.starts next.put_so next.not_started);
      ends = rw (started-push, ended-push, append-nil) (Fits-came (started h) (ended h) t few.ends);
    }

few_end : (w : Parts) (h : List Event) (t : TaskId) (how : EndHow) → IsAllowed w h (End t how) → AreFew h → AreFew (h ++ End t how ∷ [])
few_end w h t how allowed few =
    let next = of_without (started h) (ended h) t (refused_not (has_task (running h) t) _ _ allowed).0 in
    record {
      fires = same_fires h (End t how) refl (grind (arith, common_steps)) (grind (arith, common_steps)) few;
      admits = rw (firings-push, ever_admitted-push, append-nil, append-nil) few.admits;
      puts = rw (firings-push, put-push, append-nil, append-nil) few.puts;
      starts = rw (put-push, started-push, append-nil, append-nil) few.starts;
      ends = rw (started-push, ended-push, append-nil) (Fits-gone (started h) (ended h) t few.ends next.0 next.1);
    }

AreFew_kept : (w : Parts) → TakesSome w → (h : List Event) (e : Event) → AreFew h → IsAllowed w h e → AreFew (h ++ e ∷ [])
AreFew_kept w some h (Post m) few allowed = few_post h m few
AreFew_kept w some h (Fire t s ms cs) few allowed = few_fire w some h t s ms cs allowed few
AreFew_kept w some h (Admit t) few allowed = few_admit w h t allowed few
AreFew_kept w some h (Put t d) few allowed = few_put w h t d allowed few
AreFew_kept w some h (Start t a) few allowed = few_start w h t a allowed few
AreFew_kept w some h (End t how) few allowed = few_end w h t how allowed few

pub AreFew-legal : (w : Parts) → TakesSome w → (h : List Event) → IsLegal w h → AreFew h
AreFew-legal w some h legal = along w AreFew (AreFew_kept w some) (record { fires = omega arith; admits = record { few = omega arith }; puts = record { few = omega arith }; starts = record { few = omega arith }; ends = record { few = omega arith } }) h legal

-- each event is of one kind
pub all_kinds : (h : List Event) → length h ≡ length (posts h) + (length (firings h) + (length (ever_admitted h) + (length (put h) + (length (started h) + length (ended h)))))
all_kinds [] = refl
all_kinds (Post m ∷ h) = omega (arith, all_kinds h)
all_kinds (Fire t s ms cs ∷ h) = omega (arith, all_kinds h)
all_kinds (Admit t ∷ h) = omega (arith, all_kinds h)
all_kinds (Put t d ∷ h) = omega (arith, all_kinds h)
all_kinds (Start t a ∷ h) = omega (arith, all_kinds h)
all_kinds (End t how ∷ h) = omega (arith, all_kinds h)

pub fired-length : (fs : List Firing) → length (map (λ (f : Firing). f.task) fs) ≡ length fs
fired-length fs = length-map fs (λ (f : Firing). f.task)

-- a legal history has at most six events for each message that may be posted
pub few_events : (w : Parts) → TakesSome w → is_closed w ≡ true → (h : List Event) → IsLegal w h → length h ≤ event_bound w
unfolding event_bound
few_events w some closed h legal =
    let few = AreFew-legal w some h legal in
    omega (arith, all_kinds h, few.fires, few.admits.few, few.puts.few, few.starts.few, few.ends.few, fired-length (firings h), few_posts w closed h legal)
