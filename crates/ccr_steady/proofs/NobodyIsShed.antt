-- Where some closed list costs no more than the budget, no task is shed.
use Rattle.std.proofs.Common.{◌≡◌, inl, inr, ℕ, zero, suc, ◌<◌, ◌≤◌, Bool, true, false, not, List, [], ◌∷◌, ◌++◌, length, drop, None, refl, sym, ◌∙◌, subst, append-nil, arith}
use Rattle.std.specs.Prelude.{◌==◌, ◌&&◌, ◌||◌}
use Rattle.std.proofs.lemmas.Bool.Decides.{nat_tests}
use Rattle.ccr_base.specs.declared.names.TaskId.{TaskId}
use Rattle.ccr_base.specs.declared.names.MsgId.{MsgId}
use Rattle.ccr_base.specs.declared.names.MsgId.TheVariants.{Script, Task}
use Rattle.ccr_base.specs.declared.messages.Msg.{Msg}
use Rattle.ccr_base.specs.Names.{same_task, has_task}
use Rattle.ccr_wiring.specs.declared.parts.Parts.{Parts}
use Rattle.ccr_wiring.specs.Wirings.{placements}
use Rattle.ccr_wiring.specs.Valid.{IsValid}
use Rattle.ccr_wiring.proofs.Soundness.{sound}
use Rattle.ccr_model.specs.declared.history.Event.{Event}
use Rattle.ccr_model.specs.declared.history.Event.TheVariants as events
use Rattle.ccr_model.specs.declared.history.EndHow.TheVariants as ends
use Rattle.ccr_model.specs.Posts.{posts, posts_of_task, posts_of_tasks}
use Rattle.ccr_model.specs.Firings.{Firing, firings, firing_of, ended, ended_by}
use Rattle.ccr_model.specs.Tasks.{running, has_post_left}
use Rattle.ccr_model.specs.TaskData.{play_of}
use Rattle.ccr_model.specs.Rules.{refusal_of_post, is_play_post, may_end, may_shed}
use Rattle.ccr_model.specs.Legal.{IsAllowed, IsLegal, IsQuiet, has_shed, is_complete, are_whole_from}
use Rattle.ccr_base.proofs.Booleans.{both, no_both}
use Rattle.ccr_model.specs.Counts.{is_shed as is_shed_end}
use Rattle.ccr_model.proofs.LegalParts.{along_legal}
use Rattle.ccr_model.proofs.Members.{Among, Among-left, found_among, find_passes}
use Rattle.ccr_model.proofs.PostNames.{refused_not}
use Rattle.ccr_model.proofs.OneMoreEvent.{posts-push, firings-push, ended-push, has_shed-push}
use Rattle.ccr_base.proofs.SameNames.{same_task-is, has_task-last}
use Rattle.ccr_model.proofs.Ending.{RunningFacts-running}
use Rattle.ccr_steady.specs.Flow.{posts_weigh, IsSteady, IsClosed, IsFlow, weigh, each, task_posts}
use Rattle.ccr_laws.specs.Times.{times_fired}
use Rattle.ccr_steady.proofs.Paying.{planned, due, times_at}
use Rattle.ccr_steady.proofs.Sums.{summed_more}
use Rattle.ccr_steady.proofs.Tasks.{by_other, by_script}
use Rattle.ccr_steady.proofs.ClosedListsBound.{within_closed}
use Rattle.ccr_steady.proofs.CountsAreClosed.{planned_length}
use Rattle.ccr_steady.proofs.Counts.{posts_balance, flows}
use Rattle.ccr_model.proofs.TaskLists.{among_left as front_has}
use Rattle.ccr_model.proofs.WhoWasPut.{started_fired}
use Rattle.ccr_gen.specs.Weights.{by_task}

-- a firing whose task ended before it posted all
record Cheated (w : Parts) (h : List Event) : Type 0 where
  firing : Firing
  among : Among firing (firings h)
  over : has_task (ended h) firing.task ≡ true
  owes : by_task (posts h) firing.task < length (planned w firing.spot)

-- an ended task posts no more
post_keeps : (w : Parts) (h : List Event) (m : Msg) (name : MsgId) (t : TaskId) → m.id ≡ name → refusal_of_post w h m name ≡ None → has_task (ended h) t ≡ true → by_task (posts h ++ m ∷ []) t ≡ by_task (posts h) t
post_keeps w h m (Script actor index) t named is over = by_script (posts h) m t actor index named
post_keeps w h m (Task u index) t named is over =
    let a = refused_not (is_play_post w h u index m) _ _ is in
    let b = both (has_task (running h) u && (index == posts_of_task h u)) _ a.0 in
    let runs = RunningFacts-running h u (both (has_task (running h) u) (index == posts_of_task h u) b.0).0 in
    by (same_task t u) refl runs.not_ended
  where
    by : (o : Bool) → same_task t u ≡ o → has_task (ended h) u ≡ false → by_task (posts h ++ m ∷ []) t ≡ by_task (posts h) t
    by true e still = let same : t ≡ u = same_task-is t u e in absurd (no_both (subst (λ (x : TaskId). has_task (ended h) x ≡ true) same over) still)
    by false e still = by_other (posts h) m u t index named e

keeps : (w : Parts) (h : List Event) (e : Event) → IsAllowed w h e → (c : Cheated w h) → by_task (posts (h ++ e ∷ [])) c.firing.task ≡ by_task (posts h) c.firing.task → Cheated w (h ++ e ∷ [])
keeps w h e allowed c same = record {
  firing = c.firing;
  among = rw firings-push (Among-left c.firing (firings h) (firing_of e) c.among);
  over = rw ended-push (front_has (ended h) (ended_by e) c.firing.task c.over);
  owes = rw same c.owes;
}

same_posts : (w : Parts) (h : List Event) (e : Event) (t : TaskId) → IsAllowed w h e → has_task (ended h) t ≡ true → by_task (posts (h ++ e ∷ [])) t ≡ by_task (posts h) t
same_posts w h (events.Post m) t allowed over = rw posts-push (post_keeps w h m m.id t refl allowed over)
same_posts w h (events.Fire u s ms cs) t allowed over = rw (posts-push, append-nil) refl
same_posts w h (events.Admit u) t allowed over = rw (posts-push, append-nil) refl
same_posts w h (events.Put u d) t allowed over = rw (posts-push, append-nil) refl
same_posts w h (events.Start u a) t allowed over = rw (posts-push, append-nil) refl
same_posts w h (events.End u how) t allowed over = rw (posts-push, append-nil) refl

shed_cheats : (w : Parts) → IsSteady w → (h : List Event) (t : TaskId) → IsLegal w h → IsAllowed w h (events.End t ends.Shed) → Cheated w (h ++ events.End t ends.Shed ∷ [])
shed_cheats w steady h t legal allowed =
    let a = refused_not (has_task (running h) t) _ _ allowed in
    let may : may_shed w h t ≡ true = (refused_not (may_end w h t ends.Shed) _ None a.1).0 in
    let owed = (both (has_post_left w h t) _ may).0 in
    let runs = RunningFacts-running h t a.0 in
    let firing = started_fired w h legal t runs.started_so in
    let long = planned_length w steady h t firing.0 firing.1 in
    let less : posts_of_task h t < length (play_of w h t).posts = grind (arith, nat_tests, owed) in
    let mine = same_task-is firing.0.task t (find_passes (λ (g : Firing). same_task g.task t) (firings h) firing.0 firing.1) in
    let owes : by_task (posts h) t < length (planned w firing.0.spot) = omega (arith, less, long) in
    record {
      firing = firing.0;
      among = rw firings-push (Among-left firing.0 (firings h) [] (found_among (λ (g : Firing). same_task g.task t) (firings h) firing.0 firing.1));
      over = rw (ended-push, mine) (has_task-last (ended h) t);
      owes = rw (posts-push, append-nil, mine) owes;
    }

shed_ends : (w : Parts) → IsSteady w → (h : List Event) (e : Event) → IsLegal w h → IsAllowed w h e → is_shed_end e ≡ true → Cheated w (h ++ e ∷ [])
shed_ends w steady h (events.End t ends.Shed) legal allowed is = shed_cheats w steady h t legal allowed
shed_ends w steady h (events.End t ends.Done) legal allowed is = absurd cc
shed_ends w steady h (events.End t (ends.Failed v)) legal allowed is = absurd cc
shed_ends w steady h (events.End t ends.Yield) legal allowed is = absurd cc
shed_ends w steady h (events.Post m) legal allowed is = absurd cc
shed_ends w steady h (events.Fire t s ms cs) legal allowed is = absurd cc
shed_ends w steady h (events.Admit t) legal allowed is = absurd cc
shed_ends w steady h (events.Put t d) legal allowed is = absurd cc
shed_ends w steady h (events.Start t a) legal allowed is = absurd cc

cheat_kept : (w : Parts) → IsSteady w → (h : List Event) (e : Event) → IsLegal w h → IsAllowed w h e → (has_shed h ≡ true → Cheated w h) → has_shed (h ++ e ∷ []) ≡ true → Cheated w (h ++ e ∷ [])
cheat_kept w steady h e legal allowed old shed = by (has_shed h) refl (sym (has_shed-push h e) ∙ shed)
  where
    by : (b : Bool) → has_shed h ≡ b → has_shed h || is_shed_end e ≡ true → Cheated w (h ++ e ∷ [])
    by true is any = let c = old is in keeps w h e allowed c (same_posts w h e c.firing.task allowed c.over)
    by false is any = shed_ends w steady h e legal allowed (subst (λ (b : Bool). b || is_shed_end e ≡ true) is any)

cheated : (w : Parts) → IsSteady w → (h : List Event) → IsLegal w h → has_shed h ≡ true → Cheated w h
cheated w steady h legal = along_legal w (λ g. has_shed g ≡ true → Cheated w g) (cheat_kept w steady) (λ shed. absurd (cc)) h legal

some_left : (n : ℕ) (ports : List ℕ) → n < length ports → 0 < weigh each (drop n ports)
some_left n [] less = absurd (omega (arith, less))
some_left zero (p ∷ ports) less = omega arith
some_left (suc n) (p ∷ ports) less = some_left n ports (omega (arith, less))

some_due : (w : Parts) (ms : List Msg) (fs : List Firing) (f : Firing) → Among f fs → by_task ms f.task < length (planned w f.spot) → 0 < due w each ms fs
some_due w ms [] f among less = absurd among
some_due w ms (g ∷ fs) f (inl e) less =
    let here : by_task ms g.task < length (planned w g.spot) = subst (λ (x : Firing). by_task ms x.task < length (planned w x.spot)) e less in
    let some = some_left (by_task ms g.task) (planned w g.spot) here in
    omega (arith, some)
some_due w ms (g ∷ fs) f (inr more) less = let rest = some_due w ms fs f more less in omega (arith, rest)

-- a complete history has no shed end where some closed list has no more task posts than the budget
pub none_shed : (w : Parts) → IsValid w → IsSteady w → (n : ℕ → ℕ) → IsClosed w n → task_posts w n ≤ w.budget → (h : List Event) → IsLegal w h → is_complete w h ≡ true → has_shed h ≡ false
none_shed w valid steady n closed cheap h legal complete = by (has_shed h) refl (both (are_whole_from w h 0 w.posters) (not (has_shed h) || (posts_of_tasks h == w.budget)) complete).1
  where
    by : (b : Bool) → has_shed h ≡ b → not (has_shed h) || (posts_of_tasks h == w.budget) ≡ true → b ≡ false
    by false e is = refl
    by true e is =
        let spent : posts_of_tasks h ≡ w.budget = grind (arith, nat_tests, e, is) in
        let c = cheated w steady h legal e in
        let some = some_due w (posts h) (firings h) c.firing c.among c.owes in
        let sum = posts_balance w steady h legal in
        let within = within_closed w steady (sound w valid).patterns n closed h legal in
        let less : task_posts w (times_at (firings h)) ≤ task_posts w n = summed_more (posts_weigh w each) (times_at (firings h)) n 0 (placements w) (λ b from to. within b (omega (arith, to))) in
        absurd (omega (arith, spent, some, sum, less, cheap))

-- and where it is quiet, it fires the flow
pub flows_cheap : (w : Parts) → IsValid w → IsSteady w → (n : ℕ → ℕ) → IsFlow w n → task_posts w n ≤ w.budget → (h : List Event) → IsLegal w h → IsQuiet w h → is_complete w h ≡ true → (b : ℕ) → b < length (placements w) → times_fired h b ≡ n b
flows_cheap w valid steady n flow cheap h legal quiet complete b known = flows w valid steady n flow h legal quiet complete (none_shed w valid steady n flow.closed cheap h legal complete) b known
