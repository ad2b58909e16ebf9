-- What one more message does to what is due and to what is left.
use Rattle.std.proofs.Common.{◌≡◌, ℕ, zero, suc, ◌+◌, ◌<◌, ◌≤◌, Bool, true, false, List, [], ◌∷◌, ◌++◌, drop, Some, find, refl, sym, ap, subst, arith}
use Rattle.std.specs.Prelude.{◌==◌, if◌then◌else◌}
use Rattle.std.specs.List.{slice_get}
use Rattle.std.proofs.lemmas.Grind.{common_steps}
use Rattle.std.proofs.lemmas.Bool.Decides.{nat_tests}
use Rattle.ccr_base.specs.declared.names.MsgId.TheVariants.{Script, Task}
use Rattle.ccr_base.specs.declared.names.TaskId.{TaskId}
use Rattle.ccr_base.specs.declared.messages.Msg.{Msg}
use Rattle.ccr_base.specs.declared.messages.Sent.{Sent}
use Rattle.ccr_base.specs.Names.{same_task}
use Rattle.ccr_wiring.specs.declared.parts.PosterPart.{PosterPart}
use Rattle.ccr_model.specs.Posts.{is_script_of, is_message_of, made_by_poster}
use Rattle.ccr_model.specs.Firings.{Firing}
use Rattle.ccr_model.proofs.PostNames.{made_by_poster-push, made_by_poster-other, made_by_poster-task}
use Rattle.ccr_base.proofs.Options.{drop_at}
use Rattle.ccr_base.proofs.SameNames.{same_task-is, same_task-self}
use Rattle.ccr_gen.specs.Lines.{lines, left}
use Rattle.ccr_gen.specs.Weights.{value, due, by_task}

pub due_firing : (ms : List Msg) (fs : List Firing) (f : Firing) → due ms (fs ++ f ∷ []) ≤ due ms fs + value f.spot
due_firing ms [] f = grind arith
due_firing ms (g ∷ fs) f = grind (arith, due_firing ms fs f)

pub by_more : (ms : List Msg) (m : Msg) (t : TaskId) → by_task (ms ++ m ∷ []) t ≡ by_task ms t + (if is_message_of t m.id then 1 else 0)
by_more ms m t = grind (arith, common_steps)

-- no more is due
pub due_later : (ms : List Msg) (m : Msg) (fs : List Firing) → due (ms ++ m ∷ []) fs ≤ due ms fs
due_later ms m [] = grind arith
due_later ms m (f ∷ fs) = grind (arith, nat_tests, by_more ms m f.task, due_later ms m fs)

-- the first post of a task that fired is due no more
pub due_paid : (ms : List Msg) (m : Msg) (t : TaskId) (place : ℕ) (fs : List Firing) (f : Firing) → m.id ≡ Task t place → by_task ms t ≡ 0 → find (λ (g : Firing). same_task g.task t) fs ≡ Some f
    → due (ms ++ m ∷ []) fs + value f.spot ≤ due ms fs
due_paid ms m t place [] f named none is = absurd cc
due_paid ms m t place (g ∷ fs) f named none is = by (same_task g.task t) refl is (due_paid ms m t place fs f named none)
  where
    by : (b : Bool) → same_task g.task t ≡ b → (if b then Some g else find (λ (g : Firing). same_task g.task t) fs) ≡ Some f → (find (λ (g : Firing). same_task g.task t) fs ≡ Some f → due (ms ++ m ∷ []) fs + value f.spot ≤ due ms fs) → due (ms ++ m ∷ []) (g ∷ fs) + value f.spot ≤ due ms (g ∷ fs)
    by true same found rest =
        let one : g.task ≡ t = same_task-is g.task t same in
        let its : g ≡ f = cc in
        let own : is_message_of g.task m.id ≡ true = rw (named, one) (same_task-self t) in
        let before : by_task ms g.task ≡ 0 = rw one none in
        let worth : value g.spot ≡ value f.spot = ap (λ (x : Firing). value x.spot) its in
        grind (arith, nat_tests, by_more ms m g.task, own, before, worth, due_later ms m fs)
    by false same found rest = let less = rest found in grind (arith, nat_tests, by_more ms m g.task, less)

-- a task's post leaves the scripts as they were
pub left_task : (weight : ℕ → ℕ) (ms : List Msg) (m : Msg) (t : TaskId) (place number : ℕ) (ps : List PosterPart) → m.id ≡ Task t place → left weight (ms ++ m ∷ []) number ps ≡ left weight ms number ps
left_task weight ms m t place number [] named = refl
left_task weight ms m t place number (p ∷ ps) named = rw (made_by_poster-task ms m number t place named, left_task weight ms m t place (number + 1) ps named) refl

-- a script's post leaves the later scripts as they were
left_later : (weight : ℕ → ℕ) (ms : List Msg) (m : Msg) (actor place number : ℕ) (ps : List PosterPart) → m.id ≡ Script actor place → actor < number → left weight (ms ++ m ∷ []) number ps ≡ left weight ms number ps
left_later weight ms m actor place number [] named less = refl
left_later weight ms m actor place number (p ∷ ps) named less =
    let apart : (actor == number) ≡ false = grind (arith, nat_tests, less) in
    rw (made_by_poster-other ms m number actor place named apart, left_later weight ms m actor place (number + 1) ps named (omega arith)) refl

-- a script's post is left no more
pub left_script : (weight : ℕ → ℕ) (ms : List Msg) (m : Msg) (actor place number k : ℕ) (ps : List PosterPart) (p : PosterPart) (s : Sent) → m.id ≡ Script actor place → actor ≡ number + k → slice_get ps k ≡ Some p → slice_get p.posts (made_by_poster ms actor) ≡ Some s
    → left weight (ms ++ m ∷ []) number ps + weight s.port ≡ left weight ms number ps
left_script weight ms m actor place number k [] p s named at found line = absurd cc
left_script weight ms m actor place number zero (q ∷ ps) p s named at found line =
    let same : q ≡ p = cc in
    let its : actor ≡ number = omega (arith, at) in
    let own : is_script_of number m.id ≡ true = rw (named, its) (grind (arith, nat_tests)) in
    let more : made_by_poster (ms ++ m ∷ []) number ≡ made_by_poster ms number + 1 = grind (arith, made_by_poster-push ms m number, own) in
    let next : slice_get q.posts (made_by_poster ms number) ≡ Some s = subst (λ (n : ℕ). slice_get q.posts (made_by_poster ms n) ≡ Some s) its (subst (λ (x : PosterPart). slice_get x.posts (made_by_poster ms actor) ≡ Some s) (sym same) line) in
    let rest = left_later weight ms m actor place (number + 1) ps named (omega (arith, its)) in
    let step : lines weight (drop (made_by_poster ms number) q.posts) ≡ weight s.port + lines weight (drop (made_by_poster ms number + 1) q.posts) = ap (lines weight) (drop_at q.posts (made_by_poster ms number) s next) in
    rw (more, rest) (omega (arith, step))
left_script weight ms m actor place number (suc k) (q ∷ ps) p s named at found line =
    let apart : (actor == number) ≡ false = grind (arith, nat_tests, at) in
    let less = left_script weight ms m actor place (number + 1) k ps p s named (omega (arith, at)) found line in
    rw (made_by_poster-other ms m number actor place named apart) (omega (arith, less))
