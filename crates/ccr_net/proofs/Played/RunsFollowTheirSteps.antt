-- A played run that runs out of memory at other steps, by the steps of its actors.
use Rattle.std.proofs.Common.{◌≡◌, ◌<◌, ℕ, ◌+◌, Bool, true, false, List, [], ◌∷◌, ◌++◌, length, Some, refl, sym, ap, ◌∙◌, subst}
use Rattle.std.specs.Prelude.{◌==◌, cond, filter_map}
use Rattle.std.specs.List.{cons_option}
use Rattle.std.specs.Option.{option_map}
use Rattle.ccr_wiring.specs.declared.parts.Parts.{Parts}
use Rattle.ccr_base.proofs.Booleans.{eq-self}
use Rattle.ccr_actor.specs.Actors.{next}
use Rattle.ccr_actor.specs.Nets.{AreNext, Step}
use Rattle.ccr_object.specs.declared.deed.Deed.{Deed}
use Rattle.ccr_object.specs.declared.object.Placed.{Placed}
use Rattle.ccr_object.specs.Objects.{after_deed, reply_of}
use Rattle.ccr_runs.specs.declared.acts.Act.{Act}
use Rattle.ccr_runs.specs.Runs.{Cast, IsRunFrom, cast, taught}
use Rattle.ccr_runs.specs.Stories.{Scene, moved, story}
use Rattle.ccr_runs.specs.declared.entries.Entry.{Entry}
use Rattle.ccr_runs.specs.Played.{protocol, scene, next_of, number_at, numbered, place_at, heard, reply_in, step_of, steps_in}
use Rattle.ccr_runs.specs.EntryRuns.{Lacks}
use Rattle.ccr_net.proofs.Played.PlayedRunsAreRuns.{Adds, Matches, Matches-begins, act_adds}
use Rattle.ccr_net.proofs.Played.NextAsksAreAnswered.{StepFacts}

-- the actor's steps in the acts from here on
abbrev pub steps_from : Parts → Scene Placed → List (Act Deed) → ℕ → List Step
steps_from w v acts actor = filter_map (step_of w) (story after_deed actor v acts)

module _ (w : Parts) (workers : ℕ) (lacks others : Lacks) (facts : StepFacts w workers lacks) where
  -- what each actor asks next, from here on
  abbrev AllNext : Scene Placed → Cast (protocol w lacks) → List (Act Deed) → Type 0
  AllNext v l acts = (k : ℕ) → k < length w.posters + workers → AreNext w k (others k) (l k).0.given (steps_from w v acts k)

  module _ (past : List Entry) (v : Scene Placed) (l : Cast (protocol w lacks)) (act : Act Deed) (acts : List (Act Deed)) (m : Matches w workers lacks past v l) (adds : Adds w workers lacks past v l act) where
    the_step : Step
    the_step = record { asked = record { place = place_at w act.place; ask = act.note.ask.value }; reply = adds.reply }

    own_steps : (k : ℕ) → (act.seat == k) ≡ true → steps_from w v (act ∷ acts) k ≡ the_step ∷ steps_from w (moved after_deed v act) acts k
    unfolding the_step
    own_steps k is = ap (λ b. filter_map (step_of w) (cond b (record { place = act.place; stamp = act.stamp; note = act.note; before = (v act.place).0; earlier = (v act.place).1 } ∷ story after_deed k (moved after_deed v act) acts) (story after_deed k (moved after_deed v act) acts))) is
        ∙ ap (λ a. cons_option (option_map (λ reply. record { asked = record { place = place_at w act.place; ask = act.note.ask.value }; reply = reply }) (reply_in a)) (steps_from w (moved after_deed v act) acts k)) adds.replied_so

    other_steps : (k : ℕ) → (act.seat == k) ≡ false → steps_from w v (act ∷ acts) k ≡ steps_from w (moved after_deed v act) acts k
    other_steps k is = ap (λ b. filter_map (step_of w) (cond b (record { place = act.place; stamp = act.stamp; note = act.note; before = (v act.place).0; earlier = (v act.place).1 } ∷ story after_deed k (moved after_deed v act) acts) (story after_deed k (moved after_deed v act) acts))) is

    -- the step of this act and those behind it
    own_next : AllNext v l (act ∷ acts) → act.seat < length w.posters + workers → AreNext w act.seat (others act.seat) (l act.seat).0.given (the_step ∷ steps_from w (moved after_deed v act) acts act.seat)
    own_next all low = subst (AreNext w act.seat (others act.seat) (l act.seat).0.given) (own_steps act.seat (eq-self act.seat)) (all act.seat low)

    first_next : AllNext v l (act ∷ acts) → act.seat < length w.posters + workers → next_of w others (l act.seat).0 ≡ Some (act.place, act.note.ask.value)
    unfolding the_step
    first_next all low =
        ap (λ k. option_map (numbered w) (next w k (others k) (l act.seat).0.given)) (ap (λ s. s.0.actor) (m.actors act.seat))
        ∙ ap (option_map (numbered w)) (own_next all low).0
        ∙ ap (λ n. Some (n, act.note.ask.value)) (ap (number_at w) adds.placed_so ∙ ap (λ p. p.0) adds.numbered_so)

    next_on : AllNext v l (act ∷ acts) → act.seat < length w.posters + workers → AllNext (moved after_deed v act) (taught (protocol w lacks) l v act) acts
    unfolding the_step
    next_on all seated k low = by (act.seat == k) refl
      where
        heard_so : (b : Bool) → (act.seat == k) ≡ b → taught (protocol w lacks) l v act k ≡ cond b (heard (l k).0 (reply_of (v act.place).0 act.note.ask.value), act.stamp) (l k)
        heard_so b is = ap (λ c. cond c (heard (l k).0 (reply_of (v act.place).0 act.note.ask.value), act.stamp) (l k)) is

        by : (b : Bool) → (act.seat == k) ≡ b → AreNext w k (others k) (taught (protocol w lacks) l v act k).0.given (steps_from w (moved after_deed v act) acts k)
        by true is =
            let rest = (subst (AreNext w k (others k) (l k).0.given) (own_steps k is) (all k low)).1 in
            subst (λ given. AreNext w k (others k) given (steps_from w (moved after_deed v act) acts k)) (sym (ap (λ s. s.0.given) (heard_so true is) ∙ ap (λ a. (heard (l k).0 a).given) adds.replied_so)) rest
        by false is = subst (λ given. AreNext w k (others k) given (steps_from w (moved after_deed v act) acts k)) (sym (ap (λ s. s.0.given) (heard_so false is))) (subst (AreNext w k (others k) (l k).0.given) (other_steps k is) (all k low))

  pub follows : (past : List Entry) (v : Scene Placed) (l : Cast (protocol w lacks)) (acts : List (Act Deed)) → Matches w workers lacks past v l → IsRunFrom (protocol w lacks) (length w.posters + workers) v l acts → AllNext v l acts → IsRunFrom (protocol w others) (length w.posters + workers) v l acts
  follows past v l [] m run all = tt
  follows past v l (act ∷ acts) m run all =
      let adds = act_adds w workers lacks facts past v l act m run.0 run.1 run.2 run.3 in
      (run.0, first_next past v l act acts m adds all run.0, run.2, run.3, follows (past ++ adds.entry ∷ []) (moved after_deed v act) (taught (protocol w lacks) l v act) acts adds.matches run.4 (next_on past v l act acts m adds all run.0))

  pub played_too : (acts : List (Act Deed)) → IsRunFrom (protocol w lacks) (length w.posters + workers) (scene w) (cast (protocol w lacks)) acts → ((k : ℕ) → k < length w.posters + workers → AreNext w k (others k) [] (steps_in w acts k)) → IsRunFrom (protocol w others) (length w.posters + workers) (scene w) (cast (protocol w others)) acts
  played_too acts run all = follows [] (scene w) (cast (protocol w lacks)) acts (Matches-begins w workers lacks) run all
