-- The first rule that refuses by the tables is the first that refuses after the history, where they keep what the model says.
use Rattle.std.proofs.Common.{◌≡◌, ◌∙◌, ℕ, Bool, true, false, ◌&&◌, ◌||◌, List, Option, None, Some, refl, sym, ap}
use Rattle.std.specs.Prelude.{◌==◌, option_and_then}
use Rattle.std.specs.List.{slice_get}
use Rattle.std.specs.Option.{option_map_or}
use Rattle.ccr_base.specs.declared.names.TaskId.{TaskId}
use Rattle.ccr_base.specs.declared.names.MsgId.{MsgId}
use Rattle.ccr_base.specs.declared.names.MsgId.TheVariants.{Script, Task}
use Rattle.ccr_base.specs.declared.messages.Msg.{Msg}
use Rattle.ccr_base.specs.Names.{has_task}
use Rattle.ccr_wiring.specs.declared.parts.Parts.{Parts}
use Rattle.ccr_wiring.specs.declared.parts.PosterPart.{PosterPart}
use Rattle.ccr_wiring.specs.Openness.{open_poster}
use Rattle.ccr_wiring.specs.Valid.{IsValid}
use Rattle.ccr_wiring.proofs.Soundness.{sound}
use Rattle.ccr_model.specs.declared.history.Event.{Event}
use Rattle.ccr_model.specs.declared.history.Event.TheVariants.{Post, Fire, Admit, Put, Start, End}
use Rattle.ccr_model.specs.declared.history.EndHow.{EndHow}
use Rattle.ccr_model.specs.Posts.{posts_of_poster, posts_of_task}
use Rattle.ccr_model.specs.TaskData.{play_of}
use Rattle.ccr_model.specs.Tasks.{running, running_by}
use Rattle.ccr_model.specs.Live.{is_none_of}
use Rattle.ccr_model.specs.Rules.{is_post, is_line_of, is_outside_post, is_open_post, is_open_post_with, open_ports, is_script_line, is_play_post, is_new, may_start, may_shed, may_end, refusal_of_post, refusal}
use Rattle.ccr_model.specs.Legal.{IsLegal}
use Rattle.ccr_base.proofs.Booleans.{and_false, not_not}
use Rattle.ccr_base.proofs.Options.{some-below, no_some, get-some}
use Rattle.ccr_model.proofs.OpenPlays.{open_causes}
use Rattle.ccr_ledger.specs.Books.{Books, number}
use Rattle.ccr_ledger.specs.Asked.{made_in, play_in, open_ports_kept}
use Rattle.ccr_ledger.specs.Kept.{Keeps}
use Rattle.ccr_ledger.proofs.Telling.{lives_told, room_told, are_selected_told, cuts_told, may_admit_task_told, drops_told, play_told, made_told, budget_told, open_ports_told}
use Rattle.ccr_ledger.proofs.RulesTold.{has_fired_told, waits_first_told, queued_first_told, is_ready_told, is_busy_told, runs_told, has_more_told, unfinished_told}
use Rattle.ccr_checker.specs.Judging.{is_next_line, is_next_post, is_unused, is_idle, sheds, is_ending, refusal_of_post_in, refusal_in}

module _ (w : Parts) (valid : IsValid w) (h : List Event) (legal : IsLegal w h) (b : Books) (keeps : Keeps w h b) where
  -- a number that names no poster is no open one's
  no_poster : (a p : ℕ) (m : Msg) → slice_get w.posters a ≡ None → (is_line_of w a p m || option_map_or (λ ports. is_outside_post w ports m) (open_poster w a) false) ≡ false
  no_poster a p m none = rw none (of_ports (open_poster w a) refl)
    where
      of_ports : (o : Option (List ℕ)) → open_poster w a ≡ o → option_map_or (λ ports. is_outside_post w ports m) o false ≡ false
      of_ports None at = refl
      of_ports (Some ports) at = absurd (no_some (slice_get w.posters a) _ none (get-some w.posters a ((sound w valid).open_posters a ports at).named).1)

  next_line : (a p : ℕ) (m : Msg) → is_next_line w b a p m ≡ is_script_line w h a p m
  next_line a p m = of_poster (slice_get w.posters a) refl
    where
      of_poster : (o : Option PosterPart) → slice_get w.posters a ≡ o → is_next_line w b a p m ≡ is_script_line w h a p m
      of_poster None at =
          ap (λ c. (p == number b.script_posts a) && c) (no_poster a p m at) ∙ (and_false (p == number b.script_posts a)
          ∙ (sym (and_false (p == posts_of_poster h a)) ∙ ap (λ c. (p == posts_of_poster h a) && c) (sym (no_poster a p m at))))
      of_poster (Some q) at = ap (λ n. (p == n) && (is_line_of w a p m || option_map_or (λ ports. is_outside_post w ports m) (open_poster w a) false)) (keeps.script_posts.script_posts a (some-below w.posters a q at))

  -- what a task of an open handler may post
  opened : (t : TaskId) (m : Msg) → option_map_or (λ ports. is_open_post_with w (play_in b t).causes ports m) (open_ports_kept w b t) false ≡ option_map_or (λ ports. is_open_post w h t ports m) (open_ports w h t) false
  opened t m = rw (open_ports_told w valid h legal b keeps t, play_told w valid h legal b keeps t) (of_ports (open_ports w h t) refl)
    where
      of_ports : (o : Option (List ℕ)) → open_ports w h t ≡ o → option_map_or (λ ports. is_open_post_with w (play_of w h t).causes ports m) o false ≡ option_map_or (λ ports. is_open_post w h t ports m) o false
      of_ports None at = refl
      of_ports (Some ports) at = ap (λ causes. is_open_post_with w causes ports m) (open_causes w valid h t ports at)

  next_post : (t : TaskId) (p : ℕ) (m : Msg) → is_next_post w b t p m ≡ is_play_post w h t p m
  next_post t p m = rw (opened t m, runs_told w valid h legal b keeps t, play_told w valid h legal b keeps t) (of_test (has_task (running h) t) refl)
    where
      all : Bool
      all = option_map_or (is_post m) (slice_get (play_of w h t).posts p) false || option_map_or (λ ports. is_open_post w h t ports m) (open_ports w h t) false

      of_test : (c : Bool) → has_task (running h) t ≡ c → c && (p == made_in b t) && all ≡ c && (p == posts_of_task h t) && all
      of_test false at = refl
      of_test true at = rw (made_told w valid h legal b keeps t at) refl

  unused : (t : TaskId) → is_unused b t ≡ is_new h t
  unused t = rw (has_fired_told w valid h legal b keeps t) refl

  idle : (a : ℕ) → is_idle w b a ≡ may_start w h a
  idle a = rw (is_busy_told w valid h legal b keeps a, not_not (is_none_of (running_by h a))) refl

  shed_so : (t : TaskId) → sheds w b t ≡ may_shed w h t
  shed_so t = rw (has_more_told w valid h legal b keeps t, unfinished_told w valid h legal b keeps, keeps.script_posts.task_posts) refl

  ending : (t : TaskId) (how : EndHow) → is_ending w b t how ≡ may_end w h t how
  ending t how = rw (shed_so t, has_more_told w valid h legal b keeps t, play_told w valid h legal b keeps t, open_ports_told w valid h legal b keeps t) refl

  refusal_of_post_told : (m : Msg) (id : MsgId) → refusal_of_post_in w b m id ≡ refusal_of_post w h m id
  refusal_of_post_told m (Script a p) = rw (next_line a p m) refl
  refusal_of_post_told m (Task t p) = rw (next_post t p m, budget_told w valid h legal b keeps) refl

  pub refusal_in_told : (e : Event) → refusal_in w b e ≡ refusal w h e
  refusal_in_told (Post m) = refusal_of_post_told m m.id
  refusal_in_told (Fire t s ms cs) = rw (unused t, lives_told w valid h legal b keeps s, are_selected_told w valid h legal b keeps s ms, room_told w valid h legal b keeps s, cuts_told w valid h legal b keeps s) refl
  refusal_in_told (Admit t) = rw (waits_first_told w valid h legal b keeps t, may_admit_task_told w valid h legal b keeps t) refl
  refusal_in_told (Put t d) = rw (is_ready_told w valid h legal b keeps t, drops_told w valid h legal b keeps t) refl
  refusal_in_told (Start t a) = rw (queued_first_told w valid h legal b keeps t, idle a) refl
  refusal_in_told (End t how) = rw (runs_told w valid h legal b keeps t, ending t how) refl
