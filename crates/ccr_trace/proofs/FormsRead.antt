-- A line that is spelled says the same again.
use Rattle.std.proofs.Common.{◌≡◌, ℕ, suc, ◌<◌, true, false, List, [], ◌∷◌, ◌++◌, length, map, Option, Some, None, refl, arith}
use Rattle.std.specs.Prelude.{codes, decimal}
use Rattle.std.specs.List.{All, list_all}
use Rattle.std.specs.Str.{bytes_eq}
use Rattle.std.proofs.lemmas.List.Elements.{recursion_from_All}
use Rattle.ccr_base.specs.declared.names.TaskId.{TaskId}
use Rattle.ccr_base.specs.declared.names.MsgId.{MsgId}
use Rattle.ccr_base.specs.declared.names.MsgId.TheVariants as ids
use Rattle.ccr_model.specs.declared.history.EndHow.{EndHow}
use Rattle.ccr_model.specs.declared.history.EndHow.TheVariants as ends
use Rattle.ccr_text.specs.Words.{is_name_of}
use Rattle.ccr_text.specs.Spelling.{joined}
use Rattle.ccr_trace.specs.Words.{task_word, message_word}
use Rattle.ccr_text.specs.Exact.{value_word}
use Rattle.ccr_trace.specs.HistoryText.{cut_words, dropped_words, end_words}
use Rattle.ccr_trace.specs.Said.{SpotName, Said, Post, Fire, Admit, Put, Start, End, said_words, spelled, spot_name_word, IsSaid, IsTask, IsMessage, IsName, IsDropped, IsEnd}
use Rattle.ccr_trace.specs.Fields.{task_of}
use Rattle.ccr_trace.specs.Forms.{cuts, fired, post_said, fire_said, admit_said, dropped_said, put_said, start_said, how_said, end_said, form_said, said_on}
use Rattle.ccr_text.specs.Fields.{Words}
use Rattle.ccr_text.proofs.Digits.{AreReadAgain}
use Rattle.ccr_trace.proofs.ReadTellsSteps.{is_some_of-some}
use Rattle.ccr_trace.proofs.Parting.{AreGraphic, pieces-joined, graphic_both, graphic_map}
use Rattle.ccr_trace.proofs.WordsRead.{value_read, short_read, task_read, message_read, spot_read, number_graphic, value_graphic, task_graphic, message_graphic, spot_graphic, name_graphic, each_read}

names_read : (names : List (List ℕ)) → All IsName names → list_all is_name_of names ≡ true
names_read [] good = refl
names_read (name ∷ names) good =
    let parts = recursion_from_All IsName (name ∷ names) good in
    rw (parts.0, names_read names (λ k d below. good (suc k) d (omega arith))) refl

no_cut : (message : MsgId) → bytes_eq (message_word message) (codes "cut") ≡ false
no_cut (ids.Script actor place) = refl
no_cut (ids.Task task place) = refl

names_graphic : (names : List (List ℕ)) → All IsName names → AreGraphic names
names_graphic [] good = tt
names_graphic (name ∷ names) good =
    let parts = recursion_from_All IsName (name ∷ names) good in
    (name_graphic name parts.0, names_graphic names (λ k d below. good (suc k) d (omega arith)))

module _ (numbers : AreReadAgain) where
  post_again : (version : ℕ) (id : MsgId) (port : List ℕ) (value : List ℕ) (causes : List (List ℕ)) → IsSaid version (Post id port value causes) → post_said version (message_word id ∷ port ∷ value_word value ∷ causes) ≡ Some (Post id port value causes)
  unfolding post_said
  post_again version id port value causes good =
      rw (message_read numbers id good.0, good.1, value_read numbers version value good.2, names_read causes good.3) refl

  cuts_again : (tasks : List TaskId) → 0 < length tasks → All IsTask tasks → cuts (map task_word tasks) ≡ Some tasks
  unfolding cuts
  cuts_again tasks some good = rw (each_read task_of task_word IsTask (task_read numbers) tasks good, is_some_of-some tasks some) refl

  cut_again : (tasks : List TaskId) → All IsTask tasks → fired (cut_words tasks) ≡ Some ([], tasks)
  unfolding fired
  cut_again [] good = refl
  cut_again (task ∷ tasks) good = rw (cuts_again (task ∷ tasks) (omega arith) good) refl

  fired_again : (messages : List MsgId) (tasks : List TaskId) → All IsMessage messages → All IsTask tasks → fired (map message_word messages ++ cut_words tasks) ≡ Some (messages, tasks)
  unfolding fired
  fired_again [] tasks good cut = cut_again tasks cut
  fired_again (message ∷ messages) tasks good cut =
      let parts = recursion_from_All IsMessage (message ∷ messages) good in
      let rest = fired_again messages tasks (λ k d below. good (suc k) d (omega arith)) cut in
      rw (no_cut message, message_read numbers message parts.0, rest) refl

  fire_again : (task : TaskId) (spot : SpotName) (messages : List MsgId) (tasks : List TaskId) (version : ℕ) → IsSaid version (Fire task spot messages tasks)
      → fire_said (task_word task ∷ spot_name_word spot ∷ (map message_word messages ++ cut_words tasks)) ≡ Some (Fire task spot messages tasks)
  unfolding fire_said
  fire_again task spot messages tasks version good =
      rw (task_read numbers task good.0, spot_read numbers spot good.1 good.2, fired_again messages tasks good.4 good.5, is_some_of-some messages good.3) refl

  admit_again : (task : TaskId) → IsTask task → admit_said (task_word task ∷ []) ≡ Some (Admit task)
  unfolding admit_said
  admit_again task good = rw (task_read numbers task good) refl

  dropped_again : (dropped : Option TaskId) → IsDropped dropped → dropped_said (dropped_words dropped) ≡ Some dropped
  unfolding dropped_said
  dropped_again None good = refl
  dropped_again (Some task) good = rw (task_read numbers task good) refl

  put_again : (version : ℕ) (task : TaskId) (dropped : Option TaskId) → IsSaid version (Put task dropped) → put_said (task_word task ∷ dropped_words dropped) ≡ Some (Put task dropped)
  unfolding put_said
  put_again version task dropped good = rw (task_read numbers task good.0, dropped_again dropped good.1) refl

  start_again : (version : ℕ) (task : TaskId) (actor : ℕ) → IsSaid version (Start task actor) → start_said (task_word task ∷ decimal actor ∷ []) ≡ Some (Start task actor)
  unfolding start_said
  start_again version task actor good = rw (task_read numbers task good.0, short_read numbers actor good.1) refl

  how_again : (version : ℕ) (how : EndHow) → IsEnd version how → how_said version (end_words how) ≡ Some (how, [])
  unfolding how_said
  how_again version ends.Done good = refl
  how_again version (ends.Failed value) good = rw (value_read numbers version value good) refl
  how_again version ends.Yield good = refl
  how_again version ends.Shed good = refl

  end_again : (version : ℕ) (task : TaskId) (how : EndHow) → IsSaid version (End task how) → end_said version (task_word task ∷ end_words how) ≡ Some (End task how)
  unfolding end_said
  end_again version task how good = rw (task_read numbers task good.0, how_again version how good.1) refl

  cut_graphic : (tasks : List TaskId) → All IsTask tasks → AreGraphic (cut_words tasks)
  cut_graphic [] good = tt
  cut_graphic (task ∷ tasks) good = (refl, graphic_map task_word IsTask (task_graphic numbers) (task ∷ tasks) good)

  dropped_graphic : (dropped : Option TaskId) → IsDropped dropped → AreGraphic (dropped_words dropped)
  dropped_graphic None good = tt
  dropped_graphic (Some task) good = (refl, (task_graphic numbers task good, tt))

  end_graphic : (version : ℕ) (how : EndHow) → IsEnd version how → AreGraphic (end_words how)
  end_graphic version ends.Done good = (refl, tt)
  end_graphic version (ends.Failed value) good = (refl, (value_graphic numbers version value good, tt))
  end_graphic version ends.Yield good = (refl, tt)
  end_graphic version ends.Shed good = (refl, tt)

  -- each word of a line has bytes of words alone
  pub said_graphic : (version : ℕ) (said : Said) → IsSaid version said → AreGraphic (said_words said)
  said_graphic version (Post id port value causes) good = (refl, (message_graphic numbers id good.0, (name_graphic port good.1, (value_graphic numbers version value good.2, names_graphic causes good.3))))
  said_graphic version (Fire task spot messages tasks) good =
      (refl, (task_graphic numbers task good.0, (spot_graphic numbers spot good.1 good.2, graphic_both (map message_word messages) (cut_words tasks) (graphic_map message_word IsMessage (message_graphic numbers) messages good.4) (cut_graphic tasks good.5))))
  said_graphic version (Admit task) good = (refl, (task_graphic numbers task good, tt))
  said_graphic version (Put task dropped) good = (refl, (task_graphic numbers task good.0, dropped_graphic dropped good.1))
  said_graphic version (Start task actor) good = (refl, (task_graphic numbers task good.0, (number_graphic numbers actor (omega arith), tt)))
  said_graphic version (End task how) good = (refl, (task_graphic numbers task good.0, end_graphic version how good.1))

  line_again : (version : ℕ) (first : List ℕ) (words : Words) (said : Said) → AreGraphic (first ∷ words) → form_said version first words ≡ Some said → said_on version (joined (first ∷ words)) ≡ Some said
  line_again version first words said graphic is = rw (pieces-joined first words graphic) is

  -- a line that is spelled says the same again
  pub said_again : (version : ℕ) (said : Said) → IsSaid version said → said_on version (spelled said) ≡ Some said
  unfolding form_said
  said_again version (Post id port value causes) good =
      line_again version (codes "post") (message_word id ∷ port ∷ value_word value ∷ causes) (Post id port value causes) (said_graphic version (Post id port value causes) good) (post_again version id port value causes good)
  said_again version (Fire task spot messages tasks) good =
      line_again version (codes "fire") (task_word task ∷ spot_name_word spot ∷ (map message_word messages ++ cut_words tasks)) (Fire task spot messages tasks) (said_graphic version (Fire task spot messages tasks) good) (fire_again task spot messages tasks version good)
  said_again version (Admit task) good = line_again version (codes "admit") (task_word task ∷ []) (Admit task) (said_graphic version (Admit task) good) (admit_again task good)
  said_again version (Put task dropped) good = line_again version (codes "put") (task_word task ∷ dropped_words dropped) (Put task dropped) (said_graphic version (Put task dropped) good) (put_again version task dropped good)
  said_again version (Start task actor) good = line_again version (codes "start") (task_word task ∷ decimal actor ∷ []) (Start task actor) (said_graphic version (Start task actor) good) (start_again version task actor good)
  said_again version (End task how) good = line_again version (codes "end") (task_word task ∷ end_words how) (End task how) (said_graphic version (End task how) good) (end_again version task how good)
