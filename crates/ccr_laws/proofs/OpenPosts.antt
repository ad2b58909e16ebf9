-- Open posters keep their ports, and tasks of open handlers post while they run.
use Rattle.std.proofs.Common.{◌≡◌, ◌∙◌, ℕ, ◌⊎◌, inl, inr, Bool, true, false, ◌&&◌, ◌||◌, List, [], ◌∷◌, ◌++◌, length, Option, Some, None, refl, ap, sym, subst, arith}
use Rattle.std.specs.Prelude.{◌==◌, nat_lt, option_and_then}
use Rattle.std.specs.List.{slice_get, list_all}
use Rattle.std.specs.Option.{option_map_or}
use Rattle.std.proofs.lemmas.Bool.Decides.{nat_tests}
use Rattle.ccr_base.specs.Lists.{has_number, are_apart}
use Rattle.ccr_base.specs.Names.{has_task}
use Rattle.ccr_base.specs.declared.names.MsgId.{MsgId}
use Rattle.ccr_base.specs.declared.names.MsgId.TheVariants.{Script, Task}
use Rattle.ccr_base.specs.declared.names.TaskId.{TaskId}
use Rattle.ccr_base.specs.declared.messages.Msg.{Msg}
use Rattle.ccr_base.specs.declared.messages.Sent.{Sent}
use Rattle.ccr_base.proofs.Booleans.{both, same_number}
use Rattle.ccr_base.proofs.Options.{some_of, some_then, some_is, get-push}
use Rattle.ccr_wiring.specs.declared.parts.Parts.{Parts}
use Rattle.ccr_wiring.specs.declared.parts.PosterPart.{PosterPart}
use Rattle.ccr_wiring.specs.Openness.{open_poster}
use Rattle.ccr_wiring.specs.Valid.{IsValid}
use Rattle.ccr_wiring.proofs.Soundness.{sound}
use Rattle.ccr_model.specs.declared.history.Event.{Event}
use Rattle.ccr_model.specs.declared.history.Event.TheVariants.{Post, Fire, Admit, Put, Start, End}
use Rattle.ccr_model.specs.Legal.{IsAllowed, IsLegal}
use Rattle.ccr_model.specs.Posts.{posts_of_poster, posts_of_task, is_script_of}
use Rattle.ccr_model.specs.Rules.{is_post, is_line_of, is_value, is_script_line, is_play_post, is_outside_post, is_open_post, open_ports, refusal_of_post}
use Rattle.ccr_model.specs.TaskData.{play_of}
use Rattle.ccr_model.specs.Tasks.{running}
use Rattle.ccr_model.proofs.OpenPlays.{open_posts}
use Rattle.ccr_model.proofs.PostNames.{along, refused_not}
use Rattle.ccr_model.proofs.PostedMessages.{either_of}
use Rattle.ccr_laws.specs.Occurring.{Occurs}
use Rattle.ccr_laws.specs.Open.{KeepsPorts, PostsOpenly, PostOpenly}
use Rattle.ccr_laws.specs.Scripts.{posts_by}
use Rattle.ccr_laws.proofs.LegalEventsWereAllowed.{allowed_at}
use Rattle.ccr_laws.proofs.ScriptLines.{posts_by-other, posts_by-own}

-- ---- open posters

abbrev AllKeep : Parts → List Event → Type 0
AllKeep w h = (n : ℕ) (ports : List ℕ) → open_poster w n ≡ Some ports → KeepsPorts h n ports

keeps-same : (h g : List Event) (n : ℕ) (ports : List ℕ) → posts_by g n ≡ posts_by h n → KeepsPorts h n ports → KeepsPorts g n ports
keeps-same h g n ports same keeps = record {
  names = λ index m at. keeps.names index m (subst (λ ms. slice_get ms index ≡ Some m) same at);
  within = λ index m at. keeps.within index m (subst (λ ms. slice_get ms index ≡ Some m) same at);
}

keeps-more : (h : List Event) (m : Msg) (n : ℕ) (ports : List ℕ) → m.id ≡ Script n (posts_of_poster h n) → has_number ports m.port ≡ true → KeepsPorts h n ports → KeepsPorts (h ++ Post m ∷ []) n ports
keeps-more h m n ports named to keeps = record {
  names = λ index y at. name index y (get-push (posts_by h n) m y index (subst (λ ms. slice_get ms index ≡ Some y) more at));
  within = λ index y at. port index y (get-push (posts_by h n) m y index (subst (λ ms. slice_get ms index ≡ Some y) more at));
}
  where
    own : is_script_of n m.id ≡ true
    own = rw named (grind (arith, nat_tests))

    more : posts_by (h ++ Post m ∷ []) n ≡ posts_by h n ++ m ∷ []
    more = posts_by-own h m n own

    name : (index : ℕ) (y : Msg) → (slice_get (posts_by h n) index ≡ Some y) ⊎ ((index ≡ length (posts_by h n)) × (m ≡ y)) → y.id ≡ Script n index
    name index y (inl before) = keeps.names index y before
    name index y (inr last) = subst (λ z. z.id ≡ Script n index) last.1 (named ∙ ap (λ k. Script n k) (sym last.0))

    port : (index : ℕ) (y : Msg) → (slice_get (posts_by h n) index ≡ Some y) ⊎ ((index ≡ length (posts_by h n)) × (m ≡ y)) → has_number ports y.port ≡ true
    port index y (inl before) = keeps.within index y before
    port index y (inr last) = subst (λ z. has_number ports z.port ≡ true) last.1 to

-- an open poster has no line of its own
no_line : (w : Parts) → IsValid w → (a k : ℕ) (m : Msg) (ports : List ℕ) → open_poster w a ≡ Some ports → is_line_of w a k m ≡ true → ⊥
no_line w valid a k m ports opened is =
    let found = some_of (is_post m) (option_and_then (λ (p : PosterPart). slice_get p.posts k) (slice_get w.posters a)) is in
    let part = some_then (λ (p : PosterPart). slice_get p.posts k) (slice_get w.posters a) found.0 found.1 in
    let silent : part.0.posts ≡ [] = ((sound w valid).open_posters a ports opened).silent part.0 part.1 in
    let none : slice_get {X = Sent} [] k ≡ Some found.0 = subst (λ ss. slice_get ss k ≡ Some found.0) silent part.2 in
    absurd (cc)

-- it posts to its ports
to_port : (w : Parts) → IsValid w → (h : List Event) (a k : ℕ) (m : Msg) (ports : List ℕ) → open_poster w a ≡ Some ports → is_script_line w h a k m ≡ true → (k ≡ posts_of_poster h a) × (has_number ports m.port ≡ true)
to_port w valid h a k m ports opened line = by (either_of (is_line_of w a k m) (option_map_or (λ listed. is_outside_post w listed m) (open_poster w a) false) parts.1)
  where
    parts : ((k == posts_of_poster h a) ≡ true) × ((is_line_of w a k m || option_map_or (λ listed. is_outside_post w listed m) (open_poster w a) false) ≡ true)
    parts = both (k == posts_of_poster h a) (is_line_of w a k m || option_map_or (λ listed. is_outside_post w listed m) (open_poster w a) false) line

    by : (is_line_of w a k m ≡ true) ⊎ (option_map_or (λ listed. is_outside_post w listed m) (open_poster w a) false ≡ true) → (k ≡ posts_of_poster h a) × (has_number ports m.port ≡ true)
    by (inl own) = absurd (no_line w valid a k m ports opened own)
    by (inr outside) =
        let found = some_of (λ listed. is_outside_post w listed m) (open_poster w a) outside in
        let its : found.0 ≡ ports = some_is (sym found.1 ∙ opened) in
        let three = both (has_number found.0 m.port && is_value m.value && list_all (λ cause. nat_lt cause (length w.causes)) m.causes) (are_apart m.causes) found.2 in
        let two = both (has_number found.0 m.port && is_value m.value) (list_all (λ cause. nat_lt cause (length w.causes)) m.causes) three.0 in
        let one = both (has_number found.0 m.port) (is_value m.value) two.0 in
        (same_number k (posts_of_poster h a) parts.0, subst (λ listed. has_number listed m.port ≡ true) its one.0)

keeps-post : (w : Parts) → IsValid w → (h : List Event) (m : Msg) (name : MsgId) → m.id ≡ name → refusal_of_post w h m name ≡ None → AllKeep w h → AllKeep w (h ++ Post m ∷ [])
keeps-post w valid h m (Task t k) named allowed keeps n ports at = keeps-same h (h ++ Post m ∷ []) n ports (posts_by-other h (Post m) n (rw named refl)) (keeps n ports at)
keeps-post w valid h m (Script a k) named allowed keeps n ports at = of_test (a == n) refl
  where
    of_test : (b : Bool) → (a == n) ≡ b → KeepsPorts (h ++ Post m ∷ []) n ports
    of_test false is = keeps-same h (h ++ Post m ∷ []) n ports (posts_by-other h (Post m) n (rw (named, is) refl)) (keeps n ports at)
    of_test true is =
        let one : a ≡ n = same_number a n is in
        let line : is_script_line w h n k m ≡ true = subst (λ i. is_script_line w h i k m ≡ true) one (refused_not (is_script_line w h a k m) _ None allowed).0 in
        let to = to_port w valid h n k m ports at line in
        keeps-more h m n ports (named ∙ (ap (λ i. Script i k) one ∙ ap (λ i. Script n i) to.0)) to.1 (keeps n ports at)

keeps-event : (w : Parts) → IsValid w → (h : List Event) (e : Event) → AllKeep w h → IsAllowed w h e → AllKeep w (h ++ e ∷ [])
keeps-event w valid h (Post m) keeps allowed n ports at = keeps-post w valid h m m.id refl allowed keeps n ports at
keeps-event w valid h (Fire t s ms cs) keeps allowed n ports at = keeps-same h _ n ports (posts_by-other h (Fire t s ms cs) n refl) (keeps n ports at)
keeps-event w valid h (Admit t) keeps allowed n ports at = keeps-same h _ n ports (posts_by-other h (Admit t) n refl) (keeps n ports at)
keeps-event w valid h (Put t d) keeps allowed n ports at = keeps-same h _ n ports (posts_by-other h (Put t d) n refl) (keeps n ports at)
keeps-event w valid h (Start t a) keeps allowed n ports at = keeps-same h _ n ports (posts_by-other h (Start t a) n refl) (keeps n ports at)
keeps-event w valid h (End t how) keeps allowed n ports at = keeps-same h _ n ports (posts_by-other h (End t how) n refl) (keeps n ports at)

pub keep_ports : (w : Parts) → IsValid w → (h : List Event) → IsLegal w h → (n : ℕ) (ports : List ℕ) → open_poster w n ≡ Some ports → KeepsPorts h n ports
keep_ports w valid h legal = along w (AllKeep w) (keeps-event w valid) (λ n ports at. none n ports) h legal
  where
    none : (n : ℕ) (ports : List ℕ) → KeepsPorts [] n ports
    none n ports = record { names = λ index m at. absurd (cc); within = λ index m at. absurd (cc) }

-- ---- tasks of open handlers

posts_so : (w : Parts) → IsValid w → (past : List Event) (m : Msg) (t : TaskId) (k : ℕ) (ports : List ℕ) → open_ports w past t ≡ Some ports → is_play_post w past t k m ≡ true → PostsOpenly w past t k ports m
posts_so w valid past m t k ports opened is = by (either_of (option_map_or (is_post m) (slice_get (play_of w past t).posts k) false) (option_map_or (λ listed. is_open_post w past t listed m) (open_ports w past t) false) parts.1)
  where
    parts : ((has_task (running past) t && (k == posts_of_task past t)) ≡ true) × ((option_map_or (is_post m) (slice_get (play_of w past t).posts k) false || option_map_or (λ listed. is_open_post w past t listed m) (open_ports w past t) false) ≡ true)
    parts = both (has_task (running past) t && (k == posts_of_task past t)) _ is

    front : (has_task (running past) t ≡ true) × ((k == posts_of_task past t) ≡ true)
    front = both (has_task (running past) t) (k == posts_of_task past t) parts.0

    by : (option_map_or (is_post m) (slice_get (play_of w past t).posts k) false ≡ true) ⊎ (option_map_or (λ listed. is_open_post w past t listed m) (open_ports w past t) false ≡ true) → PostsOpenly w past t k ports m
    by (inl own) =
        let none : option_map_or (is_post m) (slice_get {X = Sent} [] k) false ≡ true = subst (λ ss. option_map_or (is_post m) (slice_get ss k) false ≡ true) (open_posts w valid past t ports opened) own in
        absurd (cc)
    by (inr outside) =
        let found = some_of (λ listed. is_open_post w past t listed m) (open_ports w past t) outside in
        let its : found.0 ≡ ports = some_is (sym found.1 ∙ opened) in
        record { runs = front.0; counted = same_number k (posts_of_task past t) front.1; post = subst (λ listed. is_open_post w past t listed m ≡ true) its found.2 }

pub post_openly : (w : Parts) → IsValid w → (h : List Event) → IsLegal w h → PostOpenly w h
post_openly w valid h legal past m t k ports occurs named opened =
    let allowed : refusal_of_post w past m (Task t k) ≡ None = subst (λ name. refusal_of_post w past m name ≡ None) named (allowed_at w h past (Post m) legal occurs) in
    posts_so w valid past m t k ports opened (refused_not (is_play_post w past t k m) _ _ allowed).0
