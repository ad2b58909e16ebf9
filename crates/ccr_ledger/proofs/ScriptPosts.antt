-- Each event keeps how many posts were made.
use Rattle.std.proofs.Common.{◌≡◌, ℕ, ◌+◌, Bool, true, false, List, [], ◌∷◌, ◌++◌, length, filter, Option, Some, None, refl, sym, ap, ◌∙◌, arith, append-nil}
use Rattle.std.specs.Prelude.{◌==◌, if◌then◌else◌}
use Rattle.std.specs.Option.{option_map_or}
use Rattle.ccr_base.specs.declared.names.TaskId.{TaskId}
use Rattle.ccr_base.specs.declared.names.MsgId.{MsgId}
use Rattle.ccr_base.specs.declared.names.MsgId.TheVariants.{Script, Task}
use Rattle.ccr_base.specs.declared.names.Spot.{Spot}
use Rattle.ccr_base.specs.declared.names.Spot.TheVariants.{Branch, Site}
use Rattle.ccr_base.specs.declared.messages.Msg.{Msg}
use Rattle.ccr_wiring.specs.declared.parts.Parts.{Parts}
use Rattle.ccr_wiring.specs.Wirings.{Placement, placement}
use Rattle.ccr_model.specs.declared.history.Event.{Event}
use Rattle.ccr_model.specs.declared.history.Event.TheVariants.{Post, Fire, Admit, Put, Start, End}
use Rattle.ccr_model.specs.declared.history.EndHow.{EndHow}
use Rattle.ccr_model.specs.Posts.{posts, post_of, is_script_of, is_task_message, posts_of_poster}
use Rattle.ccr_base.proofs.Booleans.{same_number}
use Rattle.ccr_model.proofs.OneMoreEvent.{posts-push}
use Rattle.ccr_ledger.specs.declared.cards.Card.{Card}
use Rattle.ccr_ledger.specs.Books.{Books, card_at, number}
use Rattle.ccr_ledger.specs.Posting.{counted}
use Rattle.ccr_ledger.specs.Firing.{after_cut, after_cuts, after_taking, after_fire, resumed_card}
use Rattle.ccr_ledger.specs.Events.{after_last, after_discard, after_dropped, after_stop, after_yield, after_end, after_event, is_yield}
use Rattle.ccr_ledger.specs.Kept.{HasSizes, KeepsScriptPosts}
use Rattle.ccr_ledger.proofs.Counting.{length-more}
use Rattle.ccr_ledger.proofs.Tables.{number-set}

-- the counts of posts alone
record ScriptPosts : Type 0 where
  script_posts : List ℕ
  task_posts : ℕ

abbrev script_posts_of : Books → ScriptPosts
script_posts_of b = record { script_posts = b.script_posts; task_posts = b.task_posts }

by_card : (b : Books) (o : Option Card) (f : Card → Books) → ((c : Card) → script_posts_of (f c) ≡ script_posts_of b) → script_posts_of (option_map_or f o b) ≡ script_posts_of b
by_card b None f same = refl
by_card b (Some c) f same = same c

same-cuts : (ts : List TaskId) (b : Books) → script_posts_of (after_cuts ts b) ≡ script_posts_of b
same-cuts [] b = refl
same-cuts (t ∷ ts) b = same-cuts ts (after_cut t b) ∙ by_card b (card_at b.tasks t) _ (λ c. refl)

same-last : (r : TaskId) (b : Books) → script_posts_of (after_last r b) ≡ script_posts_of b
same-last r b = by_card b (card_at b.tasks r) _ (λ c. of_test b (record b { tasks = _; admitted = _; alone = _ }) c.admitted refl)
  where
    of_test : (b d : Books) (is : Bool) → script_posts_of d ≡ script_posts_of b → script_posts_of (if is then d else b) ≡ script_posts_of b
    of_test b d true same = same
    of_test b d false same = refl

same-dropped : (d : Option TaskId) (b : Books) → script_posts_of (after_dropped d b) ≡ script_posts_of b
same-dropped None b = refl
same-dropped (Some t) b = by_card b (card_at b.tasks t) _ (λ c. same-last c.root (after_discard t c.spot c.queue b))

same-fire : (w : Parts) (t : TaskId) (s : Spot) (ms : List MsgId) (cs : List TaskId) (b : Books) → script_posts_of (after_fire w t s ms cs b) ≡ script_posts_of b
same-fire w t (Branch n) ms cs b = of_placement (placement w n)
  where
    of_placement : (o : Option Placement) → script_posts_of (option_map_or (after_taking w t n ms (after_cuts cs b)) o b) ≡ script_posts_of b
    of_placement None = refl
    of_placement (Some s) = same-cuts cs b
same-fire w t (Site n k) ms cs b = by_card b (resumed_card b n k) _ (λ c. refl)

same-end : (t : TaskId) (how : EndHow) (c : Card) (b : Books) → script_posts_of (after_end t how c b) ≡ script_posts_of b
same-end t how c b = of_test (is_yield how)
  where
    of_test : (is : Bool) → script_posts_of (if is then after_yield t c b else after_last c.root (after_stop t b)) ≡ script_posts_of b
    of_test true = refl
    of_test false = same-last c.root (after_stop t b)

-- no post, and the counts as they were
script_posts-other : (w : Parts) (h : List Event) (e : Event) (b c : Books) → post_of e ≡ [] → script_posts_of c ≡ script_posts_of b → KeepsScriptPosts w h b → KeepsScriptPosts w (h ++ e ∷ []) c
script_posts-other w h e b c other same keeps = record {
  script_posts = λ p low. ap (λ (s : ScriptPosts). number s.script_posts p) same ∙ (keeps.script_posts p low ∙ ap (λ ms. length (filter (λ (m : Msg). is_script_of p m.id) ms)) (sym posts_same));
  task_posts = ap (λ (s : ScriptPosts). s.task_posts) same ∙ (keeps.task_posts ∙ ap (λ ms. length (filter (λ (m : Msg). is_task_message m.id) ms)) (sym posts_same));
}
  where
    posts_same : posts (h ++ e ∷ []) ≡ posts h
    posts_same = rw (posts-push, other) (append-nil (posts h))

pub counted-post : (h : List Event) (m : Msg) (id : MsgId) (test : MsgId → Bool) → m.id ≡ id → length (filter (λ (o : Msg). test o.id) (posts (h ++ Post m ∷ []))) ≡ (if test id then length (filter (λ (o : Msg). test o.id) (posts h)) + 1 else length (filter (λ (o : Msg). test o.id) (posts h)))
counted-post h m id test is =
    ap (λ ms. length (filter (λ (o : Msg). test o.id) ms)) (posts-push h (Post m)) ∙ (length-more (λ (o : Msg). test o.id) (posts h) m ∙ ap (λ n. if test n then length (filter (λ (o : Msg). test o.id) (posts h)) + 1 else length (filter (λ (o : Msg). test o.id) (posts h))) is)

script_posts-post : (w : Parts) (h : List Event) (m : Msg) (id : MsgId) (b : Books) → m.id ≡ id → HasSizes w b → KeepsScriptPosts w h b → KeepsScriptPosts w (h ++ Post m ∷ []) (counted id b)
script_posts-post w h m (Script actor index) b is sizes keeps = record {
  script_posts = λ p low. number-set b.script_posts actor p (number b.script_posts actor + 1) (omega (arith, low, sizes.script_posts)) ∙ (of_test p (actor == p) refl (keeps.script_posts p low) ∙ sym (counted-post h m _ (is_script_of p) is));
  task_posts = keeps.task_posts ∙ sym (counted-post h m _ is_task_message is);
}
  where
    of_test : (p : ℕ) (same : Bool) → (actor == p) ≡ same → number b.script_posts p ≡ posts_of_poster h p → (if same then number b.script_posts actor + 1 else number b.script_posts p) ≡ (if same then posts_of_poster h p + 1 else posts_of_poster h p)
    of_test p true same known = let one : actor ≡ p = same_number actor p same in ap (λ n. n + 1) (ap (number b.script_posts) one ∙ known)
    of_test p false same known = known
script_posts-post w h m (Task task index) b is sizes keeps = record {
  script_posts = λ p low. keeps.script_posts p low ∙ sym (counted-post h m _ (is_script_of p) is);
  task_posts = ap (λ n. n + 1) keeps.task_posts ∙ sym (counted-post h m _ is_task_message is);
}

-- after each event the counts are those of the posts of each poster, and of all tasks
pub script_posts-event : (w : Parts) (h : List Event) (e : Event) (b : Books) → HasSizes w b → KeepsScriptPosts w h b → KeepsScriptPosts w (h ++ e ∷ []) (after_event w e b)
script_posts-event w h (Post m) b sizes keeps = let done = script_posts-post w h m m.id b refl sizes keeps in record { script_posts = done.script_posts; task_posts = done.task_posts }
script_posts-event w h (Fire t s ms cs) b sizes keeps = script_posts-other w h (Fire t s ms cs) b (after_fire w t s ms cs b) refl (same-fire w t s ms cs b) keeps
script_posts-event w h (Admit t) b sizes keeps = script_posts-other w h (Admit t) b (after_event w (Admit t) b) refl (by_card b (card_at b.tasks t) _ (λ c. refl)) keeps
script_posts-event w h (Put t d) b sizes keeps = script_posts-other w h (Put t d) b (after_event w (Put t d) b) refl (by_card b (card_at b.tasks t) _ (λ c. same-dropped d b)) keeps
script_posts-event w h (Start t a) b sizes keeps = script_posts-other w h (Start t a) b (after_event w (Start t a) b) refl (by_card b (card_at b.tasks t) _ (λ c. refl)) keeps
script_posts-event w h (End t how) b sizes keeps = script_posts-other w h (End t how) b (after_event w (End t how) b) refl (by_card b (card_at b.tasks t) _ (λ c. same-end t how c b)) keeps
