-- Each event keeps what the flags say of who fired.
use Rattle.std.proofs.Common.{◌≡◌, ℕ, ◌<◌, Bool, true, false, not, ◌&&◌, List, [], ◌∷◌, ◌++◌, length, map, filter, Option, Some, None, refl, sym, ap, ◌∙◌, arith}
use Rattle.std.specs.Prelude.{◌==◌, if◌then◌else◌}
use Rattle.std.specs.Option.{option_map_or}
use Rattle.std.proofs.lemmas.Bool.Decides.{nat_tests}
use Rattle.ccr_base.specs.declared.names.TaskId.{TaskId}
use Rattle.ccr_base.specs.declared.names.MsgId.{MsgId}
use Rattle.ccr_base.specs.declared.names.MsgId.TheVariants.{Script, Task}
use Rattle.ccr_base.specs.declared.names.Spot.{Spot}
use Rattle.ccr_base.specs.declared.names.Spot.TheVariants.{Branch, Site}
use Rattle.ccr_base.specs.Names.{same_spot}
use Rattle.ccr_wiring.specs.declared.parts.Parts.{Parts}
use Rattle.ccr_wiring.specs.Wirings.{Placement, placement, placements}
use Rattle.ccr_model.specs.declared.history.Event.{Event}
use Rattle.ccr_model.specs.declared.history.Event.TheVariants.{Post, Fire, Admit, Put, Start, End}
use Rattle.ccr_model.specs.declared.history.EndHow.{EndHow}
use Rattle.ccr_model.specs.Firings.{Firing, firings, firing_of}
use Rattle.ccr_model.specs.Tasks.{is_teardown, is_branch_where}
use Rattle.ccr_model.specs.Live.{is_none_of}
use Rattle.ccr_base.proofs.Booleans.{same_number}
use Rattle.ccr_base.proofs.Options.{none-above}
use Rattle.ccr_model.proofs.OneMoreEvent.{firings-push}
use Rattle.ccr_model.proofs.AllowedFirings.{firings-other}
use Rattle.ccr_ledger.specs.declared.cards.Card.{Card}
use Rattle.ccr_ledger.specs.Books.{Books, card_at, flag, raised}
use Rattle.ccr_ledger.specs.Posting.{after_post, counted}
use Rattle.ccr_ledger.specs.Firing.{after_cut, after_cuts, after_taking, after_fire, resumed_card}
use Rattle.ccr_ledger.specs.Events.{after_last, after_discard, after_dropped, after_stop, after_yield, after_end, after_event, is_yield}
use Rattle.ccr_ledger.specs.Kept.{HasSizes, KeepsFlags}
use Rattle.ccr_ledger.proofs.Tables.{flag-set}

-- the flags alone
record Flags : Type 0 where
  spent : List Bool
  chosen : List Bool
  torn : List Bool

abbrev flags_of : Books → Flags
flags_of b = record { spent = b.spent; chosen = b.chosen; torn = b.torn }

by_card : (b : Books) (o : Option Card) (f : Card → Books) → ((c : Card) → flags_of (f c) ≡ flags_of b) → flags_of (option_map_or f o b) ≡ flags_of b
by_card b None f same = refl
by_card b (Some c) f same = same c

same-post : (id : MsgId) (b : Books) → flags_of (counted id b) ≡ flags_of b
same-post (Script actor index) b = refl
same-post (Task task index) b = refl

same-cuts : (ts : List TaskId) (b : Books) → flags_of (after_cuts ts b) ≡ flags_of b
same-cuts [] b = refl
same-cuts (t ∷ ts) b = same-cuts ts (after_cut t b) ∙ by_card b (card_at b.tasks t) _ (λ c. refl)

same-last : (r : TaskId) (b : Books) → flags_of (after_last r b) ≡ flags_of b
same-last r b = by_card b (card_at b.tasks r) _ (λ c. of_test b (record b { tasks = _; admitted = _; alone = _ }) c.admitted refl)
  where
    of_test : (b d : Books) (is : Bool) → flags_of d ≡ flags_of b → flags_of (if is then d else b) ≡ flags_of b
    of_test b d true same = same
    of_test b d false same = refl

same-dropped : (d : Option TaskId) (b : Books) → flags_of (after_dropped d b) ≡ flags_of b
same-dropped None b = refl
same-dropped (Some t) b = by_card b (card_at b.tasks t) _ (λ c. same-last c.root (after_discard t c.spot c.queue b))

same-end : (t : TaskId) (how : EndHow) (c : Card) (b : Books) → flags_of (after_end t how c b) ≡ flags_of b
same-end t how c b = of_test (is_yield how)
  where
    of_test : (is : Bool) → flags_of (if is then after_yield t c b else after_last c.root (after_stop t b)) ≡ flags_of b
    of_test true = refl
    of_test false = same-last c.root (after_stop t b)

-- one more firing, of those that pass
none-more : (test : Firing → Bool) (fs : List Firing) (f : Firing) → not (is_none_of (map (λ (g : Firing). g.task) (filter test (fs ++ f ∷ [])))) ≡ (if test f then true else not (is_none_of (map (λ (g : Firing). g.task) (filter test fs))))
none-more test [] f = of_test (test f)
  where
    of_test : (b : Bool) → not (is_none_of (map (λ (g : Firing). g.task) (if b then f ∷ [] else []))) ≡ (if b then true else not (is_none_of []))
    of_test true = refl
    of_test false = refl
none-more test (g ∷ fs) f = of_test (test g) (test f) (none-more test fs f)
  where
    some_of_them : (ts : List TaskId) → not (is_none_of (g.task ∷ ts)) ≡ true
    some_of_them ts = grind (arith, nat_tests)

    of_test : (b c : Bool) → not (is_none_of (map (λ (g : Firing). g.task) (filter test (fs ++ f ∷ [])))) ≡ (if c then true else not (is_none_of (map (λ (g : Firing). g.task) (filter test fs))))
        → not (is_none_of (map (λ (g : Firing). g.task) (if b then g ∷ filter test (fs ++ f ∷ []) else filter test (fs ++ f ∷ [])))) ≡ (if c then true else not (is_none_of (map (λ (g : Firing). g.task) (if b then g ∷ filter test fs else filter test fs))))
    of_test true true rest = some_of_them (map (λ (g : Firing). g.task) (filter test (fs ++ f ∷ [])))
    of_test true false rest = some_of_them (map (λ (g : Firing). g.task) (filter test (fs ++ f ∷ []))) ∙ sym (some_of_them (map (λ (g : Firing). g.task) (filter test fs)))
    of_test false c rest = rest

-- no firing, and the flags as they were
flags-other : (w : Parts) (h : List Event) (e : Event) (b c : Books) → firing_of e ≡ [] → flags_of c ≡ flags_of b → KeepsFlags w h b → KeepsFlags w (h ++ e ∷ []) c
flags-other w h e b c other same keeps = record {
  spent = λ n low. ap (λ (fs : Flags). flag fs.spent n) same ∙ (keeps.spent n low ∙ ap (λ fs. not (is_none_of (map (λ (f : Firing). f.task) (filter (λ (f : Firing). same_spot f.spot (Branch n)) fs)))) (sym (firings-other h e other)));
  chosen = λ i low. ap (λ (fs : Flags). flag fs.chosen i) same ∙ (keeps.chosen i low ∙ ap (λ fs. not (is_none_of (map (λ (f : Firing). f.task) (filter (λ (f : Firing). is_branch_where w (λ s. s.domain == i) f.spot) fs)))) (sym (firings-other h e other)));
  torn = λ i low. ap (λ (fs : Flags). flag fs.torn i) same ∙ (keeps.torn i low ∙ ap (λ fs. not (is_none_of (map (λ (f : Firing). f.task) (filter (λ (f : Firing). is_branch_where w (λ s. (s.domain == i) && is_teardown s.branch.group) f.spot) fs)))) (sym (firings-other h e other)));
}

-- how a firing moves a flag of those that pass
module _ (h : List Event) (t : TaskId) (s : Spot) (ms : List MsgId) (cs : List TaskId) where
  fired_more : (test : Firing → Bool) → not (is_none_of (map (λ (f : Firing). f.task) (filter test (firings (h ++ Fire t s ms cs ∷ []))))) ≡ (if test (record { task = t; spot = s; messages = ms; cuts = cs }) then true else not (is_none_of (map (λ (f : Firing). f.task) (filter test (firings h)))))
  fired_more test = rw firings-push (none-more test (firings h) (record { task = t; spot = s; messages = ms; cuts = cs }))

if_same : (b c d : Bool) → c ≡ d → (if b then true else c) ≡ (if b then true else d)
if_same b c d same = ap (λ x. if b then true else x) same

torn-set : (flags : List Bool) (index k : ℕ) (is : Bool) (was : Bool) → k < length flags → flag flags k ≡ was → flag (if is then raised index flags else flags) k ≡ (if (index == k) && is then true else was)
torn-set flags index k true was low same = flag-set flags index k true low ∙ of_test (index == k)
  where
    of_test : (b : Bool) → (if b then true else flag flags k) ≡ (if b && true then true else was)
    of_test true = refl
    of_test false = same
torn-set flags index k false was low same = same ∙ of_test (index == k)
  where
    of_test : (b : Bool) → was ≡ (if b && false then true else was)
    of_test true = refl
    of_test false = refl

flags-branch : (w : Parts) (h : List Event) (t : TaskId) (n : ℕ) (ms : List MsgId) (cs : List TaskId) (b c : Books) (s : Placement) → placement w n ≡ Some s → flags_of c ≡ flags_of b → HasSizes w b → KeepsFlags w h b
    → KeepsFlags w (h ++ Fire t (Branch n) ms cs ∷ []) (after_taking w t n ms c s)
flags-branch w h t n ms cs b c s at same sizes keeps = record {
  spent = λ m low. ap (λ (fs : Flags). flag (raised n fs.spent) m) same ∙ (flag-set b.spent n m true (omega (arith, low, sizes.spent)) ∙ (if_same (n == m) _ _ (keeps.spent m low) ∙ sym (fired_more h t (Branch n) ms cs (λ (f : Firing). same_spot f.spot (Branch m)))));
  chosen = λ i low. ap (λ (fs : Flags). flag (raised s.domain fs.chosen) i) same ∙ (flag-set b.chosen s.domain i true (omega (arith, low, sizes.chosen)) ∙ (if_same (s.domain == i) _ _ (keeps.chosen i low) ∙ sym (fired_more h t (Branch n) ms cs (λ (f : Firing). is_branch_where w (λ z. z.domain == i) f.spot) ∙ rw at refl)));
  torn = λ i low. ap (λ (fs : Flags). flag (if is_teardown s.branch.group then raised s.domain fs.torn else fs.torn) i) same ∙ (torn-set b.torn s.domain i (is_teardown s.branch.group) _ (omega (arith, low, sizes.torn)) (keeps.torn i low) ∙ sym (fired_more h t (Branch n) ms cs (λ (f : Firing). is_branch_where w (λ z. (z.domain == i) && is_teardown z.branch.group) f.spot) ∙ rw at refl));
}

-- a firing of no branch of the wiring
flags-nowhere : (w : Parts) (h : List Event) (t : TaskId) (n : ℕ) (ms : List MsgId) (cs : List TaskId) (b : Books) → placement w n ≡ None → KeepsFlags w h b → KeepsFlags w (h ++ Fire t (Branch n) ms cs ∷ []) b
flags-nowhere w h t n ms cs b none keeps = record {
  spent = λ m low. keeps.spent m low ∙ (of_test m low (n == m) refl _ ∙ sym (fired_more h t (Branch n) ms cs (λ (f : Firing). same_spot f.spot (Branch m))));
  chosen = λ i low. keeps.chosen i low ∙ sym (fired_more h t (Branch n) ms cs (λ (f : Firing). is_branch_where w (λ z. z.domain == i) f.spot) ∙ rw none refl);
  torn = λ i low. keeps.torn i low ∙ sym (fired_more h t (Branch n) ms cs (λ (f : Firing). is_branch_where w (λ z. (z.domain == i) && is_teardown z.branch.group) f.spot) ∙ rw none refl);
}
  where
    of_test : (m : ℕ) → m < length (placements w) → (is : Bool) → (n == m) ≡ is → (was : Bool) → was ≡ (if is then true else was)
    of_test m low false is was = refl
    of_test m low true is was = absurd (omega (arith, low, none-above (placements w) n none, same_number n m is))

-- a firing at a site
flags-site : (w : Parts) (h : List Event) (t : TaskId) (n k : ℕ) (ms : List MsgId) (cs : List TaskId) (b c : Books) → flags_of c ≡ flags_of b → KeepsFlags w h b → KeepsFlags w (h ++ Fire t (Site n k) ms cs ∷ []) c
flags-site w h t n k ms cs b c same keeps = record {
  spent = λ m low. ap (λ (fs : Flags). flag fs.spent m) same ∙ (keeps.spent m low ∙ sym (fired_more h t (Site n k) ms cs (λ (f : Firing). same_spot f.spot (Branch m))));
  chosen = λ i low. ap (λ (fs : Flags). flag fs.chosen i) same ∙ (keeps.chosen i low ∙ sym (fired_more h t (Site n k) ms cs (λ (f : Firing). is_branch_where w (λ z. z.domain == i) f.spot)));
  torn = λ i low. ap (λ (fs : Flags). flag fs.torn i) same ∙ (keeps.torn i low ∙ sym (fired_more h t (Site n k) ms cs (λ (f : Firing). is_branch_where w (λ z. (z.domain == i) && is_teardown z.branch.group) f.spot)));
}

-- after each event the flags still say which branches and domains fired, and in which a teardown fired
pub flags-event : (w : Parts) (h : List Event) (e : Event) (b : Books) → HasSizes w b → KeepsFlags w h b → KeepsFlags w (h ++ e ∷ []) (after_event w e b)
flags-event w h (Post m) b sizes keeps = flags-other w h (Post m) b (after_post m b) refl (same-post m.id b) keeps
flags-event w h (Fire t (Branch n) ms cs) b sizes keeps = of_placement (placement w n) refl
  where
    of_placement : (o : Option Placement) → placement w n ≡ o → KeepsFlags w (h ++ Fire t (Branch n) ms cs ∷ []) (option_map_or (after_taking w t n ms (after_cuts cs b)) o b)
    of_placement None at = flags-nowhere w h t n ms cs b at keeps
    of_placement (Some s) at = flags-branch w h t n ms cs b (after_cuts cs b) s at (same-cuts cs b) sizes keeps
flags-event w h (Fire t (Site n k) ms cs) b sizes keeps = flags-site w h t n k ms cs b (after_fire w t (Site n k) ms cs b) (by_card b (resumed_card b n k) _ (λ c. refl)) keeps
flags-event w h (Admit t) b sizes keeps = flags-other w h (Admit t) b (after_event w (Admit t) b) refl (by_card b (card_at b.tasks t) _ (λ c. refl)) keeps
flags-event w h (Put t d) b sizes keeps = flags-other w h (Put t d) b (after_event w (Put t d) b) refl (by_card b (card_at b.tasks t) _ (λ c. same-dropped d b)) keeps
flags-event w h (Start t a) b sizes keeps = flags-other w h (Start t a) b (after_event w (Start t a) b) refl (by_card b (card_at b.tasks t) _ (λ c. refl)) keeps
flags-event w h (End t how) b sizes keeps = flags-other w h (End t how) b (after_event w (End t how) b) refl (by_card b (card_at b.tasks t) _ (λ c. same-end t how c b)) keeps
