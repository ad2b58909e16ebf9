-- Each posted message has exactly one fate.
use Rattle.std.proofs.Common.{◌≡◌, inl, Bool, true, false, not, List, [], ◌∷◌, ◌++◌, Option, Some, None, refl, sym, ap, ◌∙◌, subst}
use Rattle.std.specs.Prelude.{◌==◌, if◌then◌else◌, find}
use Rattle.std.specs.Option.{option_map, option_map_or}
use Rattle.std.proofs.lemmas.List.Folds.{find-append}
use Rattle.ccr_base.specs.declared.names.MsgId.{MsgId}
use Rattle.ccr_base.specs.declared.names.TaskId.{TaskId}
use Rattle.ccr_base.specs.declared.messages.Msg.{Msg}
use Rattle.ccr_wiring.specs.declared.parts.Parts.{Parts}
use Rattle.ccr_model.specs.declared.history.Event.{Event}
use Rattle.ccr_model.specs.declared.history.Event.TheVariants.{Post, Fire, Admit, Put, Start, End}
use Rattle.ccr_model.specs.declared.history.Fate.{Fate}
use Rattle.ccr_model.specs.declared.history.Fate.TheVariants.{Held, Taken}
use Rattle.ccr_base.specs.Names.{same_message, has_message}
use Rattle.ccr_wiring.specs.Valid.{IsValid}
use Rattle.ccr_model.specs.Posts.{posts, posted, held, taken, message_named}
use Rattle.ccr_model.specs.Firings.{Firing, firings}
use Rattle.ccr_model.specs.Fates.{state_of, fate_of, fate}
use Rattle.ccr_model.specs.Legal.{IsLegal}
use Rattle.ccr_model.proofs.Stable.{firings-append}
use Rattle.ccr_model.proofs.Allowing.{OneName-legal}
use Rattle.ccr_model.proofs.Members.{Among, Among-right, Contains-among, found_among, found_some, kept_among}
use Rattle.ccr_base.proofs.SameNames.{same_message-self}
use Rattle.ccr_base.proofs.Booleans.{eq-self}
use Rattle.ccr_base.proofs.Lists.{none_of_both, any_parts}
use Rattle.ccr_laws.specs.Occurring.{Occurs}
use Rattle.ccr_laws.specs.OneFate.{IsHeld, IsTakenBy, HasFate, HasOneFate}
use Rattle.ccr_model.proofs.FiringPlacements.{firing_with_placement}
use Rattle.ccr_model.proofs.OneMoreEvent.{posts-append}
use Rattle.ccr_laws.proofs.HeldBefore.{untaken_of_held, untaken_before}
use Rattle.ccr_laws.proofs.States.{is_in, only_in}

-- whether the firing names the message
abbrev names_it : MsgId → Firing → Bool
names_it name f = has_message f.messages name

untaken_by_none : (h : List Event) (name : MsgId) → find (names_it name) (firings h) ≡ None → has_message (taken h) name ≡ false
untaken_by_none [] name none = refl
untaken_by_none (Fire t s ms cs ∷ h) name none = of_test (has_message ms name) refl none (untaken_by_none h name)
  where
    of_test : (b : Bool) → has_message ms name ≡ b → (if b then Some (let f : Firing = record { task = t; spot = s; messages = ms; cuts = cs } in f) else find (names_it name) (firings h)) ≡ None → (find (names_it name) (firings h) ≡ None → has_message (taken h) name ≡ false) → has_message (ms ++ taken h) name ≡ false
    of_test true e at rest = absurd (cc)
    of_test false e at rest = none_of_both (same_message name) ms (taken h) e (rest at)
untaken_by_none (Post m ∷ h) name none = untaken_by_none h name none
untaken_by_none (Admit t ∷ h) name none = untaken_by_none h name none
untaken_by_none (Put t d ∷ h) name none = untaken_by_none h name none
untaken_by_none (Start t a ∷ h) name none = untaken_by_none h name none
untaken_by_none (End t how ∷ h) name none = untaken_by_none h name none

none_by_untaken : (h : List Event) (name : MsgId) → has_message (taken h) name ≡ false → find (names_it name) (firings h) ≡ None
none_by_untaken [] name out = refl
none_by_untaken (Fire t s ms cs ∷ h) name out = let parts = any_parts (same_message name) ms (taken h) out in rw parts.0 (none_by_untaken h name parts.1)
none_by_untaken (Post m ∷ h) name out = none_by_untaken h name out
none_by_untaken (Admit t ∷ h) name out = none_by_untaken h name out
none_by_untaken (Put t d ∷ h) name out = none_by_untaken h name out
none_by_untaken (Start t a ∷ h) name out = none_by_untaken h name out
none_by_untaken (End t how ∷ h) name out = none_by_untaken h name out

-- the first firing that names it stands in the history
taken_later : (e : Event) (h : List Event) (name : MsgId) (t : TaskId) → IsTakenBy h name t → IsTakenBy (e ∷ h) name t
taken_later e h name t is = record { past = e ∷ is.past; spot = is.spot; messages = is.messages; cuts = is.cuts; stands = record { more = is.stands.more; whole = ap (λ g. e ∷ g) is.stands.whole }; named = is.named }

taken_by_found : (h : List Event) (name : MsgId) (f : Firing) → find (names_it name) (firings h) ≡ Some f → IsTakenBy h name f.task
taken_by_found [] name f is = absurd (cc)
taken_by_found (Fire t s ms cs ∷ h) name f is = of_test (has_message ms name) refl is (taken_by_found h name f)
  where
    of_test : (b : Bool) → has_message ms name ≡ b → (if b then Some (let g : Firing = record { task = t; spot = s; messages = ms; cuts = cs } in g) else find (names_it name) (firings h)) ≡ Some f → (find (names_it name) (firings h) ≡ Some f → IsTakenBy h name f.task) → IsTakenBy (Fire t s ms cs ∷ h) name f.task
    of_test true e at rest =
        let task : t ≡ f.task = cc in
        subst (IsTakenBy (Fire t s ms cs ∷ h) name) task (record { past = []; spot = s; messages = ms; cuts = cs; stands = record { more = h; whole = refl }; named = e })
    of_test false e at rest = taken_later (Fire t s ms cs) h name f.task (rest at)
taken_by_found (Post m ∷ h) name f is = taken_later (Post m) h name f.task (taken_by_found h name f is)
taken_by_found (Admit t ∷ h) name f is = taken_later (Admit t) h name f.task (taken_by_found h name f is)
taken_by_found (Put t d ∷ h) name f is = taken_later (Put t d) h name f.task (taken_by_found h name f is)
taken_by_found (Start t a ∷ h) name f is = taken_later (Start t a) h name f.task (taken_by_found h name f is)
taken_by_found (End t how ∷ h) name f is = taken_later (End t how) h name f.task (taken_by_found h name f is)

-- and it is the only one
find_behind : (p : Firing → Bool) (fs gs : List Firing) (f : Firing) → find p fs ≡ None → p f ≡ true → find p (fs ++ f ∷ gs) ≡ Some f
find_behind p fs gs f none passes = find-append p fs (f ∷ gs) ∙ rw (none, passes) refl

found_by_taken : (w : Parts) → IsValid w → (h : List Event) → IsLegal w h → (name : MsgId) (t : TaskId) → IsTakenBy h name t → (f : Firing) × (find (names_it name) (firings h) ≡ Some f) × (f.task ≡ t)
found_by_taken w valid h legal name t is =
    let f : Firing = record { task = t; spot = is.spot; messages = is.messages; cuts = is.cuts } in
    let none = none_by_untaken is.past name (untaken_before w valid h legal is.past t is.spot is.messages is.cuts is.stands name is.named) in
    let all : firings h ≡ firings is.past ++ f ∷ firings is.stands.more = ap firings is.stands.whole ∙ firings-append is.past (Fire t is.spot is.messages is.cuts ∷ is.stands.more) in
    (f, ap (find (names_it name)) all ∙ find_behind (names_it name) (firings is.past) (firings is.stands.more) f none is.named, refl)

among_posts : (h past : List Event) (m : Msg) → Occurs h past (Post m) → Among m (posts h)
among_posts h past m stands = subst (λ g. Among m (posts g)) (sym stands.whole) (subst (Among m) (sym (posts-append past (Post m ∷ stands.more))) (Among-right m (posts past) (m ∷ posts stands.more) (inl refl)))

found_name : (ms : List Msg) (m : Msg) → Among m ms → (x : Msg) × (find (λ (y : Msg). same_message y.id m.id) ms ≡ Some x)
found_name ms m is = found_some (λ (y : Msg). same_message y.id m.id) ms m is (same_message-self m.id)

held_by_untaken : (h past : List Event) (m : Msg) → Occurs h past (Post m) → has_message (taken h) m.id ≡ false → IsHeld h m.id
held_by_untaken h past m stands out =
    let posted_so = kept_among (λ (x : Msg). x.port == m.port) (posts h) m (among_posts h past m stands) (eq-self m.port) in
    let held_so = kept_among (λ (x : Msg). not (has_message (taken h) x.id)) (posted h m.port) m posted_so (ap not out) in
    record { message = m; named = refl; among = Contains-among (held h m.port) m held_so }

untaken_by_held : (h : List Event) (name : MsgId) → IsHeld h name → has_message (taken h) name ≡ false
untaken_by_held h name is = subst (λ n. has_message (taken h) n ≡ false) is.named (untaken_of_held h is.message.port is.message is.among)

-- what is told
told : (w : Parts) (h : List Event) (name : MsgId) (x : Msg) (o : Option Firing) → message_named h name ≡ Some x → find (names_it name) (firings h) ≡ o → fate w h name ≡ Some (option_map_or (λ task. Taken task (state_of w h task)) (option_map (λ (f : Firing). f.task) o) Held)
told w h name x o named found = ap (λ p. option_map (λ (m : Msg). fate_of w h name) p) named ∙ ap (λ p. Some (option_map_or (λ task. Taken task (state_of w h task)) (option_map (λ (f : Firing). f.task) p) Held)) found

-- a held message isn't taken
held_alone : (w : Parts) → IsValid w → (h : List Event) → IsLegal w h → (name : MsgId) → find (names_it name) (firings h) ≡ None → (other : Fate) → HasFate w h name other → other ≡ Held
held_alone w valid h legal name none Held has = refl
held_alone w valid h legal name none (Taken t state) has = let found = found_by_taken w valid h legal name t has.0 in absurd (cc (none, found.1))

-- a taken one is taken by one task, which is in one state
taken_alone : (w : Parts) → IsValid w → (h : List Event) → IsLegal w h → (name : MsgId) (f : Firing) → find (names_it name) (firings h) ≡ Some f → (other : Fate) → HasFate w h name other → other ≡ Taken f.task (state_of w h f.task)
taken_alone w valid h legal name f found Held has = let none = none_by_untaken h name (untaken_by_held h name has) in absurd (cc (none, found))
taken_alone w valid h legal name f found (Taken t state) has =
    let other = found_by_taken w valid h legal name t has.0 in
    let same : other.0 ≡ f = cc (other.1, found) in
    let task : t ≡ f.task = sym other.2 ∙ ap (λ (g : Firing). g.task) same in
    ap (Taken t) (only_in w h legal t state has.1) ∙ ap (λ u. Taken u (state_of w h u)) task

-- one fate
pub one_fate : (w : Parts) → IsValid w → (h : List Event) → IsLegal w h → (past : List Event) (m : Msg) → Occurs h past (Post m) → HasOneFate w h m.id
one_fate w valid h legal past m stands = of_taker (find (names_it m.id) (firings h)) refl
  where
    of_taker : (o : Option Firing) → find (names_it m.id) (firings h) ≡ o → HasOneFate w h m.id
    of_taker None none =
        let posted_so = found_name (posts h) m (among_posts h past m stands) in
        record {
          its = Held;
          has = held_by_untaken h past m stands (untaken_by_none h m.id none);
          alone = held_alone w valid h legal m.id none;
          told = told w h m.id posted_so.0 None posted_so.1 none;
        }
    of_taker (Some f) found =
        let posted_so = found_name (posts h) m (among_posts h past m stands) in
        let among = found_among (names_it m.id) (firings h) f found in
        let with_placement = firing_with_placement w h legal f among in
        record {
          its = Taken f.task (state_of w h f.task);
          has = (taken_by_found h m.id f found, is_in w h f.task f with_placement.0 (OneName-legal w h legal f among) with_placement.1);
          alone = taken_alone w valid h legal m.id f found;
          told = told w h m.id posted_so.0 (Some f) posted_so.1 found;
        }
