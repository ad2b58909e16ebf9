-- The ports' part of the invariant, one lemma a kind of step.
use Rattle.std.proofs.Common.{◌⊎◌, inl, inr, ◌≡◌, ◌≤◌, ℕ, Bool, true, false, not, ◌||◌, List, [], ◌∷◌, ◌++◌, length, filter, Option, Some, None, refl, sym, arith, ap, ◌∙◌, subst, append-nil, map}
use Rattle.std.specs.Prelude.{◌==◌, if◌then◌else◌}
use Rattle.std.specs.Option.{option_map_or}
use Rattle.std.proofs.lemmas.Grind.{common_steps}
use Rattle.ccr_base.specs.declared.names.TaskId.{TaskId}
use Rattle.ccr_base.specs.declared.names.MsgId.{MsgId}
use Rattle.ccr_base.specs.declared.names.Spot.{Spot}
use Rattle.ccr_base.specs.declared.messages.Msg.{Msg}
use Rattle.ccr_base.specs.declared.patterns.Slot.{Slot}
use Rattle.ccr_base.specs.Selection.{fitting}
use Rattle.ccr_base.specs.Names.{same_task, same_message, has_task, has_message}
use Rattle.ccr_model.specs.declared.history.Event.{Event}
use Rattle.ccr_model.specs.declared.history.Event.TheVariants as events
use Rattle.ccr_model.specs.Posts.{posts, taken, held}
use Rattle.ccr_model.specs.Firings.{fired, Firing}
use Rattle.ccr_base.proofs.Booleans.{same_number, or_left, or_right, not_false}
use Rattle.ccr_model.proofs.Members.{Among, Among-map, any_among, same_filter, filter_all}
use Rattle.ccr_model.proofs.HeldSteps.{held-post, held-fire}
use Rattle.ccr_model.proofs.OneMoreEvent.{fired-fire, posts-push}
use Rattle.ccr_model.proofs.PostNames.{times, AreNamed}
use Rattle.ccr_base.proofs.SameNames.{same_message-self, has_task-last}
use Rattle.ccr_model.proofs.MessageNames.{has_message-append, held_few, first-named}
use Rattle.ccr_model.proofs.TakenOnce.{taken-push}
use Rattle.ccr_model.proofs.AllowedFirings.{firings-other}
use Rattle.ccr_places.specs.declared.claims.StandingClaim.{StandingClaim}
use Rattle.ccr_places.specs.declared.notes.ClaimNote.TheVariants.{Got}
use Rattle.ccr_places.specs.declared.notes.Note.{Note}
use Rattle.ccr_places.specs.declared.notes.Note.TheVariants as notes
use Rattle.ccr_places.specs.Ports.{PortState, first_fitting, without_first, unmarked_by}
use Rattle.ccr_places.specs.Ports as ports
use Rattle.ccr_claim.specs.Plans.{names_of}
use Rattle.ccr_net.proofs.Parts.PortsAndHandsMatch.{PortsMatch}
use Rattle.ccr_net.proofs.Parts.PostsKeepMarks.{has_name, has_name-append, enough-post, without_first-post, without_first-named}

-- the port of this number takes the note, the others stay
abbrev pub Changes : (ℕ → PortState) → (ℕ → PortState) → ℕ → Note → Type 0
Changes port port' p note = (q : ℕ) → port' q ≡ (if p == q then ports.after (port q) note else port q)

pub implied_false : (a b : Bool) → (a ≡ true → b ≡ true) → b ≡ false → a ≡ false
implied_false false b then_so is = refl
implied_false true b then_so is = let k = then_so refl in absurd (cc)

posts-post : (h : List Event) (m : Msg) → posts (h ++ events.Post m ∷ []) ≡ posts h ++ m ∷ []
posts-post h m = posts-push h (events.Post m)

taken-post : (h : List Event) (m : Msg) → taken (h ++ events.Post m ∷ []) ≡ taken h
taken-post h m = taken-push h (events.Post m) ∙ append-nil (taken h)

pub fired-post : (h : List Event) (m : Msg) → fired (h ++ events.Post m ∷ []) ≡ fired h
fired-post h m = ap (map (λ (f : Firing). f.task)) (firings-other h (events.Post m) refl)

posted-more : (h : List Event) (m : Msg) (name : MsgId) → has_name (posts h) name ≡ true → has_name (posts (h ++ events.Post m ∷ [])) name ≡ true
posted-more h m name is = rw (posts-post, has_name-append) (or_left (has_name (posts h) name) (has_name (m ∷ []) name) is)

-- ---- a post

unmarked-post : (gone : List TaskId) (port : PortState) (m : Msg) → ((c : StandingClaim) → port.claim ≡ Some c → c.count ≤ length (fitting c.pred port.items)) → unmarked_by gone (ports.after_post port m) ≡ unmarked_by gone port ++ m ∷ []
unmarked-post gone port m enough = of_claim port.claim refl
  where
    of_claim : (o : Option StandingClaim) → port.claim ≡ o → option_map_or (λ (c : StandingClaim). if has_task gone c.task then without_first c.count c.pred (port.items ++ m ∷ []) else (port.items ++ m ∷ [])) o (port.items ++ m ∷ []) ≡ option_map_or (λ (c : StandingClaim). if has_task gone c.task then without_first c.count c.pred port.items else port.items) o port.items ++ m ∷ []
    of_claim None e = refl
    of_claim (Some c) e = by_test (has_task gone c.task)
      where
        by_test : (b : Bool) → (if b then without_first c.count c.pred (port.items ++ m ∷ []) else (port.items ++ m ∷ [])) ≡ (if b then without_first c.count c.pred port.items else port.items) ++ m ∷ []
        by_test true = without_first-post c.count c.pred port.items m (enough c e)
        by_test false = refl

pub PortsMatch-post : (h : List Event) (port port' : ℕ → PortState) (m : Msg) → has_name (posts h) m.id ≡ false → Changes port port' m.port (notes.Post m) → PortsMatch h port → PortsMatch (h ++ events.Post m ∷ []) port'
PortsMatch-post h port port' m fresh changes match = record {
  holds_so = λ q. held_at q (m.port == q) refl;
  enough = λ q c is. enough_at q c (m.port == q) refl is;
  items_posted = λ q name is. items_at q name (m.port == q) refl is;
  taken_posted = λ name is. posted-more h m name (match.taken_posted name (rw taken-post at is));
}
  where
    free : has_message (taken h) m.id ≡ false
    free = implied_false (has_message (taken h) m.id) (has_name (posts h) m.id) (match.taken_posted m.id) fresh

    held_at : (q : ℕ) (b : Bool) → (m.port == q) ≡ b → held (h ++ events.Post m ∷ []) q ≡ unmarked_by (fired (h ++ events.Post m ∷ [])) (port' q)
    held_at q true e = held-post h m q free ∙ rw (fired-post, changes q, e, match.holds_so q) (sym (unmarked-post (fired h) (port q) m (match.enough q)))
    held_at q false e = held-post h m q free ∙ rw (fired-post, changes q, e, append-nil (held h q)) (match.holds_so q)

    enough_at : (q : ℕ) (c : StandingClaim) (b : Bool) → (m.port == q) ≡ b → (port' q).claim ≡ Some c → c.count ≤ length (fitting c.pred (port' q).items)
    enough_at q c true e is = rw (changes q, e) (enough-post c.pred (port q).items m c.count (match.enough q c (rw (changes q, e) at is)))
    enough_at q c false e is = rw (changes q, e) (match.enough q c (rw (changes q, e) at is))

    items_at : (q : ℕ) (name : MsgId) (b : Bool) → (m.port == q) ≡ b → has_name (port' q).items name ≡ true → has_name (posts (h ++ events.Post m ∷ [])) name ≡ true
    items_at q name true e is = rw (posts-post, has_name-append) (either (has_name (port q).items name) refl (sym (has_name-append (port q).items (m ∷ []) name) ∙ (rw (changes q, e) at is)))
      where
        either : (b : Bool) → has_name (port q).items name ≡ b → b || has_name (m ∷ []) name ≡ true → has_name (posts h) name || has_name (m ∷ []) name ≡ true
        either true e is = or_left (has_name (posts h) name) _ (match.items_posted q name e)
        either false e is = or_right (has_name (posts h) name) (has_name (m ∷ []) name) is
    items_at q name false e is = posted-more h m name (match.items_posted q name (rw (changes q, e) at is))

-- ---- steps that show nothing: a claim, a consume, a free

-- the port of this number changes, and nothing is shown
quiet_step : (h : List Event) (port port' : ℕ → PortState) (p : ℕ) (note : Note) → Changes port port' p note → PortsMatch h port → unmarked_by (fired h) (ports.after (port p) note) ≡ unmarked_by (fired h) (port p) → ((c : StandingClaim) → (ports.after (port p) note).claim ≡ Some c → c.count ≤ length (fitting c.pred (ports.after (port p) note).items)) → ((name : MsgId) → has_name (ports.after (port p) note).items name ≡ true → has_name (port p).items name ≡ true) → PortsMatch h port'
quiet_step h port port' p note changes match same enough fewer = record {
  holds_so = λ q. held_at q (p == q) refl;
  enough = λ q c is. enough_at q c (p == q) refl is;
  items_posted = λ q name is. items_at q name (p == q) refl is;
  taken_posted = match.taken_posted;
}
  where
    held_at : (q : ℕ) (b : Bool) → (p == q) ≡ b → held h q ≡ unmarked_by (fired h) (port' q)
    held_at q true e = rw (changes q, e) (match.holds_so q ∙ subst (λ n. unmarked_by (fired h) (port n) ≡ unmarked_by (fired h) (ports.after (port n) note)) (same_number p q e) (sym same))
    held_at q false e = rw (changes q, e) (match.holds_so q)

    enough_at : (q : ℕ) (c : StandingClaim) (b : Bool) → (p == q) ≡ b → (port' q).claim ≡ Some c → c.count ≤ length (fitting c.pred (port' q).items)
    enough_at q c true e is = rw (changes q, e) (subst (λ n. (c : StandingClaim) → (ports.after (port n) note).claim ≡ Some c → c.count ≤ length (fitting c.pred (ports.after (port n) note).items)) (same_number p q e) enough c (rw (changes q, e) at is))
    enough_at q c false e is = rw (changes q, e) (match.enough q c (rw (changes q, e) at is))

    items_at : (q : ℕ) (name : MsgId) (b : Bool) → (p == q) ≡ b → has_name (port' q).items name ≡ true → has_name (posts h) name ≡ true
    items_at q name true e is = match.items_posted q name (subst (λ n. (name : MsgId) → has_name (ports.after (port n) note).items name ≡ true → has_name (port n).items name ≡ true) (same_number p q e) fewer name (rw (changes q, e) at is))
    items_at q name false e is = match.items_posted q name (rw (changes q, e) at is)

pub PortsMatch-consume : (h : List Event) (port port' : ℕ → PortState) (p : ℕ) (c : StandingClaim) (t : TaskId) → (port p).claim ≡ Some c → has_task (fired h) c.task ≡ true → Changes port port' p (notes.Consume t) → PortsMatch h port → PortsMatch h port'
PortsMatch-consume h port port' p c t is out changes match = quiet_step h port port' p (notes.Consume t) changes match (rw (is, out) refl) (λ d none. absurd (cc)) (λ name. of_claim name)
  where
    of_claim : (name : MsgId) → has_name (ports.after_consume (port p)).items name ≡ true → has_name (port p).items name ≡ true
    of_claim name now = without_first-named c.count c.pred (port p).items name (rw is at now)

pub PortsMatch-free : (h : List Event) (port port' : ℕ → PortState) (p : ℕ) (c : StandingClaim) (t : TaskId) → (port p).claim ≡ Some c → has_task (fired h) c.task ≡ false → Changes port port' p (notes.Free t) → PortsMatch h port → PortsMatch h port'
PortsMatch-free h port port' p c t is out changes match = quiet_step h port port' p (notes.Free t) changes match (rw (is, out) refl) (λ d none. absurd (cc)) (λ name is. is)

pub PortsMatch-got : (h : List Event) (port port' : ℕ → PortState) (p : ℕ) (t : TaskId) (slot : Slot) (n : ℕ) → (port p).claim ≡ None → has_task (fired h) t ≡ false → n ≤ length (fitting slot.pred (port p).items) → Changes port port' p (notes.Claim t slot (Got n)) → PortsMatch h port → PortsMatch h port'
PortsMatch-got h port port' p t slot n none fresh enough changes match = quiet_step h port port' p (notes.Claim t slot (Got n)) changes match (rw (fresh, none) refl) (λ c is. claims c is) (λ name is. is)
  where
    claims : (c : StandingClaim) → Some (record { task = t; pred = slot.pred; count = n }) ≡ Some c → c.count ≤ length (fitting c.pred (port p).items)
    claims c is = let same : record { task = t; pred = slot.pred; count = n } ≡ c = cc in subst (λ (d : StandingClaim). d.count ≤ length (fitting d.pred (port p).items)) same enough

-- ---- a firing: no port changes

taken-fire : (h : List Event) (t : TaskId) (s : Spot) (ms : List MsgId) (cs : List TaskId) → taken (h ++ events.Fire t s ms cs ∷ []) ≡ taken h ++ ms
taken-fire h t s ms cs = taken-push h (events.Fire t s ms cs)

posts-fire : (h : List Event) (t : TaskId) (s : Spot) (ms : List MsgId) (cs : List TaskId) → posts (h ++ events.Fire t s ms cs ∷ []) ≡ posts h
posts-fire h t s ms cs = posts-push h (events.Fire t s ms cs) ∙ append-nil (posts h)

-- each port is one that the firing task claimed, with all names of the firing that stand there, or has none of them
abbrev pub IsTouched : List Event → (ℕ → PortState) → TaskId → List MsgId → ℕ → Type 0
IsTouched h port t names q = ((c : StandingClaim) × ((port q).claim ≡ Some c) × (c.task ≡ t) × ((name : MsgId) → has_name (held h q) name ≡ true → has_message names name ≡ has_name (first_fitting c.count c.pred (port q).items) name))
    ⊎ (((c : StandingClaim) → (port q).claim ≡ Some c → same_task c.task t ≡ false) × ((name : MsgId) → has_name (held h q) name ≡ true → has_message names name ≡ false))

-- a message's name is among the names
named_in : (ms : List Msg) (m : Msg) → Among m ms → has_name ms m.id ≡ true
named_in ms m is = any_among (same_message m.id) (names_of ms) m.id (Among-map (λ (x : Msg). x.id) ms m is) (same_message-self m.id)

-- another port
unmarked-other : (gone : List TaskId) (port : PortState) (t : TaskId) → ((c : StandingClaim) → port.claim ≡ Some c → same_task c.task t ≡ false) → unmarked_by (gone ++ t ∷ []) port ≡ unmarked_by gone port
unmarked-other gone port t other = of_claim port.claim refl
  where
    of_claim : (o : Option StandingClaim) → port.claim ≡ o → option_map_or (λ (c : StandingClaim). if has_task (gone ++ t ∷ []) c.task then without_first c.count c.pred port.items else port.items) o port.items ≡ option_map_or (λ (c : StandingClaim). if has_task gone c.task then without_first c.count c.pred port.items else port.items) o port.items
    of_claim None e = refl
    of_claim (Some c) e = let apart = other c e in let same : has_task (gone ++ t ∷ []) c.task ≡ has_task gone c.task = grind (arith, common_steps, apart) in rw same refl

pub PortsMatch-fire : (h : List Event) (port : ℕ → PortState) (t : TaskId) (s : Spot) (names : List MsgId) (cs : List TaskId) → AreNamed (posts h) → has_task (fired h) t ≡ false → ((q : ℕ) → IsTouched h port t names q) → ((name : MsgId) → has_message names name ≡ true → has_name (posts h) name ≡ true) → PortsMatch h port → PortsMatch (h ++ events.Fire t s names cs ∷ []) port
PortsMatch-fire h port t s names cs named fresh touched there match = record {
  holds_so = λ q. held-fire h t s names cs q ∙ rw (fired-fire h t s names cs) (held_at q (touched q));
  enough = match.enough;
  items_posted = λ q name is. rw (posts-fire h t s names cs) (match.items_posted q name is);
  taken_posted = λ name is. rw (posts-fire h t s names cs) (either name (has_message (taken h) name) refl (sym (has_message-append (taken h) names name) ∙ (rw (taken-fire h t s names cs) at is)));
}
  where
    held_at : (q : ℕ) → IsTouched h port t names q → filter (λ m. not (has_message names m.id)) (held h q) ≡ unmarked_by (fired h ++ t ∷ []) (port q)
    held_at q (inl found) =
        let c = found.0 in
        let before : has_task (fired h) c.task ≡ false = rw found.2 fresh in
        let now : has_task (fired h ++ t ∷ []) c.task ≡ true = rw found.2 (has_task-last (fired h) t) in
        let items : held h q ≡ (port q).items = match.holds_so q ∙ rw (found.1, before) refl in
        let out : without_first c.count c.pred (port q).items ≡ filter (λ (m : Msg). not (has_name (first_fitting c.count c.pred (port q).items) m.id)) (port q).items = first-named c.count c.pred (port q).items (λ name. subst (λ ms. times name ms ≤ 1) items (held_few h q name (named.once name))) in
        same_filter (λ (m : Msg). not (has_message names m.id)) (λ (m : Msg). not (has_name (first_fitting c.count c.pred (port q).items) m.id)) (held h q) (λ m is. ap not (found.3 m.id (named_in (held h q) m is)))
        ∙ ap (filter (λ (m : Msg). not (has_name (first_fitting c.count c.pred (port q).items) m.id))) items
        ∙ sym out
        ∙ rw (found.1, now) refl
    held_at q (inr apart) = filter_all (λ (m : Msg). not (has_message names m.id)) (held h q) (λ m is. not_false (has_message names m.id) (apart.1 m.id (named_in (held h q) m is))) ∙ match.holds_so q ∙ sym (unmarked-other (fired h) (port q) t apart.0)

    either : (name : MsgId) (b : Bool) → has_message (taken h) name ≡ b → b || has_message names name ≡ true → has_name (posts h) name ≡ true
    either name true e is = match.taken_posted name e
    either name false e is = there name is

-- an event that posts, takes and fires nothing
pub PortsMatch-event : (h : List Event) (e : Event) (port : ℕ → PortState) → posts (h ++ e ∷ []) ≡ posts h → taken (h ++ e ∷ []) ≡ taken h → fired (h ++ e ∷ []) ≡ fired h → PortsMatch h port → PortsMatch (h ++ e ∷ []) port
PortsMatch-event h e port p t f match = record {
  holds_so = λ q. rw (t, p, f) (match.holds_so q);
  enough = match.enough;
  items_posted = λ q name is. rw p (match.items_posted q name is);
  taken_posted = λ name is. rw p (match.taken_posted name (rw t at is));
}
