-- What an attempt got is a selection of its pattern, and its names stand at the ports that it claimed alone.
use Rattle.std.proofs.Common.{◌⊎◌, inl, inr, ◌≡◌, ◌≤◌, ℕ, Bool, true, false, List, [], ◌∷◌, length, map, flat_map, find, Option, Some, None, refl, sym, arith, ap, ◌∙◌, subst}
use Rattle.std.specs.Prelude.{fold, ◌==◌, if◌then◌else◌, nat_lt}
use Rattle.std.specs.Option.{option_map_or}
use Rattle.std.proofs.lemmas.Bool.Decides.{nat_tests}
use Rattle.ccr_base.specs.declared.names.MsgId.{MsgId}
use Rattle.ccr_base.specs.declared.names.TaskId.{TaskId}
use Rattle.ccr_base.specs.declared.patterns.Slot.{Slot}
use Rattle.ccr_base.specs.Selection.{selection, fitting, is_choosable}
use Rattle.ccr_base.specs.Names.{same_task, has_task, has_message}
use Rattle.ccr_wiring.specs.declared.parts.Parts.{Parts}
use Rattle.ccr_model.specs.declared.history.Event.{Event}
use Rattle.ccr_model.specs.Posts.{posts, held}
use Rattle.ccr_model.specs.Firings.{fired}
use Rattle.ccr_model.specs.Selection.{selection_of_slots}
use Rattle.ccr_base.proofs.Booleans.{same_number, eq-self, or_left, or_right, either}
use Rattle.ccr_model.proofs.Members.{Among, found_among, found_some, find_passes}
use Rattle.ccr_base.proofs.Options.{some_is, some_so}
use Rattle.ccr_model.proofs.PostNames.{AreNamed}
use Rattle.ccr_base.proofs.SameNames.{same_task-is}
use Rattle.ccr_places.specs.declared.claims.StandingClaim.{StandingClaim}
use Rattle.ccr_places.specs.Ports.{PortState, first_fitting}
use Rattle.ccr_claim.specs.declared.plan.Had.{Had}
use Rattle.ccr_claim.specs.Plans.{had_at, names_of, insert_slot, sort_slots}
use Rattle.ccr_claim.specs.Attempts.{had_in}
use Rattle.ccr_actor.specs.Actors.{State, name_at}
use Rattle.ccr_net.proofs.Parts.PostsKeepMarks.{has_name, has_name-append, first_named}
use Rattle.ccr_net.proofs.Parts.PortsAndHandsMatch.{PortsMatch, ActorMatches, claim_for}
use Rattle.ccr_net.proofs.Parts.StepsKeepPorts.{IsTouched}
use Rattle.ccr_net.proofs.Parts.NamesStandAtOnePort.{held_apart, held_posted}

-- ---- lists

pub found_member : {X : Type 0} (t : X → Bool) (xs : List X) (x : X) → find t xs ≡ Some x → Among x xs × (t x ≡ true)
found_member t xs x is = (found_among t xs x is, find_passes t xs x is)

-- sorting keeps the members
insert_among : (slot other : Slot) (slots : List Slot) → Among other (insert_slot slot slots) → (other ≡ slot) ⊎ Among other slots
insert_among slot other [] (inl e) = inl e
insert_among slot other [] (inr none) = absurd none
insert_among slot other (x ∷ slots) is = by (nat_lt slot.port x.port) is (insert_among slot other slots)
  where
    by : (b : Bool) → Among other (if b then slot ∷ x ∷ slots else x ∷ insert_slot slot slots) → (Among other (insert_slot slot slots) → (other ≡ slot) ⊎ Among other slots) → (other ≡ slot) ⊎ Among other (x ∷ slots)
    by true (inl e) rest = inl e
    by true (inr more) rest = inr more
    by false (inl e) rest = inr (inl e)
    by false (inr more) rest = later (rest more)
      where
        later : (other ≡ slot) ⊎ Among other slots → (other ≡ slot) ⊎ Among other (x ∷ slots)
        later (inl e) = inl e
        later (inr among) = inr (inr among)

among_insert : (slot other : Slot) (slots : List Slot) → (other ≡ slot) ⊎ Among other slots → Among other (insert_slot slot slots)
among_insert slot other [] (inl e) = inl e
among_insert slot other [] (inr none) = absurd none
among_insert slot other (x ∷ slots) is = by (nat_lt slot.port x.port) is (among_insert slot other slots)
  where
    by : (b : Bool) → (other ≡ slot) ⊎ Among other (x ∷ slots) → ((other ≡ slot) ⊎ Among other slots → Among other (insert_slot slot slots)) → Among other (if b then slot ∷ x ∷ slots else x ∷ insert_slot slot slots)
    by true (inl e) rest = inl e
    by true (inr more) rest = inr more
    by false (inl e) rest = inr (rest (inl e))
    by false (inr (inl e)) rest = inl e
    by false (inr (inr more)) rest = inr (rest (inr more))

sorted_from : (sorted slots : List Slot) (slot : Slot) → Among slot (fold (λ front s. insert_slot s front) sorted slots) → Among slot sorted ⊎ Among slot slots
sorted_from sorted [] slot is = inl is
sorted_from sorted (x ∷ slots) slot is = by (sorted_from (insert_slot x sorted) slots slot is)
  where
    of_insert : (slot ≡ x) ⊎ Among slot sorted → Among slot sorted ⊎ Among slot (x ∷ slots)
    of_insert (inl e) = inr (inl e)
    of_insert (inr there) = inl there

    by : Among slot (insert_slot x sorted) ⊎ Among slot slots → Among slot sorted ⊎ Among slot (x ∷ slots)
    by (inl front) = of_insert (insert_among x slot sorted front)
    by (inr more) = inr (inr more)

from_sorted : (sorted slots : List Slot) (slot : Slot) → Among slot sorted ⊎ Among slot slots → Among slot (fold (λ front s. insert_slot s front) sorted slots)
from_sorted sorted [] slot (inl is) = is
from_sorted sorted [] slot (inr none) = absurd none
from_sorted sorted (x ∷ slots) slot (inl is) = from_sorted (insert_slot x sorted) slots slot (inl (among_insert x slot sorted (inr is)))
from_sorted sorted (x ∷ slots) slot (inr (inl e)) = from_sorted (insert_slot x sorted) slots slot (inl (among_insert x slot sorted (inl e)))
from_sorted sorted (x ∷ slots) slot (inr (inr more)) = from_sorted (insert_slot x sorted) slots slot (inr more)

pub sorted_among : (slots : List Slot) (slot : Slot) → Among slot (sort_slots slots) → Among slot slots
sorted_among slots slot is = by (sorted_from [] slots slot is)
  where
    by : Among slot [] ⊎ Among slot slots → Among slot slots
    by (inl none) = absurd none
    by (inr there) = there

pub among_sorted : (slots : List Slot) (slot : Slot) → Among slot slots → Among slot (sort_slots slots)
among_sorted slots slot is = from_sorted [] slots slot (inr is)

-- what the port gave is what the first claim there got
had_at-found : (had : List Had) (p : ℕ) → had_at had p ≡ option_map_or (λ (x : Had). x.messages) (find (λ (x : Had). x.slot.port == p) had) []
had_at-found [] p = refl
had_at-found (d ∷ had) p = by (d.slot.port == p) (had_at-found had p)
  where
    by : (b : Bool) → had_at had p ≡ option_map_or (λ (x : Had). x.messages) (find (λ (x : Had). x.slot.port == p) had) [] → (if b then d.messages else had_at had p) ≡ option_map_or (λ (x : Had). x.messages) (if b then Some d else find (λ (x : Had). x.slot.port == p) had) []
    by true rest = refl
    by false rest = rest

-- ---- what an attempt that hasn't fired got

module _ (w : Parts) (h : List Event) (port : ℕ → PortState) (a : ℕ) (st : State)
    (named : AreNamed (posts h)) (match : PortsMatch h port) (own : ActorMatches w h port a st)
    (fresh : has_task (fired h) (name_at a st) ≡ false) where
  pub held_had : (d : Had) → Among d (had_in st.phase) → held h d.slot.port ≡ (port d.slot.port).items
  held_had d is = match.holds_so d.slot.port ∙ rw (own.had_claimed d is, fresh) refl

  pub enough_had : (d : Had) → Among d (had_in st.phase) → length d.messages ≤ length (fitting d.slot.pred (port d.slot.port).items)
  enough_had d is = match.enough d.slot.port (claim_for (name_at a st) d) (own.had_claimed d is)

  -- one port gave one list of messages
  pub same_had : (d x : Had) → Among d (had_in st.phase) → Among x (had_in st.phase) → d.slot.port ≡ x.slot.port → d.messages ≡ x.messages
  same_had d x is also ports =
      let one : Some (claim_for (name_at a st) d) ≡ Some (claim_for (name_at a st) x) = sym (own.had_claimed d is) ∙ ap (λ p. (port p).claim) ports ∙ own.had_claimed x also in
      let claims : claim_for (name_at a st) d ≡ claim_for (name_at a st) x = some_is one in
      sym (own.had_marked d is)
      ∙ ap (λ (c : StandingClaim). first_fitting c.count c.pred (port d.slot.port).items) claims
      ∙ ap (λ p. first_fitting (length x.messages) x.slot.pred (port p).items) ports
      ∙ own.had_marked x also

  pub had_at-is : (d : Had) → Among d (had_in st.phase) → had_at (had_in st.phase) d.slot.port ≡ d.messages
  had_at-is d is = of_found (found_some (λ (x : Had). x.slot.port == d.slot.port) (had_in st.phase) d is (eq-self d.slot.port))
    where
      of_found : (y : Had) × (find (λ (x : Had). x.slot.port == d.slot.port) (had_in st.phase) ≡ Some y) → had_at (had_in st.phase) d.slot.port ≡ d.messages
      of_found found =
          let member = found_member (λ (x : Had). x.slot.port == d.slot.port) (had_in st.phase) found.0 found.1 in
          had_at-found (had_in st.phase) d.slot.port ∙ ap (λ o. option_map_or (λ (x : Had). x.messages) o []) found.1 ∙ same_had found.0 d member.0 is (same_number found.0.slot.port d.slot.port member.1)

  -- a name of the firing is of what one port gave
  pub named_in : (ps : List ℕ) (name : MsgId) → has_name (flat_map (had_at (had_in st.phase)) ps) name ≡ true → (d : Had) × Among d (had_in st.phase) × (has_name d.messages name ≡ true)
  named_in [] name is = absurd (cc)
  named_in (p ∷ ps) name is = either (has_name (had_at (had_in st.phase) p) name) (has_name (flat_map (had_at (had_in st.phase)) ps) name) (sym (has_name-append (had_at (had_in st.phase) p) (flat_map (had_at (had_in st.phase)) ps) name) ∙ is) ((d : Had) × Among d (had_in st.phase) × (has_name d.messages name ≡ true)) (λ now. here (find (λ (x : Had). x.slot.port == p) (had_in st.phase)) refl (rw (had_at-found (had_in st.phase) p) at now)) (named_in ps name)
    where
      here : (o : Option Had) → find (λ (x : Had). x.slot.port == p) (had_in st.phase) ≡ o → has_name (option_map_or (λ (x : Had). x.messages) o []) name ≡ true → (d : Had) × Among d (had_in st.phase) × (has_name d.messages name ≡ true)
      here None e now = absurd (cc)
      here (Some d) e now = (d, (found_member (λ (x : Had). x.slot.port == p) (had_in st.phase) d e).0, now)

  pub in_named : (ps : List ℕ) (d : Had) (name : MsgId) → Among d (had_in st.phase) → Among d.slot.port ps → has_name d.messages name ≡ true → has_name (flat_map (had_at (had_in st.phase)) ps) name ≡ true
  in_named [] d name is there now = absurd there
  in_named (p ∷ ps) d name is (inl e) now = has_name-append (had_at (had_in st.phase) p) (flat_map (had_at (had_in st.phase)) ps) name ∙ or_left (has_name (had_at (had_in st.phase) p) name) (has_name (flat_map (had_at (had_in st.phase)) ps) name) (ap (λ q. has_name (had_at (had_in st.phase) q) name) (sym e) ∙ ap (λ ms. has_name ms name) (had_at-is d is) ∙ now)
  in_named (p ∷ ps) d name is (inr there) now = has_name-append (had_at (had_in st.phase) p) (flat_map (had_at (had_in st.phase)) ps) name ∙ or_right (has_name (had_at (had_in st.phase) p) name) (has_name (flat_map (had_at (had_in st.phase)) ps) name) (in_named ps d name is there now)

  -- what a port gave is held there
  pub held_in : (d : Had) (name : MsgId) → Among d (had_in st.phase) → has_name d.messages name ≡ true → has_name (held h d.slot.port) name ≡ true
  held_in d name is now = ap (λ ms. has_name ms name) (held_had d is) ∙ first_named (length d.messages) d.slot.pred (port d.slot.port).items name (ap (λ ms. has_name ms name) (own.had_marked d is) ∙ now)

  abbrev pub names_had : List ℕ → List MsgId
  names_had ps = names_of (flat_map (had_at (had_in st.phase)) ps)

  pub taken_there : (ps : List ℕ) (name : MsgId) → has_message (names_had ps) name ≡ true → has_name (posts h) name ≡ true
  taken_there ps name is = let found = named_in ps name is in held_posted h found.0.slot.port name (held_in found.0 name found.1 found.2)

  -- the ports that the firing touches
  pub touched : (ps : List ℕ) → ((d : Had) → Among d (had_in st.phase) → Among d.slot.port ps) → (q : ℕ) → IsTouched h port (name_at a st) (names_had ps) q
  touched ps whole q = of_claim (port q).claim refl
    where
      -- no claim of the task stands here
      apart : ((c : StandingClaim) → (port q).claim ≡ Some c → same_task c.task (name_at a st) ≡ false) → (name : MsgId) → has_name (held h q) name ≡ true → has_message (names_had ps) name ≡ false
      apart other name is = of_test (has_message (names_had ps) name) refl
        where
          of_test : (b : Bool) → has_message (names_had ps) name ≡ b → has_message (names_had ps) name ≡ false
          of_test false e = e
          of_test true e =
              let found = named_in ps name e in
              let ports : found.0.slot.port ≡ q = held_apart h found.0.slot.port q name named (held_in found.0 name found.1 found.2) is in
              let stands : (port q).claim ≡ Some (claim_for (name_at a st) found.0) = ap (λ p. (port p).claim) (sym ports) ∙ own.had_claimed found.0 found.1 in
              let out = other (claim_for (name_at a st) found.0) stands in
              absurd (self-not (name_at a st) out)
            where
              self-not : (t : TaskId) → same_task t t ≡ false → ⊥
              self-not t out = let self : same_task t t ≡ true = grind (arith, nat_tests) in absurd (cc)

      none_here : (port q).claim ≡ None → (c : StandingClaim) → (port q).claim ≡ Some c → same_task c.task (name_at a st) ≡ false
      none_here none c is = absurd (cc)

      of_claim : (o : Option StandingClaim) → (port q).claim ≡ o → IsTouched h port (name_at a st) (names_had ps) q
      of_claim None e = inr (none_here e, apart (none_here e))
      of_claim (Some c) e = of_test (same_task c.task (name_at a st)) refl
        where
          of_test : (b : Bool) → same_task c.task (name_at a st) ≡ b → IsTouched h port (name_at a st) (names_had ps) q
          of_test false out = inr (others, apart others)
            where
              others : (x : StandingClaim) → (port q).claim ≡ Some x → same_task x.task (name_at a st) ≡ false
              others x is = some_so (λ (y : StandingClaim). same_task y.task (name_at a st) ≡ false) (sym e ∙ is) out
          of_test true same = of_had (own.claims_had q c e (same_task-is c.task (name_at a st) same))
            where
              of_had : (d : Had) × Among d (had_in st.phase) × (d.slot.port ≡ q) → IsTouched h port (name_at a st) (names_had ps) q
              of_had found = inl (c, e, same_task-is c.task (name_at a st) same, λ name is. agree name is (has_name d.messages name) refl)
                where
                  d : Had
                  d = found.0

                  claims : claim_for (name_at a st) d ≡ c
                  claims = some_is (sym (own.had_claimed d found.1) ∙ ap (λ p. (port p).claim) found.2 ∙ e)

                  marks : first_fitting c.count c.pred (port q).items ≡ d.messages
                  marks = ap (λ (y : StandingClaim). first_fitting y.count y.pred (port q).items) (sym claims) ∙ ap (λ p. first_fitting (length d.messages) d.slot.pred (port p).items) (sym found.2) ∙ own.had_marked d found.1

                  agree : (name : MsgId) → has_name (held h q) name ≡ true → (b : Bool) → has_name d.messages name ≡ b → has_message (names_had ps) name ≡ has_name (first_fitting c.count c.pred (port q).items) name
                  agree name is true now = in_named ps d name found.1 (whole d found.1) now ∙ sym (ap (λ ms. has_name ms name) marks ∙ now)
                  agree name is false now = by_names (has_message (names_had ps) name) refl ∙ sym (ap (λ ms. has_name ms name) marks ∙ now)
                    where
                      by_names : (b : Bool) → has_message (names_had ps) name ≡ b → has_message (names_had ps) name ≡ false
                      by_names false f = f
                      by_names true f =
                          let other = named_in ps name f in
                          let ports : other.0.slot.port ≡ q = held_apart h other.0.slot.port q name named (held_in other.0 name other.1 other.2) is in
                          let messages : other.0.messages ≡ d.messages = same_had other.0 d other.1 found.1 (ports ∙ sym found.2) in
                          let within : has_name d.messages name ≡ true = ap (λ ms. has_name ms name) (sym messages) ∙ other.2 in
                          absurd (cc)

  -- what the claim of an even slot got is the slot's selection
  pub selection_had : (d : Had) → Among d (had_in st.phase) → d.slot.least ≡ d.slot.most → selection d.slot (held h d.slot.port) ≡ Some d.messages
  selection_had d is even =
      let enough = own.had_enough d is in
      let count : length d.messages ≡ d.slot.most = omega (arith, enough.0, enough.1, even) in
      let fits = enough_had d is in
      let choosable : is_choosable d.slot (port d.slot.port).items ≡ true = grind (arith, nat_tests, fits, count, even) in
      ap (selection d.slot) (held_had d is) ∙ rw choosable (ap Some (ap (λ n. first_fitting n d.slot.pred (port d.slot.port).items) (sym count) ∙ own.had_marked d is))

  pub selection_slots : (slots : List Slot) → ((slot : Slot) → Among slot slots → ((d : Had) × Among d (had_in st.phase) × (d.slot ≡ slot)) × (slot.least ≡ slot.most)) → selection_of_slots (held h) slots ≡ Some (flat_map (had_at (had_in st.phase)) (map (λ (s : Slot). s.port) slots))
  selection_slots [] each = refl
  selection_slots (slot ∷ slots) each =
      let here = each slot (inl refl) in
      let rest = selection_slots slots (λ s is. each s (inr is)) in
      let now : selection slot (held h slot.port) ≡ Some (had_at (had_in st.phase) slot.port) = of_had here.0 here.1 in
      rw (now, rest) refl
    where
      of_had : (d : Had) × Among d (had_in st.phase) × (d.slot ≡ slot) → slot.least ≡ slot.most → selection slot (held h slot.port) ≡ Some (had_at (had_in st.phase) slot.port)
      of_had found even = subst (λ (s : Slot). selection s (held h s.port) ≡ Some (had_at (had_in st.phase) s.port)) found.2 (selection_had found.0 found.1 (subst (λ (s : Slot). s.least ≡ s.most) (sym found.2) even) ∙ ap Some (sym (had_at-is found.0 found.1)))
