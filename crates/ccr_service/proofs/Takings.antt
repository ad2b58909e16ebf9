-- Each task of an expansion took one request.
use Rattle.std.proofs.Common.{◌≡◌, ◌⊎◌, inl, inr, ℕ, Bool, true, false, not, List, [], ◌∷◌, ◌++◌, length, take, Some, None, refl, sym, ap, ◌∙◌, arith, subst, append-nil}
use Rattle.std.specs.Prelude.{◌==◌, if◌then◌else◌, nat_le}
use Rattle.std.proofs.lemmas.Bool.Decides.{nat_tests}
use Rattle.ccr_base.specs.declared.names.TaskId.{TaskId}
use Rattle.ccr_base.specs.declared.names.MsgId.{MsgId}
use Rattle.ccr_base.specs.declared.names.Spot.TheVariants.{Branch, Site}
use Rattle.ccr_base.specs.declared.messages.Msg.{Msg}
use Rattle.ccr_base.specs.declared.patterns.Pred.{Pred}
use Rattle.ccr_base.specs.declared.patterns.Pattern.{Pattern}
use Rattle.ccr_base.specs.declared.patterns.Pattern.TheVariants.{Slots}
use Rattle.ccr_base.specs.Selection.{holds, fitting, selection}
use Rattle.ccr_base.specs.Names.{same_message, has_message, same_lists}
use Rattle.ccr_wiring.specs.Wirings.{Placement, placement}
use Rattle.ccr_wiring.specs.Wirings as wirings
use Rattle.ccr_model.specs.declared.history.Event.{Event}
use Rattle.ccr_model.specs.declared.history.Event.TheVariants.{Post, Fire, Admit, Put, Start, End}
use Rattle.ccr_model.specs.Posts.{posts, posted, taken, held, messages_named}
use Rattle.ccr_model.specs.Selection.{names_of, selection_of_slots, is_selection_of}
use Rattle.ccr_model.specs.Firings.{Firing, firing_of, firing_named}
use Rattle.ccr_model.specs.TaskData.{messages_of}
use Rattle.ccr_model.specs.Legal.{IsAllowed, IsLegal}
use Rattle.ccr_base.proofs.Booleans.{same_number}
use Rattle.ccr_base.proofs.Options.{some_of}
use Rattle.ccr_model.proofs.Members.{Among, Among-left, Among-filter}
use Rattle.ccr_model.proofs.LegalParts.{along_legal}
use Rattle.ccr_model.proofs.Stable.{messages_of-append}
use Rattle.ccr_model.proofs.TakenOnce.{joined_some, FireFacts-allowed}
use Rattle.ccr_model.proofs.AllowedFirings.{FiresSo-allowed, firing_named-new, before-new}
use Rattle.ccr_model.proofs.Roots.{of_firing, other_firing}
use Rattle.ccr_model.proofs.FirstNames.{same_names}
use Rattle.ccr_model.proofs.OneMoreEvent.{posts-append}
use Rattle.ccr_service.specs.declared.parts.ServiceParts.{ServiceParts}
use Rattle.ccr_service.specs.Expansion.{request_port, expansion}
use Rattle.ccr_service.proofs.NoAwaits.{no_site_fires}
use Rattle.ccr_service.proofs.Shape.{PlacementFacts, PlacementFacts-placement, one_slot, awaits_none}
use Rattle.ccr_service.proofs.WhatExpansionsPost.{named_so}

-- ---- over plain lists

-- what a slot of one message takes
record TakesOne (pred : Pred) (ms xs : List Msg) : Type 0 where
  message : Msg
  all : xs ≡ message ∷ []
  among : Among message ms
  holds_so : holds pred message.value ≡ true

takes_one_of : (port : ℕ) (pred : Pred) (ms xs : List Msg) → selection (one_slot port pred) ms ≡ Some xs → TakesOne pred ms xs
takes_one_of port pred ms xs is = by_list (fitting pred ms) refl is
  where
    by_list : (fs : List Msg) → fitting pred ms ≡ fs → (if nat_le 1 (length fs) then Some (take 1 fs) else None) ≡ Some xs → TakesOne pred ms xs
    by_list [] e none = absurd (cc)
    by_list (m ∷ fs) e some =
        let kept = Among-filter (λ (x : Msg). holds pred x.value) ms m (subst (Among m) (sym e) (inl refl)) in
        let enough : nat_le 1 (length (m ∷ fs)) ≡ true = grind (arith, nat_tests) in
        let same : m ∷ [] ≡ xs = front (nat_le 1 (length (m ∷ fs))) enough some in
        record { message = m; all = sym same; among = kept.0; holds_so = kept.1 }
      where
        front : (b : Bool) → b ≡ true → (if b then Some (m ∷ []) else None) ≡ Some xs → m ∷ [] ≡ xs
        front true e is = cc
        front false e is = absurd (cc)

-- what a selection of that pattern names
record NamesOne (h : List Event) (port : ℕ) (pred : Pred) (names : List MsgId) : Type 0 where
  message : Msg
  named : names ≡ message.id ∷ []
  among : Among message (posts h)
  port_so : message.port ≡ port
  holds_so : holds pred message.value ≡ true

names_one : (h : List Event) (port : ℕ) (pred : Pred) (names : List MsgId) → is_selection_of (held h) (Slots (one_slot port pred ∷ [])) names ≡ true → NamesOne h port pred names
names_one h port pred names is =
    let got = some_of (λ (ms : List Msg). same_lists same_message (names_of ms) names) (selection_of_slots (held h) (one_slot port pred ∷ [])) is in
    let parts = joined_some (selection (one_slot port pred) (held h port)) (Some []) got.0 got.1 in
    let one = takes_one_of port pred (held h port) parts.0 parts.2 in
    let nothing : parts.1 ≡ [] = let e : Some [] ≡ Some parts.1 = parts.3 in cc in
    let whole : got.0 ≡ one.message ∷ [] = sym parts.4 ∙ ap (λ ms. parts.0 ++ ms) nothing ∙ append-nil parts.0 ∙ one.all in
    let posted_so = Among-filter (λ (m : Msg). not (has_message (taken h) m.id)) (posted h port) one.message one.among in
    let there = Among-filter (λ (m : Msg). m.port == port) (posts h) one.message posted_so.0 in
    record { message = one.message; named = same_names got.0 names got.2 ∙ ap names_of whole; among = there.0; port_so = same_number one.message.port port there.1; holds_so = one.holds_so }

-- ---- what a task took

pub record Takes (s : ServiceParts) (h : List Event) (t : TaskId) (f : Firing) : Type 0 where
  pub number : ℕ
  pub spot : f.spot ≡ Branch number
  pub placement : Placement
  pub is_placement : wirings.placement (expansion s) number ≡ Some placement
  pub facts : PlacementFacts s placement
  pub message : Msg
  pub named : f.messages ≡ message.id ∷ []
  pub among : Among message (posts h)
  pub port : message.port ≡ request_port facts.op
  pub holds_so : holds facts.pred message.value ≡ true
  pub its : messages_of h t ≡ message ∷ []

pub takes_on : (s : ServiceParts) (h es : List Event) (t : TaskId) (f : Firing) → firing_named h t ≡ Some f → Takes s h t f → Takes s (h ++ es) t f
takes_on s h es t f is old =
    record {
      number = old.number;
      spot = old.spot;
      placement = old.placement;
      is_placement = old.is_placement;
      facts = old.facts;
      message = old.message;
      named = old.named;
      among = subst (Among old.message) (sym (posts-append h es)) (Among-left old.message (posts h) (posts es) old.among);
      port = old.port;
      holds_so = old.holds_so;
      its = messages_of-append h es t f is ∙ old.its;
    }

takes_new : (s : ServiceParts) (h : List Event) → IsLegal (expansion s) h → (x : TaskId) (b : ℕ) (ms : List MsgId) (cs : List TaskId) → IsAllowed (expansion s) h (Fire x (Branch b) ms cs) → Takes s (h ++ Fire x (Branch b) ms cs ∷ []) x (record { task = x; spot = Branch b; messages = ms; cuts = cs })
takes_new s h legal x b ms cs allowed =
    let e : Event = Fire x (Branch b) ms cs in
    let new = (FiresSo-allowed (expansion s) h x (Branch b) ms cs allowed).new_name in
    let chosen = (FireFacts-allowed (expansion s) h x (Branch b) ms cs allowed).selection_made in
    let found = some_of (λ (r : Placement). is_selection_of (held h) r.branch.pattern ms) (placement (expansion s) b) chosen in
    let facts = PlacementFacts-placement s b found.0 found.1 in
    let pattern : is_selection_of (held h) (Slots (one_slot (request_port facts.op) facts.pred ∷ [])) ms ≡ true = subst (λ (p : Pattern). is_selection_of (held h) p ms ≡ true) facts.serves.pattern found.2 in
    let one = names_one h (request_port facts.op) facts.pred ms pattern in
    let known = named_so (expansion s) h legal one.message one.among in
    let first : messages_of (h ++ e ∷ []) x ≡ messages_named h ms = rw (firing_named-new h x (Branch b) ms cs new, before-new h x (Branch b) ms cs new) refl in
    let onto : messages_named h ms ≡ messages_named h (one.message.id ∷ []) = ap (messages_named h) one.named in
    let last : messages_named h (one.message.id ∷ []) ≡ one.message ∷ [] = rw known refl in
    record {
      number = b;
      spot = refl;
      placement = found.0;
      is_placement = found.1;
      facts = facts;
      message = one.message;
      named = one.named;
      among = subst (Among one.message) (sym (posts-append h (e ∷ []))) (Among-left one.message (posts h) (posts (e ∷ [])) one.among);
      port = one.port_so;
      holds_so = one.holds_so;
      its = first ∙ onto ∙ last;
    }

abbrev AllTake : ServiceParts → List Event → Type 0
AllTake s h = (t : TaskId) (f : Firing) → firing_named h t ≡ Some f → Takes s h t f

none_fires : (s : ServiceParts) (h : List Event) (e : Event) → firing_of e ≡ [] → AllTake s h → AllTake s (h ++ e ∷ [])
none_fires s h e none known t f is = let old = other_firing h e t f none is in takes_on s h (e ∷ []) t f old (known t f old)

takes_kept : (s : ServiceParts) (h : List Event) (e : Event) → IsLegal (expansion s) h → IsAllowed (expansion s) h e → AllTake s h → AllTake s (h ++ e ∷ [])
takes_kept s h (Fire x (Branch b) ms cs) legal allowed known t f is = old_or_new (of_firing h x (Branch b) ms cs t f (FiresSo-allowed (expansion s) h x (Branch b) ms cs allowed).new_name is)
  where
    old_or_new : (firing_named h t ≡ Some f) ⊎ ((t ≡ x) × (f ≡ record { task = x; spot = Branch b; messages = ms; cuts = cs })) → Takes s (h ++ Fire x (Branch b) ms cs ∷ []) t f
    old_or_new (inl old) = takes_on s h (Fire x (Branch b) ms cs ∷ []) t f old (known t f old)
    old_or_new (inr new) = rw (new.0, new.1) (takes_new s h legal x b ms cs allowed)
takes_kept s h (Fire x (Site b k) ms cs) legal allowed known t f is = absurd (no_site_fires (expansion s) (awaits_none s) h x b k ms cs allowed)
takes_kept s h (Post m) legal allowed known t f is = none_fires s h (Post m) refl known t f is
takes_kept s h (Admit x) legal allowed known t f is = none_fires s h (Admit x) refl known t f is
takes_kept s h (Put x d) legal allowed known t f is = none_fires s h (Put x d) refl known t f is
takes_kept s h (Start x a) legal allowed known t f is = none_fires s h (Start x a) refl known t f is
takes_kept s h (End x how) legal allowed known t f is = none_fires s h (End x how) refl known t f is

-- each task took one request
pub all_take : (s : ServiceParts) (h : List Event) → IsLegal (expansion s) h → (t : TaskId) (f : Firing) → firing_named h t ≡ Some f → Takes s h t f
all_take s h legal = along_legal (expansion s) (AllTake s) (λ g e l a k. takes_kept s g e l a k) (λ t f is. absurd (cc)) h legal
