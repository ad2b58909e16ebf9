-- The messages that a firing takes out of the ports are those that it names.
use Rattle.std.proofs.Common.{◌≡◌, ℕ, suc, ◌+◌, ◌-◌, ◌<◌, ◌≤◌, true, false, not, List, [], ◌∷◌, ◌++◌, length, take, drop, Some, inl, inr, refl, sym, ap, ◌∙◌, arith, subst}
use Rattle.std.specs.Prelude.{◌==◌}
use Rattle.std.specs.List.{slice_get}
use Rattle.ccr_base.specs.declared.names.MsgId.{MsgId}
use Rattle.ccr_base.specs.declared.messages.Msg.{Msg}
use Rattle.ccr_base.specs.declared.patterns.Slot.{Slot}
use Rattle.ccr_base.specs.declared.patterns.Pattern.{Pattern}
use Rattle.ccr_base.specs.declared.patterns.Pattern.TheVariants.{Slots, Gather}
use Rattle.ccr_base.specs.declared.names.Spot.TheVariants.{Branch, Site}
use Rattle.ccr_base.specs.Selection.{holds, fitting, selection}
use Rattle.ccr_base.specs.Names.{same_message, has_message, same_lists}
use Rattle.ccr_wiring.specs.declared.parts.Parts.{Parts}
use Rattle.ccr_wiring.specs.Valid.{IsValid, slot_ports}
use Rattle.ccr_wiring.specs.Wirings.{Placement, placement, site_port}
use Rattle.ccr_wiring.proofs.Soundness.{sound}
use Rattle.ccr_model.specs.declared.history.Event.{Event}
use Rattle.ccr_model.specs.Posts.{posts, taken, held, messages_named}
use Rattle.ccr_model.specs.Selection.{names_of, selection_of_slots, are_first, are_split, are_oldest, is_selection_of, is_selection}
use Rattle.ccr_model.specs.Legal.{IsLegal}
use Rattle.ccr_base.proofs.Booleans.{both, not_true, same_number, eq_turned}
use Rattle.ccr_model.proofs.Members.{Among, Among-either, Among-kept, Among-take}
use Rattle.ccr_base.proofs.Options.{some_of}
use Rattle.ccr_base.specs.Lists.{has_number, are_apart}
use Rattle.ccr_model.proofs.PostNames.{times, posted_once}
use Rattle.ccr_base.proofs.SameNames.{same_message-is, same_lists-is, names_of-append}
use Rattle.ccr_base.proofs.Lists.{none_at}
use Rattle.ccr_model.proofs.TakenOnce.{joined_some, selection_some, times-filter, times-two}
use Rattle.ccr_model.proofs.MessageNames.{named-found, of_held}
use Rattle.ccr_model.proofs.FirstNames.{first-names}
use Rattle.ccr_ledger.specs.Rows.{row, with_row}
use Rattle.ccr_ledger.specs.Taken.{shared}
use Rattle.ccr_ledger.specs.Books.{Books}
use Rattle.ccr_ledger.specs.Taking.{take_slot, take_slots, take_pattern, take_site}
use Rattle.ccr_ledger.specs.Kept.{HasSizes, KeepsPorts}
use Rattle.ccr_ledger.proofs.Tables.{row-other}
use Rattle.ccr_ledger.proofs.Fitting.{split-names}

-- a port that stands there isn't one that doesn't
apart_at : (ports : List ℕ) (index port other : ℕ) → slice_get ports index ≡ Some port → has_number ports other ≡ false → (other == port) ≡ false
apart_at ports index port other is out = eq_turned port other (none_at (λ x. x == other) ports index port out is)

-- slots of different ports take their selection
slots-take : (slots : List Slot) (ports : List (List Msg)) (held_at : ℕ → List Msg) (xs : List Msg) → ((index port : ℕ) → slice_get (slot_ports slots) index ≡ Some port → row ports port ≡ held_at port)
    → are_apart (slot_ports slots) ≡ true → selection_of_slots held_at slots ≡ Some xs → (take_slots slots ports).messages ≡ xs
slots-take [] ports held_at xs told once is = cc
slots-take (slot ∷ slots) ports held_at xs told once is =
    let parts = joined_some (selection slot (held_at slot.port)) (selection_of_slots held_at slots) xs is in
    let apart = both (not (has_number (slot_ports slots) slot.port)) (are_apart (slot_ports slots)) once in
    let out = not_true (has_number (slot_ports slots) slot.port) apart.0 in
    let front : take slot.most (fitting slot.pred (row ports slot.port)) ≡ parts.0 = ap (λ ms. take slot.most (fitting slot.pred ms)) (told 0 slot.port refl) ∙ sym (selection_some slot (held_at slot.port) parts.0 parts.2) in
    let back = slots-take slots (take_slot slot ports).ports held_at parts.1 (λ index port at. row-other ports slot.port port _ (apart_at (slot_ports slots) index port slot.port at out) ∙ told (suc index) port at) apart.1 parts.3 in
    ap (λ ms. ms ++ (take_slots slots (take_slot slot ports).ports).messages) front ∙ (ap (λ ms. parts.0 ++ ms) back ∙ parts.4)

-- what they choose is held
selection-within : (slots : List Slot) (held_at : ℕ → List Msg) (all xs : List Msg) → ((port : ℕ) (m : Msg) → Among m (held_at port) → Among m all) → selection_of_slots held_at slots ≡ Some xs → (m : Msg) → Among m xs → Among m all
selection-within [] held_at all xs within is m among = let none : xs ≡ [] = cc in absurd (subst (λ ms. Among m ms) none among)
selection-within (slot ∷ slots) held_at all xs within is m among =
    let parts = joined_some (selection slot (held_at slot.port)) (selection_of_slots held_at slots) xs is in
    elim (Among-either m parts.0 parts.1 (subst (λ ms. Among m ms) (sym parts.4) among)) [
      | inl here ↦ within slot.port m (Among-kept (λ (o : Msg). holds slot.pred o.value) (held_at slot.port) m (Among-take slot.most (fitting slot.pred (held_at slot.port)) m (subst (λ ms. Among m ms) (selection_some slot (held_at slot.port) parts.0 parts.2) here)))
      | inr there ↦ selection-within slots held_at all parts.1 within parts.3 m there
    ]

-- the names of a split: of the first messages as many as are shared, then of the second
split-named : (a b : List Msg) (names : List MsgId) → are_split a b names ≡ true → ((name : MsgId) → times name a + times name b ≤ 1) → names_of (take (shared a names) a ++ take (length names - shared a names) b) ≡ names
split-named a b names is apart = names_of-append (take (shared a names) a) (take (length names - shared a names) b) ∙ sym (split-names a b names apart is)

module _ (w : Parts) (valid : IsValid w) (h : List Event) (legal : IsLegal w h) (b : Books) (sizes : HasSizes w b) (ports : KeepsPorts w h b) where
  held-posted : (port : ℕ) (m : Msg) → Among m (held h port) → Among m (posts h)
  held-posted port m among = (of_held h port m among).0

  -- posted messages of these names are the ones that are found by them
  found : (ms : List Msg) (names : List MsgId) → names_of ms ≡ names → ((m : Msg) → Among m ms → Among m (posts h)) → ms ≡ messages_named h names
  found ms names same within = sym (named-found (posts h) ms (posted_once w h legal) within) ∙ ap (messages_named h) same

  of_slots : (slots : List Slot) (names : List MsgId) → ((index port : ℕ) → slice_get (slot_ports slots) index ≡ Some port → port < length w.ports) → are_apart (slot_ports slots) ≡ true → is_selection_of (held h) (Slots slots) names ≡ true
      → (take_slots slots b.ports).messages ≡ messages_named h names
  of_slots slots names low once is =
      let made = some_of (λ (ms : List Msg). same_lists same_message (names_of ms) names) (selection_of_slots (held h) slots) is in
      slots-take slots b.ports (held h) made.0 (λ index port at. ports.ports port (low index port at)) once made.1
      ∙ found made.0 names (same_lists-is same_message same_message-is (names_of made.0) names made.2) (selection-within slots (held h) (posts h) made.0 held-posted made.1)

  of_gather : (total first second : ℕ) (names : List MsgId) → first < length w.ports → second < length w.ports → not (first == second) ≡ true → is_selection_of (held h) (Gather total first second) names ≡ true
      → (take_pattern (Gather total first second) names b.ports).messages ≡ messages_named h names
  of_gather total first second names low_first low_second once is =
      let split = (both (length names == total) (are_split (held h first) (held h second) names) is).1 in
      let one = ports.ports first low_first in
      let other = row-other b.ports first second (drop (shared (row b.ports first) names) (row b.ports first)) (not_true (first == second) once) ∙ ports.ports second low_second in
      let apart : (name : MsgId) → times name (held h first) + times name (held h second) ≤ 1 =
      λ name. omega (arith, times-two name (λ (m : Msg). not (has_message (taken h) m.id)) first second once (posts h), times-filter name (λ (m : Msg). not (has_message (taken h) m.id)) (posts h), posted_once w h legal name) in
      let takes : List Msg = take (shared (held h first) names) (held h first) ++ take (length names - shared (held h first) names) (held h second) in
      ap (λ ms. take (shared ms names) ms ++ take (length names - shared ms names) (row (with_row b.ports first (drop (shared (row b.ports first) names) (row b.ports first))) second)) one
      ∙ (ap (λ ms. take (shared (held h first) names) (held h first) ++ take (length names - shared (held h first) names) ms) other
      ∙ found takes names (split-named (held h first) (held h second) names split apart) within)
    where
      within : (m : Msg) → Among m (take (shared (held h first) names) (held h first) ++ take (length names - shared (held h first) names) (held h second)) → Among m (posts h)
      within m among = elim (Among-either m (take (shared (held h first) names) (held h first)) _ among) [
        | inl here ↦ held-posted first m (Among-take (shared (held h first) names) (held h first) m here)
        | inr there ↦ held-posted second m (Among-take (length names - shared (held h first) names) (held h second) m there)
      ]

  of_pattern : (p : Pattern) (n : ℕ) (s : Placement) (names : List MsgId) → placement w n ≡ Some s → s.branch.pattern ≡ p → is_selection_of (held h) p names ≡ true → (take_pattern p names b.ports).messages ≡ messages_named h names
  of_pattern (Slots slots) n s names at one is = of_slots slots names (λ index port there. (sound w valid).pattern_ports n s index port at (rw one there)) (rw one at ((sound w valid).apart n s at)) is
  of_pattern (Gather total first second) n s names at one is =
      of_gather total first second names ((sound w valid).pattern_ports n s 0 first at (rw one refl)) ((sound w valid).pattern_ports n s 1 second at (rw one refl)) (rw one at ((sound w valid).apart n s at)) is

  -- at a branch
  pub branch-takes : (n : ℕ) (s : Placement) (names : List MsgId) → placement w n ≡ Some s → is_selection w h (Branch n) names ≡ true → (take_pattern s.branch.pattern names b.ports).messages ≡ messages_named h names
  branch-takes n s names at is = of_pattern s.branch.pattern n s names at refl (rw at at is)

  -- at a site
  pub site-takes : (n k : ℕ) (names : List MsgId) → is_selection w h (Site n k) names ≡ true → (take_site (site_port w n k) b.ports).messages ≡ messages_named h names
  site-takes n k names is =
      let found_port = some_of (λ port. are_oldest (held h port) names) (site_port w n k) is in
      rw found_port.1 (of_port found_port.0 ((sound w valid).site_ports n k found_port.0 found_port.1) (both (length names == 1) (are_first (held h found_port.0) names) found_port.2))
    where
      of_port : (port : ℕ) → port < length w.ports → ((length names == 1) ≡ true) × (are_first (held h port) names ≡ true) → take 1 (row b.ports port) ≡ messages_named h names
      of_port port low parts =
          let one : length names ≡ 1 = same_number (length names) 1 parts.0 in
          ap (take 1) (ports.ports port low) ∙ found (take 1 (held h port)) names (subst (λ k. names_of (take k (held h port)) ≡ names) one (sym (first-names (held h port) names parts.1))) (λ m among. held-posted port m (Among-take 1 (held h port) m among))
