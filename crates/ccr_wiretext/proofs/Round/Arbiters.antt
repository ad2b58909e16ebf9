-- The canonical lines of all arbiters.
use Rattle.std.proofs.Common.{◌≡◌, ℕ, ◌+◌, ◌<◌, ◌≤◌, true, false, List, [], ◌∷◌, ◌++◌, length, map, inl, inr, refl, sym, ap, subst, ◌∙◌, arith, append_assoc, append-nil, add-zero, zero-add}
use Rattle.std.specs.Prelude.{◌==◌, sum, flat_map}
use Rattle.std.specs.List.{All}
use Rattle.std.specs.Str.{bytes_eq}
use Rattle.std.proofs.lemmas.Bool.Decides.{nat_tests}
use Rattle.std.proofs.lemmas.List.{flat_map_more}
use Rattle.ccr_base.proofs.Texts.{same_word}
use Rattle.ccr_text.proofs.Digits.{AreReadAgain}
use Rattle.ccr_wiring.specs.declared.parts.Parts.{Parts}
use Rattle.ccr_wiring.specs.declared.parts.BranchPart.{BranchPart}
use Rattle.ccr_wiring.specs.declared.parts.ArbiterPart.{ArbiterPart}
use Rattle.ccr_wiring.specs.declared.parts.Kind.{Kind}
use Rattle.ccr_wiring.specs.declared.parts.Kind.TheVariants as arbiters
use Rattle.ccr_wiring.specs.Groups.{is_receive, is_one_named}
use Rattle.ccr_wiring.specs.Spots.{branch_named, arbiters_named}
use Rattle.ccr_wiretext.specs.declared.named.Named.TheVariants as kinds
use Rattle.ccr_wiretext.specs.Names.{Naming}
use Rattle.ccr_wiretext.specs.Drafts.{Declared, branch_count, receiver, with_receive}
use Rattle.ccr_wiretext.specs.Spelling.{branch_words, arbiter_lines}
use Rattle.ccr_wiretext.specs.Values.{IsPatternValued, IsArbiterValued}
use Rattle.ccr_wiretext.proofs.Each.{both}
use Rattle.ccr_base.specs.Lists.{Each}
use Rattle.ccr_wiretext.proofs.Fit.{Shaped, ArbiterFit}
use Rattle.ccr_wiretext.proofs.SpotCounts.{Uncrowded, arbiter_named}
use Rattle.ccr_wiretext.proofs.Round.Leads.{outside, Leads, leads_to, leads_from, walk, room_before, room_for, each_at, all_at}
use Rattle.ccr_base.proofs.Lists.{each_all}
use Rattle.ccr_wiretext.proofs.Round.Namings.{Good, names_of, names_append, good_front, is_new}
use Rattle.ccr_wiretext.proofs.Round.Shapes.{KnowsAll}
use Rattle.ccr_wiretext.proofs.Round.Firing.{branch_entries, arbiter_entries, next_fine, knows_more, choice_open, interleave_open, block_leads, receive_step}

-- the names that arbiters declare
abbrev pub firing_entries : ℕ → List ArbiterPart → Naming
firing_entries number [] = []
firing_entries number (part ∷ parts) = arbiter_entries number part ++ firing_entries (number + 1) parts

firing_append : (number : ℕ) (xs ys : List ArbiterPart) → firing_entries number (xs ++ ys) ≡ firing_entries number xs ++ firing_entries (number + length xs) ys
firing_append number [] ys = rw (add-zero number) refl
firing_append number (part ∷ xs) ys =
    let counted : number + length (part ∷ xs) ≡ number + 1 + length xs = omega arith in
    rw (counted, firing_append (number + 1) xs ys) (sym (append_assoc (arbiter_entries number part) (firing_entries (number + 1) xs) (firing_entries (number + 1 + length xs) ys)))

-- behind some arbiters
firing_behind : (done rest : List ArbiterPart) → firing_entries 0 (done ++ rest) ≡ firing_entries 0 done ++ firing_entries (length done) rest
firing_behind done rest = firing_append 0 done rest ∙ ap (λ n. firing_entries 0 done ++ firing_entries n rest) (zero-add (length done))

-- one arbiter more
firing_more : (front : Naming) (done : List ArbiterPart) (part : ArbiterPart) → (front ++ firing_entries 0 done) ++ arbiter_entries (length done) part ≡ front ++ firing_entries 0 (done ++ part ∷ [])
firing_more front done part =
    append_assoc front (firing_entries 0 done) (arbiter_entries (length done) part)
    ∙ ap (λ (v : Naming). front ++ v) (ap (λ (v : Naming). firing_entries 0 done ++ v) (sym (append-nil (arbiter_entries (length done) part))) ∙ sym (firing_behind done (part ∷ [])))

-- an arbiter more
abbrev after : Parts → Naming → List ℕ → ArbiterPart → Declared
after parts names spotted part = outside (record parts { arbiters = parts.arbiters ++ part ∷ [] }) (names ++ arbiter_entries (length parts.arbiters) part) (spotted ++ arbiter_named parts part)

-- what is needed of an arbiter that comes next
record IsReady (whole parts : Parts) (names : Naming) (spotted : List ℕ) (part : ArbiterPart) : Type 0 where
  knows : KnowsAll whole names
  good : Good (names_of (names ++ arbiter_entries (length parts.arbiters) part))
  fit : ArbiterFit (length whole.queues) (length whole.handlers) (length whole.ports) part
  valued : IsArbiterValued part
  fine : Uncrowded (spotted ++ arbiter_named parts part)
  room : length parts.arbiters < 256
  branch_room : branch_count parts + length part.branches ≤ 256

abbrev as_receive : List ℕ → List BranchPart → ArbiterPart
as_receive name branches = record { name = name; kind = arbiters.Receive; branches = branches }

-- a receive has one branch of its name
receive_leads : AreReadAgain → (whole parts : Parts) (names : Naming) (spotted : List ℕ) (name : List ℕ) (branches : List BranchPart) → is_one_named name branches ≡ true → IsReady whole parts names spotted (as_receive name branches)
    → Leads (outside parts names spotted) (map (branch_words whole) branches) (after parts names spotted (as_receive name branches))
receive_leads again whole parts names spotted name [] one ready = absurd cc
receive_leads again whole parts names spotted name (branch ∷ other ∷ others) one ready =
    let more : (length (other ∷ others) == 0) ≡ false = grind (arith, nat_tests) in
    absurd (let h : false ≡ true = sym more ∙ (both (length (other ∷ others) == 0) (bytes_eq branch.name name) one).0 in cc)
receive_leads again whole parts names spotted name (branch ∷ []) one ready = named name (same_word branch.name name one) ready
  where
    by_name : IsReady whole parts names spotted (as_receive branch.name (branch ∷ [])) → Leads (outside parts names spotted) (branch_words whole branch ∷ []) (after parts names spotted (as_receive branch.name (branch ∷ [])))
    by_name r =
        let fit = r.fit.0.0 in
        let counted = r.branch_room in
        let valued = (each_all (λ (b : BranchPart). IsPatternValued b.pattern) (branch ∷ []) r.valued).0 in
        let fine = r.fine in (
          with_receive (outside parts names spotted) branch,
          receive_step again whole parts names spotted branch r.knows (is_new names branch.name kinds.Branch [] r.good) fit.0 fit.1 valued (subst (λ (v : List ℕ). Uncrowded (spotted ++ v)) (append-nil (branch_named parts branch)) fine) r.room (omega arith),
          ap (λ (v : List ℕ). outside (record parts { arbiters = parts.arbiters ++ receiver branch ∷ [] }) (names ++ (branch.name, kinds.Branch) ∷ []) (spotted ++ v)) (sym (append-nil (branch_named parts branch))),
        )

    named : (n : List ℕ) → branch.name ≡ n → IsReady whole parts names spotted (as_receive n (branch ∷ [])) → Leads (outside parts names spotted) (branch_words whole branch ∷ []) (after parts names spotted (as_receive n (branch ∷ [])))
    named n e = subst (λ m. IsReady whole parts names spotted (as_receive m (branch ∷ [])) → Leads (outside parts names spotted) (branch_words whole branch ∷ []) (after parts names spotted (as_receive m (branch ∷ [])))) e by_name

block_some : (part : ArbiterPart) → is_receive part.kind ≡ false → Shaped part → (length part.branches == 0) ≡ false
block_some part block (inl (kind, one)) = absurd (let h : true ≡ false = sym kind ∙ block in cc)
block_some part block (inr (kind, some)) = some

receive_one : (part : ArbiterPart) → is_receive part.kind ≡ true → Shaped part → is_one_named part.name part.branches ≡ true
receive_one part receive (inl (kind, one)) = one
receive_one part receive (inr (kind, some)) = absurd (let h : true ≡ false = sym receive ∙ kind in cc)

arbiter_leads : AreReadAgain → (whole parts : Parts) (names : Naming) (spotted : List ℕ) (name : List ℕ) (kind : Kind) (branches : List BranchPart) → IsReady whole parts names spotted (record { name = name; kind = kind; branches = branches })
    → Leads (outside parts names spotted) (arbiter_lines whole (record { name = name; kind = kind; branches = branches })) (after parts names spotted (record { name = name; kind = kind; branches = branches }))
arbiter_leads again whole parts names spotted name arbiters.Receive branches ready =
    receive_leads again whole parts names spotted name branches (receive_one (as_receive name branches) refl ready.fit.1) ready
arbiter_leads again whole parts names spotted name arbiters.Choice branches ready =
    let part : ArbiterPart = record { name = name; kind = arbiters.Choice; branches = branches } in
    let new = is_new names name (kinds.Arbiter (length parts.arbiters)) (branch_entries branches) ready.good in
    block_leads again whole parts names spotted _ part ready.knows (choice_open parts names spotted name new ready.room) ready.good ready.fit refl ready.valued ready.fine ready.branch_room (block_some part refl ready.fit.1)
arbiter_leads again whole parts names spotted name arbiters.Interleave branches ready =
    let part : ArbiterPart = record { name = name; kind = arbiters.Interleave; branches = branches } in
    let new = is_new names name (kinds.Arbiter (length parts.arbiters)) (branch_entries branches) ready.good in
    block_leads again whole parts names spotted _ part ready.knows (interleave_open parts names spotted name new ready.room) ready.good ready.fit refl ready.valued ready.fine ready.branch_room (block_some part refl ready.fit.1)

-- the names up to the next arbiter, and its own, are good
next_good : (front : Naming) (done : List ArbiterPart) (part : ArbiterPart) (rest all : List ArbiterPart) → done ++ part ∷ rest ≡ all → Good (names_of (front ++ firing_entries 0 all)) → Good (names_of ((front ++ firing_entries 0 done) ++ arbiter_entries (length done) part))
next_good front done part rest all e good =
    let here : Naming = (front ++ firing_entries 0 done) ++ arbiter_entries (length done) part in
    let behind : Naming = firing_entries (length done + 1) rest in
    let split : front ++ firing_entries 0 all ≡ here ++ behind =
    ap (λ xs. front ++ firing_entries 0 xs) (sym e) ∙ ap (λ (v : Naming). front ++ v) (firing_behind done (part ∷ rest))
    ∙ sym (append_assoc front (firing_entries 0 done) (arbiter_entries (length done) part ++ behind)) ∙ sym (append_assoc (front ++ firing_entries 0 done) (arbiter_entries (length done) part) behind) in
    good_front (names_of here) (names_of behind) (subst Good (names_append here behind) (subst (λ (v : Naming). Good (names_of v)) split good))

pub arbiters_lead : AreReadAgain → (whole parts : Parts) (front : Naming) (all : List ArbiterPart) → KnowsAll whole front → Each (ArbiterFit (length whole.queues) (length whole.handlers) (length whole.ports)) all → All IsArbiterValued all
    → Good (names_of (front ++ firing_entries 0 all)) → Uncrowded ([] ++ arbiters_named parts all) → length all ≤ 256 → sum (map (λ (arbiter : ArbiterPart). length arbiter.branches) all) ≤ 256
    → Leads (outside (record parts { arbiters = [] }) front []) (flat_map (arbiter_lines whole) all) (outside (record parts { arbiters = all }) (front ++ firing_entries 0 all) ([] ++ arbiters_named parts all))
arbiters_lead again whole parts front all knows fit valued good fine room branch_room =
    leads_from (outside (record parts { arbiters = [] }) (front ++ []) []) _ _ _ (ap (λ n. outside (record parts { arbiters = [] }) n []) (append-nil front))
    (walk (arbiter_lines whole) (λ done. outside (record parts { arbiters = done }) (front ++ firing_entries 0 done) ([] ++ arbiters_named parts done)) all
    (λ done part rest e.
    let before : Parts = record parts { arbiters = done } in
    let names : Naming = front ++ firing_entries 0 done in
    let spotted : List ℕ = [] ++ arbiters_named parts done in
    leads_to (outside before names spotted) (after before names spotted part) _ (arbiter_lines whole part)
    (arbiter_leads again whole before names spotted part.name part.kind part.branches (record {
      knows = knows_more whole front (firing_entries 0 done) knows;
      good = next_good front done part rest all e good;
      fit = each_at (ArbiterFit (length whole.queues) (length whole.handlers) (length whole.ports)) done part rest all e fit;
      valued = all_at IsArbiterValued done part rest all e valued;
      fine = next_fine (arbiter_named parts) [] done part rest all e fine;
      room = room_before 256 done part rest all e room;
      branch_room = room_for (λ (arbiter : ArbiterPart). length arbiter.branches) 256 done part rest all e branch_room;
    }))
    (ap (λ n. outside (record parts { arbiters = done ++ part ∷ [] }) n (spotted ++ arbiter_named parts part)) (firing_more front done part)
    ∙ ap (λ s. outside (record parts { arbiters = done ++ part ∷ [] }) (front ++ firing_entries 0 (done ++ part ∷ [])) s) (flat_map_more (arbiter_named parts) [] done part))))
