-- The canonical lines of the arbiters.
use Rattle.std.proofs.Common.{◌≡◌, ℕ, ◌+◌, ◌<◌, ◌≤◌, true, false, List, [], ◌∷◌, ◌++◌, length, map, Some, inl, inr, refl, sym, ap, subst, ◌∙◌, arith, append_assoc, append-nil}
use Rattle.std.specs.Prelude.{◌==◌, codes, flat_map}
use Rattle.std.specs.List.{All}
use Rattle.std.proofs.lemmas.List.{flat_map_more}
use Rattle.std.proofs.lemmas.List.Concat.{flat_map-append}
use Rattle.ccr_base.specs.declared.policies.Group.{Group}
use Rattle.ccr_base.specs.declared.policies.Group.TheVariants as groups
use Rattle.ccr_text.specs.Spelling.{AreWords}
use Rattle.ccr_text.specs.Fields.{Words}
use Rattle.ccr_text.specs.Words.{is_comment}
use Rattle.ccr_text.proofs.Digits.{AreReadAgain}
use Rattle.ccr_wiring.specs.declared.parts.Parts.{Parts}
use Rattle.ccr_wiring.specs.declared.parts.BranchPart.{BranchPart}
use Rattle.ccr_wiring.specs.declared.parts.ArbiterPart.{ArbiterPart}
use Rattle.ccr_wiring.specs.declared.parts.Kind.{Kind}
use Rattle.ccr_wiring.specs.declared.parts.Kind.TheVariants as arbiters
use Rattle.ccr_wiring.specs.Groups.{may_have, is_receive}
use Rattle.ccr_wiring.specs.Spots.{branch_named, branches_named}
use Rattle.ccr_wiretext.specs.declared.keyword.Keyword.{Keyword}
use Rattle.ccr_wiretext.specs.declared.keyword.Keyword.TheVariants as keywords
use Rattle.ccr_wiretext.specs.declared.named.Named.TheVariants as kinds
use Rattle.ccr_wiretext.specs.declared.draft.Block.TheVariants as blocks
use Rattle.ccr_wiretext.specs.Keywords.{keyword}
use Rattle.ccr_wiretext.specs.Names.{Naming}
use Rattle.ccr_wiretext.specs.Drafts.{Declared, branch_count, with_receive, with_arbiter, with_branch, end_arbiter}
use Rattle.ccr_wiretext.specs.Blocks.{group_of}
use Rattle.ccr_wiretext.specs.Grammar.{IsNew, IsGroup}
use Rattle.ccr_wiretext.specs.Spelling.{group_words, branch_words, end_words, block_lines}
use Rattle.ccr_wiretext.specs.Values.{IsPatternValued, IsArbiterValued}
use Rattle.ccr_base.specs.Lists.{Each}
use Rattle.ccr_wiretext.proofs.Fit.{BranchFit, ArbiterFit}
use Rattle.ccr_wiretext.proofs.SpotCounts.{Uncrowded}
use Rattle.ccr_wiring.proofs.Crowds.{times_append}
use Rattle.ccr_wiretext.proofs.Round.Leads.{inside, outside, IsStep, step_to, Leads, leads_on, leads_to, walk_lines, room_before, each_at, all_at}
use Rattle.ccr_wiretext.proofs.Round.Namings.{Good, entries, names_of, next_names, next_new}
use Rattle.ccr_wiretext.proofs.Round.Terms.{IsWord, word_more, name_word}
use Rattle.ccr_wiretext.proofs.Round.Known.{queues_stay, handlers_stay, ports_stay}
use Rattle.ccr_wiretext.proofs.Round.Shapes.{KnowsAll, tail_words, tail_says, tail_clean}

-- the names of branches
abbrev pub branch_entries : List BranchPart → Naming
branch_entries branches = entries (λ (branch : BranchPart). branch.name) (λ n. kinds.Branch) 0 branches

-- the names that an arbiter of this number declares
abbrev pub arbiter_entries : ℕ → ArbiterPart → Naming
arbiter_entries number part = elim part.kind [
  | arbiters.Receive ↦ (part.name, kinds.Branch) ∷ []
  | arbiters.Choice ↦ (part.name, kinds.Arbiter number) ∷ [] ++ branch_entries part.branches
  | arbiters.Interleave ↦ (part.name, kinds.Arbiter number) ∷ [] ++ branch_entries part.branches
]

-- ---- no port is crowded up to here

uncrowded_front : (xs ys : List ℕ) → Uncrowded (xs ++ ys) → Uncrowded xs
uncrowded_front xs ys fine port = let split = times_append port xs ys in let all = fine port in omega arith

-- with what the next of a list names
pub next_fine : {X : Type 0} (f : X → List ℕ) (spotted : List ℕ) (done : List X) (x : X) (rest all : List X) → done ++ x ∷ rest ≡ all → Uncrowded (spotted ++ flat_map f all) → Uncrowded ((spotted ++ flat_map f done) ++ f x)
next_fine f spotted done x rest all e fine =
    let split : spotted ++ flat_map f all ≡ ((spotted ++ flat_map f done) ++ f x) ++ flat_map f rest =
    ap (λ xs. spotted ++ flat_map f xs) (sym e) ∙ ap (λ (v : List ℕ). spotted ++ v) (flat_map-append f done (x ∷ rest))
    ∙ sym (append_assoc spotted (flat_map f done) (f x ++ flat_map f rest)) ∙ sym (append_assoc (spotted ++ flat_map f done) (f x) (flat_map f rest)) in
    uncrowded_front ((spotted ++ flat_map f done) ++ f x) (flat_map f rest) (subst Uncrowded split fine)

-- ---- the words of a group

pub knows_more : (whole : Parts) (names more : Naming) → KnowsAll whole names → KnowsAll whole (names ++ more)
knows_more whole names more knows = record {
  queues = queues_stay whole names more knows.queues;
  handlers = handlers_stay whole names more knows.handlers;
  ports = ports_stay whole names more knows.ports;
}

-- a branch of a choice or Interleave begins with the word of its group
record IsBegun (kind : Kind) (group : Group) : Type 0 where
  text : List ℕ
  word : Keyword
  spelled : (name : List ℕ) → group_words name group ≡ text ∷ name ∷ []
  keyed : keyword text ≡ word
  plain : is_comment text ≡ false
  clean : IsWord text
  begins : group_of kind word ≡ Some group

begun : (kind : Kind) (group : Group) → is_receive kind ≡ false → may_have kind group ≡ true → IsBegun kind group
unfolding keyword
begun arbiters.Receive group block may = absurd cc
begun arbiters.Choice groups.Once block may = absurd cc
begun arbiters.Choice groups.Always block may = absurd cc
begun arbiters.Choice groups.Choice block may = record { text = codes "branch"; word = keywords.Branch; spelled = λ name. refl; keyed = refl; plain = refl; clean = (refl, refl); begins = refl }
begun arbiters.Choice groups.Teardown block may = absurd cc
begun arbiters.Choice groups.Exclusive block may = absurd cc
begun arbiters.Choice groups.Concurrent block may = absurd cc
begun arbiters.Interleave groups.Once block may = absurd cc
begun arbiters.Interleave groups.Always block may = absurd cc
begun arbiters.Interleave groups.Choice block may = absurd cc
begun arbiters.Interleave groups.Teardown block may = record { text = codes "teardown"; word = keywords.Teardown; spelled = λ name. refl; keyed = refl; plain = refl; clean = (refl, refl); begins = refl }
begun arbiters.Interleave groups.Exclusive block may = record { text = codes "exclusive"; word = keywords.Exclusive; spelled = λ name. refl; keyed = refl; plain = refl; clean = (refl, refl); begins = refl }
begun arbiters.Interleave groups.Concurrent block may = record { text = codes "concurrent"; word = keywords.Concurrent; spelled = λ name. refl; keyed = refl; plain = refl; clean = (refl, refl); begins = refl }

-- ---- a branch of a block

branch_step : AreReadAgain → (whole parts : Parts) (names : Naming) (spotted : List ℕ) (part : ArbiterPart) (branch : BranchPart) → KnowsAll whole names → IsNew names branch.name
    → BranchFit (length whole.queues) (length whole.handlers) (length whole.ports) branch → is_receive part.kind ≡ false → may_have part.kind branch.group ≡ true → IsPatternValued branch.pattern
    → Uncrowded (spotted ++ branch_named parts branch) → branch_count parts + length part.branches < 256
    → IsStep (inside parts names spotted (blocks.Arbiter part)) (branch_words whole branch) (with_branch (outside parts names spotted) part branch)
branch_step again whole parts names spotted part branch knows new fit block may valued fine room =
    let begin = begun part.kind branch.group block may in
    let others : Words = branch.name ∷ tail_words whole branch in
    let spelled : branch_words whole branch ≡ begin.text ∷ others = ap (λ (v : Words). v ++ tail_words whole branch) (begin.spelled branch.name) in
    let draft : Declared = outside parts names spotted in
    record {
      first = begin.text;
      others = others;
      word = begin.word;
      spelled = spelled;
      keyed = begin.keyed;
      plain = begin.plain;
      clean = subst AreWords (sym spelled) (word_more begin.text others begin.clean (word_more branch.name (tail_words whole branch) (name_word branch.name new.formed) (tail_clean again whole draft knows branch fit valued)));
      says = inr (
        branch.group,
        begin.begins,
        branch,
        record { branch_room = room; rest = tail_words whole branch; spelled = refl; name = new; grouped = refl; tail = tail_says again whole draft knows branch fit valued fine },
        refl,
      );
    }

-- a block with some of its branches
abbrev opened : List ℕ → Kind → List BranchPart → ArbiterPart
opened name kind done = record { name = name; kind = kind; branches = done }

abbrev BranchRight : Parts → Kind → BranchPart → Type 0
BranchRight whole kind branch = BranchFit (length whole.queues) (length whole.handlers) (length whole.ports) branch × (may_have kind branch.group ≡ true)

abbrev BranchValued : BranchPart → Type 0
BranchValued branch = IsPatternValued branch.pattern

branches_lead : AreReadAgain → (whole parts : Parts) (front : Naming) (spotted : List ℕ) (name : List ℕ) (kind : Kind) (branches : List BranchPart) → KnowsAll whole front → Good (names_of (front ++ branch_entries branches))
    → Each (BranchRight whole kind) branches → is_receive kind ≡ false → All BranchValued branches → Uncrowded (spotted ++ branches_named parts branches) → branch_count parts + length branches ≤ 256
    → Leads (inside parts (front ++ []) (spotted ++ []) (blocks.Arbiter (opened name kind []))) (map (branch_words whole) branches)
    (inside parts (front ++ branch_entries branches) (spotted ++ branches_named parts branches) (blocks.Arbiter (opened name kind branches)))
branches_lead again whole parts front spotted name kind branches knows good fit block valued fine room =
    walk_lines (branch_words whole) (λ done. inside parts (front ++ branch_entries done) (spotted ++ branches_named parts done) (blocks.Arbiter (opened name kind done))) branches
    (λ done branch rest e.
    let right = each_at (BranchRight whole kind) done branch rest branches e fit in
    let less = room_before (length branches) done branch rest branches e (omega arith) in
    let next : List BranchPart = done ++ branch ∷ [] in
    step_to (inside parts (front ++ branch_entries done) (spotted ++ branches_named parts done) (blocks.Arbiter (opened name kind done)))
    (with_branch (outside parts (front ++ branch_entries done) (spotted ++ branches_named parts done)) (opened name kind done) branch) _ (branch_words whole branch)
    (branch_step again whole parts (front ++ branch_entries done) (spotted ++ branches_named parts done) (opened name kind done) branch
    (knows_more whole front (branch_entries done) knows)
    (next_new (λ (branch : BranchPart). branch.name) (λ n. kinds.Branch) front done branch rest branches e good)
    right.0 block right.1
    (all_at BranchValued done branch rest branches e valued)
    (next_fine (branch_named parts) spotted done branch rest branches e fine)
    (omega arith))
    (ap (λ n. inside parts n ((spotted ++ branches_named parts done) ++ branch_named parts branch) (blocks.Arbiter (opened name kind next))) (next_names (λ (branch : BranchPart). branch.name) (λ n. kinds.Branch) front done branch)
    ∙ ap (λ s. inside parts (front ++ branch_entries next) s (blocks.Arbiter (opened name kind next))) (flat_map_more (branch_named parts) spotted done branch)))

-- ---- a block

block_end : (parts : Parts) (names : Naming) (spotted : List ℕ) (part : ArbiterPart) → (length part.branches == 0) ≡ false → IsStep (inside parts names spotted (blocks.Arbiter part)) end_words (end_arbiter (outside parts names spotted) part)
unfolding keyword
block_end parts names spotted part some = record {
  first = codes "end";
  others = [];
  word = keywords.End;
  spelled = refl;
  keyed = refl;
  plain = refl;
  clean = (refl, refl, tt);
  says = inl (refl, refl, some, refl);
}

pub choice_open : (parts : Parts) (names : Naming) (spotted : List ℕ) (name : List ℕ) → IsNew names name → length parts.arbiters < 256
    → IsStep (outside parts names spotted) (codes "choice" ∷ name ∷ []) (with_arbiter (outside parts names spotted) arbiters.Choice name)
unfolding keyword
choice_open parts names spotted name new room = record {
  first = codes "choice";
  others = name ∷ [];
  word = keywords.Choice;
  spelled = refl;
  keyed = refl;
  plain = refl;
  clean = word_more (codes "choice") (name ∷ []) (refl, refl) (word_more name [] (name_word name new.formed) tt);
  says = (name, record { room = room; spelled = refl; new = new }, refl);
}

pub interleave_open : (parts : Parts) (names : Naming) (spotted : List ℕ) (name : List ℕ) → IsNew names name → length parts.arbiters < 256
    → IsStep (outside parts names spotted) (codes "interleave" ∷ name ∷ []) (with_arbiter (outside parts names spotted) arbiters.Interleave name)
unfolding keyword
interleave_open parts names spotted name new room = record {
  first = codes "interleave";
  others = name ∷ [];
  word = keywords.Interleave;
  spelled = refl;
  keyed = refl;
  plain = refl;
  clean = word_more (codes "interleave") (name ∷ []) (refl, refl) (word_more name [] (name_word name new.formed) tt);
  says = (name, record { room = room; spelled = refl; new = new }, refl);
}

-- a block whose first line opens it
pub block_leads : AreReadAgain → (whole parts : Parts) (names : Naming) (spotted : List ℕ) (first : List ℕ) (part : ArbiterPart) → KnowsAll whole names
    → IsStep (outside parts names spotted) (first ∷ part.name ∷ []) (with_arbiter (outside parts names spotted) part.kind part.name)
    → Good (names_of (names ++ ((part.name, kinds.Arbiter (length parts.arbiters)) ∷ [] ++ branch_entries part.branches))) → ArbiterFit (length whole.queues) (length whole.handlers) (length whole.ports) part → is_receive part.kind ≡ false → IsArbiterValued part
    → Uncrowded (spotted ++ branches_named parts part.branches) → branch_count parts + length part.branches ≤ 256 → (length part.branches == 0) ≡ false
    → Leads (outside parts names spotted) (block_lines whole first part)
    (outside (record parts { arbiters = parts.arbiters ++ part ∷ [] }) (names ++ ((part.name, kinds.Arbiter (length parts.arbiters)) ∷ [] ++ branch_entries part.branches)) (spotted ++ branches_named parts part.branches))
block_leads again whole parts names spotted first part knows step good fit block valued fine room some =
    let entry : Naming = (part.name, kinds.Arbiter (length parts.arbiters)) ∷ [] in
    let front : Naming = names ++ entry in
    let same : front ++ branch_entries part.branches ≡ names ++ (entry ++ branch_entries part.branches) = append_assoc names entry (branch_entries part.branches) in
    let named : List ℕ = spotted ++ branches_named parts part.branches in
    let before : Declared = inside parts (front ++ []) (spotted ++ []) (blocks.Arbiter (opened part.name part.kind [])) in
    let acted : Declared = inside parts (front ++ branch_entries part.branches) named (blocks.Arbiter part) in
    let closed : Declared = outside (record parts { arbiters = parts.arbiters ++ part ∷ [] }) (front ++ branch_entries part.branches) named in
    leads_to (outside parts names spotted) closed _ (block_lines whole first part) (
      before,
      step_to (outside parts names spotted) (with_arbiter (outside parts names spotted) part.kind part.name) before (first ∷ part.name ∷ []) step
          (ap (λ n. inside parts n spotted (blocks.Arbiter (opened part.name part.kind []))) (sym (append-nil front)) ∙ ap (λ s. inside parts (front ++ []) s (blocks.Arbiter (opened part.name part.kind []))) (sym (append-nil spotted))),
      leads_on before acted closed (map (branch_words whole) part.branches) (end_words ∷ [])
          (branches_lead again whole parts front spotted part.name part.kind part.branches (knows_more whole names entry knows) (subst (λ (n : Naming). Good (names_of n)) (sym same) good) fit.0 block valued fine room)
          (closed, block_end parts (front ++ branch_entries part.branches) named part some, refl),
    )
    (ap (λ n. outside (record parts { arbiters = parts.arbiters ++ part ∷ [] }) n named) same)

-- ---- a receive

record IsReceived (group : Group) : Type 0 where
  word : List ℕ
  spelled : (name : List ℕ) → group_words name group ≡ codes "receive" ∷ name ∷ word ∷ []
  grouped : IsGroup word group
  clean : IsWord word

received : (group : Group) → may_have arbiters.Receive group ≡ true → IsReceived group
received groups.Once may = record { word = codes "once"; spelled = λ name. refl; grouped = refl; clean = (refl, refl) }
received groups.Always may = record { word = codes "always"; spelled = λ name. refl; grouped = refl; clean = (refl, refl) }
received groups.Choice may = absurd cc
received groups.Teardown may = absurd cc
received groups.Exclusive may = absurd cc
received groups.Concurrent may = absurd cc

receive_keyed : keyword (codes "receive") ≡ keywords.Receive
unfolding keyword
receive_keyed = refl

pub receive_step : AreReadAgain → (whole parts : Parts) (names : Naming) (spotted : List ℕ) (branch : BranchPart) → KnowsAll whole names → IsNew names branch.name
    → BranchFit (length whole.queues) (length whole.handlers) (length whole.ports) branch → may_have arbiters.Receive branch.group ≡ true → IsPatternValued branch.pattern
    → Uncrowded (spotted ++ branch_named parts branch) → length parts.arbiters < 256 → branch_count parts < 256
    → IsStep (outside parts names spotted) (branch_words whole branch) (with_receive (outside parts names spotted) branch)
receive_step again whole parts names spotted branch knows new fit may valued fine room branch_room =
    let group = received branch.group may in
    let tail : Words = tail_words whole branch in
    let others : Words = branch.name ∷ group.word ∷ tail in
    let spelled : branch_words whole branch ≡ codes "receive" ∷ others = ap (λ (v : Words). v ++ tail) (group.spelled branch.name) in
    let draft : Declared = outside parts names spotted in
    record {
      first = codes "receive";
      others = others;
      word = keywords.Receive;
      spelled = spelled;
      keyed = receive_keyed;
      plain = refl;
      clean = subst AreWords (sym spelled)
          (word_more (codes "receive") others (refl, refl) (word_more branch.name (group.word ∷ tail) (name_word branch.name new.formed) (word_more group.word tail group.clean (tail_clean again whole draft knows branch fit valued))));
      says = (
        branch,
        record { room = room; branch_room = branch_room; group = group.word; rest = tail; spelled = refl; name = new; grouped = group.grouped; tail = tail_says again whole draft knows branch fit valued fine },
        refl,
      );
    }
