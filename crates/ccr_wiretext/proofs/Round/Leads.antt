-- Lines, given by their words, that lead from what is declared to what is declared behind them.
use Rattle.std.proofs.Common.{◌≡◌, ℕ, ◌+◌, ◌<◌, ◌≤◌, true, false, List, [], ◌∷◌, ◌++◌, length, map, inr, refl, sym, ap, subst, ◌∙◌, arith, append_assoc, append-nil, length-append}
use Rattle.std.specs.Prelude.{sum, flat_map}
use Rattle.std.specs.List.{All}
use Rattle.std.proofs.lemmas.List.{map-append}
use Rattle.std.proofs.lemmas.List.Sums.{sum_by-append}
use Rattle.ccr_text.specs.Spelling.{AreWords, AreLines as AreClean, spelled_lines}
use Rattle.ccr_text.specs.Fields.{Words}
use Rattle.ccr_text.specs.Words.{is_comment}
use Rattle.ccr_wiring.specs.declared.parts.Parts.{Parts}
use Rattle.ccr_wiretext.specs.declared.keyword.Keyword.{Keyword}
use Rattle.ccr_wiretext.specs.declared.draft.Block.{Block}
use Rattle.ccr_wiretext.specs.declared.draft.Block.TheVariants as blocks
use Rattle.ccr_wiretext.specs.Keywords.{keyword}
use Rattle.ccr_wiretext.specs.Names.{Naming}
use Rattle.ccr_wiretext.specs.Drafts.{Declared}
use Rattle.ccr_wiretext.specs.Lines.{Says, AreLines}
use Rattle.ccr_base.specs.Lists.{Each}
use Rattle.ccr_base.proofs.Lists.{all_inside, all_from_each}

-- what is declared behind the budget line, in an open block or in none
abbrev pub inside : Parts → Naming → List ℕ → Block → Declared
inside parts names spotted block = record { parts = parts; budgeted = true; names = names; spotted = spotted; block = block }

abbrev pub outside : Parts → Naming → List ℕ → Declared
outside parts names spotted = inside parts names spotted blocks.Outside

-- a line whose first word is a keyword
pub record IsStep (draft : Declared) (words : Words) (new : Declared) : Type 0 where
  pub first : List ℕ
  pub others : Words
  pub word : Keyword
  pub spelled : words ≡ first ∷ others
  pub keyed : keyword first ≡ word
  pub plain : is_comment first ≡ false
  pub clean : AreWords words
  pub says : Says draft.block draft word others new

-- what a line leads to, by another name
pub step_to : (draft old new : Declared) (words : Words) → IsStep draft words old → old ≡ new → IsStep draft words new
step_to draft old new words step e = subst (IsStep draft words) e step

abbrev pub Leads : Declared → List Words → Declared → Type 0
Leads draft [] new = draft ≡ new
Leads draft (words ∷ lines) new = (next : Declared) × IsStep draft words next × Leads next lines new

-- some lines behind others
pub leads_on : (a b c : Declared) (xs ys : List Words) → Leads a xs b → Leads b ys c → Leads a (xs ++ ys) c
leads_on a b c [] ys first second = subst (λ d. Leads d ys c) (sym first) second
leads_on a b c (words ∷ xs) ys (next, step, rest) second = (next, step, leads_on next b c xs ys rest second)

-- what they lead to, by another name
pub leads_to : (a b c : Declared) (lines : List Words) → Leads a lines b → b ≡ c → Leads a lines c
leads_to a b c lines leads e = subst (Leads a lines) e leads

-- what they lead from, by another name
pub leads_from : (a b c : Declared) (lines : List Words) → a ≡ b → Leads a lines c → Leads b lines c
leads_from a b c lines e leads = subst (λ d. Leads d lines c) e leads

-- ---- the lines of a list, part by part

-- some lines a part
pub walk : {X : Type 0} (lines : X → List Words) (state : List X → Declared) (all : List X)
    → ((done : List X) (x : X) (rest : List X) → done ++ x ∷ rest ≡ all → Leads (state done) (lines x) (state (done ++ x ∷ []))) → Leads (state []) (flat_map lines all) (state all)
walk {X} lines state all step = go [] all refl
  where
    go : (done xs : List X) → done ++ xs ≡ all → Leads (state done) (flat_map lines xs) (state all)
    go done [] e = ap state (sym (append-nil done) ∙ e)
    go done (x ∷ xs) e =
        leads_on (state done) (state (done ++ x ∷ [])) (state all) (lines x) (flat_map lines xs) (step done x xs e) (go (done ++ x ∷ []) xs (append_assoc done (x ∷ []) xs ∙ e))

-- one line a part
pub walk_lines : {X : Type 0} (line : X → Words) (state : List X → Declared) (all : List X)
    → ((done : List X) (x : X) (rest : List X) → done ++ x ∷ rest ≡ all → IsStep (state done) (line x) (state (done ++ x ∷ []))) → Leads (state []) (map line all) (state all)
walk_lines {X} line state all step = go [] all refl
  where
    go : (done xs : List X) → done ++ xs ≡ all → Leads (state done) (map line xs) (state all)
    go done [] e = ap state (sym (append-nil done) ∙ e)
    go done (x ∷ xs) e = (state (done ++ x ∷ []), step done x xs e, go (done ++ x ∷ []) xs (append_assoc done (x ∷ []) xs ∙ e))

-- before each part there is room for it
pub room_before : {X : Type 0} (limit : ℕ) (done : List X) (x : X) (rest all : List X) → done ++ x ∷ rest ≡ all → length all ≤ limit → length done < limit
room_before {X} limit done x rest all e room =
    let split : length (done ++ x ∷ rest) ≡ length done + length (x ∷ rest) = length-append done (x ∷ rest) in
    let same : length (done ++ x ∷ rest) ≡ length all = ap length e in
    omega (arith, split, same)

-- and for what it brings with it
pub room_for : {X : Type 0} (f : X → ℕ) (limit : ℕ) (done : List X) (x : X) (rest all : List X) → done ++ x ∷ rest ≡ all → sum (map f all) ≤ limit → sum (map f done) + f x ≤ limit
room_for {X} f limit done x rest all e room =
    let same : sum (map f done ++ f x ∷ map f rest) ≡ sum (map f all) = ap sum (sym (map-append f done (x ∷ rest))) ∙ ap (λ xs. sum (map f xs)) e in
    let split : sum (map f done ++ f x ∷ map f rest) ≡ sum (map f done) + sum (f x ∷ map f rest) = sum_by-append (λ n. n) (map f done) (f x ∷ map f rest) in
    let behind : sum (f x ∷ map f rest) ≡ sum (f x ∷ []) + sum (map f rest) = sum_by-append (λ n. n) (f x ∷ []) (map f rest) in
    let one : sum (f x ∷ []) ≡ f x = omega arith in
    omega (arith, same, split, behind, one)

-- what holds of all parts holds of the next
pub all_at : {X : Type 0} (P : X → Type 0) (done : List X) (x : X) (rest all : List X) → done ++ x ∷ rest ≡ all → All P all → P x
all_at P done x rest all e every = all_inside P done x rest (subst (All P) (sym e) every)

pub each_at : {X : Type 0} (P : X → Type 0) (done : List X) (x : X) (rest all : List X) → done ++ x ∷ rest ≡ all → Each P all → P x
each_at P done x rest all e each = all_at P done x rest all e (all_from_each P all each)

-- ---- what such lines are

-- the lines are in the grammar
pub leads_say : (number : ℕ) (draft : Declared) (lines : List Words) (new : Declared) → Leads draft lines new → new.block ≡ blocks.Outside → AreLines draft (spelled_lines number lines) new.parts
leads_say number draft [] new e outside = (ap (λ (d : Declared). d.block) e ∙ outside, ap (λ (d : Declared). d.parts) (sym e))
leads_say number draft (words ∷ lines) new (next, step, rest) outside = (
  refl,
  inr (step.first, step.others, next, step.spelled, step.plain, subst (λ word. Says draft.block draft word step.others next) (sym step.keyed) step.says, leads_say (number + 1) next lines new rest outside),
)

-- each is found again in their text
pub leads_clean : (draft : Declared) (lines : List Words) (new : Declared) → Leads draft lines new → AreClean lines
leads_clean draft [] new e = tt
leads_clean draft (words ∷ lines) new (next, step, rest) = (step.clean, leads_clean next lines new rest)
