-- What is owed at a place is owed by one actor, once, and its condition is met.
use Rattle.std.proofs.Common.{inl, inr, ◌⊎◌, ◌≡◌, ◌≢◌, ◌≤◌, ◌<◌, ℕ, zero, suc, ◌+◌, Bool, true, false, ◌&&◌, List, [], ◌∷◌, ◌++◌, map, refl, sym, arith, ap, ◌∙◌}
use Rattle.std.specs.Prelude.{◌==◌}
use Rattle.ccr_base.specs.declared.names.Place.{Place}
use Rattle.ccr_base.specs.declared.names.TaskId.{TaskId}
use Rattle.ccr_base.specs.Names.{has_task}
use Rattle.ccr_wiring.specs.declared.parts.Parts.{Parts}
use Rattle.ccr_base.proofs.Booleans.{same_number, differ}
use Rattle.ccr_model.proofs.Members.{Among, Among-either}
use Rattle.ccr_claim.specs.declared.asks.Ask.{Ask}
use Rattle.ccr_claim.specs.declared.asks.Asked.{Asked}
use Rattle.ccr_runs.specs.declared.entries.Entry.{Entry}
use Rattle.ccr_base.specs.declared.names.Spot.{Spot}
use Rattle.ccr_model.specs.declared.history.Event.{Event}
use Rattle.ccr_model.specs.Legal.{IsLegal, IsAllowed}
use Rattle.ccr_model.proofs.LegalParts.{legal_split}
use Rattle.ccr_actor.specs.Plans.{plan_of}
use Rattle.ccr_actor.specs.Actors.{in_attempt}
use Rattle.ccr_actor.specs.Courses.{owing}
use Rattle.ccr_runs.specs.EntryRuns.{Lacks, state_of, same_place, port_at}
use Rattle.ccr_runs.specs.Visible.{visible}
use Rattle.ccr_net.proofs.Parts.PortsAndHandsMatch.{IsOwed}
use Rattle.ccr_net.proofs.Parts.StepsKeepActors.{release_owed}
use Rattle.ccr_net.proofs.Parts.OneMoreEntry.{state_of-other}
use Rattle.ccr_net.proofs.Parts.MeterMatches.{bit}
use Rattle.ccr_net.proofs.Kept.WholeInvariant.{Holds}

-- what an actor owes after these entries
abbrev pub owed_by : Parts → Lacks → List Entry → ℕ → List Asked
owed_by w lacks es a = owing w a (state_of w lacks es a)

pub others_owe : (w : Parts) (lacks : Lacks) (es : List Entry) (e : Entry) (a : ℕ) → e.actor ≢ a → owed_by w lacks (es ++ e ∷ []) a ≡ owed_by w lacks es a
others_owe w lacks es e a other = by (e.actor == a) refl
  where
    by : (c : Bool) → (e.actor == a) ≡ c → owed_by w lacks (es ++ e ∷ []) a ≡ owed_by w lacks es a
    by true is = absurd (other (same_number e.actor a is))
    by false is = ap (owing w a) (state_of-other w lacks es e a is)

-- what is owed, by what is known of the hand, and of what an attempt hands back
pub owed_each : (w : Parts) (n : ℕ) (lacks : Lacks) (es : List Entry) → Holds w n lacks es → (a : ℕ) (x : Asked) → Among x (owed_by w lacks es a) → (bound : ℕ) × IsOwed w (visible es) a bound x.place x.ask
owed_each w n lacks es holds a x is = of_split (Among-either x (state_of w lacks es a).hand (in_attempt w a (state_of w lacks es a) (state_of w lacks es a).spots) is)
  where
    of_spots : (spots : List Spot) → Among x (in_attempt w a (state_of w lacks es a) spots) → (bound : ℕ) × IsOwed w (visible es) a bound x.place x.ask
    of_spots [] there = absurd there
    of_spots (spot ∷ more) there = ((state_of w lacks es a).attempt + 1, release_owed w (visible es) (port_at es) a (state_of w lacks es a) (plan_of w spot) (holds.actors a).claims x there)

    of_split : Among x (state_of w lacks es a).hand ⊎ Among x (in_attempt w a (state_of w lacks es a) (state_of w lacks es a).spots) → (bound : ℕ) × IsOwed w (visible es) a bound x.place x.ask
    of_split (inl there) = ((state_of w lacks es a).attempt, (holds.actors a).claims.owed x there)
    of_split (inr there) = of_spots (state_of w lacks es a).spots there

-- the event that an entry shows is allowed
pub last_allowed : (w : Parts) (h : List Event) (e : Event) → IsLegal w (h ++ e ∷ []) → IsAllowed w h e
last_allowed w h e legal = (legal_split w [] h (e ∷ []) legal).1.0

-- places by their numbers, and the tasks that an ask is about
module _ (pl : ℕ → Place) (gone : Ask → List TaskId) where
  -- whether the ask is about the task at the place of this number
  abbrev pub is_about : ℕ → TaskId → Asked → Bool
  is_about p t x = same_place x.place (pl p) && has_task (gone x.ask) t

  -- how many of the asks are
  abbrev pub many : ℕ → TaskId → List Asked → ℕ
  many p t [] = 0
  many p t (x ∷ xs) = bit (is_about p t x) + many p t xs

  pub many-append : (p : ℕ) (t : TaskId) (xs ys : List Asked) → many p t (xs ++ ys) ≡ many p t xs + many p t ys
  many-append p t [] ys = omega arith
  many-append p t (x ∷ xs) ys = let rest = many-append p t xs ys in omega (arith, rest)

  pub many-none : {X : Type 0} (p : ℕ) (t : TaskId) (f : X → Asked) → ((y : X) → is_about p t (f y) ≡ false) → (ys : List X) → many p t (map f ys) ≡ 0
  many-none p t f none [] = refl
  many-none p t f none (y ∷ ys) = let here = ap bit (none y) in let rest = many-none p t f none ys in omega (arith, here, rest)

  pub many-zero : (p : ℕ) (t : TaskId) (xs : List Asked) → ((x : Asked) → Among x xs → is_about p t x ≡ false) → many p t xs ≡ 0
  many-zero p t [] none = refl
  many-zero p t (x ∷ xs) none = let here = ap bit (none x (inl refl)) in let rest = many-zero p t xs (λ y is. none y (inr is)) in omega (arith, here, rest)

  -- the condition at the place of this number for the task, after these entries
  module _ (w : Parts) (lacks : Lacks) (ok : List Entry → ℕ → TaskId → Bool) where
    pub record OwedOnce (es : List Entry) : Type 0 where
      pub one : (a p : ℕ) (t : TaskId) → many p t (owed_by w lacks es a) ≤ 1
      pub met : (a p : ℕ) (t : TaskId) → 1 ≤ many p t (owed_by w lacks es a) → ok es p t ≡ true
      pub apart : (a b : ℕ) → a ≢ b → (p : ℕ) (t : TaskId) → 1 ≤ many p t (owed_by w lacks es a) → many p t (owed_by w lacks es b) ≡ 0

    -- what one entry must show: of its actor, and of the place
    pub record New (es : List Entry) (e : Entry) (p : ℕ) (t : TaskId) : Type 0 where
      pub one : many p t (owed_by w lacks (es ++ e ∷ []) e.actor) ≡ 1
      pub met : ok (es ++ e ∷ []) p t ≡ true
      pub nobody : (b : ℕ) → e.actor ≢ b → many p t (owed_by w lacks es b) ≡ 0

    pub record OwesOn (es : List Entry) (e : Entry) : Type 0 where
      pub own : (p : ℕ) (t : TaskId) → (many p t (owed_by w lacks (es ++ e ∷ []) e.actor) ≤ many p t (owed_by w lacks es e.actor)) ⊎ New es e p t
      pub stays : (a p : ℕ) (t : TaskId) → 1 ≤ many p t (owed_by w lacks es a) → ok es p t ≡ true → (ok (es ++ e ∷ []) p t ≡ true) ⊎ (many p t (owed_by w lacks (es ++ e ∷ []) e.actor) < many p t (owed_by w lacks es e.actor))

    pub OwedOnce-kept : (es : List Entry) (e : Entry) → OwesOn es e → OwedOnce es → OwedOnce (es ++ e ∷ [])
    OwedOnce-kept es e on once = record {
      one = λ a p t. one_of a p t (e.actor == a) refl;
      met = λ a p t some. met_of a p t (e.actor == a) refl some;
      apart = λ a b other p t some. apart_of a b other p t (e.actor == a) refl (e.actor == b) refl some;
    }
      where
        new : ℕ → ℕ → TaskId → ℕ
        new a p t = many p t (owed_by w lacks (es ++ e ∷ []) a)

        old : ℕ → ℕ → TaskId → ℕ
        old a p t = many p t (owed_by w lacks es a)

        still : (a p : ℕ) (t : TaskId) → (e.actor == a) ≡ false → new a p t ≡ old a p t
        still a p t is = ap (many p t) (others_owe w lacks es e a (differ e.actor a is))

        mine : (a p : ℕ) (t : TaskId) → (e.actor == a) ≡ true → new a p t ≡ new e.actor p t
        mine a p t is = ap (λ b. new b p t) (sym (same_number e.actor a is))

        own_one : (p : ℕ) (t : TaskId) → new e.actor p t ≤ 1
        own_one p t = by (on.own p t)
          where
            by : (new e.actor p t ≤ old e.actor p t) ⊎ New es e p t → new e.actor p t ≤ 1
            by (inl less) = let few = once.one e.actor p t in omega (arith, less, few)
            by (inr is) = let one = is.one in omega (arith, one)

        one_of : (a p : ℕ) (t : TaskId) (c : Bool) → (e.actor == a) ≡ c → new a p t ≤ 1
        one_of a p t true is = let same = mine a p t is in let few = own_one p t in omega (arith, same, few)
        one_of a p t false is = let same = still a p t is in let few = once.one a p t in omega (arith, same, few)

        own_met : (p : ℕ) (t : TaskId) → 1 ≤ new e.actor p t → ok (es ++ e ∷ []) p t ≡ true
        own_met p t some = by (on.own p t)
          where
            by : (new e.actor p t ≤ old e.actor p t) ⊎ New es e p t → ok (es ++ e ∷ []) p t ≡ true
            by (inr is) = is.met
            by (inl less) = of_stay (on.stays e.actor p t had (once.met e.actor p t had))
              where
                had : 1 ≤ old e.actor p t
                had = omega (arith, less, some)

                of_stay : (ok (es ++ e ∷ []) p t ≡ true) ⊎ (new e.actor p t < old e.actor p t) → ok (es ++ e ∷ []) p t ≡ true
                of_stay (inl is) = is
                of_stay (inr fewer) = absurd (let few = once.one e.actor p t in omega (arith, few, fewer, some))

        met_of : (a p : ℕ) (t : TaskId) (c : Bool) → (e.actor == a) ≡ c → 1 ≤ new a p t → ok (es ++ e ∷ []) p t ≡ true
        met_of a p t true is some = own_met p t (let same = mine a p t is in omega (arith, same, some))
        met_of a p t false is some = of_stay (on.stays a p t had (once.met a p t had))
          where
            had : 1 ≤ old a p t
            had = let same = still a p t is in omega (arith, same, some)

            of_stay : (ok (es ++ e ∷ []) p t ≡ true) ⊎ (new e.actor p t < old e.actor p t) → ok (es ++ e ∷ []) p t ≡ true
            of_stay (inl now) = now
            of_stay (inr fewer) = absurd (let none = once.apart e.actor a (differ e.actor a is) p t (let f = fewer in omega (arith, f)) in omega (arith, none, had))

        own_apart : (b p : ℕ) (t : TaskId) → e.actor ≢ b → 1 ≤ new e.actor p t → old b p t ≡ 0
        own_apart b p t other some = by (on.own p t)
          where
            by : (new e.actor p t ≤ old e.actor p t) ⊎ New es e p t → old b p t ≡ 0
            by (inr is) = is.nobody b other
            by (inl less) = once.apart e.actor b other p t (omega (arith, less, some))

        apart_of : (a b : ℕ) → a ≢ b → (p : ℕ) (t : TaskId) (c : Bool) → (e.actor == a) ≡ c → (d : Bool) → (e.actor == b) ≡ d → 1 ≤ new a p t → new b p t ≡ 0
        apart_of a b other p t true at_a true at_b some = absurd (other (sym (same_number e.actor a at_a) ∙ same_number e.actor b at_b))
        apart_of a b other p t true at_a false at_b some = still b p t at_b ∙ own_apart b p t (differ e.actor b at_b) (let same = mine a p t at_a in omega (arith, same, some))
        apart_of a b other p t false at_a true at_b some = of_count (new e.actor p t) refl
          where
            of_count : (k : ℕ) → new e.actor p t ≡ k → new b p t ≡ 0
            of_count zero is = mine b p t at_b ∙ is
            of_count (suc k) is = absurd (let none = own_apart a p t (differ e.actor a at_a) (let i = is in omega (arith, i)) in let same = still a p t at_a in omega (arith, none, same, some))
        apart_of a b other p t false at_a false at_b some = still b p t at_b ∙ once.apart a b other p t (let same = still a p t at_a in omega (arith, same, some))
