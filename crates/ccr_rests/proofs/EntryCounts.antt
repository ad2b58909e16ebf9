-- How many entries tell something of a task at a place, and when one of them ends what one other began.
use Rattle.std.proofs.Common.{inl, inr, ◌⊎◌, ◌≡◌, ◌≤◌, ◌<◌, ℕ, ◌+◌, ◌&&◌, Bool, true, false, List, [], ◌∷◌, ◌++◌, length, Some, refl, sym, arith, ap, ◌∙◌, subst, append_assoc, append-nil, length-append}
use Rattle.std.specs.Prelude.{if◌then◌else◌}
use Rattle.std.proofs.lemmas.List.Elements.{filter-append}
use Rattle.std.proofs.lemmas.List.{nil_from_length}
use Rattle.ccr_base.specs.declared.names.Place.{Place}
use Rattle.ccr_base.specs.declared.names.TaskId.{TaskId}
use Rattle.ccr_base.specs.Names.{has_task}
use Rattle.ccr_wiring.specs.declared.parts.Parts.{Parts}
use Rattle.ccr_base.proofs.Booleans.{both}
use Rattle.ccr_model.proofs.Members.{Among, Among-either, Among-kept, Among-filter}
use Rattle.ccr_places.specs.declared.notes.Note.{Note}
use Rattle.ccr_runs.specs.declared.entries.Entry.{Entry}
use Rattle.ccr_runs.specs.EntryRuns.{Lacks, IsRunAfter, made_by, same_place}
use Rattle.ccr_net.proofs.Parts.MeterMatches.{bit}
use Rattle.ccr_rests.specs.Ends.{EndsOnce, tells, telling, telling_of}

abbrev pub count : (Note → List TaskId) → Place → TaskId → List Entry → ℕ
count names pl t es = length (telling names pl t es)

pub count-append : (names : Note → List TaskId) (pl : Place) (t : TaskId) (es fs : List Entry) → count names pl t (es ++ fs) ≡ count names pl t es + count names pl t fs
count-append names pl t es fs = ap length (filter-append (tells names pl t) es fs) ∙ length-append (telling names pl t es) (telling names pl t fs)

pub count-first : (names : Note → List TaskId) (pl : Place) (t : TaskId) (e : Entry) (es : List Entry) → count names pl t (e ∷ es) ≡ bit (tells names pl t e) + count names pl t es
count-first names pl t e es = by (tells names pl t e)
  where
    by : (b : Bool) → length (if b then e ∷ telling names pl t es else telling names pl t es) ≡ bit b + length (telling names pl t es)
    by true = omega arith
    by false = omega arith

pub count-push : (names : Note → List TaskId) (pl : Place) (t : TaskId) (es : List Entry) (e : Entry) → count names pl t (es ++ e ∷ []) ≡ count names pl t es + bit (tells names pl t e)
count-push names pl t es e = let all = count-append names pl t es (e ∷ []) in let one = count-first names pl t e [] in omega (arith, all, one)

-- each entry that tells it is of the actor whose attempt the task is
abbrev pub AreOwn : (Note → List TaskId) → List Entry → Type 0
AreOwn names es = (x : Entry) → Among x es → (t : TaskId) → has_task (names x.note) t ≡ true → x.actor ≡ t.actor

pub own-push : (names : Note → List TaskId) (es : List Entry) (e : Entry) → ((t : TaskId) → has_task (names e.note) t ≡ true → e.actor ≡ t.actor) → AreOwn names es → AreOwn names (es ++ e ∷ [])
own-push names es e own all x is t has = of_split (Among-either x es (e ∷ []) is)
  where
    of_split : Among x es ⊎ Among x (e ∷ []) → x.actor ≡ t.actor
    of_split (inl old) = all x old t has
    of_split (inr (inl same)) = ap (λ (y : Entry). y.actor) same ∙ own t (subst (λ (y : Entry). has_task (names y.note) t ≡ true) same has)
    of_split (inr (inr none)) = absurd none

one_of : (xs : List Entry) → length xs ≡ 1 → (x : Entry) × (xs ≡ x ∷ [])
one_of [] is = absurd (omega (arith, is))
one_of (x ∷ xs) is = (x, ap (λ ys. x ∷ ys) (nil_from_length xs (omega (arith, is))))

-- some entry tells it
pub some_telling : (names : Note → List TaskId) (pl : Place) (t : TaskId) (es : List Entry) → 1 ≤ count names pl t es → (x : Entry) × Among x es × (has_task (names x.note) t ≡ true)
some_telling names pl t es some = of (telling names pl t es) refl
  where
    of : (xs : List Entry) → telling names pl t es ≡ xs → (x : Entry) × Among x es × (has_task (names x.note) t ≡ true)
    of [] at = absurd (let none = ap length at in omega (arith, none, some))
    of (x ∷ xs) at = let there = subst (Among x) (sym at) (inl refl) in (x, Among-kept (tells names pl t) es x there, (both (same_place x.place pl) (has_task (names x.note) t) (Among-filter (tells names pl t) es x there).1).1)

-- one began it, and no other, and the entry alone ends it
pub ends_once : (begins ends : Note → List TaskId) (pl : Place) (t : TaskId) (past : List Entry) (e : Entry) (more : List Entry) → AreOwn begins past → tells ends pl t e ≡ true → count begins pl t past ≡ 1 → count ends pl t past ≡ 0 → count begins pl t (past ++ e ∷ more) ≤ 1 → count ends pl t (past ++ e ∷ more) ≤ 1 → EndsOnce begins ends pl t past e more
ends_once begins ends pl t past e more own is one none few few_ends = record {
  beginning = found.0;
  begun = found.1;
  by_itself = own found.0 (Among-kept (tells begins pl t) past found.0 among) t (both (same_place found.0.place pl) (has_task (begins found.0.note) t) (Among-filter (tells begins pl t) past found.0 among).1).1;
  not_begun_later = nil_from_length (telling begins pl t (e ∷ more)) (let all = count-append begins pl t past (e ∷ more) in omega (arith, all, one, few));
  not_ended_before = nil_from_length (telling ends pl t past) none;
  not_ended_later = nil_from_length (telling ends pl t more) (let all = count-append ends pl t past (e ∷ more) in let first = count-first ends pl t e more in let here = ap bit is in omega (arith, all, first, here, few_ends));
}
  where
    found : (x : Entry) × (telling begins pl t past ≡ x ∷ [])
    found = one_of (telling begins pl t past) one

    among : Among found.0 (telling begins pl t past)
    among = subst (Among found.0) (sym found.1) (inl refl)

-- where none tells it at the place, and whoever tells it is there, none tells it
pub none_else : (names : Note → List TaskId) (pl : Place) (t : TaskId) (es : List Entry) → telling names pl t es ≡ [] → ((x : Entry) → Among x es → has_task (names x.note) t ≡ true → same_place x.place pl ≡ true) → telling_of names t es ≡ []
none_else names pl t [] none there = refl
none_else names pl t (e ∷ es) none there = by (has_task (names e.note) t) refl (none_else names pl t es (nil_from_length (telling names pl t es) (let all = ap length none in let first = count-first names pl t e es in omega (arith, all, first))) (λ x is. there x (inr is)))
  where
    by : (b : Bool) → has_task (names e.note) t ≡ b → telling_of names t es ≡ [] → (if b then e ∷ telling_of names t es else telling_of names t es) ≡ []
    by false at rest = rest
    by true at rest = absurd (let all = ap length none in let first = count-first names pl t e es in let one : bit (tells names pl t e) ≡ 1 = (λ i. bit (there e (inl refl) at i && at i)) in omega (arith, all, first, one))

-- ---- a run in parts

pub record Parted (w : Parts) (n : ℕ) (lacks : Lacks) (past : List Entry) (e : Entry) (more : List Entry) : Type 0 where
  pub run : IsRunAfter w n lacks [] past
  pub low : e.actor < length w.posters + n
  pub made : made_by w lacks past e.actor ≡ Some e

prefix_run : (w : Parts) (n : ℕ) (lacks : Lacks) (past es fs : List Entry) → IsRunAfter w n lacks past (es ++ fs) → IsRunAfter w n lacks past es
prefix_run w n lacks past [] fs run = tt
prefix_run w n lacks past (x ∷ es) fs run = (run.0, run.1, prefix_run w n lacks (past ++ x ∷ []) es fs run.2)

behind : (w : Parts) (n : ℕ) (lacks : Lacks) (past es fs : List Entry) → IsRunAfter w n lacks past (es ++ fs) → IsRunAfter w n lacks (past ++ es) fs
behind w n lacks past [] fs run = subst (λ p. IsRunAfter w n lacks p fs) (sym (append-nil past)) run
behind w n lacks past (x ∷ es) fs run = subst (λ p. IsRunAfter w n lacks p fs) (append_assoc past (x ∷ []) es) (behind w n lacks (past ++ x ∷ []) es fs run.2)

pub parted : (w : Parts) (n : ℕ) (lacks : Lacks) (past : List Entry) (e : Entry) (more : List Entry) → IsRunAfter w n lacks [] (past ++ e ∷ more) → Parted w n lacks past e more
parted w n lacks past e more run = let rest = behind w n lacks [] past (e ∷ more) run in record { run = prefix_run w n lacks [] past (e ∷ more) run; low = rest.0; made = rest.1 }

-- each entry is of one of the actors
pub low_actors : (w : Parts) (n : ℕ) (lacks : Lacks) (past es : List Entry) → IsRunAfter w n lacks past es → (x : Entry) → Among x es → x.actor < length w.posters + n
low_actors w n lacks past [] run x is = absurd is
low_actors w n lacks past (e ∷ es) run x (inl same) = subst (λ (y : Entry). y.actor < length w.posters + n) (sym same) run.0
low_actors w n lacks past (e ∷ es) run x (inr more) = low_actors w n lacks (past ++ e ∷ []) es run.2 x more
