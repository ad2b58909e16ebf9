-- Names in the order of their numbers.
use Rattle.std.proofs.Common.{◌≡◌, ℕ, zero, suc, ◌+◌, ◌<◌, Bool, false, cond, List, [], ◌∷◌, ◌++◌, map, length, get_or, take, Bor, refl, ap, ◌∙◌, arith, sym}
use Rattle.std.proofs.lemmas.List.{length-map}
use Rattle.std.specs.Prelude.{not, position}
use Rattle.std.specs.List.{list_any, prefix_len, position_or_len}
use Rattle.std.specs.Str.{bytes_eq}
use Rattle.ccr_wiring.specs.Names.{has_name, has_repeated}
use Rattle.ccr_trace.specs.Known.{number_in}
use Rattle.std.proofs.lemmas.Bool.{or_parts as neither}
use Rattle.ccr_base.proofs.Lists.{list_any-map}

abbrev pub seen : List (Bor (List ℕ)) → List (List ℕ)
seen keys = map (λ key. key.now) keys

other_at : (names : List (Bor (List ℕ))) (i : ℕ) (d : Bor (List ℕ)) (name : List ℕ) → i < length names → has_name (seen names) name ≡ false → bytes_eq (get_or names i d).now name ≡ false
other_at [] i d name below none = absurd (omega arith)
other_at (x ∷ names) zero d name below none = (neither (bytes_eq x.now name) (has_name (seen names) name) none).0
other_at (x ∷ names) (suc i) d name below none = other_at names i d name (omega arith) (neither (bytes_eq x.now name) (has_name (seen names) name) none).1

-- none of the names before is this one
pub fresh_at : (names : List (Bor (List ℕ))) (i : ℕ) (d : Bor (List ℕ)) → i < length names → has_repeated (seen names) ≡ false → list_any (bytes_eq (get_or names i d).now) (seen (take i names)) ≡ false
fresh_at [] i d below apart = absurd (omega arith)
fresh_at (x ∷ names) zero d below apart = refl
fresh_at (x ∷ names) (suc i) d below apart =
    let parts = neither (has_name (seen names) x.now) (has_repeated (seen names)) apart in
    let other : bytes_eq (get_or names i d).now x.now ≡ false = other_at names i d x.now (omega arith) parts.0 in
    let rest : list_any (bytes_eq (get_or names i d).now) (seen (take i names)) ≡ false = fresh_at names i d (omega arith) parts.1 in
    rw (other, rest) refl

-- a name that isn't there goes last
pub seen-insert : (keys : List (Bor (List ℕ))) (name : Bor (List ℕ)) → list_any (bytes_eq name.now) (seen keys) ≡ false
    → seen (cond (list_any (λ key. bytes_eq name.now key.now) keys) keys (keys ++ name ∷ [])) ≡ seen keys ++ name.now ∷ []
seen-insert keys name fresh = rw (sym (list_any-map (bytes_eq name.now) (λ (key : Bor (List ℕ)). key.now) keys) ∙ fresh) (pushed keys)
  where
    pushed : (ks : List (Bor (List ℕ))) → seen (ks ++ name ∷ []) ≡ seen ks ++ name.now ∷ []
    pushed [] = refl
    pushed (k ∷ ks) = ap (λ (v : List (List ℕ)). k.now ∷ v) (pushed ks)

prefix_seen : (test : List ℕ → Bool) (keys : List (Bor (List ℕ))) → prefix_len (λ key. test key.now) keys ≡ prefix_len test (seen keys)
prefix_seen test [] = refl
prefix_seen test (key ∷ keys) = ap (λ n. cond (test key.now) (1 + n) 0) (prefix_seen test keys)

-- the index among the keys is the number of the name
pub number-seen : (keys : List (Bor (List ℕ))) (word : List ℕ) → position (λ key. bytes_eq word key.now) keys ≡ number_in (seen keys) word
number-seen keys word =
    let front : position_or_len (λ key. bytes_eq word key.now) keys ≡ position_or_len (λ name. bytes_eq word name) (seen keys) = prefix_seen (λ name. not (bytes_eq word name)) keys in
    let many : length (seen keys) ≡ length keys = length-map keys (λ key. key.now) in
    rw (front, many) refl
