-- One read or write after another.
use Rattle.std.proofs.Common.{◌≡◌, ℕ, ◌+◌, ◌-◌, ◌≤◌, List, ◌++◌, length, take, drop, Option, Some, None, arith, append_assoc, length-append, length-drop}
use Rattle.std.proofs.lemmas.List.{take_all}
use Rattle.std.proofs.Math.Seq.{take-add}
use Rattle.ccr_io.specs.Bytes.{IsTakenOff, TakesAtMost, IsAdded}

pub IsTakenOff-append : (xs ys : List ℕ) (a b c : Option (List ℕ)) → IsTakenOff xs a b → IsTakenOff ys b c → IsTakenOff (xs ++ ys) a c
IsTakenOff-append xs ys None b c p q = tt
IsTakenOff-append xs ys (Some a) None c p q = absurd p
IsTakenOff-append xs ys (Some a) (Some b) None p q = absurd q
IsTakenOff-append xs ys (Some a) (Some b) (Some c) p q = grind (arith, append_assoc)

pub TakesAtMost-more : (most : ℕ) (xs ys : List ℕ) (a b c : Option (List ℕ)) → IsTakenOff xs a b → IsTakenOff ys b c → length xs + length ys ≤ most → TakesAtMost most a c
TakesAtMost-more most xs ys a b c p q fits = (xs ++ ys, omega (arith, length-append xs ys), IsTakenOff-append xs ys a b c p q)

pub IsAdded-append : (xs ys : List ℕ) (a b c : Option (List ℕ)) → IsAdded xs a b → IsAdded ys b c → IsAdded (xs ++ ys) a c
IsAdded-append xs ys a b None p q = tt
IsAdded-append xs ys a None (Some c) p q = absurd q
IsAdded-append xs ys None (Some b) (Some c) p q = absurd p
IsAdded-append xs ys (Some a) (Some b) (Some c) p q = grind (arith, append_assoc)

-- a write of the rest of the text behind what was written of it
pub IsAdded-more : (text : List ℕ) (at n : ℕ) (a b c : Option (List ℕ)) → IsAdded (take at text) a b → IsAdded (take n (take (length text - at) (drop at text))) b c → IsAdded (take (at + n) text) a c
IsAdded-more text at n a b c p q =
    let rest : take (length text - at) (drop at text) ≡ drop at text = take_all _ _ (omega (arith, length-drop at text)) in
    let more : IsAdded (take n (drop at text)) b c = rw rest at q in
    rw take-add (IsAdded-append (take at text) (take n (drop at text)) a b c p more)

pub ruleset reading = (IsTakenOff-append)
