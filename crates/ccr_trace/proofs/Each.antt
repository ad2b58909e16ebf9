-- One word more: what is found so far, and what the words that are left say.
use Rattle.std.proofs.Common.{◌≡◌, ℕ, ◌+◌, ◌<◌, Bool, true, false, List, [], ◌∷◌, ◌++◌, length, Option, Some, None, refl, ap, ◌∙◌, subst, append_assoc, append-nil, arith}
use Rattle.std.specs.Prelude.{codes}
use Rattle.std.specs.Option.{option_map}
use Rattle.std.specs.Str.{bytes_eq}
use Rattle.ccr_base.specs.declared.names.TaskId.{TaskId}
use Rattle.ccr_base.specs.declared.names.MsgId.{MsgId}
use Rattle.ccr_base.proofs.Texts.{same_word}
use Rattle.ccr_trace.specs.Fields.{◌>>=◌, each, message_of}
use Rattle.ccr_trace.specs.Forms.{field, cuts, fired}
use Rattle.ccr_trace.proofs.ReadTellsSteps.{field_some}
use Rattle.ccr_text.specs.Fields.{Words}

-- what is found so far before the rest
abbrev pub behind_found : {A : Type 0} → List A → Option (List A) → Option (List A)
behind_found found rest = option_map (λ values. found ++ values) rest

grown : {A : Type 0} (found : List A) (value : A) (rest : Option (List A)) → behind_found found (option_map (λ values. value ∷ values) rest) ≡ behind_found (found ++ value ∷ []) rest
grown found value None = refl
grown found value (Some values) = rw (append_assoc found (value ∷ []) values) refl

mapped : {A : Type 0} (value : A) (rest : Option (List A)) → (rest >>= λ values. Some (value ∷ values)) ≡ option_map (λ values. value ∷ values) rest
mapped value None = refl
mapped value (Some values) = refl

each_next : {A : Type 0} (read : List ℕ → Option A) (word : List ℕ) (words : Words) (value : A) → read word ≡ Some value → each read (word ∷ words) ≡ option_map (λ values. value ∷ values) (each read words)
unfolding each
each_next read word words value e = rw e (mapped value (each read words))

-- the word says a value
pub each_more : {A : Type 0} (read : List ℕ → Option A) (found : List A) (word : List ℕ) (words : Words) (value : A) → read word ≡ Some value → behind_found found (each read (word ∷ words)) ≡ behind_found (found ++ value ∷ []) (each read words)
each_more read found word words value e = rw (each_next read word words value e) (grown found value (each read words))

-- the word says nothing
pub each_fails : {A : Type 0} (read : List ℕ → Option A) (found : List A) (word : List ℕ) (words : Words) → read word ≡ None → behind_found found (each read (word ∷ words)) ≡ None
unfolding each
each_fails read found word words e = rw e refl

pub each_none : {A : Type 0} (read : List ℕ → Option A) (found : List A) → behind_found found (each read []) ≡ Some found
unfolding each
each_none read found = rw append-nil refl

-- the same of messages and cuts
abbrev pub with_found : List MsgId → Option (List MsgId × List TaskId) → Option (List MsgId × List TaskId)
with_found found rest = option_map (λ r. (found ++ r.0, r.1)) rest

-- a message more
pub fired_more : (found : List MsgId) (word : List ℕ) (words : Words) (message : MsgId) → bytes_eq word (codes "cut") ≡ false → message_of word ≡ Some message → with_found found (fired (word ∷ words)) ≡ with_found (found ++ message ∷ []) (fired words)
unfolding fired
fired_more found word words message other e = rw (other, e) (of_rest (fired words))
  where
    of_rest : (rest : Option (List MsgId × List TaskId)) → with_found found (rest >>= λ r. Some (message ∷ r.0, r.1)) ≡ with_found (found ++ message ∷ []) rest
    of_rest None = refl
    of_rest (Some r) = rw (append_assoc found (message ∷ []) r.0) refl

-- no message
pub fired_fails : (found : List MsgId) (word : List ℕ) (words : Words) → bytes_eq word (codes "cut") ≡ false → message_of word ≡ None → with_found found (fired (word ∷ words)) ≡ None
unfolding fired
fired_fails found word words other e = rw (other, e) refl

-- the word cut
pub fired_cut : (found : List MsgId) (word : List ℕ) (words : Words) → bytes_eq word (codes "cut") ≡ true → with_found found (fired (word ∷ words)) ≡ option_map (λ tasks. (found, tasks)) (cuts words)
unfolding fired
fired_cut found word words same = rw same (of_cuts (cuts words))
  where
    of_cuts : (tasks : Option (List TaskId)) → with_found found (tasks >>= λ t. Some ([], t)) ≡ option_map (λ t. (found, t)) tasks
    of_cuts None = refl
    of_cuts (Some t) = rw append-nil refl

pub fired_none : (found : List MsgId) → with_found found (fired []) ≡ Some (found, [])
unfolding fired
fired_none found = rw append-nil refl

-- a word that says a message isn't the word cut
not_cut : (word : List ℕ) (message : MsgId) → message_of word ≡ Some message → bytes_eq word (codes "cut") ≡ false
unfolding message_of
not_cut word message is = by (bytes_eq word (codes "cut")) refl
  where
    by : (test : Bool) → bytes_eq word (codes "cut") ≡ test → test ≡ false
    by false e = refl
    by true e = absurd (let clash : message_of (codes "cut") ≡ Some message = subst (λ (w : List ℕ). message_of w ≡ Some message) (same_word word (codes "cut") e) is in cc)

-- a message that one scan found
pub fired_plain : (found : List MsgId) (words rest : Words) (message : MsgId) → field message_of words ≡ Some (message, rest) → with_found found (fired words) ≡ with_found (found ++ message ∷ []) (fired rest)
fired_plain found words rest message e =
    let first = field_some message_of words (message, rest) e in
    ap (λ (ws : Words). with_found found (fired ws)) first.1 ∙ fired_more found first.0 rest message (not_cut first.0 message first.2) first.2

pub fewer_left : {A : Type 0} (read : List ℕ → Option A) (words rest : Words) (x : A) → field read words ≡ Some (x, rest) → length rest < length words
fewer_left read words rest x e =
    let first = field_some read words (x, rest) e in
    rw first.1 (omega arith)

pub ruleset each_steps = (each_more, each_fails, each_none)

pub ruleset fired_steps = (fired_plain, fewer_left, fired_more, fired_fails, fired_cut, fired_none)
