-- A word says only what it spells.
use Rattle.std.proofs.Common.{◌≡◌, ℕ, ◌^◌, ◌<◌, true, false, cond, List, [], ◌∷◌, ◌++◌, length, map, Option, Some, None, ◌⊎◌, inl, inr, refl, sym, ap, subst, ◌∙◌, append_assoc, append-nil}
use Rattle.std.specs.Prelude.{◌==◌, decimal}
use Rattle.std.specs.List.{join_with_byte, All}
use Rattle.std.proofs.lemmas.List.Elements.{All-nil, All-cons}
use Rattle.std.proofs.lemmas.List.Splits.{join_with_byte-slice_split}
use Rattle.ccr_base.specs.declared.names.TaskId.{TaskId}
use Rattle.ccr_base.specs.declared.names.MsgId.{MsgId}
use Rattle.ccr_base.specs.declared.names.MsgId.TheVariants as ids
use Rattle.ccr_base.proofs.Booleans.{same_number, chosen}
use Rattle.ccr_text.specs.Words.{number_of, is_name_of}
use Rattle.ccr_trace.specs.Words.{task_word, message_word}
use Rattle.ccr_text.specs.Exact.{value_word}
use Rattle.ccr_trace.specs.Pieces.{pieces}
use Rattle.ccr_trace.specs.Said.{SpotName, spot_name_word, most_numbers, IsTask, IsMessage, IsName, IsSite, IsValue}
use Rattle.ccr_trace.specs.Fields.{each, where_spelled, where_short, where_few, exact_number, short_number, value_of, name_of, task_in, task_of, script_in, task_message_in, message_of, spot_with, spot_in, spot_of}
use Rattle.ccr_trace.proofs.ReadTellsSteps.{bind_some, some_is, only_one, spelled_is, short_is, few_is, some_pieces}
use Rattle.ccr_text.specs.Fields.{Words}
use Rattle.ccr_text.proofs.Exact.{number_is}

number_fits : (w : List ℕ) (n : ℕ) → number_of w ≡ Some n → n < 2 ^ 64
number_fits w n e = (number_is w n e).2

-- a number below 2 ^ 64
pub number_said : (w : List ℕ) (n : ℕ) → exact_number w ≡ Some n → (n < 2 ^ 64) × (decimal n ≡ w)
unfolding exact_number
number_said w n e =
    let found = bind_some (number_of w) (where_spelled w) n e in
    let is = spelled_is w found.0 n found.2 in
    (number_fits w n (found.1 ∙ ap only_one is.0), is.1)

-- a number below 2 ^ 32
pub short_said : (w : List ℕ) (n : ℕ) → short_number w ≡ Some n → (n < 2 ^ 32) × (decimal n ≡ w)
unfolding short_number
short_said w n e =
    let found = bind_some (exact_number w) where_short n e in
    let is = short_is found.0 n found.2 in
    (is.1, ap decimal (sym is.0) ∙ (number_said w found.0 found.1).1)

-- the numbers, joined again
joined_of : (separator : ℕ) (bytes : List ℕ) (parts : List (List ℕ)) → pieces separator bytes ≡ parts → join_with_byte separator parts ≡ bytes
joined_of separator bytes parts e = ap (join_with_byte separator) (sym e) ∙ join_with_byte-slice_split separator bytes

task_parts : (numbers : List ℕ) (parts : List (List ℕ)) (task : TaskId) → pieces 46 numbers ≡ parts → task_in parts ≡ Some task → IsTask task × (decimal task.actor ++ 46 ∷ decimal task.attempt ≡ numbers)
task_parts numbers [] task is e = absurd cc
task_parts numbers (a ∷ []) task is e = absurd cc
task_parts numbers (a ∷ k ∷ []) task is e =
    let actor = bind_some (short_number a) _ task e in
    let attempt = bind_some (short_number k) _ task actor.2 in
    let same = some_is (record { actor = actor.0; attempt = attempt.0 }) task attempt.2 in
    let first = short_said a actor.0 actor.1 in
    let second = short_said k attempt.0 attempt.1 in
    subst (λ (t : TaskId). IsTask t × (decimal t.actor ++ 46 ∷ decimal t.attempt ≡ numbers)) same
    ((first.0, second.0), rw (first.1, second.1) (joined_of 46 numbers (a ∷ k ∷ []) is))
task_parts numbers (a ∷ k ∷ i ∷ more) task is e = absurd cc

-- tA.K
pub task_said : (w : List ℕ) (task : TaskId) → task_of w ≡ Some task → IsTask task × (task_word task ≡ w)
unfolding task_of
task_said [] task e = absurd cc
task_said (b ∷ numbers) task e = by (chosen (b == 116) (task_in (pieces 46 numbers)) None (Some task) e)
  where
    by : (((b == 116) ≡ true) × (task_in (pieces 46 numbers) ≡ Some task)) ⊎ (((b == 116) ≡ false) × (None ≡ Some task)) → IsTask task × (task_word task ≡ b ∷ numbers)
    by (inl h) =
        let parts = task_parts numbers (pieces 46 numbers) task refl h.1 in
        let first : b ≡ 116 = same_number b 116 h.0 in
        (parts.0, rw first (ap (λ (v : List ℕ). 116 ∷ v) parts.1))
    by (inr h) = absurd cc

script_parts : (numbers : List ℕ) (parts : List (List ℕ)) (message : MsgId) → pieces 46 numbers ≡ parts → script_in parts ≡ Some message → IsMessage message × (message_word message ≡ 115 ∷ numbers)
script_parts numbers [] message is e = absurd cc
script_parts numbers (a ∷ []) message is e = absurd cc
script_parts numbers (a ∷ k ∷ []) message is e =
    let actor = bind_some (short_number a) _ message e in
    let place = bind_some (short_number k) _ message actor.2 in
    let same = some_is (ids.Script actor.0 place.0) message place.2 in
    let first = short_said a actor.0 actor.1 in
    let second = short_said k place.0 place.1 in
    subst (λ (m : MsgId). IsMessage m × (message_word m ≡ 115 ∷ numbers)) same
    ((first.0, second.0), rw (first.1, second.1) (ap (λ (v : List ℕ). 115 ∷ v) (joined_of 46 numbers (a ∷ k ∷ []) is)))
script_parts numbers (a ∷ k ∷ i ∷ more) message is e = absurd cc

task_message_parts : (numbers : List ℕ) (parts : List (List ℕ)) (message : MsgId) → pieces 46 numbers ≡ parts → task_message_in parts ≡ Some message → IsMessage message × (message_word message ≡ 116 ∷ numbers)
task_message_parts numbers [] message is e = absurd cc
task_message_parts numbers (a ∷ []) message is e = absurd cc
task_message_parts numbers (a ∷ k ∷ []) message is e = absurd cc
task_message_parts numbers (a ∷ k ∷ i ∷ []) message is e =
    let actor = bind_some (short_number a) _ message e in
    let attempt = bind_some (short_number k) _ message actor.2 in
    let place = bind_some (short_number i) _ message attempt.2 in
    let same = some_is (ids.Task (record { actor = actor.0; attempt = attempt.0 }) place.0) message place.2 in
    let first = short_said a actor.0 actor.1 in
    let second = short_said k attempt.0 attempt.1 in
    let third = short_said i place.0 place.1 in
    subst (λ (m : MsgId). IsMessage m × (message_word m ≡ 116 ∷ numbers)) same
    (((first.0, second.0), third.0), rw (first.1, second.1, third.1) (ap (λ (v : List ℕ). 116 ∷ v) (append_assoc a (46 ∷ k) (46 ∷ i) ∙ joined_of 46 numbers (a ∷ k ∷ i ∷ []) is)))
task_message_parts numbers (a ∷ k ∷ i ∷ j ∷ more) message is e = absurd cc

-- sA.K or tA.K.I
pub message_said : (w : List ℕ) (message : MsgId) → message_of w ≡ Some message → IsMessage message × (message_word message ≡ w)
unfolding message_of
message_said [] message e = absurd cc
message_said (b ∷ numbers) message e = by (chosen (b == 115) (script_in (pieces 46 numbers)) _ (Some message) e)
  where
    other : (((b == 116) ≡ true) × (task_message_in (pieces 46 numbers) ≡ Some message)) ⊎ (((b == 116) ≡ false) × (None ≡ Some message)) → IsMessage message × (message_word message ≡ b ∷ numbers)
    other (inl h) = let first : b ≡ 116 = same_number b 116 h.0 in rw first (task_message_parts numbers (pieces 46 numbers) message refl h.1)
    other (inr h) = absurd cc

    by : (((b == 115) ≡ true) × (script_in (pieces 46 numbers) ≡ Some message)) ⊎ (((b == 115) ≡ false) × (cond (b == 116) (task_message_in (pieces 46 numbers)) None ≡ Some message)) → IsMessage message × (message_word message ≡ b ∷ numbers)
    by (inl h) = let first : b ≡ 115 = same_number b 115 h.0 in rw first (script_parts numbers (pieces 46 numbers) message refl h.1)
    by (inr h) = other (chosen (b == 116) (task_message_in (pieces 46 numbers)) None (Some message) h.1)

-- a name
pub name_said : (w name : List ℕ) → name_of w ≡ Some name → IsName name × (name ≡ w)
name_said w name e = by (chosen (is_name_of w) (Some w) None (Some name) e)
  where
    by : ((is_name_of w ≡ true) × (Some w ≡ Some name)) ⊎ ((is_name_of w ≡ false) × (None ≡ Some name)) → IsName name × (name ≡ w)
    by (inl h) = let same : name ≡ w = sym (some_is w name h.1) in (rw same h.0, same)
    by (inr h) = absurd cc

with_said : (w : List ℕ) (site : Option ℕ) (spot : SpotName) → spot_with w site ≡ Some spot → IsName w × (record { name = w; site = site } ≡ spot)
with_said w site spot e = by (chosen (is_name_of w) (Some (record { name = w; site = site })) None (Some spot) e)
  where
    by : ((is_name_of w ≡ true) × (Some (record { name = w; site = site }) ≡ Some spot)) ⊎ ((is_name_of w ≡ false) × (None ≡ Some spot)) → IsName w × (record { name = w; site = site } ≡ spot)
    by (inl h) = (h.0, some_is (record { name = w; site = site }) spot h.1)
    by (inr h) = absurd cc

abbrev IsSpot : List ℕ → SpotName → Type 0
IsSpot w spot = IsName spot.name × IsSite spot.site × (spot_name_word spot ≡ w)

spot_parts : (w : List ℕ) (parts : List (List ℕ)) (spot : SpotName) → pieces 64 w ≡ parts → spot_in parts ≡ Some spot → IsSpot w spot
spot_parts w [] spot is e = absurd cc
spot_parts w (name ∷ []) spot is e =
    let found = with_said name None spot e in
    subst (λ (s : SpotName). IsSpot w s) found.1 (found.0, tt, append-nil name ∙ joined_of 64 w (name ∷ []) is)
spot_parts w (name ∷ site ∷ []) spot is e =
    let number = bind_some (short_number site) _ spot e in
    let digits = short_said site number.0 number.1 in
    let found = with_said name (Some number.0) spot number.2 in
    subst (λ (s : SpotName). IsSpot w s) found.1 (found.0, digits.0, rw digits.1 (joined_of 64 w (name ∷ site ∷ []) is))
spot_parts w (name ∷ site ∷ more ∷ others) spot is e = absurd cc

-- a name, or NAME@K
pub spot_said : (w : List ℕ) (spot : SpotName) → spot_of w ≡ Some spot → IsSpot w spot
unfolding spot_of
spot_said w spot e = spot_parts w (pieces 64 w) spot refl e

-- each word says only what it spells
pub each_said : {A : Type 0} (read : List ℕ → Option A) (spell : A → List ℕ) (Good : A → Type 0) → ((w : List ℕ) (x : A) → read w ≡ Some x → Good x × (spell x ≡ w))
    → (words : Words) (values : List A) → each read words ≡ Some values → All Good values × (map spell values ≡ words)
unfolding each
each_said read spell Good said [] values e = let same = some_is [] values e in subst (λ (v : List _). All Good v × (map spell v ≡ [])) same (All-nil Good, refl)
each_said read spell Good said (w ∷ words) values e =
    let first = bind_some (read w) _ values e in
    let rest = bind_some (each read words) _ values first.2 in
    let same = some_is (first.0 ∷ rest.0) values rest.2 in
    let one = said w first.0 first.1 in
    let more = each_said read spell Good said words rest.0 rest.1 in
    subst (λ (v : List _). All Good v × (map spell v ≡ w ∷ words)) same (All-cons Good first.0 rest.0 one.0 more.0, rw (one.1, more.1) refl)

-- numbers joined by commas
pub value_said : (version : ℕ) (w : List ℕ) (value : List ℕ) → value_of version w ≡ Some value → IsValue version value × (value_word value ≡ w)
unfolding value_of
value_said version w value e =
    let found = bind_some (each exact_number (pieces 44 w)) (where_few (most_numbers version)) value e in
    let few = few_is (most_numbers version) found.0 value found.2 in
    let said = each_said exact_number decimal (λ n. n < 2 ^ 64) number_said (pieces 44 w) found.0 found.1 in
    let some : 0 < length found.0 = some_pieces 44 w found.0 decimal said.1 in
    subst (λ (v : List ℕ). IsValue version v × (value_word v ≡ w)) few.0
    (((some, said.0), few.1), joined_of 44 w (map decimal found.0) (sym said.1))
