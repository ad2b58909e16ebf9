-- An event by the words of its line.
use Rattle.std.proofs.Common.{◌≡◌, ℕ, suc, ◌<◌, true, false, List, [], ◌∷◌, length, map, Option, Some, None, inl, inr, refl, sym, ap, ◌∙◌, append-nil, arith}
use Rattle.std.specs.Prelude.{is_some, IsSome}
use Rattle.std.specs.List.{All, slice_get}
use Rattle.std.proofs.lemmas.List.{length-map}
use Rattle.std.proofs.lemmas.List.Elements.{recursion_from_All, All-nil, All-cons}
use Rattle.std.proofs.lemmas.Option.{slice_get_within}
use Rattle.ccr_base.specs.declared.names.Spot.{Spot}
use Rattle.ccr_base.specs.declared.names.Spot.TheVariants.{Branch, Site}
use Rattle.ccr_base.proofs.Booleans.{chosen}
use Rattle.ccr_wiring.specs.declared.parts.CausePart.{CausePart}
use Rattle.ccr_wiring.specs.declared.parts.Parts.{Parts}
use Rattle.ccr_wiring.specs.Valid.{IsValid}
use Rattle.ccr_wiring.specs.Wirings.{Placement, placement, placements, site_port}
use Rattle.ccr_model.specs.declared.history.Event.{Event}
use Rattle.ccr_model.specs.declared.history.Event.TheVariants as events
use Rattle.ccr_model.specs.declared.history.EndHow.{EndHow}
use Rattle.ccr_model.specs.declared.history.EndHow.TheVariants as ends
use Rattle.ccr_trace.specs.Words.{name_at, cause_names, branch_names, spot_word}
use Rattle.ccr_trace.specs.HistoryText.{event_words}
use Rattle.ccr_trace.specs.Said.{SpotName, Said, Post, Fire, Admit, Put, Start, End, said_words, spot_name_word, IsSaid, IsName, IsSite, IsEnd}
use Rattle.ccr_trace.specs.Fields.{◌>>=◌, each}
use Rattle.ccr_trace.specs.Known.{number_in, spot_at, spot_known, known, IsKnownSpot, IsKnownEnd, IsKnown, HasMessages, IsShortSpot, IsShortEnd, IsShort}
use Rattle.ccr_trace.proofs.ReadTellsSteps.{bind_some, some_is, only_one}
use Rattle.ccr_trace.proofs.Apart.{ports_apart, causes_apart, branches_apart, length-branch_names, are_formed}
use Rattle.ccr_trace.proofs.ByNumber.{name_at-number, number_in-name, name_formed}
use Rattle.ccr_trace.proofs.WordsRead.{each_read}

-- the spot with the branch's name
abbrev pub spot_said : Parts → Spot → SpotName
spot_said parts (Branch branch) = record { name = name_at (branch_names parts) branch; site = None }
spot_said parts (Site branch site) = record { name = name_at (branch_names parts) branch; site = Some site }

-- the event with names in the place of numbers
abbrev pub said_of : Parts → Event → Said
said_of parts (events.Post message) = Post message.id (name_at parts.ports message.port) message.value (map (name_at (cause_names parts)) message.causes)
said_of parts (events.Fire task spot messages cuts) = Fire task (spot_said parts spot) messages cuts
said_of parts (events.Admit task) = Admit task
said_of parts (events.Put task dropped) = Put task dropped
said_of parts (events.Start task actor) = Start task actor
said_of parts (events.End task how) = End task how

spot_words : (parts : Parts) (spot : Spot) → spot_name_word (spot_said parts spot) ≡ spot_word (branch_names parts) spot
spot_words parts (Branch branch) = append-nil (name_at (branch_names parts) branch)
spot_words parts (Site branch site) = refl

-- its line is the event's
pub words_of_said : (parts : Parts) (event : Event) → said_words (said_of parts event) ≡ event_words parts event
words_of_said parts (events.Post message) = refl
words_of_said parts (events.Fire task spot messages cuts) = rw (spot_words parts spot) refl
words_of_said parts (events.Admit task) = refl
words_of_said parts (events.Put task dropped) = refl
words_of_said parts (events.Start task actor) = refl
words_of_said parts (events.End task how) = refl

placement_within : (parts : Parts) (branch : ℕ) → IsSome (placement parts branch) → branch < length (branch_names parts)
placement_within parts branch there = by (placement parts branch) refl there
  where
    by : (found : Option Placement) → slice_get (placements parts) branch ≡ found → is_some found ≡ true → branch < length (branch_names parts)
    by None is e = absurd cc
    by (Some s) is e = omega (arith, slice_get_within (placements parts) branch s is, length-branch_names parts)

site_within : (parts : Parts) (branch site : ℕ) → IsSome (site_port parts branch site) → branch < length (branch_names parts)
site_within parts branch site there = placement_within parts branch (by (placement parts branch) refl)
  where
    by : (found : Option Placement) → placement parts branch ≡ found → is_some (placement parts branch) ≡ true
    by (Some s) is = ap is_some is
    by None is = absurd (let none : is_some (site_port parts branch site) ≡ false = rw is refl in let clash : true ≡ false = sym there ∙ none in cc)

spot_good : (parts : Parts) (spot : Spot) → IsValid parts → IsKnownSpot parts spot → IsShortSpot spot → IsName (spot_said parts spot).name × IsSite (spot_said parts spot).site
spot_good parts (Branch branch) valid there short = (name_formed (branch_names parts) branch (are_formed parts valid).branches (placement_within parts branch there), tt)
spot_good parts (Site branch site) valid there short = (name_formed (branch_names parts) branch (are_formed parts valid).branches (site_within parts branch site there), short)

count_causes : (parts : Parts) → length (cause_names parts) ≡ length parts.causes
count_causes parts = length-map parts.causes (λ (part : CausePart). part.name)

causes_good : (parts : Parts) → IsValid parts → (causes : List ℕ) → All (λ cause. cause < length parts.causes) causes → All IsName (map (name_at (cause_names parts)) causes)
causes_good parts valid [] there = All-nil IsName
causes_good parts valid (cause ∷ causes) there =
    let here = recursion_from_All (λ c. c < length parts.causes) (cause ∷ causes) there in
    All-cons IsName (name_at (cause_names parts) cause) (map (name_at (cause_names parts)) causes)
    (name_formed (cause_names parts) cause (are_formed parts valid).causes (omega (arith, here.0, count_causes parts)))
    (causes_good parts valid causes (λ k d below. there (suc k) d (omega arith)))

end_good : (parts : Parts) (how : EndHow) → IsKnownEnd parts how → IsShortEnd how → IsEnd parts.version how
end_good parts (ends.Failed value) there short = (short, there)
end_good parts ends.Done there short = tt
end_good parts ends.Yield there short = tt
end_good parts ends.Shed there short = tt

-- it may stand in a line
pub said_good : (parts : Parts) (event : Event) → IsValid parts → IsKnown parts event → HasMessages event → IsShort event → IsSaid parts.version (said_of parts event)
said_good parts (events.Post message) valid there some short =
    (short.0, name_formed parts.ports message.port (are_formed parts valid).ports there.0, (short.1, there.2), causes_good parts valid message.causes there.1)
said_good parts (events.Fire task spot messages cuts) valid there some short =
    let spot_is = spot_good parts spot valid there short.1 in
    (short.0, spot_is.0, spot_is.1, some, short.2, short.3)
said_good parts (events.Admit task) valid there some short = short
said_good parts (events.Put task dropped) valid there some short = short
said_good parts (events.Start task actor) valid there some short = short
said_good parts (events.End task how) valid there some short = (short.0, end_good parts how there short.1)

spot_again : (parts : Parts) (spot : Spot) → IsValid parts → IsKnownSpot parts spot → spot_known parts (spot_said parts spot) ≡ Some spot
unfolding spot_known
spot_again parts (Branch branch) valid there = rw (number_in-name (branch_names parts) branch (branches_apart parts valid) (placement_within parts branch there)) refl
spot_again parts (Site branch site) valid there = rw (number_in-name (branch_names parts) branch (branches_apart parts valid) (site_within parts branch site there), there) refl

causes_again : (parts : Parts) → IsValid parts → (causes : List ℕ) → All (λ cause. cause < length parts.causes) causes → each (number_in (cause_names parts)) (map (name_at (cause_names parts)) causes) ≡ Some causes
causes_again parts valid causes there =
    each_read (number_in (cause_names parts)) (name_at (cause_names parts)) (λ cause. cause < length parts.causes)
    (λ cause below. number_in-name (cause_names parts) cause (causes_apart parts valid) (omega (arith, below, count_causes parts))) causes there

-- and its names stand for these numbers
pub known_again : (parts : Parts) (event : Event) → IsValid parts → IsKnown parts event → known parts (said_of parts event) ≡ Some event
unfolding known
known_again parts (events.Post message) valid there = rw (number_in-name parts.ports message.port (ports_apart parts valid) there.0, causes_again parts valid message.causes there.1) refl
known_again parts (events.Fire task spot messages cuts) valid there = rw (spot_again parts spot valid there) refl
known_again parts (events.Admit task) valid there = refl
known_again parts (events.Put task dropped) valid there = refl
known_again parts (events.Start task actor) valid there = refl
known_again parts (events.End task how) valid there = refl

each_named : (names words : List (List ℕ)) (numbers : List ℕ) → each (number_in names) words ≡ Some numbers → map (name_at names) numbers ≡ words
unfolding each
each_named names [] numbers e = ap (map (name_at names)) (sym (some_is [] numbers e))
each_named names (word ∷ words) numbers e =
    let first = bind_some (number_in names word) _ numbers e in
    let rest = bind_some (each (number_in names) words) _ numbers first.2 in
    ap (map (name_at names)) (sym (some_is (first.0 ∷ rest.0) numbers rest.2)) ∙ rw (name_at-number names word first.0 first.1, each_named names words rest.0 rest.1) refl

spot_named : (parts : Parts) (name : List ℕ) (branch : ℕ) (site : Option ℕ) (spot : Spot) → number_in (branch_names parts) name ≡ Some branch → spot_at parts branch site ≡ Some spot → spot_word (branch_names parts) spot ≡ spot_name_word (record { name = name; site = site })
spot_named parts name branch None spot is e =
    ap (spot_word (branch_names parts)) (sym (some_is (Branch branch) spot e)) ∙ (name_at-number (branch_names parts) name branch is ∙ sym (append-nil name))
spot_named parts name branch (Some site) spot is e =
    elim (chosen (is_some (site_port parts branch site)) (Some (Site branch site)) None (Some spot) e) [
      | inl h ↦ ap (spot_word (branch_names parts)) (sym (some_is (Site branch site) spot h.1)) ∙ rw (name_at-number (branch_names parts) name branch is) refl
      | inr h ↦ absurd (let none : only_one spot ≡ None = sym h.1 in cc)
    ]

-- the event that is known of a line has this line
pub known_words : (parts : Parts) (said : Said) (event : Event) → known parts said ≡ Some event → event_words parts event ≡ said_words said
unfolding known spot_known
known_words parts (Post id port value causes) event e =
    let number = bind_some (number_in parts.ports port) _ event e in
    let numbers = bind_some (each (number_in (cause_names parts)) causes) _ event number.2 in
    ap (event_words parts) (sym (some_is (events.Post (record { id = id; port = number.0; value = value; causes = numbers.0 })) event numbers.2))
    ∙ rw (name_at-number parts.ports port number.0 number.1, each_named (cause_names parts) causes numbers.0 numbers.1) refl
known_words parts (Fire task spot messages cuts) event e =
    let found = bind_some (number_in (branch_names parts) spot.name >>= λ branch. spot_at parts branch spot.site) _ event e in
    let branch = bind_some (number_in (branch_names parts) spot.name) _ found.0 found.1 in
    ap (event_words parts) (sym (some_is (events.Fire task found.0 messages cuts) event found.2))
    ∙ rw (spot_named parts spot.name branch.0 spot.site found.0 branch.1 branch.2) refl
known_words parts (Admit task) event e = ap (event_words parts) (sym (some_is (events.Admit task) event e))
known_words parts (Put task dropped) event e = ap (event_words parts) (sym (some_is (events.Put task dropped) event e))
known_words parts (Start task actor) event e = ap (event_words parts) (sym (some_is (events.Start task actor) event e))
known_words parts (End task how) event e = ap (event_words parts) (sym (some_is (events.End task how) event e))
