-- What is known is in the wiring.
use Rattle.std.proofs.Common.{◌≡◌, ℕ, ◌<◌, List, [], ◌∷◌, length, Option, Some, None, Ok, inl, inr, refl, sym, ap, subst, arith}
use Rattle.std.specs.Prelude.{is_some, IsSome}
use Rattle.std.specs.List.{All}
use Rattle.std.proofs.lemmas.List.{length-map}
use Rattle.std.proofs.lemmas.List.Elements.{All-nil, All-cons}
use Rattle.ccr_base.specs.declared.names.Spot.{Spot}
use Rattle.ccr_base.specs.declared.names.Spot.TheVariants.{Branch, Site}
use Rattle.ccr_base.proofs.Booleans.{chosen}
use Rattle.ccr_base.proofs.Options.{get-some}
use Rattle.ccr_wiring.specs.declared.parts.CausePart.{CausePart}
use Rattle.ccr_wiring.specs.declared.parts.Parts.{Parts}
use Rattle.ccr_wiring.specs.Wirings.{placement, placements, site_port}
use Rattle.ccr_model.specs.declared.history.Event.{Event}
use Rattle.ccr_model.specs.declared.history.Event.TheVariants as events
use Rattle.ccr_model.specs.declared.history.EndHow.{EndHow}
use Rattle.ccr_model.specs.declared.history.EndHow.TheVariants as ends
use Rattle.ccr_trace.specs.Words.{cause_names, branch_names}
use Rattle.ccr_trace.specs.Said.{Said, Post, Fire, Admit, Put, Start, End, IsSaid, IsEnd}
use Rattle.ccr_trace.specs.Fields.{◌>>=◌, each}
use Rattle.ccr_trace.specs.Forms.{said_on}
use Rattle.ccr_text.specs.Fields.{Words}
use Rattle.ccr_text.proofs.Steps.{or_code_ok}
use Rattle.ccr_trace.specs.Known.{number_in, spot_at, spot_known, known, IsKnownSpot, IsKnownEnd, IsKnown, HasMessages}
use Rattle.ccr_trace.specs.Reading.{event_of, event_on}
use Rattle.ccr_trace.proofs.ReadTellsSteps.{bind_some, some_is, only_one}
use Rattle.ccr_trace.proofs.Apart.{length-branch_names}
use Rattle.ccr_trace.proofs.FormsSaid.{line_told}
use Rattle.ccr_trace.proofs.ByNumber.{index_of, number_of_index}

pub number_within : (names : List (List ℕ)) (word : List ℕ) (n : ℕ) → number_in names word ≡ Some n → n < length names
number_within names word n e = let at = number_of_index (index_of names word) (length names) n e in let same = at.0 in let low = at.1 in omega (arith, same, low)

-- each word that is read is good
each_good : {A : Type 0} (read : List ℕ → Option A) (Good : A → Type 0) → ((w : List ℕ) (x : A) → read w ≡ Some x → Good x) → (words : Words) (values : List A) → each read words ≡ Some values → All Good values
unfolding each
each_good read Good good [] values e = subst (λ (v : List _). All Good v) (some_is [] values e) (All-nil Good)
each_good read Good good (w ∷ words) values e =
    let first = bind_some (read w) _ values e in
    let rest = bind_some (each read words) _ values first.2 in
    subst (λ (v : List _). All Good v) (some_is (first.0 ∷ rest.0) values rest.2) (All-cons Good first.0 rest.0 (good w first.0 first.1) (each_good read Good good words rest.0 rest.1))

placement_there : (parts : Parts) (branch : ℕ) → branch < length (placements parts) → IsSome (placement parts branch)
placement_there parts branch below = ap is_some (get-some (placements parts) branch below).1

spot_there : (parts : Parts) (branch : ℕ) (site : Option ℕ) (spot : Spot) → branch < length (placements parts) → spot_at parts branch site ≡ Some spot → IsKnownSpot parts spot
spot_there parts branch None spot below e = subst (λ (s : Spot). IsKnownSpot parts s) (some_is (Branch branch) spot e) (placement_there parts branch below)
spot_there parts branch (Some site) spot below e =
    elim (chosen (is_some (site_port parts branch site)) (Some (Site branch site)) None (Some spot) e) [
      | inl h ↦ subst (λ (s : Spot). IsKnownSpot parts s) (some_is (Site branch site) spot h.1) h.0
      | inr h ↦ absurd (let none : only_one spot ≡ None = sym h.1 in cc)
    ]

end_known : (parts : Parts) (how : EndHow) → IsEnd parts.version how → IsKnownEnd parts how
end_known parts (ends.Failed value) good = good.1
end_known parts ends.Done good = tt
end_known parts ends.Yield good = tt
end_known parts ends.Shed good = tt

pub known_is : (parts : Parts) (said : Said) (event : Event) → IsSaid parts.version said → known parts said ≡ Some event → IsKnown parts event
unfolding known spot_known
known_is parts (Post id port value causes) event good e =
    let number = bind_some (number_in parts.ports port) _ event e in
    let numbers = bind_some (each (number_in (cause_names parts)) causes) _ event number.2 in
    let few : length (cause_names parts) ≡ length parts.causes = length-map parts.causes (λ (part : CausePart). part.name) in
    subst (λ (v : Event). IsKnown parts v) (some_is (events.Post (record { id = id; port = number.0; value = value; causes = numbers.0 })) event numbers.2)
    (number_within parts.ports port number.0 number.1, each_good (number_in (cause_names parts)) (λ n. n < length parts.causes) (λ w n is. omega (arith, number_within (cause_names parts) w n is, few)) causes numbers.0 numbers.1, good.2.1)
known_is parts (Fire task spot messages cuts) event good e =
    let found = bind_some (number_in (branch_names parts) spot.name >>= λ branch. spot_at parts branch spot.site) _ event e in
    let branch = bind_some (number_in (branch_names parts) spot.name) _ found.0 found.1 in
    let below : branch.0 < length (placements parts) = omega (arith, number_within (branch_names parts) spot.name branch.0 branch.1, length-branch_names parts) in
    subst (λ (v : Event). IsKnown parts v) (some_is (events.Fire task found.0 messages cuts) event found.2) (spot_there parts branch.0 spot.site found.0 below branch.2)
known_is parts (Admit task) event good e = subst (λ (v : Event). IsKnown parts v) (some_is (events.Admit task) event e) tt
known_is parts (Put task dropped) event good e = subst (λ (v : Event). IsKnown parts v) (some_is (events.Put task dropped) event e) tt
known_is parts (Start task actor) event good e = subst (λ (v : Event). IsKnown parts v) (some_is (events.Start task actor) event e) tt
known_is parts (End task how) event good e = subst (λ (v : Event). IsKnown parts v) (some_is (events.End task how) event e) (end_known parts how good.1)

has_messages : (parts : Parts) (said : Said) (event : Event) → IsSaid parts.version said → known parts said ≡ Some event → HasMessages event
unfolding known
has_messages parts (Post id port value causes) event good e =
    let number = bind_some (number_in parts.ports port) _ event e in
    let numbers = bind_some (each (number_in (cause_names parts)) causes) _ event number.2 in
    subst (λ (v : Event). HasMessages v) (some_is (events.Post (record { id = id; port = number.0; value = value; causes = numbers.0 })) event numbers.2) tt
has_messages parts (Fire task spot messages cuts) event good e =
    let found = bind_some (spot_known parts spot) _ event e in
    subst (λ (v : Event). HasMessages v) (some_is (events.Fire task found.0 messages cuts) event found.2) good.3
has_messages parts (Admit task) event good e = subst (λ (v : Event). HasMessages v) (some_is (events.Admit task) event e) tt
has_messages parts (Put task dropped) event good e = subst (λ (v : Event). HasMessages v) (some_is (events.Put task dropped) event e) tt
has_messages parts (Start task actor) event good e = subst (λ (v : Event). HasMessages v) (some_is (events.Start task actor) event e) tt
has_messages parts (End task how) event good e = subst (λ (v : Event). HasMessages v) (some_is (events.End task how) event e) tt

-- what the event's line says
pub event_said : (parts : Parts) (line : List ℕ) (event : Event) → event_on parts line ≡ Ok event → (said : Said) × (said_on parts.version line ≡ Some said) × (known parts said ≡ Some event)
event_said parts line event e = by (said_on parts.version line) refl e
  where
    by : (o : Option Said) → said_on parts.version line ≡ o → event_of parts o ≡ Ok event → (said : Said) × (said_on parts.version line ≡ Some said) × (known parts said ≡ Some event)
    by None is e' = absurd cc
    by (Some said) is e' = (said, is, or_code_ok (known parts said) 2 event e')

pub event_is_known : (parts : Parts) (line : List ℕ) (event : Event) → event_on parts line ≡ Ok event → IsKnown parts event
event_is_known parts line event e =
    let said = event_said parts line event e in
    known_is parts said.0 event (line_told parts.version line said.0 said.1).0 said.2

pub event_has_messages : (parts : Parts) (line : List ℕ) (event : Event) → event_on parts line ≡ Ok event → HasMessages event
event_has_messages parts line event e =
    let said = event_said parts line event e in
    has_messages parts said.0 event (line_told parts.version line said.0 said.1).0 said.2
