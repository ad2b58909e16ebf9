-- The canonical text of a valid wiring says that wiring.
use Rattle.std.proofs.Common.{◌≡◌, ℕ, ◌+◌, ◌≤◌, Bool, true, false, List, [], ◌∷◌, ◌++◌, map, Some, Ok, inr, refl, sym, ap, subst, ◌∙◌, arith}
use Rattle.std.specs.Prelude.{◌==◌, ◌&&◌, not, codes, decimal, flat_map}
use Rattle.std.proofs.lemmas.Bool.Decides.{nat_tests}
use Rattle.std.proofs.lemmas.List.{map-id}
use Rattle.ccr_text.specs.Lines.{lines_of}
use Rattle.ccr_text.specs.Spelling.{AreWords, AreLines as AreClean, text_of, spelled_lines}
use Rattle.ccr_text.specs.Fields.{Words}
use Rattle.ccr_text.proofs.Digits.{AreReadAgain}
use Rattle.ccr_wiring.specs.declared.parts.Parts.{Parts}
use Rattle.ccr_wiring.specs.Openness.{is_closed}
use Rattle.ccr_wiring.proofs.Closed.{shut_is}
use Rattle.ccr_wiring.specs.declared.parts.QueuePart.{QueuePart}
use Rattle.ccr_wiring.specs.declared.parts.SetPart.{SetPart}
use Rattle.ccr_wiring.specs.declared.parts.CausePart.{CausePart}
use Rattle.ccr_wiring.specs.declared.parts.HandlerPart.{HandlerPart}
use Rattle.ccr_wiring.specs.declared.parts.BranchPart.{BranchPart}
use Rattle.ccr_wiring.specs.declared.parts.ArbiterPart.{ArbiterPart}
use Rattle.ccr_wiring.specs.declared.parts.PosterPart.{PosterPart}
use Rattle.ccr_wiring.specs.declared.parts.Kind.{Kind}
use Rattle.ccr_wiring.specs.declared.parts.Kind.TheVariants as arbiters
use Rattle.ccr_wiring.specs.Names.{arbiter_names, declared_names}
use Rattle.ccr_wiring.specs.Spots.{named_ports}
use Rattle.ccr_wiring.specs.Valid.{IsValid}
use Rattle.ccr_wiring.proofs.Validity.{NoCodes, no_codes}
use Rattle.ccr_wiretext.specs.declared.keyword.Keyword.TheVariants as keywords
use Rattle.ccr_wiretext.specs.declared.named.Named.TheVariants as kinds
use Rattle.ccr_wiretext.specs.Keywords.{keyword}
use Rattle.ccr_wiretext.specs.Names.{Naming}
use Rattle.ccr_wiretext.specs.Drafts.{Declared, nothing, with_budget}
use Rattle.ccr_wiretext.specs.Reading.{version_of, reading_text}
use Rattle.ccr_wiretext.specs.Lines.{AreHeadedLines, IsText}
use Rattle.ccr_wiretext.specs.Spelling.{version_words, combine_words, budget_words, queue_words, port_words, set_words, cause_words, handler_lines, arbiter_lines, poster_lines, queue_lines, port_lines, acting_lines, canonical_lines, spelling}
use Rattle.ccr_wiretext.specs.Values.{IsValued}
use Rattle.ccr_wiretext.proofs.TextsRead.{text_read}
use Rattle.ccr_wiretext.proofs.Sound.{Counts, Fits}
use Rattle.ccr_wiretext.proofs.Round.Leads.{outside, IsStep, Leads, leads_on, leads_say, leads_clean}
use Rattle.ccr_wiretext.proofs.Round.Namings.{Good, names_of, names_append, names_entries, good_front}
use Rattle.ccr_wiretext.proofs.Round.Terms.{word_more, number_word, within_says}
use Rattle.ccr_wiretext.proofs.Round.Known.{queue_entries, port_entries, set_entries, cause_entries, handler_entries, ports_known, queues_known, causes_known, handlers_known, ports_stay, queues_stay, causes_stay}
use Rattle.ccr_wiretext.proofs.Round.Sources.{queues_lead, ports_lead, sets_lead, causes_lead}
use Rattle.ccr_wiretext.proofs.Round.Handling.{handlers_lead}
use Rattle.ccr_wiretext.proofs.Round.Shapes.{KnowsAll}
use Rattle.ccr_wiretext.proofs.Round.Firing.{arbiter_entries}
use Rattle.ccr_wiretext.proofs.Round.Arbiters.{firing_entries, arbiters_lead}
use Rattle.ccr_wiretext.proofs.Round.Combining.{interleaves_known, domains_lead}
use Rattle.ccr_wiretext.proofs.Round.Posting.{poster_entries, posters_lead}
use Rattle.ccr_wiretext.proofs.Round.Fitting.{valid_counts, valid_fits, valid_names, valid_fine}

-- ---- the names, kind by kind

abbrev to_queues : Parts → Naming
to_queues w = [] ++ queue_entries w.queues

abbrev to_ports : Parts → Naming
to_ports w = to_queues w ++ port_entries w.ports

abbrev to_sets : Parts → Naming
to_sets w = to_ports w ++ set_entries w.sets

abbrev to_causes : Parts → Naming
to_causes w = to_sets w ++ cause_entries w.causes

abbrev to_handlers : Parts → Naming
to_handlers w = to_causes w ++ handler_entries w.handlers

abbrev to_arbiters : Parts → Naming
to_arbiters w = to_handlers w ++ firing_entries 0 w.arbiters

abbrev to_posters : Parts → Naming
to_posters w = to_arbiters w ++ poster_entries w.posters

arbiter_called : (number : ℕ) (name : List ℕ) (kind : Kind) (branches : List BranchPart) → names_of (arbiter_entries number (record { name = name; kind = kind; branches = branches })) ≡ arbiter_names (record { name = name; kind = kind; branches = branches })
arbiter_called number name arbiters.Receive branches = refl
arbiter_called number name arbiters.Choice branches = ap (λ (v : List (List ℕ)). name ∷ v) (names_entries (λ (branch : BranchPart). branch.name) (λ n. kinds.Branch) 0 branches)
arbiter_called number name arbiters.Interleave branches = ap (λ (v : List (List ℕ)). name ∷ v) (names_entries (λ (branch : BranchPart). branch.name) (λ n. kinds.Branch) 0 branches)

firing_called : (number : ℕ) (parts : List ArbiterPart) → names_of (firing_entries number parts) ≡ flat_map arbiter_names parts
firing_called number [] = refl
firing_called number (part ∷ parts) =
    names_append (arbiter_entries number part) (firing_entries (number + 1) parts) ∙ ap (λ (v : List (List ℕ)). v ++ names_of (firing_entries (number + 1) parts)) (arbiter_called number part.name part.kind part.branches)
    ∙ ap (λ (v : List (List ℕ)). arbiter_names part ++ v) (firing_called (number + 1) parts)

-- a kind more
called_more : (front more : Naming) (names some : List (List ℕ)) → names_of front ≡ names → names_of more ≡ some → names_of (front ++ more) ≡ names ++ some
called_more front more names some first second = names_append front more ∙ rw (first, second) refl

all_called : (w : Parts) → names_of (to_posters w) ≡ declared_names w
all_called w =
    let queues = names_entries (λ (part : QueuePart). part.name) kinds.Queue 0 w.queues in
    let ports = called_more (to_queues w) (port_entries w.ports) _ w.ports queues (names_entries (λ (name : List ℕ). name) kinds.Port 0 w.ports ∙ map-id w.ports) in
    let sets = called_more (to_ports w) (set_entries w.sets) _ _ ports (names_entries (λ (part : SetPart). part.name) kinds.Set 0 w.sets) in
    let causes = called_more (to_sets w) (cause_entries w.causes) _ _ sets (names_entries (λ (part : CausePart). part.name) kinds.Cause 0 w.causes) in
    let handlers = called_more (to_causes w) (handler_entries w.handlers) _ _ causes (names_entries (λ (part : HandlerPart). part.name) kinds.Handler 0 w.handlers) in
    let firings = called_more (to_handlers w) (firing_entries 0 w.arbiters) _ _ handlers (firing_called 0 w.arbiters) in
    called_more (to_arbiters w) (poster_entries w.posters) _ _ firings (names_entries (λ (part : PosterPart). part.name) (λ n. kinds.Poster) 0 w.posters)

-- good names up to a kind
good_to : (front more : Naming) → Good (names_of (front ++ more)) → Good (names_of front)
good_to front more good = good_front (names_of front) (names_of more) (subst Good (names_append front more) good)

-- ---- the lines

-- what each kind leads to
abbrev some_parts : Parts → Parts
some_parts w = record { version = w.version; budget = w.budget; queues = []; ports = []; sets = []; causes = []; handlers = []; arbiters = []; domains = []; posters = []; open_posters = []; open_handlers = [] }

abbrev with_queues : Parts → Parts
with_queues w = record (some_parts w) { queues = w.queues }

abbrev with_ports : Parts → Parts
with_ports w = record (with_queues w) { ports = w.ports }

abbrev with_sets : Parts → Parts
with_sets w = record (with_ports w) { sets = w.sets }

abbrev with_causes : Parts → Parts
with_causes w = record (with_sets w) { causes = w.causes }

abbrev with_handlers : Parts → Parts
with_handlers w = record (with_causes w) { handlers = w.handlers }

abbrev with_arbiters : Parts → Parts
with_arbiters w = record (with_handlers w) { arbiters = w.arbiters }

abbrev with_domains : Parts → Parts
with_domains w = record (with_arbiters w) { domains = w.domains }

abbrev with_posters : Parts → Parts
with_posters w = record w { open_posters = []; open_handlers = [] }

budget_step : AreReadAgain → (version n : ℕ) → n ≤ 10000 → IsStep (nothing version) (budget_words n) (with_budget (nothing version) n)
unfolding keyword
budget_step again version n few = record {
  first = codes "budget";
  others = decimal n ∷ [];
  word = keywords.Budget;
  spelled = refl;
  keyed = refl;
  plain = refl;
  clean = word_more (codes "budget") (decimal n ∷ []) (refl, refl) (word_more (decimal n) [] (number_word again n (omega arith)) tt);
  says = (n, record { once = refl; digits = decimal n; spelled = refl; within = within_says again 0 10000 n (omega arith) few (omega arith) }, refl);
}

-- the budget and the queues
abbrev first_lines : Parts → List Words
first_lines w = budget_words w.budget ∷ map queue_words w.queues

-- what they refer to
abbrev second_lines : Parts → List Words
second_lines w = map port_words w.ports ++ map (set_words w) w.sets ++ map (cause_words w) w.causes

-- what acts
abbrev third_lines : Parts → List Words
third_lines w = flat_map (handler_lines w) w.handlers ++ flat_map (arbiter_lines w) w.arbiters ++ map (combine_words w) w.domains ++ flat_map (poster_lines w) w.posters

-- the names are good, kind by kind
record Goods (w : Parts) : Type 0 where
  queues : Good (names_of (to_queues w))
  ports : Good (names_of (to_ports w))
  sets : Good (names_of (to_sets w))
  causes : Good (names_of (to_causes w))
  handlers : Good (names_of (to_handlers w))
  arbiters : Good (names_of (to_arbiters w))
  posters : Good (names_of (to_posters w))

goods : (w : Parts) → NoCodes w → Goods w
goods w none =
    let posters : Good (names_of (to_posters w)) = subst Good (sym (all_called w)) (valid_names w none) in
    let arbiters = good_to (to_arbiters w) (poster_entries w.posters) posters in
    let handlers = good_to (to_handlers w) (firing_entries 0 w.arbiters) arbiters in
    let causes = good_to (to_causes w) (handler_entries w.handlers) handlers in
    let sets = good_to (to_sets w) (cause_entries w.causes) causes in
    let ports = good_to (to_ports w) (set_entries w.sets) sets in
    let queues = good_to (to_queues w) (port_entries w.ports) ports in
    record { queues = queues; ports = ports; sets = sets; causes = causes; handlers = handlers; arbiters = arbiters; posters = posters }

firsts_lead : AreReadAgain → (w : Parts) → Counts w → Fits w → Goods w → Leads (nothing w.version) (first_lines w) (outside (with_queues w) (to_queues w) [])
firsts_lead again w counts fits good =
    (with_budget (nothing w.version) w.budget, budget_step again w.version w.budget counts.budget, queues_lead again (some_parts w) [] w.queues fits.queues counts.queues good.queues)

seconds_lead : (w : Parts) → Counts w → Fits w → Goods w → Leads (outside (with_queues w) (to_queues w) []) (second_lines w) (outside (with_causes w) (to_causes w) [])
seconds_lead w counts fits good =
    let known = ports_known w (to_queues w) good.ports in
    leads_on (outside (with_queues w) (to_queues w) []) (outside (with_sets w) (to_sets w) []) (outside (with_causes w) (to_causes w) []) (map port_words w.ports ++ map (set_words w) w.sets) (map (cause_words w) w.causes)
    (leads_on (outside (with_queues w) (to_queues w) []) (outside (with_ports w) (to_ports w) []) (outside (with_sets w) (to_sets w) []) (map port_words w.ports) (map (set_words w) w.sets)
    (ports_lead (with_queues w) (to_queues w) w.ports counts.ports good.ports)
    (sets_lead w (with_ports w) (to_ports w) w.sets known fits.sets counts.sets good.sets))
    (causes_lead w (with_sets w) (to_sets w) w.causes (ports_stay w (to_ports w) (set_entries w.sets) known) fits.causes counts.causes good.causes)

thirds_lead : AreReadAgain → (w : Parts) → NoCodes w → IsValued w → Counts w → Fits w → Goods w → Leads (outside (with_causes w) (to_causes w) []) (third_lines w) (outside (with_posters w) (to_posters w) (named_ports w))
thirds_lead again w none valued counts fits good =
    let ports = ports_stay w (to_sets w) (cause_entries w.causes) (ports_stay w (to_ports w) (set_entries w.sets) (ports_known w (to_queues w) good.ports)) in
    let causes = causes_known w (to_sets w) good.causes in
    let queues = queues_stay w (to_sets w) (cause_entries w.causes) (queues_stay w (to_ports w) (set_entries w.sets) (queues_stay w (to_queues w) (port_entries w.ports) (queues_known w [] good.queues))) in
    let ports_then = ports_stay w (to_causes w) (handler_entries w.handlers) ports in
    let causes_then = causes_stay w (to_causes w) (handler_entries w.handlers) causes in
    let knows : KnowsAll w (to_handlers w) =
    record { queues = queues_stay w (to_causes w) (handler_entries w.handlers) queues; handlers = handlers_known w (to_causes w) good.handlers; ports = ports_then } in
    let acted : Declared = outside (with_arbiters w) (to_arbiters w) (named_ports w) in
    let joined : Declared = outside (with_domains w) (to_arbiters w) (named_ports w) in
    leads_on (outside (with_causes w) (to_causes w) []) joined (outside (with_posters w) (to_posters w) (named_ports w)) (flat_map (handler_lines w) w.handlers ++ flat_map (arbiter_lines w) w.arbiters ++ map (combine_words w) w.domains) (flat_map (poster_lines w) w.posters)
    (leads_on (outside (with_causes w) (to_causes w) []) acted joined (flat_map (handler_lines w) w.handlers ++ flat_map (arbiter_lines w) w.arbiters) (map (combine_words w) w.domains)
    (leads_on (outside (with_causes w) (to_causes w) []) (outside (with_handlers w) (to_handlers w) []) acted (flat_map (handler_lines w) w.handlers) (flat_map (arbiter_lines w) w.arbiters)
    (handlers_lead again w (with_causes w) (to_causes w) w.handlers ports causes fits.handlers valued.0 counts.handlers good.handlers)
    (arbiters_lead again w (with_handlers w) (to_handlers w) w.arbiters knows fits.arbiters valued.1 good.arbiters (valid_fine w none) counts.arbiters counts.branches))
    (domains_lead w (with_arbiters w) (to_arbiters w) (named_ports w) w.domains (interleaves_known w (to_handlers w) good.arbiters) fits.domains fits.domains fits.combined counts.domains))
    (posters_lead again w (with_domains w) (to_arbiters w) (named_ports w) w.posters (ports_stay w (to_handlers w) (firing_entries 0 w.arbiters) ports_then) (causes_stay w (to_handlers w) (firing_entries 0 w.arbiters) causes_then) fits.posters valued.2 counts.posters counts.posts good.posters)

-- the lines behind the head
abbrev lines_behind : Parts → List Words
lines_behind w = first_lines w ++ second_lines w ++ third_lines w

whole_leads : AreReadAgain → (w : Parts) → IsValid w → is_closed w ≡ true → IsValued w → Leads (nothing w.version) (lines_behind w) (outside w (to_posters w) (named_ports w))
whole_leads again w valid closed valued =
    let none = no_codes w valid in
    let counts = valid_counts w closed none in
    let fits = valid_fits w closed none in
    let good = goods w none in
    subst (λ (p : Parts). Leads (nothing w.version) (lines_behind w) (outside p (to_posters w) (named_ports w))) (shut_is w closed) (
    leads_on (nothing w.version) (outside (with_causes w) (to_causes w) []) (outside (with_posters w) (to_posters w) (named_ports w)) (first_lines w ++ second_lines w) (third_lines w)
    (leads_on (nothing w.version) (outside (with_queues w) (to_queues w) []) (outside (with_causes w) (to_causes w) []) (first_lines w) (second_lines w) (firsts_lead again w counts fits good) (seconds_lead w counts fits good))
    (thirds_lead again w none valued counts fits good))

-- ---- the text

-- the lines of a text are found again
abbrev pub FoundAgain : Type 0
FoundAgain = (lines : List Words) → AreClean lines → lines_of (text_of lines) ≡ spelled_lines 1 lines

-- the line of the version is clean and gives the version
abbrev IsHead : ℕ → Type 0
IsHead version = (version_of (version_words version) ≡ Some version) × AreWords (version_words version)

one_head : IsHead 1
one_head = (refl, (refl, refl, (refl, refl, tt)))

two_head : IsHead 2
two_head = (refl, (refl, refl, (refl, refl, tt)))

head_is : (version : ℕ) → (not (version == 1) && not (version == 2)) ≡ false → IsHead version
head_is version known = by (version == 1) (version == 2) refl refl known
  where
    by : (a b : Bool) → (version == 1) ≡ a → (version == 2) ≡ b → (not a && not b) ≡ false → IsHead version
    by true b e f h = let is : version ≡ 1 = grind (arith, nat_tests, e) in subst IsHead (sym is) one_head
    by false true e f h = let is : version ≡ 2 = grind (arith, nat_tests, f) in subst IsHead (sym is) two_head
    by false false e f h = absurd cc

lines_are : (w : Parts) → canonical_lines w ≡ version_words w.version ∷ lines_behind w
unfolding queue_lines port_lines acting_lines
lines_are w = refl

is_text : AreReadAgain → FoundAgain → (w : Parts) → IsValid w → is_closed w ≡ true → IsValued w → IsText (spelling w) w
is_text again found w valid closed valued =
    let final : Declared = outside w (to_posters w) (named_ports w) in
    let leads = whole_leads again w valid closed valued in
    let head = head_is w.version (no_codes w valid).version in
    let clean : AreClean (version_words w.version ∷ lines_behind w) = (head.1, leads_clean (nothing w.version) (lines_behind w) final leads) in
    let same : lines_of (spelling w) ≡ spelled_lines 1 (version_words w.version ∷ lines_behind w) = ap (λ (lines : List Words). lines_of (text_of lines)) (lines_are w) ∙ found (version_words w.version ∷ lines_behind w) clean in
    subst (λ lines. AreHeadedLines lines w) (sym same) (refl, inr (w.version, head.0, leads_say 2 (nothing w.version) (lines_behind w) final leads refl))

pub written_read : AreReadAgain → FoundAgain → (w : Parts) → IsValid w → is_closed w ≡ true → IsValued w → reading_text (spelling w) ≡ Ok w
written_read again found w valid closed valued = text_read (spelling w) w (is_text again found w valid closed valued)
