-- What a valid wiring promises.
use Rattle.std.proofs.Common.{◌≡◌, ℕ, ◌+◌, ◌<◌, ◌≤◌, Bool, true, false, cond, zero, suc, List, [], ◌∷◌, length, map, Option, Some, None, refl, ap, sym, subst, ◌∙◌, arith}
use Rattle.std.specs.Prelude.{◌||◌, ◌&&◌, ◌==◌, not, nat_lt, if◌then◌else◌}
use Rattle.std.specs.Option.{option_map_or}
use Rattle.std.specs.List.{list_any, slice_get}
use Rattle.std.proofs.lemmas.Bool.Decides.{nat_tests}
use Rattle.std.proofs.lemmas.List.Folds.{list_any-append}
use Rattle.std.proofs.lemmas.List.Sums.{sum_by-cons}
use Rattle.std.proofs.lemmas.Bool.{ltb-false as at_most}
use Rattle.ccr_base.specs.declared.handlers.Action.{Action}
use Rattle.ccr_base.specs.declared.handlers.Action.TheVariants.{Post, Fail, Add, Remove, Await}
use Rattle.ccr_base.specs.declared.messages.Sent.{Sent}
use Rattle.ccr_base.specs.declared.patterns.Pattern.{Pattern}
use Rattle.ccr_base.specs.declared.patterns.Pattern.TheVariants.{Slots, Gather}
use Rattle.ccr_base.specs.declared.patterns.Slot.{Slot}
use Rattle.ccr_base.proofs.Booleans.{not_refuted, or_left, same_number}
use Rattle.ccr_base.proofs.Options.{some_is}
use Rattle.ccr_base.specs.Lists.{are_apart}
use Rattle.ccr_base.proofs.Lists.{none_narrower, none_at, list_any-map}
use Rattle.ccr_wiring.specs.declared.parts.ArbiterPart.{ArbiterPart}
use Rattle.ccr_wiring.specs.declared.parts.BranchPart.{BranchPart}
use Rattle.ccr_wiring.specs.declared.parts.CausePart.{CausePart}
use Rattle.ccr_wiring.specs.declared.parts.DomainPart.{DomainPart}
use Rattle.ccr_wiring.specs.declared.parts.HandlerPart.{HandlerPart}
use Rattle.ccr_wiring.specs.declared.parts.Kind.{Kind}
use Rattle.ccr_wiring.specs.declared.parts.OpenPart.{OpenPart}
use Rattle.ccr_wiring.specs.declared.parts.Parts.{Parts}
use Rattle.ccr_wiring.specs.declared.parts.PosterPart.{PosterPart}
use Rattle.ccr_wiring.specs.Wirings.{Placement, placement, placements, placements_of, placements_from, in_domain, actions_of, exception_port, awaited, site_port}
use Rattle.ccr_wiring.specs.Groups.{may_have, has_strange_group, is_misgrouped, has_script, is_no_await, acts, poster_is_scripted, handler_is_scripted, has_scripted}
use Rattle.ccr_wiring.specs.Openness.{open_ports_in, open_poster, open_handler, is_closed}
use Rattle.ccr_wiring.specs.References.{is_beyond, has_beyond, no_port, no_cause, action_is_dangling, slots_are_dangling, pattern_is_dangling, branch_is_dangling, post_is_dangling, handler_is_dangling, cause_is_dangling, poster_is_dangling, has_dangling, has_dangling_set, has_dangling_cause, has_dangling_handler, has_dangling_arbiter, has_dangling_poster, has_dangling_domain, open_is_dangling, has_dangling_open}
use Rattle.ccr_wiring.specs.Repeats.{slot_ports, names_ports_once, branch_repeats, post_repeats, poster_repeats, has_repeating_set, has_repeating_arbiter, has_repeating_poster, has_repeating_domain, has_repeating_open}
use Rattle.ccr_wiring.specs.Limits.{is_outside, slot_is_outside, pattern_is_outside, branch_is_outside, has_branches_above, has_posts_above, has_outside}
use Rattle.ccr_wiring.specs.Spots.{pattern_ports, times, named_ports, has_crowded}
use Rattle.ccr_wiring.specs.Valid.{IsValid, IsSound, IsSmall, IsSlotFilled, IsPatternFilled, IsActionNamed, IsPostNamed, IsOpenPoster, IsOpenHandler}
use Rattle.ccr_wiring.proofs.Lists.{neither}
use Rattle.ccr_wiring.proofs.SpotsAreListed.{length-placements}
use Rattle.ccr_wiring.proofs.DomainsOfOwnKind.{kept_domain}
use Rattle.ccr_wiring.proofs.Validity.{no_codes, within, few_branches, few_actions}

-- a number that is not beyond the count is below it
pub below : (count number : ℕ) → is_beyond count number ≡ false → number < count
below count number none = grind (arith, nat_tests, none)

-- tests of the branches of arbiters are tests of the placements
placement_any : (q : Kind → BranchPart → Bool) (number : ℕ) (kind : Kind) (branches : List BranchPart) → list_any (λ (s : Placement). q s.kind s.branch) (map (λ branch. record { domain = number; kind = kind; branch = branch }) branches) ≡ list_any (q kind) branches
placement_any q number kind branches = list_any-map (λ (s : Placement). q s.kind s.branch) (λ branch. record { domain = number; kind = kind; branch = branch }) branches

placements_any : (q : Kind → BranchPart → Bool) (number : ℕ) (arbiters : List ArbiterPart) → list_any (λ (s : Placement). q s.kind s.branch) (placements_from number arbiters) ≡ list_any (λ (arbiter : ArbiterPart). list_any (q arbiter.kind) arbiter.branches) arbiters
placements_any q number [] = refl
placements_any q number (arbiter ∷ arbiters) =
    list_any-append (λ (s : Placement). q s.kind s.branch) (placements_of number arbiter) (placements_from (number + 1) arbiters)
    ∙ (ap (λ b. b || list_any (λ (s : Placement). q s.kind s.branch) (placements_from (number + 1) arbiters)) (placement_any q number arbiter.kind arbiter.branches)
    ∙ ap (λ b. list_any (q arbiter.kind) arbiter.branches || b) (placements_any q (number + 1) arbiters))

-- a domain changes neither kind nor branch
domain_any : (q : Kind → BranchPart → Bool) (domains : List DomainPart) (ss : List Placement) → list_any (λ (s : Placement). q s.kind s.branch) (map (in_domain domains) ss) ≡ list_any (λ (s : Placement). q s.kind s.branch) ss
domain_any q domains ss = list_any-map (λ (s : Placement). q s.kind s.branch) (in_domain domains) ss

-- what no branch passes, the branch of no placement passes
placement_none : (q : Kind → BranchPart → Bool) (parts : Parts) → list_any (λ (arbiter : ArbiterPart). list_any (q arbiter.kind) arbiter.branches) parts.arbiters ≡ false → (branch : ℕ) (s : Placement) → placement parts branch ≡ Some s → q s.kind s.branch ≡ false
placement_none q parts none branch s at = none_at (λ (s : Placement). q s.kind s.branch) (placements parts) branch s (domain_any q parts.domains (placements_from 0 parts.arbiters) ∙ (placements_any q 0 parts.arbiters ∙ none)) at

record Named (parts : Parts) : Type 0 where
  causes : has_dangling_cause parts ≡ false
  handlers : has_dangling_handler parts ≡ false
  arbiters : has_dangling_arbiter parts ≡ false
  posters : has_dangling_poster parts ≡ false
  domains : has_dangling_domain parts ≡ false
  opened : has_dangling_open parts ≡ false

named : (parts : Parts) → has_dangling parts ≡ false → Named parts
named parts none =
    let a = has_dangling_set parts in
    let b = has_dangling_cause parts in
    let c = has_dangling_handler parts in
    let d = has_dangling_arbiter parts in
    let e = has_dangling_poster parts in
    let f = has_dangling_domain parts in
    let six = neither (a || b || c || d || e || f) (has_dangling_open parts) none in
    let five = neither (a || b || c || d || e) f six.0 in
    let four = neither (a || b || c || d) e five.0 in
    let three = neither (a || b || c) d four.0 in
    let two = neither (a || b) c three.0 in
    record { causes = (neither a b two.0).1; handlers = two.1; arbiters = three.1; posters = four.1; domains = five.1; opened = six.1 }

record BranchNamed (parts : Parts) (branch : BranchPart) : Type 0 where
  queue : branch.queue < length parts.queues
  handler : branch.handler < length parts.handlers
  pattern : pattern_is_dangling parts branch.pattern ≡ false

branch_named : (parts : Parts) (branch : BranchPart) → branch_is_dangling parts branch ≡ false → BranchNamed parts branch
branch_named parts branch none =
    let two = neither (is_beyond (length parts.queues) branch.queue || is_beyond (length parts.handlers) branch.handler) (pattern_is_dangling parts branch.pattern) none in
    let one = neither (is_beyond (length parts.queues) branch.queue) (is_beyond (length parts.handlers) branch.handler) two.0 in
    record { queue = below (length parts.queues) branch.queue one.0; handler = below (length parts.handlers) branch.handler one.1; pattern = two.1 }

slot_port : (parts : Parts) (slots : List Slot) (index port : ℕ) → slots_are_dangling parts slots ≡ false → slice_get (slot_ports slots) index ≡ Some port → port < length parts.ports
slot_port parts slots index port none at = below (length parts.ports) port (none_at (no_port parts) (slot_ports slots) index port (mapped slots ∙ none) at)
  where
    mapped : (slots : List Slot) → list_any (no_port parts) (slot_ports slots) ≡ slots_are_dangling parts slots
    mapped [] = refl
    mapped (slot ∷ slots) = ap (λ b. no_port parts slot.port || b) (mapped slots)

pattern_port : (parts : Parts) (pattern : Pattern) (index port : ℕ) → pattern_is_dangling parts pattern ≡ false → slice_get (pattern_ports pattern) index ≡ Some port → port < length parts.ports
pattern_port parts (Slots slots) index port none at = slot_port parts slots index port none at
pattern_port parts (Gather total first second) index port none at =
    let both = neither (no_port parts first) (no_port parts second) none in
    let each : list_any (no_port parts) (first ∷ second ∷ []) ≡ false = rw (both.0, both.1) refl in
    below (length parts.ports) port (none_at (no_port parts) (first ∷ second ∷ []) index port each at)

slot_filled : (slot : Slot) → slot_is_outside slot ≡ false → IsSlotFilled slot
slot_filled slot none =
    let two = neither (not (slot.least == slot.most)) (is_outside 1 1000 slot.least) none in
    let one = neither (nat_lt slot.least 1) (nat_lt 1000 slot.least) two.1 in
    let same : (slot.least == slot.most) ≡ true = not_refuted (slot.least == slot.most) two.0 in
    let least : slot.least ≡ slot.most = grind (arith, nat_tests, same) in
    let low : 1 ≤ slot.least = at_most slot.least 1 one.0 in
    (least, omega arith, at_most 1000 slot.least one.1)

pattern_filled : (pattern : Pattern) → pattern_is_outside pattern ≡ false → IsPatternFilled pattern
pattern_filled (Slots slots) none =
    let two = neither (is_outside 1 8 (length slots)) (list_any slot_is_outside slots) none in
    let one = neither (nat_lt (length slots) 1) (nat_lt 8 (length slots)) two.0 in
    let low : 1 ≤ length slots = at_most (length slots) 1 one.0 in
    (omega arith, at_most 8 (length slots) one.1, λ index slot at. slot_filled slot (none_at slot_is_outside slots index slot two.1 at))
pattern_filled (Gather total first second) none =
    let one = neither (nat_lt total 1) (nat_lt 1000 total) none in
    let low : 1 ≤ total = at_most total 1 one.0 in
    (omega arith, at_most 1000 total one.1)

action_named : (parts : Parts) (action : Action) → action_is_dangling parts action ≡ false → IsActionNamed parts action
action_named parts (Post port expr) none = below (length parts.ports) port none
action_named parts (Await port) none = below (length parts.ports) port none
action_named parts (Add cause) none = below (length parts.causes) cause none
action_named parts (Remove cause) none = below (length parts.causes) cause none
action_named parts (Fail expr) none = tt

actions_named : (parts : Parts) (handler index : ℕ) (action : Action) (found : Option HandlerPart) → slice_get parts.handlers handler ≡ found → has_dangling_handler parts ≡ false → slice_get (actions_of parts handler) index ≡ Some action → IsActionNamed parts action
actions_named parts handler index action None found none at = absurd (no_action (rw found at at))
  where
    no_action : slice_get {X = Action} [] index ≡ Some action → ⊥
    no_action e = absurd cc
actions_named parts handler index action (Some part) found none at =
    action_named parts action (none_at (action_is_dangling parts) part.handler.actions index action (none_at (handler_is_dangling parts) parts.handlers handler part none found) (rw found at at))

actions_none : (parts : Parts) (handler : ℕ) (found : Option HandlerPart) → slice_get parts.handlers handler ≡ found → has_dangling_handler parts ≡ false → list_any (action_is_dangling parts) (actions_of parts handler) ≡ false
actions_none parts handler None found none = rw found refl
actions_none parts handler (Some part) found none = rw found (none_at (handler_is_dangling parts) parts.handlers handler part none found)

awaited_none : (parts : Parts) (actions : List Action) → list_any (action_is_dangling parts) actions ≡ false → list_any (no_port parts) (awaited actions) ≡ false
awaited_none parts [] none = refl
awaited_none parts (Await port ∷ actions) none =
    let both = neither (no_port parts port) (list_any (action_is_dangling parts) actions) none in
    ap (λ b. b || list_any (no_port parts) (awaited actions)) both.0 ∙ awaited_none parts actions both.1
awaited_none parts (Post port expr ∷ actions) none = awaited_none parts actions (neither (no_port parts port) (list_any (action_is_dangling parts) actions) none).1
awaited_none parts (Add cause ∷ actions) none = awaited_none parts actions (neither (no_cause parts cause) (list_any (action_is_dangling parts) actions) none).1
awaited_none parts (Remove cause ∷ actions) none = awaited_none parts actions (neither (no_cause parts cause) (list_any (action_is_dangling parts) actions) none).1
awaited_none parts (Fail expr ∷ actions) none = awaited_none parts actions none

site_named : (parts : Parts) (branch site port : ℕ) (found : Option Placement) → placement parts branch ≡ found → has_dangling_handler parts ≡ false → site_port parts branch site ≡ Some port → port < length parts.ports
site_named parts branch site port None found none at = absurd (no_site (rw found at at))
  where
    no_site : None ≡ Some port → ⊥
    no_site e = absurd cc
site_named parts branch site port (Some s) found none at =
    let ports = awaited (actions_of parts s.branch.handler) in
    let each = awaited_none parts (actions_of parts s.branch.handler) (actions_none parts s.branch.handler (slice_get parts.handlers s.branch.handler) refl none) in
    below (length parts.ports) port (none_at (no_port parts) ports site port each (rw found at at))

exception_named : (parts : Parts) (cause port : ℕ) (found : Option CausePart) → slice_get parts.causes cause ≡ found → has_dangling_cause parts ≡ false → exception_port parts cause ≡ Some port → port < length parts.ports
exception_named parts cause port None found none at = absurd (no_port_there (rw found at at))
  where
    no_port_there : None ≡ Some port → ⊥
    no_port_there e = absurd cc
exception_named parts cause port (Some part) found none at =
    let there : Some part.port ≡ Some port = rw found at at in
    let e : part.port ≡ port = cc in
    let bound = below (length parts.ports) part.port (none_at (cause_is_dangling parts) parts.causes cause part none found) in
    omega arith

post_named : (parts : Parts) (post : Sent) → post_is_dangling parts post ≡ false → post_repeats post ≡ false → IsPostNamed parts post
post_named parts post none once =
    let both = neither (no_port parts post.port) (has_beyond (length parts.causes) post.causes) none in
    record {
      port = below (length parts.ports) post.port both.0;
      causes = λ index cause at. below (length parts.causes) cause (none_at (is_beyond (length parts.causes)) post.causes index cause both.1 at);
      apart = not_refuted (are_apart post.causes) once;
    }

none_more : (b : Bool) (n : ℕ) → b ≡ false → n ≡ 0 → cond b 1 0 + n ≡ 0
none_more false n e zero' = omega arith
none_more true n e zero' = absurd cc

few_times : (port : ℕ) (ports all : List ℕ) → list_any (λ port. nat_lt 16 (times port all)) ports ≡ false → nat_lt 16 (times port all) ≡ true → times port ports ≡ 0
few_times port [] all none often = refl
few_times port (other ∷ ports) all none often =
    let both = neither (nat_lt 16 (times other all)) (list_any (λ port. nat_lt 16 (times port all)) ports) none in
    by_test (other == port) refl both.0 (few_times port ports all both.1 often)
  where
    by_test : (b : Bool) → (other == port) ≡ b → nat_lt 16 (times other all) ≡ false → times port ports ≡ 0 → times port (other ∷ ports) ≡ 0
    by_test true same few rest =
        let e : other ≡ port = grind (arith, nat_tests, same) in
        let few' : nat_lt 16 (times port all) ≡ false = ap (λ p. nat_lt 16 (times p all)) (sym e) ∙ few in
        absurd cc
    by_test false apart few rest = sum_by-cons (λ x. cond (x == port) 1 0) other ports ∙ none_more (other == port) (times port ports) apart rest

not_crowded : (ports : List ℕ) → has_crowded ports ≡ false → (port : ℕ) → times port ports ≤ 16
not_crowded ports none port = by_test (nat_lt 16 (times port ports)) refl
  where
    by_test : (b : Bool) → nat_lt 16 (times port ports) ≡ b → times port ports ≤ 16
    by_test false few = at_most 16 (times port ports) few
    by_test true often = let zero' = few_times port ports ports none often in omega arith

-- the budget's bound, where nothing is open
closed_budget : {over : Bool} (closed : Bool) → closed ≡ true → (closed && over) ≡ false → over ≡ false
closed_budget true shut bound = bound
closed_budget false shut bound = absurd cc

small : (parts : Parts) → has_outside parts ≡ false → IsSmall parts
small parts none =
    let inside = within parts none in
    let a = nat_lt 16 (length parts.queues) in
    let b = nat_lt 256 (length parts.ports) in
    let c = nat_lt 64 (length parts.sets) in
    let d = nat_lt 32 (length parts.causes) in
    let e = nat_lt 256 (length parts.handlers) in
    let f = nat_lt 256 (length parts.arbiters) in
    let g = nat_lt 16 (length parts.posters) in
    let h = has_branches_above 256 parts.arbiters in
    let eight = neither (a || b || c || d || e || f || g || h) (has_posts_above 10000 parts.posters) inside.many in
    let seven = neither (a || b || c || d || e || f || g) h eight.0 in
    let six = neither (a || b || c || d || e || f) g seven.0 in
    let five = neither (a || b || c || d || e) f six.0 in
    let four = neither (a || b || c || d) e five.0 in
    let three = neither (a || b || c) d four.0 in
    let two = neither (a || b) c three.0 in
    let one = neither a b two.0 in
    let branches = few_branches parts none in
    let count = length-placements parts in
    record {
      budget = λ shut. at_most 10000 parts.budget (closed_budget (is_closed parts) shut inside.budget);
      queues = at_most 16 (length parts.queues) one.0;
      ports = at_most 256 (length parts.ports) one.1;
      sets = at_most 64 (length parts.sets) two.1;
      causes = at_most 32 (length parts.causes) three.1;
      handlers = at_most 256 (length parts.handlers) four.1;
      arbiters = at_most 256 (length parts.arbiters) five.1;
      branches = omega (arith, branches, count);
      posters = at_most 16 (length parts.posters) six.1;
      posts = at_most 10000 _ eight.1;
    }

-- an open part of this number stands in the list
record Opened (parts : Parts) (count number : ℕ) (held : List ℕ) (scripted : OpenPart → Bool) : Type 0 where
  named : number < count
  ports : (index port : ℕ) → slice_get held index ≡ Some port → port < length parts.ports
  part : OpenPart
  numbered : part.part ≡ number
  silent : scripted part ≡ false

opened : (parts : Parts) (count number : ℕ) (ports : List ℕ) (scripted : OpenPart → Bool) (listed : List OpenPart) → list_any (open_is_dangling parts count) listed ≡ false → list_any scripted listed ≡ false → open_ports_in listed number ≡ Some ports → Opened parts count number ports scripted
opened parts count number ports scripted [] named silent at = absurd cc
opened parts count number ports scripted (part ∷ listed) named silent at =
    let here = neither (open_is_dangling parts count part) (list_any (open_is_dangling parts count) listed) named in
    let shut = neither (scripted part) (list_any scripted listed) silent in
    by (part.part == number) refl here.0 shut.0 (λ later. opened parts count number ports scripted listed here.1 shut.1 later)
  where
    by : (t : Bool) → (part.part == number) ≡ t → open_is_dangling parts count part ≡ false → scripted part ≡ false → (open_ports_in listed number ≡ Some ports → Opened parts count number ports scripted) → Opened parts count number ports scripted
    by true is here shut others =
        let same : part.part ≡ number = same_number part.part number is in
        let both = neither (is_beyond count part.part) (has_beyond (length parts.ports) part.ports) here in
        let first : Some part.ports ≡ Some ports = ap (λ t. if t then Some part.ports else open_ports_in listed number) (sym is) ∙ at in
        let ports_so : part.ports ≡ ports = some_is first in
        record {
          named = subst (λ n. n < count) same (below count part.part both.0);
          ports = subst (λ ps. (index port : ℕ) → slice_get ps index ≡ Some port → port < length parts.ports) ports_so (λ index port there. below (length parts.ports) port (none_at (is_beyond (length parts.ports)) part.ports index port both.1 there));
          part = part;
          numbered = same;
          silent = shut;
        }
    by false is here shut others = others (ap (λ t. if t then Some part.ports else open_ports_in listed number) (sym is) ∙ at)

open_poster_named : (parts : Parts) (poster : ℕ) (ports : List ℕ) → list_any (open_is_dangling parts (length parts.posters)) parts.open_posters ≡ false → list_any (poster_is_scripted parts) parts.open_posters ≡ false → open_poster parts poster ≡ Some ports → IsOpenPoster parts poster ports
open_poster_named parts poster ports named silent at =
    let found = opened parts (length parts.posters) poster ports (poster_is_scripted parts) parts.open_posters named silent at in
    let still : option_map_or has_script (slice_get parts.posters poster) false ≡ false = subst (λ n. option_map_or has_script (slice_get parts.posters n) false ≡ false) found.numbered found.silent in
    record { named = found.named; ports = found.ports; silent = λ part there. no_posts part (ap (λ o. option_map_or has_script o false) (sym there) ∙ still) }
  where
    no_posts : (part : PosterPart) → has_script part ≡ false → part.posts ≡ []
    no_posts part none = by part.posts none
      where
        by : (posts : List Sent) → not (length posts == 0) ≡ false → posts ≡ []
        by [] none = refl
        by (post ∷ posts) none = let same : length (post ∷ posts) ≡ 0 = same_number (length (post ∷ posts)) 0 (not_refuted (length (post ∷ posts) == 0) none) in absurd (omega (arith, same))

open_handler_named : (parts : Parts) (handler : ℕ) (ports : List ℕ) → list_any (open_is_dangling parts (length parts.handlers)) parts.open_handlers ≡ false → list_any (handler_is_scripted parts) parts.open_handlers ≡ false → open_handler parts handler ≡ Some ports → IsOpenHandler parts handler ports
open_handler_named parts handler ports named silent at =
    let found = opened parts (length parts.handlers) handler ports (handler_is_scripted parts) parts.open_handlers named silent at in
    let still : option_map_or acts (slice_get parts.handlers handler) false ≡ false = subst (λ n. option_map_or acts (slice_get parts.handlers n) false ≡ false) found.numbered found.silent in
    record { named = found.named; ports = found.ports; silent = awaits (slice_get parts.handlers handler) refl still }
  where
    awaits : (o : Option HandlerPart) → slice_get parts.handlers handler ≡ o → option_map_or acts o false ≡ false → list_any is_no_await (actions_of parts handler) ≡ false
    awaits None there still = rw there refl
    awaits (Some part) there still = rw there still

-- a valid wiring is sound
pub sound : (parts : Parts) → IsValid parts → IsSound parts
sound parts valid =
    let none = no_codes parts valid in
    let numbers = named parts none.references in
    let inside = within parts none.limits in
    let shut = neither (has_repeating_set parts || has_repeating_arbiter parts || has_repeating_poster parts || has_repeating_domain parts) (has_repeating_open parts) none.repeats in
    let all = neither (has_repeating_set parts || has_repeating_arbiter parts || has_repeating_poster parts) (has_repeating_domain parts) shut.0 in
    let grouped = neither (list_any is_misgrouped parts.arbiters) (has_scripted parts) none.groups in
    let silent = neither (list_any (poster_is_scripted parts) parts.open_posters) (list_any (handler_is_scripted parts) parts.open_handlers) grouped.1 in
    let there = neither (list_any (open_is_dangling parts (length parts.posters)) parts.open_posters) (list_any (open_is_dangling parts (length parts.handlers)) parts.open_handlers) numbers.opened in
    let twice = neither (has_repeating_set parts || has_repeating_arbiter parts) (has_repeating_poster parts) all.0 in
    let branches = placement_none (λ kind branch. branch_is_dangling parts branch) parts numbers.arbiters in
    record {
      apart = λ branch s at. not_refuted (names_ports_once s.branch.pattern) (placement_none (λ kind branch. branch_repeats branch) parts (neither (has_repeating_set parts) (has_repeating_arbiter parts) twice.0).1 branch s at);
      queues = λ branch s at. (branch_named parts s.branch (branches branch s at)).queue;
      handlers = λ branch s at. (branch_named parts s.branch (branches branch s at)).handler;
      groups = λ branch s at. not_refuted (may_have s.kind s.branch.group) (placement_none (λ kind branch. not (may_have kind branch.group)) parts (none_narrower has_strange_group _ parts.arbiters (λ x is. or_left (has_strange_group x) _ is) grouped.0) branch s at);
      pattern_ports = λ branch s index port at there. pattern_port parts s.branch.pattern index port (branch_named parts s.branch (branches branch s at)).pattern there;
      patterns = λ branch s at. pattern_filled s.branch.pattern (placement_none (λ kind branch. branch_is_outside branch) parts inside.arbiters branch s at);
      actions = λ handler index action at. actions_named parts handler index action (slice_get parts.handlers handler) refl numbers.handlers at;
      few_actions = λ handler. few_actions parts handler none.limits;
      site_ports = λ branch site port at. site_named parts branch site port (placement parts branch) refl numbers.handlers at;
      exception_ports = λ cause port at. exception_named parts cause port (slice_get parts.causes cause) refl numbers.causes at;
      scripts = λ poster index part post at there. post_named parts post (none_at (post_is_dangling parts) part.posts index post (none_at (poster_is_dangling parts) parts.posters poster part numbers.posters at) there) (none_at post_repeats part.posts index post (none_at poster_repeats parts.posters poster part twice.1 at) there);
      few_spots = not_crowded (named_ports parts) none.spots;
      small = small parts none.limits;
      domains = λ branch s at. kept_domain parts branch s numbers.domains at;
      open_posters = λ poster ports at. open_poster_named parts poster ports there.0 silent.0 at;
      open_handlers = λ handler ports at. open_handler_named parts handler ports there.1 silent.1 at;
    }
