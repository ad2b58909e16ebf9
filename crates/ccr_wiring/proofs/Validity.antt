-- What follows where a condition doesn't stand.
use Rattle.std.proofs.Common.{◌≡◌, ℕ, ◌≤◌, Bool, false, length, sum, map, Option, Some, None, refl, arith}
use Rattle.std.specs.Prelude.{◌||◌, nat_lt, if◌then◌else◌}
use Rattle.std.specs.List.{list_any, slice_get}
use Rattle.std.proofs.lemmas.Bool.Decides.{nat_tests}
use Rattle.std.specs.Option.{option_map_or}
use Rattle.ccr_base.proofs.Options.{none_cond}
use Rattle.ccr_base.proofs.Lists.{none_at}
use Rattle.ccr_base.specs.declared.policies.Policy.TheVariants.{Unbounded}
use Rattle.ccr_wiring.specs.declared.parts.ArbiterPart.{ArbiterPart}
use Rattle.ccr_wiring.specs.declared.parts.HandlerPart.{HandlerPart}
use Rattle.ccr_wiring.specs.declared.parts.Parts.{Parts}
use Rattle.ccr_wiring.specs.Wirings.{actions_of, policy_of}
use Rattle.ccr_wiring.specs.Limits.{has_outside, has_outside_budget, has_too_many, has_outside_queue, has_outside_set, has_outside_handler, has_outside_arbiter, has_outside_domain, handler_is_outside, action_is_outside, has_branches_above, has_posts_above, policy_is_outside, queue_is_outside}
use Rattle.ccr_wiring.specs.Spots.{all_branches, has_crowded_port}
use Rattle.ccr_wiring.specs.Groups.{is_misgrouped, has_scripted, has_misgrouped, has_branchless}
use Rattle.ccr_wiring.specs.Names.{has_repeated_name, has_malformed_name}
use Rattle.ccr_wiring.specs.References.{has_dangling_set, has_dangling_cause, has_dangling_handler, has_dangling_arbiter, has_dangling_poster, has_dangling_domain, has_dangling_open, has_dangling}
use Rattle.ccr_wiring.specs.Repeats.{has_repeating_set, has_repeating_arbiter, has_repeating_poster, has_repeating_domain, has_repeating_open, has_repeat}
use Rattle.ccr_wiring.specs.Versions.{has_strange_version, has_newer}
use Rattle.ccr_wiring.specs.Codes.{code_of}
use Rattle.ccr_wiring.proofs.Lists.{neither}
use Rattle.ccr_wiring.proofs.SpotsAreListed.{length-all_branches}
use Rattle.ccr_wiring.specs.declared.parts.QueuePart.{QueuePart}
use Rattle.ccr_wiring.specs.Valid.{IsValid}

pub record Within (parts : Parts) : Type 0 where
  pub budget : has_outside_budget parts ≡ false
  pub many : has_too_many parts ≡ false
  pub queues : has_outside_queue parts ≡ false
  pub sets : has_outside_set parts ≡ false
  pub handlers : has_outside_handler parts ≡ false
  pub arbiters : has_outside_arbiter parts ≡ false
  pub domains : has_outside_domain parts ≡ false

-- each of the limits is kept
pub within : (parts : Parts) → has_outside parts ≡ false → Within parts
within parts none =
    let a = has_outside_budget parts in
    let b = has_too_many parts in
    let c = has_outside_queue parts in
    let d = has_outside_set parts in
    let e = has_outside_handler parts in
    let f = has_outside_arbiter parts in
    let six = neither (a || b || c || d || e || f) (has_outside_domain parts) none in
    let five = neither (a || b || c || d || e) f six.0 in
    let four = neither (a || b || c || d) e five.0 in
    let three = neither (a || b || c) d four.0 in
    let two = neither (a || b) c three.0 in
    let one = neither a b two.0 in
    record { budget = one.0; many = one.1; queues = two.1; sets = three.1; handlers = four.1; arbiters = five.1; domains = six.1 }

-- there are at most 256 branches
pub few_branches : (parts : Parts) → has_outside parts ≡ false → length (all_branches parts.arbiters) ≤ 256
few_branches parts none =
    let a = nat_lt 16 (length parts.queues) || nat_lt 256 (length parts.ports) || nat_lt 64 (length parts.sets) || nat_lt 32 (length parts.causes) || nat_lt 256 (length parts.handlers) || nat_lt 256 (length parts.arbiters) || nat_lt 16 (length parts.posters) in
    let both = neither (a || has_branches_above 256 parts.arbiters) (has_posts_above 10000 parts.posters) (within parts none).many in
    let few : nat_lt 256 (sum (map (λ (arbiter : ArbiterPart). length arbiter.branches) parts.arbiters)) ≡ false = (neither a (has_branches_above 256 parts.arbiters) both.0).1 in
    let count = length-all_branches parts.arbiters in
    grind (arith, nat_tests, few, count)

-- there are at most 256 arbiters
pub few_arbiters : (parts : Parts) → has_outside parts ≡ false → length parts.arbiters ≤ 256
few_arbiters parts none =
    let a = nat_lt 16 (length parts.queues) || nat_lt 256 (length parts.ports) || nat_lt 64 (length parts.sets) || nat_lt 32 (length parts.causes) || nat_lt 256 (length parts.handlers) in
    let b = nat_lt 256 (length parts.arbiters) in
    let c = nat_lt 16 (length parts.posters) in
    let three = neither (a || b || c || has_branches_above 256 parts.arbiters) (has_posts_above 10000 parts.posters) (within parts none).many in
    let two = neither (a || b || c) (has_branches_above 256 parts.arbiters) three.0 in
    let few : b ≡ false = (neither a b (neither (a || b) c two.0).0).1 in
    grind (arith, nat_tests, few)

few_of : (part : HandlerPart) → handler_is_outside part ≡ false → length part.handler.actions ≤ 16
few_of part none =
    let few : nat_lt 16 (length part.handler.actions) ≡ false = (neither (nat_lt 16 (length part.handler.actions)) (list_any action_is_outside part.handler.actions) none).0 in
    grind (arith, nat_tests, few)

actions_at : (parts : Parts) (handler : ℕ) (found : Option HandlerPart) → slice_get parts.handlers handler ≡ found → has_outside_handler parts ≡ false → length (actions_of parts handler) ≤ 16
actions_at parts handler None at none = rw at (omega arith)
actions_at parts handler (Some part) at none = rw at (few_of part (none_at handler_is_outside parts.handlers handler part none at))

-- each handler has at most 16 actions
pub few_actions : (parts : Parts) (handler : ℕ) → has_outside parts ≡ false → length (actions_of parts handler) ≤ 16
few_actions parts handler none = actions_at parts handler (slice_get parts.handlers handler) refl (within parts none).handlers

-- no condition of a code stands
pub record NoCodes (parts : Parts) : Type 0 where
  pub version : has_strange_version parts ≡ false
  pub groups : has_misgrouped parts ≡ false
  pub newer : has_newer parts ≡ false
  pub names : has_repeated_name parts ≡ false
  pub references : has_dangling parts ≡ false
  pub repeats : has_repeat parts ≡ false
  pub limits : has_outside parts ≡ false
  pub branches : has_branchless parts ≡ false
  pub spots : has_crowded_port parts ≡ false
  pub forms : has_malformed_name parts ≡ false

-- where no code stands, no condition does
pub no_codes : (parts : Parts) → code_of parts ≡ None → NoCodes parts
unfolding code_of
no_codes parts valid =
    let version = none_cond (has_strange_version parts) 2 _ valid in
    let groups = none_cond (has_misgrouped parts) 3 _ version.1 in
    let newer = none_cond (has_newer parts) 5 _ groups.1 in
    let names = none_cond (has_repeated_name parts) 6 _ newer.1 in
    let references = none_cond (has_dangling parts) 7 _ names.1 in
    let repeats = none_cond (has_repeat parts) 8 _ references.1 in
    let limits = none_cond (has_outside parts) 10 _ repeats.1 in
    let branches = none_cond (has_branchless parts) 11 _ limits.1 in
    let spots = none_cond (has_crowded_port parts) 12 _ branches.1 in
    let forms = none_cond (has_malformed_name parts) 14 _ spots.1 in
    record { version = version.0; groups = groups.0; newer = newer.0; names = names.0; references = references.0; repeats = repeats.0; limits = limits.0; branches = branches.0; spots = spots.0; forms = forms.0 }

-- the code of the first test that is met, where these are all
abbrev pub first_code : Bool → Bool → Bool → Bool → Bool → Bool → Bool → Bool → Bool → Bool → Option ℕ
first_code a b c d e f g h i j = if a then Some 2 else if b then Some 3 else if c then Some 5 else if d then Some 6 else if e then Some 7 else if f then Some 8 else if g then Some 10 else if h then Some 11 else if i then Some 12 else if j then Some 14 else None

-- no code stands where none is met
pub no_code : (a b c d e f g h i j : Bool) → a ≡ false → b ≡ false → c ≡ false → d ≡ false → e ≡ false → f ≡ false → g ≡ false → h ≡ false → i ≡ false → j ≡ false → first_code a b c d e f g h i j ≡ None
no_code a b c d e f g h i j ea eb ec ed ee ef eg eh ei ej = rw (ea, eb, ec, ed, ee, ef, eg, eh, ei, ej) refl

-- the policy of a valid wiring's queue is within its bounds
pub policy_inside : (w : Parts) → IsValid w → (q : ℕ) → policy_is_outside (policy_of w q) ≡ false
policy_inside w valid q = of_option (slice_get w.queues q) refl
  where
    of_option : (o : Option QueuePart) → slice_get w.queues q ≡ o → policy_is_outside (option_map_or (λ (part : QueuePart). part.policy) o Unbounded) ≡ false
    of_option None at = refl
    of_option (Some part) at = none_at queue_is_outside w.queues q part (within w (no_codes w valid).limits).queues at

-- no arbiter is misgrouped
pub none_misgrouped : (parts : Parts) → NoCodes parts → list_any is_misgrouped parts.arbiters ≡ false
none_misgrouped parts none = (neither (list_any is_misgrouped parts.arbiters) (has_scripted parts) none.groups).0

-- each member of a domain is an Interleave's number
pub none_dangle : (parts : Parts) → NoCodes parts → has_dangling_domain parts ≡ false
none_dangle parts none =
    let five : Bool = has_dangling_set parts || has_dangling_cause parts || has_dangling_handler parts || has_dangling_arbiter parts || has_dangling_poster parts in
    (neither five (has_dangling_domain parts) (neither (five || has_dangling_domain parts) (has_dangling_open parts) none.references).0).1

-- and none stands twice
pub none_stand_twice : (parts : Parts) → NoCodes parts → has_repeating_domain parts ≡ false
none_stand_twice parts none =
    let three : Bool = has_repeating_set parts || has_repeating_arbiter parts || has_repeating_poster parts in
    (neither three (has_repeating_domain parts) (neither (three || has_repeating_domain parts) (has_repeating_open parts) none.repeats).0).1
