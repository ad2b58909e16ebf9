-- The numbers of a wiring, and the asks and replies that name no others.
use Rattle.std.specs.Prelude.{ℕ, zero, suc, Bool, true, false, nat_lt, ◌==◌, ◌&&◌, List, [], ◌∷◌, ◌++◌, map, flat_map, length, slice_get, Option, Some, None}
use Rattle.std.specs.List.{list_all}
use Rattle.std.specs.Option.{option_map_or}
use Rattle.ccr_base.specs.declared.messages.Msg.{Msg}
use Rattle.ccr_base.specs.declared.names.Spot.{Spot}
use Rattle.ccr_base.specs.declared.names.Spot.TheVariants.{Branch, Site}
use Rattle.ccr_base.specs.declared.tasks.Cut.{Cut}
use Rattle.ccr_base.specs.declared.tasks.Task.{Task}
use Rattle.ccr_base.specs.Lists.{are_apart}
use Rattle.ccr_wiring.specs.declared.parts.ArbiterPart.{ArbiterPart}
use Rattle.ccr_wiring.specs.declared.parts.BranchPart.{BranchPart}
use Rattle.ccr_wiring.specs.declared.parts.DomainPart.{DomainPart}
use Rattle.ccr_wiring.specs.declared.parts.Parts.{Parts}
use Rattle.ccr_wiring.specs.Domains.{domain_of}
use Rattle.ccr_wiring.specs.Wirings.{actions_of, awaited}
use Rattle.ccr_claim.specs.declared.asks.Ask.{Ask}
use Rattle.ccr_claim.specs.declared.asks.Ask.TheVariants as asks
use Rattle.ccr_claim.specs.declared.asks.Reply.{Reply}
use Rattle.ccr_claim.specs.declared.asks.Reply.TheVariants as replies

-- how many ports, queues and causes there are, of each arbiter whether its number is that of its domain, and of each branch
-- how many sites it has
pub record Numbers : Type 0 where
  pub ports : ℕ
  pub queues : ℕ
  pub causes : ℕ
  pub domains : List Bool
  pub sites : List ℕ

-- how many sites a branch has
abbrev pub site_count : Parts → BranchPart → ℕ
site_count wiring branch = length (awaited (actions_of wiring branch.handler))

-- how many await sites each of the arbiter's branches has
abbrev pub arbiter_sites : Parts → ArbiterPart → List ℕ
arbiter_sites wiring arbiter = map (site_count wiring) arbiter.branches

-- how many sites each branch has
abbrev pub site_counts : Parts → List ℕ
site_counts wiring = flat_map (arbiter_sites wiring) wiring.arbiters

-- of so many arbiters, whether the number of each is that of its domain
abbrev pub domain_tests : List DomainPart → ℕ → List Bool
domain_tests domains zero = []
domain_tests domains (suc number) = domain_tests domains number ++ (domain_of domains number == number) ∷ []

-- how many of each kind the wiring has
abbrev pub numbers_of : Parts → Numbers
numbers_of wiring = record {
  ports = length wiring.ports;
  queues = length wiring.queues;
  causes = length wiring.causes;
  domains = domain_tests wiring.domains (length wiring.arbiters);
  sites = site_counts wiring;
}

-- of a wiring that has nothing
abbrev pub no_numbers : Numbers
no_numbers = record { ports = 0; queues = 0; causes = 0; domains = []; sites = [] }

-- whether the spot is one of them
abbrev pub has_spot : Numbers → Spot → Bool
has_spot known (Branch branch) = nat_lt branch (length known.sites)
has_spot known (Site branch site) = option_map_or (λ count. nat_lt site count) (slice_get known.sites branch) false

-- whether the number is that of a domain
abbrev pub has_domain : Numbers → ℕ → Bool
has_domain known number = option_map_or (λ (own : Bool). own) (slice_get known.domains number) false

-- whether each cause is one of them
abbrev pub has_each : ℕ → List ℕ → Bool
has_each count causes = list_all (λ cause. nat_lt cause count) causes

-- whether each cause is one of them and none stands twice
abbrev pub has_causes : Numbers → List ℕ → Bool
has_causes known causes = has_each known.causes causes && are_apart causes

-- whether there are the message's port and causes
abbrev pub knows_message : Numbers → Msg → Bool
knows_message known message = nat_lt message.port known.ports && has_causes known message.causes

-- whether there are the task's spot, domain, queue and causes
abbrev pub knows_task : Numbers → Task → Bool
knows_task known task = has_spot known task.spot && has_domain known task.arbiter && nat_lt task.queue known.queues && has_causes known task.causes

-- whether all numbers in the ask are among these, and no cause stands twice in its message or task
abbrev pub is_known : Numbers → Ask → Bool
is_known known (asks.Post message) = knows_message known message
is_known known (asks.Claim task slot) = nat_lt slot.port known.ports
is_known known (asks.Commit task messages) = knows_task known task
is_known known (asks.Suspend task) = knows_task known task
is_known known (asks.Put task) = knows_task known task
is_known known _ = true

-- whether the task, where there is one, is one of these
abbrev pub has_handed : Numbers → Option Task → Bool
has_handed known None = true
has_handed known (Some task) = knows_task known task

-- whether there is the queue that the cut task was booked at
abbrev pub has_cut : Numbers → Cut → Bool
has_cut known cut = nat_lt cut.queue known.queues

-- whether all numbers in the reply are among these, and no cause stands twice in a message or task of it
abbrev pub names_known : Numbers → Reply → Bool
names_known known (replies.Got messages) = list_all (knows_message known) messages
names_known known (replies.Fired task cuts) = has_handed known task && list_all (has_cut known) cuts
names_known known (replies.Admitted task) = has_handed known task
names_known known (replies.Dropped task) = has_handed known task
names_known known (replies.Taken task) = has_handed known task
names_known known _ = true
