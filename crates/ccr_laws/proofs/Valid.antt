-- What valid wirings have.
use Rattle.std.proofs.Common.{◌≡◌, ◌≤◌, true, List, [], ◌∷◌, length, refl, arith}
use Rattle.std.specs.Prelude.{nat_le}
use Rattle.std.proofs.lemmas.Bool.Decides.{nat_tests}
use Rattle.ccr_base.specs.declared.patterns.Pattern.{Pattern}
use Rattle.ccr_base.specs.declared.patterns.Pattern.TheVariants.{Slots, Gather}
use Rattle.ccr_wiring.specs.declared.parts.Parts.{Parts}
use Rattle.ccr_wiring.specs.Limits.{posts_in_all}
use Rattle.ccr_wiring.specs.Valid.{IsValid, HasQueues, IsPatternFilled}
use Rattle.ccr_wiring.specs.Openness.{is_closed}
use Rattle.ccr_wiring.proofs.Soundness.{sound}
use Rattle.ccr_model.specs.declared.history.Event.{Event}
use Rattle.ccr_model.specs.Legal.{IsLegal}
use Rattle.ccr_laws.specs.Potential.{takes_some, TakesSome, event_bound}
use Rattle.ccr_laws.proofs.Ending.{few_events}

pattern_takes_some : (p : Pattern) → IsPatternFilled p → takes_some p ≡ true
pattern_takes_some (Slots []) filled = absurd (omega (arith, filled.0))
pattern_takes_some (Slots (slot ∷ slots)) filled =
    let here = filled.2 0 slot refl in
    let least : nat_le 1 slot.least ≡ true = grind (arith, nat_tests, here.0, here.1) in
    let most : nat_le 1 slot.most ≡ true = grind (arith, nat_tests, here.0, here.1) in
    rw (least, most) refl
pattern_takes_some (Gather total p q) filled = grind (arith, nat_tests, filled.0)

pub TakesSome-valid : (w : Parts) → IsValid w → TakesSome w
TakesSome-valid w valid b s is = pattern_takes_some s.branch.pattern ((sound w valid).patterns b s is)

pub HasQueues-valid : (w : Parts) → IsValid w → HasQueues w
HasQueues-valid w valid = (sound w valid).queues

-- how many parts of each kind a valid wiring has
pub record HasFewParts (w : Parts) : Type 0 where
  pub queues : length w.queues ≤ 16
  pub ports : length w.ports ≤ 256
  pub causes : length w.causes ≤ 32
  pub handlers : length w.handlers ≤ 256
  pub arbiters : length w.arbiters ≤ 256
  pub posters : length w.posters ≤ 16
  pub lines : posts_in_all w.posters ≤ 10000
  pub budget : is_closed w ≡ true → w.budget ≤ 10000

pub HasFewParts-valid : (w : Parts) → IsValid w → HasFewParts w
HasFewParts-valid w valid =
    let small = (sound w valid).small in
    record {
      queues = small.queues;
      ports = small.ports;
      causes = small.causes;
      handlers = small.handlers;
      arbiters = small.arbiters;
      posters = small.posters;
      lines = small.posts;
      budget = λ closed. small.budget closed;
    }

pub event_bound-valid : (w : Parts) → IsValid w → is_closed w ≡ true → event_bound w ≤ 120000
unfolding event_bound
event_bound-valid w valid closed = let few = HasFewParts-valid w valid in omega (arith, few.lines, few.budget closed)

pub few_events-valid : (w : Parts) → IsValid w → is_closed w ≡ true → (h : List Event) → IsLegal w h → length h ≤ 120000
few_events-valid w valid closed h legal = omega (arith, few_events w (TakesSome-valid w valid) closed h legal, event_bound-valid w valid closed)
