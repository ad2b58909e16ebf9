-- What the lines so far declare has no code of refusal, but for a branch that an open block may still get.
use Rattle.std.proofs.Common.{◌≡◌, ℕ, ◌+◌, ◌<◌, ◌≤◌, true, false, List, [], ◌∷◌, ◌++◌, length, arith, length-append}
use Rattle.ccr_wiring.specs.declared.parts.Parts.{Parts}
use Rattle.ccr_wiring.specs.Openness.{is_closed}
use Rattle.ccr_wiring.specs.declared.parts.SetPart.{SetPart}
use Rattle.ccr_wiring.specs.declared.parts.CausePart.{CausePart}
use Rattle.ccr_wiring.specs.declared.parts.QueuePart.{QueuePart}
use Rattle.ccr_wiring.specs.declared.parts.HandlerPart.{HandlerPart}
use Rattle.ccr_wiring.specs.declared.parts.ArbiterPart.{ArbiterPart}
use Rattle.ccr_wiring.specs.declared.parts.PosterPart.{PosterPart}
use Rattle.ccr_wiring.specs.declared.parts.DomainPart.{DomainPart}
use Rattle.ccr_wiring.specs.Groups.{is_receive}
use Rattle.ccr_wiring.specs.Repeats.{members_in_all}
use Rattle.ccr_wiring.specs.Versions.{has_strange_version}
use Rattle.ccr_wiring.specs.Names.{declared_names}
use Rattle.ccr_wiring.specs.Spots.{branches_named, named_ports}
use Rattle.ccr_wiretext.specs.declared.named.Named.{Named}
use Rattle.ccr_wiretext.specs.declared.named.Named.TheVariants as kinds
use Rattle.ccr_wiretext.specs.declared.draft.Block.{Block}
use Rattle.ccr_wiretext.specs.declared.draft.Block.TheVariants as blocks
use Rattle.ccr_wiretext.specs.Names.{Naming}
use Rattle.ccr_wiretext.specs.Drafts.{branch_count, script_count}
use Rattle.ccr_wiretext.proofs.Each.{each_more}
use Rattle.ccr_base.proofs.Lists.{each_push}
use Rattle.ccr_base.specs.Lists.{Each, are_apart}
use Rattle.ccr_wiretext.proofs.Fit.{PolicyFit, SetFit, HandlerFit, BranchesFit, ArbiterFit, PosterFit, DomainFit, set_more, handler_more, arbiter_more, poster_more, domain_more}
use Rattle.ccr_wiretext.proofs.NamesApart.{NamesApart}
use Rattle.ccr_wiretext.proofs.SpotCounts.{Uncrowded}

-- the parts with the open block as it stands
abbrev pub whole : Parts → Block → Parts
whole parts blocks.Outside = parts
whole parts (blocks.Handler part) = record parts { handlers = parts.handlers ++ part ∷ [] }
whole parts (blocks.Arbiter part) = record parts { arbiters = parts.arbiters ++ part ∷ [] }
whole parts (blocks.Poster part) = record parts { posters = parts.posters ++ part ∷ [] }

-- how many handlers have names
abbrev pub handlers_named : Parts → Block → ℕ
handlers_named parts (blocks.Handler part) = length parts.handlers + 1
handlers_named parts _ = length parts.handlers

-- the ports that the spots of the open block name
abbrev pub open_ports : Parts → Block → List ℕ
open_ports parts (blocks.Arbiter part) = branches_named parts part.branches
open_ports parts _ = []

-- a name stands for something that is there
abbrev pub KindFit : Parts → ℕ → Named → Type 0
KindFit parts handlers (kinds.Queue n) = n < length parts.queues
KindFit parts handlers (kinds.Port n) = n < length parts.ports
KindFit parts handlers (kinds.Cause n) = n < length parts.causes
KindFit parts handlers (kinds.Handler n) = n < handlers
KindFit parts handlers _ = Unit {0}

-- what stands in the open block
abbrev pub OpenFit : Parts → Block → Type 0
OpenFit parts blocks.Outside = Unit {0}
OpenFit parts (blocks.Handler part) = HandlerFit parts.version (length parts.ports) (length parts.causes) part × (length parts.handlers < 256)
OpenFit parts (blocks.Arbiter part) = BranchesFit (length parts.queues) (length parts.handlers) (length parts.ports) part × (is_receive part.kind ≡ false) × (length parts.arbiters < 256) × (branch_count parts + length part.branches ≤ 256)
OpenFit parts (blocks.Poster part) = PosterFit parts.version (length parts.ports) (length parts.causes) part × (length parts.posters < 16) × (script_count parts + length part.posts ≤ 10000)

-- the numbers of the parts are within their limits
pub record Counts (parts : Parts) : Type 0 where
  pub budget : parts.budget ≤ 10000
  pub queues : length parts.queues ≤ 16
  pub ports : length parts.ports ≤ 256
  pub sets : length parts.sets ≤ 64
  pub causes : length parts.causes ≤ 32
  pub handlers : length parts.handlers ≤ 256
  pub arbiters : length parts.arbiters ≤ 256
  pub branches : branch_count parts ≤ 256
  pub posters : length parts.posters ≤ 16
  pub posts : script_count parts ≤ 10000
  pub domains : length parts.domains ≤ 128

-- each part is fit
pub record Fits (parts : Parts) : Type 0 where
  pub queues : Each (λ (part : QueuePart). PolicyFit part.policy) parts.queues
  pub sets : Each (SetFit (length parts.ports)) parts.sets
  pub causes : Each (λ (part : CausePart). part.port < length parts.ports) parts.causes
  pub handlers : Each (HandlerFit parts.version (length parts.ports) (length parts.causes)) parts.handlers
  pub arbiters : Each (ArbiterFit (length parts.queues) (length parts.handlers) (length parts.ports)) parts.arbiters
  pub posters : Each (PosterFit parts.version (length parts.ports) (length parts.causes)) parts.posters
  pub domains : Each (DomainFit parts.arbiters) parts.domains
  pub combined : are_apart (members_in_all parts.domains) ≡ true
  pub closed : is_closed parts ≡ true

pub record Sound (parts : Parts) (names : Naming) (spotted : List ℕ) (block : Block) : Type 0 where
  pub counts : Counts parts
  pub fits : Fits parts
  pub version : has_strange_version parts ≡ false
  pub known : Each (λ (entry : List ℕ × Named). KindFit parts (handlers_named parts block) entry.1) names
  pub apart : NamesApart names (declared_names (whole parts block))
  pub spots : spotted ≡ named_ports parts ++ open_ports parts block
  pub uncrowded : Uncrowded spotted
  pub begun : OpenFit parts block

-- ---- more of a kind

abbrev pub is_cause_fit : ℕ → CausePart → Type 0
is_cause_fit ports part = part.port < ports

pub queue_fits : (parts : Parts) (part : QueuePart) → Fits parts → PolicyFit part.policy → Fits (record parts { queues = parts.queues ++ part ∷ [] })
queue_fits parts part fits fit =
    let grows : length parts.queues ≤ length (parts.queues ++ part ∷ []) = omega (arith, length-append {A = QueuePart} parts.queues (part ∷ [])) in
    record {
      queues = each_push (λ (part : QueuePart). PolicyFit part.policy) parts.queues part fits.queues fit;
      sets = fits.sets;
      causes = fits.causes;
      handlers = fits.handlers;
      arbiters = each_more _ _ (arbiter_more (length parts.queues) (length (parts.queues ++ part ∷ [])) (length parts.handlers) (length parts.handlers) (length parts.ports) (length parts.ports) grows (omega arith) (omega arith)) parts.arbiters fits.arbiters;
      posters = fits.posters;
      domains = fits.domains;
      combined = fits.combined;
      closed = fits.closed;
    }

pub port_fits : (parts : Parts) (name : List ℕ) → Fits parts → Fits (record parts { ports = parts.ports ++ name ∷ [] })
port_fits parts name fits =
    let grows : length parts.ports ≤ length (parts.ports ++ name ∷ []) = omega (arith, length-append {A = List ℕ} parts.ports (name ∷ [])) in
    let more : ℕ = length (parts.ports ++ name ∷ []) in
    record {
      queues = fits.queues;
      sets = each_more _ _ (set_more (length parts.ports) more grows) parts.sets fits.sets;
      causes = each_more (is_cause_fit (length parts.ports)) (is_cause_fit more) (λ part below. omega (arith, below)) parts.causes fits.causes;
      handlers = each_more _ _ (handler_more parts.version (length parts.ports) more (length parts.causes) (length parts.causes) grows (omega arith)) parts.handlers fits.handlers;
      arbiters = each_more _ _ (arbiter_more (length parts.queues) (length parts.queues) (length parts.handlers) (length parts.handlers) (length parts.ports) more (omega arith) (omega arith) grows) parts.arbiters fits.arbiters;
      posters = each_more _ _ (poster_more parts.version (length parts.ports) more (length parts.causes) (length parts.causes) grows (omega arith)) parts.posters fits.posters;
      domains = fits.domains;
      combined = fits.combined;
      closed = fits.closed;
    }

pub set_fits : (parts : Parts) (part : SetPart) → Fits parts → SetFit (length parts.ports) part → Fits (record parts { sets = parts.sets ++ part ∷ [] })
set_fits parts part fits fit = record {
  queues = fits.queues;
  sets = each_push (SetFit (length parts.ports)) parts.sets part fits.sets fit;
  causes = fits.causes;
  handlers = fits.handlers;
  arbiters = fits.arbiters;
  posters = fits.posters;
  domains = fits.domains;
  combined = fits.combined;
  closed = fits.closed;
}

pub cause_fits : (parts : Parts) (part : CausePart) → Fits parts → part.port < length parts.ports → Fits (record parts { causes = parts.causes ++ part ∷ [] })
cause_fits parts part fits fit =
    let grows : length parts.causes ≤ length (parts.causes ++ part ∷ []) = omega (arith, length-append {A = CausePart} parts.causes (part ∷ [])) in
    let more : ℕ = length (parts.causes ++ part ∷ []) in
    record {
      queues = fits.queues;
      sets = fits.sets;
      causes = each_push (is_cause_fit (length parts.ports)) parts.causes part fits.causes fit;
      handlers = each_more _ _ (handler_more parts.version (length parts.ports) (length parts.ports) (length parts.causes) more (omega arith) grows) parts.handlers fits.handlers;
      arbiters = fits.arbiters;
      posters = each_more _ _ (poster_more parts.version (length parts.ports) (length parts.ports) (length parts.causes) more (omega arith) grows) parts.posters fits.posters;
      domains = fits.domains;
      combined = fits.combined;
      closed = fits.closed;
    }

pub handler_fits : (parts : Parts) (part : HandlerPart) → Fits parts → HandlerFit parts.version (length parts.ports) (length parts.causes) part → Fits (record parts { handlers = parts.handlers ++ part ∷ [] })
handler_fits parts part fits fit =
    let grows : length parts.handlers ≤ length (parts.handlers ++ part ∷ []) = omega (arith, length-append {A = HandlerPart} parts.handlers (part ∷ [])) in
    record {
      queues = fits.queues;
      sets = fits.sets;
      causes = fits.causes;
      handlers = each_push (HandlerFit parts.version (length parts.ports) (length parts.causes)) parts.handlers part fits.handlers fit;
      arbiters = each_more _ _ (arbiter_more (length parts.queues) (length parts.queues) (length parts.handlers) (length (parts.handlers ++ part ∷ [])) (length parts.ports) (length parts.ports) (omega arith) grows (omega arith)) parts.arbiters fits.arbiters;
      posters = fits.posters;
      domains = fits.domains;
      combined = fits.combined;
      closed = fits.closed;
    }

pub arbiter_fits : (parts : Parts) (part : ArbiterPart) → Fits parts → ArbiterFit (length parts.queues) (length parts.handlers) (length parts.ports) part → Fits (record parts { arbiters = parts.arbiters ++ part ∷ [] })
arbiter_fits parts part fits fit = record {
  queues = fits.queues;
  sets = fits.sets;
  causes = fits.causes;
  handlers = fits.handlers;
  arbiters = each_push (ArbiterFit (length parts.queues) (length parts.handlers) (length parts.ports)) parts.arbiters part fits.arbiters fit;
  posters = fits.posters;
  domains = each_more (DomainFit parts.arbiters) (DomainFit (parts.arbiters ++ part ∷ [])) (domain_more parts.arbiters part) parts.domains fits.domains;
  combined = fits.combined;
  closed = fits.closed;
}

pub poster_fits : (parts : Parts) (part : PosterPart) → Fits parts → PosterFit parts.version (length parts.ports) (length parts.causes) part → Fits (record parts { posters = parts.posters ++ part ∷ [] })
poster_fits parts part fits fit = record {
  queues = fits.queues;
  sets = fits.sets;
  causes = fits.causes;
  handlers = fits.handlers;
  arbiters = fits.arbiters;
  posters = each_push (PosterFit parts.version (length parts.ports) (length parts.causes)) parts.posters part fits.posters fit;
  domains = fits.domains;
  combined = fits.combined;
  closed = fits.closed;
}

pub domain_fits : (parts : Parts) (part : DomainPart) → Fits parts → DomainFit parts.arbiters part → are_apart (members_in_all (parts.domains ++ part ∷ [])) ≡ true → Fits (record parts { domains = parts.domains ++ part ∷ [] })
domain_fits parts part fits fit apart = record {
  queues = fits.queues;
  sets = fits.sets;
  causes = fits.causes;
  handlers = fits.handlers;
  arbiters = fits.arbiters;
  posters = fits.posters;
  domains = each_push (DomainFit parts.arbiters) parts.domains part fits.domains fit;
  combined = apart;
  closed = fits.closed;
}
