-- The names of a wiring are ASCII, so JSON has them as they are.
use Rattle.std.specs.Prelude.{◌≡◌, Bool, true, ◌&&◌}
use Rattle.std.specs.List.{list_all}
use Rattle.ccr_wiring.specs.declared.parts.Parts.{Parts}
use Rattle.ccr_wiring.specs.declared.parts.QueuePart.{QueuePart}
use Rattle.ccr_wiring.specs.declared.parts.SetPart.{SetPart}
use Rattle.ccr_wiring.specs.declared.parts.CausePart.{CausePart}
use Rattle.ccr_wiring.specs.declared.parts.HandlerPart.{HandlerPart}
use Rattle.ccr_wiring.specs.declared.parts.BranchPart.{BranchPart}
use Rattle.ccr_wiring.specs.declared.parts.ArbiterPart.{ArbiterPart}
use Rattle.ccr_wiring.specs.declared.parts.PosterPart.{PosterPart}
use Rattle.ccr_wiring.specs.SpotWords.{branch_names}
use Rattle.ccr_json.specs.Lines.{is_plain}

-- an arbiter's name and those of its branches are ASCII
abbrev pub is_plain_arbiter : ArbiterPart → Bool
is_plain_arbiter arbiter = is_plain arbiter.name && list_all (λ (branch : BranchPart). is_plain branch.name) arbiter.branches

-- so is each name of the parts
pub record HasPlainNames (parts : Parts) : Type 0 where
  pub queues : list_all (λ (part : QueuePart). is_plain part.name) parts.queues ≡ true
  pub ports : list_all is_plain parts.ports ≡ true
  pub sets : list_all (λ (part : SetPart). is_plain part.name) parts.sets ≡ true
  pub causes : list_all (λ (part : CausePart). is_plain part.name) parts.causes ≡ true
  pub handlers : list_all (λ (part : HandlerPart). is_plain part.name) parts.handlers ≡ true
  pub arbiters : list_all is_plain_arbiter parts.arbiters ≡ true
  pub posters : list_all (λ (part : PosterPart). is_plain part.name) parts.posters ≡ true
  pub branches : list_all is_plain (branch_names parts) ≡ true
