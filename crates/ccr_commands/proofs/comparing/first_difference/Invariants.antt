use Rattle.std.proofs.Common.{◌≡◌, ◌+◌, ◌≤◌, length}
use Rattle.ccr_commands.specs.Inputs.{first_difference}
use Rattle.ccr_commands.proofs.comparing.first_difference.Given as goal

abbrev pub invariant-bytes : goal.invariant-bytes
invariant-bytes l = record { same : first_difference l.line l.text l.due ≡ first_difference l.fn.line l.fn.text l.fn.due; few : l.line + length l.text ≤ l.fn.line + length l.fn.text }

abbrev pub decreases-bytes : goal.decreases-bytes
decreases-bytes l = length l.text
