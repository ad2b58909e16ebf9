-- The codes of refusal that parts can have, the least first.
use Rattle.std.specs.Prelude.{ℕ, Option, Some, None, if◌then◌else◌}
use Rattle.ccr_wiring.specs.declared.parts.Parts.{Parts}
use Rattle.ccr_wiring.specs.Groups.{has_misgrouped, has_branchless}
use Rattle.ccr_wiring.specs.Names.{has_repeated_name, has_malformed_name}
use Rattle.ccr_wiring.specs.References.{has_dangling}
use Rattle.ccr_wiring.specs.Repeats.{has_repeat}
use Rattle.ccr_wiring.specs.Limits.{has_outside}
use Rattle.ccr_wiring.specs.Versions.{has_strange_version, has_newer}
use Rattle.ccr_wiring.specs.Spots.{has_crowded_port}

-- the least code whose condition stands in the parts
unfoldable pub code_of : Parts → Option ℕ
code_of parts =
    if has_strange_version parts then Some 2
    else if has_misgrouped parts then Some 3
    else if has_newer parts then Some 5
    else if has_repeated_name parts then Some 6
    else if has_dangling parts then Some 7
    else if has_repeat parts then Some 8
    else if has_outside parts then Some 10
    else if has_branchless parts then Some 11
    else if has_crowded_port parts then Some 12
    else if has_malformed_name parts then Some 14
    else None
