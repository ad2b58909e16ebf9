use Rattle.std.proofs.Common.{◌≡◌, drop}
use Rattle.ccr_wiring.specs.Domains.{domain_of}
use Rattle.ccr_wiring.proofs.domains.domain_of.Given as goal

abbrev pub invariant-loop-domain : goal.invariant-loop-domain
invariant-loop-domain l = domain_of (drop l.domain-index l.domains) l.arbiter ≡ domain_of l.domains l.arbiter
