use Rattle.std.proofs.Common.{◌≡◌, ◌≤◌, ℕ, List, length, Bor, refl, sym, arith, ◌∙◌}
use Rattle.std.proofs.lemmas.List.{length-map}
use Rattle.ccr_wiring.specs.Wirings.{placements}
use Rattle.ccr_trace.specs.Words.{branch_names}
use Rattle.ccr_trace.proofs.Apart.{ports_apart, causes_apart, branches_apart, length-branch_names}
use Rattle.ccr_trace.proofs.known.Known.new.Goals as goal

pub of-requires-clause-apart : goal.of-requires-clause-apart
of-requires-clause-apart c =
    rw (c.deref.ensures.value, c.in_ok-names.ensures, c.as_slice.ensures, c.parts-parts.ensures.parts) (ports_apart c.args.wiring.now c.parts-parts.ensures.valid)

pub of-requires-2-clause-apart : goal.of-requires-2-clause-apart
of-requires-2-clause-apart c =
    rw (c.deref-2.ensures.value, c.in_ok-names-2.ensures, c.as_slice-2.ensures, c.parts-parts.ensures.parts) (causes_apart c.args.wiring.now c.parts-parts.ensures.valid)

pub of-requires-3-clause-apart : goal.of-requires-3-clause-apart
of-requires-3-clause-apart c =
    rw (c.deref-3.ensures.value, c.in_ok-names-3.ensures, c.parts-parts.ensures.parts) (branches_apart c.args.wiring.now c.parts-parts.ensures.valid)

pub of-requires-3-clause-few : goal.of-requires-3-clause-few
of-requires-3-clause-few c =
    let names : length c.deref-3.result.now ≡ length (branch_names c.args.wiring.now) = sym (length-map c.deref-3.result.now (λ (name : Bor (List ℕ)). name.now)) ∙ rw (c.deref-3.ensures.value, c.in_ok-names-3.ensures, c.parts-parts.ensures.parts) refl in
    let few : length (placements c.args.wiring.now) ≤ 256 = (c.valid_wirings_are_sound.ensures c.args.wiring.now c.parts-parts.ensures.valid).small.branches in
    omega (arith, names, few, length-branch_names c.args.wiring.now)

pub invariant_of-result : goal.invariant_of-result
invariant_of-result c = (
  rw (c.in_ok-ports.ensures, c.deref.ensures.value, c.in_ok-names.ensures, c.as_slice.ensures, c.parts-parts.ensures.parts) refl,
  rw (c.in_ok-causes.ensures, c.deref-2.ensures.value, c.in_ok-names-2.ensures, c.as_slice-2.ensures, c.parts-parts.ensures.parts) refl,
  rw (c.in_ok-branches.ensures, c.deref-3.ensures.value, c.in_ok-names-3.ensures, c.parts-parts.ensures.parts) refl,
)
