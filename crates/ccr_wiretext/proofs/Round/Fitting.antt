-- A valid wiring, whole: it fits, it is small, its names are good and no port is crowded.
use Rattle.std.proofs.Common.{◌≡◌, ℕ, ◌<◌, ◌≤◌, Bool, true, false, List, length, refl, sym, ◌∙◌, arith}
use Rattle.std.specs.Prelude.{◌==◌, ◌&&◌, ◌||◌, not, nat_lt}
use Rattle.std.specs.List.{list_any}
use Rattle.std.proofs.lemmas.Bool.{ltb-false as at_most}
use Rattle.ccr_base.proofs.Booleans.{not_refuted}
use Rattle.ccr_base.specs.Lists.{are_apart}
use Rattle.ccr_wiring.specs.declared.parts.Parts.{Parts}
use Rattle.ccr_wiring.specs.declared.parts.QueuePart.{QueuePart}
use Rattle.ccr_wiring.specs.declared.parts.CausePart.{CausePart}
use Rattle.ccr_wiring.specs.Groups.{is_misgrouped, has_scripted, is_branchless}
use Rattle.ccr_wiring.specs.Names.{declared_names}
use Rattle.ccr_wiring.specs.Openness.{is_closed}
use Rattle.ccr_wiring.proofs.Closed.{closed_bound}
use Rattle.ccr_wiring.specs.References.{set_is_dangling, cause_is_dangling, handler_is_dangling, arbiter_is_dangling, poster_is_dangling, has_dangling_set, has_dangling_cause, has_dangling_handler, has_dangling_arbiter, has_dangling_poster, domain_is_dangling, has_dangling_domain, has_dangling_open}
use Rattle.ccr_wiring.specs.Repeats.{arbiter_repeats, set_repeats, poster_repeats, has_repeating_set, has_repeating_arbiter, has_repeating_poster, members_in_all, has_repeating_domain, has_repeating_open}
use Rattle.ccr_wiring.specs.Limits.{policy_is_outside, set_is_outside, handler_is_outside, arbiter_is_outside, has_branches_above, has_posts_above, domain_is_outside}
use Rattle.ccr_wiring.specs.Versions.{handler_is_newer, poster_is_newer}
use Rattle.ccr_wiring.specs.Spots.{times, named_ports}
use Rattle.ccr_wiring.proofs.Soundness.{below}
use Rattle.ccr_wiring.proofs.Validity.{NoCodes, within}
use Rattle.ccr_wiring.proofs.DomainsOfOwnKind.{member_fails}
use Rattle.ccr_wiretext.proofs.Each.{neither}
use Rattle.ccr_wiretext.proofs.Fit.{PolicyFit, OldFit, ArbiterFit, SetFit, HandlerFit, PosterFit, DomainFit}
use Rattle.ccr_wiretext.proofs.SpotCounts.{Uncrowded, times_none}
use Rattle.ccr_wiretext.proofs.Sound.{Counts, Fits}
use Rattle.ccr_wiretext.proofs.Round.Namings.{Good}
use Rattle.ccr_wiretext.proofs.Round.Validity.{each_if, none_of_two, policy_fits, set_fits, handler_fits, arbiter_fits, poster_fits, domain_fits, newer_in, old_each}

-- the tests of which one is that numbers name something. The others are likewise
record There (parts : Parts) : Type 0 where
  sets : has_dangling_set parts ≡ false
  causes : has_dangling_cause parts ≡ false
  handlers : has_dangling_handler parts ≡ false
  arbiters : has_dangling_arbiter parts ≡ false
  posters : has_dangling_poster parts ≡ false
  domains : has_dangling_domain parts ≡ false

there : (parts : Parts) → NoCodes parts → There parts
there parts none =
    let z = neither (has_dangling_set parts || has_dangling_cause parts || has_dangling_handler parts || has_dangling_arbiter parts || has_dangling_poster parts) (has_dangling_domain parts) (neither (has_dangling_set parts || has_dangling_cause parts || has_dangling_handler parts || has_dangling_arbiter parts || has_dangling_poster parts || has_dangling_domain parts) (has_dangling_open parts) none.references).0 in
    let a = neither (has_dangling_set parts || has_dangling_cause parts || has_dangling_handler parts || has_dangling_arbiter parts) (has_dangling_poster parts) z.0 in
    let b = neither (has_dangling_set parts || has_dangling_cause parts || has_dangling_handler parts) (has_dangling_arbiter parts) a.0 in
    let c = neither (has_dangling_set parts || has_dangling_cause parts) (has_dangling_handler parts) b.0 in
    let d = neither (has_dangling_set parts) (has_dangling_cause parts) c.0 in
    record { sets = d.0; causes = d.1; handlers = c.1; arbiters = b.1; posters = a.1; domains = z.1 }

record Once (parts : Parts) : Type 0 where
  sets : has_repeating_set parts ≡ false
  arbiters : has_repeating_arbiter parts ≡ false
  posters : has_repeating_poster parts ≡ false
  domains : has_repeating_domain parts ≡ false

once : (parts : Parts) → NoCodes parts → Once parts
once parts none =
    let z = neither (has_repeating_set parts || has_repeating_arbiter parts || has_repeating_poster parts) (has_repeating_domain parts) (neither (has_repeating_set parts || has_repeating_arbiter parts || has_repeating_poster parts || has_repeating_domain parts) (has_repeating_open parts) none.repeats).0 in
    let a = neither (has_repeating_set parts || has_repeating_arbiter parts) (has_repeating_poster parts) z.0 in
    let b = neither (has_repeating_set parts) (has_repeating_arbiter parts) a.0 in
    record { sets = b.0; arbiters = b.1; posters = a.1; domains = z.1 }

pub valid_counts : (parts : Parts) → is_closed parts ≡ true → NoCodes parts → Counts parts
valid_counts parts closed none =
    let limits = within parts none.limits in
    let queues : Bool = nat_lt 16 (length parts.queues) in
    let ports : Bool = nat_lt 256 (length parts.ports) in
    let sets : Bool = nat_lt 64 (length parts.sets) in
    let causes : Bool = nat_lt 32 (length parts.causes) in
    let handlers : Bool = nat_lt 256 (length parts.handlers) in
    let arbiters : Bool = nat_lt 256 (length parts.arbiters) in
    let posters : Bool = nat_lt 16 (length parts.posters) in
    let branches : Bool = has_branches_above 256 parts.arbiters in
    let posts : Bool = has_posts_above 10000 parts.posters in
    let a = neither (queues || ports || sets || causes || handlers || arbiters || posters || branches) posts limits.many in
    let b = neither (queues || ports || sets || causes || handlers || arbiters || posters) branches a.0 in
    let c = neither (queues || ports || sets || causes || handlers || arbiters) posters b.0 in
    let d = neither (queues || ports || sets || causes || handlers) arbiters c.0 in
    let e = neither (queues || ports || sets || causes) handlers d.0 in
    let f = neither (queues || ports || sets) causes e.0 in
    let g = neither (queues || ports) sets f.0 in
    let h = neither queues ports g.0 in
    record {
      budget = at_most 10000 parts.budget (sym (closed_bound parts closed) ∙ limits.budget);
      queues = at_most 16 (length parts.queues) h.0;
      ports = at_most 256 (length parts.ports) h.1;
      sets = at_most 64 (length parts.sets) g.1;
      causes = at_most 32 (length parts.causes) f.1;
      handlers = at_most 256 (length parts.handlers) e.1;
      arbiters = at_most 256 (length parts.arbiters) d.1;
      branches = at_most 256 _ b.1;
      posters = at_most 16 (length parts.posters) c.1;
      posts = at_most 10000 _ a.1;
      domains = at_most 128 (length parts.domains) (neither (nat_lt 128 (length parts.domains)) (list_any domain_is_outside parts.domains) limits.domains).0;
    }

-- what only version 2 has stands in no other
record Olds (parts : Parts) : Type 0 where
  handlers : OldFit parts.version (list_any handler_is_newer parts.handlers)
  posters : OldFit parts.version (list_any poster_is_newer parts.posters)

olds : (parts : Parts) → NoCodes parts → Olds parts
olds parts none =
    let parted = by (parts.version == 1) (parts.version == 2) (list_any handler_is_newer parts.handlers) (list_any poster_is_newer parts.posters) (not (is_closed parts)) none.version none.newer in
    record { handlers = parted.0; posters = parted.1 }
  where
    by : (a b x y z : Bool) → (not a && not b) ≡ false → (a && (x || y || z)) ≡ false → ((not b && x) ≡ false) × ((not b && y) ≡ false)
    by a true x y z known new = (refl, refl)
    by true false x y z known new = neither x y (neither (x || y) z new).0
    by false false x y z known new = absurd cc

pub valid_fits : (parts : Parts) → is_closed parts ≡ true → NoCodes parts → Fits parts
valid_fits parts closed none =
    let named = there parts none in
    let apart = once parts none in
    let limits = within parts none.limits in
    let old = olds parts none in
    record {
      queues = each_if (λ (part : QueuePart). PolicyFit part.policy) (λ (part : QueuePart). policy_is_outside part.policy) (λ part e. policy_fits part.policy e) parts.queues limits.queues;
      sets = each_if (SetFit (length parts.ports)) (λ part. set_is_dangling parts part || (set_repeats part || set_is_outside part))
          (λ part e.
          let a = neither (set_is_dangling parts part) (set_repeats part || set_is_outside part) e in
          let b = neither (set_repeats part) (set_is_outside part) a.1 in
          set_fits parts part a.0 b.0 b.1)
          parts.sets (none_of_two (set_is_dangling parts) (λ part. set_repeats part || set_is_outside part) parts.sets named.sets (none_of_two set_repeats set_is_outside parts.sets apart.sets limits.sets));
      causes = each_if (λ (part : CausePart). part.port < length parts.ports) (cause_is_dangling parts) (λ part e. below (length parts.ports) part.port e) parts.causes named.causes;
      handlers = each_if (HandlerFit parts.version (length parts.ports) (length parts.causes)) (λ part. handler_is_dangling parts part || (handler_is_outside part || newer_in parts.version handler_is_newer part))
          (λ part e.
          let a = neither (handler_is_dangling parts part) (handler_is_outside part || newer_in parts.version handler_is_newer part) e in
          let b = neither (handler_is_outside part) (newer_in parts.version handler_is_newer part) a.1 in
          handler_fits parts part a.0 b.0 b.1)
          parts.handlers
          (none_of_two (handler_is_dangling parts) (λ part. handler_is_outside part || newer_in parts.version handler_is_newer part) parts.handlers named.handlers
          (none_of_two handler_is_outside (newer_in parts.version handler_is_newer) parts.handlers limits.handlers (old_each parts.version handler_is_newer parts.handlers old.handlers)));
      arbiters = each_if (ArbiterFit (length parts.queues) (length parts.handlers) (length parts.ports))
          (λ part. (arbiter_is_dangling parts part || arbiter_repeats part) || (arbiter_is_outside part || (is_misgrouped part || is_branchless part)))
          (λ part e.
          let a = neither (arbiter_is_dangling parts part || arbiter_repeats part) (arbiter_is_outside part || (is_misgrouped part || is_branchless part)) e in
          let b = neither (arbiter_is_dangling parts part) (arbiter_repeats part) a.0 in
          let c = neither (arbiter_is_outside part) (is_misgrouped part || is_branchless part) a.1 in
          let d = neither (is_misgrouped part) (is_branchless part) c.1 in
          arbiter_fits parts part b.0 b.1 c.0 d.0 d.1)
          parts.arbiters
          (none_of_two (λ part. arbiter_is_dangling parts part || arbiter_repeats part) (λ part. arbiter_is_outside part || (is_misgrouped part || is_branchless part)) parts.arbiters
          (none_of_two (arbiter_is_dangling parts) arbiter_repeats parts.arbiters named.arbiters apart.arbiters)
          (none_of_two arbiter_is_outside (λ part. is_misgrouped part || is_branchless part) parts.arbiters limits.arbiters (none_of_two is_misgrouped is_branchless parts.arbiters (neither (list_any is_misgrouped parts.arbiters) (has_scripted parts) none.groups).0 none.branches)));
      posters = each_if (PosterFit parts.version (length parts.ports) (length parts.causes)) (λ part. poster_is_dangling parts part || (poster_repeats part || newer_in parts.version poster_is_newer part))
          (λ part e.
          let a = neither (poster_is_dangling parts part) (poster_repeats part || newer_in parts.version poster_is_newer part) e in
          let b = neither (poster_repeats part) (newer_in parts.version poster_is_newer part) a.1 in
          poster_fits parts part a.0 b.0 b.1)
          parts.posters
          (none_of_two (poster_is_dangling parts) (λ part. poster_repeats part || newer_in parts.version poster_is_newer part) parts.posters named.posters
          (none_of_two poster_repeats (newer_in parts.version poster_is_newer) parts.posters apart.posters (old_each parts.version poster_is_newer parts.posters old.posters)));
      domains = each_if (DomainFit parts.arbiters) (λ part. domain_is_dangling parts part || domain_is_outside part)
          (λ part e. let a = neither (domain_is_dangling parts part) (domain_is_outside part) e in domain_fits parts part a.0 a.1)
          parts.domains (none_of_two (domain_is_dangling parts) domain_is_outside parts.domains named.domains (neither (nat_lt 128 (length parts.domains)) (list_any domain_is_outside parts.domains) limits.domains).1);
      combined = not_refuted (are_apart (members_in_all parts.domains)) apart.domains;
      closed = closed;
    }

pub valid_names : (parts : Parts) → NoCodes parts → Good (declared_names parts)
valid_names parts none = record { apart = none.names; formed = none.forms }

pub valid_fine : (parts : Parts) → NoCodes parts → Uncrowded (named_ports parts)
valid_fine parts none port = by (list_any (λ other. other == port) ports) refl
  where
    ports : List ℕ
    ports = named_ports parts

    by : (t : Bool) → list_any (λ other. other == port) ports ≡ t → times port ports ≤ 16
    by true is = at_most 16 (times port ports) (member_fails (λ p. nat_lt 16 (times p ports)) ports port is none.spots)
    by false is = let nothing = times_none port ports is in omega arith
