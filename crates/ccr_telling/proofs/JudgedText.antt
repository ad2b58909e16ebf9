-- A text that is judged while it is read: how far it has come.
use Rattle.std.proofs.Common.{◌≡◌, ◌∙◌, ℕ, ◌+◌, true, false, List, [], ◌∷◌, ◌++◌, length, Option, Some, None, refl, sym, ap, subst, arith}
use Rattle.std.specs.Prelude.{is_some}
use Rattle.ccr_wiring.specs.declared.parts.Parts.{Parts}
use Rattle.ccr_wiring.specs.Openness.{is_closed}
use Rattle.ccr_model.specs.declared.history.Event.{Event}
use Rattle.ccr_model.specs.declared.rule.Rule.{Rule}
use Rattle.ccr_model.specs.Rules.{refusal}
use Rattle.ccr_model.specs.Legal.{first_refusal}
use Rattle.ccr_checker.specs.Judges.{Judged}
use Rattle.ccr_telling.specs.Tallies.{Tallies, IsCounting}
use Rattle.ccr_trace.specs.EventReaders.{Reader, HasRead}
use Rattle.ccr_telling.specs.Judging.{IsJudgedSoFar}
use Rattle.ccr_telling.proofs.Refusals.{at_last, refusal_next, refusal_stays}

abbrev judged_of : Parts → List Event → Judged
judged_of w h = record { wiring = w; history = h }

-- behind a refusal events are read alone
pub judged_past : (old now next : Reader) (judged : Judged) (tallies : Tallies) (at : ℕ × Rule) (e : Event) → IsJudgedSoFar old now judged tallies (Some at) → HasRead now e next → IsJudgedSoFar old next judged tallies (Some at)
judged_past old now next judged tallies at e so_far read = record {
  wiring = read.wiring ∙ so_far.wiring;
  reads = read.reads ∙ so_far.reads;
  first = sym (ap (first_refusal old.wiring [] 0) read.history ∙ refusal_stays old.wiring [] 0 now.so_far.history e at (sym so_far.first));
  agrees = λ is. absurd (cc);
}

-- what is refused first, where nothing was so far
first_so : (old now next : Reader) (judged : Judged) (tallies : Tallies) (e : Event) (rule : Option Rule) → IsJudgedSoFar old now judged tallies None → HasRead now e next → rule ≡ refusal judged.wiring judged.history e
    → first_refusal old.wiring [] 0 next.so_far.history ≡ at_last (length now.so_far.history) rule
first_so old now next judged tallies e rule so_far read asked =
    let agrees = (so_far.agrees refl).accepted in
    let index : 0 + length now.so_far.history ≡ length now.so_far.history = omega arith in
    let same = ap (λ (j : Judged). refusal j.wiring j.history e) agrees ∙ ap (λ (w : Parts). refusal w now.so_far.history e) so_far.wiring in
    ap (first_refusal old.wiring [] 0) read.history ∙ (refusal_next old.wiring [] 0 now.so_far.history e (sym so_far.first) ∙ (ap (λ (n : ℕ). at_last n (refusal old.wiring now.so_far.history e)) index ∙ ap (at_last (length now.so_far.history)) (sym (asked ∙ same))))

-- the event is refused
pub judged_refused : (old now next : Reader) (judged new : Judged) (tallies counted : Tallies) (e : Event) (at : ℕ) (rule : Rule) → IsJudgedSoFar old now judged tallies None → HasRead now e next → Some rule ≡ refusal judged.wiring judged.history e
    → at ≡ length now.so_far.history → IsJudgedSoFar old next new counted (Some (at, rule))
judged_refused old now next judged new tallies counted e at rule so_far read asked here = record {
  wiring = read.wiring ∙ so_far.wiring;
  reads = read.reads ∙ so_far.reads;
  first = ap (λ (n : ℕ). at_last n (Some rule)) here ∙ sym (first_so old now next judged tallies e (Some rule) so_far read asked);
  agrees = λ is. absurd (cc);
}

-- the event is accepted and counted
pub judged_accepted : (old now next : Reader) (judged new : Judged) (tallies counted : Tallies) (e : Event) → IsJudgedSoFar old now judged tallies None → HasRead now e next → None ≡ refusal judged.wiring judged.history e
    → new ≡ record judged { history = judged.history ++ e ∷ [] } → (is_closed judged.wiring ≡ true → IsCounting judged.wiring judged.history tallies → IsCounting judged.wiring (judged.history ++ e ∷ []) counted) → IsJudgedSoFar old next new counted None
judged_accepted old now next judged new tallies counted e so_far read asked accepted counts =
    let agrees = so_far.agrees refl in
    let before = subst (λ (j : Judged). IsCounting j.wiring j.history tallies) (sym agrees.accepted) agrees.counted in
    let after = subst (λ (j : Judged). IsCounting j.wiring (j.history ++ e ∷ []) counted) agrees.accepted (counts (subst (λ (j : Judged). is_closed j.wiring ≡ true) (sym agrees.accepted) agrees.closed) before) in
    record {
      wiring = read.wiring ∙ so_far.wiring;
      reads = read.reads ∙ so_far.reads;
      first = sym (first_so old now next judged tallies e None so_far read asked);
      agrees = λ is. record {
        accepted = accepted ∙ (ap (λ (j : Judged). judged_of j.wiring (j.history ++ e ∷ [])) agrees.accepted ∙ (ap (λ w. judged_of w (now.so_far.history ++ e ∷ [])) (sym read.wiring) ∙ ap (judged_of next.wiring) (sym read.history)));
        counted = subst (λ (h : List Event). IsCounting next.wiring h counted) (sym read.history) (subst (λ (w : Parts). IsCounting w (now.so_far.history ++ e ∷ []) counted) (sym read.wiring) after);
        closed = subst (λ (w : Parts). is_closed w ≡ true) (sym read.wiring) agrees.closed;
      };
    }

-- the same where it is known whether something was refused before
pub judged_past_if : (refused : Option (ℕ × Rule)) → is_some refused ≡ true → (old now next : Reader) (judged : Judged) (tallies : Tallies) (e : Event) → IsJudgedSoFar old now judged tallies refused → HasRead now e next → IsJudgedSoFar old next judged tallies refused
judged_past_if None some old now next judged tallies e so_far read = absurd (cc)
judged_past_if (Some at) some old now next judged tallies e so_far read = judged_past old now next judged tallies at e so_far read

pub judged_refused_if : (refused : Option (ℕ × Rule)) → is_some refused ≡ false → (old now next : Reader) (judged new : Judged) (tallies counted : Tallies) (e : Event) (at : ℕ) (rule : Rule) → IsJudgedSoFar old now judged tallies refused → HasRead now e next
    → Some rule ≡ refusal judged.wiring judged.history e → at ≡ length now.so_far.history → IsJudgedSoFar old next new counted (Some (at, rule))
judged_refused_if None none old now next judged new tallies counted e at rule so_far read asked here = judged_refused old now next judged new tallies counted e at rule so_far read asked here
judged_refused_if (Some before) none old now next judged new tallies counted e at rule so_far read asked here = absurd (cc)

pub judged_accepted_if : (refused : Option (ℕ × Rule)) → is_some refused ≡ false → (old now next : Reader) (judged new : Judged) (tallies counted : Tallies) (e : Event) → IsJudgedSoFar old now judged tallies refused → HasRead now e next → None ≡ refusal judged.wiring judged.history e
    → new ≡ record judged { history = judged.history ++ e ∷ [] } → (is_closed judged.wiring ≡ true → IsCounting judged.wiring judged.history tallies → IsCounting judged.wiring (judged.history ++ e ∷ []) counted) → IsJudgedSoFar old next new counted refused
judged_accepted_if None none old now next judged new tallies counted e so_far read asked accepted counts = judged_accepted old now next judged new tallies counted e so_far read asked accepted counts
judged_accepted_if (Some before) none old now next judged new tallies counted e so_far read asked accepted counts = absurd (cc)
