-- What a text says has no code of refusal.
use Rattle.std.proofs.Common.{◌≡◌, ℕ, ◌<◌, ◌≤◌, Bool, true, false, cond, List, [], ◌∷◌, ◌++◌, length, Some, None, inl, inr, refl, sym, ap, subst, ◌∙◌, arith, append-nil}
use Rattle.std.specs.Prelude.{◌==◌, ◌&&◌, not, nat_lt, codes}
use Rattle.std.specs.List.{list_any}
use Rattle.std.specs.Str.{bytes_eq}
use Rattle.std.proofs.lemmas.Bool.Decides.{nat_tests}
use Rattle.std.proofs.lemmas.Bool.{le-ltb as within}
use Rattle.ccr_base.specs.declared.policies.Policy.{Policy}
use Rattle.ccr_base.specs.declared.policies.Policy.TheVariants as policies
use Rattle.ccr_base.specs.declared.handlers.Action.{Action}
use Rattle.ccr_base.specs.declared.handlers.Action.TheVariants as actions
use Rattle.ccr_base.specs.declared.handlers.Expr.{Expr}
use Rattle.ccr_base.specs.declared.handlers.Expr.TheVariants as exprs
use Rattle.ccr_base.specs.declared.messages.Sent.{Sent}
use Rattle.ccr_base.specs.declared.patterns.Slot.{Slot}
use Rattle.ccr_base.specs.declared.patterns.Pattern.{Pattern}
use Rattle.ccr_base.specs.declared.patterns.Pattern.TheVariants as patterns
use Rattle.ccr_wiring.specs.declared.parts.Parts.{Parts}
use Rattle.ccr_wiring.specs.declared.parts.QueuePart.{QueuePart}
use Rattle.ccr_wiring.specs.declared.parts.BranchPart.{BranchPart}
use Rattle.ccr_wiring.specs.declared.parts.ArbiterPart.{ArbiterPart}
use Rattle.ccr_wiring.specs.Groups.{may_have, is_misgrouped, has_strange_group, has_misgrouped, is_branchless, has_branchless}
use Rattle.ccr_wiring.specs.Names.{declared_names, has_repeated_name, has_malformed_name}
use Rattle.ccr_wiring.specs.References.{is_beyond, action_is_dangling, pattern_is_dangling, branch_is_dangling, post_is_dangling, set_is_dangling, cause_is_dangling, handler_is_dangling, arbiter_is_dangling, poster_is_dangling, no_interleave, domain_is_dangling, has_dangling}
use Rattle.ccr_wiring.specs.Repeats.{branch_repeats, arbiter_repeats, set_repeats, post_repeats, poster_repeats, has_repeat}
use Rattle.ccr_wiring.specs.Limits.{policy_is_outside, expr_is_outside, action_is_outside, slot_is_outside, pattern_is_outside, branch_is_outside, queue_is_outside, set_is_outside, handler_is_outside, arbiter_is_outside, domain_is_outside, has_too_many, has_outside}
use Rattle.ccr_wiring.specs.Versions.{is_long, expr_is_newer, action_is_newer, handler_is_newer, poster_is_newer, has_newer}
use Rattle.ccr_wiring.specs.Spots.{times, named_ports, has_crowded_port}
use Rattle.ccr_wiring.specs.Codes.{code_of}
use Rattle.ccr_wiring.specs.Openness.{is_closed}
use Rattle.ccr_wiring.proofs.Closed.{none_scripted, none_dangle_open, none_repeat_open, closed_bound}
use Rattle.ccr_wiring.proofs.Lists.{any_none}
use Rattle.ccr_text.specs.Words.{is_name_of}
use Rattle.ccr_text.specs.declared.lines.Line.{Line}
use Rattle.ccr_text.specs.Lines.{lines_of}
use Rattle.ccr_text.specs.Fields.{Words}
use Rattle.ccr_wiretext.specs.declared.draft.Block.TheVariants as blocks
use Rattle.ccr_wiretext.specs.Names.{Naming}
use Rattle.ccr_wiretext.specs.Keywords.{keyword}
use Rattle.ccr_wiretext.specs.Drafts.{Declared, nothing}
use Rattle.ccr_wiretext.specs.Reading.{version_word, version_of}
use Rattle.ccr_wiretext.specs.Lines.{AreLines, AreHeadedLines, IsText}
use Rattle.ccr_wiretext.proofs.Each.{each_false}
use Rattle.ccr_base.specs.Lists.{Each}
use Rattle.ccr_wiretext.proofs.Fit.{PolicyFit, OldFit, ExprFit, ActionFit, SlotFit, PatternFit, BranchFit, ArbiterFit, Shaped, SetFit, HandlerFit, PostFit, PosterFit, InterleaveFit, DomainFit}
use Rattle.ccr_wiretext.proofs.SpotCounts.{Uncrowded}
use Rattle.ccr_wiretext.proofs.Sound.{Counts, Fits, Sound, is_cause_fit}
use Rattle.ccr_wiretext.proofs.SoundLines.{SoundDraft, line_sound}

below : (count n : ℕ) → n < count → is_beyond count n ≡ false
below count n less = grind (arith, nat_tests, less)

above : (least n : ℕ) → least ≤ n → nat_lt n least ≡ false
above least n more = grind (arith, nat_tests, more)

-- ---- numbers that name nothing

numbers_named : (count : ℕ) (numbers : List ℕ) → Each (λ n. n < count) numbers → list_any (is_beyond count) numbers ≡ false
numbers_named count numbers fit = each_false (λ n. n < count) (is_beyond count) (below count) numbers fit

action_named : (parts : Parts) (action : Action) → ActionFit parts.version (length parts.ports) (length parts.causes) action → action_is_dangling parts action ≡ false
action_named parts (actions.Post port value) fit = below (length parts.ports) port fit.0
action_named parts (actions.Fail value) fit = refl
action_named parts (actions.Add cause) fit = below (length parts.causes) cause fit
action_named parts (actions.Remove cause) fit = below (length parts.causes) cause fit
action_named parts (actions.Await port) fit = below (length parts.ports) port fit

pattern_named : (parts : Parts) (shape : Pattern) → PatternFit (length parts.ports) shape → pattern_is_dangling parts shape ≡ false
pattern_named parts (patterns.Slots slots) fit = each_false (SlotFit (length parts.ports)) (λ (slot : Slot). is_beyond (length parts.ports) slot.port) (λ slot one. below (length parts.ports) slot.port one.0) slots fit.0
pattern_named parts (patterns.Gather total first second) fit = rw (below (length parts.ports) first fit.0, below (length parts.ports) second fit.1) refl

branch_named_so : (parts : Parts) (branch : BranchPart) → BranchFit (length parts.queues) (length parts.handlers) (length parts.ports) branch → branch_is_dangling parts branch ≡ false
branch_named_so parts branch fit = rw (below (length parts.queues) branch.queue fit.0, below (length parts.handlers) branch.handler fit.1, pattern_named parts branch.pattern fit.2) refl

post_named : (parts : Parts) (post : Sent) → PostFit parts.version (length parts.ports) (length parts.causes) post → post_is_dangling parts post ≡ false
post_named parts post fit = rw (below (length parts.ports) post.port fit.0, numbers_named (length parts.causes) post.causes fit.1) refl

arbiter_named_so : (parts : Parts) (part : ArbiterPart) → ArbiterFit (length parts.queues) (length parts.handlers) (length parts.ports) part → arbiter_is_dangling parts part ≡ false
arbiter_named_so parts part fit =
    each_false (λ (branch : BranchPart). BranchFit (length parts.queues) (length parts.handlers) (length parts.ports) branch × (may_have part.kind branch.group ≡ true)) (branch_is_dangling parts)
    (λ branch one. branch_named_so parts branch one.0) part.branches fit.0

none_dangles : (parts : Parts) → Fits parts → has_dangling parts ≡ false
none_dangles parts fits = rw (
  each_false (SetFit (length parts.ports)) (set_is_dangling parts) (λ part fit. numbers_named (length parts.ports) part.ports fit.0) parts.sets fits.sets,
  each_false (is_cause_fit (length parts.ports)) (cause_is_dangling parts) (λ part fit. below (length parts.ports) part.port fit) parts.causes fits.causes,
  each_false (HandlerFit parts.version (length parts.ports) (length parts.causes)) (handler_is_dangling parts) (λ part fit. each_false (ActionFit parts.version (length parts.ports) (length parts.causes)) (action_is_dangling parts) (action_named parts) part.handler.actions fit.0) parts.handlers fits.handlers,
  each_false (ArbiterFit (length parts.queues) (length parts.handlers) (length parts.ports)) (arbiter_is_dangling parts) (arbiter_named_so parts) parts.arbiters fits.arbiters,
  each_false (PosterFit parts.version (length parts.ports) (length parts.causes)) (poster_is_dangling parts) (λ part fit. each_false (PostFit parts.version (length parts.ports) (length parts.causes)) (post_is_dangling parts) (post_named parts) part.posts fit) parts.posters fits.posters,
  each_false (DomainFit parts.arbiters) (domain_is_dangling parts) (λ part fit. each_false (InterleaveFit parts.arbiters) (no_interleave parts) (λ n one. one) part.members fit.0) parts.domains fits.domains,
  none_dangle_open parts fits.closed,
) refl

-- ---- repeats

pattern_once : (ports : ℕ) (branch : BranchPart) (shape : Pattern) → branch.pattern ≡ shape → PatternFit ports shape → branch_repeats branch ≡ false
pattern_once ports branch (patterns.Slots slots) is fit = rw (is, fit.1) refl
pattern_once ports branch (patterns.Gather total first second) is fit = rw (is, fit.2) refl

none_repeats : (parts : Parts) → Fits parts → has_repeat parts ≡ false
none_repeats parts fits = rw (
  each_false (SetFit (length parts.ports)) set_repeats (λ part fit. rw fit.1 refl) parts.sets fits.sets,
  each_false (ArbiterFit (length parts.queues) (length parts.handlers) (length parts.ports)) arbiter_repeats
      (λ part fit. each_false (λ (branch : BranchPart). BranchFit (length parts.queues) (length parts.handlers) (length parts.ports) branch × (may_have part.kind branch.group ≡ true)) branch_repeats
      (λ branch one. pattern_once (length parts.ports) branch branch.pattern refl one.0.2) part.branches fit.0) parts.arbiters fits.arbiters,
  each_false (PosterFit parts.version (length parts.ports) (length parts.causes)) poster_repeats (λ part fit. each_false (PostFit parts.version (length parts.ports) (length parts.causes)) post_repeats (λ post one. rw one.2 refl) part.posts fit) parts.posters fits.posters,
  fits.combined,
  none_repeat_open parts fits.closed,
) refl

-- ---- limits

policy_within : (p : Policy) → PolicyFit p → policy_is_outside p ≡ false
policy_within policies.Unbounded fit = refl
policy_within (policies.Discard n) fit = rw (above 1 n fit.0, within 1000 n fit.1) refl
policy_within (policies.Throttle n) fit = rw (above 1 n fit.0, within 1000 n fit.1) refl

expr_within : (version : ℕ) (value : Expr) → ExprFit version value → expr_is_outside value ≡ false
expr_within version (exprs.Number value) fit = refl
expr_within version (exprs.Part message index) fit = rw (above 0 message (omega arith), within 65535 message fit.1, above 0 index (omega arith), within 7 index fit.2) refl
expr_within version (exprs.Arg k) fit = rw (above 0 k (omega arith), within 65535 k fit) refl
expr_within version exprs.Sum fit = refl
expr_within version exprs.Count fit = refl

action_within : (version ports causes : ℕ) (action : Action) → ActionFit version ports causes action → action_is_outside action ≡ false
action_within version ports causes (actions.Post port value) fit = expr_within version value fit.1
action_within version ports causes (actions.Fail value) fit = expr_within version value fit
action_within version ports causes (actions.Add cause) fit = refl
action_within version ports causes (actions.Remove cause) fit = refl
action_within version ports causes (actions.Await port) fit = refl

slot_within : (ports : ℕ) (slot : Slot) → SlotFit ports slot → slot_is_outside slot ≡ false
slot_within ports slot fit =
    let same : (slot.least == slot.most) ≡ true = grind (arith, nat_tests, fit.1) in
    rw (same, above 1 slot.least fit.2, within 1000 slot.least fit.3) refl

pattern_within : (ports : ℕ) (shape : Pattern) → PatternFit ports shape → pattern_is_outside shape ≡ false
pattern_within ports (patterns.Slots slots) fit = rw (above 1 (length slots) fit.2, within 8 (length slots) fit.3, each_false (SlotFit ports) slot_is_outside (slot_within ports) slots fit.0) refl
pattern_within ports (patterns.Gather total first second) fit = rw (above 1 total fit.3, within 1000 total fit.4) refl

few : (parts : Parts) → Counts parts → has_too_many parts ≡ false
few parts c = rw (within 16 _ c.queues, within 256 _ c.ports, within 64 _ c.sets, within 32 _ c.causes, within 256 _ c.handlers, within 256 _ c.arbiters, within 256 _ c.branches, within 16 _ c.posters, within 10000 _ c.posts) refl

none_outside : (parts : Parts) → Counts parts → Fits parts → has_outside parts ≡ false
none_outside parts c fits = rw (
  closed_bound parts fits.closed,
  within 10000 parts.budget c.budget,
  few parts c,
  each_false (λ (part : QueuePart). PolicyFit part.policy) queue_is_outside (λ part fit. policy_within part.policy fit) parts.queues fits.queues,
  each_false (SetFit (length parts.ports)) set_is_outside (λ part fit. rw (above 1 (length part.ports) fit.2, within 8 (length part.ports) fit.3) refl) parts.sets fits.sets,
  each_false (HandlerFit parts.version (length parts.ports) (length parts.causes)) handler_is_outside
      (λ part fit. rw (within 16 (length part.handler.actions) fit.1, each_false (ActionFit parts.version (length parts.ports) (length parts.causes)) action_is_outside (action_within parts.version (length parts.ports) (length parts.causes)) part.handler.actions fit.0) refl) parts.handlers fits.handlers,
  each_false (ArbiterFit (length parts.queues) (length parts.handlers) (length parts.ports)) arbiter_is_outside
      (λ part fit. each_false (λ (branch : BranchPart). BranchFit (length parts.queues) (length parts.handlers) (length parts.ports) branch × (may_have part.kind branch.group ≡ true)) branch_is_outside
      (λ branch one. pattern_within (length parts.ports) branch.pattern one.0.2) part.branches fit.0) parts.arbiters fits.arbiters,
  within 128 (length parts.domains) c.domains,
  each_false (DomainFit parts.arbiters) domain_is_outside (λ part fit. rw (above 2 (length part.members) fit.1, within 8 (length part.members) fit.2) refl) parts.domains fits.domains,
) refl

-- ---- versions

in_first : (version : ℕ) (newer : Bool) → (version == 1) ≡ true → OldFit version newer → newer ≡ false
in_first version newer first fit = let other : (version == 2) ≡ false = grind (arith, nat_tests, first) in sym (ap (λ t. not t && newer) other) ∙ fit

old_expr : (version : ℕ) (value : Expr) → (version == 1) ≡ true → ExprFit version value → expr_is_newer value ≡ false
old_expr version (exprs.Number value) first fit = in_first version (is_long value) first fit
old_expr version (exprs.Part message index) first fit = in_first version true first fit.0
old_expr version (exprs.Arg k) first fit = refl
old_expr version exprs.Sum first fit = refl
old_expr version exprs.Count first fit = refl

old_action : (version ports causes : ℕ) → (version == 1) ≡ true → (action : Action) → ActionFit version ports causes action → action_is_newer action ≡ false
old_action version ports causes first (actions.Post port value) fit = old_expr version value first fit.1
old_action version ports causes first (actions.Fail value) fit = old_expr version value first fit
old_action version ports causes first (actions.Add cause) fit = refl
old_action version ports causes first (actions.Remove cause) fit = refl
old_action version ports causes first (actions.Await port) fit = refl

none_newer : (parts : Parts) → Fits parts → has_newer parts ≡ false
none_newer parts fits = by (parts.version == 1) refl
  where
    by : (t : Bool) → (parts.version == 1) ≡ t → has_newer parts ≡ false
    by false e = rw e refl
    by true e =
        let handlers : list_any handler_is_newer parts.handlers ≡ false =
        each_false (HandlerFit parts.version (length parts.ports) (length parts.causes)) handler_is_newer
        (λ part fit. each_false (ActionFit parts.version (length parts.ports) (length parts.causes)) action_is_newer (old_action parts.version (length parts.ports) (length parts.causes) e) part.handler.actions fit.0)
        parts.handlers fits.handlers in
        let posters : list_any poster_is_newer parts.posters ≡ false =
        each_false (PosterFit parts.version (length parts.ports) (length parts.causes)) poster_is_newer
        (λ part fit. each_false (PostFit parts.version (length parts.ports) (length parts.causes)) (λ (post : Sent). is_long post.value) (λ post one. in_first parts.version (is_long post.value) e one.3) part.posts fit)
        parts.posters fits.posters in
        rw (e, handlers, posters, fits.closed) refl

-- ---- groups

arbiter_grouped : (queues handlers ports : ℕ) (part : ArbiterPart) → ArbiterFit queues handlers ports part → is_misgrouped part ≡ false
arbiter_grouped queues handlers ports part (branches, shaped) = by shaped
  where
    strange : has_strange_group part ≡ false
    strange = each_false (λ (branch : BranchPart). BranchFit queues handlers ports branch × (may_have part.kind branch.group ≡ true)) (λ (branch : BranchPart). not (may_have part.kind branch.group)) (λ branch one. rw one.1 refl) part.branches branches

    by : Shaped part → is_misgrouped part ≡ false
    by (inl (kind, one)) = rw (strange, kind, one) refl
    by (inr (kind, some)) = rw (strange, kind) refl

arbiter_branched : (queues handlers ports : ℕ) (part : ArbiterPart) → ArbiterFit queues handlers ports part → is_branchless part ≡ false
arbiter_branched queues handlers ports part (branches, inl (kind, one)) = rw kind refl
arbiter_branched queues handlers ports part (branches, inr (kind, some)) = rw (kind, some) refl

-- ---- all codes

uncrowded_parts : (parts : Parts) (spotted : List ℕ) → spotted ≡ named_ports parts ++ [] → Uncrowded spotted → has_crowded_port parts ≡ false
uncrowded_parts parts spotted spots uncrowded =
    let fine : Uncrowded (named_ports parts) = subst Uncrowded (spots ∙ append-nil (named_ports parts)) uncrowded in
    any_none (λ port. nat_lt 16 (times port (named_ports parts))) (named_ports parts) (λ port. within 16 (times port (named_ports parts)) (fine port))

sound_parts : (parts : Parts) (names : Naming) (spotted : List ℕ) → Sound parts names spotted blocks.Outside → code_of parts ≡ None
unfolding code_of
sound_parts parts names spotted s =
    let arbiters : list_any is_misgrouped parts.arbiters ≡ false = each_false (ArbiterFit (length parts.queues) (length parts.handlers) (length parts.ports)) is_misgrouped (arbiter_grouped (length parts.queues) (length parts.handlers) (length parts.ports)) parts.arbiters s.fits.arbiters in
    let grouped : has_misgrouped parts ≡ false = rw (arbiters, none_scripted parts s.fits.closed) refl in
    let apart : has_repeated_name parts ≡ false = s.apart.apart in
    let branched : has_branchless parts ≡ false = each_false (ArbiterFit (length parts.queues) (length parts.handlers) (length parts.ports)) is_branchless (arbiter_branched (length parts.queues) (length parts.handlers) (length parts.ports)) parts.arbiters s.fits.arbiters in
    let formed : has_malformed_name parts ≡ false = each_false (λ name. is_name_of name ≡ true) (λ name. not (is_name_of name)) (λ name e. rw e refl) (declared_names parts) s.apart.formed in
    rw (s.version, grouped, none_newer parts s.fits, apart, none_dangles parts s.fits, none_repeats parts s.fits, none_outside parts s.counts s.fits, branched, uncrowded_parts parts spotted s.spots s.uncrowded, formed) refl

version_known : (word : List ℕ) (version : ℕ) → version_word word ≡ Some version → (not (version == 1) && not (version == 2)) ≡ false
version_known word version e = by (bytes_eq word (codes "1")) (bytes_eq word (codes "2")) e
  where
    by : (a b : Bool) → cond a (Some 1) (cond b (Some 2) None) ≡ Some version → (not (version == 1) && not (version == 2)) ≡ false
    by true b h = let is : 1 ≡ version = cc in rw (← is) refl
    by false true h = let is : 2 ≡ version = cc in rw (← is) refl
    by false false h = absurd cc

head_known : (words : Words) (version : ℕ) → version_of words ≡ Some version → (not (version == 1) && not (version == 2)) ≡ false
head_known [] version e = absurd cc
head_known (first ∷ []) version e = absurd cc
head_known (first ∷ second ∷ []) version e = by (bytes_eq first (codes "ccr")) e
  where
    by : (t : Bool) → cond t (version_word second) None ≡ Some version → (not (version == 1) && not (version == 2)) ≡ false
    by true h = version_known second version h
    by false h = absurd cc
head_known (first ∷ second ∷ third ∷ words) version e = absurd cc

nothing_sound : (version : ℕ) → (not (version == 1) && not (version == 2)) ≡ false → SoundDraft (nothing version)
nothing_sound version known = record {
  counts = record { budget = omega arith; queues = omega arith; ports = omega arith; sets = omega arith; causes = omega arith; handlers = omega arith; arbiters = omega arith; branches = omega arith; posters = omega arith; posts = omega arith; domains = omega arith };
  fits = record { queues = tt; sets = tt; causes = tt; handlers = tt; arbiters = tt; posters = tt; domains = tt; combined = refl; closed = refl };
  version = known;
  known = tt;
  apart = record { apart = refl; formed = tt; fresh = λ name none. refl };
  spots = refl;
  uncrowded = λ port. omega arith;
  begun = tt;
}

lines_have_none : (draft : Declared) (lines : List Line) (parts : Parts) → SoundDraft draft → AreLines draft lines parts → code_of parts ≡ None
lines_have_none draft [] parts sound said =
    let outside : Sound draft.parts draft.names draft.spotted blocks.Outside = subst (Sound draft.parts draft.names draft.spotted) said.0 sound in
    ap code_of said.1 ∙ sound_parts draft.parts draft.names draft.spotted outside
lines_have_none draft (line ∷ lines) parts sound (clean, inl said) = lines_have_none draft lines parts sound said.1
lines_have_none draft (line ∷ lines) parts sound (clean, inr said) =
    lines_have_none said.2 lines parts (line_sound draft.block draft (keyword said.0) said.1 said.2 refl sound said.5) said.6

headed_have_none : (lines : List Line) (parts : Parts) → AreHeadedLines lines parts → code_of parts ≡ None
headed_have_none [] parts said = absurd said
headed_have_none (line ∷ lines) parts (clean, inl said) = headed_have_none lines parts said.1
headed_have_none (line ∷ lines) parts (clean, inr said) = lines_have_none (nothing said.0) lines parts (nothing_sound said.0 (head_known line.words said.0 said.1)) said.2

lines_closed : (draft : Declared) (lines : List Line) (parts : Parts) → SoundDraft draft → AreLines draft lines parts → is_closed parts ≡ true
lines_closed draft [] parts sound said = ap is_closed said.1 ∙ sound.fits.closed
lines_closed draft (line ∷ lines) parts sound (clean, inl said) = lines_closed draft lines parts sound said.1
lines_closed draft (line ∷ lines) parts sound (clean, inr said) =
    lines_closed said.2 lines parts (line_sound draft.block draft (keyword said.0) said.1 said.2 refl sound said.5) said.6

headed_closed : (lines : List Line) (parts : Parts) → AreHeadedLines lines parts → is_closed parts ≡ true
headed_closed [] parts said = absurd said
headed_closed (line ∷ lines) parts (clean, inl said) = headed_closed lines parts said.1
headed_closed (line ∷ lines) parts (clean, inr said) = lines_closed (nothing said.0) lines parts (nothing_sound said.0 (head_known line.words said.0 said.1)) said.2

-- no poster and no handler of the parts that a text says is open
pub text_closed : (text : List ℕ) (parts : Parts) → IsText text parts → is_closed parts ≡ true
text_closed text parts said = headed_closed (lines_of text) parts said

-- the parts that a text says have no code of refusal
pub text_has_none : (text : List ℕ) (parts : Parts) → IsText text parts → code_of parts ≡ None
text_has_none text parts said = headed_have_none (lines_of text) parts said
