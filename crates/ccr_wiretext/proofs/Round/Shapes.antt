-- The canonical words of patterns, and of what follows a branch's group.
use Rattle.std.proofs.Common.{◌≡◌, ℕ, ◌≤◌, true, false, List, [], ◌∷◌, ◌++◌, length, refl, sym, ap, ◌∙◌, arith, append_assoc}
use Rattle.std.specs.Prelude.{nat_lt, codes, decimal, flat_map}
use Rattle.std.proofs.lemmas.List.{map-append}
use Rattle.std.proofs.lemmas.Bool.Decides.{nat_tests}
use Rattle.ccr_base.specs.declared.patterns.Slot.{Slot}
use Rattle.ccr_base.specs.declared.patterns.Pattern.{Pattern}
use Rattle.ccr_base.specs.declared.patterns.Pattern.TheVariants as patterns
use Rattle.ccr_text.specs.Spelling.{AreWords}
use Rattle.ccr_text.specs.Fields.{Words}
use Rattle.ccr_text.proofs.Digits.{AreReadAgain}
use Rattle.ccr_wiring.specs.declared.parts.Parts.{Parts}
use Rattle.ccr_wiring.specs.declared.parts.BranchPart.{BranchPart}
use Rattle.ccr_wiring.specs.Repeats.{slot_ports}
use Rattle.ccr_wiring.specs.Spots.{branch_named, times}
use Rattle.ccr_wiring.specs.PartNames.{port_name, queue_name, handler_name}
use Rattle.ccr_wiring.proofs.Lists.{any_none}
use Rattle.ccr_base.proofs.Apart.{not_before}
use Rattle.ccr_wiretext.specs.Names.{Naming}
use Rattle.ccr_wiretext.specs.Drafts.{Declared}
use Rattle.ccr_wiretext.specs.Forms.{crowds}
use Rattle.ccr_wiretext.specs.Grammar.{IsSlot, IsSlots, IsPattern}
use Rattle.ccr_wiretext.specs.Lines.{IsBranchTail}
use Rattle.ccr_wiretext.specs.Spelling.{pred_words, slot_words, pattern_words}
use Rattle.ccr_wiretext.specs.Values.{IsPredValued, IsPatternValued}
use Rattle.ccr_base.specs.Lists.{Each, are_apart}
use Rattle.ccr_wiretext.proofs.Fit.{SlotFit, PatternFit, BranchFit}
use Rattle.ccr_wiretext.proofs.SpotCounts.{Uncrowded}
use Rattle.ccr_base.proofs.Lists.{each_all}
use Rattle.ccr_wiretext.proofs.Round.Terms.{word_more, words_on, name_word, number_word, within_says, pred_says, pred_clean}
use Rattle.ccr_wiretext.proofs.Round.Known.{KnowsPorts, KnowsQueues, KnowsHandlers, port_says, port_word}

-- ---- slots

abbrev SlotValued : Slot → Type 0
SlotValued slot = IsPredValued slot.pred

slot_says : AreReadAgain → (whole : Parts) (draft : Declared) → KnowsPorts whole draft.names → (slot : Slot) → SlotFit (length whole.ports) slot → SlotValued slot → IsSlot draft (slot_words whole slot) slot
slot_says again whole draft knows slot fit valued = record {
  port = port_name whole slot.port;
  count = decimal slot.least;
  test = pred_words slot.pred;
  spelled = refl;
  refers = port_says whole draft knows slot.port fit.0;
  counted = within_says again 1 1000 slot.least fit.2 fit.3 (omega arith);
  exact = fit.1;
  tests = pred_says again slot.pred valued;
}

slot_clean : AreReadAgain → (whole : Parts) (draft : Declared) → KnowsPorts whole draft.names → (slot : Slot) → SlotFit (length whole.ports) slot → SlotValued slot → AreWords (slot_words whole slot)
slot_clean again whole draft knows slot fit valued =
    word_more (port_name whole slot.port) (decimal slot.least ∷ pred_words slot.pred) (port_word whole draft.names knows slot.port fit.0)
    (word_more (decimal slot.least) (pred_words slot.pred) (number_word again slot.least (omega (arith, fit.3))) (pred_clean again slot.pred valued))

slots_say : AreReadAgain → (whole : Parts) (draft : Declared) → KnowsPorts whole draft.names → (found slots : List Slot) → Each (SlotFit (length whole.ports)) slots → Each SlotValued slots → are_apart (slot_ports (found ++ slots)) ≡ true
    → IsSlots draft found slots (flat_map (slot_words whole) slots)
slots_say again whole draft knows found [] fit valued apart = refl
slots_say again whole draft knows found (slot ∷ slots) fit valued apart = (
  slot_words whole slot,
  flat_map (slot_words whole) slots,
  refl,
  slot_says again whole draft knows slot fit.0 valued.0,
  not_before (slot_ports found) slot.port (slot_ports slots) (ap are_apart (sym (map-append (λ (s : Slot). s.port) found (slot ∷ slots))) ∙ apart),
  slots_say again whole draft knows (found ++ slot ∷ []) slots fit.1 valued.1 (ap (λ all. are_apart (slot_ports all)) (append_assoc found (slot ∷ []) slots) ∙ apart),
)

slots_clean : AreReadAgain → (whole : Parts) (draft : Declared) → KnowsPorts whole draft.names → (slots : List Slot) → Each (SlotFit (length whole.ports)) slots → Each SlotValued slots → AreWords (flat_map (slot_words whole) slots)
slots_clean again whole draft knows [] fit valued = tt
slots_clean again whole draft knows (slot ∷ slots) fit valued =
    words_on (slot_words whole slot) (flat_map (slot_words whole) slots) (slot_clean again whole draft knows slot fit.0 valued.0) (slots_clean again whole draft knows slots fit.1 valued.1)

-- ---- patterns

pattern_says : AreReadAgain → (whole : Parts) (draft : Declared) → KnowsPorts whole draft.names → (shape : Pattern) → PatternFit (length whole.ports) shape → IsPatternValued shape → IsPattern draft (pattern_words whole shape) shape
pattern_says again whole draft knows (patterns.Slots slots) fit valued =
    (flat_map (slot_words whole) slots, refl, slots_say again whole draft knows [] slots fit.0 (each_all SlotValued slots valued) fit.1, fit.2, fit.3)
pattern_says again whole draft knows (patterns.Gather total first second) fit valued = (
  decimal total ∷ port_name whole first ∷ port_name whole second ∷ [],
  refl,
  record {
    count = decimal total;
    one = port_name whole first;
    other = port_name whole second;
    spelled = refl;
    counted = within_says again 1 1000 total fit.3 fit.4 (omega arith);
    refers = port_says whole draft knows first fit.0;
    other_refers = port_says whole draft knows second fit.1;
    apart = fit.2;
  },
)

pattern_clean : AreReadAgain → (whole : Parts) (draft : Declared) → KnowsPorts whole draft.names → (shape : Pattern) → PatternFit (length whole.ports) shape → IsPatternValued shape → AreWords (pattern_words whole shape)
pattern_clean again whole draft knows (patterns.Slots slots) fit valued =
    word_more (codes "take") (flat_map (slot_words whole) slots) (refl, refl) (slots_clean again whole draft knows slots fit.0 (each_all SlotValued slots valued))
pattern_clean again whole draft knows (patterns.Gather total first second) fit valued =
    word_more (codes "gather") (decimal total ∷ port_name whole first ∷ port_name whole second ∷ []) (refl, refl)
    (word_more (decimal total) (port_name whole first ∷ port_name whole second ∷ []) (number_word again total (omega (arith, fit.4)))
    (word_more (port_name whole first) (port_name whole second ∷ []) (port_word whole draft.names knows first fit.0) (word_more (port_name whole second) [] (port_word whole draft.names knows second fit.1) tt)))

-- ---- what follows the group

abbrev pub tail_words : Parts → BranchPart → Words
tail_words whole branch = queue_name whole branch.queue ∷ handler_name whole branch.handler ∷ pattern_words whole branch.pattern

-- a branch may refer to queues, handlers and ports
pub record KnowsAll (whole : Parts) (names : Naming) : Type 0 where
  pub queues : KnowsQueues whole names
  pub handlers : KnowsHandlers whole names
  pub ports : KnowsPorts whole names

crowds_none : (draft : Declared) (branch : BranchPart) → Uncrowded (draft.spotted ++ branch_named draft.parts branch) → crowds draft branch ≡ false
unfolding crowds
crowds_none draft branch fine =
    any_none (λ port. nat_lt 16 (times port (draft.spotted ++ branch_named draft.parts branch))) (branch_named draft.parts branch) (λ port. below (times port (draft.spotted ++ branch_named draft.parts branch)) (fine port))
  where
    below : (n : ℕ) → n ≤ 16 → nat_lt 16 n ≡ false
    below n less = grind (arith, nat_tests, less)

pub tail_says : AreReadAgain → (whole : Parts) (draft : Declared) → KnowsAll whole draft.names → (branch : BranchPart) → BranchFit (length whole.queues) (length whole.handlers) (length whole.ports) branch → IsPatternValued branch.pattern
    → Uncrowded (draft.spotted ++ branch_named draft.parts branch) → IsBranchTail draft (tail_words whole branch) branch
tail_says again whole draft knows branch fit valued fine = record {
  queue = queue_name whole branch.queue;
  handler = handler_name whole branch.handler;
  shape = pattern_words whole branch.pattern;
  spelled = refl;
  queued = (knows.queues branch.queue fit.0).refers;
  handled = (knows.handlers branch.handler fit.1).refers;
  pattern = pattern_says again whole draft knows.ports branch.pattern fit.2 valued;
  uncrowded = crowds_none draft branch fine;
}

pub tail_clean : AreReadAgain → (whole : Parts) (draft : Declared) → KnowsAll whole draft.names → (branch : BranchPart) → BranchFit (length whole.queues) (length whole.handlers) (length whole.ports) branch → IsPatternValued branch.pattern → AreWords (tail_words whole branch)
tail_clean again whole draft knows branch fit valued =
    word_more (queue_name whole branch.queue) (handler_name whole branch.handler ∷ pattern_words whole branch.pattern) (name_word (queue_name whole branch.queue) (knows.queues branch.queue fit.0).formed)
    (word_more (handler_name whole branch.handler) (pattern_words whole branch.pattern) (name_word (handler_name whole branch.handler) (knows.handlers branch.handler fit.1).formed)
    (pattern_clean again whole draft knows.ports branch.pattern fit.2 valued))
