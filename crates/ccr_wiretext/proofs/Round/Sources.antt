-- The canonical lines of the queues, ports, port sets and causes.
use Rattle.std.proofs.Common.{ℕ, ◌<◌, ◌≤◌, List, [], ◌∷◌, ◌++◌, length, map, refl, ap, append-nil}
use Rattle.std.specs.Prelude.{codes}
use Rattle.ccr_text.proofs.Digits.{AreReadAgain}
use Rattle.ccr_wiring.specs.declared.parts.Parts.{Parts}
use Rattle.ccr_wiring.specs.declared.parts.QueuePart.{QueuePart}
use Rattle.ccr_wiring.specs.declared.parts.SetPart.{SetPart}
use Rattle.ccr_wiring.specs.declared.parts.CausePart.{CausePart}
use Rattle.ccr_wiring.specs.PartNames.{port_name}
use Rattle.ccr_wiretext.specs.declared.keyword.Keyword.TheVariants as keywords
use Rattle.ccr_wiretext.specs.declared.named.Named.TheVariants as kinds
use Rattle.ccr_wiretext.specs.Keywords.{keyword}
use Rattle.ccr_wiretext.specs.Names.{Naming}
use Rattle.ccr_wiretext.specs.Drafts.{with_queue, with_port, with_set, with_cause}
use Rattle.ccr_wiretext.specs.Grammar.{IsNew}
use Rattle.ccr_wiretext.specs.Spelling.{policy_words, queue_words, port_words, set_words, cause_words}
use Rattle.ccr_base.specs.Lists.{Each}
use Rattle.ccr_wiretext.proofs.Fit.{PolicyFit, SetFit}
use Rattle.ccr_wiretext.proofs.Round.Leads.{outside, IsStep, step_to, Leads, leads_from, walk_lines, room_before, each_at}
use Rattle.ccr_wiretext.proofs.Round.Namings.{Good, names_of, next_names, next_new}
use Rattle.ccr_wiretext.proofs.Round.Terms.{word_more, name_word, policy_says, policy_clean}
use Rattle.ccr_wiretext.proofs.Round.Known.{queue_entries, port_entries, set_entries, cause_entries, KnowsPorts, ports_stay, port_says, port_word, ports_say, ports_clean}

-- ---- queues

queue_step : AreReadAgain → (parts : Parts) (names : Naming) (part : QueuePart) → IsNew names part.name → PolicyFit part.policy → length parts.queues < 16
    → IsStep (outside parts names []) (queue_words part) (with_queue (outside parts names []) part)
unfolding keyword
queue_step again parts names part new fit room = record {
  first = codes "queue";
  others = part.name ∷ policy_words part.policy;
  word = keywords.Queue;
  spelled = refl;
  keyed = refl;
  plain = refl;
  clean = word_more (codes "queue") (part.name ∷ policy_words part.policy) (refl, refl) (word_more part.name (policy_words part.policy) (name_word part.name new.formed) (policy_clean again part.policy fit));
  says = (part, record { room = room; rule = policy_words part.policy; spelled = refl; name = new; policy = policy_says again part.policy fit }, refl);
}

pub queues_lead : AreReadAgain → (parts : Parts) (front : Naming) (queues : List QueuePart) → Each (λ (part : QueuePart). PolicyFit part.policy) queues → length queues ≤ 16 → Good (names_of (front ++ queue_entries queues))
    → Leads (outside (record parts { queues = [] }) front []) (map queue_words queues) (outside (record parts { queues = queues }) (front ++ queue_entries queues) [])
queues_lead again parts front queues fit room good =
    leads_from (outside (record parts { queues = [] }) (front ++ []) []) _ _ _ (ap (λ n. outside (record parts { queues = [] }) n []) (append-nil front))
    (walk_lines queue_words (λ done. outside (record parts { queues = done }) (front ++ queue_entries done) []) queues
    (λ done part rest e.
    step_to (outside (record parts { queues = done }) (front ++ queue_entries done) []) (with_queue (outside (record parts { queues = done }) (front ++ queue_entries done) []) part) _ (queue_words part)
    (queue_step again (record parts { queues = done }) (front ++ queue_entries done) part
    (next_new (λ (part : QueuePart). part.name) kinds.Queue front done part rest queues e good)
    (each_at (λ (part : QueuePart). PolicyFit part.policy) done part rest queues e fit)
    (room_before 16 done part rest queues e room))
    (ap (λ n. outside (record parts { queues = done ++ part ∷ [] }) n []) (next_names (λ (part : QueuePart). part.name) kinds.Queue front done part))))

-- ---- ports

port_step : (parts : Parts) (names : Naming) (name : List ℕ) → IsNew names name → length parts.ports < 256 → IsStep (outside parts names []) (port_words name) (with_port (outside parts names []) name)
unfolding keyword
port_step parts names name new room = record {
  first = codes "port";
  others = name ∷ [];
  word = keywords.Port;
  spelled = refl;
  keyed = refl;
  plain = refl;
  clean = word_more (codes "port") (name ∷ []) (refl, refl) (word_more name [] (name_word name new.formed) tt);
  says = (name, record { room = room; spelled = refl; new = new }, refl);
}

pub ports_lead : (parts : Parts) (front : Naming) (ports : List (List ℕ)) → length ports ≤ 256 → Good (names_of (front ++ port_entries ports))
    → Leads (outside (record parts { ports = [] }) front []) (map port_words ports) (outside (record parts { ports = ports }) (front ++ port_entries ports) [])
ports_lead parts front ports room good =
    leads_from (outside (record parts { ports = [] }) (front ++ []) []) _ _ _ (ap (λ n. outside (record parts { ports = [] }) n []) (append-nil front))
    (walk_lines port_words (λ done. outside (record parts { ports = done }) (front ++ port_entries done) []) ports
    (λ done name rest e.
    step_to (outside (record parts { ports = done }) (front ++ port_entries done) []) (with_port (outside (record parts { ports = done }) (front ++ port_entries done) []) name) _ (port_words name)
    (port_step (record parts { ports = done }) (front ++ port_entries done) name
    (next_new (λ (name : List ℕ). name) kinds.Port front done name rest ports e good)
    (room_before 256 done name rest ports e room))
    (ap (λ n. outside (record parts { ports = done ++ name ∷ [] }) n []) (next_names (λ (name : List ℕ). name) kinds.Port front done name))))

-- ---- port sets

set_step : (whole parts : Parts) (names : Naming) (part : SetPart) → KnowsPorts whole names → IsNew names part.name → SetFit (length whole.ports) part → length parts.sets < 64
    → IsStep (outside parts names []) (set_words whole part) (with_set (outside parts names []) part)
unfolding keyword
set_step whole parts names part knows new fit room = record {
  first = codes "portset";
  others = part.name ∷ map (port_name whole) part.ports;
  word = keywords.Portset;
  spelled = refl;
  keyed = refl;
  plain = refl;
  clean = word_more (codes "portset") (part.name ∷ map (port_name whole) part.ports) (refl, refl)
      (word_more part.name (map (port_name whole) part.ports) (name_word part.name new.formed) (ports_clean whole names knows part.ports fit.0));
  says = (
    part,
    record { room = room; rest = map (port_name whole) part.ports; spelled = refl; name = new; ports = ports_say whole (outside parts names []) knows [] part.ports fit.0 fit.1; some = fit.2; few = fit.3 },
    refl,
  );
}

pub sets_lead : (whole parts : Parts) (front : Naming) (sets : List SetPart) → KnowsPorts whole front → Each (SetFit (length whole.ports)) sets → length sets ≤ 64 → Good (names_of (front ++ set_entries sets))
    → Leads (outside (record parts { sets = [] }) front []) (map (set_words whole) sets) (outside (record parts { sets = sets }) (front ++ set_entries sets) [])
sets_lead whole parts front sets knows fit room good =
    leads_from (outside (record parts { sets = [] }) (front ++ []) []) _ _ _ (ap (λ n. outside (record parts { sets = [] }) n []) (append-nil front))
    (walk_lines (set_words whole) (λ done. outside (record parts { sets = done }) (front ++ set_entries done) []) sets
    (λ done part rest e.
    step_to (outside (record parts { sets = done }) (front ++ set_entries done) []) (with_set (outside (record parts { sets = done }) (front ++ set_entries done) []) part) _ (set_words whole part)
    (set_step whole (record parts { sets = done }) (front ++ set_entries done) part
    (ports_stay whole front (set_entries done) knows)
    (next_new (λ (part : SetPart). part.name) kinds.Set front done part rest sets e good)
    (each_at (SetFit (length whole.ports)) done part rest sets e fit)
    (room_before 64 done part rest sets e room))
    (ap (λ n. outside (record parts { sets = done ++ part ∷ [] }) n []) (next_names (λ (part : SetPart). part.name) kinds.Set front done part))))

-- ---- causes

cause_step : (whole parts : Parts) (names : Naming) (part : CausePart) → KnowsPorts whole names → IsNew names part.name → part.port < length whole.ports → length parts.causes < 32
    → IsStep (outside parts names []) (cause_words whole part) (with_cause (outside parts names []) part)
unfolding keyword
cause_step whole parts names part knows new fit room = record {
  first = codes "cause";
  others = part.name ∷ port_name whole part.port ∷ [];
  word = keywords.Cause;
  spelled = refl;
  keyed = refl;
  plain = refl;
  clean = word_more (codes "cause") (part.name ∷ port_name whole part.port ∷ []) (refl, refl)
      (word_more part.name (port_name whole part.port ∷ []) (name_word part.name new.formed) (word_more (port_name whole part.port) [] (port_word whole names knows part.port fit) tt));
  says = (part, record { room = room; port = port_name whole part.port; spelled = refl; name = new; refers = port_says whole (outside parts names []) knows part.port fit }, refl);
}

pub causes_lead : (whole parts : Parts) (front : Naming) (causes : List CausePart) → KnowsPorts whole front → Each (λ (part : CausePart). part.port < length whole.ports) causes → length causes ≤ 32
    → Good (names_of (front ++ cause_entries causes))
    → Leads (outside (record parts { causes = [] }) front []) (map (cause_words whole) causes) (outside (record parts { causes = causes }) (front ++ cause_entries causes) [])
causes_lead whole parts front causes knows fit room good =
    leads_from (outside (record parts { causes = [] }) (front ++ []) []) _ _ _ (ap (λ n. outside (record parts { causes = [] }) n []) (append-nil front))
    (walk_lines (cause_words whole) (λ done. outside (record parts { causes = done }) (front ++ cause_entries done) []) causes
    (λ done part rest e.
    step_to (outside (record parts { causes = done }) (front ++ cause_entries done) []) (with_cause (outside (record parts { causes = done }) (front ++ cause_entries done) []) part) _ (cause_words whole part)
    (cause_step whole (record parts { causes = done }) (front ++ cause_entries done) part
    (ports_stay whole front (cause_entries done) knows)
    (next_new (λ (part : CausePart). part.name) kinds.Cause front done part rest causes e good)
    (each_at (λ (part : CausePart). part.port < length whole.ports) done part rest causes e fit)
    (room_before 32 done part rest causes e room))
    (ap (λ n. outside (record parts { causes = done ++ part ∷ [] }) n []) (next_names (λ (part : CausePart). part.name) kinds.Cause front done part))))
