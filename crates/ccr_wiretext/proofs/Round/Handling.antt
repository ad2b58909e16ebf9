-- The canonical lines of the handlers.
use Rattle.std.proofs.Common.{ℕ, ◌<◌, ◌≤◌, List, [], ◌∷◌, ◌++◌, length, map, inl, inr, refl, ap, append-nil}
use Rattle.std.specs.Prelude.{codes, flat_map}
use Rattle.ccr_base.specs.declared.handlers.Action.{Action}
use Rattle.ccr_base.specs.declared.handlers.Action.TheVariants as actions
use Rattle.ccr_text.proofs.Digits.{AreReadAgain}
use Rattle.ccr_wiring.specs.declared.parts.Parts.{Parts}
use Rattle.ccr_wiring.specs.declared.parts.HandlerPart.{HandlerPart}
use Rattle.ccr_wiring.specs.PartNames.{port_name, cause_name}
use Rattle.ccr_wiretext.specs.declared.keyword.Keyword.TheVariants as keywords
use Rattle.ccr_wiretext.specs.declared.named.Named.TheVariants as kinds
use Rattle.ccr_wiretext.specs.declared.draft.Block.TheVariants as blocks
use Rattle.ccr_wiretext.specs.Keywords.{keyword}
use Rattle.ccr_wiretext.specs.Names.{Naming}
use Rattle.ccr_wiretext.specs.Drafts.{Declared, with_handler, with_action, end_handler}
use Rattle.ccr_wiretext.specs.Grammar.{IsNew}
use Rattle.ccr_wiretext.specs.Spelling.{expr_words, action_words, end_words, handler_lines}
use Rattle.ccr_wiretext.specs.Values.{IsActionValued, IsHandlerValued}
use Rattle.ccr_base.specs.Lists.{Each}
use Rattle.ccr_wiretext.proofs.Fit.{ActionFit, HandlerFit}
use Rattle.ccr_wiretext.proofs.Round.Leads.{inside, outside, IsStep, Leads, leads_on, leads_to, leads_from, walk, walk_lines, room_before, each_at, all_at}
use Rattle.std.specs.List.{All}
use Rattle.ccr_wiretext.proofs.Round.Namings.{Good, names_of, next_names, next_new}
use Rattle.ccr_wiretext.proofs.Round.Terms.{word_more, name_word, expr_says, expr_clean}
use Rattle.ccr_wiretext.proofs.Round.Known.{handler_entries, KnowsPorts, KnowsCauses, ports_stay, causes_stay, port_says, port_word}

-- ---- one action

action_step : AreReadAgain → (whole parts : Parts) (names : Naming) (part : HandlerPart) (action : Action) → KnowsPorts whole names → KnowsCauses whole names → ActionFit parts.version (length whole.ports) (length whole.causes) action → IsActionValued action
    → length part.handler.actions < 16 → IsStep (inside parts names [] (blocks.Handler part)) (action_words whole action) (with_action (outside parts names []) part action)
unfolding keyword
action_step again whole parts names part (actions.Post port value) ports causes fit valued room = record {
  first = codes "post";
  others = port_name whole port ∷ expr_words value;
  word = keywords.Post;
  spelled = refl;
  keyed = refl;
  plain = refl;
  clean = word_more (codes "post") (port_name whole port ∷ expr_words value) (refl, refl) (word_more (port_name whole port) (expr_words value) (port_word whole names ports port fit.0) (expr_clean again parts.version value fit.1 valued));
  says = inr (actions.Post port value, room, (port_name whole port, expr_words value, refl, port_says whole (outside parts names []) ports port fit.0, expr_says again parts.version value fit.1 valued), refl);
}
action_step again whole parts names part (actions.Fail value) ports causes fit valued room = record {
  first = codes "fail";
  others = expr_words value;
  word = keywords.Fail;
  spelled = refl;
  keyed = refl;
  plain = refl;
  clean = word_more (codes "fail") (expr_words value) (refl, refl) (expr_clean again parts.version value fit valued);
  says = inr (actions.Fail value, room, expr_says again parts.version value fit valued, refl);
}
action_step again whole parts names part (actions.Add cause) ports causes fit valued room = record {
  first = codes "add";
  others = cause_name whole cause ∷ [];
  word = keywords.Add;
  spelled = refl;
  keyed = refl;
  plain = refl;
  clean = word_more (codes "add") (cause_name whole cause ∷ []) (refl, refl) (word_more (cause_name whole cause) [] (name_word (cause_name whole cause) (causes cause fit).formed) tt);
  says = inr (actions.Add cause, room, (cause_name whole cause, refl, (causes cause fit).refers), refl);
}
action_step again whole parts names part (actions.Remove cause) ports causes fit valued room = record {
  first = codes "remove";
  others = cause_name whole cause ∷ [];
  word = keywords.Remove;
  spelled = refl;
  keyed = refl;
  plain = refl;
  clean = word_more (codes "remove") (cause_name whole cause ∷ []) (refl, refl) (word_more (cause_name whole cause) [] (name_word (cause_name whole cause) (causes cause fit).formed) tt);
  says = inr (actions.Remove cause, room, (cause_name whole cause, refl, (causes cause fit).refers), refl);
}
action_step again whole parts names part (actions.Await port) ports causes fit valued room = record {
  first = codes "await";
  others = port_name whole port ∷ [];
  word = keywords.Await;
  spelled = refl;
  keyed = refl;
  plain = refl;
  clean = word_more (codes "await") (port_name whole port ∷ []) (refl, refl) (word_more (port_name whole port) [] (port_word whole names ports port fit) tt);
  says = inr (actions.Await port, room, (port_name whole port, refl, port_says whole (outside parts names []) ports port fit), refl);
}

-- ---- one handler

-- a handler with some of its actions
abbrev begun : List ℕ → List Action → HandlerPart
begun name done = record { name = name; handler = record { actions = done } }

actions_lead : AreReadAgain → (whole parts : Parts) (names : Naming) (name : List ℕ) (some : List Action) → KnowsPorts whole names → KnowsCauses whole names → Each (ActionFit parts.version (length whole.ports) (length whole.causes)) some → All IsActionValued some
    → length some ≤ 16 → Leads (inside parts names [] (blocks.Handler (begun name []))) (map (action_words whole) some) (inside parts names [] (blocks.Handler (begun name some)))
actions_lead again whole parts names name some ports causes fit valued room =
    walk_lines (action_words whole) (λ done. inside parts names [] (blocks.Handler (begun name done))) some
    (λ done action rest e.
    action_step again whole parts names (begun name done) action ports causes
    (each_at (ActionFit parts.version (length whole.ports) (length whole.causes)) done action rest some e fit)
    (all_at IsActionValued done action rest some e valued)
    (room_before 16 done action rest some e room))

open_step : (parts : Parts) (names : Naming) (name : List ℕ) → IsNew names name → length parts.handlers < 256 → IsStep (outside parts names []) (codes "handler" ∷ name ∷ []) (with_handler (outside parts names []) name)
unfolding keyword
open_step parts names name new room = record {
  first = codes "handler";
  others = name ∷ [];
  word = keywords.Handler;
  spelled = refl;
  keyed = refl;
  plain = refl;
  clean = word_more (codes "handler") (name ∷ []) (refl, refl) (word_more name [] (name_word name new.formed) tt);
  says = (name, record { room = room; spelled = refl; new = new }, refl);
}

end_step : (parts : Parts) (names : Naming) (part : HandlerPart) → IsStep (inside parts names [] (blocks.Handler part)) end_words (end_handler (outside parts names []) part)
unfolding keyword
end_step parts names part = record {
  first = codes "end";
  others = [];
  word = keywords.End;
  spelled = refl;
  keyed = refl;
  plain = refl;
  clean = (refl, refl, tt);
  says = inl (refl, refl, refl);
}

handler_leads : AreReadAgain → (whole parts : Parts) (names : Naming) (part : HandlerPart) → KnowsPorts whole names → KnowsCauses whole names → IsNew names part.name → HandlerFit parts.version (length whole.ports) (length whole.causes) part → IsHandlerValued part
    → length parts.handlers < 256
    → Leads (outside parts names []) (handler_lines whole part) (outside (record parts { handlers = parts.handlers ++ part ∷ [] }) (names ++ (part.name, kinds.Handler (length parts.handlers)) ∷ []) [])
handler_leads again whole parts names part ports causes new fit valued room =
    let entry : Naming = (part.name, kinds.Handler (length parts.handlers)) ∷ [] in
    let closed : Declared = outside (record parts { handlers = parts.handlers ++ part ∷ [] }) (names ++ entry) [] in (
      with_handler (outside parts names []) part.name,
      open_step parts names part.name new room,
      leads_on (inside parts (names ++ entry) [] (blocks.Handler (begun part.name []))) (inside parts (names ++ entry) [] (blocks.Handler part)) closed (map (action_words whole) part.handler.actions) (end_words ∷ [])
          (actions_lead again whole parts (names ++ entry) part.name part.handler.actions (ports_stay whole names entry ports) (causes_stay whole names entry causes) fit.0 valued fit.1)
          (closed, end_step parts (names ++ entry) part, refl),
    )

pub handlers_lead : AreReadAgain → (whole parts : Parts) (front : Naming) (handlers : List HandlerPart) → KnowsPorts whole front → KnowsCauses whole front → Each (HandlerFit parts.version (length whole.ports) (length whole.causes)) handlers → All IsHandlerValued handlers
    → length handlers ≤ 256 → Good (names_of (front ++ handler_entries handlers))
    → Leads (outside (record parts { handlers = [] }) front []) (flat_map (handler_lines whole) handlers) (outside (record parts { handlers = handlers }) (front ++ handler_entries handlers) [])
handlers_lead again whole parts front handlers ports causes fit valued room good =
    leads_from (outside (record parts { handlers = [] }) (front ++ []) []) _ _ _ (ap (λ n. outside (record parts { handlers = [] }) n []) (append-nil front))
    (walk (handler_lines whole) (λ done. outside (record parts { handlers = done }) (front ++ handler_entries done) []) handlers
    (λ done part rest e.
    leads_to (outside (record parts { handlers = done }) (front ++ handler_entries done) [])
    (outside (record parts { handlers = done ++ part ∷ [] }) ((front ++ handler_entries done) ++ (part.name, kinds.Handler (length done)) ∷ []) []) _ (handler_lines whole part)
    (handler_leads again whole (record parts { handlers = done }) (front ++ handler_entries done) part
    (ports_stay whole front (handler_entries done) ports)
    (causes_stay whole front (handler_entries done) causes)
    (next_new (λ (part : HandlerPart). part.name) kinds.Handler front done part rest handlers e good)
    (each_at (HandlerFit parts.version (length whole.ports) (length whole.causes)) done part rest handlers e fit)
    (all_at IsHandlerValued done part rest handlers e valued)
    (room_before 256 done part rest handlers e room))
    (ap (λ n. outside (record parts { handlers = done ++ part ∷ [] }) n []) (next_names (λ (part : HandlerPart). part.name) kinds.Handler front done part))))
