-- A line leaves what is declared sound.
use Rattle.std.proofs.Common.{◌≡◌, ℕ, ◌+◌, ◌<◌, true, false, List, [], ◌∷◌, ◌++◌, length, Some, inl, inr, refl, sym, ap, subst, ◌∙◌, arith, append_assoc, append-nil}
use Rattle.std.specs.Prelude.{◌==◌, flat_map}
use Rattle.std.proofs.lemmas.List.{length_push as one_more}
use Rattle.ccr_base.specs.declared.policies.Group.{Group}
use Rattle.ccr_base.specs.declared.handlers.Action.{Action}
use Rattle.ccr_base.specs.declared.messages.Sent.{Sent}
use Rattle.ccr_base.proofs.Texts.{same_text}
use Rattle.ccr_base.proofs.Lists.{flat_push}
use Rattle.ccr_text.specs.Fields.{Words}
use Rattle.ccr_wiring.specs.declared.parts.Parts.{Parts}
use Rattle.ccr_wiring.specs.declared.parts.SetPart.{SetPart}
use Rattle.ccr_wiring.specs.declared.parts.CausePart.{CausePart}
use Rattle.ccr_wiring.specs.declared.parts.QueuePart.{QueuePart}
use Rattle.ccr_wiring.specs.declared.parts.HandlerPart.{HandlerPart}
use Rattle.ccr_wiring.specs.declared.parts.BranchPart.{BranchPart}
use Rattle.ccr_wiring.specs.declared.parts.ArbiterPart.{ArbiterPart}
use Rattle.ccr_wiring.specs.declared.parts.PosterPart.{PosterPart}
use Rattle.ccr_wiring.specs.declared.parts.DomainPart.{DomainPart}
use Rattle.ccr_wiring.specs.declared.parts.Kind.{Kind}
use Rattle.ccr_wiring.specs.declared.parts.Kind.TheVariants as arbiters
use Rattle.ccr_wiring.specs.Groups.{is_receive, may_have}
use Rattle.ccr_wiring.specs.Repeats.{members_in_all}
use Rattle.ccr_wiring.specs.Spots.{branch_named, named_ports}
use Rattle.ccr_wiretext.specs.declared.keyword.Keyword.{Keyword}
use Rattle.ccr_wiretext.specs.declared.keyword.Keyword.TheVariants as keywords
use Rattle.ccr_wiretext.specs.declared.named.Named.{Named}
use Rattle.ccr_wiretext.specs.declared.named.Named.TheVariants as kinds
use Rattle.ccr_wiretext.specs.declared.draft.Block.{Block}
use Rattle.ccr_wiretext.specs.declared.draft.Block.TheVariants as blocks
use Rattle.ccr_wiretext.specs.Names.{Naming}
use Rattle.ccr_wiretext.specs.Drafts.{Declared, receiver}
use Rattle.ccr_wiretext.specs.Blocks.{group_of, apart}
use Rattle.ccr_wiretext.specs.Lines.{IsBudget, IsQueue, IsName, IsSet, IsCause, IsCombine, IsReceive, IsBranch, IsAction, IsPost, SaysOutside, SaysInPoster, Says}
use Rattle.ccr_base.proofs.Lists.{each_push}
use Rattle.ccr_base.specs.Lists.{are_apart}
use Rattle.ccr_wiretext.proofs.Fit.{ActionFit, BranchFit, PostFit}
use Rattle.ccr_wiretext.proofs.SpotCounts.{uncrowded_more, arbiters_same, arbiter_named}
use Rattle.ccr_wiretext.proofs.Sound.{KindFit, Sound, queue_fits, port_fits, set_fits, cause_fits, handler_fits, arbiter_fits, poster_fits, domain_fits}
use Rattle.ccr_wiretext.proofs.LinesFit.{policy_fit, members_fit, causes_fit, branch_fit, action_fit, value_fit, interleaves_fit, port_there, receive_group, group_may}
use Rattle.ccr_wiretext.proofs.NamesAdded.{sum_push, known_more, queue_adds, port_adds, set_adds, cause_adds, handler_adds, arbiter_adds, branch_adds, poster_adds, names_same, posters_same}

-- ---- the lines outside blocks

budget_sound : (draft : Declared) (words : Words) (n : ℕ) → Sound draft.parts draft.names draft.spotted blocks.Outside → IsBudget draft words n → Sound (record draft.parts { budget = n }) draft.names draft.spotted blocks.Outside
budget_sound draft words n s said = let c = s.counts in record {
  counts = record { budget = said.within.below; queues = c.queues; ports = c.ports; sets = c.sets; causes = c.causes; handlers = c.handlers; arbiters = c.arbiters; branches = c.branches; posters = c.posters; posts = c.posts; domains = c.domains };
  fits = record { queues = s.fits.queues; sets = s.fits.sets; causes = s.fits.causes; handlers = s.fits.handlers; arbiters = s.fits.arbiters; posters = s.fits.posters; domains = s.fits.domains; combined = s.fits.combined; closed = s.fits.closed };
  version = s.version;
  known = known_more draft.parts (record draft.parts { budget = n }) (length draft.parts.handlers) (length draft.parts.handlers) (omega arith) (omega arith) (omega arith) (omega arith) draft.names s.known;
  apart = s.apart;
  spots = s.spots;
  uncrowded = s.uncrowded;
  begun = tt;
}

queue_sound : (draft : Declared) (words : Words) (part : QueuePart) → Sound draft.parts draft.names draft.spotted blocks.Outside → IsQueue draft words part
    → Sound (record draft.parts { queues = draft.parts.queues ++ part ∷ [] }) (draft.names ++ (part.name, kinds.Queue (length draft.parts.queues)) ∷ []) draft.spotted blocks.Outside
queue_sound draft words part s said =
    let c = s.counts in
    let more = one_more draft.parts.queues part in
    let room = said.room in
    let new : Parts = record draft.parts { queues = draft.parts.queues ++ part ∷ [] } in
    let h : ℕ = length draft.parts.handlers in
    record {
      counts = record { budget = c.budget; queues = omega arith; ports = c.ports; sets = c.sets; causes = c.causes; handlers = c.handlers; arbiters = c.arbiters; branches = c.branches; posters = c.posters; posts = c.posts; domains = c.domains };
      fits = queue_fits draft.parts part s.fits (policy_fit said.rule part.policy said.policy);
      version = s.version;
      known = each_push (λ (entry : List ℕ × Named). KindFit new h entry.1) draft.names (part.name, kinds.Queue (length draft.parts.queues))
          (known_more draft.parts new h h (omega arith) (omega arith) (omega arith) (omega arith) draft.names s.known) (omega arith);
      apart = queue_adds draft.parts draft.names part (kinds.Queue (length draft.parts.queues)) said.name s.apart;
      spots = s.spots;
      uncrowded = s.uncrowded;
      begun = tt;
    }

port_sound : (draft : Declared) (words : Words) (name : List ℕ) → Sound draft.parts draft.names draft.spotted blocks.Outside → IsName 256 (length draft.parts.ports) draft words name
    → Sound (record draft.parts { ports = draft.parts.ports ++ name ∷ [] }) (draft.names ++ (name, kinds.Port (length draft.parts.ports)) ∷ []) draft.spotted blocks.Outside
port_sound draft words name s said =
    let c = s.counts in
    let more = one_more draft.parts.ports name in
    let room = said.room in
    let new : Parts = record draft.parts { ports = draft.parts.ports ++ name ∷ [] } in
    let h : ℕ = length draft.parts.handlers in
    record {
      counts = record { budget = c.budget; queues = c.queues; ports = omega arith; sets = c.sets; causes = c.causes; handlers = c.handlers; arbiters = c.arbiters; branches = c.branches; posters = c.posters; posts = c.posts; domains = c.domains };
      fits = port_fits draft.parts name s.fits;
      version = s.version;
      known = each_push (λ (entry : List ℕ × Named). KindFit new h entry.1) draft.names (name, kinds.Port (length draft.parts.ports))
          (known_more draft.parts new h h (omega arith) (omega arith) (omega arith) (omega arith) draft.names s.known) (omega arith);
      apart = port_adds draft.parts draft.names name (kinds.Port (length draft.parts.ports)) said.new s.apart;
      spots = s.spots;
      uncrowded = s.uncrowded;
      begun = tt;
    }

set_sound : (draft : Declared) (words : Words) (part : SetPart) → Sound draft.parts draft.names draft.spotted blocks.Outside → IsSet draft words part
    → Sound (record draft.parts { sets = draft.parts.sets ++ part ∷ [] }) (draft.names ++ (part.name, kinds.Set (length draft.parts.sets)) ∷ []) draft.spotted blocks.Outside
set_sound draft words part s said =
    let c = s.counts in
    let more = one_more draft.parts.sets part in
    let room = said.room in
    let new : Parts = record draft.parts { sets = draft.parts.sets ++ part ∷ [] } in
    let h : ℕ = length draft.parts.handlers in
    let fit = members_fit draft h s.known part.ports said.rest said.ports in
    record {
      counts = record { budget = c.budget; queues = c.queues; ports = c.ports; sets = omega arith; causes = c.causes; handlers = c.handlers; arbiters = c.arbiters; branches = c.branches; posters = c.posters; posts = c.posts; domains = c.domains };
      fits = set_fits draft.parts part s.fits (fit.0, fit.1, said.some, said.few);
      version = s.version;
      known = each_push (λ (entry : List ℕ × Named). KindFit new h entry.1) draft.names (part.name, kinds.Set (length draft.parts.sets))
          (known_more draft.parts new h h (omega arith) (omega arith) (omega arith) (omega arith) draft.names s.known) tt;
      apart = set_adds draft.parts draft.names part (kinds.Set (length draft.parts.sets)) said.name s.apart;
      spots = s.spots;
      uncrowded = s.uncrowded;
      begun = tt;
    }

cause_sound : (draft : Declared) (words : Words) (part : CausePart) → Sound draft.parts draft.names draft.spotted blocks.Outside → IsCause draft words part
    → Sound (record draft.parts { causes = draft.parts.causes ++ part ∷ [] }) (draft.names ++ (part.name, kinds.Cause (length draft.parts.causes)) ∷ []) draft.spotted blocks.Outside
cause_sound draft words part s said =
    let c = s.counts in
    let more = one_more draft.parts.causes part in
    let room = said.room in
    let new : Parts = record draft.parts { causes = draft.parts.causes ++ part ∷ [] } in
    let h : ℕ = length draft.parts.handlers in
    record {
      counts = record { budget = c.budget; queues = c.queues; ports = c.ports; sets = c.sets; causes = omega arith; handlers = c.handlers; arbiters = c.arbiters; branches = c.branches; posters = c.posters; posts = c.posts; domains = c.domains };
      fits = cause_fits draft.parts part s.fits (port_there draft h said.port part.port s.known said.refers);
      version = s.version;
      known = each_push (λ (entry : List ℕ × Named). KindFit new h entry.1) draft.names (part.name, kinds.Cause (length draft.parts.causes))
          (known_more draft.parts new h h (omega arith) (omega arith) (omega arith) (omega arith) draft.names s.known) (omega arith);
      apart = cause_adds draft.parts draft.names part (kinds.Cause (length draft.parts.causes)) said.name s.apart;
      spots = s.spots;
      uncrowded = s.uncrowded;
      begun = tt;
    }

receive_sound : (draft : Declared) (words : Words) (branch : BranchPart) → Sound draft.parts draft.names draft.spotted blocks.Outside → IsReceive draft words branch
    → Sound (record draft.parts { arbiters = draft.parts.arbiters ++ receiver branch ∷ [] }) (draft.names ++ (branch.name, kinds.Branch) ∷ []) (draft.spotted ++ branch_named draft.parts branch) blocks.Outside
receive_sound draft words branch s said =
    let c = s.counts in
    let more = one_more draft.parts.arbiters (receiver branch) in
    let room = said.room in
    let branch_room = said.branch_room in
    let counted = sum_push (λ (arbiter : ArbiterPart). length arbiter.branches) draft.parts.arbiters (receiver branch) in
    let new : Parts = record draft.parts { arbiters = draft.parts.arbiters ++ receiver branch ∷ [] } in
    let h : ℕ = length draft.parts.handlers in
    record {
      counts = record { budget = c.budget; queues = c.queues; ports = c.ports; sets = c.sets; causes = c.causes; handlers = c.handlers; arbiters = omega arith; branches = omega (arith, counted); posters = c.posters; posts = c.posts; domains = c.domains };
      fits = arbiter_fits draft.parts (receiver branch) s.fits (((branch_fit draft h s.known said.rest branch said.tail, receive_group said.group branch.group said.grouped), tt), inl (refl, same_text branch.name));
      version = s.version;
      known = each_push (λ (entry : List ℕ × Named). KindFit new h entry.1) draft.names (branch.name, kinds.Branch)
          (known_more draft.parts new h h (omega arith) (omega arith) (omega arith) (omega arith) draft.names s.known) tt;
      apart = arbiter_adds draft.parts draft.names (receiver branch) branch.name kinds.Branch refl said.name s.apart;
      spots = ap (λ (t : List ℕ). t ++ branch_named draft.parts branch) (s.spots ∙ append-nil (named_ports draft.parts))
          ∙ sym (flat_push (arbiter_named draft.parts) draft.parts.arbiters (receiver branch) ∙ ap (λ (t : List ℕ). named_ports draft.parts ++ t) (append-nil (branch_named draft.parts branch))) ∙ sym (append-nil (flat_map (arbiter_named draft.parts) (draft.parts.arbiters ++ receiver branch ∷ [])));
      uncrowded = uncrowded_more draft branch s.uncrowded said.tail.uncrowded;
      begun = tt;
    }

domain_sound : (draft : Declared) (words : Words) (part : DomainPart) → Sound draft.parts draft.names draft.spotted blocks.Outside → IsCombine draft words part
    → Sound (record draft.parts { domains = draft.parts.domains ++ part ∷ [] }) draft.names draft.spotted blocks.Outside
domain_sound draft words part s said =
    let c = s.counts in
    let more = one_more draft.parts.domains part in
    let room = said.room in
    let earlier : List ℕ = members_in_all draft.parts.domains in
    let fit = interleaves_fit draft [] part.members words (rw (append-nil earlier) s.fits.combined) said.members in
    record {
      counts = record { budget = c.budget; queues = c.queues; ports = c.ports; sets = c.sets; causes = c.causes; handlers = c.handlers; arbiters = c.arbiters; branches = c.branches; posters = c.posters; posts = c.posts; domains = omega arith };
      fits = domain_fits draft.parts part s.fits (fit.0, said.some, said.few) (ap are_apart (flat_push (λ (domain : DomainPart). domain.members) draft.parts.domains part) ∙ fit.1);
      version = s.version;
      known = known_more draft.parts (record draft.parts { domains = draft.parts.domains ++ part ∷ [] }) (length draft.parts.handlers) (length draft.parts.handlers) (omega arith) (omega arith) (omega arith) (omega arith) draft.names s.known;
      apart = s.apart;
      spots = s.spots;
      uncrowded = s.uncrowded;
      begun = tt;
    }

-- ---- blocks open

handler_sound : (draft : Declared) (words : Words) (name : List ℕ) → Sound draft.parts draft.names draft.spotted blocks.Outside → IsName 256 (length draft.parts.handlers) draft words name
    → Sound draft.parts (draft.names ++ (name, kinds.Handler (length draft.parts.handlers)) ∷ []) draft.spotted (blocks.Handler (record { name = name; handler = record { actions = [] } }))
handler_sound draft words name s said =
    let h : ℕ = length draft.parts.handlers in
    record {
      counts = s.counts;
      fits = s.fits;
      version = s.version;
      known = each_push (λ (entry : List ℕ × Named). KindFit draft.parts (h + 1) entry.1) draft.names (name, kinds.Handler h)
          (known_more draft.parts draft.parts h (h + 1) (omega arith) (omega arith) (omega arith) (omega arith) draft.names s.known) (omega arith);
      apart = handler_adds draft.parts draft.names (record { name = name; handler = record { actions = [] } }) (kinds.Handler h) said.new s.apart;
      spots = s.spots;
      uncrowded = s.uncrowded;
      begun = ((tt, omega arith), said.room);
    }

block_sound : (draft : Declared) (words : Words) (name : List ℕ) (kind : Kind) → is_receive kind ≡ false → Sound draft.parts draft.names draft.spotted blocks.Outside → IsName 256 (length draft.parts.arbiters) draft words name
    → Sound draft.parts (draft.names ++ (name, kinds.Arbiter (length draft.parts.arbiters)) ∷ []) draft.spotted (blocks.Arbiter (record { name = name; kind = kind; branches = [] }))
block_sound draft words name kind block s said =
    let h : ℕ = length draft.parts.handlers in
    let branches = s.counts.branches in
    record {
      counts = s.counts;
      fits = s.fits;
      version = s.version;
      known = each_push (λ (entry : List ℕ × Named). KindFit draft.parts h entry.1) draft.names (name, kinds.Arbiter (length draft.parts.arbiters)) s.known tt;
      apart = arbiter_adds draft.parts draft.names (record { name = name; kind = kind; branches = [] }) name (kinds.Arbiter (length draft.parts.arbiters)) (rw block refl) said.new s.apart;
      spots = s.spots;
      uncrowded = s.uncrowded;
      begun = (tt, block, said.room, omega arith);
    }

poster_sound : (draft : Declared) (words : Words) (name : List ℕ) → Sound draft.parts draft.names draft.spotted blocks.Outside → IsName 16 (length draft.parts.posters) draft words name
    → Sound draft.parts (draft.names ++ (name, kinds.Poster) ∷ []) draft.spotted (blocks.Poster (record { name = name; posts = [] }))
poster_sound draft words name s said =
    let h : ℕ = length draft.parts.handlers in
    let posts = s.counts.posts in
    record {
      counts = s.counts;
      fits = s.fits;
      version = s.version;
      known = each_push (λ (entry : List ℕ × Named). KindFit draft.parts h entry.1) draft.names (name, kinds.Poster) s.known tt;
      apart = poster_adds draft.parts draft.names (record { name = name; posts = [] }) kinds.Poster said.new s.apart;
      spots = s.spots;
      uncrowded = s.uncrowded;
      begun = (tt, said.room, omega arith);
    }

-- ---- lines in blocks

action_sound : (draft : Declared) (part : HandlerPart) (first : Keyword) (words : Words) (action : Action) → Sound draft.parts draft.names draft.spotted (blocks.Handler part) → length part.handler.actions < 16 → IsAction draft first words action
    → Sound draft.parts draft.names draft.spotted (blocks.Handler (record part { handler = record { actions = part.handler.actions ++ action ∷ [] } }))
action_sound draft part first words action s room said =
    let more = one_more part.handler.actions action in
    record {
      counts = s.counts;
      fits = s.fits;
      version = s.version;
      known = s.known;
      apart = names_same draft.parts draft.names part (record part { handler = record { actions = part.handler.actions ++ action ∷ [] } }) refl s.apart;
      spots = s.spots;
      uncrowded = s.uncrowded;
      begun = ((each_push (ActionFit draft.parts.version (length draft.parts.ports) (length draft.parts.causes)) part.handler.actions action s.begun.0.0 (action_fit draft (length draft.parts.handlers + 1) s.known first words action said), omega arith), s.begun.1);
    }

post_sound : (draft : Declared) (part : PosterPart) (words : Words) (post : Sent) → Sound draft.parts draft.names draft.spotted (blocks.Poster part) → IsPost draft part words post
    → Sound draft.parts draft.names draft.spotted (blocks.Poster (record part { posts = part.posts ++ post ∷ [] }))
post_sound draft part words post s said =
    let more = one_more part.posts post in
    let room = said.room in
    let h : ℕ = length draft.parts.handlers in
    let caused = causes_fit draft h s.known post.causes said.rest said.causes in
    record {
      counts = s.counts;
      fits = s.fits;
      version = s.version;
      known = s.known;
      apart = posters_same draft.parts draft.names part (record part { posts = part.posts ++ post ∷ [] }) refl s.apart;
      spots = s.spots;
      uncrowded = s.uncrowded;
      begun = (each_push (PostFit draft.parts.version (length draft.parts.ports) (length draft.parts.causes)) part.posts post s.begun.0 (port_there draft h said.to post.port s.known said.refers, caused.0, caused.1, value_fit draft.parts.version said.value post.value said.numbers), s.begun.1, omega arith);
    }

branch_sound : (draft : Declared) (part : ArbiterPart) (first : Keyword) (g : Group) (words : Words) (branch : BranchPart) → Sound draft.parts draft.names draft.spotted (blocks.Arbiter part) → group_of part.kind first ≡ Some g → IsBranch draft part g words branch
    → Sound draft.parts (draft.names ++ (branch.name, kinds.Branch) ∷ []) (draft.spotted ++ branch_named draft.parts branch) (blocks.Arbiter (record part { branches = part.branches ++ branch ∷ [] }))
branch_sound draft part first g words branch s may said =
    let more = one_more part.branches branch in
    let room = said.branch_room in
    let h : ℕ = length draft.parts.handlers in
    let fit : BranchFit (length draft.parts.queues) h (length draft.parts.ports) branch × (may_have part.kind branch.group ≡ true) =
    (branch_fit draft h s.known said.rest branch said.tail, ap (may_have part.kind) said.grouped ∙ group_may part.kind first g may) in
    record {
      counts = s.counts;
      fits = s.fits;
      version = s.version;
      known = each_push (λ (entry : List ℕ × Named). KindFit draft.parts h entry.1) draft.names (branch.name, kinds.Branch) s.known tt;
      apart = branch_adds draft.parts draft.names part branch kinds.Branch s.begun.1 said.name s.apart;
      spots = ap (λ (t : List ℕ). t ++ branch_named draft.parts branch) s.spots ∙ append_assoc (named_ports draft.parts) (arbiter_named draft.parts part) (branch_named draft.parts branch)
          ∙ ap (λ (t : List ℕ). named_ports draft.parts ++ t) (sym (flat_push (branch_named draft.parts) part.branches branch));
      uncrowded = uncrowded_more draft branch s.uncrowded said.tail.uncrowded;
      begun = (each_push (λ (b : BranchPart). BranchFit (length draft.parts.queues) h (length draft.parts.ports) b × (may_have part.kind b.group ≡ true)) part.branches branch s.begun.0 fit, s.begun.1, s.begun.2, omega arith);
    }

-- ---- blocks close

handler_closed : (parts : Parts) (names : Naming) (spotted : List ℕ) (part : HandlerPart) → Sound parts names spotted (blocks.Handler part) → Sound (record parts { handlers = parts.handlers ++ part ∷ [] }) names spotted blocks.Outside
handler_closed parts names spotted part s =
    let c = s.counts in
    let more = one_more parts.handlers part in
    let room = s.begun.1 in
    let new : Parts = record parts { handlers = parts.handlers ++ part ∷ [] } in
    record {
      counts = record { budget = c.budget; queues = c.queues; ports = c.ports; sets = c.sets; causes = c.causes; handlers = omega arith; arbiters = c.arbiters; branches = c.branches; posters = c.posters; posts = c.posts; domains = c.domains };
      fits = handler_fits parts part s.fits s.begun.0;
      version = s.version;
      known = known_more parts new (length parts.handlers + 1) (length (parts.handlers ++ part ∷ [])) (omega arith) (omega arith) (omega arith) (omega arith) names s.known;
      apart = s.apart;
      spots = s.spots ∙ ap (λ (t : List ℕ). t ++ []) (sym (arbiters_same (length parts.queues) (length parts.ports) parts part parts.arbiters s.fits.arbiters));
      uncrowded = s.uncrowded;
      begun = tt;
    }

arbiter_closed : (parts : Parts) (names : Naming) (spotted : List ℕ) (part : ArbiterPart) → (length part.branches == 0) ≡ false → Sound parts names spotted (blocks.Arbiter part) → Sound (record parts { arbiters = parts.arbiters ++ part ∷ [] }) names spotted blocks.Outside
arbiter_closed parts names spotted part some s =
    let c = s.counts in
    let more = one_more parts.arbiters part in
    let room = s.begun.2 in
    let branches = s.begun.3 in
    let counted = sum_push (λ (arbiter : ArbiterPart). length arbiter.branches) parts.arbiters part in
    let new : Parts = record parts { arbiters = parts.arbiters ++ part ∷ [] } in
    let h : ℕ = length parts.handlers in
    record {
      counts = record { budget = c.budget; queues = c.queues; ports = c.ports; sets = c.sets; causes = c.causes; handlers = c.handlers; arbiters = omega arith; branches = omega (arith, counted); posters = c.posters; posts = c.posts; domains = c.domains };
      fits = arbiter_fits parts part s.fits (s.begun.0, inr (s.begun.1, some));
      version = s.version;
      known = known_more parts new h h (omega arith) (omega arith) (omega arith) (omega arith) names s.known;
      apart = s.apart;
      spots = s.spots ∙ sym (flat_push (arbiter_named parts) parts.arbiters part) ∙ sym (append-nil (flat_map (arbiter_named parts) (parts.arbiters ++ part ∷ [])));
      uncrowded = s.uncrowded;
      begun = tt;
    }

poster_closed : (parts : Parts) (names : Naming) (spotted : List ℕ) (part : PosterPart) → Sound parts names spotted (blocks.Poster part) → Sound (record parts { posters = parts.posters ++ part ∷ [] }) names spotted blocks.Outside
poster_closed parts names spotted part s =
    let c = s.counts in
    let more = one_more parts.posters part in
    let room = s.begun.1 in
    let posts = s.begun.2 in
    let counted = sum_push (λ (poster : PosterPart). length poster.posts) parts.posters part in
    let new : Parts = record parts { posters = parts.posters ++ part ∷ [] } in
    let h : ℕ = length parts.handlers in
    record {
      counts = record { budget = c.budget; queues = c.queues; ports = c.ports; sets = c.sets; causes = c.causes; handlers = c.handlers; arbiters = c.arbiters; branches = c.branches; posters = omega arith; posts = omega (arith, counted); domains = c.domains };
      fits = poster_fits parts part s.fits s.begun.0;
      version = s.version;
      known = known_more parts new h h (omega arith) (omega arith) (omega arith) (omega arith) names s.known;
      apart = s.apart;
      spots = s.spots;
      uncrowded = s.uncrowded;
      begun = tt;
    }

-- ---- any line

abbrev pub SoundDraft : Declared → Type 0
SoundDraft draft = Sound draft.parts draft.names draft.spotted draft.block

-- a line that leaves the block as it is
stays : (parts : Parts) (names : Naming) (spotted : List ℕ) (block : Block) → block ≡ blocks.Outside → Sound parts names spotted blocks.Outside → Sound parts names spotted block
stays parts names spotted block e s = subst (Sound parts names spotted) (sym e) s

outside_sound : (draft : Declared) (first : Keyword) (words : Words) (new : Declared) → draft.block ≡ blocks.Outside → Sound draft.parts draft.names draft.spotted blocks.Outside → SaysOutside draft first words new → SoundDraft new
outside_sound draft keywords.Budget words new e s (x, said, is) = subst SoundDraft (sym is) (stays _ _ _ draft.block e (budget_sound draft words x s said))
outside_sound draft keywords.Queue words new e s (x, said, is) = subst SoundDraft (sym is) (stays _ _ _ draft.block e (queue_sound draft words x s said))
outside_sound draft keywords.Port words new e s (x, said, is) = subst SoundDraft (sym is) (stays _ _ _ draft.block e (port_sound draft words x s said))
outside_sound draft keywords.Portset words new e s (x, said, is) = subst SoundDraft (sym is) (stays _ _ _ draft.block e (set_sound draft words x s said))
outside_sound draft keywords.Cause words new e s (x, said, is) = subst SoundDraft (sym is) (stays _ _ _ draft.block e (cause_sound draft words x s said))
outside_sound draft keywords.Handler words new e s (x, said, is) = subst SoundDraft (sym is) (handler_sound draft words x s said)
outside_sound draft keywords.Receive words new e s (x, said, is) = subst SoundDraft (sym is) (stays _ _ _ draft.block e (receive_sound draft words x s said))
outside_sound draft keywords.Choice words new e s (x, said, is) = subst SoundDraft (sym is) (block_sound draft words x arbiters.Choice refl s said)
outside_sound draft keywords.Interleave words new e s (x, said, is) = subst SoundDraft (sym is) (block_sound draft words x arbiters.Interleave refl s said)
outside_sound draft keywords.Combine words new e s (x, said, is) = subst SoundDraft (sym is) (stays _ _ _ draft.block e (domain_sound draft words x s said))
outside_sound draft keywords.Poster words new e s (x, said, is) = subst SoundDraft (sym is) (poster_sound draft words x s said)
outside_sound draft keywords.Post words new e s said = absurd said
outside_sound draft keywords.Fail words new e s said = absurd said
outside_sound draft keywords.Add words new e s said = absurd said
outside_sound draft keywords.Remove words new e s said = absurd said
outside_sound draft keywords.Await words new e s said = absurd said
outside_sound draft keywords.Branch words new e s said = absurd said
outside_sound draft keywords.Teardown words new e s said = absurd said
outside_sound draft keywords.Exclusive words new e s said = absurd said
outside_sound draft keywords.Concurrent words new e s said = absurd said
outside_sound draft keywords.End words new e s said = absurd said
outside_sound draft keywords.Other words new e s said = absurd said

in_poster_sound : (draft : Declared) (part : PosterPart) (first : Keyword) (words : Words) (new : Declared) → Sound draft.parts draft.names draft.spotted (blocks.Poster part) → SaysInPoster (apart draft) part first words new → SoundDraft new
in_poster_sound draft part keywords.Budget words new s said = absurd said
in_poster_sound draft part keywords.Queue words new s said = absurd said
in_poster_sound draft part keywords.Port words new s said = absurd said
in_poster_sound draft part keywords.Portset words new s said = absurd said
in_poster_sound draft part keywords.Cause words new s said = absurd said
in_poster_sound draft part keywords.Handler words new s said = absurd said
in_poster_sound draft part keywords.Receive words new s said = absurd said
in_poster_sound draft part keywords.Choice words new s said = absurd said
in_poster_sound draft part keywords.Interleave words new s said = absurd said
in_poster_sound draft part keywords.Combine words new s said = absurd said
in_poster_sound draft part keywords.Poster words new s said = absurd said
in_poster_sound draft part keywords.Post words new s (x, said, is) = subst SoundDraft (sym is) (post_sound (apart draft) part words x s said)
in_poster_sound draft part keywords.Fail words new s said = absurd said
in_poster_sound draft part keywords.Add words new s said = absurd said
in_poster_sound draft part keywords.Remove words new s said = absurd said
in_poster_sound draft part keywords.Await words new s said = absurd said
in_poster_sound draft part keywords.Branch words new s said = absurd said
in_poster_sound draft part keywords.Teardown words new s said = absurd said
in_poster_sound draft part keywords.Exclusive words new s said = absurd said
in_poster_sound draft part keywords.Concurrent words new s said = absurd said
in_poster_sound draft part keywords.End words new s (none, is) = subst SoundDraft (sym is) (poster_closed draft.parts draft.names draft.spotted part s)
in_poster_sound draft part keywords.Other words new s said = absurd said

pub line_sound : (block : Block) (draft : Declared) (first : Keyword) (words : Words) (new : Declared) → draft.block ≡ block → Sound draft.parts draft.names draft.spotted block → Says block draft first words new → SoundDraft new
line_sound blocks.Outside draft first words new e s said = outside_sound draft first words new e s said
line_sound (blocks.Handler part) draft first words new e s (inl (end, none, is)) = subst SoundDraft (sym is) (handler_closed draft.parts draft.names draft.spotted part s)
line_sound (blocks.Handler part) draft first words new e s (inr (action, room, said, is)) = subst SoundDraft (sym is) (action_sound (apart draft) part first words action s room said)
line_sound (blocks.Arbiter part) draft first words new e s (inl (end, none, some, is)) = subst SoundDraft (sym is) (arbiter_closed draft.parts draft.names draft.spotted part some s)
line_sound (blocks.Arbiter part) draft first words new e s (inr (g, may, branch, said, is)) = subst SoundDraft (sym is) (branch_sound (apart draft) part first g words branch s may said)
line_sound (blocks.Poster part) draft first words new e s said = in_poster_sound draft part first words new s said
