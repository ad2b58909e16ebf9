-- The grammar of the lines: which words say what is declared next, line form by line form, and of a whole text.
use Rattle.std.specs.Prelude.{◌≡◌, ℕ, ◌+◌, ◌<◌, ◌≤◌, ◌==◌, true, false, List, [], ◌∷◌, length, Some, ◌⊎◌}
use Rattle.ccr_base.specs.Bounds.{most_actions, most_arbiters, most_branches, most_causes, most_domains, most_handlers, most_members, most_ports, most_posters, most_queues, most_script_posts, most_set_ports, most_sets, most_task_posts}
use Rattle.ccr_base.specs.declared.handlers.Action.{Action}
use Rattle.ccr_base.specs.declared.handlers.Action.TheVariants as actions
use Rattle.ccr_base.specs.declared.messages.Sent.{Sent}
use Rattle.ccr_base.specs.declared.policies.Group.{Group}
use Rattle.ccr_wiring.specs.declared.parts.Parts.{Parts}
use Rattle.ccr_wiring.specs.declared.parts.QueuePart.{QueuePart}
use Rattle.ccr_wiring.specs.declared.parts.SetPart.{SetPart}
use Rattle.ccr_wiring.specs.declared.parts.CausePart.{CausePart}
use Rattle.ccr_wiring.specs.declared.parts.BranchPart.{BranchPart}
use Rattle.ccr_wiring.specs.declared.parts.ArbiterPart.{ArbiterPart}
use Rattle.ccr_wiring.specs.declared.parts.HandlerPart.{HandlerPart}
use Rattle.ccr_wiring.specs.declared.parts.PosterPart.{PosterPart}
use Rattle.ccr_wiring.specs.declared.parts.DomainPart.{DomainPart}
use Rattle.ccr_wiring.specs.declared.parts.Kind.TheVariants as arbiters
use Rattle.ccr_text.specs.declared.lines.Line.{Line}
use Rattle.ccr_text.specs.Lines.{lines_of}
use Rattle.ccr_text.specs.Fields.{Words}
use Rattle.ccr_text.specs.Words.{is_comment}
use Rattle.ccr_wiretext.specs.declared.keyword.Keyword.{Keyword}
use Rattle.ccr_wiretext.specs.declared.keyword.Keyword.TheVariants as keywords
use Rattle.ccr_wiretext.specs.declared.draft.Block.{Block}
use Rattle.ccr_wiretext.specs.declared.draft.Block.TheVariants as blocks
use Rattle.ccr_wiretext.specs.Keywords.{keyword}
use Rattle.ccr_wiretext.specs.Names.{as_queue, as_cause, as_handler}
use Rattle.ccr_wiretext.specs.Drafts.{Declared, branch_count, script_count, nothing, with_budget, with_queue, with_port, with_set, with_cause, with_receive, with_handler, with_arbiter, with_poster, with_domain, with_action, with_branch, with_post, end_handler, end_arbiter, end_poster}
use Rattle.ccr_wiretext.specs.Forms.{crowds}
use Rattle.ccr_wiretext.specs.Blocks.{group_of, apart}
use Rattle.ccr_wiretext.specs.Reading.{version_of}
use Rattle.ccr_wiretext.specs.Grammar.{IsNew, Refers, IsPort, IsWithin, IsPolicy, IsGroup, IsValueWord, IsExpr, IsPattern, ArePorts, AreInterleaves, AreCauses}

-- budget N
pub record IsBudget (draft : Declared) (words : Words) (budget : ℕ) : Type 0 where
  pub once : draft.budgeted ≡ false
  pub digits : List ℕ
  pub spelled : words ≡ digits ∷ []
  pub within : IsWithin 0 most_task_posts digits budget

-- queue NAME POLICY
pub record IsQueue (draft : Declared) (words : Words) (part : QueuePart) : Type 0 where
  pub room : length draft.parts.queues < most_queues
  pub rule : Words
  pub spelled : words ≡ part.name ∷ rule
  pub name : IsNew draft.names part.name
  pub policy : IsPolicy rule part.policy

-- a name alone
pub record IsName (limit count : ℕ) (draft : Declared) (words : Words) (name : List ℕ) : Type 0 where
  pub room : count < limit
  pub spelled : words ≡ name ∷ []
  pub new : IsNew draft.names name

-- portset NAME PORT ..
pub record IsSet (draft : Declared) (words : Words) (part : SetPart) : Type 0 where
  pub room : length draft.parts.sets < most_sets
  pub rest : Words
  pub spelled : words ≡ part.name ∷ rest
  pub name : IsNew draft.names part.name
  pub ports : ArePorts draft [] part.ports rest
  pub some : 1 ≤ length part.ports
  pub few : length part.ports ≤ most_set_ports

-- cause NAME PORT
pub record IsCause (draft : Declared) (words : Words) (part : CausePart) : Type 0 where
  pub room : length draft.parts.causes < most_causes
  pub port : List ℕ
  pub spelled : words ≡ part.name ∷ port ∷ []
  pub name : IsNew draft.names part.name
  pub refers : IsPort draft port part.port

-- combine INTERLEAVE INTERLEAVE ..
pub record IsCombine (draft : Declared) (words : Words) (part : DomainPart) : Type 0 where
  pub room : length draft.parts.domains < most_domains
  pub members : AreInterleaves draft [] part.members words
  pub some : 2 ≤ length part.members
  pub few : length part.members ≤ most_members

-- QUEUE HANDLER PATTERN
pub record IsBranchTail (draft : Declared) (words : Words) (branch : BranchPart) : Type 0 where
  pub queue : List ℕ
  pub handler : List ℕ
  pub shape : Words
  pub spelled : words ≡ queue ∷ handler ∷ shape
  pub queued : Refers as_queue draft.names queue branch.queue
  pub handled : Refers as_handler draft.names handler branch.handler
  pub pattern : IsPattern draft shape branch.pattern
  pub uncrowded : crowds draft branch ≡ false

-- receive NAME GROUP QUEUE HANDLER PATTERN
pub record IsReceive (draft : Declared) (words : Words) (branch : BranchPart) : Type 0 where
  pub room : length draft.parts.arbiters < most_arbiters
  pub branch_room : branch_count draft.parts < most_branches
  pub group : List ℕ
  pub rest : Words
  pub spelled : words ≡ branch.name ∷ group ∷ rest
  pub name : IsNew draft.names branch.name
  pub grouped : IsGroup group branch.group
  pub tail : IsBranchTail draft rest branch

-- NAME QUEUE HANDLER PATTERN, behind the word of the group
pub record IsBranch (draft : Declared) (part : ArbiterPart) (group : Group) (words : Words) (branch : BranchPart) : Type 0 where
  pub branch_room : branch_count draft.parts + length part.branches < most_branches
  pub rest : Words
  pub spelled : words ≡ branch.name ∷ rest
  pub name : IsNew draft.names branch.name
  pub grouped : branch.group ≡ group
  pub tail : IsBranchTail draft rest branch

-- an action's words behind the first, by the action
abbrev pub IsAction : Declared → Keyword → Words → Action → Type 0
IsAction draft keywords.Post words (actions.Post port value) = (to : List ℕ) × (rest : Words) × (words ≡ to ∷ rest) × IsPort draft to port × IsExpr draft.parts.version rest value
IsAction draft keywords.Fail words (actions.Fail value) = IsExpr draft.parts.version words value
IsAction draft keywords.Add words (actions.Add cause) = (name : List ℕ) × (words ≡ name ∷ []) × Refers as_cause draft.names name cause
IsAction draft keywords.Remove words (actions.Remove cause) = (name : List ℕ) × (words ≡ name ∷ []) × Refers as_cause draft.names name cause
IsAction draft keywords.Await words (actions.Await port) = (from : List ℕ) × (words ≡ from ∷ []) × IsPort draft from port
IsAction draft _ words _ = ⊥

-- post PORT VALUE CAUSE .., in a poster
pub record IsPost (draft : Declared) (part : PosterPart) (words : Words) (post : Sent) : Type 0 where
  pub room : script_count draft.parts + length part.posts < most_script_posts
  pub to : List ℕ
  pub value : List ℕ
  pub rest : Words
  pub spelled : words ≡ to ∷ value ∷ rest
  pub refers : IsPort draft to post.port
  pub numbers : IsValueWord draft.parts.version value post.value
  pub causes : AreCauses draft.names [] post.causes rest

-- what a line outside blocks declares
abbrev pub SaysOutside : Declared → Keyword → Words → Declared → Type 0
SaysOutside draft keywords.Budget words new = (budget : ℕ) × IsBudget draft words budget × (new ≡ with_budget draft budget)
SaysOutside draft keywords.Queue words new = (part : QueuePart) × IsQueue draft words part × (new ≡ with_queue draft part)
SaysOutside draft keywords.Port words new = (name : List ℕ) × IsName most_ports (length draft.parts.ports) draft words name × (new ≡ with_port draft name)
SaysOutside draft keywords.Portset words new = (part : SetPart) × IsSet draft words part × (new ≡ with_set draft part)
SaysOutside draft keywords.Cause words new = (part : CausePart) × IsCause draft words part × (new ≡ with_cause draft part)
SaysOutside draft keywords.Handler words new = (name : List ℕ) × IsName most_handlers (length draft.parts.handlers) draft words name × (new ≡ with_handler draft name)
SaysOutside draft keywords.Receive words new = (branch : BranchPart) × IsReceive draft words branch × (new ≡ with_receive draft branch)
SaysOutside draft keywords.Choice words new = (name : List ℕ) × IsName most_arbiters (length draft.parts.arbiters) draft words name × (new ≡ with_arbiter draft arbiters.Choice name)
SaysOutside draft keywords.Interleave words new = (name : List ℕ) × IsName most_arbiters (length draft.parts.arbiters) draft words name × (new ≡ with_arbiter draft arbiters.Interleave name)
SaysOutside draft keywords.Combine words new = (part : DomainPart) × IsCombine draft words part × (new ≡ with_domain draft part)
SaysOutside draft keywords.Poster words new = (name : List ℕ) × IsName most_posters (length draft.parts.posters) draft words name × (new ≡ with_poster draft name)
SaysOutside draft _ words new = ⊥

-- in a handler: `end`, or one of at most 16 actions
abbrev pub SaysInHandler : Declared → HandlerPart → Keyword → Words → Declared → Type 0
SaysInHandler draft part first words new =
    ((first ≡ keywords.End) × (words ≡ []) × (new ≡ end_handler draft part))
    ⊎ ((action : Action) × (length part.handler.actions < most_actions) × IsAction draft first words action × (new ≡ with_action draft part action))

-- in a choice or Interleave: `end` behind a branch or more, or a branch of a group that its kind has
abbrev pub SaysInArbiter : Declared → ArbiterPart → Keyword → Words → Declared → Type 0
SaysInArbiter draft part first words new =
    ((first ≡ keywords.End) × (words ≡ []) × ((length part.branches == 0) ≡ false) × (new ≡ end_arbiter draft part))
    ⊎ ((group : Group) × (group_of part.kind first ≡ Some group) × (branch : BranchPart) × IsBranch draft part group words branch × (new ≡ with_branch draft part branch))

-- in a poster: `end`, or a post
abbrev pub SaysInPoster : Declared → PosterPart → Keyword → Words → Declared → Type 0
SaysInPoster draft part keywords.Post words new = (post : Sent) × IsPost draft part words post × (new ≡ with_post draft part post)
SaysInPoster draft part keywords.End words new = (words ≡ []) × (new ≡ end_poster draft part)
SaysInPoster draft part _ words new = ⊥

-- what a line declares, by the block in which it stands
abbrev pub Says : Block → Declared → Keyword → Words → Declared → Type 0
Says blocks.Outside draft first words new = SaysOutside draft first words new
Says (blocks.Handler part) draft first words new = SaysInHandler (apart draft) part first words new
Says (blocks.Arbiter part) draft first words new = SaysInArbiter (apart draft) part first words new
Says (blocks.Poster part) draft first words new = SaysInPoster (apart draft) part first words new

-- a clean line without words or with a comment
abbrev pub IsBlank : Words → Type 0
IsBlank [] = Unit {0}
IsBlank (first ∷ words) = is_comment first ≡ true

-- lines that lead from what is declared to the parts, with no block left open
abbrev pub AreLines : Declared → List Line → Parts → Type 0
AreLines draft [] parts = (draft.block ≡ blocks.Outside) × (parts ≡ draft.parts)
AreLines draft (line ∷ lines) parts = (line.clean ≡ true) × (
    (IsBlank line.words × AreLines draft lines parts)
    ⊎ ((first : List ℕ) × (words : Words) × (new : Declared) × (line.words ≡ first ∷ words) × (is_comment first ≡ false)
    × Says draft.block draft (keyword first) words new × AreLines new lines parts))

-- `ccr 1` or `ccr 2` is the first line that isn't blank
abbrev pub AreHeadedLines : List Line → Parts → Type 0
AreHeadedLines [] parts = ⊥
AreHeadedLines (line ∷ lines) parts = (line.clean ≡ true) × (
    (IsBlank line.words × AreHeadedLines lines parts)
    ⊎ ((version : ℕ) × (version_of line.words ≡ Some version) × AreLines (nothing version) lines parts))

-- the text says these parts
abbrev pub IsText : List ℕ → Parts → Type 0
IsText text parts = AreHeadedLines (lines_of text) parts
