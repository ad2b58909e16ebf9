-- What a service text says, apart from reading: which words declare what. No codes, and no order of looking.
use Rattle.std.specs.Prelude.{◌≡◌, ◌⊎◌, ℕ, ◌<◌, true, false, List, [], ◌∷◌, ◌++◌, length, Option, Some, None, codes}
use Rattle.ccr_base.specs.Bounds.{most_arg, most_asks, most_clients, most_ops}
use Rattle.ccr_base.specs.declared.policies.Policy.{Policy}
use Rattle.ccr_base.specs.declared.policies.Group.{Group}
use Rattle.ccr_base.specs.declared.policies.Group.TheVariants as groups
use Rattle.ccr_base.specs.declared.handlers.Expr.{Expr}
use Rattle.ccr_base.specs.declared.handlers.Expr.TheVariants as exprs
use Rattle.ccr_text.specs.Lines.{split_text}
use Rattle.ccr_text.specs.Names.{meaning_of}
use Rattle.ccr_text.specs.Fields.{Words}
use Rattle.ccr_text.specs.Words.{is_clean, words_of, IsSkipped}
use Rattle.ccr_wiretext.specs.Grammar.{IsNumber, IsWithin, IsPolicy}
use Rattle.ccr_wiretext.specs.declared.refused.ReadRefused.{ReadRefused}
use Rattle.ccr_wiretext.specs.declared.refused.ReadRefused.TheVariants as refusals
use Rattle.ccr_service.specs.declared.names.OpOrClient.TheVariants as named
use Rattle.ccr_service.specs.declared.parts.AskPart.{AskPart}
use Rattle.ccr_service.specs.declared.parts.ClientPart.{ClientPart}
use Rattle.ccr_service.specs.declared.parts.OpPart.{OpPart}
use Rattle.ccr_service.specs.declared.parts.ServiceParts.{ServiceParts}
use Rattle.ccr_service.specs.Naming.{Naming}
use Rattle.ccr_service.specs.Drafts.{Drafted, nothing, with_policy, with_op, with_client, with_ask, end_client, apart}
use Rattle.ccr_service.specs.Reading.{So}
use Rattle.ccr_service.specs.Services.{is_service_name}

-- a name that may be declared here
pub record IsNew (names : Naming) (name : List ℕ) : Type 0 where
  pub formed : is_service_name name ≡ true
  pub new : meaning_of names name ≡ None

-- the word of a group
abbrev pub IsGroup : List ℕ → Group → Type 0
IsGroup word groups.Teardown = word ≡ codes "teardown"
IsGroup word groups.Exclusive = word ≡ codes "exclusive"
IsGroup word groups.Concurrent = word ≡ codes "concurrent"
IsGroup word _ = ⊥

-- N, arg N, sum or count
abbrev pub IsExpr : Words → Expr → Type 0
IsExpr words (exprs.Number value) = (digits : List ℕ) × (n : ℕ) × (words ≡ digits ∷ []) × (value ≡ n ∷ []) × IsNumber digits n
IsExpr words (exprs.Arg k) = (digits : List ℕ) × (words ≡ codes "arg" ∷ digits ∷ []) × IsWithin 0 most_arg digits k
IsExpr words exprs.Sum = words ≡ codes "sum" ∷ []
IsExpr words exprs.Count = words ≡ codes "count" ∷ []
IsExpr words (exprs.Part message index) = ⊥

-- nothing, or below N
abbrev pub IsBound : Words → Option ℕ → Type 0
IsBound words None = words ≡ []
IsBound words (Some n) = (digits : List ℕ) × (words ≡ codes "below" ∷ digits ∷ []) × IsNumber digits n

-- op NAME GROUP EXPR, and below N where it has a bound; at most 32 of them
pub record IsOp (draft : Drafted) (words : Words) (part : OpPart) : Type 0 where
  pub kind : List ℕ
  pub value : Words
  pub most : Words
  pub spelled : words ≡ codes "op" ∷ part.name ∷ kind ∷ (value ++ most)
  pub room : length draft.parts.ops < most_ops
  pub new : IsNew draft.names part.name
  pub group : IsGroup kind part.group
  pub expr : IsExpr value part.expr
  pub bound : IsBound most part.below

-- ask OP N, at most 10,000 in all
pub record IsAsk (draft : Drafted) (words : Words) (ask : AskPart) : Type 0 where
  pub name : List ℕ
  pub digits : List ℕ
  pub spelled : words ≡ codes "ask" ∷ name ∷ digits ∷ []
  pub room : draft.asks < most_asks
  pub refers : meaning_of draft.names name ≡ Some (named.Op ask.op)
  pub value : IsNumber digits ask.value

-- policy POLICY, at most once
pub record IsPolicyLine (draft : Drafted) (words : Words) (rule : Policy) : Type 0 where
  pub rest : Words
  pub spelled : words ≡ codes "policy" ∷ rest
  pub once : draft.policied ≡ false
  pub says : IsPolicy rest rule

-- client NAME, at most 16 of them
pub record IsClient (draft : Drafted) (words : Words) (name : List ℕ) : Type 0 where
  pub spelled : words ≡ codes "client" ∷ name ∷ []
  pub room : length draft.parts.clients < most_clients
  pub new : IsNew draft.names name

-- what a line outside of blocks declares, and what one of a client's block does
abbrev pub IsLine : Option ClientPart → Drafted → Words → Drafted → Type 0
IsLine None draft words new =
    ((rule : Policy) × IsPolicyLine draft words rule × (new ≡ with_policy draft rule))
    ⊎ (((part : OpPart) × IsOp draft words part × (new ≡ with_op draft part))
    ⊎ ((name : List ℕ) × IsClient draft words name × (new ≡ with_client draft name)))
IsLine (Some part) draft words new =
    ((ask : AskPart) × IsAsk draft words ask × (new ≡ with_ask draft part ask))
    ⊎ ((words ≡ codes "end" ∷ []) × (new ≡ end_client draft part))

-- the first line that isn't skipped is `service 1`, and the others declare
abbrev pub Declares : So → Words → So → Type 0
Declares None words new = (words ≡ codes "service" ∷ codes "1" ∷ []) × (new ≡ Some nothing)
Declares (Some draft) words new = (next : Drafted) × (new ≡ Some next) × IsLine draft.block (apart draft) words next

-- at the end there was a first line, no block is open, and there is an operation
pub record IsWhole (so : So) (parts : ServiceParts) : Type 0 where
  pub draft : Drafted
  pub so_far : so ≡ Some draft
  pub closed : draft.block ≡ None
  pub some : 0 < length draft.parts.ops
  pub whole : draft.parts ≡ parts

-- each line is clean, and is skipped or declares something
abbrev pub Says : So → List (List ℕ) → ServiceParts → Type 0
Says so [] parts = IsWhole so parts
Says so (line ∷ lines) parts = (is_clean line ≡ true) × ((IsSkipped (words_of line) × Says so lines parts) ⊎ ((new : So) × Declares so (words_of line) new × Says new lines parts))

-- the text says these parts
abbrev pub IsText : List ℕ → ServiceParts → Type 0
IsText text parts = Says None (split_text text) parts

-- where a line is refused, the text says nothing
abbrev pub IsNoText : List ℕ → ReadRefused → Type 0
IsNoText text refusals.Memory = Unit {0}
IsNoText text (refusals.At line code) = (parts : ServiceParts) → IsText text parts → ⊥
