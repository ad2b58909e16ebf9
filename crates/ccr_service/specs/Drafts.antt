-- What the lines of a service text declare so far, and what each form of a line says.
use Rattle.std.specs.Prelude.{ℕ, ◌+◌, Bool, true, false, not, List, [], ◌∷◌, ◌++◌, length, Option, Some, None, Result, Ok, Err, if◌then◌else◌, codes}
use Rattle.std.specs.Str.{bytes_eq}
use Rattle.ccr_base.specs.Bounds.{most_asks, most_clients, most_ops, most_policy}
use Rattle.ccr_base.specs.declared.policies.Policy.{Policy}
use Rattle.ccr_base.specs.declared.policies.Policy.TheVariants as policies
use Rattle.ccr_text.specs.Fields.{Words, ◌>>=◌, unless, limited, no_more, number, policy}
use Rattle.ccr_service.specs.declared.names.OpOrClient.TheVariants as kinds
use Rattle.ccr_service.specs.declared.parts.AskPart.{AskPart}
use Rattle.ccr_service.specs.declared.parts.ClientPart.{ClientPart}
use Rattle.ccr_service.specs.declared.parts.OpPart.{OpPart}
use Rattle.ccr_service.specs.declared.parts.ServiceParts.{ServiceParts}
use Rattle.ccr_service.specs.Naming.{Naming}
use Rattle.ccr_service.specs.Fields.{new_name, op_name, group, expr, bound}

-- the parts so far, whether a line gave the policy, the declared names, how many requests there are, and the client whose block is open
pub record Drafted : Type 0 where
  pub parts : ServiceParts
  pub policied : Bool
  pub names : Naming
  pub asks : ℕ
  pub block : Option ClientPart

-- before the first declaration
abbrev pub nothing : Drafted
nothing = record { parts = record { policy = policies.Unbounded; ops = []; clients = [] }; policied = false; names = []; asks = 0; block = None }

-- the service so far, with its policy
abbrev pub with_policy : Drafted → Policy → Drafted
with_policy draft rule = record draft { parts = record draft.parts { policy = rule }; policied = true }

-- the service so far, with one operation more
abbrev pub with_op : Drafted → OpPart → Drafted
with_op draft part = record draft { parts = record draft.parts { ops = draft.parts.ops ++ part ∷ [] }; names = draft.names ++ (part.name, kinds.Op (length draft.parts.ops)) ∷ [] }

-- a client's block begins
abbrev pub with_client : Drafted → List ℕ → Drafted
with_client draft name = record draft { names = draft.names ++ (name, kinds.Client) ∷ []; block = Some (record { name = name; asks = [] }) }

-- one request more in it
abbrev pub with_ask : Drafted → ClientPart → AskPart → Drafted
with_ask draft part ask = record draft { asks = draft.asks + 1; block = Some (record part { asks = part.asks ++ ask ∷ [] }) }

-- the service so far, with a client that is whole
abbrev pub end_client : Drafted → ClientPart → Drafted
end_client draft part = record draft { parts = record draft.parts { clients = draft.parts.clients ++ part ∷ [] } }

-- policy POLICY. A second one is code 13
unfoldable pub policy_form : Drafted → Words → Result Policy ℕ
policy_form draft words = do
  once ← unless (not draft.policied) 13
  rule ← policy most_policy words
  done ← no_more rule.1
  Ok rule.0

-- op NAME GROUP EXPR, and below N where it has a bound
unfoldable pub op_form : Drafted → Words → Result OpPart ℕ
op_form draft words = do
  room ← limited most_ops (length draft.parts.ops)
  name ← new_name draft.names words
  kind ← group name.1
  value ← expr kind.1
  most ← bound value.1
  done ← no_more most.1
  Ok (record { name = name.0; group = kind.0; expr = value.0; below = most.0 })

-- client NAME
unfoldable pub client_form : Drafted → Words → Result (List ℕ) ℕ
client_form draft words = do
  room ← limited most_clients (length draft.parts.clients)
  name ← new_name draft.names words
  done ← no_more name.1
  Ok name.0

-- ask OP N
unfoldable pub ask_form : Drafted → Words → Result AskPart ℕ
ask_form draft words = do
  room ← limited most_asks draft.asks
  op ← op_name draft.names words
  value ← number op.1
  done ← no_more value.1
  Ok (record { op = op.0; value = value.0 })

-- a line outside of blocks, by its first word
unfoldable pub outside_line : Drafted → List ℕ → Words → Result Drafted ℕ
outside_line draft first words =
    if bytes_eq first (codes "policy") then (policy_form draft words >>= λ rule. Ok (with_policy draft rule)) else
    if bytes_eq first (codes "op") then (op_form draft words >>= λ part. Ok (with_op draft part)) else
    if bytes_eq first (codes "client") then (client_form draft words >>= λ name. Ok (with_client draft name)) else
    Err 3

-- a line of a client's block
unfoldable pub client_line : Drafted → ClientPart → List ℕ → Words → Result Drafted ℕ
client_line draft part first words =
    if bytes_eq first (codes "ask") then (ask_form draft words >>= λ ask. Ok (with_ask draft part ask)) else
    if bytes_eq first (codes "end") then (no_more words >>= λ done. Ok (end_client draft part)) else
    Err 3

-- while a line of a block is read, the block is apart
abbrev pub apart : Drafted → Drafted
apart draft = record draft { block = None }

unfoldable pub line_in : Option ClientPart → Drafted → List ℕ → Words → Result Drafted ℕ
line_in None draft first words = outside_line (apart draft) first words
line_in (Some part) draft first words = client_line (apart draft) part first words
