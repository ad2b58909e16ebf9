-- Which parts are those of a service.
use Rattle.std.specs.Prelude.{◌≡◌, ℕ, ◌<◌, ◌≤◌, Bool, true, false, not, ◌&&◌, nat_lt, List, [], ◌∷◌, ◌++◌, map, length}
use Rattle.std.specs.List.{list_all}
use Rattle.std.specs.Char.{is_ascii_alphabetic, is_ascii_alphanumeric}
use Rattle.ccr_base.specs.Bounds.{most_asks, most_clients, most_ops, most_service_name_bytes}
use Rattle.ccr_base.specs.declared.handlers.Expr.{Expr}
use Rattle.ccr_wiring.specs.declared.parts.Kind.TheVariants as kinds
use Rattle.ccr_wiring.specs.Groups.{may_have}
use Rattle.ccr_wiring.specs.Limits.{policy_is_outside, expr_is_outside}
use Rattle.ccr_wiring.specs.Names.{has_repeated}
use Rattle.ccr_wiring.specs.Versions.{expr_is_newer}
use Rattle.ccr_service.specs.declared.parts.AskPart.{AskPart}
use Rattle.ccr_service.specs.declared.parts.ClientPart.{ClientPart}
use Rattle.ccr_service.specs.declared.parts.OpPart.{OpPart}
use Rattle.ccr_service.specs.declared.parts.ServiceParts.{ServiceParts}
use Rattle.ccr_service.specs.Served.{asks_in_all}

-- 1 to 12 letters and digits of ASCII, a letter first
abbrev pub is_service_name : List ℕ → Bool
is_service_name [] = false
is_service_name (first ∷ others) = is_ascii_alphabetic first && nat_lt (length others) most_service_name_bytes && list_all is_ascii_alphanumeric others

-- the names of operations and clients, which share one space
abbrev pub op_names : List OpPart → List (List ℕ)
op_names ops = map (λ (op : OpPart). op.name) ops

-- the clients' names
abbrev pub client_names : List ClientPart → List (List ℕ)
client_names clients = map (λ (client : ClientPart). client.name) clients

-- the names of operations and clients
abbrev pub service_names : ServiceParts → List (List ℕ)
service_names service = op_names service.ops ++ client_names service.clients

-- a value of one number, a whole value, a sum or a count, within the limits
abbrev pub is_service_expr : Expr → Bool
is_service_expr expr = not (expr_is_newer expr) && not (expr_is_outside expr)

-- one of the three groups of an Interleave, and an expression of version 1
abbrev pub is_service_op : OpPart → Bool
is_service_op op = may_have kinds.Interleave op.group && is_service_expr op.expr

-- each request names an operation
abbrev pub are_asked : ℕ → List AskPart → Bool
are_asked ops asks = list_all (λ (ask : AskPart). nat_lt ask.op ops) asks

-- 1 to 32 operations, at most 16 clients and 10,000 requests in all; names of the form, none twice; and what operations, policy and requests may be
pub record IsService (service : ServiceParts) : Type 0 where
  pub some_ops : 0 < length service.ops
  pub few_ops : length service.ops ≤ most_ops
  pub few_clients : length service.clients ≤ most_clients
  pub few_asks : asks_in_all service.clients ≤ most_asks
  pub formed : list_all is_service_name (service_names service) ≡ true
  pub apart : has_repeated (service_names service) ≡ false
  pub policy : policy_is_outside service.policy ≡ false
  pub ops : list_all is_service_op service.ops ≡ true
  pub asked : list_all (λ (client : ClientPart). are_asked (length service.ops) client.asks) service.clients ≡ true
