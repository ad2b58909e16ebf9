-- One more message gathered, and one more slot.
use Rattle.std.proofs.Common.{◌≡◌, ℕ, ◌+◌, ◌<◌, List, [], ◌∷◌, ◌++◌, length, take, get_or, ap, sym, ◌∙◌}
use Rattle.std.specs.List.{flat_map}
use Rattle.std.proofs.lemmas.List.{map-append, append_assoc, take_more}
use Rattle.ccr_base.specs.declared.messages.Msg.{Msg}
use Rattle.ccr_base.proofs.Lists.{flat_push}
use Rattle.ccr_base.proofs.SameNames.{names_of-append}
use Rattle.ccr_cause.specs.Causes.{union}
use Rattle.ccr_cause.proofs.Joined.{union-append}
use Rattle.ccr_claim.specs.declared.firing.Gathered.{Gathered}
use Rattle.ccr_claim.specs.Firings.{IsOf}
use Rattle.ccr_claim.specs.Plans.{values_of, causes_of}

-- the causes of one more message
pub causes-push : (messages : List Msg) (m : Msg) → causes_of (messages ++ m ∷ []) ≡ union (causes_of messages) m.causes
causes-push messages m = ap (union []) (flat_push (λ (m : Msg). m.causes) messages m) ∙ union-append [] (flat_map (λ (m : Msg). m.causes) messages) m.causes

pub values-push : (messages : List Msg) (m : Msg) → values_of (messages ++ m ∷ []) ≡ values_of messages ++ m.value ∷ []
values-push messages m = map-append (λ (m : Msg). m.value) messages (m ∷ [])

-- the next message is gathered
pub one_more : (before messages : List Msg) (i : ℕ) (x : Msg) (all new : Gathered) → i < length messages → x ≡ get_or messages i x → IsOf (before ++ take i messages) all → new.names.items ≡ all.names.items ++ x.id ∷ [] → new.values.items ≡ all.values.items ++ x.value ∷ [] → new.causes ≡ union all.causes x.causes → IsOf (before ++ take (i + 1) messages) new
one_more before messages i x all new less at is names values causes =
    let e : before ++ take (i + 1) messages ≡ (before ++ take i messages) ++ x ∷ [] = ap (λ ms. before ++ ms) (take_more messages i x less ∙ ap (λ y. take i messages ++ y ∷ []) (sym at)) ∙ sym (append_assoc before (take i messages) (x ∷ [])) in
    rw e (record {
      names = names ∙ ap (λ ys. ys ++ x.id ∷ []) is.names ∙ sym (names_of-append (before ++ take i messages) (x ∷ []));
      values = values ∙ ap (λ ys. ys ++ x.value ∷ []) is.values ∙ sym (values-push (before ++ take i messages) x);
      causes = causes ∙ ap (λ cs. union cs x.causes) is.causes ∙ sym (causes-push (before ++ take i messages) x);
    })
