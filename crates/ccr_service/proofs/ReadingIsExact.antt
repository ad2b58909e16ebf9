-- Reading finds in a service text what the grammar says of it, both ways.
use Rattle.std.proofs.Common.{◌≡◌, ◌⊎◌, inl, inr, ℕ, ◌+◌, ◌<◌, Bool, true, false, not, List, [], ◌∷◌, ◌++◌, length, Option, Some, None, Result, Ok, Err, IfOk, IfErr, refl, sym, ap, ◌∙◌, arith, subst, append-nil}
use Rattle.std.specs.Prelude.{◌==◌, codes, if◌then◌else◌, max}
use Rattle.std.specs.Str.{bytes_eq}
use Rattle.std.proofs.lemmas.Bool.Decides.{nat_tests}
use Rattle.ccr_base.specs.declared.policies.Policy.{Policy}
use Rattle.ccr_base.specs.declared.policies.Group.{Group}
use Rattle.ccr_base.specs.declared.policies.Group.TheVariants as groups
use Rattle.ccr_base.specs.declared.handlers.Expr.{Expr}
use Rattle.ccr_base.specs.declared.handlers.Expr.TheVariants as exprs
use Rattle.ccr_text.specs.declared.lines.Line.{Line}
use Rattle.ccr_text.specs.Lines.{split_text, numbered}
use Rattle.ccr_text.specs.Names.{meaning_of}
use Rattle.ccr_text.specs.Fields.{Words, ◌>>=◌, unless, or_code, limited, word, no_more, number, number_within, policy}
use Rattle.ccr_text.specs.Words.{number_of, is_clean, is_comment, words_of, IsSkipped}
use Rattle.ccr_text.proofs.Steps.{unless_ok, or_code_ok, word_ok, no_more_ok, limit_ok}
use Rattle.ccr_wiretext.specs.declared.refused.ReadRefused.{ReadRefused}
use Rattle.ccr_wiretext.specs.declared.refused.ReadRefused.TheVariants as refusals
use Rattle.ccr_wiretext.specs.Grammar.{IsNumber}
use Rattle.ccr_wiretext.specs.Reading.{at_line}
use Rattle.ccr_base.proofs.Booleans.{both, not_true, refuted}
use Rattle.ccr_base.proofs.Texts.{same_word as keyed}
use Rattle.ccr_wiretext.proofs.FieldsRead.{number_said, number_read, within_said, within_read, policy_said, policy_read}
use Rattle.ccr_service.specs.declared.names.OpOrClient.TheVariants as named
use Rattle.ccr_service.specs.declared.parts.AskPart.{AskPart}
use Rattle.ccr_service.specs.declared.parts.ClientPart.{ClientPart}
use Rattle.ccr_service.specs.declared.parts.OpPart.{OpPart}
use Rattle.ccr_service.specs.declared.parts.ServiceParts.{ServiceParts}
use Rattle.ccr_service.specs.Naming.{Naming}
use Rattle.ccr_service.specs.Fields.{new_name, op_name, group, expr, bound}
use Rattle.ccr_service.specs.Drafts.{Drafted, with_policy, with_op, with_client, with_ask, end_client, policy_form, op_form, client_form, ask_form, outside_line, client_line, apart, line_in}
use Rattle.ccr_service.specs.Reading.{So, is_version, after_words, after_all, after_line, closed, at_end, reading_after, reading_text}
use Rattle.ccr_wiretext.specs.Answers.{IsReading}
use Rattle.ccr_wiretext.proofs.ReadTellsSteps.{bind_ok as then_ok, ok_is, limit_read}
use Rattle.ccr_service.specs.Grammar.{IsNew, IsGroup, IsExpr, IsBound, IsOp, IsAsk, IsPolicyLine, IsClient, IsLine, Declares, IsWhole, Says, IsText, IsNoText}
use Rattle.ccr_service.proofs.Keeping.{new_said, op_said, reading_on, group_by}

-- ---- what is read is said: fields

record GroupSaid (words : Words) (p : Group × Words) : Type 0 where
  word : List ℕ
  spelled : words ≡ word ∷ p.1
  is : IsGroup word p.0

group_said : (words : Words) (p : Group × Words) → group words ≡ Ok p → GroupSaid words p
unfolding group
group_said words p e =
    let a = then_ok (word words) _ p e in
    by_first a.0.0 a.0.1 (word_ok words a.0 a.1) (bytes_eq a.0.0 (codes "teardown")) refl (bytes_eq a.0.0 (codes "exclusive")) refl (bytes_eq a.0.0 (codes "concurrent")) refl a.2
  where
    by_first : (name : List ℕ) (rest : Words) → words ≡ name ∷ rest → (x : Bool) → bytes_eq name (codes "teardown") ≡ x → (y : Bool) → bytes_eq name (codes "exclusive") ≡ y → (z : Bool) → bytes_eq name (codes "concurrent") ≡ z → group_by x y z rest ≡ Ok p → GroupSaid words p
    by_first name rest whole true ex y ey z ez is = subst (GroupSaid words) (ok_is _ _ is) (record { word = name; spelled = whole; is = keyed name (codes "teardown") ex })
    by_first name rest whole false ex true ey z ez is = subst (GroupSaid words) (ok_is _ _ is) (record { word = name; spelled = whole; is = keyed name (codes "exclusive") ey })
    by_first name rest whole false ex false ey true ez is = subst (GroupSaid words) (ok_is _ _ is) (record { word = name; spelled = whole; is = keyed name (codes "concurrent") ez })
    by_first name rest whole false ex false ey false ez is = absurd (cc)

record ExprSaid (words : Words) (p : Expr × Words) : Type 0 where
  front : Words
  spelled : words ≡ front ++ p.1
  is : IsExpr front p.0

abbrev expr_by : Bool → Bool → Bool → List ℕ → Words → Result (Expr × Words) ℕ
expr_by x y z name rest = if x then Ok (exprs.Sum, rest) else if y then Ok (exprs.Count, rest) else if z then (number_within 0 65535 rest >>= λ message. Ok (exprs.Arg message.0, message.1)) else (or_code (number_of name) 5 >>= λ n. Ok (exprs.Number (n ∷ []), rest))

expr_said : (words : Words) (p : Expr × Words) → expr words ≡ Ok p → ExprSaid words p
unfolding expr
expr_said words p e =
    let a = then_ok (word words) _ p e in
    by_first a.0.0 a.0.1 (word_ok words a.0 a.1) (bytes_eq a.0.0 (codes "sum")) refl (bytes_eq a.0.0 (codes "count")) refl (bytes_eq a.0.0 (codes "arg")) refl a.2
  where
    by_first : (name : List ℕ) (rest : Words) → words ≡ name ∷ rest → (x : Bool) → bytes_eq name (codes "sum") ≡ x → (y : Bool) → bytes_eq name (codes "count") ≡ y → (z : Bool) → bytes_eq name (codes "arg") ≡ z → expr_by x y z name rest ≡ Ok p → ExprSaid words p
    by_first name rest whole true ex y ey z ez is = subst (ExprSaid words) (ok_is _ _ is) (record { front = name ∷ []; spelled = whole; is = ap (λ w. w ∷ []) (keyed name (codes "sum") ex) })
    by_first name rest whole false ex true ey z ez is = subst (ExprSaid words) (ok_is _ _ is) (record { front = name ∷ []; spelled = whole; is = ap (λ w. w ∷ []) (keyed name (codes "count") ey) })
    by_first name rest whole false ex false ey true ez is =
        let n = then_ok (number_within 0 65535 rest) _ p is in
        let said = within_said 0 65535 rest n.0 n.1 in
        subst (ExprSaid words) (ok_is _ _ n.2) (record { front = name ∷ said.0 ∷ []; spelled = whole ∙ ap (λ (ws : Words). name ∷ ws) said.1; is = (said.0, ap (λ w. w ∷ said.0 ∷ []) (keyed name (codes "arg") ez), said.2) })
    by_first name rest whole false ex false ey false ez is =
        let n = then_ok (or_code (number_of name) 5) _ p is in
        subst (ExprSaid words) (ok_is _ _ n.2) (record { front = name ∷ []; spelled = whole; is = (name, n.0, refl, refl, or_code_ok (number_of name) 5 n.0 n.1) })

record BoundSaid (words : Words) (p : Option ℕ × Words) : Type 0 where
  front : Words
  spelled : words ≡ front ++ p.1
  is : IsBound front p.0

bound_said : (words : Words) (p : Option ℕ × Words) → bound words ≡ Ok p → BoundSaid words p
unfolding bound
bound_said [] p e = subst (BoundSaid []) (ok_is _ _ e) (record { front = []; spelled = refl; is = refl })
bound_said (first ∷ words) p e = by_first (bytes_eq first (codes "below")) refl e
  where
    by_first : (x : Bool) → bytes_eq first (codes "below") ≡ x → (if x then (number words >>= λ most. Ok (Some most.0, most.1)) else Err 3) ≡ Ok p → BoundSaid (first ∷ words) p
    by_first true ex is =
        let n = then_ok (number words) _ p is in
        let said = number_said words n.0 n.1 in
        subst (BoundSaid (first ∷ words)) (ok_is _ _ n.2) (record { front = first ∷ said.0 ∷ []; spelled = ap (λ (ws : Words). first ∷ ws) said.1; is = (said.0, ap (λ w. w ∷ said.0 ∷ []) (keyed first (codes "below") ex), said.2) })
    by_first false ex is = absurd (cc)

-- ---- what is read is said: lines

op_line_said : (d : Drafted) (words : Words) (part : OpPart) → op_form d words ≡ Ok part → IsOp d (codes "op" ∷ words) part
unfolding op_form
op_line_said d words part e =
    let a = then_ok (limited 32 (length d.parts.ops)) _ part e in
    let b = then_ok (new_name d.names words) _ part a.2 in
    let c = then_ok (group b.0.1) _ part b.2 in
    let f = then_ok (expr c.0.1) _ part c.2 in
    let g = then_ok (bound f.0.1) _ part f.2 in
    let h = then_ok (no_more g.0.1) _ part g.2 in
    let made : OpPart = record { name = b.0.0; group = c.0.0; expr = f.0.0; below = g.0.0 } in
    let same : made ≡ part = ok_is _ _ h.2 in
    let name = new_said d.names words b.0 b.1 in
    let kind = group_said b.0.1 c.0 c.1 in
    let value = expr_said c.0.1 f.0 f.1 in
    let most = bound_said f.0.1 g.0 g.1 in
    let last : f.0.1 ≡ most.front = most.spelled ∙ ap (λ (ws : Words). most.front ++ ws) (no_more_ok g.0.1 h.0 h.1) ∙ append-nil most.front in
    let whole : codes "op" ∷ words ≡ codes "op" ∷ b.0.0 ∷ kind.word ∷ (value.front ++ most.front) = ap (λ (ws : Words). codes "op" ∷ ws) (name.spelled ∙ ap (λ (ws : Words). b.0.0 ∷ ws) (kind.spelled ∙ ap (λ (ws : Words). kind.word ∷ ws) (value.spelled ∙ ap (λ (ws : Words). value.front ++ ws) last))) in
    subst (IsOp d (codes "op" ∷ words)) same (record { kind = kind.word; value = value.front; most = most.front; spelled = whole; room = limit_ok 32 (length d.parts.ops) a.0 a.1; new = name.new; group = kind.is; expr = value.is; bound = most.is })

client_said : (d : Drafted) (words : Words) (name : List ℕ) → client_form d words ≡ Ok name → IsClient d (codes "client" ∷ words) name
unfolding client_form
client_said d words name e =
    let a = then_ok (limited 16 (length d.parts.clients)) _ name e in
    let b = then_ok (new_name d.names words) _ name a.2 in
    let c = then_ok (no_more b.0.1) _ name b.2 in
    let said = new_said d.names words b.0 b.1 in
    let whole : codes "client" ∷ words ≡ codes "client" ∷ b.0.0 ∷ [] = ap (λ (ws : Words). codes "client" ∷ ws) (said.spelled ∙ ap (λ (ws : Words). b.0.0 ∷ ws) (no_more_ok b.0.1 c.0 c.1)) in
    subst (IsClient d (codes "client" ∷ words)) (ok_is _ _ c.2) (record { spelled = whole; room = limit_ok 16 (length d.parts.clients) a.0 a.1; new = said.new })

ask_said : (d : Drafted) (words : Words) (ask : AskPart) → ask_form d words ≡ Ok ask → IsAsk d (codes "ask" ∷ words) ask
unfolding ask_form
ask_said d words ask e =
    let a = then_ok (limited 10000 d.asks) _ ask e in
    let b = then_ok (op_name d.names words) _ ask a.2 in
    let c = then_ok (number b.0.1) _ ask b.2 in
    let f = then_ok (no_more c.0.1) _ ask c.2 in
    let op = op_said d.names words b.0 b.1 in
    let value = number_said b.0.1 c.0 c.1 in
    let whole : codes "ask" ∷ words ≡ codes "ask" ∷ op.name ∷ value.0 ∷ [] = ap (λ (ws : Words). codes "ask" ∷ ws) (op.spelled ∙ ap (λ (ws : Words). op.name ∷ ws) (value.1 ∙ ap (λ (ws : Words). value.0 ∷ ws) (no_more_ok c.0.1 f.0 f.1))) in
    let made : AskPart = record { op = b.0.0; value = c.0.0 } in
    let same : made ≡ ask = ok_is _ _ f.2 in
    subst (IsAsk d (codes "ask" ∷ words)) same (record { name = op.name; digits = value.0; spelled = whole; room = limit_ok 10000 d.asks a.0 a.1; refers = op.refers; value = value.2 })

rule_said : (d : Drafted) (words : Words) (rule : Policy) → policy_form d words ≡ Ok rule → IsPolicyLine d (codes "policy" ∷ words) rule
unfolding policy_form
rule_said d words rule e =
    let a = then_ok (unless (not d.policied) 13) _ rule e in
    let b = then_ok (policy 1000 words) _ rule a.2 in
    let c = then_ok (no_more b.0.1) _ rule b.2 in
    let said = policy_said words b.0 b.1 in
    let whole : codes "policy" ∷ words ≡ codes "policy" ∷ said.0 = ap (λ (ws : Words). codes "policy" ∷ ws) (said.1 ∙ ap (λ (ws : Words). said.0 ++ ws) (no_more_ok b.0.1 c.0 c.1) ∙ append-nil said.0) in
    subst (IsPolicyLine d (codes "policy" ∷ words)) (ok_is _ _ c.2) (record { rest = said.0; spelled = whole; once = not_true d.policied (unless_ok (not d.policied) 13 a.0 a.1); says = said.2 })

outside_said : (d e : Drafted) (first : List ℕ) (words : Words) → outside_line d first words ≡ Ok e → IsLine None d (first ∷ words) e
unfolding outside_line
outside_said d e first words is = by_first (bytes_eq first (codes "policy")) refl (bytes_eq first (codes "op")) refl (bytes_eq first (codes "client")) refl is
  where
    by_first : (x : Bool) → bytes_eq first (codes "policy") ≡ x → (y : Bool) → bytes_eq first (codes "op") ≡ y → (z : Bool) → bytes_eq first (codes "client") ≡ z → (if x then (policy_form d words >>= λ rule. Ok (with_policy d rule)) else if y then (op_form d words >>= λ part. Ok (with_op d part)) else if z then (client_form d words >>= λ name. Ok (with_client d name)) else Err 3) ≡ Ok e → IsLine None d (first ∷ words) e
    by_first true ex y ey z ez at = let a = then_ok (policy_form d words) _ e at in inl (a.0, subst (λ w. IsPolicyLine d (w ∷ words) a.0) (sym (keyed first (codes "policy") ex)) (rule_said d words a.0 a.1), sym (ok_is _ _ a.2))
    by_first false ex true ey z ez at = let a = then_ok (op_form d words) _ e at in inr (inl (a.0, subst (λ w. IsOp d (w ∷ words) a.0) (sym (keyed first (codes "op") ey)) (op_line_said d words a.0 a.1), sym (ok_is _ _ a.2)))
    by_first false ex false ey true ez at = let a = then_ok (client_form d words) _ e at in inr (inr (a.0, subst (λ w. IsClient d (w ∷ words) a.0) (sym (keyed first (codes "client") ez)) (client_said d words a.0 a.1), sym (ok_is _ _ a.2)))
    by_first false ex false ey false ez at = absurd (cc)

block_said : (d e : Drafted) (part : ClientPart) (first : List ℕ) (words : Words) → client_line d part first words ≡ Ok e → IsLine (Some part) d (first ∷ words) e
unfolding client_line
block_said d e part first words is = by_first (bytes_eq first (codes "ask")) refl (bytes_eq first (codes "end")) refl is
  where
    by_first : (x : Bool) → bytes_eq first (codes "ask") ≡ x → (y : Bool) → bytes_eq first (codes "end") ≡ y → (if x then (ask_form d words >>= λ ask. Ok (with_ask d part ask)) else if y then (no_more words >>= λ done. Ok (end_client d part)) else Err 3) ≡ Ok e → IsLine (Some part) d (first ∷ words) e
    by_first true ex y ey at = let a = then_ok (ask_form d words) _ e at in inl (a.0, subst (λ w. IsAsk d (w ∷ words) a.0) (sym (keyed first (codes "ask") ex)) (ask_said d words a.0 a.1), sym (ok_is _ _ a.2))
    by_first false ex true ey at = let a = then_ok (no_more words) _ e at in inr (ap (λ w. w ∷ words) (keyed first (codes "end") ey) ∙ ap (λ (ws : Words). codes "end" ∷ ws) (no_more_ok words a.0 a.1), sym (ok_is _ _ a.2))
    by_first false ex false ey at = absurd (cc)

line_said : (d e : Drafted) (o : Option ClientPart) (first : List ℕ) (words : Words) → line_in o d first words ≡ Ok e → IsLine o (apart d) (first ∷ words) e
unfolding line_in
line_said d e None first words is = outside_said (apart d) e first words is
line_said d e (Some part) first words is = block_said (apart d) e part first words is

words_said : (so new : So) (first : List ℕ) (words : Words) → after_words so first words ≡ Ok new → Declares so (first ∷ words) new
unfolding after_words
words_said None new first words is =
    let a = then_ok (unless (is_version (first ∷ words)) 2) _ new is in
    (version words (unless_ok (is_version (first ∷ words)) 2 a.0 a.1), sym (ok_is _ _ a.2))
  where
    version : (ws : Words) → is_version (first ∷ ws) ≡ true → first ∷ ws ≡ codes "service" ∷ codes "1" ∷ []
    version [] v = absurd (cc)
    version (second ∷ []) v = let parts = both (bytes_eq first (codes "service")) (bytes_eq second (codes "1")) v in ap (λ w. w ∷ second ∷ []) (keyed first (codes "service") parts.0) ∙ ap (λ w. codes "service" ∷ w ∷ []) (keyed second (codes "1") parts.1)
    version (second ∷ third ∷ ws) v = absurd (cc)
words_said (Some d) new first words is = let a = then_ok (line_in d.block d first words) _ new is in (a.0, sym (ok_is _ _ a.2), line_said d a.0 d.block first words a.1)

-- a line is skipped or declares
abbrev LineSaid : So → Words → So → Type 0
LineSaid so words new = (IsSkipped words × (new ≡ so)) ⊎ Declares so words new

all_said : (so new : So) (words : Words) → after_all so words ≡ Ok new → LineSaid so words new
unfolding after_all
all_said so new [] is = inl (inl refl, sym (ok_is _ _ is))
all_said so new ([] ∷ words) is = inr (words_said so new [] words is)
all_said so new ((b ∷ bytes) ∷ words) is = by_comment (b == 35) refl is
  where
    by_comment : (t : Bool) → (b == 35) ≡ t → (if t then Ok so else after_words so (b ∷ bytes) words) ≡ Ok new → LineSaid so ((b ∷ bytes) ∷ words) new
    by_comment true e at = let hash : b ≡ 35 = grind (arith, nat_tests, e) in inl (inr (bytes, words, ap (λ x. (x ∷ bytes) ∷ words) hash), sym (ok_is _ _ at))
    by_comment false e at = inr (words_said so new (b ∷ bytes) words at)

end_said : (so : So) (parts : ServiceParts) → at_end so ≡ Ok parts → IsWhole so parts
unfolding at_end
end_said None parts is = absurd (cc)
end_said (Some d) parts is = by_block d.block refl is
  where
    by_block : (o : Option ClientPart) → d.block ≡ o → closed o d.parts ≡ Ok parts → IsWhole (Some d) parts
    by_block (Some part) e at = absurd (cc)
    by_block None e at =
        let a = then_ok (unless (not (length d.parts.ops == 0)) 11) _ parts at in
        let some = unless_ok (not (length d.parts.ops == 0)) 11 a.0 a.1 in
        let least : 0 < length d.parts.ops = grind (arith, nat_tests, some) in
        record { draft = d; so_far = refl; closed = e; some = least; whole = ok_is _ _ a.2 }

abbrev line_by : Bool → So → Words → Result So ℕ
line_by t so words = if t then after_all so words else Err 1

reading_by : (so : So) (last n : ℕ) (line : List ℕ) (lines : List (List ℕ)) (parts : ServiceParts) → reading_after so last (numbered n (line ∷ lines)) ≡ Ok parts → reading_on (record { number = n; words = words_of line; clean = is_clean line }) (numbered (n + 1) lines) (line_by (is_clean line) so (words_of line)) ≡ Ok parts
unfolding reading_after after_line
reading_by so last n line lines parts at = at

lines_said : (so : So) (last n : ℕ) (lines : List (List ℕ)) (parts : ServiceParts) → reading_after so last (numbered n lines) ≡ Ok parts → Says so lines parts
unfolding reading_after
lines_said so last n [] parts is = by_end (at_end so) refl (max last 1) is
  where
    by_end : (r : Result ServiceParts ℕ) → at_end so ≡ r → (k : ℕ) → at_line k r ≡ Ok parts → IsWhole so parts
    by_end (Ok found) e k at = end_said so parts (e ∙ ap Ok (cc))
    by_end (Err code) e k at = absurd (cc)
lines_said so last n (line ∷ lines) parts is = by_clean (is_clean line) refl (reading_by so last n line lines parts is) (λ new at. lines_said new n (n + 1) lines parts at)
  where
    Rest : Type 0
    Rest = (new : So) → reading_after new n (numbered (n + 1) lines) ≡ Ok parts → Says new lines parts

    by_side : (new : So) → LineSaid so (words_of line) new → is_clean line ≡ true → Says new lines parts → Says so (line ∷ lines) parts
    by_side new (inl skip) clean more = (clean, inl (skip.0, subst (λ s. Says s lines parts) skip.1 more))
    by_side new (inr says) clean more = (clean, inr (new, says, more))

    by_words : is_clean line ≡ true → (r : Result So ℕ) → after_all so (words_of line) ≡ r → reading_on (record { number = n; words = words_of line; clean = is_clean line }) (numbered (n + 1) lines) r ≡ Ok parts → Rest → Says so (line ∷ lines) parts
    by_words clean (Ok new) e at rest = by_side new (all_said so new (words_of line) e) clean (rest new at)
    by_words clean (Err code) e at rest = absurd (cc)

    by_clean : (t : Bool) → is_clean line ≡ t → reading_on (record { number = n; words = words_of line; clean = is_clean line }) (numbered (n + 1) lines) (line_by t so (words_of line)) ≡ Ok parts → Rest → Says so (line ∷ lines) parts
    by_clean true clean at rest = by_words clean (after_all so (words_of line)) refl at rest
    by_clean false clean at rest = absurd (cc)

-- what is read is said
pub says : (text : List ℕ) (result : Result ServiceParts ReadRefused) → IsReading result (reading_text text) → IfOk result (λ parts. IsText text parts)
says text (Ok parts) is = lines_said None 0 1 (split_text text) parts is
says text (Err refused) is = tt

pub said_of : (text : List ℕ) (parts : ServiceParts) → reading_text text ≡ Ok parts → IsText text parts
said_of text parts is = lines_said None 0 1 (split_text text) parts is

-- ---- what is said is read

-- a word of digits is no keyword
no_key : (digits key : List ℕ) (n : ℕ) → IsNumber digits n → number_of key ≡ None → bytes_eq digits key ≡ false
no_key digits key n is none = refuted (bytes_eq digits key) (λ e. let same = keyed digits key e in let gone : None ≡ Some n = sym none ∙ ap number_of (sym same) ∙ is in absurd (cc))

room_read : (limit count : ℕ) → count < limit → limited limit count ≡ Ok tt
room_read limit count lt = rw (limit_read limit count lt) refl

new_read : (names : Naming) (name : List ℕ) (rest : Words) → IsNew names name → new_name names (name ∷ rest) ≡ Ok (name, rest)
unfolding new_name
new_read names name rest new = rw (new.formed, new.new) refl

op_read : (names : Naming) (name : List ℕ) (k : ℕ) (rest : Words) → meaning_of names name ≡ Some (named.Op k) → op_name names (name ∷ rest) ≡ Ok (k, rest)
unfolding op_name
op_read names name k rest is = rw is refl

group_read : (kind : List ℕ) (g : Group) (rest : Words) → IsGroup kind g → group (kind ∷ rest) ≡ Ok (g, rest)
unfolding group
group_read kind groups.Teardown rest is = rw is refl
group_read kind groups.Exclusive rest is = rw is refl
group_read kind groups.Concurrent rest is = rw is refl
group_read kind groups.Once rest is = absurd is
group_read kind groups.Always rest is = absurd is
group_read kind groups.Choice rest is = absurd is

expr_read : (front : Words) (e : Expr) (rest : Words) → IsExpr front e → expr (front ++ rest) ≡ Ok (e, rest)
unfolding expr
expr_read front exprs.Sum rest is = rw is refl
expr_read front exprs.Count rest is = rw is refl
expr_read front (exprs.Arg k) rest is = rw (is.1, within_read 0 65535 is.0 k rest is.2) refl
expr_read front (exprs.Number value) rest is = rw (is.2, is.3, no_key is.0 (codes "sum") is.1 is.4 refl, no_key is.0 (codes "count") is.1 is.4 refl, no_key is.0 (codes "arg") is.1 is.4 refl, is.4) refl
expr_read front (exprs.Part message index) rest is = absurd is

bound_read : (most : Words) (o : Option ℕ) → IsBound most o → bound most ≡ Ok (o, [])
unfolding bound
bound_read most None is = rw is refl
bound_read most (Some n) is = rw (is.1, number_read is.0 n [] is.2) refl

op_line_read : (d : Drafted) (words : Words) (part : OpPart) → (is : IsOp d words part) → op_form d (part.name ∷ is.kind ∷ (is.value ++ is.most)) ≡ Ok part
unfolding op_form
op_line_read d words part is = rw (room_read 32 (length d.parts.ops) is.room, new_read d.names part.name (is.kind ∷ (is.value ++ is.most)) is.new, group_read is.kind part.group (is.value ++ is.most) is.group, expr_read is.value part.expr is.most is.expr, bound_read is.most part.below is.bound) refl

client_read : (d : Drafted) (words : Words) (name : List ℕ) → IsClient d words name → client_form d (name ∷ []) ≡ Ok name
unfolding client_form
client_read d words name is = rw (room_read 16 (length d.parts.clients) is.room, new_read d.names name [] is.new) refl

ask_read : (d : Drafted) (words : Words) (ask : AskPart) → (is : IsAsk d words ask) → ask_form d (is.name ∷ is.digits ∷ []) ≡ Ok ask
unfolding ask_form
ask_read d words ask is = rw (room_read 10000 d.asks is.room, op_read d.names is.name ask.op (is.digits ∷ []) is.refers, number_read is.digits ask.value [] is.value) refl

rule_read : (d : Drafted) (words : Words) (rule : Policy) → (is : IsPolicyLine d words rule) → policy_form d is.rest ≡ Ok rule
unfolding policy_form
rule_read d words rule is =
    let read : policy 1000 is.rest ≡ Ok (rule, []) = ap (policy 1000) (sym (append-nil is.rest)) ∙ policy_read is.rest rule [] is.says in
    rw (is.once, read) refl

-- a line that declares has a first word that is no comment
record LineRead (o : Option ClientPart) (d : Drafted) (words : Words) (e : Drafted) : Type 0 where
  first : List ℕ
  rest : Words
  spelled : words ≡ first ∷ rest
  plain : is_comment first ≡ false
  read : line_in o d first rest ≡ Ok e

outside_read : (d e : Drafted) (words : Words) → IsLine None (apart d) words e → LineRead None d words e
unfolding line_in outside_line
outside_read d e words (inl said) = record { first = codes "policy"; rest = said.1.rest; spelled = said.1.spelled; plain = refl; read = rw (rule_read (apart d) words said.0 said.1) (ap Ok (sym said.2)) }
outside_read d e words (inr (inl said)) = record { first = codes "op"; rest = said.0.name ∷ said.1.kind ∷ (said.1.value ++ said.1.most); spelled = said.1.spelled; plain = refl; read = rw (op_line_read (apart d) words said.0 said.1) (ap Ok (sym said.2)) }
outside_read d e words (inr (inr said)) = record { first = codes "client"; rest = said.0 ∷ []; spelled = said.1.spelled; plain = refl; read = rw (client_read (apart d) words said.0 said.1) (ap Ok (sym said.2)) }

block_read : (d e : Drafted) (part : ClientPart) (words : Words) → IsLine (Some part) (apart d) words e → LineRead (Some part) d words e
unfolding line_in client_line
block_read d e part words (inl said) = record { first = codes "ask"; rest = said.1.name ∷ said.1.digits ∷ []; spelled = said.1.spelled; plain = refl; read = rw (ask_read (apart d) words said.0 said.1) (ap Ok (sym said.2)) }
block_read d e part words (inr said) = record { first = codes "end"; rest = []; spelled = said.0; plain = refl; read = ap Ok (sym said.1) }

line_read : (d e : Drafted) (o : Option ClientPart) (words : Words) → IsLine o (apart d) words e → LineRead o d words e
line_read d e None words is = outside_read d e words is
line_read d e (Some part) words is = block_read d e part words is

declared_read : (so new : So) (words : Words) → Declares so words new → after_all so words ≡ Ok new
unfolding after_all after_words
declared_read None new words is = rw is.0 (ap Ok (sym is.1))
declared_read (Some d) new words is =
    let its = line_read d is.0 d.block words is.2 in
    let step : (line_in d.block d its.first its.rest >>= λ next. Ok (Some next)) ≡ Ok (Some is.0) = rw its.read refl in
    rw (its.spelled, its.plain) (step ∙ ap Ok (sym is.1))

skipped_read : (so : So) (words : Words) → IsSkipped words → after_all so words ≡ Ok so
unfolding after_all
skipped_read so words (inl none) = rw none refl
skipped_read so words (inr comment) = rw comment.2 refl

whole_read : (so : So) (parts : ServiceParts) → IsWhole so parts → at_end so ≡ Ok parts
unfolding at_end
whole_read so parts is =
    let least = is.some in
    let some : (length is.draft.parts.ops == 0) ≡ false = grind (arith, nat_tests, least) in
    rw (is.so_far, is.closed, some) (ap Ok is.whole)

next_read : (so new : So) (last n : ℕ) (line : List ℕ) (lines : List (List ℕ)) → is_clean line ≡ true → after_all so (words_of line) ≡ Ok new → reading_after so last (numbered n (line ∷ lines)) ≡ reading_after new n (numbered (n + 1) lines)
unfolding reading_after after_line
next_read so new last n line lines clean is =
    let here : Line = record { number = n; words = words_of line; clean = is_clean line } in
    let by : line_by (is_clean line) so (words_of line) ≡ Ok new = ap (λ t. line_by t so (words_of line)) clean ∙ is in
    ap (reading_on here (numbered (n + 1) lines)) by

none_left : (so : So) (last : ℕ) → reading_after so last [] ≡ at_line (max last 1) (at_end so)
unfolding reading_after
none_left so last = refl

lines_read : (so : So) (last n : ℕ) (lines : List (List ℕ)) (parts : ServiceParts) → Says so lines parts → reading_after so last (numbered n lines) ≡ Ok parts
lines_read so last n [] parts is = end_read so last parts is
  where
    end_read : (so : So) (last : ℕ) (parts : ServiceParts) → IsWhole so parts → reading_after so last [] ≡ Ok parts
    end_read so last parts is = none_left so last ∙ ap (at_line (max last 1)) (whole_read so parts is)
lines_read so last n (line ∷ lines) parts (clean, inl skip) = next_read so so last n line lines clean (skipped_read so (words_of line) skip.0) ∙ lines_read so n (n + 1) lines parts skip.1
lines_read so last n (line ∷ lines) parts (clean, inr next) = next_read so next.0 last n line lines clean (declared_read so next.0 (words_of line) next.1) ∙ lines_read next.0 n (n + 1) lines parts next.2

-- where a line is refused, nothing is said
pub says_nothing : (text : List ℕ) (result : Result ServiceParts ReadRefused) → IsReading result (reading_text text) → IfErr result (λ refused. IsNoText text refused)
says_nothing text (Ok parts) is = tt
says_nothing text (Err refusals.Memory) is = tt
says_nothing text (Err (refusals.At line code)) is = λ parts said. absurd (let h : Err (line, code) ≡ Ok parts = sym is ∙ lines_read None 0 1 (split_text text) parts said in cc)
