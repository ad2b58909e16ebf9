-- The tables tell the answers of all requests.
use Rattle.std.proofs.Common.{◌≡◌, ℕ, zero, suc, ◌+◌, ◌<◌, ◌≤◌, true, List, [], ◌∷◌, ◌++◌, length, drop, Option, Some, None, refl, sym, ap, ◌∙◌, arith, subst, append_assoc}
use Rattle.std.specs.Prelude.{option_map, nat_lt}
use Rattle.std.specs.List.{slice_get}
use Rattle.std.specs.Option.{option_map_or}
use Rattle.std.specs.Borrow.{Bor}
use Rattle.std.proofs.lemmas.Bool.Decides.{nat_tests}
use Rattle.indexmap.specs.IndexMap.{get}
use Rattle.indexmap.specs.IndexSet.{contains}
use Rattle.ccr_base.specs.declared.names.TaskId.{TaskId}
use Rattle.ccr_base.specs.declared.messages.Msg.{Msg}
use Rattle.ccr_base.specs.Names.{same_task, has_task}
use Rattle.ccr_base.proofs.Options.{get-some}
use Rattle.ccr_model.specs.declared.history.Event.{Event}
use Rattle.ccr_model.specs.Firings.{cut, dropped}
use Rattle.ccr_model.specs.Fates.{taker}
use Rattle.ccr_model.specs.Legal.{IsLegal, IsQuiet, is_complete}
use Rattle.ccr_model.proofs.Members.{Among-at, all_pass}
use Rattle.ccr_service.specs.declared.answer.Answer.{Answer}
use Rattle.ccr_service.specs.declared.answer.Answer.TheVariants as told
use Rattle.ccr_service.specs.declared.parts.AskPart.{AskPart}
use Rattle.ccr_service.specs.declared.parts.ClientPart.{ClientPart}
use Rattle.ccr_service.specs.declared.parts.OpPart.{OpPart}
use Rattle.ccr_service.specs.declared.parts.ServiceParts.{ServiceParts}
use Rattle.ccr_service.specs.declared.tables.RequestId.{RequestId}
use Rattle.ccr_service.specs.declared.tables.Tables.{Tables}
use Rattle.ccr_service.specs.Expansion.{fault_port, expansion}
use Rattle.ccr_service.specs.Served.{asks_in_all}
use Rattle.ccr_service.specs.Services.{IsService, are_asked}
use Rattle.ccr_service.specs.Answered.{answer_of}
use Rattle.ccr_service.specs.Telling.{name_of, Tells, told_by, told_from, told_asks, told_clients, first_post, answers_from, clients_answers, answers_of}
use Rattle.ccr_service.proofs.Answering.{request_of, told_quickly_so}

-- no client asks more than all do
pub asks_short : (cs : List ClientPart) (n : ℕ) (c : ClientPart) → slice_get cs n ≡ Some c → length c.asks ≤ asks_in_all cs
asks_short [] n c at = absurd (cc)
asks_short (x ∷ cs) zero c at = let same : x ≡ c = cc in let e : length x.asks ≡ length c.asks = ap (λ (y : ClientPart). length y.asks) same in omega (arith, e)
asks_short (x ∷ cs) (suc n) c at = let rest = asks_short cs n c at in omega (arith, rest)

-- what the tables tell, by the history
tells_so : (h : List Event) (t : Tables) → Tells h t → (faults : ℕ) (r : RequestId) → told_from t faults r ≡ option_map_or (λ task. told_by faults (has_task (cut h) task) (has_task (dropped h) task) (first_post h task)) (taker h (name_of r)) told.Held
tells_so h t tells faults r = ap (λ o. option_map_or (λ task. told_by faults (contains same_task t.cuts task) (contains same_task t.drops task) (option_map (λ (m : Bor Msg). m.now) (get same_task t.posts task))) o told.Held) (tells.takers r) ∙ by_taker (taker h (name_of r))
  where
    by_taker : (o : Option TaskId) → option_map_or (λ task. told_by faults (contains same_task t.cuts task) (contains same_task t.drops task) (option_map (λ (m : Bor Msg). m.now) (get same_task t.posts task))) o told.Held ≡ option_map_or (λ task. told_by faults (has_task (cut h) task) (has_task (dropped h) task) (first_post h task)) o told.Held
    by_taker None = refl
    by_taker (Some u) = ap (λ b. told_by faults b (contains same_task t.drops u) (option_map (λ (m : Bor Msg). m.now) (get same_task t.posts u))) (tells.cuts u) ∙ ap (λ b. told_by faults (has_task (cut h) u) b (option_map (λ (m : Bor Msg). m.now) (get same_task t.posts u))) (tells.drops u) ∙ ap (told_by faults (has_task (cut h) u) (has_task (dropped h) u)) (tells.posts u)

-- the operation of a request
asked_op : (s : ServiceParts) → IsService s → (client index : ℕ) (part : ClientPart) (ask : AskPart) → slice_get s.clients client ≡ Some part → slice_get part.asks index ≡ Some ask → (op : OpPart) × (slice_get s.ops ask.op ≡ Some op)
asked_op s is client index part ask is_client is_ask =
    let all = all_pass (λ (c : ClientPart). are_asked (length s.ops) c.asks) s.clients part is.asked (Among-at s.clients client part is_client) in
    let one = all_pass (λ (a : AskPart). nat_lt a.op (length s.ops)) part.asks ask all (Among-at part.asks index ask is_ask) in
    get-some s.ops ask.op (grind (arith, nat_tests, one))

asks_so : (s : ServiceParts) (h : List Event) (t : Tables) (faults client k : ℕ) (asks : List AskPart) → ((j : ℕ) (ask : AskPart) → slice_get asks j ≡ Some ask → told_from t faults (record { client = client; index = k + j }) ≡ answer_of s h client (k + j) ask.op) → told_asks t faults client k asks ≡ answers_from s h client k asks
asks_so s h t faults client k [] each = refl
asks_so s h t faults client k (ask ∷ asks) each =
    let e : k + 0 ≡ k = omega arith in
    let here : told_from t faults (record { client = client; index = k }) ≡ answer_of s h client k ask.op = subst (λ i. told_from t faults (record { client = client; index = i }) ≡ answer_of s h client i ask.op) e (each 0 ask refl) in
    let rest = asks_so s h t faults client (k + 1) asks (λ j a at. let f : k + suc j ≡ (k + 1) + j = omega arith in subst (λ i. told_from t faults (record { client = client; index = i }) ≡ answer_of s h client i a.op) f (each (suc j) a at)) in
    ap (λ x. x ∷ told_asks t faults client (k + 1) asks) here ∙ ap (λ xs. answer_of s h client k ask.op ∷ xs) rest

clients_so : (s : ServiceParts) → IsService s → (h : List Event) → IsLegal (expansion s) h → is_complete (expansion s) h ≡ true → IsQuiet (expansion s) h → (t : Tables) → Tells h t → (n : ℕ) (cs : List ClientPart) → ((j : ℕ) (c : ClientPart) → slice_get cs j ≡ Some c → slice_get s.clients (n + j) ≡ Some c) → told_clients t (length s.ops + length s.ops) n cs ≡ clients_answers s h n cs
clients_so s is h legal complete quiet t tells n [] within = refl
clients_so s is h legal complete quiet t tells n (c ∷ cs) within =
    let e : n + 0 ≡ n = omega arith in
    let is_client : slice_get s.clients n ≡ Some c = subst (λ i. slice_get s.clients i ≡ Some c) e (within 0 c refl) in
    let here = asks_so s h t (length s.ops + length s.ops + n) n 0 c.asks (λ j ask at. one j ask is_client at) in
    let rest = clients_so s is h legal complete quiet t tells (n + 1) cs (λ j x at. let f : n + suc j ≡ (n + 1) + j = omega arith in subst (λ i. slice_get s.clients i ≡ Some x) f (within (suc j) x at)) in
    ap (λ xs. xs ++ told_clients t (length s.ops + length s.ops) (n + 1) cs) here ∙ ap (λ xs. answers_from s h n 0 c.asks ++ xs) rest
  where
    one : (j : ℕ) (ask : AskPart) → slice_get s.clients n ≡ Some c → slice_get c.asks j ≡ Some ask → told_from t (length s.ops + length s.ops + n) (record { client = n; index = 0 + j }) ≡ answer_of s h n (0 + j) ask.op
    one j ask is_client at =
        let f : j ≡ 0 + j = omega arith in
        let op = asked_op s is n j c ask is_client at in
        let its = request_of s is h legal complete quiet n j c ask op.0 is_client at op.1 in
        subst (λ i. told_from t (length s.ops + length s.ops + n) (record { client = n; index = i }) ≡ answer_of s h n i ask.op) f (tells_so h t tells (fault_port s n) (record { client = n; index = j }) ∙ told_quickly_so s h n j ask op.0 its)

pub all_told : (s : ServiceParts) → IsService s → (h : List Event) → IsLegal (expansion s) h → is_complete (expansion s) h ≡ true → IsQuiet (expansion s) h → (t : Tables) → Tells h t → told_clients t (length s.ops + length s.ops) 0 s.clients ≡ answers_of s h
all_told s is h legal complete quiet t tells = clients_so s is h legal complete quiet t tells 0 s.clients (λ j c at. let e : j ≡ 0 + j = omega arith in subst (λ i. slice_get s.clients i ≡ Some c) e at)

-- ---- the loop over a client's requests

told_drop : (t : Tables) (faults client : ℕ) (asks : List AskPart) (k index : ℕ) → k < length asks → told_asks t faults client index (drop k asks) ≡ told_from t faults (record { client = client; index = index }) ∷ told_asks t faults client (index + 1) (drop (k + 1) asks)
told_drop t faults client asks k index lt = let e : k + 1 ≡ suc k = omega arith in rw e (from asks k lt)
  where
    from : (asks : List AskPart) (k : ℕ) → k < length asks → told_asks t faults client index (drop k asks) ≡ told_from t faults (record { client = client; index = index }) ∷ told_asks t faults client (index + 1) (drop (suc k) asks)
    from [] k lt = absurd (omega (arith, lt))
    from (a ∷ asks) zero lt = refl
    from (a ∷ asks) (suc k) lt = from asks k (omega (arith, lt))

-- one more answer
pub told_next : (t : Tables) (faults client : ℕ) (asks : List AskPart) (k : ℕ) (front whole : List Answer) → k < length asks → front ++ told_asks t faults client k (drop k asks) ≡ whole → (front ++ told_from t faults (record { client = client; index = k }) ∷ []) ++ told_asks t faults client (k + 1) (drop (k + 1) asks) ≡ whole
told_next t faults client asks k front whole lt all = append_assoc front (told_from t faults (record { client = client; index = k }) ∷ []) (told_asks t faults client (k + 1) (drop (k + 1) asks)) ∙ ap (λ xs. front ++ xs) (sym (told_drop t faults client asks k k lt)) ∙ all
