-- One more of what is declared: the names stay known, and apart.
use Rattle.std.proofs.Common.{◌≡◌, ℕ, ◌+◌, ◌≤◌, false, List, [], ◌∷◌, ◌++◌, length, map, refl, sym, ap, subst, ◌∙◌, arith, append_assoc, append-nil}
use Rattle.std.specs.Prelude.{sum, flat_map}
use Rattle.std.proofs.lemmas.List.Sums.{sum_by-append}
use Rattle.std.proofs.lemmas.List.{map_push}
use Rattle.ccr_base.proofs.Lists.{flat_push}
use Rattle.ccr_wiring.specs.declared.parts.Parts.{Parts}
use Rattle.ccr_wiring.specs.declared.parts.SetPart.{SetPart}
use Rattle.ccr_wiring.specs.declared.parts.CausePart.{CausePart}
use Rattle.ccr_wiring.specs.declared.parts.QueuePart.{QueuePart}
use Rattle.ccr_wiring.specs.declared.parts.HandlerPart.{HandlerPart}
use Rattle.ccr_wiring.specs.declared.parts.BranchPart.{BranchPart}
use Rattle.ccr_wiring.specs.declared.parts.ArbiterPart.{ArbiterPart}
use Rattle.ccr_wiring.specs.declared.parts.PosterPart.{PosterPart}
use Rattle.ccr_wiring.specs.Groups.{is_receive}
use Rattle.ccr_wiring.specs.Names.{arbiter_names, declared_names}
use Rattle.ccr_wiretext.specs.declared.named.Named.{Named}
use Rattle.ccr_wiretext.specs.declared.named.Named.TheVariants as kinds
use Rattle.ccr_wiretext.specs.declared.draft.Block.TheVariants as blocks
use Rattle.ccr_wiretext.specs.Names.{Naming}
use Rattle.ccr_wiretext.specs.Grammar.{IsNew}
use Rattle.ccr_wiretext.proofs.Each.{each_more}
use Rattle.ccr_wiretext.proofs.NamesApart.{NamesApart, name_added}
use Rattle.ccr_wiretext.proofs.Sound.{whole, KindFit}
use Rattle.ccr_wiretext.proofs.LinesFit.{Known}

-- ---- one more of a list

pub sum_push : {X : Type 0} (f : X → ℕ) (xs : List X) (x : X) → sum (map f (xs ++ x ∷ [])) ≡ sum (map f xs) + f x
sum_push f xs x =
    let split : sum (map f xs ++ f x ∷ []) ≡ sum (map f xs) + sum (f x ∷ []) = sum_by-append (λ n. n) (map f xs) (f x ∷ []) in
    let one : sum (f x ∷ []) ≡ f x = omega arith in
    rw (map_push f xs x) (omega (arith, split, one))

-- what is there stays there
kind_more : (old new : Parts) (h i : ℕ) → length old.queues ≤ length new.queues → length old.ports ≤ length new.ports → length old.causes ≤ length new.causes → h ≤ i → (what : Named) → KindFit old h what → KindFit new i what
kind_more old new h i queues ports causes handlers (kinds.Queue n) fit = omega arith
kind_more old new h i queues ports causes handlers (kinds.Port n) fit = omega arith
kind_more old new h i queues ports causes handlers (kinds.Set n) fit = tt
kind_more old new h i queues ports causes handlers (kinds.Cause n) fit = omega arith
kind_more old new h i queues ports causes handlers (kinds.Handler n) fit = omega arith
kind_more old new h i queues ports causes handlers (kinds.Arbiter n) fit = tt
kind_more old new h i queues ports causes handlers kinds.Branch fit = tt
kind_more old new h i queues ports causes handlers kinds.Poster fit = tt

pub known_more : (old new : Parts) (h i : ℕ) → length old.queues ≤ length new.queues → length old.ports ≤ length new.ports → length old.causes ≤ length new.causes → h ≤ i → (names : Naming) → Known old h names → Known new i names
known_more old new h i queues ports causes handlers names known = each_more _ _ (λ entry. kind_more old new h i queues ports causes handlers entry.1) names known

-- ---- a name more, at its index among the declared names

abbrev Adds : Naming → List ℕ → Named → List (List ℕ) → List (List ℕ) → Type 0
Adds names name what old new = (rest : List (List ℕ)) → NamesApart names (old ++ rest) → NamesApart (names ++ (name, what) ∷ []) (new ++ rest)

adds_here : (names : Naming) (name : List ℕ) (what : Named) → IsNew names name → (some : List (List ℕ)) → Adds names name what some (some ++ name ∷ [])
adds_here names name what new some rest apart =
    subst (NamesApart (names ++ (name, what) ∷ [])) (sym (append_assoc some (name ∷ []) rest)) (name_added names some rest name what apart new)

adds_before : (names : Naming) (name : List ℕ) (what : Named) (old new more : List (List ℕ)) → Adds names name what old new → Adds names name what (old ++ more) (new ++ more)
adds_before names name what old new more adds rest apart =
    subst (NamesApart (names ++ (name, what) ∷ [])) (sym (append_assoc new more rest)) (adds (more ++ rest) (subst (NamesApart names) (append_assoc old more rest) apart))

adds_to : (names : Naming) (name : List ℕ) (what : Named) (old new other : List (List ℕ)) → Adds names name what old new → new ≡ other → Adds names name what old other
adds_to names name what old new other adds e = subst (Adds names name what old) e adds

adds_all : (names : Naming) (name : List ℕ) (what : Named) (old new : List (List ℕ)) → Adds names name what old new → NamesApart names old → NamesApart (names ++ (name, what) ∷ []) new
adds_all names name what old new adds apart =
    subst (NamesApart (names ++ (name, what) ∷ [])) (append-nil new) (adds [] (subst (NamesApart names) (sym (append-nil old)) apart))

abbrev queue_names : Parts → List (List ℕ)
queue_names parts = map (λ (part : QueuePart). part.name) parts.queues

abbrev set_names : Parts → List (List ℕ)
set_names parts = map (λ (part : SetPart). part.name) parts.sets

abbrev cause_names : Parts → List (List ℕ)
cause_names parts = map (λ (part : CausePart). part.name) parts.causes

abbrev handler_names : Parts → List (List ℕ)
handler_names parts = map (λ (part : HandlerPart). part.name) parts.handlers

abbrev firing_names : Parts → List (List ℕ)
firing_names parts = flat_map arbiter_names parts.arbiters

abbrev poster_names : Parts → List (List ℕ)
poster_names parts = map (λ (part : PosterPart). part.name) parts.posters

-- the names up to a kind
abbrev to_ports : Parts → List (List ℕ)
to_ports parts = queue_names parts ++ parts.ports

abbrev to_sets : Parts → List (List ℕ)
to_sets parts = to_ports parts ++ set_names parts

abbrev to_causes : Parts → List (List ℕ)
to_causes parts = to_sets parts ++ cause_names parts

abbrev to_handlers : Parts → List (List ℕ)
to_handlers parts = to_causes parts ++ handler_names parts

abbrev to_firings : Parts → List (List ℕ)
to_firings parts = to_handlers parts ++ firing_names parts

-- a kind with one more, behind the names before it
behind : (front some : List (List ℕ)) (name : List ℕ) (more : List (List ℕ)) → more ≡ some ++ name ∷ [] → (front ++ some) ++ name ∷ [] ≡ front ++ more
behind front some name more e = append_assoc front some (name ∷ []) ∙ ap (λ (v : List (List ℕ)). front ++ v) (sym e)

-- the names of the kinds behind one
before_posters : (parts : Parts) (names : Naming) (name : List ℕ) (what : Named) (old new : List (List ℕ)) → Adds names name what old new → Adds names name what (old ++ poster_names parts) (new ++ poster_names parts)
before_posters parts names name what old new adds = adds_before names name what old new (poster_names parts) adds

before_firings : (parts : Parts) (names : Naming) (name : List ℕ) (what : Named) (old new : List (List ℕ)) → Adds names name what old new
    → Adds names name what (old ++ firing_names parts ++ poster_names parts) (new ++ firing_names parts ++ poster_names parts)
before_firings parts names name what old new adds = before_posters parts names name what (old ++ firing_names parts) (new ++ firing_names parts) (adds_before names name what old new (firing_names parts) adds)

before_handlers : (parts : Parts) (names : Naming) (name : List ℕ) (what : Named) (old new : List (List ℕ)) → Adds names name what old new
    → Adds names name what (old ++ handler_names parts ++ firing_names parts ++ poster_names parts) (new ++ handler_names parts ++ firing_names parts ++ poster_names parts)
before_handlers parts names name what old new adds = before_firings parts names name what (old ++ handler_names parts) (new ++ handler_names parts) (adds_before names name what old new (handler_names parts) adds)

before_causes : (parts : Parts) (names : Naming) (name : List ℕ) (what : Named) (old new : List (List ℕ)) → Adds names name what old new
    → Adds names name what (old ++ cause_names parts ++ handler_names parts ++ firing_names parts ++ poster_names parts) (new ++ cause_names parts ++ handler_names parts ++ firing_names parts ++ poster_names parts)
before_causes parts names name what old new adds = before_handlers parts names name what (old ++ cause_names parts) (new ++ cause_names parts) (adds_before names name what old new (cause_names parts) adds)

before_sets : (parts : Parts) (names : Naming) (name : List ℕ) (what : Named) (old new : List (List ℕ)) → Adds names name what old new
    → Adds names name what (old ++ set_names parts ++ cause_names parts ++ handler_names parts ++ firing_names parts ++ poster_names parts) (new ++ set_names parts ++ cause_names parts ++ handler_names parts ++ firing_names parts ++ poster_names parts)
before_sets parts names name what old new adds = before_causes parts names name what (old ++ set_names parts) (new ++ set_names parts) (adds_before names name what old new (set_names parts) adds)

pub queue_adds : (parts : Parts) (names : Naming) (part : QueuePart) (what : Named) → IsNew names part.name → NamesApart names (declared_names parts)
    → NamesApart (names ++ (part.name, what) ∷ []) (declared_names (record parts { queues = parts.queues ++ part ∷ [] }))
queue_adds parts names part what new declared =
    let more : List (List ℕ) = map (λ (part : QueuePart). part.name) (parts.queues ++ part ∷ []) in
    let here : Adds names part.name what (queue_names parts) more =
    adds_to names part.name what (queue_names parts) (queue_names parts ++ part.name ∷ []) more (adds_here names part.name what new (queue_names parts)) (sym (map_push (λ (part : QueuePart). part.name) parts.queues part)) in
    adds_all names part.name what (declared_names parts) (declared_names (record parts { queues = parts.queues ++ part ∷ [] }))
    (before_sets parts names part.name what (queue_names parts ++ parts.ports) (more ++ parts.ports) (adds_before names part.name what (queue_names parts) more parts.ports here)) declared

pub port_adds : (parts : Parts) (names : Naming) (name : List ℕ) (what : Named) → IsNew names name → NamesApart names (declared_names parts)
    → NamesApart (names ++ (name, what) ∷ []) (declared_names (record parts { ports = parts.ports ++ name ∷ [] }))
port_adds parts names name what new declared =
    let here : Adds names name what (to_ports parts) (queue_names parts ++ (parts.ports ++ name ∷ [])) =
    adds_to names name what (to_ports parts) (to_ports parts ++ name ∷ []) (queue_names parts ++ (parts.ports ++ name ∷ [])) (adds_here names name what new (to_ports parts)) (append_assoc (queue_names parts) parts.ports (name ∷ [])) in
    adds_all names name what (declared_names parts) (declared_names (record parts { ports = parts.ports ++ name ∷ [] }))
    (before_sets parts names name what (to_ports parts) (queue_names parts ++ (parts.ports ++ name ∷ [])) here) declared

pub set_adds : (parts : Parts) (names : Naming) (part : SetPart) (what : Named) → IsNew names part.name → NamesApart names (declared_names parts)
    → NamesApart (names ++ (part.name, what) ∷ []) (declared_names (record parts { sets = parts.sets ++ part ∷ [] }))
set_adds parts names part what new declared =
    let more : List (List ℕ) = map (λ (part : SetPart). part.name) (parts.sets ++ part ∷ []) in
    let here : Adds names part.name what (to_sets parts) (to_ports parts ++ more) =
    adds_to names part.name what (to_sets parts) (to_sets parts ++ part.name ∷ []) (to_ports parts ++ more) (adds_here names part.name what new (to_sets parts)) (behind (to_ports parts) (set_names parts) part.name more (map_push (λ (part : SetPart). part.name) parts.sets part)) in
    adds_all names part.name what (declared_names parts) (declared_names (record parts { sets = parts.sets ++ part ∷ [] }))
    (before_causes parts names part.name what (to_sets parts) (to_ports parts ++ more) here) declared

pub cause_adds : (parts : Parts) (names : Naming) (part : CausePart) (what : Named) → IsNew names part.name → NamesApart names (declared_names parts)
    → NamesApart (names ++ (part.name, what) ∷ []) (declared_names (record parts { causes = parts.causes ++ part ∷ [] }))
cause_adds parts names part what new declared =
    let more : List (List ℕ) = map (λ (part : CausePart). part.name) (parts.causes ++ part ∷ []) in
    let here : Adds names part.name what (to_causes parts) (to_sets parts ++ more) =
    adds_to names part.name what (to_causes parts) (to_causes parts ++ part.name ∷ []) (to_sets parts ++ more) (adds_here names part.name what new (to_causes parts)) (behind (to_sets parts) (cause_names parts) part.name more (map_push (λ (part : CausePart). part.name) parts.causes part)) in
    adds_all names part.name what (declared_names parts) (declared_names (record parts { causes = parts.causes ++ part ∷ [] }))
    (before_handlers parts names part.name what (to_causes parts) (to_sets parts ++ more) here) declared

pub handler_adds : (parts : Parts) (names : Naming) (part : HandlerPart) (what : Named) → IsNew names part.name → NamesApart names (declared_names parts)
    → NamesApart (names ++ (part.name, what) ∷ []) (declared_names (record parts { handlers = parts.handlers ++ part ∷ [] }))
handler_adds parts names part what new declared =
    let more : List (List ℕ) = map (λ (part : HandlerPart). part.name) (parts.handlers ++ part ∷ []) in
    let here : Adds names part.name what (to_handlers parts) (to_causes parts ++ more) =
    adds_to names part.name what (to_handlers parts) (to_handlers parts ++ part.name ∷ []) (to_causes parts ++ more) (adds_here names part.name what new (to_handlers parts)) (behind (to_causes parts) (handler_names parts) part.name more (map_push (λ (part : HandlerPart). part.name) parts.handlers part)) in
    adds_all names part.name what (declared_names parts) (declared_names (record parts { handlers = parts.handlers ++ part ∷ [] }))
    (before_firings parts names part.name what (to_handlers parts) (to_causes parts ++ more) here) declared

-- a name more at the end of the arbiters' names
firing_adds : (parts : Parts) (names : Naming) (old new : List ArbiterPart) (name : List ℕ) (what : Named) → flat_map arbiter_names new ≡ flat_map arbiter_names old ++ name ∷ [] → IsNew names name
    → NamesApart names (declared_names (record parts { arbiters = old })) → NamesApart (names ++ (name, what) ∷ []) (declared_names (record parts { arbiters = new }))
firing_adds parts names old new name what one is_new declared =
    let some : List (List ℕ) = to_handlers parts ++ flat_map arbiter_names old in
    let more : List (List ℕ) = to_handlers parts ++ flat_map arbiter_names new in
    let here : Adds names name what some more =
    adds_to names name what some (some ++ name ∷ []) more (adds_here names name what is_new some) (behind (to_handlers parts) (flat_map arbiter_names old) name (flat_map arbiter_names new) one) in
    adds_all names name what (declared_names (record parts { arbiters = old })) (declared_names (record parts { arbiters = new })) (before_posters parts names name what some more here) declared

-- an arbiter that declares one name
pub arbiter_adds : (parts : Parts) (names : Naming) (part : ArbiterPart) (name : List ℕ) (what : Named) → arbiter_names part ≡ name ∷ [] → IsNew names name → NamesApart names (declared_names parts)
    → NamesApart (names ++ (name, what) ∷ []) (declared_names (record parts { arbiters = parts.arbiters ++ part ∷ [] }))
arbiter_adds parts names part name what one new declared =
    firing_adds parts names parts.arbiters (parts.arbiters ++ part ∷ []) name what
    (flat_push arbiter_names parts.arbiters part ∙ ap (λ (v : List (List ℕ)). flat_map arbiter_names parts.arbiters ++ v) one) new declared

names_grow : (part : ArbiterPart) (branch : BranchPart) → is_receive part.kind ≡ false → arbiter_names (record part { branches = part.branches ++ branch ∷ [] }) ≡ arbiter_names part ++ branch.name ∷ []
names_grow part branch kind = rw (kind, map_push (λ (branch : BranchPart). branch.name) part.branches branch) refl

-- a branch more of an open arbiter
pub branch_adds : (parts : Parts) (names : Naming) (part : ArbiterPart) (branch : BranchPart) (what : Named) → is_receive part.kind ≡ false → IsNew names branch.name → NamesApart names (declared_names (whole parts (blocks.Arbiter part)))
    → NamesApart (names ++ (branch.name, what) ∷ []) (declared_names (whole parts (blocks.Arbiter (record part { branches = part.branches ++ branch ∷ [] }))))
branch_adds parts names part branch what kind new declared =
    let grown : ArbiterPart = record part { branches = part.branches ++ branch ∷ [] } in
    let front : List (List ℕ) = flat_map arbiter_names parts.arbiters in
    firing_adds parts names (parts.arbiters ++ part ∷ []) (parts.arbiters ++ grown ∷ []) branch.name what
    (flat_push arbiter_names parts.arbiters grown ∙ ap (λ (v : List (List ℕ)). front ++ v) (names_grow part branch kind)
    ∙ sym (append_assoc front (arbiter_names part) (branch.name ∷ [])) ∙ ap (λ (v : List (List ℕ)). v ++ branch.name ∷ []) (sym (flat_push arbiter_names parts.arbiters part))) new declared

pub poster_adds : (parts : Parts) (names : Naming) (part : PosterPart) (what : Named) → IsNew names part.name → NamesApart names (declared_names parts)
    → NamesApart (names ++ (part.name, what) ∷ []) (declared_names (record parts { posters = parts.posters ++ part ∷ [] }))
poster_adds parts names part what new declared =
    let more : List (List ℕ) = map (λ (part : PosterPart). part.name) (parts.posters ++ part ∷ []) in
    let some : List (List ℕ) = to_firings parts ++ poster_names parts in
    adds_all names part.name what (declared_names parts) (declared_names (record parts { posters = parts.posters ++ part ∷ [] }))
    (adds_to names part.name what some (some ++ part.name ∷ []) (to_firings parts ++ more) (adds_here names part.name what new some) (behind (to_firings parts) (poster_names parts) part.name more (map_push (λ (part : PosterPart). part.name) parts.posters part))) declared

-- ---- the names when the last part changes and keeps its name

last_same : {X : Type 0} (f : X → List ℕ) (xs : List X) (x y : X) → f x ≡ f y → map f (xs ++ x ∷ []) ≡ map f (xs ++ y ∷ [])
last_same f [] x y e = ap (λ (v : List ℕ). v ∷ []) e
last_same f (z ∷ xs) x y e = ap (λ (v : List (List ℕ)). f z ∷ v) (last_same f xs x y e)

pub names_same : (parts : Parts) (names : Naming) (old new : HandlerPart) → old.name ≡ new.name → NamesApart names (declared_names (whole parts (blocks.Handler old))) → NamesApart names (declared_names (whole parts (blocks.Handler new)))
names_same parts names old new e apart =
    subst (λ (v : List (List ℕ)). NamesApart names (to_causes parts ++ v ++ firing_names parts ++ poster_names parts))
    (last_same (λ (part : HandlerPart). part.name) parts.handlers old new e) apart

pub posters_same : (parts : Parts) (names : Naming) (old new : PosterPart) → old.name ≡ new.name → NamesApart names (declared_names (whole parts (blocks.Poster old))) → NamesApart names (declared_names (whole parts (blocks.Poster new)))
posters_same parts names old new e apart =
    subst (λ (v : List (List ℕ)). NamesApart names (to_firings parts ++ v))
    (last_same (λ (part : PosterPart). part.name) parts.posters old new e) apart
