-- Each request is posted in a complete history.
use Rattle.std.proofs.Common.{◌≡◌, inl, inr, ℕ, zero, suc, ◌+◌, true, List, [], ◌∷◌, map, Some, refl, sym, ap, ◌∙◌, arith, subst}
use Rattle.std.specs.List.{slice_get}
use Rattle.std.proofs.lemmas.Option.{slice_get-map}
use Rattle.std.specs.Option.{option_map}
use Rattle.ccr_base.specs.declared.names.MsgId.TheVariants.{Script}
use Rattle.ccr_base.specs.declared.messages.Msg.{Msg}
use Rattle.ccr_base.specs.declared.messages.Sent.{Sent}
use Rattle.ccr_wiring.specs.declared.parts.PosterPart.{PosterPart}
use Rattle.ccr_model.specs.declared.history.Event.{Event}
use Rattle.ccr_model.specs.declared.history.Event.TheVariants.{Post, Fire, Admit, Put, Start, End}
use Rattle.ccr_model.specs.Posts.{posts, is_script_of, message_named}
use Rattle.ccr_model.specs.Legal.{IsLegal, is_complete}
use Rattle.ccr_model.proofs.Members.{Among, Among-at, Among-filter}
use Rattle.ccr_laws.specs.Occurring.{Occurs}
use Rattle.ccr_laws.specs.Scripts.{posts_by, sent_of}
use Rattle.ccr_laws.proofs.ScriptLines.{follow, whole}
use Rattle.ccr_service.specs.declared.parts.AskPart.{AskPart}
use Rattle.ccr_service.specs.declared.parts.ClientPart.{ClientPart}
use Rattle.ccr_service.specs.declared.parts.ServiceParts.{ServiceParts}
use Rattle.ccr_service.specs.Expansion.{request, posters_from, expansion}
use Rattle.ccr_service.specs.Answered.{message_of}
use Rattle.ccr_service.proofs.WhatExpansionsPost.{named_so}

-- the poster of a client
abbrev poster_of : ℕ → ClientPart → PosterPart
poster_of n c = record { name = c.name; posts = map (request n) c.asks }

poster_here : (n k : ℕ) (cs : List ClientPart) (c : ClientPart) → slice_get cs k ≡ Some c → slice_get (posters_from n cs) k ≡ Some (poster_of (n + k) c)
poster_here n k [] c at = absurd (cc)
poster_here n zero (x ∷ cs) c at = let e : n ≡ n + 0 = omega arith in let same : x ≡ c = cc in ap Some (ap (λ i. poster_of i x) e ∙ ap (poster_of (n + 0)) same)
poster_here n (suc k) (x ∷ cs) c at = let e : (n + 1) + k ≡ n + suc k = omega arith in poster_here (n + 1) k cs c at ∙ ap (λ i. Some (poster_of i c)) e

of_mapped : {X Y : Type 0} (f : X → Y) (xs : List X) (k : ℕ) (y : Y) → slice_get (map f xs) k ≡ Some y → (x : X) × (slice_get xs k ≡ Some x) × (f x ≡ y)
of_mapped f [] k y at = absurd (cc)
of_mapped f (x ∷ xs) zero y at = (x, refl, cc)
of_mapped f (x ∷ xs) (suc k) y at = of_mapped f xs k y at

-- a posted message stands somewhere
pub record StandsPosted (h : List Event) (m : Msg) : Type 0 where
  pub past : List Event
  pub stands : Occurs h past (Post m)

later : (e : Event) (h : List Event) (m : Msg) → StandsPosted h m → StandsPosted (e ∷ h) m
later e h m is = record { past = e ∷ is.past; stands = record { more = is.stands.more; whole = ap (λ g. e ∷ g) is.stands.whole } }

pub posted_stands : (h : List Event) (m : Msg) → Among m (posts h) → StandsPosted h m
posted_stands [] m is = absurd is
posted_stands (Post x ∷ h) m (inl e) = record { past = []; stands = record { more = h; whole = ap (λ y. Post y ∷ h) (sym e) } }
posted_stands (Post x ∷ h) m (inr more) = later (Post x) h m (posted_stands h m more)
posted_stands (Fire x s ms cs ∷ h) m is = later (Fire x s ms cs) h m (posted_stands h m is)
posted_stands (Admit x ∷ h) m is = later (Admit x) h m (posted_stands h m is)
posted_stands (Put x d ∷ h) m is = later (Put x d) h m (posted_stands h m is)
posted_stands (Start x a ∷ h) m is = later (Start x a) h m (posted_stands h m is)
posted_stands (End x how ∷ h) m is = later (End x how) h m (posted_stands h m is)

-- the request as a message
abbrev pub asked : ℕ → ℕ → AskPart → Msg
asked client index ask = message_of (Script client index) (request client ask)

pub ask_posted : (s : ServiceParts) (h : List Event) → IsLegal (expansion s) h → is_complete (expansion s) h ≡ true → (client index : ℕ) (part : ClientPart) (ask : AskPart) → slice_get s.clients client ≡ Some part → slice_get part.asks index ≡ Some ask → Among (asked client index ask) (posts h)
ask_posted s h legal complete client index part ask is_client is_ask =
    let e : 0 + client ≡ client = omega arith in
    let poster : slice_get (expansion s).posters client ≡ Some (poster_of client part) = poster_here 0 client s.clients part is_client ∙ ap (λ i. Some (poster_of i part)) e in
    let all = whole (expansion s) h legal complete client (poster_of client part) poster refl in
    let line : slice_get (map sent_of (posts_by h client)) index ≡ Some (request client ask) = ap (λ (xs : List Sent). slice_get xs index) all ∙ slice_get-map (request client) part.asks index ∙ ap (option_map (request client)) is_ask in
    let found = of_mapped sent_of (posts_by h client) index (request client ask) line in
    let name = (follow (expansion s) h legal client (poster_of client part) poster refl).names index found.0 found.1 in
    let among = (Among-filter (λ (m : Msg). is_script_of client m.id) (posts h) found.0 (Among-at (posts_by h client) index found.0 found.1)).0 in
    let sent : found.0 ≡ message_of found.0.id (sent_of found.0) = refl in
    let named : message_of found.0.id (sent_of found.0) ≡ message_of (Script client index) (sent_of found.0) = ap (λ n. message_of n (sent_of found.0)) name in
    let same : found.0 ≡ asked client index ask = sent ∙ named ∙ ap (message_of (Script client index)) found.2 in
    subst (λ m. Among m (posts h)) same among

pub ask_named : (s : ServiceParts) (h : List Event) → IsLegal (expansion s) h → is_complete (expansion s) h ≡ true → (client index : ℕ) (part : ClientPart) (ask : AskPart) → slice_get s.clients client ≡ Some part → slice_get part.asks index ≡ Some ask → message_named h (Script client index) ≡ Some (asked client index ask)
ask_named s h legal complete client index part ask is_client is_ask = named_so (expansion s) h legal (asked client index ask) (ask_posted s h legal complete client index part ask is_client is_ask)
