-- Each event keeps what each port holds.
use Rattle.std.proofs.Common.{◌≡◌, ℕ, ◌<◌, Bool, true, false, not, filter, List, [], ◌∷◌, ◌++◌, length, Option, Some, None, refl, sym, ap, ◌∙◌, arith, append-nil}
use Rattle.std.specs.Prelude.{◌==◌, if◌then◌else◌, option_map, option_and_then}
use Rattle.std.specs.List.{slice_get}
use Rattle.std.specs.Option.{option_map_or}
use Rattle.ccr_base.specs.declared.names.TaskId.{TaskId}
use Rattle.ccr_base.specs.declared.names.MsgId.{MsgId}
use Rattle.ccr_base.specs.declared.names.Spot.TheVariants.{Branch, Site}
use Rattle.ccr_base.specs.declared.messages.Msg.{Msg}
use Rattle.ccr_base.specs.Names.{has_message}
use Rattle.ccr_wiring.specs.declared.parts.Parts.{Parts}
use Rattle.ccr_wiring.specs.Valid.{IsValid, IsSound}
use Rattle.ccr_wiring.specs.Wirings.{Placement, placement, site_port}
use Rattle.ccr_wiring.proofs.Soundness.{sound}
use Rattle.ccr_model.specs.declared.history.Event.{Event}
use Rattle.ccr_model.specs.declared.history.Event.TheVariants.{Post, Fire, Admit, Put, Start, End}
use Rattle.ccr_model.specs.declared.history.EndHow.{EndHow}
use Rattle.ccr_model.specs.Selection.{is_selection_of, are_oldest}
use Rattle.ccr_model.specs.Posts.{held}
use Rattle.ccr_model.specs.Legal.{IsAllowed, IsLegal}
use Rattle.ccr_base.proofs.Booleans.{same_number}
use Rattle.ccr_model.proofs.HeldSteps.{held-post, held-fire, held-admit, held-put, held-start, held-end}
use Rattle.ccr_base.proofs.Options.{some_of}
use Rattle.ccr_model.proofs.Suspending.{ResumeFacts, ResumeFacts-allowed}
use Rattle.ccr_model.proofs.TakenOnce.{FireFacts-allowed}
use Rattle.ccr_model.proofs.MessageNames.{held_once}
use Rattle.ccr_model.proofs.PostedNames.{fresh_post}
use Rattle.ccr_ledger.specs.Rows.{row}
use Rattle.ccr_ledger.specs.declared.cards.Card.{Card}
use Rattle.ccr_ledger.specs.Books.{Books, card_at, suspended_at}
use Rattle.ccr_ledger.specs.Posting.{after_post}
use Rattle.ccr_ledger.specs.Taking.{take_pattern}
use Rattle.ccr_ledger.specs.Firing.{after_fire, resumed_card}
use Rattle.ccr_ledger.specs.Events.{after_last, after_discard, after_dropped, after_stop, after_yield, after_end, after_event, empty_books, is_yield}
use Rattle.ccr_ledger.specs.Kept.{HasSizes, Keeps, KeepsPorts, card_of}
use Rattle.ccr_ledger.proofs.Tables.{row-with_row}
use Rattle.ccr_ledger.proofs.HeldNames.{held_alone}
use Rattle.ccr_ledger.proofs.PortsLeft.{AreHeld, pattern_left, site_left}
use Rattle.ccr_ledger.proofs.Empty.{row-none}
use Rattle.ccr_ledger.proofs.CardTables.{ports-cuts}

by_card : (b : Books) (o : Option Card) (f : Card → Books) → ((c : Card) → (f c).ports ≡ b.ports) → (option_map_or f o b).ports ≡ b.ports
by_card b None f same = refl
by_card b (Some c) f same = same c

same-last : (r : TaskId) (b : Books) → (after_last r b).ports ≡ b.ports
same-last r b = by_card b (card_at b.tasks r) _ (λ c. of_test b (record b { tasks = _; admitted = _; alone = _ }) c.admitted refl)
  where
    of_test : (b d : Books) (is : Bool) → d.ports ≡ b.ports → (if is then d else b).ports ≡ b.ports
    of_test b d true same = same
    of_test b d false same = refl

same-dropped : (d : Option TaskId) (b : Books) → (after_dropped d b).ports ≡ b.ports
same-dropped None b = refl
same-dropped (Some t) b = by_card b (card_at b.tasks t) _ (λ c. same-last c.root (after_discard t c.spot c.queue b))

same-end : (t : TaskId) (how : EndHow) (c : Card) (b : Books) → (after_end t how c b).ports ≡ b.ports
same-end t how c b = of_test (is_yield how)
  where
    of_test : (is : Bool) → (if is then after_yield t c b else after_last c.root (after_stop t b)).ports ≡ b.ports
    of_test true = refl
    of_test false = same-last c.root (after_stop t b)

-- an event that leaves the ports
ports-other : (w : Parts) (h : List Event) (e : Event) (b c : Books) → c.ports ≡ b.ports → ((port : ℕ) → held (h ++ e ∷ []) port ≡ held h port) → KeepsPorts w h b → KeepsPorts w (h ++ e ∷ []) c
ports-other w h e b c same left keeps = record { ports = λ port low. ap (λ ps. row ps port) same ∙ (keeps.ports port low ∙ sym (left port)) }

ports-post : (w : Parts) → IsSound w → (h : List Event) (m : Msg) (b : Books) → IsLegal w h → IsAllowed w h (Post m) → HasSizes w b → KeepsPorts w h b → KeepsPorts w (h ++ Post m ∷ []) (after_post m b)
ports-post w sound h m b legal allowed sizes keeps = record {
  ports = λ port low. row-with_row b.ports m.port port (row b.ports m.port ++ m ∷ []) (omega (arith, low, sizes.ports)) ∙ (of_test port (m.port == port) refl (keeps.ports port low) ∙ sym (held-post h m port (fresh_post w sound.apart h m legal allowed)));
}
  where
    of_test : (port : ℕ) (is : Bool) → (m.port == port) ≡ is → row b.ports port ≡ held h port → (if is then row b.ports m.port ++ m ∷ [] else row b.ports port) ≡ held h port ++ (if is then m ∷ [] else [])
    of_test port true is here = let one : m.port ≡ port = same_number m.port port is in ap (λ p. row b.ports p ++ m ∷ []) one ∙ ap (λ ms. ms ++ m ∷ []) here
    of_test port false is here = here ∙ sym (append-nil (held h port))

-- the rows are what the ports hold
are_held : (w : Parts) (h : List Event) (b : Books) → IsLegal w h → HasSizes w b → KeepsPorts w h b → AreHeld b.ports (held h)
are_held w h b legal sizes keeps = record {
  told = λ port low. keeps.ports port (omega (arith, low, sizes.ports));
  apart = held_once w h legal;
  alone = held_alone w h legal;
}

-- a firing of a branch
ports-branch : (w : Parts) → IsSound w → (h : List Event) (t : TaskId) (n : ℕ) (ms : List MsgId) (cs : List TaskId) (b : Books) → IsLegal w h → IsAllowed w h (Fire t (Branch n) ms cs) → HasSizes w b → KeepsPorts w h b
    → KeepsPorts w (h ++ Fire t (Branch n) ms cs ∷ []) (after_fire w t (Branch n) ms cs b)
ports-branch w sound h t n ms cs b legal allowed sizes keeps =
    let made = some_of (λ (s : Placement). is_selection_of (held h) s.branch.pattern ms) (placement w n) (FireFacts-allowed w h t (Branch n) ms cs allowed).selection_made in
    rw made.1 (record { ports = λ port low. rw (ports-cuts cs b) (port_left made.0 made.1 made.2 port low ∙ sym (held-fire h t (Branch n) ms cs port)) })
  where
    port_left : (s : Placement) → placement w n ≡ Some s → is_selection_of (held h) s.branch.pattern ms ≡ true → (port : ℕ) → port < length w.ports → row (take_pattern s.branch.pattern ms b.ports).ports port ≡ filter (λ (m : Msg). not (has_message ms m.id)) (held h port)
    port_left s at is port low =
        pattern_left s.branch.pattern ms b.ports (held h) (are_held w h b legal sizes keeps) (sound.apart n s at) (λ index p there. omega (arith, sizes.ports, sound.pattern_ports n s index p at there)) is port (omega (arith, low, sizes.ports))

-- who goes on at the site has a card
has_resumed : (w : Parts) (h : List Event) (n k : ℕ) (b : Books) → Keeps w h b → ResumeFacts h n k → (c : Card) × (resumed_card b n k ≡ Some c)
has_resumed w h n k b keeps facts =
    let row_is : suspended_at b.suspended n k ≡ facts.resumes ∷ facts.others = keeps.rows.suspended n k ∙ facts.is_first in
    let card_is : card_at b.tasks facts.resumes ≡ Some (card_of w h facts.resumes facts.firing) = keeps.tasks.cards facts.resumes ∙ ap (option_map (card_of w h facts.resumes)) facts.is_firing in
    (card_of w h facts.resumes facts.firing, ap (λ ts. option_and_then (card_at b.tasks) (slice_get ts 0)) row_is ∙ card_is)

-- a firing at a site
ports-site : (w : Parts) (h : List Event) (t : TaskId) (n k : ℕ) (ms : List MsgId) (cs : List TaskId) (b : Books) → IsLegal w h → IsAllowed w h (Fire t (Site n k) ms cs) → Keeps w h b
    → KeepsPorts w (h ++ Fire t (Site n k) ms cs ∷ []) (after_fire w t (Site n k) ms cs b)
ports-site w h t n k ms cs b legal allowed keeps =
    let card = has_resumed w h n k b keeps (ResumeFacts-allowed w h t n k ms cs allowed) in
    let made = some_of (λ p. are_oldest (held h p) ms) (site_port w n k) (FireFacts-allowed w h t (Site n k) ms cs allowed).selection_made in
    rw (card.1, made.1) (record {
      ports = λ port low. site_left made.0 ms b.ports (held h) (are_held w h b legal keeps.sizes keeps.ports) made.2 port (omega (arith, low, keeps.sizes.ports)) ∙ sym (held-fire h t (Site n k) ms cs port);
    })

-- after each allowed event of a legal history the rows of the ports are still what they hold
pub ports-event : (w : Parts) → IsValid w → (h : List Event) (e : Event) (b : Books) → IsLegal w h → IsAllowed w h e → Keeps w h b → KeepsPorts w (h ++ e ∷ []) (after_event w e b)
ports-event w valid h (Post m) b legal allowed keeps = ports-post w (sound w valid) h m b legal allowed keeps.sizes keeps.ports
ports-event w valid h (Fire t (Branch n) ms cs) b legal allowed keeps = ports-branch w (sound w valid) h t n ms cs b legal allowed keeps.sizes keeps.ports
ports-event w valid h (Fire t (Site n k) ms cs) b legal allowed keeps = ports-site w h t n k ms cs b legal allowed keeps
ports-event w valid h (Admit t) b legal allowed keeps = ports-other w h (Admit t) b (after_event w (Admit t) b) (by_card b (card_at b.tasks t) _ (λ c. refl)) (held-admit h t) keeps.ports
ports-event w valid h (Put t d) b legal allowed keeps = ports-other w h (Put t d) b (after_event w (Put t d) b) (by_card b (card_at b.tasks t) _ (λ c. same-dropped d b)) (held-put h t d) keeps.ports
ports-event w valid h (Start t a) b legal allowed keeps = ports-other w h (Start t a) b (after_event w (Start t a) b) (by_card b (card_at b.tasks t) _ (λ c. refl)) (held-start h t a) keeps.ports
ports-event w valid h (End t how) b legal allowed keeps = ports-other w h (End t how) b (after_event w (End t how) b) (by_card b (card_at b.tasks t) _ (λ c. same-end t how c b)) (held-end h t how) keeps.ports

-- no port holds a message at first
pub ports-none : (w : Parts) → KeepsPorts w [] (empty_books w)
ports-none w = record { ports = λ port low. row-none (length w.ports) port }
