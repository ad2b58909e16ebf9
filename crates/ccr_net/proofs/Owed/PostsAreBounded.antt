-- A legal history has at most as many posts as the scripts have lines and the tasks have made, and a port no more messages.
use Rattle.std.proofs.Common.{◌≡◌, ◌≤◌, ℕ, ◌+◌, ◌-◌, Bool, true, false, ◌&&◌, List, [], ◌∷◌, ◌++◌, length, Option, Some, None, arith, ap, ◌∙◌, length-append}
use Rattle.std.specs.Prelude.{if◌then◌else◌, nat_lt}
use Rattle.std.specs.Option.{option_map_or}
use Rattle.ccr_base.specs.declared.messages.Msg.{Msg}
use Rattle.ccr_base.specs.declared.names.Place.TheVariants as places
use Rattle.ccr_base.specs.declared.patterns.Pred.{Pred}
use Rattle.ccr_base.specs.declared.tasks.How.TheVariants as hows
use Rattle.ccr_base.specs.Selection.{holds}
use Rattle.ccr_wiring.specs.declared.parts.Parts.{Parts}
use Rattle.ccr_wiring.specs.Limits.{posts_in_all}
use Rattle.ccr_wiring.specs.Openness.{is_closed}
use Rattle.ccr_model.specs.declared.history.Event.{Event}
use Rattle.ccr_model.specs.Legal.{IsLegal}
use Rattle.ccr_model.specs.Posts.{posts, posts_of_tasks}
use Rattle.ccr_model.proofs.OneMoreEvent.{posts-append}
use Rattle.ccr_model.proofs.PostCounts.{ArePosted-legal, both_kinds}
use Rattle.ccr_places.specs.declared.claims.StandingClaim.{StandingClaim}
use Rattle.ccr_places.specs.declared.notes.ClaimNote.TheVariants.{Got, Busy, Short}
use Rattle.ccr_places.specs.declared.notes.Note.{Note}
use Rattle.ccr_places.specs.declared.notes.Note.TheVariants as notes
use Rattle.ccr_places.specs.Ports.{PortState, without_first}
use Rattle.ccr_places.specs.Ports as ports
use Rattle.ccr_runs.specs.declared.entries.Entry.{Entry}
use Rattle.ccr_runs.specs.EntryRuns.{port_at, same_place}
use Rattle.ccr_runs.specs.Visible.{visible, event_of, shown}
use Rattle.ccr_net.proofs.Parts.OneMoreEntry.{port_at-push, visible-push}

-- a legal history's posts, in a closed wiring
pub posts_bounded : (w : Parts) → is_closed w ≡ true → (h : List Event) → IsLegal w h → length (posts h) ≤ posts_of_tasks h + posts_in_all w.posters
posts_bounded w closed h legal = let known = ArePosted-legal w closed h legal in omega (arith, known.lines, both_kinds (posts h))

-- ---- what a port keeps

fewer : (n : ℕ) (pred : Pred) (ms : List Msg) → length (without_first n pred ms) ≤ length ms
fewer n pred [] = omega arith
fewer n pred (m ∷ ms) = by (holds pred m.value && nat_lt 0 n) (fewer (n - 1) pred ms) (fewer n pred ms)
  where
    by : (b : Bool) → length (without_first (n - 1) pred ms) ≤ length ms → length (without_first n pred ms) ≤ length ms → length (if b then without_first (n - 1) pred ms else m ∷ without_first n pred ms) ≤ length (m ∷ ms)
    by true less other = omega (arith, less)
    by false less other = omega (arith, other)

abbrev Room : PortState → PortState → ℕ → Type 0
Room port next more = length next.items ≤ length port.items + more

kept_few : (a : ℕ) (port : PortState) (note : Note) → Room port (ports.after port note) (length (posts (shown a note)))
kept_few a port (notes.Post m) = let more = length-append {A = Msg} port.items (m ∷ []) in omega (arith, more)
kept_few a port (notes.Claim t s (Got k)) = omega arith
kept_few a port (notes.Claim t s (Busy u)) = omega arith
kept_few a port (notes.Claim t s (Short k)) = omega arith
kept_few a port (notes.Consume t) = by port.claim
  where
    by : (o : Option StandingClaim) → length (option_map_or (λ (c : StandingClaim). without_first c.count c.pred port.items) o port.items) ≤ length port.items + 0
    by None = omega arith
    by (Some c) = let less = fewer c.count c.pred port.items in omega (arith, less)
kept_few a port (notes.Free t) = omega arith
kept_few a port (notes.Fired t s ms cs) = omega arith
kept_few a port (notes.Dead t s by) = omega arith
kept_few a port (notes.Admit None) = omega arith
kept_few a port (notes.Admit (Some t)) = omega arith
kept_few a port (notes.Over t r hows.Done) = omega arith
kept_few a port (notes.Over t r (hows.Failed value)) = omega arith
kept_few a port (notes.Over t r hows.Shed) = omega arith
kept_few a port (notes.Over t r hows.Dropped) = omega arith
kept_few a port (notes.Suspend t) = omega arith
kept_few a port (notes.Book t r f) = omega arith
kept_few a port (notes.Unbook t) = omega arith
kept_few a port (notes.Put t d) = omega arith
kept_few a port (notes.Take None) = omega arith
kept_few a port (notes.Take (Some t)) = omega arith
kept_few a port (notes.Draw k) = omega arith
kept_few a port notes.Leave = omega arith
kept_few a port (notes.Left k) = omega arith

-- no port has more messages than were posted
abbrev pub FewItems : List Entry → Type 0
FewItems es = (p : ℕ) → length (port_at es p).items ≤ length (posts (visible es))

pub few_items-kept : (es : List Entry) (e : Entry) → FewItems es → FewItems (es ++ e ∷ [])
few_items-kept es e few p = by (same_place e.place (places.Port p)) (ap (λ (s : PortState). length s.items) (port_at-push es e p))
  where
    longer : length (posts (visible (es ++ e ∷ []))) ≡ length (posts (visible es)) + length (posts (event_of e))
    longer = ap (λ g. length (posts g)) (visible-push es e) ∙ ap (λ ms. length ms) (posts-append (visible es) (event_of e)) ∙ length-append {A = Msg} (posts (visible es)) (posts (event_of e))

    by : (b : Bool) → length (port_at (es ++ e ∷ []) p).items ≡ length (if b then ports.after (port_at es p) e.note else port_at es p).items → length (port_at (es ++ e ∷ []) p).items ≤ length (posts (visible (es ++ e ∷ [])))
    by true is = let old = few p in let room = kept_few e.actor (port_at es p) e.note in omega (arith, is, old, room, longer)
    by false is = let old = few p in omega (arith, is, old, longer)
