-- What a port keeps was posted there.
use Rattle.std.proofs.Common.{inl, inr, ◌⊎◌, ◌≡◌, ◌<◌, ℕ, ◌+◌, Bool, true, false, List, [], ◌∷◌, ◌++◌, length, Option, Some, None, refl, sym, arith, ◌∙◌, subst}
use Rattle.std.specs.Prelude.{◌==◌, nat_lt, ◌^◌, if◌then◌else◌}
use Rattle.std.specs.Option.{option_map_or}
use Rattle.std.proofs.Math.ListN.{get_or}
use Rattle.std.proofs.lemmas.Grind.{common_steps}
use Rattle.std.proofs.lemmas.Option.{get_or_from_slice_get, slice_get-get_or}
use Rattle.ccr_base.specs.declared.messages.Msg.{Msg}
use Rattle.ccr_base.specs.declared.names.Place.TheVariants as places
use Rattle.ccr_base.specs.declared.names.TaskId.{TaskId}
use Rattle.ccr_base.specs.declared.patterns.Pred.{Pred}
use Rattle.ccr_base.specs.declared.patterns.Slot.{Slot}
use Rattle.ccr_base.specs.Selection.{holds, fitting}
use Rattle.ccr_wiring.specs.declared.parts.Parts.{Parts}
use Rattle.ccr_model.specs.declared.history.Event.{Event}
use Rattle.ccr_model.specs.Posts.{posted}
use Rattle.ccr_base.proofs.Booleans.{both}
use Rattle.ccr_base.proofs.Options.{some-below}
use Rattle.ccr_model.proofs.Members.{Among, Among-at, Among-either, Among-left, Among-right, Among-take, Among-kept, index_of}
use Rattle.ccr_places.specs.declared.claims.StandingClaim.{StandingClaim}
use Rattle.ccr_places.specs.declared.notes.ClaimNote.{ClaimNote}
use Rattle.ccr_places.specs.declared.notes.ClaimNote.TheVariants.{Got, Busy, Short}
use Rattle.ccr_places.specs.declared.notes.Note.{Note}
use Rattle.ccr_places.specs.declared.notes.Note.TheVariants as notes
use Rattle.ccr_places.specs.Ports.{PortState, first_fitting, without_first}
use Rattle.ccr_places.specs.Ports as ports
use Rattle.ccr_base.proofs.FirstFitting.{all_without}
use Rattle.ccr_claim.specs.declared.asks.Ask.{Ask}
use Rattle.ccr_claim.specs.declared.asks.Ask.TheVariants as asks
use Rattle.ccr_runs.specs.declared.entries.Entry.{Entry}
use Rattle.ccr_runs.specs.Places.{note_of, port_note}
use Rattle.ccr_runs.specs.EntryRuns.{IsRunAfter, Lacks, made_by, notes_at, port_at, same_place}
use Rattle.ccr_runs.specs.Visible.{event_of, shown, visible}
use Rattle.ccr_net.proofs.Parts.NotesAnswerAsks.{given_some}
use Rattle.ccr_net.proofs.Played.PlacesByNumber.{same_place-is}
use Rattle.ccr_net.proofs.Parts.OneMoreEntry.{Step, Step-made, along_run, port_at-push, visible-push}

pub among_fitting : (k : ℕ) (pred : Pred) (ms : List Msg) (m : Msg) → Among m (first_fitting k pred ms) → Among m ms
among_fitting k pred ms m is = Among-kept (λ (x : Msg). holds pred x.value) ms m (Among-take k (fitting pred ms) m is)

among_without : (k : ℕ) (pred : Pred) (ms : List Msg) (m : Msg) → Among m (without_first k pred ms) → Among m ms
among_without k pred ms m is =
    let at = index_of (without_first k pred ms) m is in
    let all = all_without (λ (x : Msg). Among x ms) k pred ms (λ i d low. Among-at ms i (get_or ms i d) (slice_get-get_or ms i d low)) in
    subst (λ (x : Msg). Among x ms) (get_or_from_slice_get (without_first k pred ms) at.0 m m at.1) (all at.0 m (some-below (without_first k pred ms) at.0 m at.1))

-- the port keeps its number, and only what was posted to it
pub record KeepsPosted (h : List Event) (p : ℕ) (port : PortState) : Type 0 where
  pub number : port.number ≡ p
  pub items : (m : Msg) → Among m port.items → Among m (posted h p)

posted-append : (h evs : List Event) (p : ℕ) → posted (h ++ evs) p ≡ posted h p ++ posted evs p
posted-append h evs p = grind (arith, common_steps)

pub posted_on : (h evs : List Event) (p : ℕ) (m : Msg) → Among m (posted h p) → Among m (posted (h ++ evs) p)
posted_on h evs p m is = subst (Among m) (sym (posted-append h evs p)) (Among-left m (posted h p) (posted evs p) is)

unclaimed : (port : PortState) (o : Option StandingClaim) (m : Msg) → Among m (option_map_or (λ (claim : StandingClaim). without_first claim.count claim.pred port.items) o port.items) → Among m port.items
unclaimed port None m is = is
unclaimed port (Some c) m is = among_without c.count c.pred port.items m is

claim_items : (port : PortState) (t : TaskId) (s : Slot) (n : ClaimNote) → (ports.after_claim port t s n).items ≡ port.items
claim_items port t s (Got k) = refl
claim_items port t s (Busy u) = refl
claim_items port t s (Short k) = refl

claim_number : (port : PortState) (t : TaskId) (s : Slot) (n : ClaimNote) → (ports.after_claim port t s n).number ≡ port.number
claim_number port t s (Got k) = refl
claim_number port t s (Busy u) = refl
claim_number port t s (Short k) = refl

module _ (h : List Event) (a p : ℕ) (port : PortState) (keeps : KeepsPosted h p port) where
  keeps_more : (evs : List Event) → KeepsPosted (h ++ evs) p port
  keeps_more evs = record { number = keeps.number; items = λ m is. posted_on h evs p m (keeps.items m is) }

  posts_here : (m : Msg) → (m.port == p) ≡ true → Among m (posted (h ++ shown a (notes.Post m)) p)
  posts_here m at = subst (Among m) (sym (posted-append h (shown a (notes.Post m)) p)) (Among-right m (posted h p) (posted (shown a (notes.Post m)) p) (by (m.port == p) at))
    where
      by : (b : Bool) → b ≡ true → Among m (if b then m ∷ [] else [])
      by true is = inl refl
      by false is = absurd (cc)

  keeps_after : (ask : Ask) (note : Note) → port_note port ask ≡ Some note → KeepsPosted (h ++ shown a note) p (ports.after port note)
  keeps_after (asks.Post m) note is = subst (λ x. KeepsPosted (h ++ shown a x) p (ports.after port x)) (sym told.1) (record { number = keeps.number; items = λ x among. of x (Among-either x port.items (m ∷ []) among) })
    where
      told : (ports.may_post port m ≡ true) × (note ≡ notes.Post m)
      told = given_some (ports.may_post port m) (notes.Post m) note is

      at : (m.port == p) ≡ true
      at = subst (λ k. (m.port == k) ≡ true) keeps.number (both (m.port == port.number) (nat_lt (length port.items + 1) (2 ^ 32)) told.0).0

      of : (x : Msg) → Among x port.items ⊎ Among x (m ∷ []) → Among x (posted (h ++ shown a (notes.Post m)) p)
      of x (inl old) = posted_on h (shown a (notes.Post m)) p x (keeps.items x old)
      of x (inr (inl same)) = subst (λ y. Among y (posted (h ++ shown a (notes.Post m)) p)) (sym same) (posts_here m at)
      of x (inr (inr none)) = absurd none
  keeps_after (asks.Claim t s) note is = subst (λ x. KeepsPosted (h ++ shown a x) p (ports.after port x)) (sym told.1) (record { number = claim_number port t s (ports.claim_note port s) ∙ keeps.number; items = λ x among. posted_on h [] p x (keeps.items x (subst (Among x) (claim_items port t s (ports.claim_note port s)) among)) })
    where
      told : (ports.may_claim port t s ≡ true) × (note ≡ notes.Claim t s (ports.claim_note port s))
      told = given_some (ports.may_claim port t s) (notes.Claim t s (ports.claim_note port s)) note is
  keeps_after (asks.Consume t) note is = subst (λ x. KeepsPosted (h ++ shown a x) p (ports.after port x)) (sym told.1) (record { number = keeps.number; items = λ x among. posted_on h [] p x (keeps.items x (unclaimed port port.claim x among)) })
    where
      told : (ports.may_consume port t ≡ true) × (note ≡ notes.Consume t)
      told = given_some (ports.may_consume port t) (notes.Consume t) note is
  keeps_after (asks.Free t) note is = subst (λ x. KeepsPosted (h ++ shown a x) p (ports.after port x)) (sym told.1) (record { number = keeps.number; items = λ x among. posted_on h [] p x (keeps.items x among) })
    where
      told : (ports.may_free port t ≡ true) × (note ≡ notes.Free t)
      told = given_some (ports.may_free port t) (notes.Free t) note is
  keeps_after (asks.Commit task ms) note is = absurd (cc)
  keeps_after asks.Admit note is = absurd (cc)
  keeps_after (asks.Over t r how) note is = absurd (cc)
  keeps_after (asks.Suspend task) note is = absurd (cc)
  keeps_after (asks.Book t r) note is = absurd (cc)
  keeps_after (asks.Unbook t) note is = absurd (cc)
  keeps_after (asks.Put task) note is = absurd (cc)
  keeps_after asks.Take note is = absurd (cc)
  keeps_after asks.Draw note is = absurd (cc)
  keeps_after asks.Leave note is = absurd (cc)
  keeps_after asks.Left note is = absurd (cc)

-- each port of a run
abbrev pub AllPosted : List Entry → Type 0
AllPosted es = (p : ℕ) → KeepsPosted (visible es) p (port_at es p)

pub all_posted : (w : Parts) (workers : ℕ) (lacks : Lacks) (es : List Entry) → IsRunAfter w workers lacks [] es → AllPosted es
all_posted w workers lacks es run = along_run w workers lacks AllPosted kept (λ p. record { number = refl; items = λ m is. absurd is }) es run
  where
    kept : (past : List Entry) (e : Entry) → AllPosted past → e.actor < length w.posters + workers → made_by w lacks past e.actor ≡ Some e → AllPosted (past ++ e ∷ [])
    kept past e known low made p = subst (λ h. KeepsPosted h p (port_at (past ++ e ∷ []) p)) (sym (visible-push past e)) (subst (KeepsPosted (visible past ++ event_of e) p) (sym (port_at-push past e p)) (by (same_place e.place (places.Port p)) refl))
      where
        step : Step w lacks past e
        step = Step-made w lacks past e made

        by : (b : Bool) → same_place e.place (places.Port p) ≡ b → KeepsPosted (visible past ++ event_of e) p (if b then ports.after (port_at past p) e.note else port_at past p)
        by true at = keeps_after (visible past) e.actor p (port_at past p) (known p) step.asking.ask e.note (subst (λ pl. note_of w pl (notes_at past pl) step.asking.ask ≡ Some e.note) (sym step.there ∙ same_place-is e.place (places.Port p) at) step.gives)
        by false at = keeps_more (visible past) e.actor p (port_at past p) (known p) (event_of e)
