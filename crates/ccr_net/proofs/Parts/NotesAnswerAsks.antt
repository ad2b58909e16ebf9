-- Which note a place gave to an ask.
use Rattle.std.proofs.Common.{◌≡◌, ℕ, ◌+◌, Bool, true, false, List, [], ◌∷◌, ◌++◌, length, filter, Option, Some, None, refl, sym, arith, ◌∙◌, subst}
use Rattle.std.proofs.lemmas.Grind.{common_steps}
use Rattle.ccr_base.specs.declared.messages.Msg.{Msg}
use Rattle.ccr_base.specs.declared.names.TaskId.{TaskId}
use Rattle.ccr_base.specs.declared.tasks.How.{How}
use Rattle.ccr_wiring.specs.declared.parts.ArbiterPart.{ArbiterPart}
use Rattle.ccr_wiring.specs.declared.parts.Kind.{Kind}
use Rattle.ccr_wiring.specs.declared.parts.Kind.TheVariants as kinds
use Rattle.ccr_wiring.specs.declared.parts.Parts.{Parts}
use Rattle.ccr_model.specs.Posts.{is_task_message}
use Rattle.ccr_base.proofs.Options.{some_is}
use Rattle.ccr_places.specs.declared.notes.Note.{Note}
use Rattle.ccr_places.specs.declared.notes.Note.TheVariants as notes
use Rattle.ccr_places.specs.Arbiters.{ArbiterState}
use Rattle.ccr_places.specs.Interleaves.{InterleaveState}
use Rattle.ccr_claim.specs.declared.asks.Ask.{Ask}
use Rattle.ccr_claim.specs.declared.asks.Ask.TheVariants as asks
use Rattle.ccr_claim.specs.declared.asks.Asked.{Asked}
use Rattle.ccr_actor.specs.Actors.{Turn, turn, ask_in}
use Rattle.ccr_runs.specs.declared.entries.Entry.{Entry}
use Rattle.ccr_runs.specs.Places.{note_of, given, note_at_arbiter, note_by_kind, arbiter_note, interleave_note, first_branch, arbiter_after, interleave_after}
use Rattle.ccr_runs.specs.EntryRuns.{Lacks, state_of, notes_at}
use Rattle.ccr_net.proofs.Parts.OneMoreEntry.{Step}

pub given_some : (b : Bool) (m note : Note) → given b m ≡ Some note → (b ≡ true) × (note ≡ m)
given_some true m note is = (refl, cc)
given_some false m note is = absurd (cc)

-- an arbiter gives no note to such an ask
pub none_at : (w : Parts) (ask : Ask) → ((arbiter : ArbiterState) → arbiter_note arbiter ask ≡ None) → ((place : InterleaveState) → interleave_note place ask ≡ None) → (number : ℕ) (o : Option ArbiterPart) (earlier : List Note) → note_at_arbiter w number o earlier ask ≡ None
none_at w ask one two number None earlier = refl
none_at w ask one two number (Some part) earlier = by part.kind
  where
    by : (kind : Kind) → note_by_kind w number kind part earlier ask ≡ None
    by kinds.Receive = one (arbiter_after (first_branch w number) part earlier)
    by kinds.Choice = one (arbiter_after (first_branch w number) part earlier)
    by kinds.Interleave = two (interleave_after w number earlier)

pub over_note : (w : Parts) (task root : TaskId) (how : How) (number : ℕ) (o : Option ArbiterPart) (earlier : List Note) (note : Note) → note_at_arbiter w number o earlier (asks.Over task root how) ≡ Some note → note ≡ notes.Over task root how
over_note w task root how number None earlier note is = absurd (cc)
over_note w task root how number (Some part) earlier note is = by part.kind is
  where
    by : (kind : Kind) → note_by_kind w number kind part earlier (asks.Over task root how) ≡ Some note → note ≡ notes.Over task root how
    by kinds.Receive now = (given_some _ _ note now).1
    by kinds.Choice now = (given_some _ _ note now).1
    by kinds.Interleave now = (given_some _ _ note now).1

pub posts_script : (ms : List Msg) (m : Msg) → is_task_message m.id ≡ false → length (filter (λ (x : Msg). is_task_message x.id) (ms ++ m ∷ [])) ≡ length (filter (λ (x : Msg). is_task_message x.id) ms)
posts_script ms m out = grind (arith, common_steps, out)

pub posts_task : (ms : List Msg) (m : Msg) → is_task_message m.id ≡ true → length (filter (λ (x : Msg). is_task_message x.id) (ms ++ m ∷ [])) ≡ length (filter (λ (x : Msg). is_task_message x.id) ms) + 1
posts_task ms m is = grind (arith, common_steps, is)

-- what the place gave to the ask
pub record Given (w : Parts) (es : List Entry) (e : Entry) (x : Asked) : Type 0 where
  pub there : e.place ≡ x.place
  pub gives : note_of w x.place (notes_at es x.place) x.ask ≡ Some e.note

pub given_to : (w : Parts) (lacks : Lacks) (es : List Entry) (e : Entry) → Step w lacks es e → (tu : Turn) (x : Asked) → turn (state_of w lacks es e.actor) ≡ tu → ask_in w e.actor (state_of w lacks es e.actor) tu ≡ Some x → Given w es e x
given_to w lacks es e step tu x turns is =
    let one : step.asking ≡ x = some_is (sym (subst (λ u. ask_in w e.actor (state_of w lacks es e.actor) u ≡ Some step.asking) turns step.asks) ∙ is) in
    subst (Given w es e) one (record { there = step.there; gives = step.gives })
