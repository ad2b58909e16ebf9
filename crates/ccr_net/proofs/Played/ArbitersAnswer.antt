-- A receive or a choice answers each ask of a run as the run has it.
use Rattle.std.proofs.Common.{◌≡◌, ℕ, true, false, List, [], ◌∷◌, ◌++◌, Option, Some, None, refl, sym, ap, ◌∙◌}
use Rattle.std.specs.Prelude.{if◌then◌else◌, slice_get}
use Rattle.std.specs.Option.{option_map, option_map_or}
use Rattle.std.proofs.lemmas.Grind.{common_steps}
use Rattle.std.proofs.Common.{arith}
use Rattle.ccr_base.specs.declared.names.MsgId.{MsgId}
use Rattle.ccr_base.specs.declared.names.Place.TheVariants as places
use Rattle.ccr_base.specs.declared.names.TaskId.{TaskId}
use Rattle.ccr_base.specs.declared.tasks.By.TheVariants.{Fired as ByFired}
use Rattle.ccr_base.specs.declared.tasks.Commit.TheVariants as commits
use Rattle.ccr_base.specs.declared.tasks.Task.{Task}
use Rattle.ccr_wiring.specs.declared.parts.ArbiterPart.{ArbiterPart}
use Rattle.ccr_wiring.specs.declared.parts.Kind.{Kind}
use Rattle.ccr_wiring.specs.declared.parts.Kind.TheVariants as kinds
use Rattle.ccr_wiring.specs.declared.parts.Parts.{Parts}
use Rattle.ccr_wiring.specs.Groups.{is_interleave}
use Rattle.ccr_wiring.specs.Valid.{IsValid}
use Rattle.ccr_wiring.specs.Wirings.{Placement}
use Rattle.ccr_base.proofs.Booleans.{eq-self}
use Rattle.ccr_places.specs.declared.notes.Note.{Note}
use Rattle.ccr_places.specs.declared.notes.Note.TheVariants as notes
use Rattle.ccr_places.specs.Arbiters.{ArbiterState}
use Rattle.ccr_places.specs.Arbiters as arbiters
use Rattle.ccr_arbiter.specs.Replies.{commit_reply, after_commit}
use Rattle.ccr_claim.specs.declared.asks.Ask.{Ask}
use Rattle.ccr_claim.specs.declared.asks.Ask.TheVariants as asks
use Rattle.ccr_claim.specs.declared.asks.Reply.{Reply}
use Rattle.ccr_claim.specs.declared.asks.Reply.TheVariants as replies
use Rattle.ccr_claim.specs.Attempts.{at_place}
use Rattle.ccr_object.specs.declared.object.Object.TheVariants.{Arbiter}
use Rattle.ccr_object.specs.Arbiters as arbiter_objects
use Rattle.ccr_object.specs.Commits.{committed}
use Rattle.ccr_object.specs.Objects.{answer, after}
use Rattle.ccr_runs.specs.declared.entries.Entry.{Entry}
use Rattle.ccr_runs.specs.Places.{arbiter_after, arbiter_note, commit_note, first_branch, note_at_arbiter, note_by_kind}
use Rattle.ccr_runs.specs.EntryRuns.{notes_at, reply_of, reply_to, same_place, waits}
use Rattle.ccr_runs.specs.Views.{view}
use Rattle.ccr_runs.specs.Visible.{visible}
use Rattle.ccr_net.proofs.Played.BuiltTasksAreTold.{IsBuilt}
use Rattle.ccr_net.proofs.Parts.NotesAnswerAsks.{Given, given_some}
use Rattle.ccr_net.proofs.Kept.WhatWiringsHave.{PlainFacts}
use Rattle.ccr_net.proofs.Played.DomainsAnswer.{CommitTells}
use Rattle.ccr_net.proofs.Played.ArbitersBeginAlike.{plain_object}
use Rattle.ccr_net.proofs.Played.ObjectsFollowNotes.{AnswersAs}
use Rattle.ccr_net.proofs.Parts.OneMoreEntry.{notes_at-push}

module _ (w : Parts) (valid : IsValid w) (plain : PlainFacts w) (i : ℕ) (part : ArbiterPart) (at : slice_get w.arbiters i ≡ Some part) (outside : is_interleave part.kind ≡ false) (es : List Entry) (e : Entry) where
  abbrev arbiter : ArbiterState
  arbiter = arbiter_after (first_branch w i) part (notes_at es (places.Arbiter i))

  -- the answer and the arbiter after it, from their parts
  told : (ask : Ask) (reply : Reply) → e.place ≡ places.Arbiter i → reply_to w (visible (es ++ e ∷ [])) (notes_at es (places.Arbiter i)) e.note ≡ reply → arbiter_objects.answer arbiter ask ≡ Some (reply, e.note) → arbiter_objects.after arbiter ask ≡ arbiters.after arbiter e.note → AnswersAs w es (at_place (places.Arbiter i) ask) e
  told ask reply there replied answered left = record {
    answers = ap (λ o. answer o ask) (plain_object w valid i part at outside es) ∙ answered ∙ ap (λ r. Some (r, e.note)) (sym reply_so);
    goes = ap (λ o. after o ask) (plain_object w valid i part at outside es) ∙ ap Arbiter (left ∙ sym pushed) ∙ sym (plain_object w valid i part at outside (es ++ e ∷ []));
  }
    where
      reply_so : reply_of w es e ≡ reply
      reply_so = ap (λ p. reply_to w (visible (es ++ e ∷ [])) (notes_at es p) e.note) there ∙ replied

      noted : notes_at (es ++ e ∷ []) (places.Arbiter i) ≡ notes_at es (places.Arbiter i) ++ e.note ∷ []
      noted = notes_at-push es e (places.Arbiter i) ∙ ap (λ b. notes_at es (places.Arbiter i) ++ (if b then e.note ∷ [] else [])) (ap (λ q. same_place q (places.Arbiter i)) there ∙ eq-self i)

      one_more : (st : ArbiterState) (earlier : List Note) (note : Note) → arbiters.kept st (earlier ++ note ∷ []) ≡ arbiters.after (arbiters.kept st earlier) note
      one_more st earlier note = grind (arith, common_steps)

      pushed : arbiter_after (first_branch w i) part (notes_at (es ++ e ∷ []) (places.Arbiter i)) ≡ arbiters.after arbiter e.note
      pushed = ap (arbiter_after (first_branch w i) part) noted ∙ one_more (arbiter_after (first_branch w i) part []) (notes_at es (places.Arbiter i)) e.note

  -- a commit: dead by an earlier firing, or fired
  commits_as : (task : Task) (ms : List MsgId) → IsBuilt w es e i task ms → e.place ≡ places.Arbiter i → arbiters.may_commit arbiter task ≡ true → e.note ≡ commit_note task ms (arbiters.dead_by arbiter) (notes.Fired task.id task.spot ms []) → AnswersAs w es (at_place (places.Arbiter i) (asks.Commit task ms)) e
  commits_as task ms built there may noted = by (arbiters.retired_by arbiter) refl
    where
      unwaiting : waits w task.spot ≡ false
      unwaiting =
          let part_of : slice_get w.arbiters built.seat.domain ≡ Some part = ap (slice_get w.arbiters) built.at_i ∙ at in
          let kind : part.kind ≡ built.seat.kind = plain.kinds_so built.number built.seat part built.sits part_of in
          ap (waits w) built.branch ∙ ap (λ o. option_map_or (λ (s : Placement). is_interleave s.kind) o false) built.sits ∙ ap is_interleave (sym kind) ∙ outside

      by : (o : Option TaskId) → arbiters.retired_by arbiter ≡ o → AnswersAs w es (at_place (places.Arbiter i) (asks.Commit task ms)) e
      by None live = told (asks.Commit task ms) (replies.Fired (Some task) []) there replied answered left
        where
          fired : e.note ≡ notes.Fired task.id task.spot ms []
          fired = noted ∙ ap (λ o. commit_note task ms (option_map ByFired o) (notes.Fired task.id task.spot ms [])) live

          replied : reply_to w (visible (es ++ e ∷ [])) (notes_at es (places.Arbiter i)) e.note ≡ replies.Fired (Some task) []
          replied = ap (reply_to w (visible (es ++ e ∷ [])) (notes_at es (places.Arbiter i))) fired ∙ ap (λ b. replies.Fired (if b then None else Some (view w (visible (es ++ e ∷ [])) task.id)) []) unwaiting ∙ ap (λ t. replies.Fired (Some t) []) (sym (built.whole [] fired))

          answered : arbiter_objects.answer arbiter (asks.Commit task ms) ≡ Some (replies.Fired (Some task) [], e.note)
          answered = ap (λ b. if b then Some (committed task ms (commit_reply arbiter task)) else None) may ∙ ap (λ o. Some (committed task ms (option_map_or (λ (t : TaskId). commits.Dead (ByFired t)) o (commits.Fired (Some task) [])))) live ∙ ap (λ note. Some (replies.Fired (Some task) [], note)) (sym fired)

          left : arbiter_objects.after arbiter (asks.Commit task ms) ≡ arbiters.after arbiter e.note
          left = ap (λ b. if b then after_commit arbiter task else arbiter) may ∙ ap (λ o. option_map_or (λ (t : TaskId). arbiter) o (arbiters.after_firing arbiter task.id)) live ∙ ap (arbiters.after arbiter) (sym fired)
      by (Some t) dead = told (asks.Commit task ms) (replies.Dead (ByFired t)) there replied answered left
        where
          out : e.note ≡ notes.Dead task.id task.spot (ByFired t)
          out = noted ∙ ap (λ o. commit_note task ms (option_map ByFired o) (notes.Fired task.id task.spot ms [])) dead

          replied : reply_to w (visible (es ++ e ∷ [])) (notes_at es (places.Arbiter i)) e.note ≡ replies.Dead (ByFired t)
          replied = ap (reply_to w (visible (es ++ e ∷ [])) (notes_at es (places.Arbiter i))) out

          answered : arbiter_objects.answer arbiter (asks.Commit task ms) ≡ Some (replies.Dead (ByFired t), e.note)
          answered = ap (λ b. if b then Some (committed task ms (commit_reply arbiter task)) else None) may ∙ ap (λ o. Some (committed task ms (option_map_or (λ (u : TaskId). commits.Dead (ByFired u)) o (commits.Fired (Some task) [])))) dead ∙ ap (λ note. Some (replies.Dead (ByFired t), note)) (sym out)

          left : arbiter_objects.after arbiter (asks.Commit task ms) ≡ arbiters.after arbiter e.note
          left = ap (λ b. if b then after_commit arbiter task else arbiter) may ∙ ap (λ o. option_map_or (λ (u : TaskId). arbiter) o (arbiters.after_firing arbiter task.id)) dead ∙ ap (arbiters.after arbiter) (sym out)

  by_ask : (ask : Ask) → e.place ≡ places.Arbiter i → arbiter_note arbiter ask ≡ Some e.note → CommitTells w es e i ask → AnswersAs w es (at_place (places.Arbiter i) ask) e
  by_ask (asks.Commit task ms) there gives tells =
      let found = given_some (arbiters.may_commit arbiter task) (commit_note task ms (arbiters.dead_by arbiter) (notes.Fired task.id task.spot ms [])) e.note gives in
      commits_as task ms tells there found.0 found.1
  by_ask (asks.Over t r how) there gives tells =
      let found = given_some (arbiters.may_over arbiter r) (notes.Over t r how) e.note gives in
      told (asks.Over t r how) replies.Done there (ap (reply_to w (visible (es ++ e ∷ [])) (notes_at es (places.Arbiter i))) found.1)
      (ap (λ b. if b then Some (replies.Done, notes.Over t r how) else None) found.0 ∙ ap (λ note. Some (replies.Done, note)) (sym found.1))
      (ap (λ b. if b then arbiters.after_over arbiter r else arbiter) found.0 ∙ ap (arbiters.after arbiter) (sym found.1))
  by_ask (asks.Post m) there gives tells = absurd (cc)
  by_ask (asks.Claim t s) there gives tells = absurd (cc)
  by_ask (asks.Consume t) there gives tells = absurd (cc)
  by_ask (asks.Free t) there gives tells = absurd (cc)
  by_ask asks.Admit there gives tells = absurd (cc)
  by_ask (asks.Suspend t) there gives tells = absurd (cc)
  by_ask (asks.Book t r) there gives tells = absurd (cc)
  by_ask (asks.Unbook t) there gives tells = absurd (cc)
  by_ask (asks.Put t) there gives tells = absurd (cc)
  by_ask asks.Take there gives tells = absurd (cc)
  by_ask asks.Draw there gives tells = absurd (cc)
  by_ask asks.Leave there gives tells = absurd (cc)
  by_ask asks.Left there gives tells = absurd (cc)

  -- the note is by the kind
  note_so : (ask : Ask) → note_at_arbiter w i (slice_get w.arbiters i) (notes_at es (places.Arbiter i)) ask ≡ arbiter_note arbiter ask
  note_so ask = ap (λ o. note_at_arbiter w i o (notes_at es (places.Arbiter i)) ask) at ∙ by part.kind refl outside
    where
      by : (kind : Kind) → part.kind ≡ kind → is_interleave kind ≡ false → note_by_kind w i part.kind part (notes_at es (places.Arbiter i)) ask ≡ arbiter_note arbiter ask
      by kinds.Receive kind free = ap (λ k. note_by_kind w i k part (notes_at es (places.Arbiter i)) ask) kind
      by kinds.Choice kind free = ap (λ k. note_by_kind w i k part (notes_at es (places.Arbiter i)) ask) kind
      by kinds.Interleave kind free = absurd (cc)

  pub plain_answers : (ask : Ask) → Given w es e (at_place (places.Arbiter i) ask) → CommitTells w es e i ask → AnswersAs w es (at_place (places.Arbiter i) ask) e
  plain_answers ask got tells = by_ask ask got.there (sym (note_so ask) ∙ got.gives) tells
