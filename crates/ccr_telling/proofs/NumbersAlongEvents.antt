-- The numbers along the events of a history.
use Rattle.std.proofs.Common.{◌≡◌, ◌∙◌, ℕ, ◌+◌, ◌-◌, ◌<◌, ◌≤◌, List, [], ◌∷◌, ◌++◌, length, take, get_or, refl, sym, ap, subst}
use Rattle.std.specs.Prelude.{◌^◌}
use Rattle.std.proofs.lemmas.List.{take_more}
use Rattle.std.proofs.lemmas.Option.{slice_get_read}
use Rattle.ccr_model.specs.declared.history.Event.{Event}
use Rattle.ccr_model.specs.Posts.{taken}
use Rattle.ccr_model.specs.Firings.{cut}
use Rattle.ccr_ledger.specs.Books.{Books}
use Rattle.ccr_telling.specs.Tallies.{AreFew, AreTallies, EventFits, Tallies, after_event, no_tallies}
use Rattle.ccr_telling.proofs.Counting.{tallies-event, tallies-none}
use Rattle.ccr_telling.proofs.NumbersGrowByOne.{few-event, few-none, event_fits}
use Rattle.ccr_base.proofs.Lists.{take_none}

-- the numbers of the first events
pub record IsAlong (ports indices queues : ℕ) (b : Books) (es : List Event) (i : ℕ) (t : Tallies) : Type 0 where
  pub counted : AreTallies ports indices queues b (take i es) t
  pub few : AreFew i t

pub along_none : (ports indices queues : ℕ) (b : Books) (es : List Event) (t : Tallies) → t ≡ no_tallies ports indices queues → IsAlong ports indices queues b es 0 t
along_none ports indices queues b es t is = rw is (record {
  counted = subst (λ h. AreTallies ports indices queues b h (no_tallies ports indices queues)) (sym (take_none es)) (tallies-none ports indices queues b);
  few = few-none ports indices queues;
})

pub along_next : (ports indices queues : ℕ) (b : Books) (es : List Event) (i : ℕ) (e : Event) (old new : Tallies) → i < length es → e ≡ get_or es i e → new ≡ after_event b e old → IsAlong ports indices queues b es i old → IsAlong ports indices queues b es (i + 1) new
along_next ports indices queues b es i e old new low at is along =
    let more = take_more es i e low ∙ ap (λ x. take i es ++ x ∷ []) (sym at) in
    rw is (record {
      counted = subst (λ h. AreTallies ports indices queues b h (after_event b e old)) (sym more) (tallies-event ports indices queues b (take i es) e old along.counted);
      few = few-event i b e old along.few;
    })

pub along_fits : (ports indices queues : ℕ) (b : Books) (es : List Event) (i : ℕ) (e : Event) (t : Tallies) → i < length es → e ≡ get_or es i e → i < 2 ^ 64 - 1 → length es < 2 ^ 64 → length (taken es) ≤ length es → length (cut es) ≤ length es → IsAlong ports indices queues b es i t → EventFits e t
along_fits ports indices queues b es i e t low at fits short takes cuts along = event_fits ports indices queues b es i e t (slice_get_read es (length es) i e refl low at) fits short takes cuts along.counted along.few
