-- Each claim that an actor is to consume or to free stands.
use Rattle.std.proofs.Common.{inl, inr, ◌⊎◌, ◌≡◌, ◌≤◌, ◌<◌, ℕ, zero, suc, ◌+◌, Bool, true, false, ◌&&◌, List, [], ◌∷◌, ◌++◌, map, reverse, Option, Some, None, refl, sym, arith, ap, ◌∙◌, subst}
use Rattle.std.specs.Prelude.{◌==◌, ◌||◌, if◌then◌else◌}
use Rattle.std.specs.Option.{option_map_or}
use Rattle.std.proofs.lemmas.Grind.{common_steps}
use Rattle.std.proofs.lemmas.List.{reverse-append}
use Rattle.ccr_base.specs.declared.names.Place.{Place}
use Rattle.ccr_base.specs.declared.names.Place.TheVariants as places
use Rattle.ccr_base.specs.declared.names.TaskId.{TaskId}
use Rattle.ccr_base.specs.declared.tasks.Cut.{Cut}
use Rattle.ccr_base.specs.declared.tasks.Task.{Task}
use Rattle.ccr_base.specs.Names.{same_task, has_task}
use Rattle.ccr_wiring.specs.declared.parts.Parts.{Parts}
use Rattle.ccr_base.proofs.Booleans.{same_number, eq-self, no_both, or_left, and_false}
use Rattle.ccr_base.proofs.Options.{some_is}
use Rattle.ccr_base.proofs.SameNames.{same_task-is, same_task-self}
use Rattle.ccr_places.specs.declared.claims.StandingClaim.{StandingClaim}
use Rattle.ccr_places.specs.declared.notes.ClaimNote.TheVariants.{Got}
use Rattle.ccr_places.specs.declared.notes.Note.{Note}
use Rattle.ccr_places.specs.declared.notes.Note.TheVariants as notes
use Rattle.ccr_places.specs.Ports.{PortState, is_claimed_by}
use Rattle.ccr_places.specs.Ports as ports
use Rattle.ccr_claim.specs.declared.asks.Ask.{Ask}
use Rattle.ccr_claim.specs.declared.asks.Ask.TheVariants as asks
use Rattle.ccr_claim.specs.declared.asks.Asked.{Asked}
use Rattle.ccr_claim.specs.declared.plan.Had.{Had}
use Rattle.ccr_claim.specs.Attempts.{at_place, attempt_ask, claiming, free_ask, consume_ask, unbook_ask, cut_ask, put_asks}
use Rattle.ccr_actor.specs.Plans.{plan_of}
use Rattle.ccr_actor.specs.Actors.{State, name_at}
use Rattle.ccr_runs.specs.declared.entries.Entry.{Entry}
use Rattle.ccr_runs.specs.Places.{port_note}
use Rattle.ccr_runs.specs.EntryRuns.{Lacks, state_of, port_at, same_place}
use Rattle.ccr_net.proofs.Parts.OneMoreEntry.{Step, port_at-push}
use Rattle.ccr_net.proofs.Kept.WholeInvariant.{Holds, port_changes}
use Rattle.ccr_net.proofs.Parts.MeterMatches.{bit}
use Rattle.ccr_net.proofs.Parts.NotesAnswerAsks.{Given, given_some}
use Rattle.ccr_runs.specs.Views.{cut_view}
use Rattle.ccr_runs.specs.Visible.{visible}
use Rattle.ccr_net.proofs.Owed.EntriesAreMoves.{handed}
use Rattle.ccr_net.proofs.Owed.EntriesChangeOwing.{Owes, less, dropped, admitted, booked, got, fired, same, ended, owes, is_quiet}
use Rattle.ccr_net.proofs.Owed.OwedByOneOnce.{owed_by}
use Rattle.ccr_net.proofs.Owed.OwedByOneOnce as owed

-- the task whose claim the ask ends
abbrev pub unclaims : Ask → List TaskId
unclaims (asks.Consume t) = t ∷ []
unclaims (asks.Free t) = t ∷ []
unclaims _ = []

unclaims-quiet : (ask : Ask) → is_quiet ask ≡ true → unclaims ask ≡ []
unclaims-quiet (asks.Post m) is = refl
unclaims-quiet (asks.Claim t s) is = refl
unclaims-quiet (asks.Consume t) is = absurd (cc)
unclaims-quiet (asks.Free t) is = absurd (cc)
unclaims-quiet (asks.Commit t ms) is = refl
unclaims-quiet asks.Admit is = refl
unclaims-quiet (asks.Over t r how) is = refl
unclaims-quiet (asks.Suspend t) is = refl
unclaims-quiet (asks.Book t r) is = refl
unclaims-quiet (asks.Unbook t) is = refl
unclaims-quiet (asks.Put t) is = refl
unclaims-quiet asks.Take is = refl
unclaims-quiet asks.Draw is = refl
unclaims-quiet asks.Leave is = refl
unclaims-quiet asks.Left is = refl

abbrev pub is_claimed : List Entry → ℕ → TaskId → Bool
is_claimed es p t = is_claimed_by (port_at es p) t

abbrev pub is_about : ℕ → TaskId → Asked → Bool
is_about p t x = owed.is_about places.Port unclaims p t x

abbrev pub many : ℕ → TaskId → List Asked → ℕ
many p t xs = owed.many places.Port unclaims p t xs

-- the claims are owed once
abbrev pub ClaimsStand : Parts → Lacks → List Entry → Type 0
ClaimsStand w lacks es = owed.OwedOnce places.Port unclaims w lacks is_claimed es

-- the same claims are ended, whether all ports are freed or consumed
pub freed_or_consumed : (name : TaskId) (p : ℕ) (t : TaskId) (had : List Had) → many p t (map (free_ask name) (reverse had)) ≡ many p t (map (consume_ask name) had)
freed_or_consumed name p t [] = refl
freed_or_consumed name p t (d ∷ had) =
    let rest = freed_or_consumed name p t had in
    let turned : map (free_ask name) (reverse (d ∷ had)) ≡ map (free_ask name) (reverse had) ++ free_ask name d ∷ [] = ap (map (free_ask name)) (reverse-append (d ∷ []) had) ∙ mapped (reverse had) in
    let split = ap (many p t) turned ∙ owed.many-append places.Port unclaims p t (map (free_ask name) (reverse had)) (free_ask name d ∷ []) in
    omega (arith, rest, split)
  where
    mapped : (ds : List Had) → map (free_ask name) (ds ++ d ∷ []) ≡ map (free_ask name) ds ++ free_ask name d ∷ []
    mapped ds = grind (arith, common_steps)

-- ---- a note at a port

claims_still : (o : Option StandingClaim) (t : TaskId) → option_map_or (λ (c : StandingClaim). same_task t c.task) o false ≡ true → (c : StandingClaim) × (o ≡ Some c) × (t ≡ c.task)
claims_still None t is = absurd (cc)
claims_still (Some c) t is = (c, refl, same_task-is t c.task is)

claim_kept : (port : PortState) (ask : Ask) (note : Note) (t : TaskId) → port_note port ask ≡ Some note → is_claimed_by port t ≡ true → (is_claimed_by (ports.after port note) t ≡ true) ⊎ (has_task (unclaims ask) t ≡ true)
claim_kept port (asks.Post m) note t is stands = inl (rw ((given_some _ (notes.Post m) note is).1) stands)
claim_kept port (asks.Claim u s) note t is stands = inl (rw (noted, found.1) (rw found.1 at stands))
  where
    found : (c : StandingClaim) × (port.claim ≡ Some c) × (t ≡ c.task)
    found = claims_still port.claim t stands

    noted : note ≡ notes.Claim u s (ports.claim_note port s)
    noted = (given_some _ (notes.Claim u s (ports.claim_note port s)) note is).1
claim_kept port (asks.Consume u) note t is stands = inr (both_claim port.claim (given_some _ (notes.Consume u) note is).0 stands)
  where
    both_claim : (o : Option StandingClaim) → option_map_or (λ (c : StandingClaim). same_task u c.task) o false ≡ true → option_map_or (λ (c : StandingClaim). same_task t c.task) o false ≡ true → has_task (u ∷ []) t ≡ true
    both_claim o one two = let a = claims_still o u one in let b = claims_still o t two in let c : a.0 ≡ b.0 = some_is (sym a.1 ∙ b.1) in subst (λ x. has_task (x ∷ []) t ≡ true) (b.2 ∙ ap (λ (k : StandingClaim). k.task) (sym c) ∙ sym a.2) (or_left (same_task t t) false (same_task-self t))
claim_kept port (asks.Free u) note t is stands = inr (both_claim port.claim (given_some _ (notes.Free u) note is).0 stands)
  where
    both_claim : (o : Option StandingClaim) → option_map_or (λ (c : StandingClaim). same_task u c.task) o false ≡ true → option_map_or (λ (c : StandingClaim). same_task t c.task) o false ≡ true → has_task (u ∷ []) t ≡ true
    both_claim o one two = let a = claims_still o u one in let b = claims_still o t two in let c : a.0 ≡ b.0 = some_is (sym a.1 ∙ b.1) in subst (λ x. has_task (x ∷ []) t ≡ true) (b.2 ∙ ap (λ (k : StandingClaim). k.task) (sym c) ∙ sym a.2) (or_left (same_task t t) false (same_task-self t))
claim_kept port (asks.Commit u ms) note t is stands = absurd (cc)
claim_kept port asks.Admit note t is stands = absurd (cc)
claim_kept port (asks.Over u r how) note t is stands = absurd (cc)
claim_kept port (asks.Suspend u) note t is stands = absurd (cc)
claim_kept port (asks.Book u r) note t is stands = absurd (cc)
claim_kept port (asks.Unbook u) note t is stands = absurd (cc)
claim_kept port (asks.Put u) note t is stands = absurd (cc)
claim_kept port asks.Take note t is stands = absurd (cc)
claim_kept port asks.Draw note t is stands = absurd (cc)
claim_kept port asks.Leave note t is stands = absurd (cc)
claim_kept port asks.Left note t is stands = absurd (cc)

-- ---- one entry

module _ (w : Parts) (n : ℕ) (lacks : Lacks) (es : List Entry) (e : Entry) (step : Step w lacks es e) (holds : Holds w n lacks es) (once : ClaimsStand w lacks es) where
  abbrev st : State
  st = state_of w lacks es e.actor

  abbrev name : TaskId
  name = name_at e.actor st

  -- a claim goes by an ask about it alone
  kept_or_taken : (x : Asked) → Given w es e x → (p : ℕ) (t : TaskId) → is_claimed es p t ≡ true → (is_claimed (es ++ e ∷ []) p t ≡ true) ⊎ (is_about p t x ≡ true)
  kept_or_taken x given p t stands = by (same_place x.place (places.Port p)) refl
    where
      changes : port_at (es ++ e ∷ []) p ≡ (if same_place x.place (places.Port p) then ports.after (port_at es p) e.note else port_at es p)
      changes = port_at-push es e p ∙ ap (λ pl. if same_place pl (places.Port p) then ports.after (port_at es p) e.note else port_at es p) given.there

      at_port : (pl : Place) → same_place pl (places.Port p) ≡ true → pl ≡ places.Port p
      at_port (places.Port q) is = ap places.Port (same_number q p is)
      at_port (places.Arbiter q) is = absurd (cc)
      at_port (places.Site q k) is = absurd (cc)
      at_port (places.Queue q) is = absurd (cc)
      at_port places.Meter is = absurd (cc)

      by : (b : Bool) → same_place x.place (places.Port p) ≡ b → (is_claimed (es ++ e ∷ []) p t ≡ true) ⊎ (b && has_task (unclaims x.ask) t ≡ true)
      by false at = inl (ap (λ s. is_claimed_by s t) (changes ∙ ap (λ c. if c then ports.after (port_at es p) e.note else port_at es p) at) ∙ stands)
      by true at = of_kept (claim_kept (port_at es p) x.ask e.note t noted stands)
        where
          noted : port_note (port_at es p) x.ask ≡ Some e.note
          noted = rw (at_port x.place at) at given.gives

          of_kept : (is_claimed_by (ports.after (port_at es p) e.note) t ≡ true) ⊎ (has_task (unclaims x.ask) t ≡ true) → (is_claimed (es ++ e ∷ []) p t ≡ true) ⊎ (true && has_task (unclaims x.ask) t ≡ true)
          of_kept (inl is) = inl (ap (λ s. is_claimed_by s t) (changes ∙ ap (λ c. if c then ports.after (port_at es p) e.note else port_at es p) at) ∙ is)
          of_kept (inr is) = inr is

  about_quiet : (x : Asked) (p : ℕ) (t : TaskId) → is_quiet x.ask ≡ true → is_about p t x ≡ false
  about_quiet x p t quiet = rw (unclaims-quiet x.ask quiet) (and_false (same_place x.place (places.Port p)))

  abbrev On : Type 0
  On = owed.OwesOn places.Port unclaims w lacks is_claimed es e

  abbrev new : List Asked
  new = owed_by w lacks (es ++ e ∷ []) e.actor

  abbrev old : List Asked
  old = owed_by w lacks es e.actor

  -- an ask that is no claim's end
  others_stay : (x : Asked) → Given w es e x → ((p : ℕ) (t : TaskId) → is_about p t x ≡ false) → (a p : ℕ) (t : TaskId) → 1 ≤ many p t (owed_by w lacks es a) → is_claimed es p t ≡ true → (is_claimed (es ++ e ∷ []) p t ≡ true) ⊎ (many p t new < many p t old)
  others_stay x given none a p t some stands = of_kept (kept_or_taken x given p t stands)
    where
      of_kept : (is_claimed (es ++ e ∷ []) p t ≡ true) ⊎ (is_about p t x ≡ true) → (is_claimed (es ++ e ∷ []) p t ≡ true) ⊎ (many p t new < many p t old)
      of_kept (inl is) = inl is
      of_kept (inr is) = absurd (no_both is (none p t))

  -- an ask in hand
  taken_first : (x : Asked) (rest : List Asked) → Given w es e x → old ≡ x ∷ rest → ((p : ℕ) (t : TaskId) → many p t new ≡ many p t rest) → On
  taken_first x rest given split fewer = record {
    own = λ p t. inl (let was = ap (many p t) split in let now = fewer p t in omega (arith, was, now));
    stays = λ a p t some stands. of_kept p t (kept_or_taken x given p t stands);
  }
    where
      of_kept : (p : ℕ) (t : TaskId) → (is_claimed (es ++ e ∷ []) p t ≡ true) ⊎ (is_about p t x ≡ true) → (is_claimed (es ++ e ∷ []) p t ≡ true) ⊎ (many p t new < many p t old)
      of_kept p t (inl is) = inl is
      of_kept p t (inr is) = inr (let one = ap bit is in let was = ap (many p t) split in let now = fewer p t in omega (arith, one, was, now))

  no_more : ((p : ℕ) (t : TaskId) → many p t new ≤ many p t old) → (x : Asked) → Given w es e x → ((p : ℕ) (t : TaskId) → is_about p t x ≡ false) → On
  no_more le x given none = record { own = λ p t. inl (le p t); stays = others_stay x given none }

  on_of : Owes w es e st old new → On
  on_of (less x given split) = taken_first x new given split (λ p t. refl)
  on_of (dropped x rest t d given note split is) = taken_first x rest given split (λ p u. ap (many p u) is ∙ zero_more (many p u rest))
    where
      zero_more : (k : ℕ) → 0 + k ≡ k
      zero_more k = omega arith
  on_of (admitted i more t numbers given note is) = no_more (λ p u. (let now = ap (many p u) is in omega (arith, now))) _ given (λ p u. refl)
  on_of (booked spot given note was is) = no_more (λ p u. (let now = ap (many p u) is in omega (arith, now))) _ given (λ p u. refl)
  on_of (same x given quiet is) = no_more (λ p u. (let now = ap (many p u) is in omega (arith, now))) x given (λ p t. about_quiet x p t quiet)
  on_of (ended task how given last runs is) = no_more (λ p u. (let now = ap (many p u) is in omega (arith, now))) _ given (λ p u. refl)
  on_of (got d k given free note is) = record { own = λ p t. own_at p t (d.slot.port == p) refl (same_task t name) refl; stays = others_stay _ given (λ p t. about_quiet (at_place (places.Port d.slot.port) (asks.Claim name d.slot)) p t refl) }
    where
      -- nobody has a claim there
      unclaimed : (port_at es d.slot.port).claim ≡ None
      unclaimed = of_claim (port_at es d.slot.port).claim refl free
        where
          of_claim : (o : Option StandingClaim) → (port_at es d.slot.port).claim ≡ o → ports.claim_note (port_at es d.slot.port) d.slot ≡ Got k → (port_at es d.slot.port).claim ≡ None
          of_claim None e now = e
          of_claim (Some c) e now = absurd (let busy = rw e at now in cc)

      own_at : (p : ℕ) (t : TaskId) (b : Bool) → (d.slot.port == p) ≡ b → (c : Bool) → same_task t name ≡ c → (many p t new ≤ many p t old) ⊎ owed.New places.Port unclaims w lacks is_claimed es e p t
      own_at p t false at c named = inl (let now : many p t new ≡ bit (false && (same_task t name || false)) + many p t old = ap (many p t) is ∙ ap (λ b. bit (b && (same_task t name || false)) + many p t old) at in omega (arith, now))
      own_at p t true at false named = inl (let now : many p t new ≡ bit (true && false) + many p t old = ap (many p t) is ∙ (λ i. bit (at i && (named i || false)) + many p t old) in omega (arith, now))
      own_at p t true at true named = inr (record { one = omega (arith, now, none e.actor); met = met; nobody = λ b other. none b })
        where
          now : many p t new ≡ bit (true && true) + many p t old
          now = ap (many p t) is ∙ (λ i. bit (at i && (named i || false)) + many p t old)

          met : is_claimed (es ++ e ∷ []) p t ≡ true
          met = subst (λ q. is_claimed (es ++ e ∷ []) q t ≡ true) (same_number d.slot.port p at) (rw (port_changes es e d.slot.port given.there d.slot.port, eq-self d.slot.port, note) named)

          none : (b : ℕ) → many p t (owed_by w lacks es b) ≡ 0
          none b = of_count (many p t (owed_by w lacks es b)) refl
            where
              of_count : (j : ℕ) → many p t (owed_by w lacks es b) ≡ j → many p t (owed_by w lacks es b) ≡ 0
              of_count zero z = z
              of_count (suc j) z = absurd (let stands : is_claimed es p t ≡ true = once.met b p t (let y = z in omega (arith, y)) in let out : is_claimed es d.slot.port t ≡ false = rw unclaimed refl in no_both (subst (λ q. is_claimed es q t ≡ true) (sym (same_number d.slot.port p at)) stands) out)
  on_of (fired spot more had cs spots phase given note was is) = no_more (λ p t. counted p t) _ given (λ p t. about_quiet (attempt_ask (plan_of w spot) name (claiming [] had)) p t refl)
    where
      counted : (p : ℕ) (t : TaskId) → many p t new ≤ many p t old
      counted p t =
          let now = ap (many p t) is ∙ owed.many-append places.Port unclaims p t (map (consume_ask name) had) (map cut_ask cuts ++ put_asks task) in
          let behind = owed.many-append places.Port unclaims p t (map cut_ask cuts) (put_asks task) in
          let no_cuts = owed.many-none places.Port unclaims p t cut_ask (λ c. refl) cuts in
          let no_put = none_put task in
          let before = ap (many p t) was ∙ owed.many-append places.Port unclaims p t (map (free_ask name) (reverse had)) (unbook_ask (plan_of w spot).queue name ∷ []) in
          let alike = freed_or_consumed name p t had in
          omega (arith, now, behind, no_cuts, no_put, before, alike)
        where
          task : Option Task
          task = handed w es e name spot

          cuts : List Cut
          cuts = map (cut_view w (visible (es ++ e ∷ []))) cs

          none_put : (o : Option Task) → many p t (put_asks o) ≡ 0
          none_put None = refl
          none_put (Some v) = refl

  pub claims_on : On
  claims_on = on_of (owes w n lacks es e holds step)
