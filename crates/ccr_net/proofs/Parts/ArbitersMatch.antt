-- What fired at an arbiter by its notes is what its branches fired in the history, and so a branch that isn't dead is live.
use Rattle.std.proofs.Common.{◌≡◌, ℕ, Bool, true, false, List, [], ◌∷◌, ◌++◌, map, filter, flat_map, Some, None, refl, sym, arith, ap, ◌∙◌, subst, append-nil, append_assoc}
use Rattle.std.specs.Prelude.{◌==◌, if◌then◌else◌, slice_get}
use Rattle.std.specs.Option.{option_map}
use Rattle.std.proofs.lemmas.Grind.{common_steps}
use Rattle.ccr_base.specs.declared.names.MsgId.{MsgId}
use Rattle.ccr_base.specs.declared.names.Place.TheVariants as places
use Rattle.ccr_base.specs.declared.names.Spot.{Spot}
use Rattle.ccr_base.specs.declared.names.Spot.TheVariants.{Branch, Site}
use Rattle.ccr_base.specs.declared.names.TaskId.{TaskId}
use Rattle.ccr_base.specs.declared.tasks.By.TheVariants.{Fired as ByFired}
use Rattle.ccr_base.specs.Names.{same_spot}
use Rattle.ccr_wiring.specs.declared.parts.ArbiterPart.{ArbiterPart}
use Rattle.ccr_wiring.specs.declared.parts.Kind.{Kind}
use Rattle.ccr_wiring.specs.declared.parts.Kind.TheVariants as kinds
use Rattle.ccr_wiring.specs.declared.parts.Parts.{Parts}
use Rattle.ccr_wiring.specs.Wirings.{Placement, placement}
use Rattle.ccr_model.specs.declared.history.Event.{Event}
use Rattle.ccr_model.specs.Firings.{Firing, firings, firing_of, fired_at}
use Rattle.ccr_model.specs.Tasks.{fired_by, is_branch_where}
use Rattle.ccr_model.proofs.Cutting.{fired_by-append}
use Rattle.ccr_base.proofs.Booleans.{same_number, eq-self}
use Rattle.ccr_places.specs.declared.notes.Note.{Note}
use Rattle.ccr_places.specs.declared.notes.Note.TheVariants as notes
use Rattle.ccr_places.specs.Arbiters.{ArbiterState}
use Rattle.ccr_places.specs.Arbiters as arbiters
use Rattle.ccr_places.specs.NotedTasks.{noted_fired}
use Rattle.ccr_runs.specs.declared.entries.Entry.{Entry}
use Rattle.ccr_runs.specs.Places.{arbiter_after}
use Rattle.ccr_runs.specs.EntryRuns.{notes_at, note_at, same_place}
use Rattle.ccr_runs.specs.Visible.{visible, event_of, shown}
use Rattle.ccr_net.proofs.Parts.OneMoreEntry.{visible-push, notes_at-push}

abbrev pub fired_there : List Note → List TaskId
fired_there earlier = flat_map noted_fired earlier

-- whether the branch is of the arbiter's domain
abbrev pub is_of : ℕ → Placement → Bool
is_of i s = s.domain == i

-- at each arbiter
abbrev pub ArbitersMatch : Parts → List Event → List Entry → Type 0
ArbitersMatch w h es = (i : ℕ) → fired_there (notes_at es (places.Arbiter i)) ≡ fired_by w (is_of i) h

-- the entry notes and shows the same firings
abbrev pub FiresAlike : Parts → Entry → List Event → Type 0
FiresAlike w e evs = (i : ℕ) → fired_there (note_at (places.Arbiter i) e) ≡ fired_by w (is_of i) evs

pub ArbitersMatch-push : (w : Parts) (es : List Entry) (e : Entry) (h : List Event) → visible (es ++ e ∷ []) ≡ h → FiresAlike w e (event_of e) → ArbitersMatch w (visible es) es → ArbitersMatch w h (es ++ e ∷ [])
ArbitersMatch-push w es e h shows alike match i =
    ap fired_there (notes_at-push es e (places.Arbiter i))
    ∙ both (notes_at es (places.Arbiter i)) (note_at (places.Arbiter i) e)
    ∙ ap (λ ts. ts ++ fired_there (note_at (places.Arbiter i) e)) (match i)
    ∙ ap (λ ts. fired_by w (is_of i) (visible es) ++ ts) (alike i)
    ∙ sym (fired_by-append w (is_of i) (visible es) (event_of e))
    ∙ ap (fired_by w (is_of i)) (sym (visible-push es e) ∙ shows)
  where
    both : (xs ys : List Note) → fired_there (xs ++ ys) ≡ fired_there xs ++ fired_there ys
    both xs ys = grind (arith, common_steps)

-- ---- the steps

no_firing : (a : ℕ) (note : Note) → flat_map firing_of (shown a note) ≡ [] → noted_fired note ≡ []
no_firing a (notes.Fired t s ms cs) none = absurd (cc)
no_firing a (notes.Post m) none = refl
no_firing a (notes.Claim t s r) none = refl
no_firing a (notes.Consume t) none = refl
no_firing a (notes.Free t) none = refl
no_firing a (notes.Dead t s by) none = refl
no_firing a (notes.Admit t) none = refl
no_firing a (notes.Over t r how) none = refl
no_firing a (notes.Suspend t) none = refl
no_firing a (notes.Book t r f) none = refl
no_firing a (notes.Unbook t) none = refl
no_firing a (notes.Put t d) none = refl
no_firing a (notes.Take t) none = refl
no_firing a (notes.Draw n) none = refl
no_firing a notes.Leave none = refl
no_firing a (notes.Left n) none = refl

-- an entry that shows no firing
pub FiresAlike-none : (w : Parts) (e : Entry) → firings (event_of e) ≡ [] → FiresAlike w e (event_of e)
FiresAlike-none w e none i = noted (same_place e.place (places.Arbiter i)) ∙ sym (rw none refl)
  where
    noted : (b : Bool) → fired_there (if b then e.note ∷ [] else []) ≡ []
    noted true = rw (no_firing e.actor e.note none) refl
    noted false = refl

pub FiresAlike-silent : (w : Parts) (e : Entry) → event_of e ≡ [] → FiresAlike w e (event_of e)
FiresAlike-silent w e none = FiresAlike-none w e (ap firings none)

pub FiresAlike-other : (w : Parts) (e : Entry) (ev : Event) → event_of e ≡ ev ∷ [] → firing_of ev ≡ [] → FiresAlike w e (event_of e)
FiresAlike-other w e ev is none = FiresAlike-none w e (ap firings is ∙ append-nil (firing_of ev) ∙ none)

-- a firing at a branch of the arbiter
pub FiresAlike-fire : (w : Parts) (e : Entry) (i b : ℕ) (s : Placement) (t : TaskId) (ms : List MsgId) (cs : List TaskId) → placement w b ≡ Some s → s.domain ≡ i → e.place ≡ places.Arbiter i → e.note ≡ notes.Fired t (Branch b) ms cs → FiresAlike w e (event_of e)
FiresAlike-fire w e i b s t ms cs sits at_i place note j = rw (note, place, sits, at_i) (by (i == j))
  where
    by : (c : Bool) → fired_there (if c then notes.Fired t (Branch b) ms cs ∷ [] else []) ≡ map (λ (f : Firing). f.task) (if c then (record { task = t; spot = Branch b; messages = ms; cuts = cs }) ∷ [] else [])
    by true = refl
    by false = refl

-- a firing at a site is no arbiter's
pub FiresAlike-resume : (w : Parts) (e : Entry) (b k : ℕ) (t : TaskId) (ms : List MsgId) (cs : List TaskId) → e.place ≡ places.Site b k → e.note ≡ notes.Fired t (Site b k) ms cs → FiresAlike w e (event_of e)
FiresAlike-resume w e b k t ms cs place note j = rw (note, place) refl

-- ---- the arbiter by its notes

-- one note adds its firing, and changes nothing that is asked of the branches
pub record KeepsShape (before after : ArbiterState) (more : List TaskId) : Type 0 where
  pub fired : after.fired ≡ before.fired ++ more
  pub once : after.once ≡ before.once
  pub first : after.first ≡ before.first
  pub count : after.count ≡ before.count

unchanged : (st : ArbiterState) → KeepsShape st st []
unchanged st = record { fired = sym (append-nil st.fired); once = refl; first = refl; count = refl }

after_shape : (st : ArbiterState) (note : Note) → KeepsShape st (arbiters.after st note) (noted_fired note)
after_shape st (notes.Fired t s ms cs) = record { fired = refl; once = refl; first = refl; count = refl }
after_shape st (notes.Over t r how) = record { fired = sym (append-nil st.fired); once = refl; first = refl; count = refl }
after_shape st (notes.Post m) = unchanged st
after_shape st (notes.Claim t s r) = unchanged st
after_shape st (notes.Consume t) = unchanged st
after_shape st (notes.Free t) = unchanged st
after_shape st (notes.Dead t s by) = unchanged st
after_shape st (notes.Admit t) = unchanged st
after_shape st (notes.Suspend t) = unchanged st
after_shape st (notes.Book t r f) = unchanged st
after_shape st (notes.Unbook t) = unchanged st
after_shape st (notes.Put t d) = unchanged st
after_shape st (notes.Take t) = unchanged st
after_shape st (notes.Draw n) = unchanged st
after_shape st notes.Leave = unchanged st
after_shape st (notes.Left n) = unchanged st

pub kept_shape : (st : ArbiterState) (earlier : List Note) → KeepsShape st (arbiters.kept st earlier) (fired_there earlier)
kept_shape st [] = unchanged st
kept_shape st (note ∷ earlier) =
    let one = after_shape st note in
    let rest = kept_shape (arbiters.after st note) earlier in
    record {
      fired = rest.fired ∙ ap (λ ts. ts ++ fired_there earlier) one.fired ∙ append_assoc st.fired (noted_fired note) (fired_there earlier);
      once = rest.once ∙ one.once;
      first = rest.first ∙ one.first;
      count = rest.count ∙ one.count;
    }

-- an arbiter that was told nothing has fired nothing
pub none_at_first : (first : ℕ) (part : ArbiterPart) → (arbiter_after first part []).fired ≡ []
none_at_first first part = by part.kind refl
  where
    by : (kind : Kind) → part.kind ≡ kind → (arbiter_after first part []).fired ≡ []
    by kinds.Receive is = rw is refl
    by kinds.Choice is = rw is refl
    by kinds.Interleave is = rw is refl

-- ---- a branch that isn't dead is live

-- where one firing retires all branches, none was made
pub none_fired : (st : ArbiterState) → st.once ≡ true → arbiters.dead_by st ≡ None → st.fired ≡ []
none_fired st once alive = of_list st.fired refl (rw once at alive)
  where
    of_list : (ts : List TaskId) → st.fired ≡ ts → option_map ByFired (slice_get st.fired 0) ≡ None → st.fired ≡ []
    of_list [] is none = is
    of_list (t ∷ ts) is none = absurd (let some : option_map ByFired (slice_get (t ∷ ts) 0) ≡ None = subst (λ us. option_map ByFired (slice_get us 0) ≡ None) is none in cc)

-- what didn't fire at the arbiter didn't fire at its branch
none_among : (p q : Firing → Bool) (fs : List Firing) → ((f : Firing) → q f ≡ true → p f ≡ true) → map (λ (f : Firing). f.task) (filter p fs) ≡ [] → map (λ (f : Firing). f.task) (filter q fs) ≡ []
none_among p q [] within none = refl
none_among p q (f ∷ fs) within none = by (q f) (p f) refl refl none (none_among p q fs within)
  where
    by : (c d : Bool) → q f ≡ c → p f ≡ d → map (λ (x : Firing). x.task) (if d then f ∷ filter p fs else filter p fs) ≡ [] → (map (λ (x : Firing). x.task) (filter p fs) ≡ [] → map (λ (x : Firing). x.task) (filter q fs) ≡ []) → map (λ (x : Firing). x.task) (if c then f ∷ filter q fs else filter q fs) ≡ []
    by true true e g now rest = absurd (cc)
    by true false e g now rest = absurd (let is = within f e in cc)
    by false true e g now rest = absurd (cc)
    by false false e g now rest = rest now

pub none_at_branch : (w : Parts) (h : List Event) (b i : ℕ) (s : Placement) → placement w b ≡ Some s → s.domain ≡ i → fired_by w (is_of i) h ≡ [] → fired_at h (Branch b) ≡ []
none_at_branch w h b i s sits at_i none = none_among (λ (f : Firing). is_branch_where w (is_of i) f.spot) (λ (f : Firing). same_spot f.spot (Branch b)) (firings h) (λ f is. here f.spot is) none
  where
    here : (spot : Spot) → same_spot spot (Branch b) ≡ true → is_branch_where w (is_of i) spot ≡ true
    here (Branch c) is = let same : c ≡ b = same_number c b is in rw (same, sits, at_i) (eq-self i)
    here (Site c k) is = absurd (cc)
