-- Runs: each act is the next ask of its actor, and what its object gives.
use Rattle.std.specs.Prelude.{◌≡◌, ℕ, ◌+◌, ◌<◌, max, ◌==◌, cond, List, [], ◌∷◌, Option, Some}
use Rattle.ccr_turns.specs.Lists.{Rises}
use Rattle.ccr_base.specs.Lists.{Each}
use Rattle.ccr_turns.specs.Logs.{log_stamps, at_place, told}
use Rattle.ccr_turns.specs.declared.history.Held.{Held}
use Rattle.ccr_turns.specs.declared.history.LogEntry.{LogEntry}
use Rattle.ccr_runs.specs.declared.acts.Act.{Act}
use Rattle.ccr_runs.specs.Merges.{Climbs, act_stamps, history_at}
use Rattle.ccr_runs.specs.Stories.{Scene, moved, story}

-- how objects act and actors ask
pub record Protocol (N X A R S : Type 0) : Type 0 where
  -- the object's value after a note
  pub after : X → N → X
  -- the ask that the note bears
  pub asked : N → A
  -- the reply that goes with the note at this value
  pub replied : X → N → R
  -- the note that the object gives at this value to an ask
  pub gives : X → A → N
  -- the actor's state at the start, and after a reply
  pub begin : ℕ → S
  pub got : S → R → S
  -- the place and the ask that come next; none at rest
  pub next : S → Option (ℕ × A)

module _ {N X A R S : Type 0} (r : Protocol N X A R S) where
  -- the note is what the object gives at this value to the ask that the note bears
  abbrev pub IsGiven : X → N → Type 0
  IsGiven x note = note ≡ r.gives x (r.asked note)

  -- each note is given at the value that the notes before it leave
  abbrev pub Gives : X → List (Held N) → Type 0
  Gives x [] = Unit {0}
  Gives x (h ∷ hs) = IsGiven x h.note × Gives (r.after x h.note) hs

  abbrev pub state_after : S → List (LogEntry N X) → S
  state_after s [] = s
  state_after s (m ∷ ms) = state_after (r.got s (r.replied m.before m.note)) ms

  -- each entry of the log is the next of the actor, which began in this state, and its stamp is one more than the greater of the last
  -- at its place and the last of the actor
  abbrev pub IsProper : S → ℕ → List (LogEntry N X) → Type 0
  IsProper s a [] = Unit {0}
  IsProper s a (m ∷ ms) = (r.next s ≡ Some (m.place, r.asked m.note)) × (m.stamp ≡ max m.earlier a + 1) × IsProper (r.got s (r.replied m.before m.note)) m.stamp ms

  -- at each actor, its state and its last stamp
  abbrev pub Cast : Type 0
  Cast = ℕ → S × ℕ

  abbrev pub taught : Cast → Scene X → Act N → Cast
  taught l v e k = cond (e.seat == k) (r.got (l k).0 (r.replied (v e.place).0 e.note), e.stamp) (l k)

  -- a run of n actors from here on
  abbrev pub IsRunFrom : ℕ → Scene X → Cast → List (Act N) → Type 0
  IsRunFrom n v l [] = Unit {0}
  IsRunFrom n v l (e ∷ es) =
      (e.seat < n) × (r.next (l e.seat).0 ≡ Some (e.place, r.asked e.note)) × IsGiven (v e.place).0 e.note × (e.stamp ≡ max (v e.place).1 (l e.seat).1 + 1)
      × IsRunFrom n (moved r.after v e) (taught l v e) es

  abbrev pub cast : Cast
  cast k = (r.begin k, 0)

-- ---- what makes acts a run

-- the log has at each place the seat's acts there and no others, and its stamps rise
pub record IsLog {N X : Type 0} (after : X → N → X) (v : Scene X) (k : ℕ) (es : List (Act N)) (logged : List (LogEntry N X)) : Type 0 where
  pub rising : Rises 0 (log_stamps logged)
  pub same : (p : ℕ) → at_place p logged ≡ told after p k (v p).0 (v p).1 (history_at p es)

module _ {N X A R S : Type 0} (r : Protocol N X A R S) where
  -- the acts stand by their stamps, each is one of n seats, and each place gave its own in their order
  pub record IsMerged (n : ℕ) (v : Scene X) (es : List (Act N)) : Type 0 where
    pub sorted : Climbs 0 (act_stamps es)
    pub seated : Each (λ e. e.seat < n) es
    pub given : (p : ℕ) → Gives r (v p).0 (history_at p es)

  -- the seat has a log, whose asks are the actor's
  abbrev pub HasProperLog : Scene X → Cast r → ℕ → List (Act N) → Type 0
  HasProperLog v l k es = (logged : List (LogEntry N X)) × IsLog r.after v k es logged × IsProper r (l k).0 (l k).1 logged

  -- if the acts are merged and each seat has a proper log, they are a run
  abbrev pub MakeRun : ℕ → Scene X → Cast r → List (Act N) → Type 0
  MakeRun n v l es = IsMerged n v es → ((k : ℕ) → k < n → HasProperLog v l k es) → IsRunFrom r n v l es

  -- if the acts are merged and these are a log of the seat, they are its story
  abbrev pub TellStory : ℕ → Scene X → List (Act N) → ℕ → List (LogEntry N X) → Type 0
  TellStory n v es k logged = IsMerged n v es → IsLog r.after v k es logged → story r.after k v es ≡ logged
