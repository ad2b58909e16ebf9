-- No legal history fires a branch more often than a closed list says.
use Rattle.std.proofs.Common.{◌≡◌, ℕ, zero, suc, ◌+◌, ◌*◌, ◌<◌, ◌≤◌, Bool, true, false, List, [], ◌∷◌, ◌++◌, length, Some, refl, subst, append-nil, arith}
use Rattle.std.specs.Prelude.{◌==◌, if◌then◌else◌, nat_lt}
use Rattle.std.proofs.lemmas.Bool.Decides.{nat_tests}
use Rattle.ccr_base.specs.declared.names.Spot.{Spot}
use Rattle.ccr_base.specs.declared.names.Spot.TheVariants.{Branch, Site}
use Rattle.ccr_base.specs.declared.names.MsgId.{MsgId}
use Rattle.ccr_base.specs.Names.{same_spot}
use Rattle.ccr_base.proofs.Booleans.{same_number}
use Rattle.ccr_wiring.specs.declared.parts.Parts.{Parts}
use Rattle.ccr_wiring.specs.Wirings.{Placement, placement, placements}
use Rattle.ccr_wiring.specs.Valid.{HasPatternsFilled}
use Rattle.ccr_model.specs.declared.history.Event.{Event}
use Rattle.ccr_model.specs.declared.history.Event.TheVariants as events
use Rattle.ccr_model.specs.Posts.{posts, held}
use Rattle.ccr_model.specs.Firings.{Firing, firings, firing_of}
use Rattle.ccr_model.specs.Selection.{is_selection, is_selection_of}
use Rattle.ccr_model.specs.Legal.{IsAllowed, IsLegal}
use Rattle.ccr_model.proofs.Members.{some_among}
use Rattle.ccr_base.proofs.Options.{some_of}
use Rattle.ccr_model.proofs.LegalParts.{along_legal}
use Rattle.ccr_model.proofs.OneMoreEvent.{firings-push}
use Rattle.ccr_model.proofs.TakenOnce.{FireFacts-allowed}
use Rattle.ccr_gen.specs.Lines.{left}
use Rattle.ccr_steady.specs.Flow.{posts_weigh, IsSteady, IsClosed, at_port, got, lacks, slots_of}
use Rattle.ccr_steady.proofs.Paying.{times_at, due}
use Rattle.ccr_steady.proofs.Sums.{summed_more}
use Rattle.ccr_steady.proofs.Balance.{balance, took, branch_off, posted_at, times_push}

abbrev Within : Parts → (ℕ → ℕ) → List Firing → Type 0
Within w n fs = (b : ℕ) → b < length (placements w) → times_at fs b ≤ n b

-- larger counts get a port no less
pub got_more : (w : Parts) (n m : ℕ → ℕ) → ((b : ℕ) → b < length (placements w) → n b ≤ m b) → (port : ℕ) → got w n port ≤ got w m port
got_more w n m less port =
    let more = summed_more (posts_weigh w (at_port port)) n m 0 (placements w) (λ b from to. less b (omega (arith, to))) in
    omega (arith, more)

pub scaled : (c n m : ℕ) → n ≤ m → c * (n + 1) ≤ c * m + c
scaled c n zero less = let none : n ≡ 0 = omega (arith, less) in rw none (omega arith)
scaled c n (suc m) less = by (nat_lt n (suc m)) refl (scaled c n m)
  where
    by : (b : Bool) → nat_lt n (suc m) ≡ b → (n ≤ m → c * (n + 1) ≤ c * m + c) → c * (n + 1) ≤ c * suc m + c
    by true e more = let low : n ≤ m = grind (arith, nat_tests, e) in let less = more low in grind (arith, less)
    by false e more = let same : n ≡ suc m = grind (arith, nat_tests, e, less) in rw same (grind arith)

fewer : (c t n held posted owed mine bound : ℕ) → bound < c * (n + 1) → c ≤ held → held + c * t ≤ posted → posted + owed ≡ mine → mine ≤ bound → t < n
fewer c t n held posted owed mine bound few enough took sum more = by (nat_lt t n) refl
  where
    by : (o : Bool) → nat_lt t n ≡ o → t < n
    by true e = grind (arith, nat_tests, e)
    by false e =
        let above : n ≤ t = grind (arith, nat_tests, e) in
        let less = scaled c n t above in
        absurd (omega (arith, few, enough, took, sum, more, less))

-- where it fires, it fired less often before than the list says
fires_less : (w : Parts) → IsSteady w → HasPatternsFilled w → (n : ℕ → ℕ) → IsClosed w n → (h : List Event) → IsLegal w h → Within w n (firings h) → (b : ℕ) (s : Placement) → placement w b ≡ Some s → (names : List MsgId) → is_selection w h (Branch b) names ≡ true → times_at (firings h) b < n b
fires_less w steady filled n closed h legal within b s is names chosen =
    let lack = some_among (lacks w n b) (slots_of s.branch.pattern) (closed b s is) in
    let slot = lack.0 in
    let few : got w n slot.port < slot.least * (n b + 1) = grind (arith, nat_tests, lack.2) in
    let off = branch_off w steady filled h b s names slot is chosen lack.1 in
    let bound = took w steady filled b s slot is lack.1 h legal in
    let sum = balance w steady h legal slot.port in
    let more = got_more w (times_at (firings h)) n within slot.port in
    fewer slot.least (times_at (firings h) b) (n b) (length (held h slot.port)) (posted_at slot.port (posts h)) (due w (at_port slot.port) (posts h) (firings h) + left (at_port slot.port) (posts h) 0 w.posters) (got w (times_at (firings h)) slot.port) (got w n slot.port)
    few off.1 bound (omega (arith, sum)) more

some_seat : (w : Parts) (h : List Event) (b : ℕ) (names : List MsgId) → is_selection w h (Branch b) names ≡ true → (s : Placement) × (placement w b ≡ Some s)
some_seat w h b names chosen = let its = some_of (λ (s : Placement). is_selection_of (held h) s.branch.pattern names) (placement w b) chosen in (its.0, its.1)

bounded : (w : Parts) → IsSteady w → HasPatternsFilled w → (n : ℕ → ℕ) → IsClosed w n → (h : List Event) → IsLegal w h → Within w n (firings h) → (b : ℕ) → b < length (placements w) → (spot : Spot) (ms : List MsgId) → is_selection w h spot ms ≡ true → times_at (firings h) b + (if same_spot spot (Branch b) then 1 else 0) ≤ n b
bounded w steady filled n closed h legal within b known (Site a k) ms chosen = let old = within b known in omega (arith, old)
bounded w steady filled n closed h legal within b known (Branch a) ms chosen = by (a == b) refl
  where
    by : (o : Bool) → (a == b) ≡ o → times_at (firings h) b + (if a == b then 1 else 0) ≤ n b
    by false e = let old = within b known in rw e (omega (arith, old))
    by true e =
        let same : a ≡ b = same_number a b e in
        let mine : is_selection w h (Branch b) ms ≡ true = subst (λ (x : ℕ). is_selection w h (Branch x) ms ≡ true) same chosen in
        let its = some_seat w h b ms mine in
        let less = fires_less w steady filled n closed h legal within b its.0 its.1 ms mine in
        rw e (omega (arith, less))

within_kept : (w : Parts) → IsSteady w → HasPatternsFilled w → (n : ℕ → ℕ) → IsClosed w n → (h : List Event) (e : Event) → IsLegal w h → IsAllowed w h e → Within w n (firings h) → Within w n (firings (h ++ e ∷ []))
within_kept w steady filled n closed h (events.Fire t spot ms cs) legal allowed within = rw firings-push (λ b known. one b known)
  where
    one : (b : ℕ) → b < length (placements w) → times_at (firings h ++ firing_of (events.Fire t spot ms cs)) b ≤ n b
    one b known =
        let more = bounded w steady filled n closed h legal within b known spot ms (FireFacts-allowed w h t spot ms cs allowed).selection_made in
        let push = times_push (firings h) (record { task = t; spot = spot; messages = ms; cuts = cs }) b in
        omega (arith, more, push)
within_kept w steady filled n closed h (events.Post m) legal allowed within = rw (firings-push, append-nil) within
within_kept w steady filled n closed h (events.Admit t) legal allowed within = rw (firings-push, append-nil) within
within_kept w steady filled n closed h (events.Put t d) legal allowed within = rw (firings-push, append-nil) within
within_kept w steady filled n closed h (events.Start t a) legal allowed within = rw (firings-push, append-nil) within
within_kept w steady filled n closed h (events.End t how) legal allowed within = rw (firings-push, append-nil) within

-- a legal history fires each branch at most as often as a closed list says
pub within_closed : (w : Parts) → IsSteady w → HasPatternsFilled w → (n : ℕ → ℕ) → IsClosed w n → (h : List Event) → IsLegal w h → Within w n (firings h)
within_closed w steady filled n closed h legal = along_legal w (λ g. Within w n (firings g)) (within_kept w steady filled n closed) (λ b known. omega arith) h legal
