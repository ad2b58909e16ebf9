-- How chains stay chains while keys come and go.
use Rattle.std.proofs.Common.{◌≡◌, ℕ, zero, suc, ◌+◌, Bool, true, false, not, ◌==◌, ◌&&◌, ◌||◌, List, [], ◌∷◌, ◌++◌, length, Option, Some, None, refl, sym, ap, ◌∙◌, arith}
use Rattle.std.specs.Prelude.{if◌then◌else◌}
use Rattle.std.specs.List.{slice_get, list_all}
use Rattle.std.specs.Option.{option_map_or}
use Rattle.std.proofs.lemmas.Grind.{common_steps}
use Rattle.ccr_port.specs.Chains.{keys_from, IsPath, IsWayBack, has_key, without_key, IsChain, same_point, mended}
pub use Rattle.std.proofs.lemmas.Bool.{or_parts as neither}
pub use Rattle.std.proofs.lemmas.Bool.{and_parts as both}
use Rattle.ccr_base.proofs.Booleans.{eq_turned, not_true, eq-self, same_number}
use Rattle.ccr_base.specs.Lists.{are_apart}
use Rattle.ccr_base.proofs.Apart.{apart_snoc}
use Rattle.ccr_base.proofs.Lists.{any_meets}

-- ---- tests

pub same_self : (p : Option ℕ) → same_point p p ≡ true
same_self None = refl
same_self (Some n) = eq-self n

pub same_turned : (p q : Option ℕ) → same_point p q ≡ false → same_point q p ≡ false
same_turned None None is = is
same_turned None (Some b) is = refl
same_turned (Some a) None is = refl
same_turned (Some a) (Some b) is = eq_turned a b is

pub has-rest : (key k : ℕ) (ks : List ℕ) → (k == key) ≡ false → has_key key (k ∷ ks) ≡ true → has_key key ks ≡ true
has-rest key k ks other has = sym (ap (λ b. b || has_key key ks) other) ∙ has

pub carried : (P : ℕ → Type 0) (k key : ℕ) → k ≡ key → P k → P key
carried P k key one at = rw (← one) at

module _ (neighbour : Option ℕ → Option ℕ) (p v q : Option ℕ) where
  pub mended-there : same_point q p ≡ true → mended neighbour p v q ≡ v
  mended-there is = ap (λ b. if b then v else neighbour q) is

  pub mended-else : same_point q p ≡ false → mended neighbour p v q ≡ neighbour q
  mended-else is = ap (λ b. if b then v else neighbour q) is

-- ---- points that a path does not touch

-- whether neither the point nor one of the keys is this point
abbrev pub is_off : Option ℕ → Option ℕ → List ℕ → Bool
is_off a p [] = not (same_point p a)
is_off a p (k ∷ ks) = not (same_point p a) && is_off a (Some k) ks

-- whether the point and the keys are all different
abbrev pub stand_apart : Option ℕ → List ℕ → Bool
stand_apart p [] = true
stand_apart p (k ∷ ks) = is_off p (Some k) ks && stand_apart (Some k) ks

is_off-none : (k : ℕ) (ks : List ℕ) → is_off None (Some k) ks ≡ true
is_off-none k [] = refl
is_off-none k (x ∷ ks) = is_off-none x ks

is_off-some : (a k : ℕ) (ks : List ℕ) → (k == a) ≡ false → has_key a ks ≡ false → is_off (Some a) (Some k) ks ≡ true
is_off-some a k [] first rest = ap not first
is_off-some a k (x ∷ ks) first rest =
    let parts = neither _ _ rest in
    ap (λ b. not b && is_off (Some a) (Some x) ks) first ∙ is_off-some a x ks parts.0 parts.1

stand_apart-some : (k : ℕ) (ks : List ℕ) → are_apart (k ∷ ks) ≡ true → stand_apart (Some k) ks ≡ true
stand_apart-some k [] apart = refl
stand_apart-some k (x ∷ ks) apart =
    let parts = both _ _ apart in
    let off = neither _ _ (not_true _ parts.0) in
    ap (λ b. b && stand_apart (Some x) ks) (is_off-some k x ks off.0 off.1) ∙ stand_apart-some x ks parts.1

pub apart-from-start : (ks : List ℕ) → are_apart ks ≡ true → stand_apart None ks ≡ true
apart-from-start [] apart = refl
apart-from-start (k ∷ ks) apart = ap (λ b. b && stand_apart (Some k) ks) (is_off-none k ks) ∙ stand_apart-some k ks apart

-- ---- neighbours

-- the point before a key
abbrev pub point_before : ℕ → Option ℕ → List ℕ → Option ℕ
point_before key p [] = p
point_before key p (k ∷ ks) = if k == key then p else point_before key (Some k) ks

-- the point behind a key
abbrev pub point_behind : ℕ → List ℕ → Option ℕ
point_behind key [] = None
point_behind key (k ∷ ks) = if k == key then slice_get ks 0 else point_behind key ks

-- the last of the point and the keys
abbrev pub last_point : Option ℕ → List ℕ → Option ℕ
last_point p [] = p
last_point p (k ∷ ks) = last_point (Some k) ks

pub path-head : (f : Option ℕ → Option ℕ) (p : Option ℕ) (ks : List ℕ) → IsPath f p ks → f p ≡ slice_get ks 0
path-head f p [] is = is
path-head f p (k ∷ ks) is = is.0

pub behind-is : (f : Option ℕ → Option ℕ) (key : ℕ) (p : Option ℕ) (ks : List ℕ) → IsPath f p ks → has_key key ks ≡ true → f (Some key) ≡ point_behind key ks
behind-is f key p [] is has = absurd (cc)
behind-is f key p (k ∷ ks) is has = of_test (k == key) refl (λ later. behind-is f key (Some k) ks is.1 later)
  where
    of_test : (b : Bool) → (k == key) ≡ b → (has_key key ks ≡ true → f (Some key) ≡ point_behind key ks) → f (Some key) ≡ (if b then slice_get ks 0 else point_behind key ks)
    of_test true same rest = ap (λ n. f (Some n)) (sym (same_number k key same)) ∙ path-head f (Some k) ks is.1
    of_test false other rest = rest (has-rest key k ks other has)

pub before-is : (g : Option ℕ → Option ℕ) (key : ℕ) (p : Option ℕ) (ks : List ℕ) → IsWayBack g p ks → has_key key ks ≡ true → g (Some key) ≡ point_before key p ks
before-is g key p [] is has = absurd (cc)
before-is g key p (k ∷ ks) is has = of_test (k == key) refl (λ later. before-is g key (Some k) ks is.1 later)
  where
    of_test : (b : Bool) → (k == key) ≡ b → (has_key key ks ≡ true → g (Some key) ≡ point_before key (Some k) ks) → g (Some key) ≡ (if b then p else point_before key (Some k) ks)
    of_test true same rest = ap (λ n. g (Some n)) (sym (same_number k key same)) ∙ is.0
    of_test false other rest = rest (has-rest key k ks other has)

pub last-is : (g : Option ℕ → Option ℕ) (p : Option ℕ) (ks : List ℕ) → IsWayBack g p ks → g None ≡ last_point p ks
last-is g p [] is = is
last-is g p (k ∷ ks) is = last-is g (Some k) ks is.1

off-before : (key : ℕ) (a p : Option ℕ) (ks : List ℕ) → is_off a p ks ≡ true → same_point (point_before key p ks) a ≡ false
off-before key a p [] off = not_true _ off
off-before key a p (k ∷ ks) off = of_test (k == key) (off-before key a (Some k) ks (both _ _ off).1)
  where
    of_test : (b : Bool) → same_point (point_before key (Some k) ks) a ≡ false → same_point (if b then p else point_before key (Some k) ks) a ≡ false
    of_test true later = not_true _ (both _ _ off).0
    of_test false later = later

off-last : (a p : Option ℕ) (ks : List ℕ) → is_off a p ks ≡ true → same_point (last_point p ks) a ≡ false
off-last a p [] off = not_true _ off
off-last a p (k ∷ ks) off = off-last a (Some k) ks (both _ _ off).1

-- ---- what only some points change

pub path-same : (f g : Option ℕ → Option ℕ) → ((q : Option ℕ) → g q ≡ f q) → (p : Option ℕ) (ks : List ℕ) → IsPath f p ks → IsPath g p ks
path-same f g same p [] is = same p ∙ is
path-same f g same p (k ∷ ks) is = (same p ∙ is.0, path-same f g same (Some k) ks is.1)

pub back-same : (f g : Option ℕ → Option ℕ) → ((q : Option ℕ) → g q ≡ f q) → (p : Option ℕ) (ks : List ℕ) → IsWayBack f p ks → IsWayBack g p ks
back-same f g same p [] is = same None ∙ is
back-same f g same p (k ∷ ks) is = (same (Some k) ∙ is.0, back-same f g same (Some k) ks is.1)

-- a key that is no more among them may be linked in any way
module _ (f g : Option ℕ → Option ℕ) (gone : ℕ) (same : (q : Option ℕ) → same_point q (Some gone) ≡ false → g q ≡ f q) where
  path-gone : (p : Option ℕ) (ks : List ℕ) → same_point p (Some gone) ≡ false → has_key gone ks ≡ false → IsPath f p ks → IsPath g p ks
  path-gone p [] off out is = same p off ∙ is
  path-gone p (k ∷ ks) off out is = let parts = neither _ _ out in (same p off ∙ is.0, path-gone (Some k) ks parts.0 parts.1 is.1)

  back-gone : (p : Option ℕ) (ks : List ℕ) → has_key gone ks ≡ false → IsWayBack f p ks → IsWayBack g p ks
  back-gone p [] out is = same None refl ∙ is
  back-gone p (k ∷ ks) out is = let parts = neither _ _ out in (same (Some k) parts.0 ∙ is.0, back-gone (Some k) ks parts.1 is.1)

path-off : (f : Option ℕ → Option ℕ) (a v p : Option ℕ) (ks : List ℕ) → is_off a p ks ≡ true → IsPath f p ks → IsPath (mended f a v) p ks
path-off f a v p [] off is = mended-else f a v p (not_true _ off) ∙ is
path-off f a v p (k ∷ ks) off is =
    let parts = both _ _ off in
    (mended-else f a v p (not_true _ parts.0) ∙ is.0, path-off f a v (Some k) ks parts.1 is.1)

-- ---- a key goes

-- the point is linked to what stood behind the key
path-cut : (f : Option ℕ → Option ℕ) (p : Option ℕ) (key : ℕ) (ks : List ℕ) → is_off p (Some key) ks ≡ true → IsPath f (Some key) ks → IsPath (mended f p (f (Some key))) p ks
path-cut f p key [] off is = mended-there f p (f (Some key)) p (same_self p) ∙ is
path-cut f p key (k ∷ ks) off is =
    (mended-there f p (f (Some key)) p (same_self p) ∙ is.0, path-off f p (f (Some key)) (Some k) ks (both _ _ off).1 is.1)

path-without : (f : Option ℕ → Option ℕ) (key : ℕ) (p : Option ℕ) (ks : List ℕ) → stand_apart p ks ≡ true → has_key key ks ≡ true → IsPath f p ks → IsPath (mended f (point_before key p ks) (f (Some key))) p (without_key key ks)
path-without f key p [] apart has is = absurd (cc)
path-without f key p (k ∷ ks) apart has is = of_test (k == key) refl (λ later. path-without f key (Some k) ks (both _ _ apart).1 later is.1)
  where
    of_test : (b : Bool) → (k == key) ≡ b
        → (has_key key ks ≡ true → IsPath (mended f (point_before key (Some k) ks) (f (Some key))) (Some k) (without_key key ks))
        → IsPath (mended f (if b then p else point_before key (Some k) ks) (f (Some key))) p (if b then ks else k ∷ without_key key ks)
    of_test true same rest =
        carried (λ n. IsPath (mended f p (f (Some n))) p ks) k key (same_number k key same) (path-cut f p k ks (both _ _ apart).0 is.1)
    of_test false other rest = (
      mended-else f (point_before key (Some k) ks) (f (Some key)) p (same_turned (point_before key (Some k) ks) p (off-before key p (Some k) ks (both _ _ apart).0)) ∙ is.0,
      rest (has-rest key k ks other has),
    )

back-off : (g : Option ℕ → Option ℕ) (a : ℕ) (v p : Option ℕ) (ks : List ℕ) → has_key a ks ≡ false → IsWayBack g p ks → IsWayBack (mended g (Some a) v) p ks
back-off g a v p [] out is = is
back-off g a v p (k ∷ ks) out is =
    let parts = neither _ _ out in
    (mended-else g (Some a) v (Some k) parts.0 ∙ is.0, back-off g a v (Some k) ks parts.1 is.1)

-- what stood behind the key is linked to what stood before it
back-cut : (g : Option ℕ → Option ℕ) (p : Option ℕ) (key : ℕ) (ks : List ℕ) → are_apart ks ≡ true → g (Some key) ≡ p → IsWayBack g (Some key) ks → IsWayBack (mended g (slice_get ks 0) (g (Some key))) p ks
back-cut g p key [] apart at is = at
back-cut g p key (k ∷ ks) apart at is = (
  mended-there g (Some k) (g (Some key)) (Some k) (eq-self k) ∙ at,
  back-off g k (g (Some key)) (Some k) ks (not_true _ (both _ _ apart).0) is.1,
)

off-behind : (key k : ℕ) (ks : List ℕ) → has_key k ks ≡ false → same_point (Some k) (point_behind key ks) ≡ false
off-behind key k [] out = refl
off-behind key k (x ∷ ks) out = of_test (x == key) (off-behind key k ks (neither _ _ out).1)
  where
    head : (ys : List ℕ) → has_key k ys ≡ false → same_point (Some k) (slice_get ys 0) ≡ false
    head [] none = refl
    head (y ∷ ys) none = eq_turned y k (neither _ _ none).0

    of_test : (b : Bool) → same_point (Some k) (point_behind key ks) ≡ false → same_point (Some k) (if b then slice_get ks 0 else point_behind key ks) ≡ false
    of_test true later = head ks (neither _ _ out).1
    of_test false later = later

back-without : (g : Option ℕ → Option ℕ) (key : ℕ) (p : Option ℕ) (ks : List ℕ) → are_apart ks ≡ true → has_key key ks ≡ true → IsWayBack g p ks → IsWayBack (mended g (point_behind key ks) (g (Some key))) p (without_key key ks)
back-without g key p [] apart has is = absurd (cc)
back-without g key p (k ∷ ks) apart has is = of_test (k == key) refl (λ later. back-without g key (Some k) ks (both _ _ apart).1 later is.1)
  where
    of_test : (b : Bool) → (k == key) ≡ b
        → (has_key key ks ≡ true → IsWayBack (mended g (point_behind key ks) (g (Some key))) (Some k) (without_key key ks))
        → IsWayBack (mended g (if b then slice_get ks 0 else point_behind key ks) (g (Some key))) p (if b then ks else k ∷ without_key key ks)
    of_test true same rest =
        carried (λ n. IsWayBack (mended g (slice_get ks 0) (g (Some n))) p ks) k key (same_number k key same) (back-cut g p k ks (both _ _ apart).1 is.0 is.1)
    of_test false other rest = (
      mended-else g (point_behind key ks) (g (Some key)) (Some k) (off-behind key k ks (not_true _ (both _ _ apart).0)) ∙ is.0,
      rest (has-rest key k ks other has),
    )

has-without : (key a : ℕ) (ks : List ℕ) → has_key a ks ≡ false → has_key a (without_key key ks) ≡ false
has-without key a [] out = refl
has-without key a (k ∷ ks) out = of_test (k == key) (has-without key a ks (neither _ _ out).1)
  where
    of_test : (b : Bool) → has_key a (without_key key ks) ≡ false → has_key a (if b then ks else k ∷ without_key key ks) ≡ false
    of_test true later = (neither _ _ out).1
    of_test false later = ap (λ b. b || has_key a (without_key key ks)) (neither _ _ out).0 ∙ later

pub apart-without : (key : ℕ) (ks : List ℕ) → are_apart ks ≡ true → are_apart (without_key key ks) ≡ true
apart-without key [] apart = refl
apart-without key (k ∷ ks) apart = of_test (k == key) (apart-without key ks (both _ _ apart).1)
  where
    of_test : (b : Bool) → are_apart (without_key key ks) ≡ true → are_apart (if b then ks else k ∷ without_key key ks) ≡ true
    of_test true later = (both _ _ apart).1
    of_test false later = ap (λ b. not b && are_apart (without_key key ks)) (has-without key k ks (not_true _ (both _ _ apart).0)) ∙ later

pub gone-without : (key : ℕ) (ks : List ℕ) → are_apart ks ≡ true → has_key key (without_key key ks) ≡ false
gone-without key [] apart = refl
gone-without key (k ∷ ks) apart = of_test (k == key) refl (gone-without key ks (both _ _ apart).1)
  where
    of_test : (b : Bool) → (k == key) ≡ b → has_key key (without_key key ks) ≡ false → has_key key (if b then ks else k ∷ without_key key ks) ≡ false
    of_test true same later = carried (λ n. has_key n ks ≡ false) k key (same_number k key same) (not_true _ (both _ _ apart).0)
    of_test false other later = ap (λ b. b || has_key key (without_key key ks)) other ∙ later

pub length-without_key : (key : ℕ) (ks : List ℕ) → has_key key ks ≡ true → length (without_key key ks) + 1 ≡ length ks
length-without_key key [] has = absurd (cc)
length-without_key key (k ∷ ks) has = of_test (k == key) refl (λ later. length-without_key key ks later)
  where
    of_test : (b : Bool) → (k == key) ≡ b → (has_key key ks ≡ true → length (without_key key ks) + 1 ≡ length ks) → length (if b then ks else k ∷ without_key key ks) + 1 ≡ length (k ∷ ks)
    of_test true same rest = omega arith
    of_test false other rest = omega (arith, rest (has-rest key k ks other has))

-- the neighbours of a key that goes are linked to each other
pub chain-without : (f g f' g' : Option ℕ → Option ℕ) (key : ℕ) (ks : List ℕ) → IsChain f g ks → has_key key ks ≡ true
    → ((q : Option ℕ) → f' q ≡ mended f (g (Some key)) (f (Some key)) q)
    → ((q : Option ℕ) → g' q ≡ mended g (f (Some key)) (g (Some key)) q)
    → IsChain f' g' (without_key key ks)
chain-without f g f' g' key ks is has path back = record {
  path = path-same _ f' (λ q. path q ∙ ap (λ a. mended f a (f (Some key)) q) (before-is g key None ks is.back has)) None _ (path-without f key None ks (apart-from-start ks is.apart) has is.path);
  back = back-same _ g' (λ q. back q ∙ ap (λ a. mended g a (g (Some key)) q) (behind-is f key None ks is.path has)) None _ (back-without g key None ks is.apart has is.back);
  apart = apart-without key ks is.apart;
}

pub chain-same : (f g f' g' : Option ℕ → Option ℕ) (ks : List ℕ) → IsChain f g ks → ((q : Option ℕ) → f' q ≡ f q) → ((q : Option ℕ) → g' q ≡ g q) → IsChain f' g' ks
chain-same f g f' g' ks is path back = record {
  path = path-same f f' path None ks is.path;
  back = back-same g g' back None ks is.back;
  apart = is.apart;
}

pub chain-gone : (f g f' g' : Option ℕ → Option ℕ) (gone : ℕ) (ks : List ℕ) → IsChain f g ks → has_key gone ks ≡ false
    → ((q : Option ℕ) → same_point q (Some gone) ≡ false → f' q ≡ f q)
    → ((q : Option ℕ) → same_point q (Some gone) ≡ false → g' q ≡ g q)
    → IsChain f' g' ks
chain-gone f g f' g' gone ks is out path back = record {
  path = path-gone f f' gone path None ks refl out is.path;
  back = back-gone g g' gone back None ks out is.back;
  apart = is.apart;
}

-- ---- a key comes

path-more : (f : Option ℕ → Option ℕ) (key : ℕ) (p : Option ℕ) (ks : List ℕ) → same_point p (Some key) ≡ false → has_key key ks ≡ false → stand_apart p ks ≡ true → IsPath f p ks → IsPath (mended (mended f (last_point p ks) (Some key)) (Some key) None) p (ks ++ key ∷ [])
path-more f key p [] off out apart is = (
  mended-else (mended f p (Some key)) (Some key) None p off ∙ mended-there f p (Some key) p (same_self p),
  mended-there (mended f p (Some key)) (Some key) None (Some key) (eq-self key),
)
path-more f key p (k ∷ ks) off out apart is =
    let parts = both _ _ apart in
    let l = last_point (Some k) ks in (
      mended-else (mended f l (Some key)) (Some key) None p off ∙ mended-else f l (Some key) p (same_turned l p (off-last p (Some k) ks parts.0)) ∙ is.0,
      path-more f key (Some k) ks (neither _ _ out).0 (neither _ _ out).1 parts.1 is.1,
    )

back-more : (g : Option ℕ → Option ℕ) (key : ℕ) (v p : Option ℕ) (ks : List ℕ) → has_key key ks ≡ false → v ≡ last_point p ks → IsWayBack g p ks → IsWayBack (mended (mended g None (Some key)) (Some key) v) p (ks ++ key ∷ [])
back-more g key v p [] out last is =
    (mended-there (mended g None (Some key)) (Some key) v (Some key) (eq-self key) ∙ last, refl)
back-more g key v p (k ∷ ks) out last is = (
  mended-else (mended g None (Some key)) (Some key) v (Some k) (neither _ _ out).0 ∙ is.0,
  back-more g key v (Some k) ks (neither _ _ out).1 last is.1,
)

-- the key is linked behind the last
pub chain-more : (f g f' g' : Option ℕ → Option ℕ) (key : ℕ) (ks : List ℕ) → IsChain f g ks → has_key key ks ≡ false
    → ((q : Option ℕ) → f' q ≡ mended (mended f (g None) (Some key)) (Some key) None q)
    → ((q : Option ℕ) → g' q ≡ mended (mended g None (Some key)) (Some key) (g None) q)
    → IsChain f' g' (ks ++ key ∷ [])
chain-more f g f' g' key ks is out path back =
    let last = last-is g None ks is.back in
    record {
      path = path-same _ f' (λ q. path q ∙ ap (λ a. mended (mended f a (Some key)) (Some key) None q) last) None _ (path-more f key None ks refl out (apart-from-start ks is.apart) is.path);
      back = back-same _ g' back None _ (back-more g key (g None) None ks out last is.back);
      apart = apart_snoc ks key is.apart out;
    }

-- the last key isn't one that is not there
pub off_the_last : (g : Option ℕ → Option ℕ) (key : ℕ) (ks : List ℕ) → IsWayBack g None ks → has_key key ks ≡ false → same_point (g None) (Some key) ≡ false
off_the_last g key ks is out = ap (λ p. same_point p (Some key)) (last-is g None ks is) ∙ from_start ks out
  where
    from : (k : ℕ) (xs : List ℕ) → (k == key) ≡ false → has_key key xs ≡ false → same_point (last_point (Some k) xs) (Some key) ≡ false
    from k [] first rest = first
    from k (x ∷ xs) first rest = from x xs (neither _ _ rest).0 (neither _ _ rest).1

    from_start : (xs : List ℕ) → has_key key xs ≡ false → same_point (last_point None xs) (Some key) ≡ false
    from_start [] rest = refl
    from_start (x ∷ xs) rest = from x xs (neither _ _ rest).0 (neither _ _ rest).1

-- ---- points of a chain

module _ (P : ℕ → Bool) where
  all-at : (key : ℕ) (ks : List ℕ) → has_key key ks ≡ true → list_all P ks ≡ true → P key ≡ true
  all-at key ks has all = let one = any_meets (λ n. n == key) P ks has all in ap P (sym (same_number one.0 key one.1)) ∙ one.2

  pub all-without : (key : ℕ) (ks : List ℕ) → list_all P ks ≡ true → list_all P (without_key key ks) ≡ true
  all-without key [] all = refl
  all-without key (k ∷ ks) all = of_test (k == key) (all-without key ks (both _ _ all).1)
    where
      of_test : (b : Bool) → list_all P (without_key key ks) ≡ true → list_all P (if b then ks else k ∷ without_key key ks) ≡ true
      of_test true later = (both _ _ all).1
      of_test false later = ap (λ b. b && list_all P (without_key key ks)) (both _ _ all).0 ∙ later

  last-holds : (p : Option ℕ) (ks : List ℕ) → option_map_or P p true ≡ true → list_all P ks ≡ true → option_map_or P (last_point p ks) true ≡ true
  last-holds p [] at all = at
  last-holds p (k ∷ ks) at all = last-holds (Some k) ks (both _ _ all).0 (both _ _ all).1

  before-holds : (key : ℕ) (p : Option ℕ) (ks : List ℕ) → option_map_or P p true ≡ true → list_all P ks ≡ true → option_map_or P (point_before key p ks) true ≡ true
  before-holds key p [] at all = at
  before-holds key p (k ∷ ks) at all = of_test (k == key) (before-holds key (Some k) ks (both _ _ all).0 (both _ _ all).1)
    where
      of_test : (b : Bool) → option_map_or P (point_before key (Some k) ks) true ≡ true → option_map_or P (if b then p else point_before key (Some k) ks) true ≡ true
      of_test true later = at
      of_test false later = later

  head-holds : (ks : List ℕ) → list_all P ks ≡ true → option_map_or P (slice_get ks 0) true ≡ true
  head-holds [] all = refl
  head-holds (k ∷ ks) all = (both _ _ all).0

  behind-holds : (key : ℕ) (ks : List ℕ) → list_all P ks ≡ true → option_map_or P (point_behind key ks) true ≡ true
  behind-holds key [] all = refl
  behind-holds key (k ∷ ks) all = of_test (k == key) (behind-holds key ks (both _ _ all).1)
    where
      of_test : (b : Bool) → option_map_or P (point_behind key ks) true ≡ true → option_map_or P (if b then slice_get ks 0 else point_behind key ks) true ≡ true
      of_test true later = head-holds ks (both _ _ all).1
      of_test false later = later

  module _ (f g : Option ℕ → Option ℕ) (ks : List ℕ) (is : IsChain f g ks) (all : list_all P ks ≡ true) where
    -- what holds of each key of a chain holds of its ends and of the neighbours of each key
    pub end-holds : option_map_or P (g None) true ≡ true
    end-holds = ap (λ p. option_map_or P p true) (last-is g None ks is.back) ∙ last-holds None ks refl all

    pub key-holds : (key : ℕ) → has_key key ks ≡ true → P key ≡ true
    key-holds key has = all-at key ks has all

    pub behind_key-holds : (key : ℕ) → has_key key ks ≡ true → option_map_or P (f (Some key)) true ≡ true
    behind_key-holds key has = ap (λ p. option_map_or P p true) (behind-is f key None ks is.path has) ∙ behind-holds key ks all

    pub before_key-holds : (key : ℕ) → has_key key ks ≡ true → option_map_or P (g (Some key)) true ≡ true
    before_key-holds key has = ap (λ p. option_map_or P p true) (before-is g key None ks is.back has) ∙ before-holds key None ks refl all

-- ---- the keys of a chain

pub keys-are : (f : Option ℕ → Option ℕ) (n : ℕ) (p : Option ℕ) (ks : List ℕ) → IsPath f p ks → length ks ≡ n → keys_from f n (f p) ≡ ks
keys-are f zero p [] is long = rw is refl
keys-are f (suc n) p [] is long = absurd (omega arith)
keys-are f zero p (k ∷ ks) is long = absurd (omega arith)
keys-are f (suc n) p (k ∷ ks) is long = rw is.0 (ap (λ l. k ∷ l) (keys-are f n (Some k) ks is.1 (omega arith)))

-- what stands behind a key, by its index
pub behind-index : (f : Option ℕ → Option ℕ) (key index : ℕ) (p : Option ℕ) (ks : List ℕ) → IsPath f p ks → slice_get ks index ≡ Some key → f (Some key) ≡ slice_get ks (index + 1)
behind-index f key index p [] is at = absurd (cc)
behind-index f key zero p (k ∷ ks) is at = let same : k ≡ key = cc in rw (← same) (path-head f (Some k) ks is.1)
behind-index f key (suc index) p (k ∷ ks) is at = behind-index f key index (Some k) ks is.1 at ∙ one_more ks index
  where
    one_more : (xs : List ℕ) (n : ℕ) → slice_get xs (n + 1) ≡ slice_get (k ∷ xs) (suc n + 1)
    one_more xs n = grind (arith, common_steps)
