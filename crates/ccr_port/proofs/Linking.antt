-- Chains whose links are kept under the keys, and what the writes to them leave.
use Rattle.std.proofs.Common.{◌≡◌, ℕ, Bool, true, false, ◌==◌, List, [], ◌∷◌, ◌++◌, Option, Some, None, refl, sym, ap, ◌∙◌, arith, length-append}
use Rattle.std.specs.Prelude.{if◌then◌else◌}
use Rattle.std.specs.Option.{option_and_then}
use Rattle.std.proofs.lemmas.Grind.{common_steps}
use Rattle.std.proofs.lemmas.Bool.Decides.{nat_tests}
use Rattle.ccr_base.proofs.Booleans.{eq-self, same_number}
use Rattle.ccr_port.specs.declared.links.Link.{Link}
use Rattle.ccr_port.specs.Chains.{behind_of, before_of, has_key, without_key, IsChain, same_point, mended}
use Rattle.ccr_port.proofs.Chains.{same_turned, mended-there, mended-else, last-is, off_the_last, chain-more, chain-without}

-- two writes at different points, in either order
swapped : (f : Option ℕ → Option ℕ) (a b v w q : Option ℕ) → same_point a b ≡ false → mended (mended f b v) a w q ≡ mended (mended f a w) b v q
swapped f a b v w q apart = of_tests (same_point q a) (same_point q b) refl refl
  where
    one_point : (x y : Option ℕ) → same_point q x ≡ true → same_point q y ≡ true → same_point x y ≡ true
    one_point x y at_x at_y = points q x y at_x at_y
      where
        points : (q x y : Option ℕ) → same_point q x ≡ true → same_point q y ≡ true → same_point x y ≡ true
        points None None None at_x at_y = refl
        points None None (Some y) at_x at_y = at_y
        points None (Some x) y at_x at_y = absurd (cc)
        points (Some k) None y at_x at_y = absurd (cc)
        points (Some k) (Some x) None at_x at_y = absurd (cc)
        points (Some k) (Some x) (Some y) at_x at_y = let e = same_number k x at_x in let d = same_number k y at_y in rw (← e, ← d) (eq-self k)

    of_tests : (s t : Bool) → same_point q a ≡ s → same_point q b ≡ t → (if same_point q a then w else (if same_point q b then v else f q)) ≡ (if same_point q b then v else (if same_point q a then w else f q))
    of_tests true true at_a at_b = absurd (let e = one_point a b at_a at_b in cc)
    of_tests true false at_a at_b = rw (at_a, at_b) refl
    of_tests false t at_a at_b = rw at_a refl

module _ (links links1 links2 : ℕ → Option Link) where
  -- the link of a new key is written, and then the last key is linked to it
  module _ (first first2 last : Option ℕ) (key : ℕ)
      (written : (k : ℕ) → links1 k ≡ (if k == key then Some (record { before = last; behind = None }) else links k))
      (path : (q : Option ℕ) → behind_of links2 first2 q ≡ mended (behind_of links1 first) last (Some key) q)
      (back : (l q : Option ℕ) → before_of links2 l q ≡ before_of links1 l q) where
    path1 : (q : Option ℕ) → behind_of links1 first q ≡ mended (behind_of links first) (Some key) None q
    path1 None = refl
    path1 (Some k) = ap (λ l. option_and_then (λ (link : Link). link.behind) l) (written k) ∙ of_test (k == key)
      where
        of_test : (b : Bool) → option_and_then (λ (link : Link). link.behind) (if b then Some (record { before = last; behind = None }) else links k) ≡ (if b then None else option_and_then (λ (link : Link). link.behind) (links k))
        of_test true = refl
        of_test false = refl

    back1 : (q : Option ℕ) → before_of links1 (Some key) q ≡ mended (mended (before_of links last) None (Some key)) (Some key) last q
    back1 None = refl
    back1 (Some k) = ap (λ l. option_and_then (λ (link : Link). link.before) l) (written k) ∙ of_test (k == key)
      where
        of_test : (b : Bool) → option_and_then (λ (link : Link). link.before) (if b then Some (record { before = last; behind = None }) else links k) ≡ (if b then last else option_and_then (λ (link : Link). link.before) (links k))
        of_test true = refl
        of_test false = refl

    pub chain-appended : (ks : List ℕ) → IsChain (behind_of links first) (before_of links last) ks → has_key key ks ≡ false → IsChain (behind_of links2 first2) (before_of links2 (Some key)) (ks ++ key ∷ [])
    chain-appended ks is out =
        let apart : same_point last (Some key) ≡ false = off_the_last (before_of links last) key ks is.back out in
        chain-more (behind_of links first) (before_of links last) (behind_of links2 first2) (before_of links2 (Some key)) key ks is out
        (λ q. path q ∙ ap (λ n. if same_point q last then Some key else n) (path1 q) ∙ swapped (behind_of links first) last (Some key) None (Some key) q apart)
        (λ q. back (Some key) q ∙ back1 q)

  -- the neighbours of a key are linked to each other
  module _ (first first1 last last2 : Option ℕ) (key : ℕ) (link : Link)
      (at : links key ≡ Some link)
      (path1 : (q : Option ℕ) → behind_of links1 first1 q ≡ mended (behind_of links first) link.before link.behind q)
      (back1 : (l q : Option ℕ) → before_of links1 l q ≡ before_of links l q)
      (back2 : (q : Option ℕ) → before_of links2 last2 q ≡ mended (before_of links1 last) link.behind link.before q)
      (path2 : (f q : Option ℕ) → behind_of links2 f q ≡ behind_of links1 f q) where
    pub chain-unlinked : (ks : List ℕ) → IsChain (behind_of links first) (before_of links last) ks → has_key key ks ≡ true → IsChain (behind_of links2 first1) (before_of links2 last2) (without_key key ks)
    chain-unlinked ks is has =
        let behind : behind_of links first (Some key) ≡ link.behind = ap (λ l. option_and_then (λ (x : Link). x.behind) l) at in
        let before : before_of links last (Some key) ≡ link.before = ap (λ l. option_and_then (λ (x : Link). x.before) l) at in
        chain-without (behind_of links first) (before_of links last) (behind_of links2 first1) (before_of links2 last2) key ks is has
        (λ q. path2 first1 q ∙ path1 q ∙ ap (λ a. mended (behind_of links first) a link.behind q) (sym before) ∙ ap (λ v. mended (behind_of links first) (before_of links last (Some key)) v q) (sym behind))
        (λ q. back2 q ∙ ap (λ n. if same_point q link.behind then link.before else n) (back1 last q) ∙ ap (λ a. mended (before_of links last) a link.before q) (sym behind) ∙ ap (λ v. mended (before_of links last) (behind_of links first (Some key)) v q) (sym before))
