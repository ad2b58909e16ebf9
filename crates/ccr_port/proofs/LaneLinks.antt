-- What the writes of a lane leave: its keys, linked.
use Rattle.std.proofs.Common.{◌≡◌, ℕ, zero, suc, ◌+◌, ◌-◌, ◌^◌, ◌<◌, ◌≤◌, true, false, ◌&&◌, List, [], ◌∷◌, ◌++◌, length, Option, Some, None, refl, sym, ap, ◌∙◌, arith, length-append}
use Rattle.std.specs.Prelude.{nat_lt}
use Rattle.std.specs.List.{slice_get, list_all}
use Rattle.std.specs.Option.{option_and_then}
use Rattle.std.proofs.Math.ListN.{set, get_or}
use Rattle.std.proofs.lemmas.List.{length-set}
use Rattle.std.proofs.lemmas.Bool.{ltb-true, lt-ltb}
use Rattle.std.proofs.lemmas.Option.{slice_get_read}
use Rattle.ccr_base.proofs.Booleans.{not_true}
use Rattle.ccr_base.proofs.Lists.{all_more}
use Rattle.ccr_base.proofs.Options.{slice_get-set}
use Rattle.ccr_port.specs.declared.links.Link.{Link}
use Rattle.ccr_port.specs.Chains.{behind_of, before_of, has_key, without_key, IsChain, mended}
use Rattle.ccr_port.specs.Lanes.{is_below, lane_keys, IsLinkedLane, KeyLaneState, can_enter}
use Rattle.ccr_port.proofs.Chains.{both, keys-are, behind-index, all-without, end-holds, key-holds, behind_key-holds, before_key-holds, length-without_key, chain-same}
use Rattle.ccr_port.proofs.Linking.{chain-appended, chain-unlinked}

-- these keys are linked, and the fields lead to them
pub record Leads (links : List Link) (first last : Option ℕ) (count : ℕ) (ks : List ℕ) : Type 0 where
  pub linked : IsLinkedLane links first last count
  pub keys : lane_keys links first count ≡ ks

leads : (links : List Link) (first last : Option ℕ) (count : ℕ) (ks : List ℕ) → IsChain (behind_of (slice_get links) first) (before_of (slice_get links) last) ks → length ks ≡ count → list_all (λ k. nat_lt k (length links)) ks ≡ true → Leads links first last count ks
leads links first last count ks is long low =
    let same : lane_keys links first count ≡ ks = keys-are (behind_of (slice_get links) first) count None ks is.path long in
    record { linked = record { chain = rw same is; long = rw same long; low = rw same low }; keys = same }

module _ (links : List Link) (first last : Option ℕ) (count : ℕ) (is : IsLinkedLane links first last count) where
  pub last-below : (n : ℕ) → n ≡ length links → is_below n last ≡ true
  last-below n long = rw long (end-holds (λ k. nat_lt k (length links)) (behind_of (slice_get links) first) (before_of (slice_get links) last) (lane_keys links first count) is.chain is.low)

  module _ (key : ℕ) (has : has_key key (lane_keys links first count) ≡ true) where
    pub key-below : key < length links
    key-below = ltb-true key (length links) (key-holds (λ k. nat_lt k (length links)) (behind_of (slice_get links) first) (before_of (slice_get links) last) (lane_keys links first count) is.chain is.low key has)

    module _ (link : Link) (read : link ≡ get_or links key link) where
      at : slice_get links key ≡ Some link
      at = slice_get_read links (length links) key link refl key-below read

      pub lane-behind : (index : ℕ) → slice_get (lane_keys links first count) index ≡ Some key → link.behind ≡ slice_get (lane_keys links first count) (index + 1)
      lane-behind index stands =
          ap (λ l. option_and_then (λ (x : Link). x.behind) l) (sym at)
          ∙ behind-index (behind_of (slice_get links) first) key index None (lane_keys links first count) is.chain.path stands

      pub before-below : is_below (length links) link.before ≡ true
      before-below =
          let holds = before_key-holds (λ k. nat_lt k (length links)) (behind_of (slice_get links) first) (before_of (slice_get links) last) (lane_keys links first count) is.chain is.low key has in
          ap (λ l. is_below (length links) (option_and_then (λ (x : Link). x.before) l)) (sym at) ∙ holds

      pub behind-below : (n : ℕ) → n ≡ length links → is_below n link.behind ≡ true
      behind-below n long =
          let holds = behind_key-holds (λ k. nat_lt k (length links)) (behind_of (slice_get links) first) (before_of (slice_get links) last) (lane_keys links first count) is.chain is.low key has in
          rw long (ap (λ l. is_below (length links) (option_and_then (λ (x : Link). x.behind) l)) (sym at) ∙ holds)

      pub lane-unlinked : (links1 links2 : List Link) (first1 last2 : Option ℕ)
          → ((q : Option ℕ) → behind_of (slice_get links1) first1 q ≡ mended (behind_of (slice_get links) first) link.before link.behind q)
          → ((l q : Option ℕ) → before_of (slice_get links1) l q ≡ before_of (slice_get links) l q)
          → length links1 ≡ length links
          → ((q : Option ℕ) → before_of (slice_get links2) last2 q ≡ mended (before_of (slice_get links1) last) link.behind link.before q)
          → ((f q : Option ℕ) → behind_of (slice_get links2) f q ≡ behind_of (slice_get links1) f q)
          → length links2 ≡ length links1
          → Leads links2 first1 last2 (count - 1) (without_key key (lane_keys links first count))
      lane-unlinked links1 links2 first1 last2 path1 back1 long1 back2 path2 long2 =
          let one_less = length-without_key key (lane_keys links first count) has in
          let long : length links2 ≡ length links = long2 ∙ long1 in
          leads links2 first1 last2 (count - 1) (without_key key (lane_keys links first count))
          (chain-unlinked (slice_get links) (slice_get links1) (slice_get links2) first first1 last last2 key link at path1 back1 back2 path2 (lane_keys links first count) is.chain has)
          (omega (arith, one_less, is.long))
          (rw long (all-without (λ k. nat_lt k (length links)) key (lane_keys links first count) is.low))

  pub lane-appended : (links2 : List Link) (first2 : Option ℕ) (key : ℕ) → key < length links → has_key key (lane_keys links first count) ≡ false
      → ((q : Option ℕ) → behind_of (slice_get links2) first2 q ≡ mended (behind_of (slice_get (set links key (record { before = last; behind = None }))) first) last (Some key) q)
      → ((l q : Option ℕ) → before_of (slice_get links2) l q ≡ before_of (slice_get (set links key (record { before = last; behind = None }))) l q)
      → length links2 ≡ length (set links key (record { before = last; behind = None }))
      → Leads links2 first2 (Some key) (count + 1) (lane_keys links first count ++ key ∷ [])
  lane-appended links2 first2 key low out path back long2 =
      let written : Link = record { before = last; behind = None } in
      let long : length links2 ≡ length links = long2 ∙ length-set links key written in
      leads links2 first2 (Some key) (count + 1) (lane_keys links first count ++ key ∷ [])
      (chain-appended (slice_get links) (slice_get (set links key written)) (slice_get links2) first first2 last key (λ k. slice_get-set links key k written low) path back (lane_keys links first count) is.chain out)
      (length-append (lane_keys links first count) (key ∷ []) ∙ omega (arith, is.long))
      (rw long (all_more (λ k. nat_lt k (length links)) (lane_keys links first count) key is.low (lt-ltb key (length links) low)))

  pub lane-grown : (links1 : List Link) → ((f q : Option ℕ) → behind_of (slice_get links1) f q ≡ behind_of (slice_get links) f q) → ((l q : Option ℕ) → before_of (slice_get links1) l q ≡ before_of (slice_get links) l q) → length links ≤ length links1 → Leads links1 first last count (lane_keys links first count)
  lane-grown links1 path back more =
      leads links1 first last count (lane_keys links first count)
      (chain-same (behind_of (slice_get links) first) (before_of (slice_get links) last) (behind_of (slice_get links1) first) (before_of (slice_get links1) last) (lane_keys links first count) is.chain (path first) (back last))
      is.long
      (low-more (lane_keys links first count) is.low)
    where
      low-more : (ks : List ℕ) → list_all (λ k. nat_lt k (length links)) ks ≡ true → list_all (λ k. nat_lt k (length links1)) ks ≡ true
      low-more [] low = refl
      low-more (k ∷ ks) low = let parts = both _ _ low in ap (λ b. b && list_all (λ k. nat_lt k (length links1)) ks) (lt-ltb k (length links1) (lower (ltb-true k (length links) parts.0))) ∙ low-more ks parts.1
        where
          lower : k < length links → k < length links1
          lower is = omega (arith, more)

-- one more link that links to none
pub behind-pushed : (links : List Link) (first q : Option ℕ) → behind_of (slice_get (links ++ record { before = None; behind = None } ∷ [])) first q ≡ behind_of (slice_get links) first q
behind-pushed links first None = refl
behind-pushed [] first (Some zero) = refl
behind-pushed [] first (Some (suc k)) = refl
behind-pushed (l ∷ links) first (Some zero) = refl
behind-pushed (l ∷ links) first (Some (suc k)) = behind-pushed links first (Some k)

pub before-pushed : (links : List Link) (last q : Option ℕ) → before_of (slice_get (links ++ record { before = None; behind = None } ∷ [])) last q ≡ before_of (slice_get links) last q
before-pushed links last None = refl
before-pushed [] last (Some zero) = refl
before-pushed [] last (Some (suc k)) = refl
before-pushed (l ∷ links) last (Some zero) = refl
before-pushed (l ∷ links) last (Some (suc k)) = before-pushed links last (Some k)

-- what is asked of a key that enters
pub record MayEnter (key : ℕ) (lane : KeyLaneState) : Type 0 where
  pub room : key < lane.room
  pub absent : has_key key lane.keys ≡ false
  pub few : length lane.keys + 1 < 2 ^ 32

pub may_enter : (key : ℕ) (lane : KeyLaneState) → can_enter key lane ≡ true → MayEnter key lane
may_enter key lane can =
    let parts = both _ _ can in
    let rest = both _ _ parts.1 in
    record { room = ltb-true key lane.room parts.0; absent = not_true _ rest.0; few = ltb-true (length lane.keys + 1) (2 ^ 32) rest.1 }
