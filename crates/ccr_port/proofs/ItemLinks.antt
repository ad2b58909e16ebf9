-- What the writes of a slab of linked messages leave: its messages, linked.
use Rattle.std.proofs.Common.{◌≡◌, ℕ, suc, ◌+◌, ◌-◌, Bool, true, false, ◌==◌, ◌&&◌, List, [], ◌∷◌, ◌++◌, length, Option, Some, None, refl, sym, ap, ◌∙◌, arith, length-append, is_some}
use Rattle.std.specs.Prelude.{if◌then◌else◌, option_map}
use Rattle.std.specs.List.{slice_get}
use Rattle.std.specs.Option.{option_and_then, option_map_or}
use Rattle.slab.specs.Slab.{Slab, get, Updates}
use Rattle.ccr_base.specs.declared.messages.Msg.{Msg}
use Rattle.ccr_base.proofs.Booleans.{eq-self, same_number, differ}
use Rattle.ccr_base.proofs.Lists.{all_more}
use Rattle.ccr_port.specs.declared.links.Link.{Link}
use Rattle.ccr_port.specs.declared.items.LinkedMessage.{LinkedMessage}
use Rattle.ccr_port.specs.Chains.{behind_of, before_of, has_key, without_key, IsChain, same_point, mended}
use Rattle.ccr_port.specs.Entries.{keys_of, message_under, without_entry, link_at, message_at, is_kept, are_kept, entries_at, linked_keys, AreLinked}
use Rattle.ccr_port.proofs.Chains.{both, neither, has-rest, keys-are, behind-index, all-without, end-holds, key-holds, behind_key-holds, before_key-holds, length-without_key, gone-without, chain-gone}
use Rattle.ccr_port.proofs.Linking.{chain-appended, chain-unlinked}

-- ---- the messages of the keys

module _ (slab : Slab LinkedMessage) where
  pub keys-entries : (ks : List ℕ) → are_kept slab ks ≡ true → keys_of (entries_at slab ks) ≡ ks
  keys-entries [] kept = refl
  keys-entries (k ∷ ks) kept = of_message (message_at slab k) (both _ _ kept).0 (keys-entries ks (both _ _ kept).1)
    where
      of_message : (o : Option Msg) → is_some o ≡ true → keys_of (entries_at slab ks) ≡ ks → keys_of (option_map_or (λ message. (k, message) ∷ entries_at slab ks) o (entries_at slab ks)) ≡ k ∷ ks
      of_message None there rest = absurd (cc)
      of_message (Some m) there rest = ap (λ l. k ∷ l) rest

  pub length-entries : (ks : List ℕ) → are_kept slab ks ≡ true → length (entries_at slab ks) ≡ length ks
  length-entries [] kept = refl
  length-entries (k ∷ ks) kept = of_message (message_at slab k) (both _ _ kept).0 (length-entries ks (both _ _ kept).1)
    where
      of_message : (o : Option Msg) → is_some o ≡ true → length (entries_at slab ks) ≡ length ks → length (option_map_or (λ message. (k, message) ∷ entries_at slab ks) o (entries_at slab ks)) ≡ suc (length ks)
      of_message None there rest = absurd (cc)
      of_message (Some m) there rest = ap suc rest

  pub under-is : (key : ℕ) (ks : List ℕ) → are_kept slab ks ≡ true → has_key key ks ≡ true → message_under key (entries_at slab ks) ≡ message_at slab key
  under-is key [] kept has = absurd (cc)
  under-is key (k ∷ ks) kept has = of_message (message_at slab k) refl (both _ _ kept).0 (λ later. under-is key ks (both _ _ kept).1 later)
    where
      of_message : (o : Option Msg) → message_at slab k ≡ o → is_some o ≡ true → (has_key key ks ≡ true → message_under key (entries_at slab ks) ≡ message_at slab key)
          → message_under key (option_map_or (λ message. (k, message) ∷ entries_at slab ks) o (entries_at slab ks)) ≡ message_at slab key
      of_message None at there rest = absurd (cc)
      of_message (Some m) at there rest = of_test (k == key) refl
        where
          of_test : (b : Bool) → (k == key) ≡ b → (if b then Some m else message_under key (entries_at slab ks)) ≡ message_at slab key
          of_test true same = sym at ∙ ap (message_at slab) (same_number k key same)
          of_test false other = rest (has-rest key k ks other has)

  pub entries-append : (ks : List ℕ) (key : ℕ) (message : Msg) → message_at slab key ≡ Some message → entries_at slab (ks ++ key ∷ []) ≡ entries_at slab ks ++ (key, message) ∷ []
  entries-append [] key message at = ap (λ o. option_map_or (λ m. (key, m) ∷ []) o []) at
  entries-append (k ∷ ks) key message at = of_message (message_at slab k) (entries-append ks key message at)
    where
      of_message : (o : Option Msg) → entries_at slab (ks ++ key ∷ []) ≡ entries_at slab ks ++ (key, message) ∷ []
          → option_map_or (λ m. (k, m) ∷ entries_at slab (ks ++ key ∷ [])) o (entries_at slab (ks ++ key ∷ [])) ≡ option_map_or (λ m. (k, m) ∷ entries_at slab ks) o (entries_at slab ks) ++ (key, message) ∷ []
      of_message None rest = rest
      of_message (Some m) rest = ap (λ l. (k, m) ∷ l) rest

  pub entries-without : (key : ℕ) (ks : List ℕ) → are_kept slab ks ≡ true → entries_at slab (without_key key ks) ≡ without_entry key (entries_at slab ks)
  entries-without key [] kept = refl
  entries-without key (k ∷ ks) kept = of_message (message_at slab k) refl (both _ _ kept).0 (entries-without key ks (both _ _ kept).1)
    where
      of_message : (o : Option Msg) → message_at slab k ≡ o → is_some o ≡ true → entries_at slab (without_key key ks) ≡ without_entry key (entries_at slab ks)
          → entries_at slab (if k == key then ks else k ∷ without_key key ks) ≡ without_entry key (option_map_or (λ m. (k, m) ∷ entries_at slab ks) o (entries_at slab ks))
      of_message None at there rest = absurd (cc)
      of_message (Some m) at there rest = of_test (k == key)
        where
          of_test : (b : Bool) → entries_at slab (if b then ks else k ∷ without_key key ks) ≡ (if b then entries_at slab ks else (k, m) ∷ without_entry key (entries_at slab ks))
          of_test true = refl
          of_test false = ap (λ p. option_map_or (λ x. (k, x) ∷ entries_at slab (without_key key ks)) p (entries_at slab (without_key key ks))) at ∙ ap (λ l. (k, m) ∷ l) rest

  module _ (slab2 : Slab LinkedMessage) (gone : ℕ) (same : (k : ℕ) → (k == gone) ≡ false → message_at slab2 k ≡ message_at slab k) where
    -- what is kept under one key doesn't matter to the others
    pub entries-off : (ks : List ℕ) → has_key gone ks ≡ false → entries_at slab2 ks ≡ entries_at slab ks
    entries-off [] out = refl
    entries-off (k ∷ ks) out =
        let parts = neither _ _ out in
        ap (λ o. option_map_or (λ m. (k, m) ∷ entries_at slab2 ks) o (entries_at slab2 ks)) (same k parts.0)
        ∙ ap (λ l. option_map_or (λ m. (k, m) ∷ l) (message_at slab k) l) (entries-off ks parts.1)

    pub kept-off : (ks : List ℕ) → has_key gone ks ≡ false → are_kept slab ks ≡ true → are_kept slab2 ks ≡ true
    kept-off [] out kept = refl
    kept-off (k ∷ ks) out kept =
        let parts = neither _ _ out in
        let kepts = both _ _ kept in
        ap (λ o. is_some o && are_kept slab2 ks) (same k parts.0) ∙ ap (λ b. b && are_kept slab2 ks) kepts.0 ∙ kept-off ks parts.1 kepts.1

-- these keys are linked, and the fields lead to them
pub record LeadsTo (slab : Slab LinkedMessage) (first last : Option ℕ) (count : ℕ) (ks : List ℕ) : Type 0 where
  pub linked : AreLinked slab first last count
  pub keys : linked_keys slab first count ≡ ks

leads_to : (slab : Slab LinkedMessage) (first last : Option ℕ) (count : ℕ) (ks : List ℕ) → IsChain (behind_of (link_at slab) first) (before_of (link_at slab) last) ks → length ks ≡ count → are_kept slab ks ≡ true → LeadsTo slab first last count ks
leads_to slab first last count ks is long kept =
    let same : linked_keys slab first count ≡ ks = keys-are (behind_of (link_at slab) first) count None ks is.path long in
    record { linked = record { chain = rw same is; long = rw same long; kept = rw same kept }; keys = same }

module _ (slab : Slab LinkedMessage) (first last : Option ℕ) (count : ℕ) (is : AreLinked slab first last count) where
  abbrev ks : List ℕ
  ks = linked_keys slab first count

  pub has-linked : (key : ℕ) → has_key key (keys_of (entries_at slab ks)) ≡ true → has_key key ks ≡ true
  has-linked key has = sym (ap (has_key key) (keys-entries slab ks is.kept)) ∙ has

  pub key-kept : (key : ℕ) → has_key key ks ≡ true → is_some (message_at slab key) ≡ true
  key-kept key has = key-holds (λ k. is_some (message_at slab k)) (behind_of (link_at slab) first) (before_of (link_at slab) last) ks is.chain is.kept key has

  pub has-value : (key : ℕ) → has_key key ks ≡ true → is_some (get slab key) ≡ true
  has-value key has = of_entry (get slab key) (key-kept key has)
    where
      of_entry : (o : Option LinkedMessage) → is_some (option_map (λ (entry : LinkedMessage). entry.message) o) ≡ true → is_some o ≡ true
      of_entry None there = absurd (cc)
      of_entry (Some entry) there = refl

  -- a key that the slab doesn't have is not linked
  pub absent : (key : ℕ) → get slab key ≡ None → has_key key ks ≡ false
  absent key none = of_test (has_key key ks) refl
    where
      of_test : (b : Bool) → has_key key ks ≡ b → b ≡ false
      of_test true has = let there = has-value key has in let not_there : is_some (get slab key) ≡ false = ap is_some none in cc
      of_test false has = refl

  module _ (slab1 : Slab LinkedMessage) (key : ℕ) (message : Msg) (none : get slab key ≡ None)
      (inserted : Updates slab slab1 key (Some (record { message = message; link = record { before = last; behind = None } }))) where
    written_one : (k : ℕ) → get slab1 k ≡ (if k == key then Some (record { message = message; link = record { before = last; behind = None } }) else get slab k)
    written_one k = of_test (k == key) refl
      where
        of_test : (b : Bool) → (k == key) ≡ b → get slab1 k ≡ (if b then Some (record { message = message; link = record { before = last; behind = None } }) else get slab k)
        of_test true same = ap (get slab1) (same_number k key same) ∙ inserted.changed
        of_test false other = inserted.others k (differ k key other)

    others : (k : ℕ) → (k == key) ≡ false → message_at slab1 k ≡ message_at slab k
    others k other = ap (λ o. option_map (λ (entry : LinkedMessage). entry.message) o) (inserted.others k (differ k key other))

    pub last-kept : is_kept slab1 last ≡ true
    last-kept =
        end-holds (λ k. is_some (message_at slab1 k)) (behind_of (link_at slab) first) (before_of (link_at slab) last) ks is.chain
        (kept-off slab slab1 key others ks (absent key none) is.kept)

    module _ (slab2 : Slab LinkedMessage) (first2 : Option ℕ)
        (path : (q : Option ℕ) → behind_of (link_at slab2) first2 q ≡ mended (behind_of (link_at slab1) first) last (Some key) q)
        (back : (l q : Option ℕ) → before_of (link_at slab2) l q ≡ before_of (link_at slab1) l q)
        (messages : (k : ℕ) → message_at slab2 k ≡ message_at slab1 k) where
      others2 : (k : ℕ) → (k == key) ≡ false → message_at slab2 k ≡ message_at slab k
      others2 k other = messages k ∙ others k other

      here : message_at slab2 key ≡ Some message
      here = messages key ∙ ap (λ o. option_map (λ (entry : LinkedMessage). entry.message) o) inserted.changed

      pub items-appended : LeadsTo slab2 first2 (Some key) (count + 1) (ks ++ key ∷ [])
      items-appended =
          leads_to slab2 first2 (Some key) (count + 1) (ks ++ key ∷ [])
          (chain-appended (link_at slab) (link_at slab1) (link_at slab2) first first2 last key
          (λ k. ap (λ o. option_map (λ (entry : LinkedMessage). entry.link) o) (written_one k) ∙ mapped (k == key) (get slab k))
          path back ks is.chain (absent key none))
          (length-append ks (key ∷ []) ∙ omega (arith, is.long))
          (all_more (λ k. is_some (message_at slab2 k)) ks key (kept-off slab slab2 key others2 ks (absent key none) is.kept) (ap is_some here))
        where
          mapped : (b : Bool) (o : Option LinkedMessage) → option_map (λ (entry : LinkedMessage). entry.link) (if b then Some (record { message = message; link = record { before = last; behind = None } }) else o) ≡ (if b then Some (record { before = last; behind = None }) else option_map (λ (entry : LinkedMessage). entry.link) o)
          mapped true o = refl
          mapped false o = refl

      pub entries-appended : entries_at slab2 (linked_keys slab2 first2 (count + 1)) ≡ entries_at slab ks ++ (key, message) ∷ []
      entries-appended =
          ap (entries_at slab2) items-appended.keys ∙ entries-append slab2 ks key message here
          ∙ ap (λ l. l ++ (key, message) ∷ []) (entries-off slab slab2 key others2 ks (absent key none))

  module _ (key : ℕ) (has : has_key key ks ≡ true) (entry : LinkedMessage) (read : get slab key ≡ Some entry) where
    at : link_at slab key ≡ Some entry.link
    at = ap (λ o. option_map (λ (e : LinkedMessage). e.link) o) read

    pub item-behind : (index : ℕ) → slice_get (keys_of (entries_at slab ks)) index ≡ Some key → entry.link.behind ≡ slice_get (keys_of (entries_at slab ks)) (index + 1)
    item-behind index stands =
        let same = keys-entries slab ks is.kept in
        ap (λ l. option_and_then (λ (x : Link). x.behind) l) (sym at)
        ∙ behind-index (behind_of (link_at slab) first) key index None ks is.chain.path (sym (ap (λ l. slice_get l index) same) ∙ stands)
        ∙ ap (λ l. slice_get l (index + 1)) (sym same)

    pub before-kept : is_kept slab entry.link.before ≡ true
    before-kept =
        ap (λ l. is_kept slab (option_and_then (λ (x : Link). x.before) l)) (sym at)
        ∙ before_key-holds (λ k. is_some (message_at slab k)) (behind_of (link_at slab) first) (before_of (link_at slab) last) ks is.chain is.kept key has

    module _ (slab1 : Slab LinkedMessage) (first1 : Option ℕ)
        (path1 : (q : Option ℕ) → behind_of (link_at slab1) first1 q ≡ mended (behind_of (link_at slab) first) entry.link.before entry.link.behind q)
        (back1 : (l q : Option ℕ) → before_of (link_at slab1) l q ≡ before_of (link_at slab) l q)
        (messages1 : (k : ℕ) → message_at slab1 k ≡ message_at slab k) where
      pub behind-kept : is_kept slab1 entry.link.behind ≡ true
      behind-kept =
          same_kept entry.link.behind
          ∙ ap (λ l. is_kept slab (option_and_then (λ (x : Link). x.behind) l)) (sym at)
          ∙ behind_key-holds (λ k. is_some (message_at slab k)) (behind_of (link_at slab) first) (before_of (link_at slab) last) ks is.chain is.kept key has
        where
          same_kept : (p : Option ℕ) → is_kept slab1 p ≡ is_kept slab p
          same_kept None = refl
          same_kept (Some k) = ap is_some (messages1 k)

      module _ (slab2 slab3 : Slab LinkedMessage) (last2 : Option ℕ)
          (back2 : (q : Option ℕ) → before_of (link_at slab2) last2 q ≡ mended (before_of (link_at slab1) last) entry.link.behind entry.link.before q)
          (path2 : (f q : Option ℕ) → behind_of (link_at slab2) f q ≡ behind_of (link_at slab1) f q)
          (messages2 : (k : ℕ) → message_at slab2 k ≡ message_at slab1 k)
          (removed : Updates slab2 slab3 key None) where
        left_links : (k : ℕ) → (k == key) ≡ false → link_at slab3 k ≡ link_at slab2 k
        left_links k other = ap (λ o. option_map (λ (e : LinkedMessage). e.link) o) (removed.others k (differ k key other))

        left_messages : (k : ℕ) → (k == key) ≡ false → message_at slab3 k ≡ message_at slab k
        left_messages k other = ap (λ o. option_map (λ (e : LinkedMessage). e.message) o) (removed.others k (differ k key other)) ∙ messages2 k ∙ messages1 k

        path3 : (q : Option ℕ) → same_point q (Some key) ≡ false → behind_of (link_at slab3) first1 q ≡ behind_of (link_at slab2) first1 q
        path3 None off = refl
        path3 (Some k) off = ap (λ l. option_and_then (λ (x : Link). x.behind) l) (left_links k off)

        back3 : (q : Option ℕ) → same_point q (Some key) ≡ false → before_of (link_at slab3) last2 q ≡ before_of (link_at slab2) last2 q
        back3 None off = refl
        back3 (Some k) off = ap (λ l. option_and_then (λ (x : Link). x.before) l) (left_links k off)

        out : has_key key (without_key key ks) ≡ false
        out = gone-without key ks is.chain.apart

        pub items-taken : LeadsTo slab3 first1 last2 (count - 1) (without_key key ks)
        items-taken =
            let one_less = length-without_key key ks has in
            let kept : are_kept slab (without_key key ks) ≡ true = all-without (λ k. is_some (message_at slab k)) key ks is.kept in
            let chain2 = chain-unlinked (link_at slab) (link_at slab1) (link_at slab2) first first1 last last2 key entry.link at path1 back1 back2 path2 ks is.chain has in
            leads_to slab3 first1 last2 (count - 1) (without_key key ks)
            (chain-gone (behind_of (link_at slab2) first1) (before_of (link_at slab2) last2) (behind_of (link_at slab3) first1) (before_of (link_at slab3) last2) key (without_key key ks) chain2 out path3 back3)
            (omega (arith, one_less, is.long))
            (kept-off slab slab3 key left_messages (without_key key ks) out kept)

        pub entries-taken : entries_at slab3 (linked_keys slab3 first1 (count - 1)) ≡ without_entry key (entries_at slab ks)
        entries-taken =
            ap (entries_at slab3) items-taken.keys
            ∙ entries-off slab slab3 key left_messages (without_key key ks) out
            ∙ entries-without slab key ks is.kept

        pub message-taken : (taken : LinkedMessage) → get slab2 key ≡ Some taken → message_under key (entries_at slab ks) ≡ Some taken.message
        message-taken taken found =
            under-is slab key ks is.kept has ∙ sym (messages1 key) ∙ sym (messages2 key) ∙ ap (λ o. option_map (λ (e : LinkedMessage). e.message) o) found
