-- The definition with no word of clap's says the same.
use Rattle.std.proofs.Common.{◌≡◌, ◌∙◌, ◌⊎◌, inl, inr, ℕ, ◌+◌, ◌==◌, ◌&&◌, ◌||◌, Bool, true, false, cond, not, codes, refl, sym, ap, subst, arith, List, [], ◌∷◌, ◌++◌, length, take, drop, suc, Option, Some, None, option_map, nat_lt}
use Rattle.std.specs.Prelude.{IfSome, is_some, option_and_then, nat_le, find}
use Rattle.std.specs.List.{after_first, before_first, list_all, list_any, position_or_len}
use Rattle.std.specs.Option.{option_or}
use Rattle.std.specs.Char.{is_ascii_digit}
use Rattle.std.specs.Str.{bytes_eq, is_utf8}
use Rattle.std.specs.Str.Parse.{digits_value}
use Rattle.std.proofs.lemmas.Bool.Decides.{nat_tests}
use Rattle.std.proofs.lemmas.Str.{IsUtf8-from_ascii, is_utf8-from_IsUtf8}
use Rattle.std.proofs.lemmas.Str.Ascii.{IsAscii-from_all}
use Rattle.std.proofs.lemmas.List.Sums.{AllPass-from_list_all}
use Rattle.clap.specs.Lexer.{has_byte, name_and_value, long_of, long_of_rest, short_of, short_of_rest, strip_byte}
use Rattle.ccr_base.proofs.Texts.{same_word}
use Rattle.ccr_words.specs.Parts.{at_end, option_turn, Given, Part, State, Text, given_so_far, has, json, left_over, name_of, new_option_turn, option_of, schedule, size, takes_value, text_of, with_part, word, workers}
use Rattle.ccr_words.specs.Table.{is_number, load_of, meaning, plain_request, request_of, number, number_or, workers_alone}
use Rattle.ccr_words.specs.AskedFor.{begins_with, given_after, asked_for, turn, next_turn, plain_turn}
use Rattle.ccr_words.specs.Parsing.{begins_with_hyphen, hyphen_or_left_over, other_turn, value_turn, parsed_after, parsed_turn, parsed_said, texts}
use Rattle.ccr_words.specs.declared.requests.Request.{Request}
use Rattle.ccr_words.specs.declared.requests.Request.TheVariants.{Read}
use Rattle.ccr_words.specs.declared.requests.Command.{Command}
use Rattle.ccr_words.specs.declared.requests.Command.TheVariants.{Run, Verify, Record, Replay, Steps, Steady, Service, Expand}
use Rattle.std.proofs.lemmas.Bool.{and_parts}
use Rattle.std.proofs.Math.Bool.{and-false}
use Rattle.ccr_base.proofs.Lists.{any_meets}
use Rattle.ccr_base.proofs.Booleans.{refuted}

-- ---- texts that no meaning takes

abbrev table_words : List Text
table_words =
    codes "check" ∷ codes "run" ∷ codes "verify" ∷ codes "load" ∷ codes "record" ∷ codes "replay" ∷ codes "steps" ∷ codes "steady" ∷ codes "service"
    ∷ codes "expand" ∷ []

abbrev fine : Part → Text → Bool
fine word text = list_any (bytes_eq text) table_words
fine workers text = is_number text
fine size text = is_number text
fine _ text = true

abbrev table : Bool → Bool → Bool → Bool → Option Request → Option Request → Option Request → Option Request → Option Request
table a b c d x y z u = cond a x (cond b y (cond c z (cond d u None)))

abbrev further : Bool → Bool → Bool → Bool → Bool → Bool → Option Request → Option Request → Option Request → Option Request → Option Request → Option Request → Option Request
further a b c d e f x y z u v w = cond a x (cond b y (cond c z (cond d u (cond e v (cond f w None)))))

table-none : (a b c d : Bool) (x y z u : Option Request) → x ≡ None → y ≡ None → z ≡ None → u ≡ None → table a b c d x y z u ≡ None
table-none true b c d x y z u e f g h = e
table-none false true c d x y z u e f g h = f
table-none false false true d x y z u e f g h = g
table-none false false false true x y z u e f g h = h
table-none false false false false x y z u e f g h = refl

further-none : (a b c d e f : Bool) (x y z u v w : Option Request) → x ≡ None → y ≡ None → z ≡ None → u ≡ None → v ≡ None → w ≡ None → further a b c d e f x y z u v w ≡ None
further-none true b c d e f x y z u v w ex ey ez eu ev ew = ex
further-none false true c d e f x y z u v w ex ey ez eu ev ew = ey
further-none false false true d e f x y z u v w ex ey ez eu ev ew = ez
further-none false false false true e f x y z u v w ex ey ez eu ev ew = eu
further-none false false false false true f x y z u v w ex ey ez eu ev ew = ev
further-none false false false false false true x y z u v w ex ey ez eu ev ew = ew
further-none false false false false false false x y z u v w ex ey ez eu ev ew = refl

either-none : (x y : Option Request) → x ≡ None → y ≡ None → option_or x y ≡ None
either-none None y e f = f
either-none (Some r) y e f = absurd (cc)

table-bad : (a b c d e f g h i j : Bool) (x y z u v w p q r s : Option Request) → (a || (b || (c || (d || (e || (f || (g || (h || (i || (j || false)))))))))) ≡ false
    → option_or (table a b c d x y z u) (further e f g h i j v w p q r s) ≡ None
table-bad true b c d e f g h i j x y z u v w p q r s bad = absurd (cc)
table-bad false true c d e f g h i j x y z u v w p q r s bad = absurd (cc)
table-bad false false true d e f g h i j x y z u v w p q r s bad = absurd (cc)
table-bad false false false true e f g h i j x y z u v w p q r s bad = absurd (cc)
table-bad false false false false true f g h i j x y z u v w p q r s bad = absurd (cc)
table-bad false false false false false true g h i j x y z u v w p q r s bad = absurd (cc)
table-bad false false false false false false true h i j x y z u v w p q r s bad = absurd (cc)
table-bad false false false false false false false true i j x y z u v w p q r s bad = absurd (cc)
table-bad false false false false false false false false true j x y z u v w p q r s bad = absurd (cc)
table-bad false false false false false false false false false true x y z u v w p q r s bad = absurd (cc)
table-bad false false false false false false false false false false x y z u v w p q r s bad = refl

number-bad : (low high : ℕ) (text : Text) → is_number text ≡ false → number low high text ≡ None
number-bad low high text bad = ap (λ b. cond (b && (nat_le low (digits_value 10 text) && nat_le (digits_value 10 text) high)) (Some (digits_value 10 text)) None) bad

load_none : (o : Option ℕ) (j : Bool) → load_of o None j ≡ None
load_none None j = refl
load_none (Some n) j = refl

cond_none : {X : Type 0} (b : Bool) (x : Option X) → x ≡ None → cond b None x ≡ None
cond_none true x e = refl
cond_none false x e = e

check_none : (a b : Bool) (x : Option Request) → cond (a || (true || b)) None x ≡ None
check_none true b x = refl
check_none false b x = refl

bad_meaning : (p : Part) (g : Given) (t : Text) → text_of p g ≡ Some t → fine p t ≡ false → meaning g ≡ None
bad_meaning word g t is bad = ap (option_and_then (λ w. request_of w (text_of workers g) (text_of size g) (has schedule g) (has json g))) is
    ∙ table-bad (bytes_eq t (codes "check")) (bytes_eq t (codes "run")) (bytes_eq t (codes "verify")) (bytes_eq t (codes "load")) (bytes_eq t (codes "record"))
    (bytes_eq t (codes "replay")) (bytes_eq t (codes "steps")) (bytes_eq t (codes "steady")) (bytes_eq t (codes "service")) (bytes_eq t (codes "expand")) _ _ _ _ _ _ _ _ _ _ bad
bad_meaning workers g t is bad = ap (λ o. option_and_then (λ w. request_of w o (text_of size g) (has schedule g) (has json g)) (text_of word g)) is ∙ go (text_of word g)
  where
    alone : (command : ℕ → Command) → option_map (λ (n : ℕ). Read (command n) false) (workers_alone (Some t) (text_of size g) (has schedule g) (has json g)) ≡ None
    alone command = ap (option_map (λ (n : ℕ). Read (command n) false)) (cond_none (is_some (text_of size g) || (has schedule g || has json g)) (number 0 16 t) (number-bad 0 16 t bad))

    go : (o : Option Text) → option_and_then (λ w. request_of w (Some t) (text_of size g) (has schedule g) (has json g)) o ≡ None
    go None = refl
    go (Some w) = either-none _ _
        (table-none (bytes_eq w (codes "check")) (bytes_eq w (codes "run")) (bytes_eq w (codes "verify")) (bytes_eq w (codes "load")) _ _ _ _ refl
        (cond_none (is_some (text_of size g)) _ (ap (option_map (λ (n : ℕ). Read (Run n (has schedule g)) (has json g))) (number-bad 0 16 t bad)))
        refl
        (cond_none (has schedule g) _ (ap (λ o. load_of o (number_or 1000 1 10000 (text_of size g)) (has json g)) (number-bad 0 16 t bad))))
        (further-none (bytes_eq w (codes "record")) (bytes_eq w (codes "replay")) (bytes_eq w (codes "steps")) (bytes_eq w (codes "steady")) (bytes_eq w (codes "service")) (bytes_eq w (codes "expand")) _ _ _ _ _ _
        (alone (λ n. Record n)) refl refl refl (alone (λ n. Service n)) refl)
bad_meaning size g t is bad = ap (λ o. option_and_then (λ w. request_of w (text_of workers g) o (has schedule g) (has json g)) (text_of word g)) is ∙ go (text_of word g)
  where
    plain : (command : Command) → plain_request command (text_of workers g) (Some t) (has schedule g) (has json g) ≡ None
    plain command = check_none (is_some (text_of workers g)) (has schedule g || has json g) _

    go : (o : Option Text) → option_and_then (λ w. request_of w (text_of workers g) (Some t) (has schedule g) (has json g)) o ≡ None
    go None = refl
    go (Some w) = either-none _ _
        (table-none (bytes_eq w (codes "check")) (bytes_eq w (codes "run")) (bytes_eq w (codes "verify")) (bytes_eq w (codes "load")) _ _ _ _
        (check_none (is_some (text_of workers g)) (has schedule g) _)
        refl
        (plain Verify)
        (cond_none (has schedule g) _ (ap (λ o. load_of (number_or 0 0 16 (text_of workers g)) o (has json g)) (number-bad 1 10000 t bad) ∙ load_none (number_or 0 0 16 (text_of workers g)) (has json g))))
        (further-none (bytes_eq w (codes "record")) (bytes_eq w (codes "replay")) (bytes_eq w (codes "steps")) (bytes_eq w (codes "steady")) (bytes_eq w (codes "service")) (bytes_eq w (codes "expand")) _ _ _ _ _ _
        refl (plain Replay) (plain Steps) (plain Steady) refl (plain Expand))
bad_meaning schedule g t is bad = absurd (cc)
bad_meaning json g t is bad = absurd (cc)

-- ---- a text that was given stays

text_kept : (p q : Part) (t u : Text) (g : Given) → text_of p g ≡ Some t → text_of p (with_part q u g) ≡ Some t
text_kept p q t u [] is = absurd (cc)
text_kept p q t u (x ∷ g) is = go (bytes_eq (name_of x.0) (name_of p)) is (text_kept p q t u g)
  where
    go : (b : Bool) → option_map (λ (y : Part × Text). y.1) (cond b (Some x) (find (λ (y : Part × Text). bytes_eq (name_of y.0) (name_of p)) g)) ≡ Some t
        → (text_of p g ≡ Some t → text_of p (with_part q u g) ≡ Some t)
        → option_map (λ (y : Part × Text). y.1) (cond b (Some x) (find (λ (y : Part × Text). bytes_eq (name_of y.0) (name_of p)) (g ++ (q, u) ∷ []))) ≡ Some t
    go true e more = e
    go false e more = more e

self_same : (p : Part) → bytes_eq (name_of p) (name_of p) ≡ true
self_same word = refl
self_same workers = refl
self_same size = refl
self_same schedule = refl
self_same json = refl

text_new : (p : Part) (u : Text) (g : Given) → has p g ≡ false → text_of p (with_part p u g) ≡ Some u
text_new p u [] new = ap (λ b. option_map (λ (y : Part × Text). y.1) (cond b (Some (p, u)) None)) (self_same p)
text_new p u (x ∷ g) new = go (bytes_eq (name_of x.0) (name_of p)) new (text_new p u g)
  where
    go : (b : Bool) → (b || has p g) ≡ false → (has p g ≡ false → text_of p (with_part p u g) ≡ Some u)
        → option_map (λ (y : Part × Text). y.1) (cond b (Some x) (find (λ (y : Part × Text). bytes_eq (name_of y.0) (name_of p)) (g ++ (p, u) ∷ []))) ≡ Some u
    go true e more = absurd (cc)
    go false e more = more e

-- ---- ASCII

abbrev ascii : Text → Bool
ascii text = list_all (λ b. nat_lt b 128) text

split_ascii : (xs : Text) → ascii (before_first (λ x. x == 61) xs) ≡ true → (has_byte 61 xs ≡ true → ascii (after_first (λ x. x == 61) xs) ≡ true) → ascii xs ≡ true
split_ascii [] front back = refl
split_ascii (x ∷ xs) front back = go (x == 61) refl front back (split_ascii xs)
  where
    index : ℕ
    index = position_or_len (λ y. y == 61) xs

    go : (b : Bool) → (x == 61) ≡ b → ascii (take (cond (not b) (1 + index) 0) (x ∷ xs)) ≡ true → ((b || has_byte 61 xs) ≡ true → ascii (drop (cond (not b) (1 + index) 0 + 1) (x ∷ xs)) ≡ true)
        → (ascii (take index xs) ≡ true → (has_byte 61 xs ≡ true → ascii (drop (index + 1) xs) ≡ true) → ascii xs ≡ true) → (nat_lt x 128 && ascii xs) ≡ true
    go true e front back more =
        let small : nat_lt x 128 ≡ true = grind (arith, nat_tests) in
        rw small (back refl)
    go false e front back more =
        let step : 1 + index ≡ suc index = omega arith in
        let both = and_parts (nat_lt x 128) (ascii (take index xs)) (subst (λ (n : ℕ). ascii (take n (x ∷ xs)) ≡ true) step front) in
        let next : 1 + index + 1 ≡ suc (index + 1) = omega arith in
        rw both.0 (more both.1 (λ h. subst (λ (n : ℕ). ascii (drop n (x ∷ xs)) ≡ true) next (back h)))

digits_ascii : (text : Text) → list_all is_ascii_digit text ≡ true → ascii text ≡ true
digits_ascii [] all = refl
digits_ascii (x ∷ xs) all =
    let both = and_parts (is_ascii_digit x) (list_all is_ascii_digit xs) all in
    let rest = digits_ascii xs both.1 in
    let small : nat_lt x 128 ≡ true = grind (arith, nat_tests) in
    rw small rest

ascii_utf8 : (text : Text) → ascii text ≡ true → is_utf8 text ≡ true
ascii_utf8 text all = is_utf8-from_IsUtf8 text (IsUtf8-from_ascii text (IsAscii-from_all text (λ k d lt. let small = AllPass-from_list_all (λ b. nat_lt b 128) text all k d lt in grind (arith, nat_tests, small))))

word_ascii : (text : Text) (words : List Text) → list_all ascii words ≡ true → list_any (bytes_eq text) words ≡ true → ascii text ≡ true
word_ascii text words all is = let word = any_meets (bytes_eq text) ascii words is all in ap ascii (same_word text word.0 word.1) ∙ word.2

fine_ascii : (p : Part) (text : Text) → takes_value p ≡ true → fine p text ≡ true → ascii text ≡ true
fine_ascii word text takes is = word_ascii text table_words refl is
fine_ascii workers text takes is = digits_ascii text (and_parts (nat_lt 0 (length text)) (list_all is_ascii_digit text) is).1
fine_ascii size text takes is = digits_ascii text (and_parts (nat_lt 0 (length text)) (list_all is_ascii_digit text) is).1
fine_ascii schedule text takes is = absurd (cc)
fine_ascii json text takes is = absurd (cc)

-- ---- what a bad text does

abbrev IsBad : State → Type 0
IsBad s = (p : Part) × (t : Text) × (text_of p s.given ≡ Some t) × (fine p t ≡ false)

abbrev MayBad : Option State → Type 0
MayBad o = IfSome o IsBad

-- each parsed_turn keeps a text
abbrev Keeps : Part → Text → Option State → Type 0
Keeps p t o = IfSome o (λ s. text_of p s.given ≡ Some t)

module _ (p : Part) (t : Text) (s : State) (is : text_of p s.given ≡ Some t) where
  keep_cond : (b : Bool) (o : Option State) → Keeps p t o → Keeps p t (cond b None o)
  keep_cond true o k = tt
  keep_cond false o k = k

  keep_left : (text : Text) → Keeps p t (left_over s text)
  keep_left text = keep_cond (has word s.given) _ (text_kept p word t text s.given is)

  keep_option : (q : Part) (v : Option Text) → Keeps p t (option_turn s q v)
  keep_option word (Some u) = text_kept p word t u s.given is
  keep_option workers (Some u) = text_kept p workers t u s.given is
  keep_option size (Some u) = text_kept p size t u s.given is
  keep_option schedule (Some u) = tt
  keep_option json (Some u) = tt
  keep_option word None = is
  keep_option workers None = is
  keep_option size None = is
  keep_option schedule None = text_kept p schedule t [] s.given is
  keep_option json None = text_kept p json t [] s.given is

  keep_new : (o : Option Part) (v : Option Text) → Keeps p t (new_option_turn s o v)
  keep_new None v = tt
  keep_new (Some q) v = keep_cond (has q s.given) _ (keep_option q v)

  keep_plain : (text : Text) (o : Option (Text × Option Text)) → Keeps p t (plain_turn s text o)
  keep_plain text (Some n) = keep_new (option_of n.0) n.1
  keep_plain text None = keep_cond (begins_with 45 text) _ (keep_left text)

  keep_either : (b : Bool) (x y : Option State) → Keeps p t x → Keeps p t y → Keeps p t (cond b x y)
  keep_either true x y k l = k
  keep_either false x y k l = l

  keep_next : (o : Option Part) (text : Text) → Keeps p t (next_turn s o text)
  keep_next (Some q) text = text_kept p q t text s.given is
  keep_next None text = keep_either (bytes_eq text (codes "--")) _ _ is (keep_plain text (long_of text))

  keep_said : (text : Text) → Keeps p t (turn s text)
  keep_said text = keep_either s.ended _ _ (keep_left text) (keep_next s.awaits text)

  keep_hyphen : (text : Text) (q : Option Text) → Keeps p t (hyphen_or_left_over s text q)
  keep_hyphen text (Some u) = tt
  keep_hyphen text None = keep_left text

  keep_other : (text : Text) (o : Option (Text × Option Text)) → Keeps p t (other_turn s text o)
  keep_other text (Some n) = keep_new (option_of n.0) n.1
  keep_other text None = keep_hyphen text (short_of text)

  keep_value : (o : Option Part) (text : Text) → Keeps p t (value_turn s o text)
  keep_value (Some q) text = keep_cond (begins_with_hyphen text) _ (text_kept p q t text s.given is)
  keep_value None text = keep_either (bytes_eq text (codes "--")) _ _ is (keep_other text (long_of text))

  keep_parsed : (text : Text) → Keeps p t (parsed_turn s text)
  keep_parsed text = keep_either s.ended _ _ (keep_left text) (keep_value s.awaits text)

module _ (p : Part) (t : Text) (bad : fine p t ≡ false) where
  bad_end : (s : State) → text_of p s.given ≡ Some t → option_and_then meaning (at_end s) ≡ None
  bad_end s is = go (is_some s.awaits || not (has word s.given))
    where
      go : (b : Bool) → option_and_then meaning (cond b None (Some s.given)) ≡ None
      go true = refl
      go false = bad_meaning p s.given t is bad

  bad_said : (texts : List Text) (s : State) → text_of p s.given ≡ Some t → option_and_then meaning (given_after s texts) ≡ None
  bad_said [] s is = bad_end s is
  bad_said (text ∷ texts) s is = go (turn s text) (keep_said p t s is text) (bad_said texts)
    where
      go : (o : Option State) → Keeps p t o → ((r : State) → text_of p r.given ≡ Some t → option_and_then meaning (given_after r texts) ≡ None)
          → option_and_then meaning (option_and_then (λ r. given_after r texts) o) ≡ None
      go None k more = refl
      go (Some r) k more = more r k

  bad_parsed : (texts : List Text) (s : State) → text_of p s.given ≡ Some t → option_and_then meaning (parsed_after s texts) ≡ None
  bad_parsed [] s is = bad_end s is
  bad_parsed (text ∷ texts) s is = go (parsed_turn s text) (keep_parsed p t s is text) (bad_parsed texts)
    where
      go : (o : Option State) → Keeps p t o → ((r : State) → text_of p r.given ≡ Some t → option_and_then meaning (parsed_after r texts) ≡ None)
          → option_and_then meaning (option_and_then (λ r. parsed_after r texts) o) ≡ None
      go None k more = refl
      go (Some r) k more = more r k

may_said : (texts : List Text) (o : Option State) → MayBad o → option_and_then meaning (option_and_then (λ r. given_after r texts) o) ≡ None
may_said texts None b = refl
may_said texts (Some s) b = bad_said b.0 b.1 b.3 texts s b.2

may_parsed : (texts : List Text) (o : Option State) → MayBad o → option_and_then meaning (option_and_then (λ r. parsed_after r texts) o) ≡ None
may_parsed texts None b = refl
may_parsed texts (Some s) b = bad_parsed b.0 b.1 b.3 texts s b.2

bad_cond : (b : Bool) (o : Option State) → (b ≡ false → MayBad o) → MayBad (cond b None o)
bad_cond true o k = tt
bad_cond false o k = k refl

bad_left : (s : State) (text : Text) → fine word text ≡ false → MayBad (left_over s text)
bad_left s text bad = go (has word s.given) refl
  where
    go : (b : Bool) → has word s.given ≡ b → MayBad (cond b None (Some (record s { given = with_part word text s.given })))
    go true e = tt
    go false e = (word, text, text_new word text s.given e, bad)

-- ---- a word that begins with a hyphen

hyphen_bad : (p : Part) (xs : Text) → takes_value p ≡ true → fine p (45 ∷ xs) ≡ false
hyphen_bad word xs takes = refl
hyphen_bad workers xs takes = and-false (nat_lt 0 (length (45 ∷ xs)))
hyphen_bad size xs takes = and-false (nat_lt 0 (length (45 ∷ xs)))
hyphen_bad schedule xs takes = absurd (cc)
hyphen_bad json xs takes = absurd (cc)

begins_bad : (p : Part) (text : Text) → takes_value p ≡ true → begins_with 45 text ≡ true → fine p text ≡ false
begins_bad p [] takes e = absurd (cc)
begins_bad p (x ∷ xs) takes e =
    let is : x ≡ 45 = grind (arith, nat_tests) in
    subst (λ (y : ℕ). fine p (y ∷ xs) ≡ false) (sym is) (hyphen_bad p xs takes)

hyphen_begins : (text : Text) → begins_with_hyphen text ≡ true → begins_with 45 text ≡ true
hyphen_begins [] e = absurd (cc)
hyphen_begins (x ∷ xs) e = go (x == 45) refl e
  where
    go : (b : Bool) → (x == 45) ≡ b → (((x == 45) && bytes_eq xs (codes "-")) || (is_some (option_and_then long_of_rest (option_and_then (strip_byte 45) (cond b (Some xs) None))) || is_some (option_and_then short_of_rest (cond b (Some xs) None)))) ≡ true → b ≡ true
    go true f e = refl
    go false f e = let bad : false ≡ true = rw f at e in bad

-- ---- a word that is no text

no_ascii : (w : Text) → is_utf8 w ≡ false → ascii w ≡ true → ⊥
no_ascii w bad all = let yes = ascii_utf8 w all in cc

not_fine : (p : Part) (w u : Text) → takes_value p ≡ true → is_utf8 w ≡ false → (ascii u ≡ true → ascii w ≡ true) → fine p u ≡ false
not_fine p w u takes bad up = refuted (fine p u) (λ e. no_ascii w bad (up (fine_ascii p u takes e)))

option_name : (name : Text) (q : Part) → option_of name ≡ Some q → ascii name ≡ true
option_name name q is = go (bytes_eq (codes "workers") name) (bytes_eq (codes "size") name) (bytes_eq (codes "schedule") name) (bytes_eq (codes "json") name) refl refl refl refl is
  where
    go : (a b c d : Bool) → bytes_eq (codes "workers") name ≡ a → bytes_eq (codes "size") name ≡ b → bytes_eq (codes "schedule") name ≡ c → bytes_eq (codes "json") name ≡ d
        → cond a (Some workers) (cond b (Some size) (cond c (Some schedule) (cond d (Some json) None))) ≡ Some q → ascii name ≡ true
    go true b c d ea eb ec ed e = ap ascii (sym (same_word (codes "workers") name ea))
    go false true c d ea eb ec ed e = ap ascii (sym (same_word (codes "size") name eb))
    go false false true d ea eb ec ed e = ap ascii (sym (same_word (codes "schedule") name ec))
    go false false false true ea eb ec ed e = ap ascii (sym (same_word (codes "json") name ed))
    go false false false false ea eb ec ed e = absurd (cc)

-- the parts of a long word
part_ascii : (rest : Text) (n : Text × Option Text) → long_of_rest rest ≡ Some n → ascii n.0 ≡ true → ((u : Text) → n.1 ≡ Some u → ascii u ≡ true) → ascii rest ≡ true
part_ascii [] n is front back = refl
part_ascii (x ∷ xs) n is front back =
    let same : name_and_value (x ∷ xs) ≡ n = cc in
    split_ascii (x ∷ xs) (ap (λ (m : Text × Option Text). ascii m.0) same ∙ front)
    (λ h. back (after_first (λ y. y == 61) (x ∷ xs)) (ap (λ (m : Text × Option Text). m.1) (sym same) ∙ ap (λ b. cond b (Some (after_first (λ y. y == 61) (x ∷ xs))) None) h))

long_ascii : (w : Text) (n : Text × Option Text) → long_of w ≡ Some n → ascii n.0 ≡ true → ((u : Text) → n.1 ≡ Some u → ascii u ≡ true) → ascii w ≡ true
long_ascii [] n is front back = refl
long_ascii (x ∷ xs) n is front back = first (x == 45) refl xs is
  where
    second : (b : Bool) (y : ℕ) (ys : Text) → (y == 45) ≡ b → option_and_then long_of_rest (cond b (Some ys) None) ≡ Some n → ascii (y ∷ ys) ≡ true
    second false y ys e is = absurd (cc)
    second true y ys e is =
        let small : nat_lt y 128 ≡ true = grind (arith, nat_tests) in
        rw small (part_ascii ys n is front back)

    first : (b : Bool) → (x == 45) ≡ b → (xs : Text) → option_and_then long_of_rest (option_and_then (strip_byte 45) (cond b (Some xs) None)) ≡ Some n → ascii (x ∷ xs) ≡ true
    first false e xs is = absurd (cc)
    first true e [] is = absurd (cc)
    first true e (y ∷ ys) is =
        let small : nat_lt x 128 ≡ true = grind (arith, nat_tests) in
        rw small (second (y == 45) y ys refl is)

-- what the state may wait for
abbrev IsOpen : Option Part → Given → Bool → Type 0
IsOpen None given ended = Unit {0}
IsOpen (Some part) given ended = (takes_value part ≡ true) × (has part given ≡ false) × (ended ≡ false)

module _ (w : Text) (bad : is_utf8 w ≡ false) (s : State) where
  broken_new : (n : Text × Option Text) → long_of w ≡ Some n → (o : Option Part) → option_of n.0 ≡ o → MayBad (new_option_turn s o n.1)
  broken_new n is None e = tt
  broken_new n is (Some q) e = bad_cond (has q s.given) _ (λ new. go n.1 refl new)
    where
      front : ascii n.0 ≡ true
      front = option_name n.0 q e

      value : (t : Bool) (u : Text) → takes_value q ≡ t → n.1 ≡ Some u → has q s.given ≡ false → MayBad (cond t (Some (given_so_far (with_part q u s.given))) None)
      value false u t v new = tt
      value true u t v new = (q, u, text_new q u s.given new, not_fine q w u t bad (λ all. long_ascii w n is front (λ u' f. let same : u ≡ u' = cc in subst (λ (y : Text). ascii y ≡ true) same all)))

      go : (v : Option Text) → n.1 ≡ v → has q s.given ≡ false → MayBad (option_turn s q v)
      go (Some u) v new = value (takes_value q) u refl v new
      go None v new = absurd (no_ascii w bad (long_ascii w n is front (λ u f. absurd (cc))))

  broken_plain : (o : Option (Text × Option Text)) → long_of w ≡ o → MayBad (plain_turn s w o)
  broken_plain (Some n) is = broken_new n is (option_of n.0) refl
  broken_plain None is = bad_cond (begins_with 45 w) _ (λ _. bad_left s w (not_fine word w w refl bad (λ all. all)))

  broken_word : (b : Bool) → bytes_eq w (codes "--") ≡ b → MayBad (cond b (Some (record s { ended = true })) (plain_turn s w (long_of w)))
  broken_word true e = absurd (no_ascii w bad (ap ascii (same_word w (codes "--") e)))
  broken_word false e = broken_plain (long_of w) refl

  broken_next : (o : Option Part) → IsOpen o s.given false → MayBad (next_turn s o w)
  broken_next (Some q) opens = (q, w, text_new q w s.given opens.1, not_fine q w w opens.0 bad (λ all. all))
  broken_next None opens = broken_word (bytes_eq w (codes "--")) refl

  broken : (b : Bool) → (b ≡ false → IsOpen s.awaits s.given false) → MayBad (cond b (left_over s w) (next_turn s s.awaits w))
  broken true opens = bad_left s w (not_fine word w w refl bad (λ all. all))
  broken false opens = broken_next s.awaits (opens refl)

-- ---- the two turns

abbrev OpenState : State → Type 0
OpenState s = IsOpen s.awaits s.given s.ended

abbrev Agree : Option State → Option State → Type 0
Agree lit cur = ((lit ≡ cur) × IfSome lit OpenState) ⊎ (MayBad lit × MayBad cur)

short_none : (w : Text) → begins_with 45 w ≡ false → short_of w ≡ None
short_none [] e = refl
short_none (x ∷ xs) e = ap (λ b. option_and_then short_of_rest (cond b (Some xs) None)) e

open_cond : (b : Bool) (o : Option State) → (b ≡ false → IfSome o OpenState) → IfSome (cond b None o) OpenState
open_cond true o k = tt
open_cond false o k = k refl

open_option : (given : Given) (q : Part) (v : Option Text) → has q given ≡ false → IfSome (option_turn (given_so_far given) q v) OpenState
open_option given word (Some u) new = tt
open_option given workers (Some u) new = tt
open_option given size (Some u) new = tt
open_option given schedule (Some u) new = tt
open_option given json (Some u) new = tt
open_option given word None new = (refl, new, refl)
open_option given workers None new = (refl, new, refl)
open_option given size None new = (refl, new, refl)
open_option given schedule None new = tt
open_option given json None new = tt

open_new : (given : Given) (o : Option Part) (v : Option Text) → IfSome (new_option_turn (given_so_far given) o v) OpenState
open_new given None v = tt
open_new given (Some q) v = open_cond (has q given) _ (open_option given q v)

open_left : (given : Given) (ended : Bool) (w : Text) → IfSome (left_over (record { given = given; awaits = None; ended = ended }) w) OpenState
open_left given ended w = open_cond (has word given) _ (λ _. tt)

agree_hyphen : (given : Given) (w : Text) (b : Bool) → begins_with 45 w ≡ b
    → Agree (cond b None (left_over (given_so_far given) w)) (hyphen_or_left_over (given_so_far given) w (short_of w))
agree_hyphen given w true e = inr (tt, go (short_of w))
  where
    go : (q : Option Text) → MayBad (hyphen_or_left_over (given_so_far given) w q)
    go (Some flags) = tt
    go None = bad_left (given_so_far given) w (begins_bad word w refl e)
agree_hyphen given w false e = inl (ap (hyphen_or_left_over (given_so_far given) w) (sym (short_none w e)), open_left given false w)

agree_plain : (given : Given) (w : Text) (o : Option (Text × Option Text)) → Agree (plain_turn (given_so_far given) w o) (other_turn (given_so_far given) w o)
agree_plain given w (Some n) = inl (refl, open_new given (option_of n.0) n.1)
agree_plain given w None = agree_hyphen given w (begins_with 45 w) refl

agree_word : (given : Given) (w : Text) (b : Bool)
    → Agree (cond b (Some (record { given = given; awaits = None; ended = true })) (plain_turn (given_so_far given) w (long_of w)))
    (cond b (Some (record { given = given; awaits = None; ended = true })) (other_turn (given_so_far given) w (long_of w)))
agree_word given w true = inl (refl, tt)
agree_word given w false = agree_plain given w (long_of w)

agree_value : (given : Given) (q : Part) (w : Text) → takes_value q ≡ true → has q given ≡ false → (b : Bool) → begins_with_hyphen w ≡ b
    → Agree (Some (given_so_far (with_part q w given))) (cond b None (Some (given_so_far (with_part q w given))))
agree_value given q w takes new true e = inr ((q, w, text_new q w given new, begins_bad q w takes (hyphen_begins w e)), tt)
agree_value given q w takes new false e = inl (refl, tt)

agree : (given : Given) (awaits : Option Part) (ended : Bool) → IsOpen awaits given ended → (w : Text)
    → Agree (turn (record { given = given; awaits = awaits; ended = ended }) w) (parsed_turn (record { given = given; awaits = awaits; ended = ended }) w)
agree given (Some q) true opens w = absurd (cc)
agree given None true opens w = inl (refl, open_left given true w)
agree given (Some q) false opens w = agree_value given q w opens.0 opens.1 (begins_with_hyphen w) refl
agree given None false opens w = agree_word given w (bytes_eq w (codes "--"))

-- ---- all the words

abbrev parsed_tail : State → List Text → Option Request
parsed_tail s words = option_and_then meaning (option_and_then (parsed_after s) (cond (list_all is_utf8 words) (Some words) None))

says : (words : List Text) (given : Given) (awaits : Option Part) (ended : Bool) → IsOpen awaits given ended
    → option_and_then meaning (given_after (record { given = given; awaits = awaits; ended = ended }) words) ≡ parsed_tail (record { given = given; awaits = awaits; ended = ended }) words
says [] given awaits ended opens = refl
says (w ∷ words) given awaits ended opens = go (is_utf8 w) refl (agree given awaits ended opens w) (λ r o. says words r.given r.awaits r.ended o)
  where
    here : State
    here = record { given = given; awaits = awaits; ended = ended }

    none_then : (c : Bool) (cur : Option State) → option_and_then meaning (option_and_then (λ r. parsed_after r words) cur) ≡ None
        → None ≡ option_and_then meaning (option_and_then (λ (ws : List Text). option_and_then (λ r. parsed_after r words) cur) (cond c (Some words) None))
    none_then true cur e = sym e
    none_then false cur e = refl

    some_then : (c : Bool) (r : State) → option_and_then meaning (option_and_then (parsed_after r) (cond c (Some words) None))
        ≡ option_and_then meaning (option_and_then (λ (ws : List Text). parsed_after r words) (cond c (Some words) None))
    some_then true r = refl
    some_then false r = refl

    moved : (c : Bool) → option_and_then meaning (option_and_then (λ (ws : List Text). option_and_then (λ r. parsed_after r words) (parsed_turn here w)) (cond c (Some words) None))
        ≡ option_and_then meaning (option_and_then (parsed_after here) (cond c (Some (w ∷ words)) None))
    moved true = refl
    moved false = refl

    both : (lit cur : Option State) → Agree lit cur → ((r : State) → OpenState r → option_and_then meaning (given_after r words) ≡ parsed_tail r words)
        → option_and_then meaning (option_and_then (λ r. given_after r words) lit)
        ≡ option_and_then meaning (option_and_then (λ (ws : List Text). option_and_then (λ r. parsed_after r words) cur) (cond (list_all is_utf8 words) (Some words) None))
    both lit cur (inr bad) more = may_said words lit bad.0 ∙ none_then (list_all is_utf8 words) cur (may_parsed words cur bad.1)
    both None cur (inl same) more = none_then (list_all is_utf8 words) cur (ap (λ (o : Option State). option_and_then meaning (option_and_then (λ r. parsed_after r words) o)) (sym same.0))
    both (Some r) cur (inl same) more = more r same.1 ∙ some_then (list_all is_utf8 words) r
        ∙ ap (λ (o : Option State). option_and_then meaning (option_and_then (λ (ws : List Text). option_and_then (λ q. parsed_after q words) o) (cond (list_all is_utf8 words) (Some words) None))) same.0

    start_open : ended ≡ false → IsOpen awaits given false
    start_open e = subst (λ (b : Bool). IsOpen awaits given b) e opens

    go : (b : Bool) → is_utf8 w ≡ b → Agree (turn here w) (parsed_turn here w) → ((r : State) → OpenState r → option_and_then meaning (given_after r words) ≡ parsed_tail r words)
        → option_and_then meaning (option_and_then (λ r. given_after r words) (turn here w)) ≡ option_and_then meaning (option_and_then (parsed_after here) (cond (b && list_all is_utf8 words) (Some (w ∷ words)) None))
    go false e agrees more = may_said words (turn here w) (broken w e here ended start_open)
    go true e agrees more = both (turn here w) (parsed_turn here w) agrees more ∙ moved (list_all is_utf8 words)

pub same_said : (words : List Text) → asked_for words ≡ parsed_said words
same_said words = says words [] None false tt
