-- clap's walk over the words, beside `parsed_after`.
use Rattle.std.proofs.Common.{◌≡◌, ◌∙◌, ◌⊎◌, inl, inr, ℕ, Bool, true, false, cond, not, ◌&&◌, ◌||◌, codes, refl, sym, ap, subst, List, [], ◌∷◌, ◌++◌, Option, Some, None, option_map}
use Rattle.std.specs.Prelude.{slice_get, length, drop, encode_utf8, nat_lt, is_some}
use Rattle.std.specs.Option.{option_map_or}
use Rattle.std.proofs.lemmas.List.Folds.{list_any-append}
use Rattle.clap.specs.Walk.{takes_values}
use Rattle.std.specs.Str.{bytes_eq, chars}
use Rattle.std.proofs.Math.Bool.{or-false, or-true, and-false}
use Rattle.clap.specs.Lexer.{long_of, short_of}
use Rattle.clap.specs.Walk.{Row, Rule, Text, Walk, Waiting, Held, idle, option, value, arg_by_index, arg_by_id, arg_by_long, has_row, used, settled, settled_rows, walked, finished, positional_held, to_positional, after_step, long_or_other, short_or_plain, is_pending, pushed, used_by_id, plain_word, trailing, after_flag, long_met, option_word, pending_count, most_values}
use Rattle.clap.specs.Faults.{bundle_step_fault, short_fault}
use Rattle.clap.specs.declared.error.kind.ErrorKind.TheVariants as kind
use Rattle.clap.specs.Kinds.{Kinds, or_else}
use Rattle.clap.specs.Faults.{bundle_fault, check_fault, defaults_fault, flag_word_fault, flags_fault, settle_fault, step_fault, turn_fault, use_fault, react_fault, long_fault, option_fault, positional_fault, stray_fault}
use Rattle.ccr_words.specs.Parts.{Given, Part, State, given_so_far, has, json, name_of, option_of, schedule, size, takes_value, with_part, word, workers, new_option_turn}
use Rattle.ccr_words.specs.Parsing.{parsed_turn, other_turn, hyphen_or_left_over}
use Rattle.ccr_words.proofs.Rules.{by_id, by_index-1, by_index-2, by_long, by_short, rule_for, rules, top}
use Rattle.ccr_words.proofs.Rows.{flag-new, has-rows, rows_of_given, used-new}

-- ---- faults

abbrev pub clean : Kinds → Bool
clean [] = true
clean (k ∷ ks) = false

pub unclean-first : (a b : Kinds) → clean a ≡ false → clean (or_else a b) ≡ false
unclean-first [] b h = absurd (cc)
unclean-first (k ∷ ks) b h = refl

pub unclean-second : (a b : Kinds) → clean b ≡ false → clean (or_else a b) ≡ false
unclean-second [] b h = h
unclean-second (k ∷ ks) b h = refl

pub clean-first : (a b : Kinds) → clean a ≡ true → or_else a b ≡ b
clean-first [] b h = refl
clean-first (k ∷ ks) b h = absurd (cc)

-- ---- the walk, with what is given so far

abbrev pub held : List Row → Option (Text × List Text) → Held
held rows pending = record { rows = rows; pending = pending; skip = 0 }

abbrev pub at : List Row → Option (Text × List Text) → Waiting → ℕ → Bool → Walk
at rows pending waiting position ended = record {
  held = held rows pending;
  waiting = waiting;
  position = position;
  is_trailing = ended;
  stopped = None;
}

abbrev pub at_held : Held → Waiting → ℕ → Walk
at_held h waiting position = record { held = h; waiting = waiting; position = position; is_trailing = false; stopped = None }

abbrev pub end_fault : Held → Kinds
end_fault h = or_else (settle_fault rules false h) (or_else (defaults_fault (settled rules h).rows rules) (check_fault top (finished rules h) false))

-- the rows of clap at the end, where nothing fails
abbrev pub end_rows : Held → Option (List Row)
end_rows h = cond (clean (end_fault h)) (Some (finished rules h)) None

abbrev pub run : Walk → List Text → Option (List Row)
run w [] = end_rows w.held
run w (text ∷ texts) = cond (clean (turn_fault top [] w text)) (run (walked rules [] w text) texts) None

-- a flag word is a bundle that is not empty
abbrev pub IsBundle : Text → Type 0
IsBundle text = (flags : Text) → short_of text ≡ Some flags → (x : ℕ) × (slice_get (chars flags) 0 ≡ Some x)

abbrev pub AreBundles : List Text → Type 0
AreBundles [] = Unit {0}
AreBundles (text ∷ texts) = IsBundle text × AreBundles texts

-- no words can follow
abbrev pub IsDead : Walk → Type 0
IsDead w = (texts : List Text) → AreBundles texts → run w texts ≡ None

pub dead_end : (h : Held) → clean (settle_fault rules false h) ≡ false → end_rows h ≡ None
dead_end h bad = rw (unclean-first _ (or_else (defaults_fault (settled rules h).rows rules) (check_fault top (finished rules h) false)) bad) refl

-- where the walk stands in its positionals
abbrev pub position_of : Bool → ℕ
position_of true = 2
position_of false = 1

pub cond_false : {X : Type 0} (b : Bool) (x y : X) → b ≡ false → cond b x y ≡ y
cond_false b x y e = ap (λ c. cond c x y) e

pub cond_true : {X : Type 0} (b : Bool) (x y : X) → b ≡ true → cond b x y ≡ x
cond_true b x y e = ap (λ c. cond c x y) e

pub cond_same : {X : Type 0} (b : Bool) (x y : X) → x ≡ y → cond b x y ≡ y
cond_same true x y e = e
cond_same false x y e = refl

positional_fault-word : (h : Held) → positional_fault rules false (rule_for word) h ≡ settle_fault rules false h
positional_fault-word h = ap (λ b. cond b [] (settle_fault rules false h)) (and-false (is_pending (rule_for word) h.pending))

positional_held-word : (text : Text) (h : Held) → positional_held rules (rule_for word) text h ≡ record (settled rules h) { pending = Some (name_of word, text ∷ []) }
positional_held-word text h = ap (λ b. pushed (name_of word) text (cond b h (settled rules h))) (and-false (is_pending (rule_for word) h.pending))

-- a word that goes to a positional
step_fault-word : (h : Held) → step_fault top 1 h value ≡ settle_fault rules false h
step_fault-word h = ap (λ (o : Option Rule). option_map_or (λ a. positional_fault rules false a h) o (stray_fault top)) by_index-1 ∙ positional_fault-word h

step_fault-stray : (h : Held) → step_fault top 2 h value ≡ stray_fault top
step_fault-stray h = ap (λ (o : Option Rule). option_map_or (λ a. positional_fault rules false a h) o (stray_fault top)) by_index-2

-- a word that goes to a positional, with a fault in what is pending
stray : (b : Bool) (h : Held) → clean (settle_fault rules false h) ≡ false → clean (step_fault top (position_of b) h value) ≡ false
stray true h bad = ap clean (step_fault-stray h)
stray false h bad = ap clean (step_fault-word h) ∙ bad

dead_ended : (rows : List Row) (pending : Option (Text × List Text)) (waiting : Waiting) (b : Bool) → clean (settle_fault rules false (held rows pending)) ≡ false
    → IsDead (at rows pending waiting (position_of b) true)
dead_ended rows pending waiting b bad [] good = dead_end (held rows pending) bad
dead_ended rows pending waiting b bad (text ∷ texts) good = cond_false _ _ _ (stray b (held rows pending) bad)

-- ---- words that begin with a hyphen

long_unclean : (o : Option Rule) (v : Option Text) (h : Held) → clean (settle_fault rules false h) ≡ false → clean (long_fault rules false o v h) ≡ false
long_unclean None v h bad = refl
long_unclean (Some a) v h bad = go (takes_values a) v
  where
    go : (t : Bool) (v : Option Text) → clean (cond t (option_fault rules false a v h) (cond (is_some v) (kind.TooManyValues ∷ []) (react_fault rules false a [] h))) ≡ false
    go true (Some v) = unclean-first _ _ bad
    go true None = bad
    go false (Some v) = refl
    go false None = unclean-first _ _ bad

bundle_unclean : (flags : Text) (x : ℕ) (h : Held) → slice_get (chars flags) 0 ≡ Some x → h.skip ≡ 0 → clean (bundle_fault rules false flags h) ≡ false
unfolding flags_fault chars
bundle_unclean [] x h first none = absurd (cc)
bundle_unclean (c ∷ cs) x h first none =
    let next = flags_fault rules false (length cs) in
    ap (λ (n : ℕ). clean (bundle_step_fault rules false (slice_get (chars (c ∷ cs)) 0) (c ∷ cs) n (record h { skip = 0 }) next)) none
    ∙ ap (λ (o : Option ℕ). clean (bundle_step_fault rules false o (c ∷ cs) 0 (record h { skip = 0 }) next)) first
    ∙ ap (λ (o : Option Rule). clean (short_fault rules false o (drop (length (encode_utf8 x)) (c ∷ cs)) (record h { skip = 0 }) (next (drop (length (encode_utf8 x)) (c ∷ cs)) 0))) (by_short x)

-- ---- one use

repeat_clean : (b : Bool) → clean (or_else (cond (b && true) (kind.ArgumentConflict ∷ []) []) []) ≡ not b
repeat_clean true = refl
repeat_clean false = refl

use_clean : (part : Part) (text : Text) (rows : List Row) → takes_value part ≡ true → clean (use_fault false (rule_for part) (text ∷ []) rows) ≡ not (has_row (name_of part) rows)
use_clean word text rows takes = repeat_clean (has_row (name_of word) rows)
use_clean workers text rows takes = repeat_clean (has_row (name_of workers) rows)
use_clean size text rows takes = repeat_clean (has_row (name_of size) rows)
use_clean schedule text rows takes = absurd (cc)
use_clean json text rows takes = absurd (cc)

use_clean-flag : (part : Part) (rows : List Row) → takes_value part ≡ false → clean (use_fault false (rule_for part) [] rows) ≡ not (has_row (name_of part) rows)
use_clean-flag word rows takes = absurd (cc)
use_clean-flag workers rows takes = absurd (cc)
use_clean-flag size rows takes = absurd (cc)
use_clean-flag schedule rows takes = repeat_clean (has_row (name_of schedule) rows)
use_clean-flag json rows takes = repeat_clean (has_row (name_of json) rows)

use_none : (part : Part) (rows : List Row) → takes_value part ≡ true → clean (use_fault false (rule_for part) [] rows) ≡ false
use_none word rows takes = refl
use_none workers rows takes = refl
use_none size rows takes = refl
use_none schedule rows takes = absurd (cc)
use_none json rows takes = absurd (cc)

repeat_again : (b : Bool) (values : Kinds) → b ≡ true → clean (or_else (cond (b && true) (kind.ArgumentConflict ∷ []) []) values) ≡ false
repeat_again true values e = refl
repeat_again false values e = absurd (cc)

use_again : (part : Part) (values : List Text) (rows : List Row) → takes_value part ≡ true → has_row (name_of part) rows ≡ true
    → clean (use_fault false (rule_for part) values rows) ≡ false
use_again word values rows takes again = unclean-second _ _ (repeat_again (has_row (name_of word) rows) _ again)
use_again workers values rows takes again = unclean-second _ _ (repeat_again (has_row (name_of workers) rows) _ again)
use_again size values rows takes again = unclean-second _ _ (repeat_again (has_row (name_of size) rows) _ again)
use_again schedule values rows takes again = absurd (cc)
use_again json values rows takes again = absurd (cc)

settle_part : (part : Part) (values : List Text) (rows : List Row) → settle_fault rules false (held rows (Some (name_of part, values))) ≡ use_fault false (rule_for part) values rows
settle_part part values rows = ap (λ (o : Option Rule). option_map_or (λ a. use_fault false a values rows) o []) (by_id part)

settled_part : (part : Part) (values : List Text) (rows : List Row) → settled_rows rules (Some (name_of part, values)) rows ≡ used (rule_for part) values rows
settled_part part values rows = ap (λ (o : Option Rule). used_by_id o values rows) (by_id part)

-- ---- what is given, beside the walk

pub data Stand : Type 0 where
  idle_at : List Row → Option (Text × List Text) → Given → Bool → Stand
  waits_at : Given → Part → Stand

abbrev pub walk_of : Stand → Walk
walk_of (idle_at rows pending given ended) = at rows pending idle (position_of (has word given)) ended
walk_of (waits_at given part) = at (rows_of_given given) (Some (name_of part, [])) (option (name_of part)) (position_of (has word given)) false

abbrev pub state_of : Stand → State
state_of (idle_at rows pending given ended) = record { given = given; awaits = None; ended = ended }
state_of (waits_at given part) = record { given = given; awaits = Some part; ended = false }

pub record IsSettled (rows : List Row) (pending : Option (Text × List Text)) (given : Given) : Type 0 where
  pub same : settled_rows rules pending rows ≡ rows_of_given given
  pub sound : clean (settle_fault rules false (held rows pending)) ≡ true

abbrev pub IsFit : Stand → Type 0
IsFit (idle_at rows pending given ended) = IsSettled rows pending given
IsFit (waits_at given part) = (takes_value part ≡ true) × (has part given ≡ false) × (bytes_eq (name_of part) (name_of word) ≡ false)

pub record Reaches (w : Walk) (s : State) : Type 0 where
  pub stand : Stand
  pub fit : IsFit stand
  pub walk : w ≡ walk_of stand
  pub state : s ≡ state_of stand

-- the fault and the walk after a word, beside the state
abbrev pub Follows : Kinds → Walk → Option State → Type 0
Follows fault w None = (clean fault ≡ false) ⊎ IsDead w
Follows fault w (Some s) = (clean fault ≡ true) × Reaches w s

has-with : (part : Part) (text : Text) (given : Given) (sought : Part) → has sought (with_part part text given) ≡ (has sought given || bytes_eq (name_of part) (name_of sought))
has-with part text given sought = list_any-append (λ (g : Part × Text). bytes_eq (name_of g.0) (name_of sought)) given ((part, text) ∷ [])
    ∙ ap (λ b. has sought given || b) (or-false (bytes_eq (name_of part) (name_of sought)))

has_word-kept : (part : Part) (text : Text) (given : Given) → bytes_eq (name_of part) (name_of word) ≡ false → has word (with_part part text given) ≡ has word given
has_word-kept part text given other = has-with part text given word ∙ ap (λ b. has word given || b) other ∙ or-false (has word given)

-- a word that is left over
left_over_follows : (rows : List Row) (pending : Option (Text × List Text)) (given : Given) (ended : Bool) (text : Text) → IsSettled rows pending given → (b : Bool) → has word given ≡ b
    → Follows (step_fault top (position_of b) (held rows pending) value) (after_step rules text (at rows pending idle (position_of b) ended) (held rows pending) value)
    (cond b None (Some (record { given = with_part word text given; awaits = None; ended = ended })))
left_over_follows rows pending given ended text fit true e = inl (ap clean (step_fault-stray (held rows pending)))
left_over_follows rows pending given ended text fit false e = (
  ap clean (step_fault-word (held rows pending)) ∙ fit.sound,
  record {
    stand = idle_at (rows_of_given given) (Some (name_of word, text ∷ [])) (with_part word text given) ended;
    fit = record {
      same = settled_part word (text ∷ []) (rows_of_given given) ∙ used-new word text given refl e;
      sound = ap clean (settle_part word (text ∷ []) (rows_of_given given)) ∙ use_clean word text (rows_of_given given) refl ∙ ap not (has-rows word given ∙ e);
    };
    walk =
        let held_is : positional_held rules (rule_for word) text (held rows pending) ≡ held (rows_of_given given) (Some (name_of word, text ∷ [])) =
        positional_held-word text (held rows pending) ∙ ap (λ rs. held rs (Some (name_of word, text ∷ []))) fit.same in
        let position_is : 2 ≡ position_of (has word (with_part word text given)) = sym (ap position_of (has-with word text given word ∙ or-true (has word given))) in
        let placed : ◌≡◌ {A = Walk} (to_positional rules (Some (rule_for word)) text (at rows pending idle 1 ended) (held rows pending)) (walk_of (idle_at (rows_of_given given) (Some (name_of word, text ∷ [])) (with_part word text given) ended)) =
        λ i. record { held = held_is i; waiting = idle; position = position_is i; is_trailing = or-false ended i; stopped = None } in
        ap (λ (o : Option Rule). to_positional rules o text (at rows pending idle 1 ended) (held rows pending)) by_index-1 ∙ placed;
    state = refl;
  },
)

-- ---- options

option_not_word : (a b c d : Bool) → option_map_or (λ part. bytes_eq (name_of part) (name_of word)) (cond a (Some workers) (cond b (Some size) (cond c (Some schedule) (cond d (Some json) None)))) false ≡ false
option_not_word true b c d = refl
option_not_word false true c d = refl
option_not_word false false true d = refl
option_not_word false false false true = refl
option_not_word false false false false = refl

option_of-not_word : (name : Text) → option_map_or (λ part. bytes_eq (name_of part) (name_of word)) (option_of name) false ≡ false
option_of-not_word name = option_not_word (bytes_eq (codes "workers") name) (bytes_eq (codes "size") name) (bytes_eq (codes "schedule") name) (bytes_eq (codes "json") name)

-- what a part with a value comes to, where its row may be there already
module _ (rows : List Row) (pending : Option (Text × List Text)) (given : Given) (fit : IsSettled rows pending given) (part : Part) (other : bytes_eq (name_of part) (name_of word) ≡ false) where
  reach : (text : Text) (used_rows : List Row) → used_rows ≡ rows_of_given (with_part part text given)
      → Reaches (at used_rows None idle (position_of (has word given)) false) (given_so_far (with_part part text given))
  reach text used_rows same = record {
    stand = idle_at used_rows None (with_part part text given) false;
    fit = record { same = same; sound = refl };
    walk = ap (λ b. at used_rows None idle (position_of b) false) (sym (has_word-kept part text given other));
    state = refl;
  }

  -- `--name=value`
  value_follows : (text : Text) → takes_value part ≡ true → (b : Bool) → has part given ≡ b
      → Follows (react_fault rules false (rule_for part) (text ∷ []) (held rows pending))
      (at (used (rule_for part) (text ∷ []) (settled_rows rules pending rows)) None idle (position_of (has word given)) false)
      (cond b None (Some (given_so_far (with_part part text given))))
  value_follows text takes true e = inl (unclean-second (settle_fault rules false (held rows pending)) _
      (use_clean part text (settled_rows rules pending rows) takes ∙ ap (λ rs. not (has_row (name_of part) rs)) fit.same ∙ ap not (has-rows part given ∙ e)))
  value_follows text takes false e = (
    ap clean (clean-first (settle_fault rules false (held rows pending)) _ fit.sound)
        ∙ use_clean part text (settled_rows rules pending rows) takes ∙ ap (λ rs. not (has_row (name_of part) rs)) fit.same ∙ ap not (has-rows part given ∙ e),
    reach text _ (ap (used (rule_for part) (text ∷ [])) fit.same ∙ used-new part text given takes e),
  )

  -- a flag
  flag_follows : takes_value part ≡ false → (b : Bool) → has part given ≡ b
      → Follows (react_fault rules false (rule_for part) [] (held rows pending))
      (at (used (rule_for part) [] (settled_rows rules pending rows)) None idle (position_of (has word given)) false)
      (cond b None (Some (given_so_far (with_part part [] given))))
  flag_follows takes true e = inl (unclean-second (settle_fault rules false (held rows pending)) _
      (use_clean-flag part (settled_rows rules pending rows) takes ∙ ap (λ rs. not (has_row (name_of part) rs)) fit.same ∙ ap not (has-rows part given ∙ e)))
  flag_follows takes false e = (
    ap clean (clean-first (settle_fault rules false (held rows pending)) _ fit.sound)
        ∙ use_clean-flag part (settled_rows rules pending rows) takes ∙ ap (λ rs. not (has_row (name_of part) rs)) fit.same ∙ ap not (has-rows part given ∙ e),
    reach [] _ (ap (used (rule_for part) []) fit.same ∙ flag-new part given takes e),
  )

or_else-nil : (a : Kinds) → or_else a [] ≡ a
or_else-nil [] = refl
or_else-nil (k ∷ ks) = refl

-- ---- an option that was given before waits for its value

abbrev waiting_for : Part → Bool → Waiting
waiting_for part true = option (name_of part)
waiting_for part false = idle

waiting_cond : (part : Part) (c : Bool) → cond c (option (name_of part)) idle ≡ waiting_for part c
waiting_cond part true = refl
waiting_cond part false = refl

abbrev Dies : Kinds → Walk → List Text → Type 0
Dies fault w texts = (clean fault ≡ false) ⊎ (run w texts ≡ None)

dies : (fault : Kinds) (w : Walk) (texts : List Text) → Dies fault w texts → cond (clean fault) (run w texts) None ≡ None
dies fault w texts (inl bad) = cond_false _ _ _ bad
dies fault w texts (inr none) = cond_same _ _ _ none

module _ (rows : List Row) (part : Part) (takes : takes_value part ≡ true) (again : has_row (name_of part) rows ≡ true) (p : Bool) where
  abbrev again_at : List Text → Bool → Walk
  again_at values b = at rows (Some (name_of part, values)) (waiting_for part b) (position_of p) false

  abbrev again_held : List Text → Held
  again_held values = held rows (Some (name_of part, values))

  again_bad : (values : List Text) → clean (settle_fault rules false (again_held values)) ≡ false
  again_bad values = ap clean (settle_part part values rows) ∙ use_again part values rows takes again

  again_plain : (text : Text) (texts : List Text) (values : List Text) → ((values : List Text) (b : Bool) → run (again_at values b) texts ≡ None) → (b : Bool)
      → Dies (step_fault top (position_of p) (plain_word rules (waiting_for part b) text (again_held values)).0 (plain_word rules (waiting_for part b) text (again_held values)).1)
      (after_step rules text (again_at values b) (plain_word rules (waiting_for part b) text (again_held values)).0 (plain_word rules (waiting_for part b) text (again_held values)).1) texts
  again_plain text texts values more true =
      let pending = Some (name_of part, values ++ text ∷ []) in
      let c : Bool = nat_lt (pending_count (rule_for part) pending) (most_values (rule_for part)) in
      let found : (option_word (arg_by_id rules (name_of part)) (name_of part) text (again_held values)) ≡ (again_held (values ++ text ∷ []), cond c (option (name_of part)) idle) =
      ap (λ (o : Option Rule). option_word o (name_of part) text (again_held values)) (by_id part) in
      inr (ap (λ (x : Held × Waiting). run (record { held = x.0; waiting = x.1; position = position_of p; is_trailing = false; stopped = None }) texts) found
      ∙ ap (λ (w : Waiting). run (at rows pending w (position_of p) false) texts) (waiting_cond part c) ∙ more (values ++ text ∷ []) c)
  again_plain text texts values more false = inl (stray p (again_held values) (again_bad values))

  again_short : (text : Text) (texts : List Text) (values : List Text) → ((values : List Text) (b : Bool) → run (again_at values b) texts ≡ None) → (b : Bool) → IsBundle text
      → (q : Option Text) → short_of text ≡ q
      → Dies (or_else (option_map_or (λ flags. bundle_fault rules false flags (again_held values)) q []) (step_fault top (position_of p) (short_or_plain rules (waiting_for part b) text q (again_held values)).0 (short_or_plain rules (waiting_for part b) text q (again_held values)).1))
      (after_step rules text (again_at values b) (short_or_plain rules (waiting_for part b) text q (again_held values)).0 (short_or_plain rules (waiting_for part b) text q (again_held values)).1) texts
  again_short text texts values more b good (Some flags) e = inl (unclean-first _ _ (bundle_unclean flags (good flags e).0 (again_held values) (good flags e).1 refl))
  again_short text texts values more b good None e = again_plain text texts values more b

  again_flag : (text : Text) (texts : List Text) (values : List Text) → ((values : List Text) (b : Bool) → run (again_at values b) texts ≡ None) → (b : Bool) → IsBundle text
      → (o : Option (Text × Option Text))
      → Dies (or_else (flag_word_fault rules false o text (again_held values)) (step_fault top (position_of p) (long_or_other rules (waiting_for part b) text o (again_held values)).0 (long_or_other rules (waiting_for part b) text o (again_held values)).1))
      (after_step rules text (again_at values b) (long_or_other rules (waiting_for part b) text o (again_held values)).0 (long_or_other rules (waiting_for part b) text o (again_held values)).1) texts
  again_flag text texts values more b good (Some n) = inl (unclean-first _ _ (long_unclean (arg_by_long rules n.0) n.1 (again_held values) (again_bad values)))
  again_flag text texts values more b good None = again_short text texts values more b good (short_of text) refl

  again_word : (text : Text) (texts : List Text) (values : List Text) → ((values : List Text) (b : Bool) → run (again_at values b) texts ≡ None) → (b : Bool) → IsBundle text → AreBundles texts
      → (d : Bool)
      → Dies (or_else (cond d [] (flag_word_fault rules false (long_of text) text (again_held values)))
      (step_fault top (position_of p) (cond d (again_held values, trailing (position_of p)) (long_or_other rules (waiting_for part b) text (long_of text) (again_held values))).0
      (cond d (again_held values, trailing (position_of p)) (long_or_other rules (waiting_for part b) text (long_of text) (again_held values))).1))
      (after_step rules text (again_at values b) (cond d (again_held values, trailing (position_of p)) (long_or_other rules (waiting_for part b) text (long_of text) (again_held values))).0
      (cond d (again_held values, trailing (position_of p)) (long_or_other rules (waiting_for part b) text (long_of text) (again_held values))).1) texts
  again_word text texts values more b good goods true = inr (dead_ended rows (Some (name_of part, values)) (waiting_for part b) p (again_bad values) texts goods)
  again_word text texts values more b good goods false = again_flag text texts values more b good (long_of text)

  dead_again : (texts : List Text) (values : List Text) (b : Bool) → AreBundles texts → run (again_at values b) texts ≡ None
  unfolding walked
  dead_again [] values b good = dead_end (again_held values) (again_bad values)
  dead_again (text ∷ texts) values true good = dies _ _ texts (again_word text texts values (λ vs c. dead_again texts vs c good.1) true good.0 good.1 (bytes_eq text (45 ∷ 45 ∷ [])))
  dead_again (text ∷ texts) values false good = dies _ _ texts (again_word text texts values (λ vs c. dead_again texts vs c good.1) false good.0 good.1 (bytes_eq text (45 ∷ 45 ∷ [])))

-- ---- one word, after which nothing waits

module _ (rows : List Row) (pending : Option (Text × List Text)) (given : Given) (fit : IsSettled rows pending given) where
  abbrev here : Held
  here = held rows pending

  abbrev spot : ℕ
  spot = position_of (has word given)

  abbrev now : Walk
  now = at rows pending idle spot false

  waits_follows : (part : Part) → takes_value part ≡ true → bytes_eq (name_of part) (name_of word) ≡ false → (b : Bool) → has part given ≡ b
      → Follows (settle_fault rules false here) (at (settled_rows rules pending rows) (Some (name_of part, [])) (option (name_of part)) spot false)
      (cond b None (Some (record { given = given; awaits = Some part; ended = false })))
  waits_follows part takes other true e =
      let again : has_row (name_of part) (settled_rows rules pending rows) ≡ true = ap (has_row (name_of part)) fit.same ∙ has-rows part given ∙ e in
      inr (λ texts good. dead_again (settled_rows rules pending rows) part takes again (has word given) texts [] true good)
  waits_follows part takes other false e = (
    fit.sound,
    record {
      stand = waits_at given part;
      fit = (takes, e, other);
      walk = ap (λ (rs : List Row). at rs (Some (name_of part, [])) (option (name_of part)) spot false) fit.same;
      state = refl;
    },
  )

  more_fault : (a : Kinds) (w : Walk) (s : Option State) → Follows a w s → Follows (or_else a []) w s
  more_fault a w s = subst (λ (f : Kinds). Follows f w s) (sym (or_else-nil a))

  refused_both : (b : Bool) (f : Kinds) (w : Walk) → clean f ≡ false → Follows f w (cond b None None)
  refused_both true f w bad = inl bad
  refused_both false f w bad = inl bad

  named_follows : (text : Text) (o : Option Part) (v : Option Text) → option_map_or (λ part. bytes_eq (name_of part) (name_of word)) o false ≡ false
      → Follows (or_else (long_fault rules false (option_map rule_for o) v here) (step_fault top spot
      (after_flag rules idle text (long_met rules (option_map rule_for o) v here).0 (long_met rules (option_map rule_for o) v here).1).0
      (after_flag rules idle text (long_met rules (option_map rule_for o) v here).0 (long_met rules (option_map rule_for o) v here).1).1))
      (after_step rules text now
      (after_flag rules idle text (long_met rules (option_map rule_for o) v here).0 (long_met rules (option_map rule_for o) v here).1).0
      (after_flag rules idle text (long_met rules (option_map rule_for o) v here).0 (long_met rules (option_map rule_for o) v here).1).1)
      (new_option_turn (given_so_far given) o v)
  named_follows text None v other = inl refl
  named_follows text (Some word) v other = absurd (cc)
  named_follows text (Some workers) (Some t) other = more_fault _ _ _ (value_follows rows pending given fit workers refl t refl (has workers given) refl)
  named_follows text (Some workers) None other = more_fault _ _ _ (waits_follows workers refl refl (has workers given) refl)
  named_follows text (Some size) (Some t) other = more_fault _ _ _ (value_follows rows pending given fit size refl t refl (has size given) refl)
  named_follows text (Some size) None other = more_fault _ _ _ (waits_follows size refl refl (has size given) refl)
  named_follows text (Some schedule) (Some t) other = refused_both (has schedule given) (kind.TooManyValues ∷ []) (to_positional rules (arg_by_index rules spot) text now here) refl
  named_follows text (Some schedule) None other = more_fault _ _ _ (flag_follows rows pending given fit schedule refl refl (has schedule given) refl)
  named_follows text (Some json) (Some t) other = refused_both (has json given) (kind.TooManyValues ∷ []) (to_positional rules (arg_by_index rules spot) text now here) refl
  named_follows text (Some json) None other = more_fault _ _ _ (flag_follows rows pending given fit json refl refl (has json given) refl)

  short_follows : (text : Text) → IsBundle text → (q : Option Text) → short_of text ≡ q
      → Follows (or_else (option_map_or (λ flags. bundle_fault rules false flags here) q []) (step_fault top spot (short_or_plain rules idle text q here).0 (short_or_plain rules idle text q here).1))
      (after_step rules text now (short_or_plain rules idle text q here).0 (short_or_plain rules idle text q here).1) (hyphen_or_left_over (given_so_far given) text q)
  short_follows text good (Some flags) e = inl (unclean-first _ _ (bundle_unclean flags (good flags e).0 here (good flags e).1 refl))
  short_follows text good None e = left_over_follows rows pending given false text fit (has word given) refl

  flag_word_follows : (text : Text) → IsBundle text → (o : Option (Text × Option Text))
      → Follows (or_else (flag_word_fault rules false o text here) (step_fault top spot (long_or_other rules idle text o here).0 (long_or_other rules idle text o here).1))
      (after_step rules text now (long_or_other rules idle text o here).0 (long_or_other rules idle text o here).1) (other_turn (given_so_far given) text o)
  flag_word_follows text good (Some n) =
      let P : Option Rule → Type 0 = λ r. Follows (or_else (long_fault rules false r n.1 here) (step_fault top spot
      (after_flag rules idle text (long_met rules r n.1 here).0 (long_met rules r n.1 here).1).0
      (after_flag rules idle text (long_met rules r n.1 here).0 (long_met rules r n.1 here).1).1))
      (after_step rules text now
      (after_flag rules idle text (long_met rules r n.1 here).0 (long_met rules r n.1 here).1).0
      (after_flag rules idle text (long_met rules r n.1 here).0 (long_met rules r n.1 here).1).1)
      (new_option_turn (given_so_far given) (option_of n.0) n.1) in
      subst P (sym (by_long n.0)) (named_follows text (option_of n.0) n.1 (option_of-not_word n.0))
  flag_word_follows text good None = short_follows text good (short_of text) refl

  idle_follows : (text : Text) → IsBundle text → (d : Bool)
      → Follows (or_else (cond d [] (flag_word_fault rules false (long_of text) text here))
      (step_fault top spot (cond d (here, trailing spot) (long_or_other rules idle text (long_of text) here)).0 (cond d (here, trailing spot) (long_or_other rules idle text (long_of text) here)).1))
      (after_step rules text now (cond d (here, trailing spot) (long_or_other rules idle text (long_of text) here)).0 (cond d (here, trailing spot) (long_or_other rules idle text (long_of text) here)).1)
      (cond d (Some (record { given = given; awaits = None; ended = true })) (other_turn (given_so_far given) text (long_of text)))
  idle_follows text good true = (refl, record { stand = idle_at rows pending given true; fit = fit; walk = refl; state = refl })
  idle_follows text good false = flag_word_follows text good (long_of text)

-- ---- one word, where an option waits for its value

pushed_value : (part : Part) (text : Text) (rows : List Row) → takes_value part ≡ true
    → option_word (Some (rule_for part)) (name_of part) text (held rows (Some (name_of part, []))) ≡ (held rows (Some (name_of part, text ∷ [])), idle)
pushed_value word text rows takes = refl
pushed_value workers text rows takes = refl
pushed_value size text rows takes = refl
pushed_value schedule text rows takes = absurd (cc)
pushed_value json text rows takes = absurd (cc)

module _ (given : Given) (part : Part) (takes : takes_value part ≡ true) (new : has part given ≡ false) (other : bytes_eq (name_of part) (name_of word) ≡ false) where
  abbrev waiting_held : Held
  waiting_held = held (rows_of_given given) (Some (name_of part, []))

  abbrev index : ℕ
  index = position_of (has word given)

  abbrev waiting_now : Walk
  waiting_now = at (rows_of_given given) (Some (name_of part, [])) (option (name_of part)) index false

  pub waiting_bad : clean (settle_fault rules false waiting_held) ≡ false
  waiting_bad = ap clean (settle_part part [] (rows_of_given given)) ∙ use_none part (rows_of_given given) takes

  abbrev after_value : Text → State
  after_value text = given_so_far (with_part part text given)

  value_reaches : (text : Text) → Reaches (after_step rules text waiting_now (plain_word rules (option (name_of part)) text waiting_held).0 (plain_word rules (option (name_of part)) text waiting_held).1) (after_value text)
  value_reaches text =
      let found : (option_word (arg_by_id rules (name_of part)) (name_of part) text waiting_held) ≡ (held (rows_of_given given) (Some (name_of part, text ∷ [])), idle) =
      ap (λ (o : Option Rule). option_word o (name_of part) text waiting_held) (by_id part) ∙ pushed_value part text (rows_of_given given) takes in
      record {
        stand = idle_at (rows_of_given given) (Some (name_of part, text ∷ [])) (with_part part text given) false;
        fit = record {
          same = settled_part part (text ∷ []) (rows_of_given given) ∙ used-new part text given takes new;
          sound = ap clean (settle_part part (text ∷ []) (rows_of_given given)) ∙ use_clean part text (rows_of_given given) takes ∙ ap not (has-rows part given ∙ new);
        };
        walk = ap (λ (x : Held × Waiting). at_held x.0 x.1 index) found
            ∙ ap (λ b. at (rows_of_given given) (Some (name_of part, text ∷ [])) idle (position_of b) false) (sym (has_word-kept part text given other));
        state = refl;
      }

  value_short_follows : (text : Text) → IsBundle text → (q : Option Text) → short_of text ≡ q
      → Follows (or_else (option_map_or (λ flags. bundle_fault rules false flags waiting_held) q [])
      (step_fault top index (short_or_plain rules (option (name_of part)) text q waiting_held).0 (short_or_plain rules (option (name_of part)) text q waiting_held).1))
      (after_step rules text waiting_now (short_or_plain rules (option (name_of part)) text q waiting_held).0 (short_or_plain rules (option (name_of part)) text q waiting_held).1)
      (cond (is_some q) None (Some (after_value text)))
  value_short_follows text good (Some flags) e = inl (unclean-first _ _ (bundle_unclean flags (good flags e).0 waiting_held (good flags e).1 refl))
  value_short_follows text good None e = (refl, value_reaches text)

  value_flag_follows : (text : Text) → IsBundle text → (o : Option (Text × Option Text))
      → Follows (or_else (flag_word_fault rules false o text waiting_held)
      (step_fault top index (long_or_other rules (option (name_of part)) text o waiting_held).0 (long_or_other rules (option (name_of part)) text o waiting_held).1))
      (after_step rules text waiting_now (long_or_other rules (option (name_of part)) text o waiting_held).0 (long_or_other rules (option (name_of part)) text o waiting_held).1)
      (cond (is_some o || is_some (short_of text)) None (Some (after_value text)))
  value_flag_follows text good (Some n) = inl (unclean-first _ _ (long_unclean (arg_by_long rules n.0) n.1 waiting_held waiting_bad))
  value_flag_follows text good None = value_short_follows text good (short_of text) refl

  value_word_follows : (text : Text) → IsBundle text → (d : Bool)
      → Follows (or_else (cond d [] (flag_word_fault rules false (long_of text) text waiting_held))
      (step_fault top index (cond d (waiting_held, trailing index) (long_or_other rules (option (name_of part)) text (long_of text) waiting_held)).0 (cond d (waiting_held, trailing index) (long_or_other rules (option (name_of part)) text (long_of text) waiting_held)).1))
      (after_step rules text waiting_now (cond d (waiting_held, trailing index) (long_or_other rules (option (name_of part)) text (long_of text) waiting_held)).0 (cond d (waiting_held, trailing index) (long_or_other rules (option (name_of part)) text (long_of text) waiting_held)).1)
      (cond (d || (is_some (long_of text) || is_some (short_of text))) None (Some (after_value text)))
  value_word_follows text good true = inr (dead_ended (rows_of_given given) (Some (name_of part, [])) (option (name_of part)) (has word given) waiting_bad)
  value_word_follows text good false = value_flag_follows text good (long_of text)

-- ---- one word

pub follows : (stand : Stand) → IsFit stand → (text : Text) → IsBundle text → Follows (turn_fault top [] (walk_of stand) text) (walked rules [] (walk_of stand) text) (parsed_turn (state_of stand) text)
unfolding walked
follows (idle_at rows pending given true) fit text good = left_over_follows rows pending given true text fit (has word given) refl
follows (idle_at rows pending given false) fit text good = idle_follows rows pending given fit text good (bytes_eq text (45 ∷ 45 ∷ []))
follows (waits_at given part) fit text good = value_word_follows given part fit.0 fit.1 fit.2 text good (bytes_eq text (45 ∷ 45 ∷ []))
