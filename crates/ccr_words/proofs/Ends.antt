-- What clap's parse gives at the end of the words.
use Rattle.std.proofs.Common.{◌≡◌, ◌∙◌, inl, inr, Bool, true, false, cond, not, ◌||◌, codes, refl, sym, ap, ap₂, subst, List, [], ◌∷◌, ◌++◌, map, Option, Some, None, option_map}
use Rattle.std.specs.Prelude.{IsSomeAnd, slice_get, option_and_then}
use Rattle.std.specs.Option.{option_map_or}
use Rattle.std.specs.List.{find, list_any, fold}
use Rattle.std.specs.Str.{bytes_eq}
use Rattle.clap.specs.Walk.{Row, Text, Walk, Held, finished, first_of, has_row, nothing_held, rows_after, one_of, row_text, settled, walk_from, walked, with_default, with_values, reading_by}
use Rattle.clap.specs.Kinds.{IsAmong, Kinds, check_kinds, or_else}
use Rattle.clap.specs.Facts.{explicit_source}
use Rattle.clap.specs.declared.error.kind.ErrorKind.{ErrorKind}
use Rattle.clap.proofs.FaultLemmas.{leaf_fault}
use Rattle.std.proofs.lemmas.List.Folds.{list_any-append}
use Rattle.std.proofs.Math.Bool.{or-false}
use Rattle.clap.specs.Takes.{is_given}
use Rattle.clap.specs.Simple.{App, matches_of, names_of}
use Rattle.clap.specs.Faults.{built_fault, check_fault, default_fault, defaults_fault, fault_of, settle_fault, turn_fault, walk_fault}
use Rattle.clap.specs.declared.parser.matches.ValueSource.TheVariants.{DefaultValue}
use Rattle.ccr_words.specs.Parts.{Given, Part, State, at_end, has, json, name_of, schedule, size, takes_value, text_of, word, workers}
use Rattle.ccr_words.specs.Parsing.{HasGiven, flag_text as flag_text_of, parsed_after, parsed_by, parsed_turn}
use Rattle.ccr_words.specs.Clap.{app}
use Rattle.clap.specs.Matches.{found_of}
use Rattle.clap.specs.Walk.{rows_of}
use Rattle.clap.specs.declared.parser.matches.ArgMatches.{ArgMatches}
use Rattle.clap.proofs.WalkLemmas.{first_value-rows, one_text-rows}
use Rattle.ccr_words.proofs.Rules.{built-app, rule_for, rules, top}
use Rattle.ccr_words.proofs.Rows.{has-rows, put_row, row, row_of_given, rows_of_given, shown}
use Rattle.ccr_words.proofs.Turns.{AreBundles, Follows, IsFit, IsSettled, Stand, cond_false, cond_same, cond_true, dead_end, held, waiting_bad, clean, clean-first, end_fault, end_rows, follows, idle_at, run, state_of, waits_at, walk_of}

abbrev parts : List Part
parts = word ∷ workers ∷ size ∷ schedule ∷ json ∷ []

rules-parts : rules ≡ map rule_for parts
unfolding rules
rules-parts = refl

-- ---- defaults

same_either : {X : Type 0} (b : Bool) (x : X) → cond b x x ≡ x
same_either true x = refl
same_either false x = refl

default_none : (part : Part) (rows : List Row) → default_fault rows (rule_for part) ≡ []
default_none word rows = same_either (has_row (name_of word) rows || true) []
default_none workers rows = same_either (has_row (name_of workers) rows || true) []
default_none size rows = same_either (has_row (name_of size) rows || true) []
default_none schedule rows = same_either (has_row (name_of schedule) rows || false) []
default_none json rows = same_either (has_row (name_of json) rows || false) []

defaults_none : (ps : List Part) (rows : List Row) → defaults_fault rows (map rule_for ps) ≡ []
unfolding defaults_fault
defaults_none [] rows = refl
defaults_none (part ∷ ps) rows = ap (λ (k : Kinds). or_else k (defaults_fault (with_default rows (rule_for part)) (map rule_for ps))) (default_none part rows)
    ∙ defaults_none ps (with_default rows (rule_for part))

-- a flag that was not given is false
abbrev flag_rows : Part → List Row → List Row
flag_rows part rows = cond (has_row (name_of part) rows) rows (rows ++ row DefaultValue part (codes "false") ∷ [])

default_part : (part : Part) (rows : List Row) → takes_value part ≡ true → with_default rows (rule_for part) ≡ rows
default_part word rows takes = same_either (has_row (name_of word) rows) rows
default_part workers rows takes = same_either (has_row (name_of workers) rows) rows
default_part size rows takes = same_either (has_row (name_of size) rows) rows
default_part schedule rows takes = absurd (cc)
default_part json rows takes = absurd (cc)

default_flag : (part : Part) (rows : List Row) → takes_value part ≡ false → with_default rows (rule_for part) ≡ flag_rows part rows
default_flag word rows takes = absurd (cc)
default_flag workers rows takes = absurd (cc)
default_flag size rows takes = absurd (cc)
default_flag schedule rows takes = go (has_row (name_of schedule) rows) refl
  where
    go : (b : Bool) → has_row (name_of schedule) rows ≡ b → cond b rows (with_values (name_of schedule) (reading_by (rule_for schedule)) DefaultValue (codes "false" ∷ []) rows)
        ≡ cond b rows (rows ++ row DefaultValue schedule (codes "false") ∷ [])
    go true e = refl
    go false e = put_row schedule DefaultValue (codes "false") rows e
default_flag json rows takes = go (has_row (name_of json) rows) refl
  where
    go : (b : Bool) → has_row (name_of json) rows ≡ b → cond b rows (with_values (name_of json) (reading_by (rule_for json)) DefaultValue (codes "false" ∷ []) rows)
        ≡ cond b rows (rows ++ row DefaultValue json (codes "false") ∷ [])
    go true e = refl
    go false e = put_row json DefaultValue (codes "false") rows e

-- the rows at the end
abbrev pub final_rows : Given → List Row
final_rows given = flag_rows json (flag_rows schedule (rows_of_given given))

finished_rows : (rows : List Row) → fold with_default rows rules ≡ flag_rows json (flag_rows schedule rows)
unfolding rules
finished_rows rows =
    let last : List Row → List Row = λ rs. with_default (with_default rs (rule_for schedule)) (rule_for json) in
    ap (λ (rs : List Row). last (with_default (with_default rs (rule_for workers)) (rule_for size))) (default_part word rows refl)
    ∙ ap (λ (rs : List Row). last (with_default rs (rule_for size))) (default_part workers rows refl)
    ∙ ap last (default_part size rows refl)
    ∙ ap (λ (rs : List Row). with_default rs (rule_for json)) (default_flag schedule rows refl)
    ∙ default_flag json (flag_rows schedule rows) refl

-- ---- what the rows have

abbrev row_at : Text → List Row → Option Row
row_at id rows = find (λ r. bytes_eq r.id id) rows

find_past : (id : Text) (rows : List Row) (r : Row) → bytes_eq r.id id ≡ false → row_at id (rows ++ r ∷ []) ≡ row_at id rows
find_past id [] r other = rw other refl
find_past id (x ∷ rows) r other = ap (λ o. cond (bytes_eq x.id id) (Some x) o) (find_past id rows r other)

find_new : (id : Text) (rows : List Row) (r : Row) → bytes_eq r.id id ≡ true → has_row id rows ≡ false → row_at id (rows ++ r ∷ []) ≡ Some r
find_new id [] r same none = rw same refl
find_new id (x ∷ rows) r same none = go (bytes_eq x.id id) refl (find_new id rows r same)
  where
    go : (b : Bool) → bytes_eq x.id id ≡ b → (has_row id rows ≡ false → row_at id (rows ++ r ∷ []) ≡ Some r) → row_at id ((x ∷ rows) ++ r ∷ []) ≡ Some r
    go true e more = let bad : true ≡ false = rw e at none in absurd (cc)
    go false e more = let rest : has_row id rows ≡ false = rw e at none in rw e (more rest)

find_flag : (part : Part) (id : Text) (rows : List Row) → bytes_eq (name_of part) id ≡ false → row_at id (flag_rows part rows) ≡ row_at id rows
find_flag part id rows other = go (has_row (name_of part) rows)
  where
    go : (b : Bool) → row_at id (cond b rows (rows ++ row DefaultValue part (codes "false") ∷ [])) ≡ row_at id rows
    go true = refl
    go false = find_past id rows (row DefaultValue part (codes "false")) other

find_given : (part : Part) (given : Given) → row_at (name_of part) (rows_of_given given) ≡ option_map row_of_given (find (λ (g : Part × Text). bytes_eq (name_of g.0) (name_of part)) given)
find_given part [] = refl
find_given part (g ∷ given) = go (bytes_eq (name_of g.0) (name_of part)) (find_given part given)
  where
    go : (b : Bool) → row_at (name_of part) (rows_of_given given) ≡ option_map row_of_given (find (λ (g : Part × Text). bytes_eq (name_of g.0) (name_of part)) given)
        → cond b (Some (row_of_given g)) (row_at (name_of part) (rows_of_given given)) ≡ option_map row_of_given (cond b (Some g) (find (λ (g : Part × Text). bytes_eq (name_of g.0) (name_of part)) given))
    go true e = refl
    go false e = e

-- a part that is no flag
final_part : (part : Part) (given : Given) → takes_value part ≡ true → row_at (name_of part) (final_rows given) ≡ option_map row_of_given (find (λ (g : Part × Text). bytes_eq (name_of g.0) (name_of part)) given)
final_part word given takes = find_flag json (name_of word) (flag_rows schedule (rows_of_given given)) refl ∙ find_flag schedule (name_of word) (rows_of_given given) refl ∙ find_given word given
final_part workers given takes = find_flag json (name_of workers) (flag_rows schedule (rows_of_given given)) refl ∙ find_flag schedule (name_of workers) (rows_of_given given) refl ∙ find_given workers given
final_part size given takes = find_flag json (name_of size) (flag_rows schedule (rows_of_given given)) refl ∙ find_flag schedule (name_of size) (rows_of_given given) refl ∙ find_given size given
final_part schedule given takes = absurd (cc)
final_part json given takes = absurd (cc)

same_takes : (q part : Part) → bytes_eq (name_of q) (name_of part) ≡ true → takes_value q ≡ takes_value part
same_takes word word e = refl
same_takes word workers e = refl
same_takes word size e = refl
same_takes word schedule e = absurd (cc)
same_takes word json e = absurd (cc)
same_takes workers word e = refl
same_takes workers workers e = refl
same_takes workers size e = refl
same_takes workers schedule e = absurd (cc)
same_takes workers json e = absurd (cc)
same_takes size word e = refl
same_takes size workers e = refl
same_takes size size e = refl
same_takes size schedule e = absurd (cc)
same_takes size json e = absurd (cc)
same_takes schedule word e = absurd (cc)
same_takes schedule workers e = absurd (cc)
same_takes schedule size e = absurd (cc)
same_takes schedule schedule e = refl
same_takes schedule json e = refl
same_takes json word e = absurd (cc)
same_takes json workers e = absurd (cc)
same_takes json size e = absurd (cc)
same_takes json schedule e = refl
same_takes json json e = refl

-- what `get_str` gives
pub final_text : (part : Part) (given : Given) → takes_value part ≡ true → first_of (name_of part) (final_rows given) ≡ text_of part given
final_text part given takes = ap (option_and_then (λ (r : Row). slice_get r.values 0)) (final_part part given takes) ∙ each given
  where
    shown_text : (g : Part × Text) → bytes_eq (name_of g.0) (name_of part) ≡ true → shown g.0 g.1 ≡ g.1
    shown_text g e = ap (λ b. cond b g.1 (codes "true")) (same_takes g.0 part e ∙ takes)

    head : (g : Part × Text) (rest : Option (Part × Text)) (b : Bool) → bytes_eq (name_of g.0) (name_of part) ≡ b
        → option_and_then (λ (r : Row). slice_get r.values 0) (option_map row_of_given rest) ≡ option_map (λ (x : Part × Text). x.1) rest
        → option_and_then (λ (r : Row). slice_get r.values 0) (option_map row_of_given (cond b (Some g) rest)) ≡ option_map (λ (x : Part × Text). x.1) (cond b (Some g) rest)
    head g rest true e more = ap Some (shown_text g e)
    head g rest false e more = more

    each : (gs : Given) → option_and_then (λ (r : Row). slice_get r.values 0) (option_map row_of_given (find (λ (g : Part × Text). bytes_eq (name_of g.0) (name_of part)) gs)) ≡ text_of part gs
    each [] = refl
    each (g ∷ gs) = head g (find (λ (x : Part × Text). bytes_eq (name_of x.0) (name_of part)) gs) (bytes_eq (name_of g.0) (name_of part)) refl (each gs)

-- what `get_flag` reads
flag_text : (q : Part) (text : Text) → takes_value q ≡ false → row_text (row_of_given (q, text)) ≡ Some (codes "true")
flag_text word text takes = absurd (cc)
flag_text workers text takes = absurd (cc)
flag_text size text takes = absurd (cc)
flag_text schedule text takes = refl
flag_text json text takes = refl

flag_given : (part : Part) (given : Given) → takes_value part ≡ false → has part given ≡ true → option_and_then row_text (row_at (name_of part) (rows_of_given given)) ≡ Some (codes "true")
flag_given part [] takes is = absurd (cc)
flag_given part (g ∷ given) takes is = go (bytes_eq (name_of g.0) (name_of part)) refl (flag_given part given takes)
  where
    go : (b : Bool) → bytes_eq (name_of g.0) (name_of part) ≡ b → (has part given ≡ true → option_and_then row_text (row_at (name_of part) (rows_of_given given)) ≡ Some (codes "true"))
        → option_and_then row_text (cond b (Some (row_of_given g)) (row_at (name_of part) (rows_of_given given))) ≡ Some (codes "true")
    go true e more = flag_text g.0 g.1 (same_takes g.0 part e ∙ takes)
    go false e more = let rest : has part given ≡ true = rw e at is in more rest

has_row-flag : (part : Part) (id : Text) (rows : List Row) → bytes_eq (name_of part) id ≡ false → has_row id (flag_rows part rows) ≡ has_row id rows
has_row-flag part id rows other = go (has_row (name_of part) rows)
  where
    go : (b : Bool) → has_row id (cond b rows (rows ++ row DefaultValue part (codes "false") ∷ [])) ≡ has_row id rows
    go true = refl
    go false = list_any-append (λ (r : Row). bytes_eq r.id id) rows (row DefaultValue part (codes "false") ∷ []) ∙ ap (λ b. has_row id rows || (b || false)) other ∙ or-false (has_row id rows)

-- the flag among its own rows
flag_here : (part : Part) (given : Given) (rows : List Row) → takes_value part ≡ false → row_at (name_of part) rows ≡ row_at (name_of part) (rows_of_given given) → has_row (name_of part) rows ≡ has part given
    → row_text (row DefaultValue part (codes "false")) ≡ Some (codes "false") → bytes_eq (name_of part) (name_of part) ≡ true
    → option_and_then row_text (row_at (name_of part) (flag_rows part rows)) ≡ Some (flag_text_of (has part given))
flag_here part given rows takes at has_is shows self = go (has part given) refl
  where
    go : (b : Bool) → has part given ≡ b → option_and_then row_text (row_at (name_of part) (flag_rows part rows)) ≡ Some (flag_text_of b)
    go true e = ap (λ b. option_and_then row_text (row_at (name_of part) (cond b rows (rows ++ row DefaultValue part (codes "false") ∷ [])))) (has_is ∙ e)
        ∙ ap (option_and_then row_text) at ∙ flag_given part given takes e
    go false e = ap (λ b. option_and_then row_text (row_at (name_of part) (cond b rows (rows ++ row DefaultValue part (codes "false") ∷ [])))) (has_is ∙ e)
        ∙ ap (option_and_then row_text) (find_new (name_of part) rows (row DefaultValue part (codes "false")) self (has_is ∙ e)) ∙ shows

pub final_schedule : (given : Given) → one_of (codes "schedule") (final_rows given) ≡ Some (flag_text_of (has schedule given))
final_schedule given = ap (option_and_then row_text) (find_flag json (name_of schedule) (flag_rows schedule (rows_of_given given)) refl)
    ∙ flag_here schedule given (rows_of_given given) refl refl (has-rows schedule given) refl refl

pub final_json : (given : Given) → one_of (codes "json") (final_rows given) ≡ Some (flag_text_of (has json given))
final_json given = flag_here json given (flag_rows schedule (rows_of_given given)) refl (find_flag schedule (name_of json) (rows_of_given given) refl)
    (has_row-flag schedule (name_of json) (rows_of_given given) refl ∙ has-rows json given) refl refl

-- ---- the end of the words

given_rows : (p : Part × Text → Bool) (given : Given) → option_map_or (λ (r : Row). explicit_source r.source) (option_map row_of_given (find p given)) false ≡ list_any p given
given_rows p [] = refl
given_rows p (g ∷ given) = go (p g) (given_rows p given)
  where
    go : (b : Bool) → option_map_or (λ (r : Row). explicit_source r.source) (option_map row_of_given (find p given)) false ≡ list_any p given
        → option_map_or (λ (r : Row). explicit_source r.source) (option_map row_of_given (cond b (Some g) (find p given))) false ≡ (b || list_any p given)
    go true e = refl
    go false e = e

word_given : (given : Given) → is_given (name_of word) (final_rows given) ≡ has word given
word_given given = ap (λ (o : Option Row). option_map_or (λ r. explicit_source r.source) o false) (final_part word given refl)
    ∙ given_rows (λ (g : Part × Text). bytes_eq (name_of g.0) (name_of word)) given

check_word : (rows : List Row) → clean (check_fault top rows false) ≡ is_given (name_of word) rows
unfolding rules
check_word rows = go (is_given (name_of word) rows)
  where
    go : (b : Bool) → clean (check_kinds false false (not b || false)) ≡ b
    go true = refl
    go false = refl

finished_is : (rows : List Row) (pending : Option (Text × List Text)) (given : Given) → IsSettled rows pending given → finished rules (held rows pending) ≡ final_rows given
finished_is rows pending given fit = ap (λ (rs : List Row). fold with_default rs rules) fit.same ∙ finished_rows (rows_of_given given)

end_clean : (rows : List Row) (pending : Option (Text × List Text)) (given : Given) → IsSettled rows pending given → clean (end_fault (held rows pending)) ≡ has word given
end_clean rows pending given fit =
    let h = held rows pending in
    let none : defaults_fault (settled rules h).rows rules ≡ [] = ap (defaults_fault (settled rules h).rows) rules-parts ∙ defaults_none parts (settled rules h).rows in
    ap clean (clean-first (settle_fault rules false h) _ fit.sound)
    ∙ ap (λ (k : Kinds). clean (or_else k (check_fault top (finished rules h) false))) none
    ∙ check_word (finished rules h) ∙ ap (is_given (name_of word)) (finished_is rows pending given fit) ∙ word_given given

ends : (stand : Stand) → IsFit stand → end_rows (walk_of stand).held ≡ option_map final_rows (at_end (state_of stand))
ends (idle_at rows pending given ended) fit =
    ap₂ (λ (b : Bool) (rs : List Row). cond b (Some rs) None) (end_clean rows pending given fit) (finished_is rows pending given fit) ∙ go (has word given)
  where
    go : (b : Bool) → cond b (Some (final_rows given)) None ≡ option_map final_rows (cond (false || not b) None (Some given))
    go true = refl
    go false = refl
ends (waits_at given part) fit = dead_end (held (rows_of_given given) (Some (name_of part, []))) (waiting_bad given part fit.0 fit.1 fit.2)

-- ---- all the words

runs : (texts : List Text) (stand : Stand) → IsFit stand → AreBundles texts → run (walk_of stand) texts ≡ option_map final_rows (parsed_after (state_of stand) texts)
runs [] stand fit good = ends stand fit
runs (text ∷ texts) stand fit good = go (parsed_turn (state_of stand) text) (follows stand fit text good.0) (λ s f. runs texts s f good.1)
  where
    go : (own : Option State) → Follows (turn_fault top [] (walk_of stand) text) (walked rules [] (walk_of stand) text) own
        → ((s : Stand) → IsFit s → run (walk_of s) texts ≡ option_map final_rows (parsed_after (state_of s) texts))
        → cond (clean (turn_fault top [] (walk_of stand) text)) (run (walked rules [] (walk_of stand) text) texts) None ≡ option_map final_rows (option_and_then (λ t. parsed_after t texts) own)
    go None (inl bad) more = cond_false _ _ _ bad
    go None (inr dead) more = cond_same _ _ _ (dead texts good.1)
    go (Some t) (sound, reached) more = cond_true _ _ _ sound ∙ ap (λ w. run w texts) reached.walk ∙ more reached.stand reached.fit
        ∙ ap (λ (u : State). option_map final_rows (parsed_after u texts)) (sym reached.state)

run_is : (texts : List Text) (w : Walk) → run w texts ≡ cond (clean (or_else (walk_fault top [] w texts) (end_fault (fold (walked rules []) w texts).held))) (Some (finished rules (fold (walked rules []) w texts).held)) None
unfolding walk_fault
run_is [] w = refl
run_is (text ∷ texts) w = go (turn_fault top [] w text) (run_is texts (walked rules [] w text))
  where
    go : (t : Kinds)
        → run (walked rules [] w text) texts ≡ cond (clean (or_else (walk_fault top [] (walked rules [] w text) texts) (end_fault (fold (walked rules []) (walked rules [] w text) texts).held)))
        (Some (finished rules (fold (walked rules []) (walked rules [] w text) texts).held)) None
        → cond (clean t) (run (walked rules [] w text) texts) None
        ≡ cond (clean (or_else (or_else t (walk_fault top [] (walked rules [] w text) texts)) (end_fault (fold (walked rules []) (walked rules [] w text) texts).held)))
        (Some (finished rules (fold (walked rules []) (walked rules [] w text) texts).held)) None
    go [] more = more
    go (k ∷ ks) more = refl

abbrev end_of : List Text → Held
end_of words = (fold (walked rules []) (walk_from nothing_held) words).held

fault_is : (words : List Text) → fault_of app words ≡ or_else (walk_fault top [] (walk_from nothing_held) words) (end_fault (end_of words))
fault_is words = ap (λ (a : App). built_fault a nothing_held words) built-app ∙ leaf_fault (record { top = top; subs = [] }) nothing_held words refl

matches_are : (words : List Text) → matches_of app words ≡ finished rules (end_of words)
matches_are words = ap (λ (a : App). rows_after a.top.rules (names_of a) words) built-app

-- clap's parse gives what `parsed_by` says
pub parses : (words : List Text) → AreBundles words → cond (clean (fault_of app words)) (Some (matches_of app words)) None ≡ option_map final_rows (parsed_by words)
parses words good = ap₂ (λ (k : Kinds) (rs : List Row). cond (clean k) (Some rs) None) (fault_is words) (matches_are words)
    ∙ sym (run_is words (walk_from nothing_held)) ∙ runs words (idle_at [] None [] false) (record { same = refl; sound = refl }) good

pub record Gives (words : List Text) : Type 0 where
  pub given : Given
  pub is : parsed_by words ≡ Some given
  pub rows : matches_of app words ≡ final_rows given

pub gives : (words : List Text) → AreBundles words → fault_of app words ≡ [] → Gives words
gives words good none = go (parsed_by words) refl (ap (λ k. cond (clean k) (Some (matches_of app words)) None) (sym none) ∙ parses words good)
  where
    go : (o : Option Given) → parsed_by words ≡ o → Some (matches_of app words) ≡ option_map final_rows o → Gives words
    go None e h = absurd (cc)
    go (Some given) e h = record { given = given; is = e; rows = cc }

pub refuses : (words : List Text) (k : ErrorKind) → AreBundles words → IsAmong k (fault_of app words) → parsed_by words ≡ None
refuses words k good among = go (parsed_by words) (fault_of app words) among (parses words good)
  where
    go : (o : Option Given) (faults : Kinds) → IsAmong k faults → cond (clean faults) (Some (matches_of app words)) None ≡ option_map final_rows o → o ≡ None
    go None faults among h = refl
    go (Some given) [] among h = absurd among
    go (Some given) (x ∷ xs) among h = absurd (cc)

-- clap's matches have what `parsed_by` gives
pub has_given : (words : List Text) (m : ArgMatches) → AreBundles words → fault_of app words ≡ [] → rows_of (found_of m) ≡ matches_of app words → IsSomeAnd (parsed_by words) (HasGiven m)
has_given words m good none same = go (gives words good none)
  where
    go : Gives words → IsSomeAnd (parsed_by words) (HasGiven m)
    go g = let rows : rows_of (found_of m) ≡ final_rows g.given = same ∙ g.rows in
        subst (λ (o : Option Given). IsSomeAnd o (HasGiven m)) (sym g.is) (record {
          word = first_value-rows (found_of m) (codes "word") ∙ ap (first_of (codes "word")) rows ∙ final_text word g.given refl;
          workers = first_value-rows (found_of m) (codes "workers") ∙ ap (first_of (codes "workers")) rows ∙ final_text workers g.given refl;
          size = first_value-rows (found_of m) (codes "size") ∙ ap (first_of (codes "size")) rows ∙ final_text size g.given refl;
          schedule = one_text-rows (found_of m) (codes "schedule") ∙ ap (one_of (codes "schedule")) rows ∙ final_schedule g.given;
          json = one_text-rows (found_of m) (codes "json") ∙ ap (one_of (codes "json")) rows ∙ final_json g.given;
        })
