-- The rules of the command, and what clap's words look up among them.
use Rattle.std.proofs.Common.{◌≡◌, ℕ, Bool, true, false, cond, codes, refl, List, [], ◌∷◌, ◌||◌, Some, None, option_map}
use Rattle.std.specs.Str.{bytes_eq}
use Rattle.clap.specs.Walk.{Rule, Text, arg_by_id, arg_by_index, arg_by_long, arg_by_short}
use Rattle.clap.specs.Simple.{Shape, built, filled, is_simple, new_shape, with_index}
use Rattle.clap.specs.Faults.{is_simple_and_free}
use Rattle.ccr_words.specs.Parts.{Part, word, workers, size, schedule, json, name_of, option_of}
use Rattle.ccr_words.specs.Clap.{app, raw_rule}

-- the same, built
abbrev pub rule_for : Part → Rule
rule_for part = with_index 1 (filled (raw_rule part))

unfoldable pub rules : List Rule
rules = rule_for word ∷ rule_for workers ∷ rule_for size ∷ rule_for schedule ∷ rule_for json ∷ []

abbrev pub top : Shape
top = record (new_shape (codes "ccr")) {
  rules = rules;
  no_binary_name = true;
  disable_help_flag = true;
  disable_help_subcommand = true;
  disable_version_flag = true;
  is_built = true;
}

pub built-app : built app ≡ record { top = top; subs = [] }
unfolding rules
built-app = refl

pub app_simple : is_simple app ≡ true
app_simple = refl

pub app_free : is_simple_and_free app ≡ true
app_free = refl

pub by_id : (part : Part) → arg_by_id rules (name_of part) ≡ Some (rule_for part)
unfolding rules
by_id word = refl
by_id workers = refl
by_id size = refl
by_id schedule = refl
by_id json = refl

pub by_short : (x : ℕ) → arg_by_short rules x ≡ None
unfolding rules
by_short x = refl

pub by_index-1 : arg_by_index rules 1 ≡ Some (rule_for word)
unfolding rules
by_index-1 = refl

pub by_index-2 : arg_by_index rules 2 ≡ None
unfolding rules
by_index-2 = refl

picked : (a b c d : Bool) → cond (a || false) (Some (rule_for workers)) (cond (b || false) (Some (rule_for size)) (cond (c || false) (Some (rule_for schedule)) (cond (d || false) (Some (rule_for json)) None)))
    ≡ option_map rule_for (cond a (Some workers) (cond b (Some size) (cond c (Some schedule) (cond d (Some json) None))))
picked true b c d = refl
picked false true c d = refl
picked false false true d = refl
picked false false false true = refl
picked false false false false = refl

pub by_long : (name : Text) → arg_by_long rules name ≡ option_map rule_for (option_of name)
unfolding rules
by_long name = picked (bytes_eq (codes "workers") name) (bytes_eq (codes "size") name) (bytes_eq (codes "schedule") name) (bytes_eq (codes "json") name)
