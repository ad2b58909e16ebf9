-- The command that the code gives to clap, in clap's words.
use Rattle.std.specs.Prelude.{true, codes, Some}
use Rattle.clap.specs.Walk.{Rule}
use Rattle.clap.specs.Simple.{App, Shape, new_app, new_rule, on_top, with_rule}
use Rattle.clap.specs.declared.builder.action.ArgAction.TheVariants.{Set, SetTrue}
use Rattle.ccr_words.specs.Parts.{Part, word, workers, size, schedule, json}

-- the arguments as the code makes them
abbrev pub raw_rule : Part → Rule
raw_rule word = record (new_rule (codes "word")) { required = true; action = Some Set }
raw_rule workers = record (new_rule (codes "workers")) { long = Some (codes "workers"); action = Some Set }
raw_rule size = record (new_rule (codes "size")) { long = Some (codes "size"); action = Some Set }
raw_rule schedule = record (new_rule (codes "schedule")) { long = Some (codes "schedule"); action = Some SetTrue }
raw_rule json = record (new_rule (codes "json")) { long = Some (codes "json"); action = Some SetTrue }

-- a program that knows no word yet, and neither help nor version
abbrev pub bare : App
bare = on_top (λ (s : Shape). record s { no_binary_name = true; disable_help_flag = true; disable_version_flag = true }) (new_app (codes "ccr"))

-- the program's words as the parser has them
abbrev pub app : App
app = with_rule (with_rule (with_rule (with_rule (with_rule bare (raw_rule word)) (raw_rule workers)) (raw_rule size)) (raw_rule schedule)) (raw_rule json)
