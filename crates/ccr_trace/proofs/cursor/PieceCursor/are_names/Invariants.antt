use Rattle.std.proofs.Common.{◌≡◌, length}
use Rattle.std.specs.List.{list_all}
use Rattle.ccr_text.specs.Words.{is_name_of}
use Rattle.ccr_trace.proofs.cursor.PieceCursor.are_names.Given as goal

-- those that are left decide
abbrev pub invariant-words : goal.invariant-words
invariant-words l = list_all is_name_of l.words ≡ list_all is_name_of l.self

abbrev pub decreases-words : goal.decreases-words
decreases-words l = length l.words
