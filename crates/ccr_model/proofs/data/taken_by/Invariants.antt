use Rattle.std.proofs.Common.{◌≡◌, ◌++◌, drop}
use Rattle.ccr_model.specs.Posts.{messages_named}
use Rattle.ccr_model.specs.Views.{seen}
use Rattle.ccr_model.proofs.data.taken_by.Given as goal

abbrev pub invariant-loop-name : goal.invariant-loop-name
invariant-loop-name l = seen l.messages.items ++ messages_named l.past (drop l.name-index l.name-items) ≡ messages_named l.past l.name-items
