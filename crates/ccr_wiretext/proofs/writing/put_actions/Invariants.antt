use Rattle.std.proofs.Common.{map}
use Rattle.ccr_wiretext.specs.Spelling.{action_words}
use Rattle.ccr_wiretext.specs.Values.{IsActionValued}
use Rattle.ccr_wiretext.proofs.PartsPut.{AreLinesPut}
use Rattle.ccr_wiretext.proofs.writing.put_actions.Given as goal

-- the actions so far are written
abbrev pub invariant-loop-action : goal.invariant-loop-action
invariant-loop-action l = AreLinesPut (map (action_words l.parts)) IsActionValued l.actions l.action-index l.fn.out.items l.out.items
