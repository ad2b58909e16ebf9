use Rattle.ccr_laws.proofs.AfterTeardown.{none_starts}
use Rattle.ccr_laws.proofs.interleaves.no_other_starts_after_a_teardown_task.Goals as goal

pub returns : goal.returns
returns c = λ w fit i before after t u a legal torn within starts. none_starts w fit i before after t a legal torn u within starts
