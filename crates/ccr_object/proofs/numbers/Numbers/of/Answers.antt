use Rattle.ccr_object.proofs.Numbering.{exact, exact_replies}
use Rattle.ccr_object.proofs.numbers.Numbers.of.Goals as goal

pub returns-clause-exact : goal.returns-clause-exact
returns-clause-exact c = exact c.args.wiring.now

pub returns-in_err-sites-clause-exact : goal.returns-in_err-sites-clause-exact
returns-in_err-sites-clause-exact c = exact c.args.wiring.now

pub returns-in_err-domains-clause-exact : goal.returns-in_err-domains-clause-exact
returns-in_err-domains-clause-exact c = exact c.args.wiring.now

pub returns-clause-replies : goal.returns-clause-replies
returns-clause-replies c = exact_replies c.args.wiring.now

pub returns-in_err-sites-clause-replies : goal.returns-in_err-sites-clause-replies
returns-in_err-sites-clause-replies c = exact_replies c.args.wiring.now

pub returns-in_err-domains-clause-replies : goal.returns-in_err-domains-clause-replies
returns-in_err-domains-clause-replies c = exact_replies c.args.wiring.now
