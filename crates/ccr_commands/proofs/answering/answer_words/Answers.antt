use Rattle.ccr_commands.proofs.Statuses.{due_said, text_status, usage_status, refused_status, excess_status, over_status, fault_status, load_status}
use Rattle.ccr_commands.proofs.answering.answer_words.Goals as goal

pub returns-clause-of_text : goal.returns-clause-of_text
returns-clause-of_text g c = text_status c.args.words.now (g.S.Source.rest c.args.source.now) c.in_ok-answer.answer.status c.in_ok-answer.answer.text
    (due_said c.in_ok-request.request c.args.words.now (g.S.Source.rest c.args.source.now) c.in_ok-answer.answer.status c.in_ok-answer.answer.text c.in_ok-request.ensures.asked_for c.in_ok-answer.ensures.due)

pub returns-clause-usage : goal.returns-clause-usage
returns-clause-usage g c = λ is. usage_status c.args.words.now (g.S.Source.rest c.args.source.now) c.in_ok-answer.answer.status c.in_ok-answer.answer.text
    (due_said c.in_ok-request.request c.args.words.now (g.S.Source.rest c.args.source.now) c.in_ok-answer.answer.status c.in_ok-answer.answer.text c.in_ok-request.ensures.asked_for c.in_ok-answer.ensures.due) is

pub returns-clause-refused : goal.returns-clause-refused
returns-clause-refused g c = λ command json is declined. refused_status command json c.args.words.now (g.S.Source.rest c.args.source.now) c.in_ok-answer.answer.status c.in_ok-answer.answer.text
    (due_said c.in_ok-request.request c.args.words.now (g.S.Source.rest c.args.source.now) c.in_ok-answer.answer.status c.in_ok-answer.answer.text c.in_ok-request.ensures.asked_for c.in_ok-answer.ensures.due) is declined

pub returns-clause-excessive : goal.returns-clause-excessive
returns-clause-excessive g c = λ command json is long. excess_status command json c.args.words.now (g.S.Source.rest c.args.source.now) c.in_ok-answer.answer.status c.in_ok-answer.answer.text
    (due_said c.in_ok-request.request c.args.words.now (g.S.Source.rest c.args.source.now) c.in_ok-answer.answer.status c.in_ok-answer.answer.text c.in_ok-request.ensures.asked_for c.in_ok-answer.ensures.due) is long

pub returns-clause-accepted : goal.returns-clause-accepted
returns-clause-accepted g c = λ command json is accepted. over_status command json c.args.words.now (g.S.Source.rest c.args.source.now) c.in_ok-answer.answer.status c.in_ok-answer.answer.text
    (due_said c.in_ok-request.request c.args.words.now (g.S.Source.rest c.args.source.now) c.in_ok-answer.answer.status c.in_ok-answer.answer.text c.in_ok-request.ensures.asked_for c.in_ok-answer.ensures.due) is accepted

pub returns-clause-faulty : goal.returns-clause-faulty
returns-clause-faulty g c = λ json is verified. fault_status json c.args.words.now (g.S.Source.rest c.args.source.now) c.in_ok-answer.answer.status c.in_ok-answer.answer.text
    (due_said c.in_ok-request.request c.args.words.now (g.S.Source.rest c.args.source.now) c.in_ok-answer.answer.status c.in_ok-answer.answer.text c.in_ok-request.ensures.asked_for c.in_ok-answer.ensures.due) is verified

pub returns-clause-loaded : goal.returns-clause-loaded
returns-clause-loaded g c = λ size workers json is. load_status size workers json c.args.words.now (g.S.Source.rest c.args.source.now) c.in_ok-answer.answer.status c.in_ok-answer.answer.text
    (due_said c.in_ok-request.request c.args.words.now (g.S.Source.rest c.args.source.now) c.in_ok-answer.answer.status c.in_ok-answer.answer.text c.in_ok-request.ensures.asked_for c.in_ok-answer.ensures.due) is
