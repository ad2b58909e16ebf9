use Rattle.ccr_wiretext.proofs.words.LineWords.group.Goals as goal

pub returns-in-Concurrent : goal.returns-in-Concurrent
returns-in-Concurrent c = rw c.in-Concurrent.is c.word_and_name-in-Concurrent.ensures
