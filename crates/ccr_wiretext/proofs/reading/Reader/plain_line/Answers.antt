use Rattle.std.proofs.Common.{◌∙◌, Some, sym, subst}
use Rattle.ccr_wiretext.specs.Reading.{So}
use Rattle.ccr_wiretext.specs.Scanning.{IsLineTaken}
use Rattle.ccr_wiretext.proofs.PlainPosts.{plain_taken}
use Rattle.ccr_wiretext.proofs.reading.Reader.plain_line.Goals as goal

pub returns-clause-taken : goal.returns-clause-taken
returns-clause-taken c =
    let post = c.in-Some-plain_post.post in
    let found = c.in-Some-plain_post.ensures in
    let taken = plain_taken c.in-Some.draft c.plain_post-2.new.self c.args.text.now post.port.now post.behind.now post.number found.digits found.spelled found.words found.clean found.lines found.shorter (c.in_ok-plain_post.ensures.taken c.if-not-branch.false found.digits found.spelled) in
    subst (λ (so : So). IsLineTaken so c.args.text.now (Some c.plain_post-2.new.self) post.behind.now) (sym c.in-Some.is ∙ c.self.view_is) taken
