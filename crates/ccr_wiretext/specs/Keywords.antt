-- The words that may begin a line.
use Rattle.std.specs.Prelude.{ℕ, List, codes, if◌then◌else◌}
use Rattle.std.specs.Str.{bytes_eq}
use Rattle.ccr_wiretext.specs.declared.keyword.Keyword.{Keyword}
use Rattle.ccr_wiretext.specs.declared.keyword.Keyword.TheVariants.{Budget, Queue, Port, Portset, Cause, Handler, Receive, Choice, Interleave, Combine, Poster, Post, Fail, Add, Remove, Await, Branch, Teardown, Exclusive, Concurrent, End, Other}

-- the keyword of a line in a block that a word is, or Other
abbrev pub keyword_in_block : List ℕ → Keyword
keyword_in_block word =
    if bytes_eq word (codes "post") then Post else
    if bytes_eq word (codes "fail") then Fail else
    if bytes_eq word (codes "add") then Add else
    if bytes_eq word (codes "remove") then Remove else
    if bytes_eq word (codes "await") then Await else
    if bytes_eq word (codes "branch") then Branch else
    if bytes_eq word (codes "teardown") then Teardown else
    if bytes_eq word (codes "exclusive") then Exclusive else
    if bytes_eq word (codes "concurrent") then Concurrent else
    if bytes_eq word (codes "end") then End else Other

-- the keyword that a word is, or Other
unfoldable pub keyword : List ℕ → Keyword
keyword word =
    if bytes_eq word (codes "budget") then Budget else
    if bytes_eq word (codes "queue") then Queue else
    if bytes_eq word (codes "port") then Port else
    if bytes_eq word (codes "portset") then Portset else
    if bytes_eq word (codes "cause") then Cause else
    if bytes_eq word (codes "handler") then Handler else
    if bytes_eq word (codes "receive") then Receive else
    if bytes_eq word (codes "choice") then Choice else
    if bytes_eq word (codes "interleave") then Interleave else
    if bytes_eq word (codes "combine") then Combine else
    if bytes_eq word (codes "poster") then Poster else keyword_in_block word
