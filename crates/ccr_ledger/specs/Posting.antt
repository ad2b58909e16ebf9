-- What a post makes of the tables.
use Rattle.std.specs.Prelude.{◌+◌, ◌-◌, List, [], ◌∷◌, ◌++◌}
use Rattle.ccr_base.specs.declared.names.MsgId.{MsgId}
use Rattle.ccr_base.specs.declared.names.MsgId.TheVariants.{Script, Task}
use Rattle.ccr_base.specs.declared.messages.Msg.{Msg}
use Rattle.ccr_ledger.specs.Rows.{row, with_row}
use Rattle.ccr_ledger.specs.declared.cards.Card.{Card}
use Rattle.ccr_ledger.specs.Books.{Books, changed, less, more}

-- the ports with the message
abbrev pub posted_to : Msg → List (List Msg) → List (List Msg)
posted_to message ports = with_row ports message.port (row ports message.port ++ message ∷ [])

-- the card with one more post
abbrev pub with_post : Card → Card
with_post card = record card { made = card.made + 1 }

-- one more post of the poster, or of the task
abbrev pub counted : MsgId → Books → Books
counted (Script actor index) books = record books { script_posts = more actor books.script_posts }
counted (Task task index) books = record books { tasks = changed with_post task books.tasks; task_posts = books.task_posts + 1 }

-- the card with one post less
abbrev pub without_post : Card → Card
without_post card = record card { made = card.made - 1 }

-- one post less of the poster, or of the task
abbrev pub uncounted : MsgId → Books → Books
uncounted (Script actor index) books = record books { script_posts = less actor books.script_posts }
uncounted (Task task index) books = record books { tasks = changed without_post task books.tasks; task_posts = books.task_posts - 1 }

-- after a post
abbrev pub after_post : Msg → Books → Books
after_post message books = record (counted message.id books) { ports = posted_to message books.ports }
