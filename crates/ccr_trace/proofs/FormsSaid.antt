-- A line says only what it spells.
use Rattle.std.proofs.Common.{◌≡◌, ℕ, ◌<◌, true, cond, List, [], ◌∷◌, ◌++◌, length, map, Option, Some, None, inl, inr, refl, sym, ap, subst, ◌∙◌, append-nil, arith}
use Rattle.std.specs.Prelude.{codes, decimal}
use Rattle.std.specs.List.{All, list_all, join_with_byte}
use Rattle.std.specs.Str.{bytes_eq}
use Rattle.std.proofs.lemmas.List.Elements.{All-nil, All-cons}
use Rattle.std.proofs.lemmas.List.Splits.{join_with_byte-slice_split}
use Rattle.ccr_base.specs.declared.names.TaskId.{TaskId}
use Rattle.ccr_base.specs.declared.names.MsgId.{MsgId}
use Rattle.ccr_base.proofs.Texts.{same_word}
use Rattle.ccr_base.proofs.Booleans.{chosen}
use Rattle.ccr_model.specs.declared.history.EndHow.{EndHow}
use Rattle.ccr_model.specs.declared.history.EndHow.TheVariants as ends
use Rattle.ccr_text.specs.Words.{is_name_of}
use Rattle.ccr_text.specs.Spelling.{joined}
use Rattle.ccr_trace.specs.Words.{task_word, message_word}
use Rattle.ccr_text.specs.Exact.{value_word}
use Rattle.ccr_trace.specs.HistoryText.{cut_words, dropped_words, end_words}
use Rattle.ccr_trace.specs.Pieces.{pieces}
use Rattle.ccr_trace.specs.Said.{Said, Post, Fire, Admit, Put, Start, End, said_words, spelled, spot_name_word, IsSaid, IsTask, IsMessage, IsName, IsDropped, IsEnd}
use Rattle.ccr_trace.specs.Fields.{◌>>=◌, each, short_number, value_of, name_of, task_of, message_of, spot_of}
use Rattle.ccr_trace.specs.Forms.{word, no_more, only, field, is_some_of, cuts, fired, post_said, fire_said, admit_said, dropped_said, put_said, start_said, plain_end, failed, how_said, end_said, form_said, said_on}
use Rattle.ccr_trace.proofs.ReadTellsSteps.{bind_some, some_is, only_one, only_some, word_some, no_more_some, field_some, some_of}
use Rattle.ccr_text.specs.Fields.{Words}
use Rattle.ccr_trace.proofs.WordsSaid.{value_said, short_said, task_said, message_said, name_said, spot_said, each_said}
use Rattle.std.proofs.lemmas.Bool.{and_parts as both}

names_said : (words : Words) → list_all is_name_of words ≡ true → All IsName words
names_said [] e = All-nil IsName
names_said (w ∷ words) e =
    let parts = both (is_name_of w) (list_all is_name_of words) e in
    All-cons IsName w words parts.0 (names_said words parts.1)

-- what is said fits, and these are its words
abbrev pub Tells : ℕ → List ℕ → Words → Said → Type 0
Tells version first words said = IsSaid version said × (said_words said ≡ first ∷ words)

pub post_told : (version : ℕ) (words : Words) (said : Said) → post_said version words ≡ Some said → Tells version (codes "post") words said
unfolding post_said
post_told version words said e =
    let message = bind_some (field message_of words) _ said e in
    let message_word_is = field_some message_of words message.0 message.1 in
    let message_good = message_said message_word_is.0 message.0.0 message_word_is.2 in
    let port = bind_some (field name_of message.0.1) _ said message.2 in
    let port_word_is = field_some name_of message.0.1 port.0 port.1 in
    let port_good = name_said port_word_is.0 port.0.0 port_word_is.2 in
    let value = bind_some (field (value_of version) port.0.1) _ said port.2 in
    let value_word_is = field_some (value_of version) port.0.1 value.0 value.1 in
    let value_good = value_said version value_word_is.0 value.0.0 value_word_is.2 in
    let named = bind_some (only (list_all is_name_of value.0.1)) _ said value.2 in
    let names = names_said value.0.1 (only_some (list_all is_name_of value.0.1) named.0 named.1) in
    let same = some_is (Post message.0.0 port.0.0 value.0.0 value.0.1) said named.2 in
    let words_are : codes "post" ∷ message_word message.0.0 ∷ port.0.0 ∷ value_word value.0.0 ∷ value.0.1 ≡ codes "post" ∷ words = cc in
    subst (λ (s : Said). Tells version (codes "post") words s) same ((message_good.0, port_good.0, value_good.0, names), words_are)

pub cut_words-some : (tasks : List TaskId) → 0 < length tasks → cut_words tasks ≡ codes "cut" ∷ map task_word tasks
cut_words-some [] some = absurd (omega arith)
cut_words-some (task ∷ tasks) some = refl

cuts_told : (words : Words) (tasks : List TaskId) → cuts words ≡ Some tasks → All IsTask tasks × (cut_words tasks ≡ codes "cut" ∷ words)
unfolding cuts
cuts_told words tasks e =
    let all = bind_some (each task_of words) _ tasks e in
    let some = bind_some (only (is_some_of all.0)) _ tasks all.2 in
    let same = some_is all.0 tasks some.2 in
    let many = some_of all.0 (only_some (is_some_of all.0) some.0 some.1) in
    let good = each_said task_of task_word IsTask task_said words all.0 all.1 in
    subst (λ (ts : List TaskId). All IsTask ts × (cut_words ts ≡ codes "cut" ∷ words)) same
    (good.0, cut_words-some all.0 many ∙ ap (λ (v : List (List ℕ)). codes "cut" ∷ v) good.1)

abbrev AreFired : Words → List MsgId × List TaskId → Type 0
AreFired words rest = All IsMessage rest.0 × All IsTask rest.1 × (map message_word rest.0 ++ cut_words rest.1 ≡ words)

-- behind the word cut
fired_cut : (first : List ℕ) (words : Words) (rest : List MsgId × List TaskId) → bytes_eq first (codes "cut") ≡ true → (cuts words >>= λ tasks. Some ([], tasks)) ≡ Some rest → AreFired (first ∷ words) rest
fired_cut first words rest is e =
    let tasks = bind_some (cuts words) _ rest e in
    let told = cuts_told words tasks.0 tasks.1 in
    let cut : first ≡ codes "cut" = same_word first (codes "cut") is in
    subst (λ (r : List MsgId × List TaskId). AreFired (first ∷ words) r) (some_is ([], tasks.0) rest tasks.2) (All-nil IsMessage, told.0, told.1 ∙ ap (λ (w : List ℕ). w ∷ words) (sym cut))

-- one message more
fired_more : (first : List ℕ) (words : Words) (rest : List MsgId × List TaskId) → ((r : List MsgId × List TaskId) → fired words ≡ Some r → AreFired words r)
    → (message_of first >>= λ message. fired words >>= λ r. Some (message ∷ r.0, r.1)) ≡ Some rest → AreFired (first ∷ words) rest
fired_more first words rest later e =
    let message = bind_some (message_of first) _ rest e in
    let message_good = message_said first message.0 message.1 in
    let others = bind_some (fired words) _ rest message.2 in
    let others_good = later others.0 others.1 in
    subst (λ (r : List MsgId × List TaskId). AreFired (first ∷ words) r) (some_is (message.0 ∷ others.0.0, others.0.1) rest others.2)
    (All-cons IsMessage message.0 others.0.0 message_good.0 others_good.0, others_good.1, rw (message_good.1, others_good.2) refl)

fired_told : (words : Words) (rest : List MsgId × List TaskId) → fired words ≡ Some rest → AreFired words rest
unfolding fired
fired_told [] rest e = subst (λ (r : List MsgId × List TaskId). AreFired [] r) (some_is ([], []) rest e) (All-nil IsMessage, All-nil IsTask, refl)
fired_told (first ∷ words) rest e =
    elim (chosen (bytes_eq first (codes "cut")) _ _ (Some rest) e) [
      | inl h ↦ fired_cut first words rest h.0 h.1
      | inr h ↦ fired_more first words rest (fired_told words) h.1
    ]

pub fire_told : (version : ℕ) (words : Words) (said : Said) → fire_said words ≡ Some said → Tells version (codes "fire") words said
unfolding fire_said
fire_told version words said e =
    let task = bind_some (field task_of words) _ said e in
    let task_word_is = field_some task_of words task.0 task.1 in
    let task_good = task_said task_word_is.0 task.0.0 task_word_is.2 in
    let spot = bind_some (field spot_of task.0.1) _ said task.2 in
    let spot_word_is = field_some spot_of task.0.1 spot.0 spot.1 in
    let spot_good = spot_said spot_word_is.0 spot.0.0 spot_word_is.2 in
    let rest = bind_some (fired spot.0.1) _ said spot.2 in
    let rest_good = fired_told spot.0.1 rest.0 rest.1 in
    let some = bind_some (only (is_some_of rest.0.0)) _ said rest.2 in
    let many = some_of rest.0.0 (only_some (is_some_of rest.0.0) some.0 some.1) in
    let same = some_is (Fire task.0.0 spot.0.0 rest.0.0 rest.0.1) said some.2 in
    let words_are : codes "fire" ∷ task_word task.0.0 ∷ spot_name_word spot.0.0 ∷ (map message_word rest.0.0 ++ cut_words rest.0.1) ≡ codes "fire" ∷ words = cc in
    subst (λ (s : Said). Tells version (codes "fire") words s) same ((task_good.0, spot_good.0, spot_good.1, many, rest_good.0, rest_good.1), words_are)

pub admit_told : (version : ℕ) (words : Words) (said : Said) → admit_said words ≡ Some said → Tells version (codes "admit") words said
unfolding admit_said
admit_told version words said e =
    let task = bind_some (field task_of words) _ said e in
    let task_word_is = field_some task_of words task.0 task.1 in
    let task_good = task_said task_word_is.0 task.0.0 task_word_is.2 in
    let done = bind_some (no_more task.0.1) _ said task.2 in
    let no_more_is = no_more_some task.0.1 done.0 done.1 in
    let same = some_is (Admit task.0.0) said done.2 in
    let words_are : codes "admit" ∷ task_word task.0.0 ∷ [] ≡ codes "admit" ∷ words = cc in
    subst (λ (s : Said). Tells version (codes "admit") words s) same (task_good.0, words_are)

dropped_told : (words : Words) (dropped : Option TaskId) → dropped_said words ≡ Some dropped → IsDropped dropped × (dropped_words dropped ≡ words)
unfolding dropped_said
dropped_told [] dropped e = subst (λ (d : Option TaskId). IsDropped d × (dropped_words d ≡ [])) (some_is None dropped e) (tt, refl)
dropped_told (first ∷ words) dropped e =
    let drop = bind_some (only (bytes_eq first (codes "drop"))) _ dropped e in
    let drop_is = same_word first (codes "drop") (only_some (bytes_eq first (codes "drop")) drop.0 drop.1) in
    let task = bind_some (field task_of words) _ dropped drop.2 in
    let task_word_is = field_some task_of words task.0 task.1 in
    let task_good = task_said task_word_is.0 task.0.0 task_word_is.2 in
    let done = bind_some (no_more task.0.1) _ dropped task.2 in
    let no_more_is = no_more_some task.0.1 done.0 done.1 in
    let same = some_is (Some task.0.0) dropped done.2 in
    let words_are : codes "drop" ∷ task_word task.0.0 ∷ [] ≡ first ∷ words = cc in
    subst (λ (d : Option TaskId). IsDropped d × (dropped_words d ≡ first ∷ words)) same (task_good.0, words_are)

pub put_told : (version : ℕ) (words : Words) (said : Said) → put_said words ≡ Some said → Tells version (codes "put") words said
unfolding put_said
put_told version words said e =
    let task = bind_some (field task_of words) _ said e in
    let task_word_is = field_some task_of words task.0 task.1 in
    let task_good = task_said task_word_is.0 task.0.0 task_word_is.2 in
    let dropped = bind_some (dropped_said task.0.1) _ said task.2 in
    let dropped_good = dropped_told task.0.1 dropped.0 dropped.1 in
    let same = some_is (Put task.0.0 dropped.0) said dropped.2 in
    let words_are : codes "put" ∷ task_word task.0.0 ∷ dropped_words dropped.0 ≡ codes "put" ∷ words = cc in
    subst (λ (s : Said). Tells version (codes "put") words s) same ((task_good.0, dropped_good.0), words_are)

pub start_told : (version : ℕ) (words : Words) (said : Said) → start_said words ≡ Some said → Tells version (codes "start") words said
unfolding start_said
start_told version words said e =
    let task = bind_some (field task_of words) _ said e in
    let task_word_is = field_some task_of words task.0 task.1 in
    let task_good = task_said task_word_is.0 task.0.0 task_word_is.2 in
    let actor = bind_some (field short_number task.0.1) _ said task.2 in
    let actor_word_is = field_some short_number task.0.1 actor.0 actor.1 in
    let actor_good = short_said actor_word_is.0 actor.0.0 actor_word_is.2 in
    let done = bind_some (no_more actor.0.1) _ said actor.2 in
    let no_more_is = no_more_some actor.0.1 done.0 done.1 in
    let same = some_is (Start task.0.0 actor.0.0) said done.2 in
    let words_are : codes "start" ∷ task_word task.0.0 ∷ decimal actor.0.0 ∷ [] ≡ codes "start" ∷ words = cc in
    subst (λ (s : Said). Tells version (codes "start") words s) same ((task_good.0, actor_good.0), words_are)

-- an end of one word
end_is : (version : ℕ) (first text : List ℕ) (plain how : EndHow) → IsEnd version plain → end_words plain ≡ text ∷ [] → bytes_eq first text ≡ true → Some plain ≡ Some how → IsEnd version how × (end_words how ≡ first ∷ [])
end_is version first text plain how good spelled is e =
    subst (λ (h : EndHow). IsEnd version h × (end_words h ≡ first ∷ [])) (some_is plain how e) (good, spelled ∙ ap (λ (w : List ℕ). w ∷ []) (sym (same_word first text is)))

plain_told : (version : ℕ) (first : List ℕ) (how : EndHow) → plain_end first ≡ Some how → IsEnd version how × (end_words how ≡ first ∷ [])
plain_told version first how e =
    elim (chosen (bytes_eq first (codes "done")) (Some ends.Done) _ (Some how) e) [
      | inl h ↦ end_is version first (codes "done") ends.Done how tt refl h.0 h.1
      | inr h ↦ elim (chosen (bytes_eq first (codes "yield")) (Some ends.Yield) _ (Some how) h.1) [
        | inl i ↦ end_is version first (codes "yield") ends.Yield how tt refl i.0 i.1
        | inr i ↦ elim (chosen (bytes_eq first (codes "shed")) (Some ends.Shed) None (Some how) i.1) [
          | inl j ↦ end_is version first (codes "shed") ends.Shed how tt refl j.0 j.1
          | inr j ↦ absurd (let none : only_one how ≡ None = sym j.1 in cc)
        ]
      ]
    ]

-- an end, and the words behind it
abbrev IsHow : ℕ → Words → EndHow × Words → Type 0
IsHow version words how = IsEnd version how.0 × (end_words how.0 ++ how.1 ≡ words)

failed_told : (version : ℕ) (first : List ℕ) (words : Words) (how : EndHow × Words) → bytes_eq first (codes "failed") ≡ true → failed version words ≡ Some how → IsHow version (first ∷ words) how
failed_told version first words how is e =
    let value = bind_some (field (value_of version) words) _ how e in
    let value_word_is = field_some (value_of version) words value.0 value.1 in
    let value_good = value_said version value_word_is.0 value.0.0 value_word_is.2 in
    let first_is = same_word first (codes "failed") is in
    let words_are : codes "failed" ∷ value_word value.0.0 ∷ value.0.1 ≡ first ∷ words = cc in
    subst (λ (h : EndHow × Words). IsHow version (first ∷ words) h) (some_is (ends.Failed value.0.0, value.0.1) how value.2) (value_good.0, words_are)

plain_how : (version : ℕ) (first : List ℕ) (words : Words) (how : EndHow × Words) → (plain_end first >>= λ h. Some (h, words)) ≡ Some how → IsHow version (first ∷ words) how
plain_how version first words how e =
    let plain = bind_some (plain_end first) _ how e in
    let told = plain_told version first plain.0 plain.1 in
    subst (λ (h : EndHow × Words). IsHow version (first ∷ words) h) (some_is (plain.0, words) how plain.2) (told.0, ap (λ (w : List (List ℕ)). w ++ words) told.1)

how_told : (version : ℕ) (words : Words) (how : EndHow × Words) → how_said version words ≡ Some how → IsHow version words how
unfolding how_said
how_told version [] how e = absurd cc
how_told version (first ∷ words) how e =
    elim (chosen (bytes_eq first (codes "failed")) (failed version words) _ (Some how) e) [
      | inl h ↦ failed_told version first words how h.0 h.1
      | inr h ↦ plain_how version first words how h.1
    ]

pub end_told : (version : ℕ) (words : Words) (said : Said) → end_said version words ≡ Some said → Tells version (codes "end") words said
unfolding end_said
end_told version words said e =
    let task = bind_some (field task_of words) _ said e in
    let task_word_is = field_some task_of words task.0 task.1 in
    let task_good = task_said task_word_is.0 task.0.0 task_word_is.2 in
    let how = bind_some (how_said version task.0.1) _ said task.2 in
    let how_good = how_told version task.0.1 how.0 how.1 in
    let done = bind_some (no_more how.0.1) _ said how.2 in
    let none = no_more_some how.0.1 done.0 done.1 in
    let same = some_is (End task.0.0 how.0.0) said done.2 in
    let ends_are : end_words how.0.0 ≡ task.0.1 = sym (append-nil (end_words how.0.0)) ∙ (ap (λ (w : List (List ℕ)). end_words how.0.0 ++ w) (sym none) ∙ how_good.1) in
    let words_are : codes "end" ∷ task_word task.0.0 ∷ end_words how.0.0 ≡ codes "end" ∷ words = cc in
    subst (λ (s : Said). Tells version (codes "end") words s) same ((task_good.0, how_good.0), words_are)

-- the form whose first word it is
form_is : (version : ℕ) (first text : List ℕ) (words : Words) (said : Said) → bytes_eq first text ≡ true → Tells version text words said → Tells version first words said
form_is version first text words said is told = (told.0, told.1 ∙ ap (λ (w : List ℕ). w ∷ words) (sym (same_word first text is)))

form_told : (version : ℕ) (first : List ℕ) (words : Words) (said : Said) → form_said version first words ≡ Some said → Tells version first words said
unfolding form_said
form_told version first words said e =
    elim (chosen (bytes_eq first (codes "post")) (post_said version words) _ (Some said) e) [
      | inl h ↦ form_is version first (codes "post") words said h.0 (post_told version words said h.1)
      | inr h ↦ elim (chosen (bytes_eq first (codes "fire")) (fire_said words) _ (Some said) h.1) [
        | inl i ↦ form_is version first (codes "fire") words said i.0 (fire_told version words said i.1)
        | inr i ↦ elim (chosen (bytes_eq first (codes "admit")) (admit_said words) _ (Some said) i.1) [
          | inl j ↦ form_is version first (codes "admit") words said j.0 (admit_told version words said j.1)
          | inr j ↦ elim (chosen (bytes_eq first (codes "put")) (put_said words) _ (Some said) j.1) [
            | inl k ↦ form_is version first (codes "put") words said k.0 (put_told version words said k.1)
            | inr k ↦ elim (chosen (bytes_eq first (codes "start")) (start_said words) _ (Some said) k.1) [
              | inl l ↦ form_is version first (codes "start") words said l.0 (start_told version words said l.1)
              | inr l ↦ elim (chosen (bytes_eq first (codes "end")) (end_said version words) None (Some said) l.1) [
                | inl m ↦ form_is version first (codes "end") words said m.0 (end_told version words said m.1)
                | inr m ↦ absurd (let none : only_one said ≡ None = sym m.1 in cc)
              ]
            ]
          ]
        ]
      ]
    ]

pub joined_is : (words : List (List ℕ)) → joined words ≡ join_with_byte 32 words
joined_is [] = refl
joined_is (word ∷ []) = refl
joined_is (word ∷ next ∷ words) = ap (λ (v : List ℕ). word ++ 32 ∷ v) (joined_is (next ∷ words))

-- a line says only what it spells
pub line_told : (version : ℕ) (line : List ℕ) (said : Said) → said_on version line ≡ Some said → IsSaid version said × (spelled said ≡ line)
line_told version line said e =
    let first = bind_some (word (pieces 32 line)) _ said e in
    let words = word_some (pieces 32 line) first.0 first.1 in
    let told = form_told version first.0.0 first.0.1 said first.2 in
    (told.0, ap joined (told.1 ∙ sym words) ∙ (joined_is (pieces 32 line) ∙ join_with_byte-slice_split 32 line))
