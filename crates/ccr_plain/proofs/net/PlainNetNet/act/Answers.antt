use Rattle.std.proofs.Common.{◌≡◌, ◌<◌, true, ◌+◌, ◌-◌, List, [], ◌∷◌, ◌++◌, length, sym, ap, ◌∙◌, subst, arith, vec_capacity, vec_len}
use Rattle.std.specs.Prelude.{nat_lt}
use Rattle.std.proofs.lemmas.Bool.Decides.{nat_tests}
use Rattle.ccr_claim.specs.declared.asks.Asked.{Asked}
use Rattle.ccr_claim.specs.Wired.{IsReplyOf}
use Rattle.ccr_object.specs.Objects.{reply_of}
use Rattle.ccr_runs.specs.declared.entries.Entry.{Entry}
use Rattle.ccr_net.specs.Acted.{act_after, scene_after}
use Rattle.ccr_plain.specs.Owed.{cost, gain, most}
use Rattle.ccr_runs.specs.Played.{entry_of, number_at, steps_in}
use Rattle.ccr_runs.specs.EntryRuns.{entry_for, replies_of, with_made}
use Rattle.ccr_plain.specs.Served.{Served}
use Rattle.ccr_plain.proofs.RepliesAreKnown.{reply_named}
use Rattle.ccr_plain.proofs.ServingKeepsRoom.{acts_from, act_added, act_costs, act_gains, act_heard, act_made, act_met, act_others, act_roomy, act_seat, free_so, push_so, room_so, some_so}
use Rattle.ccr_plain.proofs.net.PlainNetNet.act.Goals as goal

pub reply-requires-clause-seat : goal.reply-requires-clause-seat
reply-requires-clause-seat c =
    let old = c.self.inside.places in
    let es = c.self.inside.entries.items in
    let room = vec_capacity c.self.inside.entries - vec_len c.self.inside.entries in
    let owed = c.self.inside.owed in
    let count = c.self.inside.seats in
    let k = c.args.actor in
    let one : Asked = record { place = c.args.place; ask = c.args.ask } in
    let made = c.in_ok-make_room.ensures in
    let a = acts_from old es room owed count k one c.args.self.now c.self.invariant c.self.view_is c.requires made.seated in
    act_seat old es room owed count k one a

pub reply-requires-clause-room : goal.reply-requires-clause-room
reply-requires-clause-room c =
    let old = c.self.inside.places in
    let es = c.self.inside.entries.items in
    let room = vec_capacity c.self.inside.entries - vec_len c.self.inside.entries in
    let owed = c.self.inside.owed in
    let count = c.self.inside.seats in
    let k = c.args.actor in
    let one : Asked = record { place = c.args.place; ask = c.args.ask } in
    let made = c.in_ok-make_room.ensures in
    let a = acts_from old es room owed count k one c.args.self.now c.self.invariant c.self.view_is c.requires made.seated in
    let costs = act_costs old es room owed count k one a in
    let paid = c.cost-paid.ensures in
    let has = a.roomy.acts_room in
    let kept = made.places_kept in
    some_so one.ask owed c.make_room.new.places.room (most (length old.acts) one.ask) costs (omega (arith, has, kept)) made.places_room

pub reply-requires-clause-met : goal.reply-requires-clause-met
reply-requires-clause-met c =
    let old = c.self.inside.places in
    let es = c.self.inside.entries.items in
    let room = vec_capacity c.self.inside.entries - vec_len c.self.inside.entries in
    let owed = c.self.inside.owed in
    let count = c.self.inside.seats in
    let k = c.args.actor in
    let one : Asked = record { place = c.args.place; ask = c.args.ask } in
    let made = c.in_ok-make_room.ensures in
    let a = acts_from old es room owed count k one c.args.self.now c.self.invariant c.self.view_is c.requires made.seated in
    rw (made.wiring, made.acts) (act_met old es room owed count k one a)

pub push_reserved-requires : goal.push_reserved-requires
push_reserved-requires c =
    let old = c.self.inside.places in
    let es = c.self.inside.entries.items in
    let room = vec_capacity c.self.inside.entries - vec_len c.self.inside.entries in
    let owed = c.self.inside.owed in
    let count = c.self.inside.seats in
    let k = c.args.actor in
    let one : Asked = record { place = c.args.place; ask = c.args.ask } in
    let made = c.in_ok-make_room.ensures in
    let a = acts_from old es room owed count k one c.args.self.now c.self.invariant c.self.view_is c.requires made.seated in
    let costs = act_costs old es room owed count k one a in
    let paid = c.cost-paid.ensures in
    let has = a.roomy.entries_room in
    let kept = made.entries_kept in
    let len = made.len in
    push_so one.ask owed (vec_len c.self.inside.entries) (vec_capacity c.self.inside.entries) (vec_len c.make_room.new.entries) (vec_capacity c.make_room.new.entries) (most (length old.acts) one.ask) costs has len kept made.entries_room

pub overflow_sub-self : goal.overflow_sub-self
overflow_sub-self c =
    let old = c.self.inside.places in
    let es = c.self.inside.entries.items in
    let room = vec_capacity c.self.inside.entries - vec_len c.self.inside.entries in
    let owed = c.self.inside.owed in
    let count = c.self.inside.seats in
    let k = c.args.actor in
    let one : Asked = record { place = c.args.place; ask = c.args.ask } in
    let made = c.in_ok-make_room.ensures in
    let a = acts_from old es room owed count k one c.args.self.now c.self.invariant c.self.view_is c.requires made.seated in
    let costs = act_costs old es room owed count k one a in
    let paid = c.cost-paid.ensures in
    omega (arith, costs, paid)

pub invariant_of-self-2 : goal.invariant_of-self-2
invariant_of-self-2 c =
    let old = c.self.inside.places in
    let es = c.self.inside.entries.items in
    let room = vec_capacity c.self.inside.entries - vec_len c.self.inside.entries in
    let owed = c.self.inside.owed in
    let count = c.self.inside.seats in
    let k = c.args.actor in
    let one : Asked = record { place = c.args.place; ask = c.args.ask } in
    let made = c.in_ok-make_room.ensures in
    let a = acts_from old es room owed count k one c.args.self.now c.self.invariant c.self.view_is c.requires made.seated in
    let costs = act_costs old es room owed count k one a in
    let paid = c.cost-paid.ensures in
    let later = c.reply.new.self in
    let did = c.in_ok-reply.ensures in
    let entry = c.in_ok-reply.entry in
    let reply = c.in_ok-reply.reply in
    let wiring_so = did.wiring ∙ made.wiring in
    let acts_so = did.acts ∙ (λ i. made.acts i ++ act_after (made.wiring i) (made.acts i) k one.place one.ask ∷ []) in
    let is_entry = sym (λ i. entry_of (made.wiring i) (act_after (made.wiring i) (made.acts i) k one.place one.ask)) ∙ did.entry in
    let replied = sym (λ i. reply_of (scene_after (made.wiring i) (made.acts i) (number_at (made.wiring i) one.place)).0 one.ask) ∙ did.reply in
    let more = c.push_reserved.new.self.items in
    let more_so = c.push_reserved.ensures.items ∙ ap (λ (xs : List Entry). xs ++ entry ∷ []) made.items in
    let gained = act_gains old es room owed count k one a later more entry reply wiring_so acts_so is_entry replied did.fits more_so in
    let has = a.roomy.acts_room in
    let kept = made.places_kept in
    let here = room_so one.ask reply owed c.make_room.new.places.room (most (length old.acts) one.ask) did.fits gained costs (omega (arith, has, kept)) made.places_room in
    let used = did.room in
    let brings = c.gain.ensures in
    let left = owed - c.cost-paid.result + c.gain.result in
    let left_so : owed - c.cost-paid.result + c.gain.result ≡ owed - cost one.ask + gain reply = (λ i. owed - paid i + brings i) in
    act_roomy old es room owed count k one a later more entry reply wiring_so acts_so is_entry replied did.fits more_so (vec_capacity c.push_reserved.new.self - vec_len c.push_reserved.new.self) left left_so (omega (arith, left_so, here, used))
    (free_so one.ask reply owed (vec_len c.self.inside.entries) (vec_capacity c.self.inside.entries) (vec_len c.make_room.new.entries) (vec_capacity c.make_room.new.entries) (vec_len c.push_reserved.new.self) (vec_capacity c.push_reserved.new.self) (most (length old.acts) one.ask) left did.fits gained costs a.roomy.entries_room made.len made.entries_kept made.entries_room c.push_reserved.ensures.len c.push_reserved.ensures.capacity left_so)

pub returns-clause-added : goal.returns-clause-added
returns-clause-added c =
    let old = c.self.inside.places in
    let es = c.self.inside.entries.items in
    let room = vec_capacity c.self.inside.entries - vec_len c.self.inside.entries in
    let owed = c.self.inside.owed in
    let count = c.self.inside.seats in
    let k = c.args.actor in
    let one : Asked = record { place = c.args.place; ask = c.args.ask } in
    let made = c.in_ok-make_room.ensures in
    let a = acts_from old es room owed count k one c.args.self.now c.self.invariant c.self.view_is c.requires made.seated in
    let later = c.reply.new.self in
    let did = c.in_ok-reply.ensures in
    let entry = c.in_ok-reply.entry in
    let reply = c.in_ok-reply.reply in
    let wiring_so = did.wiring ∙ made.wiring in
    let acts_so = did.acts ∙ (λ i. made.acts i ++ act_after (made.wiring i) (made.acts i) k one.place one.ask ∷ []) in
    let is_entry = sym (λ i. entry_of (made.wiring i) (act_after (made.wiring i) (made.acts i) k one.place one.ask)) ∙ did.entry in
    let replied = sym (λ i. reply_of (scene_after (made.wiring i) (made.acts i) (number_at (made.wiring i) one.place)).0 one.ask) ∙ did.reply in
    let more = c.push_reserved.new.self.items in
    let more_so = c.push_reserved.ensures.items ∙ ap (λ (xs : List Entry). xs ++ entry ∷ []) made.items in
    subst (λ (x : Served). steps_in later.wiring later.acts k ≡ steps_in x.wiring x.acts k ++ (record { asked = one; reply = reply }) ∷ []) c.self.view_is (act_added old es room owed count k one a later more entry reply wiring_so acts_so is_entry replied did.fits more_so)

pub returns-clause-known : goal.returns-clause-known
returns-clause-known c =
    let old = c.self.inside.places in
    let made = c.in_ok-make_room.ensures in
    let replied = sym (λ i. reply_of (scene_after (made.wiring i) (made.acts i) (number_at (made.wiring i) c.args.place)).0 c.args.ask) ∙ c.in_ok-reply.ensures.reply in
    subst (λ (x : Served). IsReplyOf x.wiring c.in_ok-reply.reply) c.self.view_is (reply_named old.wiring old.acts (number_at old.wiring c.args.place) c.args.ask c.in_ok-reply.reply replied)

pub returns-clause-others : goal.returns-clause-others
returns-clause-others c =
    let old = c.self.inside.places in
    let es = c.self.inside.entries.items in
    let room = vec_capacity c.self.inside.entries - vec_len c.self.inside.entries in
    let owed = c.self.inside.owed in
    let count = c.self.inside.seats in
    let k = c.args.actor in
    let one : Asked = record { place = c.args.place; ask = c.args.ask } in
    let made = c.in_ok-make_room.ensures in
    let a = acts_from old es room owed count k one c.args.self.now c.self.invariant c.self.view_is c.requires made.seated in
    let later = c.reply.new.self in
    let did = c.in_ok-reply.ensures in
    let entry = c.in_ok-reply.entry in
    let reply = c.in_ok-reply.reply in
    let wiring_so = did.wiring ∙ made.wiring in
    let acts_so = did.acts ∙ (λ i. made.acts i ++ act_after (made.wiring i) (made.acts i) k one.place one.ask ∷ []) in
    let is_entry = sym (λ i. entry_of (made.wiring i) (act_after (made.wiring i) (made.acts i) k one.place one.ask)) ∙ did.entry in
    let replied = sym (λ i. reply_of (scene_after (made.wiring i) (made.acts i) (number_at (made.wiring i) one.place)).0 one.ask) ∙ did.reply in
    let more = c.push_reserved.new.self.items in
    let more_so = c.push_reserved.ensures.items ∙ ap (λ (xs : List Entry). xs ++ entry ∷ []) made.items in
    λ other apart. subst (λ (x : Served). steps_in later.wiring later.acts other ≡ steps_in x.wiring x.acts other) c.self.view_is (act_others old es room owed count k one a later more entry reply wiring_so acts_so is_entry replied did.fits more_so other apart)

pub returns-clause-made : goal.returns-clause-made
returns-clause-made c =
    let old = c.self.inside.places in
    let es = c.self.inside.entries.items in
    let room = vec_capacity c.self.inside.entries - vec_len c.self.inside.entries in
    let owed = c.self.inside.owed in
    let count = c.self.inside.seats in
    let k = c.args.actor in
    let one : Asked = record { place = c.args.place; ask = c.args.ask } in
    let made = c.in_ok-make_room.ensures in
    let a = acts_from old es room owed count k one c.args.self.now c.self.invariant c.self.view_is c.requires made.seated in
    let later = c.reply.new.self in
    let did = c.in_ok-reply.ensures in
    let entry = c.in_ok-reply.entry in
    let reply = c.in_ok-reply.reply in
    let wiring_so = did.wiring ∙ made.wiring in
    let acts_so = did.acts ∙ (λ i. made.acts i ++ act_after (made.wiring i) (made.acts i) k one.place one.ask ∷ []) in
    let is_entry = sym (λ i. entry_of (made.wiring i) (act_after (made.wiring i) (made.acts i) k one.place one.ask)) ∙ did.entry in
    let replied = sym (λ i. reply_of (scene_after (made.wiring i) (made.acts i) (number_at (made.wiring i) one.place)).0 one.ask) ∙ did.reply in
    let more = c.push_reserved.new.self.items in
    let more_so = c.push_reserved.ensures.items ∙ ap (λ (xs : List Entry). xs ++ entry ∷ []) made.items in
    subst (λ (x : Served). more ≡ with_made x.entries (entry_for x.wiring x.entries k one)) c.self.view_is (act_made old es room owed count k one a later more entry reply wiring_so acts_so is_entry replied did.fits more_so)

pub returns-clause-heard : goal.returns-clause-heard
returns-clause-heard c =
    let old = c.self.inside.places in
    let es = c.self.inside.entries.items in
    let room = vec_capacity c.self.inside.entries - vec_len c.self.inside.entries in
    let owed = c.self.inside.owed in
    let count = c.self.inside.seats in
    let k = c.args.actor in
    let one : Asked = record { place = c.args.place; ask = c.args.ask } in
    let made = c.in_ok-make_room.ensures in
    let a = acts_from old es room owed count k one c.args.self.now c.self.invariant c.self.view_is c.requires made.seated in
    let later = c.reply.new.self in
    let did = c.in_ok-reply.ensures in
    let entry = c.in_ok-reply.entry in
    let reply = c.in_ok-reply.reply in
    let wiring_so = did.wiring ∙ made.wiring in
    let acts_so = did.acts ∙ (λ i. made.acts i ++ act_after (made.wiring i) (made.acts i) k one.place one.ask ∷ []) in
    let is_entry = sym (λ i. entry_of (made.wiring i) (act_after (made.wiring i) (made.acts i) k one.place one.ask)) ∙ did.entry in
    let replied = sym (λ i. reply_of (scene_after (made.wiring i) (made.acts i) (number_at (made.wiring i) one.place)).0 one.ask) ∙ did.reply in
    let more = c.push_reserved.new.self.items in
    let more_so = c.push_reserved.ensures.items ∙ ap (λ (xs : List Entry). xs ++ entry ∷ []) made.items in
    subst (λ (x : Served). replies_of later.wiring more k ≡ replies_of x.wiring x.entries k ++ reply ∷ []) c.self.view_is (act_heard old es room owed count k one a later more entry reply wiring_so acts_so is_entry replied did.fits more_so)

pub returns-clause-unseated : goal.returns-clause-unseated
returns-clause-unseated c = λ free far.
    let is : nat_lt c.args.actor c.self.inside.seats ≡ true = c.in_ok-make_room.ensures.seated free in
    let few : c.args.actor < c.self.inside.seats = grind (arith, nat_tests, is) in
    let count = c.self.invariant.seated in
    let same = ap (λ (x : Served). length x.wiring.posters) c.self.view_is in
    absurd (omega (arith, few, count, same, far))
