use Rattle.std.proofs.Common.{◌≡◌, ◌≢◌, ℕ, suc, max, ◌++◌, [], ◌∷◌, List, length, drop, sym, ap, ◌∙◌, subst}
use Rattle.std.specs.Prelude.{slice_index, slice_set}
use Rattle.ccr_base.proofs.Lists.{take_front}
use Rattle.ccr_object.specs.declared.deed.Deed.{Deed}
use Rattle.ccr_object.specs.declared.object.PlaceObject.{PlaceObject}
use Rattle.ccr_object.specs.Objects.{after_at}
use Rattle.ccr_runs.specs.declared.acts.Act.{Act}
use Rattle.ccr_net.specs.Acted.{act_after, act_at, deed_at, scene_after, stamp_of, placed_in, seen_acts, IsLeft, PlainState}
use Rattle.ccr_runs.specs.Played.{position_of}
use Rattle.ccr_net.proofs.Played.OneMoreAct.{IsLeft-act, act_here, seen-push}
use Rattle.ccr_net.proofs.Played.AnswersFit.{fitting_answer}
use Rattle.ccr_net.proofs.plain.PlainPlaces.act.Goals as goal

-- the stamp, by what the acts left
stamp_is : (c : goal.After-push_reserved) → c.next_stamp-stamp.result ≡ suc (max (slice_index c.self.inside.place_stamps.items c.number-number.result) (slice_index c.self.inside.actor_stamps.items c.args.actor))
stamp_is c =
    c.next_stamp-stamp.ensures
    ∙ ap (λ ns. suc (max (slice_index ns c.number-number.result) (slice_index c.deref-2.result.now c.args.actor))) c.deref.ensures.value
    ∙ ap (λ ns. suc (max (slice_index c.self.inside.place_stamps.items c.number-number.result) (slice_index ns c.args.actor))) c.deref-2.ensures.value

-- the acts now
acts_are : (c : goal.After-push_reserved) → seen_acts c.push_reserved.new.self.items ≡ seen_acts c.self.inside.acts.items ++ act_at (scene_after c.self.inside.wiring.now (seen_acts c.self.inside.acts.items)) (stamp_of c.args.actor (seen_acts c.self.inside.acts.items)) c.number-number.result c.args.actor c.args.ask ∷ []
acts_are c =
    let left = c.self.invariant in
    let number = c.number-number.result in
    let actor = c.args.actor in
    let w = c.self.inside.wiring.now in
    let acts = seen_acts c.self.inside.acts.items in
    let stamps = stamp_is c ∙ ap (λ n. suc (max n (slice_index c.self.inside.actor_stamps.items actor))) (left.place_last number) ∙ ap (λ n. suc (max (scene_after w acts number).1 n)) (left.actor_last actor) in
    let gives = c.in_ok-answer.ensures.deed ∙ ap (λ xs. deed_at (placed_in xs number) c.args.ask) c.deref_mut.ensures.value ∙ ap (λ x. deed_at x c.args.ask) (left.stand number) in
    ap seen_acts c.push_reserved.ensures.items
    ∙ seen-push c.self.inside.acts.items c.of.result (act_at (scene_after w acts) (stamp_of actor acts) number actor c.args.ask) (c.of.ensures ∙ act_here w acts number actor c.args.ask c.next_stamp-stamp.result c.in_ok-answer.deed stamps gives)

pub invariant_of-self-2 : goal.invariant_of-self-2
invariant_of-self-2 c =
    let number = c.number-number.result in
    let actor = c.args.actor in
    let w = c.self.inside.wiring.now in
    let acts = seen_acts c.self.inside.acts.items in
    let same : length c.answer_at.new.objects ≡ length c.self.inside.objects.items = c.answer_at.auto.objects ∙ ap length c.deref_mut.ensures.value in
    let whole = take_front c.answer_at.new.objects (drop (length c.answer_at.new.objects) c.self.inside.objects.items) c.self.inside.objects.len (c.self.inside.objects.ok.0 ∙ sym same) in
    let here = c.in_ok-answer.ensures.after ∙ ap (λ xs. after_at (placed_in xs number) c.args.ask) c.deref_mut.ensures.value in
    let others = λ (k : ℕ) (other : k ≢ number). c.in_ok-answer.ensures.others k other ∙ ap (λ xs. placed_in xs k) c.deref_mut.ensures.value in
    let now = IsLeft-act w c.self.inside.directory c.self.inside.objects.items c.answer_at.new.objects c.self.inside.place_stamps.items c.self.inside.actor_stamps.items acts number actor c.next_stamp-stamp.result c.args.ask c.self.invariant c.number-number.ensures.below c.requires.seat (stamp_is c) same here others in
    let P : List PlaceObject → List (Act Deed) → Type 0 = λ objects done. IsLeft w c.self.inside.directory objects (slice_set c.self.inside.place_stamps.items number c.next_stamp-stamp.result) (slice_set c.self.inside.actor_stamps.items actor c.next_stamp-stamp.result) done in
    subst (λ objects. P objects (seen_acts c.push_reserved.new.self.items)) (sym whole) (subst (P c.answer_at.new.objects) (sym (acts_are c)) now)

pub returns-clause-acts : goal.returns-clause-acts
returns-clause-acts c =
    let number_is = c.number-number.ensures.number ∙ ap (position_of c.args.place) c.self.invariant.all in
    let w = c.self.inside.wiring.now in
    let acts = seen_acts c.self.inside.acts.items in
    let all = acts_are c ∙ ap (λ n. acts ++ act_at (scene_after w acts) (stamp_of c.args.actor acts) n c.args.actor c.args.ask ∷ []) number_is in
    let P : PlainState → Type 0 = λ state. seen_acts c.push_reserved.new.self.items ≡ state.acts ++ act_after state.wiring state.acts c.args.actor c.args.place c.args.ask ∷ [] in
    subst P c.self.view_is all

pub returns-clause-fits : goal.returns-clause-fits
returns-clause-fits c = fitting_answer c.args.ask c.in_ok-answer.answer c.in_ok-answer.ensures.fits
