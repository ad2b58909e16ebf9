use Rattle.std.proofs.Common.{◌∙◌, [], ◌∷◌, List, sym, ap}
use Rattle.std.specs.Prelude.{ℕ}
use Rattle.ccr_base.specs.declared.messages.Sent.{Sent}
use Rattle.ccr_wiretext.specs.contracts.draft.Draft.{the_view}
use Rattle.ccr_wiretext.specs.Blocks.{apart}
use Rattle.ccr_wiretext.specs.Drafts.{Declared, with_post}
use Rattle.ccr_wiretext.proofs.PlainPosts.{post_added}
use Rattle.ccr_wiretext.proofs.draft.Draft.plain_post.Goals as goal

pub returns-clause-taken : goal.returns-clause-taken
returns-clause-taken c = λ is digits spelled.
    let part = c.in-Poster.part in
    let post : List ℕ → List ℕ → Sent = λ value causes. record { port = c.in-Some.port; value = value; causes = causes } in
    let with : Declared → List ℕ → List ℕ → Declared = λ draft value causes. with_post (apart draft) part (post value causes) in
    let block = ap (λ (draft : Declared). draft.block) (sym c.self.view_is) ∙ sym c.in-Poster.ensures.value in
    let added = c.in_ok-add_post-in-Poster.ensures
    ∙ (ap (λ (value : List ℕ). with (the_view c.self.inside) value c.new.result) c.one.ensures
    ∙ (ap (λ (causes : List ℕ). with (the_view c.self.inside) (c.args.number ∷ []) causes) c.new.ensures
    ∙ ap (λ (draft : Declared). with draft (c.args.number ∷ []) []) c.self.view_is)) in
    post_added c.args.self.now c.add_post.new.self c.args.name.now digits c.args.number c.in-Some.port part c.in-Some.ensures spelled block added
