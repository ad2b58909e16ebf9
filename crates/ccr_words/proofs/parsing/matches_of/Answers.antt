use Rattle.std.proofs.Common.{◌≡◌, ◌∙◌, ℕ, List, [], ap, sym, subst, map, inl, inr}
use Rattle.std.specs.Borrow.{Bor}
use Rattle.clap.specs.Words.{App, app_of, fault_of, found_of, is_simple, is_simple_and_free, matches_of, rows_of, IsAmong, kind_of}
use Rattle.ccr_words.specs.Clap.{app}
use Rattle.ccr_words.proofs.Rules.{app_free, app_simple}
use Rattle.ccr_words.proofs.Bundles.{bundles}
use Rattle.ccr_words.proofs.Ends.{has_given, refuses}
use Rattle.ccr_words.proofs.parsing.matches_of.Goals as goal

pub returns-in-Ok : goal.returns-in-Ok
returns-in-Ok c =
    let words : List (List ℕ) = map (λ (t : Bor (List ℕ)). t.now) c.args.texts.now in
    let app_is : app_of c.in_ok-clap_command.field-0 ≡ app = c.in_ok-clap_command.ensures in
    let none : fault_of app words ≡ [] = sym (ap (λ (a : App). fault_of a words) app_is) ∙ c.in-Ok.ensures.kinds (ap is_simple_and_free app_is ∙ app_free) in
    let same : rows_of (found_of c.in-Ok.matches) ≡ matches_of app words = (c.in-Ok.ensures.matches (ap is_simple app_is ∙ app_simple)).0 ∙ ap (λ (a : App). matches_of a words) app_is in
    has_given words c.in-Ok.matches (bundles words c.requires) none same

pub returns : goal.returns
returns c =
    let words : List (List ℕ) = map (λ (t : Bor (List ℕ)). t.now) c.args.texts.now in
    let app_is : app_of c.in_ok-clap_command.field-0 ≡ app = c.in_ok-clap_command.ensures in
    let faults = c.in-Err.ensures.kinds (ap is_simple_and_free app_is ∙ app_free) in
    elim faults [
      | inl memory ↦ absurd (c.in_default.not-OutOfMemory (c.kind.ensures ∙ memory))
      | inr among ↦ refuses words (kind_of c.in-Err.error) (bundles words c.requires) (subst (λ (a : App). IsAmong (kind_of c.in-Err.error) (fault_of a words)) app_is among)
    ]
