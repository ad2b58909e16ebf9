-- What one more event adds to the lists of a history.
use Rattle.std.proofs.Common.{◌≡◌, ◌||◌, List, [], ◌∷◌, ◌++◌, arith}
use Rattle.std.proofs.lemmas.Grind.{common_steps}
use Rattle.ccr_base.specs.declared.names.TaskId.{TaskId}
use Rattle.ccr_base.specs.declared.names.MsgId.{MsgId}
use Rattle.ccr_base.specs.declared.names.Spot.{Spot}
use Rattle.ccr_model.specs.declared.history.Event.{Event}
use Rattle.ccr_model.specs.declared.history.Event.TheVariants.{Fire}
use Rattle.ccr_model.specs.Posts.{posts, post_of}
use Rattle.ccr_model.specs.Firings.{firings, firing_of, fired, cut, ever_admitted, admitted_by, put, put_by, dropped, dropped_by, started, started_by, ended, ended_by, yielded, yielded_by, last_segments, last_by}
use Rattle.ccr_model.specs.Legal.{has_shed}
use Rattle.ccr_model.specs.Counts.{is_shed as is_shed_end}

pub posts-push : (h : List Event) (e : Event) → posts (h ++ e ∷ []) ≡ posts h ++ post_of e
posts-push h e = grind (arith, common_steps)

pub posts-append : (h es : List Event) → posts (h ++ es) ≡ posts h ++ posts es
posts-append h es = grind (arith, common_steps)

pub firings-push : (h : List Event) (e : Event) → firings (h ++ e ∷ []) ≡ firings h ++ firing_of e
firings-push h e = grind (arith, common_steps)

pub fired-fire : (h : List Event) (t : TaskId) (s : Spot) (ms : List MsgId) (cs : List TaskId) → fired (h ++ Fire t s ms cs ∷ []) ≡ fired h ++ t ∷ []
fired-fire h t s ms cs = grind (arith, common_steps)

pub put-push : (h : List Event) (e : Event) → put (h ++ e ∷ []) ≡ put h ++ put_by e
put-push h e = grind (arith, common_steps)

pub started-push : (h : List Event) (e : Event) → started (h ++ e ∷ []) ≡ started h ++ started_by e
started-push h e = grind (arith, common_steps)

pub dropped-push : (h : List Event) (e : Event) → dropped (h ++ e ∷ []) ≡ dropped h ++ dropped_by e
dropped-push h e = grind (arith, common_steps)

pub ended-push : (h : List Event) (e : Event) → ended (h ++ e ∷ []) ≡ ended h ++ ended_by e
ended-push h e = grind (arith, common_steps)

pub yielded-push : (h : List Event) (e : Event) → yielded (h ++ e ∷ []) ≡ yielded h ++ yielded_by e
yielded-push h e = grind (arith, common_steps)

pub last-push : (h : List Event) (e : Event) → last_segments (h ++ e ∷ []) ≡ last_segments h ++ last_by e
last-push h e = grind (arith, common_steps)

pub ever_admitted-push : (h : List Event) (e : Event) → ever_admitted (h ++ e ∷ []) ≡ ever_admitted h ++ admitted_by e
ever_admitted-push h e = grind (arith, common_steps)

pub cut-push : (h : List Event) (e : Event) → cut (h ++ e ∷ []) ≡ cut h ++ cut (e ∷ [])
cut-push h e = grind (arith, common_steps)

pub has_shed-push : (h : List Event) (e : Event) → has_shed (h ++ e ∷ []) ≡ has_shed h || is_shed_end e
has_shed-push h e = grind (arith, common_steps)
