-- The totals of a history.
use Rattle.std.specs.Prelude.{◌+◌, ◌-◌, Bool, true, false, not, List, length, filter}
use Rattle.ccr_base.specs.declared.messages.Msg.{Msg}
use Rattle.ccr_model.specs.declared.history.Event.{Event}
use Rattle.ccr_model.specs.declared.history.Event.TheVariants.{End}
use Rattle.ccr_model.specs.declared.history.EndHow.TheVariants.{Done, Failed, Yield, Shed}
use Rattle.ccr_model.specs.declared.history.Totals.{Totals}
use Rattle.ccr_base.specs.Names.{has_message}
use Rattle.ccr_model.specs.Posts.{posts, taken}
use Rattle.ccr_model.specs.Firings.{firings, cut, dropped}

-- an end as done
abbrev pub is_done : Event → Bool
is_done (End task Done) = true
is_done _ = false

-- an end as failed
abbrev pub is_failed : Event → Bool
is_failed (End task (Failed value)) = true
is_failed _ = false

-- an end as shed
abbrev pub is_shed : Event → Bool
is_shed (End task Shed) = true
is_shed _ = false

-- an end as suspended
abbrev pub is_yield : Event → Bool
is_yield (End task Yield) = true
is_yield _ = false

-- how often each thing happened; unended tasks fired and have neither ended nor been cut or dropped
abbrev pub totals : List Event → Totals
totals history =
    let done = length (filter is_done history) in
    let failed = length (filter is_failed history) in
    let shed = length (filter is_shed history) in
    let yielded = length (filter is_yield history) in
    record {
      posted = length (posts history);
      taken = length (taken history);
      held = length (filter (λ (m : Msg). not (has_message (taken history) m.id)) (posts history));
      fired = length (firings history);
      done = done;
      failed = failed;
      shed = shed;
      yielded = yielded;
      cut = length (cut history);
      dropped = length (dropped history);
      unended = length (firings history) - (done + failed + shed + yielded + length (cut history) + length (dropped history));
    }
