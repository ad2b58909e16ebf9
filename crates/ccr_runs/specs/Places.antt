-- Which note a place of the wiring gives to an ask: none where the ask's condition isn't met.
use Rattle.std.specs.Prelude.{ℕ, ◌+◌, Bool, true, false, List, [], ◌∷◌, length, map, filter, Option, Some, None, if◌then◌else◌}
use Rattle.std.specs.List.{slice_get}
use Rattle.std.specs.Option.{option_map_or}
use Rattle.ccr_base.specs.declared.names.MsgId.{MsgId}
use Rattle.ccr_base.specs.declared.names.Place.{Place}
use Rattle.ccr_base.specs.declared.names.Place.TheVariants as places
use Rattle.ccr_base.specs.declared.policies.Group.{Group}
use Rattle.ccr_base.specs.declared.tasks.By.{By}
use Rattle.ccr_base.specs.declared.tasks.Task.{Task}
use Rattle.ccr_wiring.specs.declared.parts.ArbiterPart.{ArbiterPart}
use Rattle.ccr_wiring.specs.declared.parts.BranchPart.{BranchPart}
use Rattle.ccr_wiring.specs.declared.parts.Kind.{Kind}
use Rattle.ccr_wiring.specs.declared.parts.Kind.TheVariants as kinds
use Rattle.ccr_wiring.specs.declared.parts.Parts.{Parts}
use Rattle.ccr_wiring.specs.Groups.{is_once}
use Rattle.ccr_wiring.specs.Wirings.{Placement, placements, policy_of, branches_before}
use Rattle.ccr_model.specs.Interleaves.{is_placement_in}
use Rattle.ccr_places.specs.declared.notes.Note.{Note}
use Rattle.ccr_places.specs.declared.notes.Note.TheVariants as notes
use Rattle.ccr_places.specs.Ports.{PortState}
use Rattle.ccr_places.specs.Ports as ports
use Rattle.ccr_places.specs.Arbiters.{ArbiterState}
use Rattle.ccr_places.specs.Arbiters as arbiters
use Rattle.ccr_places.specs.Interleaves.{InterleaveState}
use Rattle.ccr_places.specs.Interleaves as interleaves
use Rattle.ccr_places.specs.Sites.{SiteState}
use Rattle.ccr_places.specs.Sites as sites
use Rattle.ccr_places.specs.Queues.{QueueState}
use Rattle.ccr_places.specs.Queues as queues
use Rattle.ccr_places.specs.Meters.{MeterState}
use Rattle.ccr_places.specs.Meters as meters
use Rattle.ccr_claim.specs.declared.asks.Ask.{Ask}
use Rattle.ccr_claim.specs.declared.asks.Ask.TheVariants as asks

-- ---- what each place keeps after these notes of its own

-- the port after these notes
abbrev pub port_after : ℕ → List Note → PortState
port_after number earlier = ports.kept (ports.start number) earlier

-- the number of the arbiter's first branch
abbrev pub first_branch : Parts → ℕ → ℕ
first_branch wiring number = branches_before number wiring.arbiters

-- whether the first branch fires but once
abbrev pub fires_once : List BranchPart → Bool
fires_once branches = option_map_or (λ (b : BranchPart). is_once b.group) (slice_get branches 0) false

-- a receiver or a choice
abbrev pub arbiter_after : ℕ → ArbiterPart → List Note → ArbiterState
arbiter_after first part earlier = arbiters.kept (by_kind part.kind) earlier
  where
    by_kind : Kind → ArbiterState
    by_kind kinds.Receive = arbiters.receiver first (fires_once part.branches)
    by_kind kinds.Choice = arbiters.choice first (length part.branches)
    by_kind kinds.Interleave = arbiters.receiver first false

-- the numbers of those that are branches of the domain, of which the first has this number
abbrev pub branches_from : ℕ → ℕ → List Placement → List ℕ
branches_from domain branch [] = []
branches_from domain branch (s ∷ ss) = if is_placement_in domain s then branch ∷ branches_from domain (branch + 1) ss else branches_from domain (branch + 1) ss

-- the groups of the domain's branches
abbrev pub groups_in : Parts → ℕ → List Group
groups_in wiring domain = map (λ (s : Placement). s.branch.group) (filter (is_placement_in domain) (placements wiring))

-- a domain of Interleaves, which has the branches of all that are combined
abbrev pub interleave_after : Parts → ℕ → List Note → InterleaveState
interleave_after wiring domain earlier = interleaves.kept (interleaves.start (branches_from domain 0 (placements wiring)) (groups_in wiring domain)) earlier

-- the await site after these notes
abbrev pub site_after : ℕ → ℕ → List Note → SiteState
site_after branch site earlier = sites.kept (sites.start branch site) earlier

-- the queue after these notes
abbrev pub queue_after : Parts → ℕ → List Note → QueueState
queue_after wiring number earlier = queues.kept (queues.start number (policy_of wiring number)) earlier

-- the meter after these notes
abbrev pub meter_after : ℕ → List Note → MeterState
meter_after budget earlier = meters.kept (meters.start budget) earlier

-- ---- the note, where the condition is met

-- the note, where the condition is met
abbrev pub given : Bool → Note → Option Note
given true note = Some note
given false note = None

-- what a port notes of an ask; nothing where it isn't for a port or its condition isn't met
abbrev pub port_note : PortState → Ask → Option Note
port_note port (asks.Post message) = given (ports.may_post port message) (notes.Post message)
port_note port (asks.Claim task slot) = given (ports.may_claim port task slot) (notes.Claim task slot (ports.claim_note port slot))
port_note port (asks.Consume task) = given (ports.may_consume port task) (notes.Consume task)
port_note port (asks.Free task) = given (ports.may_free port task) (notes.Free task)
port_note port _ = None

-- dead for this cause, or fired with these cuts
abbrev pub commit_note : Task → List MsgId → Option By → Note → Note
commit_note task messages None fires = fires
commit_note task messages (Some by) fires = notes.Dead task.id task.spot by

-- what an arbiter notes of an ask; nothing where it isn't for an arbiter or its condition isn't met
abbrev pub arbiter_note : ArbiterState → Ask → Option Note
arbiter_note arbiter (asks.Commit task messages) = given (arbiters.may_commit arbiter task) (commit_note task messages (arbiters.dead_by arbiter) (notes.Fired task.id task.spot messages []))
arbiter_note arbiter (asks.Over task root how) = given (arbiters.may_over arbiter root) (notes.Over task root how)
arbiter_note arbiter _ = None

-- what an Interleave notes of an ask; nothing where it isn't for an Interleave or its condition isn't met
abbrev pub interleave_note : InterleaveState → Ask → Option Note
interleave_note place (asks.Commit task messages) =
    given (interleaves.may_commit place task)
    (commit_note task messages (interleaves.dead_by place) (notes.Fired task.id task.spot messages (interleaves.cut_note place task.spot)))
interleave_note place asks.Admit = Some (notes.Admit (interleaves.admit_note place))
interleave_note place (asks.Over task root how) = given (interleaves.may_over place root) (notes.Over task root how)
interleave_note place _ = None

-- what an await site notes of an ask; nothing where it isn't for an await site or its condition isn't met
abbrev pub site_note : SiteState → Ask → Option Note
site_note state (asks.Commit task messages) = given (sites.may_commit state task) (commit_note task messages (sites.dead_by state) (notes.Fired task.id task.spot messages []))
site_note state (asks.Suspend task) = Some (notes.Suspend task.id)
site_note state _ = None

-- what a queue notes of an ask; nothing where it isn't for a queue or its condition isn't met
abbrev pub queue_note : QueueState → Ask → Option Note
queue_note queue (asks.Book task resumes) = given (queues.may_book queue task) (notes.Book task resumes (queues.book_note queue resumes))
queue_note queue (asks.Unbook task) = given (queues.may_unbook queue task) (notes.Unbook task)
queue_note queue (asks.Put task) = given (queues.may_put queue task.id) (notes.Put task.id (queues.put_note queue))
queue_note queue asks.Take = Some (notes.Take (queues.take_note queue))
queue_note queue _ = None

-- what the meter notes of an ask; nothing where it isn't for the meter or its condition isn't met
abbrev pub meter_note : MeterState → Ask → Option Note
meter_note meter asks.Draw = Some (notes.Draw (meters.draw_note meter))
meter_note meter asks.Leave = given (meters.may_leave meter) notes.Leave
meter_note meter asks.Left = Some (notes.Left meter.left)
meter_note meter _ = None

-- an arbiter of this kind
abbrev pub note_by_kind : Parts → ℕ → Kind → ArbiterPart → List Note → Ask → Option Note
note_by_kind wiring number kinds.Receive part earlier ask = arbiter_note (arbiter_after (first_branch wiring number) part earlier) ask
note_by_kind wiring number kinds.Choice part earlier ask = arbiter_note (arbiter_after (first_branch wiring number) part earlier) ask
note_by_kind wiring number kinds.Interleave part earlier ask = interleave_note (interleave_after wiring number earlier) ask

-- what the arbiter of this number notes of an ask; nothing where there is none
abbrev pub note_at_arbiter : Parts → ℕ → Option ArbiterPart → List Note → Ask → Option Note
note_at_arbiter wiring number None earlier ask = None
note_at_arbiter wiring number (Some part) earlier ask = note_by_kind wiring number part.kind part earlier ask

-- the note that the place gives to the ask after these notes of its own
abbrev pub note_of : Parts → Place → List Note → Ask → Option Note
note_of wiring (places.Port number) earlier ask = port_note (port_after number earlier) ask
note_of wiring (places.Arbiter number) earlier ask = note_at_arbiter wiring number (slice_get wiring.arbiters number) earlier ask
note_of wiring (places.Site branch site) earlier ask = site_note (site_after branch site earlier) ask
note_of wiring (places.Queue number) earlier ask = queue_note (queue_after wiring number earlier) ask
note_of wiring places.Meter earlier ask = meter_note (meter_after wiring.budget earlier) ask
