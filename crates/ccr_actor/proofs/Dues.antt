-- What an actor asks next, and what is due to it once it has sent that.
use Rattle.std.proofs.Common.{◌≡◌, Option, None, Some, refl, ap, ◌∙◌}
use Rattle.std.specs.Option.{option_map}
use Rattle.ccr_base.specs.declared.names.Place.{Place}
use Rattle.ccr_claim.specs.declared.asks.Ask.{Ask}
use Rattle.ccr_claim.specs.declared.asks.Asked.{Asked}
use Rattle.ccr_claim.specs.Asks.{due_of}
use Rattle.ccr_actor.specs.Actors.{Turn, settle, admit, drive, go_on, stop, turn}
use Rattle.ccr_actor.specs.Acting.{Acting, asking_by, asking_of, due_in, next, pair_of, sent}

-- the ask that was moved out with its place
pub asks_of : (o : Option Asked) (place : Place) (ask : Ask) → Some (place, ask) ≡ option_map pair_of o → o ≡ Some (record { place = place; ask = ask })
asks_of None place ask is = cc is
asks_of (Some one) place ask is =
    let same : pair_of one ≡ (place, ask) = cc is in
    let P : (Place × Ask) → Option Asked = λ p. Some (record { place = p.0; ask = p.1 }) in
    ap P same

due_same : (part : Turn) (one : Asked) → due_in (asking_by part one.ask) ≡ due_of one.ask
due_same (settle first more) one = refl
due_same (admit domain more) one = refl
due_same (drive spot more) one = refl
due_same go_on one = refl
due_same stop one = refl

-- it is an answer to that ask
pub due_sent : (a : Acting) (one : Asked) → next a ≡ Some one → due_in (sent a).asking ≡ due_of one.ask
due_sent a one asks = ap (λ o. due_in (asking_of (turn a.state) o)) asks ∙ due_same (turn a.state) one
