use Rattle.std.proofs.Common.{◌≡◌, List, ℕ, Ok, ap, ◌∙◌}
use Rattle.std.proofs.lemmas.Result.{IfOk-weaker}
use Rattle.ccr_replay.specs.Reading.{reading_record}
use Rattle.ccr_replay.specs.Records.{record_text}
use Rattle.ccr_replay.proofs.records.write_record.Goals as goal

pub returns-clause-again : goal.returns-clause-again
returns-clause-again c = λ wiring reads short few low.
    IfOk-weaker c.put_record.result
    (λ (text : List ℕ). text ≡ record_text c.args.wiring_text.now c.args.workers c.args.turns.now)
    (λ (text : List ℕ). reading_record text ≡ Ok (record { wiring = wiring; workers = c.args.workers; turns = c.args.turns.now }))
    (λ text is. ap reading_record is ∙ c.records_are_read_again.ensures c.args.wiring_text.now wiring c.args.workers c.args.turns.now reads short few low)
    c.put_record.ensures
