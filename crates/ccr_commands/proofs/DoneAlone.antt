-- Where the status is that of what was done, and a law holds.
use Rattle.std.proofs.Common.{◌≡◌, refl}
use Rattle.ccr_commands.specs.declared.status.Status.{Status}
use Rattle.ccr_commands.specs.declared.status.Status.TheVariants.{Done, Usage, Refused, ReadFault, WriteFault, Memory, Shed, Illegal, TooLong}
use Rattle.ccr_commands.specs.Statuses.{IsDoneAnd}

-- what the law gives at `Done` is so at the status
pub done_alone : (status : Status) (law : Type 0) (P : Status → Type 0) → IsDoneAnd status law → (law → P Done) → P status
done_alone Done law P holds then = then holds
done_alone Usage law P holds then = absurd holds
done_alone Refused law P holds then = absurd holds
done_alone ReadFault law P holds then = absurd holds
done_alone WriteFault law P holds then = absurd holds
done_alone Memory law P holds then = absurd holds
done_alone Shed law P holds then = absurd holds
done_alone Illegal law P holds then = absurd holds
done_alone TooLong law P holds then = absurd holds

-- the status is `Done`
pub done_status : (status : Status) (law : Type 0) → IsDoneAnd status law → status ≡ Done
done_status status law holds = done_alone status law (λ (s : Status). s ≡ Done) holds (λ _. refl)
