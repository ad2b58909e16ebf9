-- Which exit statuses may come of which command.
use Rattle.std.proofs.Common.{◌≡◌, true, refl, arith, inl, inr}
use Rattle.std.specs.Prelude.{Contains}
use Rattle.ccr_io.specs.Faults.{Rose}
use Rattle.ccr_commands.specs.declared.status.Status.{Status}
use Rattle.ccr_commands.specs.declared.status.Status.TheVariants.{Done, Usage, Refused, ReadFault, WriteFault, Memory, Shed, Illegal, TooLong}
use Rattle.ccr_words.specs.declared.requests.Command.{Command}
use Rattle.ccr_words.specs.declared.requests.Command.TheVariants.{Check, Run, Verify, Record, Replay, Steps, Steady, Service, Expand}
use Rattle.ccr_commands.specs.Exits.{exit_shed, exit_illegal}
use Rattle.ccr_commands.specs.Statuses.{is_silent}
use Rattle.ccr_commands.specs.Answers.{may_end}
use Rattle.ccr_cli.specs.Ends.{statuses_of}

-- what follows of each status follows
pub by_status : (status : Status) (X : Type 0) → (status ≡ Done → X) → (status ≡ Usage → X) → (status ≡ Refused → X) → (status ≡ ReadFault → X) → (status ≡ WriteFault → X) → (status ≡ Memory → X) → (status ≡ Shed → X) → (status ≡ Illegal → X) → (status ≡ TooLong → X) → X
by_status Done X done usage refused read write memory shed illegal long = done refl
by_status Usage X done usage refused read write memory shed illegal long = usage refl
by_status Refused X done usage refused read write memory shed illegal long = refused refl
by_status ReadFault X done usage refused read write memory shed illegal long = read refl
by_status WriteFault X done usage refused read write memory shed illegal long = write refl
by_status Memory X done usage refused read write memory shed illegal long = memory refl
by_status Shed X done usage refused read write memory shed illegal long = shed refl
by_status Illegal X done usage refused read write memory shed illegal long = illegal refl
by_status TooLong X done usage refused read write memory shed illegal long = long refl

-- where nothing is written, reading failed or memory ran out
pub by_silent : (status : Status) (X : Type 0) → is_silent status ≡ true → (status ≡ ReadFault → X) → (status ≡ Memory → X) → X
by_silent Done X silent read memory = absurd cc
by_silent Usage X silent read memory = absurd cc
by_silent Refused X silent read memory = absurd cc
by_silent ReadFault X silent read memory = read refl
by_silent WriteFault X silent read memory = absurd cc
by_silent Memory X silent read memory = memory refl
by_silent Shed X silent read memory = absurd cc
by_silent Illegal X silent read memory = absurd cc
by_silent TooLong X silent read memory = absurd cc

-- where a wiring was read, all was done, a task was shed or a fault was found
pub by_end : (command : Command) (status : Status) (X : Type 0) → may_end command status ≡ true → (status ≡ Done → X) → (status ≡ Shed → X) → (status ≡ Illegal → X) → X
by_end command Done X may done shed illegal = done refl
by_end command Usage X may done shed illegal = absurd cc
by_end command Refused X may done shed illegal = absurd cc
by_end command ReadFault X may done shed illegal = absurd cc
by_end command WriteFault X may done shed illegal = absurd cc
by_end command Memory X may done shed illegal = absurd cc
by_end command Shed X may done shed illegal = shed refl
by_end command Illegal X may done shed illegal = illegal refl
by_end command TooLong X may done shed illegal = absurd cc

pub shed_may_come : (command : Command) → may_end command Shed ≡ true → Contains (statuses_of command) exit_shed
shed_may_come Check may = absurd cc
shed_may_come (Run workers schedule) may = (2, omega arith, refl)
shed_may_come Verify may = absurd cc
shed_may_come (Record workers) may = absurd cc
shed_may_come Replay may = absurd cc
shed_may_come Steps may = absurd cc
shed_may_come Steady may = absurd cc
shed_may_come (Service workers) may = absurd cc
shed_may_come Expand may = absurd cc

pub fault_may_come : (command : Command) → may_end command Illegal ≡ true → Contains (statuses_of command) exit_illegal
fault_may_come Check may = absurd cc
fault_may_come (Run workers schedule) may = absurd cc
fault_may_come Verify may = (2, omega arith, refl)
fault_may_come (Record workers) may = absurd cc
fault_may_come Replay may = absurd cc
fault_may_come Steps may = absurd cc
fault_may_come Steady may = absurd cc
fault_may_come (Service workers) may = absurd cc
fault_may_come Expand may = absurd cc

-- a count that is always 0 hasn't risen
pub never_rises : Rose 0 0 → ⊥
never_rises (inl less) = omega (arith, less)
never_rises (inr last) = absurd cc
