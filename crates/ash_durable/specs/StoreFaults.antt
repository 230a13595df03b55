-- The faults of a store: the codes by which they are reported, and which of them are mishaps.
use Rattle.std.specs.Prelude.{ℕ, List, codes}
use Rattle.ash_journal.specs.JournalCodes.{create_code, open_code}
use Rattle.ash_journal.specs.declared.error.CreateFault.TheVariants as creating
use Rattle.ash_journal.specs.declared.error.OpenFault.TheVariants as opening
use Rattle.ash_objects.specs.declared.restoring.TableFault.{TableFault}
use Rattle.ash_objects.specs.declared.restoring.TableFault.TheVariants as boxes
use Rattle.ash_replay.specs.declared.fault.ReplayFault.{ReplayFault}
use Rattle.ash_replay.specs.declared.fault.ReplayFault.TheVariants as replaying
use Rattle.ash_durable.specs.declared.fault.StoreFault.{StoreFault}
use Rattle.ash_durable.specs.declared.fault.StoreFault.TheVariants as faults

-- the number and the name of a fault
abbrev pub code_of : StoreFault → List ℕ
code_of (faults.Create fault) = create_code fault
code_of (faults.Open fault) = open_code fault
code_of faults.OtherInterface = codes "504 OtherInterface"
code_of faults.GenerationSpent = codes "511 GenerationSpent"
code_of (faults.PoolShort kind) = codes "505 PoolShort"
code_of (faults.RestoreRefused number) = codes "506 RestoreRefused"

-- the fault of boxes that were handed over, as one of the store; memory is refused by a fault of its own
abbrev pub fault_of_boxes : StoreFault → TableFault → StoreFault
fault_of_boxes out_of_memory (boxes.PoolShort kind) = faults.PoolShort kind
fault_of_boxes out_of_memory (boxes.RestoreRefused number) = faults.RestoreRefused number
fault_of_boxes out_of_memory boxes.NoMemory = out_of_memory

-- the fault of what an image and records are read as, as one of the store
abbrev pub fault_of_reading : ReplayFault → StoreFault
fault_of_reading (replaying.Damaged at) = faults.Open (opening.Damaged at)
fault_of_reading replaying.OtherInterface = faults.OtherInterface
fault_of_reading replaying.NoMemory = faults.Open opening.NoMemory

-- a device failed
abbrev pub IsFailed : StoreFault → Type 0
IsFailed (faults.Create creating.DeviceFailed) = Unit {0}
IsFailed (faults.Open opening.DeviceFailed) = Unit {0}
IsFailed _ = ⊥

-- an opening is refused because memory ran out or a disk failed
abbrev pub IsMishap : StoreFault → Type 0
IsMishap (faults.Open opening.NoMemory) = Unit {0}
IsMishap (faults.Open opening.DeviceFailed) = Unit {0}
IsMishap _ = ⊥
