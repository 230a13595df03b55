-- The codes by which errors are reported: the number and the name of each.
use Rattle.std.specs.Prelude.{ℕ, List, codes}
use Rattle.ash_disk.specs.Failures.{code_of}
use Rattle.ash_journal.specs.declared.error.AppendError.{AppendError}
use Rattle.ash_journal.specs.declared.error.AppendError.TheVariants as append_errors
use Rattle.ash_journal.specs.declared.error.InstallError.{InstallError}
use Rattle.ash_journal.specs.declared.error.InstallError.TheVariants as install_errors
use Rattle.ash_journal.specs.declared.error.OpenFault.{OpenFault}
use Rattle.ash_journal.specs.declared.error.OpenFault.TheVariants as open_faults
use Rattle.ash_journal.specs.declared.error.CreateFault.{CreateFault}
use Rattle.ash_journal.specs.declared.error.CreateFault.TheVariants as create_faults

-- a failure of a device
abbrev pub device_failed_code : List ℕ
device_failed_code = code_of (record {})

-- why no record was added
abbrev pub append_code : AppendError → List ℕ
append_code append_errors.NoMemory = codes "509 NoMemory"
append_code append_errors.DeviceFailed = device_failed_code

-- why no new generation was installed
abbrev pub install_code : InstallError → List ℕ
install_code install_errors.GenerationSpent = codes "511 GenerationSpent"
install_code install_errors.NoMemory = codes "509 NoMemory"
install_code install_errors.DeviceFailed = device_failed_code

-- why two files were not opened
abbrev pub open_code : OpenFault → List ℕ
open_code open_faults.DeviceFailed = device_failed_code
open_code open_faults.NoGeneration = codes "501 NoGeneration"
open_code (open_faults.Damaged at) = codes "503 Damaged"
open_code open_faults.NoMemory = codes "509 NoMemory"

-- why no journal was created
abbrev pub create_code : CreateFault → List ℕ
create_code create_faults.DeviceFailed = device_failed_code
create_code create_faults.AlreadyThere = codes "502 AlreadyThere"
create_code create_faults.NoMemory = codes "509 NoMemory"
