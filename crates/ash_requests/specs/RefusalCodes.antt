-- The codes by which refusals are reported: the number and the name of each.
use Rattle.std.specs.Prelude.{ℕ, List, Result, Ok, Err, codes}
use Rattle.std.specs.Borrow.{Bor}
use Rattle.ash_requests.specs.Requests.{Refusal}
use Rattle.ash_requests.specs.Requests as refusals

-- the number and the name of a refusal; or the fault of the source that is refused, which has a code of its own
abbrev pub code_of : {Fault : Type 0} → Refusal Fault → Result (List ℕ) Fault
code_of (refusals.BadSource fault) = Err fault
code_of refusals.NoModule = Ok (codes "401 NoModule")
code_of refusals.ModuleTaken = Ok (codes "402 ModuleTaken")
code_of refusals.NoFunction = Ok (codes "403 NoFunction")
code_of refusals.NotCallable = Ok (codes "404 NotCallable")
code_of refusals.BadArguments = Ok (codes "405 BadArguments")
code_of refusals.NoGlobal = Ok (codes "406 NoGlobal")
code_of refusals.NoObject = Ok (codes "407 NoObject")
code_of refusals.TooManyModules = Ok (codes "408 TooManyModules")
code_of refusals.BadName = Ok (codes "409 BadName")
code_of refusals.SequenceSpent = Ok (codes "410 SequenceSpent")
code_of refusals.DeviceFailed = Ok (codes "507 DeviceFailed")
code_of refusals.Reopen = Ok (codes "508 Reopen")
code_of refusals.NoMemory = Ok (codes "509 NoMemory")
code_of refusals.GenerationSpent = Ok (codes "511 GenerationSpent")

-- what the code returns for a refusal: its number and its name, or the fault of the source
abbrev pub code_seen : {Fault : Type 0} → Result (Bor (List ℕ)) (Bor Fault) → Result (List ℕ) Fault
code_seen (Ok code) = Ok code.now
code_seen (Err fault) = Err fault.now
