-- Serving from two disks: a host is opened or made on them, and runs.
use Rattle.std.specs.Prelude.{◌≡◌, ℕ, List, Option, Result, Ok, Err}
use Rattle.ash_disk.specs.Device.{Device}
use Rattle.ash_host.specs.declared.host_object.HostObject.{Ghosts}
use Rattle.ash_durable.specs.Hosting.{Hosted, first, second, IsSaved, RunsSound}
use Rattle.ash_durable.specs.Lives.{LivesOn}
use Rattle.ash_durable.specs.RequestRuns.{RunsToFailure}
use Rattle.ash_durable.specs.declared.fault.OpenRefused.{OpenRefused}
use Rattle.ash_lines.specs.Lines.{Command}
use Rattle.ash_serve.specs.CommandReplies.{CommandReply}
use Rattle.ash_serve.specs.HostCalls.{hosting, host_calls, host_results}
use Rattle.ash_serve.specs.StreamRuns.{KnownState, RunEnds}
use Rattle.ash_serve.specs.Serving.{RepliesToAll, run_state}
use Rattle.ash_serve.specs.declared.fault.RunFault.{RunFault}
use Rattle.ash_serve.specs.declared.program.fault.ProgramFault.{ProgramFault}
use Rattle.ash_serve.specs.declared.program.fault.ProgramFault.TheVariants.{Store, Run}

-- what serving begins with: how a host begins on the disks and with the boxes that are handed over; the bytes that are
-- left to read and those that are written, where these are known
pub record ServiceStart (D B : Type 0) : Type 1 where
  pub begins : Result (Hosted D B) (OpenRefused D) → Type 0
  pub input : Option (List ℕ)
  pub output : Option (List ℕ)

-- what remains of serving: the disks, which are handed back, and the bytes that are written, where these are known
pub record ServiceRemains (D : Type 0) : Type 0 where
  pub a : D
  pub b : D
  pub output : Option (List ℕ)

-- a host that begins so, this input and this output
abbrev pub service_start : {D B : Type 0} → (Result (Hosted D B) (OpenRefused D) → Type 0) → Option (List ℕ)
    → Option (List ℕ) → ServiceStart D B
service_start begins input output = record { begins = begins; input = input; output = output }

-- these disks and this output
abbrev pub service_remains : {D : Type 0} → D → D → Option (List ℕ) → ServiceRemains D
service_remains a b output = record { a = a; b = b; output = output }

-- A host ran. If its files held its state, they do so afterwards, and if its boxes were those of its state, they are.
-- Its replies are those of the written steps, up to the first call by which it must be reopened, and every life of
-- its store goes on with what was answered. Then it was closed: its disks are handed back as the run left them.
pub record HostRun {D B : Type 0} (device : Device D) (G : Ghosts B) (budget : ℕ) (before : KnownState (Hosted D B))
    (result : Result (Unit {0}) RunFault) (after : ServiceRemains D) : Type 0 where
  pub last : Hosted D B
  pub ends : RunEnds (hosting device G budget) before result after.output last
  pub saved : IsSaved device before.host → IsSaved device last
  pub sound : RunsSound G before.host → RunsSound G last
  pub defined : (commands : List Command) (replies : List CommandReply)
      → RepliesToAll (hosting device G budget) before.host commands replies last
      → RunsToFailure device G budget before.host (host_calls commands) (host_results replies) last
  pub lives : (commands : List Command) (replies : List CommandReply)
      → RepliesToAll (hosting device G budget) before.host commands replies last
      → LivesOn device G budget before.host (host_calls commands) (host_results replies) last
  pub first_is : after.a ≡ first last
  pub second_is : after.b ≡ second last

-- Serving from a host did this.
abbrev pub ServesHost : {D B : Type 0} → Device D → Ghosts B → ℕ → KnownState (Hosted D B)
    → Result (Unit {0}) ProgramFault → ServiceRemains D → Type 0
ServesHost device G budget before (Ok done) after = HostRun device G budget before (Ok done) after
ServesHost device G budget before (Err (Run fault)) after = HostRun device G budget before (Err fault) after
ServesHost device G budget before (Err _) after = ⊥

-- Serving from a host that begins so did this; or there was a refusal, which is returned, and nothing was written. The
-- disks are handed back.
abbrev pub ServesFrom : {D B : Type 0} → Device D → Ghosts B → ℕ → ServiceStart D B → Result (Unit {0}) ProgramFault
    → ServiceRemains D → Type 0
ServesFrom {D} device G budget start (Err (Store fault)) after =
    (refused : OpenRefused D) × start.begins (Err refused) × (refused.fault ≡ fault)
    × (after.a ≡ refused.a) × (after.b ≡ refused.b) × (after.output ≡ start.output)
ServesFrom {D} {B} device G budget start result after =
    (host : Hosted D B) × start.begins (Ok host)
    × ServesHost device G budget (run_state start.input start.output host) result after
