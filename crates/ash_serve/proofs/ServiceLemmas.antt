-- Serving by a host that was opened or made.
use Rattle.std.proofs.Common.{◌≡◌, ℕ, Result, Ok, Err, refl, sym, subst}
use Rattle.ash_disk.specs.Device.{Device}
use Rattle.ash_host.specs.declared.host_object.HostObject.{Ghosts}
use Rattle.ash_durable.specs.Hosting.{Hosted}
use Rattle.ash_durable.specs.declared.fault.OpenRefused.{OpenRefused}
use Rattle.ash_serve.specs.StreamRuns.{KnownState}
use Rattle.ash_serve.specs.Service.{ServiceStart, ServiceRemains, HostRun, ServesHost, ServesFrom}
use Rattle.ash_serve.specs.Serving.{run_state}
use Rattle.ash_serve.specs.declared.fault.RunFault.{RunFault}
use Rattle.ash_serve.specs.declared.program.fault.ProgramFault.{ProgramFault}
use Rattle.ash_serve.specs.declared.program.fault.ProgramFault.TheVariants.{Usage, NoMemory, Registry, Store, Run}

-- how a run ended, as the program reports it
abbrev pub end_of : Result (Unit {0}) RunFault → Result (Unit {0}) ProgramFault
end_of (Ok done) = Ok done
end_of (Err fault) = Err (Run fault)

serves_run : {D B : Type 0} (device : Device D) (G : Ghosts B) (budget : ℕ) (before : KnownState (Hosted D B)) (r : Result (Unit {0}) RunFault) (after : ServiceRemains D) → HostRun device G budget before r after → ServesHost device G budget before (end_of r) after
serves_run device G budget before (Ok done) after ran = ran
serves_run device G budget before (Err fault) after ran = ran

pub serves_host : {D B : Type 0} (device : Device D) (G : Ghosts B) (budget : ℕ) (before : KnownState (Hosted D B)) (r : Result (Unit {0}) RunFault) (end : Result (Unit {0}) ProgramFault) (after : ServiceRemains D) → end ≡ end_of r → HostRun device G budget before r after → ServesHost device G budget before end after
serves_host device G budget before r end after is ran =
    subst (λ (e : Result (Unit {0}) ProgramFault). ServesHost device G budget before e after) (sym is) (serves_run device G budget before r after ran)

pub serves_from : {D B : Type 0} (device : Device D) (G : Ghosts B) (budget : ℕ) (start : ServiceStart D B) (host : Hosted D B) (r : Result (Unit {0}) ProgramFault) (after : ServiceRemains D) → start.begins (Ok host) → ServesHost device G budget (run_state start.input start.output host) r after → ServesFrom device G budget start r after
serves_from device G budget start host (Ok done) after b w = (host, b, w)
serves_from device G budget start host (Err (Run fault)) after b w = (host, b, w)
serves_from device G budget start host (Err (Store fault)) after b w = absurd w
serves_from device G budget start host (Err (Registry fault)) after b w = absurd w
serves_from device G budget start host (Err Usage) after b w = absurd w
serves_from device G budget start host (Err NoMemory) after b w = absurd w

-- a refusal, by what is returned of it
pub serves_refused : {D B : Type 0} (device : Device D) (G : Ghosts B) (budget : ℕ) (start : ServiceStart D B) (refused : OpenRefused D) (r : Result (Unit {0}) ProgramFault) (after : ServiceRemains D) → r ≡ Err (Store refused.fault) → after.a ≡ refused.a → after.b ≡ refused.b → after.output ≡ start.output → start.begins (Err refused) → ServesFrom device G budget start r after
serves_refused device G budget start refused r after r_is a_is b_is output_is begun =
    subst (λ (end : Result (Unit {0}) ProgramFault). ServesFrom device G budget start end after) (sym r_is) (refused, begun, refl, a_is, b_is, output_is)
