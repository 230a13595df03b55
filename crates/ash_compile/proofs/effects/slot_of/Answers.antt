use Rattle.ash_compile.specs.Effects.{IsLocalPlace}
use Rattle.ash_compile.proofs.effects.slot_of.Goals as goal

pub returns-in-Local : goal.returns-in-Local
returns-in-Local c = record { local = rw c.in-Local.is IsLocalPlace.local_place }
