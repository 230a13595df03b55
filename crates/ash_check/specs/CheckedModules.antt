-- What the check returns for a script that it accepts, and what holds of it by the typed tree alone.
use Rattle.std.specs.Prelude.{ℕ, List}
use Rattle.ash_registrations.specs.Registrations.{Registration}
use Rattle.ash_typed.specs.declared.tree.items.Module as code
use Rattle.ash_typed.specs.Modules.{Module}
use Rattle.ash_typed.specs.References.{AreRanks}
use Rattle.ash_typed.specs.Signatures.{signatures_of}
use Rattle.ash_typed.specs.SoundModules.{IsSound}
use Rattle.ash_type_rules.specs.Offered.{offered}

-- the accepted registrations of the registry that a script was checked against, its typed module, and a rank for each
-- class
pub record CheckedModule : Type 0 where
  pub registered : List Registration
  pub typed : code.Module
  pub ranks : List ℕ

-- A typed module is sound with these registrations, and ranks of its classes fall along what the classes hold
-- of one another.
pub record IsChecked (registrations : List Registration) (typed : Module) (ranks : List ℕ) : Type 0 where
  pub sound : IsSound (offered registrations) typed
  pub ranked : AreRanks (signatures_of (offered registrations) typed) ranks
