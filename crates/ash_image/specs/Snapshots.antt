-- What an image is of.
use Rattle.std.specs.Prelude.{ℕ, List}
use Rattle.ash_host.specs.declared.word.Word.{Word}
use Rattle.ash_host.specs.Objects.{LiveObjects}

-- a module: its name, its source, and what its globals hold, in source order
pub record Loaded : Type 0 where
  pub name : List ℕ
  pub source : List ℕ
  pub globals : List Word

-- The text of what was registered, how many requests had been answered, the last number that was given to an object,
-- the kind and the state of each service in order of registration, the modules by ascending name, and the objects by
-- ascending number. An object knows its module by the module's index.
pub record Snapshot : Type 0 where
  pub registered : List ℕ
  pub seq : ℕ
  pub last : ℕ
  pub services : List (ℕ × List ℕ)
  pub modules : List Loaded
  pub objects : LiveObjects ℕ
