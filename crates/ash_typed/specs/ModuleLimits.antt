-- How much a module may declare.
use Rattle.std.specs.Prelude.{ℕ}

-- A module has at most so many classes and interfaces together.
abbrev pub max_module_types : ℕ
max_module_types = 256

-- A module has at most so many variables.
abbrev pub max_globals : ℕ
max_globals = 256

-- A class has at most so many fields and methods together, and an interface at most so many methods.
abbrev pub max_class_members : ℕ
max_class_members = 32
