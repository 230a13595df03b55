-- The limits of the live objects. Each is a constant of `limits.rt` by the same words.
use Rattle.std.specs.Prelude.{ℕ}

-- how many bytes the state of a host object has at most
abbrev pub max_state_bytes : ℕ
max_state_bytes = 1024

-- how many objects live at a time at most
abbrev pub max_objects : ℕ
max_objects = 4096

-- how many elements an array has at most
abbrev pub max_elements : ℕ
max_elements = 4096
