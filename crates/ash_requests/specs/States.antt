-- What outlives a request, and what hosts bring to one.
use Rattle.std.specs.Prelude.{ℕ, ◌+◌, Bool, not, if◌then◌else◌, List, [], ◌∷◌}
use Rattle.std.specs.Prelude.{map, filter, find, flat_map, Option, Result}
use Rattle.std.specs.declared.cmp.Ordering.{Ordering}
use Rattle.std.specs.Ordering.{is_lt, nat_cmp}
use Rattle.std.specs.Cmp.Lexicographic.{slice_cmp}
use Rattle.std.specs.Str.{bytes_eq}
use Rattle.ash_host.specs.declared.word.Word.{Word}
use Rattle.ash_host.specs.Objects.{LiveObjects, handles}
use Rattle.ash_host.specs.Records.{HostRecord}
use Rattle.ash_typed.specs.Modules.{Module}
use Rattle.ash_meaning.specs.Activity.{FreeBox, World}
use Rattle.ash_meaning.specs.Numbers.{Numbering}

-- a module that is loaded: its name, its source, and what its globals hold, in source order
pub record LoadedModule : Type 0 where
  pub name : List ℕ
  pub source : List ℕ
  pub globals : List Word

-- The modules by ascending name, the objects, the states of the services in order of registration, the last number that
-- was given to an object, and how many requests have been answered.
pub record State : Type 0 where
  pub modules : List LoadedModule
  pub objects : LiveObjects (List ℕ)
  pub services : List (List ℕ)
  pub last : ℕ
  pub seq : ℕ

-- before any request, with services in these states
abbrev pub empty : List (List ℕ) → State
empty services = record { modules = []; objects = []; services = services; last = 0; seq = 0 }

-- what hosts bring to a request, which no state has: the free boxes, and what host objects and services will answer
pub record Hosts : Type 0 where
  pub pool : List FreeBox
  pub answers : List HostRecord

-- What the embedding program has registered, as far as requests see it: the typed tree that a source is checked to be,
-- or the first fault for which it is none, and the name of the type of each kind.
pub record Embedding (Fault : Type 0) : Type 0 where
  pub read : List ℕ → Result Module Fault
  pub name_of_kind : ℕ → List ℕ

-- modules by name

-- Names compare byte by byte, and a name comes before those that begin with it.
abbrev pub compare_names : List ℕ → List ℕ → Ordering
compare_names = slice_cmp nat_cmp

abbrev pub has_name : List ℕ → LoadedModule → Bool
has_name name m = bytes_eq m.name name

abbrev pub find_module : List ℕ → State → Option LoadedModule
find_module name state = find (has_name name) state.modules

-- the modules with one more, before the first whose name comes after its own
abbrev pub with_module : LoadedModule → List LoadedModule → List LoadedModule
with_module new [] = new ∷ []
with_module new (m ∷ ms) = if is_lt (compare_names new.name m.name) then new ∷ m ∷ ms else m ∷ with_module new ms

-- the modules without the one of this name
abbrev pub without_module : List ℕ → List LoadedModule → List LoadedModule
without_module name ms = filter (λ m. not (has_name name m)) ms

-- the modules with what a run left in the globals of the one of this name
abbrev pub update_globals : List ℕ → List Word → List LoadedModule → List LoadedModule
update_globals name globals ms =
    map (λ (m : LoadedModule). if has_name name m then record m { globals = globals } else m) ms

-- the globals of all modules
abbrev pub globals_of : List LoadedModule → List Word
globals_of ms = flat_map (λ (m : LoadedModule). m.globals) ms

-- states and worlds

-- what a run finds, where a module has these globals and there are these others: what their globals hold is held
-- outside
abbrev pub world_of : List Word → List LoadedModule → State → Hosts → World
world_of globals others state hosts =
    record {
      globals = globals;
      outside = handles (globals_of others);
      objects = state.objects;
      last = state.last;
      services = state.services;
      pool = hosts.pool;
      answers = hosts.answers;
      events = [];
    }

-- the state that a run leaves, with these modules: one request more is answered
abbrev pub state_after : List LoadedModule → World → State → State
state_after ms world old =
    record { modules = ms; objects = world.objects; services = world.services; last = world.last; seq = old.seq + 1 }

-- the objects of a state by their numbers, and the last number that was given
abbrev pub numbering_of : State → Numbering
numbering_of state = record { last = state.last; objects = state.objects }
