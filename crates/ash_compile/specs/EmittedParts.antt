-- What code that is emitted for parts of functions does, wherever it stands: for the fields of a construction, and for
-- the initializers of a module.
use Rattle.std.specs.Prelude.{◌≡◌, ℕ, ◌+◌, List, [], ◌++◌, map, drop, length, Some, slice_get}
use Rattle.std.specs.List.{AllByRecursion}
use Rattle.ash_typed.specs.declared.types.VarType.{VarType}
use Rattle.ash_typed.specs.StatementTree.{Initialization}
use Rattle.ash_typed.specs.Modules.{Variables, Class}
use Rattle.ash_typed.specs.Signatures.{type_declared, types_of_globals}
use Rattle.ash_typed.specs.SoundStatements.{IsInitialized}
use Rattle.ash_typed.specs.SoundModules.{AreSoundVariables}
use Rattle.ash_meaning.specs.Runs.{Run}
use Rattle.ash_meaning.specs.Functions.{initialize_field, initialize_fields, initialize_global, initialize_globals}
use Rattle.ash_meaning.specs.Functions.{initialize_module}
use Rattle.ash_compile.specs.declared.builder.Written.{Written}
use Rattle.ash_compile.specs.Performances.{Acts}
use Rattle.ash_compile.specs.Emission.{code_of, end_of, Keeps, Scene, IsScene, Suits, calls_of, Good, Stands}

-- In a scene the code has this stretch.
abbrev pub IsWritten : Scene → Written → Written → Type 0
IsWritten s old new = Stands s (code_of new) (end_of old) (end_of new) × Suits s new

-- From the end of one code to that of another a phrase is done that leaves the locals, so many of them.
abbrev pub ActsFrom : Scene → Written → Written → ℕ → Run (Unit {0}) → Type 0
ActsFrom s old new count run =
    Acts s.setting (Good s) s.function s.room run (end_of old) (end_of new) count count

-- fields

-- The frame of the scene is that of a construction of the class, with so many locals.
pub record Constructs (s : Scene) (class : ℕ) (source : Class) (count : ℕ) : Type 0 where
  pub scene : IsScene s
  pub this : (s.env).this ≡ Some class
  pub there : slice_get (((s.context).program).tree).classes class ≡ Some source
  pub locals : length (s.env).locals ≡ count

-- The code has grown by that of a field, which is at this place of its class.
pub record EmitsField (old new : Written) (place : ℕ) (v : Initialization) (count : ℕ) : Type 0 where
  pub keeps : Keeps old new
  pub does : (s : Scene) (class : ℕ) (source : Class)
      → Constructs s class source count
      → slice_get source.fields place ≡ Some v
      → IsWritten s old new
      → ActsFrom s old new count (initialize_field (calls_of s) place v)

-- The code has grown by that of the fields of a class from this place on.
pub record EmitsFields (old new : Written) (place : ℕ) (vs : List Initialization) (count : ℕ) : Type 0 where
  pub keeps : Keeps old new
  pub none : vs ≡ [] → new ≡ old
  pub does : (s : Scene) (class : ℕ) (source : Class)
      → Constructs s class source count
      → drop place source.fields ≡ vs
      → IsWritten s old new
      → ActsFrom s old new count (initialize_fields (calls_of s) place vs)

-- globals

-- These are the types of the globals of the module from a place on.
abbrev pub AreTypesFrom : Scene → ℕ → List VarType → Type 0
AreTypesFrom s place types =
    (k : ℕ) (of : VarType) → slice_get types k ≡ Some of
    → slice_get (types_of_globals (((s.context).program).tree).globals) (place + k) ≡ Some of

-- The frame of the scene has no locals.
pub record Initializes (s : Scene) : Type 0 where
  pub scene : IsScene s
  pub locals : length (s.env).locals ≡ 0

-- The code has grown by that of a global.
pub record EmitsGlobal (old new : Written) (place : ℕ) (v : Initialization) : Type 0 where
  pub keeps : Keeps old new
  pub does : (s : Scene)
      → Initializes s
      → slice_get (types_of_globals (((s.context).program).tree).globals) place ≡ Some v.of
      → IsInitialized s.env v
      → IsWritten s old new
      → ActsFrom s old new 0 (initialize_global (calls_of s) place v)

-- The code has grown by that of globals from this place on.
pub record EmitsGlobals (old new : Written) (place : ℕ) (vs : List Initialization) : Type 0 where
  pub keeps : Keeps old new
  pub does : (s : Scene) (more : List VarType)
      → Initializes s
      → AreTypesFrom s place (map type_declared vs ++ more)
      → AllByRecursion (IsInitialized s.env) vs
      → IsWritten s old new
      → ActsFrom s old new 0 (initialize_globals (calls_of s) place vs)

-- The code has grown by that of variables that are declared, from this place on, each with its tick.
pub record EmitsDeclarations (old new : Written) (place : ℕ) (ds : List Variables) : Type 0 where
  pub keeps : Keeps old new
  pub does : (s : Scene)
      → Initializes s
      → AreTypesFrom s place (types_of_globals ds)
      → AllByRecursion (AreSoundVariables s.env) ds
      → IsWritten s old new
      → ActsFrom s old new 0 (initialize_module (calls_of s) place ds)
