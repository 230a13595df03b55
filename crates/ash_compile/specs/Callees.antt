-- What the code of a module has for what its phrases call and name: its functions and its classes.
--
-- Room: no function of the module uses more slots than a number, the greatest. A frame has its slots up to the end of
-- the stack, and a callee has those of its caller from its arguments on. So the first frame of a run gets the greatest
-- for each of the 256 frames that may be there, and a frame with some callers keeps it for itself and for each frame
-- that may still be entered. A function takes no more than the greatest from it, and the next frame is one fewer.
use Rattle.std.specs.Prelude.{◌≡◌, ℕ, ◌+◌, ◌-◌, ◌*◌, ◌≤◌, Bool, true, nat_lt, List, map, length, Option, Some, None}
use Rattle.std.specs.Prelude.{slice_get}
use Rattle.std.specs.List.{list_all}
use Rattle.ash_host.specs.declared.word.Word.{Word}
use Rattle.ash_typed.specs.declared.types.VarType.{VarType}
use Rattle.ash_typed.specs.StatementTree.{Initialization}
use Rattle.ash_typed.specs.Modules.{Function, Implementation, Class, Module}
use Rattle.ash_typed.specs.Signatures.{parameters_of}
use Rattle.ash_typed.specs.SoundExpressions.{TypedEnvironment}
use Rattle.ash_meaning.specs.Activity.{Activity}
use Rattle.ash_meaning.specs.Runs.{Run, look, ◌>>◌}
use Rattle.ash_meaning.specs.Frames.{tick, max_frames}
use Rattle.ash_meaning.specs.OperatorMeaning.{zero_of}
use Rattle.ash_meaning.specs.Classes.{ModuleCallee, FreeFunction, Method, Construction, Entry, place_of_class}
use Rattle.ash_meaning.specs.Classes.{entry_of_function, entry_of_method, entry_of_construction}
use Rattle.ash_meaning.specs.Functions.{body}
use Rattle.ash_soundness.specs.WellFormed.{Context, declared, IsWellFormed}
use Rattle.ash_code.specs.declared.code.FunctionCode.{FunctionCode}
use Rattle.ash_code.specs.declared.code.ClassCode.{ClassCode}
use Rattle.ash_code.specs.declared.code.ImplementationCode.{ImplementationCode}
use Rattle.ash_code.specs.Performing.{Setting, classes_of}
use Rattle.ash_compile.specs.Performances.{Enters}
use Rattle.ash_compile.specs.Layout.{index_of}

-- the slots of a frame that has so many callers
abbrev pub room_for : ℕ → ℕ → ℕ
room_for greatest callers = greatest + (max_frames - (callers + 1)) * greatest

-- functions

-- what a callee of the module is: what its code sees, what it gives, and its entry
pub data IsCallee (c : Context) : ModuleCallee → TypedEnvironment → Option VarType → Entry → Type 0 where
  a_function : {place : ℕ} {f : Function}
      → slice_get ((c.program).tree).functions place ≡ Some f
      → IsCallee c (FreeFunction place)
      (record { signatures = declared c; this = None; locals = f.parameters }) f.result
      (entry_of_function f)
  a_method : {class place : ℕ} {k : Class} {f : Function}
      → slice_get ((c.program).tree).classes class ≡ Some k
      → slice_get k.methods place ≡ Some f
      → IsCallee c (Method class place)
      (record { signatures = declared c; this = Some class; locals = f.parameters }) f.result (entry_of_method k f)
  a_construction : {class : ℕ} {k : Class}
      → slice_get ((c.program).tree).classes class ≡ Some k
      → IsCallee c (Construction class)
      (record { signatures = declared c; this = Some class; locals = parameters_of k.constructor }) None
      (entry_of_construction k)

-- what the frame of a callee gives, by what its body does: a construction gives `this`
abbrev pub given_by : ModuleCallee → Run (Option Word) → Run (Option Word)
given_by (Construction class) run = run >> look (λ activity. Some (activity.frame).this)
given_by _ run = run

-- Activities in which a function is entered: its first tick leads to fewer ticks than calls go deep.
abbrev pub Entering : Context → ℕ → TypedEnvironment → List TypedEnvironment → Activity → Type 0
Entering c depth env envs a = IsWellFormed c env envs a × (a.ticks ≤ depth)

-- The code has a callee at its place, which does what its frame does whatever its callers are.
pub record HasCallee (s : Setting) (c : Context) (depth greatest : ℕ) (callee : ModuleCallee) (env : TypedEnvironment)
    (e : Entry) : Type 0 where
  pub code : FunctionCode
  pub there : slice_get ((s.code).functions).items (index_of (c.program).tree callee) ≡ Some code
  pub line : code.line ≡ e.line
  pub parameters : code.parameters ≡ length env.locals
  pub name : (s.names).functions (index_of (c.program).tree callee) ≡ e.name
  pub enters : (envs : List TypedEnvironment)
      → Enters s (Entering c depth env envs) (index_of (c.program).tree callee) (room_for greatest (length envs))
      (tick e.line >> given_by callee (body c.program depth e)) code.parameters

abbrev pub HasCallees : Setting → Context → ℕ → ℕ → Type 0
HasCallees s c depth greatest =
    (callee : ModuleCallee) (env : TypedEnvironment) (result : Option VarType) (e : Entry)
    → IsCallee c callee env result e
    → HasCallee s c depth greatest callee env e

-- classes

-- an implementation of an interface, by the functions that its methods run
abbrev pub implementation_of : ImplementationCode → Implementation
implementation_of i = record { interface = i.interface; methods = (i.methods).items }

abbrev pub implementation_at : Module → ℕ → Implementation → Implementation
implementation_at m class i = record i { methods = map (λ (own : ℕ). index_of m (Method class own)) i.methods }

-- A class has the methods of these places, and those that it names for interfaces.
abbrev pub has_own : Class → List ℕ → Bool
has_own k methods = list_all (λ (own : ℕ). nat_lt own (length k.methods)) methods

abbrev pub has_implementations : Class → Bool
has_implementations k = list_all (λ (i : Implementation). has_own k i.methods) k.interfaces

-- Each class of a module has the methods that it names.
abbrev pub AreImplemented : Module → Type 0
AreImplemented m = (class : ℕ) (k : Class) → slice_get m.classes class ≡ Some k → has_implementations k ≡ true

-- what the code knows of a class
pub record IsClassCode (m : Module) (class : ℕ) (k : Class) (code : ClassCode) : Type 0 where
  pub place : code.place ≡ place_of_class m class
  pub fields : (code.fields).items ≡ map (λ (v : Initialization). zero_of v.of) k.fields
  pub construction : code.construction ≡ index_of m (Construction class)
  pub interfaces : has_implementations k ≡ true
      → map implementation_of (code.interfaces).items ≡ map (implementation_at m class) k.interfaces

-- The code has the classes of the module, each at its place.
pub record HasClasses (s : Setting) (m : Module) : Type 0 where
  pub count : length (classes_of s) ≡ length m.classes
  pub each : (class : ℕ) (k : Class)
      → slice_get m.classes class ≡ Some k
      → (code : ClassCode) × (slice_get (classes_of s) class ≡ Some code) × IsClassCode m class k code
