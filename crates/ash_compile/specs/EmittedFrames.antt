-- What the code of functions is of, and when it does what their frames do, wherever it stands.
use Rattle.std.specs.Prelude.{◌≡◌, ◌≤◌, ℕ, suc, Bool, true, false, List, [], ◌++◌, map, flat_map, length, Option, Some}
use Rattle.std.specs.Prelude.{None, slice_get}
use Rattle.std.specs.List.{AllZip, list_all}
use Rattle.ash_host.specs.declared.word.Word.{Word}
use Rattle.ash_typed.specs.declared.types.VarType.{VarType}
use Rattle.ash_typed.specs.StatementTree.{Initialization, Body}
use Rattle.ash_typed.specs.Modules.{Function, Class, Module}
use Rattle.ash_typed.specs.Signatures.{parameters_of}
use Rattle.ash_typed.specs.SoundExpressions.{TypedEnvironment}
use Rattle.ash_typed.specs.SoundStatements.{AreSoundStmts}
use Rattle.ash_meaning.specs.Runs.{Run, look, ◌>>◌}
use Rattle.ash_meaning.specs.Frames.{tick}
use Rattle.ash_meaning.specs.Classes.{Entry, entry_of_function, entry_of_method, entry_of_construction}
use Rattle.ash_meaning.specs.Functions.{body, initialize_module}
use Rattle.ash_soundness.specs.WellFormed.{Context, declared}
use Rattle.ash_code.specs.declared.code.ClassCode.{ClassCode}
use Rattle.ash_code.specs.declared.code.CodeParts.{CodeParts}
use Rattle.ash_code.specs.declared.code.FunctionCode.{FunctionCode}
use Rattle.ash_code.specs.declared.instruction.Instruction.TheVariants as i
use Rattle.ash_code.specs.Validity.{is_valid_class}
use Rattle.ash_code.specs.Running as running
use Rattle.ash_compile.specs.declared.builder.Written.{Written}
use Rattle.ash_compile.specs.declared.layout.Layout.{Layout}
use Rattle.ash_compile.specs.Performances.{Acts, Enters}
use Rattle.ash_compile.specs.Layout.{IsLayout}
use Rattle.ash_compile.specs.Callees.{Entering, IsClassCode}
use Rattle.ash_compile.specs.ValidCode.{counts_of, IsValidCode}
use Rattle.ash_compile.specs.Emission.{code_of, Scene, IsScene, calls_of, Good}

-- What the code of a function is of: its entry, how many parameters it has, and whether it constructs an object.
pub record FrameSource : Type 0 where
  pub entry : Entry
  pub parameters : ℕ
  pub constructs : Bool

abbrev pub frame_of_function : Function → FrameSource
frame_of_function f =
    record { entry = entry_of_function f; parameters = length f.parameters; constructs = false }

abbrev pub frame_of_method : Class → Function → FrameSource
frame_of_method c f =
    record { entry = entry_of_method c f; parameters = length f.parameters; constructs = false }

abbrev pub frame_of_construction : Class → FrameSource
frame_of_construction c =
    record {
      entry = entry_of_construction c;
      parameters = length (parameters_of c.constructor);
      constructs = true;
    }

-- the methods of a class
abbrev pub methods_of : Class → List FrameSource
methods_of c = map (frame_of_method c) c.methods

-- what the functions of code are of: free functions, constructions, then methods, class by class
abbrev pub frames_of : Module → List FrameSource
frames_of m =
    map frame_of_function m.functions ++ map frame_of_construction m.classes
    ++ flat_map methods_of m.classes

-- what a frame gives, by what its body does: a construction gives `this`
abbrev pub given_if : Bool → Run (Option Word) → Run (Option Word)
given_if true run = run >> look (λ activity. Some (activity.frame).this)
given_if false run = run

-- The fields that a frame initializes: none, or those of the class of the object that is constructed.
pub data AreFieldsOf (c : Context) (env : TypedEnvironment) : List Initialization → Type 0 where
  no_field : AreFieldsOf c env []
  all_fields : {class : ℕ} {source : Class}
      → env.this ≡ Some class
      → slice_get ((c.program).tree).classes class ≡ Some source
      → AreFieldsOf c env source.fields

-- An entry is sound in an environment, and gives this.
pub record IsSoundEntry (c : Context) (env : TypedEnvironment) (result : Option VarType) (e : Entry) : Type 0 where
  pub fields : AreFieldsOf c env e.fields
  pub body : AreSoundStmts (record { env = env; result = result; may_break = false; may_continue = false }) e.body

-- These are what the code knows of the classes of a module, each at its place.
pub record AreClassCodes (m : Module) (codes : List ClassCode) : Type 0 where
  pub count : length codes ≡ length m.classes
  pub each : (class : ℕ) (k : Class)
      → slice_get m.classes class ≡ Some k
      → (code : ClassCode) × (slice_get codes class ≡ Some code) × IsClassCode m class k code

-- The code is that of a function: wherever it stands in the code of a module with this layout, it does what the frame
-- does from its entry on.
pub record IsFrameCode (layout : Layout) (x : FrameSource) (f : FunctionCode) : Type 0 where
  pub line : f.line ≡ (x.entry).line
  pub parameters : f.parameters ≡ x.parameters
  pub begins : slice_get (f.instructions).items 0 ≡ Some (i.Tick (x.entry).line)
  pub valid : IsValidCode layout f
  pub enters : (s : Scene) (result : Option VarType)
      → IsScene s
      → IsSoundEntry s.context s.env result x.entry
      → (x.constructs ≡ true → result ≡ None)
      → length (s.env).locals ≡ x.parameters
      → running.code_of (s.setting).code s.function ≡ f
      → f.slots ≤ s.greatest
      → IsLayout ((s.setting).code).module ((s.context).program).tree layout
      → Enters s.setting (Entering s.context (suc s.depth) s.env s.envs) s.function s.room
      (tick (x.entry).line >> given_if x.constructs (body (s.context).program (suc s.depth) x.entry)) x.parameters

-- The code is that of every function that is entered at this line, has so many parameters, initializes these fields and
-- does these statements.
abbrev pub IsCodeOfAny : Layout → ℕ → ℕ → List Initialization → Body → Bool → FunctionCode → Type 0
IsCodeOfAny layout line parameters fields statements constructs f =
    (x : FrameSource)
    → (x.entry).line ≡ line
    → (x.entry).fields ≡ fields
    → (x.entry).body ≡ statements
    → x.parameters ≡ parameters
    → x.constructs ≡ constructs
    → IsFrameCode layout x f

-- What was written is the code of a function.
pub record IsFinished (written : Written) (entry count : ℕ) (f : FunctionCode) : Type 0 where
  pub line : f.line ≡ entry
  pub parameters : f.parameters ≡ count
  pub slots : written.slots ≤ f.slots
  pub instructions : (f.instructions).items ≡ code_of written

-- The code is that of the initializers of a module, up to its last instruction, which ends the run.
pub record IsInitCode (layout : Layout) (m : Module) (f : FunctionCode) : Type 0 where
  pub line : f.line ≡ 1
  pub parameters : f.parameters ≡ 0
  pub valid : IsValidCode layout f
  pub end : ℕ
  pub ends : slice_get (f.instructions).items end ≡ Some i.ReturnNothing
  pub acts : (s : Scene)
      → IsScene s
      → s.env ≡ record { signatures = declared s.context; this = None; locals = [] }
      → ((s.context).program).tree ≡ m
      → running.code_of (s.setting).code s.function ≡ f
      → f.slots ≤ s.greatest
      → IsLayout ((s.setting).code).module m layout
      → Acts s.setting (Good s) s.function s.room (initialize_module (calls_of s) 0 m.globals) 0 end 0 0

-- The parts are the code of a module with this layout.
pub record IsCompiled (places : Layout) (m : Module) (parts : CodeParts) : Type 0 where
  pub layout : IsLayout parts.module m places
  pub functions : AllZip (IsFrameCode places) (frames_of m) (parts.functions).items
  pub init : IsInitCode places m parts.init
  pub classes : AreClassCodes m (parts.classes).items
  pub methods : list_all (is_valid_class (length (counts_of places))) (parts.classes).items ≡ true
