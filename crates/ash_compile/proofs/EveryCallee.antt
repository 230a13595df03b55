-- The code of a module has each of its callees, however deep calls go: what a frame calls goes one less deep.
use Rattle.std.proofs.Common.{◌≡◌, ◌≤◌, ℕ, zero, suc, Bool, true, List, [], ◌∷◌, length, refl, sym, ap, ◌∙◌, subst}
use Rattle.std.proofs.Common.{arith}
use Rattle.std.specs.Prelude.{Option, Some, None, slice_get, unwrap_or}
use Rattle.std.proofs.lemmas.Option.{same_Some}
use Rattle.ash_host.specs.declared.word.Word.{Word}
use Rattle.ash_typed.specs.declared.types.VarType.{VarType}
use Rattle.ash_typed.specs.SoundExpressions.{TypedEnvironment}
use Rattle.ash_meaning.specs.Activity.{Activity}
use Rattle.ash_meaning.specs.Runs.{Run, ◌>>◌}
use Rattle.ash_meaning.specs.Frames.{tick}
use Rattle.ash_meaning.specs.Classes.{ModuleCallee, FreeFunction, Method, Construction, Entry}
use Rattle.ash_meaning.specs.Functions.{body}
use Rattle.ash_soundness.specs.WellFormed.{Context, IsContext, declared, IsWellFormed}
use Rattle.ash_code.specs.declared.code.FunctionCode.{FunctionCode}
use Rattle.ash_code.specs.declared.code.CodeParts.{CodeParts}
use Rattle.ash_code.specs.declared.instruction.Instruction.TheVariants as i
use Rattle.ash_code.specs.Performing.{Setting, own_name}
use Rattle.ash_code.specs.Running as running
use Rattle.ash_code.specs.Sizes.{most, most_slots}
use Rattle.ash_code.specs.CompiledCode.{entries_of}
use Rattle.ash_compile.specs.declared.layout.Layout.{Layout}
use Rattle.ash_compile.specs.Stretches.{Has}
use Rattle.ash_compile.specs.Performances.{Enters}
use Rattle.ash_compile.specs.Layout.{index_of}
use Rattle.ash_compile.specs.Callees.{room_for, given_by, Entering, HasCallee, HasCallees, HasClasses}
use Rattle.ash_compile.specs.Emission.{Scene, IsScene}
use Rattle.ash_compile.specs.EmittedFrames.{FrameSource, frames_of, given_if, IsSoundEntry, IsFrameCode, IsCompiled}
use Rattle.ash_compile.proofs.Statements.{ticks_first, spent}
use Rattle.ash_compile.proofs.Listings.{zip_at}
use Rattle.ash_compile.proofs.ModuleFrames.{entry_at, constructs, Stands, callee_stands}

-- a function that is entered without a tick ends at once
pub enters_without_ticks : (s : Setting) (Good : Activity → Type 0) (function room line parameters : ℕ)
    (run : Run (Option Word))
    → Has s Good function room 0 (i.Tick line)
    → ((a : Activity) → Good a → a.ticks ≤ 0)
    → Enters s Good function room (tick line >> run) parameters
enters_without_ticks s Good function room line parameters run has none = record {
  comes = λ callers size slots a rest long stands good leaves.
      ticks_first s Good function room line run 0 parameters slots callers a rest has (λ b ran.
      absurd (omega (arith, spent line a b ran, none a good)));
}

-- the slots of functions

pub slots_within : (fs : List FunctionCode) (k : ℕ) (f : FunctionCode) → slice_get fs k ≡ Some f
    → f.slots ≤ most (λ (g : FunctionCode). g.slots) fs
slots_within [] k f at = absurd (cc)
slots_within (g ∷ fs) zero f at =
    let same = ap (λ (h : FunctionCode). h.slots) (same_Some g f at) in omega (arith, same)
slots_within (g ∷ fs) (suc k) f at = let later = slots_within fs k f at in omega (arith, later)

pub function_slots : (parts : CodeParts) (k : ℕ) (f : FunctionCode) → slice_get (parts.functions).items k ≡ Some f
    → f.slots ≤ most_slots parts
function_slots parts k f at =
    let within = slots_within (parts.functions).items k f at in omega (arith, within)

-- the code of a function that is there
pub code_there : (parts : CodeParts) (k : ℕ) (f : FunctionCode) → slice_get (parts.functions).items k ≡ Some f
    → running.code_of parts k ≡ f
code_there parts k f at = ap (λ (o : Option FunctionCode). unwrap_or o parts.init) at

same_gives : (callee : ModuleCallee) (run : Run (Option Word)) → given_if (constructs callee) run ≡ given_by callee run
same_gives (FreeFunction place) run = refl
same_gives (Method class place) run = refl
same_gives (Construction class) run = refl

module _ (s : Setting) (c : Context) (context : IsContext c) (layout : Layout)
    (compiled : IsCompiled layout (c.program).tree s.code)
    (owner : own_name s ≡ (c.program).name)
    (named : (index : ℕ) (e : Entry) → slice_get (entries_of (c.program).tree) index ≡ Some e
    → (s.names).functions index ≡ e.name)
    (ranked : (env : TypedEnvironment) (envs : List TypedEnvironment) (a : Activity) → IsWellFormed c env envs a
    → (s.test).has_ranks a.world ≡ true) where
  pub has_classes : HasClasses s (c.program).tree
  has_classes = record { count = (compiled.classes).count; each = (compiled.classes).each }

  -- a function of the module, which has callers that see these environments
  abbrev pub scene_of : ℕ → TypedEnvironment → List TypedEnvironment → ℕ → Scene
  scene_of depth env envs function = record {
    setting = s;
    context = c;
    depth = depth;
    env = env;
    envs = envs;
    function = function;
    room = room_for (most_slots s.code) (length envs);
    greatest = most_slots s.code;
  }

  pub is_scene : (depth : ℕ) (env : TypedEnvironment) (envs : List TypedEnvironment) (function : ℕ)
      → HasCallees s c depth (most_slots s.code) → env.signatures ≡ declared c
      → IsScene (scene_of depth env envs function)
  is_scene depth env envs function callees declares = record {
    sound = context;
    declares = declares;
    owner = owner;
    ranks = ranked;
    callees = callees;
    classes = has_classes;
    roomy = omega arith;
  }

  -- a frame of the module

  module _ (x : FrameSource) (f : FunctionCode) (index : ℕ) (code : IsFrameCode layout x f)
      (there : slice_get ((s.code).functions).items index ≡ Some f)
      (env : TypedEnvironment) (declares : env.signatures ≡ declared c) (result : Option VarType)
      (sound : IsSoundEntry c env result x.entry) (nothing : x.constructs ≡ true → result ≡ None)
      (parameters : length env.locals ≡ x.parameters) where
    -- the frame at a depth
    abbrev FrameEnters : ℕ → List TypedEnvironment → Type 0
    FrameEnters depth envs =
        Enters s (Entering c depth env envs) index (room_for (most_slots s.code) (length envs))
        (tick (x.entry).line >> given_if x.constructs (body c.program depth x.entry)) x.parameters

    frame_enters_not : (envs : List TypedEnvironment) → FrameEnters zero envs
    frame_enters_not envs =
        enters_without_ticks s (Entering c zero env envs) index (room_for (most_slots s.code) (length envs))
        (x.entry).line
        x.parameters (given_if x.constructs (body c.program zero x.entry))
        (ap (λ (g : FunctionCode). slice_get (g.instructions).items 0) (code_there s.code index f there) ∙ code.begins)
        (λ a good. good.1)

    frame_enters : (depth : ℕ) (envs : List TypedEnvironment) → HasCallees s c depth (most_slots s.code)
        → FrameEnters (suc depth) envs
    frame_enters depth envs callees =
        code.enters (scene_of depth env envs index) result (is_scene depth env envs index callees declares) sound
        nothing parameters
        (code_there s.code index f there) (function_slots s.code index f there) compiled.layout

  -- a callee, by its frame

  module _ (depth : ℕ) (callee : ModuleCallee) (env : TypedEnvironment) (e : Entry) (x : FrameSource) (f : FunctionCode)
      (code : IsFrameCode layout x f) (entry : x.entry ≡ e) (parameters : length env.locals ≡ x.parameters)
      (gives : x.constructs ≡ constructs callee) where
    abbrev CalleeEnters : Run (Option Word) → ℕ → List TypedEnvironment → Type 0
    CalleeEnters run count envs =
        Enters s (Entering c depth env envs) (index_of (c.program).tree callee)
        (room_for (most_slots s.code) (length envs)) run count

    enters_as : (envs : List TypedEnvironment)
        → CalleeEnters (tick (x.entry).line >> given_if x.constructs (body c.program depth x.entry)) x.parameters envs
        → CalleeEnters (tick e.line >> given_by callee (body c.program depth e)) f.parameters envs
    enters_as envs enters =
        subst (λ (n : ℕ). CalleeEnters (tick e.line >> given_by callee (body c.program depth e)) n envs)
        (sym code.parameters)
        (subst (λ (run : Run (Option Word)). CalleeEnters (tick e.line >> run) x.parameters envs)
        (same_gives callee (body c.program depth e))
        (subst (λ (t : Bool). CalleeEnters (tick e.line >> given_if t (body c.program depth e)) x.parameters envs) gives
        (subst (λ (d : Entry). CalleeEnters
        (tick d.line >> given_if x.constructs (body c.program depth d)) x.parameters envs)
        entry enters)))

  callee_there : (depth : ℕ) (callee : ModuleCallee) (env : TypedEnvironment) (result : Option VarType) (e : Entry)
      (x : Stands c callee env result e) (f : FunctionCode)
      → slice_get ((s.code).functions).items (index_of (c.program).tree callee) ≡ Some f
      → IsFrameCode layout x.frame f
      → ((envs : List TypedEnvironment) → Enters s (Entering c depth env envs) (index_of (c.program).tree callee)
      (room_for (most_slots s.code) (length envs))
      (tick ((x.frame).entry).line >> given_if (x.frame).constructs (body c.program depth (x.frame).entry))
      (x.frame).parameters)
      → HasCallee s c depth (most_slots s.code) callee env e
  callee_there depth callee env result e x f at code enters = record {
    code = f;
    there = at;
    line = code.line ∙ ap (λ (d : Entry). d.line) x.entry;
    parameters = code.parameters ∙ sym x.parameters;
    name = named (index_of (c.program).tree callee) (x.frame).entry
        (entry_at (c.program).tree (index_of (c.program).tree callee) x.frame x.at)
        ∙ ap (λ (d : Entry). d.name) x.entry;
    enters = λ envs. enters_as depth callee env e x.frame f code x.entry x.parameters x.gives envs (enters envs);
  }

  sound_entry : (env : TypedEnvironment) (result : Option VarType) (d e : Entry) → d ≡ e → IsSoundEntry c env result e
      → IsSoundEntry c env result d
  sound_entry env result d e same sound = subst (λ (z : Entry). IsSoundEntry c env result z) (sym same) sound

  -- every callee, at every depth
  pub has_callees : (depth : ℕ) → HasCallees s c depth (most_slots s.code)
  has_callees zero callee env result e is =
      let x = callee_stands context callee env result e is in
      let index = index_of (c.program).tree callee in
      let (f, at, code) = zip_at (IsFrameCode layout) (frames_of (c.program).tree)
      ((s.code).functions).items index x.frame
      compiled.functions x.at in
      callee_there zero callee env result e x f at code (λ envs.
      frame_enters_not x.frame f index code at env x.declares result
      (sound_entry env result (x.frame).entry e x.entry x.sound) x.nothing x.parameters envs)
  has_callees (suc depth) callee env result e is =
      let x = callee_stands context callee env result e is in
      let index = index_of (c.program).tree callee in
      let (f, at, code) = zip_at (IsFrameCode layout) (frames_of (c.program).tree)
      ((s.code).functions).items index x.frame
      compiled.functions x.at in
      callee_there (suc depth) callee env result e x f at code (λ envs.
      frame_enters x.frame f index code at env x.declares result
      (sound_entry env result (x.frame).entry e x.entry x.sound) x.nothing x.parameters depth envs (has_callees depth))
