-- Parts that are compiled are the code of their module.
use Rattle.std.proofs.Common.{◌≡◌, ◌≤◌, ℕ, List, [], take, length, refl, sym, ap, ◌∙◌, subst, arith}
use Rattle.std.specs.Prelude.{Option, Some, slice_get, unwrap_or}
use Rattle.std.proofs.lemmas.Option.{slice_get_past}
use Rattle.std.proofs.lemmas.Slice.Zip.{AllZip-long}
use Rattle.ash_host.specs.declared.word.Word.{Word}
use Rattle.ash_typed.specs.Modules.{Function}
use Rattle.ash_meaning.specs.Activity.{World}
use Rattle.ash_meaning.specs.Classes.{FreeFunction, entry_of_function}
use Rattle.ash_soundness.specs.WellFormed.{Context, IsContext, IsWellFormed}
use Rattle.ash_soundness.proofs.Lists.{values_length}
use Rattle.ash_code.specs.declared.code.FunctionCode.{FunctionCode}
use Rattle.ash_code.specs.declared.code.CodeParts.{CodeParts}
use Rattle.ash_code.specs.declared.instruction.Instruction.TheVariants as i
use Rattle.ash_code.specs.Controls.{control}
use Rattle.ash_code.specs.Performing.{Setting, own_name}
use Rattle.ash_code.specs.Running as running
use Rattle.ash_code.specs.Arrivals.{Arrives, end_of}
use Rattle.ash_code.specs.Sizes.{slots_of_frames}
use Rattle.ash_code.specs.CompiledCode.{env_of, run_of_call, run_of_load, first_of_function, first_of_load}
use Rattle.ash_code.specs.CompiledCode.{IsSetFor, IsCodeOfFunction, IsCodeOf}
use Rattle.ash_compile.specs.declared.layout.Layout.{Layout}
use Rattle.ash_compile.specs.Stretches.{Has}
use Rattle.ash_compile.specs.Performances.{here}
use Rattle.ash_compile.specs.Callees.{a_function}
use Rattle.ash_compile.specs.Emission.{Good}
use Rattle.ash_compile.specs.EmittedFrames.{frame_of_function, frames_of, IsFrameCode, IsCompiled}
use Rattle.ash_compile.proofs.Functions.{runs, loads_module}
use Rattle.ash_compile.proofs.Listings.{zip_at}
use Rattle.ash_compile.proofs.ModuleFrames.{count_of_frames, function_at}
use Rattle.ash_compile.proofs.EveryCallee.{scene_of, is_scene, has_callees}

module _ (layout : Layout) (parts : CodeParts) (c : Context) (context : IsContext c)
    (compiled : IsCompiled layout (c.program).tree parts) where
  compiled_in : (s : Setting) → IsSetFor parts c s → IsCompiled layout (c.program).tree s.code
  compiled_in s set = subst (λ (p : CodeParts). IsCompiled layout (c.program).tree p) (sym set.code) compiled

  owner_in : (s : Setting) → IsSetFor parts c s → own_name s ≡ (c.program).name
  owner_in s set = ap (λ (p : CodeParts). (s.names).modules p.module) set.code ∙ set.owner

  room_in : (s : Setting) (slots : List Word) → IsSetFor parts c s → slots_of_frames parts ≤ length slots
      → slots_of_frames s.code ≤ length slots
  room_in s slots set long = subst (λ (p : CodeParts). slots_of_frames p ≤ length slots) (sym set.code) long

  -- functions

  calls : (place : ℕ) (f : Function) → slice_get ((c.program).tree).functions place ≡ Some f
      → (s : Setting) (args : List Word) (budget : ℕ) (world : World) (slots : List Word)
      → IsSetFor parts c s
      → slots_of_frames parts ≤ length slots
      → length args ≤ length slots
      → args ≡ take (length args) slots
      → IsWellFormed c (env_of c f.parameters) [] (first_of_function f args budget world)
      → Arrives s (control place 0 (record { slots = slots; count = length args; callers = [] }))
      (first_of_function f args budget world)
      (end_of (run_of_call c.program budget (entry_of_function f) (first_of_function f args budget world)))
  calls place f at s args budget world slots set long within are well =
      let callee = has_callees s c context layout (compiled_in s set) (owner_in s set) set.functions set.ranked budget
      (FreeFunction place) (env_of c f.parameters) f.result (entry_of_function f) (a_function at) in
      let first = first_of_function f args budget world in
      let many : (callee.code).parameters ≡ length args = callee.parameters ∙ sym (values_length (well.frame).locals) in
      let room = room_in s slots set long in
      subst (λ (n : ℕ). Arrives s (here place 0 n slots []) first
      (end_of (run_of_call c.program budget (entry_of_function f) first))) many
      (runs s _ place _ (run_of_call c.program budget (entry_of_function f)) (callee.code).parameters slots first
      (callee.enters []) (omega arith) (omega (arith, many, within))
      (are ∙ ap (λ (n : ℕ). take n slots) (sym many)) (well, omega arith))

  function_code : (place : ℕ) (f : Function) → slice_get ((c.program).tree).functions place ≡ Some f
      → IsCodeOfFunction parts c place f
  function_code place f at =
      let (code, there, is) = zip_at (IsFrameCode layout) (frames_of (c.program).tree) (parts.functions).items place
      (frame_of_function f) compiled.functions (function_at (c.program).tree place f at) in
      record {
        code = code;
        at = there;
        line = is.line;
        parameters = is.parameters;
        arrives = calls place f at;
      }

  -- initializers

  init_there : (s : Setting) → IsSetFor parts c s
      → running.code_of s.code (length (parts.functions).items) ≡ (s.code).init
  init_there s set =
      ap (λ (p : CodeParts). running.code_of s.code (length (p.functions).items)) (sym set.code)
      ∙ ap (λ (o : Option FunctionCode). unwrap_or o (s.code).init)
      (slice_get_past ((s.code).functions).items (length ((s.code).functions).items) (omega arith))

  loads : (s : Setting) (budget : ℕ) (world : World) (slots : List Word)
      → IsSetFor parts c s
      → slots_of_frames parts ≤ length slots
      → IsWellFormed c (env_of c []) [] (first_of_load (c.program).tree budget world)
      → Arrives s (control (length (parts.functions).items) 0 (record { slots = slots; count = 0; callers = [] }))
      (first_of_load (c.program).tree budget world)
      (end_of (run_of_load c.program budget (first_of_load (c.program).tree budget world)))
  loads s budget world slots set long well =
      let inside = compiled_in s set in
      let callees = has_callees s c context layout inside (owner_in s set) set.functions set.ranked budget in
      let function = length (parts.functions).items in
      let scene = scene_of s c context layout inside (owner_in s set) set.functions set.ranked budget (env_of c []) []
      function in
      let init = inside.init in
      let there = init_there s set in
      let room = room_in s slots set long in
      let acts = init.acts scene
      (is_scene s c context layout inside (owner_in s set) set.functions set.ranked budget (env_of c []) [] function
      callees refl) refl refl there (omega arith) inside.layout in
      let has : Has s (Good scene) function scene.room init.end i.ReturnNothing
      = ap (λ (g : FunctionCode). slice_get (g.instructions).items init.end) there ∙ init.ends in
      loads_module s (Good scene) function scene.room c.program budget world slots init.end 0 acts has (omega arith)
      (well, omega arith)

  -- the code of the module
  pub is_code_of : IsCodeOf parts c
  is_code_of = record {
    count = AllZip-long (IsFrameCode layout) (frames_of (c.program).tree) (parts.functions).items compiled.functions
        ∙ count_of_frames (c.program).tree;
    functions = function_code;
    init = record { arrives = loads };
  }
