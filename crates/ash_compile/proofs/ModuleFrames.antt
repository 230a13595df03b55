-- Where the frames of a module stand among the functions of its code.
use Rattle.std.proofs.Common.{◌≡◌, ℕ, suc, ◌+◌, Bool, true, false, List, [], ◌∷◌, ◌++◌, take, length, map, flat_map}
use Rattle.std.proofs.Common.{fold, sum, refl, sym, ap, ◌∙◌, subst, arith, option_map, length-append}
use Rattle.std.specs.Prelude.{Option, Some, None, slice_get, IfSome}
use Rattle.std.specs.Option.{option_map_or}
use Rattle.std.proofs.lemmas.Option.{slice_get-map}
use Rattle.ash_typed.specs.declared.types.VarType.{VarType}
use Rattle.ash_typed.specs.StatementTree.{no_stmt}
use Rattle.ash_typed.specs.Modules.{Function, Class, Module}
use Rattle.ash_typed.specs.Signatures.{parameters_of}
use Rattle.ash_typed.specs.SoundExpressions.{TypedEnvironment}
use Rattle.ash_typed.specs.SoundStatements.{AreSoundStmts, no_stmts}
use Rattle.ash_typed.specs.SoundModules.{IsSoundFunction, IsSoundConstructor, inside, outside}
use Rattle.ash_meaning.specs.Classes.{ModuleCallee, Method, Construction, Entry, entry_of_function, entry_of_method}
use Rattle.ash_meaning.specs.Classes.{entry_of_construction}
use Rattle.ash_soundness.specs.WellFormed.{Context, IsContext, declared}
use Rattle.ash_soundness.proofs.Entries.{class_is}
use Rattle.ash_soundness.proofs.Hosts.{rec_at}
use Rattle.ash_code.specs.CompiledCode.{entries_of}
use Rattle.ash_compile.specs.Layout.{count_of_methods, methods_before, index_of}
use Rattle.ash_compile.specs.Callees.{IsCallee, a_function, a_method, a_construction}
use Rattle.ash_compile.specs.EmittedFrames.{FrameSource, frame_of_function, frame_of_method, frame_of_construction}
use Rattle.ash_compile.specs.EmittedFrames.{methods_of, frames_of, no_field, all_fields, IsSoundEntry}
use Rattle.ash_compile.proofs.Listings.{get_first, get_second, get_part, map_both}

-- maps

mapped_at : {A B : Type 0} (f : A → B) (xs : List A) (k : ℕ) (x : A) → slice_get xs k ≡ Some x
    → slice_get (map f xs) k ≡ Some (f x)
mapped_at f xs k x at = slice_get-map f xs k ∙ ap (option_map f) at

long_map : {A B : Type 0} (f : A → B) (xs : List A) → length (map f xs) ≡ length xs
long_map f [] = refl
long_map f (x ∷ xs) = ap suc (long_map f xs)

-- frames and entries

abbrev entry_in : FrameSource → Entry
entry_in x = x.entry

functions_seen : (fs : List Function) → map entry_in (map frame_of_function fs) ≡ map entry_of_function fs
functions_seen [] = refl
functions_seen (f ∷ fs) = ap (λ (zs : List Entry). entry_of_function f ∷ zs) (functions_seen fs)

constructions_seen : (cs : List Class) → map entry_in (map frame_of_construction cs) ≡ map entry_of_construction cs
constructions_seen [] = refl
constructions_seen (c ∷ cs) = ap (λ (zs : List Entry). entry_of_construction c ∷ zs) (constructions_seen cs)

own_seen : (c : Class) (fs : List Function) → map entry_in (map (frame_of_method c) fs) ≡ map (entry_of_method c) fs
own_seen c [] = refl
own_seen c (f ∷ fs) = ap (λ (zs : List Entry). entry_of_method c f ∷ zs) (own_seen c fs)

methods_seen : (cs : List Class) → map entry_in (flat_map methods_of cs)
    ≡ flat_map (λ (c : Class). map (entry_of_method c) c.methods) cs
methods_seen [] = refl
methods_seen (c ∷ cs) =
    map_both entry_in (methods_of c) (flat_map methods_of cs)
    ∙ ap (λ (zs : List Entry). zs ++ map entry_in (flat_map methods_of cs)) (own_seen c c.methods)
    ∙ ap (λ (zs : List Entry). map (entry_of_method c) c.methods ++ zs) (methods_seen cs)

-- the entries of a module are those of its frames
pub entries_seen : (m : Module) → map entry_in (frames_of m) ≡ entries_of m
entries_seen m =
    let functions = map frame_of_function m.functions in
    let constructions = map frame_of_construction m.classes in
    let methods = flat_map methods_of m.classes in
    map_both entry_in (functions ++ constructions) methods
    ∙ ap (λ (zs : List Entry). zs ++ map entry_in methods) (map_both entry_in functions constructions)
    ∙ ap (λ (zs : List Entry). zs ++ map entry_in constructions ++ map entry_in methods) (functions_seen m.functions)
    ∙ ap (λ (zs : List Entry). map entry_of_function m.functions ++ zs ++ map entry_in methods)
    (constructions_seen m.classes)
    ∙ ap (λ (zs : List Entry). map entry_of_function m.functions ++ map entry_of_construction m.classes ++ zs)
    (methods_seen m.classes)

pub count_of_frames : (m : Module) → length (frames_of m) ≡ length (entries_of m)
count_of_frames m = sym (long_map entry_in (frames_of m)) ∙ ap length (entries_seen m)

-- the entry of a frame at its place
pub entry_at : (m : Module) (k : ℕ) (x : FrameSource) → slice_get (frames_of m) k ≡ Some x
    → slice_get (entries_of m) k ≡ Some x.entry
entry_at m k x at =
    ap (λ (es : List Entry). slice_get es k) (sym (entries_seen m)) ∙ mapped_at entry_in (frames_of m) k x at

-- places

sum_from : (n : ℕ) (xs : List ℕ) → fold ◌+◌ n xs ≡ n + sum xs
sum_from n [] = omega arith
sum_from n (x ∷ xs) =
    let one = sum_from (n + x) xs in
    let other = sum_from (0 + x) xs in
    omega (arith, one, other)

count_of_all : (cs : List Class) → length (flat_map methods_of cs) ≡ sum (map count_of_methods cs)
count_of_all [] = refl
count_of_all (c ∷ cs) =
    let own = long_map (frame_of_method c) c.methods in
    let others = count_of_all cs in
    let all = length-append (methods_of c) (flat_map methods_of cs) in
    let counted = sum_from (0 + length c.methods) (map count_of_methods cs) in
    omega (arith, own, others, all, counted)

pub function_at : (m : Module) (place : ℕ) (f : Function) → slice_get m.functions place ≡ Some f
    → slice_get (frames_of m) place ≡ Some (frame_of_function f)
function_at m place f at =
    get_first (map frame_of_function m.functions ++ map frame_of_construction m.classes) (flat_map methods_of m.classes)
    place (frame_of_function f)
    (get_first (map frame_of_function m.functions) (map frame_of_construction m.classes) place (frame_of_function f)
    (mapped_at frame_of_function m.functions place f at))

pub construction_at : (m : Module) (class : ℕ) (k : Class) → slice_get m.classes class ≡ Some k
    → slice_get (frames_of m) (length m.functions + class) ≡ Some (frame_of_construction k)
construction_at m class k at =
    let functions = map frame_of_function m.functions in
    let constructions = map frame_of_construction m.classes in
    get_first (functions ++ constructions) (flat_map methods_of m.classes) (length m.functions + class)
    (frame_of_construction k)
    (ap (λ (n : ℕ). slice_get (functions ++ constructions) (n + class)) (sym (long_map frame_of_function m.functions))
    ∙ get_second functions constructions class
    ∙ mapped_at frame_of_construction m.classes class k at)

pub method_at : (m : Module) (class place : ℕ) (k : Class) (f : Function) → slice_get m.classes class ≡ Some k
    → slice_get k.methods place ≡ Some f
    → slice_get (frames_of m) (index_of m (Method class place)) ≡ Some (frame_of_method k f)
method_at m class place k f at here =
    let functions = map frame_of_function m.functions in
    let constructions = map frame_of_construction m.classes in
    let methods = flat_map methods_of m.classes in
    let before = length (flat_map methods_of (take class m.classes)) in
    let counted : before ≡ methods_before class m.classes = count_of_all (take class m.classes) in
    let first = length-append functions constructions in
    let many = long_map frame_of_function m.functions in
    let more = long_map frame_of_construction m.classes in
    let level : index_of m (Method class place) ≡ length (functions ++ constructions) +
    (before + place) = omega arith in
    ap (λ (n : ℕ). slice_get (frames_of m) n) level
    ∙ get_second (functions ++ constructions) methods (before + place)
    ∙ get_part methods_of m.classes class place k (frame_of_method k f) at
    (mapped_at (frame_of_method k) k.methods place f here)

-- callees

abbrev pub constructs : ModuleCallee → Bool
constructs (Construction class) = true
constructs _ = false

-- what stands at the place of a callee
pub record Stands (c : Context) (callee : ModuleCallee) (env : TypedEnvironment) (result : Option VarType) (e : Entry)
    : Type 0 where
  pub frame : FrameSource
  pub at : slice_get (frames_of (c.program).tree) (index_of (c.program).tree callee) ≡ Some frame
  pub entry : frame.entry ≡ e
  pub parameters : length env.locals ≡ frame.parameters
  pub gives : frame.constructs ≡ constructs callee
  pub declares : env.signatures ≡ declared c
  pub nothing : frame.constructs ≡ true → result ≡ None
  pub sound : IsSoundEntry c env result e

module _ {c : Context} (context : IsContext c) where
  body_of_construction : (class : ℕ) (k : Class) (o : Option Function)
      → IfSome o (IsSoundConstructor (inside (declared c) class) k.name)
      → AreSoundStmts (record {
        env = record { signatures = declared c; this = Some class; locals = parameters_of o };
        result = None;
        may_break = false;
        may_continue = false;
      }) (option_map_or (λ (f : Function). f.body) o no_stmt)
  body_of_construction class k None sound = no_stmts
  body_of_construction class k (Some f) sound =
      subst (λ (r : Option VarType). AreSoundStmts (record {
        env = record { signatures = declared c; this = Some class; locals = f.parameters };
        result = r;
        may_break = false;
        may_continue = false;
      }) f.body) sound.gives_nothing (sound.function).body

  pub callee_stands : (callee : ModuleCallee) (env : TypedEnvironment) (result : Option VarType) (e : Entry)
      → IsCallee c callee env result e → Stands c callee env result e
  callee_stands _ _ _ _ (a_function {place = place} {f = f} at) = record {
    frame = frame_of_function f;
    at = function_at (c.program).tree place f at;
    entry = refl;
    parameters = refl;
    gives = refl;
    declares = refl;
    nothing = λ is. absurd (cc);
    sound = record {
      fields = no_field;
      body = (rec_at (IsSoundFunction (outside (declared c))) ((c.program).tree).functions place f
          (context.sound).functions at).body;
    };
  }
  callee_stands _ _ _ _ (a_method {class = class} {place = place} {k = k} {f = f} at here) = record {
    frame = frame_of_method k f;
    at = method_at (c.program).tree class place k f at here;
    entry = refl;
    parameters = refl;
    gives = refl;
    declares = refl;
    nothing = λ is. absurd (cc);
    sound = record {
      fields = no_field;
      body = (rec_at (IsSoundFunction (inside (declared c) class)) k.methods place f
          (class_is context class k at).methods here).body;
    };
  }
  callee_stands _ _ _ _ (a_construction {class = class} {k = k} at) = record {
    frame = frame_of_construction k;
    at = construction_at (c.program).tree class k at;
    entry = refl;
    parameters = refl;
    gives = refl;
    declares = refl;
    nothing = λ is. refl;
    sound = record {
      fields = all_fields refl at;
      body = body_of_construction class k k.constructor (class_is context class k at).constructor;
    };
  }
