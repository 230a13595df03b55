-- How many parameters the functions of a module have, as its layout counts them.
use Rattle.std.proofs.Common.{◌≡◌, ◌<◌, ℕ, suc, List, [], ◌∷◌, ◌++◌, map, flat_map, length, refl, ap, ◌∙◌, arith}
use Rattle.std.specs.Prelude.{Some, slice_get}
use Rattle.std.proofs.lemmas.Option.{slice_get_within}
use Rattle.ash_typed.specs.Modules.{Function, Class, Module}
use Rattle.ash_meaning.specs.Classes.{Method, Construction}
use Rattle.ash_soundness.proofs.Parts.{there_from}
use Rattle.ash_compile.specs.declared.layout.Layout.{Layout}
use Rattle.ash_compile.specs.Layout.{IsLayout, index_of, count_of_parameters, count_of_constructor, counts_of_methods}
use Rattle.ash_compile.specs.Layout.{counts_of_parameters}
use Rattle.ash_compile.specs.EmittedFrames.{FrameSource, frame_of_function, frame_of_method, frame_of_construction}
use Rattle.ash_compile.specs.EmittedFrames.{methods_of, frames_of}
use Rattle.ash_compile.specs.ValidCode.{counts_of, constructors_of}
use Rattle.ash_compile.proofs.Listings.{map_both}
use Rattle.ash_compile.proofs.ModuleFrames.{construction_at, method_at}

-- how many parameters frames have

abbrev pub parameters_in : FrameSource → ℕ
parameters_in x = x.parameters

functions_counted : (fs : List Function) → map parameters_in (map frame_of_function fs) ≡ map count_of_parameters fs
functions_counted [] = refl
functions_counted (f ∷ fs) = ap (λ (ns : List ℕ). count_of_parameters f ∷ ns) (functions_counted fs)

constructions_counted : (cs : List Class)
    → map parameters_in (map frame_of_construction cs) ≡ map count_of_constructor cs
constructions_counted [] = refl
constructions_counted (c ∷ cs) = ap (λ (ns : List ℕ). count_of_constructor c ∷ ns) (constructions_counted cs)

own_counted : (c : Class) (fs : List Function)
    → map parameters_in (map (frame_of_method c) fs) ≡ map count_of_parameters fs
own_counted c [] = refl
own_counted c (f ∷ fs) = ap (λ (ns : List ℕ). count_of_parameters f ∷ ns) (own_counted c fs)

methods_counted : (cs : List Class) → map parameters_in (flat_map methods_of cs) ≡ flat_map counts_of_methods cs
methods_counted [] = refl
methods_counted (c ∷ cs) =
    map_both parameters_in (methods_of c) (flat_map methods_of cs)
    ∙ ap (λ (ns : List ℕ). ns ++ map parameters_in (flat_map methods_of cs)) (own_counted c c.methods)
    ∙ ap (λ (ns : List ℕ). counts_of_methods c ++ ns) (methods_counted cs)

pub frames_counted : (m : Module) → map parameters_in (frames_of m) ≡ counts_of_parameters m
frames_counted m =
    let functions = map frame_of_function m.functions in
    let constructions = map frame_of_construction m.classes in
    let methods = flat_map methods_of m.classes in
    map_both parameters_in (functions ++ constructions) methods
    ∙ ap (λ (ns : List ℕ). ns ++ map parameters_in methods) (map_both parameters_in functions constructions)
    ∙ ap (λ (ns : List ℕ). ns ++ map parameters_in constructions ++ map parameters_in methods)
    (functions_counted m.functions)
    ∙ ap (λ (ns : List ℕ). map count_of_parameters m.functions ++ ns ++ map parameters_in methods)
    (constructions_counted m.classes)
    ∙ ap (λ (ns : List ℕ). map count_of_parameters m.functions ++ map count_of_constructor m.classes ++ ns)
    (methods_counted m.classes)

pub long_map : {A B : Type 0} (f : A → B) (xs : List A) → length (map f xs) ≡ length xs
long_map f [] = refl
long_map f (x ∷ xs) = ap suc (long_map f xs)

-- what is there is counted

pub frame_counted : (number : ℕ) (m : Module) (layout : Layout) (k : ℕ) (x : FrameSource) → IsLayout number m layout
    → slice_get (frames_of m) k ≡ Some x → k < length (counts_of layout)
frame_counted number m layout k x is at =
    let within = slice_get_within (frames_of m) k x at in
    let long = long_map parameters_in (frames_of m) in
    let same = ap length (frames_counted m) in
    let all = ap length is.parameters in
    omega (arith, within, long, same, all)

pub class_counted : (number : ℕ) (m : Module) (layout : Layout) (k : ℕ) (x : Class) → IsLayout number m layout
    → slice_get m.classes k ≡ Some x → k < length (constructors_of layout)
class_counted number m layout k x is at =
    let within = slice_get_within m.classes k x at in
    let long = long_map count_of_constructor m.classes in
    let all = ap length is.constructors in
    omega (arith, within, long, all)

pub method_counted : (number : ℕ) (m : Module) (layout : Layout) (class place : ℕ) (k : Class)
    → IsLayout number m layout → slice_get m.classes class ≡ Some k → place < length k.methods
    → index_of m (Method class place) < length (counts_of layout)
method_counted number m layout class place k is at low =
    let (f, here) = there_from k.methods place low in
    frame_counted number m layout (index_of m (Method class place)) (frame_of_method k f) is
    (method_at m class place k f at here)

pub construction_counted : (number : ℕ) (m : Module) (layout : Layout) (class : ℕ) → IsLayout number m layout
    → class < length m.classes → index_of m (Construction class) < length (counts_of layout)
construction_counted number m layout class is low =
    let (k, at) = there_from m.classes class low in
    frame_counted number m layout (index_of m (Construction class)) (frame_of_construction k) is
    (construction_at m class k at)
