-- The names of what is entered by the code of a module.
use Rattle.std.proofs.Common.{◌≡◌, ◌<◌, ◌≤◌, ◌-◌, ◌+◌, ℕ, zero, suc, List, [], ◌∷◌, ◌++◌, length, map, drop, get_or, refl, sym, ap, ◌∙◌, slice_get, append_assoc, arith}
use Rattle.std.specs.Prelude.{Option, Some, option_map, flat_map, codes, string_bytes}
use Rattle.std.specs.Option.{option_map_or}
use Rattle.std.proofs.lemmas.List.{length-map, at_drop_all, drop_more}
use Rattle.std.proofs.lemmas.Option.{slice_get-map, slice_get-get_or}
use Rattle.ash_typed.specs.declared.tree.items.Class as class
use Rattle.ash_typed.specs.declared.tree.items.Function as function
use Rattle.ash_typed.specs.declared.tree.items.Module as script
use Rattle.ash_typed.specs.Modules.{Class, class_of, function_of, module_of}
use Rattle.ash_meaning.specs.Classes.{Entry, dotted, entry_of_function, entry_of_method, entry_of_construction}
use Rattle.ash_engine.specs.TableTasks.{entry_name}

-- what is at a place among these and those

pub got_first : {A : Type 0} (xs ys : List A) (n : ℕ) → n < length xs → slice_get (xs ++ ys) n ≡ slice_get xs n
got_first [] ys n h = absurd (omega arith)
got_first (x ∷ xs) ys zero h = refl
got_first (x ∷ xs) ys (suc n) h = got_first xs ys n (omega arith)

pub got_second : {A : Type 0} (xs ys : List A) (n : ℕ) → length xs ≤ n → slice_get (xs ++ ys) n ≡ slice_get ys (n - length xs)
got_second [] ys n h = let e : n - 0 ≡ n = omega arith in ap (slice_get ys) (sym e)
got_second (x ∷ xs) ys zero h = absurd (omega arith)
got_second (x ∷ xs) ys (suc n) h = let e : suc n - suc (length xs) ≡ n - length xs = omega arith in got_second xs ys n (omega arith) ∙ ap (slice_get ys) (sym e)

-- the name of an entry, or that of the initializers
abbrev pub named : Option Entry → List ℕ
named o = option_map_or (λ (e : Entry). e.name) o (codes "(init)")

-- the methods of classes
abbrev pub methods_of : List class.Class → List Entry
methods_of cs = flat_map (λ (c : Class). map (entry_of_method c) c.methods) (map class_of cs)

-- what is entered behind the free functions
abbrev pub members_of : List class.Class → List Entry
members_of cs = map entry_of_construction (map class_of cs) ++ methods_of cs

how_many : (c : class.Class) → length (map (entry_of_method (class_of c)) (class_of c).methods) ≡ length c.methods.items
how_many c = length-map (map function_of c.methods.items) (entry_of_method (class_of c)) ∙ length-map c.methods.items function_of

own : (c : class.Class) (n : ℕ) (f : function.Function) → slice_get c.methods.items n ≡ Some f
    → slice_get (map (entry_of_method (class_of c)) (class_of c).methods) n ≡ Some (entry_of_method (class_of c) (function_of f))
own c n f at =
    slice_get-map (entry_of_method (class_of c)) (map function_of c.methods.items) n
    ∙ ap (option_map (entry_of_method (class_of c))) (slice_get-map function_of c.methods.items n ∙ ap (option_map function_of) at)

opened : (cs : List class.Class) (i : ℕ) (c : class.Class) → i < length cs → c ≡ get_or cs i c → drop i cs ≡ c ∷ drop (i + 1) cs
opened cs i c within is = drop_more cs i c within ∙ ap (λ (x : class.Class). x ∷ drop (i + 1) cs) (sym is)

-- the name of a method of the first of what is left of classes
pub method_here : (cs : List class.Class) (i n : ℕ) (c : class.Class) (f : function.Function) → i < length cs → c ≡ get_or cs i c
    → n < length c.methods.items → f ≡ get_or c.methods.items n f
    → dotted (string_bytes c.name) (string_bytes f.name) ≡ named (slice_get (methods_of (drop i cs)) n)
method_here cs i n c f within is few at =
    sym (ap (λ (l : List class.Class). named (slice_get (methods_of l) n)) (opened cs i c within is)
    ∙ ap named (got_first (map (entry_of_method (class_of c)) (class_of c).methods) (methods_of (drop (i + 1) cs)) n (omega (arith, how_many c))
    ∙ own c n f (slice_get-get_or c.methods.items n f few ∙ ap (λ (x : function.Function). Some x) (sym at))))

-- a method behind those of the first
pub method_later : (cs : List class.Class) (i n : ℕ) (c : class.Class) → i < length cs → c ≡ get_or cs i c → length c.methods.items ≤ n
    → slice_get (methods_of (drop (i + 1) cs)) (n - length c.methods.items) ≡ slice_get (methods_of (drop i cs)) n
method_later cs i n c within is past =
    sym (ap (λ (l : List class.Class). slice_get (methods_of l) n) (opened cs i c within is)
    ∙ got_second (map (entry_of_method (class_of c)) (class_of c).methods) (methods_of (drop (i + 1) cs)) n (omega (arith, how_many c))
    ∙ ap (λ (k : ℕ). slice_get (methods_of (drop (i + 1) cs)) (n - k)) (how_many c))

-- no class is left
pub no_method : (cs : List class.Class) (i n : ℕ) → length cs ≤ i → codes "(init)" ≡ named (slice_get (methods_of (drop i cs)) n)
no_method cs i n past = sym (at_drop_all (λ (l : List class.Class). named (slice_get (methods_of l) n)) cs i past)

-- the name of a construction
pub construction_here : (cs : List class.Class) (n : ℕ) (c : class.Class) → n < length cs → c ≡ get_or cs n c
    → dotted (string_bytes c.name) (string_bytes c.name) ≡ named (slice_get (members_of cs) n)
construction_here cs n c within is =
    let all = length-map (map class_of cs) entry_of_construction in
    let seen = length-map cs class_of in
    sym (ap named (got_first (map entry_of_construction (map class_of cs)) (methods_of cs) n (omega (arith, all, seen))
    ∙ slice_get-map entry_of_construction (map class_of cs) n
    ∙ ap (option_map entry_of_construction) (slice_get-map class_of cs n
    ∙ ap (option_map class_of) (slice_get-get_or cs n c within ∙ ap (λ (x : class.Class). Some x) (sym is)))))

-- behind the constructions
pub behind_constructions : (cs : List class.Class) (n : ℕ) → length cs ≤ n
    → named (slice_get (methods_of cs) (n - length cs)) ≡ named (slice_get (members_of cs) n)
behind_constructions cs n past =
    let all = length-map (map class_of cs) entry_of_construction in
    let seen = length-map cs class_of in
    sym (ap named (got_second (map entry_of_construction (map class_of cs)) (methods_of cs) n (omega (arith, all, seen))
    ∙ ap (λ (k : ℕ). slice_get (methods_of cs) (n - k)) (all ∙ seen)))

grouped : (tree : script.Module) (n : ℕ) → entry_name (module_of tree) n
    ≡ named (slice_get (map entry_of_function (map function_of tree.functions.items) ++ members_of tree.classes.items) n)
grouped tree n = ap (λ (l : List Entry). named (slice_get l n))
    (append_assoc (map entry_of_function (map function_of tree.functions.items)) (map entry_of_construction (map class_of tree.classes.items)) (methods_of tree.classes.items))

-- the name of a free function
pub function_here : (tree : script.Module) (n : ℕ) (f : function.Function) → n < length tree.functions.items → f ≡ get_or tree.functions.items n f
    → string_bytes f.name ≡ entry_name (module_of tree) n
function_here tree n f within is =
    let all = length-map (map function_of tree.functions.items) entry_of_function in
    let seen = length-map tree.functions.items function_of in
    sym (grouped tree n
    ∙ ap named (got_first (map entry_of_function (map function_of tree.functions.items)) (members_of tree.classes.items) n (omega (arith, all, seen))
    ∙ slice_get-map entry_of_function (map function_of tree.functions.items) n
    ∙ ap (option_map entry_of_function) (slice_get-map function_of tree.functions.items n
    ∙ ap (option_map function_of) (slice_get-get_or tree.functions.items n f within ∙ ap (λ (x : function.Function). Some x) (sym is)))))

-- behind the free functions
pub behind_functions : (tree : script.Module) (n : ℕ) → length tree.functions.items ≤ n
    → named (slice_get (members_of tree.classes.items) (n - length tree.functions.items)) ≡ entry_name (module_of tree) n
behind_functions tree n past =
    let all = length-map (map function_of tree.functions.items) entry_of_function in
    let seen = length-map tree.functions.items function_of in
    sym (grouped tree n
    ∙ ap named (got_second (map entry_of_function (map function_of tree.functions.items)) (members_of tree.classes.items) n (omega (arith, all, seen))
    ∙ ap (λ (k : ℕ). slice_get (members_of tree.classes.items) (n - k)) (all ∙ seen)))
