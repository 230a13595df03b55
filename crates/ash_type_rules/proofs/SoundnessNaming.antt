-- The functions of a typed module differ in name, and so do its variables.
use Rattle.std.specs.List.{AllByRecursion, AllZip, IsDistinct}
use Rattle.std.specs.Str.{bytes_eq}
use Rattle.std.proofs.Common.{◌≡◌, ℕ, List, [], ◌∷◌, ◌++◌, map, false, refl, sym, ap₂, subst}
use Rattle.ash_tree.specs.Tree as written
use Rattle.ash_typed.specs.StatementTree.{Initialization}
use Rattle.ash_typed.specs.Modules as modules
use Rattle.ash_typed.specs.SoundModules.{name_of_function, name_of_variable, names_of_globals}
use Rattle.ash_type_rules.specs.declared.types.Ty.{Ty}
use Rattle.ash_type_rules.specs.Environment.{Environment}
use Rattle.ash_type_rules.specs.ModuleDeclarations.{ty_in}
use Rattle.ash_type_rules.specs.Typing.{IsDeclaredType, declared as is_declared}
use Rattle.ash_type_rules.specs.TypedModules.{AreTypedVariables, IsTypedFunction}
use Rattle.ash_type_rules.proofs.TakenNames.{all_append, all_prefix, all_rest}
use Rattle.ash_tree.specs.Items.{functions_of, globals_of, decl_name, names_of, variable_names, item_names}

abbrev Distinct : List (List ℕ) → Type 0
Distinct = IsDistinct bytes_eq

distinct_rest : (xs ys : List (List ℕ)) → Distinct (xs ++ ys) → Distinct ys
unfolding IsDistinct
distinct_rest [] ys h = h
distinct_rest (x ∷ xs) ys h = distinct_rest xs ys h.1

-- fewer names after the same ones
distinct_fewer : (xs ys zs : List (List ℕ)) → ((P : List ℕ → Type 0) → AllByRecursion P ys → AllByRecursion P zs)
    → Distinct zs → Distinct (xs ++ ys) → Distinct (xs ++ zs)
unfolding IsDistinct
distinct_fewer [] ys zs fewer d h = d
distinct_fewer (x ∷ xs) ys zs fewer d h =
    let other : List ℕ → Type 0 = λ y. bytes_eq x y ≡ false in (
      all_append other xs zs (all_prefix other xs ys h.0) (fewer other (all_rest other xs ys h.0)),
      distinct_fewer xs ys zs fewer d h.1,
    )

-- functions

abbrev name_of : written.Function → List ℕ
name_of f = f.name

functions_among : (P : List ℕ → Type 0) (is : List written.Item) → AllByRecursion P (item_names is)
    → AllByRecursion P (map name_of (functions_of is))
functions_among P [] h = tt
functions_among P (written.AFunction f ∷ is) h = (h.0, functions_among P is h.1)
functions_among P (written.AClass c ∷ is) h = functions_among P is h.1
functions_among P (written.AnInterface i ∷ is) h = functions_among P is h.1
functions_among P (written.AGlobal v ∷ is) h = functions_among P is (all_rest P (names_of v) (item_names is) h)

functions_distinct : (is : List written.Item) → Distinct (item_names is) → Distinct (map name_of (functions_of is))
unfolding IsDistinct
functions_distinct [] h = tt
functions_distinct (written.AFunction f ∷ is) h =
    (functions_among (λ y. bytes_eq f.name y ≡ false) is h.0, functions_distinct is h.1)
functions_distinct (written.AClass c ∷ is) h = functions_distinct is h.1
functions_distinct (written.AnInterface i ∷ is) h = functions_distinct is h.1
functions_distinct (written.AGlobal v ∷ is) h = functions_distinct is (distinct_rest (names_of v) (item_names is) h)

function_names : (env : Environment) (fs : List written.Function) (ts : List modules.Function)
    → AllZip (IsTypedFunction env) fs ts → map name_of_function ts ≡ map name_of fs
function_names env [] [] h = refl
function_names env [] (t ∷ ts) h = absurd h
function_names env (f ∷ fs) [] h = absurd h
function_names env (f ∷ fs) (t ∷ ts) h = ap₂ (λ x xs. x ∷ xs) h.0.routine.name (function_names env fs ts h.1)

pub functions_differ : (env : Environment) (is : List written.Item) (ts : List modules.Function)
    → Distinct (item_names is) → AllZip (IsTypedFunction env) (functions_of is) ts → Distinct (map name_of_function ts)
functions_differ env is ts d h =
    subst Distinct (sym (function_names env (functions_of is) ts h)) (functions_distinct is d)

-- variables

globals_among : (P : List ℕ → Type 0) (is : List written.Item) → AllByRecursion P (item_names is)
    → AllByRecursion P (variable_names (globals_of is))
globals_among P [] h = tt
globals_among P (written.AGlobal v ∷ is) h =
    all_append P (names_of v) (variable_names (globals_of is)) (all_prefix P (names_of v) (item_names is) h)
    (globals_among P is (all_rest P (names_of v) (item_names is) h))
globals_among P (written.AFunction f ∷ is) h = globals_among P is h.1
globals_among P (written.AClass c ∷ is) h = globals_among P is h.1
globals_among P (written.AnInterface i ∷ is) h = globals_among P is h.1

globals_distinct : (is : List written.Item) → Distinct (item_names is) → Distinct (variable_names (globals_of is))
unfolding IsDistinct
globals_distinct [] h = tt
globals_distinct (written.AGlobal v ∷ is) h =
    distinct_fewer (names_of v) (item_names is) (variable_names (globals_of is))
    (λ P. globals_among P is) (globals_distinct is (distinct_rest (names_of v) (item_names is) h)) h
globals_distinct (written.AFunction f ∷ is) h = globals_distinct is h.1
globals_distinct (written.AClass c ∷ is) h = globals_distinct is h.1
globals_distinct (written.AnInterface i ∷ is) h = globals_distinct is h.1

variable_name : {env : Environment} {of : Ty} {d : written.Decl} {v : Initialization} → IsDeclaredType env of d v
    → v.name ≡ d.name
variable_name (is_declared h) = refl

value_names : (env : Environment) (of : Ty) (ds : List written.Decl) (vs : List Initialization)
    → AllZip (IsDeclaredType env of) ds vs → map name_of_variable vs ≡ map decl_name ds
value_names env of [] [] h = refl
value_names env of [] (v ∷ vs) h = absurd h
value_names env of (d ∷ ds) [] h = absurd h
value_names env of (d ∷ ds) (v ∷ vs) h = ap₂ (λ x xs. x ∷ xs) (variable_name h.0) (value_names env of ds vs h.1)

global_names : (env : Environment) (vs : List written.Vars) (ts : List modules.Variables)
    → AllZip (AreTypedVariables env) vs ts → names_of_globals ts ≡ variable_names vs
global_names env [] [] h = refl
global_names env [] (t ∷ ts) h = absurd h
global_names env (v ∷ vs) [] h = absurd h
global_names env (v ∷ vs) (t ∷ ts) h =
    ap₂ (λ xs ys. xs ++ ys) (value_names env (ty_in env v.of) v.decls t.values h.0.values) (global_names env vs ts h.1)

pub globals_differ : (env : Environment) (is : List written.Item) (ts : List modules.Variables)
    → Distinct (item_names is) → AllZip (AreTypedVariables env) (globals_of is) ts → Distinct (names_of_globals ts)
globals_differ env is ts d h = subst Distinct (sym (global_names env (globals_of is) ts h)) (globals_distinct is d)
