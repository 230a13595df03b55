-- The types that a typed module names are known, so that what each of its items sees is known.
use Rattle.std.proofs.Common.{◌≡◌, ◌+◌, ℕ, List, [], ◌∷◌, map, Option, Some, None}
use Rattle.std.proofs.Common.{Ok, refl, subst}
use mathlib.Core.Path.{fun_ext}
use Rattle.std.specs.List.{AllByRecursion, AllZip, IsDistinct}
use Rattle.ash_registrations.specs.Registrations as host
use Rattle.ash_tree.specs.Tree as written
use Rattle.ash_type_rules.specs.declared.types.Ty.{Ty}
use Rattle.ash_type_rules.specs.declared.types.Ty.TheVariants as ty
use Rattle.ash_type_rules.specs.Environment.{Environment, ModuleDeclarations, InterfaceSignature, ClassSignature}
use Rattle.ash_type_rules.specs.Environment.{inside}
use Rattle.ash_type_rules.specs.ModuleDeclarations.{ty_named, result_named, variables, parameter_ty}
use Rattle.ash_type_rules.specs.ModuleDeclarations.{function_declaration, signature_declaration, names_in, declarations}
use Rattle.ash_type_rules.specs.ModuleDeclarations.{ty_in, interface_declaration, class_declaration}
use Rattle.ash_type_rules.specs.ModuleDeclarations.{all_variables, constructed_by}
use Rattle.ash_type_rules.specs.Declarations.{Initialization, known_ty}
use Rattle.ash_type_rules.specs.Typing.{IsKnown, IsVariableType, IsTypeOfResult, IsKnownVariable, IsKnownFunction}
use Rattle.ash_type_rules.specs.Typing.{IsKnownInterface, IsKnownClass}
use Rattle.ash_typed.specs.Modules as modules
use Rattle.ash_type_rules.specs.ItemRules.{Names, Row, check_vars, check_result, check_parameters, check_routine, placed}
use Rattle.ash_type_rules.specs.ItemRules.{untaken, Members, constructor_named, check_member, check_members, no_members}
use Rattle.ash_type_rules.specs.ItemRules.{all_listed, none_listed, check_class, check_interface, room_for_type, Walked}
use Rattle.ash_type_rules.specs.ItemRules.{check_item, check_items}
use Rattle.ash_type_rules.specs.TypedModules.{IsPassedParameter, IsTypedResult, AreTypedVariables, AreFields, IsRoutine, IsTypedFunction}
use Rattle.ash_type_rules.specs.TypedModules.{IsTypedSignature, IsTypedInterface, AreTypedInterfaces, HasConstructor, IsTypedClass, AreTypedClasses}
use Rattle.ash_type_rules.specs.TypedModules.{environment}
use Rattle.ash_type_rules.proofs.Bindings.{bind_ok}
use Rattle.ash_type_rules.proofs.TakenNames.{all_append}
use Rattle.ash_type_rules.proofs.StatementPartsSound.{decls_known}
use Rattle.ash_type_rules.proofs.TypingKnown.{variable_is_result}
use Rattle.ash_type_rules.proofs.TypedVariables.{known_sound}
use Rattle.ash_type_rules.proofs.TypedRoutines.{passed_variable, parameters_sound, result_sound}
use Rattle.ash_type_rules.proofs.TypedInterfaces.{interface_sound}
use Rattle.ash_type_rules.proofs.TypedClasses.{named_sound}
use Rattle.ash_tree.specs.Items.{Routine, routine_of, constructing, classes_of, interfaces_of, classes_before}
use Rattle.ash_tree.specs.Items.{functions_of, globals_of, fields_of, methods_of, constructors_of}
use Rattle.ash_type_rules.proofs.NamedTypes.{same_type}

-- the types that are named, by what is looked up

abbrev KnownVars : (written.Named → Ty) → written.Vars → Type 0
KnownVars look v = IsVariableType (look v.of)

abbrev KnownParameter : (written.Named → Ty) → written.Parameter → Type 0
KnownParameter look p = IsVariableType (look p.of)

abbrev KnownResult : (written.Named → Ty) → Option written.Named → Type 0
KnownResult look None = Unit {0}
KnownResult look (Some of) = IsVariableType (look of)

abbrev KnownFunction : (written.Named → Ty) → written.Function → Type 0
KnownFunction look f = KnownResult look f.result × AllByRecursion (KnownParameter look) f.parameters

abbrev KnownConstructor : (written.Named → Ty) → written.Constructor → Type 0
KnownConstructor look c = AllByRecursion (KnownParameter look) c.parameters

abbrev KnownMembers : (written.Named → Ty) → List written.Member → Type 0
KnownMembers look ms =
    AllByRecursion (KnownVars look) (fields_of ms) × AllByRecursion (KnownFunction look) (methods_of ms)
    × AllByRecursion (KnownConstructor look) (constructors_of ms)

abbrev KnownSignature : (written.Named → Ty) → written.InterfaceMethod → Type 0
KnownSignature look m = KnownResult look m.result × AllByRecursion (KnownParameter look) m.parameters

abbrev KnownInterface : (written.Named → Ty) → written.Interface → Type 0
KnownInterface look i = AllByRecursion (KnownSignature look) i.methods

abbrev KnownClass : (written.Named → Ty) → written.Class → Type 0
KnownClass look c = KnownMembers look c.members

abbrev pub KnownItems : (written.Named → Ty) → List written.Item → Type 0
KnownItems look is =
    AllByRecursion (KnownInterface look) (interfaces_of is) × AllByRecursion (KnownClass look) (classes_of is)
    × AllByRecursion (KnownFunction look) (functions_of is) × AllByRecursion (KnownVars look) (globals_of is)

-- of what the walk takes, and of what has a typed tree by the rules

zip_known : {A B : Type 0} (R : A → B → Type 0) (P : A → Type 0) → ((x : A) (y : B) → R x y → P x)
    → (xs : List A) (ys : List B) → AllZip R xs ys → AllByRecursion P xs
zip_known R P one [] ys h = tt
zip_known R P one (x ∷ xs) [] h = absurd h
zip_known R P one (x ∷ xs) (y ∷ ys) h = (one x y h.0, zip_known R P one xs ys h.1)

vars_known : (env : Environment) (names : Names) (v : written.Vars) (after : Row) → check_vars env names v ≡ Ok after
    → KnownVars (ty_in env) v
unfolding check_vars
vars_known env names v after h =
    let k = bind_ok (known_ty v.of (ty_in env v.of)) _ after h in
    (known_sound env v.of v.of k.0 k.1).0

passed_are_known : (env : Environment) (ps : List written.Parameter) → AllByRecursion (IsPassedParameter env) ps
    → AllByRecursion (KnownParameter (ty_in env)) ps
passed_are_known env [] h = tt
passed_are_known env (p ∷ ps) h = (passed_variable (ty_in env p.of) h.0, passed_are_known env ps h.1)

result_is_known : (env : Environment) (of : Option written.Named) → IsTypedResult env of → KnownResult (ty_in env) of
result_is_known env None h = tt
result_is_known env (Some of) h = passed_variable (ty_in env of) h

routine_known : (env : Environment) (of : Ty) (r : Routine) (t : modules.Function) → check_routine env of r ≡ Ok t
    → AllByRecursion (KnownParameter (ty_in env)) r.parameters
unfolding check_routine IsDistinct
routine_known env of r t h =
    let p = bind_ok (check_parameters env [] r.parameters) _ t h in
    let s = parameters_sound env r.parameters [] p.0 tt p.1 in
    passed_are_known env r.parameters s.passed

function_known : (env : Environment) (f : written.Function) (of : Ty) (t : modules.Function)
    → check_result env f.result ≡ Ok of → check_routine env of (routine_of f) ≡ Ok t → KnownFunction (ty_in env) f
function_known env f of t h k =
    (result_is_known env f.result (result_sound env f.result of h).0, routine_known env of (routine_of f) t k)

members_known : (env : Environment) (xs : List written.Member) (ms after : Members) → check_members env ms xs ≡ Ok after
    → KnownMembers (ty_in env) xs
unfolding check_member
members_known env [] ms after h = (tt, tt, tt)
members_known env (written.AField v ∷ xs) ms after h =
    let m = bind_ok (check_member env ms (written.AField v)) _ after h in
    let r = bind_ok (check_vars env ms.names v) _ m.0 m.1 in
    let go = members_known env xs m.0 after m.2 in
    ((vars_known env ms.names v r.0 r.1, go.0), go.1, go.2)
members_known env (written.AMethod f ∷ xs) ms after h =
    let m = bind_ok (check_member env ms (written.AMethod f)) _ after h in
    let o = bind_ok (check_result env f.result) _ m.0 m.1 in
    let p = bind_ok (placed ms.names f.place.at f.name) _ m.0 o.2 in
    let t = bind_ok (check_routine env o.0 (routine_of f)) _ m.0 p.2 in
    let go = members_known env xs m.0 after m.2 in
    (go.0, (function_known env f o.0 t.0 o.1 t.1, go.1), go.2)
members_known env (written.AConstructor c ∷ xs) ms after h =
    let m = bind_ok (check_member env ms (written.AConstructor c)) _ after h in
    let n = bind_ok (constructor_named ms.class c) _ m.0 m.1 in
    let t = bind_ok (check_routine env ty.Void n.0) _ m.0 n.2 in
    let g = named_sound ms.class c n.0 n.1 in
    let go = members_known env xs m.0 after m.2 in (
      go.0,
      go.1,
      (
        routine_known env ty.Void (constructing c) t.0
            (subst (λ (r : Routine). check_routine env ty.Void r ≡ Ok t.0) g.2 t.1),
        go.2,
      ),
    )

class_known : (env : Environment) (place : ℕ) (c : written.Class) (t : modules.Class) → check_class env place c ≡ Ok t
    → KnownClass (ty_in env) c
unfolding check_class
class_known env place c t h =
    let l = bind_ok (all_listed env place none_listed c.interfaces) _ t h in
    let m = bind_ok (check_members (inside env place) (no_members c l.0.interfaces) c.members) _ t l.2 in
    members_known (inside env place) c.members (no_members c l.0.interfaces) m.0 m.1

signatures_known : (env : Environment) (ms : List written.InterfaceMethod) (ts : List modules.Signature)
    → AllZip (IsTypedSignature env) ms ts → AllByRecursion (KnownSignature (ty_in env)) ms
signatures_known env ms ts h =
    zip_known (IsTypedSignature env) (KnownSignature (ty_in env))
    (λ m t is. (result_is_known env m.result is.passed_result, passed_are_known env m.parameters is.passed)) ms ts h

interface_known : (env : Environment) (classes : ℕ) (i : written.Interface) (t : modules.Interface)
    → IsTypedInterface env i classes t → KnownInterface (ty_in env) i
interface_known env classes i t is = signatures_known env i.methods t.methods is.methods

pub items_known : (env : Environment) (is : List written.Item) (w after : Walked) → check_items env w is ≡ Ok after
    → KnownItems (ty_in env) is
unfolding check_item
items_known env [] w after h = (tt, tt, tt, tt)
items_known env (written.AClass c ∷ is) w after h =
    let m = bind_ok (check_item env w (written.AClass c)) _ after h in
    let u = bind_ok (untaken w.names c.place.at c.name) _ m.0 m.1 in
    let o = bind_ok (room_for_type c.place.at w.typed) _ m.0 u.2 in
    let t = bind_ok (check_class env o.0 c) _ m.0 o.2 in
    let go = items_known env is m.0 after m.2 in
    (go.0, (class_known env o.0 c t.0 t.1, go.1), go.2, go.3)
items_known env (written.AnInterface i ∷ is) w after h =
    let m = bind_ok (check_item env w (written.AnInterface i)) _ after h in
    let u = bind_ok (untaken w.names i.place.at i.name) _ m.0 m.1 in
    let o = bind_ok (room_for_type i.place.at w.typed) _ m.0 u.2 in
    let t = bind_ok (check_interface env o.0 i) _ m.0 o.2 in
    let go = items_known env is m.0 after m.2 in
    ((interface_known env o.0 i t.0 (interface_sound env o.0 i t.0 t.1), go.0), go.1, go.2, go.3)
items_known env (written.AFunction f ∷ is) w after h =
    let m = bind_ok (check_item env w (written.AFunction f)) _ after h in
    let o = bind_ok (check_result env f.result) _ m.0 m.1 in
    let u = bind_ok (untaken w.names f.place.at f.name) _ m.0 o.2 in
    let t = bind_ok (check_routine env o.0 (routine_of f)) _ m.0 u.2 in
    let go = items_known env is m.0 after m.2 in
    (go.0, go.1, (function_known env f o.0 t.0 o.1 t.1, go.2), go.3)
items_known env (written.AGlobal v ∷ is) w after h =
    let m = bind_ok (check_item env w (written.AGlobal v)) _ after h in
    let r = bind_ok (check_vars env w.names v) _ m.0 m.1 in
    let go = items_known env is m.0 after m.2 in
    (go.0, go.1, go.2, (vars_known env w.names v r.0 r.1, go.3))

-- of all that has a typed tree by the rules

rule_vars : (env : Environment) (vs : List written.Vars) (ts : List modules.Variables) → AllZip (AreTypedVariables env) vs ts
    → AllByRecursion (KnownVars (ty_in env)) vs
rule_vars env vs ts h = zip_known (AreTypedVariables env) (KnownVars (ty_in env)) (λ v t is. is.variable) vs ts h

rule_fields : (env : Environment) (vs : List written.Vars) (ts : List Initialization) → AreFields env vs ts
    → AllByRecursion (KnownVars (ty_in env)) vs
rule_fields env [] ts h = tt
rule_fields env (v ∷ vs) ts h = (h.2, rule_fields env vs h.1 h.4)

rule_routine : (env : Environment) (of : Ty) (r : Routine) (t : modules.Function) → IsRoutine env of r t
    → AllByRecursion (KnownParameter (ty_in env)) r.parameters
rule_routine env of r t is = passed_are_known env r.parameters is.passed

rule_functions : (env : Environment) (fs : List written.Function) (ts : List modules.Function)
    → AllZip (IsTypedFunction env) fs ts → AllByRecursion (KnownFunction (ty_in env)) fs
rule_functions env fs ts h =
    zip_known (IsTypedFunction env) (KnownFunction (ty_in env))
    (λ f t is. (result_is_known env f.result is.passed, rule_routine env _ (routine_of f) t is.routine)) fs ts h

rule_constructors : (env : Environment) (class : List ℕ) (cs : List written.Constructor) (t : Option modules.Function)
    → HasConstructor env class cs t → AllByRecursion (KnownConstructor (ty_in env)) cs
rule_constructors env class [] t h = tt
rule_constructors env class (c ∷ []) (Some t) h = (rule_routine env ty.Void (constructing c) t h.routine, tt)
rule_constructors env class (c ∷ []) None h = absurd h
rule_constructors env class (c ∷ (d ∷ cs)) t h = absurd h

rule_class : (env : Environment) (place : ℕ) (c : written.Class) (t : modules.Class) → IsTypedClass env place c t
    → KnownClass (ty_in env) c
rule_class env place c t is = (
  rule_fields (inside env place) (fields_of c.members) t.fields is.fields,
  rule_functions (inside env place) (methods_of c.members) t.methods is.methods,
  rule_constructors (inside env place) c.name (constructors_of c.members) t.constructor is.constructor,
)

rule_classes : (env : Environment) (place : ℕ) (cs : List written.Class) (ts : List modules.Class)
    → AreTypedClasses env place cs ts → AllByRecursion (KnownClass (ty_in env)) cs
rule_classes env place [] ts h = tt
rule_classes env place (c ∷ cs) [] h = absurd h
rule_classes env place (c ∷ cs) (t ∷ ts) h = (rule_class env place c t h.0, rule_classes env (place + 1) cs ts h.1)

rule_interfaces : (env : Environment) (is : List written.Interface) (ns : List ℕ) (ts : List modules.Interface)
    → AreTypedInterfaces env is ns ts → AllByRecursion (KnownInterface (ty_in env)) is
rule_interfaces env [] ns ts h = tt
rule_interfaces env (i ∷ is) [] ts h = absurd h
rule_interfaces env (i ∷ is) (n ∷ ns) [] h = absurd h
rule_interfaces env (i ∷ is) (n ∷ ns) (t ∷ ts) h = (interface_known env n i t h.0, rule_interfaces env is ns ts h.1)

pub rules_known : (env : Environment) (is : List written.Item) (m : modules.Module)
    → AreTypedInterfaces env (interfaces_of is) (classes_before 0 is) m.interfaces
    → AreTypedClasses env 0 (classes_of is) m.classes → AllZip (IsTypedFunction env) (functions_of is) m.functions
    → AllZip (AreTypedVariables env) (globals_of is) m.globals → KnownItems (ty_in env) is
rules_known env is m ts cs fs vs = (
  rule_interfaces env (interfaces_of is) (classes_before 0 is) m.interfaces ts,
  rule_classes env 0 (classes_of is) m.classes cs,
  rule_functions env (functions_of is) m.functions fs,
  rule_vars env (globals_of is) m.globals vs,
)

-- what the items of a module see

types_known : (registrations : List host.Registration) (named : ModuleDeclarations) (ps : List written.Parameter)
    → AllByRecursion (KnownParameter (ty_named registrations named)) ps
    → AllByRecursion IsVariableType (map (parameter_ty registrations named) ps)
types_known registrations named [] h = tt
types_known registrations named (p ∷ ps) h = (h.0, types_known registrations named ps h.1)

result_known : (registrations : List host.Registration) (named : ModuleDeclarations) (of : Option written.Named)
    → KnownResult (ty_named registrations named) of → IsTypeOfResult (result_named registrations named of)
result_known registrations named None h = refl
result_known registrations named (Some of) h = variable_is_result (ty_named registrations named of) h

head_known : (registrations : List host.Registration) (named : ModuleDeclarations) (f : written.Function)
    → KnownFunction (ty_named registrations named) f
    → IsKnownFunction (function_declaration registrations named f)
head_known registrations named f h =
    record { result = result_known registrations named f.result h.0; parameters = types_known registrations named f.parameters h.1 }

signatures_seen : (registrations : List host.Registration) (named : ModuleDeclarations) (ms : List written.InterfaceMethod)
    → AllByRecursion (KnownSignature (ty_named registrations named)) ms
    → AllByRecursion IsKnownFunction (map (signature_declaration registrations named) ms)
signatures_seen registrations named [] h = tt
signatures_seen registrations named (m ∷ ms) h = (
  record {
    result = result_known registrations named m.result h.0.0;
    parameters = types_known registrations named m.parameters h.0.1;
  },
  signatures_seen registrations named ms h.1,
)

interfaces_seen : (registrations : List host.Registration) (named : ModuleDeclarations) (is : List written.Interface)
    → AllByRecursion (KnownInterface (ty_named registrations named)) is
    → AllByRecursion IsKnownInterface (map (interface_declaration registrations named) is)
interfaces_seen registrations named [] h = tt
interfaces_seen registrations named (i ∷ is) h =
    (record { methods = signatures_seen registrations named i.methods h.0 }, interfaces_seen registrations named is h.1)

variables_known : (registrations : List host.Registration) (named : ModuleDeclarations) (vs : List written.Vars)
    → AllByRecursion (KnownVars (ty_named registrations named)) vs
    → AllByRecursion IsKnownVariable (all_variables registrations named vs)
variables_known registrations named [] h = tt
variables_known registrations named (v ∷ vs) h =
    all_append IsKnownVariable (variables registrations named v) (all_variables registrations named vs)
    (decls_known (ty_named registrations named v.of) v.decls h.0) (variables_known registrations named vs h.1)

functions_known : (registrations : List host.Registration) (named : ModuleDeclarations) (fs : List written.Function)
    → AllByRecursion (KnownFunction (ty_named registrations named)) fs
    → AllByRecursion IsKnownFunction (map (function_declaration registrations named) fs)
functions_known registrations named [] h = tt
functions_known registrations named (f ∷ fs) h = (head_known registrations named f h.0, functions_known registrations named fs h.1)

construction_known : (registrations : List host.Registration) (named : ModuleDeclarations) (cs : List written.Constructor)
    → AllByRecursion (KnownConstructor (ty_named registrations named)) cs
    → AllByRecursion IsVariableType (constructed_by registrations named cs)
construction_known registrations named [] h = tt
construction_known registrations named (c ∷ cs) h = types_known registrations named c.parameters h.0

classes_known : (registrations : List host.Registration) (named : ModuleDeclarations) (cs : List written.Class)
    → AllByRecursion (KnownClass (ty_named registrations named)) cs
    → AllByRecursion IsKnownClass (map (class_declaration registrations named) cs)
classes_known registrations named [] h = tt
classes_known registrations named (c ∷ cs) h = (
  record {
    fields = variables_known registrations named (fields_of c.members) h.0.0;
    methods = functions_known registrations named (methods_of c.members) h.0.1;
    parameters = construction_known registrations named (constructors_of c.members) h.0.2;
  },
  classes_known registrations named cs h.1,
)

pub module_known : (registrations : List host.Registration) (is : List written.Item)
    → KnownItems (ty_in (environment registrations is)) is
    → IsKnown (environment registrations is)
unfolding declarations
module_known registrations is h =
    let named = names_in is in
    let k = subst (λ (look : written.Named → Ty). KnownItems look is) (fun_ext (same_type registrations is)) h in
    record {
      interfaces = interfaces_seen registrations named (interfaces_of is) k.0;
      classes = classes_known registrations named (classes_of is) k.1;
      functions = functions_known registrations named (functions_of is) k.2;
      globals = variables_known registrations named (globals_of is) k.3;
      locals = tt;
    }
