-- What a name before brackets is has the types that a typed tree says.
use Rattle.std.specs.Option.{option_and_then, option_map, option_or}
use Rattle.std.proofs.Common.{◌≡◌, ℕ, List, [], ◌∷◌, Option, Some, None, IfSome, find, slice_get, refl, ap}
use Rattle.ash_registrations.specs.Registrations as host
use Rattle.ash_typed.specs.declared.types.ObjectType.{ObjectType}
use Rattle.ash_typed.specs.declared.types.ObjectType.TheVariants.{Class as OfClass, Interface as OfInterface}
use Rattle.ash_typed.specs.declared.types.ObjectType.TheVariants.{Host as OfHost, Array as OfArray}
use Rattle.ash_typed.specs.declared.types.Element.{Element}
use Rattle.ash_typed.specs.declared.types.Element.TheVariants as elements
use Rattle.ash_typed.specs.declared.tree.operations.ArrayMethod.{ArrayMethod}
use Rattle.ash_typed.specs.declared.tree.operations.ArrayMethod.TheVariants as arrays
use Rattle.ash_type_rules.specs.declared.types.Ty.{Ty}
use Rattle.ash_type_rules.specs.declared.types.Ty.TheVariants as ty
use Rattle.ash_typed.specs.declared.tree.operations.Variable.TheVariants as variables
use Rattle.ash_typed.specs.declared.tree.operations.ObjectMember.{ObjectMember}
use Rattle.ash_typed.specs.declared.tree.operations.ObjectMember.TheVariants.{Field}
use Rattle.ash_typed.specs.declared.tree.operations.Method.TheVariants as methods
use Rattle.ash_typed.specs.declared.tree.operations.CallTarget.TheVariants as targets
use Rattle.ash_type_rules.specs.declared.forms.Callable.{Callable}
use Rattle.ash_type_rules.specs.declared.forms.Callable.TheVariants as callables
use Rattle.ash_typed.specs.TypedTree.{Exprs, This, Read, Stored, Held}
use Rattle.ash_typed.specs.TypeOf.{type_of, type_of_member, type_of_element, result_of_method, result_of_target, value}
use Rattle.ash_typed.specs.TypeOf.{value_of_result, as_value}
use Rattle.ash_typed.specs.declared.types.VarType.{VarType}
use Rattle.ash_typed.specs.declared.types.VarType.TheVariants as vars
use Rattle.ash_type_rules.specs.TypeRules.{var_type, result_type, ty_of_var, value_type, ty_of_element}
use Rattle.ash_type_rules.specs.Environment.{Environment, Declared, FunctionSignature, ClassSignature, Known, Callee, Invoked, first_from}
use Rattle.ash_type_rules.specs.Environment.{last_named, declares, is_called, is_class, this_class, variable_in, callee_in}
use Rattle.ash_type_rules.specs.Environment.{member_in, method_in, method_of_class, method_of_interface, method_of_array}
use Rattle.ash_type_rules.specs.Environment.{method_of_kind, array_method_of, is_array_method, host_member_in}
use Rattle.ash_type_rules.specs.Environment.{service_function, host_type, host_method, property, named_in, own_method_in}
use Rattle.ash_type_rules.specs.Environment.{class_in, function_in, field_in, local_in, own_field_in, global_in}
use Rattle.ash_type_rules.specs.Environment.{callee_beside, class_method, interface_method}
use Rattle.ash_type_rules.specs.Terms.{call_of}
use Rattle.ash_type_rules.specs.Typing.{IsVariableType, IsTypeOfResult}
use Rattle.ash_type_rules.proofs.TypingKnown.{if_map, if_or, if_weaker, if_any, if_all}

-- what names are

abbrev pub IsTyped : Known → Type 0
IsTyped known = type_of known.0 ≡ value (as_value (var_type known.1))

abbrev pub IsTypedMember : ObjectMember × Ty → Type 0
IsTypedMember found = type_of_member found.0 ≡ var_type found.1

abbrev result_of : Callable → Option VarType
result_of (callables.OwnMethod class place of) = of
result_of (callables.Target target) = result_of_target target

abbrev pub IsTypedCallee : Callee → Type 0
IsTypedCallee callee = result_of callee.target ≡ result_type callee.result

abbrev pub IsTypedMethod : Invoked → Type 0
IsTypedMethod m = result_of_method m.method ≡ result_type m.result

field_type : (class : ℕ) (c : ClassSignature) (text : List ℕ) → IfSome (field_in class c text) IsTypedMember
field_type class c text =
    if_map IsTypedMember
    (λ (found : ℕ × Declared). (Field class found.0 (var_type found.1.of), found.1.of))
    (first_from (declares text) 0 c.fields) (if_all (first_from (declares text) 0 c.fields) (λ found. refl))

pub variable_type : (env : Environment) (text : List ℕ) → IfSome (variable_in env text) IsTyped
unfolding variable_in
variable_type env text =
    let local = if_map IsTyped
    (λ (found : ℕ × Ty). (Read (Stored (variables.Local found.0 (var_type found.1))), found.1))
    (last_named text 0 None env.locals) (if_all (last_named text 0 None env.locals) (λ found. refl)) in
    let own = if_any IsTyped
    (λ (c : ℕ × ClassSignature).
    option_map (λ (found : ObjectMember × Ty). (Read (Held (This c.0) found.0), found.1)) (field_in c.0 c.1 text))
    (this_class env)
    (λ c. if_map IsTyped
    (λ (found : ObjectMember × Ty). (Read (Held (This c.0) found.0), found.1)) (field_in c.0 c.1 text)
    (if_weaker (field_in c.0 c.1 text)
    (λ found h. ap (λ (of : VarType). value (as_value of)) h) (field_type c.0 c.1 text))) in
    let global =
    if_map IsTyped
    (λ (found : ℕ × Declared). (Read (Stored (variables.Global found.0 (var_type found.1.of))), found.1.of))
    (first_from (declares text) 0 env.declarations.globals)
    (if_all (first_from (declares text) 0 env.declarations.globals) (λ found. refl)) in
    if_or IsTyped (local_in env.locals text) (option_or (own_field_in env text) (global_in env.declarations.globals text))
    local (if_or IsTyped (own_field_in env text) (global_in env.declarations.globals text) own global)

service_type : (registration : host.Registration) → IfSome (service_function registration) IsTypedCallee
service_type (host.FunctionRegistration service id operation) = refl
service_type _ = tt

host_result : (registrations : List host.Registration) (registration : host.Registration)
    → IfSome (host_type registrations registration) IsTypedCallee
host_result registrations (host.TypeRegistration text kind) = refl
host_result registrations _ = tt

property_type : (registration : host.Registration) → IfSome (property registration) IsTypedMember
property_type (host.PropertyRegistration of id primitive text) = refl
property_type _ = tt

host_method_type : (registration : host.Registration) → IfSome (host_method registration) IsTypedMethod
host_method_type (host.MethodRegistration of id operation) = refl
host_method_type _ = tt

pub callee_type : (env : Environment) (text : List ℕ) → IfSome (callee_in env text) IsTypedCallee
unfolding callee_in
callee_type env text =
    let own = if_any IsTypedCallee
    (λ (c : ℕ × ClassSignature).
    option_map (λ (found : ℕ × FunctionSignature).
    record {
      target = callables.OwnMethod c.0 found.0 (result_type found.1.result);
      result = found.1.result;
      parameters = Some found.1.parameters;
    }) (first_from (is_called text) 0 c.1.methods)) (this_class env)
    (λ c. if_map IsTypedCallee
    (λ (found : ℕ × FunctionSignature).
    record {
      target = callables.OwnMethod c.0 found.0 (result_type found.1.result);
      result = found.1.result;
      parameters = Some found.1.parameters;
    }) (first_from (is_called text) 0 c.1.methods)
    (if_all (first_from (is_called text) 0 c.1.methods) (λ found. refl))) in
    let function =
    if_map IsTypedCallee
    (λ (found : ℕ × FunctionSignature).
    record {
      target = callables.Target (targets.Function found.0 (result_type found.1.result));
      result = found.1.result;
      parameters = Some found.1.parameters;
    }) (first_from (is_called text) 0 env.declarations.functions)
    (if_all (first_from (is_called text) 0 env.declarations.functions) (λ found. refl)) in
    let service = if_any IsTypedCallee service_function (named_in env.registered text) service_type in
    let class = if_map IsTypedCallee
    (λ (found : ℕ × ClassSignature).
    record {
      target = callables.Target (targets.Class found.0);
      result = ty.Handle (OfClass found.0);
      parameters = Some found.1.parameters;
    }) (first_from (is_class text) 0 env.declarations.classes)
    (if_all (first_from (is_class text) 0 env.declarations.classes) (λ found. refl)) in
    let kind = if_any IsTypedCallee (host_type env.registered) (named_in env.registered text)
    (host_result env.registered) in
    if_or IsTypedCallee (own_method_in env text)
    (option_or (function_in env.declarations.functions text) (callee_beside env text)) own
    (if_or IsTypedCallee (function_in env.declarations.functions text) (callee_beside env text) function
    (if_or IsTypedCallee (option_and_then service_function (named_in env.registered text))
    (option_or (class_in env.declarations.classes text)
    (option_and_then (host_type env.registered) (named_in env.registered text))) service
    (if_or IsTypedCallee (class_in env.declarations.classes text)
    (option_and_then (host_type env.registered) (named_in env.registered text)) class kind)))

array_method_type : (of : Element) (m : ArrayMethod) → IsTypedMethod (array_method_of of m)
array_method_type of arrays.Length = refl
array_method_type of arrays.Resize = refl
array_method_type of arrays.InsertLast = refl
array_method_type of arrays.RemoveLast = refl
array_method_type of arrays.IsEmpty = refl

pub element_type : (of : Element) → value (as_value (type_of_element of)) ≡ value_type (ty_of_element of)
element_type elements.Bool = refl
element_type (elements.Integer k) = refl
element_type (elements.Class class) = refl
element_type (elements.Interface interface) = refl
element_type (elements.Host kind) = refl

pub member_type : (env : Environment) (o : ObjectType) (text : List ℕ) → IfSome (member_in env o text) IsTypedMember
unfolding member_in
member_type env (OfClass i) text =
    if_any IsTypedMember (λ (c : ClassSignature). field_in i c text) (slice_get env.declarations.classes i) (λ c. field_type i c text)
member_type env (OfInterface i) text = tt
member_type env (OfArray of) text = tt
member_type env (OfHost i) text = if_any IsTypedMember property (host_member_in env.registered i text) property_type

pub method_type : (env : Environment) (o : ObjectType) (text : List ℕ) → IfSome (method_in env o text) IsTypedMethod
unfolding method_in method_of_class method_of_interface method_of_array method_of_kind
method_type env (OfClass i) text =
    if_any IsTypedMethod (class_method i text) (slice_get env.declarations.classes i) (λ c.
    if_map IsTypedMethod
    (λ (found : ℕ × FunctionSignature).
    record {
      method = methods.Script i found.0 (result_type found.1.result);
      result = found.1.result;
      parameters = found.1.parameters;
    }) (first_from (is_called text) 0 c.methods) (if_all (first_from (is_called text) 0 c.methods) (λ found. refl)))
method_type env (OfInterface i) text =
    if_any IsTypedMethod (interface_method i text) (slice_get env.declarations.interfaces i) (λ of.
    if_map IsTypedMethod
    (λ (found : ℕ × FunctionSignature).
    record {
      method = methods.Interface i found.0 (result_type found.1.result);
      result = found.1.result;
      parameters = found.1.parameters;
    }) (first_from (is_called text) 0 of.methods) (if_all (first_from (is_called text) 0 of.methods) (λ found. refl)))
method_type env (OfArray of) text = let found =
    find (is_array_method text)
    (arrays.Length ∷ arrays.Resize ∷ arrays.InsertLast ∷ arrays.RemoveLast ∷ arrays.IsEmpty ∷ []) in
    if_map IsTypedMethod (array_method_of of) found (if_all found (array_method_type of))
method_type env (OfHost i) text =
    if_any IsTypedMethod host_method (host_member_in env.registered i text) host_method_type

pub call_type : (c : Callable) (parameters : List VarType) (es : Exprs)
    → type_of (call_of c parameters es) ≡ value_of_result (result_of c)
call_type (callables.OwnMethod class place of) parameters es = refl
call_type (callables.Target target) parameters es = refl

-- types of variables and results

pub variable_value : (of : Ty) → IsVariableType of → value (as_value (var_type of)) ≡ value_type of
variable_value ty.Void h = cc
variable_value ty.Null h = cc
variable_value ty.Unknown h = cc
variable_value _ h = refl

pub result_value : (of : Ty) → IsTypeOfResult of → value_of_result (result_type of) ≡ value_type of
result_value ty.Void h = refl
result_value ty.Null h = cc
result_value ty.Unknown h = cc
result_value _ h = refl

pub variable_written : (of : Ty) → IsVariableType of → ty_of_var (var_type of) ≡ of
variable_written ty.Void h = cc
variable_written ty.Null h = cc
variable_written ty.Unknown h = cc
variable_written _ h = refl

pub variable_read_back : (of : VarType) → var_type (ty_of_var of) ≡ of
variable_read_back vars.Bool = refl
variable_read_back _ = refl
