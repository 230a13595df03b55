-- What names are is in range, and has the types that a sound typed tree says.
use Rattle.std.specs.List.{AllByRecursion}
use Rattle.std.specs.Option.{option_and_then, option_map, option_or}
use Rattle.std.proofs.lemmas.Option.{slice_get_within}
use Rattle.std.proofs.Common.{◌≡◌, ℕ, List, [], ◌∷◌, Bool, true, map, Option, Some, None, IfSome, find, filter_map}
use Rattle.std.proofs.Common.{Contains, slice_get, bytes_eq, refl, sym, subst, subst₂}
use Rattle.ash_tree.specs.declared.tree.types.Primitive.{Primitive}
use Rattle.ash_tree.specs.declared.tree.types.Primitive.TheVariants as primitives
use Rattle.ash_tree.specs.Tree as written
use Rattle.ash_registrations.specs.Registrations as host
use Rattle.ash_typed.specs.declared.types.ObjectType.{ObjectType}
use Rattle.ash_typed.specs.declared.types.ObjectType.TheVariants.{Class as OfClass, Interface as OfInterface}
use Rattle.ash_typed.specs.declared.types.ObjectType.TheVariants.{Host as OfHost, Array as OfArray}
use Rattle.ash_typed.specs.declared.types.VarType.{VarType}
use Rattle.ash_typed.specs.declared.tree.operations.ArrayMethod.TheVariants as arrays
use Rattle.ash_typed.specs.declared.tree.operations.Method.TheVariants as methods
use Rattle.ash_typed.specs.declared.tree.operations.CallTarget.TheVariants as targets
use Rattle.ash_typed.specs.Signatures.{HostSignature, ModuleSignatures, IsElementType, truths, integers}
use Rattle.ash_typed.specs.Signatures.{of_class as element_class, of_interface as element_interface}
use Rattle.ash_typed.specs.Signatures.{of_host as element_host, IsObjectType, class as object_class}
use Rattle.ash_typed.specs.Signatures.{interface as object_interface, host as object_host}
use Rattle.ash_typed.specs.SoundOperations as operations
use Rattle.ash_type_rules.specs.declared.types.Ty.{Ty}
use Rattle.ash_type_rules.specs.declared.types.Ty.TheVariants as ty
use Rattle.ash_type_rules.specs.declared.forms.Callable.{Callable}
use Rattle.ash_type_rules.specs.declared.forms.Callable.TheVariants as callables
use Rattle.ash_type_rules.specs.TypeRules.{var_type, result_type}
use Rattle.ash_type_rules.specs.Environment.{Environment, FunctionSignature, InterfaceSignature, ClassSignature, ModuleDeclarations, Callee}
use Rattle.ash_type_rules.specs.Environment.{first_from, is_called}
use Rattle.ash_type_rules.specs.Environment.{is_class, is_interface_named, this_class, service_function, host_type}
use Rattle.ash_type_rules.specs.Environment.{factory_in, factory_parameters, host_method, named_in, own_method_in, class_in}
use Rattle.ash_type_rules.specs.Environment.{function_in, callee_beside, callee_in, method_in, class_method}
use Rattle.ash_type_rules.specs.Environment.{interface_method, method_of_class, method_of_interface, method_of_array}
use Rattle.ash_type_rules.specs.Environment.{method_of_kind, array_method_of, is_array_method, host_member_in, name_of_kind}
use Rattle.ash_type_rules.specs.ModuleDeclarations.{object_named, class_type, interface_type, host_object, element_of}
use Rattle.ash_type_rules.specs.ModuleDeclarations.{element_by}
use Rattle.ash_type_rules.specs.ModuleDeclarations.{element_named}
use Rattle.ash_type_rules.specs.Typing.{IsKnown, IsKnownFunction, IsKnownInterface, IsKnownClass, IsVariableType}
use Rattle.ash_type_rules.specs.Offered.{host_signature, kind_in, factory_at, method_at, function_at}
use Rattle.ash_type_rules.specs.Soundness.{signature_of, signatures_of_interface, signature_of_class, signatures_in}
use Rattle.ash_type_rules.specs.Soundness.{seen_in}
use Rattle.ash_type_rules.proofs.TypingKnown.{at_some, if_map, if_or, if_then, if_weaker, if_all, if_first, if_get}
use Rattle.ash_type_rules.proofs.SoundnessLookUps.{IsSoundMethod, array_method_sound, both, first_place, found_with, mapped}
use Rattle.ash_type_rules.proofs.SoundnessLookUps.{primitive_result, primitive_types, primitives_known, same_number}
use Rattle.ash_type_rules.proofs.SoundnessLookUps.{this_is}

-- a method of the first list that passes, and the places of the list's owner and its own
functions_found : (test : FunctionSignature → Bool) (fs : List FunctionSignature) → AllByRecursion IsKnownFunction fs
    → IfSome (first_from test 0 fs) (λ found. (slice_get (map signature_of fs) found.0 ≡ Some (signature_of found.1))
    × AllByRecursion IsVariableType found.1.parameters)
functions_found test fs known =
    go (first_from test 0 fs) (first_place test fs) (if_first IsKnownFunction test 0 fs known)
  where
    go : (found : Option (ℕ × FunctionSignature)) → IfSome found (λ f. slice_get fs f.0 ≡ Some f.1)
        → IfSome found (λ f. IsKnownFunction f.1)
        → IfSome found (λ f. (slice_get (map signature_of fs) f.0 ≡ Some (signature_of f.1))
        × AllByRecursion IsVariableType f.1.parameters)
    go None h k = tt
    go (Some f) h k = (mapped signature_of fs f.0 f.1 h, k.parameters)

host_method_found : (env : Environment) (kind : ℕ) (text : List ℕ) (registration : host.Registration)
    → host.takes_member (name_of_kind env.registered kind) text registration ≡ true
    → ((id : ℕ) (of : HostSignature) → method_at (name_of_kind env.registered kind) id registration ≡ Some of
    → Contains ((seen_in env).signatures.host.methods kind id) of)
    → IfSome (host_method registration) (IsSoundMethod env (OfHost kind))
host_method_found env kind text (host.MethodRegistration other id operation) e among =
    let of_type = both (bytes_eq (name_of_kind env.registered kind) other) (bytes_eq text operation.name) e in
    let at : method_at (name_of_kind env.registered kind) id (host.MethodRegistration other id operation)
    ≡ Some (host_signature operation) = rw (of_type.0, same_number id) refl in
    let is = among id (host_signature operation) at in (
      subst₂ (λ parameters result.
          operations.IsMethod (seen_in env).signatures (OfHost kind) (methods.Host id result) parameters result)
          (sym (primitive_types operation.parameters)) (sym (primitive_result operation.result))
          (operations.of_host is),
      primitives_known operation.parameters,
    )
host_method_found env kind text _ e among = tt

pub method_sound : (env : Environment) (o : ObjectType) (text : List ℕ) → IsKnown env
    → IfSome (method_in env o text) (IsSoundMethod env o)
unfolding method_in method_of_class method_of_interface method_of_array method_of_kind host_member_in
method_sound env (OfClass i) text known =
    go (slice_get env.declarations.classes i) refl (if_get IsKnownClass env.declarations.classes i known.classes)
  where
    go : (c : Option ClassSignature) → slice_get env.declarations.classes i ≡ c → IfSome c IsKnownClass
        → IfSome (option_and_then (class_method i text) c) (IsSoundMethod env (OfClass i))
    go None e k = tt
    go (Some c) e k =
        if_map (IsSoundMethod env (OfClass i))
        (λ (found : ℕ × FunctionSignature).
        record {
          method = methods.Script i found.0 (result_type found.1.result);
          result = found.1.result;
          parameters = found.1.parameters;
        }) (first_from (is_called text) 0 c.methods) (if_weaker (first_from (is_called text) 0 c.methods)
        (λ found h. (
          operations.of_class {c = signature_of_class c} (mapped signature_of_class env.declarations.classes i c e)
              h.0,
          h.1,
        )) (functions_found (is_called text) c.methods k.methods))
method_sound env (OfInterface i) text known =
    go (slice_get env.declarations.interfaces i) refl (if_get IsKnownInterface env.declarations.interfaces i known.interfaces)
  where
    go : (of : Option InterfaceSignature) → slice_get env.declarations.interfaces i ≡ of → IfSome of IsKnownInterface
        → IfSome (option_and_then (interface_method i text) of) (IsSoundMethod env (OfInterface i))
    go None e k = tt
    go (Some of) e k =
        if_map (IsSoundMethod env (OfInterface i))
        (λ (found : ℕ × FunctionSignature).
        record {
          method = methods.Interface i found.0 (result_type found.1.result);
          result = found.1.result;
          parameters = found.1.parameters;
        }) (first_from (is_called text) 0 of.methods) (if_weaker (first_from (is_called text) 0 of.methods)
        (λ found h. (operations.of_interface (mapped signatures_of_interface env.declarations.interfaces i of e) h.0, h.1))
        (functions_found (is_called text) of.methods k.methods))
method_sound env (OfHost kind) text known =
    let name = name_of_kind env.registered kind in
    if_then (λ (registration : host.Registration). (host.takes_member name text registration ≡ true)
    × ((id : ℕ) (of : HostSignature) → method_at name id registration ≡ Some of
    → Contains (filter_map (method_at name id) env.registered) of)) (IsSoundMethod env (OfHost kind)) host_method
    (find (host.takes_member name text) env.registered)
    (λ registration h. host_method_found env kind text registration h.0 h.1)
    (found_with (host.takes_member name text) (method_at name) env.registered)
method_sound env (OfArray of) text known = let found =
    find (is_array_method text)
    (arrays.Length ∷ arrays.Resize ∷ arrays.InsertLast ∷ arrays.RemoveLast ∷ arrays.IsEmpty ∷ []) in
    if_map (IsSoundMethod env (OfArray of)) (array_method_of of) found (if_all found (array_method_sound env of))

-- what a name before brackets is

-- it takes these parameters and gives this
abbrev pub IsCalled : Environment → Callable → List VarType → Option VarType → Type 0
IsCalled env (callables.OwnMethod class method result) parameters returned =
    (env.this ≡ Some class)
    × operations.IsMethod (seen_in env).signatures (OfClass class) (methods.Script class method result) parameters returned
IsCalled env (callables.Target target) parameters returned =
    operations.IsTarget (seen_in env).signatures target parameters returned

abbrev pub IsCalledWith : Environment → Callee → List Ty → Type 0
IsCalledWith env callee parameters =
    IsCalled env callee.target (map var_type parameters) (result_type callee.result)
    × AllByRecursion IsVariableType parameters

abbrev pub IsSoundCallee : Environment → Callee → Type 0
IsSoundCallee env callee = IfSome callee.parameters (IsCalledWith env callee)

pub class_takes : (env : Environment) (class : ℕ) (c : ClassSignature) → IsKnown env
    → slice_get env.declarations.classes class ≡ Some c
    → operations.IsTarget (seen_in env).signatures (targets.Class class) (map var_type c.parameters)
    (result_type (ty.Handle (OfClass class))) × AllByRecursion IsVariableType c.parameters
class_takes env class c known e = (
  operations.class {c = signature_of_class c} (mapped signature_of_class env.declarations.classes class c e),
  (at_some IsKnownClass (slice_get env.declarations.classes class) c
      (if_get IsKnownClass env.declarations.classes class known.classes) e).parameters,
)

abbrev function_by : ℕ × ℕ → host.Registration → Option HostSignature
function_by key registration = function_at key.0 key.1 registration

service_found : (env : Environment) (registration : host.Registration)
    → ((key : ℕ × ℕ) (of : HostSignature) → function_by key registration ≡ Some of
    → Contains (filter_map (function_by key) env.registered) of)
    → IfSome (service_function registration) (IsSoundCallee env)
service_found env (host.FunctionRegistration service id operation) among =
    let at : function_at service id (host.FunctionRegistration service id operation) ≡ Some (host_signature operation) =
    rw (same_number service, same_number id) refl in
    let is = among (service, id) (host_signature operation) at in (
      subst₂ (λ parameters result.
          operations.IsTarget (seen_in env).signatures (targets.Service service id result) parameters result)
          (sym (primitive_types operation.parameters)) (sym (primitive_result operation.result))
          (operations.service is),
      primitives_known operation.parameters,
    )
service_found env _ among = tt

-- the factory of a type
factory_found : (env : Environment) (name : List ℕ) (kind : ℕ)
    → ((k : ℕ) (of : List Primitive) → factory_at env.registered k (host.TypeRegistration name kind) ≡ Some of
    → Contains ((seen_in env).signatures.host.factories k) of)
    → IfSome (factory_in env.registered name) (λ parameters.
    operations.IsTarget (seen_in env).signatures (targets.Host kind) (map var_type parameters)
    (Some (var_type (ty.Handle (OfHost kind)))) × AllByRecursion IsVariableType parameters)
unfolding factory_in
factory_found env name kind among = go (find (host.is_factory_of name) env.registered) refl
  where
    go : (found : Option host.Registration) → find (host.is_factory_of name) env.registered ≡ found
        → IfSome (option_and_then factory_parameters found) (λ parameters.
        operations.IsTarget (seen_in env).signatures (targets.Host kind) (map var_type parameters)
        (Some (var_type (ty.Handle (OfHost kind)))) × AllByRecursion IsVariableType parameters)
    go None e = tt
    go (Some (host.FactoryRegistration of parameters)) e =
        let at : factory_at env.registered kind (host.TypeRegistration name kind) ≡ Some parameters =
        rw (same_number kind, e) refl in (
          subst (λ types.
              operations.IsTarget (seen_in env).signatures (targets.Host kind) types
              (Some (var_type (ty.Handle (OfHost kind))))) (sym (primitive_types parameters))
              (operations.host (among kind parameters at)),
          primitives_known parameters,
        )
    go (Some _) e = tt

pub host_found : (env : Environment) (registration : host.Registration)
    → ((k : ℕ) (of : List Primitive) → factory_at env.registered k registration ≡ Some of
    → Contains ((seen_in env).signatures.host.factories k) of)
    → IfSome (host_type env.registered registration) (IsSoundCallee env)
host_found env (host.TypeRegistration name kind) among = factory_found env name kind among
host_found env _ among = tt

own_found : (env : Environment) (text : List ℕ) (class : ℕ) (c : ClassSignature) → IsKnown env → env.this ≡ Some class
    → slice_get env.declarations.classes class ≡ Some c
    → IfSome (first_from (is_called text) 0 c.methods) (λ found.
    IsSoundCallee env (record {
      target = callables.OwnMethod class found.0 (result_type found.1.result);
      result = found.1.result;
      parameters = Some found.1.parameters;
    }))
own_found env text class c known this e =
    let of_class =
    at_some IsKnownClass (slice_get env.declarations.classes class) c
    (if_get IsKnownClass env.declarations.classes class known.classes) e in
    if_weaker (first_from (is_called text) 0 c.methods)
    (λ found h. (
      (
        this,
        operations.of_class {c = signature_of_class c} (mapped signature_of_class env.declarations.classes class c e) h.0,
      ),
      h.1,
    )) (functions_found (is_called text) c.methods of_class.methods)

pub callee_sound : (env : Environment) (text : List ℕ) → IsKnown env → IfSome (callee_in env text) (IsSoundCallee env)
unfolding callee_in
callee_sound env text known =
    let Q = IsSoundCallee env in
    let own = if_then (λ (c : ℕ × ClassSignature). (env.this ≡ Some c.0) × (slice_get env.declarations.classes c.0 ≡ Some c.1)) Q
    (λ (c : ℕ × ClassSignature).
    option_map (λ (found : ℕ × FunctionSignature).
    record {
      target = callables.OwnMethod c.0 found.0 (result_type found.1.result);
      result = found.1.result;
      parameters = Some found.1.parameters;
    }) (first_from (is_called text) 0 c.1.methods)) (this_class env)
    (λ c h. if_map Q
    (λ (found : ℕ × FunctionSignature).
    record {
      target = callables.OwnMethod c.0 found.0 (result_type found.1.result);
      result = found.1.result;
      parameters = Some found.1.parameters;
    }) (first_from (is_called text) 0 c.1.methods) (own_found env text c.0 c.1 known h.0 h.1))
    (this_is env.declarations.classes env.this) in
    let function =
    if_map Q (λ (found : ℕ × FunctionSignature).
    record {
      target = callables.Target (targets.Function found.0 (result_type found.1.result));
      result = found.1.result;
      parameters = Some found.1.parameters;
    }) (first_from (is_called text) 0 env.declarations.functions)
    (if_weaker (first_from (is_called text) 0 env.declarations.functions)
    (λ found h. (operations.function h.0, h.1))
    (functions_found (is_called text) env.declarations.functions known.functions)) in
    let service =
    if_then (λ (registration : host.Registration). (host.takes_name text registration ≡ true)
    × ((key : ℕ × ℕ) (of : HostSignature) → function_by key registration ≡ Some of
    → Contains (filter_map (function_by key) env.registered) of)) Q service_function (named_in env.registered text)
    (λ registration h. service_found env registration h.1)
    (found_with (host.takes_name text) function_by env.registered) in
    let class = if_map Q
    (λ (found : ℕ × ClassSignature).
    record {
      target = callables.Target (targets.Class found.0);
      result = ty.Handle (OfClass found.0);
      parameters = Some found.1.parameters;
    }) (first_from (is_class text) 0 env.declarations.classes) (if_weaker (first_from (is_class text) 0 env.declarations.classes)
    (λ found h. class_takes env found.0 found.1 known h) (first_place (is_class text) env.declarations.classes)) in
    let kind = if_then
    (λ (registration : host.Registration). (host.takes_name text registration ≡ true)
    × ((k : ℕ) (of : List Primitive) → factory_at env.registered k registration ≡ Some of
    → Contains (filter_map (factory_at env.registered k) env.registered) of)) Q (host_type env.registered)
    (named_in env.registered text)
    (λ registration h. host_found env registration h.1)
    (found_with (host.takes_name text) (factory_at env.registered) env.registered) in
    if_or Q (own_method_in env text) (option_or (function_in env.declarations.functions text) (callee_beside env text)) own
    (if_or Q (function_in env.declarations.functions text) (callee_beside env text) function
    (if_or Q (option_and_then service_function (named_in env.registered text))
    (option_or (class_in env.declarations.classes text)
    (option_and_then (host_type env.registered) (named_in env.registered text))) service
    (if_or Q (class_in env.declarations.classes text)
    (option_and_then (host_type env.registered) (named_in env.registered text)) class kind)))

-- types that are named

kind_found : (registrations : List host.Registration) (declarations : ModuleDeclarations)
    (registration : host.Registration)
    → ((kind : ℕ) → kind_in registration ≡ Some kind → Contains (filter_map kind_in registrations) kind)
    → IfSome (host_object registration) (IsObjectType (signatures_in registrations declarations))
kind_found registrations declarations (host.TypeRegistration name kind) among = object_host (among kind refl)
kind_found registrations declarations _ among = tt

pub object_sound : (registrations : List host.Registration) (declarations : ModuleDeclarations) (name : List ℕ)
    → IfSome (object_named registrations declarations name) (IsObjectType (signatures_in registrations declarations))
unfolding object_named
object_sound registrations declarations name =
    let s = signatures_in registrations declarations in
    let Q = IsObjectType s in
    let class = if_map Q
    (λ (found : ℕ × ClassSignature). OfClass found.0) (first_from (is_class name) 0 declarations.classes)
    (if_weaker (first_from (is_class name) 0 declarations.classes)
    (λ found h. object_class
    (slice_get_within s.classes found.0 (signature_of_class found.1)
    (mapped signature_of_class declarations.classes found.0 found.1 h))) (first_place (is_class name) declarations.classes)) in
    let interface =
    if_map Q (λ (found : ℕ × InterfaceSignature). OfInterface found.0)
    (first_from (is_interface_named name) 0 declarations.interfaces)
    (if_weaker (first_from (is_interface_named name) 0 declarations.interfaces)
    (λ found h. object_interface
    (slice_get_within s.interfaces found.0 (signatures_of_interface found.1)
    (mapped signatures_of_interface declarations.interfaces found.0 found.1 h)))
    (first_place (is_interface_named name) declarations.interfaces)) in
    let kind = if_then
    (λ (registration : host.Registration). (host.takes_name name registration ≡ true)
    × ((key : Unit {0}) (kind : ℕ) → kind_in registration ≡ Some kind
    → Contains (filter_map kind_in registrations) kind)) Q host_object (find (host.takes_name name) registrations)
    (λ registration h. kind_found registrations declarations registration (h.1 tt))
    (found_with (host.takes_name name) (λ (key : Unit {0}). kind_in) registrations) in
    if_or Q (class_type declarations.classes name)
    (option_or (interface_type declarations.interfaces name)
    (option_and_then host_object (find (host.takes_name name) registrations))) class
    (if_or Q (interface_type declarations.interfaces name)
    (option_and_then host_object (find (host.takes_name name) registrations)) interface kind)

primitive_element : (s : ModuleSignatures) (of : Primitive) → IsElementType s (element_of of)
primitive_element s primitives.Bool = truths
primitive_element s primitives.Int = integers
primitive_element s primitives.Int64 = integers
primitive_element s primitives.Uint = integers
primitive_element s primitives.Uint64 = integers

object_element : (s : ModuleSignatures) (o : ObjectType) → IsObjectType s o → IfSome (element_by o) (IsElementType s)
object_element s (OfClass class) (object_class h) = element_class h
object_element s (OfInterface interface) (object_interface h) = element_interface h
object_element s (OfHost kind) (object_host h) = element_host h
object_element s (OfArray of) h = tt

pub element_sound : (registrations : List host.Registration) (declarations : ModuleDeclarations) (of : written.Element)
    → IfSome (element_named registrations declarations of) (IsElementType (signatures_in registrations declarations))
unfolding element_named
element_sound registrations declarations (written.PrimElement p primitive) =
    primitive_element (signatures_in registrations declarations) primitive
element_sound registrations declarations (written.HandleElement p name) =
    if_then (IsObjectType (signatures_in registrations declarations)) (IsElementType (signatures_in registrations declarations)) element_by
    (object_named registrations declarations name) (object_element (signatures_in registrations declarations)) (object_sound registrations declarations name)
