-- Where all types are known, an expression has a known type.
use Rattle.std.specs.List.{AllByRecursion}
use Rattle.std.specs.Option.{option_and_then, option_map, option_or}
use Rattle.std.proofs.lemmas.Option.{none-some, same_Some}
use Rattle.std.proofs.Common.{◌≡◌, ◌+◌, ℕ, zero, suc, List, [], ◌∷◌, Bool, true, false, cond, Option, Some, None}
use Rattle.std.proofs.Common.{IfSome, find, slice_get, refl, subst}
use Rattle.ash_tree.specs.declared.tree.types.Primitive.{Primitive}
use Rattle.ash_tree.specs.declared.tree.types.Primitive.TheVariants as primitives
use Rattle.ash_tree.specs.Tree as written
use Rattle.ash_registrations.specs.Registrations as host
use Rattle.ash_typed.specs.declared.types.ObjectType.{ObjectType}
use Rattle.ash_typed.specs.declared.types.ObjectType.TheVariants.{Class as OfClass, Interface as OfInterface}
use Rattle.ash_typed.specs.declared.types.ObjectType.TheVariants.{Host as OfHost, Array as OfArray}
use Rattle.ash_typed.specs.declared.types.Element.{Element}
use Rattle.ash_typed.specs.declared.types.Element.TheVariants as elements
use Rattle.ash_typed.specs.declared.tree.operations.ArrayMethod.{ArrayMethod}
use Rattle.ash_typed.specs.declared.tree.operations.ArrayMethod.TheVariants as arrays
use Rattle.ash_type_rules.specs.declared.types.Ty.{Ty}
use Rattle.ash_type_rules.specs.declared.types.Ty.TheVariants as ty
use Rattle.ash_type_rules.specs.declared.forms.OperatorClass.{OperatorClass}
use Rattle.ash_type_rules.specs.declared.forms.OperatorClass.TheVariants as operator_class
use Rattle.ash_type_rules.specs.declared.forms.Form.{Form}
use Rattle.ash_type_rules.specs.declared.forms.Form.TheVariants as form
use Rattle.ash_typed.specs.declared.tree.operations.ObjectMember.{ObjectMember}
use Rattle.ash_typed.specs.declared.tree.operations.Operands.{Operands}
use Rattle.ash_typed.specs.declared.tree.operations.Operands.TheVariants as operands
use Rattle.ash_type_rules.specs.TypeRules.{is_variable, is_result, var_type, result_type, ty_of, ty_of_element, common}
use Rattle.ash_type_rules.specs.TypeRules.{gives_object, common_integer_type, holds, operator_class_of, operator_result}
use Rattle.ash_typed.specs.declared.tree.operations.Variable.TheVariants as variables
use Rattle.ash_typed.specs.declared.tree.operations.ObjectMember.TheVariants.{Field}
use Rattle.ash_typed.specs.declared.tree.operations.Method.TheVariants as methods
use Rattle.ash_typed.specs.declared.tree.operations.CallTarget.TheVariants as targets
use Rattle.ash_type_rules.specs.declared.forms.Callable.TheVariants as callables
use Rattle.ash_integers.specs.declared.int_type.IntType.{IntType}
use Rattle.std.specs.Str.{bytes_eq}
use Rattle.ash_typed.specs.TypedTree.{Number, Read, Stored, Held, This}
use Rattle.ash_type_rules.specs.Environment.{Environment, Declared, FunctionSignature, ClassSignature, Known, Callee, Invoked, first_from}
use Rattle.ash_type_rules.specs.Environment.{last_named, declares, is_called, is_class, this_class, variable_in, callee_in}
use Rattle.ash_type_rules.specs.Environment.{member_in, method_in, method_of_class, method_of_interface, method_of_array}
use Rattle.ash_type_rules.specs.Environment.{method_of_kind, array_method_of, is_array_method, host_member_in, result_of}
use Rattle.ash_type_rules.specs.Environment.{service_function, host_type, host_method, property, named_in, own_method_in}
use Rattle.ash_type_rules.specs.Environment.{class_in, function_in, field_in, local_in, own_field_in, global_in}
use Rattle.ash_type_rules.specs.Environment.{callee_beside, class_method, interface_method}
use Rattle.ash_type_rules.specs.Typing.{IsKnown, IsKnownType, IsVariableType, IsTypeOfResult, IsKnownVariable}
use Rattle.ash_type_rules.specs.Typing.{IsKnownFunction, IsKnownInterface, IsKnownClass, is_known, HasType, LinksHaveType}
use Rattle.ash_type_rules.specs.Typing.{SuffixesHaveType, SuffixHasType, number, truth, null, this, name, call, brackets}
use Rattle.ash_type_rules.specs.Typing.{to_integer, to_bool, new_array, cast, postfix, plus, minus, complement, not}
use Rattle.ash_type_rules.specs.Typing.{increment, decrement, handle, handle_written, binary, conditional, assign, update}
use Rattle.ash_type_rules.specs.Typing.{no_more, operated, no_suffixes, suffixed, field, method, index, increment_after}
use Rattle.ash_type_rules.specs.Typing.{decrement_after}
use Rattle.ash_type_rules.specs.Terms.{Term, adapted_number, adapted_to}

-- what is looked up

pub at_some : {A : Type 0} (P : A → Type 0) (o : Option A) (x : A) → IfSome o P → o ≡ Some x → P x
at_some P o x h e = let k = subst (λ (v : Option _). IfSome v P) e h in k

pub if_map : {A B : Type 0} (Q : B → Type 0) (f : A → B) (o : Option A) → IfSome o (λ x. Q (f x))
    → IfSome (option_map f o) Q
if_map Q f None h = h
if_map Q f (Some x) h = h

pub if_or : {A : Type 0} (Q : A → Type 0) (a b : Option A) → IfSome a Q → IfSome b Q → IfSome (option_or a b) Q
if_or Q None b h k = k
if_or Q (Some x) b h k = h

pub if_then : {A B : Type 0} (P : A → Type 0) (Q : B → Type 0) (f : A → Option B) (o : Option A)
    → ((x : A) → P x → IfSome (f x) Q) → IfSome o P → IfSome (option_and_then f o) Q
if_then P Q f None g h = h
if_then P Q f (Some x) g h = g x h

pub if_any : {A B : Type 0} (Q : B → Type 0) (f : A → Option B) (o : Option A) → ((x : A) → IfSome (f x) Q)
    → IfSome (option_and_then f o) Q
if_any Q f None g = tt
if_any Q f (Some x) g = g x

pub if_weaker : {A : Type 0} {P Q : A → Type 0} (o : Option A) → ((x : A) → P x → Q x) → IfSome o P → IfSome o Q
if_weaker None f h = h
if_weaker (Some x) f h = f x h

pub if_all : {A : Type 0} {Q : A → Type 0} (o : Option A) → ((x : A) → Q x) → IfSome o Q
if_all None f = tt
if_all (Some x) f = f x

pub if_first : {A : Type 0} (P : A → Type 0) (test : A → Bool) (i : ℕ) (xs : List A) → AllByRecursion P xs
    → IfSome (first_from test i xs) (λ found. P found.1)
if_first P test i [] h = h
if_first {A} P test i (x ∷ xs) h = go (test x) (if_first P test (i + 1) xs h.1)
  where
    go : (b : Bool) → IfSome (first_from test (i + 1) xs) (λ (found : ℕ × A). P found.1)
        → IfSome (cond b (Some (i, x)) (first_from test (i + 1) xs)) (λ (found : ℕ × A). P found.1)
    go true rest = h.0
    go false rest = rest

pub if_get : {A : Type 0} (P : A → Type 0) (xs : List A) (i : ℕ) → AllByRecursion P xs → IfSome (slice_get xs i) P
if_get P [] i h = h
if_get P (x ∷ xs) zero h = h.0
if_get P (x ∷ xs) (suc i) h = if_get P xs i h.1

if_last : (text : List ℕ) (i : ℕ) (found : Option (ℕ × Ty)) (vs : List Declared) → AllByRecursion IsKnownVariable vs
    → IfSome found (λ f. IsVariableType f.1) → IfSome (last_named text i found vs) (λ f. IsVariableType f.1)
if_last text i found [] h k = k
if_last text i found (v ∷ vs) h k =
    if_last text (i + 1) (cond (bytes_eq text v.name) (Some (i, v.of)) found) vs h.1 (go (bytes_eq text v.name))
  where
    go : (b : Bool) → IfSome (cond b (Some (i, v.of)) found) (λ (f : ℕ × Ty). IsVariableType f.1)
    go true = h.0
    go false = k

-- types

pub variable_is_known : (of : Ty) → IsVariableType of → IsKnownType of
variable_is_known ty.Unknown h = cc
variable_is_known ty.Void h = refl
variable_is_known ty.Null h = refl
variable_is_known _ h = refl

pub result_is_known : (of : Ty) → IsTypeOfResult of → IsKnownType of
result_is_known ty.Unknown h = cc
result_is_known ty.Void h = refl
result_is_known ty.Null h = refl
result_is_known _ h = refl

pub variable_is_result : (of : Ty) → IsVariableType of → IsTypeOfResult of
variable_is_result ty.Void h = refl
variable_is_result ty.Null h = cc
variable_is_result ty.Unknown h = cc
variable_is_result (ty.Object o) h = h
variable_is_result _ h = refl

pub primitive_known : (of : Primitive) → is_variable (ty_of of) ≡ true
primitive_known primitives.Bool = refl
primitive_known _ = refl

pub element_known : (of : Element) → is_variable (ty_of_element of) ≡ true
element_known elements.Bool = refl
element_known (elements.Integer k) = refl
element_known (elements.Class class) = refl
element_known (elements.Interface interface) = refl
element_known (elements.Host kind) = refl

result_known : (of : Option Primitive) → is_result (result_of of) ≡ true
result_known None = refl
result_known (Some of) = variable_is_result (ty_of of) (primitive_known of)

pub operator_result_known : (s : OperatorClass) (o : Operands) → is_known (operator_result s o) ≡ true
operator_result_known operator_class.Arithmetic (operands.Integers k) = refl
operator_result_known operator_class.Shift (operands.Integers k) = refl
operator_result_known _ _ = refl

known_if_some : (t of : Ty) → is_known t ≡ true → Some t ≡ Some of → is_known of ≡ true
known_if_some t of h e = subst (λ (x : Ty). is_known x ≡ true) (same_Some t of e) h

object_known : (b : Bool) (o : ObjectType) (of : Ty) → cond b (Some (ty.Handle o)) None ≡ Some of → is_known of ≡ true
object_known true o of e = known_if_some (ty.Handle o) of refl e
object_known false o of e = absurd (none-some of e)

common_known : (a b of : Ty) → is_known a ≡ true → is_known b ≡ true → common a b ≡ Some of → is_known of ≡ true
common_known ty.Unknown b of h k c = cc
common_known (ty.Object o) b of h k c = object_known (gives_object o b) o of c
common_known (ty.Handle o) b of h k c = object_known (gives_object o b) o of c
common_known a ty.Unknown of h k c = cc
common_known ty.Bool ty.Bool of h k c = known_if_some ty.Bool of refl c
common_known (ty.Integer j) (ty.Integer i) of h k c = known_if_some (ty.Integer (common_integer_type j i)) of refl c
common_known ty.Null (ty.Object o) of h k c = known_if_some (ty.Handle o) of refl c
common_known ty.Null (ty.Handle o) of h k c = known_if_some (ty.Handle o) of refl c
common_known a b of h k c = absurd (none-some of c)

taken_known : (b : Bool) (k : IntType) (n : ℕ) (t : Term) → is_known t.ty ≡ true
    → is_known (cond b (record { ty = ty.Integer k; form = form.Number n; tree = Number k n }) t).ty ≡ true
taken_known true k n t h = refl
taken_known false k n t h = h

adapted_number_known : (a : Form) (of : Ty) (b : Form) (t : Term) → is_known t.ty ≡ true
    → is_known (adapted_number a of b t).ty ≡ true
adapted_number_known (form.Number m) of (form.Number n) t h = h
adapted_number_known a (ty.Integer k) (form.Number n) t h = taken_known (holds k n) k n t h
adapted_number_known a of b t h = h

pub adapted_known : (s : OperatorClass) (other t : Term) → is_known t.ty ≡ true
    → is_known (adapted_to s other t).ty ≡ true
adapted_known operator_class.Shift other t h = h
adapted_known _ other t h = adapted_number_known other.form other.ty t.form t h

-- members

class_known : (env : Environment) → IsKnown env → IfSome (this_class env) (λ c. IsKnownClass c.1)
class_known env known =
    if_any (λ (c : ℕ × ClassSignature). IsKnownClass c.1)
    (λ (i : ℕ). option_map (λ (c : ClassSignature). (i, c)) (slice_get env.declarations.classes i)) env.this (λ i.
    if_map (λ (c : ℕ × ClassSignature). IsKnownClass c.1)
    (λ (c : ClassSignature). (i, c)) (slice_get env.declarations.classes i) (if_get IsKnownClass env.declarations.classes i known.classes))

field_known : (class : ℕ) (c : ClassSignature) (text : List ℕ) → IsKnownClass c
    → IfSome (field_in class c text) (λ found. IsVariableType found.1)
field_known class c text known =
    if_map (λ (found : ObjectMember × Ty). IsVariableType found.1)
    (λ (found : ℕ × Declared). (Field class found.0 (var_type found.1.of), found.1.of))
    (first_from (declares text) 0 c.fields) (if_first IsKnownVariable (declares text) 0 c.fields known.fields)

pub variable_known : (env : Environment) (text : List ℕ) → IsKnown env
    → IfSome (variable_in env text) (λ found. IsVariableType found.1)
unfolding variable_in
variable_known env text known =
    let Q : Known → Type 0 = λ found. IsVariableType found.1 in
    let local = if_map Q
    (λ (found : ℕ × Ty). (Read (Stored (variables.Local found.0 (var_type found.1))), found.1))
    (last_named text 0 None env.locals) (if_last text 0 None env.locals known.locals tt) in
    let own = if_then (λ (c : ℕ × ClassSignature). IsKnownClass c.1) Q
    (λ (c : ℕ × ClassSignature).
    option_map (λ (found : ObjectMember × Ty). (Read (Held (This c.0) found.0), found.1)) (field_in c.0 c.1 text))
    (this_class env)
    (λ c h. if_map Q
    (λ (found : ObjectMember × Ty). (Read (Held (This c.0) found.0), found.1)) (field_in c.0 c.1 text)
    (field_known c.0 c.1 text h)) (class_known env known) in
    let global =
    if_map Q (λ (found : ℕ × Declared).
    (Read (Stored (variables.Global found.0 (var_type found.1.of))), found.1.of))
    (first_from (declares text) 0 env.declarations.globals)
    (if_first IsKnownVariable (declares text) 0 env.declarations.globals known.globals) in
    if_or Q (local_in env.locals text) (option_or (own_field_in env text) (global_in env.declarations.globals text)) local
    (if_or Q (own_field_in env text) (global_in env.declarations.globals text) own global)

function_known : (text : List ℕ) (fs : List FunctionSignature) → AllByRecursion IsKnownFunction fs
    → IfSome (first_from (is_called text) 0 fs) (λ found. IsTypeOfResult found.1.result)
function_known text fs known =
    if_weaker (first_from (is_called text) 0 fs)
    (λ found h. h.result) (if_first IsKnownFunction (is_called text) 0 fs known)

service_known : (registration : host.Registration)
    → IfSome (service_function registration) (λ callee. IsTypeOfResult callee.result)
service_known (host.FunctionRegistration service id operation) = result_known operation.result
service_known _ = tt

host_known : (registrations : List host.Registration) (registration : host.Registration)
    → IfSome (host_type registrations registration) (λ callee. IsTypeOfResult callee.result)
host_known registrations (host.TypeRegistration text kind) = refl
host_known registrations _ = tt

property_known : (registration : host.Registration) → IfSome (property registration) (λ found. IsVariableType found.1)
property_known (host.PropertyRegistration of id value text) = primitive_known value
property_known _ = tt

host_method_known : (registration : host.Registration)
    → IfSome (host_method registration) (λ m. IsTypeOfResult m.result)
host_method_known (host.MethodRegistration of id operation) = result_known operation.result
host_method_known _ = tt

pub callee_known : (env : Environment) (text : List ℕ) → IsKnown env
    → IfSome (callee_in env text) (λ callee. IsTypeOfResult callee.result)
unfolding callee_in
callee_known env text known =
    let Q : Callee → Type 0 = λ callee. IsTypeOfResult callee.result in
    let own = if_then (λ (c : ℕ × ClassSignature). IsKnownClass c.1) Q
    (λ (c : ℕ × ClassSignature).
    option_map (λ (found : ℕ × FunctionSignature).
    record {
      target = callables.OwnMethod c.0 found.0 (result_type found.1.result);
      result = found.1.result;
      parameters = Some found.1.parameters;
    }) (first_from (is_called text) 0 c.1.methods)) (this_class env)
    (λ c h. if_map Q
    (λ (found : ℕ × FunctionSignature).
    record {
      target = callables.OwnMethod c.0 found.0 (result_type found.1.result);
      result = found.1.result;
      parameters = Some found.1.parameters;
    }) (first_from (is_called text) 0 c.1.methods) (function_known text c.1.methods h.methods))
    (class_known env known) in
    let function =
    if_map Q (λ (found : ℕ × FunctionSignature).
    record {
      target = callables.Target (targets.Function found.0 (result_type found.1.result));
      result = found.1.result;
      parameters = Some found.1.parameters;
    }) (first_from (is_called text) 0 env.declarations.functions)
    (function_known text env.declarations.functions known.functions) in
    let service = if_any Q service_function (named_in env.registered text) service_known in
    let class = if_map Q
    (λ (found : ℕ × ClassSignature).
    record {
      target = callables.Target (targets.Class found.0);
      result = ty.Handle (OfClass found.0);
      parameters = Some found.1.parameters;
    }) (first_from (is_class text) 0 env.declarations.classes)
    (if_all (first_from (is_class text) 0 env.declarations.classes) (λ found. refl)) in
    let kind = if_any Q (host_type env.registered) (named_in env.registered text) (host_known env.registered) in
    if_or Q (own_method_in env text) (option_or (function_in env.declarations.functions text) (callee_beside env text)) own
    (if_or Q (function_in env.declarations.functions text) (callee_beside env text) function
    (if_or Q (option_and_then service_function (named_in env.registered text))
    (option_or (class_in env.declarations.classes text)
    (option_and_then (host_type env.registered) (named_in env.registered text))) service
    (if_or Q (class_in env.declarations.classes text)
    (option_and_then (host_type env.registered) (named_in env.registered text)) class kind)))

array_result_known : (of : Element) (m : ArrayMethod) → IsTypeOfResult (array_method_of of m).result
array_result_known of arrays.Length = refl
array_result_known of arrays.Resize = refl
array_result_known of arrays.InsertLast = refl
array_result_known of arrays.RemoveLast = refl
array_result_known of arrays.IsEmpty = refl

pub member_known : (env : Environment) (o : ObjectType) (text : List ℕ) → IsKnown env
    → IfSome (member_in env o text) (λ found. IsVariableType found.1)
unfolding member_in
member_known env (OfClass i) text known =
    if_then IsKnownClass (λ (found : ObjectMember × Ty). IsVariableType found.1)
    (λ (c : ClassSignature). field_in i c text) (slice_get env.declarations.classes i)
    (λ c h. field_known i c text h) (if_get IsKnownClass env.declarations.classes i known.classes)
member_known env (OfInterface i) text known = tt
member_known env (OfArray of) text known = tt
member_known env (OfHost i) text known =
    if_any (λ (found : ObjectMember × Ty). IsVariableType found.1) property (host_member_in env.registered i text)
    property_known

pub method_known : (env : Environment) (o : ObjectType) (text : List ℕ) → IsKnown env
    → IfSome (method_in env o text) (λ m. IsTypeOfResult m.result)
unfolding method_in method_of_class method_of_interface method_of_array method_of_kind
method_known env (OfClass i) text known =
    if_then IsKnownClass (λ (m : Invoked). IsTypeOfResult m.result) (class_method i text) (slice_get env.declarations.classes i)
    (λ c h. if_map (λ (m : Invoked). IsTypeOfResult m.result)
    (λ (found : ℕ × FunctionSignature).
    record {
      method = methods.Script i found.0 (result_type found.1.result);
      result = found.1.result;
      parameters = found.1.parameters;
    }) (first_from (is_called text) 0 c.methods) (function_known text c.methods h.methods))
    (if_get IsKnownClass env.declarations.classes i known.classes)
method_known env (OfInterface i) text known =
    if_then IsKnownInterface
    (λ (m : Invoked). IsTypeOfResult m.result) (interface_method i text) (slice_get env.declarations.interfaces i)
    (λ of h. if_map (λ (m : Invoked). IsTypeOfResult m.result)
    (λ (found : ℕ × FunctionSignature).
    record {
      method = methods.Interface i found.0 (result_type found.1.result);
      result = found.1.result;
      parameters = found.1.parameters;
    }) (first_from (is_called text) 0 of.methods) (function_known text of.methods h.methods))
    (if_get IsKnownInterface env.declarations.interfaces i known.interfaces)
method_known env (OfArray of) text known = let found =
    find (is_array_method text)
    (arrays.Length ∷ arrays.Resize ∷ arrays.InsertLast ∷ arrays.RemoveLast ∷ arrays.IsEmpty ∷ []) in
    if_map (λ (m : Invoked). IsTypeOfResult m.result) (array_method_of of) found (if_all found (array_result_known of))
method_known env (OfHost i) text known =
    if_any (λ (m : Invoked). IsTypeOfResult m.result) host_method (host_member_in env.registered i text) host_method_known

mutual
  pub known_type : {env : Environment} {left : Bool} {e : written.Expr} {t : Term} → HasType env left e t → IsKnown env
      → IsKnownType t.ty
  known_type number known = refl
  known_type truth known = refl
  known_type null known = refl
  known_type (this h) known = refl
  known_type {env} (name {text = text} {known = found} h) known =
      variable_is_known found.1
      (at_some (λ found. IsVariableType found.1) (variable_in env text) found (variable_known env text known) h)
  known_type {env} (call {text = text} {callee = callee} c q all args) known =
      result_is_known callee.result
      (at_some (λ callee. IsTypeOfResult callee.result) (callee_in env text) callee (callee_known env text known) c)
  known_type (brackets h) known = known_type h known
  known_type (to_integer h i l) known = refl
  known_type (to_bool h i l) known = refl
  known_type (new_array e all args) known = refl
  known_type (cast n c h i) known = refl
  known_type (postfix h ss) known = suffixes_known ss known (known_type h known)
  known_type (plus h i) known = refl
  known_type (minus h i) known = refl
  known_type (complement h i) known = refl
  known_type (not h i) known = refl
  known_type (increment h i l) known = refl
  known_type (decrement h i l) known = refl
  known_type (handle h i) known = refl
  known_type (handle_written h) known = known_type h known
  known_type (binary h ls) known = links_known ls known (known_type h known)
  known_type (conditional {x = x} {y = y} {of = of} h i k l m) known =
      common_known x.ty y.ty of (known_type k known) (known_type l known) m
  known_type (assign h i s k l) known = known_type h known
  known_type (update f h i s l m n) known = known_type h known

  pub links_known : {env : Environment} {t : Term} {ls : written.Links} {u : Term} → LinksHaveType env t ls u
      → IsKnown env → IsKnownType t.ty → IsKnownType u.ty
  links_known no_more known h = h
  links_known (operated {op = op} {o = o} e m rest) known h = links_known rest known (operator_result_known (operator_class_of op) o)

  pub suffixes_known : {env : Environment} {t : Term} {ss : written.Suffixes} {u : Term} → SuffixesHaveType env t ss u
      → IsKnown env → IsKnownType t.ty → IsKnownType u.ty
  suffixes_known no_suffixes known h = h
  suffixes_known (suffixed s rest) known h = suffixes_known rest known (suffix_known s known)

  pub suffix_known : {env : Environment} {t : Term} {s : written.Suffix} {u : Term} → SuffixHasType env t s u
      → IsKnown env → IsKnownType u.ty
  suffix_known {env} (field {text = text} {o = o} {found = found} h i) known =
      variable_is_known found.1
      (at_some (λ found. IsVariableType found.1) (member_in env o text) found (member_known env o text known) i)
  suffix_known {env} (method {text = text} {o = o} {m = m} h i all args) known =
      result_is_known m.result
      (at_some (λ m. IsTypeOfResult m.result) (method_in env o text) m (method_known env o text known) i)
  suffix_known (index {elements = of} h d i) known = variable_is_known (ty_of_element of) (element_known of)
  suffix_known (increment_after h i) known = refl
  suffix_known (decrement_after h i) known = refl
