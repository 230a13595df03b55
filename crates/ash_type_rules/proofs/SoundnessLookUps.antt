-- What look-ups find is in range.
use Rattle.std.specs.List.{AllByRecursion, cons_option}
use Rattle.std.specs.Option.{option_and_then, option_map, option_or}
use Rattle.std.proofs.lemmas.Bool.{eq-eqb}
use Rattle.std.proofs.lemmas.Option.{slice_get-map}
use Rattle.std.proofs.lemmas.List.Elements.{Contains-append_right}
use Rattle.std.proofs.Common.{◌≡◌, ◌+◌, ℕ, zero, suc, List, [], ◌∷◌, Bool, true, false, ◌&&◌, cond, map, Option, Some}
use Rattle.std.proofs.Common.{None, IfSome, find, filter_map, Contains, slice_get, bytes_eq, nat_eq, refl, sym, ap}
use Rattle.std.proofs.Common.{subst, ◌∙◌, arith}
use Rattle.ash_tree.specs.declared.tree.types.Primitive.{Primitive}
use Rattle.ash_tree.specs.declared.tree.types.Primitive.TheVariants as primitives
use Rattle.ash_registrations.specs.Registrations as host
use Rattle.ash_typed.specs.declared.types.ObjectType.{ObjectType}
use Rattle.ash_typed.specs.declared.types.ObjectType.TheVariants.{Class as OfClass, Interface as OfInterface}
use Rattle.ash_typed.specs.declared.types.ObjectType.TheVariants.{Host as OfHost, Array as OfArray}
use Rattle.ash_typed.specs.declared.types.Element.{Element}
use Rattle.ash_typed.specs.declared.types.Element.TheVariants as elements
use Rattle.ash_typed.specs.declared.tree.operations.Variable.TheVariants as variables
use Rattle.ash_typed.specs.declared.tree.operations.ObjectMember.{ObjectMember}
use Rattle.ash_typed.specs.declared.tree.operations.ObjectMember.TheVariants.{Field, Property}
use Rattle.ash_typed.specs.declared.tree.operations.ArrayMethod.{ArrayMethod}
use Rattle.ash_typed.specs.declared.tree.operations.ArrayMethod.TheVariants as arrays
use Rattle.ash_typed.specs.TypedTree.{Expr, This, Read, Place, Stored, Held}
use Rattle.ash_typed.specs.TypeOf.{type_of_element}
use Rattle.ash_typed.specs.Signatures.{ModuleSignatures, type_of_primitive}
use Rattle.ash_typed.specs.SoundOperations as operations
use Rattle.ash_typed.specs.SoundExpressions as sound
use Rattle.ash_type_rules.specs.declared.types.Ty.{Ty}
use Rattle.ash_type_rules.specs.TypeRules.{var_type, result_type, ty_of, ty_of_element}
use Rattle.ash_type_rules.specs.Environment.{Environment, Declared, ClassSignature, Known, Invoked, first_from, last_named, declares}
use Rattle.ash_type_rules.specs.Environment.{this_class, result_of, property, field_in, local_in, own_field_in, global_in}
use Rattle.ash_type_rules.specs.Environment.{variable_in, member_in, array_method_of, host_member_in, name_of_kind}
use Rattle.ash_type_rules.specs.Environment.{type_declared}
use Rattle.ash_type_rules.specs.Typing.{IsVariableType}
use Rattle.ash_type_rules.specs.Offered.{property_at}
use Rattle.ash_type_rules.specs.Soundness.{signature_of_class, seen_in}
use Rattle.ash_type_rules.proofs.TypingKnown.{primitive_known, element_known, if_map, if_or, if_then, if_weaker}

-- places

first_at : {A : Type 0} (test : A → Bool) (i : ℕ) (xs : List A)
    → IfSome (first_from test i xs) (λ found. (k : ℕ) × (found.0 ≡ i + k) × (slice_get xs k ≡ Some found.1))
first_at test i [] = tt
first_at {A} test i (x ∷ xs) = go (test x) (first_at test (i + 1) xs)
  where
    Is : ℕ × A → Type 0
    Is found = (k : ℕ) × (found.0 ≡ i + k) × (slice_get (x ∷ xs) k ≡ Some found.1)

    go : (b : Bool)
        → IfSome (first_from test (i + 1) xs)
        (λ (found : ℕ × A). (k : ℕ) × (found.0 ≡ i + 1 + k) × (slice_get xs k ≡ Some found.1))
        → IfSome (cond b (Some (i, x)) (first_from test (i + 1) xs)) (λ (found : ℕ × A). (k : ℕ) × (found.0 ≡ i + k)
        × (slice_get (x ∷ xs) k ≡ Some found.1))
    go true rest = (zero, omega arith, refl)
    go false rest = if_weaker (first_from test (i + 1) xs) (λ found h. let e = h.1 in (suc h.0, omega arith, h.2)) rest

-- the first that passes has its place
pub first_place : {A : Type 0} (test : A → Bool) (xs : List A)
    → IfSome (first_from test 0 xs) (λ found. slice_get xs found.0 ≡ Some found.1)
first_place test xs =
    if_weaker (first_from test 0 xs)
    (λ found h. let e = h.1 in let same : h.0 ≡ found.0 = omega arith in
    subst (λ k. slice_get xs k ≡ Some found.1) same h.2) (first_at test 0 xs)

-- so has the last variable of a name
last_place : (P : ℕ × Ty → Type 0) (text : List ℕ) (i : ℕ) (found : Option (ℕ × Ty)) (vs : List Declared)
    → IfSome found P → ((k : ℕ) (v : Declared) → slice_get vs k ≡ Some v → P (i + k, v.of))
    → IfSome (last_named text i found vs) P
last_place P text i found [] h each = h
last_place P text i found (v ∷ vs) h each =
    last_place P text (i + 1) (cond (bytes_eq text v.name) (Some (i, v.of)) found) vs
    (go (bytes_eq text v.name)) (λ k w e. let same : i + suc k ≡ i + 1 + k = omega arith in
    subst (λ n. P (n, w.of)) same (each (suc k) w e))
  where
    go : (b : Bool) → IfSome (cond b (Some (i, v.of)) found) P
    go true = let same : i + zero ≡ i = omega arith in subst (λ n. P (n, v.of)) same (each zero v refl)
    go false = h

-- what is at a place, after each is changed
pub mapped : {A B : Type 0} (f : A → B) (xs : List A) (k : ℕ) (x : A) → slice_get xs k ≡ Some x
    → slice_get (map f xs) k ≡ Some (f x)
mapped f xs k x h = slice_get-map f xs k ∙ ap (option_map f) h

-- lists

here : {A : Type 0} (x : A) (xs : List A) → Contains (x ∷ xs) x
here x xs = (zero, omega arith, refl)

there : {A : Type 0} (o : Option A) (xs : List A) (y : A) → Contains xs y → Contains (cons_option o xs) y
there None xs y h = h
there (Some x) xs y h = Contains-append_right (x ∷ []) xs y h

-- What a function gives of the first that passes is among all that it gives, whatever the numbers by which it looks.
pub found_with : {A B K : Type 0} (test : A → Bool) (h : K → A → Option B) (xs : List A)
    → IfSome (find test xs) (λ x. (test x ≡ true)
    × ((key : K) (y : B) → h key x ≡ Some y → Contains (filter_map (h key) xs) y))
found_with test h [] = tt
found_with {A} {B} {K} test h (x ∷ xs) = go (test x) refl (found_with test h xs)
  where
    go : (b : Bool) → test x ≡ b
        → IfSome (find test xs)
        (λ (z : A). (test z ≡ true) × ((key : K) (y : B) → h key z ≡ Some y → Contains (filter_map (h key) xs) y))
        → IfSome (cond b (Some x) (find test xs)) (λ (z : A). (test z ≡ true)
        × ((key : K) (y : B) → h key z ≡ Some y → Contains (filter_map (h key) (x ∷ xs)) y))
    go true e rest = (
      e,
      λ key y k.
          subst (λ o. Contains (cons_option o (filter_map (h key) xs)) y) (sym k) (here y (filter_map (h key) xs)),
    )
    go false e rest =
        if_weaker (find test xs) (λ z k. (k.0, λ key y l. there (h key x) (filter_map (h key) xs) y (k.1 key y l))) rest

-- primitives

primitive_type : (of : Primitive) → var_type (ty_of of) ≡ type_of_primitive of
primitive_type primitives.Bool = refl
primitive_type primitives.Int = refl
primitive_type primitives.Int64 = refl
primitive_type primitives.Uint = refl
primitive_type primitives.Uint64 = refl

pub primitive_types : (ps : List Primitive) → map var_type (map ty_of ps) ≡ map type_of_primitive ps
primitive_types [] = refl
primitive_types (p ∷ ps) = λ i. primitive_type p i ∷ primitive_types ps i

pub primitive_result : (of : Option Primitive) → result_type (result_of of) ≡ option_map type_of_primitive of
primitive_result None = refl
primitive_result (Some primitives.Bool) = refl
primitive_result (Some primitives.Int) = refl
primitive_result (Some primitives.Int64) = refl
primitive_result (Some primitives.Uint) = refl
primitive_result (Some primitives.Uint64) = refl

pub primitives_known : (ps : List Primitive) → AllByRecursion IsVariableType (map ty_of ps)
primitives_known [] = tt
primitives_known (p ∷ ps) = (primitive_known p, primitives_known ps)

pub element_type : (of : Element) → var_type (ty_of_element of) ≡ type_of_element of
element_type elements.Bool = refl
element_type (elements.Integer int_type) = refl
element_type (elements.Class class) = refl
element_type (elements.Interface interface) = refl
element_type (elements.Host kind) = refl

-- tests

pub both : (a b : Bool) → (a && b) ≡ true → (a ≡ true) × (b ≡ true)
both true b h = (refl, h)
both false b h = absurd (cc)

chosen : {A : Type 0} (a b : Bool) (x : A) → (a && b) ≡ true → cond a (Some x) None ≡ Some x
chosen a b x h = rw (both a b h).0 refl

pub same_number : (n : ℕ) → nat_eq n n ≡ true
same_number n = eq-eqb n n refl

-- variables and fields

-- the expression reads a place, which has this type
abbrev pub IsPlaceOf : Environment → Expr → Ty → Type 0
IsPlaceOf env tree of = (place : Place) × (tree ≡ Read place) × sound.HasPlace (seen_in env) place (var_type of)

abbrev with_class : List ClassSignature → ℕ → Option (ℕ × ClassSignature)
with_class classes i = option_map (λ (c : ClassSignature). (i, c)) (slice_get classes i)

pub this_is : (classes : List ClassSignature) (o : Option ℕ)
    → IfSome (option_and_then (with_class classes) o) (λ c. (o ≡ Some c.0) × (slice_get classes c.0 ≡ Some c.1))
this_is classes None = tt
this_is classes (Some i) = go (slice_get classes i) refl
  where
    go : (found : Option ClassSignature) → slice_get classes i ≡ found
        → IfSome (option_map (λ (c : ClassSignature). (i, c)) found) (λ (c : ℕ × ClassSignature). (Some i ≡ Some c.0)
        × (slice_get classes c.0 ≡ Some c.1))
    go None e = tt
    go (Some c) e = (refl, e)

abbrev IsSoundMember : Environment → ObjectType → ObjectMember × Ty → Type 0
IsSoundMember env o found = operations.IsSoundMember (seen_in env).signatures o found.0 (var_type found.1)

field_sound : (env : Environment) (class : ℕ) (c : ClassSignature) (text : List ℕ)
    → slice_get env.declarations.classes class ≡ Some c
    → IfSome (field_in class c text) (IsSoundMember env (OfClass class))
field_sound env class c text h =
    if_map (IsSoundMember env (OfClass class))
    (λ (found : ℕ × Declared). (Field class found.0 (var_type found.1.of), found.1.of))
    (first_from (declares text) 0 c.fields)
    (if_weaker (first_from (declares text) 0 c.fields)
    (λ found k. operations.field {c = signature_of_class c} (mapped signature_of_class env.declarations.classes class c h)
    (mapped type_declared c.fields found.0 found.1 k)) (first_place (declares text) c.fields))

pub variable_sound : (env : Environment) (text : List ℕ)
    → IfSome (variable_in env text) (λ known. IsPlaceOf env known.0 known.1)
unfolding variable_in
variable_sound env text =
    let Q : Known → Type 0 = λ known. IsPlaceOf env known.0 known.1 in
    let At : ℕ × Ty → Type 0 = λ found. slice_get (map type_declared env.locals) found.0 ≡ Some (var_type found.1) in
    let locals : IfSome (last_named text 0 None env.locals) At =
    last_place At text 0 None env.locals tt (λ k v e. let same : k ≡ 0 + k = omega arith in
    subst (λ n. slice_get (map type_declared env.locals) n ≡ Some (var_type v.of)) same
    (mapped type_declared env.locals k v e)) in
    let local = if_map Q
    (λ (found : ℕ × Ty). (Read (Stored (variables.Local found.0 (var_type found.1))), found.1))
    (last_named text 0 None env.locals)
    (if_weaker (last_named text 0 None env.locals) (λ found h. (_, refl, sound.local h)) locals) in
    let own = if_then (λ (c : ℕ × ClassSignature). (env.this ≡ Some c.0) × (slice_get env.declarations.classes c.0 ≡ Some c.1)) Q
    (λ (c : ℕ × ClassSignature).
    option_map (λ (found : ObjectMember × Ty). (Read (Held (This c.0) found.0), found.1)) (field_in c.0 c.1 text))
    (this_class env)
    (λ c h. if_map Q
    (λ (found : ObjectMember × Ty). (Read (Held (This c.0) found.0), found.1)) (field_in c.0 c.1 text)
    (if_weaker (field_in c.0 c.1 text)
    (λ found k. (_, refl, sound.member (sound.this h.0) k)) (field_sound env c.0 c.1 text h.1)))
    (this_is env.declarations.classes env.this) in
    let global =
    if_map Q (λ (found : ℕ × Declared).
    (Read (Stored (variables.Global found.0 (var_type found.1.of))), found.1.of))
    (first_from (declares text) 0 env.declarations.globals)
    (if_weaker (first_from (declares text) 0 env.declarations.globals)
    (λ found h. (_, refl, sound.global (mapped type_declared env.declarations.globals found.0 found.1 h)))
    (first_place (declares text) env.declarations.globals)) in
    if_or Q (local_in env.locals text) (option_or (own_field_in env text) (global_in env.declarations.globals text)) local
    (if_or Q (own_field_in env text) (global_in env.declarations.globals text) own global)

property_found : (env : Environment) (kind : ℕ) (text : List ℕ) (registration : host.Registration)
    → host.takes_member (name_of_kind env.registered kind) text registration ≡ true
    → ((id : ℕ) (of : Primitive) → property_at (name_of_kind env.registered kind) id registration ≡ Some of
    → Contains ((seen_in env).signatures.host.properties kind id) of)
    → IfSome (property registration) (IsSoundMember env (OfHost kind))
property_found env kind text (host.PropertyRegistration other id of name) e among =
    let of_type = both (bytes_eq (name_of_kind env.registered kind) other) (bytes_eq text name) e in
    let at : property_at (name_of_kind env.registered kind) id (host.PropertyRegistration other id of name) ≡ Some of =
    rw (of_type.0, same_number id) refl in
    subst (λ type. operations.IsSoundMember (seen_in env).signatures (OfHost kind) (Property id type) type)
    (sym (primitive_type of)) (operations.property (among id of at))
property_found env kind text _ e among = tt

pub member_sound : (env : Environment) (o : ObjectType) (text : List ℕ)
    → IfSome (member_in env o text) (λ found. operations.IsSoundMember (seen_in env).signatures o found.0 (var_type found.1))
unfolding member_in host_member_in
member_sound env (OfClass i) text = go (slice_get env.declarations.classes i) refl
  where
    go : (c : Option ClassSignature) → slice_get env.declarations.classes i ≡ c
        → IfSome (option_and_then (λ (c : ClassSignature). field_in i c text) c) (IsSoundMember env (OfClass i))
    go None e = tt
    go (Some c) e = field_sound env i c text e
member_sound env (OfInterface i) text = tt
member_sound env (OfHost kind) text =
    let name = name_of_kind env.registered kind in
    if_then (λ (registration : host.Registration). (host.takes_member name text registration ≡ true)
    × ((id : ℕ) (of : Primitive) → property_at name id registration ≡ Some of
    → Contains (filter_map (property_at name id) env.registered) of)) (IsSoundMember env (OfHost kind)) property
    (find (host.takes_member name text) env.registered)
    (λ registration h. property_found env kind text registration h.0 h.1)
    (found_with (host.takes_member name text) (property_at name) env.registered)
member_sound env (OfArray of) text = tt

-- methods

-- an object of the type has the method, which takes and gives what is said
abbrev pub IsSoundMethod : Environment → ObjectType → Invoked → Type 0
IsSoundMethod env o m =
    operations.IsMethod (seen_in env).signatures o m.method (map var_type m.parameters) (result_type m.result)
    × AllByRecursion IsVariableType m.parameters

array_parameters : (of : Element) (m : ArrayMethod)
    → map var_type (array_method_of of m).parameters ≡ operations.parameters_of_array_method of m
array_parameters of arrays.Length = refl
array_parameters of arrays.Resize = refl
array_parameters of arrays.InsertLast = ap (λ type. type ∷ []) (element_type of)
array_parameters of arrays.RemoveLast = refl
array_parameters of arrays.IsEmpty = refl

array_known : (of : Element) (m : ArrayMethod) → AllByRecursion IsVariableType (array_method_of of m).parameters
array_known of arrays.Length = tt
array_known of arrays.Resize = (refl, tt)
array_known of arrays.InsertLast = (element_known of, tt)
array_known of arrays.RemoveLast = tt
array_known of arrays.IsEmpty = tt

array_method_is : (s : ModuleSignatures) (of : Element) (m : ArrayMethod)
    → operations.IsMethod s (OfArray of) (array_method_of of m).method (operations.parameters_of_array_method of m)
    (result_type (array_method_of of m).result)
array_method_is s of arrays.Length = operations.of_array
array_method_is s of arrays.Resize = operations.of_array
array_method_is s of arrays.InsertLast = operations.of_array
array_method_is s of arrays.RemoveLast = operations.of_array
array_method_is s of arrays.IsEmpty = operations.of_array

pub array_method_sound : (env : Environment) (of : Element) (m : ArrayMethod)
    → IsSoundMethod env (OfArray of) (array_method_of of m)
array_method_sound env of m = (
  subst (λ parameters.
      operations.IsMethod (seen_in env).signatures (OfArray of) (array_method_of of m).method parameters
      (result_type (array_method_of of m).result)) (sym (array_parameters of m))
      (array_method_is (seen_in env).signatures of m),
  array_known of m,
)
