-- What the rules of typing type is a sound class: its methods are those that its interfaces declare.
use Rattle.std.specs.List.{AllByRecursion, AllZip}
use Rattle.std.specs.Option.{option_map_or, option_map}
use Rattle.std.proofs.lemmas.Option.{none-some, same_Some, slice_get-map, slice_get_cases, cond_some}
use Rattle.std.proofs.lemmas.List.{length-map}
use Rattle.std.proofs.lemmas.Slice.Eq.{bytes_eq-Decides}
use Rattle.std.proofs.Common.{◌≡◌, ◌<◌, ◌+◌, ◌&&◌, ⊎_elim, ℕ, zero, suc, length, List, [], ◌∷◌, length-append, map}
use Rattle.std.proofs.Common.{Bool, true, false, cond, Option, Some, None, IfSome, slice_get, bytes_eq, refl, sym, ap}
use Rattle.std.proofs.Common.{ap₂, subst, subst₂, ◌∙◌, arith}
use Rattle.ash_tree.specs.Tree as written
use Rattle.ash_typed.specs.declared.types.ObjectType.TheVariants as objects
use Rattle.ash_typed.specs.StatementTree.{Initialization}
use Rattle.ash_typed.specs.Modules as modules
use Rattle.ash_typed.specs.Signatures as signatures
use Rattle.ash_typed.specs.SoundModules as sound
use Rattle.ash_type_rules.specs.declared.types.Ty.{Ty}
use Rattle.ash_type_rules.specs.declared.types.Ty.TheVariants as ty
use Rattle.ash_type_rules.specs.TypeRules.{is_same, var_type, result_type}
use Rattle.ash_type_rules.specs.Environment.{Environment, FunctionSignature, InterfaceSignature, ClassSignature, first_from, is_called, inside}
use Rattle.ash_type_rules.specs.ModuleDeclarations.{object_named, ty_in}
use Rattle.ash_type_rules.specs.Typing.{IsKnown, IsVariableType, IsKnownFunction, IsKnownInterface, IsKnownClass, is_known}
use Rattle.ash_type_rules.specs.Typing.{IsDeclaredType}
use Rattle.ash_tree.specs.Items.{constructing, member_names, fields_of, methods_of, constructors_of}
use Rattle.ash_type_rules.specs.Implementations.{are_same, has_types_of, matching, method_for, with_first, methods_for}
use Rattle.ash_type_rules.specs.Implementations.{methods_of_class, methods_of_interface, implemented}
use Rattle.ash_type_rules.specs.TypedModules.{AreFields, IsTypedFunction, IsListed, HasConstructor, IsTypedClass, AreTypedClasses}
use Rattle.ash_type_rules.specs.Nesting.{ConstructorDeclaresInBlocks, ClassDeclaresInBlocks}
use Rattle.ash_type_rules.specs.Soundness.{signature_of, signatures_of_interface, signature_of_class, seen_in}
use Rattle.ash_type_rules.proofs.TypingTypes.{equal_integer_types}
use Rattle.ash_type_rules.proofs.TypingKnown.{at_some, if_get, if_first, variable_is_known, result_is_known}
use Rattle.ash_type_rules.proofs.TypedClasses.{count_names}
use Rattle.ash_type_rules.proofs.EqualTypes.{equal_objects}
use Rattle.ash_type_rules.proofs.SoundnessLookUps.{first_place, mapped}
use Rattle.ash_type_rules.proofs.SoundnessNames.{object_sound}
use Rattle.ash_type_rules.proofs.SoundnessItems.{routine_sound, functions_sound, fields_sound, zip_length}

-- types that are the same

equal_types : (t u : Ty) → is_known t ≡ true → is_known u ≡ true → is_same t u ≡ true → t ≡ u
equal_types ty.Unknown u h k e = absurd (cc)
equal_types t ty.Unknown h k e = absurd (cc)
equal_types ty.Bool ty.Bool h k e = refl
equal_types (ty.Integer j) (ty.Integer i) h k e = ap (λ int_type. ty.Integer int_type) (equal_integer_types j i e)
equal_types (ty.Object o) (ty.Object p) h k e = ap (λ of. ty.Object of) (equal_objects o p e)
equal_types (ty.Handle o) (ty.Handle p) h k e = ap (λ of. ty.Handle of) (equal_objects o p e)
equal_types ty.Null ty.Null h k e = refl
equal_types ty.Void ty.Void h k e = refl
equal_types t u h k e = absurd (cc)

and_parts : (a b : Bool) → (a && b) ≡ true → (a ≡ true) × (b ≡ true)
and_parts true b h = (refl, h)
and_parts false b h = absurd (cc)

equal_lists : (ts us : List Ty) → AllByRecursion IsVariableType ts → AllByRecursion IsVariableType us
    → are_same ts us ≡ true → ts ≡ us
equal_lists [] [] h k e = refl
equal_lists [] (u ∷ us) h k e = absurd (cc)
equal_lists (t ∷ ts) [] h k e = absurd (cc)
equal_lists (t ∷ ts) (u ∷ us) h k e =
    let parts = and_parts (is_same t u) (are_same ts us) e in
    let first = equal_types t u (variable_is_known t h.0) (variable_is_known u k.0) parts.0 in
    let rest = equal_lists ts us h.1 k.1 parts.1 in
    λ i. first i ∷ rest i

-- methods of a class for those of an interface

pub first_passes : {A : Type 0} (test : A → Bool) (i : ℕ) (xs : List A)
    → IfSome (first_from test i xs) (λ found. test found.1 ≡ true)
first_passes test i [] = tt
first_passes {A} test i (x ∷ xs) = go (test x) refl (first_passes test (i + 1) xs)
  where
    go : (b : Bool) → test x ≡ b → IfSome (first_from test (i + 1) xs) (λ (found : ℕ × A). test found.1 ≡ true)
        → IfSome (cond b (Some (i, x)) (first_from test (i + 1) xs)) (λ (found : ℕ × A). test found.1 ≡ true)
    go true e rest = e
    go false e rest = rest

-- the method has the signature of the one that is declared
same_signature : (f g : FunctionSignature) → IsKnownFunction f → IsKnownFunction g → bytes_eq f.name g.name ≡ true
    → has_types_of f g ≡ true → signature_of g ≡ signature_of f
same_signature f g h k name types =
    let parts = and_parts (is_same f.result g.result) (are_same f.parameters g.parameters) types in
    let names = (bytes_eq-Decides f.name g.name).0 name in
    let results =
    equal_types f.result g.result (result_is_known f.result h.result) (result_is_known g.result k.result) parts.0 in
    let parameters = equal_lists f.parameters g.parameters h.parameters k.parameters parts.1 in
    λ i. record {
      name = sym names i;
      result = result_type (sym results i);
      parameters = map var_type (sym parameters i);
    }

method_found : (methods : List FunctionSignature) (f : FunctionSignature) (place : ℕ) → AllByRecursion IsKnownFunction methods
    → IsKnownFunction f → method_for methods f ≡ Some place
    → slice_get (map signature_of methods) place ≡ Some (signature_of f)
unfolding method_for
method_found methods f place known is h =
    go (first_from (is_called f.name) 0 methods) (first_place (is_called f.name) methods)
    (first_passes (is_called f.name) 0 methods) (if_first IsKnownFunction (is_called f.name) 0 methods known) h
  where
    go : (found : Option (ℕ × FunctionSignature)) → IfSome found (λ m. slice_get methods m.0 ≡ Some m.1)
        → IfSome found (λ m. is_called f.name m.1 ≡ true) → IfSome found (λ m. IsKnownFunction m.1)
        → matching f found ≡ Some place → slice_get (map signature_of methods) place ≡ Some (signature_of f)
    go None at called k e = absurd (none-some place e)
    go (Some (at_place, g)) at called k e =
        let c = cond_some (has_types_of f g) at_place place e in
        subst (λ p. slice_get (map signature_of methods) p ≡ Some (signature_of f)) c.1
        (mapped signature_of methods at_place g at ∙ ap (λ s. Some s) (same_signature f g is k called c.0))

abbrev IsAt : List modules.Signature → modules.Signature → ℕ → Type 0
IsAt declared s place = slice_get declared place ≡ Some s

both_found : (o : Option ℕ) (os : Option (List ℕ)) (places : List ℕ) → with_first o os ≡ Some places
    → (place : ℕ) × (rest : List ℕ) × (o ≡ Some place) × (os ≡ Some rest) × (place ∷ rest ≡ places)
both_found (Some place) (Some rest) places h = (place, rest, refl, refl, same_Some (place ∷ rest) places h)
both_found None os places h = absurd (none-some places h)
both_found (Some place) None places h = absurd (none-some places h)

methods_found : (methods fs : List FunctionSignature) (places : List ℕ) → AllByRecursion IsKnownFunction methods
    → AllByRecursion IsKnownFunction fs → methods_for methods fs ≡ Some places
    → AllZip (IsAt (map signature_of methods)) (map signature_of fs) places
methods_found methods [] places known is h =
    subst (AllZip (IsAt (map signature_of methods)) []) (same_Some [] places h) tt
methods_found methods (f ∷ fs) places known is h =
    let found = both_found (method_for methods f) (methods_for methods fs) places h in
    subst (AllZip (IsAt (map signature_of methods)) (signature_of f ∷ map signature_of fs)) found.4
    (method_found methods f found.0 known is.0 found.2, methods_found methods fs found.1 known is.1 found.3)

-- what is at a place, before each is changed
pub unmapped : {A B : Type 0} (f : A → B) (xs : List A) (k : ℕ) (y : B) → slice_get (map f xs) k ≡ Some y
    → (x : A) × (slice_get xs k ≡ Some x) × (f x ≡ y)
unmapped {A} {B} f xs k y h = go (slice_get xs k) refl (sym (slice_get-map f xs k) ∙ h)
  where
    go : (o : Option A) → slice_get xs k ≡ o → option_map f o ≡ Some y → (x : A) × (slice_get xs k ≡ Some x) × (f x ≡ y)
    go None e i = absurd (none-some y i)
    go (Some x) e i = (x, e, same_Some (f x) y i)

implement : (methods : List modules.Function) (declared : List modules.Signature) (places : List ℕ)
    → AllZip (IsAt (map signatures.signature_of methods)) declared places
    → AllZip (sound.ImplementsDeclared methods) declared places
implement methods [] [] h = tt
implement methods [] (p ∷ ps) h = absurd h
implement methods (s ∷ ss) [] h = absurd h
implement methods (s ∷ ss) (p ∷ ps) h = (unmapped signatures.signature_of methods p s h.0, implement methods ss ps h.1)

-- interfaces that a class lists

-- what is within a list that was changed
within_map : {A B : Type 0} (f : A → B) (xs : List A) (k : ℕ) → k < length (map f xs)
    → (x : A) × (slice_get xs k ≡ Some x)
within_map {A} f xs k h =
    ⊎_elim (λ i. (i.0, i.2))
    (λ i. let past = i.0 in let long = length-map xs f in absurd (omega arith)) (slice_get_cases xs k).1

implementation_by : (env : Environment) (place : ℕ) (i : modules.Implementation) (t : modules.Class)
    (declaring : InterfaceSignature) (c : ClassSignature) → IsKnown env → slice_get env.declarations.interfaces i.interface ≡ Some declaring
    → slice_get env.declarations.classes place ≡ Some c → signature_of_class c ≡ signatures.signature_of_class t
    → implemented env place i.interface ≡ Some i.methods → sound.IsImplementation (seen_in env).signatures t.methods i
unfolding implemented
implementation_by env place i t declaring c known at_interface at_class same h =
    let of_interface =
    at_some IsKnownInterface (slice_get env.declarations.interfaces i.interface) declaring
    (if_get IsKnownInterface env.declarations.interfaces i.interface known.interfaces) at_interface in
    let of_class =
    at_some IsKnownClass (slice_get env.declarations.classes place) c
    (if_get IsKnownClass env.declarations.classes place known.classes) at_class in
    let found : methods_for c.methods declaring.methods ≡ Some i.methods =
    subst₂ (λ (one : Option ClassSignature) (other : Option InterfaceSignature).
    methods_for (option_map_or methods_of_class one []) (option_map_or methods_of_interface other [])
    ≡ Some i.methods) at_class at_interface h in
    let are = methods_found c.methods declaring.methods i.methods of_class.methods of_interface.methods found in
    let methods : map signature_of c.methods ≡ map signatures.signature_of t.methods =
    ap (λ (s : signatures.ClassTypes). s.methods) same in (
      signatures_of_interface declaring,
      mapped signatures_of_interface env.declarations.interfaces i.interface declaring at_interface,
      implement t.methods (map signature_of declaring.methods) i.methods
          (subst (λ all. AllZip (IsAt all) (map signature_of declaring.methods) i.methods) methods are),
    )

interface_within : (s : signatures.ModuleSignatures) (interface : ℕ) → signatures.IsObjectType s (objects.Interface interface)
    → interface < length s.interfaces
interface_within s interface (signatures.interface h) = h

implementation_sound : (env : Environment) (place : ℕ) (n : written.TypeName) (i : modules.Implementation)
    (t : modules.Class) → IsKnown env
    → slice_get (seen_in env).signatures.classes place ≡ Some (signatures.signature_of_class t) → IsListed env place n i
    → sound.IsImplementation (seen_in env).signatures t.methods i
implementation_sound env place n i t known at is =
    let within =
    interface_within (seen_in env).signatures i.interface
    (at_some (signatures.IsObjectType (seen_in env).signatures) (object_named env.registered env.declarations n.name)
    (objects.Interface i.interface) (object_sound env.registered env.declarations n.name) is.interface) in
    let declaring = within_map signatures_of_interface env.declarations.interfaces i.interface within in
    let class = unmapped signature_of_class env.declarations.classes place (signatures.signature_of_class t) at in
    implementation_by env place i t declaring.0 class.0 known declaring.1 class.1 class.2 is.methods

implementations_sound : (env : Environment) (place : ℕ) (ns : List written.TypeName) (is : List modules.Implementation)
    (t : modules.Class) → IsKnown env
    → slice_get (seen_in env).signatures.classes place ≡ Some (signatures.signature_of_class t)
    → AllZip (IsListed env place) ns is → AllByRecursion (sound.IsImplementation (seen_in env).signatures t.methods) is
implementations_sound env place ns [] t known at h = tt
implementations_sound env place [] (i ∷ is) t known at h = absurd h
implementations_sound env place (n ∷ ns) (i ∷ is) t known at h =
    (implementation_sound env place n i t known at h.0, implementations_sound env place ns is t known at h.1)

-- members

constructor_sound : (env : Environment) (class : List ℕ) (cs : List written.Constructor) (t : Option modules.Function)
    → IsKnown env → AllByRecursion ConstructorDeclaresInBlocks cs → HasConstructor env class cs t
    → IfSome t (sound.IsSoundConstructor (seen_in env) class)
constructor_sound env class cs None known nest h = tt
constructor_sound env class [] (Some t) known nest h = absurd h
constructor_sound env class (c ∷ []) (Some t) known nest h = record {
  named = h.routine.name ∙ h.named;
  gives_nothing = h.routine.result;
  function = routine_sound env ty.Void (constructing c) t known refl tt nest.0 h.routine;
}
constructor_sound env class (c ∷ (d ∷ cs)) (Some t) known nest h = absurd h

decl_count : List written.Vars → ℕ
decl_count [] = 0
decl_count (v ∷ vs) = length v.decls + decl_count vs

members_count : (ms : List written.Member)
    → length (member_names ms) ≡ decl_count (fields_of ms) + length (methods_of ms)
unfolding decl_count
members_count [] = refl
members_count (written.AField v ∷ ms) = let rest = members_count ms in let names = count_names v (member_names ms) in
    omega arith
members_count (written.AMethod f ∷ ms) = let rest = members_count ms in omega arith
members_count (written.AConstructor c ∷ ms) = members_count ms

fields_count : (env : Environment) (vs : List written.Vars) (ts : List Initialization) → AreFields env vs ts
    → length ts ≡ decl_count vs
unfolding decl_count
fields_count env [] ts h = ap length h
fields_count env (v ∷ vs) ts h =
    ap length h.5 ∙ length-append h.0 h.1
    ∙ ap₂ (λ a b. a + b) (zip_length (IsDeclaredType env (ty_in env v.of)) v.decls h.0 h.3) (fields_count env vs h.1 h.4)

class_sound : (env : Environment) (place : ℕ) (c : written.Class) (t : modules.Class) → IsKnown env
    → IsKnown (inside env place)
    → slice_get (seen_in env).signatures.classes place ≡ Some (signatures.signature_of_class t)
    → ClassDeclaresInBlocks c → IsTypedClass env place c t → sound.IsSoundClass (seen_in env).signatures place t
class_sound env place c t known inner at nest is =
    let all = members_count c.members in
    let fields = fields_count (inside env place) (fields_of c.members) t.fields is.fields in
    let methods = zip_length (IsTypedFunction (inside env place)) (methods_of c.members) t.methods is.methods in
    let few = is.few in
    record {
      few = omega arith;
      interfaces = implementations_sound env place c.interfaces t.interfaces t known at is.interfaces;
      fields = fields_sound (inside env place) (fields_of c.members) t.fields inner is.fields;
      constructor =
          subst (λ name. IfSome t.constructor (sound.IsSoundConstructor (seen_in (inside env place)) name)) (sym is.name)
          (constructor_sound (inside env place) c.name (constructors_of c.members) t.constructor inner nest.constructors
          is.constructor);
      methods = functions_sound (inside env place) (methods_of c.members) t.methods inner nest.methods is.methods;
    }

-- the classes have these places among those that are seen
pub classes_sound : (env : Environment) (place : ℕ) (cs : List written.Class) (ts : List modules.Class) → IsKnown env
    → ((k : ℕ) (t : modules.Class) → slice_get ts k ≡ Some t
    → slice_get (seen_in env).signatures.classes (place + k) ≡ Some (signatures.signature_of_class t))
    → AllByRecursion ClassDeclaresInBlocks cs → AreTypedClasses env place cs ts
    → sound.AreSoundClasses (seen_in env).signatures place ts
classes_sound env place cs [] known at nest h = tt
classes_sound env place [] (t ∷ ts) known at nest h = absurd h
classes_sound env place (c ∷ cs) (t ∷ ts) known at nest h =
    let here : place + zero ≡ place = omega arith in
    let inner : IsKnown (inside env place) = record {
      interfaces = known.interfaces;
      classes = known.classes;
      functions = known.functions;
      globals = known.globals;
      locals = tt;
    } in
    let first = subst
    (λ k. slice_get (seen_in env).signatures.classes k ≡ Some (signatures.signature_of_class t)) here
    (at zero t refl) in (
      class_sound env place c t known inner first nest.0 h.0,
      classes_sound env (place + 1) cs ts known
          (λ k u e. let next : place + suc k ≡ place + 1 + k = omega arith in
          subst (λ n. slice_get (seen_in env).signatures.classes n ≡ Some (signatures.signature_of_class u)) next
          (at (suc k) u e)) nest.1 h.1,
    )

pub classes_length : (env : Environment) (place : ℕ) (cs : List written.Class) (ts : List modules.Class)
    → AreTypedClasses env place cs ts → length ts ≡ length cs
classes_length env place [] [] h = refl
classes_length env place [] (t ∷ ts) h = absurd h
classes_length env place (c ∷ cs) [] h = absurd h
classes_length env place (c ∷ cs) (t ∷ ts) h = ap suc (classes_length env (place + 1) cs ts h.1)
