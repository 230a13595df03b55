-- Declared variables are sound: their types are in range, and what they begin with fits them.
use Rattle.std.specs.List.{AllByRecursion}
use Rattle.std.specs.Option.{option_map}
use Rattle.std.proofs.lemmas.Bool.{eqb-true}
use Rattle.std.proofs.lemmas.Option.{none-some}
use Rattle.std.proofs.Common.{◌≡◌, ℕ, length, List, [], ◌∷◌, ◌++◌, true, false, not, map, Option, Some, None, IfSome}
use Rattle.std.proofs.Common.{find, filter_map, Contains, slice_get, refl, sym, ap, subst}
use Rattle.ash_tree.specs.declared.tree.types.Primitive.{Primitive}
use Rattle.ash_tree.specs.declared.tree.types.Primitive.TheVariants as primitives
use Rattle.ash_tree.specs.Tree as written
use Rattle.ash_registrations.specs.Registrations as host
use Rattle.ash_typed.specs.declared.types.ObjectType.{ObjectType}
use Rattle.ash_typed.specs.declared.types.ObjectType.TheVariants.{Class as OfClass, Interface as OfInterface}
use Rattle.ash_typed.specs.declared.types.ObjectType.TheVariants.{Host as OfHost, Array as OfArray}
use Rattle.ash_typed.specs.declared.types.Element.{Element}
use Rattle.ash_typed.specs.declared.types.VarType.TheVariants as vars
use Rattle.ash_typed.specs.declared.tree.operations.CallTarget.{CallTarget}
use Rattle.ash_typed.specs.declared.tree.operations.CallTarget.TheVariants as targets
use Rattle.ash_typed.specs.TypedTree.{Expr}
use Rattle.ash_typed.specs.StatementTree.{Initialization}
use Rattle.ash_typed.specs.Signatures as signatures
use Rattle.ash_typed.specs.SoundOperations as operations
use Rattle.ash_typed.specs.SoundExpressions as sound
use Rattle.ash_typed.specs.SoundStatements as sound_statements
use Rattle.ash_type_rules.specs.declared.types.Ty.{Ty}
use Rattle.ash_type_rules.specs.declared.types.Ty.TheVariants as ty
use Rattle.ash_type_rules.specs.declared.forms.Callable.TheVariants as callables
use Rattle.ash_type_rules.specs.TypeRules.{is_interface, object_of, var_type, ty_of}
use Rattle.ash_type_rules.specs.Environment.{Environment, Declared, ClassSignature, ModuleDeclarations, Callee, host_type}
use Rattle.ash_type_rules.specs.Environment.{with_locals}
use Rattle.ash_type_rules.specs.Environment.{class_built, class_construction, kind_construction, construction}
use Rattle.ash_type_rules.specs.Environment.{type_declared}
use Rattle.ash_type_rules.specs.ModuleDeclarations.{object_named, element_named, array_named, object_ty, handle_ty}
use Rattle.ash_type_rules.specs.ModuleDeclarations.{ty_named, declared}
use Rattle.ash_type_rules.specs.Terms.{call_of, Term}
use Rattle.ash_type_rules.specs.Scopes.{Scope}
use Rattle.ash_type_rules.specs.Typing.{IsKnown, IsKnownType, IsVariableType, is_object, IsConstructed, construct}
use Rattle.ash_type_rules.specs.Typing.{IsTypedBeginning, empty, default, value, one, built_by, IsDeclaredType}
use Rattle.ash_type_rules.specs.Typing.{declared as is_declared}
use Rattle.ash_type_rules.specs.TypedStatements.{IsKnownScope, AreTypedDeclarations, none_declared, and_declared}
use Rattle.ash_type_rules.specs.Offered.{factory_at}
use Rattle.ash_type_rules.specs.Soundness.{signatures_in, seen_in}
use Rattle.ash_type_rules.proofs.TypingKnown.{at_some, if_then, known_type}
use Rattle.ash_type_rules.proofs.StatementPartsSound.{more_known}
use Rattle.ash_type_rules.proofs.SoundnessLookUps.{found_with}
use Rattle.ash_type_rules.proofs.SoundnessNames.{class_takes, host_found, object_sound, element_sound}
use Rattle.ash_type_rules.proofs.SoundnessTypes.{fits_sound}
use Rattle.ash_type_rules.proofs.SoundnessExpressions.{IsArgument, term_sound, terms_sound, arguments_sound, array_takes}

-- types that are written

primitive_type : (s : signatures.ModuleSignatures) (of : Primitive) → signatures.IsTypeInModule s (var_type (ty_of of))
primitive_type s primitives.Bool = signatures.truth
primitive_type s primitives.Int = signatures.integer
primitive_type s primitives.Int64 = signatures.integer
primitive_type s primitives.Uint = signatures.integer
primitive_type s primitives.Uint64 = signatures.integer

no_interface : (o : ObjectType) → not (is_interface o) ≡ true → signatures.IsNoInterface o
no_interface (OfInterface i) h = absurd (cc)
no_interface (OfClass i) h = tt
no_interface (OfHost kind) h = tt
no_interface (OfArray of) h = tt

object_type : (s : signatures.ModuleSignatures) (o : Option ObjectType) → IfSome o (signatures.IsObjectType s)
    → IsVariableType (object_ty o) → signatures.IsTypeInModule s (var_type (object_ty o))
object_type s None h v = absurd (cc)
object_type s (Some o) h v = signatures.object h (no_interface o v)

handle_type : (s : signatures.ModuleSignatures) (o : Option ObjectType) → IfSome o (signatures.IsObjectType s)
    → IsVariableType (handle_ty o) → signatures.IsTypeInModule s (var_type (handle_ty o))
handle_type s None h v = absurd (cc)
handle_type s (Some o) h v = signatures.handle h

array_sound : (registrations : List host.Registration) (declarations : ModuleDeclarations) (of : written.Element)
    → IfSome (array_named registrations declarations of) (signatures.IsObjectType (signatures_in registrations declarations))
array_sound registrations declarations of = go (element_named registrations declarations of) (element_sound registrations declarations of)
  where
    go : (found : Option Element) → IfSome found (signatures.IsElementType (signatures_in registrations declarations))
        → IfSome (option_map OfArray found) (signatures.IsObjectType (signatures_in registrations declarations))
    go None h = tt
    go (Some e) h = signatures.array h

-- a type of variables is in range
pub type_sound : (registrations : List host.Registration) (declarations : ModuleDeclarations) (of : written.Named)
    → IsVariableType (ty_named registrations declarations of)
    → signatures.IsTypeInModule (signatures_in registrations declarations) (var_type (ty_named registrations declarations of))
unfolding ty_named
type_sound registrations declarations (written.Prim p primitive) v = primitive_type (signatures_in registrations declarations) primitive
type_sound registrations declarations (written.Object p name) v =
    object_type (signatures_in registrations declarations) (object_named registrations declarations name) (object_sound registrations declarations name) v
type_sound registrations declarations (written.Handle p name) v =
    handle_type (signatures_in registrations declarations) (object_named registrations declarations name) (object_sound registrations declarations name) v
type_sound registrations declarations (written.Array p of) v =
    object_type (signatures_in registrations declarations) (array_named registrations declarations of) (array_sound registrations declarations of) v
type_sound registrations declarations (written.ArrayHandle p of) v =
    handle_type (signatures_in registrations declarations) (array_named registrations declarations of) (array_sound registrations declarations of) v

-- objects

-- the callee constructs an object of the type
record Builds (env : Environment) (o : ObjectType) (callee : Callee) : Type 0 where
  target : CallTarget
  called : callee.target ≡ callables.Target target
  constructs : sound_statements.Constructs target o
  takes : IfSome callee.parameters (λ parameters.
      operations.IsTarget (seen_in env).signatures target (map var_type parameters) (Some (vars.Handle o))
      × AllByRecursion IsVariableType parameters)

host_built : (env : Environment) (kind : ℕ) (registration : host.Registration)
    → host.takes_kind kind registration ≡ true
    → ((k : ℕ) (of : List Primitive) → factory_at env.registered k registration ≡ Some of
    → Contains (filter_map (factory_at env.registered k) env.registered) of)
    → IfSome (host_type env.registered registration) (Builds env (OfHost kind))
host_built env kind (host.TypeRegistration name other) e among =
    subst (λ k. IfSome (host_type env.registered (host.TypeRegistration name other)) (Builds env (OfHost k)))
    (sym (eqb-true kind other e)) (record {
      target = targets.Host other;
      called = refl;
      constructs = sound_statements.host;
      takes = host_found env (host.TypeRegistration name other) among;
    })
host_built env kind _ e among = tt

construction_builds : (env : Environment) (o : ObjectType) (count : ℕ) → IsKnown env
    → signatures.IsObjectType (seen_in env).signatures o → IfSome (construction env o count) (Builds env o)
unfolding construction class_construction kind_construction
construction_builds env (OfClass place) count known h = go (slice_get env.declarations.classes place) refl
  where
    go : (c : Option ClassSignature) → slice_get env.declarations.classes place ≡ c
        → IfSome (option_map (class_built place) c) (Builds env (OfClass place))
    go None e = tt
    go (Some c) e = record {
      target = targets.Class place;
      called = refl;
      constructs = sound_statements.class;
      takes = class_takes env place c known e;
    }
construction_builds env (OfInterface place) count known h = tt
construction_builds env (OfHost kind) count known h =
    if_then (λ (registration : host.Registration). (host.takes_kind kind registration ≡ true)
    × ((k : ℕ) (of : List Primitive) → factory_at env.registered k registration ≡ Some of
    → Contains (filter_map (factory_at env.registered k) env.registered) of)) (Builds env (OfHost kind))
    (host_type env.registered) (find (host.takes_kind kind) env.registered)
    (λ registration k. host_built env kind registration k.0 k.1)
    (found_with (host.takes_kind kind) (factory_at env.registered) env.registered)
construction_builds env (OfArray of) count known (signatures.array h) = record {
  target = targets.Array of;
  called = refl;
  constructs = sound_statements.array;
  takes = array_takes env of count h;
}

-- a constructed object
constructed_sound : (env : Environment) (o : ObjectType) (ts : List Term) (tree : Expr) → IsKnown env
    → signatures.IsObjectType (seen_in env).signatures o → AllByRecursion (IsArgument env) ts
    → IsConstructed env o ts tree → sound_statements.IsSoundBeginning (seen_in env) (vars.Object o) (Some tree)
constructed_sound env o ts tree known h arguments
    (construct {callee = callee} {parameters = parameters} {trees = trees} c q args) =
    let builds =
    at_some (Builds env o) (construction env o (length ts)) callee (construction_builds env o (length ts) known h)
    c in
    let takes = at_some
    (λ parameters.
    operations.IsTarget (seen_in env).signatures builds.target (map var_type parameters) (Some (vars.Handle o))
    × AllByRecursion IsVariableType parameters) callee.parameters parameters builds.takes q in
    subst (λ target.
    sound_statements.IsSoundBeginning (seen_in env) (vars.Object o)
    (Some (call_of target (map var_type parameters) trees))) (sym builds.called)
    (sound_statements.constructed builds.constructs (sound.call takes.0 (arguments_sound env args takes.1 arguments)))

-- what variables begin with

no_object : (of : Ty) → is_object of ≡ false → sound_statements.IsNoObject (var_type of)
no_object (ty.Object o) h = absurd (cc)
no_object ty.Bool h = tt
no_object (ty.Integer k) h = tt
no_object (ty.Handle o) h = tt
no_object ty.Null h = tt
no_object ty.Void h = tt
no_object ty.Unknown h = tt

no_object_of : (of : Ty) → object_of of ≡ None → sound_statements.IsNoObject (var_type of)
no_object_of (ty.Object o) h = absurd (none-some o (sym h))
no_object_of ty.Bool h = tt
no_object_of (ty.Integer k) h = tt
no_object_of (ty.Handle o) h = tt
no_object_of ty.Null h = tt
no_object_of ty.Void h = tt
no_object_of ty.Unknown h = tt

object_within : (s : signatures.ModuleSignatures) (o : ObjectType) → signatures.IsTypeInModule s (vars.Object o)
    → signatures.IsObjectType s o
object_within s o (signatures.object h i) = h

pub begins_sound : {env : Environment} {of : Ty} {i : written.Initializer} {value : Option Expr}
    → IsTypedBeginning env of i value → IsKnown env → IsKnownType of
    → signatures.IsTypeInModule (seen_in env).signatures (var_type of)
    → sound_statements.IsSoundBeginning (seen_in env) (var_type of) value
begins_sound (empty {of = of} h) known k type = sound_statements.default (no_object of h)
begins_sound {env} (default {o = o} {tree = tree} h) known k type =
    constructed_sound env o [] tree known (object_within (seen_in env).signatures o type) tt h
begins_sound {env} (value {of = of} {t = t} h i e) known k type =
    sound_statements.stored (no_object of h) (fits_sound env of t k (known_type i known) (term_sound i known).gives e)
begins_sound {env} (one {of = of} {t = t} h i e) known k type =
    sound_statements.stored (no_object_of of h)
    (fits_sound env of t k (known_type i known) (term_sound i known).gives e)
begins_sound {env} (built_by {o = o} {ts = ts} {tree = tree} all h) known k type =
    constructed_sound env o ts tree known (object_within (seen_in env).signatures o type) (terms_sound all known) h

pub declared_sound : {env : Environment} {of : Ty} {d : written.Decl} {v : Initialization} → IsDeclaredType env of d v
    → IsKnown env → IsKnownType of → signatures.IsTypeInModule (seen_in env).signatures (var_type of)
    → sound_statements.IsInitialized (seen_in env) v
declared_sound (is_declared h) known k type = record { type = type; value = begins_sound h known k type }

-- variables, each seen from the end of its own on

pub map-append : {A B : Type 0} (f : A → B) (xs ys : List A) → map f (xs ++ ys) ≡ map f xs ++ map f ys
map-append f [] ys = refl
map-append f (x ∷ xs) ys = ap (λ zs. f x ∷ zs) (map-append f xs ys)

-- what is seen after variables
pub seen_with : (env : Environment) (vs : List Declared)
    → seen_in (with_locals env (env.locals ++ vs)) ≡ sound_statements.with_locals (seen_in env) (map type_declared vs)
seen_with env vs =
    ap (λ locals. record { signatures = signatures_in env.registered env.declarations; this = env.this; locals = locals })
    (map-append type_declared env.locals vs)

is_of : {env : Environment} {of : Ty} {d : written.Decl} {v : Initialization} → IsDeclaredType env of d v
    → v.of ≡ var_type of
is_of (is_declared h) = refl

pub variables_sound : {scope : Scope} {of : Ty} {ds : List written.Decl} {vs : List Initialization}
    → AreTypedDeclarations scope of ds vs → IsKnownScope scope → IsVariableType of → IsKnownType of
    → signatures.IsTypeInModule (seen_in scope.env).signatures (var_type of)
    → sound_statements.AreSoundDeclarations (seen_in scope.env) vs (map type_declared (map (declared of) ds))
variables_sound none_declared known v k type = sound_statements.none_declared
variables_sound {scope} (and_declared {of = of} {d = d} {ds = ds} {value = w} {values = ws} h i rest) known v k type =
    let first = declared_sound i known.env k type in
    let more = variables_sound rest (more_known scope (declared of d ∷ []) known (v, tt)) v k type in
    let seen = subst
    (λ env. sound_statements.AreSoundDeclarations env ws (map type_declared (map (declared of) ds)))
    (seen_with scope.env (declared of d ∷ [])) more in
    subst (λ type.
    sound_statements.AreSoundDeclarations (seen_in scope.env) (w ∷ ws) (type ∷ map type_declared (map (declared of) ds)))
    (is_of i)
    (sound_statements.and_declared first
    (subst (λ type.
    sound_statements.AreSoundDeclarations (sound_statements.with_locals (seen_in scope.env) (type ∷ [])) ws
    (map type_declared (map (declared of) ds))) (sym (is_of i)) seen))
