-- The fault of a type that is written, or of a variable, is at a token where its rule is broken.
use Rattle.std.proofs.Common.{◌≡◌, ℕ, List, [], ◌∷◌, false, Option, Some, None, Ok, ◌⊎◌, inl, inr, ◌∙◌, arith, suc}
use Rattle.std.proofs.Common.{refl, ap, subst, length, nat_eq}
use Rattle.std.specs.Prelude.{option_map}
use Rattle.std.specs.List.{AllByRecursion}
use Rattle.std.specs.Option.{is_some, option_and_then}
use Rattle.ash_lex.specs.Tokens.{Meaning, name, reserved}
use Rattle.ash_lex.specs.declared.words.ReservedWord.TheVariants as words
use Rattle.ash_tree.specs.Tree as written
use Rattle.ash_tree.specs.declared.tree.places.Position as place
use Rattle.ash_tree.specs.declared.tree.types.Primitive.{Primitive}
use Rattle.ash_tree.specs.declared.tree.types.Primitive.TheVariants as primitives
use Rattle.ash_typed.specs.declared.types.Element.{Element}
use Rattle.ash_typed.specs.declared.types.ObjectType.{ObjectType}
use Rattle.ash_typed.specs.declared.types.ObjectType.TheVariants as objects
use Rattle.ash_type_rules.specs.declared.fault.Rule.TheVariants as rules
use Rattle.ash_type_rules.specs.declared.types.Ty.{Ty}
use Rattle.ash_type_rules.specs.declared.types.Ty.TheVariants as ty
use Rattle.ash_type_rules.specs.TypeRules.{ty_of}
use Rattle.ash_type_rules.specs.Environment.{Environment, Declared, ClassSignature, Callee, array_built, construction}
use Rattle.ash_type_rules.specs.ExpressionRules.{TypedExpr, check_exprs, at_element}
use Rattle.ash_type_rules.specs.Terms.{array_parameters}
use Rattle.ash_type_rules.specs.ModuleDeclarations.{declared, element_by, element_named, array_named, object_ty, handle_ty}
use Rattle.ash_type_rules.specs.ModuleDeclarations.{ty_named}
use Rattle.ash_type_rules.specs.ModuleDeclarations.{ty_in}
use Rattle.ash_type_rules.specs.Declarations.{at_type, at_type_name, known_ty, constructed, begun, stored_first, begun_with}
use Rattle.ash_type_rules.specs.Declarations.{begun_by_one, begun_by, initialized, check_decl}
use Rattle.ash_type_rules.specs.Scopes.{Scope, with_variables, is_taken}
use Rattle.ash_type_rules.specs.StatementRules.{fresh, check_decls, check_vars}
use Rattle.std.proofs.lemmas.Bool.Decides.{nat_tests}
use Rattle.ash_type_rules.specs.Coercions.{fits}
use Rattle.ash_type_rules.proofs.FaultTokens.{HasToken, HasStart, ElementIn, NamedIn, InitializerIn, DeclIn, VarsIn}
use Rattle.ash_type_rules.specs.Phrases as phrases
use Rattle.ash_type_rules.specs.Mismatches as mismatches
use Rattle.ash_type_rules.specs.Mismatches.{IsUnfit}
use Rattle.ash_type_rules.specs.FaultMeaning as meaning
use Rattle.ash_type_rules.specs.FaultMeaning.{argument_count, initial_count, is_constructible, stored_use}
use Rattle.ash_type_rules.proofs.FaultAnswers.{Script, OccursIn, Wrong, Mismatch, Answers, fine, faulty, Fine, name_taken}
use Rattle.ash_type_rules.proofs.FaultAnswers.{bind, bind_by, bind_to, either, type_named, Miswritten, miswritten}
use Rattle.ash_type_rules.proofs.FaultPhrases.{sees}
use Rattle.ash_type_rules.proofs.FaultOperations.{AllAt, Miscalls, Unfit, coerced_for_assignment_in, called_with_in}
use Rattle.ash_type_rules.proofs.FaultOperations.{called_in}
use Rattle.ash_type_rules.proofs.FaultExpressions.{element_unnamed, typed_in, all_in}

-- types

-- a name of the script is here
abbrev pub IsNameAt : Script → ℕ → Type 0
IsNameAt script at = (text : List ℕ) × HasToken script.tokens (name text) at

-- an unknown type has its name here
abbrev pub IsNamedAt : Script → Ty → ℕ → Type 0
IsNamedAt script ty.Unknown at =
    (text : List ℕ) × HasToken script.tokens (name text) at × Wrong script rules.UnknownType at (name text)
IsNamedAt script _ at = Unit {0}

-- a type of objects is written here: at its name, or at the word `array`
abbrev pub IsWrittenAt : Script → Ty → ℕ → Type 0
IsWrittenAt script (ty.Object (objects.Array e)) at =
    HasToken script.tokens (reserved words.Array) at ⊎ IsNameAt script at
IsWrittenAt script (ty.Object o) at = IsNameAt script at
IsWrittenAt script _ at = Unit {0}

primitive_named : (script : Script) (k : Primitive) (at : ℕ) → IsNamedAt script (ty_of k) at
primitive_named script primitives.Bool at = tt
primitive_named script primitives.Int at = tt
primitive_named script primitives.Int64 at = tt
primitive_named script primitives.Uint at = tt
primitive_named script primitives.Uint64 at = tt

object_named_at : (script : Script) (found : Option ObjectType) (at : ℕ) (text : List ℕ)
    → HasToken script.tokens (name text) at → (found ≡ None → Wrong script rules.UnknownType at (name text))
    → IsNamedAt script (object_ty found) at
object_named_at script None at text h w = (text, h, w refl)
object_named_at script (Some o) at text h w = tt

handle_named_at : (script : Script) (found : Option ObjectType) (at : ℕ) (text : List ℕ)
    → HasToken script.tokens (name text) at → (found ≡ None → Wrong script rules.UnknownType at (name text))
    → IsNamedAt script (handle_ty found) at
handle_named_at script None at text h w = (text, h, w refl)
handle_named_at script (Some o) at text h w = tt

no_array : (found : Option Element) → option_map objects.Array found ≡ None → found ≡ None
no_array None h = refl
no_array (Some e) h = absurd (cc)

-- the type of elements of an array is unknown
unknown_element : (env : Environment) (text : List ℕ)
    → option_map objects.Array (option_and_then element_by (type_named env text)) ≡ None → type_named env text ≡ None
unknown_element env text h = element_unnamed env text (no_array (option_and_then element_by (type_named env text)) h)

-- what is wrong where no type has the name
abbrev pub Unnamed : Script → Environment → ℕ → Type 0
Unnamed script env at = (text : List ℕ) → type_named env text ≡ None → Wrong script rules.UnknownType at (name text)

array_named_at : (script : Script) (env : Environment) (of : written.Element) → ElementIn script.tokens of
    → Unnamed script env (at_element of)
    → IsNamedAt script (object_ty (array_named env.registered env.declarations of)) (at_element of)
unfolding element_named
array_named_at script env (written.PrimElement p k) h w = tt
array_named_at script env (written.HandleElement p text) h w =
    object_named_at script (array_named env.registered env.declarations (written.HandleElement p text)) p.at text h (λ n.
    w text (unknown_element env text n))

array_handle_named_at : (script : Script) (env : Environment) (of : written.Element) → ElementIn script.tokens of
    → Unnamed script env (at_element of)
    → IsNamedAt script (handle_ty (array_named env.registered env.declarations of)) (at_element of)
unfolding element_named
array_handle_named_at script env (written.PrimElement p k) h w = tt
array_handle_named_at script env (written.HandleElement p text) h w =
    handle_named_at script (array_named env.registered env.declarations (written.HandleElement p text)) p.at text h (λ n.
    w text (unknown_element env text n))

-- the name of a type that is written
pub named_at : (script : Script) (env : Environment) (of : written.Named) → NamedIn script.tokens of
    → Unnamed script env (at_type_name of) → IsNamedAt script (ty_in env of) (at_type_name of)
unfolding ty_named
named_at script env (written.Prim p k) h w = primitive_named script k p.at
named_at script env (written.Object p text) h w = object_named_at script (type_named env text) p.at text h (w text)
named_at script env (written.Handle p text) h w = handle_named_at script (type_named env text) p.at text h (w text)
named_at script env (written.Array p of) h w = array_named_at script env of h.1 w
named_at script env (written.ArrayHandle p of) h w = array_handle_named_at script env of h.1 w

primitive_written : (script : Script) (k : Primitive) (at : ℕ) → IsWrittenAt script (ty_of k) at
primitive_written script primitives.Bool at = tt
primitive_written script primitives.Int at = tt
primitive_written script primitives.Int64 at = tt
primitive_written script primitives.Uint at = tt
primitive_written script primitives.Uint64 at = tt

object_written : (script : Script) (found : Option ObjectType) (at : ℕ) → IsNameAt script at
    → IsWrittenAt script (object_ty found) at
object_written script None at h = tt
object_written script (Some (objects.Class class)) at h = h
object_written script (Some (objects.Interface interface)) at h = h
object_written script (Some (objects.Host kind)) at h = h
object_written script (Some (objects.Array e)) at h = inr h

handle_written : (script : Script) (found : Option ObjectType) (at : ℕ) → IsWrittenAt script (handle_ty found) at
handle_written script None at = tt
handle_written script (Some o) at = tt

array_written : (script : Script) (found : Option Element) (at : ℕ) → HasToken script.tokens (reserved words.Array) at
    → IsWrittenAt script (object_ty (option_map objects.Array found)) at
array_written script None at h = tt
array_written script (Some e) at h = inl h

-- where a type is written
pub written_at : (script : Script) (env : Environment) (of : written.Named) → NamedIn script.tokens of
    → IsWrittenAt script (ty_in env of) (at_type of)
unfolding ty_named
written_at script env (written.Prim p k) h = primitive_written script k p.at
written_at script env (written.Object p text) h = object_written script (type_named env text) p.at (text, h)
written_at script env (written.Handle p text) h = handle_written script (type_named env text) p.at
written_at script env (written.Array p of) h =
    array_written script (element_named env.registered env.declarations of) p.at h.0
written_at script env (written.ArrayHandle p of) h =
    handle_written script (array_named env.registered env.declarations of) p.at

-- a known type, written where it was
known_ty_in : (script : Script) (of : written.Named) (t : Ty) → IsNamedAt script t (at_type_name of)
    → IsWrittenAt script t (at_type of)
    → ((i : ℕ) (m : Meaning) → t ≡ ty.Object (objects.Interface i) → Wrong script rules.Misplaced (at_type of) m)
    → Answers script (λ (t : Ty). IsWrittenAt script t (at_type of)) (known_ty of t)
unfolding known_ty
known_ty_in script of ty.Unknown n w m = faulty (name n.0, n.1, refl, n.2)
known_ty_in script of (ty.Object (objects.Interface i)) n w m = faulty (name w.0, w.1, refl, m i (name w.0) refl)
known_ty_in script of (ty.Object (objects.Class c)) n w m = fine w
known_ty_in script of (ty.Object (objects.Host kind)) n w m = fine w
known_ty_in script of (ty.Object (objects.Array e)) n w m = fine w
known_ty_in script of ty.Void n w m = fine w
known_ty_in script of ty.Bool n w m = fine w
known_ty_in script of (ty.Integer k) n w m = fine w
known_ty_in script of (ty.Handle o) n w m = fine w
known_ty_in script of ty.Null n w m = fine w

-- the type of variables
pub variables_ty_in : (script : Script) (env : Environment) (of : written.Named) → NamedIn script.tokens of
    → Miswritten script env (stored_use of)
    → Answers script (λ (t : Ty). IsWrittenAt script t (at_type of)) (known_ty of (ty_in env of))
variables_ty_in script env of h w =
    known_ty_in script of (ty_in env of) (named_at script env of h w.unknown) (written_at script env of h) (λ i m e.
    w.misplaced (objects.Interface i) m e refl)

-- variables

-- what is wrong with the construction of an object at an offset
pub record Misbuilds (script : Script) (classes : List ClassSignature) (at : ℕ) (found : Option Callee)
    (ts : List TypedExpr) : Type 0 where
  pub none : (m : Meaning) → is_constructible found ≡ false → Wrong script rules.NoFactory at m
  pub other : (m : Meaning) (callee : Callee) (parameters : List Ty) → found ≡ Some callee
      → callee.parameters ≡ Some parameters → nat_eq (length parameters) (length ts) ≡ false
      → Wrong script rules.WrongArgumentCount at m
  pub unfit : (callee : Callee) (parameters : List Ty) → found ≡ Some callee → callee.parameters ≡ Some parameters
      → Unfit script classes parameters ts

-- arguments of what is constructed do not fit
abbrev pub Unbuilt : Script → Environment → ObjectType → List TypedExpr → Type 0
Unbuilt script env o ts =
    (callee : Callee) (parameters : List Ty) → construction env o (length ts) ≡ Some callee
    → callee.parameters ≡ Some parameters → Unfit script env.declarations.classes parameters ts

misbuilds : (script : Script) (env : Environment) (of_at at : ℕ) (o : ObjectType) (i : written.Initializer)
    (ts : List TypedExpr) → OccursIn script (phrases.Initializer env of_at at (ty.Object o) i) → length ts ≡ initial_count i
    → Unbuilt script env o ts → Misbuilds script env.declarations.classes of_at (construction env o (length ts)) ts
misbuilds script env of_at at o i ts r c z = record {
  none = λ m b. meaning.variable_factory r (subst (λ n. is_constructible (construction env o n) ≡ false) c b);
  other = λ m callee parameters e q b.
      meaning.variable_count r (subst (λ n. construction env o n ≡ Some callee) c e) q
      (subst (λ n. nat_eq (length parameters) n ≡ false) c b);
  unfit = z;
}

miscalls : (script : Script) (classes : List ClassSignature) (at : ℕ) (m : Meaning) (callee : Callee) (ts : List TypedExpr)
    → Misbuilds script classes at (Some callee) ts → Miscalls script classes at m callee.parameters ts
miscalls script classes at m callee ts w = record {
  none = λ e. w.none m (ap is_some e);
  other = λ parameters q b. w.other m callee parameters refl q b;
  unfit = λ parameters q. w.unfit callee parameters refl q;
}

constructed_in : (script : Script) (classes : List ClassSignature) (at : ℕ) (ts : List TypedExpr) (found : Option Callee)
    → IsNameAt script at → AllAt script.tokens ts → Misbuilds script classes at found ts
    → Fine script (constructed classes at ts found)
unfolding constructed
constructed_in script classes at ts None h k w = faulty (name h.0, h.1, refl, w.none (name h.0) refl)
constructed_in script classes at ts (Some callee) h k w =
    bind (called_in script classes at h.0 callee ts callee.parameters h.1 k
    (miscalls script classes at (name h.0) callee ts w))
    (λ t u. fine tt)

-- an array, which is constructed at its word or at a name
array_in : (script : Script) (classes : List ClassSignature) (at : ℕ) (ts : List TypedExpr) (e : Element) (count : ℕ)
    → HasToken script.tokens (reserved words.Array) at ⊎ IsNameAt script at → AllAt script.tokens ts
    → Misbuilds script classes at (Some (array_built e count)) ts
    → Fine script (constructed classes at ts (Some (array_built e count)))
unfolding constructed
array_in script classes at ts e count (inl h) k w =
    bind (called_with_in script classes at (reserved words.Array) (array_built e count) ts (array_parameters count) h
    refl refl k (w.other (reserved words.Array) (array_built e count) (array_parameters count) refl refl)
    (w.unfit (array_built e count) (array_parameters count) refl refl))
    (λ t u. fine tt)
array_in script classes at ts e count (inr h) k w =
    constructed_in script classes at ts (Some (array_built e count)) h k w

object_in : (script : Script) (env : Environment) (at : ℕ) (o : ObjectType) (ts : List TypedExpr)
    → IsWrittenAt script (ty.Object o) at → AllAt script.tokens ts
    → Misbuilds script env.declarations.classes at (construction env o (length ts)) ts
    → Fine script (constructed env.declarations.classes at ts (construction env o (length ts)))
unfolding construction
object_in script env at (objects.Array e) ts w k b = array_in script env.declarations.classes at ts e (length ts) w k b
object_in script env at (objects.Class c) ts w k b =
    constructed_in script env.declarations.classes at ts (construction env (objects.Class c) (length ts)) w k b
object_in script env at (objects.Interface i) ts w k b =
    constructed_in script env.declarations.classes at ts (construction env (objects.Interface i) (length ts)) w k b
object_in script env at (objects.Host kind) ts w k b =
    constructed_in script env.declarations.classes at ts (construction env (objects.Host kind) (length ts)) w k b

-- where no argument is, none is unfit

abbrev pub HasOne : List TypedExpr → Type 0
HasOne [] = ⊥
HasOne (t ∷ ts) = Unit {0}

unfit_one : (classes : List ClassSignature) (ps : List Ty) (ts : List TypedExpr) (at : ℕ) → IsUnfit classes ps ts at → HasOne ts
unfit_one classes (p ∷ ps) (t ∷ ts) at b = tt
unfit_one classes [] (t ∷ ts) at b = tt
unfit_one classes [] [] at b = elim b [ ]
unfit_one classes (p ∷ ps) [] at b = elim b [ ]

begun_in : (script : Script) (env : Environment) (of_at at : ℕ) (of : Ty) → IsWrittenAt script of of_at
    → OccursIn script (phrases.Initializer env of_at at of written.Default) → Fine script (begun env of_at of)
unfolding begun
begun_in script env of_at at (ty.Object o) h r =
    object_in script env of_at o [] h tt
    (misbuilds script env of_at at o written.Default [] r refl (λ callee parameters e q x b.
    absurd (unfit_one env.declarations.classes parameters [] x b)))
begun_in script env of_at at _ h r = fine tt

not_one : (n : ℕ) → nat_eq (suc (suc n)) 1 ≡ false
not_one n = grind (arith, nat_tests)

stored_first_in : (script : Script) (classes : List ClassSignature) (of : Ty) (t : TypedExpr) → HasStart script.tokens t.at
    → (fits classes of t.ty ≡ false → Mismatch script t.at) → Fine script (stored_first classes of t)
stored_first_in script classes of t h z = bind (coerced_for_assignment_in script classes of t h z) (λ e u. fine tt)

begun_with_in : (script : Script) (classes : List ClassSignature) (at : ℕ) (text : List ℕ) (of : Ty) (t : TypedExpr)
    → HasToken script.tokens (name text) at → HasStart script.tokens t.at
    → ((o : ObjectType) → of ≡ ty.Object o → Wrong script rules.NotAssignable at (name text))
    → (fits classes of t.ty ≡ false → Mismatch script t.at) → Fine script (begun_with classes at of t)
unfolding begun_with
begun_with_in script classes at text (ty.Object o) t h k w z = faulty (name text, h, refl, w o refl)
begun_with_in script classes at text of t h k w z = stored_first_in script classes of t k z

begun_by_one_in : (script : Script) (classes : List ClassSignature) (at : ℕ) (text : List ℕ) (of : Ty) (ts : List TypedExpr)
    → HasToken script.tokens (name text) at → AllAt script.tokens ts
    → (nat_eq (length ts) 1 ≡ false → Mismatch script at)
    → ((t : TypedExpr) → ts ≡ t ∷ [] → fits classes of t.ty ≡ false → Mismatch script t.at)
    → Fine script (begun_by_one classes at of ts)
unfolding begun_by_one
begun_by_one_in script classes at text of [] h k y z = faulty (name text, h, refl, meaning.mismatch (y refl))
begun_by_one_in script classes at text of (t ∷ []) h k y z = stored_first_in script classes of t k.0 (z t refl)
begun_by_one_in script classes at text of (t ∷ u ∷ ts) h k y z =
    faulty (name text, h, refl, meaning.mismatch (y (not_one (length ts))))

begun_by_in : (script : Script) (env : Environment) (of_at at : ℕ) (text : List ℕ) (of : Ty) (es : List written.Expr)
    (ts : List TypedExpr) → IsWrittenAt script of of_at → HasToken script.tokens (name text) at → AllAt script.tokens ts
    → length ts ≡ argument_count (written.exprs es) → check_exprs env (written.exprs es) ≡ Ok ts
    → OccursIn script (phrases.Initializer env of_at at of (written.Arguments es))
    → Fine script (begun_by env of_at at of ts)
unfolding begun_by
begun_by_in script env of_at at text (ty.Object o) es ts w h k c a r =
    object_in script env of_at o ts w k
    (misbuilds script env of_at at o (written.Arguments es) ts r c (λ callee parameters e q x b.
    mismatches.of_variable r a e q b))
begun_by_in script env of_at at text (ty.Handle o) es ts w h k c a r =
    faulty (name text, h, refl, meaning.mismatch (mismatches.handle_brackets r))
begun_by_in script env of_at at text of es ts w h k c a r =
    begun_by_one_in script env.declarations.classes at text of ts h k (λ b. mismatches.brackets r refl a b)
    (λ t e b. mismatches.initial_argument r (a ∙ ap (λ (us : List TypedExpr). Ok us) e) b)

initialized_in : (script : Script) (env : Environment) (of_at at : ℕ) (text : List ℕ) (of : Ty)
    (i : written.Initializer) → IsWrittenAt script of of_at → HasToken script.tokens (name text) at
    → InitializerIn script.tokens i → OccursIn script (phrases.Initializer env of_at at of i)
    → Fine script (initialized env of_at at of i)
unfolding initialized
initialized_in script env of_at at text of written.Default w h k r = begun_in script env of_at at of w r
initialized_in script env of_at at text of (written.Value e) w h k r =
    bind_by (typed_in script env false e k (phrases.initial_value r)) (λ t a l.
    begun_with_in script env.declarations.classes at text of t h l
    (λ o q. meaning.object_assigned
    (subst (λ u. OccursIn script (phrases.Initializer env of_at at u (written.Value e))) q r))
    (λ b. mismatches.initial_value r a b))
initialized_in script env of_at at text of (written.Arguments es) w h k r =
    bind_by (all_in script env (written.exprs es) k (phrases.initial_arguments r)) (λ ts a l.
    begun_by_in script env of_at at text of es ts w h l.0 l.1 a r)

pub decl_in : (script : Script) (env : Environment) (at : ℕ) (of : Ty) (d : written.Decl) → IsWrittenAt script of at
    → DeclIn script.tokens d → OccursIn script (phrases.Initializer env at d.place.at of d.initializer)
    → Fine script (check_decl env at of d)
unfolding check_decl
decl_in script env at of d w h r =
    bind (initialized_in script env at d.place.at d.name of d.initializer w h.0 h.1 r) (λ value u. fine tt)

fresh_in : (script : Script) (scope : Scope) (at : ℕ) (of : Ty) (d : written.Decl) (ds : List written.Decl)
    → DeclIn script.tokens d → OccursIn script (phrases.Locals scope at of (d ∷ ds))
    → Answers script (λ (v : Declared). v ≡ declared of d) (fresh scope of d)
unfolding fresh
fresh_in script scope at of d ds h r =
    either (is_taken scope d.name)
    (λ b. name_taken (record { at = d.place.at; text = d.name; is_refused = is_taken scope d.name }) r refl h.0 b)
    (λ b. fine refl)

decls_in : (script : Script) (scope : Scope) (at : ℕ) (of : Ty) (ds : List written.Decl) → IsWrittenAt script of at
    → AllByRecursion (DeclIn script.tokens) ds → OccursIn script (phrases.Locals scope at of ds)
    → Fine script (check_decls scope at of ds)
decls_in script scope at of [] w h r = fine tt
decls_in script scope at of (d ∷ ds) w h r =
    bind_to _ (fresh_in script scope at of d ds h.0 r)
    (bind (decl_in script scope.env at of d w h.0 (phrases.local r)) (λ value u.
    bind (decls_in script (with_variables scope (declared of d ∷ [])) at of ds w h.1
    (phrases.other_locals r))
    (λ values u. fine tt)))

pub vars_in : (script : Script) (scope : Scope) (p : place.Position) (v : written.Vars) → VarsIn script.tokens v
    → OccursIn script (phrases.Statement scope (written.Declare p v)) → Fine script (check_vars scope v)
unfolding check_vars
vars_in script scope p v h r =
    bind_by (variables_ty_in script scope.env v.of h.0
    (miswritten script scope.env (phrases.Statement scope (written.Declare p v)) (stored_use v.of) (sees r) r refl))
    (λ of e w. decls_in script scope (at_type v.of) of v.decls w h.1 (phrases.locals r e))
