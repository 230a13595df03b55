-- The rules type what the walk types: calls and arrays.
use Rattle.std.proofs.lemmas.Bool.{eqb-true}
use Rattle.std.proofs.lemmas.List.{length-map}
use Rattle.std.proofs.Common.{◌≡◌, ℕ, pred, List, [], ◌∷◌, map, length, nat_eq, Bool, true, false, cond, Option, Some}
use Rattle.std.proofs.Common.{None, Ok, refl, ap, ◌∙◌, subst}
use Rattle.ash_tree.specs.declared.tree.places.Position as place
use Rattle.ash_tree.specs.declared.tree.types.Primitive.{Primitive}
use Rattle.ash_tree.specs.declared.tree.types.Primitive.TheVariants as primitives
use Rattle.ash_tree.specs.Tree as written
use Rattle.ash_type_rules.specs.declared.fault.Rule.TheVariants as rules
use Rattle.ash_integers.specs.declared.int_type.IntType.{IntType}
use Rattle.ash_typed.specs.declared.types.ObjectType.{ObjectType}
use Rattle.ash_typed.specs.declared.types.ObjectType.TheVariants as objects
use Rattle.ash_integers.specs.declared.int_type.IntType.TheVariants as ints
use Rattle.ash_typed.specs.declared.types.Element.{Element}
use Rattle.ash_typed.specs.declared.tree.operations.CallTarget.TheVariants as targets
use Rattle.ash_type_rules.specs.declared.types.Ty.{Ty}
use Rattle.ash_type_rules.specs.declared.types.Ty.TheVariants as ty
use Rattle.ash_type_rules.specs.TypingResult.{TypingResult, ◌>>=◌, broken}
use Rattle.ash_type_rules.specs.TypeRules.{var_type, object_of, ty_of, ty_of_element}
use Rattle.ash_typed.specs.TypedTree.{Expr, Exprs, This, Read, Cast, Call, Indexed, no_expr, expr}
use Rattle.ash_type_rules.specs.Coercions.{fits}
use Rattle.ash_type_rules.specs.ModuleDeclarations.{object_named, element_named}
use Rattle.ash_type_rules.specs.Environment.{Environment, ClassSignature, Known, Callee, variable_in, callee_in, array_built}
use Rattle.ash_type_rules.specs.ExpressionRules.{TypedExpr, check_expr, check_exprs, check_call, called, callee_at, known_at, this_at}
use Rattle.ash_type_rules.specs.ExpressionRules.{arguments_at, all_coerced, coerced_for_assignment, coerced, integer_of}
use Rattle.ash_type_rules.specs.ExpressionRules.{bool_of, handle_of}
use Rattle.ash_type_rules.specs.ExpressionRules.{convert_at, converting, term_at, read_at, integer_at, in_brackets, index_in}
use Rattle.ash_type_rules.specs.ExpressionRules.{indexed_object, indexed, at_element, known_element, check_array, cast_type}
use Rattle.ash_type_rules.specs.ExpressionRules.{cast_at, term_of}
use Rattle.ash_type_rules.specs.Typing.{is_known, HasType, AllHaveType, AreTypedArguments, no_arguments, argument, IsCastType}
use Rattle.ash_type_rules.specs.Typing.{to_class, to_interface, this, name, call, brackets, to_integer, to_bool, new_array}
use Rattle.ash_type_rules.specs.Typing.{cast}
use Rattle.ash_type_rules.proofs.TypingWords.{no_fault, same_ok, bind_ok}
use Rattle.ash_type_rules.proofs.TypingComplete.{terms}
use Rattle.ash_type_rules.specs.Terms.{call_of, array_parameters, Term, term, converted_to}

-- what holds of what is answered holds of its equal
pub at_ok : {A : Type 0} (Q : A → Type 0) (x y : A) → ◌≡◌ {A = TypingResult A} (Ok x) (Ok y) → Q x → Q y
at_ok Q x y h q = subst Q (same_ok x y h) q

-- what an operand is

pub integer_ok : (at : ℕ) (of : Ty) (k : IntType) → is_known of ≡ true → integer_of at of ≡ Ok k → of ≡ ty.Integer k
integer_ok at (ty.Integer j) k known h = ap ty.Integer (same_ok j k h)
integer_ok at ty.Unknown k known h = cc
integer_ok at _ k known h = absurd (no_fault _ k h)

pub bool_ok : (at : ℕ) (of : Ty) (b : Bool) → is_known of ≡ true → bool_of at of ≡ Ok b → of ≡ ty.Bool
bool_ok at ty.Bool b known h = refl
bool_ok at ty.Unknown b known h = cc
bool_ok at _ b known h = absurd (no_fault _ b h)

pub object_ok : (at : ℕ) (of h : Ty) → is_known of ≡ true → handle_of at of ≡ Ok h
    → (o : ObjectType) × (object_of of ≡ Some o) × (ty.Handle o ≡ h)
object_ok at (ty.Object o) h known e = (o, refl, same_ok (ty.Handle o) h e)
object_ok at (ty.Handle o) h known e = (o, refl, same_ok (ty.Handle o) h e)
object_ok at ty.Unknown h known e = cc
object_ok at _ h known e = absurd (no_fault _ h e)

-- arguments

pub coerced_for_assignment_ok : (classes : List ClassSignature) (of : Ty) (t : TypedExpr) (e : Expr)
    → coerced_for_assignment classes of t ≡ Ok e
    → (fits classes of t.ty ≡ true) × (converted_to of (term_of t) ≡ e)
unfolding coerced_for_assignment
coerced_for_assignment_ok classes of t e h = go (fits classes of t.ty) h
  where
    go : (b : Bool) → cond b (Ok (coerced of t)) (broken rules.TypeMismatch t.at) ≡ Ok e
        → (b ≡ true) × (converted_to of (term_of t) ≡ e)
    go true h = (refl, same_ok (coerced of t) e h)
    go false h = absurd (no_fault _ e h)

all_coerced_ok : (classes : List ClassSignature) (parameters : List Ty) (ts : List TypedExpr) (trees : Exprs)
    → length parameters ≡ length ts → all_coerced classes parameters ts ≡ Ok trees
    → AreTypedArguments classes parameters (terms ts) trees
all_coerced_ok classes [] [] trees n h = at_ok (λ trees. AreTypedArguments classes [] [] trees) no_expr trees h no_arguments
all_coerced_ok classes [] (t ∷ ts) trees n h = cc
all_coerced_ok classes (of ∷ parameters) [] trees n h = cc
all_coerced_ok classes (of ∷ parameters) (t ∷ ts) trees n h =
    let first = bind_ok (coerced_for_assignment classes of t)
    (λ e. all_coerced classes parameters ts >>= λ es. Ok (expr e es)) trees h in
    let rest = bind_ok (all_coerced classes parameters ts) (λ es. Ok (expr first.0 es)) trees first.2 in
    let fit = coerced_for_assignment_ok classes of t first.0 first.1 in
    at_ok (λ trees. AreTypedArguments classes (of ∷ parameters) (term_of t ∷ terms ts) trees) (expr first.0 rest.0) trees
    rest.2 (subst
    (λ x. AreTypedArguments classes (of ∷ parameters) (term_of t ∷ terms ts) (expr x rest.0)) fit.1
    (argument fit.0 (all_coerced_ok classes parameters ts rest.0 (ap pred n) rest.1)))

pub arguments_ok : (classes : List ClassSignature) (at : ℕ) (parameters : List Ty) (ts : List TypedExpr) (trees : Exprs)
    → arguments_at classes at parameters ts ≡ Ok trees → AreTypedArguments classes parameters (terms ts) trees
unfolding arguments_at
arguments_ok classes at parameters ts trees h = go (nat_eq (length parameters) (length ts)) refl h
  where
    go : (b : Bool) → nat_eq (length parameters) (length ts) ≡ b
        → cond b (all_coerced classes parameters ts) (broken rules.WrongArgumentCount at) ≡ Ok trees
        → AreTypedArguments classes parameters (terms ts) trees
    go true n h = all_coerced_ok classes parameters ts trees (eqb-true (length parameters) (length ts) n) h
    go false n h = absurd (no_fault _ trees h)

-- phrases

-- what the walk finds has its type by the rules
abbrev pub Sound : Environment → Bool → written.Expr → Type 0
Sound env left e = (u : TypedExpr) → check_expr env left e ≡ Ok u → HasType env left e (term_of u)

abbrev pub AllSound : Environment → written.Exprs → Type 0
AllSound env es = (us : List TypedExpr) → check_exprs env es ≡ Ok us → AllHaveType env es (terms us)

pub this_sound : (env : Environment) (left : Bool) (p : place.Position) (found : Option ℕ) (r : TypedExpr) → env.this ≡ found
    → this_at p.at found ≡ Ok r → HasType env left (written.This p) (term_of r)
this_sound env left p None r e h = absurd (no_fault _ r h)
this_sound env left p (Some class) r e h =
    at_ok (λ r. HasType env left (written.This p) (term_of r))
    (term_at p.at (ty.Handle (objects.Class class)) (This class)) r h (this e)

pub name_sound : (env : Environment) (left : Bool) (p : place.Position) (text : List ℕ) (found : Option Known) (r : TypedExpr)
    → variable_in env text ≡ found → known_at p.at found ≡ Ok r → HasType env left (written.Name p text) (term_of r)
name_sound env left p text None r e h = absurd (no_fault _ r h)
name_sound env left p text (Some known) r e h =
    at_ok (λ r. HasType env left (written.Name p text) (term_of r)) (read_at p.at known.1 known.0) r h (name e)

pub called_with : (classes : List ClassSignature) (at : ℕ) (callee : Callee) (ts : List TypedExpr) (ps : List Ty) (r : TypedExpr)
    → called classes at callee ts (Some ps) ≡ Ok r
    → (trees : Exprs) × AreTypedArguments classes ps (terms ts) trees
    × (term_at at callee.result (call_of callee.target (map var_type ps) trees) ≡ r)
unfolding called
called_with classes at callee ts ps r h =
    let a = bind_ok (arguments_at classes at ps ts)
    (λ es. Ok (term_at at callee.result (call_of callee.target (map var_type ps) es))) r h in (
      a.0,
      arguments_ok classes at ps ts a.0 a.1,
      same_ok (term_at at callee.result (call_of callee.target (map var_type ps) a.0)) r a.2,
    )

pub called_ok : (classes : List ClassSignature) (at : ℕ) (callee : Callee) (ts : List TypedExpr) (parameters : Option (List Ty))
    (r : TypedExpr) → called classes at callee ts parameters ≡ Ok r
    → (ps : List Ty) × (parameters ≡ Some ps)
    × ((trees : Exprs) × AreTypedArguments classes ps (terms ts) trees
    × (term_at at callee.result (call_of callee.target (map var_type ps) trees) ≡ r))
unfolding called
called_ok classes at callee ts None r h = absurd (no_fault _ r h)
called_ok classes at callee ts (Some ps) r h = (ps, refl, called_with classes at callee ts ps r h)

callee_ok : (at : ℕ) (found : Option Callee) (callee : Callee) → callee_at at found ≡ Ok callee → found ≡ Some callee
callee_ok at None callee h = absurd (no_fault _ callee h)
callee_ok at (Some found) callee h = ap Some (same_ok found callee h)

pub call_sound : (env : Environment) (left : Bool) (p : place.Position) (text : List ℕ) (es : written.Exprs) (r : TypedExpr)
    → AllSound env es → check_call env p.at text (check_exprs env es) ≡ Ok r
    → HasType env left (written.Call p text es) (term_of r)
call_sound env left p text es r all h =
    let c = bind_ok (callee_at p.at (callee_in env text))
    (λ callee. check_exprs env es >>= λ ts. called env.declarations.classes p.at callee ts callee.parameters) r h in
    let a = bind_ok (check_exprs env es) (λ ts. called env.declarations.classes p.at c.0 ts (c.0).parameters) r c.2 in
    let d = called_ok env.declarations.classes p.at c.0 a.0 (c.0).parameters r a.2 in
    subst (λ r. HasType env left (written.Call p text es) (term_of r)) ((d.2).2)
    (call (callee_ok p.at (callee_in env text) c.0 c.1) d.1 (all a.0 a.1) ((d.2).1))

pub brackets_sound : (env : Environment) (left : Bool) (p : place.Position) (e : written.Expr) (r : TypedExpr)
    → Sound env false e
    → (check_expr env false e >>= λ t. Ok (in_brackets p.at t)) ≡ Ok r → HasType env left (written.Brackets p e) (term_of r)
brackets_sound env left p e r sound h =
    let a = bind_ok (check_expr env false e) (λ t. Ok (in_brackets p.at t)) r h in
    at_ok (λ r. HasType env left (written.Brackets p e) (term_of r)) (in_brackets p.at a.0) r a.2
    (brackets (sound a.0 a.1))

to_integer_sound : (env : Environment) (left : Bool) (p : place.Position) (to : Primitive) (k : IntType) (e : written.Expr)
    (u r : TypedExpr) → HasType env false e (term_of u) → is_known u.ty ≡ true → ty_of to ≡ ty.Integer k
    → converting p.at (ty.Integer k) u ≡ Ok r → HasType env left (written.Convert p to e) (term_of r)
to_integer_sound env left p to k e u r d known is h =
    let j = bind_ok (integer_of u.at u.ty) (λ j. Ok (integer_at p.at k u)) r h in
    at_ok (λ r. HasType env left (written.Convert p to e) (term_of r)) (integer_at p.at k u) r j.2
    (to_integer d is (integer_ok u.at u.ty j.0 known j.1))

pub convert_sound : (env : Environment) (left : Bool) (p : place.Position) (to : Primitive) (e : written.Expr)
    (u r : TypedExpr)
    → HasType env false e (term_of u) → is_known u.ty ≡ true → convert_at p.at to u ≡ Ok r
    → HasType env left (written.Convert p to e) (term_of r)
unfolding convert_at
convert_sound env left p primitives.Bool e u r d known h =
    let b = bind_ok (bool_of u.at u.ty) (λ yes. Ok (term_at p.at ty.Bool u.tree)) r h in
    at_ok (λ r. HasType env left (written.Convert p primitives.Bool e) (term_of r)) (term_at p.at ty.Bool u.tree) r b.2
    (to_bool d refl (bool_ok u.at u.ty b.0 known b.1))
convert_sound env left p _ e u r d known h = to_integer_sound env left p _ _ e u r d known refl h

-- arrays

element_ok : (at : ℕ) (found : Option Element) (e : Element) → known_element at found ≡ Ok e → found ≡ Some e
element_ok at None e h = absurd (no_fault _ e h)
element_ok at (Some found) e h = ap Some (same_ok found e h)

array_by : (env : Environment) (left : Bool) (p : place.Position) (of : written.Element) (es : written.Exprs)
    (elements : Element) (ts : List Term) (count : ℕ) (trees : Exprs) → length ts ≡ count
    → element_named env.registered env.declarations of ≡ Some elements → AllHaveType env es ts
    → AreTypedArguments env.declarations.classes (array_parameters count) ts trees
    → HasType env left (written.NewArray p of es)
    (term (ty.Handle (objects.Array elements))
    (Call (targets.Array elements) (map var_type (array_parameters count)) trees))
array_by env left p of es elements ts count trees c n all args =
    subst (λ (count : ℕ). AreTypedArguments env.declarations.classes (array_parameters count) ts trees
    → HasType env left (written.NewArray p of es)
    (term (ty.Handle (objects.Array elements))
    (Call (targets.Array elements) (map var_type (array_parameters count)) trees))) c
    (λ args. new_array n all args) args

pub array_sound : (env : Environment) (left : Bool) (p : place.Position) (of : written.Element) (es : written.Exprs)
    (r : TypedExpr) → AllSound env es → check_array env p.at of (check_exprs env es) ≡ Ok r
    → HasType env left (written.NewArray p of es) (term_of r)
array_sound env left p of es r all h =
    let e = bind_ok (known_element (at_element of) (element_named env.registered env.declarations of))
    (λ e. check_exprs env es
    >>= λ ts. called env.declarations.classes p.at (array_built e (length ts)) ts (Some (array_parameters (length ts)))) r
    h in
    let a = bind_ok (check_exprs env es)
    (λ ts. called env.declarations.classes p.at (array_built e.0 (length ts)) ts (Some (array_parameters (length ts)))) r
    e.2 in
    let d = called_with env.declarations.classes p.at (array_built e.0 (length a.0)) a.0 (array_parameters (length a.0)) r
    a.2 in
    subst (λ r. HasType env left (written.NewArray p of es) (term_of r)) d.2
    (array_by env left p of es e.0 (terms a.0) (length a.0) d.0 (length-map a.0 term_of)
    (element_ok (at_element of) (element_named env.registered env.declarations of) e.0 e.1) (all a.0 a.1) d.1)

index_object_ok : (t i : TypedExpr) (o : ObjectType) (r : TypedExpr) → is_known i.ty ≡ true → indexed_object t i o ≡ Ok r
    → (e : Element) × (o ≡ objects.Array e)
    × ((k : IntType) × (i.ty ≡ ty.Integer k)
    × (read_at t.at (ty_of_element e) (Read (Indexed t.tree (converted_to (ty.Integer ints.Uint) (term_of i)) e)) ≡ r))
index_object_ok t i (objects.Array e) r known h =
    let x = bind_ok (index_in i) (λ index. Ok (read_at t.at (ty_of_element e) (Read (Indexed t.tree index e)))) r h in
    let k = bind_ok (integer_of i.at i.ty) (λ k. Ok (coerced (ty.Integer ints.Uint) i)) x.0 x.1 in
    let tree = same_ok (coerced (ty.Integer ints.Uint) i) x.0 k.2 in (
      e,
      refl,
      (
        k.0,
        integer_ok i.at i.ty k.0 known k.1,
        ap (λ (index : Expr). read_at t.at (ty_of_element e) (Read (Indexed t.tree index e))) tree ∙ same_ok _ r x.2,
      ),
    )
index_object_ok t i _ r known h = absurd (no_fault _ r h)

pub index_ok : (t i : TypedExpr) (of : Ty) (r : TypedExpr) → is_known of ≡ true → is_known i.ty ≡ true → indexed t of i ≡ Ok r
    → (e : Element) × (object_of of ≡ Some (objects.Array e))
    × ((k : IntType) × (i.ty ≡ ty.Integer k)
    × (read_at t.at (ty_of_element e) (Read (Indexed t.tree (converted_to (ty.Integer ints.Uint) (term_of i)) e)) ≡ r))
unfolding indexed
index_ok t i (ty.Object o) r known as_value h = let x = index_object_ok t i o r as_value h in (x.0, ap Some x.1, x.2)
index_ok t i (ty.Handle o) r known as_value h = let x = index_object_ok t i o r as_value h in (x.0, ap Some x.1, x.2)
index_ok t i ty.Unknown r known as_value h = cc
index_ok t i _ r known as_value h = absurd (no_fault _ r h)

-- `cast<T>(e)`

pub cast_type_ok : (at : ℕ) (found : Option ObjectType) (o : ObjectType) → cast_type at found ≡ Ok o
    → (found ≡ Some o) × IsCastType o
cast_type_ok at None o h = absurd (no_fault _ o h)
cast_type_ok at (Some (objects.Class class)) o h =
    (ap Some (same_ok (objects.Class class) o h), at_ok IsCastType (objects.Class class) o h to_class)
cast_type_ok at (Some (objects.Interface interface)) o h = (
  ap Some (same_ok (objects.Interface interface) o h),
  at_ok IsCastType (objects.Interface interface) o h to_interface,
)
cast_type_ok at (Some _) o h = absurd (no_fault _ o h)

pub cast_sound : (env : Environment) (left : Bool) (p : place.Position) (to : written.TypeName) (e : written.Expr)
    (o : ObjectType) (u r : TypedExpr) → object_named env.registered env.declarations to.name ≡ Some o → IsCastType o
    → HasType env false e (term_of u) → is_known u.ty ≡ true → cast_at p.at o u ≡ Ok r
    → HasType env left (written.Cast p to e) (term_of r)
unfolding cast_at
cast_sound env left p to e o u r n c d known h =
    let t = bind_ok (handle_of u.at u.ty) (λ h. Ok (term_at p.at (ty.Handle o) (Cast o u.tree))) r h in
    let from = object_ok u.at u.ty t.0 known t.1 in
    at_ok (λ r. HasType env left (written.Cast p to e) (term_of r)) (term_at p.at (ty.Handle o) (Cast o u.tree)) r t.2
    (cast n c d from.1)
