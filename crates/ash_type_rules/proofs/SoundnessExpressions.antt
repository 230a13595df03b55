-- What the rules of typing type is a sound expression: the tree of a term gives what an expression of the term's type
-- gives, and what can be assigned is a place of that type.
use Rattle.std.specs.List.{AllByRecursion}
use Rattle.std.proofs.lemmas.Option.{none-some, same_Some}
use Rattle.std.proofs.Common.{◌≡◌, ℕ, length, List, [], ◌∷◌, Bool, true, false, cond, map, Option, Some, nat_eq, refl}
use Rattle.std.proofs.Common.{sym, ap, subst, ◌∙◌}
use Rattle.ash_tree.specs.Tree as written
use Rattle.ash_integers.specs.declared.int_type.IntType.{IntType}
use Rattle.ash_integers.specs.declared.int_type.IntType.TheVariants as ints
use Rattle.ash_typed.specs.declared.types.ObjectType.{ObjectType}
use Rattle.ash_typed.specs.declared.types.ObjectType.TheVariants as objects
use Rattle.ash_typed.specs.declared.types.VarType.{VarType}
use Rattle.ash_typed.specs.declared.types.VarType.TheVariants as vars
use Rattle.ash_typed.specs.declared.types.Element.{Element}
use Rattle.ash_typed.specs.declared.tree.operations.Calculator.{Calculator}
use Rattle.ash_typed.specs.declared.tree.operations.Calculator.TheVariants as calculators
use Rattle.ash_typed.specs.declared.tree.operations.Operands.{Operands}
use Rattle.ash_typed.specs.declared.tree.operations.Operands.TheVariants as operands
use Rattle.ash_typed.specs.declared.tree.operations.Change.TheVariants as changes
use Rattle.ash_typed.specs.declared.tree.operations.IncrementOp.TheVariants as steps
use Rattle.ash_typed.specs.declared.tree.operations.CallTarget.TheVariants as targets
use Rattle.ash_typed.specs.declared.tree.operations.ObjectMember.{ObjectMember}
use Rattle.ash_typed.specs.TypedTree.{Expr, Exprs, Truth, Null, This, Read, Invoke, Cast, Alter, Conditional, Assign, Update}
use Rattle.ash_typed.specs.TypedTree.{Count, Call, Place, Held, Indexed, place_in, converted}
use Rattle.ash_typed.specs.TypeOf.{value_of_result, as_value, value}
use Rattle.ash_typed.specs.Signatures.{IsElementType, IsObjectType}
use Rattle.ash_typed.specs.SoundOperations as operations
use Rattle.ash_typed.specs.SoundExpressions as sound
use Rattle.ash_type_rules.specs.declared.types.Ty.{Ty}
use Rattle.ash_type_rules.specs.declared.types.Ty.TheVariants as ty
use Rattle.ash_type_rules.specs.declared.forms.Callable.{Callable}
use Rattle.ash_type_rules.specs.declared.forms.Callable.TheVariants as callables
use Rattle.ash_type_rules.specs.declared.forms.Form.{Form}
use Rattle.ash_type_rules.specs.declared.forms.Form.TheVariants as form
use Rattle.ash_type_rules.specs.declared.forms.OperatorClass.TheVariants as operator_class
use Rattle.ash_type_rules.specs.TypeRules.{signed, object_of, result_type, operator_class_of, binary_of, common_operands, operator_result}
use Rattle.ash_type_rules.specs.TypeRules.{ty_of_element}
use Rattle.ash_type_rules.specs.TypeRules.{var_type}
use Rattle.ash_type_rules.specs.Environment.{Environment, Known, Callee, Invoked, variable_in, callee_in, member_in}
use Rattle.ash_type_rules.specs.Environment.{method_in}
use Rattle.ash_type_rules.specs.ModuleDeclarations.{object_named, element_named}
use Rattle.ash_type_rules.specs.Terms.{conversion, applied, is_stored, call_of, assignable, bracketed, handle_form}
use Rattle.ash_type_rules.specs.Terms.{array_parameters, Term, term, read_term, adapted_to, right_by, converted_to}
use Rattle.ash_type_rules.specs.Typing.{IsKnown, IsKnownType, IsVariableType, IsTypeOfResult, is_known, left_of, right_of}
use Rattle.ash_type_rules.specs.Typing.{AreTypedArguments, no_arguments, argument, IsCastType, to_class, to_interface, HasType}
use Rattle.ash_type_rules.specs.Typing.{AllHaveType, LinksHaveType, SuffixesHaveType, SuffixHasType, number, truth, null}
use Rattle.ash_type_rules.specs.Typing.{this, name, call, brackets, to_integer, to_bool, new_array, cast, postfix, plus}
use Rattle.ash_type_rules.specs.Typing.{minus, complement, not, increment, decrement, handle, handle_written}
use Rattle.ash_type_rules.specs.Typing.{binary as operators, conditional, assign, update, none_left, each, no_more}
use Rattle.ash_type_rules.specs.Typing.{operated, no_suffixes, suffixed, field, method, index, increment_after}
use Rattle.ash_type_rules.specs.Typing.{decrement_after}
use Rattle.ash_type_rules.specs.Soundness.{seen_in}
use Rattle.ash_type_rules.proofs.TypingKnown.{at_some, known_type, variable_is_known, element_known, adapted_known}
use Rattle.ash_type_rules.proofs.TypingKnown.{operator_result_known, variable_known, callee_known, member_known, method_known}
use Rattle.ash_type_rules.proofs.TypingCallees.{variable_value, result_value}
use Rattle.ash_type_rules.proofs.TypingTypes.{value_type_of_object}
use Rattle.ash_type_rules.proofs.SoundnessLookUps.{IsPlaceOf, IsSoundMethod, variable_sound, member_sound, element_type}
use Rattle.ash_type_rules.proofs.SoundnessNames.{IsCalled, IsCalledWith, IsSoundCallee, callee_sound, method_sound}
use Rattle.ash_type_rules.proofs.SoundnessNames.{element_sound, object_sound}
use Rattle.ash_type_rules.proofs.SoundnessTypes.{GivesType, number_sound, integer_sound, of_type, converted_sound}
use Rattle.ash_type_rules.proofs.SoundnessTypes.{adapted_sound, operated_sound, chosen_sound, fits_sound}

-- terms

-- what can be assigned reads a place of the term's type
abbrev pub IsPlaceWhere : Environment → Form → Expr → Ty → Type 0
IsPlaceWhere env form.Place tree of = IsPlaceOf env tree of
IsPlaceWhere env form.HandlePlace tree of = IsPlaceOf env tree of
IsPlaceWhere env _ tree of = Unit {0}

pub record IsSound (env : Environment) (t : Term) : Type 0 where
  pub gives : GivesType env t.tree t.ty
  pub place : IsPlaceWhere env t.form t.tree t.ty

-- a term that can't be assigned
plain : (env : Environment) (of : Ty) (tree : Expr) → GivesType env tree of → IsSound env (term of tree)
plain env of tree h = record { gives = h; place = tt }

-- what reads a place of the type
read_sound : (env : Environment) (tree : Expr) (of : Ty) → IsVariableType of → IsPlaceOf env tree of
    → IsSound env (read_term of tree)
read_sound env tree of v h = record {
  gives = subst (sound.IsWellTyped (seen_in env) tree) (variable_value of v)
      (subst (λ e. sound.IsWellTyped (seen_in env) e (value (as_value (var_type of)))) (sym h.1) (sound.read h.2));
  place = h;
}

place_is : (env : Environment) (tree : Expr) (of : Ty) (at : Place) → IsPlaceOf env tree of → place_in tree ≡ Some at
    → sound.HasPlace (seen_in env) at (var_type of)
place_is env tree of at h e =
    subst (λ p. sound.HasPlace (seen_in env) p (var_type of)) (same_Some h.0 at (ap place_in (sym h.1) ∙ e)) h.2

-- the place that is assigned to
assigned_place : (env : Environment) (f : Form) (tree : Expr) (of : Ty) (at : Place) → IsPlaceWhere env f tree of
    → assignable f tree ≡ Some at → sound.HasPlace (seen_in env) at (var_type of)
assigned_place env form.Place tree of at h e = place_is env tree of at h e
assigned_place env form.HandlePlace tree of at h e = place_is env tree of at h e
assigned_place env (form.Number n) tree of at h e = absurd (none-some at e)
assigned_place env form.Value tree of at h e = absurd (none-some at e)

integer_place : (env : Environment) (t : Term) (at : Place) (k : IntType) → IsSound env t
    → assignable t.form t.tree ≡ Some at → t.ty ≡ ty.Integer k → sound.HasPlace (seen_in env) at (vars.Integer k)
integer_place env t at k h e l =
    subst (λ of. sound.HasPlace (seen_in env) at (var_type of)) l (assigned_place env t.form t.tree t.ty at h.place e)

bracketed_place : (env : Environment) (f : Form) (tree : Expr) (of : Ty) → IsPlaceWhere env f tree of
    → IsPlaceWhere env (bracketed f) tree of
bracketed_place env form.Place tree of h = h
bracketed_place env _ tree of h = tt

handle_place : (env : Environment) (f : Form) (tree : Expr) (of : Ty) → IsPlaceWhere env f tree of
    → IsPlaceWhere env (handle_form f) tree of
handle_place env form.Place tree of h = h
handle_place env _ tree of h = tt

stored_type : (f : Form) (of : Ty) → is_known of ≡ true → is_stored f of ≡ true
    → IsVariableType of × operations.IsAssigned (var_type of)
stored_type form.Place ty.Bool k h = (refl, operations.truth)
stored_type form.Place (ty.Integer j) k h = (refl, operations.integer)
stored_type form.HandlePlace (ty.Handle o) k h = (refl, operations.handle)
stored_type _ ty.Unknown k h = absurd (cc)
stored_type _ _ k h = absurd (cc)

-- an object or a handle gives a handle
handle_sound : (env : Environment) (t : Term) (o : ObjectType) → object_of t.ty ≡ Some o → GivesType env t.tree t.ty
    → sound.IsWellTyped (seen_in env) t.tree (value (vars.Handle o))
handle_sound env t o e h = subst (sound.IsWellTyped (seen_in env) t.tree) (value_type_of_object t.ty o e) h

signed_is : (k : IntType) → operations.IsSigned (signed k)
signed_is ints.Int = operations.int
signed_is ints.Uint = operations.int
signed_is ints.Int64 = operations.int64
signed_is ints.Uint64 = operations.int64

-- arguments

abbrev pub IsArgument : Environment → Term → Type 0
IsArgument env t = GivesType env t.tree t.ty × IsKnownType t.ty

pub arguments_sound : (env : Environment) {parameters : List Ty} {ts : List Term} {trees : Exprs}
    → AreTypedArguments env.declarations.classes parameters ts trees → AllByRecursion IsVariableType parameters
    → AllByRecursion (IsArgument env) ts → sound.AreSoundArguments (seen_in env) (map var_type parameters) trees
arguments_sound env no_arguments known h = sound.no_arguments
arguments_sound env (argument {of = of} {t = t} e rest) known h =
    sound.argument (fits_sound env of t (variable_is_known of known.0) h.0.1 h.0.0 e)
    (arguments_sound env rest known.1 h.1)

called_sound : (env : Environment) (target : Callable) (parameters : List VarType) (returned : Option VarType)
    (trees : Exprs) → IsCalled env target parameters returned → sound.AreSoundArguments (seen_in env) parameters trees
    → sound.IsWellTyped (seen_in env) (call_of target parameters trees) (value_of_result returned)
called_sound env (callables.OwnMethod class place result) parameters returned trees h args =
    sound.invoke (sound.this h.0) h.1 args
called_sound env (callables.Target target) parameters returned trees h args = sound.call h args

-- a call of what takes these parameters
pub call_sound : (env : Environment) (callee : Callee) (parameters : List Ty) (trees : Exprs)
    → IsTypeOfResult callee.result → IsCalledWith env callee parameters
    → sound.AreSoundArguments (seen_in env) (map var_type parameters) trees
    → GivesType env (call_of callee.target (map var_type parameters) trees) callee.result
call_sound env callee parameters trees r takes args =
    subst (sound.IsWellTyped (seen_in env) (call_of callee.target (map var_type parameters) trees))
    (result_value callee.result r)
    (called_sound env callee.target (map var_type parameters) (result_type callee.result) trees takes.0 args)

array_if : (env : Environment) (of : Element) (b : Bool) → IsElementType (seen_in env).signatures of
    → operations.IsTarget (seen_in env).signatures (targets.Array of)
    (map var_type (cond b [] (ty.Integer ints.Uint ∷ []))) (Some (vars.Handle (objects.Array of)))
    × AllByRecursion IsVariableType (cond b [] (ty.Integer ints.Uint ∷ []))
array_if env of true h = (operations.empty_array h, tt)
array_if env of false h = (operations.sized_array h, (refl, tt))

-- what the construction of an array takes
pub array_takes : (env : Environment) (of : Element) (count : ℕ) → IsElementType (seen_in env).signatures of
    → operations.IsTarget (seen_in env).signatures (targets.Array of) (map var_type (array_parameters count))
    (Some (vars.Handle (objects.Array of))) × AllByRecursion IsVariableType (array_parameters count)
array_takes env of count h = array_if env of (nat_eq count 0) h

cast_is : (env : Environment) (o : ObjectType) → IsCastType o → IsObjectType (seen_in env).signatures o
    → operations.IsSoundCast (seen_in env).signatures o
cast_is env o to_class h = operations.to_class h
cast_is env o to_interface h = operations.to_interface h

-- updates

arithmetic_right : (env : Environment) (a b : Ty) (f : Form) (y : Expr) (j : IntType) → GivesType env y b
    → common_operands operator_class.Arithmetic a b ≡ Some (operands.Integers j)
    → GivesType env (converted (conversion (ty.Integer j) b) y) (ty.Integer j)
arithmetic_right env (ty.Integer m) (ty.Integer n) f y j h e = integer_sound env n j y h
arithmetic_right env _ _ f y j h e = absurd (none-some (operands.Integers j) e)

shift_right : (env : Environment) (a b : Ty) (y : Expr) (o : Operands) → GivesType env y b
    → common_operands operator_class.Shift a b ≡ Some o → (k : IntType) × GivesType env y (ty.Integer k)
shift_right env (ty.Integer m) (ty.Integer n) y o h e = (n, h)
shift_right env _ _ y o h e = absurd (none-some o e)

by_arithmetic : (env : Environment) (c : Calculator) (a : Ty) (u : Term) (j k : IntType) (at : Place)
    → sound.HasPlace (seen_in env) at (vars.Integer k) → GivesType env u.tree u.ty
    → common_operands operator_class.Arithmetic a u.ty ≡ Some (operands.Integers j)
    → GivesType env (Update at k (record { operator = c; of = j }) (converted_to (ty.Integer j) u)) (ty.Integer k)
by_arithmetic env c a u j k at p h e = sound.update p (arithmetic_right env a u.ty u.form u.tree j h e)

by_shift : (env : Environment) (c : Calculator) (a : Ty) (u : Term) (j k : IntType) (at : Place) → operations.IsShift c
    → sound.HasPlace (seen_in env) at (vars.Integer k) → GivesType env u.tree u.ty
    → common_operands operator_class.Shift a u.ty ≡ Some (operands.Integers j)
    → GivesType env (Update at k (record { operator = c; of = j }) u.tree) (ty.Integer k)
by_shift env c a u j k at s p h e =
    sound.update_by_shift s p (shift_right env a u.ty u.tree (operands.Integers j) h e).1

updated_sound : (env : Environment) (c : Calculator) (a : Ty) (u : Term) (j k : IntType) (at : Place)
    → sound.HasPlace (seen_in env) at (vars.Integer k) → GivesType env u.tree u.ty
    → common_operands (operator_class_of (binary_of c)) a u.ty ≡ Some (operands.Integers j)
    → GivesType env
    (Update at k (record { operator = c; of = j }) (right_by (operator_class_of (binary_of c)) (operands.Integers j) u))
    (ty.Integer k)
updated_sound env calculators.Multiply a u j k at p h e = by_arithmetic env calculators.Multiply a u j k at p h e
updated_sound env calculators.Divide a u j k at p h e = by_arithmetic env calculators.Divide a u j k at p h e
updated_sound env calculators.Remainder a u j k at p h e = by_arithmetic env calculators.Remainder a u j k at p h e
updated_sound env calculators.Add a u j k at p h e = by_arithmetic env calculators.Add a u j k at p h e
updated_sound env calculators.Subtract a u j k at p h e = by_arithmetic env calculators.Subtract a u j k at p h e
updated_sound env calculators.ShiftLeft a u j k at p h e =
    by_shift env calculators.ShiftLeft a u j k at operations.left p h e
updated_sound env calculators.ShiftRight a u j k at p h e =
    by_shift env calculators.ShiftRight a u j k at operations.right p h e
updated_sound env calculators.ShiftRightArithmetic a u j k at p h e =
    by_shift env calculators.ShiftRightArithmetic a u j k at operations.right_arithmetic p h e
updated_sound env calculators.BitAnd a u j k at p h e = by_arithmetic env calculators.BitAnd a u j k at p h e
updated_sound env calculators.BitXor a u j k at p h e = by_arithmetic env calculators.BitXor a u j k at p h e
updated_sound env calculators.BitOr a u j k at p h e = by_arithmetic env calculators.BitOr a u j k at p h e

-- what is looked up

known_place : (env : Environment) (text : List ℕ) (found : Known) → IsKnown env → variable_in env text ≡ Some found
    → IsSound env (read_term found.1 found.0)
known_place env text found known h =
    read_sound env found.0 found.1
    (at_some (λ found. IsVariableType found.1) (variable_in env text) found (variable_known env text known) h)
    (at_some (λ found. IsPlaceOf env found.0 found.1) (variable_in env text) found (variable_sound env text) h)

callee_takes : (env : Environment) (text : List ℕ) (callee : Callee) (parameters : List Ty) → IsKnown env
    → callee_in env text ≡ Some callee → callee.parameters ≡ Some parameters → IsCalledWith env callee parameters
callee_takes env text callee parameters known c q =
    at_some (IsCalledWith env callee) callee.parameters parameters
    (at_some (IsSoundCallee env) (callee_in env text) callee (callee_sound env text known) c) q

member_place : (env : Environment) (t : Term) (o : ObjectType) (text : List ℕ) (found : ObjectMember × Ty) → IsKnown env
    → sound.IsWellTyped (seen_in env) t.tree (value (vars.Handle o)) → member_in env o text ≡ Some found
    → IsSound env (read_term found.1 (Read (Held t.tree found.0)))
member_place env t o text found known h i =
    read_sound env (Read (Held t.tree found.0)) found.1
    (at_some (λ found. IsVariableType found.1) (member_in env o text) found (member_known env o text known) i) (
      _,
      refl,
      sound.member h
          (at_some (λ found. operations.IsSoundMember (seen_in env).signatures o found.0 (var_type found.1))
          (member_in env o text) found (member_sound env o text) i),
    )

invoked_sound : (env : Environment) (t : Term) (o : ObjectType) (text : List ℕ) (m : Invoked) (trees : Exprs)
    → IsKnown env → sound.IsWellTyped (seen_in env) t.tree (value (vars.Handle o)) → method_in env o text ≡ Some m
    → sound.AreSoundArguments (seen_in env) (map var_type m.parameters) trees
    → GivesType env (Invoke t.tree m.method (map var_type m.parameters) trees) m.result
invoked_sound env t o text m trees known h i args =
    subst (sound.IsWellTyped (seen_in env) (Invoke t.tree m.method (map var_type m.parameters) trees))
    (result_value m.result
    (at_some (λ m. IsTypeOfResult m.result) (method_in env o text) m (method_known env o text known) i))
    (sound.invoke h (at_some (IsSoundMethod env o) (method_in env o text) m (method_sound env o text known) i).0 args)

element_place : (env : Environment) (t u : Term) (of : Element) (k : IntType) → object_of t.ty ≡ Some (objects.Array of)
    → GivesType env t.tree t.ty → u.ty ≡ ty.Integer k → GivesType env u.tree u.ty
    → IsSound env (read_term (ty_of_element of) (Read (Indexed t.tree (converted_to (ty.Integer ints.Uint) u) of)))
element_place env t u of k e h i g =
    read_sound env (Read (Indexed t.tree (converted_to (ty.Integer ints.Uint) u) of)) (ty_of_element of)
    (element_known of) (
      _,
      refl,
      subst (sound.HasPlace (seen_in env) (Indexed t.tree (converted_to (ty.Integer ints.Uint) u) of))
          (sym (element_type of))
          (sound.element (handle_sound env t (objects.Array of) e h) (converted_sound env u k ints.Uint i g)),
    )

-- expressions

mutual
  pub term_sound : {env : Environment} {left : Bool} {e : written.Expr} {t : Term} → HasType env left e t → IsKnown env
      → IsSound env t
  term_sound {env} (number {n = n}) known = record { gives = number_sound env n; place = tt }
  term_sound {env} (truth {b = b}) known = plain env ty.Bool (Truth b) sound.truth
  term_sound {env} null known = plain env ty.Null Null sound.null
  term_sound {env} (this {class = class} h) known =
      plain env (ty.Handle (objects.Class class)) (This class) (sound.this h)
  term_sound {env} (name {text = text} {known = found} h) known = known_place env text found known h
  term_sound {env} (call {text = text} {callee = callee} {parameters = parameters} {trees = trees} c q all args) known =
      let takes = callee_takes env text callee parameters known c q in
      plain env callee.result (call_of callee.target (map var_type parameters) trees)
      (call_sound env callee parameters trees
      (at_some (λ callee. IsTypeOfResult callee.result) (callee_in env text) callee (callee_known env text known) c)
      takes (arguments_sound env args takes.1 (terms_sound all known)))
  term_sound {env} (brackets {t = t} h) known = let s = term_sound h known in
      record { gives = s.gives; place = bracketed_place env t.form t.tree t.ty s.place }
  term_sound {env} (to_integer {t = t} {j = j} {k = k} h i l) known =
      plain env (ty.Integer k) (converted_to (ty.Integer k) t) (converted_sound env t j k l (term_sound h known).gives)
  term_sound {env} (to_bool {t = t} h i l) known =
      plain env ty.Bool t.tree (of_type env t.tree t.ty ty.Bool l (term_sound h known).gives)
  term_sound {env} (new_array {of = of} {elements = elements} {ts = ts} {trees = trees} e all args) known =
      let takes = array_takes env elements (length ts)
      (at_some (IsElementType (seen_in env).signatures) (element_named env.registered env.declarations of) elements
      (element_sound env.registered env.declarations of) e) in
      plain env (ty.Handle (objects.Array elements))
      (Call (targets.Array elements) (map var_type (array_parameters (length ts))) trees)
      (sound.call takes.0 (arguments_sound env args takes.1 (terms_sound all known)))
  term_sound {env} (cast {to = to} {t = t} {o = o} {from = from} n c h i) known =
      plain env (ty.Handle o) (Cast o t.tree)
      (sound.cast (cast_is env o c
      (at_some (IsObjectType (seen_in env).signatures) (object_named env.registered env.declarations to.name) o
      (object_sound env.registered env.declarations to.name) n)) (handle_sound env t from i (term_sound h known).gives))
  term_sound (postfix h ss) known = suffixes_sound ss known (term_sound h known)
  term_sound {env} (plus {t = t} {k = k} h i) known =
      plain env (ty.Integer k) t.tree (of_type env t.tree t.ty (ty.Integer k) i (term_sound h known).gives)
  term_sound {env} (minus {t = t} {k = k} h i) known =
      plain env (ty.Integer (signed k)) (Alter (changes.Negate (signed k)) (converted_to (ty.Integer (signed k)) t))
      (sound.alter (operations.negate (signed_is k)) (converted_sound env t k (signed k) i (term_sound h known).gives))
  term_sound {env} (complement {t = t} {k = k} h i) known =
      plain env (ty.Integer k) (Alter (changes.Complement k) t.tree)
      (sound.alter operations.complement (of_type env t.tree t.ty (ty.Integer k) i (term_sound h known).gives))
  term_sound {env} (not {t = t} h i) known =
      plain env ty.Bool (Alter changes.Not t.tree)
      (sound.alter operations.not (of_type env t.tree t.ty ty.Bool i (term_sound h known).gives))
  term_sound {env} (increment {t = t} {at = at} {k = k} h i l) known =
      plain env (ty.Integer k) (Count at k steps.Increment)
      (sound.count (integer_place env t at k (term_sound h known) i l))
  term_sound {env} (decrement {t = t} {at = at} {k = k} h i l) known =
      plain env (ty.Integer k) (Count at k steps.Decrement)
      (sound.count (integer_place env t at k (term_sound h known) i l))
  term_sound {env} (handle {t = t} {o = o} h i) known =
      plain env (ty.Handle o) t.tree (handle_sound env t o i (term_sound h known).gives)
  term_sound {env} (handle_written {t = t} h) known = let s = term_sound h known in
      record { gives = s.gives; place = handle_place env t.form t.tree t.ty s.place }
  term_sound (operators h ls) known = links_sound ls known (known_type h known) (term_sound h known)
  term_sound {env} (conditional {t = t} {x = x} {y = y} {of = of} h i k l m) known =
      plain env of (Conditional t.tree (converted_to of x) (converted_to of y))
      (chosen_sound env t.tree x.tree y.tree x.ty y.ty of (known_type k known) (known_type l known)
      (of_type env t.tree t.ty ty.Bool i (term_sound h known).gives) (term_sound k known).gives
      (term_sound l known).gives m)
  term_sound {env} (assign {t = t} {u = u} {at = at} h i s k l) known =
      let is = stored_type t.form t.ty (known_type h known) s in
      plain env t.ty (Assign at (converted_to t.ty u))
      (subst (sound.IsWellTyped (seen_in env) (Assign at (converted_to t.ty u))) (variable_value t.ty is.0)
      (sound.assign (assigned_place env t.form t.tree t.ty at (term_sound h known).place i) is.1
      (fits_sound env t.ty u (known_type h known) (known_type k known) (term_sound k known).gives l)))
  term_sound {env} (update {c = c} {t = t} {u = u} {at = at} {j = j} {k = k} f h i s l m n) known =
      let right = adapted_to (operator_class_of (binary_of c)) (term t.ty Null) u in
      let assigned = updated_sound env c (adapted_to (operator_class_of (binary_of c)) u (term t.ty Null)).ty right j k at
      (integer_place env t at k (term_sound h known) i l)
      (adapted_sound env (operator_class_of (binary_of c)) (term t.ty Null) u (term_sound m known).gives) n in
      plain env t.ty
      (Update at k (record { operator = c; of = j })
      (right_of (binary_of c) (operands.Integers j) (term t.ty Null) u))
      (subst (GivesType env
      (Update at k (record { operator = c; of = j })
      (right_of (binary_of c) (operands.Integers j) (term t.ty Null) u))) (sym l) assigned)

  pub terms_sound : {env : Environment} {es : written.Exprs} {ts : List Term} → AllHaveType env es ts → IsKnown env
      → AllByRecursion (IsArgument env) ts
  terms_sound none_left known = tt
  terms_sound (each h rest) known = (((term_sound h known).gives, known_type h known), terms_sound rest known)

  links_sound : {env : Environment} {t : Term} {ls : written.Links} {u : Term} → LinksHaveType env t ls u → IsKnown env
      → IsKnownType t.ty → IsSound env t → IsSound env u
  links_sound no_more known k h = h
  links_sound {env} (operated {op = op} {t = t} {u = u} {o = o} e m rest) known k h =
      let s = operator_class_of op in
      let left = adapted_to s u t in
      let right = adapted_to s t u in
      links_sound rest known (operator_result_known s o)
      (plain env (operator_result s o) (applied op o (left_of op o t u) (right_of op o t u))
      (operated_sound env op o left right (adapted_known s u t k) (adapted_known s t u (known_type e known))
      (adapted_sound env s u t h.gives) (adapted_sound env s t u (term_sound e known).gives) m))

  suffixes_sound : {env : Environment} {t : Term} {ss : written.Suffixes} {u : Term} → SuffixesHaveType env t ss u
      → IsKnown env → IsSound env t → IsSound env u
  suffixes_sound no_suffixes known h = h
  suffixes_sound (suffixed s rest) known h = suffixes_sound rest known (suffix_sound s known h)

  suffix_sound : {env : Environment} {t : Term} {s : written.Suffix} {u : Term} → SuffixHasType env t s u → IsKnown env
      → IsSound env t → IsSound env u
  suffix_sound {env} (field {text = text} {t = t} {o = o} {found = found} e i) known h =
      member_place env t o text found known (handle_sound env t o e h.gives) i
  suffix_sound {env} (method {text = text} {t = t} {o = o} {m = m} {trees = trees} e i all args) known h =
      let is = at_some (IsSoundMethod env o) (method_in env o text) m (method_sound env o text known) i in
      plain env m.result (Invoke t.tree m.method (map var_type m.parameters) trees)
      (invoked_sound env t o text m trees known (handle_sound env t o e h.gives) i
      (arguments_sound env args is.1 (terms_sound all known)))
  suffix_sound {env} (index {t = t} {u = u} {elements = of} {k = k} e d i) known h =
      element_place env t u of k e h.gives i (term_sound d known).gives
  suffix_sound {env} (increment_after {t = t} {at = at} {k = k} e i) known h =
      plain env (ty.Integer k) (Count at k steps.IncrementAfter) (sound.count (integer_place env t at k h e i))
  suffix_sound {env} (decrement_after {t = t} {at = at} {k = k} e i) known h =
      plain env (ty.Integer k) (Count at k steps.DecrementAfter) (sound.count (integer_place env t at k h e i))
