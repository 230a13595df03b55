-- Conversions, operators and branches of a typed tree are sound.
use Rattle.std.specs.Option.{option_map_or}
use Rattle.std.proofs.lemmas.Bool.{eqb-true, ltb-true}
use Rattle.std.proofs.lemmas.Option.{none-some, same_Some}
use Rattle.std.proofs.lemmas.Map.Views.{Contains-from_any}
use Rattle.std.proofs.Common.{◌≡◌, ◌^◌, ℕ, Bool, true, false, cond, Option, Some, None, slice_get, refl, sym, subst}
use Rattle.ash_tree.specs.declared.tree.operators.BinaryOp.{BinaryOp}
use Rattle.ash_tree.specs.declared.tree.operators.BinaryOp.TheVariants as binary
use Rattle.ash_integers.specs.declared.int_type.IntType.{IntType}
use Rattle.ash_integers.specs.declared.int_type.IntType.TheVariants as ints
use Rattle.ash_typed.specs.declared.types.ObjectType.{ObjectType}
use Rattle.ash_typed.specs.declared.types.ObjectType.TheVariants as objects
use Rattle.ash_typed.specs.declared.types.VarType.TheVariants as vars
use Rattle.ash_typed.specs.declared.tree.operations.Operands.{Operands}
use Rattle.ash_typed.specs.declared.tree.operations.Operands.TheVariants as operands
use Rattle.ash_typed.specs.TypedTree.{Expr, Number, Conditional, converted}
use Rattle.ash_typed.specs.TypeOf.{ValueType, value}
use Rattle.ash_typed.specs.Signatures.{IsSubtype, same, null, listed}
use Rattle.ash_typed.specs.SoundOperations as operations
use Rattle.ash_typed.specs.SoundExpressions as sound
use Rattle.ash_type_rules.specs.declared.types.Ty.{Ty}
use Rattle.ash_type_rules.specs.declared.types.Ty.TheVariants as ty
use Rattle.ash_type_rules.specs.declared.forms.OperatorClass.{OperatorClass}
use Rattle.ash_type_rules.specs.declared.forms.OperatorClass.TheVariants as operator_class
use Rattle.ash_type_rules.specs.declared.forms.Form.{Form}
use Rattle.ash_type_rules.specs.declared.forms.Form.TheVariants as form
use Rattle.ash_type_rules.specs.TypeRules.{is_same_integer_type, is_same_object, holds, number_type}
use Rattle.ash_type_rules.specs.TypeRules.{common_integer_type, common, gives_object, agrees, operator_class_of}
use Rattle.ash_type_rules.specs.TypeRules.{common_operands, operator_result, var_type, value_type}
use Rattle.ash_type_rules.specs.Environment.{Environment, ClassSignature}
use Rattle.ash_type_rules.specs.Coercions.{has_interface, lists, is_of, fits}
use Rattle.ash_type_rules.specs.Terms.{conversion, operand_type, applied, Term, converted_to, adapted_number, adapted_to}
use Rattle.ash_type_rules.specs.Terms.{right_by}
use Rattle.ash_type_rules.specs.Typing.{is_known, IsKnownType}
use Rattle.ash_type_rules.specs.Soundness.{signature_of_class, seen_in}
use Rattle.ash_type_rules.proofs.TypingTypes.{equal_integer_types}
use Rattle.ash_type_rules.proofs.SoundnessLookUps.{mapped}
use Rattle.ash_type_rules.proofs.EqualTypes.{equal_objects}

-- the tree gives what an expression of the type gives
abbrev pub GivesType : Environment → Expr → Ty → Type 0
GivesType env tree of = sound.IsWellTyped (seen_in env) tree (value_type of)

-- numbers

pub within : (k : IntType) (n : ℕ) → holds k n ≡ true → operations.IsWithin k n
within ints.Int n h = ltb-true n (2 ^ 31) h
within ints.Uint n h = ltb-true n (2 ^ 32) h
within ints.Int64 n h = ltb-true n (2 ^ 63) h
within ints.Uint64 n h = tt

number_type_within : (n : ℕ) (a b c : Bool) → holds ints.Int n ≡ a → holds ints.Uint n ≡ b → holds ints.Int64 n ≡ c
    → operations.IsWithin (cond a ints.Int (cond b ints.Uint (cond c ints.Int64 ints.Uint64))) n
number_type_within n true b c h i k = within ints.Int n h
number_type_within n false true c h i k = within ints.Uint n i
number_type_within n false false true h i k = within ints.Int64 n k
number_type_within n false false false h i k = tt

-- a number has a type that holds it
pub number_sound : (env : Environment) (n : ℕ) → GivesType env (Number (number_type n) n) (ty.Integer (number_type n))
number_sound env n =
    sound.number (number_type_within n (holds ints.Int n) (holds ints.Uint n) (holds ints.Int64 n) refl refl refl)

-- conversions

integer_if : (env : Environment) (j k : IntType) (tree : Expr) (b : Bool) → is_same_integer_type j k ≡ b
    → GivesType env tree (ty.Integer j)
    → GivesType env (converted (cond b None (Some (record { from = j; to = k }))) tree) (ty.Integer k)
integer_if env j k tree true e h =
    subst (λ int_type. GivesType env tree (ty.Integer int_type)) (equal_integer_types j k e) h
integer_if env j k tree false e h = sound.convert h

pub integer_sound : (env : Environment) (j k : IntType) (tree : Expr) → GivesType env tree (ty.Integer j)
    → GivesType env (converted (conversion (ty.Integer k) (ty.Integer j)) tree) (ty.Integer k)
integer_sound env j k tree h = integer_if env j k tree (is_same_integer_type j k) refl h

-- of what is known to have a type
pub of_type : (env : Environment) (tree : Expr) (of other : Ty) → of ≡ other → GivesType env tree of
    → GivesType env tree other
of_type env tree of other e h = subst (GivesType env tree) e h

pub converted_sound : (env : Environment) (t : Term) (j k : IntType) → t.ty ≡ ty.Integer j → GivesType env t.tree t.ty
    → GivesType env (converted_to (ty.Integer k) t) (ty.Integer k)
converted_sound env t j k e h =
    subst (λ of. GivesType env (converted (conversion (ty.Integer k) of) t.tree) (ty.Integer k)) (sym e)
    (integer_sound env j k t.tree (of_type env t.tree t.ty (ty.Integer j) e h))

-- operands

taken_sound : (env : Environment) (k : IntType) (n : ℕ) (t : Term) (b : Bool) → holds k n ≡ b
    → GivesType env t.tree t.ty
    → GivesType env (cond b (record { ty = ty.Integer k; form = form.Number n; tree = Number k n }) t).tree
    (cond b (record { ty = ty.Integer k; form = form.Number n; tree = Number k n }) t).ty
taken_sound env k n t true e h = sound.number (within k n e)
taken_sound env k n t false e h = h

taking_sound : (env : Environment) (a : Form) (of : Ty) (b : Form) (t : Term) → GivesType env t.tree t.ty
    → GivesType env (adapted_number a of b t).tree (adapted_number a of b t).ty
taking_sound env (form.Number m) of (form.Number n) t h = h
taking_sound env a (ty.Integer k) (form.Number n) t h = taken_sound env k n t (holds k n) refl h
taking_sound env a of b t h = h

-- the operand of an operator whose other operand is this
pub adapted_sound : (env : Environment) (s : OperatorClass) (other t : Term) → GivesType env t.tree t.ty
    → GivesType env (adapted_to s other t).tree (adapted_to s other t).ty
adapted_sound env operator_class.Shift other t h = h
adapted_sound env _ other t h = taking_sound env other.form other.ty t.form t h

-- what the operands of an operator give, by what it is of
abbrev AreOperands : Environment → OperatorClass → Operands → Expr → Expr → Type 0
AreOperands env operator_class.Arithmetic (operands.Integers k) a b =
    GivesType env a (ty.Integer k) × GivesType env b (ty.Integer k)
AreOperands env operator_class.Shift (operands.Integers k) a b =
    GivesType env a (ty.Integer k) × ((j : IntType) × GivesType env b (ty.Integer j))
AreOperands env operator_class.Order (operands.Integers k) a b =
    GivesType env a (ty.Integer k) × GivesType env b (ty.Integer k)
AreOperands env operator_class.Equality (operands.Integers k) a b =
    GivesType env a (ty.Integer k) × GivesType env b (ty.Integer k)
AreOperands env operator_class.Equality operands.Bools a b = GivesType env a ty.Bool × GivesType env b ty.Bool
AreOperands env operator_class.Logic operands.Bools a b = GivesType env a ty.Bool × GivesType env b ty.Bool
AreOperands env operator_class.Identity operands.Handles a b =
    (x y : ValueType) × sound.IsWellTyped (seen_in env) a x × operations.IsOperand operands.Handles x
    × sound.IsWellTyped (seen_in env) b y × operations.IsOperand operands.Handles y
AreOperands env _ _ _ _ = ⊥

-- what becomes of two terms
abbrev AreSoundOperands : Environment → OperatorClass → Operands → Ty → Ty → Form → Expr → Expr → Type 0
AreSoundOperands env s o a b f x y =
    AreOperands env s o (converted (conversion (operand_type o) a) x)
    (right_by s o (record { ty = b; form = f; tree = y }))

arithmetic_sound : (env : Environment) (a b : Ty) (f : Form) (x y : Expr) (o : Operands) → GivesType env x a
    → GivesType env y b → common_operands operator_class.Arithmetic a b ≡ Some o
    → AreSoundOperands env operator_class.Arithmetic o a b f x y
arithmetic_sound env (ty.Integer j) (ty.Integer k) f x y o h i e =
    subst (λ o. AreSoundOperands env operator_class.Arithmetic o (ty.Integer j) (ty.Integer k) f x y)
    (same_Some (operands.Integers (common_integer_type j k)) o e)
    (integer_sound env j (common_integer_type j k) x h, integer_sound env k (common_integer_type j k) y i)
arithmetic_sound env _ _ f x y o h i e = absurd (none-some o e)

shift_sound : (env : Environment) (a b : Ty) (f : Form) (x y : Expr) (o : Operands) → GivesType env x a
    → GivesType env y b → common_operands operator_class.Shift a b ≡ Some o
    → AreSoundOperands env operator_class.Shift o a b f x y
shift_sound env (ty.Integer j) (ty.Integer k) f x y o h i e =
    subst (λ o. AreSoundOperands env operator_class.Shift o (ty.Integer j) (ty.Integer k) f x y) (same_Some (operands.Integers j) o e)
    (integer_sound env j j x h, (k, i))
shift_sound env _ _ f x y o h i e = absurd (none-some o e)

order_sound : (env : Environment) (a b : Ty) (f : Form) (x y : Expr) (o : Operands) → GivesType env x a
    → GivesType env y b → common_operands operator_class.Order a b ≡ Some o
    → AreSoundOperands env operator_class.Order o a b f x y
order_sound env (ty.Integer j) (ty.Integer k) f x y o h i e =
    subst (λ o. AreSoundOperands env operator_class.Order o (ty.Integer j) (ty.Integer k) f x y)
    (same_Some (operands.Integers (common_integer_type j k)) o e)
    (integer_sound env j (common_integer_type j k) x h, integer_sound env k (common_integer_type j k) y i)
order_sound env _ _ f x y o h i e = absurd (none-some o e)

equality_sound : (env : Environment) (a b : Ty) (f : Form) (x y : Expr) (o : Operands) → GivesType env x a
    → GivesType env y b → common_operands operator_class.Equality a b ≡ Some o
    → AreSoundOperands env operator_class.Equality o a b f x y
equality_sound env (ty.Integer j) (ty.Integer k) f x y o h i e =
    subst (λ o. AreSoundOperands env operator_class.Equality o (ty.Integer j) (ty.Integer k) f x y)
    (same_Some (operands.Integers (common_integer_type j k)) o e)
    (integer_sound env j (common_integer_type j k) x h, integer_sound env k (common_integer_type j k) y i)
equality_sound env ty.Bool ty.Bool f x y o h i e =
    subst (λ o. AreSoundOperands env operator_class.Equality o ty.Bool ty.Bool f x y) (same_Some operands.Bools o e) (h, i)
equality_sound env _ _ f x y o h i e = absurd (none-some o e)

logic_sound : (env : Environment) (a b : Ty) (f : Form) (x y : Expr) (o : Operands) → GivesType env x a
    → GivesType env y b → common_operands operator_class.Logic a b ≡ Some o
    → AreSoundOperands env operator_class.Logic o a b f x y
logic_sound env ty.Bool ty.Bool f x y o h i e =
    subst (λ o. AreSoundOperands env operator_class.Logic o ty.Bool ty.Bool f x y) (same_Some operands.Bools o e) (h, i)
logic_sound env _ _ f x y o h i e = absurd (none-some o e)

-- an object or null
is_reference : Ty → Bool
is_reference (ty.Object o) = true
is_reference (ty.Handle o) = true
is_reference ty.Null = true
is_reference _ = false

reference_operand : (of : Ty) → is_reference of ≡ true → operations.IsOperand operands.Handles (value_type of)
unfolding is_reference
reference_operand (ty.Object o) h = operations.object
reference_operand (ty.Handle o) h = operations.object
reference_operand ty.Null h = operations.no_object
reference_operand ty.Bool h = absurd (cc)
reference_operand (ty.Integer k) h = absurd (cc)
reference_operand ty.Void h = absurd (cc)
reference_operand ty.Unknown h = absurd (cc)

agreeing : (a b : Ty) → is_known a ≡ true → is_known b ≡ true → agrees a b ≡ true
    → (is_reference a ≡ true) × (is_reference b ≡ true)
unfolding is_reference
agreeing (ty.Object o) (ty.Object p) h i e = (refl, refl)
agreeing (ty.Object o) (ty.Handle p) h i e = (refl, refl)
agreeing (ty.Object o) ty.Null h i e = (refl, refl)
agreeing (ty.Handle o) (ty.Object p) h i e = (refl, refl)
agreeing (ty.Handle o) (ty.Handle p) h i e = (refl, refl)
agreeing (ty.Handle o) ty.Null h i e = (refl, refl)
agreeing ty.Null (ty.Object p) h i e = (refl, refl)
agreeing ty.Null (ty.Handle p) h i e = (refl, refl)
agreeing ty.Null ty.Null h i e = (refl, refl)
agreeing _ _ h i e = absurd (cc)

identity_if : (b : Bool) (o : Operands) → cond b (Some operands.Handles) None ≡ Some o
    → (b ≡ true) × (operands.Handles ≡ o)
identity_if true o e = (refl, same_Some operands.Handles o e)
identity_if false o e = absurd (none-some o e)

identity_sound : (env : Environment) (a b : Ty) (f : Form) (x y : Expr) (o : Operands) → is_known a ≡ true
    → is_known b ≡ true → GivesType env x a → GivesType env y b → common_operands operator_class.Identity a b ≡ Some o
    → AreSoundOperands env operator_class.Identity o a b f x y
identity_sound env a b f x y o k l h i e =
    let c = identity_if (agrees a b) o e in
    let r = agreeing a b k l c.0 in
    subst (λ o. AreSoundOperands env operator_class.Identity o a b f x y) c.1
    (value_type a, value_type b, h, reference_operand a r.0, i, reference_operand b r.1)

unified_sound : (env : Environment) (s : OperatorClass) (a b : Ty) (f : Form) (x y : Expr) (o : Operands)
    → is_known a ≡ true
    → is_known b ≡ true → GivesType env x a → GivesType env y b → common_operands s a b ≡ Some o
    → AreSoundOperands env s o a b f x y
unified_sound env operator_class.Arithmetic a b f x y o k l h i e = arithmetic_sound env a b f x y o h i e
unified_sound env operator_class.Shift a b f x y o k l h i e = shift_sound env a b f x y o h i e
unified_sound env operator_class.Order a b f x y o k l h i e = order_sound env a b f x y o h i e
unified_sound env operator_class.Equality a b f x y o k l h i e = equality_sound env a b f x y o h i e
unified_sound env operator_class.Identity a b f x y o k l h i e = identity_sound env a b f x y o k l h i e
unified_sound env operator_class.Logic a b f x y o k l h i e = logic_sound env a b f x y o h i e

applied_sound : (env : Environment) (op : BinaryOp) (o : Operands) (a b : Expr)
    → AreOperands env (operator_class_of op) o a b
    → GivesType env (applied op o a b) (operator_result (operator_class_of op) o)
applied_sound env binary.Multiply (operands.Integers k) a b h = sound.calculate h.0 h.1
applied_sound env binary.Divide (operands.Integers k) a b h = sound.calculate h.0 h.1
applied_sound env binary.Remainder (operands.Integers k) a b h = sound.calculate h.0 h.1
applied_sound env binary.Add (operands.Integers k) a b h = sound.calculate h.0 h.1
applied_sound env binary.Subtract (operands.Integers k) a b h = sound.calculate h.0 h.1
applied_sound env binary.ShiftLeft (operands.Integers k) a b h = sound.shift operations.left h.0 h.1.1
applied_sound env binary.ShiftRight (operands.Integers k) a b h = sound.shift operations.right h.0 h.1.1
applied_sound env binary.ShiftRightArithmetic (operands.Integers k) a b h =
    sound.shift operations.right_arithmetic h.0 h.1.1
applied_sound env binary.BitAnd (operands.Integers k) a b h = sound.calculate h.0 h.1
applied_sound env binary.BitXor (operands.Integers k) a b h = sound.calculate h.0 h.1
applied_sound env binary.BitOr (operands.Integers k) a b h = sound.calculate h.0 h.1
applied_sound env binary.Less (operands.Integers k) a b h =
    sound.compare operations.less h.0 operations.integer h.1 operations.integer
applied_sound env binary.LessOrEqual (operands.Integers k) a b h =
    sound.compare operations.less_or_equal h.0 operations.integer h.1 operations.integer
applied_sound env binary.Greater (operands.Integers k) a b h =
    sound.compare operations.greater h.0 operations.integer h.1 operations.integer
applied_sound env binary.GreaterOrEqual (operands.Integers k) a b h =
    sound.compare operations.greater_or_equal h.0 operations.integer h.1 operations.integer
applied_sound env binary.Equal (operands.Integers k) a b h =
    sound.compare operations.equal h.0 operations.integer h.1 operations.integer
applied_sound env binary.Equal operands.Bools a b h =
    sound.compare operations.same_truth h.0 operations.truth h.1 operations.truth
applied_sound env binary.NotEqual (operands.Integers k) a b h =
    sound.compare operations.not_equal h.0 operations.integer h.1 operations.integer
applied_sound env binary.NotEqual operands.Bools a b h =
    sound.compare operations.other_truth h.0 operations.truth h.1 operations.truth
applied_sound env binary.Is operands.Handles a b h = sound.compare operations.same_object h.2 h.3 h.4 h.5
applied_sound env binary.NotIs operands.Handles a b h = sound.compare operations.other_object h.2 h.3 h.4 h.5
applied_sound env binary.Xor operands.Bools a b h =
    sound.compare operations.xor h.0 operations.truth h.1 operations.truth
applied_sound env binary.And operands.Bools a b h = sound.lazily h.0 h.1
applied_sound env binary.Or operands.Bools a b h = sound.lazily h.0 h.1
applied_sound env op o a b h = absurd h

-- an operator between two operands that it takes
pub operated_sound : (env : Environment) (op : BinaryOp) (o : Operands) (t u : Term) → is_known t.ty ≡ true
    → is_known u.ty ≡ true → GivesType env t.tree t.ty → GivesType env u.tree u.ty
    → common_operands (operator_class_of op) t.ty u.ty ≡ Some o
    → GivesType env (applied op o (converted_to (operand_type o) t) (right_by (operator_class_of op) o u))
    (operator_result (operator_class_of op) o)
operated_sound env op o t u k l h i e =
    applied_sound env op o (converted_to (operand_type o) t) (right_by (operator_class_of op) o u)
    (unified_sound env (operator_class_of op) t.ty u.ty u.form t.tree u.tree o k l h i e)

-- branches

object_if : (b : Bool) (o : ObjectType) (of : Ty) → cond b (Some (ty.Handle o)) None ≡ Some of
    → (b ≡ true) × (ty.Handle o ≡ of)
object_if true o of e = (refl, same_Some (ty.Handle o) of e)
object_if false o of e = absurd (none-some of e)

abbrev IsChosen : Environment → Expr → Ty → Ty → Expr → Expr → Ty → Type 0
IsChosen env c a b x y of =
    GivesType env (Conditional c (converted (conversion of a) x) (converted (conversion of b) y)) of

abbrev IsHandle : Environment → Expr → ObjectType → Type 0
IsHandle env tree o = sound.IsWellTyped (seen_in env) tree (value (vars.Handle o))

-- one branch is an object, and the other gives one of its type, or null
object_chosen : (env : Environment) (c x y : Expr) (o : ObjectType) (b : Ty) → is_known b ≡ true
    → GivesType env c ty.Bool → IsHandle env x o → GivesType env y b → gives_object o b ≡ true
    → sound.IsWellTyped (seen_in env) (Conditional c x y) (value (vars.Handle o))
object_chosen env c x y o (ty.Object p) k h i l e =
    sound.choose h i (subst (IsHandle env y) (sym (equal_objects o p e)) l)
object_chosen env c x y o (ty.Handle p) k h i l e =
    sound.choose h i (subst (IsHandle env y) (sym (equal_objects o p e)) l)
object_chosen env c x y o ty.Null k h i l e = sound.choose_or_null h i l
object_chosen env c x y o ty.Unknown k h i l e = absurd (cc)
object_chosen env c x y o ty.Bool k h i l e = absurd (cc)
object_chosen env c x y o (ty.Integer j) k h i l e = absurd (cc)
object_chosen env c x y o ty.Void k h i l e = absurd (cc)

pub chosen_sound : (env : Environment) (c x y : Expr) (a b of : Ty) → is_known a ≡ true → is_known b ≡ true
    → GivesType env c ty.Bool → GivesType env x a → GivesType env y b → common a b ≡ Some of → IsChosen env c a b x y of
chosen_sound env c x y ty.Unknown b of k l h i j e = absurd (cc)
chosen_sound env c x y (ty.Object o) b of k l h i j e =
    let is = object_if (gives_object o b) o of e in
    subst (IsChosen env c (ty.Object o) b x y) is.1 (object_chosen env c x y o b l h i j is.0)
chosen_sound env c x y (ty.Handle o) b of k l h i j e =
    let is = object_if (gives_object o b) o of e in
    subst (IsChosen env c (ty.Handle o) b x y) is.1 (object_chosen env c x y o b l h i j is.0)
chosen_sound env c x y a ty.Unknown of k l h i j e = absurd (cc)
chosen_sound env c x y ty.Bool ty.Bool of k l h i j e =
    subst (IsChosen env c ty.Bool ty.Bool x y) (same_Some ty.Bool of e) (sound.choose h i j)
chosen_sound env c x y (ty.Integer m) (ty.Integer n) of k l h i j e =
    subst (IsChosen env c (ty.Integer m) (ty.Integer n) x y) (same_Some (ty.Integer (common_integer_type m n)) of e)
    (sound.choose h (integer_sound env m (common_integer_type m n) x i) (integer_sound env n (common_integer_type m n) y j))
chosen_sound env c x y ty.Null (ty.Object o) of k l h i j e =
    subst (IsChosen env c ty.Null (ty.Object o) x y) (same_Some (ty.Handle o) of e) (sound.null_or_choose h i j)
chosen_sound env c x y ty.Null (ty.Handle o) of k l h i j e =
    subst (IsChosen env c ty.Null (ty.Handle o) x y) (same_Some (ty.Handle o) of e) (sound.null_or_choose h i j)
chosen_sound env c x y a b of k l h i j e = absurd (none-some of e)

-- what may be stored

abbrev IsObjectOf : Environment → ObjectType → ObjectType → Type 0
IsObjectOf env o p = IsSubtype (seen_in env).signatures (value (vars.Handle p)) (value (vars.Handle o))

listed_in_class : (env : Environment) (interface class : ℕ) (found : Option ClassSignature)
    → slice_get env.declarations.classes class ≡ found → option_map_or (has_interface interface) found false ≡ true
    → IsObjectOf env (objects.Interface interface) (objects.Class class)
listed_in_class env interface class None e h = absurd (cc)
listed_in_class env interface class (Some c) e h =
    listed {c = signature_of_class c} (mapped signature_of_class env.declarations.classes class c e)
    (Contains-from_any eqb-true interface c.interfaces h)

same_subtype : (env : Environment) (o p : ObjectType) → is_same_object o p ≡ true → IsObjectOf env o p
same_subtype env o p h = subst (λ q. IsObjectOf env q p) (sym (equal_objects o p h)) same

subtype : (env : Environment) (o p : ObjectType) → is_of env.declarations.classes o p ≡ true → IsObjectOf env o p
unfolding lists
subtype env (objects.Interface interface) (objects.Class class) h =
    listed_in_class env interface class (slice_get env.declarations.classes class) refl h
subtype env o p h = same_subtype env o p h

-- An expression that fits a type may be stored in a variable of it, once it is converted.
abbrev IsStored : Environment → Ty → Ty → Expr → Type 0
IsStored env of t tree = sound.Fits (seen_in env) (var_type of) (converted (conversion of t) tree)

object_stored : (env : Environment) (o : ObjectType) (t : Ty) (tree : Expr) → is_known t ≡ true → GivesType env tree t
    → fits env.declarations.classes (ty.Handle o) t ≡ true → IsStored env (ty.Handle o) t tree
object_stored env o (ty.Object p) tree k h e = sound.fits h (subtype env o p e)
object_stored env o (ty.Handle p) tree k h e = sound.fits h (subtype env o p e)
object_stored env o ty.Null tree k h e = sound.fits h null
object_stored env o ty.Unknown tree k h e = absurd (cc)
object_stored env o ty.Bool tree k h e = absurd (cc)
object_stored env o (ty.Integer j) tree k h e = absurd (cc)
object_stored env o ty.Void tree k h e = absurd (cc)

stored_sound : (env : Environment) (of t : Ty) (tree : Expr) → is_known of ≡ true → is_known t ≡ true
    → GivesType env tree t → fits env.declarations.classes of t ≡ true → IsStored env of t tree
stored_sound env ty.Unknown t tree v k h e = absurd (cc)
stored_sound env (ty.Object o) t tree v k h e = handle_of_object (object_stored env o t tree k h e)
  where
    handle_of_object : sound.Fits (seen_in env) (vars.Handle o) (converted (conversion (ty.Handle o) t) tree)
        → sound.Fits (seen_in env) (vars.Object o) (converted (conversion (ty.Object o) t) tree)
    handle_of_object (sound.fits l m) = sound.fits l m
stored_sound env (ty.Handle o) t tree v k h e = object_stored env o t tree k h e
stored_sound env ty.Bool ty.Bool tree v k h e = sound.fits h same
stored_sound env ty.Bool ty.Unknown tree v k h e = absurd (cc)
stored_sound env (ty.Integer j) (ty.Integer i) tree v k h e = sound.fits (integer_sound env i j tree h) same
stored_sound env (ty.Integer j) ty.Unknown tree v k h e = absurd (cc)
stored_sound env of t tree v k h e = absurd (cc)

pub fits_sound : (env : Environment) (of : Ty) (t : Term) → IsKnownType of → IsKnownType t.ty
    → GivesType env t.tree t.ty → fits env.declarations.classes of t.ty ≡ true
    → sound.Fits (seen_in env) (var_type of) (converted_to of t)
fits_sound env of t v k h e = stored_sound env of t.ty t.tree v k h e
