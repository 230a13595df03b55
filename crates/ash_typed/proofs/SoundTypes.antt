-- A sound expression gives what its tree says.
use Rattle.std.proofs.Common.{◌≡◌, List, Option, refl, sym, ap, ◌∙◌}
use Rattle.ash_typed.specs.declared.types.VarType.{VarType}
use Rattle.ash_typed.specs.declared.tree.operations.ObjectMember.{ObjectMember}
use Rattle.ash_typed.specs.declared.tree.operations.Method.{Method}
use Rattle.ash_typed.specs.declared.tree.operations.CallTarget.{CallTarget}
use Rattle.ash_typed.specs.declared.tree.operations.Change.{Change}
use Rattle.ash_typed.specs.declared.types.ObjectType.{ObjectType}
use Rattle.ash_typed.specs.TypedTree.{Expr, Place}
use Rattle.ash_typed.specs.TypeOf.{ValueType, value, as_value, value_of_result, type_of, type_of_place, type_of_member}
use Rattle.ash_typed.specs.TypeOf.{result_of_method, result_of_target, altered_type}
use Rattle.ash_typed.specs.Signatures.{ModuleSignatures}
use Rattle.ash_typed.specs.SoundOperations.{IsSoundMember, field, property, IsMethod, of_class, of_interface, of_host}
use Rattle.ash_typed.specs.SoundOperations.{of_array, IsTarget, function, service, class, host, empty_array}
use Rattle.ash_typed.specs.SoundOperations.{sized_array, IsSoundChange, negate, complement, not}
use Rattle.ash_typed.specs.SoundExpressions.{TypedEnvironment, IsWellTyped, number, truth, null, this, read, invoke, convert}
use Rattle.ash_typed.specs.SoundExpressions.{cast, alter, calculate, shift, compare, lazily, choose, choose_or_null}
use Rattle.ash_typed.specs.SoundExpressions.{null_or_choose, assign, update, update_by_shift, count, call, HasPlace}
use Rattle.ash_typed.specs.SoundExpressions.{local, global, member, element}

member_type : {s : ModuleSignatures} {o : ObjectType} {held : ObjectMember} {of : VarType} → IsSoundMember s o held of
    → type_of_member held ≡ of
member_type (field h i) = refl
member_type (property h) = refl

pub place_type : {env : TypedEnvironment} {place : Place} {of : VarType} → HasPlace env place of → type_of_place place ≡ of
place_type (local h) = refl
place_type (global h) = refl
place_type (member h i) = member_type i
place_type (element h i) = refl

method_result : {s : ModuleSignatures} {o : ObjectType} {method : Method} {parameters : List VarType}
    {result : Option VarType} → IsMethod s o method parameters result → result_of_method method ≡ result
method_result (of_class h i) = refl
method_result (of_interface h i) = refl
method_result (of_host h) = refl
method_result of_array = refl

target_result : {s : ModuleSignatures} {target : CallTarget} {parameters : List VarType} {result : Option VarType}
    → IsTarget s target parameters result → result_of_target target ≡ result
target_result (function h) = refl
target_result (service h) = refl
target_result (class h) = refl
target_result (host h) = refl
target_result (empty_array h) = refl
target_result (sized_array h) = refl

change_type : {change : Change} {of : VarType} → IsSoundChange change of → altered_type change ≡ of
change_type (negate h) = refl
change_type complement = refl
change_type not = refl

pub type_is : {env : TypedEnvironment} {e : Expr} {of : ValueType} → IsWellTyped env e of → type_of e ≡ of
type_is (number h) = refl
type_is truth = refl
type_is null = refl
type_is (this h) = refl
type_is (read h) = ap (λ (of : VarType). value (as_value of)) (place_type h)
type_is (invoke h i args) = ap value_of_result (method_result i)
type_is (convert h) = refl
type_is (cast h i) = refl
type_is (alter h i) = ap value (change_type h)
type_is (calculate h i) = refl
type_is (shift h i k) = refl
type_is (compare h i k l m) = refl
type_is (lazily h i) = refl
type_is (choose h i k) = rw (type_is i) refl
type_is (choose_or_null h i k) = rw (type_is i) refl
type_is (null_or_choose h i k) = rw (type_is i, type_is k) refl
type_is (assign h i k) = ap (λ (of : VarType). value (as_value of)) (place_type h)
type_is (update h i) = refl
type_is (update_by_shift h i k) = refl
type_is (count h) = refl
type_is (call h args) = ap value_of_result (target_result h)

pub one_type : {env : TypedEnvironment} {e : Expr} {one other : ValueType} → IsWellTyped env e one → IsWellTyped env e other
    → one ≡ other
one_type h k = sym (type_is h) ∙ type_is k
