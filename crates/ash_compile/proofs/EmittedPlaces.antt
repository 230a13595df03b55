-- Emitted code of places, and of what is read and stored there.
use Rattle.std.proofs.Common.{◌≡◌, ℕ, ◌+◌, sym, subst, arith}
use Rattle.ash_typed.specs.declared.types.VarType.{VarType}
use Rattle.ash_typed.specs.declared.types.Element.{Element}
use Rattle.ash_typed.specs.declared.tree.operations.ObjectMember.{ObjectMember}
use Rattle.ash_typed.specs.declared.tree.operations.ObjectMember.TheVariants as members
use Rattle.ash_typed.specs.declared.tree.operations.Variable.{Variable}
use Rattle.ash_typed.specs.TypeOf.{ValueType}
use Rattle.ash_typed.specs.TypedTree.{Expr, Read, Assign, Place, Stored, Held, Indexed}
use Rattle.ash_typed.specs.SoundExpressions as typing
use Rattle.ash_typed.specs.SoundExpressions.{TypedEnvironment, IsWellTyped, HasPlace}
use Rattle.ash_compile.specs.declared.builder.Written.{Written}
use Rattle.ash_compile.specs.declared.places.Spot.{Spot}
use Rattle.ash_compile.specs.declared.places.Spot.TheVariants as spots
use Rattle.ash_compile.specs.Emission.{code_of, end_of, Puts, DoesExpression, Emits}
use Rattle.ash_compile.specs.Places.{spot_of_variable, spot_of_member, reading, writing, EmitsPlace}
use Rattle.ash_compile.proofs.Emission.{keeps_itself, keeps_on, put_keeps, put_one, suits_before, stands_before, stands_after}
use Rattle.ash_compile.proofs.Emission.{has_put, emits_then, emits_both}
use Rattle.ash_compile.proofs.PlaceCode.{variable_place, member_place, element_place, does_read, does_assign}

-- types of parts

pub typed_read : {env : TypedEnvironment} {place : Place} {t : ValueType} → IsWellTyped env (Read place) t
    → (of : VarType) × HasPlace env place of
typed_read (typing.read at) = (_, at)

typed_object : {env : TypedEnvironment} {e : Expr} {member : ObjectMember} {of : VarType}
    → HasPlace env (Held e member) of
    → (inner : ValueType) × IsWellTyped env e inner
typed_object (typing.member typed m) = (_, typed)

typed_array : {env : TypedEnvironment} {a i : Expr} {e : Element} {of : VarType} → HasPlace env (Indexed a i e) of
    → (inner : ValueType) × IsWellTyped env a inner
typed_array (typing.element first second) = (_, first)

typed_index : {env : TypedEnvironment} {a i : Expr} {e : Element} {of : VarType} → HasPlace env (Indexed a i e) of
    → (inner : ValueType) × IsWellTyped env i inner
typed_index (typing.element first second) = (_, second)

typed_assigned : {env : TypedEnvironment} {place : Place} {e : Expr} {t : ValueType}
    → IsWellTyped env (Assign place e) t
    → (of : VarType) × HasPlace env place of
typed_assigned (typing.assign at is fitted) = (_, at)

fitting : {env : TypedEnvironment} {of : VarType} {e : Expr} → typing.Fits env of e
    → (inner : ValueType) × IsWellTyped env e inner
fitting (typing.fits typed is) = (_, typed)

pub typed_given : {env : TypedEnvironment} {place : Place} {e : Expr} {t : ValueType} → IsWellTyped env (Assign place e) t
    → (inner : ValueType) × IsWellTyped env e inner
typed_given (typing.assign at is fitted) = fitting fitted

-- places

pub variable : (old : Written) (v : Variable) (slot : ℕ) → EmitsPlace old old (Stored v) (spot_of_variable v) slot
variable old v slot = record {
  keeps = keeps_itself old;
  does = λ s of scene at stands within. variable_place s v of (end_of old) slot at;
}

pub member : (start new : Written) (e : Expr) (member : ObjectMember) (slot : ℕ) → Emits start new e slot
    → EmitsPlace start new (Held e member) (spot_of_member member slot) slot
member start new e m slot first = record {
  keeps = first.keeps;
  does = λ s of scene at stands within.
      member_place s e m of (end_of start) (end_of new) slot scene at
      (first.does s (typed_object at).0 scene (typed_object at).1 stands within);
}

pub element : (start mid new : Written) (a i : Expr) (e : Element) (slot : ℕ) → Emits start mid a slot
    → Emits mid new i (slot + 1) → EmitsPlace start new (Indexed a i e) (spots.Element slot (slot + 1)) slot
element start mid new a i e slot first second = record {
  keeps = keeps_on start mid new first.keeps second.keeps;
  does = λ s of scene at stands within.
      element_place s a i e of (end_of start) (end_of mid) (end_of new) slot scene at
      (first.does s (typed_array at).0 scene (typed_array at).1 (stands_before s mid new (end_of start) second.keeps
      stands)
      (suits_before s mid new second.keeps within))
      (second.does s (typed_index at).0 scene (typed_index at).1
      (stands_after s (code_of new) (end_of start) (end_of mid) (end_of new) (first.keeps).longer stands) within);
}

-- reads

no_local : (member : ObjectMember) (slot n : ℕ) → spot_of_member member slot ≡ spots.Local n → ⊥
no_local (members.Field class place of) slot n is = cc
no_local (members.Property id of) slot n is = cc

pub read_member : (start old new : Written) (e : Expr) (member : ObjectMember) (slot : ℕ) → Emits start old e slot
    → Puts old new slot (reading (spot_of_member member slot) slot) → Emits start new (Read (Held e member)) slot
read_member start old new e m slot first puts =
    emits_then start old new e (Read (Held e m)) slot (reading (spot_of_member m slot) slot) first puts
    (λ s of typed. typed_object (typed_read typed).1)
    (λ s of from at scene typed does has.
    does_read s (Held e m) (typed_read typed).0 (spot_of_member m slot) from at slot scene
    (λ n is. absurd (no_local m slot n is)) does.within
    (member_place s e m (typed_read typed).0 from at slot scene (typed_read typed).1 does) has)

pub read_element : (start mid old new : Written) (a i : Expr) (e : Element) (slot : ℕ) → Emits start mid a slot
    → Emits mid old i (slot + 1) → Puts old new slot (reading (spots.Element slot (slot + 1)) slot)
    → Emits start new (Read (Indexed a i e)) slot
read_element start mid old new a i e slot first second puts =
    emits_both start mid old new a i (Read (Indexed a i e)) slot (reading (spots.Element slot (slot + 1)) slot) first
    second puts
    (λ s of typed. typed_array (typed_read typed).1) (λ s of typed. typed_index (typed_read typed).1)
    (λ s of from between at scene typed left right has.
    does_read s (Indexed a i e) (typed_read typed).0 (spots.Element slot (slot + 1)) from at slot scene
    (λ n is. absurd (cc)) left.within
    (element_place s a i e (typed_read typed).0 from between at slot scene (typed_read typed).1 left right) has)

-- what is stored

pub assign : (start mid old new : Written) (place : Place) (e : Expr) (spot : Spot) (slot : ℕ)
    → Emits start mid e slot
    → EmitsPlace mid old place spot (slot + 1) → Puts old new slot (writing spot slot)
    → Emits start new (Assign place e) slot
assign start mid old new place e spot slot first second puts =
    let last = put_keeps old new slot (writing spot slot) puts in
    let later = keeps_on mid old new second.keeps last in
    record {
      keeps = keeps_on start mid new first.keeps later;
      does = λ s of scene typed stands within.
          subst (λ (to : ℕ). DoesExpression s (Assign place e) (end_of start) to slot)
          (sym (put_one old new slot (writing spot slot) puts))
          (does_assign s place (typed_assigned typed).0 e (typed_given typed).0 spot (end_of start) (end_of mid)
          (end_of old) slot
          scene (typed_given typed).1
          (first.does s (typed_given typed).0 scene (typed_given typed).1 (stands_before s mid new (end_of start) later
          stands)
          (suits_before s mid new later within))
          (second.does s (typed_assigned typed).0 scene (typed_assigned typed).1
          (stands_after s (code_of old) (end_of start) (end_of mid) (end_of old) (first.keeps).longer
          (stands_before s old new (end_of start) last stands)) (suits_before s old new last within))
          (has_put s old new (end_of start) slot (writing spot slot)
          (omega (arith, (first.keeps).longer, (second.keeps).longer)) puts stands));
    }
