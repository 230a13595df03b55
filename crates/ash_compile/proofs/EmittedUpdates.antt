-- Emitted code of compound assignments, of `++` and of `--`.
use Rattle.std.proofs.Common.{◌≡◌, ◌≤◌, ◌⊎◌, inl, inr, ℕ, ◌+◌, refl, sym, ap, ◌∙◌, subst, arith}
use Rattle.ash_integers.specs.declared.int_type.IntType.{IntType}
use Rattle.ash_typed.specs.declared.types.VarType.TheVariants as vars
use Rattle.ash_typed.specs.declared.tree.operations.Calculation.{Calculation}
use Rattle.ash_typed.specs.declared.tree.operations.IncrementOp.{IncrementOp}
use Rattle.ash_typed.specs.TypeOf.{ValueType, value}
use Rattle.ash_typed.specs.SoundOperations.{IsShift}
use Rattle.ash_typed.specs.TypedTree.{Expr, Update, Count, Place}
use Rattle.ash_typed.specs.SoundExpressions as typing
use Rattle.ash_typed.specs.SoundExpressions.{TypedEnvironment, IsWellTyped, HasPlace}
use Rattle.ash_code.specs.declared.instruction.Instruction.{Instruction}
use Rattle.ash_code.specs.declared.instruction.Instruction.TheVariants as i
use Rattle.ash_compile.specs.declared.builder.Written.{Written}
use Rattle.ash_compile.specs.declared.places.Spot.{Spot}
use Rattle.ash_compile.specs.Emission.{code_of, end_of, Keeps, Puts, Scene, Stands, DoesExpression, Emits}
use Rattle.ash_compile.specs.Conversions.{Converts, needless, converts}
use Rattle.ash_compile.specs.Places.{reading, writing, slot_of_old, slot_of_new, EmitsPlace}
use Rattle.ash_compile.proofs.Emission.{HasAt, keeps_itself, keeps_on, put_keeps, put_one, put_within, suits_before, stands_before}
use Rattle.ash_compile.proofs.Emission.{stands_after, has_put}
use Rattle.ash_compile.proofs.UpdateCode.{does_update, does_count, ConvertsAt}
use Rattle.ash_compile.proofs.UpdateCode as at

-- an instruction that is the same, which names the same slot
pub put_as : (old new : Written) (m n : ℕ) (j k : Instruction) → m ≡ n → j ≡ k → Puts old new m j → Puts old new n k
put_as old new m n j k slots same puts =
    subst (λ (x : ℕ). Puts old new x k) slots (subst (λ (x : Instruction). Puts old new m x) same puts)

-- types of parts

pub typed_updated : {env : TypedEnvironment} {place : Place} {int_type : IntType} {calculation : Calculation} {e : Expr}
    {t : ValueType}
    → IsWellTyped env (Update place int_type calculation e) t → HasPlace env place (vars.Integer int_type)
typed_updated (typing.update at typed) = at
typed_updated (typing.update_by_shift is at typed) = at

pub typed_operand : {env : TypedEnvironment} {place : Place} {int_type : IntType} {calculation : Calculation} {e : Expr}
    {t : ValueType}
    → IsWellTyped env (Update place int_type calculation e) t → (inner : ValueType) × IsWellTyped env e inner
typed_operand (typing.update at typed) = (_, typed)
typed_operand (typing.update_by_shift is at typed) = (_, typed)

typed_counted : {env : TypedEnvironment} {place : Place} {int_type : IntType} {step : IncrementOp} {t : ValueType}
    → IsWellTyped env (Count place int_type step) t → HasPlace env place (vars.Integer int_type)
typed_counted (typing.count at) = at

pub typed_right : {env : TypedEnvironment} {place : Place} {int_type : IntType} {calculation : Calculation} {e : Expr}
    {t : ValueType} (typed : IsWellTyped env (Update place int_type calculation e) t)
    → IsShift calculation.operator ⊎ ((typed_operand typed).0 ≡ value (vars.Integer calculation.of))
unfolding typed_operand
typed_right (typing.update at typed) = inr refl
typed_right (typing.update_by_shift is at typed) = inl is

-- conversions

pub converts_keep : (old new : Written) (from to : IntType) (slot : ℕ) → Converts old new from to slot → Keeps old new
converts_keep old new from to slot (needless same is) = subst (λ (c : Written). Keeps old c) (sym is) (keeps_itself old)
converts_keep old new from to slot (converts puts) = put_keeps old new slot (i.Convert to slot slot) puts

converts_at : (s : Scene) (old new : Written) (start : ℕ) (from to : IntType) (slot : ℕ) → start ≤ end_of old
    → Converts old new from to slot → Stands s (code_of new) start (end_of new)
    → ConvertsAt s from to slot (end_of old) (end_of new)
converts_at s old new start from to slot low (needless same is) stands = at.needless same (ap end_of is)
converts_at s old new start from to slot low (converts puts) stands =
    at.converts (has_put s old new start slot (i.Convert to slot slot) low puts stands)
    (put_one old new slot (i.Convert to slot slot) puts)

pub update : (start mid old n1 n2 n3 n4 new : Written) (place : Place) (int_type : IntType)
    (calculation : Calculation)
    (e : Expr) (spot : Spot) (slot : ℕ) → Emits start mid e slot → EmitsPlace mid old place spot (slot + 2)
    → Puts old n1 (slot + 1) (reading spot (slot + 1))
    → Converts n1 n2 int_type calculation.of (slot + 1)
    → Puts n2 n3 slot (i.Calculate calculation (slot + 1) slot slot)
    → Converts n3 n4 calculation.of int_type slot
    → Puts n4 new slot (writing spot slot)
    → Emits start new (Update place int_type calculation e) slot
update start mid old n1 n2 n3 n4 new place int_type calculation e spot slot first second p1 p2 p3 p4 p5 =
    let k1 = put_keeps old n1 (slot + 1) (reading spot (slot + 1)) p1 in
    let k2 = converts_keep n1 n2 int_type calculation.of (slot + 1) p2 in
    let k3 = put_keeps n2 n3 slot (i.Calculate calculation (slot + 1) slot slot) p3 in
    let k4 = converts_keep n3 n4 calculation.of int_type slot p4 in
    let k5 = put_keeps n4 new slot (writing spot slot) p5 in
    let from1 = keeps_on n1 n2 new k2 (keeps_on n2 n3 new k3 (keeps_on n3 n4 new k4 k5)) in
    let last = keeps_on old n1 new k1 from1 in
    let later = keeps_on mid old new second.keeps last in
    let e1 = put_one old n1 (slot + 1) (reading spot (slot + 1)) p1 in
    let e3 = put_one n2 n3 slot (i.Calculate calculation (slot + 1) slot slot) p3 in
    let low0 : end_of start ≤ end_of old = omega (arith, (first.keeps).longer, (second.keeps).longer) in
    record {
      keeps = keeps_on start mid new first.keeps later;
      does = λ s of scene typed stands within.
          let s4 = stands_before s n4 new (end_of start) k5 stands in
          let s3 = stands_before s n3 n4 (end_of start) k4 s4 in
          let s2 = stands_before s n2 n3 (end_of start) k3 s3 in
          let s1 = stands_before s n1 n2 (end_of start) k2 s2 in
          let s0 = stands_before s old n1 (end_of start) k1 s1 in
          subst (λ (to : ℕ). DoesExpression s (Update place int_type calculation e) (end_of start) to slot)
          (sym (put_one n4 new slot (writing spot slot) p5))
          (does_update s place int_type calculation e (typed_operand typed).0 spot (end_of start) (end_of mid)
          (end_of old) (end_of n2) (end_of n4) slot
          scene (typed_operand typed).1 (typed_right typed)
          (first.does s (typed_operand typed).0 scene (typed_operand typed).1
          (stands_before s mid new (end_of start) later stands) (suits_before s mid new later within))
          (second.does s (vars.Integer int_type) scene (typed_updated typed)
          (stands_after s (code_of old) (end_of start) (end_of mid) (end_of old) (first.keeps).longer s0)
          (suits_before s old new last within))
          (put_within s old n1 (slot + 1) (reading spot (slot + 1)) scene p1 (suits_before s n1 new from1 within))
          (has_put s old n1 (end_of start) (slot + 1) (reading spot (slot + 1)) low0 p1 s1)
          (subst (λ (at : ℕ). ConvertsAt s int_type calculation.of (slot + 1) at (end_of n2)) e1
          (converts_at s n1 n2 (end_of start) int_type calculation.of (slot + 1) (omega (arith, low0, k1.longer)) p2 s2))
          (has_put s n2 n3 (end_of start) slot (i.Calculate calculation (slot + 1) slot slot)
          (omega (arith, low0, k1.longer, k2.longer)) p3 s3)
          (subst (λ (at : ℕ). ConvertsAt s calculation.of int_type slot at (end_of n4)) e3
          (converts_at s n3 n4 (end_of start) calculation.of int_type slot
          (omega (arith, low0, k1.longer, k2.longer, k3.longer)) p4 s4))
          (has_put s n4 new (end_of start) slot (writing spot slot)
          (omega (arith, low0, k1.longer, k2.longer, k3.longer, k4.longer)) p5 stands));
    }

pub count : (start old n1 n2 new : Written) (place : Place) (int_type : IntType) (step : IncrementOp) (spot : Spot)
    (slot : ℕ)
    → EmitsPlace start old place spot (slot + 2)
    → Puts old n1 (slot + 1) (reading spot (slot_of_old step slot (slot + 1)))
    → Puts n1 n2 (slot + 1) (i.Count step int_type (slot_of_old step slot (slot + 1))
    (slot_of_new step slot (slot + 1)))
    → Puts n2 new (slot + 1) (writing spot (slot_of_new step slot (slot + 1)))
    → Emits start new (Count place int_type step) slot
count start old n1 n2 new place int_type step spot slot first p1 p2 p3 =
    let from = slot_of_old step slot (slot + 1) in
    let to = slot_of_new step slot (slot + 1) in
    let k1 = put_keeps old n1 (slot + 1) (reading spot from) p1 in
    let k2 = put_keeps n1 n2 (slot + 1) (i.Count step int_type from to) p2 in
    let k3 = put_keeps n2 new (slot + 1) (writing spot to) p3 in
    let from1 = keeps_on n1 n2 new k2 k3 in
    let last = keeps_on old n1 new k1 from1 in
    let e1 = put_one old n1 (slot + 1) (reading spot from) p1 in
    let e2 = put_one n1 n2 (slot + 1) (i.Count step int_type from to) p2 ∙ ap (λ (n : ℕ). n + 1) e1 in
    let e3 = put_one n2 new (slot + 1) (writing spot to) p3 ∙ ap (λ (n : ℕ). n + 1) e2 in
    record {
      keeps = keeps_on start old new first.keeps last;
      does = λ s of scene typed stands within.
          let s2 = stands_before s n2 new (end_of start) k3 stands in
          let s1 = stands_before s n1 n2 (end_of start) k2 s2 in
          let s0 = stands_before s old n1 (end_of start) k1 s1 in
          subst (λ (at : ℕ). DoesExpression s (Count place int_type step) (end_of start) at slot) (sym e3)
          (does_count s place int_type step spot (end_of start) (end_of old) slot scene
          (first.does s (vars.Integer int_type) scene (typed_counted typed) s0 (suits_before s old new last within))
          (put_within s old n1 (slot + 1) (reading spot from) scene p1 (suits_before s n1 new from1 within))
          (has_put s old n1 (end_of start) (slot + 1) (reading spot from) (first.keeps).longer p1 s1)
          (subst (λ (at : ℕ). HasAt s at (i.Count step int_type from to)) e1
          (has_put s n1 n2 (end_of start) (slot + 1) (i.Count step int_type from to)
          (omega (arith, (first.keeps).longer, k1.longer)) p2 s2))
          (subst (λ (at : ℕ). HasAt s at (writing spot to)) e2
          (has_put s n2 new (end_of start) (slot + 1) (writing spot to)
          (omega (arith, (first.keeps).longer, k1.longer, k2.longer)) p3 stands)));
    }
