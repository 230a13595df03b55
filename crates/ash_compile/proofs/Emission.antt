-- Emitted code, put together.
use Rattle.std.proofs.Common.{◌≡◌, ◌≤◌, ◌<◌, ℕ, zero, suc, ◌+◌, List, [], ◌∷◌, ◌++◌, length, refl, sym, ap, ◌∙◌, subst, arith, length-append}
use Rattle.std.specs.Prelude.{Some, slice_get}
use Rattle.ash_typed.specs.TypeOf.{ValueType}
use Rattle.ash_typed.specs.TypedTree.{Expr}
use Rattle.ash_typed.specs.SoundExpressions.{IsWellTyped}
use Rattle.ash_code.specs.declared.instruction.Instruction.{Instruction}
use Rattle.ash_compile.specs.declared.builder.Written.{Written}
use Rattle.ash_compile.specs.Stretches.{Has}
use Rattle.ash_compile.specs.declared.layout.Layout.{Layout}
use Rattle.ash_compile.specs.Layout.{IsLayout}
use Rattle.ash_compile.specs.Emission.{code_of, end_of, Keeps, Puts, Scene, IsScene, Suits, Good, Stands, DoesExpression, Emits}

-- lists

pub get_before : (xs ys : List Instruction) (k : ℕ) → k < length xs → slice_get (xs ++ ys) k ≡ slice_get xs k
get_before [] ys k low = absurd (omega (arith, low))
get_before (x ∷ xs) ys zero low = refl
get_before (x ∷ xs) ys (suc k) low = get_before xs ys k (omega (arith, low))

get_last : (xs : List Instruction) (i : Instruction) → slice_get (xs ++ i ∷ []) (length xs) ≡ Some i
get_last [] i = refl
get_last (x ∷ xs) i = get_last xs i

-- code that grows

pub keeps_itself : (old : Written) → Keeps old old
keeps_itself old = record { longer = omega arith; same = λ k low. refl; slots = omega arith; layout = refl }

pub keeps_on : (old mid new : Written) → Keeps old mid → Keeps mid new → Keeps old new
keeps_on old mid new first second = record {
  longer = omega (arith, first.longer, second.longer);
  same = λ k low. second.same k (omega (arith, low, first.longer)) ∙ first.same k low;
  slots = omega (arith, first.slots, second.slots);
  layout = second.layout ∙ first.layout;
}

pub put_one : (old new : Written) (slot : ℕ) (i : Instruction) → Puts old new slot i → end_of new ≡ end_of old + 1
put_one old new slot i puts = ap length puts.code ∙ length-append (code_of old) (i ∷ [])

pub put_keeps : (old new : Written) (slot : ℕ) (i : Instruction) → Puts old new slot i → Keeps old new
put_keeps old new slot i puts = record {
  longer = omega (arith, put_one old new slot i puts);
  same = λ k low. ap (λ (xs : List Instruction). slice_get xs k) puts.code ∙ get_before (code_of old) (i ∷ []) k low;
  slots = omega (arith, puts.slots);
  layout = puts.layout;
}

pub put_there : (old new : Written) (slot : ℕ) (i : Instruction) → Puts old new slot i
    → slice_get (code_of new) (end_of old) ≡ Some i
put_there old new slot i puts =
    ap (λ (xs : List Instruction). slice_get xs (end_of old)) puts.code ∙ get_last (code_of old) i

-- code that suits a scene

pub suits_before : (s : Scene) (mid new : Written) → Keeps mid new → Suits s new → Suits s mid
suits_before s mid new keeps suits = record {
  slots = omega (arith, keeps.slots, suits.slots);
  layout = subst (λ (l : Layout). IsLayout ((s.setting).code).module ((s.context).program).tree l) keeps.layout suits.layout;
}

pub put_greatest : (s : Scene) (old new : Written) (slot : ℕ) (i : Instruction) → Puts old new slot i → Suits s new
    → slot < s.greatest
put_greatest s old new slot i puts suits = omega (arith, puts.slots, suits.slots)

pub greatest_within : (s : Scene) → IsScene s → s.greatest ≤ s.room
greatest_within s scene = omega (arith, scene.roomy)

pub put_within : (s : Scene) (old new : Written) (slot : ℕ) (i : Instruction) → IsScene s → Puts old new slot i
    → Suits s new → slot < s.room
put_within s old new slot i scene puts suits =
    omega (arith, put_greatest s old new slot i puts suits, greatest_within s scene)

-- where code stands

-- An instruction of the function at a place.
abbrev pub HasAt : Scene → ℕ → Instruction → Type 0
HasAt s at i = Has s.setting (Good s) s.function s.room at i

pub stands_before : (s : Scene) (mid new : Written) (from : ℕ) → Keeps mid new
    → Stands s (code_of new) from (end_of new) → Stands s (code_of mid) from (end_of mid)
stands_before s mid new from keeps stands = λ k low high.
    stands k low (omega (arith, high, keeps.longer)) ∙ keeps.same k high

pub stands_after : (s : Scene) (code : List Instruction) (from mid to : ℕ) → from ≤ mid → Stands s code from to
    → Stands s code mid to
stands_after s code from mid to later stands = λ k low high. stands k (omega (arith, later, low)) high

pub has_put : (s : Scene) (old new : Written) (from slot : ℕ) (i : Instruction) → from ≤ end_of old
    → Puts old new slot i → Stands s (code_of new) from (end_of new) → HasAt s (end_of old) i
has_put s old new from slot i low puts stands =
    stands (end_of old) low (omega (arith, put_one old new slot i puts)) ∙ put_there old new slot i puts

-- expressions

-- one instruction
pub emits_one : (old new : Written) (e : Expr) (slot : ℕ) (i : Instruction) → Puts old new slot i
    → ((s : Scene) (of : ValueType) (from : ℕ) → IsScene s → IsWellTyped s.env e of → slot < s.room → HasAt s from i
    → DoesExpression s e from (from + 1) slot)
    → Emits old new e slot
emits_one old new e slot i puts does = record {
  keeps = put_keeps old new slot i puts;
  does = λ s of scene typed stands within.
      subst (λ (to : ℕ). DoesExpression s e (end_of old) to slot) (sym (put_one old new slot i puts))
      (does s of (end_of old) scene typed (put_within s old new slot i scene puts within)
      (has_put s old new (end_of old) slot i (omega arith) puts stands));
}

-- an expression, then an instruction with its value
pub emits_then : (start old new : Written) (e f : Expr) (slot : ℕ) (i : Instruction) → Emits start old e slot
    → Puts old new slot i
    → ((s : Scene) (of : ValueType) → IsWellTyped s.env f of → (inner : ValueType) × IsWellTyped s.env e inner)
    → ((s : Scene) (of : ValueType) (from at : ℕ) → IsScene s → IsWellTyped s.env f of
    → DoesExpression s e from at slot → HasAt s at i → DoesExpression s f from (at + 1) slot)
    → Emits start new f slot
emits_then start old new e f slot i first puts inner does = record {
  keeps = keeps_on start old new first.keeps (put_keeps old new slot i puts);
  does = λ s of scene typed stands within.
      subst (λ (to : ℕ). DoesExpression s f (end_of start) to slot) (sym (put_one old new slot i puts))
      (does s of (end_of start) (end_of old) scene typed
      (first.does s (inner s of typed).0 scene (inner s of typed).1
      (stands_before s old new (end_of start) (put_keeps old new slot i puts) stands)
      (suits_before s old new (put_keeps old new slot i puts) within))
      (has_put s old new (end_of start) slot i (first.keeps).longer puts stands));
}

-- two expressions, then an instruction with their values
pub emits_both : (start mid old new : Written) (a b f : Expr) (slot : ℕ) (i : Instruction) → Emits start mid a slot
    → Emits mid old b (slot + 1)
    → Puts old new slot i
    → ((s : Scene) (of : ValueType) → IsWellTyped s.env f of → (x : ValueType) × IsWellTyped s.env a x)
    → ((s : Scene) (of : ValueType) → IsWellTyped s.env f of → (x : ValueType) × IsWellTyped s.env b x)
    → ((s : Scene) (of : ValueType) (from between at : ℕ) → IsScene s → IsWellTyped s.env f of
    → DoesExpression s a from between slot → DoesExpression s b between at (slot + 1) → HasAt s at i
    → DoesExpression s f from (at + 1) slot)
    → Emits start new f slot
emits_both start mid old new a b f slot i first second puts left right does = record {
  keeps = keeps_on start mid new first.keeps (keeps_on mid old new second.keeps (put_keeps old new slot i puts));
  does = λ s of scene typed stands within.
      let last = put_keeps old new slot i puts in
      let later = keeps_on mid old new second.keeps last in
      subst (λ (to : ℕ). DoesExpression s f (end_of start) to slot) (sym (put_one old new slot i puts))
      (does s of (end_of start) (end_of mid) (end_of old) scene typed
      (first.does s (left s of typed).0 scene (left s of typed).1
      (stands_before s mid new (end_of start) later stands) (suits_before s mid new later within))
      (second.does s (right s of typed).0 scene (right s of typed).1
      (stands_after s (code_of old) (end_of start) (end_of mid) (end_of old) (first.keeps).longer
      (stands_before s old new (end_of start) last stands)) (suits_before s old new last within))
      (has_put s old new (end_of start) slot i (omega (arith, (first.keeps).longer, (second.keeps).longer)) puts stands));
}
