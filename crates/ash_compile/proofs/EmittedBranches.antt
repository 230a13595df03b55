-- Emitted code of expressions that branch. A jump forward is written again when its target is known.
use Rattle.std.proofs.Common.{◌≡◌, ◌≤◌, ◌<◌, ℕ, zero, suc, ◌+◌, List, [], ◌∷◌, length, refl, sym, ap, ◌∙◌, subst}
use Rattle.std.proofs.Common.{arith}
use Rattle.std.specs.Prelude.{Some, slice_get, slice_set}
use Rattle.std.proofs.lemmas.List.{length-set}
use Rattle.ash_typed.specs.declared.types.VarType.TheVariants as vars
use Rattle.ash_typed.specs.declared.tree.operations.Lazy.{Lazy}
use Rattle.ash_typed.specs.declared.tree.operations.Lazy.TheVariants as lazies
use Rattle.ash_typed.specs.TypeOf.{ValueType, value}
use Rattle.ash_typed.specs.TypedTree.{Expr, Lazily, Conditional}
use Rattle.ash_typed.specs.SoundExpressions as typing
use Rattle.ash_typed.specs.SoundExpressions.{TypedEnvironment, IsWellTyped}
use Rattle.ash_meaning.specs.ExpressionMeaning.{expression}
use Rattle.ash_code.specs.declared.instruction.Instruction.{Instruction}
use Rattle.ash_code.specs.declared.instruction.Instruction.TheVariants as i
use Rattle.ash_compile.specs.declared.builder.Written.{Written}
use Rattle.ash_compile.specs.declared.layout.Layout.{Layout}
use Rattle.ash_compile.specs.Layout.{IsLayout}
use Rattle.ash_compile.specs.Emission.{code_of, end_of, Keeps, Puts, Leads, lazy_jump, Scene, IsScene, Suits, Good, DoesExpression, Emits, calls_of}
use Rattle.ash_compile.proofs.Branches as run
use Rattle.ash_compile.proofs.Emission.{HasAt, keeps_on, put_keeps, put_one, suits_before}
use Rattle.ash_compile.proofs.Typed.{stays_good, evaluates, truth_is}

-- one instruction that is another one

get_same : (xs : List Instruction) (at : ℕ) (i : Instruction) → at < length xs → slice_get (slice_set xs at i) at ≡ Some i
get_same [] at i low = absurd (omega (arith, low))
get_same (x ∷ xs) zero i low = refl
get_same (x ∷ xs) (suc at) i low = get_same xs at i (omega (arith, low))

get_other : (xs : List Instruction) (at k : ℕ) (i : Instruction) → (k ≡ at → ⊥) → slice_get (slice_set xs at i) k ≡ slice_get xs k
get_other [] zero k i apart = refl
get_other [] (suc at) k i apart = refl
get_other (x ∷ xs) zero zero i apart = absurd (apart refl)
get_other (x ∷ xs) zero (suc k) i apart = refl
get_other (x ∷ xs) (suc at) zero i apart = refl
get_other (x ∷ xs) (suc at) (suc k) i apart = get_other xs at k i (λ is. apart (ap suc is))

pub leads_end : (old new : Written) (at : ℕ) (i : Instruction) → Leads old new at i → end_of new ≡ end_of old
leads_end old new at i leads = ap length leads.code ∙ length-set (code_of old) at i

pub leads_there : (old new : Written) (at : ℕ) (i : Instruction) → Leads old new at i → at < end_of old
    → slice_get (code_of new) at ≡ Some i
leads_there old new at i leads low = ap (λ (xs : List Instruction). slice_get xs at) leads.code ∙ get_same (code_of old) at i low

pub leads_other : (old new : Written) (at k : ℕ) (i : Instruction) → Leads old new at i → (k ≡ at → ⊥)
    → slice_get (code_of new) k ≡ slice_get (code_of old) k
leads_other old new at k i leads apart =
    ap (λ (xs : List Instruction). slice_get xs k) leads.code ∙ get_other (code_of old) at k i apart

pub leads_keeps : (start old new : Written) (at : ℕ) (i : Instruction) → Keeps start old → end_of start ≤ at
    → Leads old new at i → Keeps start new
leads_keeps start old new at i keeps later leads = record {
  longer = omega (arith, keeps.longer, leads_end old new at i leads);
  same = λ k low. leads_other old new at k i leads (λ is. omega (arith, is, low, later)) ∙ keeps.same k low;
  slots = omega (arith, keeps.slots, leads.slots);
  layout = leads.layout ∙ keeps.layout;
}

-- What leads elsewhere suits the same scenes.
pub suits_led : (s : Scene) (old new : Written) (at : ℕ) (i : Instruction) → Leads old new at i → Suits s new
    → Suits s old
suits_led s old new at i leads suits = record {
  slots = omega (arith, leads.slots, suits.slots);
  layout = subst (λ (l : Layout). IsLayout ((s.setting).code).module ((s.context).program).tree l) leads.layout suits.layout;
}

-- `&&` and `||`

typed_lazily : {env : TypedEnvironment} {op : Lazy} {a b : Expr} {t : ValueType} → IsWellTyped env (Lazily op a b) t
    → IsWellTyped env a (value vars.Bool) × IsWellTyped env b (value vars.Bool)
typed_lazily (typing.lazily x y) = (x, y)

does_lazily : (op : Lazy) (s : Scene) (a b : Expr) (from mid to slot : ℕ) → IsScene s → IsWellTyped s.env a (value vars.Bool)
    → DoesExpression s a from mid slot → HasAt s mid (lazy_jump op slot to) → DoesExpression s b (mid + 1) to slot
    → DoesExpression s (Lazily op a b) from to slot
does_lazily lazies.And s a b from mid to slot scene typed left has right =
    run.both_hold s.setting (Good s) s.function s.room (expression (calls_of s) a) (expression (calls_of s) b)
    from mid to slot left has right
    (λ x y v good ran. (
      stays_good s a (value vars.Bool) x y v scene typed good ran,
      truth_is v ((evaluates s a (value vars.Bool) x y v scene typed good ran).carried).value,
    ))
does_lazily lazies.Or s a b from mid to slot scene typed left has right =
    run.one_holds s.setting (Good s) s.function s.room (expression (calls_of s) a) (expression (calls_of s) b)
    from mid to slot left has right
    (λ x y v good ran. (
      stays_good s a (value vars.Bool) x y v scene typed good ran,
      truth_is v ((evaluates s a (value vars.Bool) x y v scene typed good ran).carried).value,
    ))

pub lazily : (start old put mid new : Written) (op : Lazy) (a b : Expr) (slot to : ℕ) (i : Instruction)
    → Emits start old a slot → Puts old put slot i → Emits put mid b slot → to ≡ end_of mid
    → Leads mid new (end_of old) (lazy_jump op slot to) → Emits start new (Lazily op a b) slot
lazily start old put mid new op a b slot to i first puts second is leads =
    let one = put_one old put slot i puts in
    let after = keeps_on old put mid (put_keeps old put slot i puts) second.keeps in
    let end = leads_end mid new (end_of old) (lazy_jump op slot to) leads in
    record {
      keeps = leads_keeps start mid new (end_of old) (lazy_jump op slot to)
          (keeps_on start old mid first.keeps after) (first.keeps).longer leads;
      does = λ s of scene typed stands within.
          does_lazily op s a b (end_of start) (end_of old) (end_of new) slot scene (typed_lazily typed).0
          (first.does s (value vars.Bool) scene (typed_lazily typed).0
          (λ k low high. stands k low (omega (arith, high, end, after.longer))
          ∙ leads_other mid new (end_of old) k (lazy_jump op slot to) leads (λ same. omega (arith, same, high))
          ∙ after.same k high)
          (suits_before s old mid after (suits_led s mid new (end_of old) (lazy_jump op slot to) leads within)))
          (stands (end_of old) (first.keeps).longer (omega (arith, end, one, (second.keeps).longer))
          ∙ leads_there mid new (end_of old) (lazy_jump op slot to) leads (omega (arith, one, (second.keeps).longer))
          ∙ ap (λ (n : ℕ). Some (lazy_jump op slot n)) (is ∙ sym end))
          (subst (λ (n : ℕ). DoesExpression s b n (end_of new) slot) one
          (subst (λ (n : ℕ). DoesExpression s b (end_of put) n slot) (sym end)
          (second.does s (value vars.Bool) scene (typed_lazily typed).1
          (λ k low high. stands k (omega (arith, (first.keeps).longer, one, low)) (omega (arith, high, end))
          ∙ leads_other mid new (end_of old) k (lazy_jump op slot to) leads (λ same. omega (arith, same, one, low)))
          (suits_led s mid new (end_of old) (lazy_jump op slot to) leads within))));
    }

-- `c ? a : b`

typed_condition : {env : TypedEnvironment} {c a b : Expr} {t : ValueType} → IsWellTyped env (Conditional c a b) t
    → IsWellTyped env c (value vars.Bool)
typed_condition (typing.choose c x y) = c
typed_condition (typing.choose_or_null c x y) = c
typed_condition (typing.null_or_choose c x y) = c

typed_then : {env : TypedEnvironment} {c a b : Expr} {t : ValueType} → IsWellTyped env (Conditional c a b) t
    → (of : ValueType) × IsWellTyped env a of
typed_then (typing.choose c x y) = (_, x)
typed_then (typing.choose_or_null c x y) = (_, x)
typed_then (typing.null_or_choose c x y) = (_, x)

typed_otherwise : {env : TypedEnvironment} {c a b : Expr} {t : ValueType} → IsWellTyped env (Conditional c a b) t
    → (of : ValueType) × IsWellTyped env b of
typed_otherwise (typing.choose c x y) = (_, y)
typed_otherwise (typing.choose_or_null c x y) = (_, y)
typed_otherwise (typing.null_or_choose c x y) = (_, y)

pub conditional : (start m1 p1 m2 p2 m3 q new : Written) (c a b : Expr) (slot to end : ℕ) (n j : Instruction)
    → Emits start m1 c slot → Puts m1 p1 slot n → Emits p1 m2 a slot → Puts m2 p2 slot j → Emits p2 m3 b slot
    → to ≡ end_of p2 → end ≡ end_of m3
    → Leads m3 q (end_of m1) (i.JumpUnless slot to) → Leads q new (end_of m2) (i.Jump end)
    → Emits start new (Conditional c a b) slot
conditional start m1 p1 m2 p2 m3 q new c a b slot to end n j first branch second jump third to_is end_is one two =
    let at1 = put_one m1 p1 slot n branch in
    let at2 = put_one m2 p2 slot j jump in
    let k2 = put_keeps m2 p2 slot j jump in
    let k3 = keeps_on m2 p2 m3 k2 third.keeps in
    let k1 = keeps_on m1 p1 m3 (put_keeps m1 p1 slot n branch) (keeps_on p1 m2 m3 second.keeps k3) in
    let e1 = leads_end m3 q (end_of m1) (i.JumpUnless slot to) one in
    let e2 = leads_end q new (end_of m2) (i.Jump end) two in
    let led : (s : Scene) → Suits s new → Suits s m3
    = λ s within. suits_led s m3 q (end_of m1) (i.JumpUnless slot to) one
    (suits_led s q new (end_of m2) (i.Jump end) two within) in
    let later : end_of m1 < end_of m2 = omega (arith, at1, (second.keeps).longer) in
    let other : (k : ℕ) → (k ≡ end_of m1 → ⊥) → (k ≡ end_of m2 → ⊥) → slice_get (code_of new) k ≡ slice_get (code_of m3) k
    = λ k x y. leads_other q new (end_of m2) k (i.Jump end) two y ∙ leads_other m3 q (end_of m1) k (i.JumpUnless slot to) one x in
    record {
      keeps = leads_keeps start q new (end_of m2) (i.Jump end)
          (leads_keeps start m3 q (end_of m1) (i.JumpUnless slot to) (keeps_on start m1 m3 first.keeps k1) (first.keeps).longer one)
          (omega (arith, (first.keeps).longer, later)) two;
      does = λ s of scene typed stands within.
          run.chooses s.setting (Good s) s.function s.room (expression (calls_of s) c) (expression (calls_of s) a)
          (expression (calls_of s) b) (end_of start) (end_of m1) (end_of m2) (end_of new) slot
          (first.does s (value vars.Bool) scene (typed_condition typed)
          (λ k low high. stands k low (omega (arith, high, e1, e2, k1.longer))
          ∙ other k (λ same. omega (arith, same, high)) (λ same. omega (arith, same, high, later)) ∙ k1.same k high)
          (suits_before s m1 m3 k1 (led s within)))
          (stands (end_of m1) (first.keeps).longer (omega (arith, e1, e2, later, k3.longer))
          ∙ leads_other q new (end_of m2) (end_of m1) (i.Jump end) two (λ same. omega (arith, same, later))
          ∙ leads_there m3 q (end_of m1) (i.JumpUnless slot to) one (omega (arith, later, k3.longer))
          ∙ ap (λ (x : ℕ). Some (i.JumpUnless slot x)) (to_is ∙ at2))
          (subst (λ (x : ℕ). DoesExpression s a x (end_of m2) slot) at1
          (second.does s (typed_then typed).0 scene (typed_then typed).1
          (λ k low high. stands k (omega (arith, (first.keeps).longer, at1, low)) (omega (arith, high, e1, e2, k3.longer))
          ∙ other k (λ same. omega (arith, same, at1, low)) (λ same. omega (arith, same, high)) ∙ k3.same k high)
          (suits_before s m2 m3 k3 (led s within))))
          (stands (end_of m2) (omega (arith, (first.keeps).longer, later)) (omega (arith, e1, e2, at2, (third.keeps).longer))
          ∙ leads_there q new (end_of m2) (i.Jump end) two (omega (arith, e1, at2, (third.keeps).longer))
          ∙ ap (λ (x : ℕ). Some (i.Jump x)) (end_is ∙ sym (e2 ∙ e1)))
          (subst (λ (x : ℕ). DoesExpression s b x (end_of new) slot) at2
          (subst (λ (x : ℕ). DoesExpression s b (end_of p2) x slot) (sym (e2 ∙ e1))
          (third.does s (typed_otherwise typed).0 scene (typed_otherwise typed).1
          (λ k low high. stands k (omega (arith, (first.keeps).longer, later, at2, low)) (omega (arith, high, e1, e2))
          ∙ other k (λ same. omega (arith, same, at2, later, low)) (λ same. omega (arith, same, at2, low)))
          (led s within))))
          (λ x y v good ran. stays_good s c (value vars.Bool) x y v scene (typed_condition typed) good ran);
    }
