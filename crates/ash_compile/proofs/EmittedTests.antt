-- Emitted code of conditions that compare integers.
use Rattle.std.proofs.Common.{◌≡◌, ◌⊎◌, ℕ, ◌+◌, length, refl, sym, ap, ◌∙◌, subst, arith}
use Rattle.std.specs.Prelude.{Option, slice_index_or}
use Rattle.ash_host.specs.declared.word.Word.{Word}
use Rattle.ash_host.specs.declared.word.Word.TheVariants as words
use Rattle.ash_integers.specs.declared.comparison.Comparison.{Comparison}
use Rattle.ash_integers.specs.Integers.{number_of, compared}
use Rattle.ash_typed.specs.declared.types.VarType.TheVariants as vars
use Rattle.ash_typed.specs.declared.tree.operations.Comparator.{Comparator}
use Rattle.ash_typed.specs.declared.tree.operations.Operands.TheVariants as operands
use Rattle.ash_typed.specs.declared.tree.operations.Operation.{Operation}
use Rattle.ash_typed.specs.declared.tree.operations.Operation.TheVariants as operations
use Rattle.ash_typed.specs.declared.tree.expressions.ExprKind.{ExprKind}
use Rattle.ash_typed.specs.TypedTreeViews.{expr_in}
use Rattle.ash_typed.specs.TypeOf.{value}
use Rattle.ash_typed.specs.TypedTree.{Expr, Operate}
use Rattle.ash_typed.specs.SoundExpressions.{IsWellTyped}
use Rattle.ash_typed.specs.SoundStatements.{MayBeSoundCondition}
use Rattle.ash_meaning.specs.Runs.{◌>>=◌, ◌>>◌}
use Rattle.ash_meaning.specs.Frames.{tick}
use Rattle.ash_meaning.specs.OperatorMeaning.{holds_of_numbers, operate}
use Rattle.ash_meaning.specs.ExpressionMeaning.{expression}
use Rattle.ash_meaning.specs.StatementMeaning.{condition, condition_or_true}
use Rattle.ash_code.specs.declared.instruction.Instruction.{Instruction}
use Rattle.ash_code.specs.declared.instruction.Instruction.TheVariants as i
use Rattle.ash_compile.specs.declared.builder.Written.{Written}
use Rattle.ash_compile.specs.declared.bodies.Branch.{Branch}
use Rattle.ash_compile.specs.declared.bodies.Condition.TheVariants as conditions
use Rattle.ash_compile.specs.Performances.{Decides}
use Rattle.ash_compile.specs.Emission.{code_of, end_of, Keeps, Puts, Scene, IsScene, Good, Stands, calls_of}
use Rattle.ash_compile.specs.Operands.{EmitsIn, IsSimple, ComparesBy, Compares}
use Rattle.ash_compile.specs.Operands as simple
use Rattle.ash_compile.specs.EmittedStatements.{Tests, NextTurn}
use Rattle.ash_compile.proofs.Emission.{HasAt, keeps_on, put_keeps, put_one, suits_before, stands_before, stands_after}
use Rattle.ash_compile.proofs.Emitted.{typed_left, typed_right}
use Rattle.ash_compile.proofs.Operands.{DoesIn, unmoved, reads_there}
use Rattle.ash_compile.proofs.Simulation.{then_is}
use Rattle.ash_compile.proofs.Typed.{stays_good}
use Rattle.ash_compile.proofs.TypedStatements.{ranked_of}
use Rattle.ash_compile.proofs.StatementCode.{ranks_after, ticked, does_back}
use Rattle.ash_compile.proofs.ComparisonCode as code

-- what the code's tree stands for
pub of_kind : (old new : Written) (k l : ExprKind) (e : Expr) (slot : ℕ) (branch : Branch) → k ≡ l → expr_in l ≡ e
    → Tests old new e slot branch → Tests old new (expr_in k) slot branch
of_kind old new k l e slot branch is means tests =
    subst (λ (x : Expr). Tests old new x slot branch) (sym (ap expr_in is ∙ means)) tests

tells : (comparator : Comparator) (comparison : Comparison) (l r : Word) → ComparesBy comparator comparison
    → holds_of_numbers comparator (number_of l) (number_of r) ≡ compared comparison (number_of l) (number_of r)
tells _ _ l r ComparesBy.less = refl
tells _ _ l r ComparesBy.less_or_equal = refl
tells _ _ l r ComparesBy.greater = refl
tells _ _ l r ComparesBy.greater_or_equal = refl
tells _ _ l r ComparesBy.equal = refl
tells _ _ l r ComparesBy.not_equal = refl

does_comparison : (s : Scene) (o : Operation) (comparison : Comparison) (a b : Expr) (from mid at left right unmet : ℕ)
    → IsScene s → IsWellTyped s.env (Operate o a b) (value vars.Bool)
    → Compares o comparison
    → DoesIn s (expression (calls_of s) a) from mid (length (s.env).locals) left
    → DoesIn s (expression (calls_of s) b) mid at (length (s.env).locals + 1) right
    → HasAt s at (i.BranchUnless comparison left right unmet)
    → (left ≡ length (s.env).locals) ⊎ IsSimple b
    → Decides s.setting (Good s) s.function s.room (condition (calls_of s) (Operate o a b)) from (at + 1) unmet
    (length (s.env).locals)
does_comparison s _ comparison a b from mid at left right unmet scene typed
    (simple.Compares.compares {comparator = comparator} {int_type = t} by) first second has stays =
    code.compares s.setting (Good s) s.function s.room comparison (expression (calls_of s) a) (expression (calls_of s) b)
    (λ l r. words.Bool (holds_of_numbers comparator (number_of l) (number_of r))) from mid at left right unmet
    (length (s.env).locals) first second has
    (λ x y v good ran. stays_good s a (typed_left typed).0 x y v scene (typed_left typed).1 good ran)
    (unmoved s b left (length (s.env).locals) stays)
    (ranks_after s scene (ranked_of s scene) (Operate (operations.Compare comparator (operands.Integers t)) a b)
    (value vars.Bool) typed)
    (λ l r. tells comparator comparison l r by)

pub comparison_tests : (start mid old new : Written) (o : Operation) (comparison : Comparison) (a b : Expr)
    (slot left right at : ℕ) {pending : ℕ}
    → EmitsIn start mid a slot left → EmitsIn mid old b (slot + 1) right
    → Puts old new slot (i.BranchUnless comparison left right pending)
    → Compares o comparison → (left ≡ slot) ⊎ IsSimple b → at ≡ end_of old
    → Tests start new (Operate o a b) slot (record { at = at; condition = conditions.Comparison comparison left right })
comparison_tests start mid old new o comparison a b slot left right at {pending} first second puts by stays at_is =
    record {
      keeps = keeps_on start mid new first.keeps later;
      later = omega (arith, at_is, (first.keeps).longer, (second.keeps).longer);
      end = one ∙ ap (λ (n : ℕ). n + 1) (sym at_is);
      does = λ s unmet scene is typed stands has suits.
          let early : Stands s (code_of old) (end_of start) (end_of old)
          = λ k low high. stands k low (omega (arith, high, at_is)) ∙ last.same k high in
          subst (λ (to : ℕ). Decides s.setting (Good s) s.function s.room (condition (calls_of s) (Operate o a b)) (end_of start) to
          unmet (length (s.env).locals)) (sym one)
          (does_comparison s o comparison a b (end_of start) (end_of mid) (end_of old) left right unmet scene typed by
          (subst (λ (n : ℕ). DoesIn s (expression (calls_of s) a) (end_of start) (end_of mid) n left) is
          (first.does s (typed_left typed).0 scene (typed_left typed).1
          (stands_before s mid old (end_of start) second.keeps early) (suits_before s mid new later suits)))
          (subst (λ (n : ℕ). DoesIn s (expression (calls_of s) b) (end_of mid) (end_of old) (n + 1) right) is
          (second.does s (typed_right typed).0 scene (typed_right typed).1
          (stands_after s (code_of old) (end_of start) (end_of mid) (end_of old) (first.keeps).longer early)
          (suits_before s old new last suits)))
          (subst (λ (n : ℕ). HasAt s n (i.BranchUnless comparison left right unmet)) at_is has)
          (subst (λ (n : ℕ). (left ≡ n) ⊎ IsSimple b) is stays));
    }
  where
    one : end_of new ≡ end_of old + 1
    one = put_one old new slot (i.BranchUnless comparison left right pending) puts

    last : Keeps old new
    last = put_keeps old new slot (i.BranchUnless comparison left right pending) puts

    later : Keeps mid new
    later = keeps_on mid old new second.keeps last

-- The next turn of a loop has its tick and its condition: the code leads back to that, or compares two locals again.
pub next_does : (s : Scene) (line : ℕ) (e : Option Expr) (back head inside out : ℕ) (j : Instruction) → IsScene s
    → MayBeSoundCondition s.env e → NextTurn e line head inside j → HasAt s back j → out ≡ back + 1
    → Decides s.setting (Good s) s.function s.room (condition_or_true (calls_of s) e) head inside out (length (s.env).locals)
    → Decides s.setting (Good s) s.function s.room (tick line >> condition_or_true (calls_of s) e) back inside out
    (length (s.env).locals)
next_does s line e back head inside out _ scene typed NextTurn.leads_back has out_is tests =
    does_back s scene (ranked_of s scene) line e back head inside out tests has
next_does s line _ back head inside out _ scene typed
    (NextTurn.compares {comparison = comparison} {left = left} {right = right}
    (simple.ComparesLocals.compares_locals {a = a} {b = b}
    (simple.Compares.compares {comparator = comparator} {int_type = t} by) reads_left reads_right)) has out_is tests =
    subst (λ (n : ℕ). Decides s.setting (Good s) s.function s.room
    (tick line >> condition (calls_of s) (Operate (operations.Compare comparator (operands.Integers t)) a b)) back inside n
    (length (s.env).locals)) (sym out_is)
    (code.repeats s.setting (Good s) s.function s.room comparison line back left right inside (length (s.env).locals)
    (expression (calls_of s) (Operate (operations.Compare comparator (operands.Integers t)) a b))
    (λ l r. words.Bool (holds_of_numbers comparator (number_of l) (number_of r))) has
    (ticked s scene (ranked_of s scene) line)
    (λ x good. (ranked_of s scene) s.env x good.0)
    (λ x good.
    let l = reads_there s a left (typed_left typed).0 x reads_left (typed_left typed).1 good in
    let r = reads_there s b right (typed_right typed).0 x reads_right (typed_right typed).1 good in
    then_is (expression (calls_of s) a x) (slice_index_or (x.frame).locals left words.Null) x
    (λ v. expression (calls_of s) b >>= operate (operations.Compare comparator (operands.Integers t)) v) _ l.1
    (then_is (expression (calls_of s) b x) (slice_index_or (x.frame).locals right words.Null) x
    (operate (operations.Compare comparator (operands.Integers t)) (slice_index_or (x.frame).locals left words.Null)) _ r.1
    refl))
    (λ x good. (reads_there s a left (typed_left typed).0 x reads_left (typed_left typed).1 good).0)
    (λ x good. (reads_there s b right (typed_right typed).0 x reads_right (typed_right typed).1 good).0)
    (λ l r. tells comparator comparison l r by))
