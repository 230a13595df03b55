-- Small modules whose meaning is computed: of jumps in nested statements, and of where exceptions are raised.
use Rattle.std.specs.Prelude.{ℕ, List, [], ◌∷◌, codes, Some, None}
use Rattle.ash_tree.specs.declared.tree.statements.Label.TheVariants as labels
use Rattle.ash_integers.specs.declared.int_type.IntType.TheVariants as ints
use Rattle.ash_typed.specs.declared.tree.operations.CallTarget.TheVariants as targets
use Rattle.ash_typed.specs.declared.tree.operations.Calculator.TheVariants as calculators
use Rattle.ash_typed.specs.declared.tree.operations.Comparator.TheVariants as comparators
use Rattle.ash_typed.specs.declared.tree.operations.Operands.TheVariants as operands
use Rattle.ash_typed.specs.declared.tree.operations.Operation.TheVariants as operations
use Rattle.ash_typed.specs.declared.tree.operations.IncrementOp.TheVariants as steps
use Rattle.ash_typed.specs.declared.tree.statements.Test.TheVariants as tests
use Rattle.ash_typed.specs.TypedTree.{Expr, Read, Operate, Update, Count, Call, Place, exprs}
use Rattle.ash_typed.specs.StatementTree.{Initialization, Stmt, Empty, Declare, Evaluate, Block, declared_head, no_head}
use Rattle.ash_typed.specs.StatementTree.{Repeat, For, repeated, Switch, Break, Continue, stmts, Case, cases, labelled}
use Rattle.ash_typed.specs.Modules.{Function, Class}
use Rattle.ash_meaning.specs.Classes.{Program}
use Rattle.ash_meaning.specs.ExampleParts.{int, number, local, calculate, variable, returning}
use Rattle.ash_meaning.specs.ExampleParts.{evaluate, function, module_of, program, f, only}

-- parts

abbrev pub failing : Expr
failing = calculate calculators.Divide (number 1) (number 0)

-- the first local, and `n += k;`
abbrev pub n : Place
n = local 0 int

abbrev pub more : ℕ → Stmt
more k = evaluate (Update n ints.Int (record { operator = calculators.Add; of = ints.Int }) (number k))

abbrev pub counted : ℕ → Stmt
counted k = Declare 1 (variable int (Some (number k)) ∷ [])

abbrev pub case_of : ℕ → List Stmt → Case
case_of k ss = labelled (labels.Case k) (stmts ss)

-- `for (int i = 0; i < 3; i++)`, with `i` the second local
abbrev pub three_times : Stmt → Stmt
three_times body = For 1 (declared_head (variable int (Some (number 0)) ∷ []))
    (repeated tests.First (Some below) (Count i ints.Int steps.IncrementAfter ∷ []) body)
  where
    i : Place
    i = local 1 int

    below : Expr
    below = Operate (operations.Compare comparators.Less (operands.Integers ints.Int)) (Read i) (number 3)

-- `int f() { int n = 0; switch (1) { case 1: switch (2) { case 2: break; } n += 1; case 3: n += 10; } return n; }`
abbrev pub inner_switch : Program
inner_switch = only (Some int) [] (counted 0 ∷ Switch 1 ints.Int (number 1)
    (cases (case_of 1 (Switch 1 ints.Int (number 2) (cases (case_of 2 (Break 1 ∷ []) ∷ [])) ∷ more 1 ∷ [])
    ∷ case_of 3 (more 10 ∷ []) ∷ [])) ∷ returning (Read n) ∷ [])

-- `int f() { int n = 0; for (int i = 0; i < 3; i++) { switch (i) { case 1: continue; } n += 1; } return n; }`
abbrev pub continue_in_a_switch : Program
continue_in_a_switch =
    only (Some int) [] (counted 0 ∷ three_times (Block 1
    (stmts (Switch 1 ints.Int (Read (local 1 int)) (cases (case_of 1 (Continue 1 ∷ []) ∷ [])) ∷ more 1 ∷ [])))
    ∷ returning (Read n) ∷ [])

-- `int f() { int n = 0; for (int i = 0; i < 3; i++) { switch (i) { case 1: break; } n += 1; } return n; }`
abbrev pub break_in_a_switch : Program
break_in_a_switch = only (Some int) [] (counted 0
    ∷ three_times
    (Block 1 (stmts (Switch 1 ints.Int (Read (local 1 int)) (cases (case_of 1 (Break 1 ∷ []) ∷ [])) ∷ more 1 ∷ [])))
    ∷ returning (Read n) ∷ [])

-- `int f() { int n = 0; for (int i = 0; i < 3; i++) { for (int i = 0; i < 3; i++) { n += 1; break; } } return n; }`,
-- where the inner `i` is the third local
abbrev pub break_of_the_inner_loop : Program
break_of_the_inner_loop =
    only (Some int) [] (counted 0 ∷ three_times (Block 1
    (stmts (For 1 (declared_head (variable int (Some (number 0)) ∷ []))
    (repeated tests.First (Some below) (Count i ints.Int steps.IncrementAfter ∷ [])
    (Block 1 (stmts (more 1 ∷ Break 1 ∷ [])))) ∷ []))) ∷ returning (Read n) ∷ [])
  where
    i : Place
    i = local 2 int

    below : Expr
    below = Operate (operations.Compare comparators.Less (operands.Integers ints.Int)) (Read i) (number 3)

-- `class A {` with fields and a constructor, and `void f() { A(); }`; the class is on line 2, and the function on line
-- 1
abbrev pub constructing : List Initialization → List Stmt → Program
constructing fields body =
    program (module_of (a ∷ []) [] (function f None [] (evaluate (Call (targets.Class 0) [] (exprs [])) ∷ []) ∷ []))
  where
    a : Class
    a = record {
      name = codes "A";
      line = 2;
      interfaces = [];
      fields = fields;
      constructor = Some (record { name = codes "A"; line = 3; result = None; parameters = []; body = stmts body });
      methods = [];
    }

-- `int k = 1 / 0;` among the fields
abbrev pub failing_field : Program
failing_field = constructing (variable int (Some failing) ∷ []) []

-- `1 / 0;` on line 4 of the constructor
abbrev pub failing_constructor : Program
failing_constructor = constructing [] (Evaluate 4 failing ∷ [])

-- `int g(int k) { return k; } int f() { return g(1 / 0); }`
abbrev pub failing_argument : Program
failing_argument = program (module_of [] [] (main ∷ g ∷ []))
  where
    g : Function
    g = function (codes "g") (Some int) (int ∷ []) (returning (Read (local 0 int)) ∷ [])

    main : Function
    main = function f (Some int) [] (returning (Call (targets.Function 1 (Some int)) (int ∷ []) (exprs (failing ∷ [])))
        ∷ [])

-- on three lines: `void f() {`, `while (1 / 0 == 0)`, `; }`
abbrev pub failing_condition : Program
failing_condition = only None [] (Repeat 2 (repeated tests.First
    (Some (Operate (operations.Compare comparators.Equal (operands.Integers ints.Int)) failing (number 0))) []
    (Empty 3)) ∷ [])

-- on three lines: `void f() {`, `for (;; 1 / 0)`, `; }`
abbrev pub failing_step : Program
failing_step = only None [] (For 2 no_head (repeated tests.First None (failing ∷ []) (Empty 3)) ∷ [])
