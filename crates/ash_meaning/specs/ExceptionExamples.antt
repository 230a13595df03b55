-- Small modules whose meaning is computed: of exceptions in each form of phrase, and of what they leave.
use Rattle.std.specs.Prelude.{List, [], ◌∷◌, codes, Some, None}
use Rattle.ash_integers.specs.declared.int_type.IntType.TheVariants as ints
use Rattle.ash_typed.specs.declared.tree.operations.Calculator.TheVariants as calculators
use Rattle.ash_typed.specs.declared.tree.operations.Comparator.TheVariants as comparators
use Rattle.ash_typed.specs.declared.tree.operations.ObjectMember.TheVariants as members
use Rattle.ash_typed.specs.declared.tree.operations.CallTarget.TheVariants as targets
use Rattle.ash_typed.specs.declared.tree.statements.Test.{Test}
use Rattle.ash_typed.specs.declared.tree.statements.Test.TheVariants as tests
use Rattle.ash_typed.specs.TypedTree.{Expr, This, Assign, Call, Held, exprs}
use Rattle.ash_typed.specs.StatementTree.{Stmt, Empty, Declare, Block, If, no_branch, no_head, declared_head, Loop}
use Rattle.ash_typed.specs.StatementTree.{Evaluate, Repeat, For, repeated, Switch, stmts, cases}
use Rattle.ash_typed.specs.Modules.{Function, Class}
use Rattle.ash_meaning.specs.Classes.{Program}
use Rattle.ash_meaning.specs.ExampleParts.{int, handle_of_class, number, global, calculate, variable, alone, evaluate}
use Rattle.ash_meaning.specs.ExampleParts.{function, module_of, program, counter, new_counter, returning, f, only}
use Rattle.ash_meaning.specs.ReleaseExamples.{declared, value_of_new}
use Rattle.ash_meaning.specs.ControlExamples.{failing, constructing}
use Rattle.ash_meaning.specs.PointExamples.{compare}

-- statements on lines; the function is on line 1

-- `void f()` with a statement after another one on line 2
abbrev pub after_line_2 : Stmt → Program
after_line_2 s = only None [] (Empty 2 ∷ s ∷ [])

-- `1 / 0 == 0`
abbrev pub failing_test : Expr
failing_test = compare comparators.Equal failing (number 0)

-- a loop with that condition, and `;` on line 4
abbrev pub failing_loop : Test → Loop
failing_loop test = repeated test (Some failing_test) [] (Empty 4)

-- `int a = 1 / 0;`
abbrev pub in_a_local : Program
in_a_local = after_line_2 (Declare 3 (variable int (Some failing) ∷ []))

-- `if (1 / 0 == 0)`, then `;`
abbrev pub in_an_if : Program
in_an_if = after_line_2 (If 3 failing_test (Empty 4) no_branch)

-- `do`, `;`, then `while (1 / 0 == 0);`
abbrev pub in_a_do : Program
in_a_do = after_line_2 (Repeat 3 (failing_loop tests.Last))

-- `for (; 1 / 0 == 0;)`, then `;`
abbrev pub in_a_for : Program
in_a_for = after_line_2 (For 3 no_head (failing_loop tests.First))

-- `for (int i = 1 / 0;;)`, then `;`
abbrev pub in_a_head : Program
in_a_head =
    after_line_2 (For 3 (declared_head (variable int (Some failing) ∷ [])) (repeated tests.First None [] (Empty 4)))

-- `switch (1 / 0) {}`
abbrev pub in_a_switch : Program
in_a_switch = after_line_2 (Switch 3 ints.Int failing (cases []))

-- objects

-- `class A { Counter@ c = Counter(1); A() { 1 / 0; } } void f() { A(); }`, on lines as `constructing` has them
abbrev pub after_a_member : Program
after_a_member = constructing (variable counter (Some (new_counter 1)) ∷ []) (Evaluate 4 failing ∷ [])

-- `class A { Counter@ c = Counter(1); int k = 1 / 0; A() {} } void f() { A(); }`
abbrev pub in_a_second_member : Program
in_a_second_member = constructing (variable counter (Some (new_counter 1)) ∷ variable int (Some failing) ∷ []) []

-- `class A { A(int k) {} } void f() { A(1 / 0); }`
abbrev pub before_a_construction : Program
before_a_construction = program (module_of (a ∷ []) [] (main ∷ []))
  where
    a : Class
    a = record {
      name = codes "A";
      line = 1;
      interfaces = [];
      fields = [];
      constructor = Some (function (codes "A") None (int ∷ []) []);
      methods = [];
    }

    main : Function
    main = function f None [] (evaluate (Call (targets.Class 0) (int ∷ []) (exprs (failing ∷ []))) ∷ [])

-- `void f() { Counter(1 / 0); }`
abbrev pub before_a_draw : Program
before_a_draw = only None [] (evaluate (Call (targets.Host 1) (int ∷ []) (exprs (failing ∷ []))) ∷ [])

-- `class A { int k; A() { @g = this; k = 1; 1 / 0; } } A@ g; void f() { A(); }`
abbrev pub escaped : Program
escaped = program (module_of (a ∷ []) (alone (variable (handle_of_class 0) None) ∷ []) (main ∷ []))
  where
    body : List Stmt
    body =
        evaluate (Assign (global 0 (handle_of_class 0)) (This 0))
        ∷ evaluate (Assign (Held (This 0) (members.Field 0 0 int)) (number 1))
        ∷ evaluate failing
        ∷ []

    a : Class
    a = record {
      name = codes "A";
      line = 1;
      interfaces = [];
      fields = variable int None ∷ [];
      constructor = Some (function (codes "A") None [] body);
      methods = [];
    }

    main : Function
    main = function f None [] (evaluate (Call (targets.Class 0) [] (exprs [])) ∷ [])

-- `void f() { if (Counter(1).value / 0 == 1) ; }`
abbrev pub with_a_condition : Program
with_a_condition = only None [] (If 1 (compare comparators.Equal by_zero (number 1)) (Empty 1) no_branch ∷ [])
  where
    by_zero : Expr
    by_zero = calculate calculators.Divide (value_of_new 1) (number 0)

-- `void f() { for (Counter@ h = Counter(1);; 1 / 0) { Counter@ b = Counter(2); } }`
abbrev pub with_a_head : Program
with_a_head = only None [] (For 1 (declared_head (variable counter (Some (new_counter 1)) ∷ [])) turn ∷ [])
  where
    turn : Loop
    turn = repeated tests.First None (failing ∷ []) (Block 1 (stmts (declared 2 ∷ [])))

-- globals

-- `int n = 0; void f() { n = 1; n = 1 / 0; }`
abbrev pub written_before : Program
written_before = program (module_of [] (alone (variable int (Some (number 0))) ∷ []) (main ∷ []))
  where
    main : Function
    main =
        function f None []
        (evaluate (Assign (global 0 int) (number 1)) ∷ evaluate (Assign (global 0 int) failing) ∷ [])

-- `int a = f(); int f() { return 1 / 0; }`
abbrev pub in_a_call_of_a_global : Program
in_a_call_of_a_global = program (module_of [] (alone (variable int (Some called)) ∷ []) (main ∷ []))
  where
    called : Expr
    called = Call (targets.Function 0 (Some int)) [] (exprs [])

    main : Function
    main = function f (Some int) [] (returning failing ∷ [])
