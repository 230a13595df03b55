-- Small modules whose meaning is computed: of objects that go at each form of release point.
use Rattle.std.specs.Prelude.{ℕ, pos, List, [], ◌∷◌, codes, Some, None}
use Rattle.ash_host.specs.declared.word.Word.TheVariants as words
use Rattle.ash_host.specs.declared.answer.HostAnswer.TheVariants.{Value}
use Rattle.ash_host.specs.declared.event.Target.TheVariants as hosts
use Rattle.ash_host.specs.Calls as calls
use Rattle.ash_host.specs.Ints.{int_bytes}
use Rattle.ash_host.specs.Records.{HostRecord}
use Rattle.ash_tree.specs.declared.tree.statements.Label.TheVariants as labels
use Rattle.ash_integers.specs.declared.int_type.IntType.TheVariants as ints
use Rattle.ash_typed.specs.declared.tree.operations.Calculator.TheVariants as calculators
use Rattle.ash_typed.specs.declared.tree.operations.Comparator.TheVariants as comparators
use Rattle.ash_typed.specs.declared.tree.operations.ObjectMember.TheVariants as members
use Rattle.ash_typed.specs.declared.tree.operations.Operands.TheVariants as operands
use Rattle.ash_typed.specs.declared.tree.operations.Operation.TheVariants as operations
use Rattle.ash_typed.specs.declared.tree.operations.IncrementOp.TheVariants as steps
use Rattle.ash_typed.specs.declared.tree.operations.CallTarget.TheVariants as targets
use Rattle.ash_typed.specs.declared.tree.statements.Test.TheVariants as tests
use Rattle.ash_typed.specs.TypedTree.{Invoke, Expr, Null, This, Read, Operate, Assign, Count, Call, Place, Held, exprs}
use Rattle.ash_typed.specs.StatementTree.{Stmt, Declare, Block, If, no_branch, declared_head, For}
use Rattle.ash_typed.specs.StatementTree.{repeated, Switch, Continue, stmts, cases, labelled}
use Rattle.ash_typed.specs.Modules.{Function, Class}
use Rattle.ash_host.specs.Objects.{Host}
use Rattle.ash_typed.specs.declared.tree.operations.Method.TheVariants as methods
use Rattle.ash_meaning.specs.Activity.{World}
use Rattle.ash_meaning.specs.Classes.{Program}
use Rattle.ash_meaning.specs.ExampleParts.{empty_world, added, global, int, number, local, calculate, variable}
use Rattle.ash_meaning.specs.ExampleParts.{alone, returning, evaluate, function, module_of, program}
use Rattle.ash_meaning.specs.ExampleParts.{counter, new_counter, add, counter_value, f, only}

-- parts

-- `Counter@ x = Counter(n);`
abbrev pub declared : ℕ → Stmt
declared n = Declare 1 (variable counter (Some (new_counter n)) ∷ [])

-- a record of a read of the property of a counter
abbrev pub value_read : ℕ → ℕ → HostRecord
value_read object n =
    record {
      target = hosts.Object object;
      call = calls.Get 1;
      before = int_bytes (pos n);
      answer = Value (words.Int (pos n));
      after = int_bytes (pos n);
    }

-- `void f() { if (Counter(1).value == 1) {} Counter@ b = Counter(2); }`
abbrev pub after_a_condition : Program
after_a_condition = only None [] (If 1 (Operate (operations.Compare comparators.Equal (operands.Integers ints.Int))
    (Read (counter_value (new_counter 1))) (number 1)) (Block 1 (stmts [])) no_branch ∷ declared 2 ∷ [])

-- `void f() { { Counter@ a = Counter(1); { Counter@ b = Counter(2); } } Counter@ c = Counter(3); }`
abbrev pub after_blocks : Program
after_blocks = only None [] (Block 1 (stmts (declared 1 ∷ Block 1 (stmts (declared 2 ∷ [])) ∷ [])) ∷ declared 3 ∷ [])

-- `void f() { for (int i = 0; i < 2; i++) { Counter@ a = Counter(1); { Counter@ b = Counter(1); continue; } } }`
abbrev pub after_continue : Program
after_continue = only None [] (For 1 (declared_head (variable int (Some (number 0)) ∷ []))
    (repeated tests.First (Some below) (Count i ints.Int steps.IncrementAfter ∷ [])
    (Block 1 (stmts (declared 1 ∷ Block 1 (stmts (declared 1 ∷ Continue 1 ∷ [])) ∷ [])))) ∷ [])
  where
    i : Place
    i = local 0 int

    below : Expr
    below = Operate (operations.Compare comparators.Less (operands.Integers ints.Int)) (Read i) (number 2)

-- `Counter@ make() { Counter@ a = Counter(1); Counter@ b = Counter(2); return a; } void f() { make().add(1); }`
abbrev pub after_a_return : Program
after_a_return = program (module_of [] [] (make ∷ main ∷ []))
  where
    make : Function
    make = function (codes "make") (Some counter) [] (declared 1 ∷ declared 2 ∷ returning (Read (local 0 counter)) ∷ [])

    main : Function
    main = function f None [] (evaluate (add (Call (targets.Function 0 (Some counter)) [] (exprs [])) 1) ∷ [])

-- `void g() { Counter@ a = Counter(1); int x = 1 / 0; } void f() { Counter@ b = Counter(2); g(); }`
abbrev pub after_an_exception : Program
after_an_exception = program (module_of [] [] (g ∷ main ∷ []))
  where
    g : Function
    g = function (codes "g") None [] (declared 1 ∷ Declare 1
        (variable int (Some (calculate calculators.Divide (number 1) (number 0))) ∷ []) ∷ [])

    main : Function
    main = function f None [] (declared 2 ∷ evaluate (Call (targets.Function 0 None) [] (exprs [])) ∷ [])

-- `class A { Counter@ c = Counter(1); Counter@ d = Counter(2); A() { @c = null; } } void f() { A(); }`
abbrev pub in_a_construction : Program
in_a_construction = program (module_of (a ∷ []) []
    (function f None [] (evaluate (Call (targets.Class 0) [] (exprs [])) ∷ []) ∷ []))
  where
    body : List Stmt
    body = evaluate (Assign (Held (This 0) (members.Field 0 0 counter)) Null) ∷ []

    a : Class
    a = record {
      name = codes "A";
      line = 1;
      interfaces = [];
      fields = variable counter (Some (new_counter 1)) ∷ variable counter (Some (new_counter 2)) ∷ [];
      constructor =
          Some (function (codes "A") None [] body);
      methods = [];
    }

-- `int two(Counter@ h, int k) { return k; } int use() { Counter@ b = Counter(2); return 1; }`
-- `void f() { Counter@ a = Counter(1); two(@a = null, use()); }`
abbrev pub overwritten : Program
overwritten = program (module_of [] [] (two ∷ use_one ∷ main ∷ []))
  where
    two : Function
    two = function (codes "two") (Some int) (counter ∷ int ∷ []) (returning (Read (local 1 int)) ∷ [])

    use_one : Function
    use_one = function (codes "use") (Some int) [] (declared 2 ∷ returning (number 1) ∷ [])

    main : Function
    main = function f None [] (declared 1 ∷ evaluate
        (Call (targets.Function 0 (Some int)) (counter ∷ int ∷ [])
        (exprs (Assign (local 0 counter) Null ∷ Call (targets.Function 1 (Some int)) [] (exprs []) ∷ []))) ∷ [])

-- `Counter@ g = Counter(1); int clear() { @g = null; return 1; } int f() { return g.add(clear()); }`
abbrev pub read_before : Program
read_before = program (module_of [] (record { line = 1; values = variable counter (Some (new_counter 1)) ∷ [] } ∷ [])
    (clear ∷ main ∷ []))
  where
    clear : Function
    clear = function (codes "clear") (Some int) []
        (evaluate (Assign (global 0 counter) Null) ∷ returning (number 1) ∷ [])

    main : Function
    main = function f (Some int) [] (returning (Invoke (Read (global 0 counter)) (methods.Host 1 (Some int)) (int ∷ [])
        (exprs (Call (targets.Function 0 (Some int)) [] (exprs []) ∷ []))) ∷ [])

-- `Counter(n).value`
abbrev pub value_of_new : ℕ → Expr
value_of_new n = Read (counter_value (new_counter n))

-- `void f() { switch (Counter(1).value) { case 1: Counter(2); } }`
abbrev pub after_a_switch_value : Program
after_a_switch_value =
    only None [] (Switch 1 ints.Int (value_of_new 1)
    (cases (labelled (labels.Case 1) (stmts (evaluate (new_counter 2) ∷ [])) ∷ [])) ∷ [])

-- `void f() { int a = Counter(1).value, b = Counter(2).value; }`
abbrev pub after_each_variable : Program
after_each_variable =
    only None [] (Declare 1 (variable int (Some (value_of_new 1)) ∷ variable int (Some (value_of_new 2)) ∷ []) ∷ [])

-- `int a = Counter(1).value; int b = Counter(2).value;`
abbrev pub after_each_global : Program
after_each_global = program (module_of [] (alone (variable int (Some (value_of_new 1)))
    ∷ alone (variable int (Some (value_of_new 2))) ∷ []) [])

-- `int two(Counter@ h, int k) { return k; } void f() { two(Counter(1), 1 / 0); }`
abbrev pub held_by_an_argument : Program
held_by_an_argument = program (module_of [] [] (two ∷ main ∷ []))
  where
    two : Function
    two = function (codes "two") (Some int) (counter ∷ int ∷ []) (returning (Read (local 1 int)) ∷ [])

    main : Function
    main = function f None [] (evaluate (Call (targets.Function 0 (Some int)) (counter ∷ int ∷ [])
        (exprs (new_counter 1 ∷ calculate calculators.Divide (number 1) (number 0) ∷ []))) ∷ [])

-- the world that `read_before` is called in
abbrev pub one_counter : World
one_counter = record empty_world {
  globals = words.Object 1 ∷ [];
  objects = (1, Host 1 (int_bytes (pos 1))) ∷ [];
  last = 1;
  answers = added 1 1 1 2 ∷ [];
}
