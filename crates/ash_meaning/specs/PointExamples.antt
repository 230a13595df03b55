-- Small modules whose meaning is computed: of objects that go with a full expression, with blocks and with a frame.
use Rattle.std.specs.Prelude.{ℕ, pos, List, [], ◌∷◌, codes, Option, Some, None}
use Rattle.ash_host.specs.Ints.{int_bytes}
use Rattle.ash_host.specs.Objects.{Host}
use Rattle.ash_tree.specs.declared.tree.statements.Label.TheVariants as labels
use Rattle.ash_integers.specs.declared.int_type.IntType.TheVariants as ints
use Rattle.ash_typed.specs.declared.types.VarType.{VarType}
use Rattle.ash_typed.specs.declared.tree.operations.Comparator.{Comparator}
use Rattle.ash_typed.specs.declared.tree.operations.Comparator.TheVariants as comparators
use Rattle.ash_typed.specs.declared.tree.operations.Operands.TheVariants as operands
use Rattle.ash_typed.specs.declared.tree.operations.Operation.TheVariants as operations
use Rattle.ash_typed.specs.declared.tree.operations.IncrementOp.TheVariants as steps
use Rattle.ash_typed.specs.declared.tree.operations.CallTarget.TheVariants as targets
use Rattle.ash_typed.specs.declared.tree.statements.Test.TheVariants as tests
use Rattle.ash_typed.specs.TypedTree.{Expr, Read, Operate, Assign, Count, Call, Place, exprs}
use Rattle.ash_typed.specs.StatementTree.{Stmt, Empty, Declare, Block, Repeat, declared_head, evaluated_head, For}
use Rattle.ash_typed.specs.StatementTree.{Loop, repeated, Switch, Break, stmts, Case, cases, labelled}
use Rattle.ash_typed.specs.Modules.{Function, Class}
use Rattle.ash_meaning.specs.Activity.{World}
use Rattle.ash_meaning.specs.Classes.{Program}
use Rattle.ash_meaning.specs.ExampleParts.{empty_world, int, number, local, global, variable, alone, returning}
use Rattle.ash_meaning.specs.ExampleParts.{evaluate, function, module_of, program, counter, new_counter, add, f, only}
use Rattle.ash_meaning.specs.ReleaseExamples.{declared, value_of_new}

-- parts

abbrev pub compare : Comparator → Expr → Expr → Expr
compare operator a b = Operate (operations.Compare operator (operands.Integers ints.Int)) a b

-- the local at this slot becomes greater by one
abbrev pub counted : ℕ → Expr
counted slot = Count (local slot int) ints.Int steps.IncrementAfter

-- `g();`, of the first function, which gives this
abbrev pub call_g : Option VarType → Stmt
call_g of = evaluate (Call (targets.Function 0 of) [] (exprs []))

-- a module with these functions, `g` and `f`
abbrev pub g_and_f : Function → List Stmt → Program
g_and_f g body = program (module_of [] [] (g ∷ function f None [] body ∷ []))

-- full expressions

-- `void f() { Counter(1); Counter(2); }`
abbrev pub after_each_statement : Program
after_each_statement = only None [] (evaluate (new_counter 1) ∷ evaluate (new_counter 2) ∷ [])

-- `class A { int a = Counter(1).value; int b = Counter(2).value; } void f() { A(); }`
abbrev pub after_each_member : Program
after_each_member = program (module_of (a ∷ []) [] (main ∷ []))
  where
    a : Class
    a = record {
      name = codes "A";
      line = 1;
      interfaces = [];
      fields = variable int (Some (value_of_new 1)) ∷ variable int (Some (value_of_new 2)) ∷ [];
      constructor = None;
      methods = [];
    }

    main : Function
    main = function f None [] (evaluate (Call (targets.Class 0) [] (exprs [])) ∷ [])

-- `void f() { int i = 0; while (Counter(1).value > i) i++; }`
abbrev pub after_each_turn : Program
after_each_turn = only None [] (zero ∷ Repeat 1 (repeated tests.First (Some above) [] (evaluate (counted 0))) ∷ [])
  where
    zero : Stmt
    zero = Declare 1 (variable int (Some (number 0)) ∷ [])

    above : Expr
    above = compare comparators.Greater (value_of_new 1) (Read (local 0 int))

-- `void f() { for (Counter(1); Counter(2).value == 0;) ; }`
abbrev pub after_a_head : Program
after_a_head =
    only None [] (For 1 (evaluated_head (new_counter 1)) (repeated tests.First (Some never) [] (Empty 1)) ∷ [])
  where
    never : Expr
    never = compare comparators.Equal (value_of_new 2) (number 0)

-- `void f() { for (int i = 0; i < 1; Counter(1), Counter(2), i++) ; }`
abbrev pub after_each_step : Program
after_each_step = only None [] (For 1 (declared_head (variable int (Some (number 0)) ∷ [])) once ∷ [])
  where
    below : Expr
    below = compare comparators.Less (Read (local 0 int)) (number 1)

    once : Loop
    once = repeated tests.First (Some below) (new_counter 1 ∷ new_counter 2 ∷ counted 0 ∷ []) (Empty 1)

-- `Counter@ g = Counter(1); void f() { @g = Counter(2); Counter@ b = Counter(3); }`
abbrev pub after_an_assignment : Program
after_an_assignment = program (module_of [] (alone (variable counter (Some (new_counter 1))) ∷ []) (main ∷ []))
  where
    main : Function
    main = function f None [] (evaluate (Assign (global 0 counter) (new_counter 2)) ∷ declared 3 ∷ [])

-- `int f() { Counter@ a = Counter(1); @a = @a; return a.add(1); }`
abbrev pub assigned_to_itself : Program
assigned_to_itself =
    only (Some int) [] (declared 1 ∷ evaluate (Assign a (Read a)) ∷ returning (add (Read a) 1) ∷ [])
  where
    a : Place
    a = local 0 counter

-- blocks

-- `void f() { switch (1) { case 1: { Counter@ a = Counter(1); { Counter@ b = Counter(2); break; } } }`
-- `Counter@ c = Counter(3); }`
abbrev pub after_a_switch : Program
after_a_switch = only None [] (Switch 1 ints.Int (number 1) (cases (one ∷ [])) ∷ declared 3 ∷ [])
  where
    inner : Stmt
    inner = Block 1 (stmts (declared 2 ∷ Break 1 ∷ []))

    one : Case
    one = labelled (labels.Case 1) (stmts (Block 1 (stmts (declared 1 ∷ inner ∷ [])) ∷ []))

-- frames

-- `int g() { Counter@ a = Counter(1); return Counter(2).value; } void f() { g(); }`
abbrev pub with_a_value : Program
with_a_value =
    g_and_f (function (codes "g") (Some int) [] (declared 1 ∷ returning (value_of_new 2) ∷ [])) (call_g (Some int) ∷ [])

-- `int g() { { Counter@ a = Counter(1); { Counter@ b = Counter(2); return 1; } } } void f() { g(); }`
abbrev pub from_blocks : Program
from_blocks = g_and_f (function (codes "g") (Some int) [] (outer ∷ [])) (call_g (Some int) ∷ [])
  where
    inner : Stmt
    inner = Block 1 (stmts (declared 2 ∷ returning (number 1) ∷ []))

    outer : Stmt
    outer = Block 1 (stmts (declared 1 ∷ inner ∷ []))

-- `void g() { Counter@ a = Counter(1); Counter@ b = Counter(2); } void f() { g(); Counter@ c = Counter(3); }`
abbrev pub after_a_body : Program
after_a_body = g_and_f (function (codes "g") None [] (declared 1 ∷ declared 2 ∷ [])) (call_g None ∷ declared 3 ∷ [])

-- `void g(Counter@ h) {} void f() { g(Counter(1)); Counter@ b = Counter(2); }`
abbrev pub after_a_parameter : Program
after_a_parameter = g_and_f (function (codes "g") None (counter ∷ []) []) (called ∷ declared 2 ∷ [])
  where
    called : Stmt
    called = evaluate (Call (targets.Function 0 None) (counter ∷ []) (exprs (new_counter 1 ∷ [])))

-- worlds

-- a counter, which another module holds
abbrev pub held_outside : World
held_outside = record empty_world { outside = 1 ∷ []; objects = (1, Host 1 (int_bytes (pos 1))) ∷ []; last = 1 }
