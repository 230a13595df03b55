-- Small modules whose meaning is computed: of integers, control and calls.
use Rattle.std.specs.Prelude.{ℕ, List, [], ◌∷◌, codes, true, false, Some, None}
use Rattle.ash_tree.specs.declared.tree.statements.Label.TheVariants as labels
use Rattle.ash_integers.specs.declared.int_type.IntType.TheVariants as ints
use Rattle.ash_typed.specs.declared.types.VarType.{VarType}
use Rattle.ash_typed.specs.declared.types.VarType.TheVariants as vars
use Rattle.ash_typed.specs.declared.tree.operations.ObjectMember.TheVariants as members
use Rattle.ash_typed.specs.declared.tree.operations.CallTarget.TheVariants as targets
use Rattle.ash_typed.specs.declared.tree.operations.Calculator.TheVariants as calculators
use Rattle.ash_typed.specs.declared.tree.operations.Comparator.{Comparator}
use Rattle.ash_typed.specs.declared.tree.operations.Comparator.TheVariants as comparators
use Rattle.ash_typed.specs.declared.tree.operations.Operands.TheVariants as operands
use Rattle.ash_typed.specs.declared.tree.operations.Operation.TheVariants as operations
use Rattle.ash_typed.specs.declared.tree.operations.Lazy.TheVariants as lazies
use Rattle.ash_typed.specs.declared.tree.operations.IncrementOp.TheVariants as steps
use Rattle.ash_typed.specs.declared.tree.statements.Test.TheVariants as tests
use Rattle.ash_typed.specs.TypedTree.{Expr, Truth, Read, Operate, Lazily, Conditional}
use Rattle.ash_typed.specs.TypedTree.{Assign, Update, Count, Call, Place, Held, exprs}
use Rattle.ash_typed.specs.StatementTree.{Return, Stmt, Declare, Block, If, no_branch, declared_head, Repeat, For}
use Rattle.ash_typed.specs.StatementTree.{repeated, Switch, Break, Continue, stmts, Case, cases, labelled}
use Rattle.ash_typed.specs.Modules.{Function, Class}
use Rattle.ash_meaning.specs.Classes.{Program}
use Rattle.ash_meaning.specs.ExampleParts.{int, handle_of_class, number, local, global, calculate}
use Rattle.ash_meaning.specs.ExampleParts.{variable, named, alone, returning, evaluate, function}
use Rattle.ash_meaning.specs.ExampleParts.{module_of, program, counter, counter_value, f, only}

-- `int f() { return 1 + 2; }`
abbrev pub sum : Program
sum = only (Some int) [] (returning (calculate calculators.Add (number 1) (number 2)) ∷ [])

-- `int f(int x, int y) { return x / y; }`
abbrev pub quotient : Program
quotient = only (Some int) (int ∷ int ∷ []) (returning
    (calculate calculators.Divide (Read (local 0 int)) (Read (local 1 int))) ∷ [])

-- `int f() { return f(); }`
abbrev pub endless : Program
endless = only (Some int) [] (returning (Call (targets.Function 0 (Some int)) [] (exprs [])) ∷ [])

-- `Counter@ g; int f() { return g.value; }`
abbrev pub through_null : Program
through_null = program (module_of [] (alone (named (codes "g") counter None) ∷ [])
    (function f (Some int) [] (returning (Read (counter_value (Read (global 0 counter)))) ∷ []) ∷ []))

-- `int f(int k) { switch (k) { case 1: k += 10; case 2: k += 100; break; default: k = 0; } return k; }`
abbrev pub falling : Program
falling = only (Some int) (int ∷ []) (Switch 1 ints.Int (Read k) (cases (one ∷ two ∷ other ∷ [])) ∷ returning (Read k)
    ∷ [])
  where
    k : Place
    k = local 0 int

    more : ℕ → Stmt
    more n = evaluate (Update k ints.Int (record { operator = calculators.Add; of = ints.Int }) (number n))

    one : Case
    one = labelled (labels.Case 1) (stmts (more 10 ∷ []))

    two : Case
    two = labelled (labels.Case 2) (stmts (more 100 ∷ Break 1 ∷ []))

    other : Case
    other = labelled labels.Default (stmts (evaluate (Assign k (number 0)) ∷ []))

-- `class P { int v; } P@ o = P(); int n = 0; P@ pick() { n = n * 10 + 1; return o; }`
-- `int next() { n = n * 10 + 2; return n; } int f() { pick().v = next(); return n; }`
abbrev pub right_side_first : Program
right_side_first = program (module_of (p ∷ [])
    (alone (named (codes "o") handle (Some (Call (targets.Class 0) [] (exprs []))))
    ∷ alone (named (codes "n") int (Some (number 0))) ∷ []) (pick ∷ next ∷ main ∷ []))
  where
    handle : VarType
    handle = handle_of_class 0

    p : Class
    p = record {
      name = codes "P";
      line = 1;
      interfaces = [];
      fields = named (codes "v") int None ∷ [];
      constructor = None;
      methods = [];
    }

    n : Place
    n = global 1 int

    digit : ℕ → Stmt
    digit d = evaluate (Assign n (calculate calculators.Add (calculate calculators.Multiply (Read n) (number 10))
        (number d)))

    pick : Function
    pick = function (codes "pick") (Some handle) [] (digit 1 ∷ returning (Read (global 0 handle)) ∷ [])

    next : Function
    next = function (codes "next") (Some int) [] (digit 2 ∷ returning (Read n) ∷ [])

    main : Function
    main = function f (Some int) [] (evaluate (Assign
        (Held (Call (targets.Function 0 (Some handle)) [] (exprs [])) (members.Field 0 0 int))
        (Call (targets.Function 1 (Some int)) [] (exprs []))) ∷ returning (Read n) ∷ [])

-- `int f() { int s = 0; for (int i = 0; i < 5; i++) { if (i == 1) continue; if (i == 3) break; s += i; } return s; }`
abbrev pub looping : Program
looping = only (Some int) [] (Declare 1 (variable int (Some (number 0)) ∷ [])
    ∷ For 1 (declared_head (variable int (Some (number 0)) ∷ []))
    (repeated tests.First (Some (compare comparators.Less 5)) (Count i ints.Int steps.IncrementAfter ∷ [])
    (Block 1 (stmts inside))) ∷ returning (Read s) ∷ [])
  where
    s : Place
    s = local 0 int

    i : Place
    i = local 1 int

    compare : Comparator → ℕ → Expr
    compare operator n = Operate (operations.Compare operator (operands.Integers ints.Int)) (Read i) (number n)

    inside : List Stmt
    inside = If 1 (compare comparators.Equal 1) (Continue 1) no_branch
        ∷ If 1 (compare comparators.Equal 3) (Break 1) no_branch
        ∷ evaluate (Update s ints.Int (record { operator = calculators.Add; of = ints.Int }) (Read i)) ∷ []

-- `int f() { int i = 0; do { i++; } while (i < 3); return i; }`
abbrev pub at_least_once : Program
at_least_once = only (Some int) [] (Declare 1 (variable int (Some (number 0)) ∷ [])
    ∷ Repeat 1 (repeated tests.Last (Some below) []
    (Block 1 (stmts (evaluate (Count i ints.Int steps.IncrementAfter) ∷ [])))) ∷ returning (Read i) ∷ [])
  where
    i : Place
    i = local 0 int

    below : Expr
    below = Operate (operations.Compare comparators.Less (operands.Integers ints.Int)) (Read i) (number 3)

-- `int n = 0; bool g() { n += 1; return true; } int h() { n += 1; return 1; }`
-- `int f() { bool b = false && g(); int k = false ? h() : 0; return n; }`
abbrev pub only_what_decides : Program
only_what_decides = program (module_of [] (record { line = 1; values = variable int (Some (number 0)) ∷ [] } ∷ [])
    (g ∷ h ∷ main ∷ []))
  where
    n : Place
    n = global 0 int

    more : Stmt
    more = evaluate (Update n ints.Int (record { operator = calculators.Add; of = ints.Int }) (number 1))

    g : Function
    g = function (codes "g") (Some vars.Bool) [] (more ∷ returning (Truth true) ∷ [])

    h : Function
    h = function (codes "h") (Some int) [] (more ∷ returning (number 1) ∷ [])

    both : Expr
    both = Lazily lazies.And (Truth false) (Call (targets.Function 0 (Some vars.Bool)) [] (exprs []))

    either : Expr
    either = Conditional (Truth false) (Call (targets.Function 1 (Some int)) [] (exprs [])) (number 0)

    main : Function
    main = function f (Some int) [] (Declare 1 (variable vars.Bool (Some both) ∷ [])
        ∷ Declare 1 (variable int (Some either) ∷ []) ∷ returning (Read n) ∷ [])

-- on five lines: `int f()`, `{`, `int a = 1, b = 2;`, `return a / (b - 2);`, `}`
abbrev pub on_lines : Program
on_lines = program (module_of [] [] (record {
  name = f;
  line = 1;
  result = Some int;
  parameters = [];
  body = stmts (Declare 3 (variable int (Some (number 1)) ∷ variable int (Some (number 2)) ∷ [])
      ∷ Return 4 (Some (calculate calculators.Divide (Read (local 0 int))
      (calculate calculators.Subtract (Read (local 1 int)) (number 2)))) ∷ []);
} ∷ []))

-- `int f(int x) { return x++ * 10 + ++x; }`
abbrev pub counting : Program
counting = only (Some int) (int ∷ []) (returning
    (calculate calculators.Add (calculate calculators.Multiply (Count x ints.Int steps.IncrementAfter) (number 10))
    (Count x ints.Int steps.Increment)) ∷ [])
  where
    x : Place
    x = local 0 int
