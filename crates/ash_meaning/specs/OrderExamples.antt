-- Small modules whose meaning is computed: of the order in which phrases are computed, and of what a call runs.
use Rattle.std.specs.Prelude.{ℕ, List, [], ◌∷◌, Bool, codes, map, true, Some, None}
use Rattle.ash_integers.specs.declared.int_type.IntType.TheVariants as ints
use Rattle.ash_typed.specs.declared.types.ObjectType.TheVariants as objects
use Rattle.ash_typed.specs.declared.types.VarType.{VarType}
use Rattle.ash_typed.specs.declared.types.VarType.TheVariants as vars
use Rattle.ash_typed.specs.declared.tree.operations.ObjectMember.TheVariants as members
use Rattle.ash_typed.specs.declared.tree.operations.Method.TheVariants as methods
use Rattle.ash_typed.specs.declared.tree.operations.CallTarget.TheVariants as targets
use Rattle.ash_typed.specs.declared.tree.operations.Calculation.{Calculation}
use Rattle.ash_typed.specs.declared.tree.operations.Calculator.TheVariants as calculators
use Rattle.ash_typed.specs.declared.tree.operations.Comparator.TheVariants as comparators
use Rattle.ash_typed.specs.declared.tree.operations.Operands.TheVariants as operands
use Rattle.ash_typed.specs.declared.tree.operations.Operation.TheVariants as operations
use Rattle.ash_typed.specs.declared.tree.operations.Lazy.{Lazy}
use Rattle.ash_typed.specs.declared.tree.operations.IncrementOp.TheVariants as steps
use Rattle.ash_typed.specs.TypedTree.{Expr, Truth, Null, Read, Invoke, Cast, Operate, Lazily, Assign, Update, Count}
use Rattle.ash_typed.specs.TypedTree.{Call}
use Rattle.ash_typed.specs.TypedTree.{Place, Held, exprs}
use Rattle.ash_typed.specs.StatementTree.{Stmt, Declare}
use Rattle.ash_typed.specs.Modules.{Variables, Function, Signature, Implementation, Interface, Class}
use Rattle.ash_meaning.specs.Classes.{Program}
use Rattle.ash_meaning.specs.ExampleParts.{int, handle_of_class, number, local, global, calculate, variable, alone}
use Rattle.ash_meaning.specs.ExampleParts.{returning, evaluate, function, module_of, program, counter}
use Rattle.ash_meaning.specs.ExampleParts.{f, only}

-- parts

abbrev pub addition : Calculation
addition = record { operator = calculators.Add; of = ints.Int }

-- `int n = 0;`, the first global
abbrev pub zero_global : Variables
zero_global = alone (variable int (Some (number 0)))

-- the global at this place becomes ten times what it was, and this
abbrev pub digit_at : ℕ → Expr → Stmt
digit_at place e = evaluate (Assign n (calculate calculators.Add tenfold e))
  where
    n : Place
    n = global place int

    tenfold : Expr
    tenfold = calculate calculators.Multiply (Read n) (number 10)

-- a call of the function at this place, which gives an `int`
abbrev pub called : ℕ → List VarType → List Expr → Expr
called place parameters es = Call (targets.Function place (Some int)) parameters (exprs es)

-- arguments

-- `int n = 0; int d(int k) { n = n * 10 + k; return k; } int two(int a, int b) { return n; }`
-- `int f() { return two(d(1), d(2)); }`
abbrev pub two_arguments : Program
two_arguments = program (module_of [] (zero_global ∷ []) (d ∷ two ∷ main ∷ []))
  where
    k : Expr
    k = Read (local 0 int)

    d : Function
    d = function (codes "d") (Some int) (int ∷ []) (digit_at 0 k ∷ returning k ∷ [])

    two : Function
    two = function (codes "two") (Some int) (int ∷ int ∷ []) (returning (Read (global 0 int)) ∷ [])

    digit : ℕ → Expr
    digit n = called 0 (int ∷ []) (number n ∷ [])

    main : Function
    main = function f (Some int) [] (returning (called 1 (int ∷ int ∷ []) (digit 1 ∷ digit 2 ∷ [])) ∷ [])

-- `Counter@ g; int f(int d) { return g.add(1 / d); }`
abbrev pub through_null : Program
through_null = program (module_of [] (alone (variable counter None) ∷ []) (main ∷ []))
  where
    quotient : Expr
    quotient = calculate calculators.Divide (number 1) (Read (local 0 int))

    added : Expr
    added = Invoke (Read (global 0 counter)) (methods.Host 1 (Some int)) (int ∷ []) (exprs (quotient ∷ []))

    main : Function
    main = function f (Some int) (int ∷ []) (returning added ∷ [])

-- places

abbrev pub of_p : VarType
of_p = handle_of_class 0

-- `class P { int v; }`
abbrev pub p : Class
p = record {
  name = codes "P";
  line = 1;
  interfaces = [];
  fields = variable int None ∷ [];
  constructor = None;
  methods = [];
}

-- `pick().v`
abbrev pub picked : Place
picked = Held (Call (targets.Function 0 (Some of_p)) [] (exprs [])) (members.Field 0 0 int)

-- `next()`
abbrev pub next_number : Expr
next_number = called 1 [] []

-- `class P { int v; } P@ o = P(); int n = 0; P@ pick() { n = n * 10 + 1; return o; }`
-- `int next() { n = n * 10 + 2; return n; }`, and `int f()` that computes this and returns `n`
abbrev pub picking : Expr → Program
picking e = program (module_of (p ∷ []) (alone (variable of_p (Some new)) ∷ zero_global ∷ []) (pick ∷ next ∷ main ∷ []))
  where
    new : Expr
    new = Call (targets.Class 0) [] (exprs [])

    n : Expr
    n = Read (global 1 int)

    pick : Function
    pick = function (codes "pick") (Some of_p) [] (digit_at 1 (number 1) ∷ returning (Read (global 0 of_p)) ∷ [])

    next : Function
    next = function (codes "next") (Some int) [] (digit_at 1 (number 2) ∷ returning n ∷ [])

    main : Function
    main = function f (Some int) [] (evaluate e ∷ returning n ∷ [])

-- `pick().v += next()`
abbrev pub updated : Program
updated = picking (Update picked ints.Int addition next_number)

-- `pick().v++`
abbrev pub counted : Program
counted = picking (Count picked ints.Int steps.IncrementAfter)

-- `x = 5`
abbrev pub five : Expr
five = Assign (local 0 int) (number 5)

-- `int f(int x) { return x + (x = 5); }`
abbrev pub read_first : Program
read_first = only (Some int) (int ∷ []) (returning (calculate calculators.Add (Read (local 0 int)) five) ∷ [])

-- `int f(int x) { return x += (x = 5); }`
abbrev pub read_last : Program
read_last = only (Some int) (int ∷ []) (returning (Update (local 0 int) ints.Int addition five) ∷ [])

-- lazy operators

-- `int n = 0; bool g() { n += 1; return true; }`, and `int f()` that computes this operator of this and of `g()`, and
-- returns `n`
abbrev pub deciding : Lazy → Bool → Program
deciding operator left = program (module_of [] (zero_global ∷ []) (g ∷ main ∷ []))
  where
    n : Place
    n = global 0 int

    g : Function
    g =
        function (codes "g") (Some vars.Bool) []
        (evaluate (Update n ints.Int addition (number 1)) ∷ returning (Truth true) ∷ [])

    decided : Expr
    decided = Lazily operator (Truth left) (Call (targets.Function 0 (Some vars.Bool)) [] (exprs []))

    main : Function
    main = function f (Some int) [] (Declare 1 (variable vars.Bool (Some decided) ∷ []) ∷ returning (Read n) ∷ [])

-- interfaces

abbrev pub of_i : VarType
of_i = vars.Handle (objects.Interface 0)

-- `interface I` with methods of these names, which give an `int`
abbrev pub interface_of : List (List ℕ) → Interface
interface_of names = record { name = codes "I"; line = 1; classes_before = 0; methods = map method names }
  where
    method : List ℕ → Signature
    method name = record { name = name; result = Some int; parameters = [] }

-- `class A` with these interfaces and methods
abbrev pub class_of : List Implementation → List Function → Class
class_of interfaces own = record {
  name = codes "A";
  line = 1;
  interfaces = interfaces;
  fields = [];
  constructor = None;
  methods = own;
}

-- `interface I { int v(); int w(); } class A : I { int w() { return 2; } int v() { return 1; } } I@ g = A();`
-- `int f() { return g.v() * 10 + g.w(); }`
abbrev pub in_another_order : Program
in_another_order = program (record {
  interfaces = interface_of (codes "v" ∷ codes "w" ∷ []) ∷ [];
  classes = class_of (listed ∷ []) (giving (codes "w") 2 ∷ giving (codes "v") 1 ∷ []) ∷ [];
  functions = main ∷ [];
  globals = alone (variable of_i (Some (Call (targets.Class 0) [] (exprs [])))) ∷ [];
})
  where
    listed : Implementation
    listed = record { interface = 0; methods = 1 ∷ 0 ∷ [] }

    giving : List ℕ → ℕ → Function
    giving name n = function name (Some int) [] (returning (number n) ∷ [])

    method : ℕ → Expr
    method place = Invoke (Read (global 0 of_i)) (methods.Interface 0 place (Some int)) [] (exprs [])

    tenfold : Expr
    tenfold = calculate calculators.Multiply (method 0) (number 10)

    main : Function
    main = function f (Some int) [] (returning (calculate calculators.Add tenfold (method 1)) ∷ [])

-- `interface I {} class A {} A@ g = A(); bool f() { I@ i = cast<I>(g); return i is null; }`
abbrev pub not_listed : Program
not_listed = program (record {
  interfaces = interface_of [] ∷ [];
  classes = class_of [] [] ∷ [];
  functions = main ∷ [];
  globals = alone (variable (handle_of_class 0) (Some (Call (targets.Class 0) [] (exprs [])))) ∷ [];
})
  where
    of_g : Expr
    of_g = Cast (objects.Interface 0) (Read (global 0 (handle_of_class 0)))

    is_null : Expr
    is_null = Operate (operations.Compare comparators.Is operands.Handles) (Read (local 0 of_i)) Null

    main : Function
    main = function f (Some vars.Bool) [] (Declare 1 (variable of_i (Some of_g) ∷ []) ∷ returning is_null ∷ [])

-- frames

-- `int f() { return g(); } int g() { return f(); }`
abbrev pub in_turn : Program
in_turn = program (module_of [] [] (main ∷ g ∷ []))
  where
    main : Function
    main = function f (Some int) [] (returning (called 1 [] []) ∷ [])

    g : Function
    g = function (codes "g") (Some int) [] (returning (called 0 [] []) ∷ [])

-- `int a = f(); int f() { return f(); }`
abbrev pub endless_load : Program
endless_load = program (module_of [] (alone (variable int (Some again)) ∷ []) (main ∷ []))
  where
    again : Expr
    again = called 0 [] []

    main : Function
    main = function f (Some int) [] (returning again ∷ [])
