-- Small modules with objects, which requests load and call.
use Rattle.std.specs.Prelude.{ℕ, List, [], ◌∷◌, codes, map, Some, None}
use Rattle.std.specs.List.{range_with_len}
use Rattle.ash_host.specs.declared.word.Word.{Word}
use Rattle.ash_host.specs.Objects.{Script}
use Rattle.ash_integers.specs.declared.int_type.IntType.TheVariants as ints
use Rattle.ash_typed.specs.declared.types.Element.TheVariants as elements
use Rattle.ash_typed.specs.declared.types.ObjectType.TheVariants as objects
use Rattle.ash_typed.specs.declared.types.VarType.{VarType}
use Rattle.ash_typed.specs.declared.types.VarType.TheVariants as vars
use Rattle.ash_typed.specs.declared.tree.operations.ObjectMember.TheVariants as members
use Rattle.ash_typed.specs.declared.tree.operations.Method.TheVariants as methods
use Rattle.ash_typed.specs.declared.tree.operations.ArrayMethod.TheVariants as arrays
use Rattle.ash_typed.specs.declared.tree.operations.CallTarget.TheVariants as targets
use Rattle.ash_typed.specs.declared.tree.operations.Comparator.TheVariants as comparators
use Rattle.ash_typed.specs.declared.tree.operations.Operands.TheVariants as operands
use Rattle.ash_typed.specs.declared.tree.operations.Operation.TheVariants as operations
use Rattle.ash_typed.specs.TypedTree.{Expr, Null, This, Read, Invoke, Cast, Operate, Assign, Call, Place, Held, exprs}
use Rattle.ash_typed.specs.StatementTree.{Initialization, Stmt, Declare}
use Rattle.ash_typed.specs.Modules.{Function, Interface, Class, Module}
use Rattle.ash_meaning.specs.ExampleParts.{int, handle_of_class, number, local, global, variable, named, alone}
use Rattle.ash_meaning.specs.ExampleParts.{returning, evaluate, function, module_of, counter, new_counter, f}
use Rattle.ash_requests.specs.States.{State}
use Rattle.ash_requests.specs.Requests.{Fields, Elements, Shown}
use Rattle.ash_requests.specs.IntegerRuns.{functions}

-- `void f() { Counter c(1); }`
abbrev pub drawing : Module
drawing = functions (function f None [] (Declare 1 (variable (vars.Object (objects.Host 1)) (Some (new_counter 1)) ∷ [])
    ∷ []) ∷ [])

-- `void f() { Counter@ a = Counter(1); Counter@ b = Counter(2); @a = null; Counter@ c = Counter(3); }`
abbrev pub let_go_early : Module
let_go_early = functions (function f None [] (declared 1 ∷ declared 2 ∷ evaluate (Assign (local 0 counter) Null)
    ∷ declared 3 ∷ []) ∷ [])
  where
    declared : ℕ → Stmt
    declared n = Declare 1 (variable counter (Some (new_counter n)) ∷ [])

-- `interface I { int v(); } class A : I { int k; int v() { return k; } } class B : I { int v() { return 7; } } I@ g;`
-- `int f() { A@ a = A(); a.k = 3; @g = a; return g.v(); } int h() { @g = B(); return g.v(); }`
-- `bool c() { A@ a = cast<A>(g); return a is null; }`
abbrev pub through_an_interface : Module
through_an_interface =
    record {
      interfaces = i ∷ [];
      classes = a ∷ b ∷ [];
      functions = main ∷ other ∷ test ∷ [];
      globals = alone (named (codes "g") of_i None) ∷ [];
    }
  where
    of_i : VarType
    of_i = vars.Handle (objects.Interface 0)

    of_a : VarType
    of_a = handle_of_class 0

    g : Place
    g = global 0 of_i

    i : Interface
    i = record {
      name = codes "I";
      line = 1;
      classes_before = 0;
      methods = record { name = codes "v"; result = Some int; parameters = [] } ∷ [];
    }

    class_of : List ℕ → List Initialization → Expr → Class
    class_of name fields e =
        record {
          name = name;
          line = 1;
          interfaces = record { interface = 0; methods = 0 ∷ [] } ∷ [];
          fields = fields;
          constructor = None;
          methods = function (codes "v") (Some int) [] (returning e ∷ []) ∷ [];
        }

    a : Class
    a = class_of (codes "A") (named (codes "k") int None ∷ []) (Read (Held (This 0) (members.Field 0 0 int)))

    b : Class
    b = class_of (codes "B") [] (number 7)

    new : ℕ → Expr
    new class = Call (targets.Class class) [] (exprs [])

    called : Stmt
    called = returning (Invoke (Read g) (methods.Interface 0 0 (Some int)) [] (exprs []))

    main : Function
    main = function f (Some int) [] (Declare 1 (variable of_a (Some (new 0)) ∷ [])
        ∷ evaluate (Assign (Held (Read (local 0 of_a)) (members.Field 0 0 int)) (number 3))
        ∷ evaluate (Assign g (Read (local 0 of_a))) ∷ called ∷ [])

    other : Function
    other = function (codes "h") (Some int) [] (evaluate (Assign g (new 1)) ∷ called ∷ [])

    test : Function
    test = function (codes "c") (Some vars.Bool) []
        (Declare 1 (variable of_a (Some (Cast (objects.Class 0) (Read g))) ∷ [])
        ∷ returning (Operate (operations.Compare comparators.Is operands.Handles) (Read (local 0 of_a)) Null) ∷ [])

-- `array<int> a; void f(uint n) { a.resize(n); }`
abbrev pub resizing : Module
resizing = module_of [] (alone (named (codes "a") of
    (Some (Call (targets.Array (elements.Integer ints.Int)) [] (exprs [])))) ∷ [])
    (function f None (uint ∷ []) (evaluate (Invoke (Read (global 0 of)) (methods.Array arrays.Resize) (uint ∷ [])
    (exprs (Read (local 0 uint) ∷ []))) ∷ []) ∷ [])
  where
    of : VarType
    of = vars.Object (objects.Array (elements.Integer ints.Int))

    uint : VarType
    uint = vars.Integer ints.Uint

-- objects as they are shown

abbrev pub class_shown : ℕ → List ℕ → ℕ → List (List ℕ × Word) → Shown
class_shown number name count fields =
    record { number = number; type_name = name; count = count; contents = Fields fields }

abbrev pub array_shown : ℕ → ℕ → List Word → Shown
array_shown number count elements =
    record { number = number; type_name = codes "array"; count = count; contents = Elements elements }

-- states at the limits

-- every number was given
abbrev pub numbers_spent : State → State
numbers_spent state = record state { last = 18446744073709551615 }

-- a module `m` is loaded, which declares no global, and this many objects live
abbrev pub with_objects : ℕ → State → State
with_objects count state =
    record state {
      modules = record { name = codes "m"; source = 0 ∷ []; globals = [] } ∷ [];
      objects = map (λ (n : ℕ). (n, Script (codes "k") 0 [])) (range_with_len 1 count);
      last = count;
    }
