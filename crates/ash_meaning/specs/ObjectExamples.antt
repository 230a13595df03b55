-- Small modules whose meaning is computed: of objects, host objects, interfaces and arrays.
use Rattle.std.specs.Prelude.{ℕ, pos, List, [], ◌∷◌, codes, Option, Some, None}
use Rattle.ash_host.specs.declared.word.Word.TheVariants as words
use Rattle.ash_host.specs.declared.answer.HostAnswer.{HostAnswer}
use Rattle.ash_host.specs.declared.event.Target.TheVariants as hosts
use Rattle.ash_host.specs.Calls as calls
use Rattle.ash_host.specs.Ints.{int_bytes}
use Rattle.ash_host.specs.Records.{HostRecord}
use Rattle.ash_integers.specs.declared.int_type.IntType.TheVariants as ints
use Rattle.ash_typed.specs.declared.types.Element.TheVariants as elements
use Rattle.ash_typed.specs.declared.types.ObjectType.TheVariants as objects
use Rattle.ash_typed.specs.declared.types.VarType.{VarType}
use Rattle.ash_typed.specs.declared.types.VarType.TheVariants as vars
use Rattle.ash_typed.specs.declared.tree.operations.ObjectMember.TheVariants as members
use Rattle.ash_typed.specs.declared.tree.operations.Method.TheVariants as methods
use Rattle.ash_typed.specs.declared.tree.operations.ArrayMethod.{ArrayMethod}
use Rattle.ash_typed.specs.declared.tree.operations.ArrayMethod.TheVariants as arrays
use Rattle.ash_typed.specs.declared.tree.operations.CallTarget.TheVariants as targets
use Rattle.ash_typed.specs.declared.tree.operations.Calculator.TheVariants as calculators
use Rattle.ash_typed.specs.declared.tree.operations.Comparator.TheVariants as comparators
use Rattle.ash_typed.specs.declared.tree.operations.Operands.TheVariants as operands
use Rattle.ash_typed.specs.declared.tree.operations.Operation.TheVariants as operations
use Rattle.ash_typed.specs.declared.tree.statements.Test.TheVariants as tests
use Rattle.ash_typed.specs.TypedTree.{Number, Expr, Null, This, Read, Invoke, Convert, Cast}
use Rattle.ash_typed.specs.TypedTree.{Operate, Assign, Call, Place, Held, Indexed, exprs}
use Rattle.ash_typed.specs.StatementTree.{Initialization, Stmt, Declare, Block, declared_head}
use Rattle.ash_typed.specs.StatementTree.{For, repeated, Break, stmts}
use Rattle.ash_typed.specs.Modules.{Variables, Function, Interface, Class}
use Rattle.ash_host.specs.Objects.{Script}
use Rattle.ash_meaning.specs.Activity.{World}
use Rattle.ash_meaning.specs.Classes.{Program}
use Rattle.ash_meaning.specs.Ends.{Outcome, call_function, load_module}
use Rattle.ash_meaning.specs.ExampleParts.{empty_world, counters, started, int, handle_of_class, number}
use Rattle.ash_meaning.specs.ExampleParts.{local, global, calculate, variable, returning, named, alone}
use Rattle.ash_meaning.specs.ExampleParts.{evaluate, function, module_of, program, tallied_by}
use Rattle.ash_meaning.specs.ExampleParts.{tally, counter, new_counter, add, counter_value, f, only}

-- `int two(Counter@ h, int k) { return k; }`
-- `int f() { Counter@ a = Counter(1); Counter@ c = Counter(5); int r = two(@a = null, c.add(1)); c.add(1); return r; }`
abbrev pub overwritten_in_an_argument : Program
overwritten_in_an_argument = program (module_of [] [] (two ∷ main ∷ []))
  where
    two : Function
    two = function (codes "two") (Some int) (counter ∷ int ∷ []) (returning (Read (local 1 int)) ∷ [])

    c : Expr
    c = Read (local 1 counter)

    called : Expr
    called = Call (targets.Function 0 (Some int)) (counter ∷ int ∷ [])
        (exprs (Assign (local 0 counter) Null ∷ add c 1 ∷ []))

    main : Function
    main = function f (Some int) [] (Declare 1 (variable counter (Some (new_counter 1)) ∷ [])
        ∷ Declare 1 (variable counter (Some (new_counter 5)) ∷ []) ∷ Declare 1 (variable int (Some called) ∷ [])
        ∷ evaluate (add c 1) ∷ returning (Read (local 2 int)) ∷ [])

-- `class B { Counter@ c; }`
-- `void f() { B@ x = B(); B@ y = B(); @x.c = Counter(1); B@ z = B(); @y.c = Counter(2); @z.c = x.c; }`
abbrev pub shared : Program
shared = program (module_of (b ∷ []) [] (function f None []
    (new ∷ new ∷ put 0 (new_counter 1) ∷ new ∷ put 1 (new_counter 2) ∷ put 2 (Read (c_of 0)) ∷ []) ∷ []))
  where
    handle : VarType
    handle = handle_of_class 0

    b : Class
    b = record {
      name = codes "B";
      line = 1;
      interfaces = [];
      fields = variable counter None ∷ [];
      constructor = None;
      methods = [];
    }

    new : Stmt
    new = Declare 1 (variable handle (Some (Call (targets.Class 0) [] (exprs []))) ∷ [])

    c_of : ℕ → Place
    c_of slot = Held (Read (local slot handle)) (members.Field 0 0 counter)

    put : ℕ → Expr → Stmt
    put slot e = evaluate (Assign (c_of slot) e)

-- `void f() { for (Counter@ a = Counter(1);;) { Counter@ b = Counter(2); break; } Counter@ c = Counter(3); }`
abbrev pub blocks_left_together : Program
blocks_left_together =
    only None [] (For 1 (declared_head (counted 1 ∷ []))
    (repeated tests.First None [] (Block 1 (stmts (Declare 1 (counted 2 ∷ []) ∷ Break 1 ∷ []))))
    ∷ Declare 1 (counted 3 ∷ []) ∷ [])
  where
    counted : ℕ → Initialization
    counted n = variable counter (Some (new_counter n))

-- `void f() { Counter c(1); c.fail(9); }`
abbrev pub failing : Program
failing = only None [] (Declare 1 (variable (vars.Object (objects.Host 1)) (Some (new_counter 1)) ∷ [])
    ∷ evaluate (Invoke (Read (local 0 (vars.Object (objects.Host 1)))) (methods.Host 2 None) (int ∷ [])
    (exprs (number 9 ∷ []))) ∷ [])

-- `int f() { Counter c(1); return c.add(1); }`
abbrev pub adding : Program
adding = only (Some int) [] (Declare 1 (variable (vars.Object (objects.Host 1)) (Some (new_counter 1)) ∷ [])
    ∷ returning (add (Read (local 0 (vars.Object (objects.Host 1)))) 1) ∷ [])

-- a record of a call of method 1 or 2 of counter 1, which is at 1 and stays there
abbrev pub answered : ℕ → ℕ → HostAnswer → HostRecord
answered method argument answer =
    record {
      target = hosts.Object 1;
      call = calls.Invoke method (words.Int (pos argument) ∷ []);
      before = int_bytes (pos 1);
      answer = answer;
      after = int_bytes (pos 1);
    }

-- `class Q { int w = 1; }`
-- `class P { Q q; Q@ r; int v = 2; P(int k) { v = v + k; @r = q; } }`
-- `P@ g = P(5); int f() { return g.v; }`
abbrev pub constructed : Program
constructed = program (module_of (q ∷ p ∷ [])
    (alone (named (codes "g") (handle_of_class 1) (Some (Call (targets.Class 1) (int ∷ []) (exprs (number 5 ∷ [])))))
    ∷ []) (main ∷ []))
  where
    own : VarType
    own = vars.Object (objects.Class 0)

    q : Class
    q = record {
      name = codes "Q";
      line = 1;
      interfaces = [];
      fields = named (codes "w") int (Some (number 1)) ∷ [];
      constructor = None;
      methods = [];
    }

    field : ℕ → VarType → Place
    field place of = Held (This 1) (members.Field 1 place of)

    body : List Stmt
    body = evaluate (Assign (field 2 int) (calculate calculators.Add (Read (field 2 int)) (Read (local 0 int))))
        ∷ evaluate (Assign (field 1 (handle_of_class 0)) (Read (field 0 own))) ∷ []

    p : Class
    p = record {
      name = codes "P";
      line = 1;
      interfaces = [];
      fields = named (codes "q") own (Some (Call (targets.Class 0) [] (exprs [])))
          ∷ named (codes "r") (handle_of_class 0) None ∷ named (codes "v") int (Some (number 2)) ∷ [];
      constructor =
          Some (function (codes "P") None (int ∷ []) body);
      methods = [];
    }

    main : Function
    main = function f (Some int) [] (returning (Read
        (Held (Read (global 0 (handle_of_class 1))) (members.Field 1 2 int))) ∷ [])

-- `interface I { int v(); } class A : I { int v() { return 3; } } class B : I { int v() { return 7; } } I@ g;`
-- `int f() { @g = B(); return g.v(); } bool c() { A@ a = cast<A>(g); return a is null; }`
abbrev pub through_an_interface : Program
through_an_interface =
    program (record {
      interfaces = i ∷ [];
      classes = a ∷ b ∷ [];
      functions = main ∷ test ∷ [];
      globals = record { line = 1; values = variable of_i None ∷ [] } ∷ [];
    })
  where
    of_i : VarType
    of_i = vars.Handle (objects.Interface 0)

    g : Place
    g = global 0 of_i

    i : Interface
    i = record {
      name = codes "I";
      line = 1;
      classes_before = 0;
      methods = record { name = codes "v"; result = Some int; parameters = [] } ∷ [];
    }

    class_named : List ℕ → ℕ → Class
    class_named name n =
        record {
          name = name;
          line = 1;
          interfaces = record { interface = 0; methods = 0 ∷ [] } ∷ [];
          fields = [];
          constructor = None;
          methods = function (codes "v") (Some int) [] (returning (number n) ∷ []) ∷ [];
        }

    a : Class
    a = class_named (codes "A") 3

    b : Class
    b = class_named (codes "B") 7

    main : Function
    main = function f (Some int) [] (evaluate (Assign g (Call (targets.Class 1) [] (exprs [])))
        ∷ returning (Invoke (Read g) (methods.Interface 0 0 (Some int)) [] (exprs [])) ∷ [])

    is_null : Expr
    is_null = Operate (operations.Compare comparators.Is operands.Handles) (Read (local 0 (handle_of_class 0))) Null

    test : Function
    test = function (codes "c") (Some vars.Bool) []
        (Declare 1 (variable (handle_of_class 0) (Some (Cast (objects.Class 0) (Read g))) ∷ []) ∷ returning is_null
        ∷ [])

-- `array<Counter@> l; int f(int k) { l.insertLast(Counter(k)); return l.length(); } void g() { l.removeLast(); }`
-- `int h(uint i) { return l[i].value; }`
abbrev pub in_an_array : Program
in_an_array = program
    (module_of [] (alone (named (codes "l") array (Some (Call (targets.Array (elements.Host 1)) [] (exprs [])))) ∷ [])
    (f_of ∷ g_of ∷ h_of ∷ []))
  where
    array : VarType
    array = vars.Object (objects.Array (elements.Host 1))

    l : Expr
    l = Read (global 0 array)

    of_l : ArrayMethod → List VarType → List Expr → Expr
    of_l method parameters args = Invoke l (methods.Array method) parameters (exprs args)

    uint : VarType
    uint = vars.Integer ints.Uint

    new_of_local : Expr
    new_of_local = Call (targets.Host 1) (int ∷ []) (exprs (Read (local 0 int) ∷ []))

    f_of : Function
    f_of = function f (Some int) (int ∷ []) (evaluate (of_l arrays.InsertLast (counter ∷ []) (new_of_local ∷ []))
        ∷ returning (Convert (record { from = ints.Uint; to = ints.Int }) (of_l arrays.Length [] [])) ∷ [])

    g_of : Function
    g_of = function (codes "g") None [] (evaluate (of_l arrays.RemoveLast [] []) ∷ [])

    h_of : Function
    h_of = function (codes "h") (Some int) (uint ∷ [])
        (returning (Read (counter_value (Read (Indexed l (Read (local 0 uint)) (elements.Host 1))))) ∷ [])

-- `array<int> a; int f(uint n) { a.resize(n); return a[0]; }`
abbrev pub resized : Program
resized = program (module_of [] (record {
  line = 1;
  values = variable of (Some (Call (targets.Array (elements.Integer ints.Int)) [] (exprs []))) ∷ [];
} ∷ [])
    (function f (Some int) (vars.Integer ints.Uint ∷ [])
    (evaluate (Invoke (Read (global 0 of)) (methods.Array arrays.Resize) (vars.Integer ints.Uint ∷ [])
    (exprs (Read (local 0 (vars.Integer ints.Uint)) ∷ [])))
    ∷ returning (Read (Indexed (Read (global 0 of)) (Number ints.Uint 0) (elements.Integer ints.Int))) ∷ []) ∷ []))
  where
    of : VarType
    of = vars.Object (objects.Array (elements.Integer ints.Int))

-- `int a = tally(3); int b = 1; int c = 1 / 0;`
abbrev pub unfinished : Program
unfinished = program (module_of [] (declared (tally 3) ∷ declared (number 1)
    ∷ declared (calculate calculators.Divide (number 1) (number 0)) ∷ []) [])
  where
    declared : Expr → Variables
    declared e = record { line = 1; values = variable int (Some e) ∷ [] }

-- worlds that these run in

-- what a load of `unfinished` comes to, with one service
abbrev pub unfinished_load : Option Outcome
unfinished_load = load_module unfinished 9 (record empty_world
    { services = int_bytes (pos 0) ∷ []; answers = tallied_by 3 0 3 ∷ [] })

-- `g` is an object of the class at this place in the source
abbrev pub with_object_of : ℕ → World
with_object_of place =
    record empty_world { globals = words.Object 1 ∷ []; objects = (1, Script (codes "m") place []) ∷ [] }

-- a call of `f` with one counter, which answers this to the call of its method
abbrev pub with_answer : Program → ℕ → ℕ → HostAnswer → Option Outcome
with_answer p method argument answer =
    call_function p 0 [] 9 (counters 1 (started 1 1 ∷ answered method argument answer ∷ []))
