-- Small modules of integers and services, which requests load and call.
use Rattle.std.specs.Prelude.{ℕ, ◌+◌, List, [], ◌∷◌, codes, map, Some, None}
use Rattle.std.specs.List.{range_with_len}
use Rattle.ash_integers.specs.declared.int_type.IntType.TheVariants as ints
use Rattle.ash_typed.specs.declared.types.VarType.{VarType}
use Rattle.ash_typed.specs.declared.types.VarType.TheVariants as vars
use Rattle.ash_typed.specs.declared.tree.operations.Calculator.{Calculator}
use Rattle.ash_typed.specs.declared.tree.operations.Calculator.TheVariants as calculators
use Rattle.ash_typed.specs.declared.tree.operations.Comparator.TheVariants as comparators
use Rattle.ash_typed.specs.declared.tree.operations.Operands.TheVariants as operands
use Rattle.ash_typed.specs.declared.tree.operations.Operation.TheVariants as operations
use Rattle.ash_typed.specs.declared.tree.operations.Change.TheVariants as changes
use Rattle.ash_typed.specs.declared.tree.statements.Test.TheVariants as tests
use Rattle.ash_typed.specs.TypedTree.{Number, Expr, Read, Convert, Alter, Operate, Assign}
use Rattle.ash_typed.specs.StatementTree.{Evaluate, Block, no_head, For, repeated, Return, stmts}
use Rattle.ash_typed.specs.Modules.{Function, Module}
use Rattle.ash_meaning.specs.ExampleParts.{int, number, local, global, calculate, named, alone}
use Rattle.ash_meaning.specs.ExampleParts.{returning, function, module_of, tally, total, f}
use Rattle.ash_requests.specs.States.{State}

-- a module with functions alone
abbrev pub functions : List Function → Module
functions fs = module_of [] [] fs

-- `int f() { return 1; }`
abbrev pub giving_one : Module
giving_one = functions (function f (Some int) [] (returning (number 1) ∷ []) ∷ [])

-- `int a() { return 2147483647 + 1; } int q(int x, int y) { return x / y; } int r(int x, int y) { return x % y; }`
abbrev pub dividing : Module
dividing = functions (function (codes "a") (Some int) []
    (returning (calculate calculators.Add (number 2147483647) (number 1)) ∷ []) ∷ of (codes "q") calculators.Divide
    ∷ of (codes "r") calculators.Remainder ∷ [])
  where
    of : List ℕ → Calculator → Function
    of name operator = function name (Some int) (int ∷ int ∷ [])
        (returning (calculate operator (Read (local 0 int)) (Read (local 1 int))) ∷ [])

-- `bool p() { return 1 | 2 == 2; }`, where `|` comes first
abbrev pub bits_first : Module
bits_first = functions (function (codes "p") (Some vars.Bool) []
    (returning (Operate (operations.Compare comparators.Equal (operands.Integers ints.Int))
    (calculate calculators.BitOr (number 1) (number 2)) (number 2)) ∷ []) ∷ [])

-- on six lines: `int n = 0;`, `int f(int d) {`, `n = 1; tally(4);`, `return 10 / d;`, `}`, `int t() { return total();
-- }`
abbrev pub failing_late : Module
failing_late = module_of [] (alone (named (codes "n") int (Some (number 0))) ∷ []) (main ∷ t ∷ [])
  where
    main : Function
    main = record {
      name = f;
      line = 2;
      result = Some int;
      parameters = int ∷ [];
      body = stmts (Evaluate 3 (Assign (global 0 int) (number 1)) ∷ Evaluate 3 (tally 4)
          ∷ Return 4 (Some (calculate calculators.Divide (number 10) (Read (local 0 int)))) ∷ []);
    }

    t : Function
    t = record {
      name = codes "t";
      line = 6;
      result = Some int;
      parameters = [];
      body = stmts (Return 6 (Some total) ∷ []);
    }

-- `int t() { return total(); }`
abbrev pub totalling : Module
totalling = functions (function (codes "t") (Some int) [] (returning total ∷ []) ∷ [])

-- `void g() { for (;;) {} }`
abbrev pub unending : Module
unending = functions (function (codes "g") None []
    (For 1 no_head (repeated tests.First None [] (Block 1 (stmts []))) ∷ []) ∷ [])

-- a module without an item, as an empty source has
abbrev pub nothing : Module
nothing = module_of [] [] []

-- `uint64 x = 18446744073709551615;`
abbrev pub greatest : Module
greatest = module_of [] (alone (named (codes "x") (vars.Integer ints.Uint64)
    (Some (Number ints.Uint64 18446744073709551615))) ∷ []) []

-- `uint x = 4000000000; uint f() { return x / 2; } bool g() { return x > -1; } int64 h() { return -2147483648; }`
-- Unsigned and signed meet at `int`, and the sign makes an `int` of a `uint`.
abbrev pub signs : Module
signs = module_of [] (alone (named (codes "x") uint (Some (Number ints.Uint 4000000000))) ∷ [])
    (half ∷ above ∷ least ∷ [])
  where
    uint : VarType
    uint = vars.Integer ints.Uint

    x : Expr
    x = Read (global 0 uint)

    negated : Expr → Expr
    negated e = Alter (changes.Negate ints.Int) e

    half : Function
    half = function f (Some uint) [] (returning (Operate
        (operations.Calculate (record { operator = calculators.Divide; of = ints.Uint })) x (Number ints.Uint 2)) ∷ [])

    above : Function
    above = function (codes "g") (Some vars.Bool) []
        (returning (Operate (operations.Compare comparators.Greater (operands.Integers ints.Int))
        (Convert (record { from = ints.Uint; to = ints.Int }) x) (negated (number 1))) ∷ [])

    least : Function
    least = function (codes "h") (Some (vars.Integer ints.Int64)) []
        (returning (Convert (record { from = ints.Int; to = ints.Int64 })
        (negated (Convert (record { from = ints.Uint; to = ints.Int }) (Number ints.Uint 2147483648)))) ∷ [])

-- `int a(int x) { return x >> 28; } int b(int x) { return x >>> 28; } int c(int x) { return x << 33; }`
abbrev pub shifting : Module
shifting = functions (by (codes "a") calculators.ShiftRight 28 ∷ by (codes "b") calculators.ShiftRightArithmetic 28
    ∷ by (codes "c") calculators.ShiftLeft 33 ∷ [])
  where
    by : List ℕ → Calculator → ℕ → Function
    by name operator n =
        function name (Some int) (int ∷ []) (returning (calculate operator (Read (local 0 int)) (number n)) ∷ [])

-- a state with as many modules as there may be, named `a` to `p`
abbrev pub full_of_modules : State → State
full_of_modules state =
    record state {
      modules = map (λ (n : ℕ). record { name = (97 + n) ∷ []; source = 0 ∷ []; globals = [] })
          (range_with_len 0 16);
    }

-- a state whose sequence number is the greatest
abbrev pub spent : State → State
spent state = record state { seq = 18446744073709551615 }
