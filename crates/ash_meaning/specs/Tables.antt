-- Tables of what operators and conversions make of integers, and of the ticks of statements.
use Rattle.std.specs.Prelude.{ℕ, ◌+◌, ◌-◌, ◌^◌, Bool, true, false, ℤ, pos, negsuc, List, [], ◌∷◌, codes, map, Option}
use Rattle.std.specs.Prelude.{Some, None, Result, Ok, Err}
use Rattle.std.specs.List.{range_with_len}
use Rattle.ash_host.specs.declared.word.Word.{Word}
use Rattle.ash_host.specs.declared.word.Word.TheVariants as words
use Rattle.ash_tree.specs.declared.tree.statements.Label.TheVariants as labels
use Rattle.ash_integers.specs.declared.arithmetic.DivisionFault.{DivisionFault}
use Rattle.ash_integers.specs.Integers.{number_of}
use Rattle.ash_integers.specs.declared.int_type.IntType.{IntType}
use Rattle.ash_integers.specs.declared.int_type.IntType.TheVariants as ints
use Rattle.ash_typed.specs.declared.tree.operations.Calculator.{Calculator}
use Rattle.ash_typed.specs.declared.tree.operations.Comparator.{Comparator}
use Rattle.ash_typed.specs.declared.tree.operations.Comparator.TheVariants as comparators
use Rattle.ash_typed.specs.declared.tree.operations.Operands.TheVariants as operands
use Rattle.ash_typed.specs.declared.tree.operations.Operation.TheVariants as operations
use Rattle.ash_typed.specs.declared.tree.operations.Change.TheVariants as changes
use Rattle.ash_typed.specs.declared.tree.operations.IncrementOp.TheVariants as steps
use Rattle.ash_typed.specs.declared.tree.operations.ObjectMember.TheVariants as members
use Rattle.ash_typed.specs.declared.tree.operations.Method.TheVariants as methods
use Rattle.ash_typed.specs.declared.tree.operations.CallTarget.TheVariants as targets
use Rattle.ash_typed.specs.declared.tree.statements.Test.TheVariants as tests
use Rattle.ash_typed.specs.TypedTree.{Expr, This, Read, Invoke, Operate, Assign, Count, Call, Place, Held, exprs}
use Rattle.ash_typed.specs.StatementTree.{Stmt, Empty, Declare, Evaluate, Block, If, no_branch, branch, declared_head}
use Rattle.ash_typed.specs.StatementTree.{Loop, Repeat, For, repeated, Switch, Break, Continue, Return, stmts, cases}
use Rattle.ash_typed.specs.StatementTree.{labelled}
use Rattle.ash_typed.specs.Modules.{Function, Class}
use Rattle.ash_meaning.specs.OperatorMeaning.{word_at, converted_to, calculated_by, holds, altered, counted}
use Rattle.ash_meaning.specs.Classes.{Program}
use Rattle.ash_meaning.specs.Ends.{End, Aborted, call_function}
use Rattle.ash_meaning.specs.ExampleParts.{empty_world, int, handle_of_class, number, local, variable, program}
use Rattle.ash_meaning.specs.ExampleParts.{module_of, end_of, f}

-- operators

abbrev pub number_made : Result Word DivisionFault → Result ℤ DivisionFault
number_made (Ok word) = Ok (number_of word)
number_made (Err fault) = Err fault

-- what an operator on a type makes of each of these pairs
abbrev pub made_of : Calculator → IntType → List (ℤ × ℤ) → List (Result ℤ DivisionFault)
made_of operator kind pairs =
    map (λ (p : ℤ × ℤ). number_made (calculated_by operator kind (word_at kind p.0) (word_at kind p.1))) pairs

-- pairs of numbers of so many bits, signed and unsigned: the extremes, both signs, zero, and a shift by more than the
-- width
abbrev pub signed_pairs : ℕ → List (ℤ × ℤ)
signed_pairs bits = (least, negsuc 0) ∷ (least, greatest) ∷ (greatest, greatest) ∷ (negsuc 6, pos 2) ∷ (pos 7, negsuc 1)
    ∷ (pos 5, pos 0) ∷ (pos 1, pos (bits + 1)) ∷ []
  where
    least : ℤ
    least = negsuc (2 ^ (bits - 1) - 1)

    greatest : ℤ
    greatest = pos (2 ^ (bits - 1) - 1)

abbrev pub unsigned_pairs : ℕ → List (ℤ × ℤ)
unsigned_pairs bits =
    (greatest, greatest) ∷ (greatest, pos 2) ∷ (pos 7, pos 2) ∷ (pos 2, pos 7) ∷ (pos 0, greatest) ∷ (pos 5, pos 0)
    ∷ (pos 1, pos (bits + 1)) ∷ []
  where
    greatest : ℤ
    greatest = pos (2 ^ bits - 1)

-- what `<`, `<=`, `>`, `>=`, `==` and `!=` of a type say of each of these pairs
abbrev pub compared_of : IntType → List (ℤ × ℤ) → List (List Bool)
compared_of kind pairs = map (λ (c : Comparator). map (said c) pairs) in_order
  where
    in_order : List Comparator
    in_order =
        comparators.Less
        ∷ comparators.LessOrEqual
        ∷ comparators.Greater
        ∷ comparators.GreaterOrEqual
        ∷ comparators.Equal
        ∷ comparators.NotEqual
        ∷ []

    said : Comparator → ℤ × ℤ → Bool
    said c p = holds c (operands.Integers kind) (word_at kind p.0) (word_at kind p.1)

-- what `==`, `!=` and `^^` say of the four pairs of truth values: both true, the first, the second, none
abbrev pub compared_truths : Comparator → List Bool
compared_truths c = said true true ∷ said true false ∷ said false true ∷ said false false ∷ []
  where
    said : Bool → Bool → Bool
    said a b = holds c operands.Bools (words.Bool a) (words.Bool b)

-- what unary `-` and `~`, `++` and `--` of a type make of each of these numbers
abbrev pub changed_of : IntType → List ℤ → List (List ℤ)
changed_of kind numbers = map over (negated ∷ complemented ∷ raised ∷ lowered ∷ [])
  where
    over : (Word → Word) → List ℤ
    over change = map (λ (n : ℤ). number_of (change (word_at kind n))) numbers

    negated : Word → Word
    negated word = altered (changes.Negate kind) word

    complemented : Word → Word
    complemented word = altered (changes.Complement kind) word

    raised : Word → Word
    raised word = counted steps.Increment kind word

    lowered : Word → Word
    lowered word = counted steps.Decrement kind word

-- conversions

-- what a conversion to a type makes of words of each type
abbrev pub conversions_to : IntType → List Word
conversions_to kind =
    map (converted_to kind) (words.Int (negsuc 2147483647) ∷ words.Int (negsuc 0) ∷ words.Int (pos 2147483647)
    ∷ words.Uint 4294967295 ∷ words.Int64 (negsuc 9223372036854775807) ∷ words.Int64 (negsuc 2147483648)
    ∷ words.Int64 (pos 9223372036854775807) ∷ words.Uint64 18446744073709551615 ∷ words.Uint64 4294967303 ∷ [])

-- ticks

-- on 18 lines:
-- `int f() {`
-- `int a = 0, b = 1;`
-- `;`
-- `a = 5;`
-- `{ a = 6;`
-- `; }`
-- `if (a == 6)`
-- `b = 2;`
-- `else b = 3;`
-- `while (a < 8)`
-- `a++;`
-- `do`
-- `a++; while (a < 9);`
-- `for (int i = 0; i < 1; i++)`
-- `b++;`
-- `switch (a) { case 9:`
-- `break; }`
-- `return a; }`
abbrev pub every_statement : Program
every_statement = program (module_of [] [] (record {
  name = f;
  line = 1;
  result = Some int;
  parameters = [];
  body = stmts (Declare 2 (variable int (Some (number 0)) ∷ variable int (Some (number 1)) ∷ []) ∷ Empty 3
      ∷ Evaluate 4 (Assign a (number 5)) ∷ Block 5 (stmts (Evaluate 5 (Assign a (number 6)) ∷ Empty 6 ∷ []))
      ∷ If 7 (compare comparators.Equal a 6) (Evaluate 8 (Assign b (number 2)))
      (branch (Evaluate 9 (Assign b (number 3)))) ∷ Repeat 10
      (repeated tests.First (Some (compare comparators.Less a 8)) [] (more 11 a))
      ∷ Repeat 12 (repeated tests.Last (Some (compare comparators.Less a 9)) [] (more 13 a))
      ∷ For 14 (declared_head (variable int (Some (number 0)) ∷ []))
      (repeated tests.First (Some (compare comparators.Less i 1)) (Count i ints.Int steps.IncrementAfter ∷ [])
      (more 15 b)) ∷ Switch 16 ints.Int (Read a) (cases (labelled (labels.Case 9) (stmts (Break 17 ∷ [])) ∷ []))
      ∷ Return 18 (Some (Read a)) ∷ []);
} ∷ []))
  where
    a : Place
    a = local 0 int

    b : Place
    b = local 1 int

    i : Place
    i = local 2 int

    compare : Comparator → Place → ℕ → Expr
    compare operator place n =
        Operate (operations.Compare operator (operands.Integers ints.Int)) (Read place) (number n)

    more : ℕ → Place → Stmt
    more line place = Evaluate line (Count place ints.Int steps.IncrementAfter)

-- on 6 lines:
-- `int f() {`
-- `for (int i = 0; i < 2; i++) {`
-- `if (i == 0)`
-- `continue;`
-- `break; }`
-- `return 1; }`
abbrev pub every_jump : Program
every_jump = program (module_of [] [] (main ∷ []))
  where
    i : Expr
    i = Read (local 0 int)

    compare : Comparator → ℕ → Expr
    compare operator n = Operate (operations.Compare operator (operands.Integers ints.Int)) i (number n)

    once : Stmt
    once = If 3 (compare comparators.Equal 0) (Continue 4) no_branch

    inside : Loop
    inside =
        repeated tests.First (Some (compare comparators.Less 2))
        (Count (local 0 int) ints.Int steps.IncrementAfter ∷ []) (Block 2 (stmts (once ∷ Break 5 ∷ [])))

    jumping : Stmt
    jumping = For 2 (declared_head (variable int (Some (number 0)) ∷ [])) inside

    main : Function
    main = record {
      name = f;
      line = 1;
      result = Some int;
      parameters = [];
      body = stmts (jumping ∷ Return 6 (Some (number 1)) ∷ []);
    }

-- on 11 lines:
-- `class B {`
-- `}`
-- `class A {`
-- `int k = 1;`
-- `A()`
-- `{ k = 2; }`
-- `int m() {`
-- `return k; } }`
-- `int f() {`
-- `A@ a = A(); B@ b = B();`
-- `return a.m(); }`
abbrev pub every_frame : Program
every_frame = program (module_of (b ∷ a ∷ []) [] (main ∷ []))
  where
    b : Class
    b = record { name = codes "B"; line = 1; interfaces = []; fields = []; constructor = None; methods = [] }

    k : Place
    k = Held (This 1) (members.Field 1 0 int)

    constructor_of_a : Function
    constructor_of_a = record {
      name = codes "A";
      line = 5;
      result = None;
      parameters = [];
      body = stmts (Evaluate 6 (Assign k (number 2)) ∷ []);
    }

    m : Function
    m = record {
      name = codes "m";
      line = 7;
      result = Some int;
      parameters = [];
      body = stmts (Return 8 (Some (Read k)) ∷ []);
    }

    a : Class
    a = record {
      name = codes "A";
      line = 3;
      interfaces = [];
      fields = variable int (Some (number 1)) ∷ [];
      constructor = Some constructor_of_a;
      methods = m ∷ [];
    }

    new : ℕ → Stmt
    new class = Declare 10 (variable (handle_of_class class) (Some (Call (targets.Class class) [] (exprs []))) ∷ [])

    called : Expr
    called = Invoke (Read (local 0 (handle_of_class 1))) (methods.Script 1 0 (Some int)) [] (exprs [])

    main : Function
    main = record {
      name = f;
      line = 9;
      result = Some int;
      parameters = [];
      body = stmts (new 1 ∷ new 0 ∷ Return 11 (Some called) ∷ []);
    }

-- how the function ends with each budget below this one
abbrev pub ends_within : Program → ℕ → List (Option End)
ends_within p budgets =
    map (λ (budget : ℕ). end_of (call_function p 0 [] budget empty_world)) (range_with_len 0 budgets)

abbrev pub aborted_at : List ℕ → List (Option End)
aborted_at lines = map (λ (line : ℕ). Some (Aborted f line)) lines

-- the same of functions by their names
abbrev pub aborted_in : List (List ℕ × ℕ) → List (Option End)
aborted_in places = map (λ (p : List ℕ × ℕ). Some (Aborted p.0 p.1)) places
