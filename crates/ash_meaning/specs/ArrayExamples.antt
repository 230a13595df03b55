-- Small modules whose meaning is computed: of arrays.
use Rattle.std.specs.Prelude.{ℕ, pos, [], ◌∷◌, replicate, Some, None}
use Rattle.ash_host.specs.declared.word.Word.TheVariants as words
use Rattle.ash_host.specs.Objects.{Array, Ints}
use Rattle.ash_integers.specs.declared.int_type.IntType.TheVariants as ints
use Rattle.ash_typed.specs.declared.types.Element.TheVariants as elements
use Rattle.ash_typed.specs.declared.types.ObjectType.{ObjectType}
use Rattle.ash_typed.specs.declared.types.ObjectType.TheVariants as objects
use Rattle.ash_typed.specs.declared.types.VarType.{VarType}
use Rattle.ash_typed.specs.declared.types.VarType.TheVariants as vars
use Rattle.ash_typed.specs.declared.tree.operations.Method.TheVariants as methods
use Rattle.ash_typed.specs.declared.tree.operations.ArrayMethod.{ArrayMethod}
use Rattle.ash_typed.specs.declared.tree.operations.ArrayMethod.TheVariants as arrays
use Rattle.ash_typed.specs.declared.tree.operations.CallTarget.TheVariants as targets
use Rattle.ash_typed.specs.declared.tree.operations.Calculator.TheVariants as calculators
use Rattle.ash_typed.specs.TypedTree.{Number, Expr, Read, Invoke, Convert, Call, Indexed, exprs}
use Rattle.ash_typed.specs.StatementTree.{Stmt, Declare}
use Rattle.ash_typed.specs.Modules.{Function}
use Rattle.ash_meaning.specs.Activity.{World}
use Rattle.ash_meaning.specs.Classes.{Program}
use Rattle.ash_meaning.specs.ExampleParts.{empty_world, int, number, local, global, calculate, variable, alone}
use Rattle.ash_meaning.specs.ExampleParts.{returning, evaluate, function, module_of, program, counter, new_counter}
use Rattle.ash_meaning.specs.ExampleParts.{f, only}
use Rattle.ash_meaning.specs.ReleaseExamples.{declared}

-- parts

abbrev pub int_array : ObjectType
int_array = objects.Array (elements.Integer ints.Int)

abbrev pub uint : VarType
uint = vars.Integer ints.Uint

-- a call of a method of the array that is the first global
abbrev pub called : VarType → ArrayMethod → VarType → Expr → Stmt
called array method of e =
    evaluate (Invoke (Read (global 0 array)) (methods.Array method) (of ∷ []) (exprs (e ∷ [])))

-- modules

-- `array<int>@ a; int f(int d) { return a[1 / d]; }`
abbrev pub through_no_array : Program
through_no_array = program (module_of [] (alone (variable handle None) ∷ []) (main ∷ []))
  where
    handle : VarType
    handle = vars.Handle int_array

    index : Expr
    index =
        Convert (record { from = ints.Int; to = ints.Uint })
        (calculate calculators.Divide (number 1) (Read (local 0 int)))

    element : Expr
    element = Read (Indexed (Read (global 0 handle)) index (elements.Integer ints.Int))

    main : Function
    main = function f (Some int) (int ∷ []) (returning element ∷ [])

-- `array<int> a; void f() { a.insertLast(1); }`
abbrev pub inserting : Program
inserting = program (module_of [] (alone (variable array (Some new)) ∷ []) (main ∷ []))
  where
    array : VarType
    array = vars.Object int_array

    new : Expr
    new = Call (targets.Array (elements.Integer ints.Int)) [] (exprs [])

    main : Function
    main = function f None [] (called array arrays.InsertLast int (number 1) ∷ [])

-- `array<Counter@> l; void f() { l.insertLast(Counter(1)); l.insertLast(Counter(2)); l.insertLast(Counter(3));`
-- `l.resize(1); Counter@ d = Counter(4); }`
abbrev pub shortened : Program
shortened = program (module_of [] (alone (variable array (Some new)) ∷ []) (main ∷ []))
  where
    array : VarType
    array = vars.Object (objects.Array (elements.Host 1))

    new : Expr
    new = Call (targets.Array (elements.Host 1)) [] (exprs [])

    inserted : ℕ → Stmt
    inserted n = called array arrays.InsertLast counter (new_counter n)

    shorten : Stmt
    shorten = called array arrays.Resize uint (Number ints.Uint 1)

    main : Function
    main = function f None [] (inserted 1 ∷ inserted 2 ∷ inserted 3 ∷ shorten ∷ declared 4 ∷ [])

-- `void f(uint n) { array<int> a(n); }`
abbrev pub making : Program
making = only None (uint ∷ []) (Declare 1 (variable (vars.Object int_array) (Some new) ∷ []) ∷ [])
  where
    new : Expr
    new = Call (targets.Array (elements.Integer ints.Int)) (uint ∷ []) (exprs (Read (local 0 uint) ∷ []))

-- worlds

-- the array of `inserting` has this many elements
abbrev pub with_elements : ℕ → World
with_elements count = record empty_world {
  globals = words.Object 1 ∷ [];
  objects = (1, Array Ints (replicate count (words.Int (pos 0)))) ∷ [];
  last = 1;
}
