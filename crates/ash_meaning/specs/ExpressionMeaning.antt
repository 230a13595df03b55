-- What expressions and places do. Operands and arguments go from left to right.
use Rattle.std.specs.Prelude.{List, [], ◌∷◌, Bool, true, false, if◌then◌else◌, pos}
use Rattle.ash_host.specs.declared.word.Word.{Word}
use Rattle.ash_host.specs.declared.word.Word.TheVariants as words
use Rattle.ash_integers.specs.declared.int_type.IntType.{IntType}
use Rattle.ash_typed.specs.declared.tree.operations.Calculation.{Calculation}
use Rattle.ash_typed.specs.declared.tree.operations.IncrementOp.{IncrementOp}
use Rattle.ash_typed.specs.declared.tree.operations.Lazy.{Lazy}
use Rattle.ash_typed.specs.declared.tree.operations.Lazy.TheVariants as lazies
use Rattle.ash_typed.specs.TypedTree.{Expr, Number, Truth, Null, This, Read, Invoke, Convert, Cast}
use Rattle.ash_typed.specs.TypedTree.{Alter, Operate, Lazily, Conditional, Assign, Update, Count}
use Rattle.ash_typed.specs.TypedTree.{Call, Place, Stored, Held, Indexed, Exprs, no_expr, expr}
use Rattle.ash_meaning.specs.Runs.{Run, give, ◌>>=◌, ◌>>◌}
use Rattle.ash_meaning.specs.Releases.{give_held}
use Rattle.ash_meaning.specs.ObjectSteps.{object_of}
use Rattle.ash_meaning.specs.ArraySteps.{index_in}
use Rattle.ash_meaning.specs.OperatorMeaning.{word_at, converted_to, is_true, calculate, operate, altered, counted}
use Rattle.ash_meaning.specs.OperatorMeaning.{given_by}
use Rattle.ash_meaning.specs.Locations.{Location, Part, location_of_variable, location_of_member, this, read, write}
use Rattle.ash_meaning.specs.CallMeaning.{Calls, invoke, call_target, cast}

-- Stores a value, and gives it.
abbrev pub store : Word → Location → Run Word
store word location = write location word >> give word

-- `p op= e` after `e` and `p`: the place is read, and what the operator makes is converted to its type and stored.
abbrev pub update : IntType → Calculation → Word → Location → Run Word
update int_type calculation right location =
    read location
    >>= (λ left. calculate calculation (converted_to calculation.of left) right)
    >>= (λ word. store (converted_to int_type word) location)

-- `++` or `--` after its place
abbrev pub count_at : IntType → IncrementOp → Location → Run Word
count_at int_type step location =
    read location
    >>= (λ old. write location (counted step int_type old) >> give (given_by step old (counted step int_type old)))

-- the right operand of a lazy operator, where the left one leaves open what comes out
abbrev pub lazily : Lazy → Bool → Run Word → Run Word
lazily lazies.And true right = right
lazily lazies.And false right = give (words.Bool false)
lazily lazies.Or true right = give (words.Bool true)
lazily lazies.Or false right = right

-- the element of an array by an index: first null is tested, then the index
abbrev pub element_at : Word → Word → Run Location
element_at array index = object_of array >>= (λ number. index_in number index >>= (λ place. give (Part number place)))

abbrev mutual
  pub expression : Calls → Expr → Run Word
  expression calls (Number int_type n) = give (word_at int_type (pos n))
  expression calls (Truth b) = give (words.Bool b)
  expression calls Null = give words.Null
  expression calls (This class) = this >>= give_held
  expression calls (Read place) = location calls place >>= read >>= give_held
  -- the object is tested after the arguments
  expression calls (Invoke object method parameters es) =
      expression calls object
      >>= (λ handle. arguments calls es
      >>= (λ args. object_of handle
      >>= (λ number. invoke calls method number args)))
  expression calls (Convert conversion e) = expression calls e >>= (λ word. give (converted_to conversion.to word))
  expression calls (Cast to e) = expression calls e >>= cast calls.program to
  expression calls (Alter change e) = expression calls e >>= (λ word. give (altered change word))
  expression calls (Operate operation a b) =
      expression calls a >>= (λ left. expression calls b >>= operate operation left)
  expression calls (Lazily operator a b) =
      expression calls a >>= (λ left. lazily operator (is_true left) (expression calls b))
  expression calls (Conditional c a b) =
      expression calls c >>= (λ word. if is_true word then expression calls a else expression calls b)
  -- the right side comes before the place
  expression calls (Assign place e) = expression calls e >>= (λ word. location calls place >>= store word)
  expression calls (Update place int_type calculation e) =
      expression calls e >>= (λ right. location calls place >>= update int_type calculation right)
  expression calls (Count place int_type step) = location calls place >>= count_at int_type step
  expression calls (Call target parameters es) = arguments calls es >>= call_target calls target

  -- the object of a member is tested as soon as it is computed; that of an element after the index
  pub location : Calls → Place → Run Location
  location calls (Stored variable) = give (location_of_variable variable)
  location calls (Held object member) =
      expression calls object >>= object_of >>= (λ number. give (location_of_member member number))
  location calls (Indexed array index of) =
      expression calls array >>= (λ handle. expression calls index >>= element_at handle)

  pub arguments : Calls → Exprs → Run (List Word)
  arguments calls no_expr = give []
  arguments calls (expr e es) = expression calls e >>= (λ word. arguments calls es >>= (λ rest. give (word ∷ rest)))
