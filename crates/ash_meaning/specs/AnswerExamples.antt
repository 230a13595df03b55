-- Small modules whose meaning is computed: of what hosts answer, and of boxes that are drawn from the pool.
use Rattle.std.specs.Prelude.{ℕ, pos, List, [], ◌∷◌, Some, None}
use Rattle.ash_host.specs.declared.word.Word.TheVariants as words
use Rattle.ash_host.specs.declared.answer.HostAnswer.{HostAnswer}
use Rattle.ash_host.specs.declared.answer.HostAnswer.TheVariants.{Nothing}
use Rattle.ash_host.specs.declared.event.Target.TheVariants as hosts
use Rattle.ash_host.specs.Calls as calls
use Rattle.ash_host.specs.Ints.{int_bytes}
use Rattle.ash_host.specs.Records.{HostRecord}
use Rattle.ash_integers.specs.declared.int_type.IntType.TheVariants as ints
use Rattle.ash_typed.specs.declared.tree.operations.Calculator.TheVariants as calculators
use Rattle.ash_typed.specs.declared.tree.operations.Calculation.{Calculation}
use Rattle.ash_typed.specs.TypedTree.{Read, Assign, Update, Place}
use Rattle.ash_meaning.specs.Activity.{FreeBox, World}
use Rattle.ash_meaning.specs.Classes.{Program}
use Rattle.ash_meaning.specs.ExampleParts.{empty_world, int, number, local, returning, evaluate, counter, add}
use Rattle.ash_meaning.specs.ExampleParts.{counter_value, tally, only}
use Rattle.ash_meaning.specs.ReleaseExamples.{declared, value_of_new}

-- records of calls

-- the record with another answer
abbrev pub answering : HostAnswer → HostRecord → HostRecord
answering answer r = record r { answer = answer }

-- the record of a call that finds a counter at this number
abbrev pub found_at : ℕ → HostRecord → HostRecord
found_at n r = record r { before = int_bytes (pos n) }

-- a record of a write of the property of a counter
abbrev pub value_written : ℕ → ℕ → ℕ → HostRecord
value_written object old n = record {
  target = hosts.Object object;
  call = calls.Set 1 (words.Int (pos n));
  before = int_bytes (pos old);
  answer = Nothing;
  after = int_bytes (pos n);
}

-- worlds

-- with one service, which is at 0
abbrev pub with_tally : List HostRecord → World
with_tally answers = record empty_world { services = int_bytes (pos 0) ∷ []; answers = answers }

-- a free box of another kind than counters
abbrev pub other_box : FreeBox
other_box = record { kind = 2; state = int_bytes (pos 9) }

-- a free counter, which is at this number
abbrev pub counter_box : ℕ → FreeBox
counter_box n = record { kind = 1; state = int_bytes (pos n) }

abbrev pub with_boxes : List FreeBox → List HostRecord → World
with_boxes boxes answers = record empty_world { pool = boxes; answers = answers }

-- modules

-- `void f() { Counter@ a = Counter(1); Counter@ b = Counter(1); a.add(1); }`
abbrev pub two_counters : Program
two_counters = only None [] (declared 1 ∷ declared 1 ∷ evaluate (add (Read (local 0 counter)) 1) ∷ [])

-- `void f() { Counter@ a = Counter(1); }`
abbrev pub drawing : Program
drawing = only None [] (declared 1 ∷ [])

-- `void f() { Counter@ a = Counter(1); Counter@ b = Counter(2); }`
abbrev pub drawing_two : Program
drawing_two = only None [] (declared 1 ∷ declared 2 ∷ [])

-- `int f() { return Counter(1).value; }`
abbrev pub reading : Program
reading = only (Some int) [] (returning (value_of_new 1) ∷ [])

-- the property of the counter that is the first local
abbrev pub first_value : Place
first_value = counter_value (Read (local 0 counter))

-- `int f() { Counter@ a = Counter(1); a.value = 5; return a.value; }`
abbrev pub writing : Program
writing =
    only (Some int) [] (declared 1 ∷ evaluate (Assign first_value (number 5)) ∷ returning (Read first_value) ∷ [])

-- `int f() { Counter@ a = Counter(1); return a.value += 4; }`
abbrev pub updating : Program
updating = only (Some int) [] (declared 1 ∷ returning (Update first_value ints.Int by (number 4)) ∷ [])
  where
    by : Calculation
    by = record { operator = calculators.Add; of = ints.Int }

-- `void f() { tally(4); }`
abbrev pub tallying : Program
tallying = only None [] (evaluate (tally 4) ∷ [])
