-- Small modules with host objects, which requests load, call and discard.
use Rattle.std.specs.Prelude.{[], ◌∷◌, codes, Some, None}
use Rattle.ash_typed.specs.declared.tree.operations.Calculator.TheVariants as calculators
use Rattle.ash_typed.specs.TypedTree.{Assign}
use Rattle.ash_typed.specs.Modules.{Variables, Function, Module}
use Rattle.ash_meaning.specs.ExampleParts.{int, number, global, calculate, named, alone, evaluate, function}
use Rattle.ash_meaning.specs.ExampleParts.{module_of, counter, new_counter, f}
use Rattle.ash_meaning.specs.ReleaseExamples.{value_of_new}

-- `Counter@ g = Counter(1);`
abbrev pub one_counter : Variables
one_counter = alone (named (codes "g") counter (Some (new_counter 1)))

-- `Counter@ g = Counter(1); int a = Counter(2).value / 0;`
abbrev pub failing_load : Module
failing_load = module_of [] (one_counter ∷ failing ∷ []) []
  where
    failing : Variables
    failing = alone (named (codes "a") int (Some (calculate calculators.Divide (value_of_new 2) (number 0))))

-- `Counter@ g = Counter(1); int a = 0;`
abbrev pub long_load : Module
long_load = module_of [] (one_counter ∷ alone (named (codes "a") int (Some (number 0))) ∷ []) []

-- `Counter@ g = Counter(1); Counter@ h = Counter(2);`
abbrev pub two_counters : Module
two_counters = module_of [] (one_counter ∷ alone (named (codes "h") counter (Some (new_counter 2))) ∷ []) []

-- `int n = 0; void f() { n = 1; n = 2; }`
abbrev pub written_twice : Module
written_twice = module_of [] (alone (named (codes "n") int (Some (number 0))) ∷ []) (main ∷ [])
  where
    main : Function
    main =
        function f None []
        (evaluate (Assign (global 0 int) (number 1)) ∷ evaluate (Assign (global 0 int) (number 2)) ∷ [])
