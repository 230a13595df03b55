use Rattle.std.proofs.Common.{◌≡◌, ◌++◌, drop, map}
use Rattle.ash_typed.specs.Modules.{function_of}
use Rattle.ash_compile.specs.Layout.{count_of_parameters}
use Rattle.ash_compile.proofs.layout.add_functions.Given as goal

-- The numbers that are there and those that are left are all of them.
abbrev pub invariant-loop-function : goal.invariant-loop-function
invariant-loop-function l =
    l.counts.items ++ map count_of_parameters (map function_of (drop l.function-index l.functions))
    ≡ l.fn.counts.items ++ map count_of_parameters (map function_of l.functions)
