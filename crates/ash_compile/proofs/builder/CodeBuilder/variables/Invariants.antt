use Rattle.std.proofs.Common.{ℕ, drop, map}
use Rattle.ash_typed.specs.BodyViews.{value_of}
use Rattle.ash_compile.specs.declared.builder.Written.{Written}
use Rattle.ash_compile.specs.EmittedStatements.{EmitsVariables}
use Rattle.ash_compile.proofs.builder.CodeBuilder.variables.Given as goal

-- With the code of the variables that are left, it is the code of all.
abbrev pub invariant-loop-value : goal.invariant-loop-value
invariant-loop-value l =
    (end : Written) (more : ℕ) → EmitsVariables l.self end (map value_of (drop l.value-index l.values)) l.locals more
    → EmitsVariables l.fn.self end (map value_of l.values) l.fn.locals more
