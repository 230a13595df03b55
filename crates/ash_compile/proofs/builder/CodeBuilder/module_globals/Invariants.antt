use Rattle.std.proofs.Common.{drop, map}
use Rattle.ash_typed.specs.Modules.{variables_of}
use Rattle.ash_compile.specs.declared.builder.Written.{Written}
use Rattle.ash_compile.specs.EmittedParts.{EmitsDeclarations}
use Rattle.ash_compile.proofs.builder.CodeBuilder.module_globals.Given as goal

-- With the code of what is left of the declarations there is that of all of them.
abbrev pub invariant-loop-declared : goal.invariant-loop-declared
invariant-loop-declared l =
    (new : Written) → EmitsDeclarations l.self new l.place (map variables_of (drop l.declared-index l.variables))
    → EmitsDeclarations l.fn.self new 0 (map variables_of l.variables)
