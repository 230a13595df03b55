use Rattle.std.proofs.Common.{drop, map}
use Rattle.ash_typed.specs.BodyViews.{value_of}
use Rattle.ash_compile.specs.declared.builder.Written.{Written}
use Rattle.ash_compile.specs.EmittedParts.{EmitsGlobals}
use Rattle.ash_compile.proofs.builder.CodeBuilder.globals.Given as goal

-- With the code of what is left of the globals there is that of all of them.
abbrev pub invariant-loop-global : goal.invariant-loop-global
invariant-loop-global l =
    (new : Written) → EmitsGlobals l.self new l.place (map value_of (drop l.global-index l.globals))
    → EmitsGlobals l.fn.self new l.first (map value_of l.globals)
