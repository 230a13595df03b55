use Rattle.std.proofs.Common.{drop, map}
use Rattle.ash_typed.specs.BodyViews.{value_of}
use Rattle.ash_compile.specs.declared.builder.Written.{Written}
use Rattle.ash_compile.specs.EmittedParts.{EmitsFields}
use Rattle.ash_compile.proofs.builder.CodeBuilder.fields.Given as goal

-- With the code of what is left of the fields there is that of all of them.
abbrev pub invariant-loop-field : goal.invariant-loop-field
invariant-loop-field l =
    (new : Written) → EmitsFields l.self new l.place (map value_of (drop l.field-index l.fields)) l.locals
    → EmitsFields l.fn.self new 0 (map value_of l.fields) l.locals
