use Rattle.std.proofs.Common.{List, ℕ, ◌+◌, drop, map, subst}
use Rattle.ash_typed.specs.declared.tree.statements.Initialization as initialization_code
use Rattle.ash_typed.specs.BodyViews.{value_of}
use Rattle.ash_compile.specs.EmittedStatements.{EmitsVariables}
use Rattle.ash_compile.proofs.Remaining.{next_of, none_of}
use Rattle.ash_compile.proofs.EmittedParts as parts
use Rattle.ash_compile.proofs.builder.CodeBuilder.variables.Goals as goal

pub loop-value-init : goal.loop-value-init
loop-value-init c = λ end more rest. rest

pub returns : goal.returns
returns c = record {
  emits = c.loop-value.invariant c.loop-value.self c.loop-value.locals
      (subst (λ (xs : List initialization_code.Initialization).
      EmitsVariables c.loop-value.self c.loop-value.self (map value_of xs) c.loop-value.locals c.loop-value.locals)
      (none_of c.args.values.now c.loop-value.value-index c.loop-value-test.false)
      (parts.no_variables c.loop-value.self c.loop-value.locals));
}

pub loop-value-preserved : goal.loop-value-preserved
loop-value-preserved c = λ end more rest.
    c.loop-value.invariant end more
    (subst (λ (xs : List initialization_code.Initialization).
    EmitsVariables c.loop-value.self end (map value_of xs) c.loop-value.locals more)
    (next_of c.args.values.now c.loop-value.value-index c.value-item.result c.loop-value-test.true c.value-item.is)
    (c.in_ok-variable_begins.ensures.emits end
    (map value_of (drop (c.loop-value.value-index + 1) c.args.values.now)) more
    (subst (λ (n : ℕ). EmitsVariables c.variable_begins.new.self end
    (map value_of (drop (c.loop-value.value-index + 1) c.args.values.now)) n more)
    c.in_ok-locals.ensures.more rest)))
