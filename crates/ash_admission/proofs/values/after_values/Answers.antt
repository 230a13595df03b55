use Rattle.std.proofs.Common.{ap, ◌∙◌, option_map}
use Rattle.ash_admission.specs.Admission.{program_of}
use Rattle.ash_admission.proofs.ValueLoops.{variable_more, variables_end}
use Rattle.ash_admission.proofs.values.after_values.Goals as goal

pub returns-in_err-rest : goal.returns-in_err-rest
returns-in_err-rest c = record {
  value =
      ap (option_map (λ x. x.now)) c.from_residual.ensures
      ∙ variable_more (program_of c.args.loaded.now) c.args.objects.now c.args.variables.now c.loop-variable.variable-index c.variable-item.result c.loop-variable.rest.now _ _ c.loop-variable-test.true c.variable-item.is c.in_err-rest.ensures.value c.loop-variable.invariant;
}

pub loop-variable-preserved : goal.loop-variable-preserved
loop-variable-preserved c =
    variable_more (program_of c.args.loaded.now) c.args.objects.now c.args.variables.now c.loop-variable.variable-index c.variable-item.result c.loop-variable.rest.now _ _ c.loop-variable-test.true c.variable-item.is c.in_ok-rest.ensures.value c.loop-variable.invariant

pub returns : goal.returns
returns c = record {
  value =
      variables_end (program_of c.args.loaded.now) c.args.objects.now c.args.variables.now c.loop-variable.variable-index c.loop-variable.rest.now _ c.loop-variable-test.false c.loop-variable.invariant;
}
