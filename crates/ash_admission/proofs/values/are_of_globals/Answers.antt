use Rattle.std.proofs.Common.{◌∙◌}
use Rattle.ash_admission.specs.Admission.{program_of}
use Rattle.ash_admission.proofs.ValueLoops.{declaration_more, declarations_end, none_left}
use Rattle.ash_admission.proofs.values.are_of_globals.Goals as goal

pub returns-in-None : goal.returns-in-None
returns-in-None c = record {
  value =
      declaration_more (program_of c.args.loaded.now) c.args.objects.now c.args.declarations.now c.loop-declaration.declaration-index c.declaration-item.result c.deref.result.now c.loop-declaration.rest.now _ _ c.loop-declaration-test.true c.declaration-item.is c.deref.ensures.value c.in-None.ensures.value c.loop-declaration.invariant;
}

pub loop-declaration-preserved : goal.loop-declaration-preserved
loop-declaration-preserved c =
    declaration_more (program_of c.args.loaded.now) c.args.objects.now c.args.declarations.now c.loop-declaration.declaration-index c.declaration-item.result c.deref.result.now c.loop-declaration.rest.now _ _ c.loop-declaration-test.true c.declaration-item.is c.deref.ensures.value c.in-Some.ensures.value c.loop-declaration.invariant

pub returns : goal.returns
returns c = record {
  value =
      none_left c.loop-declaration.rest.now c.is_empty.result c.is_empty.ensures
      ∙ declarations_end (program_of c.args.loaded.now) c.args.objects.now c.args.declarations.now c.loop-declaration.declaration-index c.loop-declaration.rest.now _ c.loop-declaration-test.false c.loop-declaration.invariant;
}
