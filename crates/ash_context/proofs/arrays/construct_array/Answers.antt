use Rattle.std.proofs.Common.{ap, []}
use Rattle.ash_meaning.specs.ArraySteps.{construct_array}
use Rattle.ash_object_ranks.specs.ShownTables.{elements_shown}
use Rattle.ash_run_steps.specs.Guarded.{plain}
use Rattle.ash_run_steps.specs.Stacks.{Frames}
use Rattle.ash_context.specs.Positions.{control_of}
use Rattle.ash_context.proofs.Regrouping.{if_value}
use Rattle.ash_context.proofs.arrays.construct_array.Goals as goal

pub returns : goal.returns
returns g c =
    let old = c.args.state.now in
    let at = control_of c.args.at old.frames in
    let step = c.construct_array-step in
    record {
      does = λ s. c.store_given.ensures.put s (plain (construct_array (elements_shown (s.names).modules c.args.element) [])) at old (step.ensures.constructed s.names)
          (if_value step.result (λ word same. ap (λ (f : Frames). control_of c.args.at f) same) step.ensures.frames);
    }
