use Rattle.std.proofs.Common.{ap, subst}
use Rattle.ash_host.specs.declared.word.Word.{Word}
use Rattle.ash_object_ranks.specs.ShownTables.{elements_shown}
use Rattle.ash_run_steps.specs.ArrayGuards.{construct_array}
use Rattle.ash_run_steps.specs.Becoming.{Comes}
use Rattle.ash_run_steps.specs.Stacks.{Frames}
use Rattle.ash_code.specs.Controls.{word_at}
use Rattle.ash_context.specs.Positions.{control_of}
use Rattle.ash_context.proofs.Regrouping.{if_value}
use Rattle.ash_context.proofs.arrays.construct_array_of.Goals as goal

pub returns : goal.returns
returns g c =
    let old = c.args.state.now in
    let at = control_of c.args.at old.frames in
    let step = c.construct_array-step in
    record {
      does = λ s. c.store_given.ensures.put s (construct_array (elements_shown (s.names).modules c.args.element) (word_at c.args.len at)) at old
          (subst (λ (w : Word). Comes g.B.HostObject s.names (construct_array (elements_shown (s.names).modules c.args.element) w) old step.result step.new.self) c.word_at-len.ensures.word (step.ensures.constructed s.names))
          (if_value step.result (λ word same. ap (λ (f : Frames). control_of c.args.at f) same) step.ensures.frames);
    }
