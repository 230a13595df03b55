use Rattle.std.proofs.Common.{subst}
use Rattle.ash_host.specs.declared.word.Word.{Word}
use Rattle.ash_meaning.specs.ObjectSteps.{object_of}
use Rattle.ash_meaning.specs.Activity.{Activity}
use Rattle.ash_run_steps.specs.Becoming.{Comes}
use Rattle.ash_run_steps.specs.Guarded.{plain, ◌>>=◌}
use Rattle.ash_code.specs.Controls.{word_at}
use Rattle.ash_code.specs.Steps.{give_held, read_part}
use Rattle.ash_code.specs.Performing.{object_in}
use Rattle.ash_context.specs.Members as members
use Rattle.ash_context.specs.Positions.{control_of}
use Rattle.ash_context.proofs.Puts.{if_ok}
use Rattle.ash_context.proofs.Regrouping.{comes_alike, regrouped}
use Rattle.ash_context.proofs.members.read_field.Goals as goal

pub returns : goal.returns
returns g c =
    let old = c.args.state.now in
    let at = control_of c.args.at old.frames in
    let object = word_at c.args.object at in
    let place = c.args.place in
    let step = c.field_held-step in
    let new = step.new.state in
    let run = object_in c.args.object at >>= (λ number. read_part number place) >>= give_held in
    record {
      does = λ s. c.store_given.ensures.put s run at old
          (comes_alike g.B.HostObject s.names run (members.field_held object place) old new step.result
          (λ (a : Activity). regrouped (plain (object_of object)) (λ number. read_part number place) give_held a)
          (subst (λ (w : Word). Comes g.B.HostObject s.names (members.field_held w place) old step.result new) c.word_at-object.ensures.word (step.ensures.held s.names)))
          (if_ok step.result (λ same. same c.args.at) step.ensures.same);
    }
