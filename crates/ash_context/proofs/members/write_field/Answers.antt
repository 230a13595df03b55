use Rattle.std.proofs.Common.{◌+◌, subst}
use Rattle.ash_host.specs.declared.word.Word.{Word}
use Rattle.ash_run_steps.specs.Becoming.{Comes}
use Rattle.ash_code.specs.Controls.{forward, word_at}
use Rattle.ash_context.specs.Members as members
use Rattle.ash_context.specs.Positions.{control_of}
use Rattle.ash_context.proofs.Puts.{comes_on, if_ok}
use Rattle.ash_context.proofs.members.write_field.Goals as goal

pub returns : goal.returns
returns g c =
    let old = c.args.state.now in
    let here = c.args.at in
    let at = control_of here old.frames in
    let object = word_at c.args.object at in
    let place = c.args.place in
    let step = c.field_written-step in
    let new = step.new.state in
    record {
      does = λ s. rw c.going_on.ensures.going_on (comes_on g.B.HostObject s.names (members.field_written object place (word_at c.args.from at)) (forward at) (here + 1) old new step.result
          (subst (λ (w : Word). Comes g.B.HostObject s.names (members.field_written object place w) old step.result new) c.word_at-word.ensures.word
          (subst (λ (w : Word). Comes g.B.HostObject s.names (members.field_written w place c.word_at-word.result) old step.result new) c.word_at-object.ensures.word (step.ensures.written s.names)))
          (if_ok step.result (λ same. same (here + 1)) step.ensures.same));
    }
