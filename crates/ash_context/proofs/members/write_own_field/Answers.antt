use Rattle.std.proofs.Common.{◌+◌, subst}
use Rattle.ash_host.specs.declared.word.Word.{Word}
use Rattle.ash_meaning.specs.Activity.{Activity}
use Rattle.ash_meaning.specs.Locations as locations
use Rattle.ash_meaning.specs.ObjectSteps.{object_of}
use Rattle.ash_run_steps.specs.Becoming.{Comes}
use Rattle.ash_run_steps.specs.Guarded.{plain, ◌>>=◌}
use Rattle.ash_run_steps.proofs.Composed.{comes_then}
use Rattle.ash_code.specs.Controls.{forward, word_at}
use Rattle.ash_code.specs.Steps.{write_part}
use Rattle.ash_context.specs.Members as members
use Rattle.ash_context.specs.Positions.{control_of}
use Rattle.ash_context.proofs.Puts.{comes_on, if_ok}
use Rattle.ash_context.proofs.Regrouping.{comes_alike, regrouped}
use Rattle.ash_context.proofs.members.write_own_field.Goals as goal

pub returns : goal.returns
returns g c =
    let old = c.args.state.now in
    let here = c.args.at in
    let at = control_of here old.frames in
    let place = c.args.place in
    let word = word_at c.args.from at in
    let this = c.this-this.result in
    let step = c.field_written-step in
    let new = step.new.state in
    let write = λ (number : _). write_part number place word in
    let run = plain locations.this >>= (λ (object : Word). plain (object_of object)) >>= write in
    record {
      does = λ s. rw c.going_on.ensures.going_on (comes_on g.B.HostObject s.names run (forward at) (here + 1) old new step.result
          (comes_alike g.B.HostObject s.names run (plain locations.this >>= (λ (object : Word). members.field_written object place word)) old new step.result
          (λ (a : Activity). regrouped (plain locations.this) (λ (object : Word). plain (object_of object)) write a)
          (comes_then g.B.HostObject s.names (plain locations.this) (λ (object : Word). members.field_written object place word) old old new this step.result (c.this-this.ensures.read s.names)
          (subst (λ (w : Word). Comes g.B.HostObject s.names (members.field_written this place w) old step.result new) c.word_at-word.ensures.word (step.ensures.written s.names))))
          (if_ok step.result (λ same. same (here + 1)) step.ensures.same));
    }
