use Rattle.std.proofs.Common.{◌+◌, refl, subst}
use Rattle.ash_host.specs.declared.word.Word.{Word}
use Rattle.ash_meaning.specs.ObjectSteps.{object_of}
use Rattle.ash_run_steps.specs.Becoming.{Comes}
use Rattle.ash_run_steps.specs.Guarded.{plain, ◌>>=◌}
use Rattle.ash_run_steps.specs.HostGuards.{set_property}
use Rattle.ash_code.specs.Controls.{word_at, forward}
use Rattle.ash_context.specs.Positions.{control_of}
use Rattle.ash_context.proofs.Puts.{always, comes_moving}
use Rattle.ash_context.proofs.hosts.set_property.Goals as goal

pub returns : goal.returns
returns g c =
    let old = c.args.state.now in
    let here = c.args.at in
    let at = control_of here old.frames in
    let step = c.property_set-step in
    let new = step.new.state in
    record {
      does = λ s. rw c.going_on.ensures.going_on (comes_moving g.B.HostObject s.names
          (plain (object_of (word_at c.args.object at)) >>= (λ number. set_property number c.args.id (word_at c.args.from at))) (forward at) (here + 1) old new step.result old.frames
          (subst (λ (w : Word). Comes g.B.HostObject s.names (plain (object_of w) >>= (λ number. set_property number c.args.id (word_at c.args.from at))) old step.result new) c.word_at-object.ensures.word
          (subst (λ (w : Word). Comes g.B.HostObject s.names (plain (object_of c.word_at-object.result) >>= (λ number. set_property number c.args.id w)) old step.result new) c.word_at-word.ensures.word (step.ensures.written s.names)))
          (always step.result step.ensures.frames) refl);
    }
