use Rattle.std.proofs.Common.{refl, subst}
use Rattle.ash_host.specs.declared.word.Word.{Word}
use Rattle.ash_meaning.specs.ObjectSteps.{object_of}
use Rattle.ash_run_steps.specs.Becoming.{Comes}
use Rattle.ash_run_steps.specs.Guarded.{plain, ◌>>=◌}
use Rattle.ash_run_steps.specs.HostGuards.{get_property}
use Rattle.ash_code.specs.Controls.{word_at}
use Rattle.ash_context.specs.Positions.{control_of}
use Rattle.ash_context.proofs.Puts.{always}
use Rattle.ash_context.proofs.hosts.get_property.Goals as goal

pub returns : goal.returns
returns g c =
    let old = c.args.state.now in
    let at = control_of c.args.at old.frames in
    let step = c.property_of-step in
    record {
      does = λ s. c.store_given.ensures.put s (plain (object_of (word_at c.args.object at)) >>= (λ number. get_property number c.args.id c.args.var_type)) at old
          (subst (λ (w : Word). Comes g.B.HostObject s.names (plain (object_of w) >>= (λ number. get_property number c.args.id c.args.var_type)) old step.result old) c.word_at.ensures.word (step.ensures.read s.names))
          (always step.result refl);
    }
