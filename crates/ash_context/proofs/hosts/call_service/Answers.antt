use Rattle.std.proofs.Common.{List, ap, subst}
use Rattle.ash_host.specs.declared.event.Target.TheVariants as targets
use Rattle.ash_host.specs.declared.word.Word.{Word}
use Rattle.ash_run_steps.specs.Becoming.{Comes}
use Rattle.ash_meaning.specs.HostSteps.{invoke_host}
use Rattle.ash_run_steps.specs.Guarded.{plain}
use Rattle.ash_run_steps.specs.Stacks.{Frames}
use Rattle.ash_code.specs.Controls.{words_at}
use Rattle.ash_context.specs.Positions.{control_of}
use Rattle.ash_context.proofs.Puts.{always}
use Rattle.ash_context.proofs.hosts.call_service.Goals as goal

pub returns : goal.returns
returns g c =
    let a = c.args in
    let old = a.state.now in
    let at = control_of a.at old.frames in
    let step = c.invoke_service-step in
    let mid = step.new.self in
    record {
      does = λ s. c.store_given.ensures.put s (plain (invoke_host (targets.Service a.service) a.id a.declared (words_at a.first a.count at))) at old
          (subst (λ (ws : List Word). Comes g.B.HostObject s.names (plain (invoke_host (targets.Service a.service) a.id a.declared ws)) old step.result mid) c.row_of-row.ensures.words (step.ensures.invoked s.names))
          (always step.result (ap (λ (f : Frames). control_of a.at f) step.ensures.frames));
    }
