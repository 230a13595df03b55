use Rattle.std.proofs.Common.{List, ap, subst}
use Rattle.ash_host.specs.declared.event.Target.TheVariants as targets
use Rattle.ash_host.specs.declared.word.Word.{Word}
use Rattle.ash_meaning.specs.ObjectSteps.{object_of}
use Rattle.ash_run_steps.specs.Becoming.{Comes}
use Rattle.ash_run_steps.specs.Guarded.{plain, ◌>>=◌}
use Rattle.ash_run_steps.specs.HostGuards.{invoke_host}
use Rattle.ash_run_steps.specs.Stacks.{Frames}
use Rattle.ash_code.specs.Controls.{word_at, words_at}
use Rattle.ash_context.specs.Positions.{control_of}
use Rattle.ash_context.proofs.Puts.{always}
use Rattle.ash_context.proofs.hosts.call_host.Goals as goal

pub returns : goal.returns
returns g c =
    let a = c.args in
    let old = a.state.now in
    let at = control_of a.at old.frames in
    let step = c.answer_of-step in
    let mid = step.new.state in
    record {
      does = λ s. c.store_given.ensures.put s
          (plain (object_of (word_at a.object at)) >>= (λ number. invoke_host (targets.Object number) a.id a.declared (words_at a.first a.count at))) at old
          (subst (λ (w : Word). Comes g.B.HostObject s.names (plain (object_of w) >>= (λ number. invoke_host (targets.Object number) a.id a.declared (words_at a.first a.count at))) old step.result mid) c.word_at-object.ensures.word
          (subst (λ (ws : List Word). Comes g.B.HostObject s.names (plain (object_of c.word_at-object.result) >>= (λ number. invoke_host (targets.Object number) a.id a.declared ws)) old step.result mid) c.row_of-row.ensures.words (step.ensures.answered s.names)))
          (always step.result (ap (λ (f : Frames). control_of a.at f) step.ensures.frames));
    }
