use Rattle.std.proofs.Common.{◌+◌, refl, subst, [], ◌∷◌}
use Rattle.std.specs.Prelude.{slice_index_or}
use Rattle.ash_host.specs.declared.word.Word.{Word}
use Rattle.ash_host.specs.declared.word.Word.TheVariants.{Null}
use Rattle.ash_host.specs.Objects.{handles}
use Rattle.ash_run_steps.specs.Becoming.{Comes}
use Rattle.ash_run_steps.specs.Keeping.{keeping}
use Rattle.ash_code.specs.Controls.{forward, word_at}
use Rattle.ash_code.specs.Steps.{write_global}
use Rattle.ash_context.specs.Positions.{control_of}
use Rattle.ash_context.proofs.Puts.{comes_moving}
use Rattle.ash_context.proofs.members.write_global.Goals as goal

pub returns : goal.returns
returns g c =
    let old = c.args.state.now in
    let here = c.args.at in
    let at = control_of here old.frames in
    let step = c.write_global-step in
    let new = step.new.self in
    record {
      does = λ s. rw c.going_on.ensures.going_on (comes_moving g.B.HostObject s.names (write_global c.args.place (word_at c.args.from at)) (forward at) (here + 1) old new step.result
          (keeping (handles (slice_index_or old.globals c.args.place Null ∷ [])) old.frames)
          (subst (λ (w : Word). Comes g.B.HostObject s.names (write_global c.args.place w) old step.result new) c.word_at-word.ensures.word (step.ensures.written s.names))
          step.ensures.frames refl);
    }
