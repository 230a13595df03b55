use Rattle.std.proofs.Common.{subst}
use Rattle.ash_host.specs.declared.word.Word.{Word}
use Rattle.ash_run_steps.specs.Becoming.{Comes}
use Rattle.ash_code.specs.Controls.{word_at}
use Rattle.ash_context.specs.Members as members
use Rattle.ash_context.specs.Positions.{control_of}
use Rattle.ash_context.proofs.Puts.{if_ok}
use Rattle.ash_context.proofs.arrays.remove_last.Goals as goal

pub returns : goal.returns
returns g c =
    let old = c.args.state.now in
    let at = control_of c.args.at old.frames in
    let step = c.removed-step in
    let mid = step.new.state in
    record {
      does = λ s. c.store_null.ensures.put s (members.removed (word_at c.args.array at)) at old
          (subst (λ (w : Word). Comes g.B.HostObject s.names (members.removed w) old step.result mid) c.word_at-array.ensures.word (step.ensures.removed s.names))
          (if_ok step.result (λ same. same c.args.at) step.ensures.same);
    }
