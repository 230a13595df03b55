use Rattle.std.proofs.Common.{refl, subst}
use Rattle.ash_host.specs.declared.word.Word.{Word}
use Rattle.ash_run_steps.specs.Becoming.{Comes}
use Rattle.ash_code.specs.Controls.{word_at}
use Rattle.ash_context.specs.Members as members
use Rattle.ash_context.specs.Positions.{control_of}
use Rattle.ash_context.proofs.Puts.{always}
use Rattle.ash_context.proofs.arrays.array_length.Goals as goal

pub returns : goal.returns
returns g c =
    let old = c.args.state.now in
    let at = control_of c.args.at old.frames in
    let step = c.length_of-step in
    record {
      does = λ s. c.store_given.ensures.put s (members.length_of (word_at c.args.array at)) at old
          (subst (λ (w : Word). Comes g.B.HostObject s.names (members.length_of w) old step.result old) c.word_at-array.ensures.word (step.ensures.length s.names))
          (always step.result refl);
    }
