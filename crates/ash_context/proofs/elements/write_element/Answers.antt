use Rattle.std.proofs.Common.{◌∙◌, ◌+◌, sym, subst}
use Rattle.ash_host.specs.declared.word.Word.{Word}
use Rattle.ash_meaning.specs.Activity.{Activity}
use Rattle.ash_run_steps.specs.ArrayGuards.{element_at}
use Rattle.ash_run_steps.specs.Becoming.{Comes}
use Rattle.ash_run_steps.specs.Guarded.{◌>>◌}
use Rattle.ash_run_steps.specs.declared.arrays.Element.{Element}
use Rattle.ash_code.specs.Controls.{forward, word_at}
use Rattle.ash_code.specs.Performing.{perform, go}
use Rattle.ash_code.specs.Steps.{write_part}
use Rattle.ash_code.specs.declared.instruction.Instruction.TheVariants as i
use Rattle.ash_context.specs.Members as members
use Rattle.ash_context.specs.Positions.{control_of, came_to, going_on}
use Rattle.ash_context.proofs.Puts.{comes_on, if_ok}
use Rattle.ash_context.proofs.Regrouping.{comes_alike, element_then, regrouped}
use Rattle.ash_context.proofs.elements.write_element.Goals as goal

pub returns : goal.returns
returns g c =
    let old = c.args.state.now in
    let here = c.args.at in
    let at = control_of here old.frames in
    let array = word_at c.args.array at in
    let index = word_at c.args.index at in
    let word = word_at c.args.from at in
    let step = c.element_written-step in
    let new = step.new.state in
    let write = λ (e : Element). write_part e.number e.place word in
    let run = members.element_written array index word >> go at in
    record {
      does = λ s. rw c.going_on.ensures.going_on (comes_alike g.B.HostObject s.names (perform s (i.WriteElement c.args.array c.args.index c.args.from) at) run old new (came_to (going_on step.result (here + 1)) new.frames)
          (λ (a : Activity). element_then array index (λ (e : Element). write e >> go at) a ∙ sym (regrouped (element_at array index) write (λ _. go at) a))
          (comes_on g.B.HostObject s.names (members.element_written array index word) (forward at) (here + 1) old new step.result
          (subst (λ (w : Word). Comes g.B.HostObject s.names (members.element_written array index w) old step.result new) c.word_at-word.ensures.word
          (subst (λ (w : Word). Comes g.B.HostObject s.names (members.element_written array w c.word_at-word.result) old step.result new) c.word_at-index.ensures.word
          (subst (λ (w : Word). Comes g.B.HostObject s.names (members.element_written w c.word_at-index.result c.word_at-word.result) old step.result new) c.word_at-array.ensures.word (step.ensures.written s.names))))
          (if_ok step.result (λ same. same (here + 1)) step.ensures.same)));
    }
