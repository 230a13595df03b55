use Rattle.std.proofs.Common.{◌∙◌, sym, subst}
use Rattle.ash_host.specs.declared.word.Word.{Word}
use Rattle.ash_meaning.specs.Activity.{Activity}
use Rattle.ash_run_steps.specs.ArrayGuards.{element_at}
use Rattle.ash_run_steps.specs.Becoming.{Comes}
use Rattle.ash_run_steps.specs.Guarded.{◌>>=◌}
use Rattle.ash_run_steps.specs.declared.arrays.Element.{Element}
use Rattle.ash_code.specs.Controls.{word_at}
use Rattle.ash_code.specs.Performing.{perform, put}
use Rattle.ash_code.specs.declared.instruction.Instruction.TheVariants as i
use Rattle.ash_context.specs.Composed.{putting}
use Rattle.ash_context.specs.Members as members
use Rattle.ash_context.specs.Positions.{control_of, came_to}
use Rattle.ash_context.proofs.Puts.{if_ok}
use Rattle.ash_context.proofs.Regrouping.{comes_alike, element_then, regrouped}
use Rattle.ash_context.proofs.elements.read_element.Goals as goal

pub returns : goal.returns
returns g c =
    let old = c.args.state.now in
    let new = c.store_given.new.state in
    let at = control_of c.args.at old.frames in
    let array = word_at c.args.array at in
    let index = word_at c.args.index at in
    let to = c.args.to in
    let step = c.element_held-step in
    let mid = step.new.state in
    let held = λ (e : Element). members.part_held e.number e.place in
    record {
      does = λ s. comes_alike g.B.HostObject s.names (perform s (i.ReadElement c.args.array c.args.index to) at) (putting (members.element_held array index) to at) old new (came_to c.store_given.result new.frames)
          (λ (a : Activity). element_then array index (λ (e : Element). held e >>= put to at) a ∙ sym (regrouped (element_at array index) held (put to at) a))
          (c.store_given.ensures.put s (members.element_held array index) at old
          (subst (λ (w : Word). Comes g.B.HostObject s.names (members.element_held array w) old step.result mid) c.word_at-index.ensures.word
          (subst (λ (w : Word). Comes g.B.HostObject s.names (members.element_held w c.word_at-index.result) old step.result mid) c.word_at-array.ensures.word (step.ensures.held s.names)))
          (if_ok step.result (λ same. same c.args.at) step.ensures.same));
    }
