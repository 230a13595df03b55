use Rattle.ash_run_steps.specs.ArrayGuards.{element_at}
use Rattle.ash_run_steps.specs.declared.arrays.Element.{Element}
use Rattle.ash_context.specs.Members as members
use Rattle.ash_context.proofs.Puts.{after_ok, after_err}
use Rattle.ash_context.proofs.elements.element_held.Goals as goal

pub returns-in-Ok : goal.returns-in-Ok
returns-in-Ok g c =
    let old = c.args.state.now in
    let part = c.part_held in
    record {
      held = λ names. after_ok g.B.HostObject names (element_at c.args.array c.args.index) (λ (e : Element). members.part_held e.number e.place) old old part.new.state c.element_at.result c.in-Ok.element part.result c.in-Ok.is (c.element_at.ensures.element names) (part.ensures.held names);
      same = part.ensures.same;
    }

pub returns-in-Err : goal.returns-in-Err
returns-in-Err g c =
    let old = c.args.state.now in
    record {
      held = λ names. after_err g.B.HostObject names (element_at c.args.array c.args.index) (λ (e : Element). members.part_held e.number e.place) old old c.element_at.result c.in-Err.stop c.in-Err.is (c.element_at.ensures.element names);
      same = tt;
    }
