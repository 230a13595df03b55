use Rattle.std.proofs.Common.{ap}
use Rattle.ash_run_steps.specs.ArrayGuards.{element_at}
use Rattle.ash_run_steps.specs.Stacks.{Frames}
use Rattle.ash_run_steps.specs.declared.arrays.Element.{Element}
use Rattle.ash_code.specs.Steps.{write_part}
use Rattle.ash_context.specs.Positions.{control_of}
use Rattle.ash_context.proofs.Puts.{after_ok, after_err, if_ok}
use Rattle.ash_context.proofs.elements.element_written.Goals as goal

pub returns-in-Ok : goal.returns-in-Ok
returns-in-Ok g c =
    let old = c.args.state.now in
    let write = c.write_part in
    record {
      written = λ names. after_ok g.B.HostObject names (element_at c.args.array c.args.index) (λ (e : Element). write_part e.number e.place c.args.word) old old write.new.self c.element_at.result c.in-Ok.element write.result c.in-Ok.is (c.element_at.ensures.element names) (write.ensures.written names);
      same = if_ok write.result (λ same at. ap (λ (f : Frames). control_of at f) same) write.ensures.frames;
    }

pub returns-in-Err : goal.returns-in-Err
returns-in-Err g c =
    let old = c.args.state.now in
    record {
      written = λ names. after_err g.B.HostObject names (element_at c.args.array c.args.index) (λ (e : Element). write_part e.number e.place c.args.word) old old c.element_at.result c.in-Err.stop c.in-Err.is (c.element_at.ensures.element names);
      same = tt;
    }
