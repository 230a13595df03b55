use Rattle.std.proofs.Common.{List, [], drop, length, arith, ap}
use Rattle.std.proofs.lemmas.List.{length-drop}
use Rattle.ash_host.specs.declared.word.Word.{Word}
use Rattle.ash_host.specs.declared.word.Word.TheVariants.{Null}
use Rattle.ash_run_steps.specs.Stacks.{Frames}
use Rattle.ash_run_steps.proofs.Stacking.{written_over}
use Rattle.ash_run_steps.proofs.stack.Stack.begin.Goals as goal

pub returns : goal.returns
returns c =
    let room = c.make_room-2.new.slots in
    let locals = c.args.locals.now in
    let rest : List Word = drop (length locals) room.items in
    let begun : List Word → Frames = λ slots. record {
      frame = record {
        function = c.args.function;
        line = c.args.line;
        this = Null;
        back = 0;
        slots = slots;
        count = length locals;
        held = [];
      };
      callers = [];
    } in
    record {
      begun = (
        rest,
        rw (c.write_first.ensures.written, c.first_frame-self-inside.ensures.frame, c.clear.ensures.items, c.clear-2.ensures.items, c.deref_mut.ensures.value)
            (ap begun (written_over room.len locals room.items c.in_ok-make_room-2.ensures.room room.ok.0)),
        omega (arith, c.in_ok-make_room.ensures.room, c.in_ok-make_room-2.ensures.kept, length-drop (length locals) room.items),
      );
    }
