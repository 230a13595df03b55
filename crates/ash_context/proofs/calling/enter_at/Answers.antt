use Rattle.std.proofs.Common.{◌∙◌, ap, List}
use Rattle.std.specs.Prelude.{Some, None, option_map, slice_get}
use Rattle.ash_code.specs.declared.code.FunctionCode.{FunctionCode}
use Rattle.ash_code.specs.Performing.{enter_at}
use Rattle.ash_context.specs.Calls.{enter_entry, entry_in}
use Rattle.ash_context.specs.Positions.{control_of, came_to}
use Rattle.ash_context.proofs.Entries.{entered_by}
use Rattle.ash_context.proofs.Puts.{comes_by, unsound_by}
use Rattle.ash_context.proofs.calling.enter_at.Goals as goal

pub returns-in-Some : goal.returns-in-Some
returns-in-Some g c =
    let old = c.args.state.now in
    let at = control_of c.args.at old.frames in
    record {
      entered = λ s same. comes_by g.B.HostObject s.names (enter_at s c.args.function c.args.this c.args.first at) (enter_entry s c.args.function c.args.this c.args.first at c.in-Some.entry) old c.enter.new.state
          (came_to c.enter.result c.enter.new.state.frames)
          (entered_by s c.args.code.now c.args.function c.args.this c.args.first at (Some c.in-Some.entry) same (c.in-Some.ensures.entry ∙ ap (λ (fs : List FunctionCode). option_map entry_in (slice_get fs c.args.function)) c.deref.ensures.value)) (c.enter.ensures.entered s);
    }

pub returns-in-None : goal.returns-in-None
returns-in-None g c =
    let old = c.args.state.now in
    let at = control_of c.args.at old.frames in
    record {
      entered = λ s same. unsound_by g.B.HostObject s.names (enter_at s c.args.function c.args.this c.args.first at) old
          (entered_by s c.args.code.now c.args.function c.args.this c.args.first at None same (c.in-None.ensures.entry ∙ ap (λ (fs : List FunctionCode). option_map entry_in (slice_get fs c.args.function)) c.deref.ensures.value));
    }
