use Rattle.std.proofs.Common.{◌≡◌, ◌+◌, ◌∙◌, ap, sym, true, false, Bool, cond}
use Rattle.std.specs.Prelude.{◌&&◌, nat_le, length}
use Rattle.ash_run_steps.specs.Guarded.{Guarded, give, unsound, ◌>>◌}
use Rattle.ash_run_steps.specs.GuardedSteps.{enter}
use Rattle.ash_run_steps.specs.Stacks.{Frames}
use Rattle.ash_code.specs.Controls.{words_at, entering}
use Rattle.ash_code.specs.Performing.{Next, GoesOn}
use Rattle.ash_context.specs.Calls.{enter_entry}
use Rattle.ash_context.specs.Positions.{control_of, came_to, going_on}
use Rattle.ash_context.proofs.Puts.{comes_on, comes_by, unsound_by, if_ok}
use Rattle.ash_context.proofs.calling.enter.Goals as goal

pub returns-then-not-has_room : goal.returns-then-not-has_room
returns-then-not-has_room g c =
    let old = c.args.state.now in
    let at = control_of c.args.at old.frames in
    let e = c.args.entry in
    let no : nat_le at.count c.args.first && nat_le (c.args.first + e.parameters) (length at.slots) ≡ false = sym c.has_room.ensures.room ∙ c.if-not-has_room.true in
    record {
      entered = λ s. unsound_by g.B.HostObject s.names (enter_entry s c.args.function c.args.this c.args.first at e) old
          (ap (λ (t : Bool). cond {A = Guarded Next} t (enter ((s.names).functions c.args.function) e.line c.args.this (words_at c.args.first e.parameters at) >> give (GoesOn (entering c.args.function e.parameters c.args.first at))) unsound) no);
    }

pub returns : goal.returns
returns g c =
    let old = c.args.state.now in
    let here = c.args.at in
    let at = control_of here old.frames in
    let e = c.args.entry in
    let step = c.enter-step in
    let new = step.new.self in
    let yes : nat_le at.count c.args.first && nat_le (c.args.first + e.parameters) (length at.slots) ≡ true = sym c.has_room.ensures.room ∙ c.if-not-has_room.false in
    record {
      entered = λ s. rw c.going_on.ensures.going_on (comes_by g.B.HostObject s.names (enter_entry s c.args.function c.args.this c.args.first at e)
          (enter ((s.names).functions c.args.function) e.line c.args.this (words_at c.args.first e.parameters at) >> give (GoesOn (entering c.args.function e.parameters c.args.first at))) old new (came_to (going_on step.result 0) new.frames)
          (ap (λ (t : Bool). cond {A = Guarded Next} t (enter ((s.names).functions c.args.function) e.line c.args.this (words_at c.args.first e.parameters at) >> give (GoesOn (entering c.args.function e.parameters c.args.first at))) unsound) yes)
          (comes_on g.B.HostObject s.names (enter ((s.names).functions c.args.function) e.line c.args.this (words_at c.args.first e.parameters at)) (entering c.args.function e.parameters c.args.first at) 0 old new step.result
          (step.ensures.entered s.names) (if_ok step.result (λ same. ap (λ (f : Frames). control_of 0 f) same) step.ensures.frames)));
    }
