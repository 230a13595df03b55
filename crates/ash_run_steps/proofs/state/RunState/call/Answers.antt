use Rattle.std.specs.Prelude.{Ok, Err, take, drop}
use Rattle.ash_meaning.specs.Frames.{demand_frame, tick}
use Rattle.ash_run_steps.specs.FrameSteps.{call}
use Rattle.ash_run_steps.specs.Guarded.{plain, ◌>>◌}
use Rattle.ash_run_steps.specs.GuardedSteps.{enter}
use Rattle.ash_run_steps.proofs.Composed.{comes_then, comes_out}
use Rattle.ash_run_steps.proofs.JumpSteps.{exits_by}
use Rattle.ash_run_steps.proofs.state.RunState.call.Goals as goal

pub returns-in_err-demand_frame-clause-called : goal.returns-in_err-demand_frame-clause-called
returns-in_err-demand_frame-clause-called g c = λ names.
    let G = g.B.HostObject in
    let a = c.args in
    let old = a.self.now in
    let name = names.functions a.function in
    let args = take a.count (drop a.at (old.frames.frame).slots) in
    let end = c.in_err-demand_frame.field-0.0 in
    let first = rw c.in_err-demand_frame.was at (c.demand_frame.ensures.demanded names) in
    let second = comes_out G names (plain demand_frame) (λ _. enter name a.line a.this args) old old end first in
    let all = comes_out G names (plain demand_frame >> enter name a.line a.this args) (λ _. plain (tick a.line)) old old end second in
    exits_by G names (call name a.line a.this args) old old end c.from_residual.result c.from_residual.ensures.1 all

pub returns-in_err-enter-clause-called : goal.returns-in_err-enter-clause-called
returns-in_err-enter-clause-called g c = λ names.
    let G = g.B.HostObject in
    let a = c.args in
    let old = a.self.now in
    let new = c.enter.new.self in
    let name = names.functions a.function in
    let args = take a.count (drop a.at (old.frames.frame).slots) in
    let end = c.in_err-enter.field-0.0 in
    let first = rw c.in_ok-demand_frame.was at (c.demand_frame.ensures.demanded names) in
    let second = rw c.in_err-enter.was at (c.enter.ensures.entered names) in
    let both = comes_then G names (plain demand_frame) (λ _. enter name a.line a.this args) old old new tt (Err end) first second in
    let all = comes_out G names (plain demand_frame >> enter name a.line a.this args) (λ _. plain (tick a.line)) old new end both in
    exits_by G names (call name a.line a.this args) old new end c.from_residual-in_err-enter.result c.from_residual-in_err-enter.ensures.1 all

pub returns-clause-called : goal.returns-clause-called
returns-clause-called g c = λ names.
    let G = g.B.HostObject in
    let a = c.args in
    let old = a.self.now in
    let mid = c.enter.new.self in
    let new = c.tick.new.self in
    let name = names.functions a.function in
    let args = take a.count (drop a.at (old.frames.frame).slots) in
    let first = rw c.in_ok-demand_frame.was at (c.demand_frame.ensures.demanded names) in
    let second = rw c.in_ok-enter.was at (c.enter.ensures.entered names) in
    let both = comes_then G names (plain demand_frame) (λ _. enter name a.line a.this args) old old mid tt (Ok tt) first second in
    comes_then G names (plain demand_frame >> enter name a.line a.this args) (λ _. plain (tick a.line)) old mid new tt c.tick.result both (c.tick.ensures.ticked names)
