use Rattle.std.specs.Prelude.{Ok, Err}
use Rattle.ash_run_steps.specs.RunStates.{shown}
use Rattle.ash_run_steps.specs.FrameSteps.{give_back, leave, return_from}
use Rattle.ash_run_steps.specs.Guarded.{give, ◌>>◌}
use Rattle.ash_run_steps.specs.GuardedSteps.{release}
use Rattle.ash_run_steps.proofs.Composed.{becomes_in, comes_then, comes_out}
use Rattle.ash_run_steps.proofs.JumpSteps.{comes_from, exits_by}
use Rattle.ash_run_steps.proofs.LeaveSteps.{return_leaves, called_shown}
use Rattle.ash_run_steps.proofs.state.RunState.leave.Goals as goal

pub returns-in_err-give_back-clause-left : goal.returns-in_err-give_back-clause-left
returns-in_err-give_back-clause-left g c = λ names test counts.
    let old = c.args.self.now in
    let word = c.args.word in
    let end = c.in_err-give_back.field-0.0 in
    let first = rw c.in_err-give_back.was at (c.give_back.ensures.back names) in
    let second = comes_out g.B.HostObject names (give_back word) (λ _. release test) old c.give_back.new.self end first in
    let third = comes_out g.B.HostObject names (give_back word >> release test) (λ _. give word) old c.give_back.new.self end second in
    let all = comes_from g.B.HostObject names (leave test word) (return_from test counts word) old c.give_back.new.self (Err end) (λ rest. return_leaves test counts word (shown g.B.HostObject names rest old) (called_shown g.B.HostObject names rest old c.requires.called)) third in
    exits_by g.B.HostObject names (return_from test counts word) old c.give_back.new.self end c.from_residual.result c.from_residual.ensures.1 all

pub returns-in_err-release-clause-left : goal.returns-in_err-release-clause-left
returns-in_err-release-clause-left g c = λ names test counts.
    let old = c.args.self.now in
    let word = c.args.word in
    let end = c.in_err-release.field-0.0 in
    let mid = c.give_back.new.self in
    let first = rw c.in_ok-give_back.was at (c.give_back.ensures.back names) in
    let second = rw c.in_err-release.was at (c.release.ensures.released names test) in
    let both = comes_then g.B.HostObject names (give_back word) (λ _. release test) old mid c.release.new.self tt (Err end) first second in
    let third = comes_out g.B.HostObject names (give_back word >> release test) (λ _. give word) old c.release.new.self end both in
    let all = comes_from g.B.HostObject names (leave test word) (return_from test counts word) old c.release.new.self (Err end) (λ rest. return_leaves test counts word (shown g.B.HostObject names rest old) (called_shown g.B.HostObject names rest old c.requires.called)) third in
    exits_by g.B.HostObject names (return_from test counts word) old c.release.new.self end c.from_residual-in_err-release.result c.from_residual-in_err-release.ensures.1 all

pub returns-clause-left : goal.returns-clause-left
returns-clause-left g c = λ names test counts.
    let old = c.args.self.now in
    let word = c.args.word in
    let mid = c.give_back.new.self in
    let new = c.release.new.self in
    let first = rw c.in_ok-give_back.was at (c.give_back.ensures.back names) in
    let second = rw c.in_ok-release.was at (c.release.ensures.released names test) in
    let both = comes_then g.B.HostObject names (give_back word) (λ _. release test) old mid new tt (Ok tt) first second in
    let third = becomes_in g.B.HostObject names (give_back word >> release test) (λ _. give word) old (give tt) new both in
    comes_from g.B.HostObject names (leave test word) (return_from test counts word) old new (Ok word) (λ rest. return_leaves test counts word (shown g.B.HostObject names rest old) (called_shown g.B.HostObject names rest old c.requires.called)) third
