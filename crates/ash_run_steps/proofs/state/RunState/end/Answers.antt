use Rattle.ash_run_steps.proofs.EndSteps.{finishes, interrupts, on_ok}
use Rattle.ash_run_steps.proofs.state.RunState.end.Goals as goal

pub returns-clause-finished : goal.returns-clause-finished
returns-clause-finished g c = λ names test run start counts value first.
    let G = g.B.HostObject in
    let now = c.args.self.now in
    let mid = c.give_up.new.self in
    let new = c.release.new.self in
    let up = c.give_up.ensures in
    on_ok G names test mid new c.release.result (c.release.ensures.released names test) (λ released. finishes G names test now mid new up.same up.others up.none released run start counts value first)

pub returns-clause-interrupted : goal.returns-clause-interrupted
returns-clause-interrupted g c = λ names test run start interrupt first.
    let G = g.B.HostObject in
    let now = c.args.self.now in
    let mid = c.give_up.new.self in
    let new = c.release.new.self in
    let up = c.give_up.ensures in
    on_ok G names test mid new c.release.result (c.release.ensures.released names test) (λ released. interrupts G names test now mid new up.same up.others up.none released run start interrupt first)
