use Rattle.std.proofs.Common.{List, [], ◌∷◌, take, drop, ap, ◌∙◌, subst}
use Rattle.std.specs.Prelude.{Result, Ok, Err, OnErr}
use Rattle.ash_host.specs.declared.word.Word.{Word}
use Rattle.ash_meaning.specs.HostSteps as hosts
use Rattle.ash_run_steps.specs.Guarded.{plain, give}
use Rattle.ash_run_steps.specs.HostGuards.{start_host, holding}
use Rattle.ash_run_steps.specs.Becoming.{Becomes, Comes}
use Rattle.ash_run_steps.specs.Stacks.{Frames}
use Rattle.ash_run_steps.proofs.Constructs.{comes_exit, construct_is_refused, construct_raises, construct_gives}
use Rattle.ash_run_steps.proofs.state.RunState.construct_host.Goals as goal

pub returns-in_err-number-clause-constructed : goal.returns-in_err-number-clause-constructed
returns-in_err-number-clause-constructed g c = λ names.
    let old = c.args.self.now in
    let args = take c.args.count (drop c.args.at old.frames.frame.slots) in
    let e = c.in_err-number.field-0.0 in
    comes_exit g.B.HostObject names (plain (hosts.construct_host c.args.kind args)) old c.draw.new.self e c.from_residual.result c.from_residual.ensures.1 (construct_is_refused g.B.HostObject names c.args.kind args old c.draw.new.self e (c.in_err-number.ensures.drawn names))

pub returns-in_err-start-clause-constructed : goal.returns-in_err-start-clause-constructed
returns-in_err-start-clause-constructed g c = λ names.
    let old = c.args.self.now in
    let args = take c.args.count (drop c.args.at old.frames.frame.slots) in
    let n = c.in_ok-number.number in
    let e = c.in_err-start.field-0.0 in
    let slots = ap (λ (f : Frames). (f.frame).slots) c.in_ok-hold_host.ensures.frames ∙ ap (λ (f : Frames). (f.frame).slots) c.in_ok-number.ensures.frames in
    let starts = subst (λ (ws : List Word). Comes g.B.HostObject names {A = Word} (plain (start_host n (take c.args.count (drop c.args.at ws)))) c.hold_host.new.self (Err e) c.start.new.self) slots (c.in_err-start.ensures.started names) in
    comes_exit g.B.HostObject names (plain (hosts.construct_host c.args.kind args)) old c.start.new.self e c.from_residual-in_err-start.result c.from_residual-in_err-start.ensures.1 (construct_raises g.B.HostObject names c.args.kind args old c.draw.new.self n c.hold_host.new.self c.start.new.self (c.in_ok-number.ensures.drawn names) (c.in_ok-hold_host.ensures.held names) e starts)

pub returns-clause-constructed : goal.returns-clause-constructed
returns-clause-constructed g c = λ names.
    let old = c.args.self.now in
    let args = take c.args.count (drop c.args.at old.frames.frame.slots) in
    let n = c.in_ok-number.number in
    let slots = ap (λ (f : Frames). (f.frame).slots) c.in_ok-hold_host.ensures.frames ∙ ap (λ (f : Frames). (f.frame).slots) c.in_ok-number.ensures.frames in
    let starts = subst (λ (ws : List Word). Becomes g.B.HostObject names {A = Word} (plain (start_host n (take c.args.count (drop c.args.at ws)))) c.hold_host.new.self (give c.in_ok-start.field-0) c.start.new.self) slots (c.in_ok-start.ensures.started names) in
    construct_gives g.B.HostObject names c.args.kind args old c.draw.new.self n c.hold_host.new.self c.start.new.self (c.in_ok-number.ensures.drawn names) (c.in_ok-hold_host.ensures.held names) c.in_ok-start.field-0 starts

on_err : {A E : Type 0} (r : Result A E) (P : Type 0) → P → OnErr r P
on_err (Ok value) P p = tt
on_err (Err e) P p = p

pub returns-in_err-start-clause-ended : goal.returns-in_err-start-clause-ended
returns-in_err-start-clause-ended g c =
    let n = c.in_ok-number.number in
    on_err c.from_residual-in_err-start.result _ (n ∷ [], c.in_err-start.ensures.frames ∙ c.in_ok-hold_host.ensures.frames ∙ ap (holding (n ∷ [])) c.in_ok-number.ensures.frames)
