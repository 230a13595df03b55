use Rattle.std.proofs.Common.{◌≡◌, ◌<◌, ◌∙◌, ℕ, [], subst, sym, ap}
use Rattle.ash_meaning.specs.Activity.{World, Activity}
use Rattle.ash_meaning.specs.Ends.{begun, outcome_of}
use Rattle.ash_run_steps.specs.RunStates.{Names, frame_shown}
use Rattle.ash_run_steps.specs.Stacks.{Frames}
use Rattle.ash_context.specs.Bounds.{bound, left_in}
use Rattle.ash_context.specs.Outcomes.{Compiles, Says, Takes}
use Rattle.ash_context.specs.Positions.{callers_of, control_of}
use Rattle.ash_context.proofs.Falling.{starts_within}
use Rattle.ash_context.specs.RanOut.{IsShort, RanOut}
use Rattle.ash_context.proofs.Meant.{ran_out, says}
use Rattle.ash_context.proofs.context.run_on.Goals as goal

pub run-ran-requires-clause-enough : goal.run-ran-requires-clause-enough
run-ran-requires-clause-enough g c =
    let code = c.args.code.now in
    let start = c.begin-state.result in
    let names : Names = record { modules = λ slot. []; functions = λ function. [] } in
    let ticks : start.ticks ≡ c.args.budget = ap (λ (a : Activity). a.ticks) (c.begin-state.ensures.begun names []) in
    let alone : (start.frames).callers ≡ [] = ap (λ (f : Frames). f.callers) c.begin-state.ensures.frames ∙ c.requires.first in
    let less = starts_within code c.facts.ensures.valid (control_of 0 start.frames)
    (ap (λ fs. callers_of ((start.frames).frame).back fs) alone) start.ticks in
    let most : bound code start.ticks ≡ c.bound.result
    = ap (λ (n : ℕ). bound code n) ticks ∙ sym c.bound.ensures.bound in
    subst (λ (n : ℕ). left_in code 0 start < n) most less

pub returns-clause-says : goal.returns-clause-says
returns-clause-says g c = λ s run same compiles.
    let G = g.B.HostObject in
    let code = c.args.code.now in
    let parts = c.args.parts in
    let begin = c.begin-state in
    let ran = c.run-ran in
    let frame = c.args.stack.frame in
    let first : World → Activity = λ world. begun world c.args.budget (frame_shown s.names frame) in
    let there : Compiles G s (control_of 0 (begin.result).frames) first run parts
    = subst (λ (f : Frames). Compiles G s (control_of 0 f) first run parts) (sym begin.ensures.frames) compiles in
    subst (λ (f : Frames). Says G s.names (λ world. outcome_of (run (first world)))
    (λ world. Takes s (control_of 0 f) (first world) ran.result.steps) parts c.finish.result.outcome
    c.finish.result.parts)
    begin.ensures.frames
    (says G s first run parts c.finish.result.parts begin.result ran.new.state begin.ensures.same begin.ensures.events
    (λ records. begin.ensures.begun s.names records) there ran.result.steps code same
    ran.result.end ran.ensures.ran c.finish.result.outcome c.finish.ensures.memory
    (λ left comes. c.finish.ensures.came s.names s.test left ran.new.state comes))

pub returns-clause-ran_out : goal.returns-clause-ran_out
returns-clause-ran_out g c = λ s run same compiles out.
    let G = g.B.HostObject in
    let code = c.args.code.now in
    let parts = c.args.parts in
    let begin = c.begin-state in
    let ran = c.run-ran in
    let frame = c.args.stack.frame in
    let first : World → Activity = λ world. begun world c.args.budget (frame_shown s.names frame) in
    let there : Compiles G s (control_of 0 (begin.result).frames) first run parts
    = subst (λ (f : Frames). Compiles G s (control_of 0 f) first run parts) (sym begin.ensures.frames) compiles in
    subst (λ (f : Frames). RanOut G s.names (λ world. IsShort s (control_of 0 f) (first world) ran.result.steps) parts)
    begin.ensures.frames
    (ran_out G s first run parts c.finish.result.parts begin.result ran.new.state begin.ensures.same begin.ensures.events
    (λ records. begin.ensures.begun s.names records) there ran.result.steps code same
    ran.result.end ran.ensures.ran)
