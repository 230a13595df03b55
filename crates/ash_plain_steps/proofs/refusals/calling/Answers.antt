use Rattle.std.proofs.Common.{◌≡◌, List, Some, Ok, sym, ◌∙◌, ap, subst, arith}
use Rattle.std.specs.Prelude.{slice_get, option_map}
use Rattle.std.proofs.lemmas.Result.{err_from_is_err_and}
use Rattle.ash_typed.specs.Modules.{module_of}
use Rattle.ash_requests.specs.Tasks.{Task, TaskResult, Invoke}
use Rattle.ash_plain_steps.specs.declared.state.LoadedModule.{LoadedModule}
use Rattle.ash_plain_steps.specs.StateViews.{loaded_seen}
use Rattle.ash_plain_steps.specs.TaskViews.{RefusesAs}
use Rattle.ash_plain_steps.proofs.Given.{place_in, got_item, call_nowhere, call_there}
use Rattle.ash_plain_steps.proofs.refusals.calling.Goals as goal

pub returns-in_default-clause-task : goal.returns-in_default-clause-task
returns-in_default-clause-task g c embedding known =
    call_nowhere embedding c.args.state.now c.args.module.now c.args.function.now c.args.arguments.now (omega (arith, c.if-state-ge-MAX_SEQ.false))
    (sym (c.in_default.ensures.value ∙ ap (λ (l : List _). place_in c.args.module.now l) c.deref.ensures.value))

pub returns-clause-task : goal.returns-clause-task
returns-clause-task g c embedding known =
    let m = c.in-Some-get.loaded.now in
    let ms = c.args.state.now.modules.items in
    let got : slice_get ms c.in-Some.module ≡ Some m = ap (λ (l : List _). slice_get l c.in-Some.module) (sym c.deref-2.ensures.value) ∙ got_item c.deref-2.result.now c.in-Some.module m c.in-Some-get.ensures.lookup.3.0 c.in-Some-get.ensures.lookup.3.1 in
    let is = call_there embedding c.args.state.now c.args.module.now c.args.function.now c.args.arguments.now c.in-Some.module m (omega (arith, c.if-state-ge-MAX_SEQ.false)) known
    (sym (c.in-Some.ensures.value ∙ ap (λ (l : List _). place_in c.args.module.now l) c.deref.ensures.value)) got in
    ap (λ (o : _). option_map (λ (one : Task). let r : TaskResult g.S.SourceReader.FaultSeen = Ok one in r) (option_map (λ (m : LoadedModule). Invoke (loaded_seen m) (module_of m.tree) c.in_ok-function.function c.in_ok-function.args.items) o)) got
    ∙ ap (λ (r : TaskResult g.S.SourceReader.FaultSeen). Some r) (sym (is ∙ c.in_ok-function.ensures.outcome (loaded_seen m)))

pub returns-in_err-function-clause-task : goal.returns-in_err-function-clause-task
returns-in_err-function-clause-task g c embedding known =
    let m = c.in-Some-get.loaded.now in
    let ms = c.args.state.now.modules.items in
    let got : slice_get ms c.in-Some.module ≡ Some m = ap (λ (l : List _). slice_get l c.in-Some.module) (sym c.deref-2.ensures.value) ∙ got_item c.deref-2.result.now c.in-Some.module m c.in-Some-get.ensures.lookup.3.0 c.in-Some-get.ensures.lookup.3.1 in
    let is = call_there embedding c.args.state.now c.args.module.now c.args.function.now c.args.arguments.now c.in-Some.module m (omega (arith, c.if-state-ge-MAX_SEQ.false)) known
    (sym (c.in-Some.ensures.value ∙ ap (λ (l : List _). place_in c.args.module.now l) c.deref.ensures.value)) got in
    let p = err_from_is_err_and c.from_residual.result c.from_residual.ensures.1 in
    rw (p.1, p.2) (subst (λ (r : TaskResult g.S.SourceReader.FaultSeen). RefusesAs g.S.SourceReader.fault_seen g.S.SourceReader.TakesMemory c.in_err-function.field-0.0 r) (sym is) (c.in_err-function.ensures.outcome (loaded_seen m)))
