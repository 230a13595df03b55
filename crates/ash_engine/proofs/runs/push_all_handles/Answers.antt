use Rattle.std.proofs.Common.{◌++◌, ◌+◌, List, drop, ap, ◌∙◌}
use Rattle.ash_host.specs.Objects.{handles}
use Rattle.ash_requests.specs.States.{globals_of}
use Rattle.ash_plain_steps.specs.StateViews.{modules_seen}
use Rattle.ash_plain_steps.proofs.Handles.{more_handles}
use Rattle.ash_engine.proofs.runs.push_all_handles.Goals as goal

pub loop-m-preserved : goal.loop-m-preserved
loop-m-preserved c =
    let numbers = c.loop-m.numbers.items in
    let ms = c.args.modules.now in
    let i = c.loop-m.m-index in
    ap (λ (l : List _). l ++ handles (globals_of (modules_seen (drop (i + 1) ms))))
    (c.in_ok-push_handles.ensures.value ∙ ap (λ (l : List _). numbers ++ handles l) c.deref.ensures.value)
    ∙ more_handles numbers ms i c.m-item.result c.loop-m-test.true c.m-item.is
    ∙ c.loop-m.invariant
