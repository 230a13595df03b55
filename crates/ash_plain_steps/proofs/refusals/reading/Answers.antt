use Rattle.std.proofs.Common.{◌≡◌, List, map, Some, sym, ◌∙◌, ap}
use Rattle.std.specs.Prelude.{slice_get}
use Rattle.ash_typed.specs.Modules.{variables_of}
use Rattle.ash_requests.specs.Tasks.{TaskResult}
use Rattle.ash_plain_steps.specs.TaskViews.{word_among}
use Rattle.ash_plain_steps.proofs.Given.{place_in, got_item, read_nowhere, no_global_there, global_there}
use Rattle.ash_plain_steps.proofs.refusals.reading.Goals as goal

pub returns-in_default-clause-task : goal.returns-in_default-clause-task
returns-in_default-clause-task g c embedding known =
    read_nowhere embedding c.args.state.now c.args.module.now c.args.name.now
    (sym (c.in_default.ensures.value ∙ ap (λ (l : List _). place_in c.args.module.now l) c.deref.ensures.value))

pub returns-in-Some-word_named-clause-task : goal.returns-in-Some-word_named-clause-task
returns-in-Some-word_named-clause-task g c embedding known =
    let m = c.in-Some-get.loaded.now in
    let ms = c.args.state.now.modules.items in
    let got : slice_get ms c.in-Some.place ≡ Some m = ap (λ (l : List _). slice_get l c.in-Some.place) (sym c.deref-2.ensures.value) ∙ got_item c.deref-2.result.now c.in-Some.place m c.in-Some-get.ensures.lookup.3.0 c.in-Some-get.ensures.lookup.3.1 in
    ap (λ (r : TaskResult g.S.SourceReader.FaultSeen). Some r) (sym (global_there embedding c.args.state.now c.args.module.now c.args.name.now c.in-Some.place m c.in-Some-word_named.word known
    (sym (c.in-Some.ensures.value ∙ ap (λ (l : List _). place_in c.args.module.now l) c.deref.ensures.value)) got
    (c.in-Some-word_named.ensures.value ∙ (λ i. word_among c.args.name.now (map variables_of (c.deref-3.ensures.value i)) (c.deref-4.ensures.value i)))))

pub returns-in-None-clause-task : goal.returns-in-None-clause-task
returns-in-None-clause-task g c embedding known =
    let m = c.in-Some-get.loaded.now in
    let ms = c.args.state.now.modules.items in
    let got : slice_get ms c.in-Some.place ≡ Some m = ap (λ (l : List _). slice_get l c.in-Some.place) (sym c.deref-2.ensures.value) ∙ got_item c.deref-2.result.now c.in-Some.place m c.in-Some-get.ensures.lookup.3.0 c.in-Some-get.ensures.lookup.3.1 in
    no_global_there embedding c.args.state.now c.args.module.now c.args.name.now c.in-Some.place m known
    (sym (c.in-Some.ensures.value ∙ ap (λ (l : List _). place_in c.args.module.now l) c.deref.ensures.value)) got
    (c.in-None.ensures.value ∙ (λ i. word_among c.args.name.now (map variables_of (c.deref-3.ensures.value i)) (c.deref-4.ensures.value i)))
