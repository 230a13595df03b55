use Rattle.std.proofs.Common.{List, ap, ◌∙◌}
use Rattle.std.proofs.lemmas.Option.{get_or_from_slice_get}
use Rattle.ash_plain_steps.specs.declared.state.LoadedModule.{LoadedModule}
use Rattle.ash_engine.proofs.runs.held_before.Goals as goal

pub returns-clause-globals : goal.returns-clause-globals
returns-clause-globals c = λ m at.
    let ms : List LoadedModule = c.args.modules.now in
    let found : LoadedModule = c.index-modules-place.result in
    c.in_ok-globals.ensures.items ∙ c.deref.ensures.value
    ∙ ap (λ (x : LoadedModule). x.globals.items) (get_or_from_slice_get ms c.args.place m found at)
