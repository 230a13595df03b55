use Rattle.std.proofs.Common.{List, ap, ◌∙◌, slice_get}
use Rattle.ash_plain_steps.specs.declared.state.LoadedModule.{LoadedModule}
use Rattle.ash_engine.proofs.InsertedModules.{got_inserted}
use Rattle.ash_engine.proofs.loading.keep.Goals as goal

pub returns-clause-there : goal.returns-clause-there
returns-clause-there g c =
    let m : LoadedModule = record c.args.new_module { globals = c.args.parts.globals } in
    ap (λ (l : List LoadedModule). slice_get l c.in_ok-place.place) c.in_ok-place.ensures.at_a_place.0
    ∙ got_inserted c.args.rest.loaded.modules.items c.in_ok-place.place m c.in_ok-place.ensures.within
