use Rattle.std.proofs.lemmas.Result.{err_from_is_err_and}
use Rattle.ash_registry.specs.RegistryViews.{registered}
use Rattle.ash_tree.specs.TreeViews.{module_of as items_of}
use Rattle.ash_sources.proofs.TypedSourceLaws.{items_untyped}
use Rattle.ash_sources.proofs.typing.type_script.Goals as goal

pub returns-in_err-check-clause-refused : goal.returns-in_err-check-clause-refused
returns-in_err-check-clause-refused c =
    let p = err_from_is_err_and c.from_residual.result c.from_residual.ensures.1 in
    rw (p.1, p.2) (items_untyped (registered c.args.registry.now) (items_of c.args.script.now) _
    c.in_err-check.ensures.answer)
