use Rattle.std.proofs.lemmas.Result.{err_from_is_err_and}
use Rattle.ash_registry.specs.RegistryViews.{registered}
use Rattle.ash_tree.specs.TreeViews.{module_of as items_of}
use Rattle.ash_type_rules.proofs.SoundnessNesting.{derived_proper}
use Rattle.ash_sources.specs.CheckedSource.{items_checked, checked_source}
use Rattle.ash_sources.proofs.CheckedAnswers.{spelled_checked, source_refused}
use Rattle.ash_sources.proofs.Outcomes.{found_as, refused_as}
use Rattle.ash_sources.proofs.checking.checked_module.Goals as goal

pub check_module-requires : goal.check_module-requires
check_module-requires c = record { nested = derived_proper c.in_ok-script.ensures.spelled.derived }

pub returns-in_err-script-clause-refused : goal.returns-in_err-script-clause-refused
returns-in_err-script-clause-refused c =
    let p = err_from_is_err_and c.from_residual.result c.from_residual.ensures.1 in
    rw (p.1, p.2) (source_refused (registered c.args.registry.now) c.args.source.now _ c.in_err-script.ensures.refused)

pub returns-clause-found : goal.returns-clause-found
returns-clause-found c = found_as items_of (checked_source (registered c.args.registry.now) c.args.source.now)
    (items_checked (registered c.args.registry.now) (items_of c.in_ok-script.script))
    (spelled_checked (registered c.args.registry.now) c.args.source.now (items_of c.in_ok-script.script)
    c.in_ok-script.ensures.spelled) c.check_module.result c.check_module.ensures.found

pub returns-clause-refused : goal.returns-clause-refused
returns-clause-refused c = refused_as (checked_source (registered c.args.registry.now) c.args.source.now)
    (items_checked (registered c.args.registry.now) (items_of c.in_ok-script.script))
    (spelled_checked (registered c.args.registry.now) c.args.source.now (items_of c.in_ok-script.script)
    c.in_ok-script.ensures.spelled) c.check_module.result c.check_module.ensures.refused
