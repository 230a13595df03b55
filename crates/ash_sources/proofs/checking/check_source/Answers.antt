use Rattle.std.proofs.lemmas.Result.{err_from_is_err_and}
use Rattle.ash_registry.specs.RegistryViews.{registered}
use Rattle.ash_tree.specs.TreeViews.{module_of as items_of}
use Rattle.ash_sources.proofs.CheckedAnswers.{found_accepted, accepted_only, cycle_reported, cycle_not_found}
use Rattle.ash_sources.proofs.CheckedAnswers.{cycle_only}
use Rattle.ash_sources.proofs.checking.check_source.Goals as goal

pub returns-clause-accepted : goal.returns-clause-accepted
returns-clause-accepted c = found_accepted (registered c.args.registry.now) c.args.source.now
    (items_of c.in_ok-checked_module.field-0) c.in_ok-checked_module.ensures.found

pub returns-clause-cyclic : goal.returns-clause-cyclic
returns-clause-cyclic c = cycle_not_found (registered c.args.registry.now) c.args.source.now
    (items_of c.in_ok-checked_module.field-0) c.in_ok-checked_module.ensures.found

pub returns-in_err-checked_module-clause-only : goal.returns-in_err-checked_module-clause-only
returns-in_err-checked_module-clause-only c =
    let p = err_from_is_err_and c.from_residual.result c.from_residual.ensures.1 in
    rw (p.1, p.2) (accepted_only (registered c.args.registry.now) c.args.source.now _
    c.in_err-checked_module.ensures.refused)

pub returns-in_err-checked_module-clause-cycle : goal.returns-in_err-checked_module-clause-cycle
returns-in_err-checked_module-clause-cycle c =
    let p = err_from_is_err_and c.from_residual.result c.from_residual.ensures.1 in
    rw (p.1, p.2) (cycle_reported (registered c.args.registry.now) c.args.source.now _
    c.in_err-checked_module.ensures.refused)

pub returns-in_err-checked_module-clause-cyclic : goal.returns-in_err-checked_module-clause-cyclic
returns-in_err-checked_module-clause-cyclic c =
    let p = err_from_is_err_and c.from_residual.result c.from_residual.ensures.1 in
    rw (p.1, p.2) (cycle_only (registered c.args.registry.now) c.args.source.now _
    c.in_err-checked_module.ensures.refused)
