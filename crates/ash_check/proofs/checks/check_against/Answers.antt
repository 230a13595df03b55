use Rattle.std.proofs.Common.{◌≡◌, ◌∙◌, ℕ, length, IfOk, IfErr, OnOk, Some, None, Ok, Err, ap, sym, subst}
use Rattle.std.specs.declared.vec.Vec.{Vec}
use Rattle.std.specs.declared.alloc.Global.{Global}
use Rattle.ash_registrations.specs.declared.registrations.Registrations.{Registrations}
use Rattle.ash_registrations.specs.Registered.{registered}
use Rattle.ash_tree.specs.TreeViews.{module_of as written_module}
use Rattle.ash_typed.specs.Modules.{module_of}
use Rattle.ash_class_cycles.specs.declared.cycles.Cycle.{Cycle}
use Rattle.ash_class_cycles.specs.ClassReferences.{DeclaredClassRefers, classes_of}
use Rattle.ash_class_cycles.specs.ReportedCycle.{reported_cycle}
use Rattle.ash_class_cycles.specs.Paths.{IsReportedCycle, AreRanksAlong}
use Rattle.ash_check.specs.CheckedModules.{IsChecked}
use Rattle.ash_check.specs.ScriptFaults.{Cyclic, script_error}
use Rattle.ash_check.specs.Checks.{checked, IsNamedCycle}
use Rattle.ash_check.proofs.CheckedLaws.{is_checked}
use Rattle.ash_check.proofs.CheckLaws.{error_is_reported, reported_if_err, typed_is_checked, cycle_is_reported}
use Rattle.ash_check.proofs.CheckLaws.{path_begins_within, path_is_within, named_cycle}
use Rattle.ash_type_rules.proofs.ModuleLaws.{check_module-exact}
use Rattle.ash_check.proofs.checks.check_against.Goals as goal

pub returns-in_err-module-clause-answer : goal.returns-in_err-module-clause-answer
returns-in_err-module-clause-answer c =
    let answer = checked (registered c.args.registry.now) (written_module c.args.script.now) in
    reported_if_err c.from_residual.result (script_error c.in_err-module.field-0.0) answer (λ done. answer ≡ Ok (module_of done.typed)) c.from_residual.ensures.1 (error_is_reported (registered c.args.registry.now) (written_module c.args.script.now) c.in_err-module.field-0.0 c.in_err-module.ensures.agrees)

pub cycle_names-requires-clause-first : goal.cycle_names-requires-clause-first
cycle_names-requires-clause-first c =
    let classes = classes_of (written_module c.args.script.now) in
    let reported : IsReportedCycle (DeclaredClassRefers classes) c.in-Err.cycle.first c.in-Err.cycle.others.items = subst (λ r. IfErr r (λ (cycle : Cycle). IsReportedCycle (DeclaredClassRefers classes) cycle.first cycle.others.items)) c.in-Err.is c.in_ok-ranks.ensures.cycle in
    path_begins_within classes c.in-Err.cycle.first c.in-Err.cycle.others.items c.in-Err.cycle.first reported.cycle.path

pub cycle_names-requires-clause-others : goal.cycle_names-requires-clause-others
cycle_names-requires-clause-others c =
    let classes = classes_of (written_module c.args.script.now) in
    let reported : IsReportedCycle (DeclaredClassRefers classes) c.in-Err.cycle.first c.in-Err.cycle.others.items = subst (λ r. IfErr r (λ (cycle : Cycle). IsReportedCycle (DeclaredClassRefers classes) cycle.first cycle.others.items)) c.in-Err.is c.in_ok-ranks.ensures.cycle in
    path_is_within classes c.in-Err.cycle.first c.in-Err.cycle.others.items c.in-Err.cycle.first reported.cycle.path

pub returns-in-Ok-clause-answer : goal.returns-in-Ok-clause-answer
returns-in-Ok-clause-answer c =
    let items = written_module c.args.script.now in
    let none : reported_cycle (classes_of items) ≡ None = subst (λ r. OnOk r (reported_cycle (classes_of items) ≡ None)) c.in-Ok.is c.in_ok-ranks.ensures.none in
    typed_is_checked (registered c.args.registry.now) items (module_of c.in_ok-module.module) c.in_ok-module.ensures.agrees none

pub returns-in_ok-names-in-Err-clause-answer :
    goal.returns-in_ok-names-in-Err-clause-answer
returns-in_ok-names-in-Err-clause-answer c =
    let items = written_module c.args.script.now in
    let first : ℕ = c.in-Err.cycle.first in
    let others = c.in-Err.cycle.others.items in
    let some : reported_cycle (classes_of items) ≡ Some (first, others) = subst (λ r. IfErr r (λ (cycle : Cycle). reported_cycle (classes_of items) ≡ Some (cycle.first, cycle.others.items))) c.in-Err.is c.in_ok-ranks.ensures.reported in
    cycle_is_reported (registered c.args.registry.now) items (module_of c.in_ok-module.module) first others c.in_ok-module.ensures.agrees some ∙ ap (λ names. Err (Cyclic names)) (sym c.in_ok-names-in-Err.ensures.value)

pub returns-in_ok-names-in-Err-clause-cycle :
    goal.returns-in_ok-names-in-Err-clause-cycle
returns-in_ok-names-in-Err-clause-cycle c =
    let classes = classes_of (written_module c.args.script.now) in
    let reported : IsReportedCycle (DeclaredClassRefers classes) c.in-Err.cycle.first c.in-Err.cycle.others.items = subst (λ r. IfErr r (λ (cycle : Cycle). IsReportedCycle (DeclaredClassRefers classes) cycle.first cycle.others.items)) c.in-Err.is c.in_ok-ranks.ensures.cycle in
    subst (IsNamedCycle classes) (sym c.in_ok-names-in-Err.ensures.value) (named_cycle classes c.in-Err.cycle.first c.in-Err.cycle.others.items reported.cycle.path)

pub returns-in-Ok-clause-typed : goal.returns-in-Ok-clause-typed
returns-in-Ok-clause-typed c = (check_module-exact (registered c.args.registry.now) (written_module c.args.script.now) (module_of c.in_ok-module.module)).0 c.in_ok-module.ensures.agrees

pub returns-in-Ok-clause-sound : goal.returns-in-Ok-clause-sound
returns-in-Ok-clause-sound c =
    let items = written_module c.args.script.now in
    let are = subst (λ r. IfOk r (λ (ranks : Vec ℕ Global). AreRanksAlong (DeclaredClassRefers (classes_of items)) (length (classes_of items)) ranks.items)) c.in-Ok.is c.in_ok-ranks.ensures.ranks in
    is_checked (registered c.args.registry.now) items (module_of c.in_ok-module.module) c.in-Ok.ranks.items c.requires.nested c.in_ok-module.ensures.agrees are

pub invariant_of-result : goal.invariant_of-result
invariant_of-result c =
    let items = written_module c.args.script.now in
    let are = subst (λ r. IfOk r (λ (ranks : Vec ℕ Global). AreRanksAlong (DeclaredClassRefers (classes_of items)) (length (classes_of items)) ranks.items)) c.in-Ok.is c.in_ok-ranks.ensures.ranks in
    subst (λ (r : Registrations). IsChecked (registered r) (module_of c.in_ok-module.module) c.in-Ok.ranks.items) (sym c.of.ensures) (is_checked (registered c.args.registry.now) items (module_of c.in_ok-module.module) c.in-Ok.ranks.items c.requires.nested c.in_ok-module.ensures.agrees are)
