use Rattle.std.proofs.Common.{List, ◌∙◌, ap, sym, subst}
use Rattle.std.specs.List.{find}
use Rattle.ash_meaning.specs.Ends.{Finished}
use Rattle.ash_plain_world.specs.ActivityViews.{world_seen}
use Rattle.ash_requests.specs.States.{LoadedModule, has_name, with_module}
use Rattle.ash_requests.specs.Steps.{answered}
use Rattle.ash_plain_steps.specs.declared.state.LoadedModule as code_module
use Rattle.ash_plain_steps.specs.StateViews.{modules_seen}
use Rattle.ash_plain_steps.specs.Consistency.{AreConsistent, IsReadFromSource}
use Rattle.ash_plain_steps.proofs.Changed.{consistent_insert}
use Rattle.ash_plain_steps.proofs.runs.keep.Goals as goal

pub returns-clause-stepped : goal.returns-clause-stepped
returns-clause-stepped g c old e is =
    c.answered.ensures.stepped old e
    ∙ ap (λ (l : List LoadedModule). answered {Fault = g.S.SourceReader.FaultSeen} (Finished c.args.value) l (world_seen c.args.world) old)
    (c.in_ok-insert.ensures.by_name
    ∙ (λ i. with_module (record { name = c.in_ok-from_str.ensures.ok i; source = c.in_ok-from_slice.ensures.items i; globals = (c.replace.ensures.value i).items }) (sym is i)))

pub returns-clause-consistent : goal.returns-clause-consistent
returns-clause-consistent g c embedding old same known loadable =
    let loaded : code_module.LoadedModule = record { name = c.in_ok-from_str.field-0; source = c.in_ok-from_slice.field-0; tree = c.args.new.tree; globals = c.replace.result } in
    let before : AreConsistent embedding c.args.rest.modules.items = subst (λ (v : _). AreConsistent embedding v.items) same known in
    let read : IsReadFromSource embedding loaded = ap embedding.read c.in_ok-from_slice.ensures.items ∙ loadable.read in
    let absent = (λ i. find (has_name (c.in_ok-from_str.ensures.ok i)) (modules_seen (sym same i).items)) ∙ loadable.absent in
    subst (λ (v : _). AreConsistent embedding v.items) (sym c.answered.ensures.modules)
    (consistent_insert embedding loaded c.args.rest.modules.items c.insert.new.modules.items before read absent c.in_ok-insert.ensures.by_name c.in_ok-insert.ensures.at_a_place)
