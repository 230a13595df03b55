use Rattle.std.proofs.lemmas.Result.{err_from_is_err_and}
use Rattle.ash_tree.specs.TreeViews.{module_of as items_of}
use Rattle.ash_typed.specs.Modules.{module_of}
use Rattle.ash_type_rules.proofs.SoundnessNesting.{derived_proper}
use Rattle.ash_sources.specs.Sources.{registered_for}
use Rattle.ash_sources.proofs.SourceLaws.{source_unread, sound_if}
use Rattle.ash_sources.proofs.TypedSourceLaws.{typed_where_spelled}
use Rattle.ash_sources.proofs.Outcomes.{found_as, refused_as}
use Rattle.ash_sources.proofs.sources.Sources.read_tree.Goals as goal

pub type_script-requires : goal.type_script-requires
type_script-requires c = record { nested = derived_proper c.in_ok-script.ensures.spelled.derived }

pub returns-in_err-script-clause-refused : goal.returns-in_err-script-clause-refused
returns-in_err-script-clause-refused c =
    let p = err_from_is_err_and c.from_residual.result c.from_residual.ensures.1 in
    rw (p.1, p.2) (source_unread (registered_for c.args.self.now) c.args.source.now _ c.in_err-script.ensures.refused)

pub returns-clause-found : goal.returns-clause-found
returns-clause-found c = found_as module_of _ _
    (typed_where_spelled (registered_for c.args.self.now) c.args.source.now (items_of c.in_ok-script.script)
    c.in_ok-script.ensures.spelled) c.type_script.result c.type_script.ensures.found

pub returns-clause-sound : goal.returns-clause-sound
returns-clause-sound c = sound_if (registered_for c.args.self.now) c.args.source.now c.type_script.result
    (found_as module_of _ _
    (typed_where_spelled (registered_for c.args.self.now) c.args.source.now (items_of c.in_ok-script.script)
    c.in_ok-script.ensures.spelled) c.type_script.result c.type_script.ensures.found)

pub returns-clause-refused : goal.returns-clause-refused
returns-clause-refused c = refused_as _ _
    (typed_where_spelled (registered_for c.args.self.now) c.args.source.now (items_of c.in_ok-script.script)
    c.in_ok-script.ensures.spelled) c.type_script.result c.type_script.ensures.refused
