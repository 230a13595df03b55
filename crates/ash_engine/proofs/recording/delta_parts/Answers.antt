use Rattle.std.proofs.Common.{List, refl, sym, ap, ◌∙◌, subst}
use Rattle.ash_image.specs.declared.version.Version.TheVariants.{Two}
use Rattle.ash_image.specs.Delta.{Delta, FitsDelta}
use Rattle.ash_plain_steps.specs.declared.state.LoadedModule.{LoadedModule}
use Rattle.ash_plain_steps.specs.StateViews.{modules_seen}
use Rattle.ash_states.specs.Indexes.{stored_modules_of}
use Rattle.ash_change_records.specs.ListedChanges.{change_listed}
use Rattle.ash_engine.specs.NamedChanges.{module_change_seen}
use Rattle.ash_engine.proofs.ListedParts.{parts_same, parts_fit}
use Rattle.ash_engine.proofs.recording.delta_parts.Goals as goal

pub returns-clause-same : goal.returns-clause-same
returns-clause-same g c rs =
    let l = c.args.live.now in
    let h = c.requires.listed in
    parts_same g.B.HostObject h.registered l h.live _ refl c.last.ensures.last h.same_services
    (c.change_parts.ensures.listed
    ∙ ap (λ (ms : List LoadedModule). change_listed (module_change_seen (modules_seen ms) l.changes.modules) (stored_modules_of (modules_seen ms))) c.deref.ensures.value)
    c.deref-2.ensures.value h.same_put rs

pub returns-clause-fits : goal.returns-clause-fits
returns-clause-fits g c =
    let h = c.requires.listed in
    subst (λ (d : Delta). FitsDelta Two d) (sym (returns-clause-same g c h.registered))
    (parts_fit g.B.HostObject h.registered c.args.live.now h.live c.args.put.now h.kinds h.same_put)
