use Rattle.std.proofs.Common.{ℕ, sym, subst}
use Rattle.ash_registry.specs.RegistryViews.{registered}
use Rattle.ash_image.specs.Image.{FitsVersion}
use Rattle.ash_image.specs.Snapshots.{Snapshot}
use Rattle.ash_image.specs.SnapshotViews.{services_in, modules_in, objects_in}
use Rattle.ash_image.specs.declared.version.Version.TheVariants.{Two}
use Rattle.ash_states.specs.HostStates.{HostState}
use Rattle.ash_states.proofs.Depicted.{parts_fit}
use Rattle.ash_table_states.specs.WrittenStates.{state_in}
use Rattle.ash_table_states.proofs.writing.state_parts.Goals as goal

pub returns-clause-fits : goal.returns-clause-fits
returns-clause-fits g c =
    let s : HostState = state_in g.B.HostObject (registered c.args.registry.now) c.args.state.now in
    subst (λ (n : ℕ). let t : Snapshot = record { registered = c.text.result.now; seq = c.args.state.now.seq; last = n; services = services_in c.args.services.now; modules = modules_in c.args.modules.now; objects = objects_in c.args.objects.now } in FitsVersion Two t)
    (sym c.requires.writable.last)
    (parts_fit s c.requires.writable.admitted c.args.services.now c.args.modules.now c.args.objects.now
    c.requires.listed c.text.result.now c.text.ensures.lines c.text.utf8 c.text.ensures.short)
