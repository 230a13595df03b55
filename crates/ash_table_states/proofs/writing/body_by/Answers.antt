use Rattle.std.proofs.Common.{refl}
use Rattle.std.proofs.lemmas.Result.{IfOk-weaker}
use Rattle.ash_registry.specs.RegistryViews.{registered}
use Rattle.ash_image.specs.Image.{image_of}
use Rattle.ash_image.specs.SnapshotViews.{snapshot_in}
use Rattle.ash_states.specs.HostStates.{HostState}
use Rattle.ash_states.proofs.Depicted.{image_by_parts}
use Rattle.ash_table_states.specs.WrittenStates.{state_in}
use Rattle.ash_table_states.proofs.writing.body_by.Goals as goal

pub returns-clause-body : goal.returns-clause-body
returns-clause-body g c =
    let s : HostState = state_in g.B.HostObject (registered c.args.registry.now) c.args.state.now in
    IfOk-weaker c.write_body.result _ _
    (λ body written. (
      image_of (snapshot_in c.state_parts.result),
      written,
      image_by_parts s c.requires.writable.admitted _ c.state_parts.ensures.same c.state_parts.ensures.fits
          (image_of (snapshot_in c.state_parts.result)) refl,
    )) c.write_body.ensures.written
