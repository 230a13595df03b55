use Rattle.std.proofs.lemmas.Result.{IfOk-weaker}
use Rattle.ash_registry.specs.RegistryViews.{registered}
use Rattle.ash_states.specs.HostStates.{HostState}
use Rattle.ash_states.proofs.Depicted.{image_by_parts}
use Rattle.ash_table_states.specs.WrittenStates.{state_in}
use Rattle.ash_table_states.proofs.writing.image_by.Goals as goal

pub returns-clause-image : goal.returns-clause-image
returns-clause-image g c =
    let s : HostState = state_in g.B.HostObject (registered c.args.registry.now) c.args.state.now in
    IfOk-weaker c.write_image.result _ _
    (λ image written. image_by_parts s c.requires.writable.admitted _ c.state_parts.ensures.same
    c.state_parts.ensures.fits image.items written) c.write_image.ensures.written
