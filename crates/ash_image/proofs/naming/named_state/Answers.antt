use Rattle.std.proofs.Common.{◌∙◌, ap, refl, List}
use Rattle.ash_image.specs.Snapshots.{Loaded}
use Rattle.ash_image.specs.SnapshotViews.{objects_of, snapshot_of}
use Rattle.ash_image.specs.Leading.{objects_named, named}
use Rattle.ash_image.proofs.OneState.{one_named}
use Rattle.ash_image.proofs.naming.named_state.Goals as goal

pub returns-clause-named : goal.returns-clause-named
returns-clause-named c =
    one_named _ (named (snapshot_of c.args.state)) refl refl refl refl c.in_ok-modules.ensures.named
    (c.in_ok-objects.ensures.named
    ∙ ap (λ (ms : List Loaded). objects_named ms (objects_of c.args.state.objects.items)) c.in_ok-modules.ensures.named)
